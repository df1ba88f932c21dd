use Rattle.std.proofs.Common.{◌∙◌, ℕ, Bool, List, Option, ap, sym, subst, codes}
use Rattle.std.specs.Prelude.{option_copied, option_map}
use Rattle.fuse_text.specs.Words.{words_left}
use Rattle.fw_json.specs.Events.{list_key_of}
use Rattle.fw_json.specs.Fields.{fields}
use Rattle.fw_json.specs.Objects.{event_object, head, object, words_object}
use Rattle.fw_json.specs.Putting.{PutsIf}
use Rattle.fw_json.specs.declared.event.Event.{Event}
use Rattle.fw_json.specs.declared.key.Key.{Key}
use Rattle.fw_json.proofs.Putting.{put_around}
use Rattle.fw_json.proofs.object.put_event.Goals as goal

pub returns : goal.returns
returns g c =
    let word = c.split_at.result.0.now in
    let words = words_left (option_copied c.split_at.result.1) in
    let given = fields c.keys.result.now c.list_key.result words in
    let whole : List ℕ → List ℕ = λ f. object c.args.is_first word f in
    let put = subst (λ (b : Bool). PutsIf c.put_head.new.text.items c.put_fields.new.text.items given b)
    c.if-not-branch.false c.in_ok-put_fields.ensures in
    let around = put_around c.args.text.now.items c.put_head.new.text.items c.put_fields.new.text.items
    c.put.new.text.items (head c.args.is_first word) (codes "}\n") given c.in_ok-put_head.ensures put c.in_ok-put.ensures in (
      around.0,
      ap (event_object c.args.is_first) c.split_at.ensures
          ∙ ap (λ (e : Option Event). words_object c.args.is_first word e words) (sym c.of.ensures ∙ c.in-Some.is)
          ∙ ap (λ (ks : List Key). option_map whole (fields ks (list_key_of c.in-Some.event) words)) (sym c.keys.ensures)
          ∙ ap (λ (k : Option Key). option_map whole (fields c.keys.result.now k words)) (sym c.list_key.ensures)
          ∙ around.1,
      around.2,
    )
