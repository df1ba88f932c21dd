use Rattle.std.proofs.Common.{◌≡◌, ◌∙◌, ap, sym, true}
use Rattle.std.specs.List.{join_with_byte}
use Rattle.std.proofs.lemmas.Bool.Decides.{Decides-eqb}
use Rattle.std.proofs.lemmas.Slice.Eq.{slice_eq-Decides}
use Rattle.fuse_text.specs.Lines.{lines_of}
use Rattle.fw_expand.specs.Expanding.{is_of_calls}
use Rattle.fw_expand.specs.Scripts.{expandable_script}
use Rattle.fw_expand.proofs.Texts.{is_other, is_script, lines_of_expandable}
use Rattle.fw_expand.proofs.script.expandable_script.Goals as goal

pub returns-then-eq : goal.returns-then-eq
returns-then-eq g c =
    let made : c.in_ok-text.text.items
    ≡ join_with_byte 10 (expandable_script (is_of_calls c.args.form) c.args.script.now) =
    rw (← c.is_of_calls.ensures) c.in_ok-text.ensures in
    let same = slice_eq-Decides Decides-eqb c.as_slice.result.now c.args.script.now c.eq.result c.eq.ensures in
    is_script (is_of_calls c.args.form) c.args.script.now c.in_ok-text.text.items made
    (sym c.as_slice.ensures.value ∙ same.0 c.if-eq.true)

pub returns-else-eq : goal.returns-else-eq
returns-else-eq g c =
    let made : c.in_ok-text.text.items
    ≡ join_with_byte 10 (expandable_script (is_of_calls c.args.form) c.args.script.now) =
    rw (← c.is_of_calls.ensures) c.in_ok-text.ensures in
    let same = slice_eq-Decides Decides-eqb c.as_slice.result.now c.args.script.now c.eq.result c.eq.ensures in (
      ap lines_of made ∙ lines_of_expandable (is_of_calls c.args.form) c.args.script.now,
      is_other (is_of_calls c.args.form) c.args.script.now c.in_ok-text.text.items made
          (λ is. let yes : c.eq.result ≡ true = same.1 (c.as_slice.ensures.value ∙ is) in
          let no = c.if-eq.false in (cc)),
    )
