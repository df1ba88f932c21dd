use Rattle.std.proofs.Common.{rules, ◌≡◌, ◌++◌, ◌∙◌, ℕ, List, codes, decimal, map, refl, sym, ap, subst, OnErr, OnOk}
use Rattle.fk_syscalls.specs.Listings.{listed_dirent}
use Rattle.fuse_spec.specs.Files.Operations.{Dirent}
use Rattle.fw_script.specs.Chunks.{AppendsBut}
use Rattle.fuse_text.specs.Outputs.{AppendsSome}
use Rattle.fw_script.specs.Records.{kind_word, listed_words, shown_byte}
use Rattle.fw_script.proofs.Names.{map_kept}
use Rattle.fw_script.proofs.AnswerParts.{listed_parts}
use Rattle.fw_script.proofs.records.put_listed.Goals as goal

-- a name that is shown as it is
parts : (d : Dirent) → map shown_byte d.name ≡ d.name
    → listed_words d ≡ codes " " ++ (d.name ++ (codes ":" ++ decimal d.offset ++ codes ":" ++ kind_word d.kind))
parts d kept = listed_parts (map shown_byte d.name) (decimal d.offset) (kind_word d.kind)
    ∙ ap (λ (name : List ℕ). codes " " ++ (name ++ (codes ":" ++ decimal d.offset ++ codes ":" ++ kind_word d.kind))) kept

pub returns-clause-ok : goal.returns-clause-ok
returns-clause-ok g c =
    let name = c.args.listed.now.name.now in
    let kept = map_kept shown_byte name (c.if-not-is_shown_as_is.ensures.0 refl) in
    let text : c.bytes.result.now ≡ codes " " ++ (name ++ (codes ":" ++ decimal c.args.listed.now.offset ++ codes ":"
    ++ kind_word c.args.listed.now.kind)) = search rules in
    subst (λ (b : List ℕ). OnOk c.put_last.result (AppendsBut (g.W.Write.contents c.args.out.now)
    (g.W.Write.contents c.put_last.new.out) (c.args.chunk.now ++ b) c.put_last.new.chunk))
    (text ∙ sym (parts (listed_dirent c.args.listed.now) kept)) c.put_last.ensures.ok

pub returns-clause-refused : goal.returns-clause-refused
returns-clause-refused g c =
    let name = c.args.listed.now.name.now in
    let kept = map_kept shown_byte name (c.if-not-is_shown_as_is.ensures.0 refl) in
    let text : c.bytes.result.now ≡ codes " " ++ (name ++ (codes ":" ++ decimal c.args.listed.now.offset ++ codes ":"
    ++ kind_word c.args.listed.now.kind)) = search rules in
    subst (λ (b : List ℕ). OnErr c.put_last.result (AppendsSome (g.W.Write.contents c.args.out.now)
    (g.W.Write.contents c.put_last.new.out) (c.args.chunk.now ++ b)))
    (text ∙ sym (parts (listed_dirent c.args.listed.now) kept)) c.put_last.ensures.refused
