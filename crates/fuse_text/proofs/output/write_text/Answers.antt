use Rattle.std.proofs.Common.{◌≡◌, ℕ, ◌-◌, List, ◌++◌, length, take, drop, sym, ap, ◌∙◌, take-append-drop}
use Rattle.std.proofs.lemmas.List.{take_rest}
use Rattle.fuse_text.proofs.Writes.{refused_then, some_of}
use Rattle.fuse_text.proofs.output.write_text.Goals as goal

parts_of : (text : List ℕ) (n : ℕ) → text ≡ take n text ++ take (length text - n) (drop n text)
parts_of text n = sym (take-append-drop n text) ∙ ap (λ (l : List ℕ). take n text ++ l) (sym (take_rest text n))

pub returns-clause-refused : goal.returns-clause-refused
returns-clause-refused g c =
    refused_then c.write_rest.result _ _ _ _ _ _ (parts_of c.args.text.now c.in_ok-count.count) c.in_ok-count.ensures.ok
    c.write_rest.ensures.refused

pub returns-then-count-eq0-clause-refused : goal.returns-then-count-eq0-clause-refused
returns-then-count-eq0-clause-refused g c =
    some_of _ _ _ _ _ (parts_of c.args.text.now c.in_ok-count.count) c.in_ok-count.ensures.ok
