use Rattle.std.proofs.Common.{◌≡◌, ℕ, ◌-◌, List, [], ◌++◌, length, take, drop, sym, ap, ◌∙◌, append_assoc, append-nil, take-append-drop}
use Rattle.std.proofs.lemmas.List.{take_rest}
use Rattle.std.proofs.KnownBytes.{Appends-trans}
use Rattle.fuse_text.proofs.Writes.{OnErr-always, some_of}
use Rattle.fuse_text.proofs.output.write_rest.Goals as goal

moves_front : (all done rest : List ℕ) (n : ℕ) → all ≡ done ++ rest
    → all ≡ (done ++ take n rest) ++ take (length rest - n) (drop n rest)
moves_front all done rest n e =
    e ∙ ap (λ l. done ++ l) (sym (take-append-drop n rest)) ∙ sym (append_assoc done (take n rest) (drop n rest)) ∙ ap
    (λ l. (done ++ take n rest) ++ l) (sym (take_rest rest n))

pub loop-rest-preserved : goal.loop-rest-preserved
loop-rest-preserved g c =
    let (done, split, appended) = c.loop-rest.invariant in
    let rest = c.loop-rest.rest.now in
    let n = c.in_ok-count.count in
    (done ++ take n rest, moves_front _ done rest n split, Appends-trans _ _ _ _ _ appended c.in_ok-count.ensures.ok)

pub returns-in_err-count-clause-refused : goal.returns-in_err-count-clause-refused
returns-in_err-count-clause-refused g c =
    let (done, split, appended) = c.loop-rest.invariant in
    OnErr-always _ c.from_residual.result
    (some_of _ _ _ (done ++ []) c.loop-rest.rest.now
    (split ∙ ap (λ (l : List ℕ). l ++ c.loop-rest.rest.now) (sym (append-nil done)))
    (Appends-trans _ _ _ _ _ appended c.in_err-count.ensures.refused))

pub returns-then-count-eq0-clause-refused : goal.returns-then-count-eq0-clause-refused
returns-then-count-eq0-clause-refused g c =
    let (done, split, appended) = c.loop-rest.invariant in
    let rest = c.loop-rest.rest.now in
    let n = c.in_ok-count.count in
    some_of _ _ _ (done ++ take n rest) _ (moves_front _ done rest n split)
    (Appends-trans _ _ _ _ _ appended c.in_ok-count.ensures.ok)
