use Rattle.std.proofs.Common.{◌≡◌, ℕ, ◌-◌, List, [], ◌++◌, length, take, drop, refl, sym, ap, ◌∙◌, append_assoc, take-append-drop}
use Rattle.std.proofs.lemmas.List.{take_rest, take_at, append-nil}
use Rattle.std.specs.Prelude.{Result, Ok, Err, OnErr}
use Rattle.std.proofs.KnownBytes.{Appends-trans}
use Rattle.std.specs.Io.KnownBytes.{Appends}
use Rattle.fuse_device.proofs.stream.write_frame.Goals as goal

moves_front : (all done rest : List ℕ) (n : ℕ) → all ≡ done ++ rest
    → all ≡ (done ++ take n rest) ++ take (length rest - n) (drop n rest)
moves_front all done rest n e =
    e ∙ ap (λ l. done ++ l) (sym (take-append-drop n rest)) ∙ sym (append_assoc done (take n rest) (drop n rest)) ∙ ap
    (λ l. (done ++ take n rest) ++ l) (sym (take_rest rest n))

on_err : {T E P : Type 0} (r : Result T E) → P → OnErr r P
on_err (Ok _) p = tt
on_err (Err _) p = p

-- what is done is a beginning of all
is_front : (all done rest : List ℕ) → all ≡ done ++ rest → done ++ [] ≡ take (length done) all
is_front all done rest e = append-nil done ∙ sym (ap (take (length done)) e ∙ take_at done rest (length done) refl)

pub loop-rest-preserved : goal.loop-rest-preserved
loop-rest-preserved g c =
    let (done, split, appended) = c.loop-rest.invariant in
    let rest = c.loop-rest.rest.now in
    let n = c.in_ok-count.count in
    (done ++ take n rest, moves_front _ done rest n split, Appends-trans _ _ _ _ _ appended c.in_ok-count.ensures.ok)

pub returns-in_err-count-clause-end : goal.returns-in_err-count-clause-end
returns-in_err-count-clause-end g c =
    let (done, split, appended) = c.loop-rest.invariant in
    let all = Appends-trans _ _ _ _ _ appended c.in_err-count.ensures.end in
    let e = is_front _ done _ split in
    let front : (n : ℕ) × Appends (g.W.Write.contents c.args.out.now) (g.W.Write.contents c.write_some.new.out)
    (take n c.args.frame.now) = (length done, rw (← e) all) in
    on_err _ front
