use Rattle.std.proofs.Common.{◌≡◌, ℕ, ◌-◌, Bool, List, ◌++◌, length, take, drop, sym, ap, subst, ◌∙◌, append_assoc, take-append-drop}
use Rattle.std.proofs.lemmas.List.{take_rest}
use Rattle.std.specs.Io.KnownBytes.{Appends}
use Rattle.std.proofs.KnownBytes.{Appends-trans}
use Rattle.fw_random.specs.Comments.{commented, is_begun_behind}
use Rattle.fw_random.proofs.Pieces.{begun_behind, commented_behind}
use Rattle.fw_random.proofs.commented.Commented.put_comments.Goals as goal

moves_front : (all done rest : List ℕ) (n : ℕ) → all ≡ done ++ rest
    → all ≡ (done ++ take n rest) ++ take (length rest - n) (drop n rest)
moves_front all done rest n e =
    e ∙ ap (λ l. done ++ l) (sym (take-append-drop n rest)) ∙ sym (append_assoc done (take n rest) (drop n rest)) ∙ ap
    (λ l. (done ++ take n rest) ++ l) (sym (take_rest rest n))

pub loop-rest-preserved : goal.loop-rest-preserved
loop-rest-preserved g c =
    let (done, split, appended, begun) = c.loop-rest.invariant in
    let rest = c.loop-rest.rest.now in
    let n = c.piece_len-end.result in
    let first = c.args.self.now.is_begun in
    let old = g.W.Write.contents c.args.self.now.writer in
    let mid = g.W.Write.contents c.loop-rest.self.writer in
    let new = g.W.Write.contents c.write_piece.new.self.writer in
    let wrote : Appends mid new (commented (is_begun_behind first done) (take n rest)) =
    subst (λ (b : Bool). Appends mid new (commented b (take n rest))) begun c.in-Ok.ensures.ok in (
      done ++ take n rest,
      moves_front _ done rest n split,
      rw (commented_behind first done (take n rest))
          (Appends-trans old mid new (commented first done) (commented (is_begun_behind first done) (take n rest)) appended
          wrote),
      c.in-Ok.ensures.begun ∙ ap (λ (b : Bool). is_begun_behind b (take n rest)) begun
          ∙ sym (begun_behind first done (take n rest)),
    )
