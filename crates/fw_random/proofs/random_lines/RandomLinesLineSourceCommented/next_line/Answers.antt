use Rattle.std.proofs.Common.{◌≡◌, ◌∙◌, ◌||◌, Bool, List, ℕ, ap, length, nat_lt, subst, sym}
use Rattle.std.specs.Io.KnownBytes.{Appends}
use Rattle.std.proofs.KnownBytes.{Appends-trans}
use Rattle.fw_random.specs.Comments.{commented, is_begun_behind, script_line}
use Rattle.fw_random.proofs.random_lines.RandomLinesLineSourceCommented.next_line.Goals as goal

pub returns-clause-printed : goal.returns-clause-printed
returns-clause-printed g c =
    let begun = c.args.out.now.is_begun in
    let said = c.as_slice.result.now in
    let line = c.choose.new.line.items in
    let old = g.W.Write.contents c.args.out.now.writer in
    let mid = g.W.Write.contents c.put_comments.new.self.writer in
    let new = g.W.Write.contents c.put_line.new.self.writer in
    let comments : Appends old mid (commented begun said) = c.in_ok-put_comments.ensures.ok in
    let behind : c.clear.new.self.is_begun ≡ is_begun_behind begun said =
    c.clear.ensures.1 ∙ c.in_ok-put_comments.ensures.begun in
    let wrote : Appends mid new (script_line c.clear.new.self.is_begun c.as_slice-3.result.now) =
    subst (λ w. Appends (g.W.Write.contents w) new (script_line c.clear.new.self.is_begun c.as_slice-3.result.now))
    c.clear.ensures.0 c.in_ok-put_line.ensures in
    let alone : Appends mid new (script_line (is_begun_behind begun said) line) =
    subst (λ (l : List ℕ). Appends mid new (script_line (is_begun_behind begun said) l)) c.as_slice-3.ensures.value
    (subst (λ (b : Bool). Appends mid new (script_line b c.as_slice-3.result.now)) behind wrote) in
    let differs : c.choose.new.self.has_difference ≡ c.args.self.now.has_difference || nat_lt 0 (length said) =
    c.choose.ensures.same ∙ c.in_ok-said.ensures.said
    ∙ ap (λ (l : List ℕ). c.args.self.now.has_difference || nat_lt 0 (length l)) (sym c.as_slice.ensures.value) in (
      said,
      Appends-trans old mid new (commented begun said) (script_line (is_begun_behind begun said) line) comments alone,
      differs,
    )
