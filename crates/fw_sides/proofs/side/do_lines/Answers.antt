use Rattle.std.proofs.Common.{◌≡◌, Bool, ℕ, List, [], ◌∷◌, ◌++◌, subst}
use Rattle.std.specs.Prelude.{MatchBool}
use Rattle.fw_sides.specs.Lines.{more, none}
use Rattle.fw_sides.proofs.side.do_lines.Goals as goal

pub loop-line-init : goal.loop-line-init
loop-line-init g c = ([], none)

pub loop-line-preserved : goal.loop-line-preserved
loop-line-preserved g c =
    let old = g.S.Side.state c.loop-line.side in
    let new = g.S.Side.state c.do_next.new.side in
    let done = c.loop-line.invariant in
    let line = subst (λ (is_line : Bool). MatchBool is_line ((text : List ℕ) × g.S.Side.does old text new)
    (c.do_next.new.side ≡ c.loop-line.side)) c.in-Ok-true.field-0-test c.in-Ok-true.ensures in
    (done.0 ++ line.0 ∷ [], more done.0 old done.1 line.0 new line.1)
