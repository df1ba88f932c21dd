use Rattle.std.proofs.Common.{Bool, Ok, sym, subst}
use Rattle.fw_script.specs.Running.{SessionEnds}
use Rattle.fw_script.specs.Scripts.{IsRunOver}
use Rattle.fw_script.proofs.Ending.{all_over, begins, stopped_over}
use Rattle.fw_script.proofs.script.run_session.Goals as goal

pub returns-in-Ok-ended : goal.returns-in-Ok-ended
returns-in-Ok-ended g c =
    let carries = g.L.Link.carries in
    let failed = g.L.Link.failed in
    let new = c.in-Ok-new.session in
    let last = c.run_lines-ended.new.machine in
    let old = g.W.Write.contents c.args.out.now in
    let has = g.W.Write.contents c.run_lines-ended.new.out in
    λ texts said.
    subst (λ (b : Bool). SessionEnds (IsRunOver g.row.T-Heap.Denot carries failed c.args.link c.args.hex) texts (Ok b)
    old has) (sym c.is_lost-is_lost.ensures)
    (all_over g.row.T-Heap.Denot carries failed c.args.link c.args.hex {T = Unit {0}} texts
    (new.world, new.is_lost, new.link) (last.world, last.is_lost, last.link) tt old has
    (begins g.row.T-Heap.Denot carries failed c.args.link c.args.hex (new.world, new.is_lost, new.link)
    c.in-Ok-new.ensures.first c.in-Ok-new.ensures.link.1 c.in-Ok-new.ensures.link.0)
    c.lemma_protocol.ensures.keeps (c.in-Ok-ended.ensures texts said))

pub returns : goal.returns
returns g c =
    let carries = g.L.Link.carries in
    let failed = g.L.Link.failed in
    let new = c.in-Ok-new.session in
    let last = c.run_lines-ended.new.machine in
    λ texts said.
    stopped_over g.row.T-Heap.Denot carries failed c.args.link c.args.hex (Unit {0}) texts
    (new.world, new.is_lost, new.link) (last.world, last.is_lost, last.link) c.in-Err.stop
    (g.W.Write.contents c.args.out.now) (g.W.Write.contents c.run_lines-ended.new.out)
    (begins g.row.T-Heap.Denot carries failed c.args.link c.args.hex (new.world, new.is_lost, new.link)
    c.in-Ok-new.ensures.first c.in-Ok-new.ensures.link.1 c.in-Ok-new.ensures.link.0)
    c.lemma_protocol.ensures.keeps (c.in-Err.ensures texts said)
