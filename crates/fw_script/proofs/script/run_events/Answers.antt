use Rattle.fw_script.proofs.Ending.{world_ends}
use Rattle.fw_script.proofs.script.run_events.Goals as goal

pub returns : goal.returns
returns g c =
    λ texts said.
    world_ends _ c.args.hex _ texts _ c.run_lines-ended.result (g.W.Write.contents c.args.out.now)
    (g.W.Write.contents c.run_lines-ended.new.out) c.in-Ok-new.ensures.first c.lemma_protocol.ensures.keeps
    (c.run_lines-ended.ensures texts said)
