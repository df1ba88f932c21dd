use Rattle.std.proofs.Common.{ap, refl, ◌∙◌}
use Rattle.std.proofs.lemmas.Result.{err_from_is_err_and}
use Rattle.fuse_spec.specs.Kernel.Refusals.{or_no_memory}
use Rattle.fw_world.specs.Values.{read_of}
use Rattle.fw_world.proofs.WorldParts.{is_made, world_of}
use Rattle.fw_world.proofs.EventEffects.{picked}
use Rattle.fw_world.proofs.MemoryRefusals.{judged}
use Rattle.fw_world.proofs.Picking.{pick_out_of_memory, pick_refused}
use Rattle.fw_world.proofs.Stepped.{happened, refused}
use Rattle.fw_world.proofs.Transferred.{read_over}
use Rattle.fw_world.proofs.sides.SidesOf.read.Goals as goal

pub returns-then-is_err : goal.returns-then-is_err
returns-then-is_err g c =
    refused _ _ _ _ (is_made (world_of c.self.inside.kernel c.self.inside.server c.self.inside.requests.items c.self.inside.replies.items c.self.inside.results.items) _ _ _ _ _ refl refl c.reserve.ensures.items refl refl ∙ c.self.view_is) (let w = (world_of c.self.inside.kernel c.self.inside.server c.self.inside.requests.items c.self.inside.replies.items c.self.inside.results.items) in
    let given = c.refusal_or_no_memory.ensures ∙ ap or_no_memory c.read_refusal.ensures in
    rw (← c.self.view_is) (judged w (read_of c.args.pick) _ _ (pick_refused w c.args.pick)
    (λ none is. pick_out_of_memory w (c.lemma_in_range.ensures w refl refl) c.args.pick none _ is) given))

pub returns-in_err-frame : goal.returns-in_err-frame
returns-in_err-frame g c =
    let w = (world_of c.self.inside.kernel c.self.inside.server c.self.inside.requests.items c.self.inside.replies.items c.self.inside.results.items) in
    let p = err_from_is_err_and c.from_residual.result c.from_residual.ensures.1 in
    rw (p.1, p.2) (refused _ _ _ _ (is_made w _ _ _ _ _ c.in_err-frame.ensures.err refl c.reserve.ensures.items refl refl ∙ c.self.view_is)
    (rw (← c.self.view_is) (judged w (read_of c.args.pick) _ _ (pick_refused w c.args.pick)
    (λ none is. pick_out_of_memory w (c.lemma_in_range.ensures w refl refl) c.args.pick none _ is) c.in_err-frame.ensures.refusal)))

pub invariant_of-self-2 : goal.invariant_of-self-2
invariant_of-self-2 g c = (picked _ c.self.invariant _ _ _ _ _ c.args.pick _ c.in_ok-frame.frame
    c.in_ok-frame.ensures.judged c.in_ok-frame.ensures.frame refl c.in_ok-frame.ensures.read refl
    (rw c.reserve.ensures.items at c.put_read.ensures.items) refl refl c.lemma_in_range-2.ensures).1

pub returns : goal.returns
returns g c =
    happened _ _ _ _ (rw (c.put_read.ensures.outcome, ← c.self.view_is)
    (picked _ c.self.invariant _ _ _ _ _ c.args.pick _ c.in_ok-frame.frame
    c.in_ok-frame.ensures.judged c.in_ok-frame.ensures.frame refl c.in_ok-frame.ensures.read refl
    (rw c.reserve.ensures.items at c.put_read.ensures.items) refl refl c.lemma_in_range-2.ensures).0) (c.put_read.ensures.shows _ refl)
    (rw (← c.self.view_is) (read_over (world_of c.self.inside.kernel c.self.inside.server c.self.inside.requests.items c.self.inside.replies.items c.self.inside.results.items) _ c.args.pick c.in_ok-frame.frame (rw c.reserve.ensures.items at c.put_read.ensures.items) c.put_read.ensures.frame))
