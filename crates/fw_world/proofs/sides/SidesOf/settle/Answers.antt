use Rattle.std.proofs.Common.{[], arith, inl, length, refl}
use Rattle.std.proofs.lemmas.Option.{slice_get_read, slice_get_past}
use Rattle.fw_world.proofs.WorldParts.{world_of}
use Rattle.fw_world.proofs.EventEffects.{settled}
use Rattle.fw_world.proofs.Refusing.{no_result}
use Rattle.fw_world.proofs.Stepped.{happened, refused}
use Rattle.fw_world.proofs.sides.SidesOf.settle.Goals as goal

pub returns-then-place-len : goal.returns-then-place-len
returns-then-place-len g c =
    refused _ _ _ _ refl (inl (rw (← c.self.view_is)
    (no_result (world_of c.self.inside.kernel c.self.inside.server c.self.inside.requests.items c.self.inside.replies.items c.self.inside.results.items) c.args.place (slice_get_past c.self.inside.results.items c.args.place (omega (arith, c.if-place-len.true, c.len.ensures))))))

pub invariant_of-self-2 : goal.invariant_of-self-2
invariant_of-self-2 g c = let result = c.index-settled.result.now in
    let there = slice_get_read c.self.inside.results.items
    (length c.self.inside.results.items) c.args.place result refl
    (omega (arith, c.if-place-len.false, c.len.ensures)) c.index-settled.ensures in
    (settled (world_of c.self.inside.kernel c.self.inside.server c.self.inside.requests.items c.self.inside.replies.items c.self.inside.results.items) c.self.invariant c.self.inside.kernel c.settle.new.self c.self.inside.requests.items c.self.inside.replies.items c.take_at-settled.new.queue.items c.args.place result
    there c.in_default.ensures.effect refl refl refl c.take_at-settled.ensures.items).1

pub returns : goal.returns
returns g c =
    happened _ _ _ _ (let result = c.index-settled.result.now in
    let there = slice_get_read c.self.inside.results.items
    (length c.self.inside.results.items) c.args.place result refl
    (omega (arith, c.if-place-len.false, c.len.ensures)) c.index-settled.ensures in
    rw (← c.self.view_is)
    (settled (world_of c.self.inside.kernel c.self.inside.server c.self.inside.requests.items c.self.inside.replies.items c.self.inside.results.items) c.self.invariant c.self.inside.kernel c.settle.new.self c.self.inside.requests.items c.self.inside.replies.items c.take_at-settled.new.queue.items c.args.place result
    there c.in_default.ensures.effect refl refl refl c.take_at-settled.ensures.items).0) tt ([], refl)
