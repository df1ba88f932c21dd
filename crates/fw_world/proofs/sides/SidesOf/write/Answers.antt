use Rattle.std.proofs.Common.{arith, length, refl, sym, ◌∙◌}
use Rattle.std.proofs.lemmas.Option.{slice_get_read, slice_get_past}
use Rattle.fw_world.proofs.WorldParts.{after_result, has_room, is_made, was_written, world_of}
use Rattle.fw_world.proofs.EventEffects.{wrote}
use Rattle.fw_world.proofs.Copies.{reply_written_is, write_refused, look_refused, has_head, written_over}
use Rattle.fw_world.proofs.Refusing.{no_copy}
use Rattle.fw_world.proofs.Stepped.{happened, refused}
use Rattle.fw_world.proofs.sides.SidesOf.write.Goals as goal

pub returns-then-place-len : goal.returns-then-place-len
returns-then-place-len g c =
    refused _ _ _ _ refl (rw (← c.self.view_is)
    (no_copy (world_of c.self.inside.kernel c.self.inside.server c.self.inside.requests.items c.self.inside.replies.items c.self.inside.results.items) c.args.place (slice_get_past c.self.inside.replies.items c.args.place (omega (arith, c.if-place-len.true, c.len.ensures)))))

pub returns-then-is_err : goal.returns-then-is_err
returns-then-is_err g c =
    refused _ _ _ _ (is_made (world_of c.self.inside.kernel c.self.inside.server c.self.inside.requests.items c.self.inside.replies.items c.self.inside.results.items) _ _ _ _ _ refl refl refl refl c.reserve.ensures.items ∙ c.self.view_is) (let sent = c.index-copy.result.now in
    let there = slice_get_read c.self.inside.replies.items (length c.self.inside.replies.items) c.args.place sent refl
    (omega (arith, c.if-place-len.false, c.len.ensures)) c.index-copy.ensures in
    let w = (world_of c.self.inside.kernel c.self.inside.server c.self.inside.requests.items c.self.inside.replies.items c.self.inside.results.items) in
    rw (← c.self.view_is, c.refusal_or_no_memory.ensures)
    (look_refused w c.self.invariant c.args.place sent there c.bytes.result.now c.bytes.ensures.frame c.bytes.ensures.fits c.bytes.ensures.init c.bytes.ensures.empty (c.lemma_in_range.ensures w refl refl) c.write_refusal.result c.write_refusal.ensures.refused c.write_refusal.ensures.none))

pub returns-in-Err : goal.returns-in-Err
returns-in-Err g c =
    refused _ _ _ _ (is_made (world_of c.self.inside.kernel c.self.inside.server c.self.inside.requests.items c.self.inside.replies.items c.self.inside.results.items) _ _ _ _ _ c.in-Err.ensures.err refl refl refl c.reserve.ensures.items ∙ c.self.view_is) (let sent = c.index-copy.result.now in
    let there = slice_get_read c.self.inside.replies.items (length c.self.inside.replies.items) c.args.place sent refl
    (omega (arith, c.if-place-len.false, c.len.ensures)) c.index-copy.ensures in
    let w = (world_of c.self.inside.kernel c.self.inside.server c.self.inside.requests.items c.self.inside.replies.items c.self.inside.results.items) in
    rw (← c.self.view_is)
    (write_refused w c.self.invariant c.args.place sent there c.bytes-2.result.now c.bytes-2.ensures.frame c.bytes-2.ensures.fits c.bytes-2.ensures.init c.bytes-2.ensures.empty (c.lemma_in_range-in-Err.ensures w (sym c.in-Err.ensures.err) refl) c.in-Err.refusal
    (c.in-Err.ensures.refusal
    (has_head w c.self.invariant c.args.place sent there c.bytes-2.result.now c.bytes-2.ensures.frame c.bytes-2.ensures.fits c.bytes-2.ensures.init c.bytes-2.ensures.empty)) c.in-Err.ensures.memory))

pub invariant_of-self-2 : goal.invariant_of-self-2
invariant_of-self-2 g c = let sent = c.index-copy.result.now in
    let there = slice_get_read c.self.inside.replies.items (length c.self.inside.replies.items) c.args.place sent refl
    (omega (arith, c.if-place-len.false, c.len.ensures)) c.index-copy.ensures in
    let took = reply_written_is (world_of c.self.inside.kernel c.self.inside.server c.self.inside.requests.items c.self.inside.replies.items c.self.inside.results.items) c.self.invariant c.args.place sent there c.bytes-2.result.now c.bytes-2.ensures.frame c.bytes-2.ensures.fits c.bytes-2.ensures.init c.bytes-2.ensures.empty c.in-Ok.written c.write.new.self
    (λ head none. let h = c.in-Ok.ensures.unawaited head none in (was_written h.0, h.1)) c.in-Ok.ensures.taken in
    let results = after_result c.self.inside.results.items c.reserve.new.self.items c.push_back_reserved.new.self.items c.number-number.result c.unique-unique.result c.in-Ok.written sent c.reserve.ensures.items c.push_back_reserved.ensures.items c.number-number.ensures c.unique-unique.ensures in
    (wrote (world_of c.self.inside.kernel c.self.inside.server c.self.inside.requests.items c.self.inside.replies.items c.self.inside.results.items) c.self.invariant c.write.new.self c.reuse.new.self c.self.inside.requests.items c.take_at-copy.new.queue.items c.push_back_reserved.new.self.items c.args.place sent c.in-Ok.written
    there took c.reuse.ensures refl c.take_at-copy.ensures.items results c.lemma_in_range-2.ensures).1

pub returns : goal.returns
returns g c =
    happened _ _ _ _ (let sent = c.index-copy.result.now in
    let there = slice_get_read c.self.inside.replies.items (length c.self.inside.replies.items) c.args.place sent refl
    (omega (arith, c.if-place-len.false, c.len.ensures)) c.index-copy.ensures in
    let took = reply_written_is (world_of c.self.inside.kernel c.self.inside.server c.self.inside.requests.items c.self.inside.replies.items c.self.inside.results.items) c.self.invariant c.args.place sent there c.bytes-2.result.now c.bytes-2.ensures.frame c.bytes-2.ensures.fits c.bytes-2.ensures.init c.bytes-2.ensures.empty c.in-Ok.written c.write.new.self
    (λ head none. let h = c.in-Ok.ensures.unawaited head none in (was_written h.0, h.1)) c.in-Ok.ensures.taken in
    let results = after_result c.self.inside.results.items c.reserve.new.self.items c.push_back_reserved.new.self.items c.number-number.result c.unique-unique.result c.in-Ok.written sent c.reserve.ensures.items c.push_back_reserved.ensures.items c.number-number.ensures c.unique-unique.ensures in
    rw (← c.self.view_is, c.unique-unique.ensures)
    (wrote (world_of c.self.inside.kernel c.self.inside.server c.self.inside.requests.items c.self.inside.replies.items c.self.inside.results.items) c.self.invariant c.write.new.self c.reuse.new.self c.self.inside.requests.items c.take_at-copy.new.queue.items c.push_back_reserved.new.self.items c.args.place sent c.in-Ok.written
    there took c.reuse.ensures refl c.take_at-copy.ensures.items results c.lemma_in_range-2.ensures).0) tt
    (let sent = c.index-copy.result.now in
    let there = slice_get_read c.self.inside.replies.items (length c.self.inside.replies.items) c.args.place sent refl
    (omega (arith, c.if-place-len.false, c.len.ensures)) c.index-copy.ensures in
    rw (← c.self.view_is) (written_over (world_of c.self.inside.kernel c.self.inside.server c.self.inside.requests.items c.self.inside.replies.items c.self.inside.results.items) c.self.invariant c.args.place sent there c.bytes-2.result.now c.bytes-2.ensures.frame c.bytes-2.ensures.fits c.bytes-2.ensures.init c.bytes-2.ensures.empty (world_of c.write.new.self c.reuse.new.self c.self.inside.requests.items c.take_at-copy.new.queue.items c.push_back_reserved.new.self.items)))

pub push_back_reserved-requires : goal.push_back_reserved-requires
push_back_reserved-requires g c = has_room c.reserve.result _ _ c.reserve.ensures.ok
    (sym c.is_err.ensures.value ∙ c.if-is_err.false)
