use Rattle.std.proofs.Common.{[], arith, length, refl, sym, ◌∙◌}
use Rattle.std.proofs.lemmas.Option.{slice_get_read, slice_get_past}
use Rattle.fw_world.proofs.WorldParts.{is_made, world_of}
use Rattle.fw_world.proofs.EventEffects.{took}
use Rattle.fw_world.proofs.Refusing.{no_request}
use Rattle.fw_world.proofs.MemoryRefusals.{take_refused, take_out_of_memory}
use Rattle.fuse_spec.specs.declared.Refusal.TheVariants.{NoMemory}
use Rattle.fw_world.proofs.MemoryRefusals.{answer_has_room, answered_takes, server_within}
use Rattle.fw_world.proofs.Stepped.{happened, refused}
use Rattle.fw_world.proofs.sides.SidesOf.take.Goals as goal

pub returns-then-place-len : goal.returns-then-place-len
returns-then-place-len g c =
    refused _ _ _ _ refl (rw (← c.self.view_is)
    (no_request (world_of c.self.inside.kernel c.self.inside.server c.self.inside.requests.items c.self.inside.replies.items c.self.inside.results.items) c.args.place (slice_get_past c.self.inside.requests.items c.args.place (omega (arith, c.if-place-len.true, c.len.ensures)))))

pub returns-in-Err : goal.returns-in-Err
returns-in-Err g c =
    refused _ _ _ _ (is_made (world_of c.self.inside.kernel c.self.inside.server c.self.inside.requests.items c.self.inside.replies.items c.self.inside.results.items) _ _ _ _ _ refl c.in-Err.ensures.refused refl c.reserve_answer.ensures.items refl ∙ c.self.view_is) (let there = slice_get_read c.self.inside.requests.items
    (length c.self.inside.requests.items) c.args.place c.index.result.now refl
    (omega (arith, c.if-place-len.false, c.len.ensures)) c.index.ensures in
    rw (← c.self.view_is, c.refusal_of.ensures) (take_refused
    (world_of c.self.inside.kernel c.self.inside.server c.self.inside.requests.items c.self.inside.replies.items c.self.inside.results.items) (c.lemma_in_range-in-Err.ensures (world_of c.self.inside.kernel c.self.inside.server c.self.inside.requests.items c.self.inside.replies.items c.self.inside.results.items) refl (sym c.in-Err.ensures.refused)) c.self.invariant c.args.place c.index.result.now c.bytes-bytes.result.now c.in-Err.fault there c.bytes-bytes.ensures c.in-Err.ensures.effect c.in-Err.ensures.can c.in-Err.ensures.memory))

pub append_if_any-requires : goal.append_if_any-requires
append_if_any-requires g c = let low = server_within (world_of c.self.inside.kernel c.take.new.self c.self.inside.requests.items c.self.inside.replies.items c.self.inside.results.items) (c.lemma_in_range-2.ensures (world_of c.self.inside.kernel c.take.new.self c.self.inside.requests.items c.self.inside.replies.items c.self.inside.results.items) (sym c.reuse.ensures) refl) in
    answer_has_room c.self.inside.server c.bytes-bytes.result.now c.in-Ok.took c.take.new.self c.in-Ok.ensures.effect low (λ answers. c.reserve_answer.ensures.room c.if-not-reserve_answer.false answers)

pub invariant_of-self-2 : goal.invariant_of-self-2
invariant_of-self-2 g c = let there = slice_get_read c.self.inside.requests.items
    (length c.self.inside.requests.items) c.args.place c.index.result.now refl
    (omega (arith, c.if-place-len.false, c.len.ensures)) c.index.ensures in
    (took (world_of c.self.inside.kernel c.self.inside.server c.self.inside.requests.items c.self.inside.replies.items c.self.inside.results.items) c.self.invariant c.reuse.new.self c.take.new.self c.take_at-request.new.queue.items c.append_if_any.new.list.items c.self.inside.results.items c.args.place c.index.result.now c.bytes-bytes.result.now c.in-Ok.took
    there c.bytes-bytes.ensures c.in-Ok.ensures.effect c.reuse.ensures c.take_at-request.ensures.items
    (rw (← c.reserve_answer.ensures.items) c.append_if_any.ensures) refl c.lemma_in_range-2.ensures).1

pub returns : goal.returns
returns g c =
    happened _ _ _ _ (let there = slice_get_read c.self.inside.requests.items
    (length c.self.inside.requests.items) c.args.place c.index.result.now refl
    (omega (arith, c.if-place-len.false, c.len.ensures)) c.index.ensures in
    rw (← c.self.view_is)
    (took (world_of c.self.inside.kernel c.self.inside.server c.self.inside.requests.items c.self.inside.replies.items c.self.inside.results.items) c.self.invariant c.reuse.new.self c.take.new.self c.take_at-request.new.queue.items c.append_if_any.new.list.items c.self.inside.results.items c.args.place c.index.result.now c.bytes-bytes.result.now c.in-Ok.took
    there c.bytes-bytes.ensures c.in-Ok.ensures.effect c.reuse.ensures c.take_at-request.ensures.items
    (rw (← c.reserve_answer.ensures.items) c.append_if_any.ensures) refl c.lemma_in_range-2.ensures).0) tt ([], refl)

pub returns-then-not-reserve_answer : goal.returns-then-not-reserve_answer
returns-then-not-reserve_answer g c =
    refused _ _ _ _ (is_made (world_of c.self.inside.kernel c.self.inside.server c.self.inside.requests.items c.self.inside.replies.items c.self.inside.results.items) _ _ _ _ _ refl refl refl c.reserve_answer.ensures.items refl ∙ c.self.view_is) (let there = slice_get_read c.self.inside.requests.items
    (length c.self.inside.requests.items) c.args.place c.index.result.now refl
    (omega (arith, c.if-place-len.false, c.len.ensures)) c.index.ensures in
    let answers = c.reserve_answer.ensures.answers c.if-not-reserve_answer.true in
    rw (← c.self.view_is) (take_out_of_memory
    (world_of c.self.inside.kernel c.self.inside.server c.self.inside.requests.items c.self.inside.replies.items c.self.inside.results.items) (c.lemma_in_range.ensures (world_of c.self.inside.kernel c.self.inside.server c.self.inside.requests.items c.self.inside.replies.items c.self.inside.results.items) refl refl) c.args.place c.index.result.now c.bytes-bytes.result.now there c.bytes-bytes.ensures answers.can
    (answered_takes c.self.inside.server c.index.result.now c.bytes-bytes.result.now c.bytes-bytes.ensures answers) NoMemory refl))
