use Rattle.std.proofs.Common.{ap, ◌∙◌}
use Rattle.std.specs.Int.RustNames.{bit_and}
use Rattle.fk_drive_frames.specs.Filling.{with_offered}
use Rattle.fk_wire.specs.Requests.{known_flags}
use Rattle.fk_drive_frames.proofs.Filled.{fills_create, fills_init, fills_nothing, fills_open, says_create, says_init, says_open}
use Rattle.fk_drive_frames.proofs.filling.fill.Goals as goal

pub returns-in-Some-Open-clause-same : goal.returns-in-Some-Open-clause-same
returns-in-Some-Open-clause-same c =
    let kind = rw c.in-Some-Open.field-0-is at c.in-Some-Open.ensures.some in
    says_open c.spelled_is_decoded.ensures c.args.frame.now c.put_u32.new.frame c.put_u32.ensures.only kind

pub returns-in-Some-Create-clause-same : goal.returns-in-Some-Create-clause-same
returns-in-Some-Create-clause-same c =
    let kind = rw c.in-Some-Create.field-0-is at c.in-Some-Create.ensures.some in
    says_create c.spelled_is_decoded.ensures c.args.frame.now c.put_u32-in-Some-Create.new.frame
    c.put_u32-in-Some-Create.ensures.only kind

pub returns-in-Some-Init-clause-same : goal.returns-in-Some-Init-clause-same
returns-in-Some-Init-clause-same c =
    let kind = rw c.in-Some-Init.field-0-is at c.in-Some-Init.ensures.some in
    says_init c.spelled_is_decoded.ensures c.args.frame.now c.put_u32-in-Some-Init.new.frame
    c.put_u32-in-Some-Init.ensures.only
    (ap (λ n. bit_and n known_flags) c.put_u32-in-Some-Init.ensures.value ∙ c.offering-flags.ensures.kept
    ∙ ap (λ n. bit_and n known_flags) c.init_flags.ensures) kind

pub returns-in-Some-Open-clause-filled : goal.returns-in-Some-Open-clause-filled
returns-in-Some-Open-clause-filled c =
    let kind = rw c.in-Some-Open.field-0-is at c.in-Some-Open.ensures.some in
    fills_open c.spelled_is_decoded.ensures c.args.frame.now c.put_u32.new.frame c.args.free_fields c.put_u32.ensures.only
    c.put_u32.ensures.value kind

pub returns-in-Some-Create-clause-filled : goal.returns-in-Some-Create-clause-filled
returns-in-Some-Create-clause-filled c =
    let kind = rw c.in-Some-Create.field-0-is at c.in-Some-Create.ensures.some in
    fills_create c.spelled_is_decoded.ensures c.args.frame.now c.put_u32-in-Some-Create.new.frame c.args.free_fields
    c.put_u32-in-Some-Create.ensures.only c.put_u32-in-Some-Create.ensures.value kind

pub returns-in-Some-Init-clause-filled : goal.returns-in-Some-Init-clause-filled
returns-in-Some-Init-clause-filled c =
    let kind = rw c.in-Some-Init.field-0-is at c.in-Some-Init.ensures.some in
    fills_init c.spelled_is_decoded.ensures c.args.frame.now c.put_u32-in-Some-Init.new.frame c.args.free_fields
    c.put_u32-in-Some-Init.ensures.only
    (c.put_u32-in-Some-Init.ensures.value ∙ c.offering-flags.ensures.value
    ∙ ap (λ n. with_offered n c.args.free_fields.offer) c.init_flags.ensures) kind

pub returns-in-None-clause-filled : goal.returns-in-None-clause-filled
returns-in-None-clause-filled c m spells =
    fills_nothing c.args.frame.now c.args.free_fields m.content (c.in-None.ensures.none m spells)
