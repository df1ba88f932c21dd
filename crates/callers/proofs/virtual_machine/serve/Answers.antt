use Rattle.std.proofs.Common.{rules, refl, ◌≡◌, ◌≢◌}
use Rattle.fuse_spec.specs.declared.Taken.TheVariants.{Held}
use Rattle.callers.proofs.Delivering.{serves_later, serves_nothing, served_at_once, served_later, waits}
use Rattle.callers.proofs.virtual_machine.serve.Goals as goal

pub returns-in-Err : goal.returns-in-Err
returns-in-Err g c = (
  refl,
  c.in-Err.ensures.refused,
  c.in-Err.ensures.effect,
  λ e. (c.in-Err.ensures.can e, c.in-Err.ensures.memory e),
)

pub returns-in-Some : goal.returns-in-Some
returns-in-Some g c =
    served_at_once c.args.server.now c.take.new.self c.args.frame.now c.in-Ok.taken c.in-Ok.ensures.effect c.deliver.new.server _ c.args.buffer.now.items c.deliver.new.buffer.items c.in-Some.sent c.deliver.result c.in-Some.is c.deliver.ensures

pub returns-then-ne : goal.returns-then-ne
returns-then-ne g c =
    let other : c.in-Ok.taken.word ≢ Held = search rules in
    (refl, serves_nothing c.args.server.now c.take.new.self c.args.frame.now c.in-Ok.taken c.in-Ok.ensures.effect c.in_default.is other)

pub returns-in_default-perform : goal.returns-in_default-perform
returns-in_default-perform g c =
    let held : c.in-Ok.taken.word ≡ Held = search rules in (
      refl,
      waits c.args.server.now c.take.new.self c.args.frame.now c.in-Ok.taken c.in-Ok.ensures.effect c.perform.new.self c.in_default-perform.field-0 held c.in_default-perform.ensures.err c.in_default-perform.ensures.refusal (λ is. (c.in_default-perform.ensures.memory is).0),
    )

pub returns-in-Some-sent : goal.returns-in-Some-sent
returns-in-Some-sent g c =
    let held : c.in-Ok.taken.word ≡ Held = search rules in
    served_later c.args.server.now c.take.new.self c.args.frame.now c.in-Ok.taken c.in-Ok.ensures.effect c.perform.new.self c.deliver-in-Some-sent.new.server _ c.args.buffer.now.items c.deliver-in-Some-sent.new.buffer.items
    c.in-Ok-perform.done.errno c.in-Ok-perform.done.sent c.in-Some-sent.sent c.deliver-in-Some-sent.result held c.in-Ok-perform.ensures.performed c.in-Some-sent.is c.deliver-in-Some-sent.ensures

pub returns : goal.returns
returns g c =
    let held : c.in-Ok.taken.word ≡ Held = search rules in (
      refl,
      serves_later c.args.server.now c.take.new.self c.args.frame.now c.in-Ok.taken c.in-Ok.ensures.effect c.perform.new.self c.in-Ok-perform.done.errno _ held (rw c.in-None.is at c.in-Ok-perform.ensures.performed),
    )
