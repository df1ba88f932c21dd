use Rattle.std.proofs.Common.{ℕ, ◌≡◌, ◌≤◌, ◌-◌, ◌++◌, take, drop, length, subst, inr, arith}
use Rattle.std.proofs.lemmas.List.{length-take, length-drop}
use Rattle.fw_link.proofs.Cuts.{sound, damaged, filled, up_to_one, counted}
use Rattle.fw_link.specs.Envelopes.{IsUndamaged, first_envelope_of}
use Rattle.fw_link.proofs.cutter.Cutter.feed.Goals as goal
use Rattle.fw_link.proofs.cutter.Cutter.feed.Given.{Over}

-- the judged bytes are sound
sound_first : (g : Over) (c : goal.After-fill-rest g) → IsUndamaged c.fill-head.new.held.items
sound_first g c = subst IsUndamaged c.as_slice.ensures (c.is_sound.ensures.sound c.if-not-is_sound.false)

-- and so is the stream
sound_stream : (g : Over) (c : goal.After-fill-rest g) → IsUndamaged (c.self.inside.held.items ++ c.args.piece.now)
sound_stream g c = sound _ _ (omega arith) (subst IsUndamaged c.fill-head.ensures.held (sound_first g c))

-- what is held is the stream up to the end of its first envelope
held : (g : Over) (c : goal.After-fill-rest g) → c.fill-rest.new.held.items
    ≡ first_envelope_of (c.self.inside.held.items ++ c.args.piece.now)
held g c = filled _ _ _ _ _ _ (c.self.invariant.one c.if-self.false)
    (sound_first g c) c.fill-head.ensures.taken c.fill-head.ensures.held
    (rw c.as_slice-2.ensures at c.end_of-end.ensures.end) c.fill-rest.ensures.held

pub returns-then-not-is_sound-clause-damage : goal.returns-then-not-is_sound-clause-damage
returns-then-not-is_sound-clause-damage g c = rw (← c.self.view_is)
    (inr (damaged _ _ (omega arith) (rw (
      c.as_slice.ensures,
      c.fill-head.ensures.held,
    ) at c.is_sound.ensures.damaged c.if-not-is_sound.true)))

pub invariant_of-self-2 : goal.invariant_of-self-2
invariant_of-self-2 g c = record {
  room = omega arith;
  one = λ _. rw (held g c) (up_to_one _ (sound_stream g c));
}

pub returns-clause-count : goal.returns-clause-count
returns-clause-count g c =
    let n : c.fill-rest.result ≤ length (take (length c.args.piece.now - c.fill-head.result)
    (drop c.fill-head.result c.args.piece.now)) = c.fill-rest.ensures.within in
    rw (← c.self.view_is, c.fill-rest.ensures.taken, c.fill-head.ensures.taken)
    (omega (arith, length-take {A = ℕ}, length-drop {A = ℕ}), counted _ _ _ _ n)

pub returns-clause-held : goal.returns-clause-held
returns-clause-held g c = rw (← c.self.view_is) (held g c)

pub returns-clause-ok : goal.returns-clause-ok
returns-clause-ok g c = rw (← c.self.view_is) (c.if-self.false, sound_stream g c)

pub returns-clause-one : goal.returns-clause-one
returns-clause-one g c = rw (held g c) (up_to_one _ (sound_stream g c))
