use Rattle.std.proofs.Common.{◌≡◌, List, [], ◌∷◌, ◌++◌, Ok, inl, inr, refl, ap, sym, ◌∙◌, arith}
use Rattle.fuse_spec.specs.World.Events.{Outcome}
use Rattle.fuse_spec.specs.World.Events as event
use Rattle.fuse_spec.specs.World.Steps.{Stepped}
use Rattle.fuse_spec.specs.Reference.Plain.{Plain, first_plain}
use Rattle.fuse_spec.specs.World.Records.{Record, outcome, refused}
use Rattle.fuse_spec.specs.Claim.Runs.{Accepts, RefusesEvent}
use Rattle.fuse_spec.specs.World.Worlds.{World, first_world, after_tick}
use Rattle.fuse_theorem.specs.Counterexamples.{a_millisecond_later}
use Rattle.fuse_theorem.specs.Recorded.{none_left, one_accepted}
use Rattle.fuse_theorem.proofs.counterexamples.a_run_begins_before.Goals as goal

pub returns-clause-recorded : goal.returns-clause-recorded
returns-clause-recorded g = one_accepted first_world (event.tick 1)
    (event.now 1) a_millisecond_later [] [] a_millisecond_later (λ file. file, tt, refl) (none_left a_millisecond_later)

-- No event that is accepted ends where it began: the time has passed.
accepted : (first : List Record) (mid : World) (plain : Plain) → a_millisecond_later ≡ mid
    → Accepts a_millisecond_later first_plain (event.tick 1) first mid plain → ⊥
accepted first mid plain same a =
    let happens : ◌≡◌ {A = Stepped} (Ok (event.now 2, after_tick a_millisecond_later 1)) (Ok (a.outcome_of, a.mid)) =
    a.happens.2 in
    let both : ◌≡◌ {A = Outcome × World} (event.now 2, after_tick a_millisecond_later 1) (a.outcome_of, a.mid) =
    cc (happens) in
    let moved : after_tick a_millisecond_later 1 ≡ a.mid = ap (λ (x : Outcome × World). x.1) both in
    let clock : 1 ≡ 2 = ap (λ (w : World). w.kernel.vfs.clock) (same ∙ a.after) ∙ sym
    (ap (λ (w : World). w.kernel.vfs.clock) moved) in
    omega (arith, clock)

-- And the record is no refusal.
refused_so : (first rest : List Record) (mid : World) (plain : Plain) → outcome (event.now 1) ∷ [] ≡ first ++ rest
    → RefusesEvent a_millisecond_later first_plain (event.tick 1) first mid plain → ⊥
refused_so first rest mid plain records r = let both : outcome (event.now 1) ∷ [] ≡ refused r.refusal ∷ rest =
    records ∙ ap (λ (xs : List Record). xs ++ rest) r.recorded in cc (both)

pub returns-clause-no_run : goal.returns-clause-no_run
returns-clause-no_run g =
    λ q run. elim run.5 [ inl a ↦ accepted run.0 run.2 run.3 run.6.1 a | inr r ↦ refused_so run.0 run.1 run.2 run.3 run.4 r ]
