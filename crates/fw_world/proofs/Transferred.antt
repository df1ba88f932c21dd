-- What goes over the device at the events that read requests, and a session that goes on with what a step did.
use Rattle.std.proofs.Common.{◌≡◌, ◌+◌, ◌<◌, ◌≤◌, ℕ, Bool, true, false, List, [], ◌∷◌, ◌++◌, Option, Some, None, Result, Ok, Err, arith, get_or, length, map, take, refl, ap, sym, subst, ◌∙◌}
use Rattle.std.proofs.lemmas.List.{map-append, take_more, take_all}
use Rattle.std.specs.Prelude.{IfNone, IfSome}
use Rattle.fuse_spec.specs.declared.Refusal.{Refusal}
use Rattle.fuse_spec.specs.Kernel.Kernel.{Kernel}
use Rattle.fuse_spec.specs.Kernel.Messages.{Request}
use Rattle.fuse_spec.specs.Values.Maps.{remove}
use Rattle.fuse_spec.specs.World.Events as event
use Rattle.fuse_spec.specs.World.Steps.{Happens}
use Rattle.fuse_spec.specs.World.Worlds.{World}
use Rattle.fuse_frames.specs.RequestTies.{IsRequestFrame}
use Rattle.fk_kernel.specs.declared.read.Pick.{Pick}
use Rattle.fk_kernel.specs.declared.read.Pick.TheVariants as pick
use Rattle.world_sessions.specs.KernelRules.{SessionGoesOn}
use Rattle.world_sessions.specs.WorldTransfers.{HasTransfersAt, mounts_among, mounts_at}
use Rattle.world_sessions.proofs.GoingOn.{collects_one, goes_further, goes_within, stays, steps}
use Rattle.world_sessions.proofs.Over.{request_over}
use Rattle.fw_world.specs.Steps.{IsStep}
use Rattle.fw_world.specs.Values.{event_of, outcome_of, read_of}
use Rattle.fw_world.specs.declared.event.Event.{Event}
use Rattle.fw_world.specs.declared.event.Outcome.{Outcome}

pub read_over : (w after : World) (picked : Pick) (r : Request) → after.requests ≡ w.requests ++ r ∷ []
    → ((bytes : List ℕ) × IsRequestFrame bytes r) → HasTransfersAt w (read_of picked) after
read_over w after pick.Interrupt r put frame = request_over w after r put frame.0 frame.1
read_over w after (pick.Forgets n) r put frame = request_over w after r put frame.0 frame.1
read_over w after (pick.Pending place) r put frame = request_over w after r put frame.0 frame.1

pub goes_on : (old new : World) (e : event.Event) (r : Result Outcome Refusal) → IsStep old e r new
    → SessionGoesOn (mounts_at e) old new
goes_on old new e (Err refusal) is = subst (SessionGoesOn (mounts_at e) old) (sym is.err) (stays (mounts_at e) old)
goes_on old new e (Ok o) is = steps old new e (outcome_of o) is.happens is.transfers

-- Nothing mounts behind it.
pub goes_still : (n : ℕ) (first mid last : World) → SessionGoesOn n first mid → SessionGoesOn 0 mid last → SessionGoesOn n first last
goes_still n first mid last one two =
    goes_within (n + 0) n (omega arith) first last (goes_further n 0 first mid last one two)

-- After the step an abort may follow.
pub goes_over : (n : ℕ) (old mid new : World) (is_lost : Bool) → SessionGoesOn n old mid → (is_lost ≡ false → new ≡ mid)
    → (is_lost ≡ true → Happens mid event.abort event.aborted new) → SessionGoesOn n old new
goes_over n old mid new false on same aborts = subst (SessionGoesOn n old) (sym (same refl)) on
goes_over n old mid new true on same aborts =
    goes_still n old mid new on (steps mid new event.abort event.aborted (aborts refl) ([], refl))

-- The answer of one call is collected, or none is.
pub goes_collecting : {X : Type 0} (old : World) (kernel : Kernel) (o : Option (ℕ × X)) → IfNone o (kernel ≡ old.kernel)
    → IfSome o (λ r. kernel ≡ record old.kernel {
      vfs =
          record old.kernel.vfs { answers = remove old.kernel.vfs.answers r.0 };
    })
    → SessionGoesOn 0 old (record old { kernel = kernel })
goes_collecting old kernel None none some =
    subst (λ (k : Kernel). SessionGoesOn 0 old (record old { kernel = k })) (sym none) (stays 0 old)
goes_collecting old kernel (Some r) none some =
    subst (λ (k : Kernel). SessionGoesOn 0 old (record old { kernel = k })) (sym some) (collects_one old r.0)

-- ---- lists of events

mounts_append : (a b : List event.Event) → mounts_among (a ++ b) ≡ mounts_among a + mounts_among b
mounts_append [] b = omega arith
mounts_append (e ∷ a) b = let rest = mounts_append a b in omega (arith, rest)

-- One event more, and no event less.
pub goes_one_more : (events : List Event) (k : ℕ) (d : Event) → k < length events → (first mid last : World)
    → SessionGoesOn (mounts_among (map event_of (take k events))) first mid
    → SessionGoesOn (mounts_at (event_of (get_or events k d))) mid last
    → SessionGoesOn (mounts_among (map event_of (take (k + 1) events))) first last
goes_one_more events k d within first mid last one two =
    let before : ℕ = mounts_among (map event_of (take k events)) in
    let here : ℕ = mounts_at (event_of (get_or events k d)) in
    let more : mounts_among (map event_of (take k events ++ get_or events k d ∷ []))
    ≡ mounts_among (map event_of (take k events)) + (mounts_at (event_of (get_or events k d)) + 0) =
    ap mounts_among (map-append event_of (take k events) (get_or events k d ∷ []))
    ∙ mounts_append (map event_of (take k events)) (event_of (get_or events k d) ∷ []) in
    let whole = ap (λ (es : List Event). mounts_among (map event_of es)) (take_more events k d within) in
    goes_within (before + here) (mounts_among (map event_of (take (k + 1) events))) (omega (arith, more, whole)) first last
    (goes_further before here first mid last one two)

pub goes_to_end : (events : List Event) (k : ℕ) → length events ≤ k → (first last : World)
    → SessionGoesOn (mounts_among (map event_of (take k events))) first last
    → SessionGoesOn (mounts_among (map event_of events)) first last
goes_to_end events k past first last on =
    subst (λ (es : List Event). SessionGoesOn (mounts_among (map event_of es)) first last) (take_all k events past) on
