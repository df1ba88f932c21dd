-- What a list of events results in over a link of bytes.
use Rattle.std.specs.Prelude.{◌≡◌, ℕ, Bool, List, [], ◌∷◌, ◌++◌, map}
use Rattle.fuse_spec.specs.declared.Refusal.{Refusal}
use Rattle.fuse_spec.specs.declared.Refusal.TheVariants.{LinkLost}
use Rattle.fuse_spec.specs.Claim.Counts.{Protocol}
use Rattle.fuse_spec.specs.World.Events.{Event, Outcome, abort, aborted}
use Rattle.fuse_spec.specs.Reference.Plain.{Plain}
use Rattle.fuse_spec.specs.World.Records.{Record, outcome, refused, link_lost, answers_of, collected}
use Rattle.fuse_spec.specs.Claim.Alike.{Alike}
use Rattle.fuse_spec.specs.Claim.Runs.{AnswersOnce, CallsEnd}
use Rattle.fuse_spec.specs.Claim.Sessions.{Session, SessionRun, linked, lost}
use Rattle.fuse_spec.specs.World.Steps.{Happens, RefusedWith}
use Rattle.fuse_spec.specs.World.Worlds.{World}
use Rattle.fw_link.specs.Traffic.{Traffic}
use Rattle.fw_world.specs.declared.event.Event.{Event as EventValue}
use Rattle.fw_world.specs.declared.record.Record.{Record as RecordValue}
use Rattle.fw_world.specs.Frames.{AreShownAfter}
use Rattle.fw_world.specs.Runs.{StepsAs}
use Rattle.fw_world.specs.Values.{event_of, run_record_of}
use Rattle.fw_world.specs.Sends.{IsSent, IsLostOn}

-- A session by its two parts.
abbrev pub session_of : World → Bool → Session
session_of w is_lost = record { world = w; is_lost = is_lost }

-- The records of a list of events over a link, and what each event did to the link. Until the link is lost each
-- accepted event sends its envelope, and nothing else, and the link does not fail; where an envelope is lost an abort
-- follows; and then nothing is sent. What links carry between two of their states, and how often one has failed, is
-- given.
pub data RecordedOver {L : Type 0} (carries : L → L → Traffic → Type 0) (failed : L → ℕ) : Session → L → List Event
    → List Record → Session → L → Type 0 where
  none_left : (s : Session) (link : L) → RecordedOver carries failed s link [] [] s link
  one_refused : (w : World) (link : L) (event : Event) (refusal : Refusal) (events : List Event)
      (records : List Record) (after : Session) (last : L)
      → RefusedWith w event refusal → RecordedOver carries failed (linked w) link events records after last
      → RecordedOver carries failed (linked w) link (event ∷ events) (refused refusal ∷ records) after last
  one_accepted : (w : World) (link : L) (event : Event) (o : Outcome) (mid : World) (next : L) (events : List Event)
      (records : List Record) (after : Session) (last : L)
      → Happens w event o mid → IsSent mid o (carries link next) → failed next ≡ failed link
      → RecordedOver carries failed (linked (collected mid)) next events records after last
      → RecordedOver carries failed (linked w) link (event ∷ events)
      (outcome o ∷ answers_of mid.kernel.vfs.answers ++ records) after last
  one_lost : (w : World) (link : L) (event : Event) (o : Outcome) (mid gone : World) (next : L) (events : List Event)
      (records : List Record) (after : Session) (last : L)
      → Happens w event o mid → IsLostOn mid o (carries link next) (failed link) (failed next)
      → Happens mid abort aborted gone
      → RecordedOver carries failed (lost (collected gone)) next events records after last
      → RecordedOver carries failed (linked w) link (event ∷ events)
      (outcome o ∷ link_lost ∷ answers_of gone.kernel.vfs.answers ++ records) after last
  one_too_late : (w : World) (link : L) (event : Event) (events : List Event) (records : List Record) (after : Session)
      (last : L)
      → RecordedOver carries failed (lost w) link events records after last
      → RecordedOver carries failed (lost w) link (event ∷ events) (refused LinkLost ∷ records) after last

-- The events ran over the link with these records: from every plain world that is alike to the world before there is one
-- plain run over the events with the same records, in which the link is lost where it was, and at whose end it is alike
-- to the world after, which keeps the reference protocol. Each call is answered at most once, and over with its answer,
-- so that no later list answers it.
pub record RunsOver {L : Type 0} (carries : L → L → Traffic → Type 0) (failed : L → ℕ) (old : Session) (link : L)
    (events : List Event) (added : List Record) (new : Session) (last : L) : Type 0 where
  pub recorded : RecordedOver carries failed old link events added new last
  pub plain_run : (p : Plain) → Alike old.world p
      → (q : Plain) × SessionRun old p events added new q × Alike new.world q
  pub keeps : Protocol new.world
  pub once : AnswersOnce added
  pub ended : CallsEnd old.world added new.world

-- The event happened in a session whose link was not lost, with this outcome: as in a world; or the link was lost in
-- it, and an abort happened too.
pub data StepsOver (old : World) (event : Event) (o : Outcome) : Session → Type 0 where
  goes_on : (new : World) → StepsAs old event o new → StepsOver old event o (linked new)
  link_fails : (mid new : World) → StepsAs old event o mid → StepsAs mid abort aborted new
      → StepsOver old event o (lost new)

-- One event ran over the link with these records, from a session and its link to such. What the first of them says of
-- the event's frame is so, as in a world.
pub record RunsOneOver {L A : Type 0} (carries : L → L → Traffic → Type 0) (failed : L → ℕ) (old : Session × L)
    (event : EventValue) (added : List (RecordValue A)) (new : Session × L) : Type 0 where
  pub runs : RunsOver carries failed old.0 old.1 (event_of event ∷ []) (map run_record_of added) new.0 new.1
  pub shown : AreShownAfter old.0.world (event_of event) added
