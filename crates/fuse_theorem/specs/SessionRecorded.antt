-- What is recorded of a list of events over a link that may fail.
use Rattle.std.specs.Prelude.{◌≡◌, List, [], ◌∷◌, ◌++◌, map}
use Rattle.fuse_spec.specs.declared.Refusal.{Refusal}
use Rattle.fuse_spec.specs.declared.Refusal.TheVariants.{LinkLost}
use Rattle.fuse_spec.specs.World.Worlds.{World}
use Rattle.fuse_spec.specs.World.Events.{Event, Outcome, abort, aborted}
use Rattle.fuse_spec.specs.World.Records.{Record, outcome, refused, link_lost, answers_of, collected}
use Rattle.fuse_spec.specs.Claim.Sessions.{Session, linked, lost}
use Rattle.fuse_spec.specs.World.Steps.{Happens, RefusedWith}
use Rattle.fuse_theorem.specs.Recorded.{Recorded}

-- The records of a list of events, as the machine and the link give them. In any accepted event after which a mount is
-- live the link may be lost.
pub data SessionRecorded : Session → List Event → List Record → Session → Type 0 where
  none_left : (s : Session) → SessionRecorded s [] [] s
  one_refused : (w : World) (event : Event) (refusal : Refusal) (events : List Event) (records : List Record)
      (after : Session)
      → RefusedWith w event refusal → SessionRecorded (linked w) events records after
      → SessionRecorded (linked w) (event ∷ events) (refused refusal ∷ records) after
  one_accepted : (w : World) (event : Event) (o : Outcome) (mid : World) (events : List Event) (records : List Record)
      (after : Session)
      → Happens w event o mid → SessionRecorded (linked (collected mid)) events records after
      → SessionRecorded (linked w) (event ∷ events) (outcome o ∷ answers_of mid.kernel.vfs.answers ++ records) after
  one_lost : (w : World) (event : Event) (o : Outcome) (mid last : World) (events : List Event) (records : List Record)
      (after : Session)
      → Happens w event o mid → Happens mid abort aborted last
      → SessionRecorded (lost (collected last)) events records after
      → SessionRecorded (linked w) (event ∷ events) (outcome o ∷ link_lost ∷ answers_of last.kernel.vfs.answers
      ++ records) after
  one_too_late : (w : World) (event : Event) (events : List Event) (records : List Record) (after : Session)
      → SessionRecorded (lost w) events records after → SessionRecorded (lost w) (event ∷ events)
      (refused LinkLost ∷ records) after

-- A list in which the link is lost: the events before that, the one in which it is lost, and the later ones, each
-- refused.
pub record LostIn (w : World) (events : List Event) (records : List Record) (after : World) : Type 0 where
  pub before : List Event
  pub event : Event
  pub later : List Event
  pub all : events ≡ before ++ event ∷ later
  pub earlier : List Record
  pub there : World
  pub recorded : Recorded w before earlier there
  pub outcome_of : Outcome
  pub mid : World
  pub happens : Happens there event outcome_of mid
  pub last : World
  pub aborts : Happens mid abort aborted last
  pub records_are : records ≡ earlier ++ (outcome outcome_of ∷ link_lost ∷ answers_of last.kernel.vfs.answers
      ++ map (λ _. refused LinkLost) later)
  pub after_is : after ≡ collected last
