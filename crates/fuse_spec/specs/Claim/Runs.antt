-- The headline, over whole lists of events.
use Rattle.std.specs.Prelude.{◌≡◌, ◌<◌, ℕ, List, [], ◌∷◌, ◌++◌, None, All, AllPairs, ◌≢◌, ◌⊎◌}
use Rattle.fuse_spec.specs.Values.Maps.{get, remove}
use Rattle.fuse_spec.specs.declared.Refusal.{Refusal}
use Rattle.fuse_spec.specs.World.Worlds.{World}
use Rattle.fuse_spec.specs.World.Events.{Event, Outcome}
use Rattle.fuse_spec.specs.World.Steps.{Happens, RefusedWith}
use Rattle.fuse_spec.specs.World.Records.{Record, outcome, refused, answered, answers_of, collected}
use Rattle.fuse_spec.specs.Reference.Plain.{Plain}
use Rattle.fuse_spec.specs.Reference.PlainWords.{Steps}
use Rattle.fuse_spec.specs.Claim.Counts.{Protocol}
use Rattle.fuse_spec.specs.Claim.Alike.{Alike}

-- The plain world once the answer of one call is collected.
abbrev pub plain_handed_out : Plain → ℕ → Plain
plain_handed_out p call = record p { vfs = record p.vfs { answers = remove p.vfs.answers call } }

-- The plain world once its answers are collected.
abbrev pub plain_collected : Plain → Plain
plain_collected p = record p { vfs = record p.vfs { answers = [] } }

-- An accepted event: the world moves as it may, the plain world takes in words of its own the step of the event and its
-- outcome, the two are alike again, and the records are the outcome and then the answers that the plain world gave.
pub record Accepts (w : World) (p : Plain) (event : Event) (records : List Record) (w' : World)
    (p' : Plain) : Type 0 where
  pub outcome_of : Outcome
  pub mid : World
  pub plain : Plain
  pub happens : Happens w event outcome_of mid
  pub steps : Steps p event outcome_of plain
  pub alike : Alike mid plain
  pub keeps : Protocol mid
  pub recorded : records ≡ outcome outcome_of ∷ answers_of plain.vfs.answers
  pub after : w' ≡ collected mid
  pub plain_after : p' ≡ plain_collected plain

-- A refused event changes nothing, and its refusal is what is recorded: the machine's, or out of memory.
pub record RefusesEvent (w : World) (p : Plain) (event : Event) (records : List Record) (w' : World)
    (p' : Plain) : Type 0 where
  pub refusal : Refusal
  pub judged : RefusedWith w event refusal
  pub recorded : records ≡ refused refusal ∷ []
  pub after : w' ≡ w
  pub plain_after : p' ≡ p

-- One event with these records leads from the one pair of worlds to the other.
abbrev pub Moves : World → Plain → Event → List Record → World → Plain → Type 0
Moves w p event records w' p' = Accepts w p event records w' p' ⊎ RefusesEvent w p event records w' p'

-- A list of events does, one event after another.
abbrev pub Run : World → Plain → List Event → List Record → World → Plain → Type 0
Run w p [] records w' p' = (records ≡ []) × (w' ≡ w) × (p' ≡ p)
Run w p (event ∷ events) records w' p' =
    (first : List Record) × (rest : List Record) × (mid : World) × (plain : Plain) × (records ≡ first ++ rest)
    × Moves w p event first mid plain × Run mid plain events rest w' p'

-- Two records that don't answer the same call.
abbrev pub AnswersApart : Record → Record → Type 0
AnswersApart (answered a x) (answered b y) = a ≢ b
AnswersApart x y = Unit {0}

-- Each call is answered at most once.
abbrev pub AnswersOnce : List Record → Type 0
AnswersOnce records = AllPairs AnswersApart records

-- A call that is over: it has begun, is not unanswered, and its answer is collected.
pub record IsOver (w : World) (call : ℕ) : Type 0 where
  pub begun : call < w.kernel.vfs.next_call
  pub not_waiting : get w.kernel.vfs.calls call ≡ None
  pub no_answer : get w.kernel.vfs.answers call ≡ None

-- A record that answers a call: the call was not over in the one world, and is in the other.
abbrev pub EndsCall : World → World → Record → Type 0
EndsCall old new (answered call a) = (IsOver old call → ⊥) × IsOver new call
EndsCall old new other = Unit {0}

-- Each call that these records answer is over with them, and one that was over stays so: so it is answered in no later
-- list.
pub record CallsEnd (old : World) (records : List Record) (new : World) : Type 0 where
  pub ended : All (EndsCall old new) records
  pub stay : (call : ℕ) → IsOver old call → IsOver new call
