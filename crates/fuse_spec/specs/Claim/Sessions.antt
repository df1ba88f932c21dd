-- The headline over a link of bytes that may fail: a session is the world and whether its link is lost.
use Rattle.std.specs.Prelude.{◌≡◌, Bool, true, false, List, [], ◌∷◌, ◌++◌}
use Rattle.fuse_spec.specs.declared.Refusal.TheVariants.{LinkLost}
use Rattle.fuse_spec.specs.World.Worlds.{World}
use Rattle.fuse_spec.specs.World.Events.{Event, Outcome, abort, aborted}
use Rattle.fuse_spec.specs.World.Steps.{Happens}
use Rattle.fuse_spec.specs.World.Records.{Record, outcome, refused, link_lost, answers_of, collected}
use Rattle.fuse_spec.specs.Reference.Plain.{Plain}
use Rattle.fuse_spec.specs.Reference.PlainWords.{Steps}
use Rattle.fuse_spec.specs.Claim.Counts.{Protocol}
use Rattle.fuse_spec.specs.Claim.Alike.{Alike}
use Rattle.fuse_spec.specs.Claim.Runs.{Moves, plain_collected}

-- The world, and whether the link between its two sides is lost.
pub record Session : Type 0 where
  pub world : World
  pub is_lost : Bool

-- A session whose link is not lost.
abbrev pub linked : World → Session
linked w = record { world = w; is_lost = false }

-- A session whose link is lost.
abbrev pub lost : World → Session
lost w = record { world = w; is_lost = true }

-- An accepted event in which the link is lost: the event happens, and then the mount is aborted. The plain world takes
-- the steps of both, and is alike to the world after each. The records are the outcome, that the link is lost, and then
-- the answers that the plain world gave in both steps.
pub record Loses (w : World) (p : Plain) (event : Event) (records : List Record) (w' : World)
    (p' : Plain) : Type 0 where
  pub outcome_of : Outcome
  pub mid : World
  pub plain : Plain
  pub happens : Happens w event outcome_of mid
  pub steps : Steps p event outcome_of plain
  pub alike : Alike mid plain
  pub keeps : Protocol mid
  pub last : World
  pub plain_last : Plain
  pub aborts : Happens mid abort aborted last
  pub plain_aborts : Steps plain abort aborted plain_last
  pub alike_last : Alike last plain_last
  pub keeps_last : Protocol last
  pub recorded : records ≡ outcome outcome_of ∷ link_lost ∷ answers_of plain_last.vfs.answers
  pub after : w' ≡ collected last
  pub plain_after : p' ≡ plain_collected plain_last

-- One event of a session: as in a world while the link is not lost, or the link is lost in it, or it was before and
-- every event is refused and changes nothing.
pub data SessionMoves (p : Plain) (event : Event) (records : List Record) : Session → Session → Plain → Type 0 where
  moves : (w w' : World) (p' : Plain) → Moves w p event records w' p'
      → SessionMoves p event records (linked w) (linked w') p'
  loses : (w w' : World) (p' : Plain) → Loses w p event records w' p'
      → SessionMoves p event records (linked w) (lost w') p'
  refuses : (w : World) → records ≡ refused LinkLost ∷ [] → SessionMoves p event records (lost w) (lost w) p

-- A list of events does, one event after another.
abbrev pub SessionRun : Session → Plain → List Event → List Record → Session → Plain → Type 0
SessionRun s p [] records s' p' = (records ≡ []) × (s' ≡ s) × (p' ≡ p)
SessionRun s p (event ∷ events) records s' p' =
    (first : List Record) × (rest : List Record) × (mid : Session) × (plain : Plain) × (records ≡ first ++ rest)
    × SessionMoves p event first s mid plain × SessionRun mid plain events rest s' p'
