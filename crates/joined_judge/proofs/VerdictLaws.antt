-- Verdicts without the faults that are not certain.
use Rattle.std.proofs.Common.{◌≡◌, ◌↔◌, ℕ, zero, suc, Bool, true, false, cond, List, [], ◌∷◌, ◌++◌, Option, Some, None, length, map, take, refl, sym, ◌∙◌, ap, subst}
use Rattle.std.specs.Prelude.{slice_get}
use Rattle.std.proofs.lemmas.Option.{none-some, same_Some}
use Rattle.fuse_sessions.specs.declared.act.Act.{Act}
use Rattle.fuse_sessions.specs.declared.fault.Fault.{Fault}
use Rattle.fuse_sessions.specs.declared.known.Known.{Known}
use Rattle.fuse_sessions.specs.declared.transfer.Transfer.{Transfer}
use Rattle.fuse_sessions.specs.Sessions.{Session}
use Rattle.fuse_sessions.specs.Faults.{Breaks, HasFaultAt}
use Rattle.fuse_judge.specs.Transfers.{AreFaults, HasSeenFrom, IsJudged, SessionState}
use Rattle.joined_sessions.specs.Joined.{HasJoinedFaultAt, is_certain}
use Rattle.joined_judge.specs.Judging.{AreFaultsAs, IsJudgedAs, certain_verdict, certain_verdicts}

map_length : (vs : List (Option Fault)) → length (certain_verdicts vs) ≡ length vs
map_length [] = refl
map_length (v ∷ vs) = ap suc (map_length vs)

-- a verdict that is kept was there, and is certain
kept_was : (v : Option Fault) (f : Fault) → certain_verdict v ≡ Some f → (v ≡ Some f) × (is_certain f ≡ true)
kept_was None f e = absurd (none-some f e)
kept_was (Some g) f e = by (is_certain g) refl e
  where
    by : (b : Bool) → is_certain g ≡ b → cond b (Some g) None ≡ Some f → (Some g ≡ Some f) × (is_certain f ≡ true)
    by true is e = (e, subst (λ h. is_certain h ≡ true) (same_Some g f e) is)
    by false is e = absurd (none-some f e)

kept_is : (f : Fault) → is_certain f ≡ true → certain_verdict (Some f) ≡ Some f
kept_is f e = ap (λ b. cond b (Some f) None) e

-- what stands at a place
was_at : (vs : List (Option Fault)) (place : ℕ) (f : Fault) → slice_get (certain_verdicts vs) place ≡ Some (Some f)
    → (slice_get vs place ≡ Some (Some f)) × (is_certain f ≡ true)
was_at [] place f e = absurd (none-some _ e)
was_at (v ∷ vs) zero f e = let was = kept_was v f (same_Some (certain_verdict v) (Some f) e) in (ap Some was.0, was.1)
was_at (v ∷ vs) (suc place) f e = was_at vs place f e

is_at : (vs : List (Option Fault)) (place : ℕ) (f : Fault) → is_certain f ≡ true → slice_get vs place ≡ Some (Some f)
    → slice_get (certain_verdicts vs) place ≡ Some (Some f)
is_at [] place f c e = absurd (none-some _ e)
is_at (v ∷ vs) zero f c e = ap (λ w. Some (certain_verdict w)) (same_Some v (Some f) e) ∙ ap Some (kept_is f c)
is_at (v ∷ vs) (suc place) f c e = is_at vs place f c e

pub certain_faults : (s : Session) (acts : List Act) (vs : List (Option Fault)) → AreFaults s acts vs
    → AreFaultsAs true s acts (certain_verdicts vs)
certain_faults s acts vs are place f = (
  (λ e. let was = was_at vs place f e in
      let at : HasFaultAt s acts place f = (are place f).0 was.0 in
      record { act = at.act; stands = at.stands; breaks = record { breaks = at.breaks; certain = was.1 } }),
  (λ at. is_at vs place f at.breaks.certain
      ((are place f).1 record { act = at.act; stands = at.stands; breaks = at.breaks.breaks })),
)

module _ (start : Known) (before : List Transfer) (s : Session) (t : Transfer) (old new : SessionState) (acts : List Act)
    (vs : List (Option Fault)) (is : IsJudged start before s t old new acts vs) where
  pub judged_whole : IsJudgedAs false start before s t old new acts vs
  judged_whole = record { are = is.are; once = is.once; faults = is.faults; each = is.each; seen = is.seen }

  pub judged_joined : IsJudgedAs true start before s t old new acts (certain_verdicts vs)
  judged_joined = record {
    are = is.are;
    once = is.once;
    faults = certain_faults s acts vs is.faults;
    each = map_length vs ∙ is.each;
    seen = is.seen;
  }
