-- A session: what was done at a device, in the device's order. And the words in which rules speak of it.
use Rattle.std.specs.Prelude.{ℕ, ◌-◌, max, Bool, List, [], ◌∷◌, ◌++◌, Option, Some, None, if◌then◌else◌, sum_by}
use Rattle.std.specs.List.{list_any}
use Rattle.fuse_sessions.specs.declared.act.Act.{Act}

abbrev pub Session : Type 0
Session = List Act

-- An act, with the session before it.
abbrev pub Moment : Type 0
Moment = Session × Act

-- the moments of acts that follow a session
abbrev pub moments_after : Session → List Act → List Moment
moments_after before [] = []
moments_after before (act ∷ later) = (before, act) ∷ moments_after (before ++ act ∷ []) later

-- the moments of a session
abbrev pub moments : Session → List Moment
moments s = moments_after [] s

-- a later answer, where there is one, in place of an earlier
abbrev pub or_earlier : {X : Type 0} → Option X → Option X → Option X
or_earlier (Some x) earlier = Some x
or_earlier None earlier = earlier

module _ {A : Type 0} where
  -- the answer of the last that gives one
  abbrev pub latest : {X : Type 0} → (A → Option X) → List A → Option X
  latest f [] = None
  latest f (a ∷ later) = or_earlier (latest f later) (f a)

  -- what comes after the last that passes a test, or all
  abbrev pub since : (A → Bool) → List A → List A
  since test [] = []
  since test (a ∷ later) = if list_any test later then since test later else (if test a then later else a ∷ later)

  -- What is given less what is taken back, where no more is taken back than there is: the best balance of a last part.
  -- While no more is taken back than there is, it is that of the whole. Where more is, nothing is left, and no debt.
  abbrev pub left : (gives takes : A → ℕ) → List A → ℕ
  left gives takes [] = 0
  left gives takes (a ∷ later) = max (sum_by gives (a ∷ later) - sum_by takes (a ∷ later)) (left gives takes later)
