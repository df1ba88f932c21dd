-- What goes over a device in turn.
use Rattle.std.specs.Prelude.{◌≡◌, ℕ, List, [], ◌∷◌, ◌++◌, Option, take}
use Rattle.std.specs.Io.KnownBytes.{Appends}
use Rattle.std.proofs.Common.{zero, suc, refl, sym, ap, subst, ◌∙◌, append_assoc, append-nil}
use Rattle.std.proofs.KnownBytes.{Appends-nil, Appends-trans}
use Rattle.fuse_sessions.specs.declared.transfer.Transfer.{Transfer as Said}
use Rattle.fuse_device.specs.Transfers.{Transfer}
use Rattle.fuse_text.specs.Outputs.{AppendsSome}
use Rattle.fuse_text.proofs.Writes.{some_first, some_none, some_then}
use Rattle.fw_judged.specs.declared.form.Form.{Form}
use Rattle.fw_judged.specs.declared.stage.Stage.{Stage}
use Rattle.fw_judged.specs.declared.stage.Stage.TheVariants as stage
use Rattle.fw_judged.specs.Judged.{Goes, Got, IsRight, IsStep, IsWatched, LinesState, Seen}

-- ---- the writer

take_none : (n : ℕ) → (λ (l : List ℕ). take n l) [] ≡ []
take_none zero = refl
take_none (suc n) = refl

-- nothing was written
pub got_nothing : (to : Stage) (known : Option (List ℕ)) → Got to known known []
got_nothing stage.Judging known = Appends-nil known
got_nothing stage.NoMemory known = Appends-nil known
got_nothing stage.Refused known = some_none known known [] (Appends-nil known)

-- what was written before, with nothing behind it
some_kept : (old mid new : Option (List ℕ)) (text : List ℕ) → AppendsSome old mid text → AppendsSome mid new []
    → AppendsSome old new text
some_kept old mid new text some none = record {
  count = some.count;
  part = subst (λ (l : List ℕ). Appends old new l) (append-nil (take some.count text))
      (Appends-trans old mid new (take some.count text) [] some.part
      (subst (λ (l : List ℕ). Appends mid new l) (take_none none.count) none.part));
}

-- ---- calls in turn

module _ (f : Form) (Says : Seen → Transfer → Said → Type 0) where
  -- once the writer refused, nothing is printed
  refused_goes : (s : Seen) (log : List Transfer) (to : Stage) (later : Seen) (text : List ℕ)
      → Goes f Says stage.Refused s log to later text → (to ≡ stage.Refused) × (text ≡ [])
  refused_goes s [] to later text (same, kept, none) = (same, none)
  refused_goes s (t ∷ log) to later text (stage.Judging, next, first, rest, step, goes, is) = absurd step
  refused_goes s (t ∷ log) to later text (stage.NoMemory, next, first, rest, step, goes, is) = absurd step
  refused_goes s (t ∷ log) to later text (stage.Refused, next, first, rest, step, goes, is) =
      let over = refused_goes next log to later rest goes in
      (over.0, is ∙ ap (λ (l : List ℕ). l ++ rest) step.1 ∙ over.1)

  goes_then : (from mid to : Stage) (s next later : Seen) (h k : List Transfer) (x y : List ℕ)
      → Goes f Says from s h mid next x → Goes f Says mid next k to later y → Goes f Says from s (h ++ k) to later (x ++ y)
  goes_then from mid to s next later [] k x y (same, kept, none) two =
      subst (λ (l : List ℕ). Goes f Says from s k to later l) (sym (ap (λ (l : List ℕ). l ++ y) none))
      (subst (λ (a : Stage). Goes f Says a s k to later y) same (subst (λ (n : Seen). Goes f Says mid n k to later y) kept two))
  goes_then from mid to s next later (t ∷ h) k x y (then, after, first, rest, step, goes, is) two = (
    then,
    after,
    first,
    rest ++ y,
    step,
    goes_then then mid to after next later h k rest y goes two,
    ap (λ (l : List ℕ). l ++ y) is ∙ append_assoc first rest y,
  )

  got_then : (mid to : Stage) (s later : Seen) (log : List Transfer) (a b c : Option (List ℕ)) (x y : List ℕ)
      → Goes f Says mid s log to later y → Got mid a b x → Got to b c y → Got to a c (x ++ y)
  got_then stage.Judging stage.Judging s later log a b c x y goes one two = Appends-trans a b c x y one two
  got_then stage.Judging stage.NoMemory s later log a b c x y goes one two = Appends-trans a b c x y one two
  got_then stage.Judging stage.Refused s later log a b c x y goes one two = some_then a b c x y (x ++ y) refl one two
  got_then stage.NoMemory stage.Judging s later log a b c x y goes one two = Appends-trans a b c x y one two
  got_then stage.NoMemory stage.NoMemory s later log a b c x y goes one two = Appends-trans a b c x y one two
  got_then stage.NoMemory stage.Refused s later log a b c x y goes one two = some_then a b c x y (x ++ y) refl one two
  got_then stage.Refused to s later log a b c x y goes one two =
      let over = refused_goes s log to later y goes in
      let none = subst (λ (l : List ℕ). AppendsSome b c l) over.1 (subst (λ (st : Stage). Got st b c y) over.0 two) in
      subst (λ (st : Stage). Got st a c (x ++ y)) (sym over.0)
      (some_first a c x y (x ++ y) refl (some_kept a b c x one none))

  pub nothing_watched : (l : LinesState) (known : Option (List ℕ)) → IsWatched f Says l l known known []
  nothing_watched l known s right = (s, [], right, (refl, refl, refl), got_nothing l.stage known)

  pub watched_in_turn : (first mid last : LinesState) (a b c : Option (List ℕ)) (h k : List Transfer)
      → IsWatched f Says first mid a b h → IsWatched f Says mid last b c k → IsWatched f Says first last a c (h ++ k)
  watched_in_turn first mid last a b c h k one two s right =
      let (next, x, so_far, goes, got) = one s right in
      let (later, y, at_last, goes_on, got_more) = two next so_far in (
        later,
        x ++ y,
        at_last,
        goes_then first.stage mid.stage last.stage s next later h k x y goes goes_on,
        got_then mid.stage last.stage next later k a b c x y goes_on got got_more,
      )

  pub one_watched : (old new : LinesState) (had has : Option (List ℕ)) (t : Transfer)
      → ((s : Seen) → IsRight f old s → IsStep f (λ said. Says s t said) old new had has s)
      → IsWatched f Says old new had has (t ∷ [])
  one_watched old new had has t steps s right =
      let (later, text, after, step, got) = steps s right in (
        later,
        text,
        after,
        (new.stage, later, text, [], step, (refl, refl, refl), sym (append-nil text)),
        got,
      )
