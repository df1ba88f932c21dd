-- One call over a device: what is judged of it, or not.
use Rattle.std.proofs.Common.{◌≡◌, ◌+◌, ◌++◌, ℕ, List, [], Option, true, false, refl, sym, ap, subst, ◌∙◌, inl, inr, true≢false}
use Rattle.std.specs.Io.KnownBytes.{Appends}
use Rattle.std.specs.Prelude.{OnErr, OnOk, Result, Ok, Err}
use Rattle.std.specs.Result.{is_err}
use Rattle.std.proofs.lemmas.List.Sums.{sum_by-append}
use Rattle.fuse_sessions.specs.declared.fault.Fault.{Fault}
use Rattle.fuse_sessions.specs.declared.fault.Party.{Party}
use Rattle.fuse_sessions.specs.declared.transfer.Transfer.{Transfer as Said}
use Rattle.fw_check.specs.Counting.{faults_in}
use Rattle.fuse_text.specs.Outputs.{AppendsSome}
use Rattle.fw_check.specs.Tallies.{is_of, one_if}
use Rattle.fw_judged.specs.declared.form.Form.{Form}
use Rattle.fw_judged.specs.declared.stage.Stage.{Stage}
use Rattle.fw_judged.specs.declared.stage.Stage.TheVariants as stage
use Rattle.fw_judged.specs.Judged.{AreCounted, Got, HasJudged, IsOver, IsRight, IsStep, Judges, LinesState, Seen, Steps, gave_up, is_judging}
use Rattle.fw_judged.specs.Turns.{got_nothing}

-- ---- results

pub ok_holds : {T E : Type 0} (P : Type 0) (r : Result T E) → is_err r ≡ false → OnOk r P → P
ok_holds P (Ok x) good h = h
ok_holds P (Err e) good h = absurd (true≢false good)

pub err_holds : {T E : Type 0} (P : Type 0) (r : Result T E) → is_err r ≡ true → OnErr r P → P
err_holds P (Ok x) bad h = absurd (true≢false (sym bad))
err_holds P (Err e) bad h = h

-- ---- stages

over_not_judging : (st : Stage) → IsOver st → st ≡ stage.Judging → ⊥
over_not_judging stage.Judging over e = absurd over
over_not_judging stage.NoMemory over e = true≢false (sym (ap is_judging e))
over_not_judging stage.Refused over e = true≢false (sym (ap is_judging e))

step_nothing : (f : Form) (Says : Said → Type 0) (st : Stage) (s : Seen) → IsOver st → Steps f Says st s st s []
step_nothing f Says stage.Judging s over = absurd over
step_nothing f Says stage.NoMemory s over = (refl, refl)
step_nothing f Says stage.Refused s over = (refl, refl)

step_over : (f : Form) (Says : Said → Type 0) (st : Stage) (s : Seen) → IsOver st → Steps f Says stage.Judging s st s (gave_up f)
step_over f Says stage.Judging s over = absurd over
step_over f Says stage.NoMemory s over = (refl, refl)
step_over f Says stage.Refused s over = inr (refl, refl)

-- ---- calls

-- nothing is judged any more
pub rests : (f : Form) (Says : Said → Type 0) (l : LinesState) (known : Option (List ℕ)) (s : Seen) → IsOver l.stage → IsRight f l s
    → IsStep f Says l l known known s
rests f Says l known s over right = (s, [], right, step_nothing f Says l.stage s over, got_nothing l.stage known)

-- memory runs out
pub gives_up : (f : Form) (Says : Said → Type 0) (old new : LinesState) (had has : Option (List ℕ)) (s : Seen) → IsRight f old s
    → old.stage ≡ stage.Judging → new.form ≡ old.form → new.counts ≡ old.counts → IsOver new.stage → Got new.stage had has (gave_up f)
    → IsStep f Says old new had has s
gives_up f Says old new had has s right judging formed same over got = (
  s,
  gave_up f,
  record {
    form = formed ∙ right.form;
    counts = subst (AreCounted s.verdicts) (sym same) right.counts;
    judged = λ is. absurd (over_not_judging new.stage over is);
  },
  subst (λ (st : Stage). Steps f Says st s new.stage s (gave_up f)) (sym judging) (step_over f Says new.stage s over),
  got,
)

-- a transfer is judged, and its lines are written
pub judged_whole : (f : Form) (Says : Said → Type 0) (old new : LinesState) (had has : Option (List ℕ)) (s later : Seen) (text : List ℕ)
    → new.form ≡ f → old.stage ≡ stage.Judging → new.stage ≡ stage.Judging → Judges f Says s later text
    → HasJudged later new.judge new.number → AreCounted later.verdicts new.counts → Appends had has text
    → IsStep f Says old new had has s
judged_whole f Says old new had has s later text formed was is judges seen counted got = (
  later,
  text,
  record { form = formed; counts = counted; judged = λ still. seen },
  subst (λ (st : Stage). Steps f Says st s new.stage later text) (sym was)
      (subst (λ (st : Stage). Steps f Says stage.Judging s st later text) (sym is) judges),
  subst (λ (st : Stage). Got st had has text) (sym is) got,
)

-- or a beginning of them
pub judged_refused : (f : Form) (Says : Said → Type 0) (old new : LinesState) (had has : Option (List ℕ)) (s later : Seen) (text : List ℕ)
    → new.form ≡ f → old.stage ≡ stage.Judging → new.stage ≡ stage.Refused → Judges f Says s later text
    → AreCounted later.verdicts new.counts → AppendsSome had has text → IsStep f Says old new had has s
judged_refused f Says old new had has s later text formed was is judges counted got = (
  later,
  text,
  record {
    form = formed;
    counts = counted;
    judged = λ still. absurd (over_not_judging stage.Refused tt (sym is ∙ still));
  },
  subst (λ (st : Stage). Steps f Says st s new.stage later text) (sym was)
      (subst (λ (st : Stage). Steps f Says stage.Judging s st later text) (sym is) (inl judges)),
  subst (λ (st : Stage). Got st had has text) (sym is) got,
)

-- ---- what a transfer is said to be

module _ (f : Form) (Says Other : Said → Type 0) (as_other : (said : Said) → Says said → Other said) where
  judges_as : (s later : Seen) (text : List ℕ) → Judges f Says s later text → Judges f Other s later text
  judges_as s later text j = record {
    said = j.said;
    acts = j.acts;
    verdicts = j.verdicts;
    known = j.known;
    is = as_other j.said j.is;
    are = j.are;
    each = j.each;
    faults = j.faults;
    after = j.after;
    lines = j.lines;
  }

  steps_as : (from to : Stage) (s later : Seen) (text : List ℕ) → Steps f Says from s to later text
      → Steps f Other from s to later text
  steps_as stage.Judging stage.Judging s later text h = judges_as s later text h
  steps_as stage.Judging stage.NoMemory s later text h = h
  steps_as stage.Judging stage.Refused s later text h = elim h [
    | inl j ↦ inl (judges_as s later text j)
    | inr gone ↦ inr gone
  ]
  steps_as stage.NoMemory stage.Judging s later text h = absurd h
  steps_as stage.NoMemory stage.NoMemory s later text h = h
  steps_as stage.NoMemory stage.Refused s later text h = absurd h
  steps_as stage.Refused stage.Judging s later text h = absurd h
  steps_as stage.Refused stage.NoMemory s later text h = absurd h
  steps_as stage.Refused stage.Refused s later text h = h

  pub step_as : (old new : LinesState) (had has : Option (List ℕ)) (s : Seen) → IsStep f Says old new had has s
      → IsStep f Other old new had has s
  step_as old new had has s (later, text, right, step, got) =
      (later, text, right, steps_as old.stage new.stage s later text step, got)

-- the transfer that is judged is such a one
pub step_is : (f : Form) (t : Said) (Other : Said → Type 0) → Other t → (old new : LinesState) (had has : Option (List ℕ)) (s : Seen)
    → IsStep f (λ said. said ≡ t) old new had has s → IsStep f Other old new had has s
step_is f t Other is = step_as f (λ said. said ≡ t) Other (λ said same. subst Other (sym same) is)

-- ---- counts

-- a sum with more elements
pub more_faults : (p : Party) (before more : List (Option Fault)) (old new : ℕ) → old ≡ faults_in p before
    → new ≡ old + faults_in p more → new ≡ faults_in p (before ++ more)
more_faults p before more old new was is =
    is ∙ ap (λ n. n + faults_in p more) was ∙ sym (sum_by-append (λ v. one_if (is_of p v)) before more)
