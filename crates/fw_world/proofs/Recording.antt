-- Lists of events, and what is recorded of each.
use Rattle.std.proofs.Common.{◌≡◌, ℕ, ◌+◌, ◌<◌, ◌≤◌, List, [], ◌∷◌, ◌++◌, Result, Ok, Err, OnOk, OnErr, is_err, true, false, length, map, take, get_or, ap, sym, subst, ◌∙◌}
use Rattle.std.proofs.lemmas.List.{append_assoc, append-nil, map-append, take_more, take_all}
use Rattle.fuse_spec.specs.declared.Refusal.{Refusal}
use Rattle.fuse_spec.specs.World.Worlds.{World}
use Rattle.fuse_spec.specs.World.Events.{Event}
use Rattle.fuse_spec.specs.World.Records as records
use Rattle.fuse_spec.specs.World.Records.{answers_of, collected}
use Rattle.fuse_spec.specs.World.Steps.{Happens, RefusedWith}
use Rattle.fuse_theorem.specs.Recorded.{Recorded, none_left, one_refused, one_accepted}
use Rattle.fuse_theorem.specs.SoundWorlds.{IsSoundWorld}
use Rattle.fuse_theorem.proofs.Refining.Refining.{list_refines, list_answers, list_keeps}
use Rattle.fw_world.specs.declared.event.Event.{Event as EventValue}
use Rattle.fw_world.specs.declared.event.Outcome.{Outcome as OutcomeValue}
use Rattle.fw_world.specs.declared.record.Record.{Record}
use Rattle.fw_world.specs.declared.record.Record.TheVariants as recorded
use Rattle.fw_world.specs.Values.{event_of, outcome_of, run_record_of}
use Rattle.fw_world.specs.Frames.{AreShownAfter, IsShown}
use Rattle.fw_world.specs.Runs.{RunsAs, RunsOne, RunsEach, no_event, event_ran}

-- ---- lists one after another

pub then_recorded : (w mid after : World) (events more : List Event) (rs ss : List records.Record)
    → Recorded w events rs mid → Recorded mid more ss after → Recorded w (events ++ more) (rs ++ ss) after
then_recorded w mid after events more rs ss (none_left v) next = next
then_recorded w mid after events more rs ss (one_refused v e refusal rest records last judged old) next =
    one_refused v e refusal (rest ++ more) (records ++ ss) after judged
    (then_recorded v last after rest more records ss old next)
then_recorded w mid after events more rs ss (one_accepted v e o moved rest records last happens old) next =
    rw append_assoc
    (one_accepted v e o moved (rest ++ more) (records ++ ss) after happens
    (then_recorded (collected moved) last after rest more records ss old next))

pub then_each : {S A : Type 0} → (Runs : S → EventValue → List (Record A) → S → Type 0) (first mid last : S)
    (events more : List EventValue) (rs ss : List (Record A))
    → RunsEach Runs first events rs mid → RunsEach Runs mid more ss last
    → RunsEach Runs first (events ++ more) (rs ++ ss) last
then_each Runs first mid last events more rs ss (no_event s) then = then
then_each Runs first mid last events more rs ss (event_ran s e added next rest records end ran old) then =
    rw append_assoc
    (event_ran s e added next (rest ++ more) (records ++ ss) last ran
    (then_each Runs next end last rest more records ss old then))

-- One event more.
pub one_more_ran : {S A : Type 0} → (Runs : S → EventValue → List (Record A) → S → Type 0) (first mid last : S)
    (events : List EventValue) (k : ℕ) (d : EventValue) (rs ss : List (Record A)) → k < length events
    → RunsEach Runs first (take k events) rs mid → Runs mid (get_or events k d) ss last
    → RunsEach Runs first (take (k + 1) events) (rs ++ ss) last
one_more_ran {S} {A} Runs first mid last events k d rs ss within each one =
    let last_one : RunsEach Runs mid (get_or events k d ∷ []) ss last =
    subst (λ (xs : List (Record A)). RunsEach Runs mid (get_or events k d ∷ []) xs last) (append-nil ss)
    (event_ran mid (get_or events k d) ss last [] [] last one (no_event last)) in
    subst (λ (es : List EventValue). RunsEach Runs first es (rs ++ ss) last) (sym (take_more events k d within))
    (then_each Runs first mid last (take k events) (get_or events k d ∷ []) rs ss each last_one)

-- The events ran one after another, and these records were added.
pub record RanSo {A : Type 0} (old : World) (events : List EventValue) (had : List (Record A)) (new : World)
    (has : List (Record A)) : Type 0 where
  pub added : List (Record A)
  pub items : has ≡ had ++ added
  pub recorded : Recorded old (map event_of events) (map run_record_of added) new
  pub each : RunsEach RunsOne old events added new

pub none_ran : {A : Type 0} → (w : World) (events : List EventValue) (had : List (Record A))
    → RanSo w (take 0 events) had w had
none_ran w events had = record {
  added = [];
  items = sym (append-nil had);
  recorded = none_left w;
  each = no_event w;
}

-- What is added of one event.
abbrev pub AddsOne : {A : Type 0} → World → EventValue → List (Record A) → World → List (Record A) → Type 0
AddsOne {A} old e had new has = (added : List (Record A)) × (has ≡ had ++ added)
    × Recorded old (event_of e ∷ []) (map run_record_of added) new × RunsOne old e added new

-- What the machine records of one event is a run of it.
runs_one : {A : Type 0} → (old : World) → IsSoundWorld old → (e : EventValue) (added : List (Record A)) (new : World)
    → Recorded old (event_of e ∷ []) (map run_record_of added) new → AreShownAfter old (event_of e) added
    → RunsOne old e added new
runs_one old here e added new recorded_so shown_so =
    let events = event_of e ∷ [] in
    let answers = list_answers old here events (map run_record_of added) new recorded_so in
    record {
      runs = record {
        plain_run = λ p refines. list_refines old here events (map run_record_of added) new recorded_so p refines;
        keeps = list_keeps old here events (map run_record_of added) new recorded_so;
        once = answers.0;
        ended = answers.1;
      };
      shown = shown_so;
    }

pub one_more : {A : Type 0} → (old : World) (events : List EventValue) (had : List (Record A)) (w : World)
    (has : List (Record A)) (k : ℕ) (d : EventValue) (new : World) (more : List (Record A))
    → k < length events → RanSo old (take k events) had w has → AddsOne w (get_or events k d) has new more
    → RanSo old (take (k + 1) events) had new more
one_more {A} old events had w has k d new more within ran adds =
    let whole : take (k + 1) events ≡ take k events ++ get_or events k d ∷ [] = take_more events k d within in
    let joined = then_recorded old w new (map event_of (take k events)) (event_of (get_or events k d) ∷ [])
    (map run_record_of ran.added) (map run_record_of adds.0) ran.recorded adds.2 in
    let events_are : map event_of (take k events) ++ event_of (get_or events k d) ∷ []
    ≡ map event_of (take (k + 1) events) =
    sym (map-append event_of (take k events) (get_or events k d ∷ [])) ∙ ap (λ (es : List EventValue). map event_of es)
    (sym whole) in
    let records_are : map run_record_of ran.added ++ map run_record_of adds.0 ≡ map run_record_of (ran.added ++ adds.0) =
    sym (map-append run_record_of ran.added adds.0) in
    record {
      added = ran.added ++ adds.0;
      items = adds.1 ∙ ap (λ (xs : List (Record A)). xs ++ adds.0) ran.items ∙ append_assoc had ran.added adds.0;
      recorded = subst (λ (x : List Event × List records.Record). Recorded old x.0 x.1 new)
          (λ i. (events_are i, records_are i)) joined;
      each = one_more_ran RunsOne old w new events k d ran.added adds.0 within ran.each adds.3;
    }

-- ---- what one event adds

pub adds_refusal : {A : Type 0} → (w : World) → IsSoundWorld w → (e : EventValue) (refusal : Refusal)
    → RefusedWith w (event_of e) refusal
    → (had made has : List (Record A)) (new : World) → new ≡ w → made ≡ had
    → has ≡ made ++ recorded.Refused refusal ∷ [] → AddsOne w e had new has
adds_refusal {A} w here e refusal judged had made has new same kept has_is =
    let one : Recorded w (event_of e ∷ []) (records.refused refusal ∷ []) new =
    subst (λ (v : World). Recorded w (event_of e ∷ []) (records.refused refusal ∷ []) v) (sym same)
    (one_refused w (event_of e) refusal [] [] w judged (none_left w)) in
    let added : List (Record A) = recorded.Refused refusal ∷ [] in (
      added,
      has_is ∙ ap (λ (xs : List (Record A)). xs ++ recorded.Refused refusal ∷ []) kept,
      one,
      runs_one w here e added new one tt,
    )

pub adds_outcome : {A : Type 0} → (w : World) → IsSoundWorld w → (e : EventValue) (o : OutcomeValue) (mid : World)
    → Happens w (event_of e) (outcome_of o) mid → IsShown mid o → (had made begun has answers : List (Record A)) (new : World)
    → new ≡ collected mid → made ≡ had
    → begun ≡ made ++ recorded.Outcome o ∷ [] → has ≡ begun ++ answers
    → map run_record_of answers ≡ answers_of mid.kernel.vfs.answers → AddsOne w e had new has
adds_outcome {A} w here e o mid happens shows had made begun has answers new after kept begun_is has_is answers_are =
    let one : Recorded w (event_of e ∷ []) (records.outcome (outcome_of o) ∷ answers_of mid.kernel.vfs.answers ++ [])
    (collected mid) = one_accepted w (event_of e) (outcome_of o) mid [] [] (collected mid) happens
    (none_left (collected mid)) in
    let same : records.outcome (outcome_of o) ∷ answers_of mid.kernel.vfs.answers ++ []
    ≡ records.outcome (outcome_of o) ∷ map run_record_of answers =
    append-nil (records.outcome (outcome_of o) ∷ answers_of mid.kernel.vfs.answers) ∙ ap
    (λ (xs : List records.Record). records.outcome (outcome_of o) ∷ xs) (sym answers_are) in
    let recorded_so : Recorded w (event_of e ∷ []) (map run_record_of (recorded.Outcome o ∷ answers)) new =
    subst (λ (x : List records.Record × World). Recorded w (event_of e ∷ []) x.0 x.1)
    (λ i. (same i, sym after i)) one in (
      recorded.Outcome o ∷ answers,
      has_is ∙ ap (λ (xs : List (Record A)). xs ++ answers)
          (begun_is ∙ ap (λ (xs : List (Record A)). xs ++ recorded.Outcome o ∷ []) kept) ∙ append_assoc had
          (recorded.Outcome o ∷ []) answers,
      recorded_so,
      runs_one w here e (recorded.Outcome o ∷ answers) new recorded_so (mid, happens, shows),
    )

-- Where a list made room it has room.
pub made_room : {T E : Type 0} (r : Result T E) (len more capacity : ℕ) → OnOk r (len + more ≤ capacity)
    → is_err r ≡ false → len + more ≤ capacity
made_room (Ok x) len more capacity made e = made
made_room (Err x) len more capacity made e = absurd (cc e)

pub wanted_room : {T E : Type 0} (r : Result T E) (len more capacity : ℕ) → OnErr r (capacity < len + more)
    → is_err r ≡ true → capacity < len + more
wanted_room (Ok x) len more capacity full e = absurd (cc e)
wanted_room (Err x) len more capacity full e = full

-- ---- the whole run

module _ {A : Type 0} (old : World) (here : IsSoundWorld old) (events : List EventValue) (had : List (Record A)) where
  -- What is said of the events that ran.
  abbrev pub Comes : World → List (Record A) → Type 0
  Comes new has = (added : List (Record A)) × (has ≡ had ++ added)
      × RunsAs old (map event_of events) (map run_record_of added) new × RunsEach RunsOne old events added new

  pub comes_to : (new : World) (has : List (Record A)) → RanSo old events had new has → Comes new has
  comes_to new has ran =
      let answers = list_answers old here (map event_of events) (map run_record_of ran.added) new ran.recorded in (
        ran.added,
        ran.items,
        record {
          plain_run = λ p refines. list_refines old here (map event_of events)
              (map run_record_of ran.added) new ran.recorded p refines;
          keeps = list_keeps old here (map event_of events) (map run_record_of ran.added) new ran.recorded;
          once = answers.0;
          ended = answers.1;
        },
        ran.each,
      )

  pub comes_as_before : (new now : World) (has holds : List (Record A)) → RanSo old events had new has → now ≡ new
      → holds ≡ has → Comes now holds
  comes_as_before new now has holds ran now_is holds_is =
      subst (λ (x : World × List (Record A)). Comes x.0 x.1) (λ i. (sym now_is i, sym holds_is i))
      (comes_to new has ran)

-- Once k is past the events, all of them ran.
pub all_ran : {A : Type 0} → (old : World) (events : List EventValue) (k : ℕ) → length events ≤ k
    → (had : List (Record A)) (new : World) (has : List (Record A)) → RanSo old (take k events) had new has
    → RanSo old events had new has
all_ran old events k past had new has ran = subst (λ (es : List EventValue). RanSo old es had new has)
    (take_all k events past) ran
