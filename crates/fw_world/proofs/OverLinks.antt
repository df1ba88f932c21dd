-- Lists of events over a link, and what is recorded of each.
use Rattle.std.proofs.Common.{◌≡◌, ℕ, ◌+◌, ◌*◌, ◌<◌, ◌≤◌, Bool, true, false, cond, List, [], ◌∷◌, ◌++◌, length, map, take, get_or, refl, ap, sym, subst, ◌∙◌, arith}
use Rattle.std.proofs.lemmas.List.{append_assoc, append-nil, map-append, take_more, take_all}
use Rattle.fuse_spec.specs.declared.Refusal.{Refusal}
use Rattle.fuse_spec.specs.declared.Refusal.TheVariants.{LinkLost}
use Rattle.fuse_spec.specs.World.Worlds.{World}
use Rattle.fuse_spec.specs.World.Events.{Event, Outcome, abort, aborted}
use Rattle.fuse_spec.specs.World.Records as records
use Rattle.fuse_spec.specs.World.Records.{answers_of, collected}
use Rattle.fuse_spec.specs.Claim.Sessions.{Session, linked, lost}
use Rattle.fuse_spec.specs.World.Steps.{Happens, RefusedWith}
use Rattle.fuse_theorem.specs.SoundWorlds.{IsSoundWorld}
use Rattle.fuse_theorem.specs.SessionRecorded.{SessionRecorded}
use Rattle.fuse_theorem.specs.SessionRecorded as machine
use Rattle.fuse_theorem.proofs.Answers.AnswersStay.{begins_call}
use Rattle.fuse_theorem.proofs.RefusalCases.Happened.{Happened, by_mount, by_call, by_read_interrupt, by_read_forgets, by_read_pending, by_take, by_perform, by_again, by_write, by_settle, by_signal, by_tick, by_drop, by_evict, by_abort, happened}
use Rattle.fuse_theorem.proofs.WholeLists.SoundWorlds.{none_more_waits, sound_next}
use Rattle.fuse_theorem.proofs.OverLinks.SessionsEnd.{session_refines, session_keeps, session_answers}
use Rattle.fuse_theorem.proofs.Answers.WaitingAnswers.{one_more_waits}
use Rattle.fw_link.specs.Traffic.{Traffic}
use Rattle.fw_world.specs.declared.event.Event.{Event as EventValue}
use Rattle.fw_world.specs.declared.event.Outcome.{Outcome as OutcomeValue}
use Rattle.fw_world.specs.declared.record.Record.{Record}
use Rattle.fw_world.specs.declared.record.Record.TheVariants as recorded
use Rattle.fw_world.specs.Sends.{IsSent, IsLostOn, LosesIn}
use Rattle.fw_world.specs.Values.{event_of, outcome_of, run_record_of}
use Rattle.fw_world.specs.Frames.{AreShownAfter, IsShownAfter}
use Rattle.fw_world.specs.Runs.{calls_not_over, RunsEach, no_event}
use Rattle.fw_world.proofs.Recording.{one_more_ran}
use Rattle.fw_world.specs.OverLinks.{RecordedOver, none_left, one_refused, one_accepted, one_lost, one_too_late, RunsOver, RunsOneOver, session_of}

-- ---- room for the records

pub at_most_one : (b : Bool) → cond b 1 0 ≤ 1
at_most_one true = omega arith
at_most_one false = omega arith

-- What is lost on the link is sent by an event that is no call.
no_call : (mid : World) (e : Event) (o : Outcome) (w : World) (carries : Traffic → Type 0) (before now : ℕ)
    → Happens w e o mid → IsLostOn mid o carries before now → begins_call e ≡ false
no_call mid e o w carries before now happens lost = by_case e o mid (happened happens.0 w o mid e happens.2) lost
  where
    by_case : (e : Event) (o : Outcome) (mid : World) → Happened happens.0 w e o mid
        → IsLostOn mid o carries before now → begins_call e ≡ false
    by_case e o mid (by_mount f m minor idle) lost = refl
    by_case e o mid (by_call call ready room within) lost = absurd lost
    by_case e o mid (by_read_interrupt original rest live there within) lost = refl
    by_case e o mid (by_read_forgets n live free can within few) lost = refl
    by_case e o mid (by_read_pending k unique kept body live free there says within) lost = refl
    by_case e o mid (by_take k q there within) lost = refl
    by_case e o mid (by_perform unique t there within) lost = refl
    by_case e o mid (by_again unique kept there current within) lost = refl
    by_case e o mid (by_write k s there within) lost = refl
    by_case e o mid (by_settle k result there) lost = refl
    by_case e o mid (by_signal call fatal state live there within) lost = refl
    by_case e o mid (by_tick ms timely) lost = refl
    by_case e o mid (by_drop directory name bound live there) lost = refl
    by_case e o mid (by_evict node counted live there unused) lost = refl
    by_case e o mid (by_abort live) lost = refl

-- An event leaves at most one call more that is not over, and none more where the link is lost in it.
pub one_more_at_most : (w after : World) → IsSoundWorld w
    → (is_lost : Bool) (e : Event) (o : Outcome) (carries : Traffic → Type 0) (before now : ℕ)
    → (is_lost ≡ false → Happens w e o after) → (is_lost ≡ true → LosesIn w e o after carries before now)
    → cond is_lost 1 0 + calls_not_over after ≤ calls_not_over w + 1
one_more_at_most w after here false e o carries before now happens loses =
    let first = one_more_waits w e o after (happens refl) in
    omega (arith, first)
one_more_at_most w after here true e o carries before now happens loses =
    let gone = loses refl in
    let first = none_more_waits w here e o gone.mid
    (no_call gone.mid e o w carries before now gone.happens gone.is_lost) gone.happens in
    let then = none_more_waits gone.mid
    (sound_next w here e o gone.mid gone.happens) abort aborted after refl gone.aborts in
    omega (arith, first, then)

-- With room for 66 records an event there is room for two an event and for the answers of all calls that may be
-- unanswered.
pub room_for_all : (w : World) → IsSoundWorld w → (len capacity k n : ℕ) → k < n
    → capacity < len + calls_not_over w + 2 * n → w.kernel.vfs.answers ≡ [] → capacity < len + 66 * n
room_for_all w here len capacity k n some full none = omega (arith, some, full, here.few, ap length none)

module _ {L : Type 0} (carries : L → L → Traffic → Type 0) (failed : L → ℕ) where
  -- ---- lists one after another

  pub then_over : (s mid after : Session) (link next last : L) (events more : List Event) (rs ss : List records.Record)
      → RecordedOver carries failed s link events rs mid next → RecordedOver carries failed mid next more ss after last
      → RecordedOver carries failed s link (events ++ more) (rs ++ ss) after last
  then_over s mid after link next last events more rs ss (none_left v l) then = then
  then_over s mid after link next last events more rs ss
      (one_refused w l e refusal rest records v end judged old) then =
      one_refused w l e refusal (rest ++ more) (records ++ ss) after last judged
      (then_over (linked w) v after l end last rest more records ss old then)
  then_over s mid after link next last events more rs ss
      (one_accepted w l e o moved step rest records v end happens sent same old) then =
      rw append_assoc
      (one_accepted w l e o moved step (rest ++ more) (records ++ ss) after last happens sent same
      (then_over (linked (collected moved)) v after step end last rest more records ss old then))
  then_over s mid after link next last events more rs ss
      (one_lost w l e o moved gone step rest records v end happens lose aborts old) then =
      rw append_assoc
      (one_lost w l e o moved gone step (rest ++ more) (records ++ ss) after last happens lose aborts
      (then_over (lost (collected gone)) v after step end last rest more records ss old then))
  then_over s mid after link next last events more rs ss (one_too_late w l e rest records v end old) then =
      one_too_late w l e (rest ++ more) (records ++ ss) after last
      (then_over (lost w) v after l end last rest more records ss old then)

  -- What the machine records of it.
  pub by_machine : (s after : Session) (link last : L) (events : List Event) (rs : List records.Record)
      → RecordedOver carries failed s link events rs after last → SessionRecorded s events rs after
  by_machine s after link last events rs (none_left v l) = machine.none_left v
  by_machine s after link last events rs (one_refused w l e refusal rest records v end judged old) =
      machine.one_refused w e refusal rest records v judged (by_machine (linked w) v l end rest records old)
  by_machine s after link last events rs (one_accepted w l e o moved step rest records v end happens sent same old) =
      machine.one_accepted w e o moved rest records v happens
      (by_machine (linked (collected moved)) v step end rest records old)
  by_machine s after link last events rs (one_lost w l e o moved gone step rest records v end happens lose aborts old) =
      machine.one_lost w e o moved gone rest records v happens aborts
      (by_machine (lost (collected gone)) v step end rest records old)
  by_machine s after link last events rs (one_too_late w l e rest records v end old) =
      machine.one_too_late w e rest records v (by_machine (lost w) v l end rest records old)

  -- ---- what one event adds

  module _ {A : Type 0} where
    -- What is added of one event.
    abbrev pub AddsOver : Session → L → EventValue → List (Record A) → Session → L → List (Record A) → Type 0
    AddsOver s link e had t next has = (added : List (Record A)) × (has ≡ had ++ added)
        × RecordedOver carries failed s link (event_of e ∷ []) (map run_record_of added) t next
        × AreShownAfter s.world (event_of e) added

    adds_refusal : (w : World) (link : L) (e : EventValue) (refusal : Refusal) → RefusedWith w (event_of e) refusal
        → (had has : List (Record A)) → has ≡ had ++ recorded.Refused refusal ∷ []
        → AddsOver (linked w) link e had (linked w) link has
    adds_refusal w link e refusal judged had has has_is = (
      recorded.Refused refusal ∷ [],
      has_is,
      one_refused w link (event_of e) refusal [] [] (linked w) link judged
          (none_left (linked w) link),
      tt,
    )

    adds_too_late : (w : World) (link : L) (e : EventValue) (had has : List (Record A))
        → has ≡ had ++ recorded.Refused LinkLost ∷ [] → AddsOver (lost w) link e had (lost w) link has
    adds_too_late w link e had has has_is = (
      recorded.Refused LinkLost ∷ [],
      has_is,
      one_too_late w link (event_of e) [] [] (lost w) link
          (none_left (lost w) link),
      tt,
    )

    -- What a refused event adds.
    pub adds_refused : (w new : World) (was is_lost : Bool) (link next : L) (e : EventValue) (refusal : Refusal)
        → (was ≡ true → refusal ≡ LinkLost) → (was ≡ false → RefusedWith w (event_of e) refusal)
        → new ≡ w → is_lost ≡ was → next ≡ link → (had made has : List (Record A)) → made ≡ had
        → has ≡ made ++ recorded.Refused refusal ∷ [] → AddsOver (session_of w was) link e had
        (session_of new is_lost) next has
    adds_refused w new was is_lost link next e refusal too_late judged new_is lost_is next_is had made has made_is has_is =
        subst (λ (x : Session × L). AddsOver (session_of w was) link e had x.0 x.1 has)
        (λ i. (session_of (sym new_is i) (sym lost_is i), sym next_is i)) (by was too_late judged)
      where
        has_so : has ≡ had ++ recorded.Refused refusal ∷ []
        has_so = has_is ∙ ap (λ (xs : List (Record A)). xs ++ recorded.Refused refusal ∷ []) made_is

        by : (b : Bool) → (b ≡ true → refusal ≡ LinkLost) → (b ≡ false → RefusedWith w (event_of e) refusal)
            → AddsOver (session_of w b) link e had (session_of w b) link has
        by false late machine_refuses = adds_refusal w link e refusal (machine_refuses refl) had has has_so
        by true late machine_refuses = adds_too_late w link e had has
            (has_so ∙ ap (λ (r : Refusal). had ++ recorded.Refused r ∷ []) (late refl))

    adds_accepted : (w mid : World) (link next : L) (e : EventValue) (o : OutcomeValue)
        → Happens w (event_of e) (outcome_of o) mid → IsSent mid (outcome_of o) (carries link next)
        → failed next ≡ failed link → IsShownAfter w (event_of e) o
        → (had has answers : List (Record A)) → has ≡ had ++ (recorded.Outcome o ∷ answers)
        → map run_record_of answers ≡ answers_of mid.kernel.vfs.answers
        → AddsOver (linked w) link e had (linked (collected mid)) next has
    adds_accepted w mid link next e o happens sent same shown had has answers has_is answers_are =
        let one : RecordedOver carries failed (linked w) link (event_of e ∷ [])
        (records.outcome (outcome_of o) ∷ answers_of mid.kernel.vfs.answers ++ []) (linked (collected mid)) next =
        one_accepted w link (event_of e) (outcome_of o) mid next [] [] (linked (collected mid)) next happens sent same
        (none_left (linked (collected mid)) next) in
        let records_are : records.outcome (outcome_of o) ∷ answers_of mid.kernel.vfs.answers ++ []
        ≡ records.outcome (outcome_of o) ∷ map run_record_of answers =
        append-nil (records.outcome (outcome_of o) ∷ answers_of mid.kernel.vfs.answers) ∙ ap
        (λ (xs : List records.Record). records.outcome (outcome_of o) ∷ xs) (sym answers_are) in (
          recorded.Outcome o ∷ answers,
          has_is,
          subst (λ (rs : List records.Record). RecordedOver carries failed (linked w) link (event_of e ∷ []) rs
              (linked (collected mid)) next) records_are one,
          shown,
        )

    adds_loss : (w gone : World) (link next : L) (e : EventValue) (o : OutcomeValue)
        → LosesIn w (event_of e) (outcome_of o) gone (carries link next) (failed link) (failed next)
        → IsShownAfter w (event_of e) o → (had has answers : List (Record A)) → has ≡ had ++ (recorded.Outcome o ∷ recorded.LinkLost ∷ answers)
        → map run_record_of answers ≡ answers_of gone.kernel.vfs.answers
        → AddsOver (linked w) link e had (lost (collected gone)) next has
    adds_loss w gone link next e o loses shown had has answers has_is answers_are =
        let one : RecordedOver carries failed (linked w) link (event_of e ∷ [])
        (records.outcome (outcome_of o) ∷ records.link_lost ∷ answers_of gone.kernel.vfs.answers ++ [])
        (lost (collected gone)) next =
        one_lost w link (event_of e) (outcome_of o) loses.mid gone next [] []
        (lost (collected gone)) next loses.happens loses.is_lost loses.aborts
        (none_left (lost (collected gone)) next) in
        let records_are : records.outcome (outcome_of o) ∷ records.link_lost ∷ answers_of gone.kernel.vfs.answers ++ []
        ≡ records.outcome (outcome_of o) ∷ records.link_lost ∷ map run_record_of answers =
        append-nil (records.outcome (outcome_of o) ∷ records.link_lost ∷ answers_of gone.kernel.vfs.answers) ∙ ap
        (λ (xs : List records.Record). records.outcome (outcome_of o) ∷ records.link_lost ∷ xs)
        (sym answers_are) in (
          recorded.Outcome o ∷ recorded.LinkLost ∷ answers,
          has_is,
          subst (λ (rs : List records.Record). RecordedOver carries failed (linked w) link (event_of e ∷ []) rs
              (lost (collected gone)) next) records_are one,
          shown,
        )

    -- The record of a lost link.
    abbrev pub loss_of : Bool → List (Record A)
    loss_of is_lost = cond is_lost (recorded.LinkLost ∷ []) []

    -- What an accepted event adds, whether its envelope came through or was lost.
    pub adds_outcome : (w after : World) (was is_lost : Bool) (link next : L) (e : EventValue) (o : OutcomeValue)
        → was ≡ false → (is_lost ≡ false → Happens w (event_of e) (outcome_of o) after)
        → (is_lost ≡ false → IsSent after (outcome_of o) (carries link next))
        → (is_lost ≡ false → failed next ≡ failed link)
        → (is_lost ≡ true → LosesIn w (event_of e) (outcome_of o) after (carries link next) (failed link)
        (failed next)) → IsShownAfter w (event_of e) o → (new : World) → new ≡ collected after
        → (had made begun noted has answers : List (Record A)) → made ≡ had → begun ≡ made ++ recorded.Outcome o ∷ []
        → noted ≡ begun ++ loss_of is_lost → has ≡ noted ++ answers
        → map run_record_of answers ≡ answers_of after.kernel.vfs.answers
        → AddsOver (session_of w was) link e had (session_of new is_lost) next has
    adds_outcome w after was is_lost link next e o linked_before happens sent same loses shown new new_is had made begun noted has answers made_is begun_is noted_is has_is answers_are =
        subst (λ (b : Bool). AddsOver (session_of w b) link e had (session_of new is_lost) next has) (sym linked_before)
        (subst (λ (v : World). AddsOver (linked w) link e had (session_of v is_lost) next has) (sym new_is)
        (by is_lost happens sent same loses noted_is))
      where
        begun_so : begun ≡ had ++ recorded.Outcome o ∷ []
        begun_so = begun_is ∙ ap (λ (xs : List (Record A)). xs ++ recorded.Outcome o ∷ []) made_is

        by : (b : Bool) → (b ≡ false → Happens w (event_of e) (outcome_of o) after)
            → (b ≡ false → IsSent after (outcome_of o) (carries link next)) → (b ≡ false → failed next ≡ failed link)
            → (b ≡ true → LosesIn w (event_of e) (outcome_of o) after (carries link next) (failed link) (failed next))
            → noted ≡ begun ++ loss_of b → AddsOver (linked w) link e had (session_of (collected after) b) next has
        by false went through fine lose noted_so =
            adds_accepted w after link next e o (went refl) (through refl) (fine refl) shown had has answers
            (has_is ∙ ap (λ (xs : List (Record A)). xs ++ answers)
            (noted_so ∙ append-nil begun ∙ begun_so) ∙ append_assoc had
            (recorded.Outcome o ∷ []) answers) answers_are
        by true went through fine lose noted_so =
            adds_loss w after link next e o (lose refl) shown had has answers
            (has_is ∙ ap (λ (xs : List (Record A)). xs ++ answers)
            (noted_so ∙ ap (λ (xs : List (Record A)). xs ++ recorded.LinkLost ∷ []) begun_so ∙ append_assoc had
            (recorded.Outcome o ∷ []) (recorded.LinkLost ∷ []))
            ∙ append_assoc had (recorded.Outcome o ∷ recorded.LinkLost ∷ []) answers) answers_are

    -- ---- the whole run

    -- The events ran one after another, and these records were added.
    pub record RanOver (old : Session) (link : L) (events : List EventValue) (had : List (Record A)) (new : Session)
        (last : L) (has : List (Record A)) : Type 0 where
      pub added : List (Record A)
      pub items : has ≡ had ++ added
      pub recorded_so : RecordedOver carries failed old link (map event_of events) (map run_record_of added) new last
      pub each : RunsEach (RunsOneOver carries failed) (old, link) events added (new, last)

    pub none_ran : (s : Session) (link : L) (events : List EventValue) (had : List (Record A))
        → RanOver s link (take 0 events) had s link had
    none_ran s link events had = record {
      added = [];
      items = sym (append-nil had);
      recorded_so = none_left s link;
      each = no_event (s, link);
    }

    -- What the machine records of one event is a run of it.
    pub runs_one : (old : Session) (link : L) → IsSoundWorld old.world → (e : EventValue) (added : List (Record A))
        (new : Session) (last : L)
        → RecordedOver carries failed old link (event_of e ∷ []) (map run_record_of added) new last
        → AreShownAfter old.world (event_of e) added → RunsOneOver carries failed (old, link) e added (new, last)
    runs_one old link here e added new last recorded_one shown_one =
        let events = event_of e ∷ [] in
        let by_it = by_machine old new link last events (map run_record_of added) recorded_one in
        let answers = session_answers old here events (map run_record_of added) new by_it in
        record {
          runs = record {
            recorded = recorded_one;
            plain_run = λ p refines. session_refines old here events (map run_record_of added) new by_it p refines;
            keeps = session_keeps old here events (map run_record_of added) new by_it;
            once = answers.0;
            ended = answers.1;
          };
          shown = shown_one;
        }

    -- What is added of one event, which ran so.
    abbrev pub AddsRun : Session → L → EventValue → List (Record A) → Session → L → List (Record A) → Type 0
    AddsRun s link e had t next has = (added : List (Record A)) × (has ≡ had ++ added)
        × RecordedOver carries failed s link (event_of e ∷ []) (map run_record_of added) t next
        × RunsOneOver carries failed (s, link) e added (t, next)

    pub adds_run : (s : Session) (link : L) → IsSoundWorld s.world → (e : EventValue) (had : List (Record A))
        (t : Session) (next : L) (has : List (Record A)) → AddsOver s link e had t next has
        → AddsRun s link e had t next has
    adds_run s link here e had t next has adds =
        (adds.0, adds.1, adds.2, runs_one s link here e adds.0 t next adds.2 adds.3)

    pub one_more : (old : Session) (link : L) (events : List EventValue) (had : List (Record A)) (s : Session) (at : L)
        (has : List (Record A)) (k : ℕ) (d : EventValue) (new : Session) (last : L) (more : List (Record A))
        → k < length events → RanOver old link (take k events) had s at has
        → AddsRun s at (get_or events k d) has new last more → RanOver old link (take (k + 1) events) had new last more
    one_more old link events had s at has k d new last more within ran adds =
        let whole : take (k + 1) events ≡ take k events ++ get_or events k d ∷ [] = take_more events k d within in
        let joined = then_over old s new link at last (map event_of (take k events))
        (event_of (get_or events k d) ∷ []) (map run_record_of ran.added)
        (map run_record_of adds.0) ran.recorded_so adds.2 in
        let events_are : map event_of (take k events) ++ event_of (get_or events k d) ∷ []
        ≡ map event_of (take (k + 1) events) =
        sym (map-append event_of (take k events) (get_or events k d ∷ [])) ∙ ap
        (λ (es : List EventValue). map event_of es) (sym whole) in
        let records_are : map run_record_of ran.added ++ map run_record_of adds.0 ≡ map run_record_of (ran.added ++ adds.0) =
        sym (map-append run_record_of ran.added adds.0) in
        record {
          added = ran.added ++ adds.0;
          items = adds.1 ∙ ap (λ (xs : List (Record A)). xs ++ adds.0) ran.items ∙ append_assoc had ran.added adds.0;
          recorded_so = subst (λ (x : List Event
              × List records.Record). RecordedOver carries failed old link x.0 x.1 new last)
              (λ i. (events_are i, records_are i)) joined;
          each = one_more_ran (RunsOneOver carries failed) (old, link) (s, at) (new, last) events k d ran.added adds.0
              within ran.each adds.3;
        }

    module _ (old : Session) (link : L) (here : IsSoundWorld old.world) (events : List EventValue)
        (had : List (Record A)) where
      -- What is said of the events that ran.
      abbrev pub ComesOver : Session → L → List (Record A) → Type 0
      ComesOver new last has = (added : List (Record A)) × (has ≡ had ++ added)
          × RunsOver carries failed old link (map event_of events) (map run_record_of added) new last
          × RunsEach (RunsOneOver carries failed) (old, link) events added (new, last)

      pub comes_over : (new : Session) (last : L) (has : List (Record A)) → RanOver old link events had new last has
          → ComesOver new last has
      comes_over new last has ran =
          let by_it = by_machine old new link last (map event_of events) (map run_record_of ran.added) ran.recorded_so in
          let answers = session_answers old here (map event_of events) (map run_record_of ran.added) new by_it in (
            ran.added,
            ran.items,
            record {
              recorded = ran.recorded_so;
              plain_run = λ p refines. session_refines old here (map event_of events)
                  (map run_record_of ran.added) new by_it p refines;
              keeps = session_keeps old here (map event_of events) (map run_record_of ran.added) new by_it;
              once = answers.0;
              ended = answers.1;
            },
            ran.each,
          )

    -- Once k is past the events, all of them ran.
    pub all_over : (old : Session) (link : L) (events : List EventValue) (k : ℕ) → length events ≤ k
        → (had : List (Record A)) (new : Session) (last : L) (has : List (Record A))
        → RanOver old link (take k events) had new last has → RanOver old link events had new last has
    all_over old link events k past had new last has ran =
        subst (λ (es : List EventValue). RanOver old link es had new last has) (take_all k events past) ran

    pub ran_as_before : (old : Session) (link : L) (events : List EventValue) (had : List (Record A)) (was now : World)
        (was_lost is_lost : Bool) (at next : L) (had_now has : List (Record A)) → now ≡ was → is_lost ≡ was_lost
        → next ≡ at → has ≡ had_now
        → RanOver old link events had (session_of was was_lost) at had_now
        → RanOver old link events had (session_of now is_lost) next has
    ran_as_before old link events had was now was_lost is_lost at next had_now has now_is lost_is next_is has_is ran =
        subst (λ (x : Session × L × List (Record A)). RanOver old link events had x.0 x.1 x.2)
        (λ i. (session_of (sym now_is i) (sym lost_is i), sym next_is i, sym has_is i)) ran
