-- The runs of a session over a link, one after another.
use Rattle.std.proofs.Common.{◌≡◌, ◌++◌, ℕ, Bool, List, [], ◌∷◌, map, refl, sym, ap, subst, ◌∙◌, append_assoc, arith}
use Rattle.std.proofs.lemmas.List.{map-append}
use Rattle.fuse_spec.specs.World.Worlds.{World}
use Rattle.fuse_spec.specs.World.Events.{Event as EventOf}
use Rattle.fuse_spec.specs.World.Records as recorded
use Rattle.fuse_spec.specs.Reference.Plain.{Plain}
use Rattle.fuse_spec.specs.Claim.Counts.{Protocol}
use Rattle.fuse_spec.specs.Claim.Sessions.{Session, SessionRun, linked, lost}
use Rattle.fw_link.specs.Traffic.{Traffic}
use Rattle.fw_script.specs.Scripts.{Prints, PrintsLine, no_line, next_line, nothing, event, nodes, session_machine}
use Rattle.fw_script.proofs.WorldRuns.{ends_none, ends_then, once_then}
use Rattle.fw_world.specs.declared.event.Event.{Event}
use Rattle.fw_world.specs.declared.record.Record.{Record}
use Rattle.fw_world.specs.OverLinks.{RecordedOver, RunsOver, none_left, one_refused, one_accepted, one_lost, one_too_late, session_of}
use Rattle.fw_world.specs.Values.{event_of, run_record_of}

SessionRun-append : (events more : List EventOf) (s : Session) (p : Plain) (rs : List recorded.Record) (mid : Session)
    (q : Plain) (ss : List recorded.Record) (last : Session) (r : Plain) → SessionRun s p events rs mid q
    → SessionRun mid q more ss last r → SessionRun s p (events ++ more) (rs ++ ss) last r
SessionRun-append [] more s p rs mid q ss last r (none, same, plain) next =
    subst (λ (x : Session × Plain × List recorded.Record). SessionRun x.0 x.1 more (x.2 ++ ss) last r)
    (λ i. (same i, plain i, sym none i)) next
SessionRun-append (e ∷ events) more s p rs mid q ss last r (f, rest, m, plain, is, move, run) next = (
  f,
  rest ++ ss,
  m,
  plain,
  ap (λ (l : List recorded.Record). l ++ ss) is ∙ append_assoc f rest ss,
  move,
  SessionRun-append events more m plain rest mid q ss last r run next,
)

module _ {L : Type 0} (carries : L → L → Traffic → Type 0) (failed : L → ℕ) where
  recorded_then : (s : Session) (link : L) (events : List EventOf) (rs : List recorded.Record) (mid : Session)
      (between : L) (more : List EventOf) (ss : List recorded.Record) (after : Session) (last : L)
      → RecordedOver carries failed s link events rs mid between
      → RecordedOver carries failed mid between more ss after last
      → RecordedOver carries failed s link (events ++ more) (rs ++ ss) after last
  recorded_then s link events rs mid between more ss after last (none_left t l) next = next
  recorded_then s link events rs mid between more ss after last
      (one_refused w l e refusal rest records t k judged old) next =
      one_refused w l e refusal (rest ++ more) (records ++ ss) after last judged
      (recorded_then (linked w) l rest records t k more ss after last old next)
  recorded_then s link events rs mid between more ss after last
      (one_accepted w l e o moved n rest records t k happens sent same old) next =
      rw append_assoc
      (one_accepted w l e o moved n (rest ++ more) (records ++ ss) after last happens sent same
      (recorded_then _ n rest records t k more ss after last old next))
  recorded_then s link events rs mid between more ss after last
      (one_lost w l e o moved gone n rest records t k happens lost_on aborts old) next =
      rw append_assoc
      (one_lost w l e o moved gone n (rest ++ more) (records ++ ss) after last happens lost_on aborts
      (recorded_then _ n rest records t k more ss after last old next))
  recorded_then s link events rs mid between more ss after last (one_too_late w l e rest records t k old) next =
      one_too_late w l e (rest ++ more) (records ++ ss) after last
      (recorded_then (lost w) l rest records t k more ss after last old next)

  -- nothing happens where no event does
  pub no_event : (s : Session) (link : L) (events : List EventOf) (rs : List recorded.Record) (after : Session)
      (last : L) → RecordedOver carries failed s link events rs after last → events ≡ []
      → (after ≡ s) × (last ≡ link)
  no_event s link events rs after last (none_left t l) is = (refl, refl)
  no_event s link events rs after last (one_refused w l e refusal rest records t k judged old) is = absurd (cc is)
  no_event s link events rs after last (one_accepted w l e o moved n rest records t k happens sent same old) is =
      absurd (cc is)
  no_event s link events rs after last (one_lost w l e o moved gone n rest records t k happens lost_on aborts old) is =
      absurd (cc is)
  no_event s link events rs after last (one_too_late w l e rest records t k old) is = absurd (cc is)

  -- where no event ran the session is the same
  pub same_over : (old new : World × Bool × L) (events : List EventOf) (rs : List recorded.Record)
      → RecordedOver carries failed (session_of old.0 old.1) old.2 events rs (session_of new.0 new.1) new.2
      → events ≡ [] → new ≡ old
  same_over old new events rs recorded none =
      let same = no_event (session_of old.0 old.1) old.2 events rs (session_of new.0 new.1) new.2 recorded none in
      λ i. ((same.0 i).world, (same.0 i).is_lost, same.1 i)

  pub over_none : (s : Session) (link : L) → Protocol s.world → RunsOver carries failed s link [] [] s link
  over_none s link keeps = record {
    recorded = none_left s link;
    plain_run = λ p alike. (p, (refl, refl, refl), alike);
    keeps = keeps;
    once = λ i j d less within. absurd (omega arith);
    ended = ends_none s.world;
  }

  -- A run and then another is one run.
  pub over_then : (s : Session) (link : L) (mid : Session) (between : L) (after : Session) (last : L)
      (events more : List EventOf) (xs ys : List recorded.Record)
      → RunsOver carries failed s link events xs mid between → RunsOver carries failed mid between more ys after last
      → RunsOver carries failed s link (events ++ more) (xs ++ ys) after last
  over_then s link mid between after last events more xs ys first later = record {
    recorded = recorded_then s link events xs mid between more ys after last first.recorded later.recorded;
    plain_run =
        λ p alike.
        let one = first.plain_run p alike in
        let two = later.plain_run one.0 one.2 in
        (two.0, SessionRun-append events more s p xs mid one.0 ys after two.0 one.1 two.1, two.2);
    keeps = later.keeps;
    once = once_then s.world mid.world after.world xs ys first.once later.once first.ended.ended later.ended.ended;
    ended = ends_then s.world mid.world after.world xs ys first.ended later.ended;
  }

  -- ---- what a script prints

  line_runs : {A : Type 0} (hex : Bool) (old : World × Bool × L) (line : List ℕ) (events : List Event)
      (records : List (Record A)) (text : List ℕ) (new : World × Bool × L) → Protocol old.0
      → PrintsLine (session_machine A L carries failed) hex old line events records text new
      → RunsOver carries failed (session_of old.0 old.1) old.2 (map event_of events) (map run_record_of records)
      (session_of new.0 new.1) new.2
  line_runs hex old line events records text new keeps (nothing empty) = over_none (session_of old.0 old.1) old.2 keeps
  line_runs hex old line events records text new keeps (event e added put last says ran is_put) = ran.runs
  line_runs hex old line events records text new keeps (nodes shows) = over_none (session_of old.0 old.1) old.2 keeps

  -- The records that lines print are those of one run of their events.
  pub lines_run_over : {A : Type 0} (hex : Bool) (first : World × Bool × L) (lines : List (List ℕ))
      (events : List Event) (records : List (Record A)) (text : List ℕ) (last : World × Bool × L) → Protocol first.0
      → Prints (session_machine A L carries failed) hex first lines events records text last
      → RunsOver carries failed (session_of first.0 first.1) first.2 (map event_of events) (map run_record_of records)
      (session_of last.0 last.1) last.2
  lines_run_over hex first lines events records text last keeps no_line =
      over_none (session_of first.0 first.1) first.2 keeps
  lines_run_over {A} hex first lines events records text last keeps
      (next_line before es rs t mid printed line more added new after next) =
      let one = lines_run_over hex first before es rs t mid keeps printed in
      let two = line_runs hex mid line more added new after one.keeps next in
      subst (λ (x : List EventOf × List recorded.Record). RunsOver carries failed (session_of first.0 first.1) first.2
      x.0 x.1 (session_of after.0 after.1) after.2)
      (λ i. (sym (map-append event_of es more) i, sym (map-append run_record_of rs added) i))
      (over_then (session_of first.0 first.1) first.2 (session_of mid.0 mid.1) mid.2 (session_of after.0 after.1)
      after.2 (map event_of es) (map event_of more) (map run_record_of rs) (map run_record_of added) one two)
