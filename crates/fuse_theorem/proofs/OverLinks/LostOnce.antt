-- A link is lost once.
use Rattle.std.proofs.Common.{◌≡◌, true, false, true≢false, List, [], ◌∷◌, ◌++◌, refl, sym, ap, ◌∙◌, append_assoc}
use Rattle.std.specs.Prelude.{map}
use Rattle.fuse_spec.specs.declared.Refusal.TheVariants.{LinkLost}
use Rattle.fuse_spec.specs.World.Events.{Event}
use Rattle.fuse_spec.specs.World.Records.{Record, outcome, refused, link_lost, answers_of, collected}
use Rattle.fuse_spec.specs.Claim.Sessions.{Session, linked, lost}
use Rattle.fuse_theorem.specs.Recorded.{Recorded}
use Rattle.fuse_theorem.specs.Recorded as machine
use Rattle.fuse_theorem.specs.SessionRecorded.{LostIn, SessionRecorded, none_left, one_refused, one_accepted, one_lost, one_too_late}

-- Once the link is lost every event is refused.
record TooLate (s : Session) (events : List Event) (records : List Record) (after : Session) : Type 0 where
  refusals : records ≡ map (λ (e : Event). refused LinkLost) events
  world : after.world ≡ s.world
  still : after.is_lost ≡ true

too_late : (s : Session) (events : List Event) (records : List Record) (after : Session)
    → SessionRecorded s events records after → s.is_lost ≡ true → TooLate s events records after
too_late s events records after (none_left v) gone = record { refusals = refl; world = refl; still = gone }
too_late s events records after (one_refused w event refusal rest more last judged recorded) gone =
    absurd (true≢false (sym gone))
too_late s events records after (one_accepted w event o mid rest more last happens recorded) gone =
    absurd (true≢false (sym gone))
too_late s events records after (one_lost w event o mid last rest more end happens aborts recorded) gone =
    absurd (true≢false (sym gone))
too_late s events records after (one_too_late w event rest more last recorded) gone =
    let others = too_late (lost w) rest more last recorded refl in
    record {
      refusals = ap (λ (l : List Record). refused LinkLost ∷ l) others.refusals;
      world = others.world;
      still = others.still;
    }

-- Where the link is not lost in the end, it never was, and the records are those of a world.
pub never_lost : (s : Session) (events : List Event) (records : List Record) (after : Session)
    → SessionRecorded s events records after → s.is_lost ≡ false → after.is_lost ≡ false
    → Recorded s.world events records after.world
never_lost s events records after (none_left v) here there = machine.none_left s.world
never_lost s events records after (one_refused w event refusal rest more last judged recorded) here there =
    machine.one_refused w event refusal rest more last.world judged
    (never_lost (linked w) rest more last recorded refl there)
never_lost s events records after (one_accepted w event o mid rest more last happens recorded) here there =
    machine.one_accepted w event o mid rest more last.world happens
    (never_lost (linked (collected mid)) rest more last recorded refl there)
never_lost s events records after (one_lost w event o mid last rest more end happens aborts recorded) here there =
    absurd (true≢false (sym (too_late (lost (collected last)) rest more end recorded refl).still ∙ there))
never_lost s events records after (one_too_late w event rest more last recorded) here there = absurd (true≢false here)

joined : (o : Record) (now earlier tail more : List Record) → more ≡ earlier ++ tail
    → o ∷ now ++ more ≡ (o ∷ now ++ earlier) ++ tail
joined o now earlier tail more is = ap (λ (l : List Record). o ∷ l)
    (ap (λ (l : List Record). now ++ l) is ∙ sym (append_assoc now earlier tail))

-- Where it is, it is lost in one event, and every later one is refused.
pub lost_in : (s : Session) (events : List Event) (records : List Record) (after : Session)
    → SessionRecorded s events records after → s.is_lost ≡ false → after.is_lost ≡ true
    → LostIn s.world events records after.world
lost_in s events records after (none_left v) here there = absurd (true≢false (sym there ∙ here))
lost_in s events records after (one_refused w event refusal rest more last judged recorded) here there =
    let r = lost_in (linked w) rest more last recorded refl there in
    record {
      before = event ∷ r.before;
      event = r.event;
      later = r.later;
      all = ap (λ (l : List Event). event ∷ l) r.all;
      earlier = refused refusal ∷ r.earlier;
      there = r.there;
      recorded = machine.one_refused w event refusal r.before r.earlier r.there judged r.recorded;
      outcome_of = r.outcome_of;
      mid = r.mid;
      happens = r.happens;
      last = r.last;
      aborts = r.aborts;
      records_are = ap (λ (l : List Record). refused refusal ∷ l) r.records_are;
      after_is = r.after_is;
    }
lost_in s events records after (one_accepted w event o mid rest more last happens recorded) here there =
    let r = lost_in (linked (collected mid)) rest more last recorded refl there in
    let now = answers_of mid.kernel.vfs.answers in
    record {
      before = event ∷ r.before;
      event = r.event;
      later = r.later;
      all = ap (λ (l : List Event). event ∷ l) r.all;
      earlier = outcome o ∷ now ++ r.earlier;
      there = r.there;
      recorded = machine.one_accepted w event o mid r.before r.earlier r.there happens r.recorded;
      outcome_of = r.outcome_of;
      mid = r.mid;
      happens = r.happens;
      last = r.last;
      aborts = r.aborts;
      records_are = joined (outcome o) now r.earlier
          (outcome r.outcome_of ∷ link_lost ∷ answers_of r.last.kernel.vfs.answers
          ++ map (λ (e : Event). refused LinkLost) r.later) more r.records_are;
      after_is = r.after_is;
    }
lost_in s events records after (one_lost w event o mid last rest more end happens aborts recorded) here there =
    let others = too_late (lost (collected last)) rest more end recorded refl in
    record {
      before = [];
      event = event;
      later = rest;
      all = refl;
      earlier = [];
      there = w;
      recorded = machine.none_left w;
      outcome_of = o;
      mid = mid;
      happens = happens;
      last = last;
      aborts = aborts;
      records_are = ap (λ (l : List Record). outcome o ∷ link_lost ∷ answers_of last.kernel.vfs.answers
          ++ l) others.refusals;
      after_is = others.world;
    }
lost_in s events records after (one_too_late w event rest more last recorded) here there = absurd (true≢false here)
