-- From single events to lists of events: where what is sound of two worlds is kept by each event, the plain world has a
-- run with the machine's records.
use Rattle.std.proofs.Common.{List, [], ◌∷◌, refl, ap, inl, inr, All}
use Rattle.std.proofs.lemmas.List.Elements.{All-head, All-tail}
use Rattle.fuse_spec.specs.Values.Maps.{Map}
use Rattle.fuse_spec.specs.Calls.Answers.{Answer}
use Rattle.fuse_spec.specs.World.Worlds.{World}
use Rattle.fuse_spec.specs.World.Records.{Record, outcome, refused, answers_of, collected}
use Rattle.fuse_spec.specs.Claim.Runs.{plain_collected, Accepts, RefusesEvent, Run}
use Rattle.fuse_spec.specs.World.Events.{Event, Outcome}
use Rattle.fuse_spec.specs.World.Steps.{Happens}
use Rattle.fuse_spec.specs.Reference.Plain.{Plain}
use Rattle.fuse_spec.specs.Reference.PlainSteps.{Takes}
use Rattle.fuse_spec.specs.Claim.Counts.{Protocol}
use Rattle.fuse_spec.specs.Claim.Alike.{Alike}
use Rattle.fuse_theorem.specs.Recorded.{Recorded, none_left, one_refused, one_accepted}
use Rattle.fuse_theorem.proofs.PlainWorld.PlainWorld.{steps_in_words as in_words}

-- What is sound of two worlds: events of this kind keep it, and so does the collecting of answers. Such worlds are
-- alike, and keep the reference protocol.
pub record KeptBy (Allowed : Event → Type 0) (Sound : World → Plain → Type 0) : Type 0 where
  pub event : (w : World) (p : Plain) → Sound w p → (e : Event) → Allowed e → (o : Outcome) (after : World)
      → Happens w e o after → (q : Plain) × Takes p e o q × Sound after q
  pub collecting : (w : World) (p : Plain) → Sound w p → Sound (collected w) (plain_collected p)
  pub alike : (w : World) (p : Plain) → Sound w p → Alike w p
  pub protocol : (w : World) (p : Plain) → Sound w p → Protocol w

module _ (Allowed : Event → Type 0) (Sound : World → Plain → Type 0) (kept : KeptBy Allowed Sound) where
  -- Where the machine's records lead.
  abbrev pub Leads : World → Plain → List Event → List Record → World → Type 0
  Leads w p events records after = (plain : Plain) × Run w p events records after plain × Sound after plain

  pub lists_run : (w : World) (p : Plain) → Sound w p → (events : List Event) (records : List Record) (after : World)
      → All Allowed events → Recorded w events records after → Leads w p events records after
  lists_run w p sound events records after allowed (none_left v) = (p, (refl, refl, refl), sound)
  lists_run w p sound events records after allowed (one_refused v event refusal rest more last judged recorded) =
      let run = lists_run w p sound rest more last (All-tail Allowed event rest allowed) recorded in
      let refuses : RefusesEvent w p event (refused refusal ∷ []) w p =
      record { refusal = refusal; judged = judged; recorded = refl; after = refl; plain_after = refl } in
      (run.0, (refused refusal ∷ [], more, w, p, refl, inr refuses, run.1), run.2)
  lists_run w p sound events records after allowed (one_accepted v event o mid rest more last happens recorded) =
      let went = kept.event w p sound event (All-head Allowed event rest allowed) o mid happens in
      let same = kept.alike mid went.0 went.2 in
      let run = lists_run (collected mid) (plain_collected went.0) (kept.collecting mid went.0 went.2) rest more last
      (All-tail Allowed event rest allowed) recorded in
      let now = outcome o ∷ answers_of mid.kernel.vfs.answers in
      let accepts : Accepts w p event now (collected mid) (plain_collected went.0) =
      record {
        outcome_of = o;
        mid = mid;
        plain = went.0;
        happens = happens;
        steps = in_words p went.0 event o went.1;
        alike = same;
        keeps = kept.protocol mid went.0 went.2;
        recorded = ap (λ (answers : Map Answer). outcome o ∷ answers_of answers) same.vfs.answers;
        after = refl;
        plain_after = refl;
      } in
      (run.0, (now, more, collected mid, plain_collected went.0, refl, inl accepts, run.1), run.2)
