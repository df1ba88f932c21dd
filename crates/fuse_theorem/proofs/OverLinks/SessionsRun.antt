-- Every list of all events over a link that may fail: the plain world has a run with the records.
use Rattle.std.proofs.Common.{List, [], ◌∷◌, refl, ap, inl, inr}
use Rattle.fuse_spec.specs.Values.Maps.{Map}
use Rattle.fuse_spec.specs.Calls.Answers.{Answer}
use Rattle.fuse_spec.specs.declared.Refusal.TheVariants.{LinkLost}
use Rattle.fuse_spec.specs.World.Records.{Record, outcome, refused, link_lost, answers_of, collected}
use Rattle.fuse_spec.specs.Claim.Runs.{plain_collected, Accepts, RefusesEvent}
use Rattle.fuse_spec.specs.Claim.Sessions.{Session, linked, lost, Loses, moves, loses, refuses, SessionRun}
use Rattle.fuse_spec.specs.World.Events.{Event, abort, aborted}
use Rattle.fuse_spec.specs.Reference.Plain.{Plain}
use Rattle.fuse_theorem.specs.AllSound.{AllSound}
use Rattle.fuse_theorem.specs.SessionRecorded.{SessionRecorded, none_left, one_refused, one_accepted, one_lost, one_too_late}
use Rattle.fuse_theorem.proofs.WholeLists.AllCollected.{collected_all}
use Rattle.fuse_theorem.proofs.WholeLists.AllKeeps.{all_keep}
use Rattle.fuse_theorem.proofs.WholeLists.AllStaySound.{all_move}
use Rattle.fuse_theorem.proofs.PlainWorld.PlainWorld.{steps_in_words as in_words}

-- Where the records lead.
abbrev LeadsOver : Session → Plain → List Event → List Record → Session → Type 0
LeadsOver s p events records after = (q : Plain) × SessionRun s p events records after q × AllSound after.world q

-- Whatever is recorded of a list of events over a link, the plain world has a run of the same records, and all stays
-- sound.
pub session_run : (s : Session) (p : Plain) → AllSound s.world p
    → (events : List Event) (records : List Record) (after : Session) → SessionRecorded s events records after
    → (q : Plain) × SessionRun s p events records after q × AllSound after.world q
session_run s p all events records after (none_left v) = (p, (refl, refl, refl), all)
session_run s p all events records after (one_refused w event refusal rest more last judged recorded) =
    let run = session_run (linked w) p all rest more last recorded in
    let refused_one : RefusesEvent w p event (refused refusal ∷ []) w p =
    record { refusal = refusal; judged = judged; recorded = refl; after = refl; plain_after = refl } in
    (run.0, (refused refusal ∷ [], more, linked w, p, refl, moves w w p (inr refused_one), run.1), run.2)
session_run s p all events records after (one_accepted w event o mid rest more last happens recorded) =
    let went = all_move w p all event o mid happens in
    let same = went.2.both.alike in
    let run = session_run (linked (collected mid)) (plain_collected went.0)
    (collected_all mid went.0 went.2) rest more last recorded in
    let accepts : Accepts w p event (outcome o ∷ answers_of mid.kernel.vfs.answers) (collected mid)
    (plain_collected went.0) =
    record {
      outcome_of = o;
      mid = mid;
      plain = went.0;
      happens = happens;
      steps = in_words p went.0 event o went.1;
      alike = same;
      keeps = all_keep mid went.0 went.2;
      recorded = ap (λ (answers : Map Answer). outcome o ∷ answers_of answers) same.vfs.answers;
      after = refl;
      plain_after = refl;
    } in (
      run.0,
      (
        outcome o ∷ answers_of mid.kernel.vfs.answers,
        more,
        linked (collected mid),
        plain_collected went.0,
        refl,
        moves w (collected mid) (plain_collected went.0) (inl accepts),
        run.1,
      ),
      run.2,
    )
session_run s p all events records after (one_lost w event o mid last rest more end happens aborts recorded) =
    let went = all_move w p all event o mid happens in
    let gave_up = all_move mid went.0 went.2 abort aborted last aborts in
    let same = gave_up.2.both.alike in
    let run = session_run (lost (collected last)) (plain_collected gave_up.0)
    (collected_all last gave_up.0 gave_up.2) rest more end recorded in
    let now = outcome o ∷ link_lost ∷ answers_of last.kernel.vfs.answers in
    let loses_one : Loses w p event now (collected last) (plain_collected gave_up.0) =
    record {
      outcome_of = o;
      mid = mid;
      plain = went.0;
      happens = happens;
      steps = in_words p went.0 event o went.1;
      alike = went.2.both.alike;
      keeps = all_keep mid went.0 went.2;
      last = last;
      plain_last = gave_up.0;
      aborts = aborts;
      plain_aborts = in_words went.0 gave_up.0 abort aborted gave_up.1;
      alike_last = same;
      keeps_last = all_keep last gave_up.0 gave_up.2;
      recorded = ap (λ (answers : Map Answer). outcome o ∷ link_lost ∷ answers_of answers) same.vfs.answers;
      after = refl;
      plain_after = refl;
    } in (
      run.0,
      (
        now,
        more,
        lost (collected last),
        plain_collected gave_up.0,
        refl,
        loses w (collected last) (plain_collected gave_up.0) loses_one,
        run.1,
      ),
      run.2,
    )
session_run s p all events records after (one_too_late w event rest more last recorded) =
    let run = session_run (lost w) p all rest more last recorded in
    (run.0, (refused LinkLost ∷ [], more, lost w, p, refl, refuses w refl, run.1), run.2)
