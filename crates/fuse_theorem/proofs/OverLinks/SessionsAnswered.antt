-- Over a link that may fail, too, each call is answered at most once.
use Rattle.std.proofs.Common.{ℕ, List, ◌∷◌, ◌++◌, refl, arith}
use Rattle.std.proofs.lemmas.List.Elements.{All-nil, All-cons, All-append}
use Rattle.std.proofs.lemmas.List.Kept.{AllPairs-cons}
use Rattle.fuse_spec.specs.declared.Refusal.TheVariants.{LinkLost}
use Rattle.fuse_spec.specs.declared.Opened.{Opened}
use Rattle.fuse_spec.specs.Calls.Answers.{Answer}
use Rattle.fuse_spec.specs.World.Worlds.{World}
use Rattle.fuse_spec.specs.World.Events.{Event, Outcome, abort, aborted}
use Rattle.fuse_spec.specs.World.Steps.{Happens}
use Rattle.fuse_spec.specs.World.Records.{Record, outcome, refused, link_lost, answered, answers_of, collected}
use Rattle.fuse_spec.specs.Claim.Runs.{AnswersApart, AnswersOnce}
use Rattle.fuse_spec.specs.Claim.Sessions.{Session, linked, lost}
use Rattle.fuse_spec.specs.Calls.Vfs.{Vfs}
use Rattle.fuse_theorem.specs.AnswersSound.{AnswersSound}
use Rattle.fuse_theorem.specs.EachEvent.{IsRooted}
use Rattle.fuse_theorem.specs.SessionRecorded.{SessionRecorded, none_left, one_refused, one_accepted, one_lost, one_too_late}
use Rattle.fuse_theorem.proofs.Answers.AnswersApart.{Unanswered, none_answers, apart_then}
use Rattle.fuse_theorem.proofs.Answers.AnswersStay.{IsCollected, calls_stay, collected_sound}
use Rattle.fuse_theorem.proofs.Answers.EachAnsweredOnce.{answered_collected, collected_rooted}
use Rattle.fuse_theorem.proofs.Nodes.Rooted.{stays_rooted}

-- The calls stay sound, and a call whose answer was collected stays so.
pub record BothKept (c d : Vfs Opened) : Type 0 where
  pub sound : AnswersSound d
  pub still_collected : (call : ℕ) → IsCollected c call → IsCollected d call

-- An event and then an abort.
pub both_stay : (w : World) → AnswersSound w.kernel.vfs → (e : Event) (o : Outcome) (mid last : World)
    → Happens w e o mid → Happens mid abort aborted last → BothKept w.kernel.vfs last.kernel.vfs
both_stay w sound e o mid last happens aborts =
    let first = calls_stay w sound e o mid happens in
    let second = calls_stay mid first.sound abort aborted last aborts in
    record {
      sound = second.sound;
      still_collected =
          λ call before. second.still_collected call (first.still_collected call before);
    }

-- What is collected after it.
collected_after : (w mid : World) → (call : ℕ) → ((q : ℕ) → IsCollected w.kernel.vfs q → IsCollected mid.kernel.vfs q)
    → IsCollected w.kernel.vfs call → IsCollected (collected mid).kernel.vfs call
collected_after w mid call stay before = let now =
    stay call before in record { begun = now.begun; not_waiting = now.not_waiting; no_answer = refl }

-- A call whose answer is collected is not answered again.
collected_unanswered : (s : Session) → AnswersSound s.world.kernel.vfs
    → (events : List Event) (records : List Record) (after : Session) → SessionRecorded s events records after
    → (call : ℕ) (a : Answer) → IsCollected s.world.kernel.vfs call → Unanswered call a records
collected_unanswered s sound events records after (none_left v) call a before = All-nil (AnswersApart (answered call a))
collected_unanswered s sound events records after
    (one_refused w event refusal rest more last judged recorded) call a before =
    All-cons (AnswersApart (answered call a)) (refused refusal) more tt
    (collected_unanswered (linked w) sound rest more last recorded call a before)
collected_unanswered s sound events records after
    (one_accepted w event o mid rest more last happens recorded) call a before =
    let stay = calls_stay w sound event o mid happens in
    let answers = mid.kernel.vfs.answers in
    All-cons (AnswersApart (answered call a)) (outcome o) (answers_of answers ++ more) tt
    (All-append (AnswersApart (answered call a)) (answers_of answers) more
    (none_answers call a answers (stay.still_collected call before).no_answer)
    (collected_unanswered (linked (collected mid)) (collected_sound mid stay.sound) rest more last recorded call a
    (collected_after w mid call stay.still_collected before)))
collected_unanswered s sound events records after
    (one_lost w event o mid last rest more end happens aborts recorded) call a before =
    let stay = both_stay w sound event o mid last happens aborts in
    let answers = last.kernel.vfs.answers in
    All-cons (AnswersApart (answered call a)) (outcome o) (link_lost ∷ answers_of answers ++ more) tt
    (All-cons (AnswersApart (answered call a)) link_lost (answers_of answers ++ more) tt
    (All-append (AnswersApart (answered call a)) (answers_of answers) more
    (none_answers call a answers (stay.still_collected call before).no_answer)
    (collected_unanswered (lost (collected last)) (collected_sound last stay.sound) rest more end recorded call a
    (collected_after w last call stay.still_collected before))))
collected_unanswered s sound events records after (one_too_late w event rest more last recorded) call a before =
    All-cons (AnswersApart (answered call a)) (refused LinkLost) more tt
    (collected_unanswered (lost w) sound rest more last recorded call a before)

-- Whatever is recorded of a list of events over a link, each call is answered at most once.
pub session_answers_once : (s : Session) → IsRooted s.world.kernel.vfs → AnswersSound s.world.kernel.vfs
    → (events : List Event) (records : List Record) (after : Session)
    → SessionRecorded s events records after → AnswersOnce records
session_answers_once s rooted sound events records after (none_left v) =
    λ i j d lt within. absurd (omega (arith, within))
session_answers_once s rooted sound events records after (one_refused w event refusal rest more last judged recorded) =
    AllPairs-cons AnswersApart (refused refusal) more (λ i d lt. tt)
    (session_answers_once (linked w) rooted sound rest more last recorded)
session_answers_once s rooted sound events records after (one_accepted w event o mid rest more last happens recorded) =
    let reached = (calls_stay w sound event o mid happens).sound in
    let in_order = stays_rooted happens.0 w rooted o mid event happens.2 in
    let next = collected_sound mid reached in
    let answers = mid.kernel.vfs.answers in
    AllPairs-cons AnswersApart (outcome o) (answers_of answers ++ more) (λ i d lt. tt)
    (apart_then answers more in_order.answers
    (λ call a at b. collected_unanswered (linked (collected mid)) next rest more last recorded call b
    (answered_collected mid reached call a at))
    (session_answers_once (linked (collected mid)) (collected_rooted mid in_order) next rest more last recorded))
session_answers_once s rooted sound events records after
    (one_lost w event o mid last rest more end happens aborts recorded) =
    let reached = (both_stay w sound event o mid last happens aborts).sound in
    let in_order = stays_rooted aborts.0 mid
    (stays_rooted happens.0 w rooted o mid event happens.2) aborted last abort aborts.2 in
    let next = collected_sound last reached in
    let answers = last.kernel.vfs.answers in
    AllPairs-cons AnswersApart (outcome o) (link_lost ∷ answers_of answers ++ more) (λ i d lt. tt)
    (AllPairs-cons AnswersApart link_lost (answers_of answers ++ more) (λ i d lt. tt)
    (apart_then answers more in_order.answers
    (λ call a at b. collected_unanswered (lost (collected last)) next rest more end recorded call b
    (answered_collected last reached call a at))
    (session_answers_once (lost (collected last)) (collected_rooted last in_order) next rest more end recorded)))
session_answers_once s rooted sound events records after (one_too_late w event rest more last recorded) =
    AllPairs-cons AnswersApart (refused LinkLost) more (λ i d lt. tt)
    (session_answers_once (lost w) rooted sound rest more last recorded)
