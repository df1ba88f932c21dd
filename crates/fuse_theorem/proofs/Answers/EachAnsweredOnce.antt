-- Whatever happens, each call is answered at most once.
use Rattle.std.proofs.Common.{◌≡◌, ℕ, ◌<◌, Bool, true, false, List, ◌++◌, Some, refl, arith}
use Rattle.std.specs.Prelude.{nat_lt}
use Rattle.std.proofs.lemmas.Bool.Decides.{nat_tests}
use Rattle.std.proofs.lemmas.List.Elements.{All-nil, All-cons, All-append}
use Rattle.std.proofs.lemmas.List.Kept.{AllPairs-cons}
use Rattle.fuse_spec.specs.Values.Maps.{get}
use Rattle.fuse_spec.specs.Calls.Answers.{Answer}
use Rattle.fuse_spec.specs.World.Worlds.{World}
use Rattle.fuse_spec.specs.World.Events.{Event}
use Rattle.fuse_spec.specs.World.Records.{Record, outcome, refused, answered, answers_of, collected}
use Rattle.fuse_spec.specs.Claim.Runs.{AnswersApart, AnswersOnce}
use Rattle.fuse_theorem.specs.AnswersSound.{AnswersSound}
use Rattle.fuse_theorem.specs.EachEvent.{IsRooted}
use Rattle.fuse_theorem.specs.Recorded.{Recorded, none_left, one_refused, one_accepted}
use Rattle.fuse_theorem.proofs.Answers.AnswersApart.{Unanswered, none_answers, apart_then}
use Rattle.fuse_theorem.proofs.Answers.AnswersStay.{IsCollected, calls_stay, collected_sound}
use Rattle.fuse_theorem.proofs.Nodes.Rooted.{stays_rooted}

-- A call whose answer is collected is not answered again.
collected_unanswered : (w : World) → AnswersSound w.kernel.vfs
    → (events : List Event) (records : List Record) (after : World) → Recorded w events records after
    → (call : ℕ) (a : Answer) → IsCollected w.kernel.vfs call → Unanswered call a records
collected_unanswered w sound events records after (none_left v) call a before = All-nil (AnswersApart (answered call a))
collected_unanswered w sound events records after
    (one_refused v event refusal rest more last judged recorded) call a before =
    All-cons (AnswersApart (answered call a)) (refused refusal) more tt
    (collected_unanswered w sound rest more last recorded call a before)
collected_unanswered w sound events records after
    (one_accepted v event o mid rest more last happens recorded) call a before =
    let stay = calls_stay w sound event o mid happens in
    let now = stay.still_collected call before in
    let answers = mid.kernel.vfs.answers in
    All-cons (AnswersApart (answered call a)) (outcome o) (answers_of answers ++ more) tt
    (All-append (AnswersApart (answered call a)) (answers_of answers) more (none_answers call a answers now.no_answer)
    (collected_unanswered (collected mid) (collected_sound mid stay.sound) rest more last recorded call a
    (record { begun = now.begun; not_waiting = now.not_waiting; no_answer = refl })))

-- A call that has an answer is collected with it.
pub answered_collected : (w : World) → AnswersSound w.kernel.vfs → (call : ℕ) (a : Answer)
    → get w.kernel.vfs.answers call ≡ Some a → IsCollected (collected w).kernel.vfs call
answered_collected w sound call a at = record {
  begun = begun (nat_lt call w.kernel.vfs.next_call) refl;
  not_waiting = sound.one call a at;
  no_answer = refl;
}
  where
    begun : (b : Bool) → nat_lt call w.kernel.vfs.next_call ≡ b → call < w.kernel.vfs.next_call
    begun true e = grind (arith, nat_tests, e)
    begun false e = absurd (cc (at, sound.answers_below call (grind (arith, nat_tests, e))))

pub collected_rooted : (w : World) → IsRooted w.kernel.vfs → IsRooted (collected w).kernel.vfs
collected_rooted w rooted = record { root = rooted.root; answers = tt }

-- Whatever is recorded of a list of events, each call is answered at most once.
pub answers_once : (w : World) → IsRooted w.kernel.vfs → AnswersSound w.kernel.vfs
    → (events : List Event) (records : List Record) (after : World) → Recorded w events records after
    → AnswersOnce records
answers_once w rooted sound events records after (none_left v) = λ i j d lt within. absurd (omega (arith, within))
answers_once w rooted sound events records after (one_refused v event refusal rest more last judged recorded) =
    AllPairs-cons AnswersApart (refused refusal) more (λ i d lt. tt)
    (answers_once w rooted sound rest more last recorded)
answers_once w rooted sound events records after (one_accepted v event o mid rest more last happens recorded) =
    let reached = (calls_stay w sound event o mid happens).sound in
    let in_order = stays_rooted happens.0 w rooted o mid event happens.2 in
    let next = collected_sound mid reached in
    let answers = mid.kernel.vfs.answers in
    AllPairs-cons AnswersApart (outcome o) (answers_of answers ++ more) (λ i d lt. tt)
    (apart_then answers more in_order.answers
    (λ call a at b. collected_unanswered (collected mid) next rest more last recorded call b
    (answered_collected mid reached call a at))
    (answers_once (collected mid) (collected_rooted mid in_order) next rest more last recorded))
