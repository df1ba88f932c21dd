-- Over a link that may fail, too, a call that is answered and collected is over for good; and what else holds along a
-- list from a world that events led to.
use Rattle.std.proofs.Common.{ℕ, List, ◌∷◌, ◌++◌, get_or, refl, All}
use Rattle.std.proofs.lemmas.List.Elements.{All-nil, All-cons, All-append}
use Rattle.fuse_spec.specs.declared.Refusal.TheVariants.{LinkLost}
use Rattle.fuse_spec.specs.Claim.Counts.{Protocol}
use Rattle.fuse_spec.specs.World.Events.{Event}
use Rattle.fuse_spec.specs.Reference.Plain.{Plain}
use Rattle.fuse_spec.specs.World.Records.{Record, outcome, refused, link_lost, answers_of, collected}
use Rattle.fuse_spec.specs.Claim.Alike.{Alike}
use Rattle.fuse_spec.specs.Claim.Runs.{AnswersOnce, IsOver, EndsCall, CallsEnd}
use Rattle.fuse_spec.specs.Claim.Sessions.{Session, SessionRun, linked, lost}
use Rattle.fuse_spec.specs.World.Worlds.{World}
use Rattle.fuse_theorem.specs.AnswersSound.{AnswersSound}
use Rattle.fuse_theorem.specs.SoundWorlds.{IsSoundWorld}
use Rattle.fuse_theorem.specs.SessionRecorded.{SessionRecorded, none_left, one_refused, one_accepted, one_lost, one_too_late}
use Rattle.fuse_theorem.proofs.WholeLists.AllKeeps.{all_keep}
use Rattle.fuse_theorem.proofs.Answers.AnswersStay.{IsCollected, calls_stay, collected_sound}
use Rattle.fuse_theorem.proofs.Calls.CallsEnd.{over_is, is_over, all_answers, ends_before}
use Rattle.fuse_theorem.proofs.Answers.EachAnsweredOnce.{answered_collected}
use Rattle.fuse_theorem.proofs.Refining.Refining.{sound_with}
use Rattle.fuse_theorem.proofs.OverLinks.SessionsAnswered.{both_stay, session_answers_once}
use Rattle.fuse_theorem.proofs.OverLinks.SessionsRun.{session_run}

-- The answers that wait in the world in the middle are collected, and then the rest of the list ends the calls that it
-- answers.
module _ (v mid : World) (sound : AnswersSound mid.kernel.vfs)
    (kept : (call : ℕ) → IsCollected v.kernel.vfs call → IsCollected mid.kernel.vfs call) (more : List Record)
    (last : World) (next : CallsEnd (collected mid) more last) where
  now : (call : ℕ) → IsOver v call → IsOver (collected mid) call
  now call over = let is = kept call (over_is v call over) in
      record { begun = is.begun; not_waiting = is.not_waiting; no_answer = refl }

  these : All (EndsCall v last) (answers_of mid.kernel.vfs.answers)
  these = all_answers (λ call. (IsOver v call → ⊥) × IsOver last call) (EndsCall v last)
      (λ call a ends. ends) mid.kernel.vfs.answers
      (λ call a at. (
        (λ over. let is = kept call (over_is v call over) in absurd (cc (at, is.no_answer))),
        next.stay call (is_over (collected mid) call (answered_collected mid sound call a at)),
      ))

  and_the_rest : All (EndsCall v last) (answers_of mid.kernel.vfs.answers ++ more)
  and_the_rest = All-append (EndsCall v last) (answers_of mid.kernel.vfs.answers) more these
      (λ i r lt. ends_before v (collected mid) last now (get_or more i r) (next.ended i r lt))

-- Whatever is recorded of a list of events over a link, each call that it answers is over with it, and one that was
-- over stays so.
session_calls_end : (s : Session) → AnswersSound s.world.kernel.vfs
    → (events : List Event) (records : List Record) (after : Session) → SessionRecorded s events records after
    → CallsEnd s.world records after.world
session_calls_end s sound events records after (none_left v) =
    record { ended = All-nil (EndsCall v.world v.world); stay = λ call over. over }
session_calls_end s sound events records after (one_refused v event refusal rest more last judged recorded) =
    let next = session_calls_end (linked v) sound rest more last recorded in
    record { ended = All-cons (EndsCall v last.world) (refused refusal) more tt next.ended; stay = next.stay }
session_calls_end s sound events records after (one_accepted v event o mid rest more last happens recorded) =
    let stay = calls_stay v sound event o mid happens in
    let next = session_calls_end (linked (collected mid)) (collected_sound mid stay.sound) rest more last recorded in
    record {
      ended = All-cons (EndsCall v last.world) (outcome o) (answers_of mid.kernel.vfs.answers ++ more) tt
          (and_the_rest v mid stay.sound stay.still_collected more last.world next);
      stay = λ call over. next.stay call (now v mid stay.sound stay.still_collected more last.world next call over);
    }
session_calls_end s sound events records after (one_lost v event o mid gone rest more last happens aborts recorded) =
    let stay = both_stay v sound event o mid gone happens aborts in
    let next = session_calls_end (lost (collected gone)) (collected_sound gone stay.sound) rest more last recorded in
    record {
      ended = All-cons (EndsCall v last.world) (outcome o) (link_lost ∷ answers_of gone.kernel.vfs.answers ++ more) tt
          (All-cons (EndsCall v last.world) link_lost (answers_of gone.kernel.vfs.answers ++ more) tt
          (and_the_rest v gone stay.sound stay.still_collected more last.world next));
      stay = λ call over. next.stay call (now v gone stay.sound stay.still_collected more last.world next call over);
    }
session_calls_end s sound events records after (one_too_late v event rest more last recorded) =
    let next = session_calls_end (lost v) sound rest more last recorded in
    record { ended = All-cons (EndsCall v last.world) (refused LinkLost) more tt next.ended; stay = next.stay }

module _ (s : Session) (here : IsSoundWorld s.world) (events : List Event) (records : List Record) (after : Session)
    (recorded : SessionRecorded s events records after) where
  pub session_refines : (p : Plain) → Alike s.world p
      → (q : Plain) × SessionRun s p events records after q × Alike after.world q
  session_refines p refines =
      let run = session_run s p (sound_with s.world here p refines) events records after recorded in
      (run.0, run.1, run.2.both.alike)

  pub session_keeps : Protocol after.world
  session_keeps = let run = session_run s here.plain here.sound events records after recorded in
      all_keep after.world run.0 run.2

  pub session_answers : AnswersOnce records × CallsEnd s.world records after.world
  session_answers = (
    session_answers_once s here.sound.both.world.rooted here.answers events records after recorded,
    session_calls_end s here.answers events records after recorded,
  )
