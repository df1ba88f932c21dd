-- What holds of a sound world, and of any plain world that it is alike to.
use Rattle.std.proofs.Common.{ℕ, List, ap}
use Rattle.fuse_spec.specs.Values.Maps.{remove}
use Rattle.fuse_spec.specs.Claim.Counts.{Protocol}
use Rattle.fuse_spec.specs.World.Events.{Event, Outcome}
use Rattle.fuse_spec.specs.Reference.Plain.{Plain}
use Rattle.fuse_spec.specs.Reference.PlainWords.{Steps}
use Rattle.fuse_spec.specs.World.Records.{Record}
use Rattle.fuse_spec.specs.Claim.Alike.{Alike}
use Rattle.fuse_spec.specs.Claim.Runs.{Run, AnswersOnce, IsOver, CallsEnd, plain_handed_out}
use Rattle.fuse_spec.specs.World.Steps.{Happens}
use Rattle.fuse_spec.specs.World.Worlds.{World}
use Rattle.fuse_theorem.specs.AllSound.{AllSound}
use Rattle.fuse_theorem.specs.SoundWorlds.{IsSoundWorld}
use Rattle.fuse_theorem.specs.Recorded.{Recorded}
use Rattle.fuse_theorem.proofs.WholeLists.AllKeeps.{all_keep}
use Rattle.fuse_theorem.proofs.WholeLists.AllRun.{all_run}
use Rattle.fuse_theorem.proofs.WholeLists.AllStaySound.{all_move, alike_too}
use Rattle.fuse_theorem.proofs.Answers.AnswersStay.{calls_stay}
use Rattle.fuse_theorem.proofs.PlainWorld.PlainWorld.{steps_in_words}
use Rattle.fuse_theorem.proofs.Refining.WithAnswers.{with_answers, answers_alike}

module _ (w : World) (here : IsSoundWorld w) where
  -- All that is sound with the plain world that is known is sound with any other that is alike.
  pub sound_with : (p : Plain) → Alike w p → AllSound w p
  sound_with p alike = alike_too w here.plain here.sound p alike

  pub refined : (p : Plain) × Alike w p
  refined = (here.plain, here.sound.both.alike)

  pub kept : Protocol w
  kept = all_keep w here.plain here.sound

  -- An event: every plain world that is alike takes its step, and is alike again.
  pub event_refines : (e : Event) (o : Outcome) (after : World) → Happens w e o after → (p : Plain) → Alike w p
      → (q : Plain) × Steps p e o q × Alike after q
  event_refines e o after happens p alike =
      let went = all_move w p (sound_with p alike) e o after happens in
      (went.0, steps_in_words p went.0 e o went.1, went.2.both.alike)

  pub over_stays : (e : Event) (o : Outcome) (after : World) → Happens w e o after → (call : ℕ) → IsOver w call
      → IsOver after call
  over_stays e o after happens call over =
      let stay = calls_stay w here.answers e o after happens in
      let now = stay.still_collected call (record {
        begun = over.begun;
        not_waiting = over.not_waiting;
        no_answer = over.no_answer;
      }) in
      record { begun = now.begun; not_waiting = now.not_waiting; no_answer = now.no_answer }

  -- The answer of one call is collected.
  pub handing_out : (call : ℕ) (p : Plain) → Alike w p
      → Alike (with_answers w (remove w.kernel.vfs.answers call)) (plain_handed_out p call)
  handing_out call p alike = answers_alike w (remove w.kernel.vfs.answers call) p alike (remove p.vfs.answers call)
      (ap (λ answers. remove answers call) alike.vfs.answers)

  -- A list of events, with what is recorded of it.
  pub list_refines : (events : List Event) (records : List Record) (after : World) → Recorded w events records after
      → (p : Plain) → Alike w p → (q : Plain) × Run w p events records after q × Alike after q
  list_refines events records after recorded p alike =
      let run = all_run w p (sound_with p alike) here.answers events records after recorded in
      (run.0, run.1, run.2.both.alike)

  pub list_answers : (events : List Event) (records : List Record) (after : World) → Recorded w events records after
      → AnswersOnce records × CallsEnd w records after
  list_answers events records after recorded =
      let run = all_run w here.plain here.sound here.answers events records after recorded in
      (run.3, run.4)

  pub list_keeps : (events : List Event) (records : List Record) (after : World) → Recorded w events records after
      → Protocol after
  list_keeps events records after recorded =
      let run = all_run w here.plain here.sound here.answers events records after recorded in
      all_keep after run.0 run.2
