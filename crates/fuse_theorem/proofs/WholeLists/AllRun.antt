-- Every list of all events: the plain world has a run with the machine's records.
use Rattle.std.proofs.Common.{List}
use Rattle.fuse_spec.specs.World.Worlds.{World}
use Rattle.fuse_spec.specs.World.Records.{Record}
use Rattle.fuse_spec.specs.Claim.Runs.{Run, AnswersOnce, CallsEnd}
use Rattle.fuse_spec.specs.World.Events.{Event}
use Rattle.fuse_spec.specs.Reference.Plain.{Plain}
use Rattle.fuse_theorem.specs.AllSound.{AllSound}
use Rattle.fuse_theorem.specs.AnswersSound.{AnswersSound}
use Rattle.fuse_theorem.specs.Recorded.{Recorded}
use Rattle.fuse_theorem.proofs.WholeLists.AllCollected.{collected_all}
use Rattle.fuse_theorem.proofs.WholeLists.AllKeeps.{all_keep}
use Rattle.fuse_theorem.proofs.WholeLists.AllStaySound.{all_move}
use Rattle.fuse_theorem.proofs.Calls.CallsEnd.{calls_end}
use Rattle.fuse_theorem.proofs.Answers.EachAnsweredOnce.{answers_once}
use Rattle.fuse_theorem.proofs.WholeLists.ListsRun.{KeptBy, lists_run}

abbrev AnyEvent : Event → Type 0
AnyEvent e = Unit {0}

all_kept : KeptBy AnyEvent AllSound
all_kept = record {
  event = λ w p all e any o after happens. all_move w p all e o after happens;
  collecting = λ w p all. collected_all w p all;
  alike = λ w p all. all.both.alike;
  protocol = λ w p all. all_keep w p all;
}

-- Whatever the machine records of a list of events, the plain world has a run of the same records, alike after each
-- event, in which the reference protocol holds after each, each call is answered at most once, and is over then.
pub all_run : (w : World) (p : Plain) → AllSound w p → AnswersSound w.kernel.vfs
    → (events : List Event) (records : List Record) (after : World) → Recorded w events records after
    → (q : Plain) × Run w p events records after q × AllSound after q × AnswersOnce records × CallsEnd w records after
all_run w p all answers events records after recorded =
    let run = lists_run AnyEvent AllSound all_kept w p all events records after (λ i e lt. tt) recorded in
    let world = all.both.world in (
      run.0,
      run.1,
      run.2,
      answers_once w world.rooted answers events records after recorded,
      calls_end w answers events records after recorded,
    )
