-- File handles stay balanced, and of one open file at most, as answers are collected.
use Rattle.fuse_spec.specs.Values.Maps.{Map}
use Rattle.fuse_spec.specs.Calls.Answers.{Answer}
use Rattle.fuse_spec.specs.World.Worlds.{World}
use Rattle.fuse_theorem.specs.OpenNumbers.{OpensSound}
use Rattle.fuse_theorem.specs.OpensOnce.{OpensOnceWhileLive}
use Rattle.fuse_theorem.proofs.Refining.WithAnswers.{with_answers}

pub collected_opens : (w : World) (answers : Map Answer) → OpensSound w → OpensSound (with_answers w answers)
collected_opens w answers old =
    let apart = old.apart in
    record {
      apart = record {
        once = apart.once;
        below = apart.below;
        opens = apart.opens;
        closing = apart.closing;
        uses = apart.uses;
      };
      held = old.held;
      balanced = λ live. let now = old.balanced live in record { balance = now.balance; files = now.files };
      unopened = old.unopened;
    }

pub collected_once : (w : World) (answers : Map Answer) → OpensOnceWhileLive w
    → OpensOnceWhileLive (with_answers w answers)
collected_once w answers old live = let now = old live in
    record { below = now.below; one = now.one; unopened = now.unopened; once = now.once }
