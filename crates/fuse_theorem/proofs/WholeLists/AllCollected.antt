-- All that is sound stays so as answers are collected.
use Rattle.std.proofs.Common.{ℕ, [], not, nat_eq}
use Rattle.std.specs.Prelude.{T}
use Rattle.std.specs.Ordering.{nat_cmp}
use Rattle.std.specs.FinMap.{is_sorted}
use Rattle.std.specs.FinMap.Entries.{is_sorted-where_key}
use Rattle.fuse_spec.specs.Values.Maps.{Map, remove}
use Rattle.fuse_spec.specs.Calls.Answers.{Answer}
use Rattle.fuse_spec.specs.World.Worlds.{World}
use Rattle.fuse_spec.specs.World.Records.{collected}
use Rattle.fuse_spec.specs.Reference.Plain.{Plain}
use Rattle.fuse_spec.specs.Claim.Runs.{plain_collected}
use Rattle.fuse_theorem.specs.AllSound.{AllSound}
use Rattle.fuse_theorem.specs.StillOpen.{OpensAfterAbort}
use Rattle.fuse_theorem.proofs.Answers.CollectedSound.{collected_both, collected_releases, collected_faultless, collected_fits}
use Rattle.fuse_theorem.proofs.Refining.WithAnswers.{with_answers, plain_with_answers}
use Rattle.fuse_theorem.proofs.Requests.OnTheWay.{collected_way}
use Rattle.fuse_theorem.proofs.OpenFiles.OpensCollected.{collected_opens, collected_once}

module _ (w : World) (answers : Map Answer) (sorted : T (is_sorted nat_cmp answers)) where
  left : OpensAfterAbort w → OpensAfterAbort (with_answers w answers)
  left old dead = let at = old dead in record { numbers = at.numbers; calls = at.calls; opens = at.opens }

  pub answers_all : (p : Plain) → AllSound w p → AllSound (with_answers w answers) (plain_with_answers p answers)
  answers_all p all =
      record {
        both = collected_both w answers sorted p all.both;
        releases = collected_releases w answers sorted all.releases;
        taken = all.taken;
        faultless = collected_faultless w answers sorted all.faultless;
        fits = collected_fits w answers sorted all.fits;
        still = all.still;
        opens = collected_opens w answers all.opens;
        left = left all.left;
        waiting = collected_way w answers all.waiting;
        once = collected_once w answers all.once;
      }

-- All answers are collected.
pub collected_all : (w : World) (p : Plain) → AllSound w p → AllSound (collected w) (plain_collected p)
collected_all w p all = answers_all w [] tt p all

-- The answer of one call is collected.
pub handed_out_all : (w : World) (call : ℕ) (p : Plain) → AllSound w p
    → AllSound (with_answers w (remove w.kernel.vfs.answers call))
    (plain_with_answers p (remove w.kernel.vfs.answers call))
handed_out_all w call p all = answers_all w (remove w.kernel.vfs.answers call)
    (is_sorted-where_key nat_cmp (λ k. not (nat_eq k call)) w.kernel.vfs.answers all.both.world.rooted.answers) p all
