-- The two worlds stay alike as answers are handed out to their callers.
use Rattle.std.proofs.Common.{◌≡◌, false, [], Option, get_or, refl, sym, subst}
use Rattle.std.specs.Prelude.{MatchOption}
use Rattle.fuse_spec.specs.declared.Purpose.{Purpose}
use Rattle.fuse_spec.specs.declared.Purpose.TheVariants as purpose
use Rattle.fuse_spec.specs.Values.Maps.{Map}
use Rattle.fuse_spec.specs.Calls.Answers.{Answer}
use Rattle.fuse_spec.specs.Kernel.Queues.{pending, is_signalled}
use Rattle.fuse_spec.specs.Kernel.Messages.{RequestBody}
use Rattle.fuse_spec.specs.Kernel.Kernel.{body_of}
use Rattle.fuse_spec.specs.World.Worlds.{World}
use Rattle.fuse_spec.specs.World.Records.{collected}
use Rattle.fuse_spec.specs.Claim.Runs.{plain_collected}
use Rattle.fuse_spec.specs.Reference.Plain.{Plain}
use Rattle.fuse_spec.specs.Claim.Denotes.{NodeDenotesIn, OpenDenotesIn}
use Rattle.fuse_spec.specs.Claim.Alike.{RequestBodyAsked, Alike}

-- With these answers left.
abbrev pub with_answers : World → Map Answer → World
with_answers w answers = record w { kernel = record w.kernel { vfs = record w.kernel.vfs { answers = answers } } }

abbrev pub plain_with_answers : Plain → Map Answer → Plain
plain_with_answers p answers = record p { vfs = record p.vfs { answers = answers } }

module _ (w : World) (answers : Map Answer) where
  same_body : (kept : Purpose) → body_of (with_answers w answers).kernel kept ≡ body_of w.kernel kept
  same_body purpose.Init = refl
  same_body (purpose.Release o) = refl
  same_body (purpose.Call c) = refl

  pub answers_alike : (p : Plain) → Alike w p → (others : Map Answer) → answers ≡ others
      → Alike (with_answers w answers) (plain_with_answers p others)
  answers_alike p same others e = record {
    tree = same.tree;
    vfs = record {
      names = same.vfs.names;
      names_meant = same.vfs.names_meant;
      names_reached = same.vfs.names_reached;
      opens = same.vfs.opens;
      calls = same.vfs.calls;
      answers = e;
      next_call = same.vfs.next_call;
      clock = same.vfs.clock;
      roots = same.vfs.roots;
    };
    requests = record {
      pending = λ i e lt.
          let entry = get_or (pending w.kernel.queues) i e in
          subst (λ (o : Option RequestBody). MatchOption o ⊥
          (RequestBodyAsked p.asks entry.0 (is_signalled entry.1.mark) false (NodeDenotesIn w) (OpenDenotesIn w)))
          (sym (same_body entry.1.kept)) (same.requests.pending i e lt);
      sent = same.requests.sent;
      held = same.requests.held;
    };
    asks = λ live.
        let old = same.asks live in
        record {
          of_calls = λ q state is.
              let pair = old.of_calls q state is in
              record {
                unique = pair.unique;
                ask = pair.ask;
                request = pair.request;
                there = pair.there;
                by = pair.by;
                same = pair.same;
              };
          no_other = old.no_other;
          signalled = old.signalled;
          kept = old.kept;
          copies = old.copies;
        };
    validity = same.validity;
    minor = same.minor;
    agreed = same.agreed;
    aborted = same.aborted;
  }

pub collected_alike : (w : World) (p : Plain) → Alike w p → Alike (collected w) (plain_collected p)
collected_alike w p same = answers_alike w [] p same [] refl
