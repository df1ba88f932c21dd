-- A RELEASE that the kernel queues is no ask of the plain world.
use Rattle.std.proofs.Common.{◌≡◌, ℕ, Bool, true, false, cond, [], ◌∷◌, Option, Some, None, refl, sym, subst, ◌∙◌, inl, inr, All}
use Rattle.std.proofs.lemmas.Bool.{cases_eq}
use Rattle.std.proofs.lemmas.List.Elements.{All-push}
use Rattle.fuse_spec.specs.declared.Opened.{Opened}
use Rattle.fuse_spec.specs.declared.Purpose.{Purpose}
use Rattle.fuse_spec.specs.declared.Purpose.TheVariants as purpose
use Rattle.fuse_spec.specs.declared.Mark.TheVariants.{Unread}
use Rattle.fuse_spec.specs.declared.QueuedRequest.{QueuedRequest}
use Rattle.fuse_spec.specs.Values.Maps.{Map, get, remove}
use Rattle.fuse_spec.specs.Kernel.Queues.{pending, IsSound}
use Rattle.fuse_spec.specs.Kernel.QueueCalls.{after_enqueue}
use Rattle.fuse_spec.specs.Kernel.Kernel.{is_live, is_for, request_of, is_used, released, released_if_idle}
use Rattle.fuse_spec.specs.World.Worlds.{World}
use Rattle.fuse_spec.specs.Reference.Plain.{Plain, Ask}
use Rattle.fuse_spec.specs.Claim.Alike.{PurposeAsked, Alike}
use Rattle.fuse_spec.proofs.QueueReadings.{pending-enqueue, request_under-enqueue_other}
use Rattle.fuse_theorem.proofs.Calls.Finding.{other_is, find_first}
use Rattle.fuse_theorem.proofs.Refining.Asking.{next_is_new}

module _ (w : World) (p : Plain) (sound : IsSound w.kernel.queues) (same : Alike w p)
    (live : is_live w.kernel.phase ≡ true) where
  -- nothing is asked under the coming number
  pub next_unasked : get p.asks w.kernel.queues.next ≡ None
  next_unasked = by (get p.asks w.kernel.queues.next) refl
    where
      by : (o : Option Ask) → get p.asks w.kernel.queues.next ≡ o → o ≡ None
      by None e = refl
      by (Some ask) e =
          absurd (next_is_new w.kernel.queues sound w.kernel.queues.next
          (λ (x : ℕ × QueuedRequest Purpose). is_for ask.call x.1.kept)
          ((same.asks live).no_other w.kernel.queues.next ask e) refl)

  pub release_alike : (closing : Map Opened) (o : Opened)
      → Alike (record w {
        kernel = record w.kernel {
          closing = closing;
          queues = after_enqueue w.kernel.queues (purpose.Release o);
        };
      }) p
  release_alike closing o =
      let q0 = w.kernel.queues in
      let k = record w.kernel { closing = closing; queues = after_enqueue q0 (purpose.Release o) } in
      let n = q0.next in
      let old = same.asks live in
      let new : QueuedRequest Purpose = record { mark = Unread; kept = purpose.Release o } in
      let stays : (q u : ℕ) → request_of w.kernel q ≡ Some u → request_of k q ≡ Some u =
      λ q u e. find_first (λ (x : ℕ × QueuedRequest Purpose). is_for q x.1.kept)
      (λ (x : ℕ × QueuedRequest Purpose). x.0) q0.requests ((n, new) ∷ []) u e in
      record {
        tree = same.tree;
        vfs = same.vfs;
        requests = record {
          pending = subst (All (PurposeAsked (record w { kernel = k }) p))
              (sym (pending-enqueue q0 (purpose.Release o)))
              (All-push (PurposeAsked (record w { kernel = k }) p) (pending q0)
              (n, new) same.requests.pending next_unasked);
          sent = same.requests.sent;
          held = same.requests.held;
        };
        asks = λ _.
            record {
              of_calls = λ q state at.
                  let pair = old.of_calls q state at in
                  record {
                    unique = pair.unique;
                    ask = pair.ask;
                    request = stays q pair.unique pair.request;
                    there = pair.there;
                    by = pair.by;
                    same = pair.same;
                  };
              no_other = λ u x at. stays x.call u (old.no_other u x at);
              signalled = λ u request x under at bears. elim (cases_eq u n) [
                | inl e ↦ absurd (cc (subst (λ (m : ℕ). get p.asks m ≡ Some x) e at, next_unasked))
                | inr ne ↦ old.signalled u request x (sym (request_under-enqueue_other q0 (purpose.Release o) u
                    (other_is u n ne)) ∙ under) at bears
              ];
              kept = old.kept;
              copies = old.copies;
            };
        validity = same.validity;
        minor = same.minor;
        agreed = same.agreed;
        aborted = same.aborted;
      }

  -- the files that are closed don't matter
  pub closing_alike : (closing : Map Opened) → Alike (record w { kernel = record w.kernel { closing = closing } }) p
  closing_alike closing = record {
    tree = same.tree;
    vfs = same.vfs;
    requests = record { pending = same.requests.pending; sent = same.requests.sent; held = same.requests.held };
    asks = λ l.
        let old = same.asks l in
        record {
          of_calls = λ q state at.
              let pair = old.of_calls q state at in
              record {
                unique = pair.unique;
                ask = pair.ask;
                request = pair.request;
                there = pair.there;
                by = pair.by;
                same = pair.same;
              };
          no_other = old.no_other;
          signalled = old.signalled;
          kept = old.kept;
          copies = old.copies;
        };
    validity = same.validity;
    minor = same.minor;
    agreed = same.agreed;
    aborted = same.aborted;
  }

  released_by : (open_call : ℕ) (o : Option Opened) → Alike (record w { kernel = released w.kernel open_call o }) p
  released_by open_call None = same
  released_by open_call (Some o) = by (is_used w.kernel open_call)
    where
      by : (b : Bool) → Alike (record w {
        kernel = record w.kernel {
          closing =
              cond b w.kernel.closing (remove w.kernel.closing open_call);
          queues =
              cond b w.kernel.queues (after_enqueue w.kernel.queues (purpose.Release o));
        };
      }) p
      by true = same
      by false = release_alike (remove w.kernel.closing open_call) o

  pub released_alike : (open_call : ℕ) → Alike (record w { kernel = released_if_idle w.kernel open_call }) p
  released_alike open_call = released_by open_call (get w.kernel.closing open_call)
