-- A request that is read asks what the kernel keeps of it.
use Rattle.std.proofs.Common.{◌≡◌, ℕ, ◌+◌, Bool, true, false, cond, List, [], ◌∷◌, Option, Some, None, option_map, slice_get, drop, refl, ap, sym, subst, ◌∙◌, nat_eq}
use Rattle.std.specs.Map.{lookup}
use Rattle.std.specs.Option.{option_map_or}
use Rattle.std.proofs.lemmas.Bool.{false≢true, true≢false}
use Rattle.fuse_spec.specs.declared.Mark.{Mark}
use Rattle.fuse_spec.specs.declared.Mark.TheVariants as mark
use Rattle.fuse_spec.specs.declared.Purpose.{Purpose}
use Rattle.fuse_spec.specs.declared.QueuedRequest.{QueuedRequest}
use Rattle.fuse_spec.specs.Kernel.Kernel.{Kernel, body_of}
use Rattle.fuse_spec.specs.Kernel.Messages.{Request, RequestBody}
use Rattle.fuse_spec.specs.Kernel.QueueCalls.{after_reading, can_read_forgets, set_mark}
use Rattle.fuse_spec.specs.Kernel.Queues.{QueueState, is_unread, pending, request_under}
use Rattle.fuse_theorem.proofs.Requests.AskKept.{asks_same, lookup_marked}
use Rattle.fk_kernel.specs.Picks.{IsPicked, after_pick}
use Rattle.fk_kernel.specs.declared.read.Pick.{Pick}
use Rattle.fk_kernel.specs.declared.read.Pick.TheVariants.{Forgets, Interrupt, Pending}
use Rattle.fk_drive_theorem.proofs.OneEach.{OneEach}
use Rattle.driven_sessions.proofs.Asking.{once_each}
use Rattle.driven_sessions.proofs.Frames.{is_interrupt}
use Rattle.driven_sessions.proofs.Numbers.{Each, Entry, each_at}
use Rattle.driven_sessions.proofs.Picking.{Above, found_pending, none_coming}
use Rattle.driven_sessions.proofs.Files.Bodies.{AskAlike, AsksAlike}

-- What is under the number of a pending request once it is read.
pub record IsUnder (k : Kernel) (r : Request) : Type 0 where
  pub request : QueuedRequest Purpose
  pub under : request_under k.queues r.unique ≡ Some request
  pub read : is_unread request.mark ≡ false
  pub asks : body_of k request.kept ≡ Some r.body

module _ (k : Kernel) (one : OneEach k.queues) (above : Above k.queues) where
  pub pending_under : (place : ℕ) (r : Request) → IsPicked k (Pending place) r
      → IsUnder (record k { queues = after_pick k.queues (Pending place) }) r
  pending_under place r is = by (slice_get (pending k.queues) place) refl is.pending
    where
      number : Option (ℕ × Purpose) → ℕ
      number None = 0
      number (Some x) = x.0

      purpose : Option (ℕ × Purpose) → Purpose
      purpose None = is.purpose
      purpose (Some x) = x.1

      of : (e : Entry) → slice_get (pending k.queues) place ≡ Some e → e.0 ≡ r.unique → e.1.kept ≡ is.purpose
          → (new : Kernel) → new.vfs.calls ≡ k.vfs.calls → (m : Mark) → is_unread m ≡ false
          → new.queues.requests ≡ set_mark e.0 k.queues.requests m → IsUnder new r
      of e at unique kept new calls m read requests =
          let there = found_pending k.queues.requests place e (once_each k.queues one e.0) at in record {
            request = record { mark = m; kept = e.1.kept };
            under = ap (request_under new.queues) (sym unique) ∙ ap (lookup (nat_eq e.0)) requests
                ∙ lookup_marked e.0 m e.1 k.queues.requests there;
            read = read;
            asks = asks_same k new e.1.kept calls ∙ ap (body_of k) kept ∙ is.body;
          }

      by : (o : Option Entry) → slice_get (pending k.queues) place ≡ o
          → option_map {U = ℕ × Purpose} (λ (e : Entry). (e.0, e.1.kept)) o ≡ Some (r.unique, is.purpose)
          → IsUnder (record k { queues = after_pick k.queues (Pending place) }) r
      by None at found = cc found
      by (Some e) at found =
          let unique : e.0 ≡ r.unique = ap number found in
          let kept : e.1.kept ≡ is.purpose = ap purpose found in
          let unread = each_at (λ x. Unit {0}) (λ x. is_unread x.1.mark) k.queues.requests place e (all_are k.queues.requests) at in
          let same : after_pick k.queues (Pending place) ≡ after_reading k.queues e.0 e.1.mark =
          ap (λ (o : Option Entry). option_map_or (λ (x : Entry). after_reading k.queues x.0 x.1.mark) o k.queues) at in
          subst (λ (q : QueueState Purpose). IsUnder (record k { queues = q }) r) (sym same)
          (read_as e.1.mark unread.0 (of e at unique kept))
        where
          all_are : (es : List Entry) → Each (λ x. Unit {0}) es
          all_are [] = tt
          all_are (x ∷ es) = (tt, all_are es)

          read_as : (m : Mark) → is_unread m ≡ true
              → ((new : Kernel) → new.vfs.calls ≡ k.vfs.calls → (m : Mark) → is_unread m ≡ false
              → new.queues.requests ≡ set_mark e.0 k.queues.requests m → IsUnder new r)
              → IsUnder (record k { queues = after_reading k.queues e.0 m }) r
          read_as mark.Unread unread is = is (record k { queues = after_reading k.queues e.0 mark.Unread }) refl mark.Read refl refl
          read_as mark.Flagged unread is =
              is (record k { queues = after_reading k.queues e.0 mark.Flagged }) refl mark.Interrupted refl refl
          read_as mark.Read unread is = absurd (false≢true unread)
          read_as mark.Interrupted unread is = absurd (false≢true unread)

  -- What awaits a reply under it asks so.
  pub picked_alike : (pick : Pick) (r : Request) → IsPicked k pick r → is_interrupt r.body ≡ false
      → AsksAlike r.body r.unique (record k { queues = after_pick k.queues pick })
  picked_alike Interrupt r is other x under read b asks =
      absurd (true≢false (sym (ap (λ (q : Request). is_interrupt q.body) is.is) ∙ other))
  picked_alike (Forgets count) r is other x under read b asks =
      absurd (cc (under, ap (request_under new.queues) unique ∙ none (can_read_forgets k.queues count)))
    where
      new : Kernel
      new = record k { queues = after_pick k.queues (Forgets count) }

      unique : r.unique ≡ k.queues.next
      unique = ap (λ (q : Request). q.unique) is.is

      none : (b : Bool) → request_under (cond b (record k.queues {
        forgets = drop count k.queues.forgets;
        next = k.queues.next + 2;
      }) k.queues) k.queues.next ≡ None
      none true = none_coming k one above
      none false = none_coming k one above
  picked_alike (Pending place) r is other x under read b asks =
      let there = pending_under place r is in
      let same : there.request ≡ x = cc (there.under, under) in
      let body : r.body ≡ b = some_body r.body b (sym there.asks
      ∙ ap (λ (q : QueuedRequest Purpose). body_of (record k { queues = after_pick k.queues (Pending place) }) q.kept) same ∙ asks) in
      subst (λ (c : RequestBody). AskAlike c r.body) body (record { nodes = refl; node = refl; files = refl })
    where
      some_body : (c d : RequestBody) → ◌≡◌ {A = Option RequestBody} (Some c) (Some d) → c ≡ d
      some_body c d e = ap of e
        where
          of : Option RequestBody → RequestBody
          of None = c
          of (Some y) = y
