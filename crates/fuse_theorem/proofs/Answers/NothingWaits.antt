-- At rest nothing waits: no request that was read is unanswered, and no call.
use Rattle.std.proofs.Common.{◌≡◌, ◌≢◌, ℕ, Bool, true, false, true≢false, cond, not, List, [], ◌∷◌, Option, Some, None, nat_eq, slice_get, count_by, zero, refl, ap, sym, subst, ◌∙◌, arith, All}
use Rattle.std.specs.Ordering.{is_eq}
use Rattle.std.proofs.lemmas.List.Elements.{All-head}
use Rattle.fuse_spec.specs.declared.Opened.{Opened}
use Rattle.fuse_spec.specs.declared.Purpose.{Purpose}
use Rattle.fuse_spec.specs.declared.QueuedRequest.{QueuedRequest}
use Rattle.fuse_spec.specs.Values.Maps.{Map, get}
use Rattle.fuse_spec.specs.Calls.Vfs.{CallState}
use Rattle.fuse_spec.specs.Kernel.Queues.{is_unread, processing, request_under}
use Rattle.fuse_spec.specs.Kernel.Kernel.{is_for}
use Rattle.fuse_spec.specs.Server.Server.{HeldRequest}
use Rattle.fuse_spec.specs.Claim.Counts.{AtRest}
use Rattle.fuse_spec.specs.World.Worlds.{World}
use Rattle.fuse_spec.specs.Reference.Plain.{Plain}
use Rattle.fuse_spec.specs.Claim.Alike.{Alike}
use Rattle.fuse_spec.proofs.QueueCounts.{lookup-found}
use Rattle.fuse_spec.proofs.QueueReadings.{key_count-le-one}
use Rattle.fuse_spec.proofs.Tables.{cmp_same}
use Rattle.fuse_theorem.specs.Copies.{SomeHas, here, there}
use Rattle.fuse_theorem.specs.OnTheWay.{IsOnItsWay, sent, held, replied, ReadAreOnTheirWay}
use Rattle.fuse_theorem.specs.WorldSound.{WorldSound}
use Rattle.fuse_theorem.proofs.Calls.Finding.{filtered, found_key}
use Rattle.fuse_theorem.proofs.Requests.OnTheWay.{IsRequest, IsCopy}
use Rattle.fuse_theorem.proofs.Requests.PendingCounts.{unread_pending}

none_has : {X : Type 0} (P : X → Type 0) (xs : List X) → xs ≡ [] → SomeHas P xs → ⊥
none_has P xs empty (here x rest p) = absurd (cc (empty))
none_has P xs empty (there x rest h) = absurd (cc (empty))

-- the first entry of a map stands under its key
pub first_found : {X : Type 0} (m : Map X) (key : ℕ) (x : X) (rest : Map X) → m ≡ (key, x) ∷ rest → get m key ≡ Some x
first_found {X = X} m key x rest is = ap (λ (n : Map X). get n key) is ∙ ap
    (λ r. cond (is_eq r) (Some x) (get rest key)) (cmp_same key)

module _ (w : World) (sound : WorldSound w) (way : ReadAreOnTheirWay w) (rest : AtRest w) where
  none_on_its_way : (unique : ℕ) → IsOnItsWay w unique → ⊥
  none_on_its_way unique (sent h) = none_has (IsRequest unique) w.requests rest.requests h
  none_on_its_way unique (held h) = h (ap (λ (m : Map HeldRequest). get m unique) rest.held)
  none_on_its_way unique (replied h) = none_has (IsCopy unique) w.replies rest.replies h

  none_read : (unique : ℕ) (r : QueuedRequest Purpose) → request_under w.kernel.queues unique ≡ Some r
      → is_unread r.mark ≡ false → ⊥
  none_read unique r under read = none_on_its_way unique (way rest.live unique r under read)

  none_unread : (unique : ℕ) (r : QueuedRequest Purpose) → request_under w.kernel.queues unique ≡ Some r
      → is_unread r.mark ≡ true → ⊥
  none_unread unique r under unread =
      let stands = unread_pending unique w.kernel.queues r under unread in
      let none = ap (λ (es : List (ℕ × QueuedRequest Purpose)). count_by
      (λ (e : ℕ × QueuedRequest Purpose). nat_eq unique e.0) es) rest.pending in
      absurd (omega (arith, stands, none))

  no_request : (unique : ℕ) → request_under w.kernel.queues unique ≢ None → ⊥
  no_request unique some = by (request_under w.kernel.queues unique) refl
    where
      either : (r : QueuedRequest Purpose) → request_under w.kernel.queues unique ≡ Some r → (b : Bool)
          → is_unread r.mark ≡ b → ⊥
      either r under true unread = none_unread unique r under unread
      either r under false read = none_read unique r under read

      by : (o : Option (QueuedRequest Purpose)) → request_under w.kernel.queues unique ≡ o → ⊥
      by None under = some under
      by (Some r) under = either r under (is_unread r.mark) refl

  pub none_processing : processing w.kernel.queues ≡ []
  none_processing = by (processing w.kernel.queues) refl
    where
      is_read : (b : Bool) → not b ≡ true → b ≡ false
      is_read true e = absurd (true≢false (sym e))
      is_read false e = refl

      by : (es : List (ℕ × QueuedRequest Purpose)) → processing w.kernel.queues ≡ es → es ≡ []
      by [] is = refl
      by (e ∷ es) is =
          let first : slice_get (processing w.kernel.queues) zero ≡ Some e =
          ap (λ (xs : List (ℕ × QueuedRequest Purpose)). slice_get xs zero) is in
          let under = lookup-found (λ (x : ℕ × QueuedRequest Purpose). not
          (is_unread x.1.mark)) w.kernel.queues.requests zero e first
          (key_count-le-one w.kernel.queues e.0 sound.queues) in
          let passes = subst (All (λ (x : ℕ × QueuedRequest Purpose). not (is_unread x.1.mark) ≡ true)) is
          (filtered (λ (x : ℕ × QueuedRequest Purpose). not (is_unread x.1.mark)) w.kernel.queues.requests) in
          absurd (none_read e.0 e.1 under (is_read (is_unread e.1.mark)
          (All-head (λ (x : ℕ × QueuedRequest Purpose). not (is_unread x.1.mark) ≡ true) e es passes)))

  pub none_called : (p : Plain) → Alike w p → w.kernel.vfs.calls ≡ []
  none_called p same = by w.kernel.vfs.calls refl
    where
      by : (m : Map (CallState Opened)) → w.kernel.vfs.calls ≡ m → m ≡ []
      by [] is = refl
      by (e ∷ m) is =
          let pair = (same.asks rest.live).of_calls e.0 e.1 (first_found w.kernel.vfs.calls e.0 e.1 m is) in
          absurd (no_request pair.unique (found_key (λ (x : ℕ
          × QueuedRequest Purpose). is_for e.0 x.1.kept) w.kernel.queues.requests pair.unique pair.request))
