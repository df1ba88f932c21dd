-- The kernel knows the nodes that a request names, as it is read.
use Rattle.std.proofs.Common.{◌≡◌, ◌⊎◌, inl, inr, ℕ, ◌≤◌, ◌<◌, Bool, true, false, cond, List, [], ◌∷◌, Option, Some, None, nat_eq, nat_lt, option_map, slice_get, filter, zero, suc, refl, ap, sym, subst, ◌∙◌, arith, All}
use Rattle.std.proofs.lemmas.Bool.Decides.{nat_tests}
use Rattle.std.proofs.lemmas.List.Elements.{All-nil, All-cons, All-head, All-tail}
use Rattle.fuse_spec.specs.declared.Counted.{Counted}
use Rattle.fuse_spec.specs.declared.Opened.{Opened}
use Rattle.fuse_spec.specs.declared.Purpose.{Purpose}
use Rattle.fuse_spec.specs.declared.Purpose.TheVariants as purpose
use Rattle.fuse_spec.specs.declared.QueuedRequest.{QueuedRequest}
use Rattle.fuse_spec.specs.Calls.Vfs.{CallState}
use Rattle.fuse_spec.specs.Claim.Counts.{counted}
use Rattle.fuse_spec.specs.Values.Maps.{get}
use Rattle.fuse_spec.specs.Kernel.Kernel.{Kernel, asked_by, body_of}
use Rattle.fuse_spec.specs.Kernel.Messages.{Forget, Request, RequestBody}
use Rattle.fuse_spec.specs.Kernel.Queues.{is_unread, pending}
use Rattle.fuse_spec.specs.Server.Server.{nodes_of_body}
use Rattle.fuse_spec.specs.World.Worlds.{forget_body}
use Rattle.fuse_theorem.specs.KnownNodes.{IsKnown}
use Rattle.fuse_theorem.specs.ReleasesKnown.{ReleaseKnown}
use Rattle.fuse_theorem.proofs.Calls.KnownWalks.{StateKnown}
use Rattle.fuse_theorem.proofs.Lists.Values.{All-get}
use Rattle.fuse_theorem.proofs.Nodes.HeldKnown.{state_names}
use Rattle.fk_kernel.specs.Picks.{IsPicked}
use Rattle.fk_kernel.specs.declared.read.Pick.{Pick}
use Rattle.fk_kernel.specs.declared.read.Pick.TheVariants.{Interrupt, Forgets, Pending}
use Rattle.driven_sessions.proofs.Forgetting.{Forgetting}
use Rattle.driven_sessions.proofs.KnownNodes.{Knowing}

-- Entries of a list that pass a test are such, where all are.
kept_at : {X : Type 0} (P : X → Type 0) (test : X → Bool) (xs : List X) (place : ℕ) (x : X) → All P xs
    → slice_get (filter test xs) place ≡ Some x → P x
kept_at P test [] place x all at = absurd (cc at)
kept_at {X} P test (y ∷ xs) place x all at = by (test y) place at (λ n. kept_at P test xs n x (All-tail P y xs all))
  where
    some : (a b : X) → ◌≡◌ {A = Option X} (Some a) (Some b) → a ≡ b
    some a b same = ap of same
      where
        of : Option X → X
        of None = a
        of (Some z) = z

    by : (b : Bool) (place : ℕ) → slice_get (cond b (y ∷ filter test xs) (filter test xs)) place ≡ Some x
        → ((n : ℕ) → slice_get (filter test xs) n ≡ Some x → P x) → P x
    by true zero at rest = subst P (some y x at) (All-head P y xs all)
    by true (suc place) at rest = rest place at
    by false place at rest = rest place at

abbrev nodes_said : Option RequestBody → List ℕ
nodes_said None = []
nodes_said (Some body) = nodes_of_body body

forgets_name_none : (fs : List Forget) → nodes_of_body (forget_body fs) ≡ []
forgets_name_none [] = refl
forgets_name_none (f ∷ []) = refl
forgets_name_none (f ∷ g ∷ fs) = refl

none_named : (P : ℕ → Type 0) (ids : List ℕ) → ids ≡ [] → All P ids
none_named P ids none = subst (All P) (sym none) (All-nil P)

module _ (k : Kernel) (w : Knowing k) where
  pub purpose_known : (p : Purpose) → ReleaseKnown k.nodes p → (body : RequestBody) → body_of k p ≡ Some body
      → All (IsKnown k.nodes) (nodes_of_body body)
  purpose_known purpose.Init release body is = subst (All (IsKnown k.nodes)) (ap nodes_said is) (All-nil (IsKnown k.nodes))
  purpose_known (purpose.Release o) release body is = subst (All (IsKnown k.nodes)) (ap nodes_said is)
      (All-cons (IsKnown k.nodes) o.nodeid [] release (All-nil (IsKnown k.nodes)))
  purpose_known (purpose.Call call) release body is = by (get k.vfs.calls call) refl is
    where
      by : (o : Option (CallState Opened)) → get k.vfs.calls call ≡ o → asked_by o ≡ Some body
          → All (IsKnown k.nodes) (nodes_of_body body)
      by None at is = absurd (cc is)
      by (Some state) at is = subst (All (IsKnown k.nodes)) (ap nodes_said is)
          (state_names k.nodes state (All-get (StateKnown k.nodes) k.vfs.calls call state w.nodes.calls at))

  pub picked_known : (pick : Pick) (r : Request) → IsPicked k pick r → All (IsKnown k.nodes) (nodes_of_body r.body)
  picked_known Interrupt r is =
      none_named (IsKnown k.nodes) _ (ap (λ (q : Request). nodes_of_body q.body) is.is)
  picked_known (Forgets count) r is = none_named (IsKnown k.nodes) _
      (ap (λ (q : Request). nodes_of_body q.body) is.is ∙ forgets_name_none is.forgets)
  picked_known (Pending place) r is = by (slice_get (pending k.queues) place) refl is.pending
    where
      that : Option (ℕ × Purpose) → Purpose
      that None = is.purpose
      that (Some p) = p.1

      by : (o : Option (ℕ × QueuedRequest Purpose)) → slice_get (pending k.queues) place ≡ o
          → option_map {U = ℕ × Purpose} (λ (e : ℕ × QueuedRequest Purpose). (e.0, e.1.kept)) o ≡ Some (r.unique, is.purpose)
          → All (IsKnown k.nodes) (nodes_of_body r.body)
      by None at found = absurd (cc found)
      by (Some e) at found = purpose_known is.purpose (subst (ReleaseKnown k.nodes) (ap that found)
          (kept_at (λ (x : ℕ × QueuedRequest Purpose). ReleaseKnown k.nodes x.1.kept) (λ x. is_unread x.1.mark) k.queues.requests place e
          w.releases.requests at)) r.body is.body

  -- A node that is known is the root, or counted.
  pub known_counted : Forgetting k → (id : ℕ) → IsKnown k.nodes id → (id ≡ 1) ⊎ ((2 ≤ id) × (1 ≤ counted (get k.nodes id)))
  known_counted f id known = by (nat_eq id 1) refl known
    where
      some : (o : Option Counted) → get k.nodes id ≡ o → (option_map (λ (c : Counted). c.generation) o ≡ None → ⊥)
          → (2 ≤ id) × (1 ≤ counted o)
      some None at known = absurd (known refl)
      some (Some c) at known = (low (nat_lt id 2) refl, f.nodes.some id c at)
        where
          low : (b : Bool) → nat_lt id 2 ≡ b → 2 ≤ id
          low true is = let below : id < 2 = grind (arith, nat_tests, is) in absurd (cc (f.nodes.none id below, at))
          low false is = grind (arith, nat_tests, is)

      by : (b : Bool) → nat_eq id 1 ≡ b → (cond b (Some 0) (option_map (λ (c : Counted). c.generation) (get k.nodes id)) ≡ None → ⊥)
          → (id ≡ 1) ⊎ ((2 ≤ id) × (1 ≤ counted (get k.nodes id)))
      by true is known = inl (grind (arith, nat_tests, is))
      by false is known = inr (some (get k.nodes id) refl known)
