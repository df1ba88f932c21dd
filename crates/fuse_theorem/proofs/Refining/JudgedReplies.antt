-- Where the server holds what the kernel counts and what a reply names, the kernel takes the reply as it is.
use Rattle.std.proofs.Common.{◌≡◌, ℕ, ◌≤◌, List, [], ◌∷◌, ◌++◌, Option, Some, None, refl, ap, sym, subst, ◌∙◌, inl, inr, All}
use Rattle.std.proofs.lemmas.List.Elements.{All-nil, All-cons, All-head, All-tail}
use Rattle.fuse_spec.specs.declared.Counted.{Counted}
use Rattle.fuse_spec.specs.declared.Entry.{Entry}
use Rattle.fuse_spec.specs.declared.Opened.{Opened}
use Rattle.fuse_spec.specs.Claim.Denotes.{generation_known}
use Rattle.fuse_spec.specs.Kernel.Kernel.{Kernel}
use Rattle.fuse_spec.specs.Values.Maps.{Map, get, put}
use Rattle.fuse_spec.specs.Kernel.Messages.{WireReply}
use Rattle.fuse_spec.specs.Server.Nodes.{NodeTable}
use Rattle.fuse_spec.specs.Files.Operations.{DirentPlus, listed_by, first_listed, files_listed, listed_plus, files_in_reply}
use Rattle.fuse_spec.specs.Kernel.Replies.{Use, usable, first_use, counted_more, looked_up, use_of_listed, pair_judged, pairs_judged, stale_in, stale_among, each_forgotten, reply_judged, use_of_reply, stale_in_reply, judged, reply_received}
use Rattle.fuse_spec.specs.Calls.Vfs.{CallState}
use Rattle.fuse_theorem.specs.Conditions.{IsUsable}
use Rattle.fuse_theorem.specs.Lookups.{IsHeldAs, EntriesHeld}
use Rattle.fuse_theorem.proofs.Refining.LookedUp.{looked_up_known, usable_known}
use Rattle.fuse_theorem.proofs.Nodes.NodesSound.{put_found}
use Rattle.fuse_theorem.proofs.Replies.RepliesGo.{use_one, all_usable}

-- The kernel receives such a reply as one whose entries can all be used.
pub received_is : (k : Kernel) (call : ℕ) (state : CallState Opened) (wire : WireReply) → IsUsable k.nodes wire
    → reply_received k call state wire ≡ judged k call state wire usable
received_is k call state wire is =
    λ i. judged (record k { queues = each_forgotten k.queues (is.none_stale i) }) call state (is.judged i)
    (is.is_usable i)

module _ (t : NodeTable) where
  abbrev pub HeldCounted : Map Counted → Type 0
  HeldCounted nodes = (id : ℕ) (node : Counted) → get nodes id ≡ Some node → IsHeldAs t id node.generation

  abbrev EntryHeld : Entry → Type 0
  EntryHeld g = (2 ≤ g.nodeid) × IsHeldAs t g.nodeid g.generation

  -- what is counted once an entry is counted is held
  looked_up_one : (nodes : Map Counted) → HeldCounted nodes → (g : Entry) → EntryHeld g
      → HeldCounted (put nodes g.nodeid (counted_more g (get nodes g.nodeid)))
  looked_up_one nodes known g held id node at = elim (put_found nodes g.nodeid
      (counted_more g (get nodes g.nodeid)) id node at) [
        | inl e ↦ subst (λ (c : Counted). IsHeldAs t id c.generation) e.1
            (subst (λ (n : ℕ). IsHeldAs t n (counted_more g (get nodes g.nodeid)).generation) (sym e.0)
            (by (get nodes g.nodeid) refl))
        | inr e ↦ known id node e
      ]
    where
      by : (o : Option Counted) → get nodes g.nodeid ≡ o → IsHeldAs t g.nodeid (counted_more g o).generation
      by None at = held.1
      by (Some c) at = known g.nodeid c at

  -- Each entry is known under its own generation then.
  all_known : (gs : List Entry) (nodes : Map Counted) → HeldCounted nodes → All EntryHeld gs
      → All (λ (g : Entry). generation_known (looked_up nodes gs) g.nodeid ≡ Some g.generation) gs
  all_known [] nodes known held = All-nil (λ (g : Entry). generation_known nodes g.nodeid ≡ Some g.generation)
  all_known (g ∷ gs) nodes known held =
      let mine = All-head EntryHeld g gs held in
      let next = put nodes g.nodeid (counted_more g (get nodes g.nodeid)) in
      let used = ap (λ (u : Use). first_use u usable) (use_one nodes t known g mine.0 mine.1) in
      All-cons (λ (x : Entry). generation_known (looked_up next gs) x.nodeid ≡ Some x.generation) g gs
      (looked_up_known gs next g.nodeid g.generation (usable_known nodes g used))
      (all_known gs next (looked_up_one nodes known g mine) (All-tail EntryHeld g gs held))

  -- ---- names of a list

  listed_usable : (nodes : Map Counted) → HeldCounted nodes → (o : Option Entry) (rest : List Entry)
      → All EntryHeld (first_listed o rest) → use_of_listed nodes o ≡ usable
  listed_usable nodes known None rest held = refl
  listed_usable nodes known (Some g) rest held = let mine =
      All-head EntryHeld g rest held in use_one nodes t known g mine.0 mine.1

  listed_held : (nodes : Map Counted) → HeldCounted nodes → (o : Option Entry) (rest : List Entry)
      → All EntryHeld (first_listed o rest) → HeldCounted (looked_up nodes (first_listed o []))
  listed_held nodes known None rest held = known
  listed_held nodes known (Some g) rest held = looked_up_one nodes known g (All-head EntryHeld g rest held)

  rest_held : (o : Option Entry) (rest : List Entry) → All EntryHeld (first_listed o rest) → All EntryHeld rest
  rest_held None rest held = held
  rest_held (Some g) rest held = All-tail EntryHeld g rest held

  pairs_usable : (pairs : List (DirentPlus Entry)) (nodes : Map Counted) → HeldCounted nodes
      → All EntryHeld (files_listed pairs) → (pairs_judged nodes pairs ≡ pairs) × (stale_among nodes pairs ≡ [])
  pairs_usable [] nodes known held = (refl, refl)
  pairs_usable (pair ∷ pairs) nodes known held =
      let o = listed_by pair in
      let files = files_listed pairs in
      let used = listed_usable nodes known o files held in
      let rest = pairs_usable pairs (looked_up nodes (first_listed o [])) (listed_held nodes known o files held)
      (rest_held o files held) in (
        ap (λ (u : Use). pair_judged pair u ∷ pairs_judged
            (looked_up nodes (files_listed (pair_judged pair u ∷ []))) pairs) used ∙ ap
            (λ (xs : List (DirentPlus Entry)). pair ∷ xs) rest.0,
        ap (λ (u : Use). stale_in u ++ stale_among (looked_up nodes
            (files_listed (pair_judged pair u ∷ []))) pairs) used ∙ rest.1,
      )

  -- Any reply whose entries are held can be used.
  pub reply_usable : (nodes : Map Counted) → HeldCounted nodes → (wire : WireReply) → EntriesHeld t wire
      → IsUsable nodes wire
  reply_usable nodes known wire held = record {
    judged = parts.0;
    none_stale = parts.1;
    is_usable = parts.2;
    known = all_known (files_in_reply wire) nodes known held;
  }
    where
      by : (x : WireReply) → EntriesHeld t x → (reply_judged nodes x ≡ x) × (stale_in_reply nodes x ≡ [])
          × (use_of_reply nodes x ≡ usable)
      by (listed_plus pairs) h = let both = pairs_usable pairs nodes known h in
          (ap (λ (xs : List (DirentPlus Entry)). listed_plus xs) both.0, both.1, refl)
      by x h = (refl, refl, all_usable nodes t known (files_in_reply x) h)

      parts : (reply_judged nodes wire ≡ wire) × (stale_in_reply nodes wire ≡ []) × (use_of_reply nodes wire ≡ usable)
      parts = by wire held
