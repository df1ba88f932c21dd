-- Lookups stay balanced where requests are read and calls go on, and nodes that are counted stay held.
use Rattle.std.proofs.Common.{◌≡◌, ◌≢◌, ℕ, ◌+◌, ◌≤◌, ◌<◌, Bool, cond, List, length, Option, Some, None, nat_eq, get_or, refl, ap, sym, subst, ◌∙◌, arith, All}
use Rattle.std.specs.Prelude.{sum_by}
use Rattle.std.proofs.lemmas.List.Sums.{get_or-le-sum_by}
use Rattle.fuse_spec.specs.declared.Counted.{Counted}
use Rattle.fuse_spec.specs.declared.Entry.{Entry}
use Rattle.fuse_spec.specs.declared.ReplyResult.{ReplyResult}
use Rattle.fuse_spec.specs.declared.WriteResult.{WriteResult}
use Rattle.fuse_spec.specs.declared.WriteResult.TheVariants.{Accepted, NoEntry, Invalid}
use Rattle.fuse_spec.specs.Values.Maps.{Map, get}
use Rattle.fuse_spec.specs.Kernel.Messages.{Request, WireReply}
use Rattle.fuse_spec.specs.Files.Operations.{files_in_reply}
use Rattle.fuse_spec.specs.Kernel.Kernel.{Kernel}
use Rattle.fuse_spec.specs.Server.Nodes.{HeldNode, NodeTable, row_of, root_row}
use Rattle.fuse_spec.specs.Server.Server.{Copy, count_in, forgotten, forgets_of}
use Rattle.fuse_spec.specs.Claim.Counts.{Balance, counted, times_named, carried, refused}
use Rattle.fuse_spec.specs.Claim.Denotes.{Denotes}
use Rattle.fuse_spec.specs.World.Worlds.{World, Sent}
use Rattle.fuse_theorem.specs.Lookups.{IsHeldAs, EntriesHeld, RefusedHeld, LookupsBalanced}
use Rattle.fuse_theorem.proofs.Calls.Finding.{same_is, other_is}
use Rattle.fuse_theorem.proofs.Lookups.RowCounts.{count_of}

-- How many lookups of a node the forgets on the request link give back.
abbrev pub sent_forgets : ℕ → List Request → ℕ
sent_forgets id requests = sum_by (λ (r : Request). forgotten id (forgets_of r.body)) requests

-- How often the copies on the reply link name a node, and how often the refused ones did.
abbrev pub copies_name : ℕ → List Sent → ℕ
copies_name id replies = sum_by (λ (s : Sent). times_named id s.wire) replies

abbrev pub refused_name : ℕ → Map Copy → List ReplyResult → ℕ
refused_name id copies results = sum_by (λ (r : ReplyResult). refused r.result
    (carried (times_named id) (get copies r.number))) results

-- ---- what is counted is held

-- A reply names what it names at least once.
names_once : (wire : WireReply) (i : ℕ) (g : Entry) → i < length (files_in_reply wire)
    → 1 ≤ times_named (get_or (files_in_reply wire) i g).nodeid wire
names_once wire i g lt =
    let id = (get_or (files_in_reply wire) i g).nodeid in
    subst (λ (b : Bool). cond b 1 0 ≤ times_named id wire) (same_is id)
    (get_or-le-sum_by (λ (e : Entry). cond (nat_eq e.nodeid id) 1 0) (files_in_reply wire) i g lt)

-- A node of a smaller table that is counted is held as before.
pub held_still : (t t' : NodeTable) → ((i generation file : ℕ) → Denotes t' i generation file
    → Denotes t i generation file) → (id generation : ℕ) → 2 ≤ id → IsHeldAs t id generation → 1 ≤ count_of t' id
    → IsHeldAs t' id generation
held_still t t' fewer id generation low held counts = by (get t'.rows id) refl
  where
    by : (o : Option HeldNode) → get t'.rows id ≡ o → IsHeldAs t' id generation
    by None at = let none : count_of t' id ≡ 0 = ap count_in at in absurd (omega (arith, none, counts))
    by (Some row) at =
        let is_row : row_of t' id ≡ Some row = ap (λ (b : Bool). cond b (Some root_row) (get t'.rows id))
        (other_is id 1 (λ e. absurd (omega (arith, e, low)))) ∙ at in
        let before = fewer id row.generation row.file (record {
          row = row;
          there = is_row;
          same_generation = refl;
          same_file = refl;
        }) in
        let was = held.1 in
        let same : before.row ≡ was.row = cc (before.there, was.there) in (
          row.file,
          record {
            row = row;
            there = is_row;
            same_generation =
                sym before.same_generation ∙ ap (λ (r : HeldNode). r.generation) same ∙ was.same_generation;
            same_file =
                refl;
          },
        )

module _ (w : World) (old : LookupsBalanced w) where
  -- The server gives back lookups, and the result link has at most what it had.
  pub shrunk : (v : World) → ((i generation file : ℕ) → Denotes v.server.nodes i generation file
      → Denotes w.server.nodes i generation file) → v.kernel.nodes ≡ w.kernel.nodes → v.replies ≡ w.replies
      → All (RefusedHeld w.server.nodes v.server.copies) v.results → Balance v → LookupsBalanced v
  shrunk v fewer nodes replies results balance = record {
    balance = balance;
    known = λ id node at.
        let was = old.known id node (sym (ap (λ (m : Map Counted). get m id) nodes) ∙ at) in
        let whole = balance id was.0 in
        let mine : counted (get v.kernel.nodes id) ≡ node.count = ap counted at in
        let many = was.1 in (
          was.0,
          was.1,
          held_still w.server.nodes v.server.nodes fewer id node.generation was.0 was.2
              (omega (arith, whole, mine, many)),
        );
    copies = subst (λ (xs : List Sent). All (λ (s : Sent). EntriesHeld v.server.nodes s.wire) xs) (sym replies)
        (λ i s lt j g inside.
        let wire = (get_or w.replies i s).wire in
        let entry = get_or (files_in_reply wire) j g in
        let was = old.copies i s lt j g inside in
        let named = names_once wire j g inside in
        let sum = get_or-le-sum_by (λ (x : Sent). times_named entry.nodeid x.wire) w.replies i s lt in
        let same : copies_name entry.nodeid v.replies ≡ copies_name entry.nodeid w.replies =
        ap (copies_name entry.nodeid) replies in
        let whole = balance entry.nodeid was.0 in (
          was.0,
          held_still w.server.nodes v.server.nodes fewer entry.nodeid entry.generation was.0 was.1
              (omega (arith, named, sum, same, whole)),
        ));
    refused = λ i r lt copy no_good there j g inside.
        let entry = get_or (files_in_reply copy.wire) j g in
        let was = results i r lt copy no_good there j g inside in
        let named = names_once copy.wire j g inside in
        let carries = refused_carries entry.nodeid (get_or v.results i r).result no_good copy
        (get v.server.copies (get_or v.results i r).number) there in
        let sum = get_or-le-sum_by (λ (x : ReplyResult). refused x.result
        (carried (times_named entry.nodeid) (get v.server.copies x.number))) v.results i r lt in
        let whole = balance entry.nodeid was.0 in (
          was.0,
          held_still w.server.nodes v.server.nodes fewer entry.nodeid entry.generation was.0 was.1
              (omega (arith, named, carries, sum, whole)),
        );
  }
    where
      refused_carries : (id : ℕ) (result : WriteResult) → result ≢ Accepted → (copy : Copy) (o : Option Copy)
          → o ≡ Some copy → times_named id copy.wire ≡ refused result (carried (times_named id) o)
      refused_carries id Accepted no_good copy o at = absurd (no_good refl)
      refused_carries id NoEntry no_good copy o at = ap (carried (times_named id)) (sym at)
      refused_carries id Invalid no_good copy o at = ap (carried (times_named id)) (sym at)

  -- The server holds as much as before or more.
  pub grown : (v : World) → ((i generation file : ℕ) → Denotes w.server.nodes i generation file
      → Denotes v.server.nodes i generation file) → v.kernel.nodes ≡ w.kernel.nodes
      → All (λ (s : Sent). EntriesHeld v.server.nodes s.wire) v.replies
      → All (RefusedHeld w.server.nodes v.server.copies) v.results → Balance v → LookupsBalanced v
  grown v more nodes copies results balance = record {
    balance = balance;
    known = λ id node at.
        let was = old.known id node (sym (ap (λ (m : Map Counted). get m id) nodes) ∙ at) in
        let held = was.2 in
        (was.0, was.1, (held.0, more id node.generation held.0 held.1));
    copies = copies;
    refused = λ i r lt copy no_good there j g inside.
        let entry = get_or (files_in_reply copy.wire) j g in
        let was = results i r lt copy no_good there j g inside in
        let held = was.1 in
        (was.0, (held.0, more entry.nodeid entry.generation held.0 held.1));
  }

  -- The kernel moves, and requests go out, but the same nodes are counted and the same lookups are to be forgotten.
  pub kernel_moves : (k : Kernel) (requests : List Request) → k.nodes ≡ w.kernel.nodes
      → ((id : ℕ) → forgotten id k.queues.forgets + sent_forgets id requests
      ≡ forgotten id w.kernel.queues.forgets + sent_forgets id w.requests)
      → LookupsBalanced (record w { kernel = k; requests = requests })
  kernel_moves k requests nodes forgets = record {
    balance = λ id low.
        let same : counted (get k.nodes id) ≡ counted (get w.kernel.nodes id) =
        ap (λ (m : Map Counted). counted (get m id)) nodes in
        let whole = old.balance id low in
        let moved = forgets id in
        omega (arith, whole, same, moved);
    known = λ id node at. old.known id node (sym (ap (λ (m : Map Counted). get m id) nodes) ∙ at);
    copies = old.copies;
    refused = old.refused;
  }
