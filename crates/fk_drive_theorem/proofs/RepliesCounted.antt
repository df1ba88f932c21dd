-- What a reply that reaches a call adds to a node's lookups, whatever its entries are: those that can be used are
-- counted, and those under another generation are to be forgotten.
use Rattle.std.proofs.Common.{◌≡◌, ℕ, ◌+◌, ◌≤◌, Bool, true, false, cond, List, [], ◌∷◌, ◌++◌, Option, Some, None, nat_eq, refl, ap, arith}
use Rattle.std.specs.Prelude.{nat_lt}
use Rattle.std.proofs.lemmas.Bool.Decides.{nat_tests}
use Rattle.std.proofs.lemmas.List.Sums.{sum_by_push}
use Rattle.fuse_spec.specs.declared.Counted.{Counted}
use Rattle.fuse_spec.specs.declared.Entry.{Entry}
use Rattle.fuse_spec.specs.declared.Opened.{Opened}
use Rattle.fuse_spec.specs.Calls.Answers as answer
use Rattle.fuse_spec.specs.Calls.CallReplies.{call_replied}
use Rattle.fuse_spec.specs.Calls.Paths.{is_dots}
use Rattle.fuse_spec.specs.Calls.Vfs.{CallState, asked, answered}
use Rattle.fuse_spec.specs.Claim.Counts.{counted, times_named}
use Rattle.fuse_spec.specs.Files.Operations.{DirentPlus, files_in_reply, files_listed, first_listed, listed_by, found, created, listed_plus}
use Rattle.fuse_spec.specs.Kernel.Kernel.{Kernel, after_use}
use Rattle.fuse_spec.specs.Kernel.Messages.{Forget, WireReply}
use Rattle.fuse_spec.specs.Kernel.Replies.{Use, usable, unusable, stale, counted_more, first_use, forgets_with, judged, kernel_reply, looked_up, looked_up_by, pair_judged, pairs_judged, replied, reply_received, stale_among, stale_in, use_counted, use_of, use_of_listed, without_stale}
use Rattle.fuse_spec.specs.Server.Server.{forgotten}
use Rattle.fuse_spec.specs.Values.Maps.{Map, get, put}
use Rattle.fuse_spec.proofs.QueueCounts.{count_by-cons}
use Rattle.fuse_theorem.proofs.Lookups.CountsStay.{SameCounts, advanced_same, used_same}
use Rattle.fuse_theorem.proofs.Lookups.RowCounts.{looked_up_count}
use Rattle.fuse_theorem.proofs.Lookups.WireCounts.{entries_of}
use Rattle.fk_drive_theorem.specs.Tallies.{where_accepted}

-- ---- a node's lookups

-- The lookups of a node that the kernel has: those that it counts, and those that are to be forgotten.
abbrev pub lookups : ℕ → Kernel → ℕ
lookups id k = counted (get k.nodes id) + forgotten id k.queues.forgets

-- how often a node is among these
abbrev times_in : ℕ → List ℕ → ℕ
times_in id [] = 0
times_in id (node ∷ nodes) = cond (nat_eq node id) 1 0 + times_in id nodes

forgets_counted : (id : ℕ) (nodes : List ℕ) (forgets : List Forget)
    → forgotten id (forgets_with forgets nodes) ≡ forgotten id forgets + times_in id nodes
forgets_counted id [] forgets = omega arith
forgets_counted id (node ∷ nodes) forgets =
    let rest = forgets_counted id nodes (forgets ++ (node, 1) ∷ []) in
    let pushed = sum_by_push (λ (f : Forget). cond (nat_eq f.0 id) f.1 0) forgets (node, 1) in
    omega (arith, rest, pushed)

wire_counted : (gs : List Entry) (nodes : Map Counted) (id : ℕ)
    → counted (get (looked_up nodes gs) id) ≡ counted (get nodes id) + entries_of id gs
wire_counted [] nodes id = omega arith
wire_counted (g ∷ gs) nodes id =
    let more = looked_up_count nodes g id in
    let counts = count_by-cons (λ (x : Entry). nat_eq x.nodeid id) g gs in
    let rest = wire_counted gs (put nodes g.nodeid (counted_more g (get nodes g.nodeid))) id in
    omega (arith, more, counts, rest)

module _ (id : ℕ) (low : 2 ≤ id) where
  -- ---- an entry

  abbrev time_named : Entry → ℕ
  time_named g = cond (nat_eq g.nodeid id) 1 0

  -- What an entry's use leaves of it: one lookup that is counted, none, or one that is forgotten.
  abbrev counted_by : Entry → Use → ℕ
  counted_by g usable = time_named g
  counted_by g unusable = 0
  counted_by g (stale node) = cond (nat_eq node id) 1 0

  entry_counted : (nodes : Map Counted) (g : Entry) → counted_by g (use_of nodes g) ≡ time_named g
  entry_counted nodes g = by (nat_lt g.nodeid 2) refl
    where
      known : (o : Option Counted) → counted_by g (use_counted g o) ≡ time_named g
      known None = refl
      known (Some c) = same (nat_eq c.generation g.generation)
        where
          same : (b : Bool) → counted_by g (cond b usable (stale g.nodeid)) ≡ time_named g
          same true = refl
          same false = refl

      by : (b : Bool) → nat_lt g.nodeid 2 ≡ b
          → counted_by g (cond b unusable (use_counted g (get nodes g.nodeid))) ≡ time_named g
      by true e = grind (arith, nat_tests, e, low)
      by false e = known (get nodes g.nodeid)

  -- ---- the names of a list

  abbrev lookups_in : Option Entry → ℕ
  lookups_in None = 0
  lookups_in (Some g) = time_named g

  first_listed_counted : (o : Option Entry) (files : List Entry)
      → entries_of id (first_listed o files) ≡ lookups_in o + entries_of id files
  first_listed_counted None files = omega arith
  first_listed_counted (Some g) files = count_by-cons (λ (x : Entry). nat_eq x.nodeid id) g files

  pair_counted : (nodes : Map Counted) (pair : DirentPlus Entry)
      → lookups_in (listed_by (pair_judged pair (use_of_listed nodes (listed_by pair))))
      + times_in id (stale_in (use_of_listed nodes (listed_by pair))) ≡ lookups_in (listed_by pair)
  pair_counted nodes pair = by (listed_by pair) refl
    where
      none : (b : Bool) → lookups_in (cond b None None) ≡ 0
      none true = refl
      none false = refl

      used : (g : Entry) (u : Use) → lookups_in (listed_by pair) ≡ time_named g → counted_by g u ≡ time_named g
          → lookups_in (listed_by (pair_judged pair u)) + times_in id (stale_in u) ≡ time_named g
      used g usable is counts = omega (arith, is)
      used g unusable is counts = let no = none (is_dots pair.dirent.name) in omega (arith, no, counts)
      used g (stale node) is counts = let no = none (is_dots pair.dirent.name) in omega (arith, no, counts)

      by : (o : Option Entry) → listed_by pair ≡ o
          → lookups_in (listed_by (pair_judged pair (use_of_listed nodes o))) +
          times_in id (stale_in (use_of_listed nodes o)) ≡ lookups_in o
      by None at = let is = ap lookups_in at in omega (arith, is)
      by (Some g) at = used g (use_of nodes g) (ap lookups_in at) (entry_counted nodes g)

  times_append : (xs ys : List ℕ) → times_in id (xs ++ ys) ≡ times_in id xs + times_in id ys
  times_append [] ys = omega arith
  times_append (x ∷ xs) ys = let rest = times_append xs ys in omega (arith, rest)

  pairs_counted : (pairs : List (DirentPlus Entry)) (nodes : Map Counted)
      → entries_of id (files_listed (pairs_judged nodes pairs)) + times_in id (stale_among nodes pairs)
      ≡ entries_of id (files_listed pairs)
  pairs_counted [] nodes = omega arith
  pairs_counted (pair ∷ pairs) nodes =
      let u = use_of_listed nodes (listed_by pair) in
      let after = looked_up_by nodes pair in
      let one = pair_counted nodes pair in
      let rest = pairs_counted pairs after in
      let now = first_listed_counted (listed_by (pair_judged pair u)) (files_listed (pairs_judged after pairs)) in
      let was = first_listed_counted (listed_by pair) (files_listed pairs) in
      let left = times_append (stale_in u) (stale_among after pairs) in
      omega (arith, one, rest, now, was, left)

  -- ---- the reply

  -- This many lookups more, or fewer.
  abbrev pub Gains : Kernel → Kernel → ℕ → Type 0
  Gains k l n = lookups id l ≡ lookups id k + n

  pub same_gains : (k l : Kernel) → SameCounts k l → Gains k l 0
  same_gains k l same =
      let nodes = ap (λ (m : Map Counted). counted (get m id)) same.nodes in
      let forgets = ap (forgotten id) same.forgets in
      omega (arith, nodes, forgets)

  pub then_gains : (k l m : Kernel) (n : ℕ) → Gains k l n → SameCounts l m → Gains k m n
  then_gains k l m n gains same = let none = same_gains l m same in omega (arith, gains, none)

  module _ (k : Kernel) (call : ℕ) (state : CallState Opened) where
    usable_gains : (q : Kernel) (wire : WireReply) → q.nodes ≡ k.nodes
        → Gains q (judged q call state wire usable) (times_named id wire)
    usable_gains q wire same =
        let knows = record q { nodes = looked_up q.nodes (files_in_reply wire) } in
        let counts = wire_counted (files_in_reply wire) q.nodes id in
        then_gains q knows (judged q call state wire usable) (times_named id wire) (omega (arith, counts))
        (advanced_same knows call (call_replied q.vfs call state (kernel_reply (asked state) wire)))

    one_gains : (wire : WireReply) (g : Entry) → times_named id wire ≡ time_named g
        → Gains k (judged k call state wire (first_use (use_of k.nodes g) usable)) (times_named id wire)
    one_gains wire g names = by (use_of k.nodes g) (entry_counted k.nodes g)
      where
        by : (u : Use) → counted_by g u ≡ time_named g
            → Gains k (judged k call state wire (first_use u usable)) (times_named id wire)
        by usable counts = usable_gains k wire refl
        by unusable counts = omega (arith, counts, names)
        by (stale node) counts =
            let pushed = sum_by_push (λ (f : Forget). cond (nat_eq f.0 id) f.1 0) k.queues.forgets (node, 1) in
            omega (arith, pushed, counts, names)

    one_time : (g : Entry) → entries_of id (g ∷ []) ≡ time_named g
    one_time g = let counts = count_by-cons (λ (x : Entry). nat_eq x.nodeid id) g [] in omega (arith, counts)

    received_gains : (wire : WireReply) → Gains k (reply_received k call state wire) (times_named id wire)
    received_gains (listed_plus pairs) =
        let q = without_stale k (listed_plus pairs) in
        let back = forgets_counted id (stale_among k.nodes pairs) k.queues.forgets in
        let counts = pairs_counted pairs k.nodes in
        let gains = usable_gains q (listed_plus (pairs_judged k.nodes pairs)) refl in
        omega (arith, back, counts, gains)
    received_gains (found g valid) = one_gains (found g valid) g (one_time g)
    received_gains (created g valid fh) = one_gains (created g valid fh) g (one_time g)
    received_gains wire = usable_gains k wire refl

    -- A reply reaches an unanswered call.
    pub replied_gains : (wire : WireReply) (b : Bool)
        → Gains k (replied k call state b wire).1 (where_accepted (replied k call state b wire).0 (times_named id wire))
    replied_gains wire true = then_gains k (reply_received k call state wire) _ (times_named id wire)
        (received_gains wire) (used_same (reply_received k call state wire) state)
    replied_gains wire false =
        let failing = record k { vfs = answered k.vfs call (answer.failed 5) } in
        let same = used_same failing state in
        same_gains k (after_use failing state) (record { nodes = same.nodes; forgets = same.forgets })
