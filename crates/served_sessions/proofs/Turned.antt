-- A node that a server counts stays of one generation, over all that it does for a frame.
use Rattle.std.proofs.Common.{◌≡◌, ◌≤◌, sym, ap, subst₂, ℕ, ◌+◌, Bool, true, false, cond, List, [], ◌∷◌, count_by, nat_eq, arith}
use Rattle.std.proofs.lemmas.List.Sums.{sum_by-cons}
use Rattle.fuse_spec.specs.declared.Entry.{Entry}
use Rattle.fuse_spec.specs.Claim.Counts.{times_named}
use Rattle.fuse_spec.specs.Files.Trees.{Tree}
use Rattle.fuse_spec.specs.Kernel.Messages.{Forget, RequestBody, WireReply}
use Rattle.fuse_spec.specs.Server.Copies.{row_back, rows_back}
use Rattle.fuse_spec.specs.Server.Nodes.{NodeTable, is_held, taken_back}
use Rattle.fuse_spec.specs.Server.Server.{Server, all_taken_back, forgotten}
use Rattle.fuse_spec.proofs.QueueCounts.{count_by-cons}
use Rattle.fuse_theorem.specs.Lookups.{IsHeldAs}
use Rattle.fuse_theorem.proofs.Lookups.Lookups.{held_still}
use Rattle.fuse_theorem.proofs.Lookups.RowCounts.{count_of, taken_count}
use Rattle.fuse_theorem.proofs.Refining.Forgetting.{all_less_denotes}
use Rattle.fuse_theorem.proofs.Refining.Settling.{rows_back_denotes}
use Rattle.served_sessions.proofs.Shown.{Shows}

-- Each count falls by so much at most, and what is still counted is held under its generation.
pub record Turns (t u : NodeTable) (back : ℕ → ℕ) : Type 0 where
  pub counts : (n : ℕ) → count_of t n ≤ count_of u n + back n
  pub held : (n g : ℕ) → 2 ≤ n → IsHeldAs t n g → 1 ≤ count_of u n → IsHeldAs u n g

abbrev pub nothing_back : ℕ → ℕ
nothing_back n = 0

pub same_turns : (t : NodeTable) → Turns t t nothing_back
same_turns t = record { counts = λ n. omega arith; held = λ n g low held some. held }

pub then_turns : (t u v : NodeTable) (back : ℕ → ℕ) → ((n g : ℕ) → IsHeldAs t n g → IsHeldAs u n g)
    → ((n : ℕ) → count_of t n ≤ count_of u n) → Turns u v back → Turns t v back
then_turns t u v back more counts turns = record {
  counts = λ n. let one = counts n in let two = turns.counts n in omega (arith, one, two);
  held = λ n g low held some. turns.held n g low (more n g held) some;
}

-- ---- lookups are given back

taken_counts : (fs : List Forget) (t : NodeTable) (n : ℕ)
    → count_of t n ≤ count_of (all_taken_back t fs) n + forgotten n fs
taken_counts [] t n = omega arith
taken_counts (f ∷ fs) t n =
    let less = taken_count t f.0 f.1 n in
    let rest = taken_counts fs (taken_back t f.0 f.1) n in
    let sum = sum_by-cons (λ (g : Forget). cond (nat_eq g.0 n) g.1 0) f fs in
    omega (arith, less, rest, sum)

pub taken_turns : (fs : List Forget) (t : NodeTable) → Turns t (all_taken_back t fs) (λ n. forgotten n fs)
taken_turns fs t = record {
  counts = taken_counts fs t;
  held = λ n g low held some. held_still t (all_taken_back t fs) (all_less_denotes fs t) n g low held some;
}

-- ---- a refused copy is counted back

row_counts : (t : NodeTable) (e : Entry) (n : ℕ) → count_of t n ≤ count_of (row_back t e) n + cond (nat_eq e.nodeid n) 1 0
row_counts t e n = by (is_held t e.nodeid e.generation)
  where
    by : (b : Bool) → count_of t n ≤ count_of (cond b (taken_back t e.nodeid 1) t) n + cond (nat_eq e.nodeid n) 1 0
    by true = let less = taken_count t e.nodeid 1 n in omega (arith, less)
    by false = omega arith

pub back_counts : (es : List Entry) (t : NodeTable) (n : ℕ)
    → count_of t n ≤ count_of (rows_back t es) n + count_by (λ (e : Entry). nat_eq e.nodeid n) es
back_counts [] t n = omega arith
back_counts (e ∷ es) t n =
    let one = row_counts t e n in
    let rest = back_counts es (row_back t e) n in
    let sum = count_by-cons (λ (g : Entry). nat_eq g.nodeid n) e es in
    omega (arith, one, rest, sum)

pub back_held : (es : List Entry) (t : NodeTable) (n g : ℕ) → 2 ≤ n → IsHeldAs t n g → 1 ≤ count_of (rows_back t es) n
    → IsHeldAs (rows_back t es) n g
back_held es t n g low held some = held_still t (rows_back t es) (rows_back_denotes es t) n g low held some

-- ---- a reply is accepted

-- What it says of files is so, and each node that it names is counted once more for each entry.
pub record WireGains (t : NodeTable) (u : Server) (body : RequestBody) (wire : WireReply) : Type 0 where
  pub shows : Shows u.nodes u.tree body wire
  pub counts : (n : ℕ) → count_of t n + times_named n wire ≤ count_of u.nodes n

pub gains_still : (t : NodeTable) (u v : Server) (body : RequestBody) (wire : WireReply) → v.nodes ≡ u.nodes
    → v.tree ≡ u.tree → WireGains t u body wire → WireGains t v body wire
gains_still t u v body wire nodes tree gains = record {
  shows = subst₂ (λ (x : NodeTable) (y : Tree). Shows x y body wire) (sym nodes) (sym tree) gains.shows;
  counts = λ n.
      let more = gains.counts n in
      let same = ap (λ (x : NodeTable). count_of x n) nodes in
      omega (arith, more, same);
}
