-- Lookups are given back, and nodes go that nobody knows any more: all stays alike.
use Rattle.std.proofs.Common.{◌≡◌, ◌≢◌, ℕ, ◌-◌, Bool, true, false, true≢false, not, ◌||◌, cond, List, [], ◌∷◌, Option, Some, None, nat_eq, get_or, refl, ap, sym, subst, ◌∙◌, inl, inr}
use Rattle.std.specs.Prelude.{nat_lt}
use Rattle.std.specs.List.{list_any, remove as without}
use Rattle.std.proofs.lemmas.Bool.{cases_eq}
use Rattle.fuse_spec.specs.declared.Purpose.{Purpose}
use Rattle.fuse_spec.specs.declared.QueuedRequest.{QueuedRequest}
use Rattle.fuse_spec.specs.Values.Maps.{Map, get, put, remove, values}
use Rattle.fuse_spec.specs.Kernel.Messages.{Forget}
use Rattle.fuse_spec.specs.Kernel.Queues.{request_under}
use Rattle.fuse_spec.specs.Kernel.Kernel.{is_live, is_for}
use Rattle.fuse_spec.specs.Server.Nodes.{HeldNode, NodeTable, FileHandle, root_row, rows_less, taken_back}
use Rattle.fuse_spec.specs.Server.Server.{HeldRequest, is_file_held, without_unheld_files, all_taken_back, forgetting}
use Rattle.fuse_spec.specs.World.Worlds.{World}
use Rattle.fuse_spec.specs.Reference.Plain.{Plain, Ask}
use Rattle.fuse_spec.specs.Claim.Denotes.{Denotes, NodeDenotes, NodeDenotesIn}
use Rattle.fuse_spec.specs.Claim.Alike.{StillDenotes, Alike}
use Rattle.fuse_spec.proofs.Tables.{get_put_here, get_put_there, get_gone_here, get_gone_there}
use Rattle.fuse_theorem.specs.Conditions.{OneId, HoldsAll}
use Rattle.fuse_theorem.proofs.Refining.TablesReplaced.{Carries, stage_more, replaced_tables_refine}
use Rattle.fuse_theorem.proofs.Calls.Finding.{other_is, found_key}
use Rattle.fuse_theorem.proofs.Refining.LookupsCounted.{denotes_one}
use Rattle.fuse_theorem.proofs.Refining.LookedUp.{one_to_one}
use Rattle.fuse_theorem.proofs.Refining.Naming.{any_put_le}
use Rattle.fuse_theorem.proofs.Refining.Taking.{ignored_alike}
use Rattle.fuse_theorem.proofs.Trees.NamelessDiscarded.{found_any, discarded_unheld_alike}

-- ---- a table with fewer lookups

-- the rows of a table, but for one that has fewer lookups or is gone
pub less_denotes : (t : NodeTable) (id n : ℕ) (i generation file : ℕ) → Denotes (taken_back t id n) i generation file
    → Denotes t i generation file
less_denotes t id n i generation file d = by (get t.rows id) refl d
  where
    from_row : (rows : Map HeldNode) → ((row : HeldNode) → get rows i ≡ Some row
        → (old : HeldNode) × (get t.rows i ≡ Some old) × (row.generation ≡ old.generation) × (row.file ≡ old.file))
        → Denotes (record t { rows = rows }) i generation file → Denotes t i generation file
    from_row rows f e = elim (cases_eq i 1) [
      | inl one ↦ record {
        row = e.row;
        there = root e.row (is_one one) e.there;
        same_generation = e.same_generation;
        same_file = e.same_file;
      }
      | inr ne ↦
          let at : get rows i ≡ Some e.row = ap (λ (b : Bool). cond b (Some root_row) (get rows i))
          (sym (other_is i 1 ne)) ∙ e.there in
          let old = f e.row at in
          record {
            row = old.0;
            there = ap (λ (b : Bool). cond b (Some root_row) (get t.rows i)) (other_is i 1 ne) ∙ old.1;
            same_generation = sym old.2 ∙ e.same_generation;
            same_file = sym old.3 ∙ e.same_file;
          }
    ]
      where
        is_one : i ≡ 1 → nat_eq i 1 ≡ true
        is_one q = subst (λ (m : ℕ). nat_eq m 1 ≡ true) (sym q) refl

        root : (row : HeldNode) → nat_eq i 1 ≡ true → cond (nat_eq i 1) (Some root_row) (get rows i) ≡ Some row
            → cond (nat_eq i 1) (Some root_row) (get t.rows i) ≡ Some row
        root row q h = ap (λ (b : Bool). cond b (Some root_row) (get t.rows i)) q ∙
            (ap (λ (b : Bool). cond b (Some root_row) (get rows i)) (sym q) ∙ h)

    fewer : (row : HeldNode) (b : Bool) → get t.rows id ≡ Some row → (r : HeldNode)
        → get (cond b (put t.rows id (record row { count = row.count - n })) (remove t.rows id)) i ≡ Some r
        → (old : HeldNode) × (get t.rows i ≡ Some old) × (r.generation ≡ old.generation) × (r.file ≡ old.file)
    fewer row true at r h = elim (cases_eq i id) [
      | inl e ↦
          let is_new : record row { count = row.count - n } ≡ r =
          cc (
            get_put_here t.rows id (record row { count = row.count - n }),
            subst (λ (m : ℕ). get (put t.rows id (record row { count = row.count - n })) m ≡ Some r) e h,
          ) in (
            row,
            subst (λ (m : ℕ). get t.rows m ≡ Some row) (sym e) at,
            ap (λ (x : HeldNode). x.generation) (sym is_new),
            ap (λ (x : HeldNode). x.file) (sym is_new),
          )
      | inr ne ↦ (r, sym (get_put_there t.rows id (record row { count = row.count - n }) i ne) ∙ h, refl, refl)
    ]
    fewer row false at r h = elim (cases_eq i id) [
      | inl e ↦ absurd (cc (subst (λ (m : ℕ). get (remove t.rows id) m ≡ Some r) e h, get_gone_here t.rows id))
      | inr ne ↦ (r, sym (get_gone_there t.rows id i ne) ∙ h, refl, refl)
    ]

    by : (o : Option HeldNode) → get t.rows id ≡ o → Denotes
        (record t { rows = rows_less t.rows id n o }) i generation file → Denotes t i generation file
    by None at e = e
    by (Some row) at e = from_row (cond (nat_lt n row.count) (put t.rows id (record row { count = row.count - n }))
        (remove t.rows id)) (fewer row (nat_lt n row.count) at) e

pub all_less_denotes : (fs : List Forget) (t : NodeTable) (i generation file : ℕ)
    → Denotes (all_taken_back t fs) i generation file → Denotes t i generation file
all_less_denotes [] t i generation file d = d
all_less_denotes (f ∷ fs) t i generation file d =
    less_denotes t f.0 f.1 i generation file (all_less_denotes fs (taken_back t f.0 f.1) i generation file d)

-- ---- nothing else is held

-- what passes in a table is in it still where an entry changes, as the test says the same of it, or goes
pub any_fewer : {X : Type 0} (test : X → Bool) (m : Map X) (k : ℕ) (old new : X) → get m k ≡ Some old
    → test new ≡ test old → (b : Bool) → list_any test (values (cond b (put m k new) (remove m k))) ≡ true
    → list_any test (values m) ≡ true
any_fewer test m k old new at same true h = either (test new) (list_any test (values m)) (any_put_le test m k new h)
    (λ q. found_any test m k old at (sym same ∙ q))
  where
    either : (a b : Bool) → (a || b) ≡ true → (a ≡ true → b ≡ true) → b ≡ true
    either true b e f = f refl
    either false b e f = e
any_fewer {X = X} test m k old new at same false h = gone m h
  where
    gone : (n : Map X) → list_any test (values (remove n k)) ≡ true → list_any test (values n) ≡ true
    gone [] e = e
    gone (x ∷ n) e = cases (nat_eq x.0 k) e (λ q. gone n q)
      where
        cases : (b : Bool) → list_any test (values (cond (not b) (x ∷ remove n k) (remove n k))) ≡ true
            → (list_any test (values (remove n k)) ≡ true → list_any test (values n) ≡ true)
            → (test x.1 || list_any test (values n)) ≡ true
        cases true e rest = right (test x.1) (rest e)
          where
            right : (a : Bool) → list_any test (values n) ≡ true → (a || list_any test (values n)) ≡ true
            right true q = refl
            right false q = q
        cases false e rest = either (test x.1) e rest
          where
            either : (a : Bool) → (a || list_any test (values (remove n k))) ≡ true
                → (list_any test (values (remove n k)) ≡ true → list_any test (values n) ≡ true)
                → (a || list_any test (values n)) ≡ true
            either true q f = refl
            either false q f = f q

pub rows_fewer : (test : HeldNode → Bool) (rows : Map HeldNode) (id n : ℕ) (o : Option HeldNode) → get rows id ≡ o
    → ((row : HeldNode) → test (record row { count = row.count - n }) ≡ test row)
    → list_any test (values (rows_less rows id n o)) ≡ true → list_any test (values rows) ≡ true
rows_fewer test rows id n None at same h = h
rows_fewer test rows id n (Some row) at same h =
    any_fewer test rows id row (record row { count = row.count - n }) at (same row) (nat_lt n row.count) h

files_fewer : (file : ℕ) (fs : List Forget) (t : NodeTable)
    → list_any (λ (row : HeldNode). nat_eq row.file file) (values (all_taken_back t fs).rows) ≡ true
    → list_any (λ (row : HeldNode). nat_eq row.file file) (values t.rows) ≡ true
files_fewer file [] t h = h
files_fewer file (f ∷ fs) t h = rows_fewer (λ (row : HeldNode). nat_eq row.file file) t.rows f.0 f.1
    (get t.rows f.0) refl (λ row. refl) (files_fewer file fs (taken_back t f.0 f.1) h)

-- ---- what is meant is meant still

module _ (w : World) (p : Plain) (same : Alike w p) (t : NodeTable)
    (fewer : (i generation file : ℕ) → Denotes t i generation file → Denotes w.server.nodes i generation file)
    (one : OneId w.server.nodes) (holds : HoldsAll w t) where
  -- a node that is held still denotes the same file
  pub still : (i generation file : ℕ) → (f : ℕ) × Denotes t i generation f → Denotes w.server.nodes i generation file
      → Denotes t i generation file
  still i generation file there d =
      let same_file = denotes_one w.server.nodes i generation there.0 file (fewer i generation there.0 there.1) d in
      subst (λ (n : ℕ). Denotes t i generation n) same_file there.1

  one_left : OneId t
  one_left i j g h file d e = one i j g h file (fewer i g file d) (fewer j h file e)

  pub means : (id file : ℕ) → NodeDenotesIn w id file → NodeDenotes w.kernel.nodes t id file
  means id file m = record {
    generation = m.generation;
    known = m.known;
    denotes = still id m.generation file (holds.known id m.generation m.known) m.denotes;
  }

  pub meant : (unique : ℕ) (x : HeldRequest) → get w.server.held unique ≡ Some x → (id file : ℕ)
      → StillDenotes w.server.nodes x.generations id file → StillDenotes t x.generations id file
  meant unique x at id file m = record {
    generation = m.generation;
    then_held = m.then_held;
    denotes = still id m.generation file (holds.held unique x at id m.generation m.then_held) m.denotes;
  }

  -- the request of an ask is unanswered
  pub unanswered : is_live w.kernel.phase ≡ true → (unique : ℕ) (ask : Ask) → get p.asks unique ≡ Some ask
      → request_under w.kernel.queues unique ≢ None
  unanswered live unique ask at = found_key (λ (e : ℕ
      × QueuedRequest Purpose). is_for ask.call e.1.kept) w.kernel.queues.requests unique
      ((same.asks live).no_other unique ask at)

  pub carries_fewer : Carries w p w.kernel.nodes t w.server.handles
  carries_fewer = record {
    means = means;
    opens = λ o file m. record { node_means = means o.nodeid file m.node_means; is_handle = m.is_handle };
    one = one_to_one w.kernel.nodes t one_left;
    held_nodes = λ u x at id file among m. meant u x at id file m;
    held_opens = λ u x at o file among m. record {
      node_meant = meant u x at o.nodeid file m.node_meant;
      is_handle = m.is_handle;
    };
    kept = λ live u k ask at there reply_matches.
        stage_more w.server.nodes t w.server.handles w.server.handles ask.stage k.wire
        (λ g file among d. still g.nodeid g.generation file
        (holds.kept u k at (unanswered live u ask there) g among) d) (λ fh file among o. o) reply_matches;
    copies = λ live i s lt ask there reply_matches.
        let sent = get_or w.replies i s in
        stage_more w.server.nodes t w.server.handles w.server.handles ask.stage sent.wire
        (λ g file among d. still g.nodeid g.generation file
        (holds.copies i s lt (unanswered live sent.unique ask there) g among) d) (λ fh file among o. o) reply_matches;
  }

-- The server takes a FORGET or a BATCH_FORGET: where it holds afterwards what is known, held and on its way, all is
-- alike.
pub forgotten_alike : (w : World) (p : Plain) → OneId w.server.nodes → Alike w p → (k : ℕ) (fs : List Forget)
    → HoldsAll w (all_taken_back w.server.nodes fs) → Alike
    (record w { requests = without w.requests k; server = forgetting w.server fs }) p
forgotten_alike w p one same k fs holds =
    let t = all_taken_back w.server.nodes fs in
    let s2 = record w.server { nodes = t } in
    let carries = carries_fewer w p same t
    (λ i generation file d. all_less_denotes fs w.server.nodes i generation file d) one holds in
    let numbers = λ (file : ℕ). list_any (λ (h : FileHandle). nat_eq h.file file) (values w.server.handles.handles) in
    let trees = discarded_unheld_alike s2 p.tree
    (λ file. is_file_held w.server file) same.tree.names same.tree.next_inode same.tree.next_cookie same.tree.files
    (λ file h. either (list_any (λ (row : HeldNode). nat_eq row.file file) (values t.rows)) (numbers file)
    (list_any (λ (row : HeldNode). nat_eq row.file file) (values w.server.nodes.rows)) h
    (λ q. files_fewer file fs w.server.nodes q)) in
    let carried = replaced_tables_refine w p same w.kernel.nodes t w.server.handles
    (without_unheld_files s2).tree p.tree carries trees in
    ignored_alike (record w { server = forgetting w.server fs }) p carried k
  where
    either : (a b c : Bool) → (a || b) ≡ true → (a ≡ true → c ≡ true) → (c || b) ≡ true
    either true b c h f = ap (λ (x : Bool). x || b) (f refl)
    either false true true h f = refl
    either false true false h f = refl
    either false false c h f = absurd (true≢false (sym h))
