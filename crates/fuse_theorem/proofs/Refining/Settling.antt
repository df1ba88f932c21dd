-- A copy is settled, and what a refused one carried is given back: all stays alike.
use Rattle.std.proofs.Common.{◌≡◌, ◌≢◌, ℕ, ◌-◌, Bool, true, false, ◌||◌, cond, List, [], ◌∷◌, Option, Some, None, nat_eq, get_or, refl, ap, sym, subst, ◌∙◌, inl, inr}
use Rattle.std.specs.Prelude.{nat_lt}
use Rattle.std.specs.List.{list_any, remove as without}
use Rattle.std.proofs.lemmas.Bool.{cases_eq}
use Rattle.fuse_spec.specs.declared.Entry.{Entry}
use Rattle.fuse_spec.specs.declared.ReplyResult.{ReplyResult}
use Rattle.fuse_spec.specs.declared.WriteResult.{WriteResult}
use Rattle.fuse_spec.specs.declared.WriteResult.TheVariants.{Accepted, NoEntry, Invalid}
use Rattle.fuse_spec.specs.Values.Maps.{Map, get, put, remove, values}
use Rattle.fuse_spec.specs.Files.Operations.{files_in_reply, opens_in_reply}
use Rattle.fuse_spec.specs.Kernel.Messages.{WireReply}
use Rattle.fuse_spec.specs.Server.Nodes.{HeldNode, NodeTable, FileHandle, HandleTable, is_held, taken_back, is_file_of, is_open, handles_less, handle_back}
use Rattle.fuse_spec.specs.Server.Copies.{row_back, rows_back, handles_back, given_back, kept_after, settled}
use Rattle.fuse_spec.specs.Server.Server.{Kept, Copy, is_file_held, without_unheld_files}
use Rattle.fuse_spec.specs.World.Worlds.{World, after_settle}
use Rattle.fuse_spec.specs.Reference.Plain.{Plain}
use Rattle.fuse_spec.specs.Claim.Denotes.{Denotes}
use Rattle.fuse_spec.specs.Claim.Alike.{Alike}
use Rattle.fuse_spec.proofs.Tables.{get_put_here, get_put_there, get_gone_here, get_gone_there}
use Rattle.fuse_theorem.specs.Conditions.{OneId, HoldsAll, HoldsOpens, IsFileHandle}
use Rattle.fuse_theorem.proofs.Refining.TablesReplaced.{stage_more}
use Rattle.fuse_theorem.proofs.Refining.Forgetting.{less_denotes, any_fewer, rows_fewer, still, means, meant, unanswered}
use Rattle.fuse_theorem.proofs.Refining.UnusedNodesDropped.{Narrows, fewer_nodes_refine}
use Rattle.fuse_theorem.proofs.Trees.NamelessDiscarded.{discarded_unheld_alike}

-- ---- the server knows of fewer kept replies and copies

-- what is left of a map was there
pub left_was : {X : Type 0} (m : Map X) (k q : ℕ) (x : X) → get (remove m k) q ≡ Some x → get m q ≡ Some x
left_was m k q x at = elim (cases_eq q k) [
  | inl e ↦ absurd (cc (subst (λ (n : ℕ). get (remove m k) n ≡ Some x) e at, get_gone_here m k))
  | inr ne ↦ sym (get_gone_there m k q ne) ∙ at
]

-- what is still kept was kept
pub kept_was : (kept : Map Kept) (copy : Copy) (o : Option Kept) (q : ℕ) (x : Kept)
    → get (kept_after kept copy o) q ≡ Some x → get kept q ≡ Some x
kept_was kept copy None q x at = at
kept_was kept copy (Some k) q x at = by (nat_eq k.first copy.first) at
  where
    by : (b : Bool) → get (cond b (remove kept copy.unique) kept) q ≡ Some x → get kept q ≡ Some x
    by true at = left_was kept copy.unique q x at
    by false at = at

pub kept_fewer_alike : (w : World) (p : Plain) → Alike w p
    → (results : List ReplyResult) (kept : Map Kept) (copies : Map Copy)
    → ((q : ℕ) (x : Kept) → get kept q ≡ Some x → get w.server.kept q ≡ Some x)
    → Alike (record w { results = results; server = record w.server { copies = copies; kept = kept } }) p
kept_fewer_alike w p same results kept copies was = record {
  tree = record {
    names = same.tree.names;
    next_inode = same.tree.next_inode;
    next_cookie = same.tree.next_cookie;
    files = same.tree.files;
  };
  vfs = same.vfs;
  requests = record { pending = same.requests.pending; sent = same.requests.sent; held = same.requests.held };
  asks = λ live.
      let old = same.asks live in
      record {
        of_calls = λ q state is.
            let pair = old.of_calls q state is in
            record {
              unique = pair.unique;
              ask = pair.ask;
              request = pair.request;
              there = pair.there;
              by = pair.by;
              same = pair.same;
            };
        no_other = old.no_other;
        signalled = old.signalled;
        kept = λ u k ask at there. old.kept u k ask (was u k at) there;
        copies = old.copies;
      };
  validity = same.validity;
  minor = same.minor;
  agreed = same.agreed;
  aborted = same.aborted;
}

-- ---- tables that are given back

back_denotes : (t : NodeTable) (g : Entry) (i generation file : ℕ) → Denotes (row_back t g) i generation file
    → Denotes t i generation file
back_denotes t g i generation file d = by (is_held t g.nodeid g.generation) d
  where
    by : (b : Bool) → Denotes (cond b (taken_back t g.nodeid 1) t) i generation file → Denotes t i generation file
    by true e = less_denotes t g.nodeid 1 i generation file e
    by false e = e

pub rows_back_denotes : (gs : List Entry) (t : NodeTable) (i generation file : ℕ)
    → Denotes (rows_back t gs) i generation file → Denotes t i generation file
rows_back_denotes [] t i generation file d = d
rows_back_denotes (g ∷ gs) t i generation file d =
    back_denotes t g i generation file (rows_back_denotes gs (row_back t g) i generation file d)

rows_back_files : (file : ℕ) (gs : List Entry) (t : NodeTable)
    → list_any (λ (row : HeldNode). nat_eq row.file file) (values (rows_back t gs).rows) ≡ true
    → list_any (λ (row : HeldNode). nat_eq row.file file) (values t.rows) ≡ true
rows_back_files file [] t h = h
rows_back_files file (g ∷ gs) t h = by (is_held t g.nodeid g.generation) (rows_back_files file gs (row_back t g) h)
  where
    by : (b : Bool) → list_any (λ (row : HeldNode). nat_eq row.file file)
        (values (cond b (taken_back t g.nodeid 1) t).rows) ≡ true
        → list_any (λ (row : HeldNode). nat_eq row.file file) (values t.rows) ≡ true
    by true e = rows_fewer (λ (row : HeldNode). nat_eq row.file file) t.rows g.nodeid 1 (get t.rows g.nodeid) refl
        (λ row. refl) e
    by false e = e

-- a file handle that is left is one of the same file
pub handle_back_left : (t : HandleTable) (q fh : ℕ) (y : FileHandle) → get (handle_back t q).handles fh ≡ Some y
    → (x : FileHandle) × (get t.handles fh ≡ Some x) × (y.file ≡ x.file)
handle_back_left t q fh y at = by (get t.handles q) refl at
  where
    counted : (x : FileHandle) (b : Bool) → get t.handles q ≡ Some x
        → get (cond b (put t.handles q (record x { count = x.count - 1 })) (remove t.handles q)) fh ≡ Some y
        → (z : FileHandle) × (get t.handles fh ≡ Some z) × (y.file ≡ z.file)
    counted x true there h = elim (cases_eq fh q) [
      | inl e ↦
          let is_new : record x { count = x.count - 1 } ≡ y =
          cc (
            get_put_here t.handles q (record x { count = x.count - 1 }),
            subst (λ (m : ℕ). get (put t.handles q (record x { count = x.count - 1 })) m ≡ Some y) e h,
          ) in
          (x, subst (λ (m : ℕ). get t.handles m ≡ Some x) (sym e) there, ap (λ (z : FileHandle). z.file) (sym is_new))
      | inr ne ↦ (y, sym (get_put_there t.handles q (record x { count = x.count - 1 }) fh ne) ∙ h, refl)
    ]
    counted x false there h = (y, left_was t.handles q fh y h, refl)

    by : (o : Option FileHandle) → get t.handles q ≡ o → get (handles_less t.handles q o) fh ≡ Some y
        → (x : FileHandle) × (get t.handles fh ≡ Some x) × (y.file ≡ x.file)
    by None there h = (y, h, refl)
    by (Some x) there h = counted x (nat_lt 1 x.count) there h

handles_back_left : (fhs : List ℕ) (t : HandleTable) (fh : ℕ) (y : FileHandle)
    → get (handles_back t fhs).handles fh ≡ Some y → (x : FileHandle) × (get t.handles fh ≡ Some x) × (y.file ≡ x.file)
handles_back_left [] t fh y at = (y, at, refl)
handles_back_left (q ∷ fhs) t fh y at =
    let z = handles_back_left fhs (handle_back t q) fh y at in
    let x = handle_back_left t q fh z.0 z.1 in
    (x.0, x.1, z.2 ∙ x.2)

pub handle_back_files : (file q : ℕ) (t : HandleTable)
    → list_any (λ (x : FileHandle). nat_eq x.file file) (values (handle_back t q).handles) ≡ true
    → list_any (λ (x : FileHandle). nat_eq x.file file) (values t.handles) ≡ true
handle_back_files file q t h = by (get t.handles q) refl h
  where
    by : (o : Option FileHandle) → get t.handles q ≡ o
        → list_any (λ (x : FileHandle). nat_eq x.file file) (values (handles_less t.handles q o)) ≡ true
        → list_any (λ (x : FileHandle). nat_eq x.file file) (values t.handles) ≡ true
    by None there e = e
    by (Some x) there e = any_fewer (λ (x : FileHandle). nat_eq x.file file) t.handles q x
        (record x { count = x.count - 1 }) there refl (nat_lt 1 x.count) e

handles_back_files : (file : ℕ) (fhs : List ℕ) (t : HandleTable)
    → list_any (λ (x : FileHandle). nat_eq x.file file) (values (handles_back t fhs).handles) ≡ true
    → list_any (λ (x : FileHandle). nat_eq x.file file) (values t.handles) ≡ true
handles_back_files file [] t h = h
handles_back_files file (q ∷ fhs) t h = handle_back_files file q t (handles_back_files file fhs (handle_back t q) h)

-- ---- what is in use is meant still

module _ (w : World) (p : Plain) (same : Alike w p) (one : OneId w.server.nodes) (t : NodeTable) (h : HandleTable)
    (fewer : (i generation file : ℕ) → Denotes t i generation file → Denotes w.server.nodes i generation file)
    (fewer_numbers : (fh : ℕ) (y : FileHandle) → get h.handles fh ≡ Some y
    → (x : FileHandle) × (get w.server.handles.handles fh ≡ Some x) × (y.file ≡ x.file)) (holds : HoldsAll w t)
    (opens : HoldsOpens w h) where
  -- a file handle that is held is one of the same file
  open_still : (fh file : ℕ) → IsFileHandle h fh → is_open w.server.handles fh file ≡ true → is_open h fh file ≡ true
  open_still fh file there old = by (get h.handles fh) refl there
    where
      by : (o : Option FileHandle) → get h.handles fh ≡ o → o ≢ None → is_file_of file o ≡ true
      by None e some = absurd (some refl)
      by (Some y) e some =
          let x = fewer_numbers fh y e in
          let was : nat_eq x.0.file file ≡ true = ap (is_file_of file) (sym x.1) ∙ old in
          subst (λ (n : ℕ). nat_eq n file ≡ true) (sym x.2) was

  pub narrows_fewer : Narrows w p w.kernel.nodes t h
  narrows_fewer = record {
    back = λ id file m. record {
      generation = m.generation;
      known = m.known;
      denotes = fewer id m.generation file m.denotes;
    };
    root = λ file m. means w p same t fewer one holds w.kernel.vfs.root file m;
    directories = λ id name there file m. means w p same t fewer one holds id file m;
    targets = λ id name bound at target file is m. means w p same t fewer one holds target file m;
    opens = λ open_call o at file m. record {
      node_means = means w p same t fewer one holds o.nodeid file m.node_means;
      is_handle = open_still o.fh file (opens.opens open_call o at) m.is_handle;
    };
    calls = λ call state at.
        record {
          nodes_stay = λ id file among m. means w p same t fewer one holds id file m;
          opens_stay = λ o file node among m. record {
            node_means =
                means w p same t fewer one holds o.nodeid file m.node_means;
            is_handle =
                open_still o.fh file (opens.calls call state at o among) m.is_handle;
          };
        };
    sent = λ i r lt.
        record {
          nodes_stay = λ id file among m. means w p same t fewer one holds id file m;
          opens_stay = λ o file node among m. record {
            node_means =
                means w p same t fewer one holds o.nodeid file m.node_means;
            is_handle =
                open_still o.fh file (opens.sent i r lt o among) m.is_handle;
          };
        };
    held_nodes = λ u x at id file among m. meant w p same t fewer one holds u x at id file m;
    held_opens = λ u x at o file among m. record {
      node_meant =
          meant w p same t fewer one holds u x at o.nodeid file m.node_meant;
      is_handle =
          open_still o.fh file (opens.held u x at o among) m.is_handle;
    };
    kept = λ live u k ask at there reply_matches.
        let waits = unanswered w p same t fewer one holds live u ask there in
        stage_more w.server.nodes t w.server.handles h ask.stage k.wire
        (λ g file among d. still w p same t fewer one holds g.nodeid g.generation file
        (holds.kept u k at waits g among) d)
        (λ fh file among o. open_still fh file (opens.kept u k at waits fh among) o) reply_matches;
    copies = λ live i s lt ask there reply_matches.
        let sent = get_or w.replies i s in
        let waits = unanswered w p same t fewer one holds live sent.unique ask there in
        stage_more w.server.nodes t w.server.handles h ask.stage sent.wire
        (λ g file among d. still w p same t fewer one holds g.nodeid g.generation file
        (holds.copies i s lt waits g among) d)
        (λ fh file among o. open_still fh file (opens.copies i s lt waits fh among) o) reply_matches;
  }

-- What a copy carried is given back.
given_back_alike : (w : World) (p : Plain) → OneId w.server.nodes → Alike w p → (wire : WireReply)
    → HoldsAll w (rows_back w.server.nodes (files_in_reply wire))
    → HoldsOpens w (handles_back w.server.handles (opens_in_reply wire))
    → Alike (record w { server = given_back w.server wire }) p
given_back_alike w p one same wire holds opens =
    let t = rows_back w.server.nodes (files_in_reply wire) in
    let h = handles_back w.server.handles (opens_in_reply wire) in
    let s = record w.server { nodes = t; handles = h } in
    let trees = discarded_unheld_alike s p.tree
    (λ file. is_file_held w.server file) same.tree.names same.tree.next_inode same.tree.next_cookie same.tree.files
    (λ file held.
    both (list_any (λ (row : HeldNode). nat_eq row.file file) (values t.rows))
    (list_any (λ (x : FileHandle). nat_eq x.file file) (values h.handles))
    (list_any (λ (row : HeldNode). nat_eq row.file file) (values w.server.nodes.rows))
    (list_any (λ (x : FileHandle). nat_eq x.file file) (values w.server.handles.handles)) held
    (rows_back_files file (files_in_reply wire) w.server.nodes)
    (handles_back_files file (opens_in_reply wire) w.server.handles)) in
    fewer_nodes_refine w p same w.kernel.nodes t h (without_unheld_files s).tree p.tree
    (narrows_fewer w p same one t h (rows_back_denotes (files_in_reply wire) w.server.nodes)
    (handles_back_left (opens_in_reply wire) w.server.handles) holds opens) trees
  where
    both : (a b c d : Bool) → (a || b) ≡ true → (a ≡ true → c ≡ true) → (b ≡ true → d ≡ true) → (c || d) ≡ true
    both true b c d h f g = ap (λ (x : Bool). x || d) (f refl)
    both false b true d h f g = refl
    both false b false d h f g = g h

module _ (w : World) (p : Plain) (one : OneId w.server.nodes) (same : Alike w p) (k : ℕ) (result : ReplyResult)
    (copy : Copy) where
  abbrev kept_left : Map Kept
  kept_left = kept_after w.server.kept copy (get w.server.kept copy.unique)

  abbrev left : World
  left = record w {
    results = without w.results k;
    server = record w.server { copies = remove w.server.copies result.number; kept = kept_left };
  }

  left_alike : Alike left p
  left_alike = kept_fewer_alike w p same (without w.results k) kept_left (remove w.server.copies result.number)
      (λ q x at. kept_was w.server.kept copy (get w.server.kept copy.unique) q x at)

  abbrev After : WriteResult → World
  After r = record w { results = without w.results k; server = settled w.server result.number copy r }

  by_result : (r : WriteResult) → HoldsAll (After r) (After r).server.nodes
      → HoldsOpens (After r) (After r).server.handles → Alike (After r) p
  by_result Accepted holds opens = left_alike
  by_result NoEntry holds opens =
      given_back_alike left p one left_alike copy.wire
      (record { known = holds.known; held = holds.held; kept = holds.kept; copies = holds.copies })
      (record {
        opens = opens.opens;
        calls = opens.calls;
        sent = opens.sent;
        held = opens.held;
        kept = opens.kept;
        copies = opens.copies;
      })
  by_result Invalid holds opens =
      given_back_alike left p one left_alike copy.wire
      (record { known = holds.known; held = holds.held; kept = holds.kept; copies = holds.copies })
      (record {
        opens = opens.opens;
        calls = opens.calls;
        sent = opens.sent;
        held = opens.held;
        kept = opens.kept;
        copies = opens.copies;
      })

  -- A copy is settled: where the server holds afterwards what is known, held and on its way, all is alike.
  pub settled_alike : HoldsAll (after_settle w k result (Some copy)) (after_settle w k result (Some copy)).server.nodes
      → HoldsOpens (after_settle w k result (Some copy)) (after_settle w k result (Some copy)).server.handles
      → Alike (after_settle w k result (Some copy)) p
  settled_alike holds opens = by_result result.result holds opens
