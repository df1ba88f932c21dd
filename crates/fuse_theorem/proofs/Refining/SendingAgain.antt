-- A kept reply is sent once more. That is no step of the plain world.
use Rattle.std.proofs.Common.{◌≡◌, ℕ, ◌+◌, Bool, not, ◌||◌, cond, List, [], ◌∷◌, Option, Some, None, nat_eq, refl, ap, sym, ◌∙◌}
use Rattle.std.specs.List.{list_any}
use Rattle.fuse_spec.specs.declared.Entry.{Entry}
use Rattle.fuse_spec.specs.Values.Maps.{get, put, values}
use Rattle.fuse_spec.specs.Files.Operations.{files_in_reply, opens_in_reply}
use Rattle.fuse_spec.specs.Files.Trees.{is_nameless}
use Rattle.fuse_spec.specs.Server.Copies.{rows_counted, handles_counted}
use Rattle.fuse_spec.specs.Server.Nodes.{HeldNode, NodeTable, row_more, rows_more, FileHandle, HandleTable, handle_more, handles_more}
use Rattle.fuse_spec.specs.Server.Server.{Kept, is_file_held}
use Rattle.fuse_spec.specs.World.Worlds.{World, after_again}
use Rattle.fuse_spec.specs.Reference.Plain.{Plain}
use Rattle.fuse_spec.specs.Claim.Denotes.{NodeDenotesIn, Denotes}
use Rattle.fuse_spec.specs.Claim.Alike.{Alike}
use Rattle.fuse_theorem.specs.Numbering.{IsOneToOne}
use Rattle.fuse_theorem.specs.Conditions.{KnownAreHeld}
use Rattle.fuse_theorem.proofs.Refining.TablesReplaced.{grown, replaced_tables_refine}
use Rattle.fuse_theorem.proofs.Refining.LookupsCounted.{counted_denotes, counted_open, one_grown}
use Rattle.fuse_theorem.proofs.Refining.Serving.{copied_alike}
use Rattle.fuse_theorem.proofs.Trees.NamelessDiscarded.{any_put}

-- a count changes no file
rows_same : (file : ℕ) (gs : List Entry) (t : NodeTable)
    → list_any (λ (row : HeldNode). nat_eq row.file file) (values (rows_counted t gs).rows)
    ≡ list_any (λ (row : HeldNode). nat_eq row.file file) (values t.rows)
rows_same file [] t = refl
rows_same file (g ∷ gs) t = rows_same file gs (row_more t g.nodeid) ∙ by (get t.rows g.nodeid) refl
  where
    by : (o : Option HeldNode) → get t.rows g.nodeid ≡ o
        → list_any (λ (row : HeldNode). nat_eq row.file file) (values (rows_more t.rows g.nodeid o))
        ≡ list_any (λ (row : HeldNode). nat_eq row.file file) (values t.rows)
    by None e = refl
    by (Some row) e = any_put (λ (r : HeldNode). nat_eq r.file file) t.rows g.nodeid row
        (record row { count = row.count + 1 }) e refl

handles_same : (file : ℕ) (fhs : List ℕ) (h : HandleTable)
    → list_any (λ (x : FileHandle). nat_eq x.file file) (values (handles_counted h fhs).handles)
    ≡ list_any (λ (x : FileHandle). nat_eq x.file file) (values h.handles)
handles_same file [] h = refl
handles_same file (fh ∷ fhs) h = handles_same file fhs (handle_more h fh) ∙ by (get h.handles fh) refl
  where
    by : (o : Option FileHandle) → get h.handles fh ≡ o
        → list_any (λ (x : FileHandle). nat_eq x.file file) (values (handles_more h.handles fh o))
        ≡ list_any (λ (x : FileHandle). nat_eq x.file file) (values h.handles)
    by None e = refl
    by (Some x) e = any_put (λ (y : FileHandle). nat_eq y.file file) h.handles fh x
        (record x { count = x.count + 1 }) e refl

-- Where the server holds what the kernel knows, all is alike afterwards.
pub again_alike : (w : World) (p : Plain) → IsOneToOne (NodeDenotesIn w) → KnownAreHeld w → Alike w p
    → (unique : ℕ) (kept : Kept) → get w.server.kept unique ≡ Some kept → Alike (after_again w unique kept) p
again_alike w p one held same unique kept there =
    let t = rows_counted w.server.nodes (files_in_reply kept.wire) in
    let h = handles_counted w.server.handles (opens_in_reply kept.wire) in
    let still = λ (id generation file : ℕ) (d : Denotes w.server.nodes id generation file). counted_denotes
    (files_in_reply kept.wire) w.server.nodes id generation file d in
    let carries = grown w p w.kernel.nodes t h (λ id generation e. e) still
    (λ fh file o. counted_open (opens_in_reply kept.wire) w.server.handles fh file o)
    (one_grown w.kernel.nodes w.server.nodes t held still one) in
    let s1 = record w.server { nodes = t; handles = h } in
    let same_files : (file : ℕ) → is_file_held w.server file ≡ is_file_held s1 file =
    λ file i. sym (rows_same file (files_in_reply kept.wire) w.server.nodes) i
    || sym (handles_same file (opens_in_reply kept.wire) w.server.handles) i in
    let w1 = record w { server = s1 } in
    let alike1 : Alike w1 p = replaced_tables_refine w p same w.kernel.nodes t h w.server.tree p.tree carries (record {
      names = same.tree.names;
      next_inode = same.tree.next_inode;
      next_cookie = same.tree.next_cookie;
      files = λ file. same.tree.files file ∙ ap (λ (b : Bool). cond (not (is_nameless p.tree file) || b)
          (get p.tree.files file) None) (same_files file);
    }) in
    copied_alike w1 p alike1 unique w.server.next_copy (w.server.next_copy + 1) kept.wire
    (put w.server.copies w.server.next_copy (record { unique = unique; wire = kept.wire; first = kept.first }))
    (λ live ask at. (alike1.asks live).kept unique kept ask there at)
