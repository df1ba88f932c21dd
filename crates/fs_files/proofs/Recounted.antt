-- Counts stay below their end, as the entries of a reply count their nodes once more.
use Rattle.std.proofs.Common.{◌≡◌, ℕ, ◌+◌, ◌^◌, Bool, true, false, cond, List, [], ◌∷◌, Option, Some, None, nat_eq, refl, sym, ap, subst, ◌∙◌, arith, inl, inr}
use Rattle.std.proofs.lemmas.Bool.{cases_eq}
use Rattle.fuse_spec.specs.Values.Maps.{get, put}
use Rattle.fuse_spec.specs.Server.Nodes.{HeldNode, NodeTable, file_in, file_of, root_row, row_more, rows_more}
use Rattle.fuse_spec.specs.declared.Entry.{Entry}
use Rattle.fuse_spec.proofs.Tables.{get_put_here, get_put_there}
use Rattle.fs_nodes.specs.Sound.{IsSoundNodeTable}
use Rattle.fs_tree.proofs.Shaping.{other_number}
use Rattle.fs_files.specs.Bounds.{HaveCountsUpTo, AreHeldBelow}
use Rattle.fs_files.specs.Giving.{files_of}
use Rattle.fs_files.proofs.Bounds.{each_put}
use Rattle.fs_files.proofs.HeldBelow.{Fits, IsWithin, fits_later, fits_once}

-- ---- the files of nodes stay

file_stays : (t : NodeTable) (id q : ℕ) → file_of (row_more t id) q ≡ file_of t q
file_stays t id q = either (nat_eq q 1)
  where
    by : (o : Option HeldNode) → get t.rows id ≡ o → file_in (get (rows_more t.rows id o) q) ≡ file_in (get t.rows q)
    by None e = refl
    by (Some row) e = elim (cases_eq q id) [
      | inl same ↦ ap file_in (ap (get (put t.rows id (record row {
        count =
            row.count + 1;
      }))) same ∙ get_put_here t.rows id (record row { count = row.count + 1 })) ∙ sym
          (ap file_in (ap (get t.rows) same ∙ e))
      | inr ne ↦ ap file_in (get_put_there t.rows id (record row { count = row.count + 1 }) q ne)
    ]

    either : (root : Bool) → file_in (cond root (Some root_row) (get (row_more t id).rows q))
        ≡ file_in (cond root (Some root_row) (get t.rows q))
    either true = refl
    either false = by (get t.rows id) refl

files_stay : (t : NodeTable) (id : ℕ) (gs : List Entry) → files_of (row_more t id) gs ≡ files_of t gs
files_stay t id [] = refl
files_stay t id (g ∷ gs) = λ i. file_stays t id g.nodeid i ∷ files_stay t id gs i

-- ---- one entry more

pub within_more : (t : NodeTable) → IsSoundNodeTable t → (g : Entry) (gs : List Entry) → IsWithin t (files_of t (g ∷ gs))
    → IsWithin (row_more t g.nodeid) (files_of (row_more t g.nodeid) gs)
within_more t sound g gs old = subst (IsWithin (row_more t g.nodeid)) (sym (files_stay t g.nodeid gs))
    (by (get t.rows g.nodeid) refl)
  where
    not_root : (row : HeldNode) → get t.rows g.nodeid ≡ Some row → nat_eq g.nodeid 1 ≡ false
    not_root row e = let two = sound.from_two g.nodeid row e in
        other_number g.nodeid 1 (λ one. absurd (omega (arith, two, one)))

    same : (row : HeldNode) → get t.rows g.nodeid ≡ Some row → row.file ≡ file_of t g.nodeid
    same row e = sym (ap (λ (b : Bool). file_in (cond b (Some root_row) (get t.rows g.nodeid)))
        (not_root row e) ∙ ap file_in e)

    by : (o : Option HeldNode) → get t.rows g.nodeid ≡ o
        → IsWithin (record t { rows = rows_more t.rows g.nodeid o }) (files_of t gs)
    by None e = λ id row there. fits_later row (file_of t g.nodeid) (files_of t gs) (old id row there)
    by (Some row) e =
        each_put (Fits (files_of t gs)) t.rows g.nodeid (record row { count = row.count + 1 })
        (fits_once row (file_of t g.nodeid) (files_of t gs) (same row e) (old g.nodeid row e))
        (λ q r is. fits_later r (file_of t g.nodeid) (files_of t gs) (old q r is))

-- ---- counts below their end

pub within_below : (t : NodeTable) (files : List ℕ) → IsWithin t files → AreHeldBelow t
within_below t files within id row there = let low = within id row there in omega (arith, low)

pub within_counted : (t : NodeTable) (files : List ℕ) → IsWithin t files → HaveCountsUpTo (2 ^ 63) t
within_counted t files within id row there = let low = within id row there in omega (arith, low)
