-- Entries are counted back, or once more, one after another.
use Rattle.std.proofs.Common.{◌≡◌, ℕ, ◌+◌, ◌<◌, List, length, drop, get_or, sym, ap, subst, ◌∙◌}
use Rattle.std.proofs.lemmas.List.{at_drop_more, drop_more}
use Rattle.fuse_spec.specs.Server.Copies.{row_back, rows_back, rows_counted}
use Rattle.fuse_spec.specs.Server.Nodes.{NodeTable, row_more}
use Rattle.fuse_spec.specs.declared.Entry.{Entry}
use Rattle.fuse_spec.specs.declared.Kind.TheVariants.{Directory}
use Rattle.fs_nodes.specs.Sound.{IsSoundNodeTable}
use Rattle.fs_files.specs.Giving.{files_of}
use Rattle.fs_files.proofs.HeldBelow.{IsWithin}
use Rattle.fs_files.proofs.Recounted.{within_more}

-- what is read past the end of entries
abbrev pub no_entry : Entry
no_entry = record { nodeid = 0; generation = 0; attributes = record { kind = Directory; ino = 0; size = 0; nlink = 0 } }

-- the entry at a place
abbrev pub entry_at : List Entry → ℕ → Entry
entry_at entries at = get_or entries at no_entry

module _ (t n : NodeTable) (entries : List Entry) (at : ℕ) (some : at < length entries) where
  -- one entry more is counted back
  pub back_on : (all : NodeTable) → n ≡ row_back t (entry_at entries at) → rows_back t (drop at entries) ≡ all
      → rows_back n (drop (at + 1) entries) ≡ all
  back_on all is before = ap (λ (x : NodeTable). rows_back x (drop (at + 1) entries)) is ∙ sym
      (at_drop_more (rows_back t) entries at no_entry some) ∙ before

  -- one entry more counts its node
  pub counted_on : (all : NodeTable) → n ≡ row_more t (entry_at entries at).nodeid
      → rows_counted t (drop at entries) ≡ all → rows_counted n (drop (at + 1) entries) ≡ all
  counted_on all is before = ap (λ (x : NodeTable). rows_counted x (drop (at + 1) entries)) is ∙ sym
      (at_drop_more (rows_counted t) entries at no_entry some) ∙ before

  pub within_on : IsSoundNodeTable t → n ≡ row_more t (entry_at entries at).nodeid → IsWithin t (files_of t (drop at entries))
      → IsWithin n (files_of n (drop (at + 1) entries))
  within_on sound is before =
      subst (λ (x : NodeTable). IsWithin x (files_of x (drop (at + 1) entries))) (sym is)
      (within_more t sound (entry_at entries at) (drop (at + 1) entries)
      (subst (λ (gs : List Entry). IsWithin t (files_of t gs)) (drop_more entries at no_entry some) before))
