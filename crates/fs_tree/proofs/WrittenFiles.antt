-- A file that is written, while another stands in its place.
use Rattle.std.proofs.Common.{◌≡◌, ℕ, List, map, Some, refl, sym, ap, ◌∙◌, Result, Ok, Err, OnOk, OnErr, T}
use Rattle.std.specs.Option.{option_map}
use Rattle.std.specs.Ordering.{nat_cmp}
use Rattle.std.specs.FinMap.{is_sorted}
use Rattle.fuse_spec.specs.Values.Maps.{Map, get, put}
use Rattle.fuse_spec.specs.Files.Trees.{Content, a_file, file_bytes, overwritten}
use Rattle.fs_tree.specs.Views.{content_in, viewed_file}
use Rattle.fs_tree.specs.declared.files.Content.{Content as Stored}
use Rattle.fs_tree.proofs.FileRows.{get-seen, put-seen, put-twice, same-seen}

module _ {A : Type 0} (es : List (ℕ × Stored A)) (files : Map Content) (file : ℕ) (old : Stored A)
    (same : map viewed_file es ≡ files) (there : Some old ≡ get es file) where
  pub found : get files file ≡ Some (content_in old)
  found = ap (λ (m : Map Content). get m file) (sym same) ∙ get-seen content_in es file
      ∙ ap (option_map content_in) (sym there)

  module _ (meanwhile after : List (ℕ × Stored A)) (other new : Stored A) (sorted : T (is_sorted nat_cmp es))
      (out : meanwhile ≡ put es file other) (back : after ≡ put meanwhile file new) where
    is_new : after ≡ put es file new
    is_new = back ∙ ap (λ m. put m file new) out ∙ put-twice es file other new sorted

    pub written : {T E : Type 0} (r : Result T E) (offset : ℕ) (bytes : List ℕ)
        → OnOk r (content_in new ≡ a_file (overwritten (file_bytes (Some (content_in old))) offset bytes))
        → OnOk r (map viewed_file after ≡ put files file (a_file (overwritten (file_bytes (get files file)) offset bytes)))
    written (Err e) offset bytes wrote = tt
    written (Ok x) offset bytes wrote = rw (found, is_new, put-seen content_in es file new, wrote, same) refl

    pub unwritten : {T E : Type 0} (r : Result T E) → OnErr r (content_in new ≡ content_in old)
        → OnErr r (map viewed_file after ≡ files)
    unwritten (Ok x) kept = tt
    unwritten (Err e) kept = rw is_new (same-seen content_in es file old new sorted kept (sym there) ∙ same)
