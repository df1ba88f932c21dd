-- What a READDIR and a READDIRPLUS list.
use Rattle.std.proofs.Common.{◌≡◌, ◌≤◌, ◌<◌, ◌^◌, ◌+◌, ◌*◌, ℕ, Bool, true, false, true≢false, List, Vec, length, map, refl, sym, ap, subst, ◌∙◌, arith}
use Rattle.std.specs.Prelude.{All, min}
use Rattle.fuse_spec.specs.declared.Validity.{Validity}
use Rattle.fuse_spec.specs.Values.Numbers.{max_transfer}
use Rattle.fuse_spec.specs.Files.Operations.{Dirent, listed, listed_plus}
use Rattle.fuse_spec.specs.Files.Trees.{Tree, fitting, fitting_pairs, pairs_after, records_after}
use Rattle.fuse_spec.specs.Files.TreeShape.{IsShaped}
use Rattle.fk_wire.specs.Dirents.{HaveRecordNames, dirents}
use Rattle.fk_wire.specs.Fields.{InRange, spellings}
use Rattle.fs_tree.specs.Views.{viewed_dirent, viewed_pair}
use Rattle.fs_tree.specs.declared.listing.Record.{Record}
use Rattle.fs_files.specs.Listing.{Lists, listing, written_record_of}
use Rattle.fs_files.specs.Listed.{dirents_in_bytes}
use Rattle.fs_files.specs.Performing.{Operates}
use Rattle.fs_files.specs.Replies.{IsListable}
use Rattle.fs_files.specs.declared.replies.Outcome.TheVariants as outcome
use Rattle.fuse_frames.specs.declared.reply.Reply.TheVariants as said
use Rattle.std.proofs.lemmas.List.{length-map}
use Rattle.fs_files.proofs.Listing.{few_bytes, listed_are, listed_same, low_records, names_are_records}
use Rattle.fs_files.proofs.PairListing.{few_pairs, listable_records, low_listed, pairs_are, pairs_same}

abbrev some_validity : Validity
some_validity = record { found_ms = 0; missing_ms = 0 }

module _ (tree : Tree) (directory after size : ℕ) where
  abbrev room : ℕ
  room = min size max_transfer

  module _ (shaped : IsShaped tree) (inodes : tree.next_inode ≤ 2 ^ 62) where
    -- the files that are listed were born
    pub low_names : (with_files : Bool) (rs : List Record) → Lists with_files tree directory after size rs
        → All (λ (r : Record). r.file < 2 ^ 62) rs
    low_names true rs is = low_listed tree rs (listable_records tree shaped inodes 0 directory after room rs
        (pairs_same _ _ (is some_validity)))
    low_names false rs is = low_records tree shaped inodes directory after room rs
        (listed_same _ _ (is some_validity))

    module _ {A : Type 0} (rs : List Record) (bytes : Vec ℕ A) (named : HaveRecordNames (map written_record_of rs))
        (fits : InRange (dirents (map written_record_of rs))) (is : bytes.items ≡ spellings (dirents (map written_record_of rs)))
        (v : Validity) where
      -- what a READDIRPLUS results in
      pub lists_files : (with_files : Bool) → with_files ≡ true → Lists with_files tree directory after size rs
          → Operates {A = A} v tree (listing with_files directory after size) (outcome.ListedPlus bytes (length rs)) tree
      lists_files true e says =
          let same : fitting_pairs room (pairs_after v.found_ms tree directory after) ≡ map (viewed_pair v.found_ms) rs =
          pairs_same _ _ (says v) in
          let most = few_pairs v.found_ms rs bytes.items room (pairs_after v.found_ms tree directory after) fits is
          same in
          let few : 128 * length (dirents_in_bytes bytes.items) + length bytes.items ≤ max_transfer = omega (arith, most) in
          record {
            says = ap listed_plus (pairs_are v.found_ms rs bytes.items fits is ∙ sym same);
            tree_is = refl;
            repliable = (
              names_are_records rs bytes.items named fits is,
              few,
              subst (λ (ds : List Dirent). All (IsListable tree) ds) (sym (listed_are rs bytes.items fits is))
                  (listable_records tree shaped inodes v.found_ms directory after room rs same),
              sym (length-map rs viewed_dirent) ∙ ap (λ (ds : List Dirent). length ds) (sym (listed_are rs bytes.items fits is)),
            );
            short = few;
          }
      lists_files false e says = absurd (true≢false (sym e))

      -- what a READDIR results in
      pub lists_names : (with_files : Bool) → with_files ≡ false → Lists with_files tree directory after size rs
          → Operates {A = A} v tree (listing with_files directory after size) (outcome.Reply (said.Listed bytes)) tree
      lists_names false e says =
          let same : fitting room (records_after tree directory after) ≡ map viewed_dirent rs =
          listed_same _ _ (says v) in
          let most = few_bytes rs bytes.items room (records_after tree directory after) fits is same in
          let few : length bytes.items ≤ max_transfer = omega (arith, most) in
          record {
            says = ap listed (listed_are rs bytes.items fits is) ∙ sym (says v);
            tree_is = refl;
            repliable = (tt, (names_are_records rs bytes.items named fits is, few));
            short = few;
          }
      lists_names true e says = absurd (true≢false e)
