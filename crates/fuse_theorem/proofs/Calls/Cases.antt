-- Operations that are alike, and tellings that are, case by case.
use Rattle.std.proofs.Common.{◌≡◌, ℕ, List}
use Rattle.fuse_spec.specs.Calls.Paths.{Name}
use Rattle.fuse_spec.specs.declared.Attributes.{Attributes}
use Rattle.fuse_spec.specs.Files.Operations.{Operation, lookup, getattr, mkdir, create, unlink, rmdir, rename, link, opening, readdir, readdirplus, read, write, Reply, found, missing, created, opened, attributes, listed, listed_plus, content, written, agreed, done, failed, Dirent, DirentPlus, OperationAlike, PairsAlike, ReplyAlike}

pub data SameOperation {F O G P : Type 0} (R : F → G → Type 0) (S : O → P → Type 0) : Operation F O → Operation G P
    → Type 0 where
  both_lookup : (x0 : F) (y0 : G) (x1 : Name) (y1 : Name) → R x0 y0 → x1 ≡ y1
      → SameOperation R S (lookup x0 x1) (lookup y0 y1)
  both_getattr : (x0 : F) (y0 : G) → R x0 y0 → SameOperation R S (getattr x0) (getattr y0)
  both_mkdir : (x0 : F) (y0 : G) (x1 : Name) (y1 : Name) → R x0 y0 → x1 ≡ y1
      → SameOperation R S (mkdir x0 x1) (mkdir y0 y1)
  both_create : (x0 : F) (y0 : G) (x1 : Name) (y1 : Name) → R x0 y0 → x1 ≡ y1
      → SameOperation R S (create x0 x1) (create y0 y1)
  both_unlink : (x0 : F) (y0 : G) (x1 : Name) (y1 : Name) → R x0 y0 → x1 ≡ y1
      → SameOperation R S (unlink x0 x1) (unlink y0 y1)
  both_rmdir : (x0 : F) (y0 : G) (x1 : Name) (y1 : Name) → R x0 y0 → x1 ≡ y1
      → SameOperation R S (rmdir x0 x1) (rmdir y0 y1)
  both_rename : (x0 : F) (y0 : G) (x1 : Name) (y1 : Name) (x2 : F) (y2 : G) (x3 : Name) (y3 : Name) → R x0 y0 → x1 ≡ y1
      → R x2 y2 → x3 ≡ y3 → SameOperation R S (rename x0 x1 x2 x3) (rename y0 y1 y2 y3)
  both_link : (x0 : F) (y0 : G) (x1 : F) (y1 : G) (x2 : Name) (y2 : Name) → R x0 y0 → R x1 y1 → x2 ≡ y2
      → SameOperation R S (link x0 x1 x2) (link y0 y1 y2)
  both_opening : (x0 : F) (y0 : G) → R x0 y0 → SameOperation R S (opening x0) (opening y0)
  both_readdir : (x0 : F) (y0 : G) (x1 : ℕ) (y1 : ℕ) (x2 : ℕ) (y2 : ℕ) → R x0 y0 → x1 ≡ y1 → x2 ≡ y2
      → SameOperation R S (readdir x0 x1 x2) (readdir y0 y1 y2)
  both_readdirplus : (x0 : F) (y0 : G) (x1 : ℕ) (y1 : ℕ) (x2 : ℕ) (y2 : ℕ) → R x0 y0 → x1 ≡ y1 → x2 ≡ y2
      → SameOperation R S (readdirplus x0 x1 x2) (readdirplus y0 y1 y2)
  both_read : (x0 : O) (y0 : P) (x1 : ℕ) (y1 : ℕ) (x2 : ℕ) (y2 : ℕ) → S x0 y0 → x1 ≡ y1 → x2 ≡ y2
      → SameOperation R S (read x0 x1 x2) (read y0 y1 y2)
  both_write : (x0 : O) (y0 : P) (x1 : ℕ) (y1 : ℕ) (x2 : List ℕ) (y2 : List ℕ) → S x0 y0 → x1 ≡ y1 → x2 ≡ y2
      → SameOperation R S (write x0 x1 x2) (write y0 y1 y2)

pub same_operation : {F O G P : Type 0} (R : F → G → Type 0) (S : O → P → Type 0) (a : Operation F O)
    (b : Operation G P) → OperationAlike R S a b → SameOperation R S a b
same_operation R S (lookup x0 x1) (lookup y0 y1) h = both_lookup x0 y0 x1 y1 h.0 h.1
same_operation R S (getattr x0) (getattr y0) h = both_getattr x0 y0 h
same_operation R S (mkdir x0 x1) (mkdir y0 y1) h = both_mkdir x0 y0 x1 y1 h.0 h.1
same_operation R S (create x0 x1) (create y0 y1) h = both_create x0 y0 x1 y1 h.0 h.1
same_operation R S (unlink x0 x1) (unlink y0 y1) h = both_unlink x0 y0 x1 y1 h.0 h.1
same_operation R S (rmdir x0 x1) (rmdir y0 y1) h = both_rmdir x0 y0 x1 y1 h.0 h.1
same_operation R S (rename x0 x1 x2 x3) (rename y0 y1 y2 y3) h = both_rename x0 y0 x1 y1 x2 y2 x3 y3 h.0 h.1 h.2 h.3
same_operation R S (link x0 x1 x2) (link y0 y1 y2) h = both_link x0 y0 x1 y1 x2 y2 h.0 h.1 h.2
same_operation R S (opening x0) (opening y0) h = both_opening x0 y0 h
same_operation R S (readdir x0 x1 x2) (readdir y0 y1 y2) h = both_readdir x0 y0 x1 y1 x2 y2 h.0 h.1 h.2
same_operation R S (readdirplus x0 x1 x2) (readdirplus y0 y1 y2) h = both_readdirplus x0 y0 x1 y1 x2 y2 h.0 h.1 h.2
same_operation R S (read x0 x1 x2) (read y0 y1 y2) h = both_read x0 y0 x1 y1 x2 y2 h.0 h.1 h.2
same_operation R S (write x0 x1 x2) (write y0 y1 y2) h = both_write x0 y0 x1 y1 x2 y2 h.0 h.1 h.2
same_operation R S a b h = absurd h

pub data SameReply {F O G P : Type 0} (R : F → G → Type 0) (S : O → P → Type 0) : Reply F O → Reply G P → Type 0 where
  same_found : (x0 : F) (y0 : G) (x1 : ℕ) (y1 : ℕ) → R x0 y0 → x1 ≡ y1 → SameReply R S (found x0 x1) (found y0 y1)
  same_missing : (x0 : ℕ) (y0 : ℕ) → x0 ≡ y0 → SameReply R S (missing x0) (missing y0)
  same_created : (x0 : F) (y0 : G) (x1 : ℕ) (y1 : ℕ) (x2 : O) (y2 : P) → R x0 y0 → x1 ≡ y1 → S x2 y2
      → SameReply R S (created x0 x1 x2) (created y0 y1 y2)
  same_opened : (x0 : O) (y0 : P) → S x0 y0 → SameReply R S (opened x0) (opened y0)
  same_attributes : (x0 : Attributes) (y0 : Attributes) → x0 ≡ y0 → SameReply R S (attributes x0) (attributes y0)
  same_listed : (x0 : List Dirent) (y0 : List Dirent) → x0 ≡ y0 → SameReply R S (listed x0) (listed y0)
  same_listed_plus : (x0 : List (DirentPlus F)) (y0 : List (DirentPlus G)) → PairsAlike R x0 y0
      → SameReply R S (listed_plus x0) (listed_plus y0)
  same_content : (x0 : List ℕ) (y0 : List ℕ) → x0 ≡ y0 → SameReply R S (content x0) (content y0)
  same_written : (x0 : ℕ) (y0 : ℕ) → x0 ≡ y0 → SameReply R S (written x0) (written y0)
  same_agreed : (x0 : ℕ) (y0 : ℕ) (x1 : ℕ) (y1 : ℕ) (x2 : ℕ) (y2 : ℕ) → x0 ≡ y0 → x1 ≡ y1 → x2 ≡ y2
      → SameReply R S (agreed x0 x1 x2) (agreed y0 y1 y2)
  same_done : SameReply R S done done
  same_failed : (x0 : ℕ) (y0 : ℕ) → x0 ≡ y0 → SameReply R S (failed x0) (failed y0)

pub same_reply : {F O G P : Type 0} (R : F → G → Type 0) (S : O → P → Type 0) (a : Reply F O) (b : Reply G P)
    → ReplyAlike R S a b → SameReply R S a b
same_reply R S (found x0 x1) (found y0 y1) h = same_found x0 y0 x1 y1 h.0 h.1
same_reply R S (missing x0) (missing y0) h = same_missing x0 y0 h
same_reply R S (created x0 x1 x2) (created y0 y1 y2) h = same_created x0 y0 x1 y1 x2 y2 h.0 h.1 h.2
same_reply R S (opened x0) (opened y0) h = same_opened x0 y0 h
same_reply R S (attributes x0) (attributes y0) h = same_attributes x0 y0 h
same_reply R S (listed x0) (listed y0) h = same_listed x0 y0 h
same_reply R S (listed_plus x0) (listed_plus y0) h = same_listed_plus x0 y0 h
same_reply R S (content x0) (content y0) h = same_content x0 y0 h
same_reply R S (written x0) (written y0) h = same_written x0 y0 h
same_reply R S (agreed x0 x1 x2) (agreed y0 y1 y2) h = same_agreed x0 y0 x1 y1 x2 y2 h.0 h.1 h.2
same_reply R S done done h = same_done
same_reply R S (failed x0) (failed y0) h = same_failed x0 y0 h
same_reply R S a b h = absurd h
