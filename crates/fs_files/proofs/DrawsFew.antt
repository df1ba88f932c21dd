-- No request allocates more than one inode, one cookie and one file handle, and no reply names more than 32 files.
use Rattle.std.proofs.Common.{◌≡◌, ℕ, ◌+◌, ◌-◌, ◌*◌, ◌≤◌, ◌<◌, ◌^◌, Bool, true, false, cond, ◌||◌, List, [], ◌∷◌, length, Option, Some, None, nat_eq, T, arith, ap, refl}
use Rattle.std.specs.Prelude.{count_by, min, nat_le}
use Rattle.std.specs.List.{list_any}
use Rattle.std.specs.FinMap.{is_sorted}
use Rattle.std.specs.Ordering.{nat_cmp}
use Rattle.std.proofs.lemmas.Bool.{leb-true}
use Rattle.std.proofs.lemmas.List.Sums.{count_by-le-length}
use Rattle.fuse_spec.specs.Values.Numbers.{counter_end, ebadf, eintr, eio, max_transfer}
use Rattle.fuse_spec.specs.declared.Validity.{Validity}
use Rattle.fuse_spec.specs.Files.Operations.{DirentPlus, Reply, failed, done, files_in_reply, files_listed, opens_in_reply, listed_by}
use Rattle.fuse_spec.specs.Files.Operations.{lookup, getattr, mkdir, create, unlink, rmdir, rename, link, opening, readdir, readdirplus, read, write}
use Rattle.fuse_spec.specs.Files.Trees.{Tree, file_at, fitting_pairs, pair_length, pairs_after}
use Rattle.fuse_spec.specs.Files.FileOperations.{FileOperation, is_same, lookup_reply, refusal, renamed, reply_by, reply_or, reply_unrefused, tree_after, tree_or, tree_unrefused}
use Rattle.fuse_spec.specs.Kernel.Messages.{RequestBody, init, asks, release, forget, batch_forget, interrupt}
use Rattle.fuse_spec.specs.Server.Nodes.{HeldNode, NodeTable, count_overflows, file_of, is_open}
use Rattle.fuse_spec.specs.Server.Performs.{file_operation_of, is_open_for, is_still_held}
use Rattle.fuse_spec.specs.Server.Server.{Server, HeldRequest}
use Rattle.fuse_tables.proofs.Maps.{there_any}
use Rattle.fs_files.specs.Bounds.{HaveCountsUpTo}
use Rattle.fs_files.specs.Giving.{generations_after, has_node_already, new_among}
use Rattle.fs_files.specs.Performing.{said, body_reply, tree_said, tree_by}
use Rattle.fs_files.proofs.FilesListed.{first_few}

-- what a request allocates at most whose reply and whose tree are these
pub record AllocatesFew (tree new : Tree) (reply : Reply ℕ ℕ) : Type 0 where
  pub inodes : new.next_inode ≤ tree.next_inode + 1
  pub cookies : new.next_cookie ≤ tree.next_cookie + 1
  pub files : length (files_in_reply reply) ≤ 32
  pub opens : length (opens_in_reply reply) ≤ 1

-- a reply that names no file and no file handle, where the counters of the tree stay
none_allocated : (tree new : Tree) (reply : Reply ℕ ℕ) → new.next_inode ≡ tree.next_inode
    → new.next_cookie ≡ tree.next_cookie → files_in_reply reply ≡ [] → opens_in_reply reply ≡ []
    → AllocatesFew tree new reply
none_allocated tree new reply inodes cookies files opens =
    let no_files = ap (λ (xs : List ℕ). length xs) files in
    let no_opens = ap (λ (xs : List ℕ). length xs) opens in
    record {
      inodes = omega (arith, inodes);
      cookies = omega (arith, cookies);
      files = omega (arith, no_files);
      opens = omega (arith, no_opens);
    }

refused_few : (tree : Tree) (errno : ℕ) → AllocatesFew tree tree (failed errno)
refused_few tree errno = none_allocated tree tree (failed errno) refl refl refl refl

-- ---- a list of names

listed_few : (ps : List (DirentPlus ℕ)) → length (files_listed ps) ≤ length ps
listed_few [] = omega arith
listed_few (p ∷ ps) =
    let rest = listed_few ps in
    let first = first_few (listed_by p) (files_listed ps) in
    omega (arith, rest, first)

pairs_few : (room : ℕ) (ps : List (DirentPlus ℕ)) → 128 * length (fitting_pairs room ps) ≤ room
pairs_few room [] = omega arith
pairs_few room (p ∷ ps) = by (nat_le (pair_length p) room) refl (pairs_few (room - pair_length p) ps)
  where
    by : (b : Bool) → nat_le (pair_length p) room ≡ b
        → 128 * length (fitting_pairs (room - pair_length p) ps) ≤ room - pair_length p
        → 128 * length (cond b (p ∷ fitting_pairs (room - pair_length p) ps) []) ≤ room
    by false e rest = omega arith
    by true e rest =
        let le = leb-true (pair_length p) room e in
        let long : 128 ≤ pair_length p = omega arith in
        omega (arith, rest, le, long)

-- ---- operations

looked_up_few : (v : Validity) (tree : Tree) (o : Option ℕ) → AllocatesFew tree tree (lookup_reply v o)
looked_up_few v tree None = none_allocated _ _ _ refl refl refl refl
looked_up_few v tree (Some file) = record {
  inodes = omega arith;
  cookies = omega arith;
  files = omega arith;
  opens = omega arith;
}

renamed_few : (v : Validity) (tree : Tree) (d : ℕ) (old : List ℕ) (e : ℕ) (new : List ℕ) (b : Bool) (o : Option ℕ)
    → AllocatesFew tree (cond b tree (renamed tree d old e new o)) done
renamed_few v tree d old e new true o = none_allocated _ _ _ refl refl refl refl
renamed_few v tree d old e new false None = none_allocated _ _ _ refl refl refl refl
renamed_few v tree d old e new false (Some file) = record {
  inodes = omega arith;
  cookies = omega arith;
  files = omega arith;
  opens = omega arith;
}

unrefused_few : (v : Validity) (tree : Tree) (operation : FileOperation)
    → AllocatesFew tree (tree_unrefused tree operation) (reply_unrefused v tree operation)
unrefused_few v tree (lookup d name) = looked_up_few v tree (file_at tree d name)
unrefused_few v tree (rename d old e new) = renamed_few v tree d old e new
    (is_same (file_at tree d old) (file_at tree e new)) (file_at tree d old)
unrefused_few v tree (readdirplus d after size) =
    let pairs = fitting_pairs (min size max_transfer) (pairs_after v.found_ms tree d after) in
    let told = listed_few pairs in
    let few = pairs_few (min size max_transfer) (pairs_after v.found_ms tree d after) in
    record {
      inodes = omega arith;
      cookies = omega arith;
      files = omega (arith, told, few);
      opens = omega arith;
    }
unrefused_few v tree (getattr file) = none_allocated _ _ _ refl refl refl refl
unrefused_few v tree (mkdir d name) = record {
  inodes = omega arith;
  cookies = omega arith;
  files = omega arith;
  opens = omega arith;
}
unrefused_few v tree (create d name) = record {
  inodes = omega arith;
  cookies = omega arith;
  files = omega arith;
  opens = omega arith;
}
unrefused_few v tree (unlink d name) = none_allocated _ _ _ refl refl refl refl
unrefused_few v tree (rmdir d name) = none_allocated _ _ _ refl refl refl refl
unrefused_few v tree (link file d name) = record {
  inodes = omega arith;
  cookies = omega arith;
  files = omega arith;
  opens = omega arith;
}
unrefused_few v tree (opening file) = record {
  inodes = omega arith;
  cookies = omega arith;
  files = omega arith;
  opens = omega arith;
}
unrefused_few v tree (readdir d after size) = none_allocated _ _ _ refl refl refl refl
unrefused_few v tree (read file offset size) = none_allocated _ _ _ refl refl refl refl
unrefused_few v tree (write file offset []) = none_allocated _ _ _ refl refl refl refl
unrefused_few v tree (write file offset (b ∷ bytes)) = none_allocated _ _ _ refl refl refl refl

operation_few : (v : Validity) (tree : Tree) (operation : FileOperation)
    → AllocatesFew tree (tree_after tree operation) (reply_by v tree operation)
operation_few v tree operation = by (refusal tree operation)
  where
    by : (o : Option ℕ) → AllocatesFew tree (tree_or tree (tree_unrefused tree operation) o)
        (reply_or (reply_unrefused v tree operation) o)
    by None = unrefused_few v tree operation
    by (Some errno) = refused_few tree errno

-- ---- requests

body_few : (s : Server) (body : RequestBody) → AllocatesFew s.tree (tree_by s body) (body_reply s body)
body_few s (asks operation) = by (is_open_for s operation)
  where
    by : (b : Bool) → AllocatesFew s.tree (cond b (tree_after s.tree (file_operation_of s.nodes operation)) s.tree)
        (cond b (reply_by s.validity s.tree (file_operation_of s.nodes operation)) (failed ebadf))
    by true = operation_few s.validity s.tree (file_operation_of s.nodes operation)
    by false = refused_few s.tree ebadf
body_few s (release o) = by (is_open s.handles o.fh (file_of s.nodes o.nodeid))
  where
    by : (b : Bool) → AllocatesFew s.tree s.tree (cond b done (failed ebadf))
    by true = none_allocated s.tree s.tree done refl refl refl refl
    by false = refused_few s.tree ebadf
body_few s (init flags) = none_allocated _ _ _ refl refl refl refl
body_few s (forget f) = refused_few s.tree eio
body_few s (batch_forget fs) = refused_few s.tree eio
body_few s (interrupt original) = refused_few s.tree eio

-- any held request
pub allocates_few : (s : Server) (h : HeldRequest) → AllocatesFew s.tree (tree_said s h) (said s h)
allocates_few s h = by h.marked (is_still_held s.nodes h.generations)
  where
    by : (m b : Bool) → AllocatesFew s.tree (cond m s.tree (cond b (tree_by s h.body) s.tree))
        (cond m (failed eintr) (cond b (body_reply s h.body) (failed eio)))
    by true b = refused_few s.tree eintr
    by false true = body_few s h.body
    by false false = refused_few s.tree eio

-- ---- nodes for files

new_few : (known : ℕ → Bool) (files : List ℕ) → new_among known files ≤ length files
new_few known [] = omega arith
new_few known (file ∷ files) = by (known file || list_any (nat_eq file) files) (new_few known files)
  where
    by : (b : Bool) → new_among known files ≤ length files → cond b 0 1 + new_among known files ≤ length (file ∷ files)
    by true rest = omega (arith, rest)
    by false rest = omega (arith, rest)

pub generations_few : (t : NodeTable) (files : List ℕ) → generations_after t files ≤ t.next_generation + length files
generations_few t files = let few = new_few (has_node_already t) files in omega (arith, few)

-- counts that are so far from their end come to it by none of these files
pub lemma_counts_in_range : (t : NodeTable) (most : ℕ) (files : List ℕ) → T (is_sorted nat_cmp t.rows) → HaveCountsUpTo most t
    → most + length files < 2 ^ 62 → count_overflows t files ≡ false
lemma_counts_in_range t most files sorted counted low = by (count_overflows t files) refl
  where
    by : (b : Bool) → count_overflows t files ≡ b → b ≡ false
    by false e = refl
    by true e =
        let has = there_any t.rows (λ (row : HeldNode). nat_le counter_end
        (row.count + count_by (nat_eq row.file) files)) sorted e in
        let reached = leb-true counter_end (has.value.count + count_by (nat_eq has.value.file) files) has.passes in
        let few = count_by-le-length (nat_eq has.value.file) files in
        let count = counted has.key has.value has.there in
        absurd (over has.value.count (count_by (nat_eq has.value.file) files) count reached few)
      where
        over : (count more : ℕ) → count ≤ most → counter_end ≤ count + more → more ≤ length files → ⊥
        over count more a b c = omega (arith, a, b, c, low)
