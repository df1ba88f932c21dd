-- Operations that nothing refuses, one by one.
use Rattle.std.proofs.Common.{◌≡◌, ℕ, ◌≤◌, ◌<◌, ◌^◌, Bool, true, false, true≢false, cond, nat_eq, List, [], length, take, drop, Option, Some, None, refl, sym, ap, subst, ◌∙◌, arith}
use Rattle.std.specs.Prelude.{IsTrue, nat_lt, find, option_map, is_some, min, Vec}
use Rattle.std.proofs.lemmas.List.{length-take}
use Rattle.std.proofs.lemmas.Bool.{ltb-true, ltb-false}
use Rattle.std.proofs.lemmas.Option.{none-some, same_Some}
use Rattle.std.proofs.lemmas.List.Elements.{All-contains}
use Rattle.fuse_spec.specs.Values.Maps.{get}
use Rattle.fuse_spec.specs.Server.Nodes.{NodeTable, HeldNode, file_of, file_in, root_row}
use Rattle.fuse_spec.specs.Values.Numbers.{eisdir, max_transfer}
use Rattle.fuse_spec.specs.Files.Operations.{Reply, content, create, created, found, lookup, mkdir, opening, read}
use Rattle.fuse_spec.specs.declared.Validity.{Validity}
use Rattle.fuse_spec.specs.Files.Trees.{Tree, Named, a_directory, a_file, file_bytes, file_at, is_at, is_directory, with_inode}
use Rattle.fuse_spec.specs.Files.TreeShape.{IsShaped, IsInTree}
use Rattle.fuse_spec.specs.Files.FileOperations.{lookup_reply, refusal, reply_unrefused}
use Rattle.fs_tree.proofs.Counting.{found_there}
use Rattle.fs_files.specs.declared.replies.Outcome.TheVariants as outcome
use Rattle.fuse_frames.specs.declared.reply.Reply.TheVariants as said
use Rattle.fs_files.specs.Bounds.{AreLow, IsThere}
use Rattle.fs_files.specs.Performing.{Operates}
use Rattle.fs_files.proofs.StaysKnown.{put_regular, put_there, regular_file}
use Rattle.fs_tree.specs.Outcomes.{is_regular}

found_file : (tree : Tree) → IsShaped tree → (o : Option Named) → ((n : Named) → o ≡ Some n → IsInTree tree n)
    → (file : ℕ) → option_map (λ n. n.file) o ≡ Some file → file < tree.next_inode
found_file tree shaped None stands file is = absurd (none-some file is)
found_file tree shaped (Some n) stands file is =
    subst (λ (x : ℕ). x < tree.next_inode) (same_Some n.file file is) (by (nat_lt n.file tree.next_inode) refl)
  where
    by : (b : Bool) → nat_lt n.file tree.next_inode ≡ b → n.file < tree.next_inode
    by true e = ltb-true n.file tree.next_inode e
    by false e = let le = ltb-false n.file tree.next_inode e in
        absurd (true≢false (sym (stands n refl).file ∙ ap is_some (shaped.unborn n.file le)))

-- the file to which a name leads was born
pub is_born : (tree : Tree) → IsShaped tree → (d : ℕ) (name : List ℕ) (file : ℕ) → file_at tree d name ≡ Some file
    → file < tree.next_inode
is_born tree shaped d name file at =
    found_file tree shaped (find (is_at d name) tree.names)
    (λ n there. All-contains (IsInTree tree) tree.names n shaped.names
    (found_there (is_at d name) tree.names n there)) file at

-- and is there
found_there_so : (tree : Tree) → (o : Option Named) → ((n : Named) → o ≡ Some n → IsInTree tree n) → (file : ℕ)
    → option_map (λ n. n.file) o ≡ Some file → IsThere tree file
found_there_so tree None stands file is = absurd (none-some file is)
found_there_so tree (Some n) stands file is = subst (λ (x : ℕ). IsThere tree x) (same_Some n.file file is)
    (stands n refl).file

is_there : (tree : Tree) → IsShaped tree → (d : ℕ) (name : List ℕ) (file : ℕ) → file_at tree d name ≡ Some file
    → IsThere tree file
is_there tree shaped d name file at =
    found_there_so tree (find (is_at d name) tree.names)
    (λ n there. All-contains (IsInTree tree) tree.names n shaped.names
    (found_there (is_at d name) tree.names n there)) file at

pub looks_up : {A : Type 0} (valid : Validity) (tree : Tree) → IsShaped tree → tree.next_inode ≤ 2 ^ 62
    → (d : ℕ) (name : List ℕ) (file : ℕ) → file_at tree d name ≡ Some file
    → Operates {A = A} valid tree (lookup d name) (outcome.Entry file) tree
looks_up valid tree shaped inodes d name file at = record {
  says = sym (ap (lookup_reply valid) at);
  tree_is = refl;
  repliable = (
    let low = is_born tree shaped d name file at in
        omega (arith, low, inodes),
    is_there tree shaped d name file at,
  );
  short = omega arith;
}

-- the file of a node is below the end of inodes
pub file_low : (nodes : NodeTable) → AreLow nodes → (id : ℕ) → file_of nodes id < 2 ^ 62
file_low nodes low id = by (nat_eq id 1) (get nodes.rows id) refl
  where
    by : (b : Bool) (o : Option HeldNode) → get nodes.rows id ≡ o → file_in (cond b (Some root_row) o) < 2 ^ 62
    by true o e = omega arith
    by false None e = omega arith
    by false (Some row) e = low id row e

-- the bytes of a reply to READ
abbrev bytes_in : Reply ℕ ℕ → List ℕ
bytes_in (content bytes) = bytes
bytes_in reply = []

pub reads_bytes : {A : Type 0} (valid : Validity) (tree : Tree) (file offset size : ℕ) (bytes : Vec ℕ A)
    (read_now : List ℕ) → bytes.items ≡ read_now → reply_unrefused valid tree (read file offset size) ≡ content read_now
    → Operates valid tree (read file offset size) (outcome.Reply (said.Content bytes)) tree
reads_bytes valid tree file offset size bytes read_now same is = record {
  says = ap content same ∙ sym is;
  tree_is = refl;
  repliable = (tt, few);
  short = few;
}
  where
    few : length bytes.items ≤ max_transfer
    few =
        let all : bytes.items ≡ take (min size max_transfer) (drop offset (file_bytes (get tree.files file))) =
        same ∙ sym (ap bytes_in is) in
        let most = length-take (min size max_transfer) (drop offset (file_bytes (get tree.files file))) in
        let len = ap length all in
        omega (arith, most, len)

-- ---- files that are born, and files that are opened

module _ (valid : Validity) (tree : Tree) (d : ℕ) (name : List ℕ) (file : ℕ) (new : Tree)
    (low : tree.next_inode < 2 ^ 62) (born : file ≡ tree.next_inode) where
  file_is_low : file < 2 ^ 62
  file_is_low = omega (arith, low, born)

  pub makes_directory : {A : Type 0} → new ≡ with_inode tree d name a_directory
      → Operates {A = A} valid tree (mkdir d name) (outcome.Entry file) new
  makes_directory is = record {
    says = ap (λ (f : ℕ). found f valid.found_ms) born;
    tree_is = is;
    repliable = (
      file_is_low,
      subst (λ (t : Tree). IsThere t file) (sym is)
          (subst (λ (f : ℕ). IsThere (with_inode tree d name a_directory) f) (sym born)
          (put_there tree tree.next_inode a_directory)),
    );
    short = omega arith;
  }

  pub makes_file : {A : Type 0} → new ≡ with_inode tree d name (a_file [])
      → Operates {A = A} valid tree (create d name) (outcome.Created file) new
  makes_file is =
      let there = subst (λ (t : Tree). IsThere t file) (sym is)
      (subst (λ (f : ℕ). IsThere (with_inode tree d name (a_file [])) f) (sym born)
      (put_there tree tree.next_inode (a_file []))) in
      let regular = subst (λ (t : Tree). IsTrue (is_regular t file)) (sym is)
      (subst (λ (f : ℕ). IsTrue (is_regular (with_inode tree d name (a_file [])) f)) (sym born)
      (put_regular tree tree.next_inode [])) in
      record {
        says = ap (λ (f : ℕ). created f valid.found_ms f) born;
        tree_is = is;
        repliable = (file_is_low, there, regular);
        short = omega arith;
      }

-- what may be opened is no directory
unrefused : (b : Bool) → ◌≡◌ {A = Option ℕ} (cond b (Some eisdir) None) None → b ≡ false
unrefused true e = absurd (none-some eisdir (sym e))
unrefused false e = refl

pub opens : {A : Type 0} (valid : Validity) (tree : Tree) (file : ℕ) → IsThere tree file
    → refusal tree (opening file) ≡ None → Operates {A = A} valid tree (opening file) (outcome.Opened file) tree
opens valid tree file there none = record {
  says = refl;
  tree_is = refl;
  repliable = regular_file tree file there (unrefused (is_directory tree file) none);
  short = omega arith;
}
