-- What an operation allocates, refused or not.
use Rattle.std.proofs.Common.{◌≡◌, ℕ, Bool, true, false, true≢false, cond, List, [], length, Option, None, sym, ap, subst, arith, refl}
use Rattle.std.specs.Prelude.{is_err, Result, Ok, Err}
use Rattle.fuse_spec.specs.Values.Numbers.{ebadf, eintr, eio}
use Rattle.fuse_spec.specs.Kernel.Messages.{RequestBody, asks, release}
use Rattle.fuse_spec.specs.Files.Operations.{Operation, Reply, failed, files_in_reply, opens_in_reply}
use Rattle.fuse_spec.specs.declared.Opened.{Opened}
use Rattle.fuse_spec.specs.Server.Performs.{file_operation_of, is_open_for, is_still_held}
use Rattle.fuse_spec.specs.Server.Server.{Server, HeldRequest}
use Rattle.fs_files.specs.Performing.{said, body_reply, tree_said, tree_by, handles_said, handles_by}
use Rattle.fuse_spec.specs.declared.Validity.{Validity}
use Rattle.fuse_spec.specs.Files.Trees.{Tree}
use Rattle.fuse_spec.specs.Files.FileOperations.{FileOperation, refusal, reply_by, reply_or, reply_unrefused, tree_after, tree_or, tree_unrefused}
use Rattle.fs_tree.specs.Outcomes.{RefusesWith}
use Rattle.fs_tree.specs.declared.error.TreeError.{TreeError}
use Rattle.fs_files.specs.Plans.{AllocatesNumbers}
use Rattle.fs_files.specs.declared.plan.Needs.{Needs}

pub not_refused : {T : Type 0} (first : Option ℕ) (r : Result T TreeError) → RefusesWith first r → is_err r ≡ false
    → first ≡ None
not_refused first (Ok x) refuses none = refuses
not_refused first (Err error) refuses none = absurd (true≢false none)

pub allocates_unrefused : (v : Validity) (tree : Tree) (operation : FileOperation) (needs : Needs)
    → refusal tree operation ≡ None → AllocatesNumbers tree (tree_unrefused tree operation) (reply_unrefused v tree operation) needs
    → AllocatesNumbers tree (tree_after tree operation) (reply_by v tree operation) needs
allocates_unrefused v tree operation needs none allocates =
    subst (λ (r : Option ℕ). AllocatesNumbers tree (tree_or tree (tree_unrefused tree operation) r)
    (reply_or (reply_unrefused v tree operation) r) needs) (sym none) allocates

-- ---- requests that no INTERRUPT marked, and whose nodes are held

module _ (s : Server) (h : HeldRequest) (unmarked : h.marked ≡ false)
    (still : is_still_held s.nodes h.generations ≡ true) where
  pub handles_release : (o : Opened) → h.body ≡ release o → handles_by s (release o) ≡ handles_said s h
  handles_release o is = sym (λ i. cond (unmarked i) s.handles (cond (still i) (handles_by s (is i)) s.handles))

  pub body_allocates : (body : RequestBody) → h.body ≡ body → (needs : Needs)
      → AllocatesNumbers s.tree (tree_by s body) (body_reply s body) needs → AllocatesNumbers s.tree (tree_said s h) (said s h) needs
  body_allocates body is needs allocates =
      subst (λ (t : Tree). AllocatesNumbers s.tree t (said s h) needs)
      (sym (λ i. cond (unmarked i) s.tree (cond (still i) (tree_by s (is i)) s.tree)))
      (subst (λ (r : Reply ℕ ℕ). AllocatesNumbers s.tree (tree_by s body) r needs)
      (sym (λ i. cond (unmarked i) (failed eintr) (cond (still i) (body_reply s (is i)) (failed eio)))) allocates)

-- nothing is allocated
abbrev pub nothing : Needs
nothing = record { inodes = 0; cookies = 0; opens = 0; files = record { items = [] } }

pub none_allocated : (tree : Tree) (reply : Reply ℕ ℕ) (needs : Needs) → files_in_reply reply ≡ []
    → opens_in_reply reply ≡ [] → needs ≡ nothing → AllocatesNumbers tree tree reply needs
none_allocated tree reply needs files opens is = subst (AllocatesNumbers tree tree reply) (sym is)
    (record {
      inodes = omega arith;
      cookies = omega arith;
      files = files;
      opens = ap (λ (os : List ℕ). length os) opens;
    })

-- ---- operations, under a file handle of their file or not

module _ (s : Server) (o : Operation ℕ Opened) where
  abbrev on_tree : FileOperation
  on_tree = file_operation_of s.nodes o

  asked_allocates : (b : Bool) (needs : Needs) → is_open_for s o ≡ b
      → AllocatesNumbers s.tree (cond b (tree_after s.tree on_tree) s.tree)
      (cond b (reply_by s.validity s.tree on_tree) (failed ebadf)) needs
      → AllocatesNumbers s.tree (tree_by s (asks o)) (body_reply s (asks o)) needs
  asked_allocates b needs open' = subst (λ (c : Bool). AllocatesNumbers s.tree (cond c (tree_after s.tree on_tree) s.tree)
      (cond c (reply_by s.validity s.tree on_tree) (failed ebadf)) needs) (sym open')

  pub open_allocates : (needs : Needs) → is_open_for s o ≡ true
      → AllocatesNumbers s.tree (tree_after s.tree on_tree) (reply_by s.validity s.tree on_tree) needs
      → AllocatesNumbers s.tree (tree_by s (asks o)) (body_reply s (asks o)) needs
  open_allocates needs open' = asked_allocates true needs open'

  pub closed_allocates : (needs : Needs) → is_open_for s o ≡ false → needs ≡ nothing
      → AllocatesNumbers s.tree (tree_by s (asks o)) (body_reply s (asks o)) needs
  closed_allocates needs closed is = asked_allocates false needs closed (none_allocated s.tree (failed ebadf) needs refl refl is)
