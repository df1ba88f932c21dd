-- The file handle that a performed request's reply carries is the coming one.
use Rattle.fuse_spec.specs.declared.Minor.TheVariants.{M15, M31}
use Rattle.fuse_spec.specs.declared.Minor.{Minor}
use Rattle.std.proofs.Common.{◌≡◌, ℕ, ◌+◌, ◌≤◌, Bool, true, false, cond, List, [], ◌∷◌, nat_eq, count_by, refl, ap, arith}
use Rattle.std.proofs.lemmas.Bool.Decides.{nat_tests}
use Rattle.fuse_spec.specs.Files.FileOperations.{FileOperation, reply_by, tree_after}
use Rattle.fuse_spec.specs.Kernel.Messages.{RequestBody, init, asks, release, forget, batch_forget, interrupt}
use Rattle.fuse_spec.specs.Files.Operations.{Reply, found, missing, created, opened, attributes, listed, listed_plus, content, written, agreed, done, failed, files_in_reply, opens_in_reply, errno_of}
use Rattle.fuse_spec.specs.Server.Nodes.{NodeTable, HandleTable, file_of, is_open, all_given, handle_opened, all_opened, handle_more, handle_back}
use Rattle.fuse_spec.specs.Server.Server.{Server, HeldRequest}
use Rattle.fuse_spec.specs.Server.Performs.{PerformResult, file_operation_of, is_open_for, doing, wire_of, refusing, performing, performed, is_still_held, init_reply}
use Rattle.fuse_spec.specs.Server.Copies.{handles_counted, handles_back}
use Rattle.fuse_spec.specs.Claim.Counts.{opens_in}
use Rattle.fuse_spec.specs.Files.Trees.{Tree}
use Rattle.fuse_theorem.proofs.OpenFiles.NumberCounts.{number_alone}

-- The coming number never falls, and a number that the reply carries is the one that was coming.
pub record Allocates (s : Server) (did : PerformResult) : Type 0 where
  pub rises : s.handles.next_fh ≤ did.server.handles.next_fh
  pub new : (fh : ℕ) → 1 ≤ opens_in fh did.wire → (fh ≡ s.handles.next_fh)
      × (did.server.handles.next_fh ≡ s.handles.next_fh + 1)

refusing_allocates : (s : Server) (errno : ℕ) → Allocates s (refusing s errno)
refusing_allocates s errno = record { rises = omega arith; new = λ fh some. absurd (omega (arith, some)) }

-- a number in a list of one is that one
only_number : (n fh : ℕ) → 1 ≤ count_by (nat_eq fh) (n ∷ []) → fh ≡ n
only_number n fh some = by (nat_eq n fh) refl
  where
    by : (b : Bool) → nat_eq n fh ≡ b → fh ≡ n
    by true e = grind (arith, nat_tests, e)
    by false e =
        let alone = number_alone n fh in
        let none = ap {B = ℕ} (λ (b : Bool). cond b 1 0) e in
        absurd (omega (arith, alone, none, some))

wire_new : (choice : ℕ → ℕ) (t : NodeTable) (tree : Tree) (h : HandleTable) (reply : Reply ℕ ℕ) (fh : ℕ)
    → 1 ≤ opens_in fh (wire_of choice t tree h.next_fh reply)
    → (fh ≡ h.next_fh) × ((all_opened h (opens_in_reply reply)).next_fh ≡ h.next_fh + 1)
wire_new choice t tree h (created file v o) fh some = (only_number h.next_fh fh some, refl)
wire_new choice t tree h (opened o) fh some = (only_number h.next_fh fh some, refl)
wire_new choice t tree h (found file v) fh some = absurd (omega (arith, some))
wire_new choice t tree h (missing v) fh some = absurd (omega (arith, some))
wire_new choice t tree h (attributes a) fh some = absurd (omega (arith, some))
wire_new choice t tree h (listed xs) fh some = absurd (omega (arith, some))
wire_new choice t tree h (listed_plus xs) fh some = absurd (omega (arith, some))
wire_new choice t tree h (content xs) fh some = absurd (omega (arith, some))
wire_new choice t tree h (written n) fh some = absurd (omega (arith, some))
wire_new choice t tree h (agreed a b flags) fh some = absurd (omega (arith, some))
wire_new choice t tree h done fh some = absurd (omega (arith, some))
wire_new choice t tree h (failed e) fh some = absurd (omega (arith, some))

opened_rises : (files : List ℕ) (h : HandleTable) → h.next_fh ≤ (all_opened h files).next_fh
opened_rises [] h = omega arith
opened_rises (x ∷ files) h = let rest = opened_rises files (handle_opened h x) in omega (arith, rest)

module _ (choice : ℕ → ℕ) (s : Server) where
  doing_allocates : (operation : FileOperation) → Allocates s (doing choice s operation)
  doing_allocates operation = record { rises = by_rises s.aborted; new = λ fh. by_new fh s.aborted }
    where
      by_rises : (b : Bool) → s.handles.next_fh ≤ (cond b s.handles
          (all_opened s.handles (opens_in_reply (reply_by s.validity s.tree operation)))).next_fh
      by_rises true = omega arith
      by_rises false = opened_rises (opens_in_reply (reply_by s.validity s.tree operation)) s.handles

      by_new : (fh : ℕ) (b : Bool)
          → 1 ≤ opens_in fh (cond b (failed (errno_of (reply_by s.validity s.tree operation)))
          (wire_of choice (all_given choice s.nodes (files_in_reply (reply_by s.validity s.tree operation)))
          (tree_after s.tree operation) s.handles.next_fh (reply_by s.validity s.tree operation)))
          → (fh ≡ s.handles.next_fh) × ((cond b s.handles (all_opened s.handles
          (opens_in_reply (reply_by s.validity s.tree operation)))).next_fh ≡ s.handles.next_fh + 1)
      by_new fh true some = absurd (omega (arith, some))
      by_new fh false some = wire_new choice (all_given choice s.nodes
          (files_in_reply (reply_by s.validity s.tree operation))) (tree_after s.tree operation) s.handles
          (reply_by s.validity s.tree operation) fh some

  performing_allocates : (body : RequestBody) → Allocates s (performing choice s body)
  performing_allocates (init flags) = by s.minor
    where
      by : (m : Minor) → Allocates s (record { server = s; wire = init_reply m flags })
      by M15 = record { rises = omega arith; new = λ fh some. absurd (omega (arith, some)) }
      by M31 = record { rises = omega arith; new = λ fh some. absurd (omega (arith, some)) }
  performing_allocates (asks operation) = by (is_open_for s operation)
    where
      by : (b : Bool) → Allocates s (cond b (doing choice s (file_operation_of s.nodes operation)) (refusing s 9))
      by true = doing_allocates (file_operation_of s.nodes operation)
      by false = refusing_allocates s 9
  performing_allocates (release o) = by (is_open s.handles o.fh (file_of s.nodes o.nodeid))
    where
      by : (b : Bool) → Allocates s (cond b (record {
        server = record s { handles = handle_back s.handles o.fh };
        wire = done;
      }) (refusing s 9))
      by true = record { rises = omega arith; new = λ fh some. absurd (omega (arith, some)) }
      by false = refusing_allocates s 9
  performing_allocates (forget f) = refusing_allocates s 5
  performing_allocates (batch_forget fs) = refusing_allocates s 5
  performing_allocates (interrupt original) = refusing_allocates s 5

  pub performed_allocates : (t : HeldRequest) → Allocates s (performed choice s t)
  performed_allocates t = by_mark t.marked
    where
      by_held : (b : Bool) → Allocates s (cond b (performing choice s t.body) (refusing s 5))
      by_held true = performing_allocates t.body
      by_held false = refusing_allocates s 5

      by_mark : (b : Bool) → Allocates s (cond b (refusing s 4)
          (cond (is_still_held s.nodes t.generations) (performing choice s t.body) (refusing s 5)))
      by_mark true = refusing_allocates s 4
      by_mark false = by_held (is_still_held s.nodes t.generations)

-- ---- counts alone change

-- What is counted once more, or given back, leaves the coming number.
pub counted_next : (ns : List ℕ) (h : HandleTable) → (handles_counted h ns).next_fh ≡ h.next_fh
counted_next [] h = refl
counted_next (n ∷ ns) h = counted_next ns (handle_more h n)

pub given_back_next : (ns : List ℕ) (h : HandleTable) → (handles_back h ns).next_fh ≡ h.next_fh
given_back_next [] h = refl
given_back_next (n ∷ ns) h = given_back_next ns (handle_back h n)
