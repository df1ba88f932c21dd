-- How a performed request changes the counts of file handles.
use Rattle.fuse_spec.specs.declared.Minor.TheVariants.{M15, M31}
use Rattle.fuse_spec.specs.declared.Minor.{Minor}
use Rattle.std.proofs.Common.{◌≡◌, ℕ, ◌+◌, ◌≤◌, Bool, true, false, true≢false, cond, List, [], None, refl, sym, ◌∙◌, arith}
use Rattle.std.specs.Prelude.{sum_by}
use Rattle.std.proofs.lemmas.List.Sums.{sum_by-cons}
use Rattle.fuse_spec.specs.declared.Opened.{Opened}
use Rattle.fuse_spec.specs.Files.FileOperations.{FileOperation, reply_by, tree_after}
use Rattle.fuse_spec.specs.Values.Maps.{get}
use Rattle.fuse_spec.specs.Kernel.Messages.{RequestBody, init, asks, release, forget, batch_forget, interrupt, WireReply}
use Rattle.fuse_spec.specs.Files.Operations.{Reply, done, failed, files_in_reply, opens_in_reply, errno_of}
use Rattle.fuse_spec.specs.Server.Nodes.{HandleTable, file_of, is_open, all_given, all_opened, handle_back}
use Rattle.fuse_spec.specs.Server.Server.{Server, HeldRequest}
use Rattle.fuse_spec.specs.Server.Performs.{PerformResult, file_operation_of, is_open_for, doing, wire_of, refusing, performing, performed, is_still_held, init_reply}
use Rattle.fuse_spec.specs.Claim.Counts.{opens_in}
use Rattle.fuse_theorem.specs.OpenNumbers.{released_by}
use Rattle.fuse_theorem.proofs.Refining.LookupsCounted.{opened_open}
use Rattle.fuse_theorem.proofs.OpenFiles.NumberCounts.{fh_count, back_count, opens_one, wire_opened, SameFiles, back_files}
use Rattle.fuse_theorem.proofs.Lists.OpenSums.{has_handle}
use Rattle.fuse_theorem.proofs.Lookups.WireCounts.{OneAtMost, nothing, one}

-- The handles that the reply carries are counted once more, and the one that is released once less; those that are left
-- are of the same files.
pub record Numbers (s : Server) (body : RequestBody) (did : PerformResult) : Type 0 where
  pub counts : (fh : ℕ) → fh_count did.server.handles fh + sum_by (has_handle fh) (released_by body)
      ≡ fh_count s.handles fh + opens_in fh did.wire
  pub files : SameFiles s.handles did.server.handles

-- What is needed of a RELEASE: that it is performed, and its handle is counted.
pub record Releases (s : Server) (t : HeldRequest) (o : Opened) : Type 0 where
  pub unmarked : t.marked ≡ false
  pub still : is_still_held s.nodes t.generations ≡ true
  pub number : is_open s.handles o.fh (file_of s.nodes o.nodeid) ≡ true
  pub counted : (fh : ℕ) → has_handle fh o ≤ fh_count s.handles fh

opened_files : (h : HandleTable) → get h.handles h.next_fh ≡ None → (reply : Reply ℕ ℕ)
    → SameFiles h (all_opened h (opens_in_reply reply))
opened_files h none reply = by (opens_in_reply reply) (opens_one reply)
  where
    by : (files : List ℕ) → OneAtMost files → SameFiles h (all_opened h files)
    by files nothing = λ fh file there is. is
    by files (one x) = λ fh file there is. opened_open h x none fh file is

module _ (choice : ℕ → ℕ) (s : Server) (live : s.aborted ≡ false)
    (none : get s.handles.handles s.handles.next_fh ≡ None) where
  releases_nothing : (body : RequestBody) → ((o : Opened) → body ≡ release o → ⊥) → (fh : ℕ)
      → ◌≡◌ {A = ℕ} (sum_by (has_handle fh) (released_by body)) 0
  releases_nothing (init flags) apart fh = refl
  releases_nothing (asks operation) apart fh = refl
  releases_nothing (release o) apart fh = absurd (apart o refl)
  releases_nothing (forget f) apart fh = refl
  releases_nothing (batch_forget fs) apart fh = refl
  releases_nothing (interrupt original) apart fh = refl

  refusing_handles : (body : RequestBody) → ((o : Opened) → body ≡ release o → ⊥) → (errno : ℕ)
      → Numbers s body (refusing s errno)
  refusing_handles body apart errno = record {
    counts = λ fh. let no = releases_nothing body apart fh in
        omega (arith, no);
    files = λ fh file there is. is;
  }

  doing_handles : (operation : FileOperation) → (body : RequestBody) → ((o : Opened) → body ≡ release o → ⊥)
      → Numbers s body (doing choice s operation)
  doing_handles operation body apart = record {
    counts = λ fh. let no = releases_nothing body apart fh in let more =
        counted fh s.aborted live in omega (arith, no, more);
    files = by_files s.aborted;
  }
    where
      reply : Reply ℕ ℕ
      reply = reply_by s.validity s.tree operation

      wire : WireReply
      wire = wire_of choice (all_given choice s.nodes (files_in_reply (reply_by s.validity s.tree operation)))
          (tree_after s.tree operation) s.handles.next_fh (reply_by s.validity s.tree operation)

      counted : (fh : ℕ) (b : Bool) → b ≡ false → fh_count
          (cond b s.handles (all_opened s.handles (opens_in_reply (reply_by s.validity s.tree operation)))) fh
          ≡ fh_count s.handles fh + opens_in fh (cond b
          (failed (errno_of (reply_by s.validity s.tree operation))) wire)
      counted fh true e = absurd (true≢false e)
      counted fh false e = wire_opened choice (all_given choice s.nodes (files_in_reply reply))
          (tree_after s.tree operation) s.handles none reply fh

      by_files : (b : Bool) → SameFiles s.handles (cond b s.handles
          (all_opened s.handles (opens_in_reply (reply_by s.validity s.tree operation))))
      by_files true = λ fh file there is. is
      by_files false = opened_files s.handles none reply

  module _ (t : HeldRequest) (released : (o : Opened) → t.body ≡ release o → Releases s t o) where
    performing_handles : (body : RequestBody) → t.body ≡ body → Numbers s body (performing choice s body)
    performing_handles (init flags) is = by s.minor
      where
        by : (m : Minor) → Numbers s (init flags) (record { server = s; wire = init_reply m flags })
        by M15 = record { counts = λ fh. omega arith; files = λ fh file there h. h }
        by M31 = record { counts = λ fh. omega arith; files = λ fh file there h. h }
    performing_handles (asks operation) is = by (is_open_for s operation)
      where
        by : (b : Bool) → Numbers s (asks operation) (cond b (doing choice s (file_operation_of s.nodes operation))
            (refusing s 9))
        by true = doing_handles (file_operation_of s.nodes operation) (asks operation) (λ o e. cc (e))
        by false = refusing_handles (asks operation) (λ o e. cc (e)) 9
    performing_handles (release o) is = by (is_open s.handles o.fh (file_of s.nodes o.nodeid)) refl
      where
        by : (b : Bool) → is_open s.handles o.fh (file_of s.nodes o.nodeid) ≡ b
            → Numbers s (release o) (cond b (record {
              server = record s { handles = handle_back s.handles o.fh };
              wire = done;
            }) (refusing s 9))
        by true e = record {
          counts = λ fh.
              let less = back_count s.handles o.fh fh in
              let mine = (released o is).counted fh in
              let alone = sum_by-cons (has_handle fh) o [] in
              omega (arith, less, mine, alone);
          files = back_files s.handles o.fh;
        }
        by false e = absurd (true≢false (sym (released o is).number ∙ e))
    performing_handles (forget f) is = refusing_handles (forget f) (λ o e. cc (e)) 5
    performing_handles (batch_forget fs) is = refusing_handles (batch_forget fs) (λ o e. cc (e)) 5
    performing_handles (interrupt original) is = refusing_handles (interrupt original) (λ o e. cc (e)) 5

    pub performed_handles : Numbers s t.body (performed choice s t)
    performed_handles = by_mark t.marked refl
      where
        by_held : (b : Bool) → is_still_held s.nodes t.generations ≡ b
            → Numbers s t.body (cond b (performing choice s t.body) (refusing s 5))
        by_held true e = performing_handles t.body refl
        by_held false e = refusing_handles t.body (λ o is. true≢false (sym (released o is).still ∙ e)) 5

        by_mark : (b : Bool) → t.marked ≡ b → Numbers s t.body
            (cond b (refusing s 4) (cond (is_still_held s.nodes t.generations) (performing choice s t.body)
            (refusing s 5)))
        by_mark true e = refusing_handles t.body (λ o is. true≢false (sym e ∙ (released o is).unmarked)) 4
        by_mark false e = by_held (is_still_held s.nodes t.generations) refl
