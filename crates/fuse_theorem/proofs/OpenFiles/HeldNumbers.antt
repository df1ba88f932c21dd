-- After an abort the server holds the file handles that are used, also without those of a RELEASE that it performs.
use Rattle.std.proofs.Common.{◌≡◌, ◌≢◌, ℕ, true, false, true≢false, [], Some, None, ap, sym, subst, ◌∙◌, All}
use Rattle.std.specs.Prelude.{Contains}
use Rattle.std.proofs.lemmas.List.Elements.{All-nil}
use Rattle.fuse_spec.specs.declared.Opened.{Opened}
use Rattle.fuse_spec.specs.Values.Maps.{get, remove}
use Rattle.fuse_spec.specs.Kernel.Messages.{Request, RequestBody, release}
use Rattle.fuse_spec.specs.Files.Operations.{opens_in_reply}
use Rattle.fuse_spec.specs.Kernel.Queues.{request_under}
use Rattle.fuse_spec.specs.Kernel.Kernel.{is_live}
use Rattle.fuse_spec.specs.Server.Nodes.{HandleTable, is_file_of, is_open, file_of, handle_back}
use Rattle.fuse_spec.specs.Server.Server.{HeldRequest}
use Rattle.fuse_spec.specs.Claim.Counts.{opens_of_body}
use Rattle.fuse_spec.specs.World.Worlds.{World, Sent}
use Rattle.fuse_theorem.specs.Conditions.{IsFileHandle, HoldsOpens}
use Rattle.fuse_theorem.specs.Links.{LinksSound}
use Rattle.fuse_theorem.specs.StillOpen.{HandlesStillOpen, OpensAfterAbort}
use Rattle.fuse_theorem.proofs.Requests.LinksSound.{none_in}
use Rattle.fuse_theorem.proofs.Calls.Meaning.{first_of}
use Rattle.fuse_theorem.proofs.OpenFiles.NumbersLeft.{released_open}
use Rattle.fuse_theorem.proofs.Refining.PerformingWithoutAsk.{unheld}

is_file_handle : (h : HandleTable) (fh file : ℕ) → is_open h fh file ≡ true → IsFileHandle h fh
is_file_handle h fh file is none = true≢false (sym is ∙ ap (is_file_of file) none)

module _ (w : World) (links : LinksSound w) (old : OpensAfterAbort w) (dead : is_live w.kernel.phase ≡ false)
    (unique : ℕ) (t : HeldRequest) (there : get w.server.held unique ≡ Some t) (o : Opened)
    (body_is : t.body ≡ release o) where
  pub handle_open : is_open w.server.handles o.fh (file_of w.server.nodes o.nodeid) ≡ true
  handle_open = let now = (old dead).numbers in now.files unique t there o
      (subst (λ (b : RequestBody). Contains (opens_of_body b) o) (sym body_is) (first_of o []))

  abbrev back : HandleTable
  back = handle_back w.server.handles o.fh

  pub handles_held : HoldsOpens (unheld w unique) back
  handles_held =
      let idle = links.idle dead in
      let left = old dead in
      let now : HandlesStillOpen w.server.nodes back (remove w.server.held unique) =
      released_open w.server.nodes w.server.handles w.server.held left.numbers unique t there o body_is in
      record {
        opens = λ open_call x at. none_in w.kernel.vfs.opens open_call x left.opens at;
        calls = λ call state at x among. none_in w.kernel.vfs.calls call state left.calls at;
        sent = subst (All (λ (r : Request). (x : Opened) → Contains (opens_of_body r.body) x → IsFileHandle back x.fh))
            (sym idle.requests) (All-nil (λ (r : Request). (x : Opened) → Contains (opens_of_body r.body) x
            → IsFileHandle back x.fh));
        held = λ u x at y among. is_file_handle back y.fh (file_of w.server.nodes y.nodeid) (now.files u x at y among);
        kept = λ u k at awaited fh among. none_in w.server.kept u k idle.kept at;
        copies = subst (All (λ (s : Sent). request_under w.kernel.queues s.unique ≢ None → (fh : ℕ)
            → Contains (opens_in_reply s.wire) fh → IsFileHandle back fh)) (sym idle.replies)
            (All-nil (λ (s : Sent). request_under w.kernel.queues s.unique ≢ None → (fh : ℕ)
            → Contains (opens_in_reply s.wire) fh → IsFileHandle back fh));
      }
