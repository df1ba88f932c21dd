-- At rest no closed file waits for its RELEASE, and the server counts of each file handle what the kernel holds open.
use Rattle.std.proofs.Common.{◌≡◌, ℕ, ◌+◌, true≢false, [], ◌∷◌, ◌++◌, nat_eq, count_by, refl, ap, sym, ◌∙◌, append-nil, arith}
use Rattle.std.specs.Prelude.{sum_by}
use Rattle.std.specs.List.{list_any}
use Rattle.fuse_spec.specs.declared.Opened.{Opened}
use Rattle.fuse_spec.specs.declared.Purpose.{Purpose}
use Rattle.fuse_spec.specs.declared.QueuedRequest.{QueuedRequest}
use Rattle.fuse_spec.specs.Values.Maps.{Map, get, values}
use Rattle.fuse_spec.specs.Kernel.Messages.{Request}
use Rattle.fuse_spec.specs.Calls.Vfs.{CallState}
use Rattle.fuse_spec.specs.Kernel.Kernel.{is_using}
use Rattle.fuse_spec.specs.Server.Server.{HeldRequest}
use Rattle.fuse_spec.specs.Claim.Counts.{AtRest, OpenBalance, handle_count, open_in_flight, open_in_kernel, opens_in, releases_for, releases_in, result_carries}
use Rattle.fuse_spec.specs.World.Worlds.{World, Sent}
use Rattle.fuse_theorem.specs.ClosedFiles.{ClosedFiles}
use Rattle.fuse_theorem.proofs.Answers.NothingWaits.{first_found}

-- A closed file is used by a call, so there is none where there is no call.
pub none_closing : (w : World) → ClosedFiles w.kernel.vfs w.kernel.closing → w.kernel.vfs.calls ≡ []
    → w.kernel.closing ≡ []
none_closing w files none = by w.kernel.closing refl
  where
    by : (m : Map Opened) → w.kernel.closing ≡ m → m ≡ []
    by [] is = refl
    by (e ∷ m) is =
        let used = files.used e.0 e.1 (first_found w.kernel.closing e.0 e.1 m is) in
        absurd (true≢false (sym used ∙ ap (λ (calls : Map (CallState Opened)). list_any (is_using e.0)
        (values calls)) none))

module _ (w : World) (rest : AtRest w) (fh : ℕ) where
  none_in_flight : open_in_flight w fh ≡ 0
  none_in_flight = λ i.
      sum_by (λ (e : ℕ × QueuedRequest Purpose). releases_for fh e.1.kept) (rest.pending i) + sum_by
      (λ (r : Request). releases_in fh r.body) (rest.requests i)
      + sum_by (λ (taken : HeldRequest). releases_in fh taken.body) (values (rest.held i)) + sum_by
      (λ (sent : Sent). opens_in fh sent.wire) (rest.replies i)
      + sum_by (result_carries (opens_in fh) w.server) (rest.results i)

  pub opens_counted : OpenBalance w → w.kernel.closing ≡ []
      → handle_count (get w.server.handles.handles fh)
      ≡ count_by (λ (o : Opened). nat_eq o.fh fh) (values w.kernel.vfs.opens)
  opens_counted balance none =
      let whole = balance fh in
      let still = none_in_flight in
      let alone : open_in_kernel w.kernel fh ≡ count_by (λ (o : Opened). nat_eq o.fh fh) (values w.kernel.vfs.opens) =
      ap (λ (closing : Map Opened). count_by (λ (o : Opened). nat_eq o.fh fh)
      (values w.kernel.vfs.opens ++ values closing)) none ∙ ap (count_by (λ (o : Opened). nat_eq o.fh fh))
      (append-nil (values w.kernel.vfs.opens)) in
      omega (arith, whole, still, alone)
