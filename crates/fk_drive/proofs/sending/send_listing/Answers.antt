use Rattle.std.proofs.Common.{List, ℕ, subst}
use Rattle.fuse_spec.specs.Kernel.Messages.{Request}
use Rattle.fuse_frames.specs.RequestTies.{SaysRequest}
use Rattle.fk_drive_frames.specs.Filling.{ChangesOnly}
use Rattle.fk_drive.proofs.sending.send_listing.Goals as goal

pub returns : goal.returns
returns g c =
    let (log, over, ends, sends) = c.send_bytes.ensures in
    let filled = c.fill_handle.new.frame in (
      log,
      over,
      ends,
      record {
        frame = filled;
        same = subst (λ (l : List ℕ). (request : Request) → SaysRequest l request → SaysRequest filled request)
            c.copy_from_slice.ensures.after c.fill_handle.ensures.same;
        only = subst (λ (l : List ℕ). ChangesOnly 40 8 l filled) c.copy_from_slice.ensures.after c.fill_handle.ensures.only;
        handle = c.fill_handle.ensures.handle;
        sends = sends;
      },
    )
