use Rattle.std.proofs.Common.{List, ℕ, subst}
use Rattle.fuse_spec.specs.Kernel.Messages.{Request}
use Rattle.fk_wire.specs.Requests.{RequestMessage, Spells}
use Rattle.fuse_frames.specs.RequestTies.{SaysRequest}
use Rattle.fk_drive_frames.specs.Filling.{FillsFor}
use Rattle.fk_drive.proofs.sending.send_same.Goals as goal

pub returns : goal.returns
returns g c =
    let (log, over, ends, sends) = c.send_bytes.ensures in
    let filled = c.fill.new.frame in (
      log,
      over,
      ends,
      record {
        frame = filled;
        same = subst (λ (l : List ℕ). (request : Request) → SaysRequest l request → SaysRequest filled request)
            c.copy_from_slice.ensures.after c.fill.ensures.same;
        filled = subst (λ (l : List ℕ). (m : RequestMessage) → Spells l m → FillsFor m.content c.args.free_fields l filled)
            c.copy_from_slice.ensures.after c.fill.ensures.filled;
        sends = sends;
      },
    )
