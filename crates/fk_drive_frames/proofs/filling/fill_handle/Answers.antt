use Rattle.fk_drive_frames.proofs.Filled.{says_listing}
use Rattle.fk_drive_frames.proofs.filling.fill_handle.Goals as goal

pub returns-clause-same : goal.returns-clause-same
returns-clause-same c =
    says_listing c.spelled_is_decoded.ensures c.args.frame.now c.put_u64.new.frame c.put_u64.ensures.only c.requires
