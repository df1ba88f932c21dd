use Rattle.std.proofs.Common.{◌++◌, refl}
use Rattle.fuse_text.proofs.Writes.{OnErr-always, some_first}
use Rattle.fw_script.proofs.records.put_last.Goals as goal

pub returns-in_err-make_room-clause-refused : goal.returns-in_err-make_room-clause-refused
returns-in_err-make_room-clause-refused g c =
    let held = c.args.chunk.now in
    let text = c.args.text.now in
    OnErr-always _ c.from_residual.result
    (some_first _ _ held text (held ++ text) refl c.in_err-make_room.ensures.refused)
