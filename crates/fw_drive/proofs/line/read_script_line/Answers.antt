use Rattle.fw_drive.specs.DriveLines.{faulty, placed}
use Rattle.fw_drive.proofs.line.read_script_line.Goals as goal

pub returns-in-Err : goal.returns-in-Err
returns-in-Err c = faulty c.in-Err.fault c.requires.known c.requires.placed c.requires.plain c.in-Err.ensures

pub returns-in-Ok-Event-Write : goal.returns-in-Ok-Event-Write
returns-in-Ok-Event-Write c =
    let write = c.in-Ok-Event-Write in
    let has = rw (write.field-0-is, write.field-0-0-is) at write.ensures in
    placed c.requires.known write.field-0-0-0 has.0
