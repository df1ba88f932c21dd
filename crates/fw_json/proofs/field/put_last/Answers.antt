use Rattle.fw_json.proofs.Putting.{no_last}
use Rattle.fw_json.proofs.field.put_last.Goals as goal

pub returns-in-None-Some : goal.returns-in-None-Some
returns-in-None-Some g c =
    rw (c.in-None-Some.is-0, c.in-None-Some.is-1) (no_last c.in-None-Some.field-0-1.now)
