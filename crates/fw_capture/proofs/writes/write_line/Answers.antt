use Rattle.std.proofs.Common.{refl}
use Rattle.fw_capture.proofs.Writing.{as_begun, as_written, some_first, some_then, writes_failed, writes_then}
use Rattle.fw_capture.proofs.writes.write_line.Goals as goal

pub returns-in_err-write_text : goal.returns-in_err-write_text
returns-in_err-write_text g c =
    writes_failed _ _ _ _ c.from_residual.ensures.0
    (some_first _ _ _ _ _ refl (as_begun _ _ _ c.in_err-write_text.ensures.refused))

pub returns-in_err-write_hex : goal.returns-in_err-write_hex
returns-in_err-write_hex g c =
    writes_failed _ _ _ _ c.from_residual-in_err-write_hex.ensures.0
    (some_then _ _ _ _ _ _ refl c.in_ok-write_text.ensures.ok
    (some_first _ _ _ _ _ refl (as_begun _ _ _ c.in_err-write_hex.ensures.refused)))

pub returns-in_err-write_text-2 : goal.returns-in_err-write_text-2
returns-in_err-write_text-2 g c =
    writes_failed _ _ _ _ c.from_residual-in_err-write_text-2.ensures.0
    (some_then _ _ _ _ _ _ refl c.in_ok-write_text.ensures.ok
    (some_then _ _ _ _ _ _ refl c.in_ok-write_hex.ensures.ok
    (some_first _ _ _ _ _ refl (as_begun _ _ _ c.in_err-write_text-2.ensures.refused))))

pub returns : goal.returns
returns g c =
    writes_then c.write_text-3.result _ _ _ _ _ _ refl c.in_ok-write_text.ensures.ok
    (writes_then c.write_text-3.result _ _ _ _ _ _ refl c.in_ok-write_hex.ensures.ok
    (writes_then c.write_text-3.result _ _ _ _ _ _ refl c.in_ok-write_text-2.ensures.ok
    (as_written c.write_text-3.result _ _ _ c.write_text-3.ensures.ok c.write_text-3.ensures.refused)))
