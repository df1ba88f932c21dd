use Rattle.std.proofs.Common.{refl}
use Rattle.fuse_text.proofs.Hexes.{decoded_is_spelled, hex_spells, spelled_is_hex}
use Rattle.fuse_text.proofs.hex_text.read_hex.Goals as goal

pub returns-then-not-is_hex-clause-bad : goal.returns-then-not-is_hex-clause-bad
returns-then-not-is_hex-clause-bad g c is bytes fit spells =
    let hex = c.if-not-is_hex.ensures.1 (spelled_is_hex c.args.text.now bytes fit spells) in cc

pub returns-in-Ok-clause-value : goal.returns-in-Ok-clause-value
returns-in-Ok-clause-value g c =
    decoded_is_spelled c.args.text.now c.in-Ok.bytes.items (c.if-not-is_hex.ensures.0 refl) c.in-Ok.ensures.ok

pub returns-in-Err-clause-memory : goal.returns-in-Err-clause-memory
returns-in-Err-clause-memory g c is = hex_spells c.args.text.now (c.if-not-is_hex.ensures.0 refl)
