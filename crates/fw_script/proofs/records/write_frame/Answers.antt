use Rattle.std.proofs.Common.{append_assoc, codes}
use Rattle.hex.specs.Hex.{encode_lower}
use Rattle.fuse_text.proofs.Writes.{refused_1, refused_2, refused_3}
use Rattle.fw_script.proofs.records.write_frame.Goals as goal

pub returns-in_err-write_text-clause-refused : goal.returns-in_err-write_text-clause-refused
returns-in_err-write_text-clause-refused g c =
    let bytes = encode_lower c.args.frame.now in
    refused_1 _ _ _ (codes "frame ") bytes (codes "\n") _ (append_assoc (codes "frame ") bytes (codes "\n"))
    c.in_err-write_text.ensures.refused

pub returns-in_err-write_hex-clause-refused : goal.returns-in_err-write_hex-clause-refused
returns-in_err-write_hex-clause-refused g c =
    let bytes = encode_lower c.args.frame.now in
    refused_2 _ _ _ _ (codes "frame ") bytes (codes "\n") _ (append_assoc (codes "frame ") bytes (codes "\n"))
    c.in_ok-write_text.ensures.ok c.in_err-write_hex.ensures.refused

pub returns-clause-refused : goal.returns-clause-refused
returns-clause-refused g c =
    let bytes = encode_lower c.args.frame.now in
    refused_3 c.write_text-2.result _ _ _ _ (codes "frame ") bytes (codes "\n") _
    (append_assoc (codes "frame ") bytes (codes "\n")) c.in_ok-write_text.ensures.ok c.in_ok-write_hex.ensures.ok
    c.write_text-2.ensures.refused
