use Rattle.std.proofs.Common.{◌++◌, codes, decimal}
use Rattle.fuse_text.specs.HexTexts.{hex_or_none}
use Rattle.fw_script.proofs.AnswerParts.{answer_parts}
use Rattle.fuse_text.proofs.Writes.{refused_1, refused_2, refused_3}
use Rattle.fw_script.proofs.records.write_content.Goals as goal

pub returns-in_err-write_start-clause-refused : goal.returns-in_err-write_start-clause-refused
returns-in_err-write_start-clause-refused g c =
    let call = codes "answer " ++ decimal c.args.call ++ codes " " in
    refused_1 _ _ _ (call ++ codes "0 ") (hex_or_none c.args.bytes.now) (codes "\n") _ (answer_parts call (codes "0 ") (hex_or_none c.args.bytes.now) (codes "\n"))
    c.in_err-write_start.ensures.refused

pub returns-in_err-write_hex_or_none-clause-refused : goal.returns-in_err-write_hex_or_none-clause-refused
returns-in_err-write_hex_or_none-clause-refused g c =
    let call = codes "answer " ++ decimal c.args.call ++ codes " " in
    refused_2 _ _ _ _ (call ++ codes "0 ") (hex_or_none c.args.bytes.now) (codes "\n") _ (answer_parts call (codes "0 ") (hex_or_none c.args.bytes.now) (codes "\n"))
    c.in_ok-write_start.ensures.ok c.in_err-write_hex_or_none.ensures.refused

pub returns-clause-refused : goal.returns-clause-refused
returns-clause-refused g c =
    let call = codes "answer " ++ decimal c.args.call ++ codes " " in
    refused_3 c.write_text.result _ _ _ _ (call ++ codes "0 ") (hex_or_none c.args.bytes.now) (codes "\n") _
    (answer_parts call (codes "0 ") (hex_or_none c.args.bytes.now) (codes "\n")) c.in_ok-write_start.ensures.ok c.in_ok-write_hex_or_none.ensures.ok
    c.write_text.ensures.refused
