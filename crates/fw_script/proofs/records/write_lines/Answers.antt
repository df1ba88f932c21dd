use Rattle.std.proofs.Common.{append_assoc}
use Rattle.std.specs.Prelude.{flat_map, option_copied}
use Rattle.fw_script.specs.Records.{put_text, record_text}
use Rattle.fuse_text.proofs.Writes.{refused_1, refused_2, refused_3}
use Rattle.fw_script.proofs.records.write_lines.Goals as goal

pub returns-in_err-write_first-clause-refused : goal.returns-in_err-write_first-clause-refused
returns-in_err-write_first-clause-refused g c =
    let first = record_text c.args.first.now in
    let put = put_text (option_copied c.args.frame) in
    let answers = flat_map record_text c.args.answers.now in
    refused_1 _ _ _ first put answers _ (append_assoc first put answers) c.in_err-write_first.ensures.refused

pub returns-in_err-write_put-clause-refused : goal.returns-in_err-write_put-clause-refused
returns-in_err-write_put-clause-refused g c =
    let first = record_text c.args.first.now in
    let put = put_text (option_copied c.args.frame) in
    let answers = flat_map record_text c.args.answers.now in
    refused_2 _ _ _ _ first put answers _ (append_assoc first put answers) c.in_ok-write_first.ensures.ok
    c.in_err-write_put.ensures.refused

pub returns-clause-refused : goal.returns-clause-refused
returns-clause-refused g c =
    let first = record_text c.args.first.now in
    let put = put_text (option_copied c.args.frame) in
    let answers = flat_map record_text c.args.answers.now in
    refused_3 c.write_answers.result _ _ _ _ first put answers _ (append_assoc first put answers)
    c.in_ok-write_first.ensures.ok c.in_ok-write_put.ensures.ok c.write_answers.ensures.refused
