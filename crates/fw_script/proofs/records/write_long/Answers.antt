use Rattle.std.proofs.Common.{◌≡◌, ◌++◌, codes, decimal, map}
use Rattle.fk_syscalls.specs.Listings.{listed_dirent}
use Rattle.fuse_spec.specs.Files.Operations.{Dirent}
use Rattle.fw_script.specs.Records.{kind_word, listed_words, shown_byte}
use Rattle.fw_script.proofs.AnswerParts.{listed_parts}
use Rattle.fuse_text.proofs.Writes.{refused_1, refused_2, refused_3}
use Rattle.fw_script.proofs.records.write_long.Goals as goal

parts : (d : Dirent)
    → listed_words d ≡ codes " " ++ (map shown_byte d.name ++ (codes ":" ++ decimal d.offset ++ codes ":" ++ kind_word d.kind))
parts d = listed_parts (map shown_byte d.name) (decimal d.offset) (kind_word d.kind)

pub returns-in_err-write_text-clause-refused : goal.returns-in_err-write_text-clause-refused
returns-in_err-write_text-clause-refused g c =
    refused_1 _ _ _ (codes " ") (map shown_byte c.args.listed.now.name.now)
    (codes ":" ++ decimal c.args.listed.now.offset ++ codes ":" ++ kind_word c.args.listed.now.kind) _
    (parts (listed_dirent c.args.listed.now)) c.in_err-write_text.ensures.refused

pub returns-in_err-write_name-clause-refused : goal.returns-in_err-write_name-clause-refused
returns-in_err-write_name-clause-refused g c =
    refused_2 _ _ _ _ (codes " ") _ _ _ (parts (listed_dirent c.args.listed.now)) c.in_ok-write_text.ensures.ok
    c.in_err-write_name.ensures.refused

pub returns-clause-refused : goal.returns-clause-refused
returns-clause-refused g c =
    refused_3 c.write_place.result _ _ _ _ (codes " ") _ _ _ (parts (listed_dirent c.args.listed.now))
    c.in_ok-write_text.ensures.ok c.in_ok-write_name.ensures.ok c.write_place.ensures.refused
