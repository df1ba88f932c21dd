use Rattle.std.proofs.Common.{◌++◌, length}
use Rattle.std.specs.Prelude.{codes}
use Rattle.hex.specs.Hex.{encode_lower}
use Rattle.fuse_text.proofs.Writes.{Appends-four, OnOk-map}
use Rattle.fw_vectors.specs.Members.{fh_member, range_members}
use Rattle.fw_vectors.proofs.request_members.write_data.Goals as goal

pub returns : goal.returns
returns g c =
    let now = g.W.Write.contents in
    let bytes = c.args.bytes.now in
    OnOk-map _ _ c.write_all-2.result (λ wrote. Appends-four (now c.args.out.now) (now c.write_file_range.new.out)
    (now c.write_all.new.self) (now c.print_hex.new.out) (now c.write_all-2.new.self)
    (fh_member c.args.fh ++ codes "," ++ range_members c.args.offset (length bytes)) (codes ",\"data\":\"")
    (encode_lower bytes) (codes "\"") c.in_ok-write_file_range.ensures c.in_ok-write_all.ensures.bytes
    c.in_ok-print_hex.ensures wrote) c.write_all-2.ensures.bytes
