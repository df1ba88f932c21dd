use Rattle.std.proofs.Common.{◌≡◌, ◌∷◌}
use Rattle.std.specs.Prelude.{flat_map}
use Rattle.std.specs.Io.KnownBytes.{Appends}
use Rattle.fk_wire.specs.Records.{direntplus_content, pluses_in}
use Rattle.std.proofs.KnownBytes.{Appends-trans}
use Rattle.fuse_text.proofs.Writes.{OnOk-map}
use Rattle.fw_vectors.specs.Members.{direntplus_object, further, comma_list}
use Rattle.fw_vectors.proofs.reply_members.write_pluses.Goals as goal

pub returns : goal.returns
returns g c =
    let now = g.W.Write.contents in
    let first = direntplus_content c.in-Some.first in
    let rest = pluses_in c.next.new.self in
    let all : pluses_in c.args.records ≡ first ∷ rest = c.in-Some.ensures.steps in
    OnOk-map _ _ c.write_further_pluses.result (λ wrote. rw all (Appends-trans (now c.args.out.now)
    (now c.write_direntplus.new.out) (now c.write_further_pluses.new.out) (direntplus_object first)
    (flat_map (further direntplus_object) rest) c.in_ok-write_direntplus.ensures wrote)) c.write_further_pluses.ensures
