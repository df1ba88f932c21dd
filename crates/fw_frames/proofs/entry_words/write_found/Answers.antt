use Rattle.fw_frames.specs.Words.{attr_words, nodeid_words, valid_words}
use Rattle.fuse_text.proofs.Writes.{Appends-three, OnOk-map}
use Rattle.fw_frames.proofs.entry_words.write_found.Goals as goal

pub returns : goal.returns
returns g c =
    let now = g.W.Write.contents in
    let entry = c.args.entry.now in
    OnOk-map _ _ c.write_attr.result (λ wrote. Appends-three (now c.args.out.now) (now c.write_node.new.out)
    (now c.write_valid.new.out) (now c.write_attr.new.out) (nodeid_words entry.nodeid entry.generation)
    (valid_words entry.entry_valid entry.entry_valid_nsec) (attr_words entry.attr) c.in_ok-write_node.ensures
    c.in_ok-write_valid.ensures wrote) c.write_attr.ensures
