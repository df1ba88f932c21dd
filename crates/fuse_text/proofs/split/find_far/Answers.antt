use Rattle.fuse_text.proofs.Splitting.{first_byte_is_position}
use Rattle.fuse_text.proofs.split.find_far.Goals as goal

pub returns : goal.returns
returns c = first_byte_is_position c.args.separator c.args.text.now c.memchr.result c.memchr.ensures
