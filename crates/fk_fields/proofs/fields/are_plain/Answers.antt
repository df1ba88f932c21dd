use Rattle.fk_fields.proofs.WholeNames.{plain_whole}
use Rattle.fk_fields.proofs.fields.are_plain.Goals as goal

pub returns : goal.returns
returns c = plain_whole c.args.bytes.now c.runs.place c.name_ends_near-2.result c.requires c.runs-test.false c.runs.invariant.1 c.name_ends_near-2.ensures
