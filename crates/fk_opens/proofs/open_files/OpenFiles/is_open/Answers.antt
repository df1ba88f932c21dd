use Rattle.fk_opens.proofs.Counted.{is_open_is}
use Rattle.fk_opens.proofs.open_files.OpenFiles.is_open.Goals as goal

pub returns : goal.returns
returns g c = rw (← c.self.view_is) (is_open_is _ c.self.invariant c.has.result c.args.node c.has.ensures)
