use Rattle.fs_files.proofs.BornFiles.{makes_directory}
use Rattle.fs_files.proofs.operating.make_directory.Goals as goal

pub returns-in-Ok-clause-ok : goal.returns-in-Ok-clause-ok
returns-in-Ok-clause-ok g c =
    λ v. makes_directory v c.args.tree.now c.args.directory c.args.name.now c.in-Ok.file c.make_directory.new.self c.requires.inodes c.in-Ok.ensures.ok.0 c.in-Ok.ensures.ok.1
