use Rattle.fs_files.proofs.BornFiles.{makes_file}
use Rattle.fs_files.proofs.operating.make_file.Goals as goal

pub returns-in-Ok-clause-ok : goal.returns-in-Ok-clause-ok
returns-in-Ok-clause-ok g c =
    λ v. makes_file v c.args.tree.now c.args.directory c.args.name.now c.in-Ok.file c.make_file.new.self c.requires.inodes c.in-Ok.ensures.ok.0 c.in-Ok.ensures.ok.1
