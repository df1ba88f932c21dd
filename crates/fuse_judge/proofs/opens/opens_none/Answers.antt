use Rattle.fuse_judge.proofs.opens.opens_none.Goals as goal

pub returns-in-File : goal.returns-in-File
returns-in-File c = λ s are. rw c.in-File.is are.no_files

pub returns-in-Directory : goal.returns-in-Directory
returns-in-Directory c = λ s are. rw c.in-Directory.is are.no_directories
