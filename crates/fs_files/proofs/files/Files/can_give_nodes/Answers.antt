use Rattle.fs_files.proofs.files.Files.can_give_nodes.Goals as goal

pub count_overflows-requires : goal.count_overflows-requires
count_overflows-requires g c = rw (← c.self.view_is, ← c.self-inside.view_is) at c.requires
