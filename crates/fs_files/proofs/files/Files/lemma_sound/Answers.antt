use Rattle.fs_files.proofs.files.Files.lemma_sound.Goals as goal

pub returns : goal.returns
returns g c = rw (← c.self.view_is, ← c.self-inside.view_is) c.lemma_sound.ensures
