use Rattle.fs_server.proofs.server.ServerOf.lemma_sound.Goals as goal

pub returns : goal.returns
returns g c = rw (← c.self.view_is) (record {
  named = c.self.invariant.named;
  nodes = c.lemma_sound.ensures;
  apart = c.self.invariant.requests;
})
