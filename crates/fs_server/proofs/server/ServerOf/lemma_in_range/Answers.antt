use Rattle.fs_server.proofs.Marked.{within}
use Rattle.fs_server.specs.Values.{server_with}
use Rattle.fs_server.proofs.server.ServerOf.lemma_in_range.Goals as goal

pub returns : goal.returns
returns g c =
    let s = c.self.inside in
    rw (← c.self.view_is)
    (within (server_with s.files s.held.entries s.kept.entries s.copies.entries s.next_copy s.validity s.minor s.is_aborted) c.lemma_in_range.ensures.inodes c.lemma_in_range.ensures.cookies c.lemma_in_range.ensures.generations c.lemma_in_range.ensures.numbers c.self.invariant.numbers)
