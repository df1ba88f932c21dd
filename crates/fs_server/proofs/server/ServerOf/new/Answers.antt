use Rattle.fs_server.proofs.Sound.{sound_first}
use Rattle.fs_server.proofs.server.ServerOf.new.Goals as goal

pub invariant_of-result : goal.invariant_of-result
invariant_of-result g c = rw (c.new-2.ensures, c.new-3.ensures, c.new-4.ensures)
    (sound_first c.in_ok-files.files c.in_ok-files.ensures.nodes c.in_ok-files.ensures.handles c.in_ok-files.ensures.named)
