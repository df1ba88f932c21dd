use Rattle.fuse_theorem.proofs.PlainWorld.PlainWorld.{steps_in_words as in_words}
use Rattle.fuse_theorem.proofs.plain_world.steps_in_words.Goals as goal

pub returns : goal.returns
returns g = λ p q e o took. in_words p q e o took
