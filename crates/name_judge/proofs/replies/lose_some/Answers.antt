use Rattle.std.proofs.Common.{◌++◌, Option, sym, subst, ap}
use Rattle.std.specs.Option.{option_map}
use Rattle.name_sessions.specs.Names.{Name}
use Rattle.name_sessions.specs.ReplyNames.{losing}
use Rattle.name_judge.specs.Kept.{name_of}
use Rattle.name_judge.specs.Seen.{AreRight}
use Rattle.name_judge.proofs.replies.lose_some.Goals as goal

pub returns-in-Some : goal.returns-in-Some
returns-in-Some g c = λ s are.
    subst (λ (o : Option Name). AreRight (s ++ losing o) c.lose.new.self)
    (ap (option_map name_of) (sym c.in-Some.is)) (c.lose.ensures s are)
