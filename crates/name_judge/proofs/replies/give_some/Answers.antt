use Rattle.std.proofs.Common.{◌++◌, Option, sym, subst, ap}
use Rattle.std.specs.Option.{option_map}
use Rattle.name_sessions.specs.Names.{Name}
use Rattle.name_sessions.specs.ReplyNames.{giving}
use Rattle.name_judge.specs.Kept.{name_of}
use Rattle.name_judge.specs.Seen.{AreRight}
use Rattle.name_judge.proofs.Results.{on_ok}
use Rattle.name_judge.proofs.replies.give_some.Goals as goal

pub returns-in-Some : goal.returns-in-Some
returns-in-Some g c = on_ok _ _ c.give.result (λ right s are.
    subst (λ (o : Option Name). AreRight (s ++ giving o) c.give.new.self)
    (ap (option_map name_of) (sym c.in-Some.is)) (right s are)) c.give.ensures
