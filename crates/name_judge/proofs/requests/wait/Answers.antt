use Rattle.std.proofs.Common.{◌++◌, Option, sym, subst, ap}
use Rattle.std.specs.Option.{option_map}
use Rattle.name_sessions.specs.NameActs.{NamesAsked}
use Rattle.name_sessions.specs.RequestNames.{waiting}
use Rattle.name_judge.specs.Kept.{asked_of}
use Rattle.name_judge.specs.Seen.{AreRight}
use Rattle.name_judge.proofs.Results.{on_ok}
use Rattle.name_judge.proofs.requests.wait.Goals as goal

pub returns-in-Some : goal.returns-in-Some
returns-in-Some g c = on_ok _ _ c.ask.result (λ right s are.
    subst (λ (o : Option NamesAsked). AreRight (s ++ waiting c.args.unique o) c.ask.new.self)
    (ap (option_map asked_of) (sym c.in-Some.is)) (right s are)) c.ask.ensures

pub returns-in-None : goal.returns-in-None
returns-in-None g c = λ s are.
    subst (λ (o : Option NamesAsked). AreRight (s ++ waiting c.args.unique o) c.end-before.new.self)
    (ap (option_map asked_of) (sym c.in-None.is)) (c.end-before.ensures.right s are)
