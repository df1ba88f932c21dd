use Rattle.std.proofs.Common.{◌++◌, Option, sym, ◌∙◌, subst, ap}
use Rattle.std.specs.Option.{option_map}
use Rattle.name_sessions.specs.NameActs.{NamesAsked}
use Rattle.name_sessions.specs.ReplyNames.{said_acts}
use Rattle.name_judge.specs.Kept.{asked_of}
use Rattle.name_judge.specs.Seen.{AreRight}
use Rattle.name_judge.proofs.Results.{on_ok}
use Rattle.name_judge.proofs.ReplyLaws.{said_on}
use Rattle.name_judge.proofs.replies.see_said.Goals as goal

pub returns-in-Some : goal.returns-in-Some
returns-in-Some g c = on_ok _ _ c.see_done.result (λ right s are.
    subst (λ (o : Option NamesAsked). AreRight (s ++ said_acts o c.args.bytes.now c.args.taken) c.see_done.new.tables)
    (ap (option_map asked_of) (sym c.in-Some.is))
    (said_on s c.see_done.new.tables (asked_of c.in-Some.asked) c.args.bytes.now c.args.taken
    (sym c.is_done.ensures ∙ c.if-is_done.true) (right s are))) c.see_done.ensures
