use Rattle.std.proofs.Common.{◌++◌, sym, ◌∙◌}
use Rattle.std.specs.Option.{option_map}
use Rattle.name_sessions.specs.ReplyNames.{losing}
use Rattle.name_judge.specs.Kept.{name_of}
use Rattle.name_judge.proofs.Results.{on_ok}
use Rattle.name_judge.proofs.ReplyLaws.{changed_on}
use Rattle.name_judge.proofs.replies.change.Goals as goal

pub returns : goal.returns
returns g c = on_ok _ _ c.give_some.result (λ right s are.
    let removed = option_map name_of c.args.removed.now in
    changed_on s c.give_some.new.tables removed (option_map name_of c.args.made) c.args.bytes.now
    (sym c.is_negative_entry.ensures ∙ c.if-is_negative_entry.false)
    (right (s ++ losing removed) (c.lose_some.ensures s are))) c.give_some.ensures
