use Rattle.std.proofs.Common.{◌≡◌, true, rules}
use Rattle.joined_sessions.specs.Joined as words
use Rattle.joined_sessions.proofs.CertainLaws.{certain_law}
use Rattle.joined_sessions.proofs.certain.is_certain.Goals as goal

pub returns-in_default-clause-law : goal.returns-in_default-clause-law
returns-in_default-clause-law c =
    let certain : words.is_certain c.args.fault ≡ true = search rules in
    λ _. certain_law c.args.fault certain
