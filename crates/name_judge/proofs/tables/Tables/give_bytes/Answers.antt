use Rattle.std.proofs.Common.{◌++◌, ◌∷◌, [], refl, sym, ◌∙◌, subst}
use Rattle.name_sessions.specs.Names.{Name}
use Rattle.name_sessions.specs.NameActs.{Gives}
use Rattle.name_judge.specs.Seen.{AreRight}
use Rattle.name_judge.proofs.GivenLaws.{gave_again}
use Rattle.name_judge.proofs.WaitLaws.{waiting_on}
use Rattle.name_judge.proofs.Results.{on_ok}
use Rattle.name_judge.proofs.tables.Tables.give_bytes.Goals as goal

pub returns-then-is_given : goal.returns-then-is_given
returns-then-is_given g c = λ s are. record {
  waiting = waiting_on s c.args.self.now.rows.entries (Gives (c.args.parent, c.args.bytes.now)) (λ q. refl) are.waiting;
  given = gave_again s c.args.self.now.given.entries c.args.self.now.given.entries (c.args.parent, c.args.bytes.now)
      (sym (c.is_given.ensures s are) ∙ c.if-is_given.true) are.given;
}

pub returns : goal.returns
returns g c = on_ok _ _ c.give.result (λ right s are.
    subst (λ (n : Name). AreRight (s ++ Gives n ∷ []) c.give.new.self) c.in_ok-name.ensures (right s are)) c.give.ensures
