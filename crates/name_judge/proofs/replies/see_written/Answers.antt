use Rattle.std.proofs.Common.{◌≡◌, ℕ, true, false, nat_eq, ◌++◌, ◌∷◌, [], Option, sym, ◌∙◌, subst}
use Rattle.fuse_sessions.specs.Frames.{number_in}
use Rattle.fuse_sessions.specs.Waiting.{reaches}
use Rattle.name_sessions.specs.NameActs.{NamesAsked, Ends}
use Rattle.name_sessions.specs.NameSessions.{waits}
use Rattle.name_sessions.specs.ReplyNames.{said_acts}
use Rattle.name_judge.specs.Seen.{AreRight}
use Rattle.name_judge.proofs.Results.{on_ok}
use Rattle.name_judge.proofs.ReplyLaws.{differ, written_on}
use Rattle.name_judge.proofs.replies.see_written.Goals as goal

pub returns : goal.returns
returns g c = on_ok _ _ c.see_said.result (λ right s are.
    let bytes = c.args.bytes.now in
    let unique = c.u64_at-unique.result in
    let new = c.see_said.new.tables in
    let some : nat_eq (number_in bytes) 0 ≡ false =
    subst (λ (n : ℕ). nat_eq n 0 ≡ false) c.u64_at-unique.ensures (differ unique 0 c.if-unique-eq0.false) in
    let reached : reaches c.args.taken ≡ true = sym c.reaches.ensures ∙ c.if-not-reaches.false in
    let said : AreRight ((s ++ Ends unique ∷ []) ++ said_acts (waits s unique) bytes c.args.taken) new =
    subst (λ (o : Option NamesAsked). AreRight ((s ++ Ends unique ∷ []) ++ said_acts o bytes c.args.taken) new)
    (c.end-asked.ensures.was s are) (right (s ++ Ends unique ∷ []) (c.end-asked.ensures.right s are)) in
    written_on s new (waits s (number_in bytes)) bytes c.args.taken some reached
    (subst (λ (n : ℕ). AreRight ((s ++ Ends n ∷ []) ++ said_acts (waits s n) bytes c.args.taken) new)
    c.u64_at-unique.ensures said)) c.see_said.ensures
