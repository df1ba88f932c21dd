use Rattle.std.proofs.Common.{◌≡◌, ℕ, ◌-◌, ◌++◌, arith, take, drop, length, length-drop, List, Option, sym, subst}
use Rattle.std.specs.Prelude.{flat_map}
use Rattle.std.proofs.lemmas.Grind.{common_steps}
use Rattle.fuse_replies.specs.Record.{EntryRecordContent}
use Rattle.fuse_replies.specs.Records.{entry_records_from}
use Rattle.name_sessions.specs.ReplyNames.{listed_acts, record_acts}
use Rattle.name_judge.specs.Seen.{AreRight}
use Rattle.name_judge.proofs.Results.{on_ok}
use Rattle.name_judge.proofs.replies.see_listed.Goals as goal

-- the rest of the bytes, in all its length
taken_whole : (bytes : List ℕ) → take (length bytes - 16) (drop 16 bytes) ≡ drop 16 bytes
taken_whole bytes = grind (arith, common_steps, length-drop)

pub returns-in-Some : goal.returns-in-Some
returns-in-Some g c = on_ok _ _ c.see_records.result (λ right s are.
    subst (λ (o : Option ℕ). AreRight (s ++ listed_acts o c.args.bytes.now) c.see_records.new.tables) (sym c.in-Some.is)
    (subst (λ (bytes : List ℕ). AreRight (s ++ flat_map (record_acts c.in-Some.parent) (entry_records_from 0 bytes))
    c.see_records.new.tables) (taken_whole c.args.bytes.now)
    (subst (λ (rs : List EntryRecordContent). AreRight (s ++ flat_map (record_acts c.in-Some.parent) rs)
    c.see_records.new.tables) c.over.ensures (right s are)))) c.see_records.ensures
