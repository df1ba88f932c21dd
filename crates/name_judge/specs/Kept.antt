-- What names stand for that are kept.
use Rattle.std.specs.Option.{option_map}
use Rattle.name_sessions.specs.Names.{Name}
use Rattle.name_sessions.specs.NameActs.{NamesAsked}
use Rattle.name_judge.specs.declared.kept.KeptName.{KeptName}
use Rattle.name_judge.specs.declared.kept.Waiting.{Waiting}

module _ {A : Type 0} where
  abbrev pub name_of : KeptName A → Name
  name_of kept = (kept.parent, kept.bytes.items)

  abbrev pub asked_of : Waiting A → NamesAsked
  asked_of row = record {
    removed = option_map name_of row.removed;
    made = option_map name_of row.made;
    listed = row.listed;
  }
