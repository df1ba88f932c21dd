-- What is kept of calls that have names.
use Rattle.std.specs.Prelude.{ℕ, List, Option, map, option_map}
use Rattle.fw_call_names.specs.Naming.{Names}
use Rattle.fw_call_names.specs.declared.name.CallName.{CallName}

abbrev pub name_and_number : {A : Type 0} → CallName A → List ℕ × ℕ
name_and_number call = (call.name.items, call.number)

abbrev pub names_of : {A : Type 0} → List (CallName A) → Names
names_of calls = map name_and_number calls

abbrev pub begun_of : {A : Type 0} → Option (CallName A) → Option (List ℕ × ℕ)
begun_of call = option_map name_and_number call
