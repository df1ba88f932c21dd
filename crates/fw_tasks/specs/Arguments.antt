-- The arguments of the program's commands, as the parser of command lines reads them.
use Rattle.std.specs.Prelude.{◌≡◌, ℕ, true, false, List, [], ◌∷◌, Some}
use Rattle.std.specs.Borrow.{Bor}
use Rattle.clap.specs.Words.{Rule, Text, new_rule, rule_of}
use Rattle.clap.specs.declared.builder.action.ArgAction.TheVariants.{SetTrue}
use Rattle.clap.specs.declared.builder.arg.Arg.{Arg}
use Rattle.clap.specs.declared.builder.value_parser.ValueParser.TheVariants as parser

-- an argument that has to be given
abbrev pub needed : Text → Rule
needed id = record (new_rule id) { required = true }

-- an option without a value
abbrev pub flag : Text → Rule
flag name = record (new_rule name) { long = Some name; action = Some SetTrue }

-- an option with a value, and the value where it is not given
abbrev pub option : Text → Text → Rule
option name by_default = record (new_rule name) {
  long = Some name;
  value_names = 1;
  defaults = by_default ∷ [];
}

-- the same, where the value is a number in a range
abbrev pub number : Text → ℕ → ℕ → Text → Rule
number name low high by_default = record (option name by_default) { parser = Some (parser.Unsigned low high) }

-- the same, where the value is one of these words
abbrev pub choice : Text → Bor (List (Bor Text)) → Text → Rule
choice name words by_default = record (option name by_default) { parser = Some (parser.Names words) }

-- an option with a value, which may be left out
abbrev pub option_or_none : Text → Rule
option_or_none name = record (new_rule name) { long = Some name; value_names = 1 }

-- the argument has this rule, for one command alone
abbrev pub IsArgument : Rule → Arg → Type 0
IsArgument r a = (rule_of a ≡ r) × (a.global ≡ false)
