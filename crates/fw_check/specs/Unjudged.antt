-- Why a session is not judged any more.
use Rattle.std.specs.Prelude.{ℕ, List, ◌++◌, codes, decimal}
use Rattle.fuse_protocol.specs.declared.agreed.Unjudged.{Unjudged}
use Rattle.fuse_protocol.specs.declared.agreed.Unjudged.TheVariants as reason
use Rattle.fw_check.specs.Json.{number_field, text_field}

abbrev pub unjudged_words : Unjudged → List ℕ
unjudged_words reason.Major = codes "a side speaks another major version than 7"
unjudged_words reason.Old = codes "the sides agreed below 7.9, where entries and attributes are shorter"
unjudged_words reason.New = codes "the sides agreed above 7.45, whose structs are not known"
unjudged_words reason.Contexts = codes "security contexts follow names, and no frame says how long they are"

abbrev pub unjudged_line : (number : ℕ) → Unjudged → List ℕ
unjudged_line number why =
    codes "line " ++ decimal number ++ codes ": " ++ codes "not judged from here on: " ++ unjudged_words why ++ codes "\n"

abbrev pub unjudged_fields : (number : ℕ) → Unjudged → List ℕ
unjudged_fields number why = number_field (codes "line") number ++ text_field (codes "why") (unjudged_words why)

abbrev pub unjudged_object : (number : ℕ) → Unjudged → List ℕ
unjudged_object number why = codes "{\"event\":\"unjudged\"" ++ unjudged_fields number why ++ codes "}\n"
