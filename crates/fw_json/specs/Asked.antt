-- The request that a line names, and the call that it serves.
use Rattle.std.specs.Prelude.{ℕ, Bool, true, false, List, [], ◌∷◌, ◌++◌, ◌&&◌, Option, Some, None, bytes_eq, codes, nat_le, option_map, if◌then◌else◌}
use Rattle.fuse_text.specs.Words.{parts_left, words_of}
use Rattle.fw_json.specs.Fields.{is_number, key_text, string_field}
use Rattle.fw_json.specs.declared.key.Key.TheVariants as key

-- ---- the call that a request serves: `of call C, line L`

-- the number before the first comma, from the parts round commas
abbrev pub comma_number : (parts : List (List ℕ)) → Option (List ℕ)
comma_number (number ∷ behind ∷ parts) = if is_number number then Some number else None
comma_number parts = None

-- `C,`, `line` and `L`
abbrev pub called_in : (number word place : List ℕ) → Option (List ℕ × List ℕ)
called_in number word place = if bytes_eq word (codes "line") && is_number place
    then option_map (λ call. (call, place)) (comma_number (parts_left 44 (Some number))) else None

abbrev pub called_numbers : (words : List (List ℕ)) → Option (List ℕ × List ℕ)
called_numbers (number ∷ word ∷ place ∷ words) = called_in number word place
called_numbers words = None

abbrev pub called_words : (words : List (List ℕ)) → Option (List ℕ × List ℕ)
called_words (of ∷ call ∷ words) = if bytes_eq of (codes "of") && bytes_eq call (codes "call") then called_numbers words else None
called_words words = None

-- ---- the request: its opcode, its number, and the words behind that

abbrev pub is_capital : List ℕ → Bool
is_capital [] = false
is_capital (first ∷ rest) = nat_le 65 first && nat_le first 90

-- ` OPCODE N`
abbrev pub asked_in : (before opcode unique : List ℕ) → (words : List (List ℕ)) → Option (List ℕ × List ℕ × List (List ℕ))
asked_in [] opcode unique words = if is_capital opcode && is_number unique then Some (opcode, unique, words) else None
asked_in before opcode unique words = None

abbrev pub asked_words : (words : List (List ℕ)) → Option (List ℕ × List ℕ × List (List ℕ))
asked_words (before ∷ opcode ∷ unique ∷ words) = asked_in before opcode unique words
asked_words words = None

-- behind the first colon of a line
abbrev pub asked_parts : (parts : List (List ℕ)) → Option (List ℕ × List ℕ × List (List ℕ))
asked_parts (said ∷ request ∷ parts) = asked_words (words_of request)
asked_parts parts = None

abbrev pub asked_of : (line : List ℕ) → Option (List ℕ × List ℕ × List (List ℕ))
asked_of line = asked_parts (parts_left 58 (Some line))

-- ---- fields

abbrev pub called_fields : Option (List ℕ × List ℕ) → List ℕ
called_fields None = []
called_fields (Some called) = key_text key.Call ++ called.0 ++ (key_text key.Line ++ called.1)

abbrev pub asked_fields : Option (List ℕ × List ℕ × List (List ℕ)) → List ℕ
asked_fields None = []
asked_fields (Some asked) = key_text key.Unique ++ asked.1 ++ (string_field key.Opcode asked.0 ++ called_fields (called_words asked.2))
