-- Keys with their values.
use Rattle.std.specs.Prelude.{ℕ, Bool, List, [], ◌∷◌, ◌++◌, ◌==◌, ◌&&◌, ◌||◌, Option, Some, None, not, length, nat_le, nat_lt, slice_index, codes, flat_map, if◌then◌else◌}
use Rattle.std.specs.List.{list_all}
use Rattle.std.specs.Fmt.{option_append}
use Rattle.fw_json.specs.Keys.{is_text_key, key_name}
use Rattle.fw_json.specs.Strings.{string}
use Rattle.fw_json.specs.declared.key.Key.{Key}

abbrev pub is_digit : ℕ → Bool
is_digit byte = nat_le 48 byte && nat_le byte 57

-- a word that is a number: digits, with no zero before others
abbrev pub is_number : List ℕ → Bool
is_number word =
    nat_lt 0 (length word) && list_all is_digit word && (length word == 1 || not (slice_index word 0 == 48))

-- a key behind another
abbrev pub key_text : Key → List ℕ
key_text key = codes ",\"" ++ key_name key ++ codes "\":"

abbrev pub string_field : Key → List ℕ → List ℕ
string_field key text = key_text key ++ string text

-- the field of a word, if the word can be the value of the key
abbrev pub field : Key → (word : List ℕ) → Option (List ℕ)
field key word = if is_text_key key then Some (string_field key word) else
    if is_number word then Some (key_text key ++ word) else None

-- words in a list
abbrev pub more_listed : (words : List (List ℕ)) → List ℕ
more_listed words = flat_map (λ word. codes "," ++ string word) words

abbrev pub listed : (words : List (List ℕ)) → List ℕ
listed [] = []
listed (word ∷ words) = string word ++ more_listed words

abbrev pub list_field : Key → (words : List (List ℕ)) → List ℕ
list_field key words = key_text key ++ codes "[" ++ listed words ++ codes "]"

-- what is behind the words of the keys: nothing, or what goes into a list
abbrev pub last_fields : Option Key → (words : List (List ℕ)) → Option (List ℕ)
last_fields None [] = Some []
last_fields None (word ∷ words) = None
last_fields (Some key) words = Some (list_field key words)

-- the fields of words, if there is a key for each word, and a word for each key
abbrev pub fields : List Key → (list_key : Option Key) → (words : List (List ℕ)) → Option (List ℕ)
fields [] list_key words = last_fields list_key words
fields (key ∷ keys) list_key [] = None
fields (key ∷ keys) list_key (word ∷ words) = option_append (field key word) (fields keys list_key words)
