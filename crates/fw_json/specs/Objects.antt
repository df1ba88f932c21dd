-- The object of a line.
use Rattle.std.specs.Prelude.{ℕ, Bool, List, [], ◌∷◌, ◌++◌, ◌||◌, ◌&&◌, Option, Some, None, bytes_eq, codes, drop, nat_eq, option_map, unwrap_or, if◌then◌else◌}
use Rattle.std.specs.List.{starts_with}
use Rattle.fuse_text.specs.Words.{parts_left, words_of}
use Rattle.fw_json.specs.Asked.{asked_fields, asked_of}
use Rattle.fw_json.specs.Events.{event_of, keys_of, list_key_of}
use Rattle.fw_json.specs.Fields.{fields, is_number, key_text, string_field}
use Rattle.fw_json.specs.declared.event.Event.{Event}
use Rattle.fw_json.specs.declared.key.Key.TheVariants as key

-- The first object says that its keys are those of schema 1.
abbrev pub head : (is_first : Bool) → (event : List ℕ) → List ℕ
head is_first event = codes "{\"event\":\"" ++ event ++ codes "\"" ++ (if is_first then codes ",\"schema\":1" else [])

abbrev pub object : (is_first : Bool) → (event fields : List ℕ) → List ℕ
object is_first event fields = head is_first event ++ fields ++ codes "}\n"

-- of a line that it has whole
abbrev pub whole_object : (is_first : Bool) → (event line : List ℕ) → List ℕ
whole_object is_first event line = object is_first event (string_field key.Text line)

-- ---- lines of an event

abbrev pub words_object : (is_first : Bool) → (word : List ℕ) → Option Event → (words : List (List ℕ)) → Option (List ℕ)
words_object is_first word None words = None
words_object is_first word (Some e) words =
    option_map (λ f. object is_first word f) (fields (keys_of e) (list_key_of e) words)

-- of a line whose words are those of an event
abbrev pub event_object : (is_first : Bool) → (words : List (List ℕ)) → Option (List ℕ)
event_object is_first [] = None
event_object is_first (word ∷ words) = words_object is_first word (event_of word) words

-- ---- faults that the judge of sessions finds

-- ` PARTY`, behind the number of the frame
abbrev pub is_party : List ℕ → Bool
is_party text = bytes_eq text (codes " kernel") || bytes_eq text (codes " server") || bytes_eq text (codes " device")
    || bytes_eq text (codes " warning")

-- the number and the party of `frame N: PARTY: ..`, from what stands before the first two colons
abbrev pub judged_in : (frame party : List ℕ) → Option (List ℕ × List ℕ)
judged_in frame party = if starts_with nat_eq frame (codes "frame ") && is_number (drop 6 frame) && is_party party
    then Some (drop 6 frame, drop 1 party) else None

abbrev pub judged_parts : (parts : List (List ℕ)) → Option (List ℕ × List ℕ)
judged_parts (frame ∷ party ∷ rule ∷ rest) = judged_in frame party
judged_parts parts = None

abbrev pub judged_of : (line : List ℕ) → Option (List ℕ × List ℕ)
judged_of line = judged_parts (parts_left 58 (Some line))

abbrev pub frame_fields : (number line : List ℕ) → List ℕ
frame_fields number line = key_text key.Frame ++ number ++ string_field key.Text line

abbrev pub blame_fields : (party number line : List ℕ) → List ℕ
blame_fields party number line = string_field key.Party party ++ frame_fields number line

-- a warning is nobody's fault
abbrev pub judged_object : (is_first : Bool) → (line number party : List ℕ) → List ℕ
judged_object is_first line number party = if bytes_eq party (codes "warning")
    then object is_first (codes "warning") (frame_fields number line)
    else object is_first (codes "fault") (blame_fields party number line)

-- ---- all other lines

-- what a server did wrong
abbrev pub is_fault : List ℕ → Bool
is_fault line = starts_with nat_eq line (codes "no reply's head") || starts_with nat_eq line (codes "reply to nothing")
    || starts_with nat_eq line (codes "second reply") || starts_with nat_eq line (codes "body is not its request's")
    || starts_with nat_eq line (codes "the root given for a name") || starts_with nat_eq line (codes "node ")
    || starts_with nat_eq line (codes "differs: ")

-- why a run ended before its script
abbrev pub is_end : List ℕ → Bool
is_end line = starts_with nat_eq line (codes "no reply") || starts_with nat_eq line (codes "server ended")
    || starts_with nat_eq line (codes "device failed")

abbrev pub kind_word : List ℕ → List ℕ
kind_word line = if is_fault line then codes "fault" else if is_end line then codes "end" else codes "line"

-- a fault or an end, with the request that it names
abbrev pub finding_object : (is_first : Bool) → (line : List ℕ) → List ℕ
finding_object is_first line =
    object is_first (kind_word line) (asked_fields (asked_of line) ++ string_field key.Text line)

abbrev pub kind_object : (is_first : Bool) → (line : List ℕ) → List ℕ
kind_object is_first line = if is_fault line || is_end line then finding_object is_first line
    else whole_object is_first (kind_word line) line

abbrev pub other_object : (is_first : Bool) → (line : List ℕ) → Option (List ℕ × List ℕ) → List ℕ
other_object is_first line None = kind_object is_first line
other_object is_first line (Some judged) = judged_object is_first line judged.0 judged.1

-- ---- lines

-- what a line of a comment says
abbrev pub uncommented : List ℕ → List ℕ
uncommented line = if starts_with nat_eq line (codes "# ") then drop 2 line else line

abbrev pub said_object : (is_first : Bool) → (line : List ℕ) → List ℕ
said_object is_first line = unwrap_or (event_object is_first (words_of line)) (other_object is_first line (judged_of line))

-- the object of a line, which has no line feed
abbrev pub json_line : (is_first : Bool) → (line : List ℕ) → List ℕ
json_line is_first line = said_object is_first (uncommented line)
