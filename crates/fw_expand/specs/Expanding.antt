-- Lines of a script that stand for several, and the lines that they give.
use Rattle.std.specs.Prelude.{◌≡◌, ◌≢◌, ◌+◌, ◌-◌, ◌++◌, ◌∷◌, ◌==◌, ◌&&◌, ◌||◌, [], ℕ, Bool, true, false, List, Option, Some, None, bytes_eq, codes, decimal, get_or, length, nat_le, nat_lt, take, if◌then◌else◌}
use Rattle.std.specs.List.{list_all}
use Rattle.fuse_text.specs.Words.{words_of}
use Rattle.fw_drive.specs.declared.form.Form.{Form}
use Rattle.fw_drive.specs.declared.form.Form.TheVariants as form
use Rattle.fw_expand.specs.Walks.{Leads, Place, names_in, walked}
use Rattle.fw_expand.specs.declared.kind.Kind.{Kind}
use Rattle.fw_expand.specs.declared.kind.Kind.TheVariants as kind
use Rattle.fw_expand.specs.declared.rest.Rest.{Rest}
use Rattle.fw_expand.specs.declared.rest.Rest.TheVariants as rest

-- a script of calls alone
abbrev pub is_of_calls : Form → Bool
is_of_calls form.Events = false
is_of_calls other = true

-- ---- what a line is

abbrev pub word_at : List (List ℕ) → (place : ℕ) → List ℕ
word_at words place = get_or words place []

abbrev pub is_text_byte : ℕ → Bool
is_text_byte byte = nat_le 33 byte && nat_le byte 126

abbrev pub is_text : List ℕ → Bool
is_text word = list_all is_text_byte word

abbrev pub begins_with_slash : List ℕ → Bool
begins_with_slash [] = false
begins_with_slash (byte ∷ bytes) = byte == 47

abbrev pub is_evict : List (List ℕ) → Bool
is_evict words = length words == 2 && bytes_eq (word_at words 0) (codes "evict")

-- `evict PATH`
abbrev pub is_evict_path : List (List ℕ) → Bool
is_evict_path words = is_evict words && begins_with_slash (word_at words 1) && is_text (word_at words 1)

abbrev pub is_list : (word : List ℕ) → Bool
is_list word = bytes_eq word (codes "list") || bytes_eq word (codes "listplus")

-- `call list PATH all`, and `call listplus PATH all`
abbrev pub is_list_all : List (List ℕ) → Bool
is_list_all words =
    length words == 4 && bytes_eq (word_at words 0) (codes "call") && is_list (word_at words 1)
    && bytes_eq (word_at words 3) (codes "all")

-- what a line with these words is: directories are listed to their end in scripts of calls alone
abbrev pub kind_of : (of_calls : Bool) → List (List ℕ) → Kind
kind_of of_calls words =
    if length words == 1 && bytes_eq (word_at words 0) (codes "forget") then kind.Forget else
    if is_evict words && bytes_eq (word_at words 1) (codes "all") then kind.EvictAll else
    if is_evict_path words then kind.EvictPath else
    if of_calls && is_list_all words then kind.ListAll else kind.Ordinary

-- ---- the lines that are given

abbrev pub drop_line : (directory : ℕ) → (name : List ℕ) → List ℕ
drop_line directory name = codes "drop " ++ decimal directory ++ 32 ∷ name

abbrev pub evict_line : (node : ℕ) → List ℕ
evict_line node = codes "evict " ++ decimal node

-- a listing's line without its last word, `all`
abbrev pub list_line : (raw : List ℕ) → List ℕ
list_line raw = take (length raw - 3) raw

-- `evict PATH`: the last name is dropped and its node evicted, or else node 0, which no kernel has
abbrev pub evicted : Option Place → List ℕ × Rest
evicted None = (evict_line 0, rest.Line)
evicted (Some place) = (drop_line place.0 place.1, rest.Pair place.2)

-- what a line gives, from its first line on: a text that these have, and which lines are to come. In scripts of calls
-- forgets are sent without it.
abbrev pub begun_as : Kind → Leads → (of_calls : Bool) → (raw : List ℕ) → List ℕ × Rest
begun_as kind.Ordinary leads of_calls raw = (raw, rest.Line)
begun_as kind.Forget leads of_calls raw = ([], if of_calls then rest.Nothing else rest.Forgets)
begun_as kind.EvictAll leads of_calls raw = ([], rest.Names)
begun_as kind.EvictPath leads of_calls raw = evicted (walked leads (names_in (word_at (words_of raw) 1)))
begun_as kind.ListAll leads of_calls raw = (list_line raw, rest.Listing 0)

abbrev pub begun : Leads → (of_calls : Bool) → (raw : List ℕ) → List ℕ × Rest
begun leads of_calls raw = begun_as (kind_of of_calls (words_of raw)) leads of_calls raw

-- a cached name that a line can say, by its directory and itself
abbrev pub sayable : Option (ℕ × List ℕ) → Option (ℕ × List ℕ)
sayable None = None
sayable (Some name) = if is_text name.1 && nat_lt 0 (length name.1) then Some name else None

-- This node is evicted, and then others.
abbrev pub Evicts : (evictable : Option ℕ) → (line : List ℕ) → Rest → Type 0
Evicts None line next = ⊥
Evicts (Some node) line next = (line ≡ evict_line node) × (next ≡ rest.Nodes)

-- This name is dropped, and then others, or else a node is evicted.
abbrev pub Drops : (droppable : Option (ℕ × List ℕ)) → (evictable : Option ℕ) → (line : List ℕ) → Rest → Type 0
Drops None evictable line next = Evicts evictable line next
Drops (Some name) evictable line next = (line ≡ drop_line name.0 name.1) × (next ≡ rest.Names)

-- what a kernel has as a line is asked for: whether a forget may be read, a cached name that may be dropped and that a
-- line can say, and a node that may be evicted
abbrev pub Now : Type 0
Now = Bool × Option (ℕ × List ℕ) × Option ℕ

-- The next line of those to come, and what is to come behind it.
abbrev pub Gives : Now → (text : List ℕ) → Rest → (line : List ℕ) → Rest → Type 0
Gives now text rest.Nothing line next = ⊥
Gives now text rest.Line line next = (line ≡ text) × (next ≡ rest.Nothing)
Gives now text (rest.Pair node) line next = (line ≡ text) × (next ≡ rest.Node node)
Gives now text (rest.Node node) line next = (line ≡ evict_line node) × (next ≡ rest.Nothing)
Gives now text rest.Forgets line next = (now.0 ≡ true) × (line ≡ codes "read f 1") × (next ≡ rest.Forgets)
Gives now text rest.Names line next = Drops now.1 now.2 line next
Gives now text rest.Nodes line next = Evicts now.2 line next
Gives now text (rest.Listing calls) line next = (offset : ℕ) × (calls ≡ 0 → offset ≡ 0)
    × (line ≡ text ++ decimal offset) × (next ≡ rest.Listing (calls + 1))

-- No line is to come.
abbrev pub IsOver : Now → Rest → Type 0
IsOver now rest.Nothing = Unit {0}
IsOver now rest.Forgets = now.0 ≡ false
IsOver now rest.Names = (now.1 ≡ None) × (now.2 ≡ None)
IsOver now rest.Nodes = now.2 ≡ None
IsOver now (rest.Listing calls) = calls ≢ 0
IsOver now other = ⊥

-- From what was to come the given lines stand for the raw ones: each raw line gives its lines, by the names that are
-- cached as it begins, before the next raw line does.
pub data Expanded (of_calls : Bool) (text : List ℕ) (rest : Rest) : (raw given : List (List ℕ)) → List ℕ → Rest
    → Type 0 where
  no_line : Expanded of_calls text rest [] [] text rest
  begins : (raw given : List (List ℕ)) (had : List ℕ) (left : Rest) → Expanded of_calls text rest raw given had left
      → (is_forgetting : Bool) (name : Option (ℕ × List ℕ)) (node : Option ℕ)
      → IsOver (is_forgetting, sayable name, node) left → (leads : Leads) (line has : List ℕ) (next : Rest)
      → (has, next) ≡ begun leads of_calls line
      → Expanded of_calls text rest (raw ++ line ∷ []) given has next
  gives : (raw given : List (List ℕ)) (had : List ℕ) (left : Rest) → Expanded of_calls text rest raw given had left
      → (is_forgetting : Bool) (name : Option (ℕ × List ℕ)) (node : Option ℕ) (line : List ℕ) (next : Rest)
      → Gives (is_forgetting, sayable name, node) had left line next
      → Expanded of_calls text rest raw (given ++ line ∷ []) had next
