-- The life of one node: a line for each act that gives it, names it or forgets it.
use Rattle.std.specs.Prelude.{ℕ, ◌+◌, ◌-◌, List, [], ◌∷◌, ◌++◌, Option, Some, None, if◌then◌else◌, length, nat_eq, nat_lt, codes, decimal}
use Rattle.fuse_protocol.specs.declared.opcode.Opcode.{Opcode}
use Rattle.fuse_protocol.specs.Table.{name_of}
use Rattle.fuse_sessions.specs.declared.act.Act.{Act}
use Rattle.fuse_sessions.specs.declared.act.Act.TheVariants as act
use Rattle.fuse_sessions.specs.declared.act.Asked.{Asked}
use Rattle.fuse_sessions.specs.declared.transfer.Transfer.{Transfer}
use Rattle.fuse_sessions.specs.declared.transfer.Transfer.TheVariants as transfer
use Rattle.fuse_sessions.specs.Counts.{most_count}
use Rattle.fuse_sessions.specs.Frames.{number_in}
use Rattle.fuse_sessions.specs.Sessions.{Session}
use Rattle.fuse_sessions.specs.Waiting.{waits}
use Rattle.fw_check.specs.declared.life.Deed.{Deed}
use Rattle.fw_check.specs.declared.life.Deed.TheVariants as deed
use Rattle.fw_check.specs.declared.life.Doer.{Doer}
use Rattle.fw_check.specs.declared.life.Doer.TheVariants as doer
use Rattle.fw_check.specs.FaultWords.{said}
use Rattle.fw_check.specs.Tallies.{counted}

-- whose the acts of a request are, from its number on
abbrev pub doer_after : Doer → Act → Doer
doer_after d (act.Read opcode unique) = doer.Request opcode unique
doer_after d a = d

abbrev pub opcode_asked : Option Asked → Option Opcode
opcode_asked None = None
opcode_asked (Some asked) = asked.opcode

-- Whose the acts of a transfer are that follows a session: what a reply does is named by the request that waits for it.
abbrev pub doer_of : Session → Transfer → Doer
doer_of s (transfer.Written bytes t) = if nat_lt (length bytes.now) 16 then doer.Unknown
    else doer.Request (opcode_asked (waits s (number_in bytes.now))) (number_in bytes.now)
doer_of s t = doer.Unknown

-- the same, if the life of a node is asked for
abbrev pub doer_for : Option ℕ → Session → Transfer → Doer
doer_for None s t = doer.Unknown
doer_for (Some node) s t = doer_of s t

abbrev pub of_node : (node other : ℕ) → Deed → Deed
of_node node other d = if nat_eq node other then d else deed.Nothing

-- what an act does to the node
abbrev pub deed_of : (node : ℕ) → Act → Deed
deed_of node (act.Gives other file is_certain) = of_node node other deed.Gives
deed_of node (act.Names other) = of_node node other deed.Names
deed_of node (act.Forgets other lookups) = of_node node other (deed.Forgets lookups)
deed_of node a = deed.Nothing

-- how often it is counted then
abbrev pub count_after : ℕ → Deed → ℕ
count_after count deed.Gives = count + 1
count_after count (deed.Forgets lookups) = count - lookups
count_after count d = count

-- ---- words

abbrev pub doer_words : Doer → List ℕ
doer_words doer.Unknown = codes "a frame"
doer_words (doer.Request None unique) = counted (codes "request") unique
doer_words (doer.Request (Some opcode) unique) = counted (name_of opcode) unique

abbrev pub node_words : (word : List ℕ) → (node : ℕ) → List ℕ
node_words word node = word ++ decimal node ++ codes ":"

abbrev pub deed_words : (node : ℕ) → Deed → List ℕ
deed_words node deed.Nothing = []
deed_words node deed.Gives = node_words (codes " gives node ") node
deed_words node deed.Names = node_words (codes " names node ") node
deed_words node (deed.Forgets lookups) = node_words (codes " forgets node ") node ++ said (codes "lookups") lookups

abbrev pub life_line : (number : ℕ) → Doer → (node count : ℕ) → Deed → List ℕ
life_line number who node count d = codes "line " ++ decimal number ++ codes ": " ++ doer_words who ++ deed_words node d
    ++ said (codes "count") count ++ codes "\n"

abbrev pub life_text : (number : ℕ) → Doer → (node count : ℕ) → Deed → List ℕ
life_text number who node count deed.Nothing = []
life_text number who node count d = life_line number who node count d

-- The lines of a transfer's acts after a session: each says how often the node is counted at most, once it was done.
abbrev pub life_lines : (number node : ℕ) → Doer → Session → List Act → List ℕ
life_lines number node who s [] = []
life_lines number node who s (a ∷ acts) =
    life_text number (doer_after who a) node (most_count (s ++ a ∷ []) node) (deed_of node a)
    ++ life_lines number node (doer_after who a) (s ++ a ∷ []) acts
