-- The name acts of a reply, by what waits under its number.
use Rattle.std.specs.Prelude.{ℕ, ◌==◌, ◌&&◌, ◌||◌, not, Bool, false, List, [], ◌∷◌, ◌++◌, drop, length, Option, Some, None, nat_eq, nat_le, if◌then◌else◌}
use Rattle.std.specs.List.{flat_map}
use Rattle.fk_fields.specs.Fields.{number_at}
use Rattle.fuse_replies.specs.Record.{EntryRecordContent}
use Rattle.fuse_replies.specs.Records.{entry_records_from}
use Rattle.fuse_sessions.specs.declared.act.Taken.{Taken}
use Rattle.fuse_sessions.specs.declared.act.Taken.TheVariants as taken
use Rattle.fuse_sessions.specs.Frames.{number_in, error_in}
use Rattle.fuse_sessions.specs.Waiting.{reaches}
use Rattle.name_sessions.specs.Names.{Name}
use Rattle.name_sessions.specs.NameActs.{NameAct, NamesAsked, Ends, Gives, Loses}

-- The device accepts a reply without an error.
abbrev pub is_done : List ℕ → Taken → Bool
is_done bytes taken.Accepted = error_in bytes == 0
is_done bytes t = false

-- The reply is a negative entry, one of node 0: the name is missing. (linux/fuse.h, `fuse_entry_out`)
abbrev pub is_negative_entry : List ℕ → Bool
is_negative_entry bytes = nat_le 24 (length bytes) && number_at 16 8 bytes == 0

abbrev pub losing : Option Name → List NameAct
losing None = []
losing (Some name) = Loses name ∷ []

abbrev pub giving : Option Name → List NameAct
giving None = []
giving (Some name) = Gives name ∷ []

-- A record of READDIRPLUS gives its name a file, but one of node 0. (linux/fs/fuse/readdir.c, `fuse_direntplus_link`)
abbrev pub record_acts : (parent : ℕ) → EntryRecordContent → List NameAct
record_acts parent r = if nat_eq r.entry.nodeid 0 then [] else Gives (parent, r.said.name) ∷ []

-- Linux takes the records of a listing one after another, those before a bad one too.
abbrev pub listed_acts : Option ℕ → List ℕ → List NameAct
listed_acts None bytes = []
listed_acts (Some parent) bytes = flat_map (record_acts parent) (entry_records_from 0 (drop 16 bytes))

abbrev pub changed_acts : (removed made : Option Name) → List ℕ → List NameAct
changed_acts removed made bytes = if is_negative_entry bytes then [] else losing removed ++ giving made

-- what a request that is done did
abbrev pub done_acts : NamesAsked → List ℕ → List NameAct
done_acts asked bytes = changed_acts asked.removed asked.made bytes ++ listed_acts asked.listed bytes

-- It says something where the device accepts it and it has no error.
abbrev pub said_acts : Option NamesAsked → List ℕ → Taken → List NameAct
said_acts None bytes t = []
said_acts (Some asked) bytes t = if is_done bytes t then done_acts asked bytes else []

-- The name acts of what the server writes under a good header, by what waits: it ends that. A notification, of number 0,
-- and what the device finds no request for end nothing.
abbrev pub written_acts : Option NamesAsked → List ℕ → Taken → List NameAct
written_acts asked bytes t = if number_in bytes == 0 || not (reaches t) then []
    else Ends (number_in bytes) ∷ said_acts asked bytes t
