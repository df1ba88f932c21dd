-- The events whose lines have words of their own, each with its first word and the keys of the others.
use Rattle.std.specs.Prelude.{ℕ, List, [], ◌∷◌, Option, Some, None, bytes_eq, codes, find}
use Rattle.fw_json.specs.declared.event.Event.{Event}
use Rattle.fw_json.specs.declared.event.Event.TheVariants as event
use Rattle.fw_json.specs.declared.key.Key.{Key}
use Rattle.fw_json.specs.declared.key.Key.TheVariants as key

abbrev pub event_word : Event → List ℕ
event_word event.Aborted = codes "aborted"
event_word event.Answer = codes "answer"
event_word event.Call = codes "call"
event_word event.Dropped = codes "dropped"
event_word event.Evicted = codes "evicted"
event_word event.Interrupted = codes "interrupted"
event_word event.Kernel = codes "kernel"
event_word event.Mounted = codes "mounted"
event_word event.Notification = codes "notification"
event_word event.Now = codes "now"
event_word event.Read = codes "read"
event_word event.Refused = codes "refused"
event_word event.Written = codes "written"

-- the keys of the words behind the first, in turn
abbrev pub keys_of : Event → List Key
keys_of event.Answer = key.Call ∷ key.ErrorNumber ∷ []
keys_of event.Call = key.Call ∷ []
keys_of event.Evicted = key.Nodeid ∷ key.Count ∷ []
keys_of event.Interrupted = key.Call ∷ key.Effect ∷ []
keys_of event.Notification = key.Code ∷ key.Length ∷ []
keys_of event.Now = key.Clock ∷ []
keys_of event.Read = key.Unique ∷ key.Opcode ∷ key.Length ∷ []
keys_of event.Refused = key.Number ∷ key.Name ∷ []
keys_of event.Written = key.Unique ∷ key.WriteResult ∷ []
keys_of e = []

-- the key of all words behind those, as a list
abbrev pub list_key_of : Event → Option Key
list_key_of event.Answer = Some key.Values
list_key_of event.Kernel = Some key.Nodes
list_key_of e = None

abbrev pub all_events : List Event
all_events = event.Aborted ∷ event.Answer ∷ event.Call ∷ event.Dropped ∷ event.Evicted ∷ event.Interrupted ∷ event.Kernel
    ∷ event.Mounted ∷ event.Notification ∷ event.Now ∷ event.Read ∷ event.Refused ∷ event.Written ∷ []

-- the event whose lines begin with a word
abbrev pub event_of : (word : List ℕ) → Option Event
event_of word = find (λ e. bytes_eq (event_word e) word) all_events
