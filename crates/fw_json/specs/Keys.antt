-- The keys of objects.
use Rattle.std.specs.Prelude.{ℕ, Bool, true, false, List, codes}
use Rattle.fw_json.specs.declared.key.Key.{Key}
use Rattle.fw_json.specs.declared.key.Key.TheVariants as key

abbrev pub key_name : Key → List ℕ
key_name key.Call = codes "call"
key_name key.Clock = codes "clock"
key_name key.Code = codes "code"
key_name key.Count = codes "count"
key_name key.Effect = codes "effect"
key_name key.ErrorNumber = codes "error"
key_name key.Frame = codes "frame"
key_name key.Length = codes "len"
key_name key.Line = codes "line"
key_name key.Name = codes "name"
key_name key.Nodeid = codes "nodeid"
key_name key.Nodes = codes "nodes"
key_name key.Number = codes "number"
key_name key.Opcode = codes "opcode"
key_name key.Party = codes "party"
key_name key.Text = codes "text"
key_name key.Unique = codes "unique"
key_name key.Values = codes "values"
key_name key.WriteResult = codes "result"

-- whether the value of a key is a text; of all others it is a number
abbrev pub is_text_key : Key → Bool
is_text_key key.Effect = true
is_text_key key.Name = true
is_text_key key.Nodes = true
is_text_key key.Opcode = true
is_text_key key.Party = true
is_text_key key.Text = true
is_text_key key.Values = true
is_text_key k = false
