-- The lines of system calls.
use Rattle.std.specs.Prelude.{ℕ, List, [], ◌∷◌, codes, decimal}
use Rattle.fk_syscalls.specs.declared.call.Call.{Call}
use Rattle.fk_syscalls.specs.declared.call.Call.TheVariants as call
use Rattle.fw_script.specs.Arguments.{Argument, number, text, bytes, IsText}
use Rattle.fuse_text.specs.HexTexts.{hex_or_none}
use Rattle.fw_script.specs.declared.call_line.CallForm.{CallForm}
use Rattle.fw_script.specs.declared.call_line.CallForm.TheVariants as form
use Rattle.fw_script.specs.declared.call_line.PathForm.{PathForm}
use Rattle.fw_script.specs.declared.call_line.PathForm.TheVariants as of_path

-- the word after `call`
abbrev pub path_name : PathForm → List ℕ
path_name of_path.Stat = codes "stat"
path_name of_path.Open = codes "open"
path_name of_path.Mkdir = codes "mkdir"
path_name of_path.Create = codes "create"
path_name of_path.Unlink = codes "unlink"
path_name of_path.Rmdir = codes "rmdir"

abbrev pub call_name : CallForm → List ℕ
call_name (form.OfPath f) = path_name f
call_name form.List = codes "list"
call_name form.ListPlus = codes "listplus"
call_name form.Rename = codes "rename"
call_name form.Link = codes "link"
call_name form.Read = codes "read"
call_name form.Write = codes "write"
call_name form.Close = codes "close"

-- what follows that word
abbrev pub arguments_of_call : CallForm → List Argument
arguments_of_call (form.OfPath f) = text ∷ []
arguments_of_call form.List = text ∷ number ∷ []
arguments_of_call form.ListPlus = text ∷ number ∷ []
arguments_of_call form.Rename = text ∷ text ∷ []
arguments_of_call form.Link = text ∷ text ∷ []
arguments_of_call form.Read = number ∷ number ∷ number ∷ []
arguments_of_call form.Write = number ∷ number ∷ bytes ∷ []
arguments_of_call form.Close = number ∷ []

-- the words after `call`, of the line that says a call
abbrev pub spelled_call : Call → List (List ℕ)
spelled_call (call.Stat path) = codes "stat" ∷ path.now ∷ []
spelled_call (call.List path after) = codes "list" ∷ path.now ∷ decimal after ∷ []
spelled_call (call.ListPlus path after) = codes "listplus" ∷ path.now ∷ decimal after ∷ []
spelled_call (call.Open path) = codes "open" ∷ path.now ∷ []
spelled_call (call.Mkdir path) = codes "mkdir" ∷ path.now ∷ []
spelled_call (call.Create path) = codes "create" ∷ path.now ∷ []
spelled_call (call.Unlink path) = codes "unlink" ∷ path.now ∷ []
spelled_call (call.Rmdir path) = codes "rmdir" ∷ path.now ∷ []
spelled_call (call.Rename old new) = codes "rename" ∷ old.now ∷ new.now ∷ []
spelled_call (call.Link old new) = codes "link" ∷ old.now ∷ new.now ∷ []
spelled_call (call.Read open_call offset size) = codes "read" ∷ decimal open_call ∷ decimal offset ∷ decimal size ∷ []
spelled_call (call.Write open_call offset content) =
    codes "write" ∷ decimal open_call ∷ decimal offset ∷ hex_or_none content.now ∷ []
spelled_call (call.Close open_call) = codes "close" ∷ decimal open_call ∷ []

-- the paths of a call are texts
abbrev pub HasTexts : Call → Type 0
HasTexts (call.Stat path) = IsText path.now
HasTexts (call.List path after) = IsText path.now
HasTexts (call.ListPlus path after) = IsText path.now
HasTexts (call.Open path) = IsText path.now
HasTexts (call.Mkdir path) = IsText path.now
HasTexts (call.Create path) = IsText path.now
HasTexts (call.Unlink path) = IsText path.now
HasTexts (call.Rmdir path) = IsText path.now
HasTexts (call.Rename old new) = IsText old.now × IsText new.now
HasTexts (call.Link old new) = IsText old.now × IsText new.now
HasTexts other = Unit {0}
