-- Which task the matches of a command line ask for.
use Rattle.std.specs.Prelude.{◌≡◌, ◌⊎◌, ◌||◌, ℕ, IfSome, Bool, true, false, not, List, [], Option, Some, None, Result, Ok, Err, ⊤, min, option_map, unwrap_or, if◌then◌else◌, nat_eq, codes}
use Rattle.std.specs.Option.{option_map_or}
use Rattle.std.specs.Str.{bytes_eq}
use Rattle.clap.specs.Words.{App, HasKind, Row, Text, fault_of, first_of, subcommand_of}
use Rattle.clap.specs.declared.error.Error.{Error}
use Rattle.fuse_spec.specs.declared.Minor.{Minor}
use Rattle.fuse_spec.specs.declared.Minor.TheVariants.{M15, M31}
use Rattle.fuse_sessions.specs.declared.fault.Party.TheVariants as party
use Rattle.fw_check.specs.declared.options.CheckForm.{CheckForm}
use Rattle.fw_check.specs.declared.options.CheckForm.TheVariants as check_form
use Rattle.fw_check.specs.declared.options.CheckOptions.{CheckOptions}
use Rattle.fw_drive.specs.declared.Form.{Form}
use Rattle.fw_drive.specs.declared.Form.TheVariants.{Events, Calls, CallsBeside}
use Rattle.fw_sides.specs.declared.Form.{Form as Print}
use Rattle.fw_sides.specs.declared.Form.TheVariants.{Words, Json}
use Rattle.fw_tasks.specs.Commands.{longest, longest_reply}
use Rattle.fw_tasks.specs.Values.{text_of, is_set, number_of}
use Rattle.fw_tasks.specs.declared.check_words.CheckTask.{CheckTask}
use Rattle.fw_tasks.specs.declared.command.Task.{Task}
use Rattle.fw_tasks.specs.declared.command.Task.TheVariants as task
use Rattle.fw_tasks.specs.declared.drive_words.DriveTask.{DriveTask}
use Rattle.fw_tasks.specs.declared.frame_tasks.FrameTask.{FrameTask}
use Rattle.fw_tasks.specs.declared.frame_tasks.FrameTask.TheVariants as frame
use Rattle.fw_tasks.specs.declared.serve_task.ServeTask.{ServeTask}
use Rattle.fw_tasks.specs.declared.side_words.SideTask.{SideTask}
use Rattle.fw_tasks.specs.declared.side_words.SideTask.TheVariants as side

-- the judge of a capture
pub record AsksCheck (rows : List Row) (t : CheckTask) : Type 0 where
  pub file : option_map (λ text. text.now) t.file ≡ first_of (codes "FILE") rows
  pub server : t.server ≡ is_set (codes "server") rows
  pub kernel : t.kernel ≡ is_set (codes "kernel") rows
  pub json : t.json ≡ is_set (codes "json") rows
  pub node : t.node ≡ number_of (codes "node") 0 rows
  pub summary : t.summary ≡ is_set (codes "summary") rows
  pub strict : t.strict ≡ is_set (codes "strict") rows
  pub joined : t.joined ≡ is_set (codes "joined") rows

-- the node that is asked for: 0 is none
abbrev pub node_of : ℕ → Option ℕ
node_of number = if nat_eq number 0 then None else Some number

-- the form: no life of a node is in JSON, or beside the table
abbrev pub check_form_of : (json summary : Bool) → Option ℕ → Option CheckForm
check_form_of false false asked = Some check_form.Words
check_form_of json summary (Some asked) = None
check_form_of true summary None = Some check_form.Json
check_form_of false true None = Some check_form.Words

-- what is asked of it: one party alone or all, and not two alone
abbrev pub options_in : (server kernel : Bool) → Option CheckForm → (asked : Option ℕ) → (summary strict joined : Bool)
    → Option CheckOptions
options_in true true form asked summary strict joined = None
options_in server kernel None asked summary strict joined = None
options_in true false (Some form) asked summary strict joined =
    Some (record { only = Some party.Server; form = form; node = asked; is_summary = summary; is_strict = strict; is_joined = joined })
options_in false true (Some form) asked summary strict joined =
    Some (record { only = Some party.Kernel; form = form; node = asked; is_summary = summary; is_strict = strict; is_joined = joined })
options_in false false (Some form) asked summary strict joined =
    Some (record { only = None; form = form; node = asked; is_summary = summary; is_strict = strict; is_joined = joined })

abbrev pub options_of : CheckTask → Option CheckOptions
options_of t = options_in t.server t.kernel (check_form_of t.json t.summary (node_of t.node)) (node_of t.node) t.summary t.strict
    t.joined

-- a command on frames
abbrev pub AsksFrame : Text → List Row → FrameTask → Type 0
AsksFrame name rows (frame.Frame hex words) =
    (name ≡ codes "frame") × (is_set (codes "any") rows ≡ false) × (hex.now ≡ text_of (codes "HEX") rows)
    × (words ≡ is_set (codes "words") rows)
AsksFrame name rows (frame.AnyFrame hex) =
    (name ≡ codes "frame") × (is_set (codes "any") rows ≡ true) × (hex.now ≡ text_of (codes "HEX") rows)
AsksFrame name rows (frame.Reply opcode hex) =
    (name ≡ codes "reply") × (is_set (codes "any") rows ≡ false) × (opcode.now ≡ text_of (codes "OPNAME") rows)
    × (hex.now ≡ text_of (codes "HEX") rows)
AsksFrame name rows (frame.AnyReply opcode asked hex) =
    (name ≡ codes "reply") × (is_set (codes "any") rows ≡ true) × (opcode.now ≡ text_of (codes "OPNAME") rows)
    × (asked ≡ min (number_of (codes "asked") longest_reply rows) longest_reply)
    × (hex.now ≡ text_of (codes "HEX") rows)
AsksFrame name rows (frame.Decode file) =
    (name ≡ codes "decode") × (option_map (λ text. text.now) file ≡ first_of (codes "FILE") rows)
AsksFrame name rows (frame.Check t) = (name ≡ codes "check") × AsksCheck rows t
AsksFrame name rows frame.Vectors = (name ≡ codes "vectors") × (is_set (codes "all") rows ≡ false)
AsksFrame name rows frame.AllVectors = (name ≡ codes "vectors") × (is_set (codes "all") rows ≡ true)

-- the minor that `--minor` names
abbrev pub minor_of : List Row → Minor
minor_of rows = option_map_or (λ text. if bytes_eq text (codes "15") then M15 else M31) (first_of (codes "minor") rows) M31

-- the server before a kernel
pub record AsksServe (rows : List Row) (t : ServeTask) : Type 0 where
  pub found : t.mount.validity.found_ms ≡ min (number_of (codes "found") 1000 rows) longest
  pub missing : t.mount.validity.missing_ms ≡ min (number_of (codes "missing") 0 rows) longest
  pub minor : t.mount.minor ≡ minor_of rows
  pub show : t.mount.shows_nodes ≡ is_set (codes "show") rows
  pub trace : t.is_traced ≡ is_set (codes "trace") rows
  pub check : t.is_checked ≡ is_set (codes "check") rows
  pub capture : option_map (λ text. text.now) t.capture ≡ first_of (codes "capture") rows
  pub socket : option_map (λ text. text.now) t.socket ≡ first_of (codes "SOCK") rows

-- what a script of `drive` has in its lines
abbrev pub form_of : (calls beside : Bool) → Form
form_of calls true = CallsBeside
form_of true false = Calls
form_of false false = Events

-- the kernel before a server
pub record AsksDrive (rows : List Row) (t : DriveTask) : Type 0 where
  pub file : t.file.now ≡ text_of (codes "FILE") rows
  pub socket : option_map (λ text. text.now) t.socket ≡ first_of (codes "SOCK") rows
  pub form : t.form ≡ form_of (is_set (codes "calls") rows) (is_set (codes "beside") rows)
  pub opens : t.opens_directories ≡ not (is_set (codes "no-opendir") rows)
  pub trace : t.is_traced ≡ is_set (codes "trace") rows
  pub json : t.is_json ≡ is_set (codes "json") rows
  pub check : t.is_checked ≡ is_set (codes "check") rows || is_set (codes "random") rows
  pub capture : option_map (λ text. text.now) t.capture ≡ first_of (codes "capture") rows
  pub wait : t.wait_ms ≡ number_of (codes "wait") 10000 rows
  pub offer : t.offer.now ≡ unwrap_or (first_of (codes "offer") rows) (codes "0")
  pub random : t.is_random ≡ is_set (codes "random") rows
  pub any : t.is_any ≡ is_set (codes "any") rows
  pub quick : t.is_quick ≡ is_set (codes "quick") rows
  pub seed : t.seed ≡ number_of (codes "seed") 1 rows
  pub events : t.events ≡ number_of (codes "events") 400 rows
  pub reports : t.is_report_only ≡ is_set (codes "report-only") rows
  pub orders : t.is_orders ≡ is_set (codes "orders") rows
  pub number : t.is_numbered ≡ is_set (codes "number") rows
  pub nth : t.nth ≡ number_of (codes "nth") 0 rows

-- how a side prints
abbrev pub print_of : List Row → Print
print_of rows = if is_set (codes "json") rows then Json else Words

-- one side by itself
abbrev pub AsksSide : Text → List Row → SideTask → Type 0
AsksSide name rows (side.Kernel form) = (name ≡ codes "kernel") × (form ≡ print_of rows)
AsksSide name rows (side.Server form) = (name ≡ codes "server") × (form ≡ print_of rows)

-- the name is that of a command on frames
abbrev pub is_frame_command : Text → Bool
is_frame_command name = bytes_eq name (codes "vectors") || (bytes_eq name (codes "decode") || (bytes_eq name (codes "check")
    || (bytes_eq name (codes "frame") || bytes_eq name (codes "reply"))))

-- the name is that of one side
abbrev pub is_side : Text → Bool
is_side name = bytes_eq name (codes "kernel") || bytes_eq name (codes "server")

-- the name is that of a command of the program
abbrev pub is_command : Text → Bool
is_command name = bytes_eq name (codes "run") || (bytes_eq name (codes "socket") || (bytes_eq name (codes "draw")
    || (bytes_eq name (codes "serve") || (bytes_eq name (codes "drive") || (is_side name || is_frame_command name)))))

-- a command of this name with these matches
abbrev pub AsksAt : Text → List Row → Task → Type 0
AsksAt name rows task.Input = is_command name ≡ false
AsksAt name rows (task.Run file hex) =
    (name ≡ codes "run") × (file.now ≡ text_of (codes "FILE") rows) × (hex ≡ is_set (codes "hex") rows)
AsksAt name rows (task.Socket file path) =
    (name ≡ codes "socket") × (file.now ≡ text_of (codes "FILE") rows) × (path.now ≡ text_of (codes "SOCK") rows)
AsksAt name rows (task.Draw file around) = (name ≡ codes "draw") × (file.now ≡ text_of (codes "FILE") rows)
    × (around ≡ number_of (codes "around") 0 rows)
AsksAt name rows (task.OnFrame t) = AsksFrame name rows t
AsksAt name rows (task.Serve t) = (name ≡ codes "serve") × AsksServe rows t
AsksAt name rows (task.Drive t) = (name ≡ codes "drive") × AsksDrive rows t
AsksAt name rows (task.Side t) = AsksSide name rows t

-- a command line that names a command with these matches, or none
abbrev pub AsksFor : Option (Text × List Row) → Task → Type 0
AsksFor None task.Input = ⊤
AsksFor None _ = ⊥
AsksFor (Some (name, rows)) t = AsksAt name rows t

-- a name that a parse meets: a command's, or the parser's own `help`
abbrev pub IsMet : Text → Type 0
IsMet name = (is_command name ≡ true) ⊎ (name ≡ codes "help")

-- a command line that names a command or `help`, or none
abbrev pub NamesCommand : Option (Text × List Row) → Type 0
NamesCommand asked = IfSome asked (λ p. IsMet p.0)

-- what reading the words gives: the task for which they ask, or an error of a kind that they give
abbrev pub ReadsTask : App → List Text → Result Task Error → Type 0
ReadsTask app words (Ok t) = (fault_of app words ≡ []) × AsksFor (subcommand_of app words) t × NamesCommand (subcommand_of app words)
ReadsTask app words (Err e) = HasKind (fault_of app words) e
