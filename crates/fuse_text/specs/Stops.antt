-- Why a command that reads lines stops before their end: its line on standard error, and its exit status.
use Rattle.std.specs.Prelude.{ℕ, List, ◌++◌, codes, decimal}
use Rattle.fuse_text.specs.declared.lines.LineError.{LineError}
use Rattle.fuse_text.specs.declared.lines.LineError.TheVariants as line_error
use Rattle.fuse_text.specs.declared.stop.Stop.{Stop}
use Rattle.fuse_text.specs.declared.stop.Stop.TheVariants as stop

-- 1 where the input cannot be read or a line has a fault, 3 where memory runs out, 5 where standard output refuses
abbrev pub status_of : {F : Type 0} → Stop F → ℕ
status_of stop.CannotRead = 1
status_of (stop.BadLine number fault) = 1
status_of stop.NoMemory = 3
status_of stop.OutputRefused = 5

-- that there is no next line
abbrev pub stopped_by : {F : Type 0} → LineError → Stop F
stopped_by line_error.CannotRead = stop.CannotRead
stopped_by line_error.NoMemory = stop.NoMemory

-- the lines, without their line feeds
abbrev pub unreadable : (name : List ℕ) → List ℕ
unreadable name = codes "cannot read " ++ name

abbrev pub line_head : (number : ℕ) → List ℕ
line_head number = codes "line " ++ decimal number ++ codes ": "

abbrev pub bad_line : (number : ℕ) → (words : List ℕ) → List ℕ
bad_line number words = line_head number ++ words

abbrev pub stop_line : {F : Type 0} → (words : F → List ℕ) → (name : List ℕ) → Stop F → List ℕ
stop_line words name stop.CannotRead = unreadable name
stop_line words name (stop.BadLine number fault) = bad_line number (words fault)
stop_line words name stop.NoMemory = codes "no memory"
stop_line words name stop.OutputRefused = codes "output refused"
