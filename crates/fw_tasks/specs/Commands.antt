-- The program's commands, each as the parser of command lines reads it.
use Rattle.std.specs.Prelude.{◌≡◌, ℕ, true, false, List, [], ◌∷◌, map, codes}
use Rattle.std.specs.Borrow.{Bor}
use Rattle.clap.specs.Words.{App, Text, app_of, new_app, new_rule, with_rule, with_subcommand}
use Rattle.clap.specs.Simple.{on_top}
use Rattle.clap.specs.declared.builder.command.Command.{Command}
use Rattle.clap.specs.declared.builder.command.Command.TheViews.{out-Command as fields_of}
use Rattle.fw_tasks.specs.Arguments.{choice, flag, needed, number, option, option_or_none}

-- the longest time that an option takes, a day in milliseconds
abbrev pub longest : ℕ
longest = 86400000

abbrev pub run_app : App
run_app = with_rule (with_rule (new_app (codes "run")) (flag (codes "hex"))) (needed (codes "FILE"))

abbrev pub socket_app : App
socket_app = with_rule (with_rule (new_app (codes "socket")) (needed (codes "FILE"))) (needed (codes "SOCK"))

-- the last number of a line that 64 bits have
abbrev pub last_line : ℕ
last_line = 18446744073709551615

abbrev pub draw_app : App
draw_app = with_rule (with_rule (new_app (codes "draw")) (number (codes "around") 0 last_line (codes "0"))) (needed (codes "FILE"))

-- the most bytes that a reply may have behind its header
abbrev pub longest_reply : ℕ
longest_reply = 16777200

abbrev pub frame_app : App
frame_app = with_rule (with_rule (with_rule (new_app (codes "frame")) (flag (codes "words"))) (flag (codes "any")))
    (needed (codes "HEX"))

abbrev pub reply_app : App
reply_app = with_rule (with_rule (with_rule (with_rule (new_app (codes "reply")) (flag (codes "any")))
    (number (codes "asked") 0 longest_reply (codes "16777200"))) (needed (codes "OPNAME"))) (needed (codes "HEX"))

abbrev pub decode_app : App
decode_app = with_rule (new_app (codes "decode")) (new_rule (codes "FILE"))

-- the last nodeid that 64 bits have
abbrev pub last_node : ℕ
last_node = 18446744073709551615

abbrev pub check_app : App
check_app = with_rule (with_rule (with_rule (with_rule (with_rule (with_rule (with_rule (with_rule (new_app (codes "check"))
    (flag (codes "server"))) (flag (codes "kernel"))) (flag (codes "json")))
    (number (codes "node") 0 last_node (codes "0"))) (flag (codes "summary"))) (flag (codes "strict"))) (flag (codes "joined")))
    (new_rule (codes "FILE"))

abbrev pub vectors_app : App
vectors_app = with_rule (new_app (codes "vectors")) (flag (codes "all"))

-- the minors are the words between which `--minor` chooses
abbrev pub serve_app : Bor (List (Bor Text)) → App
serve_app minors = with_rule (with_rule (with_rule (with_rule (with_rule (with_rule (with_rule (with_rule (new_app (codes "serve"))
    (number (codes "found") 0 longest (codes "1000")))
    (number (codes "missing") 0 longest (codes "0")))
    (choice (codes "minor") minors (codes "31")))
    (flag (codes "show")))
    (flag (codes "trace")))
    (flag (codes "check")))
    (option_or_none (codes "capture")))
    (new_rule (codes "SOCK"))

abbrev pub drive_app : App
drive_app = with_rule (with_rule (with_rule (with_rule (with_rule (with_rule (with_rule (with_rule (with_rule (with_rule (with_rule
    (with_rule (with_rule (with_rule (with_rule (with_rule (with_rule (with_rule (with_rule (with_rule (new_app (codes "drive"))
    (flag (codes "calls")))
    (flag (codes "beside")))
    (flag (codes "no-opendir")))
    (flag (codes "trace")))
    (flag (codes "json")))
    (number (codes "wait") 1 longest (codes "10000")))
    (option (codes "offer") (codes "0")))
    (flag (codes "check")))
    (flag (codes "report-only")))
    (option_or_none (codes "capture")))
    (flag (codes "random")))
    (flag (codes "any")))
    (flag (codes "quick")))
    (number (codes "seed") 0 last_node (codes "1")))
    (number (codes "events") 0 last_node (codes "400")))
    (flag (codes "orders")))
    (flag (codes "number")))
    (number (codes "nth") 0 last_node (codes "0")))
    (needed (codes "FILE")))
    (new_rule (codes "SOCK"))

-- one side by itself
abbrev pub side_app : Text → App
side_app name = with_rule (new_app name) (flag (codes "json"))

-- the program without its commands
abbrev pub program_start : App
program_start = on_top (λ s. record s { has_version = true }) (new_app (codes "fuseworld"))

-- the program with its commands
abbrev pub program_app : Bor (List (Bor Text)) → App
program_app minors =
    with_subcommand (with_subcommand (with_subcommand (with_subcommand (with_subcommand (with_subcommand (with_subcommand
    (with_subcommand (with_subcommand (with_subcommand (with_subcommand (with_subcommand program_start
    run_app.top) socket_app.top) draw_app.top) frame_app.top) reply_app.top) decode_app.top) check_app.top) vectors_app.top)
    (serve_app minors).top) drive_app.top) (side_app (codes "kernel")).top) (side_app (codes "server")).top

-- the words are the minors that are served
abbrev pub AreMinors : Bor (List (Bor Text)) → Type 0
AreMinors minors = map (λ s. s.now) minors.now ≡ codes "15" ∷ codes "31" ∷ []

-- the command is read so, and has no argument for others
abbrev pub IsCommand : App → Command → Type 0
IsCommand a c = (app_of c ≡ a) × ((fields_of c).has_globals ≡ false)

-- the command is this program, at the minors that it serves
abbrev pub IsProgram : Command → Type 0
IsProgram c = (minors : _) × AreMinors minors × IsCommand (program_app minors) c
