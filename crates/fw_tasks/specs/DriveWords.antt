-- Which words of `drive` go together.
use Rattle.std.specs.Prelude.{Bool, true, false, not, ◌&&◌, ◌||◌, if◌then◌else◌, is_some, nat_eq}
use Rattle.fw_drive.specs.declared.Form.{Form}
use Rattle.fw_drive.specs.declared.Form.TheVariants.{Events, Calls, CallsBeside}
use Rattle.fw_tasks.specs.declared.drive_words.DriveTask.{DriveTask}

-- the lines are events
abbrev pub is_events : Form → Bool
is_events Events = true
is_events Calls = false
is_events CallsBeside = false

-- a word says what is printed of a run
abbrev pub says : DriveTask → Bool
says t = t.is_traced || (t.is_json || (t.is_checked || is_some t.capture))

-- a word says which events are chosen, or when the tree is looked over
abbrev pub chooses : DriveTask → Bool
chooses t = t.is_any || t.is_quick

-- a word says how a server is driven
abbrev pub drives : DriveTask → Bool
drives t = is_some t.socket || (not (is_events t.form) || (not t.opens_directories || (says t || (chooses t || t.is_report_only))))

-- the orders of a file's calls are printed, and no server is driven
abbrev pub fit_orders : DriveTask → Bool
fit_orders t = not (drives t)

-- a server is driven by a script, or by events that are chosen
abbrev pub fit_run : DriveTask → Bool
fit_run t = not t.is_numbered && (nat_eq t.nth 0 && (if t.is_random then is_events t.form else not (chooses t)))

abbrev pub go_together : DriveTask → Bool
go_together t = if t.is_orders then fit_orders t else fit_run t
