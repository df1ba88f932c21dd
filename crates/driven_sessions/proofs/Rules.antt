-- A kernel that is driven keeps the rules.
use Rattle.std.proofs.Common.{◌≡◌, ◌<◌, ◌^◌, Bool, true, false, List, length}
use Rattle.std.proofs.lemmas.Bool.{false≢true}
use Rattle.fuse_device.specs.Transfers.{Transfer}
use Rattle.fk_drive.specs.Driving.{Driven, Drives, DrivesOver, first_driven}
use Rattle.fk_drive_theorem.proofs.RunsAnswer.{run_once}
use Rattle.fk_drive_theorem.proofs.RunsTake.{run_none_again, run_takes_once}
use Rattle.fk_drive_theorem.proofs.RunsTally.{run_forgets}
use Rattle.driven_sessions.specs.Driven.{IsOneMount}
use Rattle.driven_sessions.specs.Files.{KeepsDirectoriesOpen}
use Rattle.driven_sessions.specs.Rules.{KeepsRules, KeepsRulesIn}
use Rattle.driven_sessions.proofs.BeforeInit.{early_requests_never}
use Rattle.driven_sessions.proofs.Counted.{lookups_are_counted}
use Rattle.driven_sessions.proofs.CountedOnly.{lookups_are_the_same}
use Rattle.driven_sessions.proofs.Files.DirectoriesUsedRightly.{directories_used_rightly}
use Rattle.driven_sessions.proofs.Files.NamedKept.{named_are_kept}
use Rattle.driven_sessions.proofs.Files.OpenedKept.{opened_are_kept}
use Rattle.driven_sessions.proofs.Files.UsedRightly.{files_used_rightly}
use Rattle.driven_sessions.proofs.Forgotten.{empty_forgets_never}
use Rattle.driven_sessions.proofs.Large.{large_writes_never}
use Rattle.driven_sessions.proofs.LargeForgets.{large_forgets_never}
use Rattle.driven_sessions.proofs.Late.{late_inits_never}
use Rattle.driven_sessions.proofs.Low.{resends_never}
use Rattle.driven_sessions.proofs.Malformed.{shapes_never}
use Rattle.driven_sessions.proofs.Never.{used_numbers_never}
use Rattle.driven_sessions.proofs.Odd.{odd_numbers_never}
use Rattle.driven_sessions.proofs.Several.{one_thread_never}
use Rattle.driven_sessions.proofs.Served.{taken_where_served}
use Rattle.driven_sessions.proofs.Single.{interrupt_numbers_never}
use Rattle.driven_sessions.proofs.Uncounted.{uncounted_never}

asking : (asks : Bool) → asks ≡ true → (log : List Transfer) (new : Driven) (run : Drives (first_driven asks) log new)
    → length log < 2 ^ 61 → IsOneMount run → KeepsDirectoriesOpen run
asking true is = directories_used_rightly
asking false is = absurd (false≢true is)

pub keeps_in : (asks : Bool) (log : List Transfer) (new : Driven) (run : Drives (first_driven asks) log new) → KeepsRulesIn run
keeps_in asks log new run = record {
  odd_numbers = odd_numbers_never asks log new run;
  resends = resends_never asks log new run;
  one_thread = one_thread_never asks log new run;
  interrupt_numbers = interrupt_numbers_never asks log new run;
  empty_forgets = empty_forgets_never asks log new run;
  large_writes = large_writes_never asks log new run;
  used_numbers = used_numbers_never asks log new run;
  late_inits = late_inits_never asks log new run;
  shapes = shapes_never asks log new run;
  early_requests = early_requests_never asks log new run;
  large_forgets = large_forgets_never asks log new run;
  uncounted_nodes = uncounted_never asks log new run;
  lookups = lookups_are_counted asks log new run;
  same_lookups = lookups_are_the_same asks log new run;
  taken = taken_where_served asks log new run;
  open_files = files_used_rightly asks log new run;
  open_directories = λ asks_it. asking asks asks_it log new run;
  named_nodes = named_are_kept asks log new run;
  opened_nodes = opened_are_kept asks log new run;
  answered_once = λ mid rest after. run_once mid rest new after;
  none_again = λ mid rest after no_mount. run_none_again mid rest new after no_mount;
  taken_once = λ first old was number mid takes rest after no_mount.
      run_takes_once asks first old was number mid takes rest new after no_mount;
  forgotten_as_gathered = λ node low. run_forgets node low asks log new run;
}

pub keeps_rules : {D : Type 0} (logs : D → D → List Transfer → Type 0) (before after : D) (asks : Bool)
    → (new : Driven) × DrivesOver logs before after (first_driven asks) new → KeepsRules logs before after asks
keeps_rules logs before after asks (new, (log, over, run)) =
    record { new = new; log = log; over = over; run = run; rules = keeps_in asks log new run }
