-- The rules that a kernel keeps as it is driven over a device.
use Rattle.std.specs.Prelude.{◌≡◌, ◌<◌, ◌≤◌, ◌^◌, ℕ, Bool, List, length, true}
use Rattle.fuse_device.specs.Transfers.{Transfer}
use Rattle.fk_drive.specs.Driving.{Driven, Drives, first_driven}
use Rattle.fk_drive_theorem.specs.AnsweredOnce.{AnsweredOnce}
use Rattle.fk_drive_theorem.specs.TakenOnce.{NoneAgain, TakesNone, TakesReplyTo, mounts_in}
use Rattle.fk_drive_theorem.specs.Tallies.{ForgottenAsGathered, tally_of}
use Rattle.driven_sessions.specs.Counted.{CountsLookups, CountsSame, IsPlainRun}
use Rattle.driven_sessions.specs.Driven.{IsFreeOf, IsFreeWhereCarried, IsFreeWhereTaken, IsFreeWhereTakenAndCarried, IsOneMount, IsTakenWhereServed}
use Rattle.driven_sessions.specs.Files.{KeepsDirectoriesOpen, KeepsFilesOpen}
use Rattle.driven_sessions.specs.Forgets.{AreAllSent, KeepsNamed, KeepsOpened}
use Rattle.driven_sessions.specs.Groups.{is_of_early_requests, is_of_empty_forgets, is_of_interrupt_numbers, is_of_large_forgets, is_of_large_writes, is_of_late_inits, is_of_odd_numbers, is_of_one_thread, is_of_resends, is_of_shapes, is_of_uncounted_nodes, is_of_used_numbers}

-- No session of what goes over the device in this run shows a fault of these groups, and the laws of driven runs hold of it.
pub record KeepsRulesIn {asks : Bool} {log : List Transfer} {new : Driven} (run : Drives (first_driven asks) log new)
    : Type 0 where
  pub odd_numbers : IsFreeOf is_of_odd_numbers log
  pub resends : IsFreeOf is_of_resends log
  pub one_thread : IsFreeOf is_of_one_thread log
  pub interrupt_numbers : IsFreeOf is_of_interrupt_numbers log
  pub empty_forgets : IsFreeOf is_of_empty_forgets log
  pub large_writes : IsFreeOf is_of_large_writes log
  -- where the kernel mounts once
  pub used_numbers : IsOneMount run → IsFreeOf is_of_used_numbers log
  pub late_inits : IsOneMount run → IsFreeOf is_of_late_inits log
  -- where what was agreed on carries the codec's frames
  pub shapes : IsFreeWhereCarried is_of_shapes log
  -- where each frame that the kernel accepted was taken so, while its request waited
  pub early_requests : IsFreeWhereTaken is_of_early_requests run
  -- where that is so, each agreement carries the codec's frames, and the kernel mounts once
  pub large_forgets : IsOneMount run → IsFreeWhereTakenAndCarried is_of_large_forgets run
  pub uncounted_nodes : IsOneMount run → IsFreeWhereTakenAndCarried is_of_uncounted_nodes run
  pub lookups : IsOneMount run → CountsLookups run
  -- where moreover all that goes over the device is the kernel's, and the session has as refused what the kernel refused
  pub same_lookups : IsOneMount run → IsPlainRun run → CountsSame run
  -- Where each reply is accepted, and the server has no fault, each was taken so;
  pub taken : IsTakenWhereServed run
  -- and where each agreement carries the codec's frames, each entry counts for certain, and the kernel mounts once, no use or
  -- release of an open file has a fault;
  pub open_files : IsOneMount run → KeepsFilesOpen run
  -- nor of a directory, where OPENDIR is asked and known, and numbers are left for it.
  pub open_directories : asks ≡ true → length log < 2 ^ 61 → IsOneMount run → KeepsDirectoriesOpen run
  -- As the last lookups of a node are forgotten no request that waits names it, where entries may count or not.
  pub named_nodes : IsOneMount run → KeepsNamed run
  -- Nor is a directory of it open then, where also each frame was sent, and numbers are left for OPENDIR and RELEASEDIR.
  pub opened_nodes : length log < 2 ^ 61 → AreAllSent log → IsOneMount run → KeepsOpened run
  -- A call that was over in any run to this end is over, and has no other answer.
  pub answered_once : (mid : Driven) (rest : List Transfer) → Drives mid rest new → AnsweredOnce mid.kernel.vfs new.kernel.vfs
  -- Without a mount since, a number under which no request waited has none, and no reply to one that was answered is taken.
  pub none_again : (mid : Driven) (rest : List Transfer) (after : Drives mid rest new) → mounts_in after ≡ 0
      → NoneAgain mid.kernel new.kernel
  pub taken_once : (first : List Transfer) (old : Driven) → Drives (first_driven asks) first old → (number : ℕ) (mid : Driven)
      → TakesReplyTo number old.kernel mid.kernel → (rest : List Transfer) (after : Drives mid rest new)
      → mounts_in after ≡ 0 → TakesNone number new.kernel
  -- A node other than the root is forgotten with exactly the count that was gathered.
  pub forgotten_as_gathered : (node : ℕ) → 2 ≤ node → ForgottenAsGathered node new.kernel (tally_of node run)

-- From the one state of a device to the other a run drove a kernel over it, which keeps the rules in it.
pub record KeepsRules {D : Type 0} (logs : D → D → List Transfer → Type 0) (before after : D) (asks : Bool) : Type 0 where
  pub new : Driven
  pub log : List Transfer
  pub over : logs before after log
  pub run : Drives (first_driven asks) log new
  pub rules : KeepsRulesIn run
