use Rattle.std.proofs.Common.{◌≡◌}
use Rattle.std.specs.Prelude.{fold}
use Rattle.fk_syscalls.specs.Listings.{names_left_in}
use Rattle.fw_drive.specs.Views.{last_offset, offset_behind}
use Rattle.fw_drive.proofs.driver.last_offset.Given as goal

-- what was seen, and what is left to see
abbrev pub invariant-loop-listed : goal.invariant-loop-listed
invariant-loop-listed g l = fold offset_behind l.offset (names_left_in l.listed-iterator) ≡ last_offset l.names
