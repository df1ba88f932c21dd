-- What ends a command early: exit statuses.
use Rattle.std.specs.Prelude.{ℕ}
use Rattle.fw_frames.specs.declared.stop.Stop.{Stop}
use Rattle.fw_frames.specs.declared.stop.Stop.TheVariants as stop

-- 1 where the text is no hex, 2 where no opcode has the name, 3 where memory runs out, 5 where standard output
-- refuses
abbrev pub frame_status_of : Stop → ℕ
frame_status_of stop.BadHex = 1
frame_status_of (stop.UnknownOpcode name) = 2
frame_status_of stop.NoMemory = 3
frame_status_of stop.OutputRefused = 5
