-- What ends early says on standard error, and with which exit status.
use Rattle.std.specs.Prelude.{ℕ, List, [], ◌++◌, codes, decimal}
use Rattle.fuse_text.specs.Stops.{bad_line}
use Rattle.fw_script.specs.Stops.{line_fault_words}
use Rattle.fw_orders.specs.declared.fault.LinesFault.{LinesFault}
use Rattle.fw_orders.specs.declared.fault.LinesFault.TheVariants as faults
use Rattle.fw_orders.specs.declared.stop.Stop.{Stop}
use Rattle.fw_orders.specs.declared.stop.Stop.TheVariants as stop

-- 1 where the file is at fault, 3 where memory runs out, 5 where standard output refuses
abbrev pub status_of : Stop → ℕ
status_of (stop.BadLine number fault) = 1
status_of stop.TooLong = 1
status_of (stop.NoSuchOrder orders) = 1
status_of stop.NoMemory = 3
status_of stop.OutputRefused = 5

-- a fault in words
abbrev pub fault_words : LinesFault → List ℕ
fault_words (faults.Line fault) = line_fault_words fault
fault_words faults.TooManyCalls = codes "too many calls together"
fault_words faults.SecondStep = codes "second step together"
fault_words faults.TooManyLines = codes "too many lines"

abbrev pub no_such_text : ℕ → List ℕ
no_such_text orders = codes "no such order: there are " ++ decimal orders ++ codes "\n"

-- the line on standard error, none where standard output refuses
abbrev pub stop_text : Stop → List ℕ
stop_text (stop.BadLine number fault) = bad_line number (fault_words fault) ++ codes "\n"
stop_text stop.TooLong = codes "an order has more than 256 messages\n"
stop_text (stop.NoSuchOrder orders) = no_such_text orders
stop_text stop.NoMemory = codes "no memory\n"
stop_text stop.OutputRefused = []
