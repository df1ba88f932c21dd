-- What is wrong with a line of a capture, in words.
use Rattle.std.specs.Prelude.{ℕ, List, codes}
use Rattle.fuse_capture.specs.declared.line.CaptureFault.{CaptureFault}
use Rattle.fuse_capture.specs.declared.line.CaptureFault.TheVariants as fault

abbrev pub capture_fault_words : CaptureFault → List ℕ
capture_fault_words fault.UnknownDirection = codes "unknown direction"
capture_fault_words fault.WrongWords = codes "wrong words"
capture_fault_words fault.BadHex = codes "bad hex"
