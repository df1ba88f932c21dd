-- The lines that a kernel by itself is given, by their words.
use Rattle.std.specs.Prelude.{◌≡◌, ℕ, List, [], ◌∷◌, ◌++◌, codes, decimal}
use Rattle.fw_script.specs.Arguments.{signal_word}
use Rattle.fw_script.specs.CallLines.{spelled_call}
use Rattle.fuse_text.specs.HexTexts.{IsHexOrNone, hex_or_none}
use Rattle.fw_script.specs.Lines.{spelled_pick}
use Rattle.fuse_text.specs.Words.{words_of}
use Rattle.fk_kernel.specs.declared.step.KernelEvent.{KernelEvent}
use Rattle.fk_kernel.specs.declared.step.KernelEvent.TheVariants as event
use Rattle.fw_sides.specs.declared.kernel_line.KernelLine.{KernelLine}
use Rattle.fw_sides.specs.declared.kernel_line.KernelLine.TheVariants as line

-- A text says this event to the kernel. Paths, names and hex stand in it.
abbrev pub SaysEvent : List ℕ → KernelEvent → Type 0
SaysEvent text event.Mount = text ≡ codes "mount"
SaysEvent text (event.Call c) = words_of text ≡ codes "call" ∷ spelled_call c
SaysEvent text (event.Read p) = words_of text ≡ codes "read" ∷ spelled_pick p
SaysEvent text (event.Write bytes) = text ≡ codes "write " ++ hex_or_none bytes.now
SaysEvent text (event.Interrupt c fatal) = words_of text ≡ codes "intr" ∷ decimal c ∷ signal_word fatal ∷ []
SaysEvent text (event.Tick ms) = words_of text ≡ codes "tick" ∷ decimal ms ∷ []
SaysEvent text (event.DropName directory name) =
    words_of text ≡ codes "drop" ∷ decimal directory ∷ name.now ∷ []
SaysEvent text (event.Evict node) = words_of text ≡ codes "evict" ∷ decimal node ∷ []
SaysEvent text event.Abort = words_of text ≡ codes "abort" ∷ []

-- A text says this line to the kernel. What is in hex is hex.
abbrev pub SaysLine : List ℕ → KernelLine → Type 0
SaysLine text (line.Event e) = SaysEvent text e
SaysLine text (line.CallWrite open_call offset hex) =
    (words_of text ≡ codes "call" ∷ codes "write" ∷ decimal open_call ∷ decimal offset ∷ hex.now ∷ [])
    × IsHexOrNone hex.now
SaysLine text (line.Write hex) = (text ≡ codes "write " ++ hex.now) × IsHexOrNone hex.now
SaysLine text line.Show = words_of text ≡ codes "show" ∷ []
