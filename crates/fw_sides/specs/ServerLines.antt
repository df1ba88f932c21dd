-- The lines that a server by itself is given, by their words.
use Rattle.std.specs.Prelude.{◌≡◌, ℕ, List, [], ◌∷◌, ◌++◌, codes, decimal}
use Rattle.fuse_spec.specs.declared.WriteResult.{WriteResult}
use Rattle.fuse_spec.specs.declared.WriteResult.TheVariants.{Accepted, NoEntry, Invalid}
use Rattle.fuse_text.specs.HexTexts.{IsHexOrNone, hex_or_none}
use Rattle.fw_script.specs.Lines.{EndsAt}
use Rattle.fuse_text.specs.Words.{words_of}
use Rattle.fs_server.specs.declared.step.ServerEvent.{ServerEvent}
use Rattle.fs_server.specs.declared.step.ServerEvent.TheVariants as event
use Rattle.fw_sides.specs.declared.server_line.ServerLine.{ServerLine}
use Rattle.fw_sides.specs.declared.server_line.ServerLine.TheVariants as line

-- the number that is said of what a writer got: 0, ENOENT or EINVAL
abbrev pub settled_number : WriteResult → ℕ
settled_number Accepted = 0
settled_number NoEntry = 2
settled_number Invalid = 22

-- A text says this event to the server. Hex stands in it.
abbrev pub SaysServerEvent : List ℕ → ServerEvent → Type 0
SaysServerEvent text (event.Mount found missing minor) = (last : List (List ℕ))
    × (words_of text ≡ codes "mount" ∷ decimal found ∷ decimal missing ∷ last) × EndsAt minor last
SaysServerEvent text (event.Take bytes) = text ≡ codes "take " ++ hex_or_none bytes.now
SaysServerEvent text (event.Do unique) = words_of text ≡ codes "do" ∷ decimal unique ∷ []
SaysServerEvent text (event.Again unique) = words_of text ≡ codes "again" ∷ decimal unique ∷ []
SaysServerEvent text (event.Settle copy result) =
    text ≡ codes "settle " ++ decimal copy ++ codes " " ++ decimal (settled_number result)
SaysServerEvent text event.Abort = words_of text ≡ codes "abort" ∷ []

-- A text says this line to the server. What is in hex is hex.
abbrev pub SaysServerLine : List ℕ → ServerLine → Type 0
SaysServerLine text (line.Event e) = SaysServerEvent text e
SaysServerLine text (line.Take hex) = (text ≡ codes "take " ++ hex.now) × IsHexOrNone hex.now
SaysServerLine text line.Show = words_of text ≡ codes "show" ∷ []
