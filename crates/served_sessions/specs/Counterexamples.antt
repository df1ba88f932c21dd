-- Why something is asked of a kernel: sessions in which the definitions accuse a server of what its kernel did.
use Rattle.std.specs.Prelude.{ℕ, List, [], ◌∷◌, ◌++◌, replicate}
use Rattle.fuse_spec.specs.declared.Minor.TheVariants.{M31}
use Rattle.fuse_spec.specs.declared.WriteResult.TheVariants.{Accepted, NoEntry}
use Rattle.fuse_spec.specs.Server.Copies.{remounted}
use Rattle.fuse_spec.specs.Server.Server.{Server}
use Rattle.fuse_spec.specs.World.Worlds.{first_server}
use Rattle.fuse_device.specs.Transfers.{Transfer, received, sent}

-- A server that was just mounted, at 7.31.
abbrev pub fresh_server : Server
fresh_server = remounted first_server (record { found_ms = 0; missing_ms = 0 }) M31

-- so many bytes of 0
abbrev pub zeros : ℕ → List ℕ
zeros n = replicate n 0

-- INIT of 7.31 under number 0: len 56, opcode 26, and version 7.31 behind the header. No rule forbids a kernel the number 0.
abbrev pub init_of_no_number : List ℕ
init_of_no_number =
    (56 ∷ 0 ∷ 0 ∷ 0 ∷ 26 ∷ 0 ∷ 0 ∷ 0 ∷ []) ++ zeros 32 ++ (7 ∷ 0 ∷ 0 ∷ 0 ∷ 31 ∷ 0 ∷ 0 ∷ 0 ∷ []) ++ zeros 8

-- Its reply where memory runs out: len 16 and -ENOMEM, -12. Under number 0 it is a notification, of no known code.
abbrev pub reply_of_no_number : List ℕ
reply_of_no_number = (16 ∷ 0 ∷ 0 ∷ 0 ∷ 244 ∷ 255 ∷ 255 ∷ 255 ∷ []) ++ zeros 8

abbrev pub log_of_no_number : List Transfer
log_of_no_number = received init_of_no_number ∷ sent reply_of_no_number Accepted ∷ []

-- NOTIFY_REPLY under number 2, of no bytes, for which nobody asked: len 80, opcode 41. No rule forbids it to a kernel.
abbrev pub unasked_notify_reply : List ℕ
unasked_notify_reply = (80 ∷ 0 ∷ 0 ∷ 0 ∷ 41 ∷ 0 ∷ 0 ∷ 0 ∷ 2 ∷ []) ++ zeros 71

-- The server's reply, as to any opcode that it does not know: len 16 and -ENOSYS, -38. Nothing waits for it.
abbrev pub reply_to_notify_reply : List ℕ
reply_to_notify_reply = (16 ∷ 0 ∷ 0 ∷ 0 ∷ 218 ∷ 255 ∷ 255 ∷ 255 ∷ 2 ∷ []) ++ zeros 7

abbrev pub log_of_notify_reply : List Transfer
log_of_notify_reply = received unasked_notify_reply ∷ sent reply_to_notify_reply NoEntry ∷ []
