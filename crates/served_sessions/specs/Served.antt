-- Who keeps the rules is never accused: of what a server sends by `Serves` the definitions of sessions have no fault.
use Rattle.std.specs.Prelude.{◌≡◌, ℕ, Bool, true, List, []}
use Rattle.fuse_spec.specs.Server.Server.{Server}
use Rattle.fuse_device.specs.Transfers.{Transfer}
use Rattle.fs_serve.specs.LookupCounts.{IsFresh}
use Rattle.fs_serve.specs.Serving.{Serves}
use Rattle.fuse_sessions.specs.declared.fault.Fault.{Fault}
use Rattle.fuse_sessions.specs.declared.known.Known.{Known}
use Rattle.fuse_sessions.specs.declared.transfer.Transfer.{Transfer as Said}
use Rattle.fuse_sessions.specs.Sessions.{Session}
use Rattle.fuse_sessions.specs.Faults.{HasFaultAt}
use Rattle.fuse_sessions.specs.Frames.{IsSession}
use Rattle.served_sessions.specs.Exchanges.{AllReceived, AreSaid}
use Rattle.served_sessions.specs.Groups.{HasFewForgets, HasNumber, IsAny, IsNoNotifyReply, IsOrdinary, is_nothing, is_of_bodies, is_of_counts, is_of_entries, is_of_files, is_of_flags, is_of_generations, is_of_heads, is_of_interrupts, is_of_kernel, is_of_notices, is_of_numbers, is_of_pairs, is_of_second_init, is_of_server}

-- No act of a session has, at its moment, a fault of this group.
abbrev pub ShowsNone : (Fault → Bool) → Session → Type 0
ShowsNone group s = (place : ℕ) (f : Fault) → HasFaultAt [] s place f → group f ≡ true → ⊥

-- What went over a server's device shows none of a group of faults: so does the session that it is, where each frame of
-- the kernel is such and the kernel has none of the faults that are asked of it.
abbrev pub IsFreeOf : (group asked : Fault → Bool) → (List ℕ → Type 0) → List Transfer → Type 0
IsFreeOf group asked IsSuch log = AllReceived IsSuch log → (ts : List Said) → AreSaid log ts → (k : Known) (s : Session)
    → IsSession ts k s → ShowsNone asked s → ShowsNone group s

-- A server is never accused of a group of faults: whatever kernel it serves, over any device.
abbrev pub NeverAccused : (group asked : Fault → Bool) → (List ℕ → Type 0) → Type 0
NeverAccused group asked IsSuch =
    (old : Server) (log : List Transfer) (new : Server) → Serves old log new → IsFreeOf group asked IsSuch log

-- The same of a server that was just mounted, whose tree is the root alone.
abbrev pub FreshNeverAccused : (group asked : Fault → Bool) → (List ℕ → Type 0) → Type 0
FreshNeverAccused group asked IsSuch =
    (old : Server) (log : List Transfer) (new : Server) → Serves old log new → IsFresh old → IsFreeOf group asked IsSuch log

-- What went over a device from this server on shows no fault of the server, of each of these groups.
pub record IsUnaccused (old : Server) (log : List Transfer) : Type 0 where
  pub frames : IsFreeOf is_of_heads is_nothing IsAny log
  pub notifications : IsFreeOf is_of_notices is_nothing HasNumber log
  pub replies : IsFreeOf is_of_numbers is_of_interrupts IsNoNotifyReply log
  pub flags : IsFreeOf is_of_flags is_of_second_init IsAny log
  pub bodies : IsFreeOf is_of_bodies is_nothing IsAny log
  pub counts : IsFreeOf is_of_counts is_nothing IsAny log
  pub entries : IsFresh old → IsFreeOf is_of_entries is_nothing IsAny log
  pub generations : IsFresh old → IsFreeOf is_of_generations is_nothing HasFewForgets log
  pub files : IsFresh old → IsFreeOf is_of_files is_nothing HasFewForgets log
  pub pairs : IsFresh old → IsFreeOf is_of_pairs is_nothing HasFewForgets log
  -- the server has no fault at all where the kernel has none, and sends what is ordinary
  pub all : IsFresh old → IsFreeOf is_of_server is_of_kernel IsOrdinary log
