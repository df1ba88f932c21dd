-- How a RELEASE is done at once.
use Rattle.std.specs.Prelude.{◌≡◌, ℕ, zero, suc, Option, Some, None}
use Rattle.fuse_spec.specs.Files.Operations.{done, failed}
use Rattle.fuse_spec.specs.Kernel.Messages.{WireReply, release}
use Rattle.fuse_spec.specs.Server.Server.{Server}
use Rattle.fuse_spec.specs.Server.Taking.{taking}
use Rattle.fuse_spec.specs.World.Worlds.{Sent}
use Rattle.fuse_spec.specs.declared.Opened.{Opened}
use Rattle.fuse_spec.specs.declared.Refusal.TheVariants.{Exhausted}
use Rattle.fuse_spec.specs.declared.WriteResult.{WriteResult}
use Rattle.fs_server.specs.Effects.{PerformsHeld, RefusesHeld, Settles, first_copy, request_fault}
use Rattle.fs_server.specs.declared.server.ServerFault.{ServerFault}
use Rattle.fs_server.specs.declared.server.ServerFault.TheVariants as fault

-- the reply that says this error and no more, or that it is done where there is none
abbrev pub bare_reply : (errno : ℕ) → WireReply
bare_reply zero = done
bare_reply (suc n) = failed (suc n)

-- the copy of the reply to a RELEASE under this unique: none after an abort
abbrev pub release_copy : Server → (unique errno : ℕ) → Option Sent
release_copy s unique errno = first_copy s.aborted s.next_copy unique (bare_reply errno)

-- The copy is settled, if there is one, whatever the result of its write.
abbrev pub SettlesAnyhow : Server → Option Sent → Server → Type 0
SettlesAnyhow old None new = new ≡ old
SettlesAnyhow old (Some copy) new = (result : WriteResult) → Settles old copy.number result new

-- A RELEASE under this unique has no fault. It is taken, performed with this error, and the copy of its reply settled.
pub record Releases (old : Server) (unique : ℕ) (opened : Opened) (errno : ℕ) (new : Server) : Type 0 where
  pub faultless : request_fault old unique (Some (release opened)) ≡ None
  pub did : Server
  pub performs : PerformsHeld (taking old unique (release opened)).server unique errno (release_copy old unique errno) did
  pub settles : SettlesAnyhow did (release_copy old unique errno) new

-- Why a RELEASE is refused: for its fault, or as it cannot be performed once it is taken.
pub data RefusesRelease (s : Server) (unique : ℕ) (opened : Opened) : ServerFault → Type 0 where
  faulty : (fault : ServerFault) → request_fault s unique (Some (release opened)) ≡ Some fault
      → RefusesRelease s unique opened fault
  no_number : request_fault s unique (Some (release opened)) ≡ None
      → RefusesHeld (taking s unique (release opened)).server unique Exhausted
      → RefusesRelease s unique opened fault.Exhausted
