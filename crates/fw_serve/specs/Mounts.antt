-- How a mount is served.
use Rattle.std.specs.Prelude.{◌≡◌, ℕ, List, Option, Some, None}
use Rattle.fuse_spec.specs.Server.Server.{Server}
use Rattle.fuse_spec.specs.Server.Copies.{remounted}
use Rattle.fuse_spec.specs.World.Worlds.{first_server}
use Rattle.fuse_device.specs.Transfers.{Transfer}
use Rattle.fuse_device.specs.declared.device.DeviceEnd.{DeviceEnd}
use Rattle.fuse_device.specs.declared.device.DeviceEnd.TheVariants.{Ended, TimedOut, Failed}
use Rattle.fs_serve.specs.Sending.{GoesOver}
use Rattle.fs_serve.specs.LookupCounts.{IsServed}
use Rattle.served_sessions.specs.Served.{IsUnaccused}
use Rattle.fw_serve.specs.declared.serving.Mount.{Mount}

-- the server at its mount: its tree is the root alone
abbrev pub server_at_mount : Mount → Server
server_at_mount mount = remounted first_server mount.validity mount.minor

-- the exit status at a device's end, or without one
abbrev pub end_status_of : Option DeviceEnd → ℕ
end_status_of (Some Ended) = 0
end_status_of (Some TimedOut) = 4
end_status_of (Some Failed) = 4
end_status_of None = 4

-- All that went over the device was served from this server on, until the device ended so. No judge accuses the server of
-- it, as far as is proved.
pub record ServesFrom {D : Type 0} (logs : D → D → List Transfer → Type 0) (first : Server) (old new : D) (status : ℕ)
    : Type 0 where
  pub end : Option DeviceEnd
  pub last : Server
  pub served : GoesOver logs old new end (λ log. IsServed first log last × IsUnaccused first log)
  pub stopped : status ≡ end_status_of end
