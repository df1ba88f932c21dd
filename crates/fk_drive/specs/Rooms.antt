-- Room for one more frame, which is made before it is received, and how many are kept.
use Rattle.std.specs.Prelude.{◌≡◌, ◌≤◌, ◌<◌, ◌⊎◌, ℕ, vec_capacity, vec_len}
use Rattle.fk_drive.specs.declared.connection.Connection.{Connection}
use Rattle.fk_drive.specs.declared.end.DriveEnd.{DriveEnd}
use Rattle.fk_drive.specs.declared.end.DriveEnd.TheVariants.{Memory, TooMany}

pub record HasRoomForFrame {A : Type 0} (connection : Connection A) : Type 0 where
  pub waiting : vec_len connection.waiting < vec_capacity connection.waiting
  pub directories : vec_len connection.directories < vec_capacity connection.directories

-- How many frames wait for the kernel at most, while the reply to OPENDIR or RELEASEDIR is awaited. (this project's rule)
abbrev pub most_waiting : ℕ
most_waiting = 10000

-- Why no more frame is received then: memory is out, or so many wait.
abbrev pub IsNoRoom : {A : Type 0} → Connection A → DriveEnd → Type 0
IsNoRoom connection end = (end ≡ Memory) ⊎ ((end ≡ TooMany) × (most_waiting ≤ vec_len connection.waiting))
