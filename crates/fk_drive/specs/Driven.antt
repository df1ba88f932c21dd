-- A kernel and its connection, as the definitions have them.
use Rattle.std.specs.Prelude.{◌≡◌, ℕ, List, map}
use Rattle.fuse_spec.specs.declared.Opened.{Opened}
use Rattle.fuse_spec.specs.Kernel.Kernel.{Kernel}
use Rattle.fk_drive.specs.Driving.{Driven, Turn}
use Rattle.fk_drive.specs.declared.connection.Connection.{Connection}

-- the frames that wait, and the open directories, each with its number
abbrev pub waiting_in : {A : Type 0} → Connection A → List (List ℕ)
waiting_in connection = map (λ frame. frame.items) connection.waiting.items

abbrev pub directories_in : {A : Type 0} → Connection A → List (ℕ × Opened)
directories_in connection = map (λ d. (d.unique, d.opened)) connection.directories.items

-- the state at a turn
abbrev pub driven : {A : Type 0} → Kernel → Connection A → Turn → Driven
driven kernel connection turn = record {
  kernel = kernel;
  waiting = waiting_in connection;
  next = connection.next;
  asks = connection.asks;
  directories = directories_in connection;
  turn = turn;
}

-- What is said of a connection stays the same.
abbrev pub Keeps : {A : Type 0} → Connection A → Connection A → Type 0
Keeps old new = (kernel : Kernel) (turn : Turn) → driven kernel new turn ≡ driven kernel old turn

-- What waits stays the same, and whether OPENDIR is asked.
abbrev pub KeepsWaiting : {A : Type 0} → Connection A → Connection A → Type 0
KeepsWaiting old new = new ≡ record old { next = new.next; directories = new.directories }
