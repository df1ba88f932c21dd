-- A pair of nodeid and generation stands for one file, for as long as the server runs: what a server's author has to
-- keep, so that a kernel never takes one file for another.
use Rattle.std.specs.Prelude.{◌≡◌, ℕ, All, List, Option, Some}
use Rattle.fuse_spec.specs.declared.Entry.{Entry}
use Rattle.fuse_spec.specs.Values.Maps.{get, remove}
use Rattle.fuse_spec.specs.Files.Operations.{files_in_reply}
use Rattle.fuse_spec.specs.Kernel.Messages.{Request}
use Rattle.fuse_spec.specs.Server.Nodes.{HeldNode}
use Rattle.fuse_spec.specs.Server.Server.{Server}
use Rattle.fuse_spec.specs.World.Worlds.{Sent}
use Rattle.fs_server.specs.Effects.{PerformsHeld}
use Rattle.fuse_device.specs.Transfers.{Transfer}
use Rattle.fs_serve.specs.Sending.{Delivers}
use Rattle.fs_serve.specs.Serving.{Serves, TakesRequest}

-- The server holds a node of this file under this pair of nodeid and generation.
pub record HoldsPair (s : Server) (id generation file : ℕ) : Type 0 where
  pub node : HeldNode
  pub held : get s.nodes.rows id ≡ Some node
  pub under : node.generation ≡ generation
  pub of_file : node.file ≡ file

-- One step of serving: a frame's request is taken, a held request is performed, a copy of its reply is delivered, or it
-- is dropped.
pub data ServesStep (old : Server) : Server → Type 0 where
  step_take : (frame : List ℕ) (request : Request) (new : Server) → TakesRequest old frame request new → ServesStep old new
  step_perform : (unique errno : ℕ) (copy : Option Sent) (new : Server) → PerformsHeld old unique errno copy new
      → ServesStep old new
  step_deliver : (copy : Sent) (log : List Transfer) (new : Server) → Delivers copy old log new → ServesStep old new
  step_drop : (unique : ℕ) → ServesStep old (record old { held = remove old.held unique })

-- The server comes from the one moment to the other by such steps, one after another.
pub data ComesTo (old : Server) : Server → Type 0 where
  no_step : ComesTo old old
  one_step : (mid : Server) → ComesTo old mid → (new : Server) → ServesStep mid new → ComesTo old new

-- No pair is given twice, be its reply accepted or refused. (libfuse, low-level: generation)
pub record GivesPairsOnce (old : Server) : Type 0 where
  -- the moments between two frames are among those that are meant
  pub between : (log : List Transfer) (new : Server) → Serves old log new → ComesTo old new
  -- each pair that a reply gives is held as the request is performed
  pub given : (mid : Server) → ComesTo old mid → (unique errno : ℕ) (copy : Sent) (did : Server)
      → PerformsHeld mid unique errno (Some copy) did
      → All (λ (e : Entry). (file : ℕ) × HoldsPair did e.nodeid e.generation file) (files_in_reply copy.wire)
  -- of three moments, a pair that is held at the first and at the last is held at the one between, and is of one file
  pub once : (first mid last : Server) → ComesTo old first → ComesTo first mid → ComesTo mid last
      → (id generation file last_file : ℕ) → HoldsPair first id generation file
      → HoldsPair last id generation last_file → HoldsPair mid id generation file × (last_file ≡ file)
