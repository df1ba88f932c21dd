-- What a line makes of a server by itself.
use Rattle.std.specs.Prelude.{ℕ, List}
use Rattle.fuse_spec.specs.Server.Server.{Server}
use Rattle.fs_server.specs.declared.step.ServerEvent.{ServerEvent}
use Rattle.fs_server.specs.declared.step.ServerRefused.{ServerRefused}
use Rattle.fs_server.specs.declared.step.ServerStep.{ServerStep}
use Rattle.fw_sides.specs.ServerLines.{SaysServerEvent}
use Rattle.fs_server.specs.ServerSteps.{ServerDoes, ServerRefuses}

-- An event happens to the server; or it is refused, and nothing changes.
pub data ServerHappens (A : Type 0) (old : Server) (event : ServerEvent) : Server → Type 0 where
  accepted : (step : ServerStep A) (new : Server) → ServerDoes old event step new → ServerHappens A old event new
  refused : (why : ServerRefused) → ServerRefuses old event why → ServerHappens A old event old

-- A line is done: the event happens that it says; or nothing changes, where it says none (it asks for the nodes, is
-- passed over or is at fault), or where memory runs out for its bytes.
pub data DoesServerLine (A : Type 0) (old : Server) (text : List ℕ) : Server → Type 0 where
  event : (event : ServerEvent) → SaysServerEvent text event → (new : Server) → ServerHappens A old event new
      → DoesServerLine A old text new
  nothing : DoesServerLine A old text old
