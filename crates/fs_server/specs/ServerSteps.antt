-- What an event makes of the server, and why it is refused.
use Rattle.std.specs.Prelude.{◌≡◌, ◌⊎◌, ◌<◌, ◌≤◌, ℕ, List, MatchOption, Option, Some, None}
use Rattle.fuse_spec.specs.declared.Minor.{Minor}
use Rattle.fuse_spec.specs.declared.Refusal.{Refusal}
use Rattle.fuse_spec.specs.declared.Refusal.TheVariants.{BadTime, NoMemory}
use Rattle.fuse_spec.specs.declared.Validity.{Validity}
use Rattle.fuse_spec.specs.Server.Copies.{connection_lost, remounted}
use Rattle.fuse_spec.specs.Server.Server.{Server}
use Rattle.fuse_spec.specs.Values.Numbers.{max_validity}
use Rattle.fs_server.specs.Effects.{CanSendAgain, CanTake, HasNoCopy, PerformsHeld, RefusesAgain, RefusesFrame, RefusesHeld, SendsAgain, Settles, TakesFrame, TakingNeedsMemory}
use Rattle.fs_server.specs.Faults.{IsAnswerable, IsFaultReply}
use Rattle.fs_server.specs.Steps.{CanPerform}
use Rattle.fs_server.specs.declared.server.ServerFault.{ServerFault}
use Rattle.fs_server.specs.declared.server.ServerFault.TheVariants.{Memory}
use Rattle.fs_server.specs.declared.step.ServerEvent.{ServerEvent}
use Rattle.fs_server.specs.declared.step.ServerEvent.TheVariants as event
use Rattle.fs_server.specs.declared.step.ServerStep.{ServerStep}
use Rattle.fs_server.specs.declared.step.ServerStep.TheVariants as step
use Rattle.fs_server.specs.declared.step.ServerRefused.{ServerRefused}
use Rattle.fs_server.specs.declared.step.ServerRefused.TheVariants as refused

-- An accepted event results in this step, and makes this of the server.
abbrev pub ServerDoes : {A : Type 0} → Server → ServerEvent → ServerStep A → Server → Type 0
ServerDoes old (event.Mount found missing minor) step.Mounted new =
    (found ≤ max_validity) × (missing ≤ max_validity)
    × (new ≡ remounted old (record { found_ms = found; missing_ms = missing }) minor)
ServerDoes old (event.Take bytes) (step.Taken taken) new = TakesFrame old bytes.now taken new
ServerDoes old (event.Do unique) (step.Done under done) new =
    (under ≡ unique) × PerformsHeld old unique done.errno done.sent new
ServerDoes old (event.Again unique) (step.SentAgain copy) new = SendsAgain old unique copy new
ServerDoes old (event.Settle copy result) (step.Settled number said_result) new =
    (number ≡ copy) × (said_result ≡ result) × Settles old copy result new
ServerDoes old event.Abort step.Aborted new = new ≡ connection_lost old
ServerDoes old e s new = ⊥

-- The frame is at fault, and this is the reply that says so, where there is one.
pub record RefusesTaking (old : Server) (bytes : List ℕ) (fault : ServerFault) (reply : Option (List ℕ)) : Type 0 where
  pub refused : RefusesFrame old bytes fault
  pub memory : fault ≡ Memory → CanTake old bytes × TakingNeedsMemory old bytes
  pub says : MatchOption reply (IsAnswerable bytes fault → ⊥) (IsFaultReply old.minor bytes fault)

-- Why an event is refused. Out of memory comes last.
abbrev pub ServerRefuses : Server → ServerEvent → ServerRefused → Type 0
ServerRefuses old (event.Mount found missing minor) (refused.Event refusal) =
    (refusal ≡ BadTime) × ((max_validity < found) ⊎ (max_validity < missing))
ServerRefuses old (event.Take bytes) (refused.Frame fault reply) = RefusesTaking old bytes.now fault reply
ServerRefuses old (event.Do unique) (refused.Event refusal) =
    RefusesHeld old unique refusal ⊎ ((refusal ≡ NoMemory) × CanPerform old unique)
ServerRefuses old (event.Again unique) (refused.Event refusal) =
    RefusesAgain old unique refusal ⊎ ((refusal ≡ NoMemory) × CanSendAgain old unique)
ServerRefuses old (event.Settle copy result) (refused.Event refusal) = HasNoCopy old copy refusal
ServerRefuses old e why = ⊥
