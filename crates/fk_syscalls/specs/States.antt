-- Where an unanswered call stands, and what a step of it results in.
use Rattle.std.specs.Prelude.{◌≡◌, ℕ, List, [], ◌∷◌, Option, Some, None}
use Rattle.std.specs.Borrow.{Bor}
use Rattle.fuse_spec.specs.Calls.Begins.{Beginning}
use Rattle.fuse_spec.specs.Values.Maps.{NameMap}
use Rattle.fuse_spec.specs.Files.Operations as op
use Rattle.fuse_spec.specs.Files.Operations.{Operation}
use Rattle.fuse_spec.specs.Calls.Paths.{Name}
use Rattle.fuse_spec.specs.Calls.Vfs.{CallState, walking, doing, using, Vfs, asking, after_beginning}
use Rattle.fuse_spec.specs.Calls.Walks.{WalkPlan, last, rename, link, operation_at}
use Rattle.fuse_spec.specs.declared.Dentry.{Dentry}
use Rattle.fuse_spec.specs.declared.Opened.{Opened}
use Rattle.fk_syscalls.specs.Words.{AreWords}
use Rattle.fk_syscalls.specs.Plans.{plan_of, IsSoundPlan, IsLast}
use Rattle.fk_syscalls.specs.declared.plan.Plan.{Plan}
use Rattle.fk_syscalls.specs.declared.state.WaitsFor.{WaitsFor}
use Rattle.fk_syscalls.specs.declared.state.WaitsFor.TheVariants.{Walks, Reads, Writes}

-- A call whose walk has led to its end. With a second walk to come none stands there.
abbrev pub at_end : ℕ → WalkPlan ℕ → CallState Opened
at_end node (last operation) = doing (operation_at operation node)
at_end node (rename old words new) = doing (op.getattr node)
at_end node (link words name) = doing (op.getattr node)

-- A call that walks: it looks up the first of the words that are left, or asks its operation.
abbrev pub walking_at : ℕ → List Name → WalkPlan ℕ → CallState Opened
walking_at node [] plan = at_end node plan
walking_at node (word ∷ words) plan = walking node word words plan

-- A call at a node: it walks, or waits for a read or write of an open file of that node.
abbrev pub state_of : {A : Type 0} → ℕ → List Name → WaitsFor A → CallState Opened
state_of node words (Walks plan) = walking_at node words (plan_of (λ s. s.items) plan)
state_of node words (Reads open_call fh offset size) =
    using open_call (op.read (record { nodeid = node; fh = fh }) offset size)
state_of node words (Writes open_call fh offset bytes) =
    using open_call (op.write (record { nodeid = node; fh = fh }) offset bytes.items)

abbrev pub IsSoundWait : {A : Type 0} → Option ℕ → WaitsFor A → Type 0
IsSoundWait at (Walks plan) = IsSoundPlan (λ s. s.items) plan × (at ≡ None → IsLast (plan_of (λ s. s.items) plan))
IsSoundWait at (Reads open_call fh offset size) = Unit {0}
IsSoundWait at (Writes open_call fh offset bytes) = Unit {0}

-- Only words without a fault are asked for, and a second walk follows the first at once.
pub record IsSoundCall {A : Type 0} (bytes : List ℕ) (at : Option ℕ) (waits_for : WaitsFor A) : Type 0 where
  pub left : AreWords bytes at
  pub sound : IsSoundWait at waits_for

-- So of a call that is to be made, whose words and names are borrowed.
pub record IsSoundLentCall (bytes : List ℕ) (at : Option ℕ) (plan : Plan (Bor (List ℕ))) : Type 0 where
  pub left : AreWords bytes at
  pub sound : IsSoundPlan (λ s. s.now) plan
  pub last : at ≡ None → IsLast (plan_of (λ s. s.now) plan)

-- The call waits for a word of its path.
abbrev pub IsWalking : CallState Opened → Type 0
IsWalking (walking directory word words plan) = Unit {0}
IsWalking (doing operation) = ⊥
IsWalking (using open_call operation) = ⊥

-- Where a call stands follows from what it has asked.
pub record LooksUp (directory : ℕ) (word : Name) (state : CallState Opened) : Type 0 where
  pub words : List Name
  pub plan : WalkPlan ℕ
  pub is : state ≡ walking directory word words plan

pub record Uses (operation : Operation ℕ Opened) (state : CallState Opened) : Type 0 where
  pub open_call : ℕ
  pub is : state ≡ using open_call operation

abbrev pub StandsAt : Operation ℕ Opened → CallState Opened → Type 0
StandsAt (op.lookup directory word) state = LooksUp directory word state
StandsAt (op.read opened offset size) state = Uses (op.read opened offset size) state
StandsAt (op.write opened offset bytes) state = Uses (op.write opened offset bytes) state
StandsAt operation state = state ≡ doing operation

-- The open file that the call reads or writes, by its number.
abbrev pub used_by : CallState Opened → Option ℕ
used_by (walking directory word words plan) = None
used_by (doing operation) = None
used_by (using open_call operation) = Some open_call

-- These are the cached names and the time, and the root is node 1.
pub record HasCachedNames (c : Vfs Opened) (in_force : NameMap Dentry) (time : ℕ) : Type 0 where
  pub names : c.names ≡ in_force
  pub clock : c.clock ≡ time
  pub root : c.root ≡ 1

-- A call that begins so asks an operation.
abbrev pub BeginsAsking : NameMap Dentry → ℕ → Beginning ℕ Opened → Type 0
BeginsAsking names clock begins = (c : Vfs Opened) (call : ℕ) → HasCachedNames c names clock
    → (state : CallState Opened) × (after_beginning c call begins ≡ asking c call state)
