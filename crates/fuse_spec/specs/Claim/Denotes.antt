-- Which file a node denotes, and what is alike once each node is replaced by the file that it denotes.
use Rattle.std.specs.Prelude.{◌≡◌, ℕ, true, cond, Option, Some, nat_eq, option_map}
use Rattle.fuse_spec.specs.Values.Maps.{Map, get}
use Rattle.fuse_spec.specs.Files.Operations.{OptionAlike, OperationAlike}
use Rattle.fuse_spec.specs.Calls.Walks.{FinalOperation, WalkPlan, last, rename, link}
use Rattle.fuse_spec.specs.Calls.Vfs.{CallState, walking, doing, using}
use Rattle.fuse_spec.specs.declared.Counted.{Counted}
use Rattle.fuse_spec.specs.declared.Opened.{Opened}
use Rattle.fuse_spec.specs.declared.Entry.{Entry}
use Rattle.fuse_spec.specs.declared.Dentry.{Dentry}
use Rattle.fuse_spec.specs.World.Worlds.{World}
use Rattle.fuse_spec.specs.Server.Nodes.{NodeTable, HandleTable, HeldNode, row_of, is_open}

-- The server holds the id under this generation for this file.
pub record Denotes (t : NodeTable) (id generation file : ℕ) : Type 0 where
  pub row : HeldNode
  pub there : row_of t id ≡ Some row
  pub same_generation : row.generation ≡ generation
  pub same_file : row.file ≡ file

-- The generation under which the kernel knows a node: the root's is 0.
abbrev pub generation_known : Map Counted → ℕ → Option ℕ
generation_known nodes id = cond (nat_eq id 1) (Some 0) (option_map (λ counted. counted.generation) (get nodes id))

-- The kernel's node denotes this file: the server holds it for the file, under the kernel's generation.
pub record NodeDenotes (nodes : Map Counted) (t : NodeTable) (id file : ℕ) : Type 0 where
  pub generation : ℕ
  pub known : generation_known nodes id ≡ Some generation
  pub denotes : Denotes t id generation file

-- The kernel's open file denotes this file: so does its node, and its `fh` is a file handle of that same file.
pub record OpenDenotes (nodes : Map Counted) (t : NodeTable) (h : HandleTable) (o : Opened) (file : ℕ) : Type 0 where
  pub node_means : NodeDenotes nodes t o.nodeid file
  pub is_handle : is_open h o.fh file ≡ true

-- The entry of a copy denotes this file.
abbrev pub Names : NodeTable → Entry → ℕ → Type 0
Names t g file = Denotes t g.nodeid g.generation file

-- The file handle of a copy is one of this file.
abbrev pub Opens : HandleTable → ℕ → ℕ → Type 0
Opens h fh file = is_open h fh file ≡ true

-- What a node of the kernel denotes in a world.
abbrev pub NodeDenotesIn : World → ℕ → ℕ → Type 0
NodeDenotesIn w id file = NodeDenotes w.kernel.nodes w.server.nodes id file

-- What an open file of the kernel denotes in a world.
abbrev pub OpenDenotesIn : World → Opened → ℕ → Type 0
OpenDenotesIn w o file = OpenDenotes w.kernel.nodes w.server.nodes w.server.handles o file

-- What follows holds for any relation R of the files' names, and S of the open files'.

-- The same operation at the end of a walk, on files that R says are the same.
abbrev pub FinalAlike : {F G : Type 0} → (F → G → Type 0) → FinalOperation F → FinalOperation G → Type 0
FinalAlike R = OperationAlike (OptionAlike R) (λ o p. ⊥)

-- Two walks for the same end, over files that R says are the same.
abbrev pub WalkPlanAlike : {F G : Type 0} → (F → G → Type 0) → WalkPlan F → WalkPlan G → Type 0
WalkPlanAlike R (last a) (last b) = FinalAlike R a b
WalkPlanAlike R (rename old words new) (rename old' words' new') =
    (old ≡ old') × (words ≡ words') × (new ≡ new')
WalkPlanAlike R (link words name) (link words' name') = (words ≡ words') × (name ≡ name')
WalkPlanAlike R a b = ⊥

-- Two calls that wait for the same, over files that R says are the same and open files that S says are.
abbrev pub StateAlike : {O P : Type 0} → (ℕ → ℕ → Type 0) → (O → P → Type 0) → CallState O → CallState P → Type 0
StateAlike R S (walking d word words plan) (walking e word' words' plan') =
    R d e × (word ≡ word') × (words ≡ words') × WalkPlanAlike R plan plan'
StateAlike R S (doing a) (doing b) = OperationAlike R S a b
StateAlike R S (using open_call a) (using open_call' b) = (open_call ≡ open_call') × OperationAlike R S a b
StateAlike R S a b = ⊥

-- Two cached names that lead to the same file, or both to none, for as long.
abbrev pub DentryAlike : (ℕ → ℕ → Type 0) → Dentry → Dentry → Type 0
DentryAlike R a b = OptionAlike R a.target b.target × (a.until ≡ b.until)
