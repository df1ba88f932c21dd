-- The server performs the very operation of the ask: its operation, with each node replaced by the file that it
-- denotes.
use Rattle.std.proofs.Common.{◌≡◌, ℕ, List, ap, ◌∙◌}
use Rattle.fuse_spec.specs.Files.Operations.{Operation, lookup, getattr, mkdir, create, unlink, rmdir, rename, link, opening, readdir, readdirplus, read, write, operation_with, OperationAlike}
use Rattle.fuse_spec.specs.declared.Opened.{Opened}
use Rattle.fuse_spec.specs.Server.Nodes.{NodeTable, HandleTable, file_of, file_in}
use Rattle.fuse_spec.specs.Server.Performs.{file_operation_of}
use Rattle.fuse_spec.specs.Claim.Denotes.{Denotes}
use Rattle.fuse_spec.specs.Claim.Alike.{StillDenotes, OpenStillDenotes}
use Rattle.fuse_theorem.proofs.Calls.Cases.{SameOperation, both_lookup, both_getattr, both_mkdir, both_create, both_unlink, both_rmdir, both_rename, both_link, both_opening, both_readdir, both_readdirplus, both_read, both_write, same_operation}

module _ {F O G P : Type 0} (R : F → G → Type 0) (S : O → P → Type 0) (f : F → G) (g : O → P)
    (finds : (x : F) (y : G) → R x y → f x ≡ y) (leads : (o : O) (p : P) → S o p → g o ≡ p) where
  by_cases : (a : Operation F O) (b : Operation G P) → SameOperation R S a b → operation_with f g a ≡ b
  by_cases a b (both_lookup x y n m r e) = λ i. lookup (finds x y r i) (e i)
  by_cases a b (both_getattr x y r) = λ i. getattr (finds x y r i)
  by_cases a b (both_mkdir x y n m r e) = λ i. mkdir (finds x y r i) (e i)
  by_cases a b (both_create x y n m r e) = λ i. create (finds x y r i) (e i)
  by_cases a b (both_unlink x y n m r e) = λ i. unlink (finds x y r i) (e i)
  by_cases a b (both_rmdir x y n m r e) = λ i. rmdir (finds x y r i) (e i)
  by_cases a b (both_rename x y n m x' y' n' m' r e r' e') = λ i. rename (finds x y r i) (e i) (finds x' y' r' i) (e' i)
  by_cases a b (both_link x y x' y' n m r r' e) = λ i. link (finds x y r i) (finds x' y' r' i) (e i)
  by_cases a b (both_opening x y r) = λ i. opening (finds x y r i)
  by_cases a b (both_readdir x y n m k l r e e') = λ i. readdir (finds x y r i) (e i) (e' i)
  by_cases a b (both_readdirplus x y n m k l r e e') = λ i. readdirplus (finds x y r i) (e i) (e' i)
  by_cases a b (both_read o p n m k l s e e') = λ i. read (leads o p s i) (e i) (e' i)
  by_cases a b (both_write o p n m k l s e e') = λ i. write (leads o p s i) (e i) (e' i)

  pub deed_is : (a : Operation F O) (b : Operation G P) → OperationAlike R S a b → operation_with f g a ≡ b
  deed_is a b h = by_cases a b (same_operation R S a b h)

pub denoted : (t : NodeTable) (id generation file : ℕ) → Denotes t id generation file → file_of t id ≡ file
denoted t id generation file h = ap file_in h.there ∙ h.same_file

-- a held request's operation, on the files that its nodes were taken for
pub held_operation : (t : NodeTable) (h : HandleTable) (generations : List (ℕ × ℕ)) (a : Operation ℕ Opened)
    (b : Operation ℕ ℕ) → OperationAlike (StillDenotes t generations) (OpenStillDenotes t h generations) a b
    → file_operation_of t a ≡ b
held_operation t h generations a b same =
    deed_is (StillDenotes t generations) (OpenStillDenotes t h generations) (file_of t) (λ (o : Opened). file_of t o.nodeid)
    (λ id file m. denoted t id m.generation file m.denotes)
    (λ o file m. denoted t o.nodeid m.node_meant.generation file m.node_meant.denotes) a b same
