-- Which unanswered calls use an open file, and a closed one whose RELEASE is not queued yet.
use Rattle.std.specs.Prelude.{T, ◌≡◌, ◌<◌, ◌≤◌, ℕ, true, [], ◌∷◌, Some, None}
use Rattle.std.specs.List.{list_any}
use Rattle.std.specs.Ordering.{nat_cmp}
use Rattle.std.specs.FinMap.{is_sorted}
use Rattle.fuse_spec.specs.declared.Opened.{Opened}
use Rattle.fuse_spec.specs.Claim.Counts.{opens_of}
use Rattle.fuse_spec.specs.Kernel.Kernel.{is_using}
use Rattle.fuse_spec.specs.Values.Maps.{Map, get, values}
use Rattle.fuse_spec.specs.Files.Operations.{Operation}
use Rattle.fuse_spec.specs.Calls.Vfs.{Vfs, using}

-- The number is that of a call that was answered.
pub record WasAnswered (c : Vfs Opened) (call : ℕ) : Type 0 where
  pub begun : call < c.next_call
  pub not_waiting : get c.calls call ≡ None

-- The operation is one on the open file of this number, be it closed by now or not.
pub record UsesFile (c : Vfs Opened) (closing : Map Opened) (open_call : ℕ) (operation : Operation ℕ Opened) : Type 0 where
  pub opener : WasAnswered c open_call
  pub of_open : (o : Opened) → get c.opens open_call ≡ Some o → opens_of operation ≡ o ∷ []
  pub of_closed : (o : Opened) → get closing open_call ≡ Some o → opens_of operation ≡ o ∷ []

-- An open file has the number of the answered call that opened it. A call that uses one names it, and a closed file
-- whose RELEASE is not queued is used.
pub record ClosedFiles (c : Vfs Opened) (closing : Map Opened) : Type 0 where
  pub calls_in_order : T (is_sorted nat_cmp c.calls)
  pub closing_in_order : T (is_sorted nat_cmp closing)
  pub calls_below : (call : ℕ) → c.next_call ≤ call → get c.calls call ≡ None
  pub opens : (open_call : ℕ) (o : Opened) → get c.opens open_call ≡ Some o → WasAnswered c open_call
  pub users : (call open_call : ℕ) (operation : Operation ℕ Opened) → get c.calls call ≡ Some (using open_call operation)
      → UsesFile c closing open_call operation
  pub not_open : (open_call : ℕ) (o : Opened) → get closing open_call ≡ Some o → get c.opens open_call ≡ None
  pub used : (open_call : ℕ) (o : Opened) → get closing open_call ≡ Some o
      → list_any (is_using open_call) (values c.calls) ≡ true
