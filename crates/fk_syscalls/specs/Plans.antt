-- What a call's walks are for.
use Rattle.std.specs.Prelude.{◌≡◌, ℕ, Bool, true, false, List, [], Option, All, is_none}
use Rattle.std.specs.List.{list_any}
use Rattle.fuse_spec.specs.Calls.Walks.{FinalOperation, WalkPlan, last, rename, link}
use Rattle.fuse_spec.specs.Files.Operations.{files_in, operation_names, operation_of}
use Rattle.fuse_spec.specs.declared.operation.NoOpenFile.{NoOpenFile}
use Rattle.fuse_spec.specs.declared.operation.Operation.{Operation}
use Rattle.fuse_spec.specs.declared.operation.Operation.TheVariants.{Lookup}
use Rattle.fk_syscalls.specs.Words.{words_from, IsWord, AreWords}
use Rattle.fk_syscalls.specs.declared.plan.Plan.{Plan}
use Rattle.fk_syscalls.specs.declared.plan.Plan.TheVariants.{Last, Rename, Link}

abbrev pub is_lookup : {S N O : Type 0} → Operation S N O → Bool
is_lookup (Lookup directory name) = true
is_lookup asked = false

-- The operation names the file to which the last walk leads.
abbrev pub names_end : FinalOperation ℕ → Bool
names_end final = list_any is_none (files_in (λ o. []) final)

-- The operation at the end of a call's walks: it is of the file to which the last walk leads, its names are words, and
-- it looks up no name.
pub record IsSoundFinal {S : Type 0} (bytes_of : S → List ℕ) (final : Operation S (Option ℕ) NoOpenFile) : Type 0 where
  pub words : All IsWord (operation_names (operation_of bytes_of final))
  pub looks_up_none : is_lookup final ≡ false
  pub ends : names_end (operation_of bytes_of final) ≡ true

-- What a walk is for, its words and names read by this.
abbrev pub plan_of : {S : Type 0} → (S → List ℕ) → Plan S → WalkPlan ℕ
plan_of bytes_of (Last final) = last (operation_of bytes_of final)
plan_of bytes_of (Rename old words at new) = rename (bytes_of old) (words_from (bytes_of words) at) (bytes_of new)
plan_of bytes_of (Link words at name) = link (words_from (bytes_of words) at) (bytes_of name)

-- Only words without a fault are asked for.
abbrev pub IsSoundPlan : {S : Type 0} → (S → List ℕ) → Plan S → Type 0
IsSoundPlan bytes_of (Last final) = IsSoundFinal bytes_of final
IsSoundPlan bytes_of (Rename old words at new) =
    IsWord (bytes_of old) × AreWords (bytes_of words) at × IsWord (bytes_of new)
IsSoundPlan bytes_of (Link words at name) = AreWords (bytes_of words) at × IsWord (bytes_of name)

-- The operation, where it is known, names the file to which the last walk leads.
abbrev pub NamesEnd : WalkPlan ℕ → Type 0
NamesEnd (last final) = names_end final ≡ true
NamesEnd (rename old words new) = Unit {0}
NamesEnd (link words name) = Unit {0}

-- The plan has no second walk.
abbrev pub IsLast : WalkPlan ℕ → Type 0
IsLast (last final) = Unit {0}
IsLast (rename old words new) = ⊥
IsLast (link words name) = ⊥
