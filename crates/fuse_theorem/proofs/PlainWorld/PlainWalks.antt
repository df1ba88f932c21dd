-- A walk of the plain world is one in its own words, and so is how a call goes on.
use Rattle.std.proofs.Common.{◌≡◌, ℕ, ◌≤◌, Bool, true, false, cond, List, [], ◌∷◌, Option, Some, None, refl, subst, arith}
use Rattle.std.specs.Prelude.{nat_lt, unwrap_or}
use Rattle.std.proofs.lemmas.Bool.Decides.{nat_tests}
use Rattle.fuse_spec.specs.declared.Dentry.{Dentry}
use Rattle.fuse_spec.specs.Values.Maps.{get_name}
use Rattle.fuse_spec.specs.Calls.Paths.{Name}
use Rattle.fuse_spec.specs.Calls.Walks.{FinalOperation, WalkPlan, last, rename, link, WalkStop, unknown, missing, arrived, go, after_last, after_stop, operation_at}
use Rattle.fuse_spec.specs.Files.Operations.{lookup, getattr, mkdir, create, unlink, rmdir, opening, readdir, readdirplus, read, write}
use Rattle.fuse_spec.specs.Files.Operations as op
use Rattle.fuse_spec.specs.Calls.Vfs.{Vfs, Advance, valid_at, look, after_walk, walks_on}
use Rattle.fuse_spec.specs.Reference.PlainCalls.{IsNotInForce, Walks, IsNamedAt, AsksAt, GoesOn}
use Rattle.fuse_spec.specs.Reference.PlainCalls as plain

-- Where a call's walk leaves it, in words.
abbrev pub GoesOnTo : Vfs ℕ → ℕ → ℕ → List Name → WalkPlan ℕ → Advance ℕ → Type 0
GoesOnTo c number at words plan went = GoesOn c number at words plan went.vfs went.operation

-- The operation at the last file is what is asked there.
named_at : (named : Option ℕ) (file : ℕ) → IsNamedAt file named (unwrap_or named file)
named_at None file = refl
named_at (Some other) file = refl

asks_at : (final : FinalOperation ℕ) (file : ℕ) → AsksAt final file (operation_at final file)
asks_at (lookup d name) file = (named_at d file, refl)
asks_at (getattr x) file = named_at x file
asks_at (mkdir d name) file = (named_at d file, refl)
asks_at (create d name) file = (named_at d file, refl)
asks_at (unlink d name) file = (named_at d file, refl)
asks_at (rmdir d name) file = (named_at d file, refl)
asks_at (op.rename d old e new) file = (named_at d file, refl, named_at e file, refl)
asks_at (op.link x d name) file = (named_at x file, named_at d file, refl)
asks_at (opening x) file = named_at x file
asks_at (readdir d after size) file = (named_at d file, refl, refl)
asks_at (readdirplus d after size) file = (named_at d file, refl, refl)
asks_at (read o offset size) file = elim o [ ]
asks_at (write o offset bytes) file = elim o [ ]

module _ (c : Vfs ℕ) where
  -- where a walk stops whose first word finds this
  abbrev stops_at : ℕ → Name → List Name → Option (Option ℕ) → WalkStop ℕ
  stops_at at word words seen =
      elim seen [
        | None ↦ unknown at word words
        | Some found ↦ elim found [
          | None ↦ missing
          | Some file ↦ go
              (look c) file words
        ]
      ]

  module _ (at : ℕ) (word : Name) (words : List Name)
      (on : (file : ℕ) → Walks c file words (go (look c) file words)) where
    by_time : (bound : Dentry) → get_name c.names (at, word) ≡ Some bound → (in_time : Bool)
        → nat_lt c.clock bound.until ≡ in_time → (target : Option ℕ) → bound.target ≡ target
        → Walks c at (word ∷ words) (stops_at at word words (cond in_time (Some target) None))
    by_time bound there true in_time None is = plain.finds_none at word words
        (record { bound = bound; there = there; in_time = grind (arith, nat_tests, in_time); target_is = is })
    by_time bound there true in_time (Some file) is =
        plain.goes_on at file word words (go (look c) file words)
        (record { bound = bound; there = there; in_time = grind (arith, nat_tests, in_time); target_is = is })
        (on file)
    by_time bound there false late target is = plain.has_to_ask at word words over
      where
        past : bound.until ≤ c.clock
        past = grind (arith, nat_tests, late)

        over : IsNotInForce c at word
        over other found = let same : bound ≡ other = cc in subst (λ (b : Dentry). b.until ≤ c.clock) same past

    by_name : (found : Option Dentry) → get_name c.names (at, word) ≡ found
        → Walks c at (word ∷ words) (stops_at at word words (valid_at c.clock found))
    by_name None none = plain.has_to_ask at word words (λ other found. absurd (cc))
    by_name (Some bound) there = by_time bound there (nat_lt c.clock bound.until) refl bound.target refl

  -- Each walk stops where it does in words.
  pub walks : (words : List Name) (at : ℕ) → Walks c at words (go (look c) at words)
  walks [] at = plain.is_there at
  walks (word ∷ words) at = by_name at word words (λ file. walks words file) (get_name c.names (at, word)) refl

  module _ (number : ℕ) where
    after_last_walk : (at : ℕ) (words : List Name) (last_one : FinalOperation ℕ) (stop : WalkStop ℕ)
        → Walks c at words stop → GoesOnTo c number at words (last last_one)
        (after_walk c number (after_last last_one stop))
    after_last_walk at words last_one (unknown directory word rest) walked =
        plain.asks_name at words (last last_one) directory word rest walked
    after_last_walk at words last_one missing walked = plain.has_none at words (last last_one) walked
    after_last_walk at words last_one (arrived file) walked =
        plain.asks_operation at words last_one file (operation_at last_one file) walked (asks_at last_one file)

    after_first_walk : (at : ℕ) (words : List Name) (plan : WalkPlan ℕ) (stop : WalkStop ℕ) → Walks c at words stop
        → GoesOnTo c number at words plan (after_walk c number (after_stop (look c) c.root plan stop))
    after_first_walk at words plan (unknown directory word rest) walked =
        plain.asks_name at words plan directory word rest walked
    after_first_walk at words plan missing walked = plain.has_none at words plan walked
    after_first_walk at words (last last_one) (arrived file) walked =
        plain.asks_operation at words last_one file (operation_at last_one file) walked (asks_at last_one file)
    after_first_walk at words (rename old more new) (arrived file) walked =
        let went = after_walk c number (after_last (op.rename (Some file) old None new) (go (look c) c.root more)) in
        GoesOn.renames at words old more new file went.vfs went.operation walked
        (after_last_walk c.root more (op.rename (Some file) old None new) (go (look c) c.root more) (walks more c.root))
    after_first_walk at words (link more name) (arrived file) walked =
        let went = after_walk c number (after_last (op.link (Some file) None name) (go (look c) c.root more)) in
        GoesOn.links at words more name file went.vfs went.operation walked
        (after_last_walk c.root more (op.link (Some file) None name) (go (look c) c.root more) (walks more c.root))

    -- A call goes on as it does in words.
    pub goes_on : (at : ℕ) (words : List Name) (plan : WalkPlan ℕ)
        → GoesOnTo c number at words plan (walks_on c number at words plan)
    goes_on at words plan = after_first_walk at words plan (go (look c) at words) (walks words at)
