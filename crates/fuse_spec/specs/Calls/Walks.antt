-- How a call finds its files: one word after another, as far as the cached names lead.
use Rattle.std.specs.Prelude.{List, [], ◌∷◌, Option, Some, None, unwrap_or, option_to_list, flat_map}
use Rattle.fuse_spec.specs.Calls.Paths.{Name}
use Rattle.fuse_spec.specs.declared.operation.NoOpenFile.{NoOpenFile}
use Rattle.fuse_spec.specs.Files.Operations.{Operation, operation_with, files_in}
use Rattle.fuse_spec.specs.Files.Operations as op

-- The operation at the end of a call's walks, on no open file. A file that it names is one to which an earlier walk has
-- led, or is none: then it is the one to which the last walk leads. (Linux VFS)
abbrev pub FinalOperation : Type 0 → Type 0
FinalOperation F = Operation (Option F) NoOpenFile

-- What a walk is for: an operation at its end, or a rename or link, which walk a second time, along the words given.
-- (Linux VFS)
pub data WalkPlan (F : Type 0) : Type 0 where
  last : (final : FinalOperation F) → WalkPlan F
  rename : (old : Name) (words : List Name) (new : Name) → WalkPlan F
  link : (words : List Name) (name : Name) → WalkPlan F

abbrev no_open_file : {O : Type 0} → NoOpenFile → O
no_open_file o = elim o [ ]

-- The operation that is asked once the last walk has led to a file. (Linux VFS)
abbrev pub operation_at : {F O : Type 0} → FinalOperation F → F → Operation F O
operation_at final file = operation_with (λ named. unwrap_or named file) no_open_file final

-- Where the cached names leave a walk: at a name that has to be looked up, at a missing one, or at its end. (Linux
-- VFS)
pub data WalkStop (F : Type 0) : Type 0 where
  unknown : (directory : F) (word : Name) (words : List Name) → WalkStop F
  missing : WalkStop F
  arrived : (file : F) → WalkStop F

-- Along the words as far as cached names lead; `look` says what a valid cached name leads to, if there is one.
-- (Linux VFS)
abbrev pub go : {F : Type 0} → (F → Name → Option (Option F)) → F → List Name → WalkStop F
go look at [] = arrived at
go look at (word ∷ words) =
    elim (look at word) [
      | None ↦ unknown at word words
      | Some found ↦
          elim found [ None ↦ missing | Some file ↦ go look file words ]
    ]

-- What a call that walks results in: a name to be looked up, no such file, or its operation. (Linux VFS)
pub data Walked (F O : Type 0) : Type 0 where
  looks_up : (directory : F) (word : Name) (words : List Name) (plan : WalkPlan F) → Walked F O
  finds_none : Walked F O
  asks : (operation : Operation F O) → Walked F O

-- What follows when the second walk stops: a look-up, ENOENT, or the operation. (Linux VFS)
abbrev pub after_last : {F O : Type 0} → FinalOperation F → WalkStop F → Walked F O
after_last final (unknown at word words) = looks_up at word words (last final)
after_last final missing = finds_none
after_last final (arrived file) = asks (operation_at final file)

-- What follows when a walk stops; a second walk begins at the root. (Linux VFS)
abbrev pub after_stop : {F O : Type 0} → (F → Name → Option (Option F)) → F → WalkPlan F → WalkStop F → Walked F O
after_stop look root plan (unknown at word words) = looks_up at word words plan
after_stop look root plan missing = finds_none
after_stop look root (last final) (arrived file) = asks (operation_at final file)
after_stop look root (rename old words new) (arrived file) =
    after_last (op.rename (Some file) old None new) (go look root words)
after_stop look root (link words name) (arrived file) =
    after_last (op.link (Some file) None name) (go look root words)

-- The whole walk from a file along these words. (Linux VFS)
abbrev pub walk : {F O : Type 0} → (F → Name → Option (Option F)) → F → F → List Name → WalkPlan F → Walked F O
walk look root at words plan = after_stop look root plan (go look at words)

-- The files that stand in what is still to be done.
abbrev pub files_of_plan : {F : Type 0} → WalkPlan F → List F
files_of_plan (last final) = flat_map option_to_list (files_in (λ o. []) final)
files_of_plan (rename old words new) = []
files_of_plan (link words name) = []
