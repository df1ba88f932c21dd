-- How a call of the plain world begins, in its own words.
use Rattle.std.proofs.Common.{◌≡◌, ℕ, ◌<◌, ◌≤◌, ◌⊎◌, inl, inr, Bool, true, false, ◌||◌, cond, List, [], ◌∷◌, ◌++◌, Option, Some, None, Result, Ok, Err, length, refl, ap, arith}
use Rattle.std.specs.Prelude.{nat_lt}
use Rattle.std.proofs.lemmas.Bool.Decides.{nat_tests}
use Rattle.fuse_spec.specs.Values.Maps.{get}
use Rattle.fuse_spec.specs.Values.Numbers.{einval, max_file, max_transfer}
use Rattle.fuse_spec.specs.Calls.Paths.{Name, path_words_of, parent_and_last}
use Rattle.fuse_spec.specs.Files.Operations as op
use Rattle.fuse_spec.specs.Calls.Walks.{WalkPlan, last, rename, link}
use Rattle.fuse_spec.specs.Calls.Calls.{Call}
use Rattle.fuse_spec.specs.Calls.Calls as call
use Rattle.fuse_spec.specs.Calls.Begins.{Beginning, faulty, sets_out, uses, whole_path, parent_path, using, closing, beginning}
use Rattle.fuse_spec.specs.Calls.Vfs.{Vfs, after_beginning, walks_on}
use Rattle.fuse_spec.specs.Reference.PlainCalls.{TakesWalk, HasNoName, is_faulty, is_root, Fails, Begins}
use Rattle.fuse_spec.specs.Reference.PlainCalls as plain
use Rattle.fuse_theorem.proofs.PlainWorld.PlainWalks.{goes_on}

-- Words that end in a last one, or none.
abbrev EndsIn : List Name → Option (List Name × Name) → Type 0
EndsIn words None = words ≡ []
EndsIn words (Some parts) = words ≡ parts.0 ++ parts.1 ∷ []

ends_in : (words : List Name) → EndsIn words (parent_and_last words)
ends_in [] = refl
ends_in (word ∷ words) = by (parent_and_last words) (ends_in words)
  where
    by : (o : Option (List Name × Name)) → EndsIn words o
        → EndsIn (word ∷ words) (elim o [ None ↦ Some ([], word) | Some parts ↦ Some (word ∷ parts.0, parts.1) ])
    by None e = ap (λ (rest : List Name). word ∷ rest) e
    by (Some parts) e = ap (λ (rest : List Name). word ∷ rest) e

-- what a test of two bounds says
too_far : (a b x y : ℕ) (first second : Bool) → nat_lt a x ≡ first → nat_lt b y ≡ second → (first || second) ≡ true
    → (a < x) ⊎ (b < y)
too_far a b x y true second e f is = inl (grind (arith, nat_tests, e))
too_far a b x y false true e f is = inr (grind (arith, nat_tests, f))
too_far a b x y false false e f is = absurd (cc)

within : (a b x y : ℕ) (first second : Bool) → nat_lt a x ≡ first → nat_lt b y ≡ second → (first || second) ≡ false
    → (x ≤ a) × (y ≤ b)
within a b x y true second e f is = absurd (cc)
within a b x y false true e f is = absurd (cc)
within a b x y false false e f is = (grind (arith, nat_tests, e), grind (arith, nat_tests, f))

module _ (c : Vfs ℕ) (number : ℕ) where
  -- A call that begins so does it in words.
  abbrev BeginsBy : Call → Beginning ℕ ℕ → Type 0
  BeginsBy x b = Begins c number x (after_beginning c number b).vfs (after_beginning c number b).operation

  fails : (x : Call) (errno : ℕ) → Fails c.opens x errno → BeginsBy x (faulty errno)
  fails x errno failed = Begins.fails x errno failed

  sets : (x : Call) (words : List Name) (plan : WalkPlan ℕ) → TakesWalk x words plan → BeginsBy x (sets_out words plan)
  sets x words plan takes = let went = walks_on c number c.root words plan in
      Begins.sets_out x words plan went.vfs went.operation takes (goes_on c number c.root words plan)

  along : (x : Call) (path : List ℕ) (then : List Name → Beginning ℕ ℕ)
      → ((errno : ℕ) → path_words_of path ≡ Err errno → BeginsBy x (faulty errno))
      → ((words : List Name) → path_words_of path ≡ Ok words → BeginsBy x (then words)) → BeginsBy x (whole_path path then)
  along x path then bad good = by (path_words_of path) refl
    where
      by : (r : Result (List Name) ℕ) → path_words_of path ≡ r
          → BeginsBy x (elim r [ Err fault ↦ faulty fault | Ok words ↦ then words ])
      by (Err errno) e = bad errno e
      by (Ok words) e = good words e

  up_to_last : (x : Call) (path : List ℕ) (then : List Name → Name → Beginning ℕ ℕ)
      → ((errno : ℕ) → HasNoName path errno → BeginsBy x (faulty errno))
      → ((words : List Name) (name : Name) → path_words_of path ≡ Ok (words ++ name ∷ []) → BeginsBy x (then words name))
      → BeginsBy x (parent_path path then)
  up_to_last x path then bad good = along x path _ (λ errno e. bad errno (is_faulty path errno e))
      (λ words e. by words e (parent_and_last words) (ends_in words))
    where
      by : (words : List Name) → path_words_of path ≡ Ok words → (o : Option (List Name × Name)) → EndsIn words o
          → BeginsBy x (elim o [ None ↦ faulty einval | Some parts ↦ then parts.0 parts.1 ])
      by words e None none = bad einval (is_root path (cc))
      by words e (Some parts) ends = good parts.0 parts.1 (cc)

  reads : (open_call offset size : ℕ) → BeginsBy (call.read open_call offset size)
      (using open_call (get c.opens open_call) offset size (λ opened. op.read opened offset size))
  reads open_call offset size = by (get c.opens open_call) refl
    where
      by_size : (file : ℕ) → get c.opens open_call ≡ Some file → (far : Bool)
          → (nat_lt max_file offset || nat_lt max_transfer size) ≡ far
          → BeginsBy (call.read open_call offset size) (cond far (faulty einval) (uses open_call (op.read file offset size)))
      by_size file there true far = fails (call.read open_call offset size) einval
          (plain.read_too_far open_call offset size file there
          (too_far max_file max_transfer offset size (nat_lt max_file offset) (nat_lt max_transfer size) refl refl far))
      by_size file there false near = let low = within max_file max_transfer offset size (nat_lt max_file offset)
          (nat_lt max_transfer size) refl refl near in Begins.reads open_call offset size file there low.0 low.1

      by : (o : Option ℕ) → get c.opens open_call ≡ o → BeginsBy (call.read open_call offset size)
          (using open_call o offset size (λ opened. op.read opened offset size))
      by None none = fails (call.read open_call offset size) _ (plain.read_of_none open_call offset size none)
      by (Some file) there = by_size file there (nat_lt max_file offset || nat_lt max_transfer size) refl

  writes : (open_call offset : ℕ) (bytes : List ℕ) → BeginsBy (call.write open_call offset bytes)
      (using open_call (get c.opens open_call) offset (length bytes) (λ opened. op.write opened offset bytes))
  writes open_call offset bytes = by (get c.opens open_call) refl
    where
      by_size : (file : ℕ) → get c.opens open_call ≡ Some file → (far : Bool)
          → (nat_lt max_file offset || nat_lt max_transfer (length bytes)) ≡ far
          → BeginsBy (call.write open_call offset bytes) (cond far (faulty einval)
          (uses open_call (op.write file offset bytes)))
      by_size file there true far = fails (call.write open_call offset bytes) einval
          (plain.write_too_far open_call offset file bytes there
          (too_far max_file max_transfer offset (length bytes) (nat_lt max_file offset)
          (nat_lt max_transfer (length bytes)) refl refl far))
      by_size file there false near = let low = within max_file max_transfer offset (length bytes)
          (nat_lt max_file offset) (nat_lt max_transfer (length bytes)) refl refl near in
          Begins.writes open_call offset bytes file there low.0 low.1

      by : (o : Option ℕ) → get c.opens open_call ≡ o → BeginsBy (call.write open_call offset bytes)
          (using open_call o offset (length bytes) (λ opened. op.write opened offset bytes))
      by None none = fails (call.write open_call offset bytes) _ (plain.write_to_none open_call offset bytes none)
      by (Some file) there = by_size file there (nat_lt max_file offset || nat_lt max_transfer (length bytes)) refl

  closes : (open_call : ℕ) → BeginsBy (call.close open_call) (closing open_call (get c.opens open_call))
  closes open_call = by (get c.opens open_call) refl
    where
      by : (o : Option ℕ) → get c.opens open_call ≡ o → BeginsBy (call.close open_call) (closing open_call o)
      by None none = fails (call.close open_call) _ (plain.close_of_none open_call none)
      by (Some file) there = Begins.closes open_call file there

  -- Each call begins as it does in words.
  pub begins : (x : Call) → BeginsBy x (beginning c.opens x)
  begins (call.stat path) = along (call.stat path) path _
      (λ errno e. fails (call.stat path) errno (plain.of_stat path errno e))
      (λ words e. sets (call.stat path) words (last (op.getattr None)) (plain.stats path words e))
  begins (call.list path after) =
      along (call.list path after) path _ (λ errno e. fails (call.list path after) errno
      (plain.of_list path after errno e)) (λ words e. sets (call.list path after) words (last (op.readdir None after max_transfer))
      (plain.lists path after words e))
  begins (call.listplus path after) =
      along (call.listplus path after) path _ (λ errno e. fails (call.listplus path after) errno
      (plain.of_listplus path after errno e)) (λ words e. sets (call.listplus path after) words
      (last (op.readdirplus None after max_transfer)) (plain.lists_files path after words e))
  begins (call.opening path) = along (call.opening path) path _
      (λ errno e. fails (call.opening path) errno (plain.of_open path errno e))
      (λ words e. sets (call.opening path) words (last (op.opening None)) (plain.opens path words e))
  begins (call.mkdir path) =
      up_to_last (call.mkdir path) path _ (λ errno none. fails (call.mkdir path) errno
      (plain.of_mkdir path errno none)) (λ words name e. sets (call.mkdir path) words (last (op.mkdir None name))
      (plain.mkdirs path words name e))
  begins (call.create path) =
      up_to_last (call.create path) path _ (λ errno none. fails (call.create path) errno
      (plain.of_create path errno none)) (λ words name e. sets (call.create path) words (last (op.create None name))
      (plain.creates path words name e))
  begins (call.unlink path) =
      up_to_last (call.unlink path) path _ (λ errno none. fails (call.unlink path) errno
      (plain.of_unlink path errno none)) (λ words name e. sets (call.unlink path) words (last (op.unlink None name))
      (plain.unlinks path words name e))
  begins (call.rmdir path) =
      up_to_last (call.rmdir path) path _ (λ errno none. fails (call.rmdir path) errno
      (plain.of_rmdir path errno none)) (λ words name e. sets (call.rmdir path) words (last (op.rmdir None name))
      (plain.rmdirs path words name e))
  begins (call.rename old new) =
      up_to_last (call.rename old new) old _ (λ errno none. fails (call.rename old new) errno
      (plain.of_old old new errno none))
      (λ words from e. up_to_last (call.rename old new) new _
      (λ errno none. fails (call.rename old new) errno (plain.of_new old new words from errno e none))
      (λ more to f. sets (call.rename old new) words (rename from more to)
      (TakesWalk.renames old new words more from to e f)))
  begins (call.link old new) =
      along (call.link old new) old _ (λ errno e. fails (call.link old new) errno (plain.of_linked old new errno e))
      (λ words e. up_to_last (call.link old new) new _
      (λ errno none. fails (call.link old new) errno (plain.of_link old new words errno e none))
      (λ more name f. sets (call.link old new) words (link more name) (TakesWalk.links old new words more name e f)))
  begins (call.read open_call offset size) = reads open_call offset size
  begins (call.write open_call offset bytes) = writes open_call offset bytes
  begins (call.close open_call) = closes open_call
