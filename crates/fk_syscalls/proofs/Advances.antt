-- What a call results in, by where cached names leave its walk.
use Rattle.std.proofs.Common.{◌≡◌, ℕ, Bool, true, false, cond, true≢false, List, [], ◌∷◌, ◌++◌, Option, Some, None, Result, Ok, Err, drop, nat_eq, refl, ap, sym, ◌∙◌, arith}
use Rattle.std.specs.Prelude.{OnErr, IfOk, is_some, is_none, ◌||◌, ◌&&◌, Vec, map, flat_map, option_to_list, unwrap_or}
use Rattle.std.specs.Option.{MatchOption}
use Rattle.fuse_spec.specs.Files.Operations as op
use Rattle.fuse_spec.specs.Files.Operations.{files_in, opened_nodes}
use Rattle.fuse_spec.specs.Calls.Begins.{Beginning, beginning}
use Rattle.fk_syscalls.specs.declared.state.Next.{Next}
use Rattle.fk_syscalls.specs.Values.{IsBegun}
use Rattle.std.specs.declared.alloc.AllocError.{AllocError}
use Rattle.fk_syscalls.specs.declared.walk.Stop.{Stop}
use Rattle.fuse_spec.specs.Calls.Answers.{failed}
use Rattle.fuse_spec.specs.Kernel.Kernel.{nodes_of_state}
use Rattle.fuse_spec.specs.Values.Maps.{Map, NameMap}
use Rattle.fuse_spec.specs.Calls.Calls.{Call}
use Rattle.std.specs.List.{list_any}
use Rattle.fuse_spec.specs.Calls.Paths.{Name, split}
use Rattle.fuse_spec.specs.Calls.Vfs.{CallState, walking, Vfs, Advance, look, asking, no_more, answered, after_walk, after_beginning, walks_on, begun, numbered}
use Rattle.fuse_spec.specs.Calls.Walks.{WalkPlan, WalkStop, FinalOperation, operation_at, last, rename, link, go, after_stop, after_last, files_of_plan, unknown, missing, arrived}
use Rattle.fuse_spec.specs.declared.Dentry.{Dentry}
use Rattle.fuse_spec.specs.declared.Opened.{Opened}
use Rattle.fk_syscalls.specs.Walks.{known, stop_at}
use Rattle.fk_syscalls.specs.Words.{words_from, behind_first}
use Rattle.fk_syscalls.specs.Plans.{IsLast, IsSoundPlan, NamesEnd, names_end, plan_of}
use Rattle.fk_syscalls.specs.declared.plan.Plan.{Plan}
use Rattle.fk_syscalls.specs.declared.plan.Plan.TheVariants.{Last, Rename, Link}
use Rattle.fk_syscalls.specs.States.{IsSoundWait, walking_at, state_of, HasCachedNames, BeginsAsking}
use Rattle.fk_syscalls.specs.declared.state.WaitsFor.{WaitsFor}
use Rattle.fk_syscalls.specs.declared.state.WaitsFor.TheVariants.{Walks, Reads, Writes}
use Rattle.std.proofs.lemmas.Bool.Decides.{nat_tests}

module _ (c : Vfs Opened) (names : NameMap Dentry) (clock : ℕ) (has : HasCachedNames c names clock) (call : ℕ) where
  module _ (words : List Name) (plan : WalkPlan ℕ) where
    abbrev after : WalkStop ℕ → Advance Opened
    after stop = after_walk c call (after_stop (look c) c.root plan stop)

    module _ (from : ℕ) where
      walks : walks_on c call from words plan ≡ after (go (known names clock) from words)
      walks = λ i. after (go (known (has.names i) (has.clock i)) from words)

      -- where a word is left, or no second walk follows
      by_left : (node : ℕ) (left : List Name) → (left ≡ [] → IsLast plan)
          → after (stop_at node left) ≡ asking c call (walking_at node left plan)
      by_left node [] ends = by_plan plan (ends refl)
        where
          by_plan : (p : WalkPlan ℕ) → IsLast p → after_walk c call (after_stop (look c) c.root p (arrived node))
              ≡ asking c call (walking_at node [] p)
          by_plan (last operation) is = refl
          by_plan (rename old words new) is = absurd is
          by_plan (link words name) is = absurd is
      by_left node (word ∷ left) ends = refl

      pub waits : (node : ℕ) (left : List Name) → (left ≡ [] → IsLast plan)
          → go (known names clock) from words ≡ stop_at node left
          → walks_on c call from words plan ≡ asking c call (walking_at node left plan)
      waits node left ends stop = walks ∙ ap after stop ∙ by_left node left ends

      pub finds_none : go (known names clock) from words ≡ missing
          → walks_on c call from words plan ≡ no_more (answered c call (failed 2))
      finds_none stop = walks ∙ ap after stop

  pub waits_at_end : (words : List Name) (operation : FinalOperation ℕ) (from node : ℕ)
      → go (known names clock) from words ≡ arrived node
      → walks_on c call from words (last operation) ≡ asking c call (walking_at node [] (last operation))
  waits_at_end words operation from node arrives = waits words (last operation) from node [] (λ e. tt) arrives

  -- The second walk is a walk of its own.
  same_walk : (operation : FinalOperation ℕ) (stop : WalkStop ℕ)
      → after_walk c call (after_last operation stop) ≡ after_walk c call
      (after_stop (look c) c.root (last operation) stop)
  same_walk operation (unknown at word words) = refl
  same_walk operation missing = refl
  same_walk operation (arrived file) = refl

  pub renames : (from : ℕ) (words : List Name) (old : Name) (more : List Name) (new : Name) (node : ℕ)
      → go (known names clock) from words ≡ arrived node
      → walks_on c call from words (rename old more new) ≡ walks_on c call c.root more (last (op.rename (Some node) old None new))
  renames from words old more new node stop = walks words (rename old more new) from ∙ ap
      (after words (rename old more new)) stop ∙ same_walk (op.rename (Some node) old None new) (go (look c) c.root more)

  pub links : (from : ℕ) (words : List Name) (more : List Name) (name : Name) (node : ℕ)
      → go (known names clock) from words ≡ arrived node
      → walks_on c call from words (link more name) ≡ walks_on c call c.root more (last (op.link (Some node) None name))
  links from words more name node stop = walks words (link more name) from ∙ ap
      (after words (link more name)) stop ∙ same_walk (op.link (Some node) None name) (go (look c) c.root more)

  -- from the root
  pub root_is : (words : List Name) (plan : WalkPlan ℕ)
      → walks_on c call c.root words plan ≡ walks_on c call 1 words plan
  root_is words plan = ap (λ (root : ℕ). walks_on c call root words plan) has.root

  pub all_root_waits : (words : List Name) (plan : WalkPlan ℕ) (node : ℕ) (left : List Name)
      → (left ≡ [] → IsLast plan) → go (known names clock) 1 words ≡ stop_at node left
      → walks_on c call c.root words plan ≡ asking c call (walking_at node left plan)
  all_root_waits words plan node left ends stop = root_is words plan ∙ waits words plan 1 node left ends stop

  -- from the root, where no walk follows
  module _ (words : List Name) (operation : FinalOperation ℕ) where
    pub root_waits : (node : ℕ) (left : List Name) → go (known names clock) 1 words ≡ stop_at node left
        → walks_on c call c.root words (last operation) ≡ asking c call (walking_at node left (last operation))
    root_waits node left stop = root_is words (last operation) ∙ waits words (last operation) 1 node left (λ e. tt) stop

    pub root_none : go (known names clock) 1 words ≡ missing
        → walks_on c call c.root words (last operation) ≡ no_more (answered c call (failed 2))
    root_none stop = root_is words (last operation) ∙ finds_none words (last operation) 1 stop

    -- whether it asks is whether it stands
    pub root_asks : (bytes : List ℕ) (r : Option Stop)
        → MatchOption r (go (known names clock) 1 words ≡ missing)
        (λ stop. go (known names clock) 1 words ≡ stop_at stop.node (words_from bytes stop.at))
        → is_some (walks_on c call c.root words (last operation)).operation ≡ is_some r
    root_asks bytes None stop = ap (λ (a : Advance Opened). is_some a.operation) (root_none stop)
    root_asks bytes (Some s) stop = ap (λ (a : Advance Opened). is_some a.operation)
        (root_waits s.node (words_from bytes s.at) stop)

-- What is behind the word that is looked up, and what is to be done at the end.
pub left_to_walk : (node : ℕ) (left : List Name) (aim : WalkPlan ℕ) (directory : ℕ) (word : Name) (words : List Name)
    (plan : WalkPlan ℕ) → walking_at node left aim ≡ walking directory word words plan
    → (words ≡ behind_first left) × (plan ≡ aim)
left_to_walk node [] (last operation) directory word words plan e = cc
left_to_walk node [] (rename old more new) directory word words plan e = cc
left_to_walk node [] (link more name) directory word words plan e = cc
left_to_walk node (first ∷ left) aim directory word words plan e = (cc, cc)

-- A call that looked up a word walks on along those behind it.
pub looks_on : (c : Vfs Opened) (call from node : ℕ) (left : List Name) (aim : WalkPlan ℕ) (directory : ℕ)
    (word : Name) (words : List Name) (plan : WalkPlan ℕ) (next : List Name)
    → walking_at node left aim ≡ walking directory word words plan → next ≡ behind_first left
    → walks_on c call from words plan ≡ walks_on c call from next aim
looks_on c call from node left aim directory word words plan next e behind =
    let both = left_to_walk node left aim directory word words plan e in
    ap (λ (p : WalkPlan ℕ). walks_on c call from words p) both.1 ∙ ap (λ (ws : List Name). walks_on c call from ws aim)
    (both.0 ∙ sym behind)

-- Where a place is left a word is left, and else none.
split_some : (word : Name) (bytes : List ℕ) {T : Type 0} → split word bytes ≡ [] → T
split_some word [] e = cc
split_some word (b ∷ bytes) {T} e = by (nat_eq b 47) e (split_some (word ++ b ∷ []) bytes)
  where
    by : (t : Bool) → cond t (word ∷ split [] bytes) (split (word ++ b ∷ []) bytes) ≡ []
        → (split (word ++ b ∷ []) bytes ≡ [] → T) → T
    by true is rest = cc
    by false is rest = rest is

pub some_left : (bytes : List ℕ) (at : Option ℕ) {T : Type 0} → is_some at ≡ true → words_from bytes at ≡ [] → T
some_left bytes None is e = absurd (true≢false (sym is))
some_left bytes (Some place) is e = split_some [] (drop place bytes) e

pub none_left : (bytes : List ℕ) (at : Option ℕ) → is_some at ≡ false → words_from bytes at ≡ []
none_left bytes None is = refl
none_left bytes (Some place) is = absurd (true≢false is)

-- What holds always holds at an error.
pub if_err : {T E : Type 0} {X : Type 0} (r : Result T E) → X → OnErr r X
if_err (Ok t) x = tt
if_err (Err e) x = x

-- What holds at an error follows from what else holds there.
pub on_err : {T E : Type 0} {X Y : Type 0} (r : Result T E) → (X → Y) → OnErr r X → OnErr r Y
on_err (Ok t) then x = tt
on_err (Err e) then x = then x

-- Beginnings that leave a call alike.
module _ {A : Type 0} (names : NameMap Dentry) (clock : ℕ) (one other : Beginning ℕ Opened)
    (same : (c : Vfs Opened) (call : ℕ) → HasCachedNames c names clock
    → after_beginning c call one ≡ after_beginning c call other) where
  pub begun_so : (r : Result (Next A) AllocError) → IfOk r (IsBegun names clock other)
      → IfOk r (IsBegun names clock one)
  begun_so (Ok next) begun = λ c call has. same c call has ∙ begun c call has
  begun_so (Err e) begun = tt

  pub asks_so : (r : Result (Next A) AllocError) → OnErr r (BeginsAsking names clock other) → OnErr r (BeginsAsking names clock one)
  asks_so (Ok next) asks = tt
  asks_so (Err e) asks = λ c call has. ((asks c call has).0, same c call has ∙ (asks c call has).1)

-- What the first step of a call asks.
module _ {A : Type 0} (names : NameMap Dentry) (clock : ℕ) (opens : Map Opened) (made : Call)
    (begins : Beginning ℕ Opened) where
  abbrev AsksFirst : Result (Next A) AllocError → Type 0
  AsksFirst r = OnErr r ((c : Vfs Opened) → HasCachedNames c names clock → c.opens ≡ opens
      → (state : CallState Opened) × (begun false c made ≡ asking (numbered c) c.next_call state))

  pub first_asks : ((c : Vfs Opened) → beginning c.opens made ≡ begins) → (r : Result (Next A) AllocError)
      → OnErr r (BeginsAsking names clock begins) → AsksFirst r
  first_asks same (Ok next) asks = tt
  first_asks same (Err e) asks = λ c has is.
      let first = asks (numbered c) c.next_call (record { names = has.names; clock = has.clock; root = has.root }) in
      (first.0, ap (after_beginning (numbered c) c.next_call) (same c) ∙ first.1)

  -- of a call on an open file
  pub file_asks : ((c : Vfs Opened) → c.opens ≡ opens → beginning c.opens made ≡ begins)
      → (r : Result (Next A) AllocError)
      → OnErr r ((c : Vfs Opened) (call : ℕ) → (state : CallState Opened)
      × (after_beginning c call begins ≡ asking c call state)) → AsksFirst r
  file_asks same (Ok next) asks = tt
  file_asks same (Err e) asks = λ c has is.
      let first = asks (numbered c) c.next_call in
      (first.0, ap (after_beginning (numbered c) c.next_call) (same c is) ∙ first.1)

-- Which nodes a call names that walks, or whose walks are over.
module _ (node at : ℕ) where
  abbrev among : List ℕ → Bool
  among = list_any (nat_eq node)

  at_none : (e n l a : Bool) → l ≡ ((n && e) || a) → (e || l) ≡ (((true || n) && e) || a)
  at_none true n l a h = refl
  at_none false true l a h = h
  at_none false false l a h = h

  at_some : (d e n l a : Bool) → l ≡ ((n && e) || a) → (d || l) ≡ ((n && e) || (d || a))
  at_some true true true l a h = refl
  at_some true true false l a h = refl
  at_some true false true l a h = refl
  at_some true false false l a h = refl
  at_some false e n l a h = h

  -- files of an operation, by what is put in where it names none
  put_in : (files : List (Option ℕ)) → among (map (λ (named : Option ℕ). unwrap_or named at) files)
      ≡ ((list_any is_none files && nat_eq node at) || among (flat_map option_to_list files))
  put_in [] = refl
  put_in (None ∷ files) = at_none (nat_eq node at) (list_any is_none files)
      (among (map (λ (named : Option ℕ). unwrap_or named at) files)) (among (flat_map option_to_list files)) (put_in files)
  put_in (Some file ∷ files) = at_some (nat_eq node file) (nat_eq node at) (list_any is_none files)
      (among (map (λ (named : Option ℕ). unwrap_or named at) files)) (among (flat_map option_to_list files)) (put_in files)

  files_at : (final : FinalOperation ℕ) → files_in opened_nodes (operation_at {O = Opened} final at)
      ≡ map (λ (named : Option ℕ). unwrap_or named at) (files_in (λ o. []) final)
  files_at (op.lookup d name) = refl
  files_at (op.getattr x) = refl
  files_at (op.mkdir d name) = refl
  files_at (op.create d name) = refl
  files_at (op.unlink d name) = refl
  files_at (op.rmdir d name) = refl
  files_at (op.rename d old e new) = refl
  files_at (op.link x d name) = refl
  files_at (op.opening x) = refl
  files_at (op.readdir d after size) = refl
  files_at (op.readdirplus d after size) = refl
  files_at (op.read o offset size) = elim o [ ]
  files_at (op.write o offset bytes) = elim o [ ]

  at_end_named : (final : FinalOperation ℕ) → names_end final ≡ true
      → among (files_in opened_nodes (operation_at {O = Opened} final at))
      ≡ (nat_eq node at || among (files_of_plan (last final)))
  at_end_named final ends = ap among (files_at final) ∙ put_in (files_in (λ o. []) final) ∙ ap
      (λ (n : Bool). (n && nat_eq node at) || among (files_of_plan (last final))) ends

  pub names_walked : (words : List Name) (plan : WalkPlan ℕ) → NamesEnd plan
      → among (nodes_of_state (walking_at at words plan)) ≡ (nat_eq node at || among (files_of_plan plan))
  names_walked (word ∷ words) plan ends = refl
  names_walked [] (rename old words new) ends = refl
  names_walked [] (link words name) ends = refl
  names_walked [] (last final) ends = at_end_named final ends

pub plan_ends : {A : Type 0} (plan : Plan (Vec ℕ A)) → IsSoundPlan (λ s. s.items) plan
    → NamesEnd (plan_of (λ s. s.items) plan)
plan_ends (Last final) sound = sound.ends
plan_ends (Rename old words at new) sound = tt
plan_ends (Link words at name) sound = tt

-- A call names the node at which it stands.
itself : (node at : ℕ) → at ≡ node → nat_eq node at ≡ true
itself node at same = grind (arith, nat_tests)

pub names_self : {A : Type 0} (node at : ℕ) (words : List Name) (place : Option ℕ) (aim : WaitsFor A)
    → IsSoundWait place aim → at ≡ node
    → list_any (nat_eq node) (nodes_of_state (state_of at words aim)) ≡ true
names_self node at words place (Walks plan) sound same =
    names_walked node at words (plan_of (λ s. s.items) plan) (plan_ends plan sound.0) ∙ ap
    (λ (b : Bool). b || list_any (nat_eq node) (files_of_plan (plan_of (λ s. s.items) plan))) (itself node at same)
names_self node at words place (Reads open_call fh offset size) sound same = ap (λ (b : Bool). b || false) (itself node at same)
names_self node at words place (Writes open_call fh offset bytes) sound same = ap (λ (b : Bool). b || false) (itself node at same)
