-- Where a call stands follows from what it has asked, and what goes with it.
use Rattle.std.proofs.Common.{◌≡◌, ◌≢◌, ℕ, true, false, true≢false, List, Option, Some, None, refl, ap, sym, ◌∙◌}
use Rattle.std.specs.Prelude.{Bool, is_some, not}
use Rattle.fuse_spec.specs.declared.Entry.{Entry}
use Rattle.fuse_spec.specs.declared.Opened.{Opened}
use Rattle.fuse_spec.specs.Kernel.Kernel.{Kernel, closed_by, after_use}
use Rattle.fuse_spec.specs.Values.Maps.{Map, Place}
use Rattle.fuse_spec.specs.Files.Operations.{Operation, lookup, getattr, mkdir, create, unlink, rmdir, rename, link, opening, readdir, readdirplus, read, write}
use Rattle.fuse_spec.specs.Files.Operations as reply
use Rattle.fuse_spec.specs.Files.Operations.{DirentPlus, entry_place}
use Rattle.fuse_spec.specs.Calls.Paths.{Name}
use Rattle.fuse_spec.specs.Kernel.Replies.{goes_with}
use Rattle.fuse_spec.specs.Calls.Vfs.{CallState, walking, doing, using, asked}
use Rattle.fuse_spec.specs.Calls.Walks.{WalkPlan}
use Rattle.fk_syscalls.specs.States.{StandsAt, used_by}
use Rattle.fk_syscalls.specs.Values.{call_of, ClosesNone}
use Rattle.fk_syscalls.specs.declared.call.Call.{Call}
use Rattle.fk_syscalls.specs.declared.call.Call.TheVariants.{Stat, List as Lists, ListPlus, Open, Mkdir, Create, Unlink, Rmdir, Rename, Link, Read, Write, Close}
use Rattle.fk_kernel.specs.Entries.{MakesName, Makes, mkdirs, links, Creates, IsOpening, ListsPlus}

pub asked_is : (operation : Operation ℕ Opened) (state : CallState Opened) → StandsAt operation state
    → asked state ≡ operation
asked_is (lookup d w) state s = ap asked s.is
asked_is (getattr x) state s = ap asked s
asked_is (mkdir d n) state s = ap asked s
asked_is (create d n) state s = ap asked s
asked_is (unlink d n) state s = ap asked s
asked_is (rmdir d n) state s = ap asked s
asked_is (rename d o e n) state s = ap asked s
asked_is (link x d n) state s = ap asked s
asked_is (opening x) state s = ap asked s
asked_is (readdir d a z) state s = ap asked s
asked_is (readdirplus d a z) state s = ap asked s
asked_is (read o f z) state s = ap asked s.is
asked_is (write o f b) state s = ap asked s.is

-- A call that does not look up a word makes a name, where an entry goes with what it asked.
abbrev pub LooksNone : CallState Opened → Type 0
LooksNone state = (directory : ℕ) (word : Name) (words : List Name) (plan : WalkPlan ℕ)
    → Some state ≢ Some (walking directory word words plan)

pub makes_found : (operation : Operation ℕ Opened) (state : CallState Opened) (g : Entry) (valid : ℕ)
    → StandsAt operation state → goes_with operation (reply.found g valid) ≡ true → LooksNone state → Makes (Some state)
makes_found (lookup d w) state g valid s goes other = absurd (other d w s.words s.plan (ap Some s.is))
makes_found (mkdir d n) state g valid s goes other =
    record { operation = mkdir d n; place = (d, n); makes = mkdirs d n; is = ap Some s }
makes_found (link x d n) state g valid s goes other =
    record { operation = link x d n; place = (d, n); makes = links x d n; is = ap Some s }
makes_found operation state g valid s goes other = absurd (true≢false (sym goes))

pub makes_missing : (operation : Operation ℕ Opened) (state : CallState Opened) (valid : ℕ) → StandsAt operation state
    → goes_with operation (reply.missing valid) ≡ true → LooksNone state → Makes (Some state)
makes_missing (lookup d w) state valid s goes other = absurd (other d w s.words s.plan (ap Some s.is))
makes_missing (mkdir d n) state valid s goes other =
    record { operation = mkdir d n; place = (d, n); makes = mkdirs d n; is = ap Some s }
makes_missing (link x d n) state valid s goes other =
    record { operation = link x d n; place = (d, n); makes = links x d n; is = ap Some s }
makes_missing operation state valid s goes other = absurd (true≢false (sym goes))

pub creates_from : (operation : Operation ℕ Opened) (state : CallState Opened) (g : Entry) (valid fh : ℕ)
    → StandsAt operation state → goes_with operation (reply.created g valid fh) ≡ true → Creates (Some state)
creates_from (create d n) state g valid fh s goes = record { directory = d; name = n; is = ap Some s }
creates_from operation state g valid fh s goes = absurd (true≢false (sym goes))

pub opens_from : (operation : Operation ℕ Opened) (state : CallState Opened) (fh : ℕ) → StandsAt operation state
    → goes_with operation (reply.opened fh) ≡ true → IsOpening (Some state)
opens_from (opening x) state fh s goes = record { node = x; is = ap Some s }
opens_from operation state fh s goes = absurd (true≢false (sym goes))

pub lists_from : (operation : Operation ℕ Opened) (state : CallState Opened) (pairs : List (DirentPlus Entry))
    → StandsAt operation state → goes_with operation (reply.listed_plus pairs) ≡ true → ListsPlus (Some state)
lists_from (readdirplus d a z) state pairs s goes = record { directory = d; after = a; size = z; is = ap Some s }
lists_from (lookup d w) state pairs s goes = absurd (true≢false (sym goes))
lists_from operation state pairs s goes = absurd (true≢false (sym goes))

-- No call is answered with an agreement.
pub none_agreed : (major minor flags : ℕ) (operation : Operation ℕ Opened)
    → goes_with operation (reply.agreed major minor flags) ≡ true → ⊥
none_agreed major minor flags (lookup d w) goes = true≢false (sym goes)
none_agreed major minor flags operation goes = true≢false (sym goes)

-- A call that stands on no open file lets none go.
pub stays : (k : Kernel) (state : CallState Opened) → used_by state ≡ None → after_use k state ≡ k
stays k (walking d w ws p) none = refl
stays k (doing operation) none = refl
stays k (using open_call operation) none =
    let no : ◌≡◌ {A = Option ℕ} (Some open_call) None = none in
    cc

unused : (operation : Operation ℕ Opened) (state : CallState Opened) → state ≡ doing operation → used_by state ≡ None
unused operation state s = ap used_by s

pub found_unused : (operation : Operation ℕ Opened) (state : CallState Opened) (g : Entry) (valid : ℕ)
    → StandsAt operation state → goes_with operation (reply.found g valid) ≡ true → used_by state ≡ None
found_unused (lookup d w) state g valid s goes = ap used_by s.is
found_unused (mkdir d n) state g valid s goes = unused (mkdir d n) state s
found_unused (link x d n) state g valid s goes = unused (link x d n) state s
found_unused operation state g valid s goes = absurd (true≢false (sym goes))

pub done_unused : (operation : Operation ℕ Opened) (state : CallState Opened) → StandsAt operation state
    → goes_with operation reply.done ≡ true → used_by state ≡ None
done_unused (unlink d n) state s goes = unused (unlink d n) state s
done_unused (rmdir d n) state s goes = unused (rmdir d n) state s
done_unused (rename d o e n) state s goes = unused (rename d o e n) state s
done_unused operation state s goes = absurd (true≢false (sym goes))

-- No file is closed but by a close.
pub closes_none : (opens : Map Opened) (made : Call) → ClosesNone made → closed_by opens (call_of made) ≡ None
closes_none opens (Stat path) is = refl
closes_none opens (Lists path after) is = refl
closes_none opens (ListPlus path after) is = refl
closes_none opens (Open path) is = refl
closes_none opens (Mkdir path) is = refl
closes_none opens (Create path) is = refl
closes_none opens (Unlink path) is = refl
closes_none opens (Rmdir path) is = refl
closes_none opens (Rename old new) is = refl
closes_none opens (Link old new) is = refl
closes_none opens (Read open_call offset size) is = refl
closes_none opens (Write open_call offset bytes) is = refl
closes_none opens (Close open_call) is = absurd is

-- What an unanswered call is, and what it uses.
pub some_state : (o : Option (CallState Opened)) → is_some o ≡ true → (state : CallState Opened) × (o ≡ Some state)
some_state None is = absurd (true≢false (sym is))
some_state (Some state) is = (state, refl)

pub using_of : (state : CallState Opened) (open_call : ℕ) → used_by state ≡ Some open_call
    → (operation : Operation ℕ Opened) × (state ≡ using open_call operation)
using_of (walking d w ws p) open_call is =
    let no : ◌≡◌ {A = Option ℕ} None (Some open_call) = is in
    cc
using_of (doing operation) open_call is =
    let no : ◌≡◌ {A = Option ℕ} None (Some open_call) = is in
    cc
using_of (using other operation) open_call is =
    let same : other ≡ open_call = cc is in
    (operation, ap (λ (h : ℕ). using h operation) same)

pub makes_place : (operation : Operation ℕ Opened) (place : Place) → MakesName operation place
    → entry_place operation ≡ Some place
makes_place operation place (mkdirs d n) = refl
makes_place operation place (links x d n) = refl

pub uses_there : (o : Option (CallState Opened)) (r : Option ℕ) (open_call : ℕ) → r ≡ Some open_call → (o ≡ None → r ≡ None)
    → ((state : CallState Opened) → o ≡ Some state → r ≡ used_by state)
    → (operation : Operation ℕ Opened) × (o ≡ Some (using open_call operation))
uses_there None r open_call is none used =
    let no : ◌≡◌ {A = Option ℕ} (Some open_call) None = sym is ∙ none refl in
    cc
uses_there (Some state) r open_call is none used =
    let u = using_of state open_call (sym (used state refl) ∙ is) in
    (u.0, ap Some u.1)

pub not_true : (b : Bool) → not b ≡ true → b ≡ false
not_true true is = sym is
not_true false is = refl

pub not_false : (b : Bool) → not b ≡ false → b ≡ true
not_false true is = refl
not_false false is = sym is
