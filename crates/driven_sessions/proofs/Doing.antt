-- What a request's frame is read as: it reads one request, or interrupts one, or does nothing that counts here.
use Rattle.std.proofs.Common.{◌≡◌, ◌≤◌, ◌^◌, inl, inr, ℕ, Bool, true, false, not, ◌&&◌, List, [], ◌∷◌, ◌++◌, Option, Some, None, refl, sym, ◌∙◌, ap, nat_eq, nat_le, arith, if◌then◌else◌}
use Rattle.std.specs.List.{list_all}
use Rattle.std.proofs.lemmas.Bool.{and_from, and_parts, false≢true}
use Rattle.std.proofs.lemmas.Bool.Decides.{nat_tests}
use Rattle.fuse_protocol.specs.declared.agreed.Agreed.{Agreed}
use Rattle.fuse_protocol.specs.declared.opcode.Opcode.{Opcode}
use Rattle.fuse_protocol.specs.declared.opcode.Opcode.TheVariants as op
use Rattle.fuse_protocol.specs.declared.request.OpenHandle.{OpenHandle}
use Rattle.fuse_protocol.specs.declared.request.OpenHandle.TheVariants as handle
use Rattle.fuse_protocol.specs.Pairs.{pairs_of_row}
use Rattle.fuse_protocol.specs.Places.{number_in, places_at}
use Rattle.fuse_protocol.specs.Requests.{RequestMessage}
use Rattle.fuse_protocol.specs.Table.{code_of, row_at}
use Rattle.fuse_sessions.specs.declared.act.Act.{Act}
use Rattle.fuse_sessions.specs.declared.act.Act.TheVariants as act
use Rattle.fuse_sessions.specs.declared.act.Asked.{Asked}
use Rattle.fuse_sessions.specs.declared.act.OpenFile.{OpenFile}
use Rattle.fuse_sessions.specs.declared.fault.Fault.TheVariants as fault
use Rattle.fuse_sessions.specs.declared.known.Known.{Known}
use Rattle.fuse_sessions.specs.Frames.{AreRequestActs, IsRequestOf}
use Rattle.fuse_sessions.specs.RequestActs.{asked_of, asking, forgets_in, naming, number_of, releasing, request_acts, resent, using, writing}
use Rattle.fuse_sessions.specs.UnreadRequests.{asking_unread, has_header, malformed, may_be_known, opcode_in, takes_no_reply, unique_in, unjudged}
use Rattle.driven_sessions.proofs.Calm.{AreCalm, each_of, either, is_calm, is_calm_where_shown, is_shown, pass_on}

-- One request is read under the frame's number, or forgets, or one is interrupted, or nothing of these.
pub data Does (agreed : Agreed) (bytes : List ℕ) (acts : List Act) : Type 0 where
  reads : (opcode_in bytes ≡ 36 → ⊥) → (before after : List Act) → AreCalm before → AreCalm after → (o : Option Opcode)
      → acts ≡ before ++ act.Read o (unique_in bytes) ∷ after → Does agreed bytes acts
  forgets_one : (m : RequestMessage) → IsRequestOf agreed bytes (op.Forget, m)
      → acts ≡ act.Arrives ∷ act.Begins op.Forget ∷ act.Read (Some op.Forget) (unique_in bytes)
      ∷ act.Forgets m.nodeid (number_of (number_in (places_at op.Forget).forgotten m.fixed)) ∷ [] → Does agreed bytes acts
  forgets_many : (m : RequestMessage) → IsRequestOf agreed bytes (op.BatchForget, m)
      → acts ≡ act.Arrives ∷ act.Begins op.BatchForget ∷ act.Read (Some op.BatchForget) (unique_in bytes)
      ∷ forgets_in (pairs_of_row (row_at op.BatchForget).tail m.tail) → Does agreed bytes acts
  interrupts : (m : RequestMessage) → IsRequestOf agreed bytes (op.Interrupt, m)
      → acts ≡ act.Arrives ∷ act.Begins op.Interrupt
      ∷ act.Interrupts (unique_in bytes) (number_of (number_in (places_at op.Interrupt).interrupted m.fixed)) ∷ []
      → Does agreed bytes acts
  -- it is read once more, under a number with the highest bit
  comes_again : 2 ^ 63 ≤ unique_in bytes → nat_eq (opcode_in bytes) 36 ≡ false → (o : Opcode) (m : RequestMessage)
      → acts ≡ act.Arrives ∷ act.Begins o ∷ resent o m → Does agreed bytes acts
  nothing : AreCalm acts → Does agreed bytes acts

-- ---- what a request does behind its reading

-- It names a node, or uses or releases an open file.
abbrev pub is_handling : Act → Bool
is_handling (act.Names node) = true
is_handling (act.Uses file) = true
is_handling (act.Releases file) = true
is_handling a = false

pub is_shown_where_handling : (a : Act) → is_handling a ≡ true → is_shown a ≡ true
is_shown_where_handling (act.Names node) is = refl
is_shown_where_handling (act.Uses file) is = refl
is_shown_where_handling (act.Releases file) is = refl
is_shown_where_handling a is = absurd (false≢true is)

naming_handles : (node : ℕ) → list_all is_handling (naming node) ≡ true
naming_handles node = either is_handling (nat_eq node 0) [] _ refl refl

using_handles : (file : Option OpenFile) → list_all is_handling (using file) ≡ true
using_handles None = refl
using_handles (Some file) = refl

releasing_handles : (o : Opcode) (node : ℕ) (h : OpenHandle) → list_all is_handling (releasing o node h) ≡ true
releasing_handles op.Release node (handle.File fh) = refl
releasing_handles op.Releasedir node (handle.Directory fh) = refl
releasing_handles op.Release node h = refl
releasing_handles op.Releasedir node h = refl
releasing_handles o node h = refl

abbrev pub behind : Opcode → RequestMessage → Asked → List Act
behind o m asked = naming asked.nodeid ++ naming asked.other ++ using asked.uses ++ using asked.copies_to
    ++ releasing o m.nodeid m.handle ++ writing o m ++ act.Asks m.unique asked ∷ []

-- A test passes it that those acts pass, what is written, and what asks.
module _ (test : Act → Bool) (passes : (a : Act) → is_handling a ≡ true → test a ≡ true) (o : Opcode) (m : RequestMessage)
    (asked : Asked) where
  pub behind_holds : list_all test (writing o m) ≡ true → test (act.Asks m.unique asked) ≡ true
      → list_all test (behind o m asked) ≡ true
  behind_holds writes asks =
      let first : List Act = naming asked.nodeid ++ naming asked.other in
      let second : List Act = first ++ using asked.uses in
      let third : List Act = second ++ using asked.copies_to in
      let fourth : List Act = third ++ releasing o m.nodeid m.handle in
      let fifth : List Act = fourth ++ writing o m in
      let one = each_of is_handling (naming asked.nodeid) (naming asked.other) (naming_handles asked.nodeid) (naming_handles asked.other) in
      let two = each_of is_handling first (using asked.uses) one (using_handles asked.uses) in
      let three = each_of is_handling second (using asked.copies_to) two (using_handles asked.copies_to) in
      let four = each_of is_handling third (releasing o m.nodeid m.handle) three (releasing_handles o m.nodeid m.handle) in
      let five = each_of test fourth (writing o m) (pass_on is_handling test passes fourth four) writes in
      each_of test fifth (act.Asks m.unique asked ∷ []) five (and_from (test (act.Asks m.unique asked)) true asks refl)

-- So does a test that shown acts pass.
pub behind_passes : (test : Act → Bool) → ((a : Act) → is_shown a ≡ true → test a ≡ true) → (o : Opcode) (m : RequestMessage) (asked : Asked)
    → list_all test (writing o m) ≡ true → test (act.Asks m.unique asked) ≡ true → list_all test (behind o m asked) ≡ true
behind_passes test passes = behind_holds test (λ a is. passes a (is_shown_where_handling a is))

-- What is written is of WRITE.
pub writing_passes : (test : Act → Bool) (m : RequestMessage) → list_all test (writing op.Write m) ≡ true → (o : Opcode)
    → list_all test (writing o m) ≡ true
writing_passes test m writes op.Write = writes
writing_passes test m writes o = refl

-- ---- a whole request

at_least : (b : Bool) (n : ℕ) → (b && nat_le (2 ^ 63) n) ≡ true → 2 ^ 63 ≤ n
at_least b n is = let both = and_parts b (nat_le (2 ^ 63) n) is in by both.1
  where
    by : nat_le (2 ^ 63) n ≡ true → 2 ^ 63 ≤ n
    by high = grind (arith, nat_tests, high)

module _ (k : Known) (bytes : List ℕ) (acts : List Act) where
  module _ (o : Opcode) (m : RequestMessage) (is : IsRequestOf k.agreed bytes (o, m)) where
    other : nat_eq (code_of o) 36 ≡ false → opcode_in bytes ≡ 36 → ⊥
    other apart e = false≢true (sym apart ∙ ap (λ (n : ℕ). nat_eq n 36) (sym is.opcode ∙ e))

    reads_one : nat_eq (code_of o) 36 ≡ false → acts ≡ act.Arrives ∷ act.Begins o ∷ asking o m (asked_of o m)
        → Does k.agreed bytes acts
    reads_one apart same = reads (other apart) (act.Arrives ∷ act.Begins o ∷ []) (behind o m (asked_of o m)) refl
        (behind_passes is_calm is_calm_where_shown o m (asked_of o m) (writing_passes is_calm m refl o) refl) (Some o)
        (same ∙ ap (λ (u : ℕ). act.Arrives ∷ act.Begins o ∷ act.Read (Some o) u ∷ behind o m (asked_of o m)) (sym is.unique))

    other_row : nat_eq (code_of o) 36 ≡ false → (again : Bool) → (k.has_resent && nat_le (2 ^ 63) m.unique) ≡ again
        → acts ≡ act.Arrives ∷ act.Begins o ∷ (if again then resent o m else asking o m (asked_of o m))
        → Does k.agreed bytes acts
    other_row apart false once same = reads_one apart same
    other_row apart true again same =
        let high = at_least k.has_resent m.unique again in
        let unique = is.unique in
        comes_again (omega (arith, high, unique)) (ap (λ (n : ℕ). nat_eq n 36) is.opcode ∙ apart) o m same

  by_row : (o : Opcode) (m : RequestMessage) (is : IsRequestOf k.agreed bytes (o, m))
      → acts ≡ request_acts k.has_resent o m → Does k.agreed bytes acts
  by_row op.Interrupt m is does = interrupts m is (does
      ∙ ap (λ (u : ℕ). act.Arrives ∷ act.Begins op.Interrupt
      ∷ act.Interrupts u (number_of (number_in (places_at op.Interrupt).interrupted m.fixed)) ∷ []) (sym is.unique))
  by_row op.NotifyReply m is does = nothing (ap (list_all is_calm) does)
  by_row op.Forget m is does = forgets_one m is (does
      ∙ ap (λ (u : ℕ). act.Arrives ∷ act.Begins op.Forget ∷ act.Read (Some op.Forget) u
      ∷ act.Forgets m.nodeid (number_of (number_in (places_at op.Forget).forgotten m.fixed)) ∷ []) (sym is.unique))
  by_row op.BatchForget m is does = forgets_many m is (does
      ∙ ap (λ (u : ℕ). act.Arrives ∷ act.Begins op.BatchForget ∷ act.Read (Some op.BatchForget) u
      ∷ forgets_in (pairs_of_row (row_at op.BatchForget).tail m.tail)) (sym is.unique))
  by_row o m is does = other_row o m is refl (k.has_resent && nat_le (2 ^ 63) m.unique) refl does

  -- One that is not read by a row.
  by_none : (h t : Bool) → has_header bytes ≡ h → takes_no_reply (opcode_in bytes) ≡ t
      → acts ≡ act.Arrives ∷ (malformed k.offered bytes ++ asking_unread bytes) → Does k.agreed bytes acts
  by_none h t header wanted does = by h t header wanted
    where
      faulty : AreCalm (malformed k.offered bytes)
      faulty = either is_calm (may_be_known k.offered bytes) [] (act.Faulty fault.MalformedRequest ∷ []) refl refl

      quiet : (has_header bytes && not (takes_no_reply (opcode_in bytes))) ≡ false → Does k.agreed bytes acts
      quiet e =
          let none : asking_unread bytes ≡ [] = rw e refl in
          nothing (ap (list_all is_calm) (does ∙ ap (λ (l : List Act). act.Arrives ∷ (malformed k.offered bytes ++ l)) none)
          ∙ each_of is_calm (malformed k.offered bytes) [] faulty refl)

      by : (h t : Bool) → has_header bytes ≡ h → takes_no_reply (opcode_in bytes) ≡ t → Does k.agreed bytes acts
      by true false header wanted =
          let asked : asking_unread bytes ≡ act.Read None (unique_in bytes) ∷ act.Asks (unique_in bytes) unjudged ∷ [] =
          rw (header, wanted) refl in
          reads (λ e. false≢true (sym wanted ∙ ap takes_no_reply e)) (act.Arrives ∷ malformed k.offered bytes)
          (act.Asks (unique_in bytes) unjudged ∷ []) faulty refl None
          (does ∙ ap (λ (l : List Act). act.Arrives ∷ (malformed k.offered bytes ++ l)) asked)
      by true true header wanted = quiet (rw (header, wanted) refl)
      by false t header wanted = quiet (rw header refl)

  pub request_does : AreRequestActs k bytes acts → Does k.agreed bytes acts
  request_does (inl ((o, m), is, does)) = by_row o m is does
  request_does (inr (none, does)) =
      by_none (has_header bytes) (takes_no_reply (opcode_in bytes)) refl refl does
