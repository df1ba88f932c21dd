-- No frame of a run forgets the root, or no lookup of a node.
use Rattle.std.proofs.Common.{◌≡◌, ◌/◌, ℕ, zero, suc, ◌+◌, Bool, true, false, cond, List, [], ◌∷◌, ◌++◌, take, drop, length, Option, Some, None, nat_eq, refl, sym, ◌∙◌, ap, subst, append-nil, arith, drop-drop, length-append, length-drop}
use Rattle.std.specs.Prelude.{◌&&◌, nat_lt}
use Rattle.std.proofs.lemmas.Bool.{false≢true}
use Rattle.fk_fields.specs.Fields.{ReadsAs, number_at}
use Rattle.fk_wire.specs.Pairs.{forget_ones}
use Rattle.fk_wire.specs.Pairs.{pairs_from as codec_pairs}
use Rattle.fk_wire.proofs.PairLists.{list_ends, one_list}
use Rattle.fuse_spec.specs.declared.Opened.{Opened}
use Rattle.fuse_spec.specs.declared.Purpose.{Purpose}
use Rattle.fuse_spec.specs.declared.Purpose.TheVariants as purpose
use Rattle.fuse_spec.specs.Calls.Vfs.{CallState}
use Rattle.fuse_spec.specs.Kernel.Kernel.{Kernel, asked_by, body_of, forgets_singly}
use Rattle.fuse_spec.specs.Kernel.Messages.{Forget, Request, RequestBody}
use Rattle.fuse_spec.specs.Kernel.QueueCalls.{can_read_forgets}
use Rattle.fuse_spec.specs.Server.Server.{forgets_of}
use Rattle.fuse_spec.specs.Values.Maps.{get}
use Rattle.fuse_spec.specs.World.Worlds.{forget_body}
use Rattle.fk_kernel.specs.Picks.{IsPicked}
use Rattle.fk_kernel.specs.declared.read.Pick.{Pick}
use Rattle.fk_kernel.specs.declared.read.Pick.TheVariants.{Interrupt, Forgets, Pending}
use Rattle.fuse_protocol.specs.declared.agreed.Agreed.{Agreed}
use Rattle.fuse_protocol.specs.declared.opcode.Opcode.{Opcode}
use Rattle.fuse_protocol.specs.declared.opcode.Opcode.TheVariants as op
use Rattle.fuse_protocol.specs.Names.{AreNames, spelled}
use Rattle.fuse_protocol.specs.Pairs.{pairs_from, pairs_of_row}
use Rattle.fuse_protocol.specs.Places.{number_in, places_at}
use Rattle.fuse_protocol.specs.Requests.{RequestMessage}
use Rattle.fuse_protocol.specs.Table.{row_at}
use Rattle.fuse_sessions.specs.declared.act.Act.{Act}
use Rattle.fuse_sessions.specs.declared.act.Act.TheVariants as act
use Rattle.fuse_sessions.specs.declared.fault.Fault.{Fault}
use Rattle.fuse_sessions.specs.declared.fault.Fault.TheVariants as fault
use Rattle.fuse_sessions.specs.Faults.{Breaks, BreaksNumber}
use Rattle.fuse_sessions.specs.Frames.{IsRequestOf}
use Rattle.fuse_sessions.specs.RequestActs.{asked_of, forgets_in, number_of}
use Rattle.fuse_sessions.specs.Sessions.{Session}
use Rattle.fuse_sessions.specs.UnreadRequests.{opcode_in, unique_in}
use Rattle.driven_sessions.specs.Driven.{NeverAccused}
use Rattle.driven_sessions.specs.Groups.{is_of_empty_forgets}
use Rattle.driven_sessions.proofs.Calm.{is_of_numbers}
use Rattle.driven_sessions.proofs.Doing.{comes_again, forgets_many, forgets_one, interrupts, nothing, reads}
use Rattle.driven_sessions.proofs.Forgetting.{AreForgets, Forgetting, forgets_taken, run_forgetting}
use Rattle.driven_sessions.proofs.Frames.{SaysForgets, frame_forgets, own_head}
use Rattle.driven_sessions.proofs.Leading.{AreFree, calm_free, free_append}
use Rattle.driven_sessions.proofs.Sending.{run_sends}
use Rattle.driven_sessions.proofs.Single.{ShowsNoneBy, front, single_free, struct_number}

-- ---- what is picked

abbrev IsGood : Request → Type 0
IsGood r = AreForgets (forgets_of r.body)

abbrev forgets_said : Option RequestBody → List Forget
forgets_said None = []
forgets_said (Some body) = forgets_of body

queued_none : (k : Kernel) (p : Purpose) (body : RequestBody) → body_of k p ≡ Some body → forgets_of body ≡ []
queued_none k purpose.Init body is = sym (ap forgets_said is)
queued_none k (purpose.Release opened) body is = sym (ap forgets_said is)
queued_none k (purpose.Call call) body is = by (get k.vfs.calls call) is
  where
    by : (o : Option (CallState Opened)) → asked_by o ≡ Some body → forgets_of body ≡ []
    by None is = sym (ap forgets_said is)
    by (Some state) is = sym (ap forgets_said is)

spelled_again : (fs : List Forget) → forgets_of (forget_body fs) ≡ fs
spelled_again [] = refl
spelled_again (f ∷ []) = refl
spelled_again (f ∷ g ∷ fs) = refl

pub picked_good : (k : Kernel) (pick : Pick) (r : Request) → Forgetting k → IsPicked k pick r → AreForgets (forgets_of r.body)
picked_good k Interrupt r f is = subst AreForgets (sym (ap (λ (q : Request). forgets_of q.body) is.is)) tt
picked_good k (Forgets count) r f is = subst AreForgets
    (sym (ap (λ (q : Request). forgets_of q.body) is.is ∙ spelled_again is.forgets))
    (by (forgets_singly k.minor && nat_lt 1 count) (can_read_forgets k.queues count) is.first)
  where
    second_of : Option (ℕ × List Forget) → List Forget
    second_of None = []
    second_of (Some p) = p.1

    by : (c b : Bool) → ◌≡◌ {A = Option (ℕ × List Forget)} (cond {A = Option (ℕ × List Forget)} c None
        (cond {A = Option (ℕ × List Forget)} b (Some (k.queues.next, take count k.queues.forgets)) None))
        (Some (r.unique, is.forgets)) → AreForgets is.forgets
    by true b e = subst AreForgets (ap second_of e) tt
    by false true e = subst AreForgets (ap second_of e) (forgets_taken count k.queues.forgets f.forgets)
    by false false e = subst AreForgets (ap second_of e) tt
picked_good k (Pending place) r f is = subst AreForgets (sym (queued_none k is.purpose r.body is.body)) tt

-- ---- the pairs of a BATCH_FORGET

shifted : (place width start : ℕ) (bytes : List ℕ)
    → number_at place width (drop start bytes) ≡ number_at (start + place) width bytes
unfolding number_at
shifted place width start bytes = rw drop-drop refl

same_pairs : (count place start : ℕ) (bytes : List ℕ)
    → pairs_from count place (drop start bytes) ≡ codec_pairs count (start + place) bytes
same_pairs zero place start bytes = refl
same_pairs (suc count) place start bytes =
    let here : number_at place 8 (drop start bytes) ≡ number_at (start + place) 8 bytes = shifted place 8 start bytes in
    let there : number_at (place + 8) 8 (drop start bytes) ≡ number_at (start + place + 8) 8 bytes =
    shifted (place + 8) 8 start bytes ∙ ap (λ (n : ℕ). number_at n 8 bytes) (omega arith) in
    let rest : pairs_from count (place + 16) (drop start bytes) ≡ codec_pairs count (start + place + 16) bytes =
    same_pairs count (place + 16) start bytes ∙ ap (λ (n : ℕ). codec_pairs count n bytes) (omega arith) in
    rw (here, there, rest) refl

pairs_behind : (bytes : List ℕ) (ps : List Forget) → ReadsAs 48 (forget_ones ps) bytes
    → pairs_from (length (drop 48 bytes) / 16) 0 (drop 48 bytes) ≡ ps
pairs_behind bytes ps h =
    let count : length (drop 48 bytes) / 16 ≡ length ps =
    omega (arith, length-drop 48 bytes, list_ends ps 48 bytes h) in
    rw count (same_pairs (length ps) 0 48 bytes ∙ one_list ps 48 bytes h)

no_names : (agreed : Agreed) (names : List (List ℕ)) → AreNames agreed [] names → spelled names ≡ []
no_names agreed [] are = refl
no_names agreed (n ∷ names) are = absurd are

-- What is read as its pairs is all that stands behind the struct.
pub pairs_read : (agreed : Agreed) (bytes : List ℕ) (m : RequestMessage) → IsRequestOf agreed bytes (op.BatchForget, m)
    → (ps : List Forget) → number_at 40 4 bytes ≡ length ps → ReadsAs 48 (forget_ones ps) bytes
    → pairs_of_row (row_at op.BatchForget).tail m.tail ≡ ps
pairs_read agreed bytes m is ps count stand =
    let parts : drop 48 bytes ≡ m.tail ++ m.extensions =
    is.parts ∙ ap (λ (l : List ℕ). l ++ (m.tail ++ m.extensions)) (no_names agreed m.names is.names) in
    let long = is.tail in
    let all : length (drop 48 bytes) ≡ length m.tail + length m.extensions =
    ap (λ (l : List ℕ). length l) parts ∙ length-append m.tail m.extensions in
    let none : length m.extensions ≡ 0 =
    omega (arith, long, count, all, length-drop 48 bytes, list_ends ps 48 bytes stand) in
    let whole : drop 48 bytes ≡ m.tail = parts ∙ without m.extensions none in
    ap (λ (l : List ℕ). pairs_from (length l / 16) 0 l) (sym whole) ∙ pairs_behind bytes ps stand
  where
    without : (l : List ℕ) → length l ≡ 0 → m.tail ++ l ≡ m.tail
    without [] e = append-nil m.tail
    without (x ∷ l) e = absurd (omega (arith, e))

-- ---- the group

forgets_within : (f : Fault) → is_of_empty_forgets f ≡ true → is_of_numbers f ≡ true
forgets_within fault.ForgetOfTheRoot is = refl
forgets_within fault.ForgetOfNoLookup is = refl
forgets_within f is = absurd (false≢true is)

reading_apart : (s : Session) (u : ℕ) (f : Fault) → BreaksNumber s u f → is_of_empty_forgets f ≡ true → ⊥
reading_apart s u fault.OddNumber b is = false≢true is
reading_apart s u fault.NumberUsedTwice b is = false≢true is
reading_apart s u fault.NumberOutOfOrder b is = false≢true is
reading_apart s u f b is = b

interrupt_apart : (s : Session) (u o : ℕ) (f : Fault) → Breaks s (act.Interrupts u o) f → is_of_empty_forgets f ≡ true → ⊥
interrupt_apart s u o fault.InterruptUnderAnotherNumber b is = cc
interrupt_apart s u o fault.InterruptOfNothing b is = cc
interrupt_apart s u o fault.InterruptTooOften b is = cc
interrupt_apart s u o f b is = b

again_apart : (s : Session) (u o : ℕ) (f : Fault) → Breaks s (act.Resent u o) f → is_of_empty_forgets f ≡ true → ⊥
again_apart s u o fault.ResendOfNothing b is = cc
again_apart s u o f b is = b

forgets_free : (s : Session) (pairs : List Forget) → AreForgets pairs → AreFree is_of_empty_forgets s (forgets_in pairs)
forgets_free s [] all = tt
forgets_free s (p ∷ pairs) all = (λ f b is. one f b is, forgets_free (s ++ act.Forgets p.0 p.1 ∷ []) pairs all.1)
  where
    one : (f : Fault) → Breaks s (act.Forgets p.0 p.1) f → is_of_empty_forgets f ≡ true → ⊥
    one fault.ForgetOfTheRoot b is = let low = all.0.0 in omega (arith, low, b)
    one fault.ForgetOfNoLookup b is = let some = all.0.1 in let none = b.1 in omega (arith, some, none)
    one fault.ForgetOfMoreThanIsCounted b is = cc
    one fault.ForgetOfANodeInUse b is = cc
    one f b is = b

front_free : (s : Session) (o : Opcode) (more : List Act) → AreFree is_of_empty_forgets (s ++ front o) more
    → AreFree is_of_empty_forgets s (front o ++ more)
front_free s o more free = free_append is_of_empty_forgets s (front o) more
    (calm_free is_of_empty_forgets forgets_within s (front o) refl) free

forgets_shown : ShowsNoneBy is_of_empty_forgets (SaysForgets AreForgets)
forgets_shown agreed frame s acts says (reads other before after calm calm_after o same) =
    subst (AreFree is_of_empty_forgets s) (sym same)
    (free_append is_of_empty_forgets s before (act.Read o (unique_in frame) ∷ after)
    (calm_free is_of_empty_forgets forgets_within s before calm) (
      reading_apart (s ++ before) (unique_in frame),
      calm_free is_of_empty_forgets forgets_within (s ++ before ++ act.Read o (unique_in frame) ∷ []) after calm_after,
    ))
forgets_shown agreed frame s acts says (forgets_one m is same) =
    let lookups : ℕ = number_of (number_in (places_at op.Forget).forgotten m.fixed) in
    let pairs : List Forget = (m.nodeid, lookups) ∷ [] in
    let read : Act = act.Read (Some op.Forget) (unique_in frame) in
    let whole = is.whole in
    let number : lookups ≡ number_at 40 8 frame = struct_number frame m.fixed (omega (arith, whole)) is.fixed in
    let said : AreForgets ((number_at 16 8 frame, number_at 40 8 frame) ∷ []) =
    says.one (ap (λ (n : ℕ). nat_eq n 2) is.opcode) in
    let fine : AreForgets ((m.nodeid, lookups) ∷ []) =
    subst (λ (n : ℕ). AreForgets ((m.nodeid, n) ∷ [])) (sym number)
    (subst (λ (n : ℕ). AreForgets ((n, number_at 40 8 frame) ∷ [])) is.nodeid said) in
    subst (AreFree is_of_empty_forgets s) (sym same) (front_free s op.Forget (read ∷ forgets_in pairs)
    (reading_apart (s ++ front op.Forget) (unique_in frame), forgets_free (s ++ front op.Forget ++ read ∷ []) pairs fine))
forgets_shown agreed frame s acts says (forgets_many m is same) =
    let pairs : List Forget = pairs_of_row (row_at op.BatchForget).tail m.tail in
    let read : Act = act.Read (Some op.BatchForget) (unique_in frame) in
    let said = says.many (ap (λ (n : ℕ). nat_eq n 42) is.opcode) in
    let fine : AreForgets pairs =
    subst AreForgets (sym (pairs_read agreed frame m is said.0 said.1 said.2)) said.3 in
    subst (AreFree is_of_empty_forgets s) (sym same) (front_free s op.BatchForget (read ∷ forgets_in pairs) (
      reading_apart (s ++ front op.BatchForget) (unique_in frame),
      forgets_free (s ++ front op.BatchForget ++ read ∷ []) pairs fine,
    ))
forgets_shown agreed frame s acts says (interrupts m is same) =
    let original : ℕ = number_of (number_in (places_at op.Interrupt).interrupted m.fixed) in
    subst (AreFree is_of_empty_forgets s) (sym same)
    (front_free s op.Interrupt (act.Interrupts (unique_in frame) original ∷ [])
    (interrupt_apart (s ++ front op.Interrupt) (unique_in frame) original, tt))
forgets_shown agreed frame s acts says (comes_again high other o m same) =
    subst (AreFree is_of_empty_forgets s) (sym same)
    (front_free s o (act.Resent m.unique _ ∷ act.Asks m.unique (asked_of o m) ∷ [])
    (again_apart (s ++ front o) m.unique _, ((λ f b is. b), tt)))
forgets_shown agreed frame s acts says (nothing calm) = calm_free is_of_empty_forgets forgets_within s acts calm

own_none : (frame : List ℕ) → nat_eq (opcode_in frame) 2 ≡ false → nat_eq (opcode_in frame) 42 ≡ false
    → SaysForgets AreForgets frame
own_none frame one many = record {
  one = λ e. absurd (false≢true (sym one ∙ e));
  many = λ e. absurd (false≢true (sym many ∙ e));
}

pub empty_forgets_never : NeverAccused is_of_empty_forgets
empty_forgets_never asks log new run =
    single_free is_of_empty_forgets forgets_within (SaysForgets AreForgets) forgets_shown log
    (run_sends IsGood (SaysForgets AreForgets) Forgetting picked_good
    (λ frame r good says. frame_forgets AreForgets frame r says good)
    (λ frame unique even low own. let head = own_head frame unique low own in own_none frame head.2 head.3) asks (run_forgetting asks) log new run).0
