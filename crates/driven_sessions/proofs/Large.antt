-- No WRITE of a run has more than 4,096 bytes, which each server takes.
use Rattle.std.proofs.Common.{◌≡◌, inl, inr, ◌≤◌, ◌^◌, ℕ, Bool, true, false, ◌&&◌, not, List, [], ◌∷◌, ◌++◌, Option, Some, None, drop, length, take, nat_eq, nat_le, refl, sym, ◌∙◌, ap, subst, arith, drop-drop, if◌then◌else◌}
use Rattle.std.specs.List.{list_all}
use Rattle.std.proofs.lemmas.Bool.{and_parts, false≢true}
use Rattle.std.proofs.lemmas.Bool.Decides.{nat_tests}
use Rattle.std.proofs.lemmas.List.{drop-take}
use Rattle.byteorder.specs.Numbers.{little_from-take}
use Rattle.fk_fields.specs.Fields.{number_at}
use Rattle.fuse_spec.specs.declared.Opened.{Opened}
use Rattle.fuse_spec.specs.declared.Purpose.{Purpose}
use Rattle.fuse_spec.specs.declared.Purpose.TheVariants as purpose
use Rattle.fuse_spec.specs.Files.Operations.{Operation}
use Rattle.fuse_spec.specs.Files.Operations as file
use Rattle.fuse_spec.specs.Calls.Vfs.{CallState, asked, doing as does_now, using, walking}
use Rattle.fuse_spec.specs.Kernel.Kernel.{Kernel, asked_by, body_of}
use Rattle.fuse_spec.specs.Kernel.Messages.{Forget, Request, RequestBody, asks}
use Rattle.fuse_spec.specs.Values.Maps.{get}
use Rattle.fuse_spec.specs.World.Worlds.{forget_body}
use Rattle.fuse_theorem.proofs.Lists.Values.{All-get}
use Rattle.fk_kernel.specs.Picks.{IsPicked}
use Rattle.fk_kernel.specs.declared.read.Pick.{Pick}
use Rattle.fk_kernel.specs.declared.read.Pick.TheVariants.{Interrupt, Forgets, Pending}
use Rattle.fuse_protocol.specs.declared.agreed.Agreed.{Agreed}
use Rattle.fuse_protocol.specs.declared.opcode.Opcode.{Opcode}
use Rattle.fuse_protocol.specs.declared.opcode.Opcode.TheVariants as op
use Rattle.fuse_protocol.specs.Pairs.{pairs_of_row}
use Rattle.fuse_protocol.specs.Places.{number_in, places_at}
use Rattle.fuse_protocol.specs.Requests.{RequestMessage}
use Rattle.fuse_protocol.specs.Table.{row_at}
use Rattle.fuse_sessions.specs.declared.act.Act.{Act}
use Rattle.fuse_sessions.specs.declared.act.Act.TheVariants as act
use Rattle.fuse_sessions.specs.declared.fault.Fault.{Fault}
use Rattle.fuse_sessions.specs.declared.fault.Fault.TheVariants as fault
use Rattle.fuse_sessions.specs.declared.known.Known.{Known}
use Rattle.fuse_sessions.specs.Faults.{Breaks, BreaksBeginning, agreed_write, or_page}
use Rattle.fuse_sessions.specs.Frames.{AreRequestActs, IsRequestOf}
use Rattle.fuse_sessions.specs.RequestActs.{asked_of, asking, doing, forgets_in, number_of, resent, writing}
use Rattle.fuse_sessions.specs.Sessions.{Session, latest}
use Rattle.fuse_sessions.specs.UnreadRequests.{asking_unread, has_header, malformed, may_be_known, opcode_in, takes_no_reply, unique_in, unjudged}
use Rattle.driven_sessions.specs.Driven.{NeverAccused}
use Rattle.driven_sessions.specs.Groups.{is_of_large_writes}
use Rattle.driven_sessions.proofs.Calm.{each_of, either, is_shown, shown_pass, takes_none}
use Rattle.driven_sessions.proofs.Doing.{behind_passes}
use Rattle.driven_sessions.proofs.Frames.{SmallBody, SmallFrame, frame_small, own_other, some_body}
use Rattle.driven_sessions.proofs.Leading.{AreFree}
use Rattle.driven_sessions.proofs.Sending.{run_sends}
use Rattle.driven_sessions.proofs.Sessions.{such_free}
use Rattle.driven_sessions.proofs.WriteSizes.{AreSmall, IsSmall, SmallState, run_small}

-- ---- what is picked

operation_small : (operation : Operation ℕ Opened) → IsSmall operation → SmallBody (asks operation)
operation_small (file.write o offset bytes) small = small
operation_small operation small = tt

asked_small : (state : CallState Opened) → SmallState state → SmallBody (asks (asked state))
asked_small (walking directory word words plan) small = tt
asked_small (does_now operation) small = operation_small operation small
asked_small (using open_call operation) small = operation_small operation small

queued_small : (k : Kernel) (p : Purpose) (body : RequestBody) → AreSmall k.vfs → body_of k p ≡ Some body → SmallBody body
queued_small k purpose.Init body small is = subst SmallBody (some_body _ body is) tt
queued_small k (purpose.Release opened) body small is = subst SmallBody (some_body _ body is) tt
queued_small k (purpose.Call call) body small is = by (get k.vfs.calls call) refl is
  where
    by : (o : Option (CallState Opened)) → get k.vfs.calls call ≡ o → asked_by o ≡ Some body → SmallBody body
    by None there is = cc is
    by (Some state) there is = subst SmallBody (some_body (asks (asked state)) body is)
        (asked_small state (All-get SmallState k.vfs.calls call state small there))

forgets_small : (fs : List Forget) → SmallBody (forget_body fs)
forgets_small [] = tt
forgets_small (f ∷ []) = tt
forgets_small (f ∷ g ∷ fs) = tt

picked_small : (k : Kernel) (pick : Pick) (r : Request) → AreSmall k.vfs → IsPicked k pick r → SmallBody r.body
picked_small k Interrupt r small is = subst SmallBody (sym (ap (λ (q : Request). q.body) is.is)) tt
picked_small k (Forgets count) r small is =
    subst SmallBody (sym (ap (λ (q : Request). q.body) is.is)) (forgets_small is.forgets)
picked_small k (Pending place) r small is = queued_small k is.purpose r.body small is.body

-- ---- acts that write at most a page

abbrev is_short : Act → Bool
is_short (act.Faulty fault.WriteTooLarge) = false
is_short (act.Writes size) = nat_le size 4096
is_short a = true

abbrev AreShort : List Act → Type 0
AreShort acts = list_all is_short acts ≡ true

is_short_where_shown : (a : Act) → is_shown a ≡ true → is_short a ≡ true
is_short_where_shown (act.Faulty fault.WriteTooLarge) is = is
is_short_where_shown (act.Faulty f) is = refl
is_short_where_shown (act.Writes size) is = absurd (false≢true is)
is_short_where_shown a is = refl

begins_none : (s : Session) (o : Opcode) → BreaksBeginning s o fault.WriteTooLarge → ⊥
begins_none s op.Init b = b
begins_none s o b = b

least_page : (o : Option ℕ) → 4096 ≤ or_page o
least_page None = omega arith
least_page (Some n) = omega arith

small_act : (s : Session) (a : Act) → is_short a ≡ true → Breaks s a fault.WriteTooLarge → ⊥
small_act s (act.Faulty that) small b = false≢true (ap is_short (ap act.Faulty b) ∙ small)
small_act s (act.Begins o) small b = begins_none s o b
small_act s (act.Takes u t body) small b = takes_none s u t body fault.WriteTooLarge refl b
small_act s (act.Writes size) small b =
    let page = least_page (latest agreed_write s) in
    let few : size ≤ 4096 = grind (arith, nat_tests, small) in
    omega (arith, page, few, b)
small_act s a small b = b

small_law : (s : Session) (a : Act) (f : Fault) → is_short a ≡ true → Breaks s a f → is_of_large_writes f ≡ true → ⊥
small_law s a fault.WriteTooLarge small b is = small_act s a small b
small_law s a f small b is = false≢true is

small_free : (s : Session) (acts : List Act) → AreShort acts → AreFree is_of_large_writes s acts
small_free s [] are = tt
small_free s (a ∷ acts) are =
    let both = and_parts (is_short a) (list_all is_short acts) are in
    (λ f b is. small_law s a f both.0 b is, small_free (s ++ a ∷ []) acts both.1)

-- ---- the acts of a request that is read

size_within : (bytes : List ℕ) → number_at 16 4 (take 40 bytes) ≡ number_at 16 4 bytes
unfolding number_at
size_within bytes = ap (number_at 0 4) (drop-take 16 24 bytes) ∙ little_from-take 0 4 24 (drop 16 bytes) (omega arith)

size_behind : (bytes : List ℕ) → number_at 16 4 (drop 40 bytes) ≡ number_at 56 4 bytes
unfolding number_at
size_behind bytes = rw drop-drop refl

-- The size of a WRITE stands behind its struct's first sixteen bytes.
struct_size : (bytes fixed : List ℕ) → take 40 (drop 40 bytes) ≡ fixed → number_at 56 4 bytes ≤ 4096
    → nat_le (number_of (number_in (places_at op.Write).size fixed)) 4096 ≡ true
struct_size bytes fixed same few = by (nat_le 20 (length fixed))
  where
    by : (b : Bool) → nat_le (number_of (if b then Some (number_at 16 4 fixed) else None)) 4096 ≡ true
    by true =
        let is : number_at 16 4 fixed ≡ number_at 56 4 bytes =
        ap (number_at 16 4) (sym same) ∙ size_within (drop 40 bytes) ∙ size_behind bytes in
        grind (arith, nat_tests, is, few)
    by false = refl

forgets_short : (pairs : List (ℕ × ℕ)) → AreShort (forgets_in pairs)
forgets_short [] = refl
forgets_short (p ∷ pairs) = forgets_short pairs

module _ (agreed : Agreed) (frame : List ℕ) (small : SmallFrame frame) where
  written_short : (o : Opcode) (m : RequestMessage) → IsRequestOf agreed frame (o, m) → AreShort (writing o m)
  written_short op.Write m is = ap (λ (b : Bool). b && true)
      (struct_size frame m.fixed is.fixed (small (ap (λ (n : ℕ). nat_eq n 16) is.opcode)))
  written_short o m is = refl

  doing_short : (again : Bool) (o : Opcode) (m : RequestMessage) → IsRequestOf agreed frame (o, m)
      → AreShort (doing again o m)
  doing_short again op.Interrupt m is = refl
  doing_short again op.NotifyReply m is = refl
  doing_short again op.Forget m is = refl
  doing_short again op.BatchForget m is = forgets_short (pairs_of_row (row_at op.BatchForget).tail m.tail)
  doing_short again o m is = either is_short again (resent o m) (asking o m (asked_of o m)) refl
      (behind_passes is_short is_short_where_shown o m (asked_of o m) (written_short o m is) refl)

request_free : (k : Known) (frame : List ℕ) (s : Session) (acts : List Act) → SmallFrame frame
    → AreRequestActs k frame acts → AreFree is_of_large_writes s acts
request_free k frame s acts small (inl ((o, m), is, does)) = small_free s acts (ap (list_all is_short) does
    ∙ doing_short k.agreed frame small (k.has_resent && nat_le (2 ^ 63) m.unique) o m is)
request_free k frame s acts small (inr (unread, does)) = small_free s acts (ap (list_all is_short) does
    ∙ each_of is_short (malformed k.offered frame) (asking_unread frame)
    (either is_short (may_be_known k.offered frame) [] (act.Faulty fault.MalformedRequest ∷ []) refl refl)
    (either is_short (has_header frame && not (takes_no_reply (opcode_in frame)))
    (act.Read None (unique_in frame) ∷ act.Asks (unique_in frame) unjudged ∷ []) [] refl refl))

pub large_writes_never : NeverAccused is_of_large_writes
large_writes_never asks_opendir log new run = such_free is_of_large_writes
    (λ s acts are. small_free s acts (shown_pass is_short is_short_where_shown acts are)) SmallFrame
    (λ k frame s acts several small does. request_free k frame s acts small does) log
    (run_sends (λ (r : Request). SmallBody r.body) SmallFrame (λ (k : Kernel). AreSmall k.vfs) picked_small
    (λ frame r small says. frame_small frame r says small)
    (λ frame unique even low own writes. absurd (false≢true (sym (own_other 16 refl refl frame unique low own) ∙ writes)))
    asks_opendir (run_small asks_opendir) log new run).0
