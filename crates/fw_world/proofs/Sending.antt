-- What is sent is a whole envelope, and there is something to send.
use Rattle.std.proofs.Common.{◌≡◌, ◌≢◌, ℕ, ◌^◌, ◌<◌, Bool, true, false, List, [], ◌∷◌, ◌++◌, Option, Result, Ok, Err, Some, None, cond, drop, length, refl, sym, subst, ◌∙◌, rules, arith}
use Rattle.std.specs.Prelude.{OnOk, OnErr, IfErr}
use Rattle.std.specs.Int.{cast_unsigned, w32}
use Rattle.fk_wire.specs.declared.fault.WireFault.{WireFault}
use Rattle.fk_wire.specs.declared.fault.WireFault.TheVariants as fault
use Rattle.fk_wire.specs.Fields.{ReadsAs, number_at, spellings}
use Rattle.fk_wire.specs.Opcodes.{latest_minor as served_minor}
use Rattle.fk_wire.specs.Replies.{IsErrorNumber, reply_body}
use Rattle.fk_wire.specs.Requests.{request_fields}
use Rattle.fk_wire.specs.Results.{ResultRefusalIs, SpellsResult, result_fields}
use Rattle.fk_wire.proofs.Frames.{reads_back, spells}
use Rattle.fk_wire.proofs.OneRequest.{within}
use Rattle.fuse_frames.specs.RequestTies.{IsRequestFrame}
use Rattle.fuse_frames.proofs.ReplyLemmas.{says}
use Rattle.fuse_spec.specs.Kernel.Messages.{Request, RequestBody, init, asks, release, forget, batch_forget, interrupt}
use Rattle.fuse_spec.specs.declared.WriteResult.{WriteResult}
use Rattle.fuse_spec.specs.declared.WriteResult.TheVariants.{Accepted, NoEntry, Invalid}
use Rattle.fuse_spec.specs.Values.Maps.{get}
use Rattle.fuse_spec.specs.Server.Server.{HeldRequest, Kept}
use Rattle.fuse_spec.specs.Server.Taking.{interrupting, taking}
use Rattle.fuse_spec.specs.World.Worlds.{World, Sent, after_perform, after_take, copy_put}
use Rattle.fuse_spec.specs.World.Events.{Event, Outcome, performed, taken}
use Rattle.fuse_spec.specs.Files.Operations.{errno_of}
use Rattle.fuse_spec.specs.Server.Performs.{PerformResult, served}
use Rattle.fuse_spec.specs.World.Steps.{Happens}
use Rattle.fuse_spec.specs.World.Refusals.{Leads, mounts, calls, reads_interrupt, reads_forgets, reads_pending, takes, performs, sends_again, writes, settles, signals, passes, drops, evicts, aborts}
use Rattle.fuse_theorem.proofs.RefusalCases.RefusalsByCases.{only_accepted}
use Rattle.fw_link.specs.Envelopes.{IsEnvelope, stated_envelope_len}
use Rattle.fw_world.specs.Frames.{IsCopyFrame}
use Rattle.fw_world.specs.Sends.{IsOut, result_error}

stated : (bytes : List ℕ) → number_at 0 4 bytes ≡ length bytes → stated_envelope_len bytes ≡ length bytes
unfolding number_at stated_envelope_len
stated bytes is = is

pub request_whole : (bytes : List ℕ) (request : Request) → IsRequestFrame bytes request → IsEnvelope 0 0 bytes
request_whole bytes request frame =
    let said = spells served_minor frame.message bytes frame.written in
    let long = within 16 (drop 3 (request_fields (length bytes) frame.message)) bytes said.3.1.1.1 in
    record {
      kind_known = omega arith;
      copy_fits = omega arith;
      no_shorter = omega arith;
      no_longer = said.0;
      len_stated = stated bytes said.3.0;
    }

pub reply_whole : (bytes : List ℕ) (sent : Sent) (number : ℕ) → number < 2 ^ 64 → IsCopyFrame bytes sent
    → IsEnvelope 1 number bytes
reply_whole bytes sent number small frame =
    let told = says frame.opcode bytes (record { unique = sent.unique; wire = sent.wire }) frame.written in
    let said = told.spells in
    let long = within 16 (reply_body told.message.content) bytes said.5.1.1.1 in
    record {
      kind_known = omega arith;
      copy_fits = small;
      no_shorter = omega arith;
      no_longer = said.0;
      len_stated = stated bytes said.5.0;
    }

pub result_whole : (bytes : List ℕ) (result : WriteResult) (unique number : ℕ) → number < 2 ^ 64
    → SpellsResult bytes (result_error result) unique → IsEnvelope 2 number bytes
result_whole bytes result unique number small says =
    let len : length bytes ≡ 16 = says.1.1.1.1 in
    record {
      kind_known = omega arith;
      copy_fits = small;
      no_shorter = omega (arith, len);
      no_longer = omega (arith, len);
      len_stated = stated bytes (says.1.0 ∙ sym len);
    }

put_last : {E : Type 0} (list : List E) (x : E) → list ++ x ∷ [] ≢ []
put_last [] x is = absurd (cc (is))
put_last (y ∷ list) x is = absurd (cc (is))

-- A copy of the reply goes out, unless the mount is aborted.
performed_out : (w : World) (unique : ℕ) (did : PerformResult)
    → IsOut (after_perform w unique did) (performed unique (errno_of did.wire) w.server.aborted)
performed_out w unique did = by w.server.aborted
  where
    by : (gone : Bool) → IsOut (copy_put (record w { server = did.server }) w.server.next_copy unique
        (cond gone None (Some did.wire))) (performed unique (errno_of did.wire) gone)
    by true = tt
    by false = put_last w.replies _

-- An INTERRUPT that is answered EAGAIN has a copy of that reply go out.
taken_out : (w : World) (k unique : ℕ) (body : RequestBody)
    → IsOut (after_take w k unique (taking w.server unique body)) (taken unique (taking w.server unique body).word)
taken_out w k unique (init flags) = tt
taken_out w k unique (asks operation) = tt
taken_out w k unique (release o) = tt
taken_out w k unique (forget f) = tt
taken_out w k unique (batch_forget fs) = tt
taken_out w k unique (interrupt original) = by (get w.server.held original) (get w.server.kept original)
  where
    by : (held : Option HeldRequest) (kept : Option Kept)
        → IsOut (after_take w k unique (interrupting w.server unique original held kept))
        (taken unique (interrupting w.server unique original held kept).word)
    by (Some t) kept = tt
    by None (Some kept) = tt
    by None None = put_last w.replies _

-- An event that sends puts what it sends on a link.
pub led_out : (choice : ℕ → ℕ) (w : World) (e : Event) (o : Outcome) (after : World) → Leads choice w e o after
    → IsOut after o
led_out choice w e o after (mounts f m minor le free) = tt
led_out choice w e o after (calls call ready less) = tt
led_out choice w e o after (reads_interrupt original rest live is) = put_last w.requests _
led_out choice w e o after (reads_forgets n unique forgets may is) = put_last w.requests _
led_out choice w e o after (reads_pending k unique purpose body may at says) = put_last w.requests _
led_out choice w e o after (takes k request at) = taken_out w k request.unique request.body
led_out choice w e o after (performs unique held at counts) =
    performed_out w unique (served choice w.server unique held)
led_out choice w e o after (sends_again unique kept at current counts) = put_last w.replies _
led_out choice w e o after (writes k sent at) = put_last w.results _
led_out choice w e o after (settles k result at) = tt
led_out choice w e o after (signals call fatal state live at) = tt
led_out choice w e o after (passes ms less) = tt
led_out choice w e o after (drops directory name bound live at) = tt
led_out choice w e o after (evicts node counted live at pinned bound) = tt
led_out choice w e o after (aborts live) = tt

pub is_out : (w : World) (e : Event) (o : Outcome) (after : World) → Happens w e o after → IsOut after o
is_out w e o after happens = led_out happens.0 w e o after (only_accepted happens.0 w e o after happens.2)

-- The error numbers of results are such, and fit four bytes.
is_number : (r : WriteResult) → IsErrorNumber (result_error r)
is_number Accepted = search rules
is_number NoEntry = search rules
is_number Invalid = search rules

number_fits : (r : WriteResult) → cast_unsigned w32 (result_error r) < 256 ^ 4
number_fits Accepted = omega arith
number_fits NoEntry = omega arith
number_fits Invalid = omega arith

spelled : (r : WriteResult) (unique : ℕ) (bytes : List ℕ) → unique < 2 ^ 64
    → bytes ≡ spellings (result_fields (result_error r) unique) → SpellsResult bytes (result_error r) unique
spelled r unique bytes small is =
    let fits : 16 < 256 ^ 4 = omega arith in (
      is_number r,
      subst (λ (x : List ℕ). ReadsAs 0 (result_fields (result_error r) unique) x) (sym is)
          (reads_back (result_fields (result_error r) unique) [] (fits, (number_fits r, (small, tt))) tt),
    )

-- A result's frame that has room is written.
pub result_written : (written : Result (Unit {0}) WireFault) (r : WriteResult) (unique : ℕ) (new : List ℕ)
    → unique < 2 ^ 64
    → OnOk written (IsErrorNumber (result_error r) × (new ≡ spellings (result_fields (result_error r) unique)))
    → IfErr written (ResultRefusalIs (result_error r)) → written ≢ Err fault.Memory
    → SpellsResult new (result_error r) unique
result_written (Ok _) r unique new small ok refused room = spelled r unique new small ok.1
result_written (Err fault.Short) r unique new small ok refused room = absurd refused
result_written (Err fault.Length) r unique new small ok refused room = absurd refused
result_written (Err fault.Opcode) r unique new small ok refused room = absurd refused
result_written (Err fault.Name) r unique new small ok refused room = absurd refused
result_written (Err fault.Body) r unique new small ok refused room = absurd refused
result_written (Err fault.ErrorRange) r unique new small ok refused room = absurd (refused (is_number r))
result_written (Err fault.Memory) r unique new small ok refused room = absurd (room refl)

-- What follows at a success follows there, and at a fault too.
pub at_ok : {T E : Type 0} (P Q : Type 0) (r : Result T E) → (P → Q) → OnOk r P → OnOk r Q
at_ok P Q (Ok _) so p = so p
at_ok P Q (Err _) so p = p

pub at_err : {T E : Type 0} (P Q : Type 0) (r : Result T E) → (P → Q) → OnErr r P → OnErr r Q
at_err P Q (Ok _) so p = p
at_err P Q (Err _) so p = so p
