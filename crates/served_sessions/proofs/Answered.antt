-- What is sent behind a frame that is served answers it.
use Rattle.std.proofs.Common.{◌≡◌, ◌≢◌, ◌≤◌, ◌⊎◌, inl, inr, ℕ, zero, suc, map, ℤ, negsuc, ◌-◌, Bool, true, false, cond, List, [], ◌∷◌, length, Option, Some, None, refl, sym, ◌∙◌, ap, subst, subst₂, bit_and, nat_eq, arith, rules}
use Rattle.std.proofs.lemmas.Bool.{true≢false, false≢true}
use Rattle.std.proofs.lemmas.List.Elements.{All-nil}
use Rattle.fuse_spec.specs.declared.WriteResult.TheVariants.{Accepted}
use Rattle.fuse_spec.specs.declared.Minor.{Minor}
use Rattle.fuse_spec.specs.declared.Refusal.{Refusal}
use Rattle.fuse_spec.specs.declared.Refusal.TheVariants.{NoMemory}
use Rattle.fuse_spec.specs.declared.Taken.TheVariants.{Held}
use Rattle.fuse_spec.specs.Values.Maps.{get, remove}
use Rattle.fuse_spec.specs.Values.Numbers.{eagain, eintr, eio}
use Rattle.fuse_spec.specs.Files.Operations as operation
use Rattle.fuse_spec.specs.Files.Operations.{Operation, agreed, failed}
use Rattle.fuse_spec.specs.Kernel.Messages.{Request, RequestBody, WireReply, init, asks, release, forget, batch_forget, interrupt}
use Rattle.fuse_spec.specs.Server.Memory.{word_takes_memory}
use Rattle.fuse_spec.specs.Server.Performs.{init_reply, is_still_held, minor_number, performed, performing, served}
use Rattle.fuse_spec.specs.Server.Server.{HeldRequest, Kept, Server, generation_in, holding, nodes_of_body}
use Rattle.fuse_spec.specs.Server.Nodes.{NodeTable, row_of}
use Rattle.fuse_theorem.proofs.Lookups.RowCounts.{count_of}
use Rattle.fuse_spec.specs.Server.Taking.{interrupting, taking}
use Rattle.fuse_spec.specs.World.Worlds.{Sent}
use Rattle.fuse_spec.proofs.Tables.{get_put_here}
use Rattle.fk_fields.specs.Fields.{number_at}
use Rattle.fk_wire.specs.declared.opcode.Opcode.{Opcode}
use Rattle.fk_wire.specs.declared.opcode.Opcode.TheVariants as op
use Rattle.fk_wire.specs.Faults.{HasLength}
use Rattle.fk_wire.specs.Opcodes.{code_of, reply_kind_of, shape_of}
use Rattle.fk_wire.specs.Replies.{WrittenReply, empty_reply, kind_of_content}
use Rattle.fk_wire.specs.Requests.{RequestContent, known_flags, opcode_of}
use Rattle.fk_wire.specs.Requests as wire
use Rattle.fuse_frames.specs.ReplyTies.{reply_content_of}
use Rattle.fuse_frames.specs.RequestTies.{SaysRequest, asked_opcode}
use Rattle.fuse_device.specs.Transfers.{Transfer, sent}
use Rattle.fs_server.specs.declared.server.ServerFault.{ServerFault}
use Rattle.fs_server.specs.Effects.{PerformsHeld, copy_of, first_copy}
use Rattle.fs_server.specs.Faults.{IsErrorOf, is_unanswered}
use Rattle.fs_server.specs.Releasing.{bare_reply}
use Rattle.fs_serve.specs.LongNames.{HasLongNames}
use Rattle.fs_serve.specs.Sending.{Delivers, IsFilledFrame, RepliesToRelease, SendsBytes, SendsError, SendsFault, at_end, framed_of, settled, unsettled, with_result}
use Rattle.fs_serve.specs.Sending as sending
use Rattle.fs_serve.specs.Serving.{ServesFrame, ServesHeld, done_at_once, dropped, error_for, input_output, is_interrupt, name_too_long, out_of_memory, performed as is_performed, refused, released, replied, replied_at_once, too_long_name, uninterrupted, unreleased, unreplied, untaken}
use Rattle.fuse_sessions.specs.Frames.{error_in}
use Rattle.fuse_sessions.specs.UnreadRequests.{opcode_in, unique_in, takes_no_reply}
use Rattle.served_sessions.specs.Entries.{HasEntriesIn}
use Rattle.served_sessions.specs.Exchanges.{AgreesOn, IsAnswer}
use Rattle.served_sessions.proofs.Bodies.{GoesFor, served_goes}
use Rattle.served_sessions.proofs.Bodies.{fails as fails_for}
use Rattle.served_sessions.proofs.Fine.{IsFine, held_fine}
use Rattle.served_sessions.proofs.Flags.{taken_up}
use Rattle.served_sessions.proofs.Gained.{GainsIn}
use Rattle.served_sessions.proofs.Given.{WireGives, gives_done, gives_none, served_gives}
use Rattle.served_sessions.proofs.Heading.{error_head, error_length, head_of, written_head}
use Rattle.served_sessions.proofs.InitReplies.{agrees_with}
use Rattle.served_sessions.proofs.Performed.{accepted_same, performed_gains, released_more}
use Rattle.served_sessions.proofs.Requests.{asked_alike, frame_header, frame_opcode, frame_unique, init_flags_are, interrupt_length, is_measured}
use Rattle.served_sessions.proofs.Shaped.{has_body, has_entries, has_gains}
use Rattle.served_sessions.proofs.Turned.{WireGains, gains_still}
use Rattle.served_sessions.proofs.Shown.{IsEntryOf}

-- A received frame has the header and the flags of the frame that it is read as.
pub record IsHeadedAs (bytes frame : List ℕ) : Type 0 where
  pub header : HasLength frame → HasLength bytes
  pub opcode : opcode_in bytes ≡ opcode_in frame
  pub unique : unique_in bytes ≡ unique_in frame
  pub flags : number_at 52 4 bytes ≡ number_at 52 4 frame
  pub whole : opcode_in frame ≢ 26 → bytes ≡ frame

pub as_itself : (frame : List ℕ) → IsHeadedAs frame frame
as_itself frame = record { header = λ h. h; opcode = refl; unique = refl; flags = refl; whole = λ other. refl }

-- A reply that answers is sent. Of a sound server its entries are sound, and where it is accepted they are counted.
pub record SendsAnswer (Sound : Type 0) (t : NodeTable) (u : Server) (bytes : List ℕ) (log : List Transfer) : Type 0 where
  pub reply : List ℕ
  pub answers : IsAnswer bytes reply
  pub entries : Sound → HasEntriesIn bytes reply
  pub gains : Sound → log ≡ sent reply Accepted ∷ [] → GainsIn t u bytes reply
  pub sends : SendsBytes reply log

some_copy : (a b : Sent) → ◌≡◌ {A = Option Sent} (Some a) (Some b) → a ≡ b
some_copy a b same = ap of same
  where
    of : Option Sent → Sent
    of None = a
    of (Some x) = x

no_copy : (a : Sent) → ◌≡◌ {A = Option Sent} (Some a) None → ⊥
no_copy a e = cc

-- ---- opcodes

init_apart : (o : Opcode) → is_measured o ≡ true → code_of o ≡ 26 → ⊥
init_apart op.Read room e = omega (arith, e)
init_apart op.Readdir room e = omega (arith, e)
init_apart op.Readdirplus room e = omega (arith, e)
init_apart op.Write room e = omega (arith, e)
init_apart o room e = cc

code_apart : (a b : ℕ) → nat_eq a b ≡ false → a ≡ b → ⊥
code_apart a b ne e = grind (arith, rules)

-- neither a FORGET nor an INTERRUPT
abbrev IsAnswered : ℕ → Type 0
IsAnswered code = (code ≢ 2) × (code ≢ 42) × (code ≢ 36)

forgets_apart : (code : ℕ) → takes_no_reply code ≡ false → IsAnswered code
forgets_apart code e = (
  λ is. of_two (sym (ap takes_no_reply is) ∙ e),
  λ is. of_two (sym (ap takes_no_reply is) ∙ e),
  λ is. of_two (sym (ap takes_no_reply is) ∙ e),
)
  where
    of_two : true ≡ false → ⊥
    of_two e = cc

-- a body that is held takes a reply
pub held_server : (s : Server) (u : ℕ) (body : RequestBody) → (taking s u body).word ≡ Held
    → (taking s u body).server ≡ holding s u body
held_server s u (init flags) is = refl
held_server s u (asks operation') is = refl
held_server s u (release opened) is = refl
held_server s u (forget f) is = absurd cc
held_server s u (batch_forget fs) is = absurd cc
held_server s u (interrupt original) is = absurd (by (get s.held original) (get s.kept original) is)
  where
    by : (h : Option HeldRequest) (k : Option Kept) → (interrupting s u original h k).word ≡ Held → ⊥
    by (Some h) k e = cc
    by None (Some k) e = cc
    by None None e = cc

held_takes_reply : (s : Server) (u : ℕ) (body : RequestBody) → (taking s u body).word ≡ Held
    → takes_no_reply (code_of (asked_opcode body)) ≡ false
held_takes_reply s u (init flags) is = refl
held_takes_reply s u (asks (operation.lookup d name)) is = refl
held_takes_reply s u (asks operation') is = refl
held_takes_reply s u (release opened) is = refl
held_takes_reply s u (forget f) is = absurd cc
held_takes_reply s u (batch_forget fs) is = absurd cc
held_takes_reply s u (interrupt original) is = absurd (by (get s.held original) (get s.kept original) is)
  where
    by : (h : Option HeldRequest) (k : Option Kept) → (interrupting s u original h k).word ≡ Held → ⊥
    by (Some h) k e = cc
    by None (Some k) e = cc
    by None None e = cc

memory_takes_reply : (s : Server) (u : ℕ) (body : RequestBody) → word_takes_memory (taking s u body).word ≡ true
    → asked_opcode body ≢ op.Interrupt → takes_no_reply (code_of (asked_opcode body)) ≡ false
memory_takes_reply s u (init flags) is other = refl
memory_takes_reply s u (asks (operation.lookup d name)) is other = refl
memory_takes_reply s u (asks operation') is other = refl
memory_takes_reply s u (release opened) is other = refl
memory_takes_reply s u (forget f) is other = absurd cc
memory_takes_reply s u (batch_forget fs) is other = absurd cc
memory_takes_reply s u (interrupt original) is other = absurd (other refl)

interrupt_content : (content : RequestContent) → opcode_of content ≡ op.Interrupt → is_interrupt content ≡ true
interrupt_content (wire.interrupt unique) e = refl
interrupt_content content e = cc

long_name_takes_reply : (o : Opcode) (bytes : List ℕ) → HasLongNames (shape_of o) bytes → takes_no_reply (code_of o) ≡ false
long_name_takes_reply op.Lookup bytes h = refl
long_name_takes_reply op.Mkdir bytes h = refl
long_name_takes_reply op.Unlink bytes h = refl
long_name_takes_reply op.Rmdir bytes h = refl
long_name_takes_reply op.Rename bytes h = refl
long_name_takes_reply op.Link bytes h = refl
long_name_takes_reply op.Create bytes h = refl
long_name_takes_reply o bytes h = absurd h

pub of_init : (body : RequestBody) → code_of (asked_opcode body) ≡ 26 → (flags : ℕ) × (body ≡ init flags)
of_init (init flags) e = (flags, refl)
of_init (asks (operation.lookup d name)) e = absurd (omega (arith, e))
of_init (asks operation') e = absurd (omega (arith, e))
of_init body e = absurd (omega (arith, e))

some_held : (a b : HeldRequest) → ◌≡◌ {A = Option HeldRequest} (Some a) (Some b) → a ≡ b
some_held a b same = ap of same
  where
    of : Option HeldRequest → HeldRequest
    of None = a
    of (Some x) = x

-- what is held is what was asked
held_body : (s taken : Server) (u : ℕ) (body : RequestBody) (held : HeldRequest) → (taking s u body).word ≡ Held
    → taken ≡ (taking s u body).server → get taken.held u ≡ Some held → held.body ≡ body
held_body s taken u body held word after there =
    let now : taken ≡ holding s u body = after ∙ held_server s u body word in
    let put_now : HeldRequest = record {
      body = body;
      generations = map (λ id. (id, generation_in (row_of s.nodes id))) (nodes_of_body body);
      marked = false;
    } in
    let same : put_now ≡ held = some_held put_now held
    (sym (get_put_here s.held u put_now) ∙ sym (ap (λ (x : Server). get x.held u) now) ∙ there) in
    sym (ap (λ (h : HeldRequest). h.body) same)

-- a RELEASE's reply
bare_goes : (body : RequestBody) → asked_opcode body ≡ op.Release → (errno : ℕ) → GoesFor body (bare_reply errno)
bare_goes (release opened) is zero = record { kind = inr refl; fits = omega arith }
bare_goes (release opened) is (suc n) = fails_for (release opened) (suc n)
bare_goes (init flags) is errno = absurd cc
bare_goes (forget f) is errno = absurd cc
bare_goes (batch_forget fs) is errno = absurd cc
bare_goes (interrupt original) is errno = absurd cc
bare_goes (asks (operation.lookup d name)) is errno = absurd cc
bare_goes (asks operation') is errno = absurd cc

bare_gains : {t : NodeTable} {u : Server} (body : RequestBody) (errno : ℕ)
    → ((n : ℕ) → count_of t n ≤ count_of u.nodes n) → WireGains t u body (bare_reply errno)
bare_gains {u = u} body zero more = record {
  shows = record { entries = All-nil (IsEntryOf u.nodes u.tree); described = λ n a is says. absurd cc };
  counts = λ n. let m = more n in omega (arith, m);
}
bare_gains {u = u} body (suc k) more = record {
  shows = record { entries = All-nil (IsEntryOf u.nodes u.tree); described = λ n a is says. absurd cc };
  counts = λ n. let m = more n in omega (arith, m);
}

bare_gives : (o : Opcode) (errno : ℕ) → WireGives o (bare_reply errno)
bare_gives o zero = gives_done o
bare_gives o (suc n) = gives_none o (suc n)

-- ---- the error replies

module _ (Sound : Type 0) (t : NodeTable) (u : Server) (bytes frame : List ℕ) (as_read : IsHeadedAs bytes frame) where
  -- an error names nothing
  error_entries : (unique n : ℕ) (reply : List ℕ)
      → WrittenReply (record { unique = unique; error = negsuc n; content = empty_reply }) reply → Sound
      → HasEntriesIn bytes reply
  error_entries unique n reply w sound fine = absurd (error_head unique n reply w fine)

  error_answers : (n : ℕ) (reply : List ℕ) → HasLength frame → IsAnswered (opcode_in frame)
      → WrittenReply (record { unique = unique_in frame; error = negsuc n; content = empty_reply }) reply
      → IsAnswer bytes reply
  error_answers n reply header apart w =
      let head = written_head (record { unique = unique_in frame; error = negsuc n; content = empty_reply }) reply w in
      let shows : error_in reply ≢ 0 = error_head (unique_in frame) n reply w in
      record {
        header = as_read.header header;
        frame = head.frame;
        error = head.word;
        number = head.number ∙ sym as_read.unique;
        no_forget = (λ is. apart.0 (sym as_read.opcode ∙ is), λ is. apart.1 (sym as_read.opcode ∙ is));
        fails = λ none. shows;
        interrupt = λ is. absurd (apart.2 (sym as_read.opcode ∙ is));
        body = record {
          bare = λ some. error_length (unique_in frame) n reply w;
          fits = λ fine. absurd (shows fine);
          few = λ fine. absurd (shows fine);
        };
        init = λ is fine. absurd (shows fine);
      }

  sends_error : (unique n : ℕ) (error : ℤ) (log : List Transfer) → HasLength frame
      → IsAnswered (opcode_in frame) → unique ≡ unique_in frame → error ≡ negsuc n
      → SendsError unique error log → SendsAnswer Sound t u bytes log
  sends_error unique n error log header apart number is sends =
      let written : WrittenReply (record { unique = unique; error = negsuc n; content = empty_reply }) sends.bytes =
      subst (λ (z : ℤ). WrittenReply (record { unique = unique; error = z; content = empty_reply }) sends.bytes) is
      sends.written in
      record {
        reply = sends.bytes;
        answers = error_answers n sends.bytes header apart
            (subst (λ (u : ℕ). WrittenReply (record { unique = u; error = negsuc n; content = empty_reply }) sends.bytes)
            number written);
        entries = error_entries unique n sends.bytes written;
        gains = λ sound accepted fine. absurd (error_head unique n sends.bytes written fine);
        sends = sends.sends;
      }

  -- ---- a copy's frame

  module _ (request : Request) (says : SaysRequest frame request) where
    request_apart : takes_no_reply (code_of (asked_opcode request.body)) ≡ false
        → IsAnswered (opcode_in frame)
    request_apart e = forgets_apart (opcode_in frame) (ap takes_no_reply (frame_opcode frame request says) ∙ e)

    request_error : (n : ℕ) (error : ℤ) (log : List Transfer) → takes_no_reply (code_of (asked_opcode request.body)) ≡ false
        → error ≡ negsuc n → SendsError request.unique error log → SendsAnswer Sound t u bytes log
    request_error n error log takes is sends = sends_error request.unique n error log (frame_header frame request says)
        (request_apart takes) (sym (frame_unique frame request says)) is sends

    failed_frame : (o : Opcode) (reply : List ℕ) (errno : ℕ) (wire' : WireReply) → wire' ≡ failed errno
        → IsFilledFrame o reply (record { unique = request.unique; wire = wire' }) → error_in reply ≢ 0
    failed_frame o reply errno wire' is filled =
        let now : IsFilledFrame o reply (record { unique = request.unique; wire = failed errno }) =
        subst (λ (w : WireReply). IsFilledFrame o reply (record { unique = request.unique; wire = w })) is filled in
        let shows : error_in now.written ≢ 0 = error_head request.unique (errno - 1) now.written now.frame.written in
        subst (λ (b : List ℕ). error_in b ≢ 0) (sym now.filled) shows

    no_room : opcode_in frame ≡ 26 → is_measured (asked_opcode request.body) ≡ true → ⊥
    no_room is room = init_apart (asked_opcode request.body) room (sym (frame_opcode frame request says) ∙ is)

    no_getattr : asked_opcode request.body ≡ op.Getattr → opcode_in frame ≡ 26 → ⊥
    no_getattr is init_code =
        code_apart 3 26 refl (sym (frame_opcode frame request says ∙ ap code_of is) ∙ init_code)

    kind_of : (o : Opcode) (reply : List ℕ) (wire' : WireReply)
        → IsFilledFrame o reply (record { unique = request.unique; wire = wire' })
        → ((errno : ℕ) × (wire' ≡ failed errno))
        ⊎ (reply_kind_of (asked_opcode request.body) ≡ Some (kind_of_content (reply_content_of wire')))
        → error_in reply ≡ 0 → reply_kind_of (asked_opcode request.body) ≡ Some (kind_of_content (reply_content_of wire'))
    kind_of o reply wire' filled (inl (errno, is)) fine = absurd (failed_frame o reply errno wire' is filled fine)
    kind_of o reply wire' filled (inr is) fine = is

    filled_entries : (o : Opcode) (reply : List ℕ) (wire' : WireReply)
        → IsFilledFrame o reply (record { unique = request.unique; wire = wire' }) → GoesFor request.body wire'
        → WireGives (asked_opcode request.body) wire' → HasEntriesIn bytes reply
    filled_entries o reply wire' filled goes = has_entries bytes frame request says as_read.opcode
        (λ room. as_read.whole (λ is. no_room is room)) o reply wire' filled.says goes
        (kind_of o reply wire' filled goes.kind)

    filled_gains : (o : Opcode) (reply : List ℕ) (wire' : WireReply)
        → IsFilledFrame o reply (record { unique = request.unique; wire = wire' }) → GoesFor request.body wire'
        → (error_in reply ≡ 0 → WireGains t u request.body wire') → GainsIn t u bytes reply
    filled_gains o reply wire' filled goes gains = has_gains bytes frame request says as_read.opcode
        (λ room. as_read.whole (λ is. no_room is room)) o reply wire' filled.says goes
        (kind_of o reply wire' filled goes.kind) t u (λ is. as_read.whole (λ init_code. no_getattr is init_code)) gains

    filled_answers : (o : Opcode) (reply : List ℕ) (wire' : WireReply)
        → IsFilledFrame o reply (record { unique = request.unique; wire = wire' })
        → (opcode_in frame ≢ 2) × (opcode_in frame ≢ 42) → (opcode_in frame ≡ 36 → length frame ≡ 48)
        → (takes_no_reply (opcode_in frame) ≡ true → error_in reply ≢ 0)
        → (opcode_in frame ≡ 26 → error_in reply ≡ 0 → AgreesOn bytes reply) → GoesFor request.body wire'
        → IsAnswer bytes reply
    filled_answers o reply wire' filled apart long fails agrees goes =
        let m = filled.says.message in
        let h = filled.says.spells in
        let head = head_of m reply h.0 h.1 h.5 in
        record {
          header = as_read.header (frame_header frame request says);
          frame = head.frame;
          error = head.word;
          number = head.number ∙ filled.says.unique_is ∙ sym (frame_unique frame request says) ∙ sym as_read.unique;
          no_forget = (λ is. apart.0 (sym as_read.opcode ∙ is), λ is. apart.1 (sym as_read.opcode ∙ is));
          fails = λ none. fails (sym (ap takes_no_reply as_read.opcode) ∙ none);
          interrupt = λ is. interrupt_long (sym as_read.opcode ∙ is);
          body = has_body bytes frame request says as_read.opcode
              (λ room. as_read.whole (λ is. no_room is room)) o reply wire' filled.says goes
              (kind_of o reply wire' filled goes.kind);
          init = λ is. agrees (sym as_read.opcode ∙ is);
        }
      where
        interrupt_long : opcode_in frame ≡ 36 → length bytes ≡ 48
        interrupt_long is = ap (λ (b : List ℕ). length b) (as_read.whole (λ other. code_apart 36 26 refl (sym is ∙ other)))
            ∙ long is

    delivered : (copy : Sent) (old : Server) (log : List Transfer) (new : Server) → Delivers copy old log new
        → (o : Opcode) × (reply : List ℕ) × IsFilledFrame o reply (framed_of copy) × SendsBytes reply log
    delivered copy old log new (settled o reply filled result new' is) = (o, reply, filled, with_result result)
    delivered copy old log new (unsettled o reply filled end) = (o, reply, filled, at_end end)

    sends_copy : (copy : Sent) (log : List Transfer) → copy.unique ≡ request.unique
        → ((o : Opcode) × (reply : List ℕ) × IsFilledFrame o reply (framed_of copy) × SendsBytes reply log)
        → (opcode_in frame ≢ 2) × (opcode_in frame ≢ 42) → (opcode_in frame ≡ 36 → length frame ≡ 48)
        → ((o : Opcode) (reply : List ℕ) → IsFilledFrame o reply (record { unique = request.unique; wire = copy.wire })
        → (takes_no_reply (opcode_in frame) ≡ true → error_in reply ≢ 0)
        × (opcode_in frame ≡ 26 → error_in reply ≡ 0 → AgreesOn bytes reply)) → GoesFor request.body copy.wire
        → (Sound → WireGives (asked_opcode request.body) copy.wire)
        → ((o : Opcode) (reply : List ℕ) → IsFilledFrame o reply (record { unique = request.unique; wire = copy.wire })
        → Sound → log ≡ sent reply Accepted ∷ [] → error_in reply ≡ 0 → WireGains t u request.body copy.wire)
        → SendsAnswer Sound t u bytes log
    sends_copy copy log under (o, reply, filled, sends) apart long says' goes gives gains =
        let now : IsFilledFrame o reply (record { unique = request.unique; wire = copy.wire }) =
        subst (λ (u : ℕ). IsFilledFrame o reply (record { unique = u; wire = copy.wire })) under filled in
        let both = says' o reply now in
        record {
          reply = reply;
          answers = filled_answers o reply copy.wire now apart long both.0 both.1 goes;
          entries = λ sound. filled_entries o reply copy.wire now goes (gives sound);
          gains = λ sound accepted. filled_gains o reply copy.wire now goes (gains o reply now sound accepted);
          sends = sends;
        }

    -- ---- an INTERRUPT that is answered at once

    at_once : (s : Server) (copy : Sent) (body : RequestBody)
        → Some copy ≡ copy_of s.next_copy request.unique (taking s request.unique body).reply
        → (asked_opcode body ≡ op.Interrupt) × (copy.unique ≡ request.unique) × (copy.wire ≡ failed eagain)
    at_once s copy (init flags) is = absurd (no_copy copy is)
    at_once s copy (asks operation') is = absurd (no_copy copy is)
    at_once s copy (release opened) is = absurd (no_copy copy is)
    at_once s copy (forget f) is = absurd (no_copy copy is)
    at_once s copy (batch_forget fs) is = absurd (no_copy copy is)
    at_once s copy (interrupt original) is = by (get s.held original) (get s.kept original) is
      where
        by : (h : Option HeldRequest) (k : Option Kept)
            → Some copy ≡ copy_of s.next_copy request.unique (interrupting s request.unique original h k).reply
            → (op.Interrupt ≡ op.Interrupt) × (copy.unique ≡ request.unique) × (copy.wire ≡ failed eagain)
        by (Some h) k e = absurd (no_copy copy e)
        by None (Some k) e = absurd (no_copy copy e)
        by None None e =
            let same = some_copy copy (record { number = s.next_copy; unique = request.unique; wire = failed eagain }) e in
            (refl, ap (λ (c : Sent). c.unique) same, ap (λ (c : Sent). c.wire) same)

    interrupt_code : asked_opcode request.body ≡ op.Interrupt → opcode_in frame ≡ 36
    interrupt_code is = frame_opcode frame request says ∙ ap code_of is

    replies_at_once : (s taken : Server) (copy : Sent) (log : List Transfer) (new : Server)
        → Some copy ≡ copy_of s.next_copy request.unique (taking s request.unique request.body).reply
        → Delivers copy taken log new → SendsAnswer Sound t u bytes log
    replies_at_once s taken copy log new is delivers =
        let a = at_once s copy request.body is in
        let code : opcode_in frame ≡ 36 = interrupt_code a.0 in
        sends_copy copy log a.1 (delivered copy taken log new delivers)
        (λ two. code_apart 36 2 refl (sym code ∙ two), λ more. code_apart 36 42 refl (sym code ∙ more))
        (λ is. interrupt_length frame request says a.0)
        (λ o reply filled. (
          λ none. failed_frame o reply eagain copy.wire a.2 filled,
          λ init_code. absurd (code_apart 36 26 refl (sym code ∙ init_code)),
        ))
        (subst (GoesFor request.body) (sym a.2) (fails_for request.body eagain))
        (λ sound. subst (WireGives (asked_opcode request.body)) (sym a.2) (gives_none (asked_opcode request.body) eagain))
        (λ o reply filled sound accepted fine. absurd (failed_frame o reply eagain copy.wire a.2 filled fine))

    -- ---- INIT, performed

    -- performed it is answered the flags that are known, or an error
    performed_init : (choice : ℕ → ℕ) (s : Server) (held : HeldRequest) (flags : ℕ) → held.body ≡ init flags
        → ((errno : ℕ) × ((performed choice s held).wire ≡ failed errno))
        ⊎ ((performed choice s held).wire ≡ init_reply s.minor flags)
    performed_init choice s held flags is = by held.marked (is_still_held s.nodes held.generations)
      where
        by : (m h : Bool) → ((errno : ℕ)
            × ((cond m (record { server = s; wire = failed eintr }) (cond h (performing choice s held.body)
            (record { server = s; wire = failed eio }))).wire ≡ failed errno))
            ⊎ ((cond m (record { server = s; wire = failed eintr }) (cond h (performing choice s held.body)
            (record { server = s; wire = failed eio }))).wire ≡ init_reply s.minor flags)
        by true h = inl (eintr, refl)
        by false false = inl (eio, refl)
        by false true = inr (ap (λ (b : RequestBody). (performing choice s b).wire) is)

    init_agrees : (minor : Minor) (flags : ℕ) (o : Opcode) (reply : List ℕ) (wire' : WireReply) → request.body ≡ init flags
        → wire' ≡ init_reply minor flags → IsFilledFrame o reply (record { unique = request.unique; wire = wire' })
        → AgreesOn bytes reply
    init_agrees minor flags o reply wire' body_is wire_is filled =
        let offered : flags ≡ bit_and (number_at 52 4 frame) known_flags = init_flags_are frame request says flags body_is in
        let taken : wire' ≡ agreed 7 (minor_number minor) (taken_up minor (number_at 52 4 frame)) =
        wire_is ∙ ap (λ (n : ℕ). init_reply minor n) offered in
        let now : IsFilledFrame o reply
        (record { unique = request.unique; wire = agreed 7 (minor_number minor) (taken_up minor (number_at 52 4 frame)) }) =
        subst (λ (w : WireReply). IsFilledFrame o reply (record { unique = request.unique; wire = w })) taken filled in
        subst (λ (b : List ℕ). AgreesOn bytes b) (sym now.filled)
        (agrees_with request.unique (minor_number minor) minor (number_at 52 4 frame) now.written now.frame.written bytes
        as_read.flags)

    performs : (s taken : Server) → (Sound → IsFine s) → (errno : ℕ) (copy : Sent) (did : Server) → taken ≡ (taking s request.unique request.body).server
        → (taking s request.unique request.body).word ≡ Held → PerformsHeld taken request.unique errno (Some copy) did
        → (log : List Transfer) (new : Server) → Delivers copy did log new → t ≡ s.nodes
        → u ≡ new → SendsAnswer Sound t u bytes log
    performs s taken fine errno copy did after held p log new delivers before later =
        let takes : takes_no_reply (code_of (asked_opcode request.body)) ≡ false =
        held_takes_reply s request.unique request.body held in
        let c = copied taken.aborted p.copy_is in
        sends_copy copy log c.0 (delivered copy did log new delivers) ((request_apart takes).0, (request_apart takes).1)
        (λ is. absurd ((request_apart takes).2 is))
        (λ o reply filled. (
          λ none. absurd (false≢true (sym (ap takes_no_reply (frame_opcode frame request says) ∙ takes) ∙ none)),
          λ code fine. agrees o reply filled c.1 code fine,
        ))
        (subst (GoesFor request.body) (sym c.1)
        (subst (λ (b : RequestBody). GoesFor b (served p.choice taken request.unique p.held).wire)
        (held_body s taken request.unique request.body p.held held after p.there)
        (served_goes p.choice taken request.unique p.held)))
        (λ sound. subst (WireGives (asked_opcode request.body)) (sym c.1)
        (subst (λ (b : RequestBody). WireGives (asked_opcode b) (served p.choice taken request.unique p.held).wire)
        (held_body s taken request.unique request.body p.held held after p.there) (given sound)))
        (λ o reply filled sound accepted fine'. gained sound reply accepted)
      where
        here_fine : Sound → IsFine taken
        here_fine sound = subst IsFine (sym (after ∙ held_server s request.unique request.body held))
            (held_fine s (fine sound) request.unique request.body)

        gained : Sound → (reply : List ℕ) → log ≡ sent reply Accepted ∷ [] → WireGains t u request.body copy.wire
        gained sound reply accepted =
            let same : taken.nodes ≡ s.nodes =
            ap (λ (x : Server). x.nodes) (after ∙ held_server s request.unique request.body held) in
            let now = accepted_same copy did log new delivers reply accepted in
            let asked : (let h = p.held in h.body) ≡ request.body =
            held_body s taken request.unique request.body p.held held after p.there in
            subst₂ (λ (x : NodeTable) (y : Server). WireGains x y request.body copy.wire) (same ∙ sym before) (sym later)
            (gains_still taken.nodes did new request.body copy.wire now.0 now.1
            (subst (λ (b : RequestBody). WireGains taken.nodes did b copy.wire) asked
            (performed_gains taken (here_fine sound) request.unique errno copy did p)))

        given : Sound → WireGives (asked_opcode p.held.body) (served p.choice taken request.unique p.held).wire
        given sound =
            let here = here_fine sound in
            served_gives p.choice taken here.sound.nodes here.sound.tree here.stands request.unique p.held p.may

        copied : (aborted : Bool) → Some copy ≡ first_copy aborted taken.next_copy request.unique
            (served p.choice taken request.unique p.held).wire
            → (copy.unique ≡ request.unique) × (copy.wire ≡ (served p.choice taken request.unique p.held).wire)
        copied true e = absurd (no_copy copy e)
        copied false e =
            let same = some_copy copy (record {
              number = taken.next_copy;
              unique = request.unique;
              wire = (served p.choice taken request.unique p.held).wire;
            }) e in
            (ap (λ (x : Sent). x.unique) same, ap (λ (x : Sent). x.wire) same)

        agrees : (o : Opcode) (reply : List ℕ) → IsFilledFrame o reply (record { unique = request.unique; wire = copy.wire })
            → copy.wire ≡ (served p.choice taken request.unique p.held).wire → opcode_in frame ≡ 26 → error_in reply ≡ 0
            → AgreesOn bytes reply
        agrees o reply filled wire_is code fine =
            let found : (flags : ℕ) × (request.body ≡ init flags) =
            of_init request.body (sym (frame_opcode frame request says) ∙ code) in
            let body_is : p.held.body ≡ init found.0 =
            held_body s taken request.unique request.body p.held held after p.there ∙ found.1 in
            let mid : Server = record taken { held = remove taken.held request.unique } in
            by found.0 found.1 mid (performed_init p.choice mid p.held found.0 body_is)
          where
            by : (flags : ℕ) → request.body ≡ init flags → (mid : Server) → ((errno : ℕ)
                × ((served p.choice taken request.unique p.held).wire ≡ failed errno))
                ⊎ ((served p.choice taken request.unique p.held).wire ≡ init_reply mid.minor flags) → AgreesOn bytes reply
            by flags body_is mid (inl (errno, is)) =
                absurd (failed_frame o reply errno copy.wire (wire_is ∙ is) filled fine)
            by flags body_is mid (inr is) = init_agrees mid.minor flags o reply copy.wire body_is (wire_is ∙ is) filled

    -- ---- what is held

    error_negative : (refusal : Refusal) → (n : ℕ) × (error_for refusal ≡ negsuc n)
    error_negative NoMemory = (11, refl)
    error_negative refusal = (4, refl)

    serves_held : (s taken : Server) → (Sound → IsFine s) → (log : List Transfer) (new : Server) → taken ≡ (taking s request.unique request.body).server
        → (taking s request.unique request.body).word ≡ Held → ServesHeld taken request.unique log new → t ≡ s.nodes
        → u ≡ new → (log ≡ []) ⊎ SendsAnswer Sound t u bytes log
    serves_held s taken fine log new after held (replied errno copy did p log' new' delivers) before later =
        inr (performs s taken fine errno copy did after held p log new delivers before later)
    serves_held s taken fine log new after held (unreplied errno new' p) before later = inl refl
    serves_held s taken fine log new after held (dropped refusal why log' sends) before later =
        let n = error_negative refusal in
        inr (request_error n.0 (error_for refusal) log (held_takes_reply s request.unique request.body held) n.1 sends)

    -- ---- RELEASE

    released_answer : (aborted : Bool) (number errno : ℕ) (log : List Transfer)
        → (Sound → (n : ℕ) → count_of t n ≤ count_of u.nodes n) → asked_opcode request.body ≡ op.Release
        → RepliesToRelease (first_copy aborted number request.unique (bare_reply errno)) log
        → (log ≡ []) ⊎ SendsAnswer Sound t u bytes log
    released_answer true number errno log more is none = inl none
    released_answer false number errno log more is (reply, filled, sends) =
        let takes : takes_no_reply (code_of (asked_opcode request.body)) ≡ false = ap (λ (o : Opcode). takes_no_reply (code_of o)) is in
        let code : opcode_in frame ≡ 18 = frame_opcode frame request says ∙ ap code_of is in
        inr (record {
          reply = reply;
          answers = filled_answers op.Release reply (bare_reply errno) filled ((request_apart takes).0, (request_apart takes).1)
              (λ is. absurd ((request_apart takes).2 is))
              (λ none. absurd (false≢true (sym (ap takes_no_reply code) ∙ none)))
              (λ init_code. absurd (code_apart 18 26 refl (sym code ∙ init_code))) (bare_goes request.body is errno);
          entries = λ sound. filled_entries op.Release reply (bare_reply errno) filled (bare_goes request.body is errno)
              (bare_gives (asked_opcode request.body) errno);
          gains = λ sound accepted. filled_gains op.Release reply (bare_reply errno) filled
              (bare_goes request.body is errno) (λ fine. bare_gains request.body errno (more sound));
          sends = sends;
        })

  -- ---- a frame is served

  unanswered_apart : (code : ℕ) → is_unanswered code ≡ false → IsAnswered code
  unanswered_apart code e = (
    λ is. of_two (sym (ap is_unanswered is) ∙ e),
    λ is. of_two (sym (ap is_unanswered is) ∙ e),
    λ is. of_two (sym (ap is_unanswered is) ∙ e),
  )
    where
      of_two : true ≡ false → ⊥
      of_two e = cc

  error_of_fault : (minor : Minor) (code : ℕ) (error : ℤ) → IsErrorOf minor code error → (n : ℕ) × (error ≡ negsuc n)
  error_of_fault minor code error (inl (known, is)) = (_, is)
  error_of_fault minor code error (inr (none, is)) = (_, is)

  sends_fault : (minor : Minor) (fault : ServerFault) (log : List Transfer) → SendsFault minor frame fault log
      → (log ≡ []) ⊎ SendsAnswer Sound t u bytes log
  sends_fault minor fault log (sending.replied reply is log' sends) =
      let n = error_of_fault minor (opcode_in frame) is.error is.of_opcode in
      inr (record {
        reply = reply;
        answers = error_answers n.0 reply is.answerable.header (unanswered_apart (opcode_in frame) is.answerable.of_opcode)
            (subst (λ (z : ℤ). WrittenReply (record { unique = unique_in frame; error = z; content = empty_reply }) reply) n.1
            is.written);
        gains = λ sound accepted fine. absurd (error_head (unique_in frame) n.0 reply
            (subst (λ (z : ℤ). WrittenReply (record { unique = unique_in frame; error = z; content = empty_reply }) reply) n.1
            is.written) fine);
        entries = error_entries (unique_in frame) n.0 reply
            (subst (λ (z : ℤ). WrittenReply (record { unique = unique_in frame; error = z; content = empty_reply }) reply) n.1
            is.written);
        sends = sends;
      })
  sends_fault minor fault log (sending.unreplied none) = inl refl

  pub serves_answer : (old : Server) → (Sound → IsFine old) → (log : List Transfer) (new : Server) → ServesFrame old frame log new
      → t ≡ old.nodes → u ≡ new → (log ≡ []) ⊎ SendsAnswer Sound t u bytes log
  serves_answer old fine log new (done_at_once request new' took silent not_held) before later = inl refl
  serves_answer old fine log new (replied_at_once request taken took copy is log' new' delivers) before later =
      inr (replies_at_once request took.says old taken copy log new is delivers)
  serves_answer old fine log new (released unique opened says errno new' releases log' replies) before later =
      released_answer (record { unique = unique; body = release opened }) says old.aborted old.next_copy errno log
      (λ sound n. released_more old (fine sound) unique opened errno new releases before (ap (λ (x : Server). x.nodes) later) n) refl replies
  serves_answer old fine log new (unreleased unique opened says refuses log' sends) before later =
      inr (request_error (record { unique = unique; body = release opened }) says 4 input_output log refl refl sends)
  serves_answer old fine log new (is_performed request taken took held other log' new' serves) before later =
      serves_held request took.says old taken fine log new took.after held serves before later
  serves_answer old fine log new (untaken can wants other not_interrupt log' sends) before later =
      let apart : asked_opcode can.request.body ≢ op.Interrupt = λ is. true≢false (sym (interrupt_content
      can.says.message.content (sym (asked_alike frame can.request can.says) ∙ is)) ∙ not_interrupt) in
      inr (request_error can.request can.says 11 out_of_memory log
      (memory_takes_reply old can.request.unique can.request.body (wants can.request can.says) apart) refl sends)
  serves_answer old fine log new (uninterrupted can wants is) before later = inl refl
  serves_answer old fine log new (name_too_long refuses long low log' sends) before later =
      inr (sends_error (number_at 8 8 frame) 35 too_long_name log long.header
      (forgets_apart (opcode_in frame) (ap takes_no_reply (sym long.asks)
      ∙ long_name_takes_reply long.opcode frame long.names)) refl refl sends)
  serves_answer old fine log new (refused fault refuses not_memory other low log' sends) before later = sends_fault old.minor fault log sends
