-- A reply of few bytes opens no file: neither an agreement that is handed on as one of another length, nor an error.
use Rattle.std.proofs.Common.{◌≡◌, ℕ, ℤ, ◌+◌, ◌-◌, ◌≤◌, Bool, cond, List, [], ◌∷◌, ◌++◌, Some, length, nat_eq, replicate, set, length-append, refl, ap, sym, subst, ◌∙◌, arith}
use Rattle.std.specs.Prelude.{count_by, negsuc, pos}
use Rattle.std.proofs.lemmas.List.{length-replicate, length-set}
use Rattle.fuse_spec.proofs.QueueCounts.{count_by-cons}
use Rattle.fk_wire.specs.declared.opcode.Opcode.{Opcode}
use Rattle.fk_wire.specs.Entries.{found, missing}
use Rattle.fk_fields.specs.Fields.{number_at}
use Rattle.fk_wire.specs.Fields.{ReadsAs}
use Rattle.fk_wire.specs.Replies.{ReplyContent, WrittenReply, create_reply, empty_reply, entry_reply, open_reply, reply_body, reply_fields}
use Rattle.fk_wire.proofs.Frames.{reads_back}
use Rattle.fuse_spec.specs.declared.Counted.{Counted}
use Rattle.fuse_spec.specs.declared.Entry.{Entry}
use Rattle.fuse_spec.specs.declared.Opened.{Opened}
use Rattle.fuse_spec.specs.Claim.Counts.{times_named}
use Rattle.fuse_spec.specs.Files.Operations.{Operation, create, created, failed, opened, opening as opens}
use Rattle.fuse_spec.specs.Kernel.Messages.{WireReply}
use Rattle.fuse_spec.specs.Kernel.Replies.{kernel_reply, usable, use_of_reply}
use Rattle.fuse_spec.specs.Values.Maps.{Map}
use Rattle.fuse_theorem.proofs.Calls.Finding.{same_is}
use Rattle.fuse_theorem.proofs.Calls.OpenSteps.{gained_by}
use Rattle.fuse_frames.specs.ReplyTies.{wire_said}
use Rattle.fk_kernel.specs.AwaitedReplies.{Says, head_unique}
use Rattle.fk_drive_frames.specs.Agreements.{agreement_on, raised}
use Rattle.fk_drive_frames.proofs.Agreements.{by_raised}
use Rattle.driven_sessions.proofs.Lookups.{short_times}
use Rattle.driven_sessions.proofs.Files.Replies.{usable_node}

-- ---- what opens a file

pub opens_by : {R : Type 0} (operation : Operation ℕ Opened) (wire : WireReply) (q : Opened)
    → gained_by operation (kernel_reply operation wire) ≡ Some q
    → ((g : Entry) (valid fh : ℕ) → wire ≡ created g valid fh → R) → ((fh : ℕ) → wire ≡ opened fh → R) → R
opens_by (create d name) (created g valid fh) q e by_create by_open = by_create g valid fh refl
opens_by (opens node) (opened fh) q e by_create by_open = by_open fh refl
opens_by operation (failed errno) q e by_create by_open = absurd (cc e)
opens_by operation wire q e by_create by_open = absurd (cc e)

open_length : (o : Opcode) (bytes : List ℕ) (fh : ℕ) → Says o bytes (opened fh) → length bytes ≡ 32
open_length o bytes fh says = by says.says.message.error says.says.message.content says.says.says says.says.spells.5.1.1.1
  where
    by : (error : ℤ) (content : ReplyContent) → wire_said error content ≡ opened fh → ReadsAs 16 (reply_body content) bytes
        → length bytes ≡ 32
    by (pos n) (open_reply f) wire reads = reads.1
    by (pos n) (entry_reply (missing s ns)) wire reads = absurd (cc wire)
    by (pos n) (entry_reply (found id generation s ns at)) wire reads = absurd (cc wire)
    by (pos n) (create_reply (missing s ns) f) wire reads = absurd (cc wire)
    by (pos n) (create_reply (found id generation s ns at) f) wire reads = absurd (cc wire)
    by (pos n) content wire reads = absurd (cc wire)
    by (negsuc n) content wire reads = absurd (cc wire)

pub short_opens : (o : Opcode) (bytes : List ℕ) (wire : WireReply) → Says o bytes wire → length bytes ≤ 80
    → (length bytes ≡ 32 → ⊥) → (operation : Operation ℕ Opened) (q : Opened)
    → gained_by operation (kernel_reply operation wire) ≡ Some q → (nodes : Map Counted) → use_of_reply nodes wire ≡ usable → ⊥
short_opens o bytes wire says short apart operation q gains nodes used = opens_by operation wire q gains
    (λ g valid fh is.
    let low = usable_node nodes g valid fh (subst (λ (w : WireReply). use_of_reply nodes w ≡ usable) is used) in
    let none : times_named g.nodeid wire ≤ 0 = short_times g.nodeid o bytes wire says short in
    let same : times_named g.nodeid wire ≡ count_by (λ (e : Entry). nat_eq e.nodeid g.nodeid) (g ∷ []) =
    ap (times_named g.nodeid) is in
    let one = count_by-cons (λ (e : Entry). nat_eq e.nodeid g.nodeid) g [] in
    let mine : cond (nat_eq g.nodeid g.nodeid) 1 0 ≡ 1 = ap (λ (b : Bool). cond {A = ℕ} b 1 0) (same_is g.nodeid) in
    absurd (omega (arith, none, same, one, mine)))
    (λ fh is. apart (open_length o bytes fh (subst (λ (w : WireReply). Says o bytes w) is says)))

-- ---- an agreement that is handed on

pub raised_long : (frame handed : List ℕ) → handed ≡ raised frame → 40 ≤ length handed
raised_long frame handed same = subst (λ (l : List ℕ). 40 ≤ length l) (sym same)
    (by_raised (λ l. 40 ≤ length l) frame (long 15 40 (omega arith)) (long 31 80 (omega arith)))
  where
    long : (minor size : ℕ) → 40 ≤ size → 40 ≤ length (agreement_on minor size frame)
    long minor size least =
        let all : length (agreement_on minor size frame) ≡ length frame + (size - length frame) =
        length-set (set (frame ++ replicate (size - length frame) 0) 0 size) 20 minor
        ∙ length-set (frame ++ replicate (size - length frame) 0) 0 size
        ∙ length-append frame (replicate (size - length frame) 0)
        ∙ ap (λ (n : ℕ). length frame + n) (length-replicate (size - length frame) 0) in
        omega (arith, all, least)

-- ---- an error

pub answer_length : (unique : ℕ) (error : ℤ) (bytes : List ℕ)
    → WrittenReply (record { unique = unique; error = error; content = empty_reply }) bytes → length bytes ≡ 16
answer_length unique error bytes reply =
    let reads = reads_back (reply_fields (length bytes) (record { unique = unique; error = error; content = empty_reply })) []
    reply.6 reply.7 in
    ap length reply.8 ∙ reads.1.1.1

-- An agreement is handed on under its number.
pub raised_number : (frame : List ℕ) → 16 ≤ length frame → head_unique (raised frame) ≡ head_unique frame
unfolding number_at
raised_number frame long = by_raised (λ l. head_unique l ≡ head_unique frame) frame (by 15 40 frame long) (by 31 80 frame long)
  where
    by : (minor size : ℕ) (f : List ℕ) → 16 ≤ length f → head_unique (agreement_on minor size f) ≡ head_unique f
    by minor size (a ∷ b ∷ c ∷ d ∷ e ∷ f ∷ g ∷ h ∷ i ∷ j ∷ k ∷ l ∷ m ∷ n ∷ o ∷ p ∷ rest) long = refl
    by minor size f long = absurd (omega (arith, long))

-- The number of an error.
pub answer_number : (unique : ℕ) (error : ℤ) (bytes : List ℕ)
    → WrittenReply (record { unique = unique; error = error; content = empty_reply }) bytes → head_unique bytes ≡ unique
answer_number unique error bytes reply =
    let reads = reads_back (reply_fields (length bytes) (record { unique = unique; error = error; content = empty_reply })) []
    reply.6 reply.7 in
    ap head_unique reply.8 ∙ reads.1.1.0
