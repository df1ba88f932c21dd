-- A frame spells at most one reply to an opcode, and one that spells a reply has no fault.
use Rattle.std.proofs.Common.{◌≡◌, ◌≤◌, ℕ, zero, suc, ◌+◌, ◌-◌, Bool, true, false, Option, List, [], length, Result, Ok, Err, Some, None, refl, sym, ap, subst, ◌∙◌, arith}
use Rattle.std.specs.Prelude.{FitsSigned, ℤ, IfErr, IfOk, IsOkAnd, if◌then◌else◌, ◌==◌}
use Rattle.std.specs.Int.{w32, cast_unsigned, cast_signed}
use Rattle.std.proofs.lemmas.Int.{to_z-of_z, ints}
use Rattle.std.proofs.lemmas.Bool.{lt-ltb, le-ltb}
use Rattle.fk_wire.specs.declared.fault.WireFault.{WireFault}
use Rattle.fk_wire.specs.declared.fault.WireFault.TheVariants as faults
use Rattle.fk_wire.specs.declared.opcode.Opcode.{Opcode}
use Rattle.fk_wire.specs.declared.opcode.Minor.{Minor}
use Rattle.fk_wire.specs.declared.reply.ReplyKind.{ReplyKind}
use Rattle.fk_wire.specs.declared.reply.ReplyKind.TheVariants as kind
use Rattle.fk_wire.specs.Fields.{number_at, ReadsAs}
use Rattle.fk_wire.specs.Opcodes.{minor_knows, reply_kind_of, latest_minor}
use Rattle.fk_wire.specs.RecordEnds.{record_end, end_from, count_from}
use Rattle.fk_wire.specs.Replies.{ReplyContent, empty_reply, entry_reply, attr_reply, open_reply, bytes_reply, write_reply, init_reply, create_reply, records_reply, plus_reply, ReplyMessage, reply_kind, kind_of_content, states_15, init_end, open_fields, reply_body, IsReplyContent, HasReplyNames, IsErrorNumber, SpellsReply, SpellsReplyAt}
use Rattle.fk_wire.specs.ReplyFaults.{FillsReply, HasNamesOf, ReplyBodyFaultIs, ReplyFaultIsAt}
use Rattle.fk_wire.specs.Results.{SpellsResult}
use Rattle.fk_wire.specs.Replies.{record_count, reply_content_at, decoded_kind, decoded_reply}
use Rattle.fk_wire.proofs.EntryFields.{attr_is, entry_is}
use Rattle.fk_wire.proofs.RecordLists.{record_after, one_count, one_dirent_list, one_plus_list, no_record_list, no_plus_list}
use Rattle.fk_wire.specs.Records.{RecordsFaultIs, PlusFaultIs}
use Rattle.fk_wire.proofs.OneRequest.{within}

-- how many records a content has
abbrev count_of : ReplyContent → ℕ
count_of (records_reply ds) = length ds
count_of (plus_reply ps) = length ps
count_of content = 0

-- This many records reach the end of a body of this kind.
abbrev CountIs : ReplyKind → List ℕ → ℕ → Type 0
CountIs kind.Records bytes count = end_from false count 16 bytes ≡ length bytes
CountIs kind.RecordsPlus bytes count = end_from true count 16 bytes ≡ length bytes
CountIs k bytes count = count ≡ 0

one_count_of : (k : ReplyKind) (bytes : List ℕ) (a b : ℕ) → CountIs k bytes a → CountIs k bytes b → a ≡ b
one_count_of kind.Empty bytes a b h k = h ∙ sym k
one_count_of kind.Entry bytes a b h k = h ∙ sym k
one_count_of kind.Attr bytes a b h k = h ∙ sym k
one_count_of kind.Open bytes a b h k = h ∙ sym k
one_count_of kind.Bytes bytes a b h k = h ∙ sym k
one_count_of kind.Write bytes a b h k = h ∙ sym k
one_count_of kind.Init bytes a b h k = h ∙ sym k
one_count_of kind.Create bytes a b h k = h ∙ sym k
one_count_of kind.Records bytes a b h k = one_count false a b 16 bytes (h ∙ sym k)
one_count_of kind.RecordsPlus bytes a b h k = one_count true a b 16 bytes (h ∙ sym k)

count_is : (s : ReplyContent) (bytes : List ℕ) → IsReplyContent s → ReadsAs 16 (reply_body s) bytes
    → CountIs (kind_of_content s) bytes (count_of s)
count_is empty_reply bytes good h = refl
count_is (entry_reply e) bytes good h = refl
count_is (attr_reply a) bytes good h = refl
count_is (open_reply fh) bytes good h = refl
count_is (bytes_reply bs) bytes good h = refl
count_is (write_reply size) bytes good h = refl
count_is (init_reply major minor flags) bytes good h = refl
count_is (create_reply e fh) bytes good h = refl
count_is (records_reply ds) bytes good h = (one_dirent_list ds 16 bytes h).1
count_is (plus_reply ps) bytes good h = (one_plus_list ps 16 bytes good h).1

content_is : (s : ReplyContent) (bytes : List ℕ) → IsReplyContent s → ReadsAs 16 (reply_body s) bytes
    → reply_content_at (kind_of_content s) (count_of s) bytes ≡ s
content_is empty_reply bytes good h = refl
content_is (entry_reply e) bytes good h = ap entry_reply (entry_is e 16 [] bytes good h).0
content_is (attr_reply a) bytes good h = ap attr_reply (attr_is a 32 [] bytes h).0
content_is (open_reply fh) bytes good h = cc
content_is (bytes_reply bs) bytes good h =
    let len : length bytes - 16 ≡ length bs = omega (arith, h.1) in
    rw (len, h.0) refl
content_is (write_reply size) bytes good h = cc
content_is (init_reply major minor flags) bytes good h = rw (h.0, h.1.0, h.1.1.0) refl
content_is (create_reply e fh) bytes good h =
    let entry = entry_is e 16 (open_fields fh) bytes good h in
    rw (entry.0, entry.2.0) refl
content_is (records_reply ds) bytes good h = ap records_reply (one_dirent_list ds 16 bytes h).0
content_is (plus_reply ps) bytes good h = ap plus_reply (one_plus_list ps 16 bytes good h).0

-- the length of an INIT reply
init_length : (old : Bool) (bytes : List ℕ) → ReadsAs 40 (init_end old) bytes → length bytes ≡ (if old then 40 else 80)
init_length true bytes h = h
init_length false bytes h = h

fills : (s : ReplyContent) (bytes : List ℕ) → IsReplyContent s → ReadsAs 16 (reply_body s) bytes
    → FillsReply (kind_of_content s) bytes
fills empty_reply bytes good h = h
fills (entry_reply e) bytes good h = let entry = entry_is e 16 [] bytes good h in (entry.2, entry.1)
fills (attr_reply a) bytes good h = (attr_is a 32 [] bytes h).1
fills (open_reply fh) bytes good h = h.1
fills (bytes_reply bs) bytes good h = omega (arith, h.1)
fills (write_reply size) bytes good h = h.1
fills (init_reply major minor flags) bytes good h = rw (h.0, h.1.0) (init_length (states_15 major minor) bytes h.1.1.1)
fills (create_reply e fh) bytes good h = let entry = entry_is e 16 (open_fields fh) bytes good h in (entry.2.1, entry.1)
fills (records_reply ds) bytes good h = (ds, h)
fills (plus_reply ps) bytes good h = (ps, good, h)

has_names : (s : ReplyContent) (bytes : List ℕ) → IsReplyContent s → HasReplyNames s → ReadsAs 16 (reply_body s) bytes
    → HasNamesOf (kind_of_content s) bytes
has_names empty_reply bytes good names h = tt
has_names (entry_reply e) bytes good names h = tt
has_names (attr_reply a) bytes good names h = tt
has_names (open_reply fh) bytes good names h = tt
has_names (bytes_reply bs) bytes good names h = tt
has_names (write_reply size) bytes good names h = tt
has_names (init_reply major minor flags) bytes good names h = tt
has_names (create_reply e fh) bytes good names h = tt
has_names (records_reply ds) bytes good names h = (ds, (names, h))
has_names (plus_reply ps) bytes good names h = (ps, (good, names, h))

pub error_fits : (z : ℤ) → IsErrorNumber z → FitsSigned w32 z
error_fits z p = search (arith, ints)

-- the error number in the header
error_is : (x y : ℤ) → IsErrorNumber x → IsErrorNumber y → cast_unsigned w32 x ≡ cast_unsigned w32 y → x ≡ y
error_is x y p q e = sym (to_z-of_z w32 x (error_fits x p)) ∙ ap (cast_signed w32) e ∙ to_z-of_z w32 y (error_fits y q)

pub one_result : (bytes : List ℕ) (y z : ℤ) (v u : ℕ) → cast_unsigned w32 y ≡ number_at 4 4 bytes
    → v ≡ number_at 8 8 bytes → IsErrorNumber y → SpellsResult bytes z u → (y ≡ z) × (v ≡ u)
one_result bytes y z v u e f good h = (error_is y z good h.0 (e ∙ h.1.1.0), f ∙ h.1.1.1.0)

body_reads : (minor : Minor) (o : Opcode) (bytes : List ℕ) (t : ReplyMessage) → SpellsReplyAt minor o bytes t
    → ReadsAs 16 (reply_body t.content) bytes
body_reads minor o bytes t h = h.5.1.1.1

same_kind : (minor : Minor) (o : Opcode) (bytes : List ℕ) (t : ReplyMessage) (k : ReplyKind)
    → SpellsReplyAt minor o bytes t → reply_kind minor o ≡ Some k
    → kind_of_content t.content ≡ (if number_at 4 4 bytes == 0 then k else kind.Empty)
same_kind minor o bytes t k h e =
    let one : h.2.0 ≡ k = let f : Some h.2.0 ≡ Some k = sym h.2.1 ∙ e in cc in
    rw (h.5.1.0, ← one) h.2.2

same_message : (t u : ReplyMessage) → t.unique ≡ u.unique → t.error ≡ u.error → t.content ≡ u.content → t ≡ u
same_message t u p q r =
    let made : ℕ → ℤ → ReplyContent → ReplyMessage = λ n z s. record { unique = n; error = z; content = s } in
    ap (λ (n : ℕ). made n t.error t.content) p ∙ ap (λ (z : ℤ). made u.unique z t.content) q ∙ ap
    (λ (s : ReplyContent). made u.unique u.error s) r

pub one_reply : (minor : Minor) (o : Opcode) (bytes : List ℕ) (t u : ReplyMessage) → SpellsReplyAt minor o bytes t
    → SpellsReplyAt minor o bytes u → t ≡ u
one_reply minor o bytes t u h k =
    let read = body_reads minor o bytes t h in
    let read' = body_reads minor o bytes u k in
    let kinds : kind_of_content t.content ≡ kind_of_content u.content =
    same_kind minor o bytes t h.2.0 h h.2.1 ∙ sym (same_kind minor o bytes u h.2.0 k h.2.1) in
    let counts : count_of t.content ≡ count_of u.content =
    one_count_of (kind_of_content u.content) bytes _ _
    (subst (λ (x : ReplyKind). CountIs x bytes (count_of t.content)) kinds (count_is t.content bytes h.3 read))
    (count_is u.content bytes k.3 read') in
    let content : t.content ≡ u.content = sym (content_is t.content bytes h.3 read) ∙ ap
    (λ (x : ReplyKind). reply_content_at x (count_of t.content) bytes) kinds ∙ ap
    (λ (n : ℕ). reply_content_at
    (kind_of_content u.content) n bytes) counts ∙ content_is u.content bytes k.3 read' in
    same_message t u (sym h.5.1.1.0 ∙ k.5.1.1.0) (error_is t.error u.error h.1 k.1 (sym h.5.1.0 ∙ k.5.1.0)) content

-- ---- what a frame decodes to

-- records take room
pub ends_beyond : (plus : Bool) (count place : ℕ) (bytes : List ℕ) → place + count ≤ end_from plus count place bytes
unfolding end_from record_end
ends_beyond plus zero place bytes = omega arith
ends_beyond plus (suc count) place bytes = let k =
    ends_beyond plus count (record_end plus place bytes) bytes in omega (arith, k, record_after plus place)

-- records that reach the end are counted
pub counted_from : (most : ℕ) (plus : Bool) (count place : ℕ) (bytes : List ℕ)
    → end_from plus count place bytes ≡ length bytes → count ≤ most → count_from most plus place bytes ≡ count
unfolding end_from record_end count_from
counted_from zero plus zero place bytes e h = refl
counted_from zero plus (suc count) place bytes e h = absurd (omega arith)
counted_from (suc most) plus zero place bytes e h = rw (le-ltb place (length bytes) (omega (arith, e))) refl
counted_from (suc most) plus (suc count) place bytes e h =
    let k = ends_beyond plus count (record_end plus place bytes) bytes in
    let rest : count_from most plus (record_end plus place bytes) bytes ≡ count =
    counted_from most plus count (record_end plus place bytes) bytes e (omega arith) in
    rw (lt-ltb place (length bytes) (omega (arith, e, k, record_after plus place))) (ap suc rest)

record_count_is : (k : ReplyKind) (bytes : List ℕ) (n : ℕ) → CountIs k bytes n → record_count k bytes ≡ n
record_count_is kind.Empty bytes n h = sym h
record_count_is kind.Entry bytes n h = sym h
record_count_is kind.Attr bytes n h = sym h
record_count_is kind.Open bytes n h = sym h
record_count_is kind.Bytes bytes n h = sym h
record_count_is kind.Write bytes n h = sym h
record_count_is kind.Init bytes n h = sym h
record_count_is kind.Create bytes n h = sym h
record_count_is kind.Records bytes n h = counted_from (length bytes) false n 16 bytes h
    (omega (arith, h, ends_beyond false n 16 bytes))
record_count_is kind.RecordsPlus bytes n h = counted_from (length bytes) true n 16 bytes h
    (omega (arith, h, ends_beyond true n 16 bytes))

-- a kind of replies that a minor version knows
known_kind : (known : Bool) (kind : Option ReplyKind) (k : ReplyKind) → (if known then kind else None) ≡ Some k
    → kind ≡ Some k
known_kind true kind k e = e
known_kind false kind k e = absurd cc

decoded_kind_is : (minor : Minor) (o : Opcode) (bytes : List ℕ) (t : ReplyMessage) → SpellsReplyAt minor o bytes t
    → decoded_kind o bytes ≡ kind_of_content t.content
decoded_kind_is minor o bytes t h =
    let kind : reply_kind_of o ≡ Some h.2.0 = known_kind (minor_knows minor o) (reply_kind_of o) h.2.0 h.2.1 in
    rw kind (sym (same_kind minor o bytes t h.2.0 h h.2.1))

-- what a frame spells at any minor version is what it decodes to
pub decoded_reply_is_at : (minor : Minor) (o : Opcode) (bytes : List ℕ) (t : ReplyMessage)
    → SpellsReplyAt minor o bytes t → decoded_reply o bytes ≡ t
unfolding decoded_reply
decoded_reply_is_at minor o bytes t h =
    let read = body_reads minor o bytes t h in
    let same = decoded_kind_is minor o bytes t h in
    let count : record_count (kind_of_content t.content) bytes ≡ count_of t.content =
    record_count_is (kind_of_content t.content) bytes (count_of t.content) (count_is t.content bytes h.3 read) in
    let content : reply_content_at (decoded_kind o bytes) (record_count (decoded_kind o bytes) bytes) bytes
    ≡ t.content =
    ap (λ (k : ReplyKind). reply_content_at k (record_count k bytes) bytes) same ∙ ap
    (λ (n : ℕ). reply_content_at (kind_of_content t.content) n bytes) count ∙ content_is t.content bytes h.3 read in
    let error : cast_signed w32 (number_at 4 4 bytes) ≡ t.error =
    ap (cast_signed w32) h.5.1.0 ∙ to_z-of_z w32 t.error (error_fits t.error h.1) in
    same_message (decoded_reply o bytes) t h.5.1.1.0 error content

-- and so at the latest minor version
pub decoded_reply_is : (o : Opcode) (bytes : List ℕ) (t : ReplyMessage) → SpellsReply o bytes t
    → decoded_reply o bytes ≡ t
decoded_reply_is o bytes t h = decoded_reply_is_at latest_minor o bytes t h

-- ---- faults

pub no_reply_fault : (minor : Minor) (o : Opcode) (bytes : List ℕ) (t : ReplyMessage) (f : WireFault)
    → SpellsReplyAt minor o bytes t → ReplyFaultIsAt minor o bytes f → ⊥
no_reply_fault minor o bytes t faults.Short h x = let k =
    within 16 (reply_body t.content) bytes (body_reads minor o bytes t h) in absurd (omega (arith, k, x))
no_reply_fault minor o bytes t faults.Length h x = x.1 h.5.0
no_reply_fault minor o bytes t faults.ErrorRange h x =
    x.1 (subst IsErrorNumber (sym (ap (cast_signed w32) h.5.1.0 ∙ to_z-of_z w32 t.error (error_fits t.error h.1))) h.1)
no_reply_fault minor o bytes t faults.Opcode h x = absurd (let e : Some h.2.0 ≡ None = sym h.2.1 ∙ x.2 in cc)
no_reply_fault minor o bytes t faults.Body h x =
    x.4 (h.0, rw (← same_kind minor o bytes t x.2 h x.3) (fills t.content bytes h.3 (body_reads minor o bytes t h)))
no_reply_fault minor o bytes t faults.Name h x =
    x.6 (rw (← same_kind minor o bytes t x.2 h x.3) (has_names t.content bytes h.3 h.4 (body_reads minor o bytes t h)))
no_reply_fault minor o bytes t faults.Memory h x = x

-- What was read, as a reply or as a body after its head, is all that the frame spells.
pub reply_only : {R : Type 0} (message : R → ReplyMessage) (minor : Minor) (o : Opcode) (bytes : List ℕ)
    (r : Result R WireFault) → IfOk r (λ v. SpellsReplyAt minor o bytes (message v))
    → IfErr r (ReplyFaultIsAt minor o bytes) → (t : ReplyMessage) → SpellsReplyAt minor o bytes t
    → IsOkAnd r (λ v. message v ≡ t)
reply_only message minor o bytes (Ok v) ok err t h = one_reply minor o bytes (message v) t ok h
reply_only message minor o bytes (Err f) ok err t h = absurd (no_reply_fault minor o bytes t f h err)

-- the fault of a list is that of its body
records_fault_is : (bytes : List ℕ) (f : WireFault) → RecordsFaultIs 16 bytes f → ReplyBodyFaultIs kind.Records bytes f
records_fault_is bytes faults.Body x = λ h. x h.0 h.1
records_fault_is bytes faults.Name x = ((x.0, x.1), λ h. no_record_list 16 bytes faults.Name x h.0 h.1)
records_fault_is bytes faults.Short x = absurd x
records_fault_is bytes faults.Length x = absurd x
records_fault_is bytes faults.Opcode x = absurd x
records_fault_is bytes faults.ErrorRange x = absurd x
records_fault_is bytes faults.Memory x = absurd x

plus_fault_is : (bytes : List ℕ) (f : WireFault) → PlusFaultIs 16 bytes f → ReplyBodyFaultIs kind.RecordsPlus bytes f
plus_fault_is bytes faults.Body x = λ h. x h.0 h.1 h.2
plus_fault_is bytes faults.Name x = ((x.0, x.1, x.2), λ h. no_plus_list 16 bytes faults.Name x h.0 h.1)
plus_fault_is bytes faults.Short x = absurd x
plus_fault_is bytes faults.Length x = absurd x
plus_fault_is bytes faults.Opcode x = absurd x
plus_fault_is bytes faults.ErrorRange x = absurd x
plus_fault_is bytes faults.Memory x = absurd x

pub records_fault : (k : ReplyKind) (bytes : List ℕ) (f : WireFault) → k ≡ kind.Records → RecordsFaultIs 16 bytes f
    → ReplyBodyFaultIs k bytes f
records_fault k bytes f e x = rw e (records_fault_is bytes f x)

pub plus_fault : (k : ReplyKind) (bytes : List ℕ) (f : WireFault) → k ≡ kind.RecordsPlus → PlusFaultIs 16 bytes f
    → ReplyBodyFaultIs k bytes f
plus_fault k bytes f e x = rw e (plus_fault_is bytes f x)
