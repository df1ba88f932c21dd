-- A frame spells at most one request, and one that spells a request has no fault.
use Rattle.std.proofs.Common.{◌≡◌, ℕ, Bool, true, false, ◌+◌, ◌≤◌, List, [], ◌∷◌, length, Result, Ok, Err, refl, sym, ap, ◌∙◌, arith}
use Rattle.std.specs.Prelude.{IsTrue, IfErr, IfOk, IsOkAnd, if◌then◌else◌}
use Rattle.fk_wire.specs.declared.fault.WireFault.{WireFault}
use Rattle.fk_wire.specs.declared.fault.WireFault.TheVariants as faults
use Rattle.fk_wire.specs.declared.opcode.Opcode.{Opcode}
use Rattle.fk_wire.specs.declared.opcode.Opcode.TheVariants as op
use Rattle.fk_wire.specs.declared.request.Request.{Request}
use Rattle.fk_wire.specs.Fields.{Field, holds, free, bits, named, raw, number_at, ReadsAs}
use Rattle.fk_wire.proofs.PairLists.{one_list, list_ends}
use Rattle.fk_wire.specs.Requests.{RequestContent, lookup, forget, getattr, mkdir, unlink, rmdir, rename, link, opening, read, write, release, init, readdir, readdirplus, create, interrupt, batch_forget, RequestMessage, opcode_of, nodeid_field, IsNodeOf, request_body, max_frame, Spells, SpellsAt, request_message}
use Rattle.fk_wire.specs.declared.opcode.Minor.{Minor}
use Rattle.fk_wire.specs.Requests.{name_from, first_from, request_content_at, decoded}
use Rattle.fk_wire.specs.Opcodes.{code_of, minor_knows, latest_minor, has_node, shape_of, opcode_from}
use Rattle.fk_wire.specs.Faults.{NodeReads, Fills, HasNames, BodyFaultIs, FaultIsAt}
use Rattle.fk_fields.proofs.Names.{name_is, first_is}

content_is : (a : RequestContent) (bytes : List ℕ) → ReadsAs 40 (request_body a) bytes
    → request_content_at (opcode_of a) bytes ≡ a
content_is (lookup name) bytes h = ap lookup (name_is 40 bytes name h)
content_is (forget n) bytes h = cc
content_is getattr bytes h = refl
content_is (mkdir name) bytes h = ap mkdir (name_is 48 bytes name h)
content_is (unlink name) bytes h = ap unlink (name_is 40 bytes name h)
content_is (rmdir name) bytes h = ap rmdir (name_is 40 bytes name h)
content_is (rename newdir old new) bytes h =
    let first : first_from bytes ≡ old = first_is bytes old (h.1.0, h.1.1) in
    let second : name_from (48 + (length old + 1)) bytes ≡ new = name_is (48 + (length old + 1)) bytes new h.1.2 in
    rw (first, second, h.0) refl
content_is (link oldnodeid name) bytes h = let e = name_is 48 bytes name h.1 in cc
content_is opening bytes h = refl
content_is (read fh offset size) bytes h = cc
content_is (write fh offset bs) bytes h = rw (h.0, h.1.0, h.1.1.0, h.1.1.1.0) refl
content_is (release fh) bytes h = cc
content_is (init major minor flags) bytes h = cc
content_is (readdir offset size) bytes h = cc
content_is (readdirplus offset size) bytes h = cc
content_is (create name) bytes h = ap create (name_is 56 bytes name h)
content_is (interrupt unique) bytes h = cc
content_is (batch_forget ps) bytes h = ap batch_forget (rw h.0 (one_list ps 48 bytes h.1))

fills : (a : RequestContent) (bytes : List ℕ) → ReadsAs 40 (request_body a) bytes
    → Fills (shape_of (opcode_of a)) bytes × HasNames (shape_of (opcode_of a)) bytes
fills (lookup name) bytes h = (omega (arith, h.2), (name, h))
fills (forget n) bytes h = (h.1, tt)
fills getattr bytes h = (h, tt)
fills (mkdir name) bytes h = (omega (arith, h.2), (name, h))
fills (unlink name) bytes h = (omega (arith, h.2), (name, h))
fills (rmdir name) bytes h = (omega (arith, h.2), (name, h))
fills (rename newdir old new) bytes h = (omega (arith, h.1.2.2), (old, new, h.1))
fills (link oldnodeid name) bytes h = (omega (arith, h.1.2), (name, h.1))
fills opening bytes h = (h, tt)
fills (read fh offset size) bytes h = (h.1.1.1, tt)
fills (write fh offset bs) bytes h = ((omega (arith, h.1.1.1.1), omega (arith, h.1.1.0, h.1.1.1.1)), tt)
fills (release fh) bytes h = (h.1, tt)
fills (init major minor flags) bytes h = (h.1.1.1, tt)
fills (readdir offset size) bytes h = (h.1.1, tt)
fills (readdirplus offset size) bytes h = (h.1.1, tt)
fills (create name) bytes h = (omega (arith, h.2), (name, h))
fills (interrupt unique) bytes h = (h.1, tt)
fills (batch_forget ps) bytes h = let e = list_ends ps 48 bytes h.1 in ((omega arith, omega (arith, h.0)), tt)

opcode_back : (o : Opcode) → opcode_from (code_of o) ≡ o
opcode_back op.Lookup = refl
opcode_back op.Forget = refl
opcode_back op.Getattr = refl
opcode_back op.Mkdir = refl
opcode_back op.Unlink = refl
opcode_back op.Rmdir = refl
opcode_back op.Rename = refl
opcode_back op.Link = refl
opcode_back op.Open = refl
opcode_back op.Read = refl
opcode_back op.Write = refl
opcode_back op.Release = refl
opcode_back op.Init = refl
opcode_back op.Readdir = refl
opcode_back op.Create = refl
opcode_back op.Interrupt = refl
opcode_back op.BatchForget = refl
opcode_back op.Readdirplus = refl

pub same_code : (o p : Opcode) → code_of o ≡ code_of p → o ≡ p
same_code o p e = sym (opcode_back o) ∙ ap opcode_from e ∙ opcode_back p

-- the field of the node, and what follows it
nodeid_reads : (about : Bool) (node : ℕ) (after : List Field) (bytes : List ℕ) → IsNodeOf about node
    → ReadsAs 16 (nodeid_field about node ∷ after) bytes → NodeReads about bytes node × ReadsAs 24 after bytes
nodeid_reads true node after bytes good h = h
nodeid_reads false node after bytes good h = (good, h)

one_node : (about : Bool) (a b : ℕ) (bytes : List ℕ) → NodeReads about bytes a → NodeReads about bytes b → a ≡ b
one_node true a b bytes h k = sym h ∙ k
one_node false a b bytes h k = h ∙ sym k

body_at : (minor : Minor) (bytes : List ℕ) (m : RequestMessage) → SpellsAt minor bytes m
    → ReadsAs 40 (request_body m.content) bytes
body_at minor bytes m h = (nodeid_reads (has_node (opcode_of m.content)) m.nodeid _ bytes h.2 h.3.1.1.1).1

node_at : (minor : Minor) (bytes : List ℕ) (m : RequestMessage) → SpellsAt minor bytes m
    → NodeReads (has_node (opcode_of m.content)) bytes m.nodeid
node_at minor bytes m h = (nodeid_reads (has_node (opcode_of m.content)) m.nodeid _ bytes h.2 h.3.1.1.1).0

same_message : (m n : RequestMessage) → m.unique ≡ n.unique → m.nodeid ≡ n.nodeid → m.content ≡ n.content → m ≡ n
same_message m n p q r =
    let made : ℕ → ℕ → RequestContent → RequestMessage = λ u d a. record { unique = u; nodeid = d; content = a } in
    ap (λ (u : ℕ). made u m.nodeid m.content) p ∙ ap (λ (d : ℕ). made n.unique d m.content) q ∙ ap
    (λ (a : RequestContent). made n.unique n.nodeid a) r

pub one_request : (minor : Minor) (bytes : List ℕ) (m n : RequestMessage) → SpellsAt minor bytes m
    → SpellsAt minor bytes n → m ≡ n
one_request minor bytes m n h k =
    let same : opcode_of m.content ≡ opcode_of n.content = same_code _ _ (sym h.3.1.0 ∙ k.3.1.0) in
    let content : m.content ≡ n.content = sym (content_is m.content bytes (body_at minor bytes m h)) ∙ ap
    (λ (o : Opcode). request_content_at o bytes) same ∙ content_is n.content bytes (body_at minor bytes n k) in
    let unique : m.unique ≡ n.unique = sym h.3.1.1.0 ∙ k.3.1.1.0 in
    let nodeid : m.nodeid ≡ n.nodeid = one_node (has_node (opcode_of m.content)) m.nodeid n.nodeid bytes
    (node_at minor bytes m h) (rw same (node_at minor bytes n k)) in
    same_message m n unique nodeid content

nodeid_decoded : (about : Bool) (nodeid : ℕ) (bytes : List ℕ) → NodeReads about bytes nodeid
    → (if about then number_at 16 8 bytes else 0) ≡ nodeid
nodeid_decoded true nodeid bytes h = h
nodeid_decoded false nodeid bytes h = sym h

-- what a frame spells at any minor version is what it decodes to
pub decoded_is_at : (minor : Minor) (bytes : List ℕ) (m : RequestMessage) → SpellsAt minor bytes m → decoded bytes ≡ m
unfolding decoded
decoded_is_at minor bytes m h =
    let same : opcode_from (number_at 4 4 bytes) ≡ opcode_of m.content =
    ap opcode_from h.3.1.0 ∙ opcode_back (opcode_of m.content) in
    let content : request_content_at (opcode_from (number_at 4 4 bytes)) bytes ≡ m.content =
    ap (λ (o : Opcode). request_content_at o bytes) same ∙ content_is m.content bytes (body_at minor bytes m h) in
    let nodeid : (if has_node (opcode_from (number_at 4 4 bytes)) then number_at 16 8 bytes else 0) ≡ m.nodeid =
    ap (λ (o : Opcode). if has_node o then number_at 16 8 bytes else 0) same ∙ nodeid_decoded
    (has_node (opcode_of m.content)) m.nodeid bytes (node_at minor bytes m h) in
    same_message (decoded bytes) m h.3.1.1.0 nodeid content

-- and so at the latest minor version
pub decoded_is : (bytes : List ℕ) (m : RequestMessage) → Spells bytes m → decoded bytes ≡ m
decoded_is bytes m h = decoded_is_at latest_minor bytes m h

-- fields that are read do not begin past the end
pub within : (place : ℕ) (fs : List Field) (bytes : List ℕ) → ReadsAs place fs bytes → place ≤ length bytes
within place [] bytes h = omega arith
within place (holds width value ∷ fs) bytes h = let k = within (place + width) fs bytes h.1 in omega (arith, k)
within place (free width value ∷ fs) bytes h = let k = within (place + width) fs bytes h in omega (arith, k)
within place (bits mask value ∷ fs) bytes h = let k = within (place + 4) fs bytes h.1 in omega (arith, k)
within place (named name ∷ fs) bytes h = let k = within (place + (length name + 1)) fs bytes h.2 in omega (arith, k)
within place (raw bs ∷ fs) bytes h = let k = within (place + length bs) fs bytes h.1 in omega (arith, k)

long_enough : (minor : Minor) (bytes : List ℕ) (m : RequestMessage) → SpellsAt minor bytes m → 40 ≤ length bytes
long_enough minor bytes m h = within 40 (request_body m.content) bytes (body_at minor bytes m h)

pub no_fault : (minor : Minor) (bytes : List ℕ) (m : RequestMessage) (f : WireFault) → SpellsAt minor bytes m
    → FaultIsAt minor bytes f → ⊥
no_fault minor bytes m faults.Short h x = absurd (omega (arith, long_enough minor bytes m h))
no_fault minor bytes m faults.Length h x = x.1 h.3.0
no_fault minor bytes m faults.Opcode h x = x.1 (opcode_of m.content) (h.1, sym h.3.1.0)
no_fault minor bytes m faults.Body h x =
    let same : opcode_of m.content ≡ x.1 = same_code _ _ (sym h.3.1.0 ∙ sym x.2.1) in
    x.3 (h.0, rw (← same) (fills m.content bytes (body_at minor bytes m h)).0)
no_fault minor bytes m faults.Name h x =
    let same : opcode_of m.content ≡ x.1 = same_code _ _ (sym h.3.1.0 ∙ sym x.2.1) in
    x.5 (rw (← same) (fills m.content bytes (body_at minor bytes m h)).1)
no_fault minor bytes m faults.ErrorRange h x = x
no_fault minor bytes m faults.Memory h x = x

pub read_only : (minor : Minor) (bytes : List ℕ) (r : Result Request WireFault)
    → IfOk r (λ v. SpellsAt minor bytes (request_message v)) → IfErr r (FaultIsAt minor bytes) → (m : RequestMessage)
    → SpellsAt minor bytes m → IsOkAnd r (λ v. request_message v ≡ m)
read_only minor bytes (Ok v) ok err m h = one_request minor bytes (request_message v) m ok h
read_only minor bytes (Err f) ok err m h = absurd (no_fault minor bytes m f h err)

pub body_fault : (minor : Minor) (bytes : List ℕ) (o : Opcode) (f : WireFault) → 40 ≤ length bytes
    → number_at 0 4 bytes ≡ length bytes → IsTrue (minor_knows minor o) → code_of o ≡ number_at 4 4 bytes
    → length bytes ≤ max_frame → BodyFaultIs (shape_of o) bytes f → FaultIsAt minor bytes f
body_fault minor bytes o faults.Body long len known code small x = ((long, len), o, (known, code), λ h. x h.1)
body_fault minor bytes o faults.Name long len known code small x = ((long, len), o, (known, code), small, x.0, x.1)
body_fault minor bytes o faults.Short long len known code small x = absurd x
body_fault minor bytes o faults.Length long len known code small x = absurd x
body_fault minor bytes o faults.Opcode long len known code small x = absurd x
body_fault minor bytes o faults.ErrorRange long len known code small x = absurd x
body_fault minor bytes o faults.Memory long len known code small x = absurd x
