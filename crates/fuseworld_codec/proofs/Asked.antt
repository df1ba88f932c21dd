-- A struct says one request at most.
use Rattle.std.proofs.Common.{◌≡◌, ℕ, ◌+◌, ◌*◌, ◌/◌, List, length, refl, sym, ap, ◌∙◌, arith}
use Rattle.std.specs.Int.RustNames.{bit_and}
use Rattle.fk_wire.specs.Pairs.{pairs_from}
use Rattle.fk_wire.specs.Requests.{RequestMessage, RequestContent, opcode_of, known_flags}
use Rattle.fk_wire.specs.Requests.{lookup, forget, getattr, mkdir, unlink, rmdir, rename, link, opening, read, write}
use Rattle.fk_wire.specs.Requests.{release, init, readdir, readdirplus, create, interrupt, batch_forget}
use Rattle.fk_wire.specs.declared.opcode.Opcode.{Opcode}
use Rattle.fk_wire.specs.declared.opcode.Opcode.TheVariants as op
use Rattle.fk_wire.proofs.OneRequest.{same_code}
use Rattle.fk_wire.proofs.PairLists.{list_ends, one_list}
use Rattle.fuseworld_codec.specs.declared.layout.FlatRequest.{FlatRequest}
use Rattle.fuseworld_codec.specs.RequestStructs.{StructAsks, IsRequestStruct, name_in, newname_in, data_in}

-- what a struct asks, if it asks something
asked : Opcode → FlatRequest → List ℕ → RequestContent
asked op.Lookup r bytes = lookup (name_in r bytes)
asked op.Forget r bytes = forget r.nlookup
asked op.Getattr r bytes = getattr
asked op.Mkdir r bytes = mkdir (name_in r bytes)
asked op.Unlink r bytes = unlink (name_in r bytes)
asked op.Rmdir r bytes = rmdir (name_in r bytes)
asked op.Rename r bytes = rename r.newdir (name_in r bytes) (newname_in r bytes)
asked op.Link r bytes = link r.oldnodeid (name_in r bytes)
asked op.Open r bytes = opening
asked op.Read r bytes = read r.fh r.offset r.size
asked op.Write r bytes = write r.fh r.offset (data_in r bytes)
asked op.Release r bytes = release r.fh
asked op.Init r bytes = init r.major r.minor (bit_and r.flags known_flags)
asked op.Readdir r bytes = readdir r.offset r.size
asked op.Readdirplus r bytes = readdirplus r.offset r.size
asked op.Create r bytes = create (name_in r bytes)
asked op.Interrupt r bytes = interrupt r.interrupted
asked op.BatchForget r bytes = batch_forget (pairs_from (length (data_in r bytes) / 16) 0 (data_in r bytes))

asks_one : (r : FlatRequest) (bytes : List ℕ) (a : RequestContent) → StructAsks r bytes a → asked (opcode_of a) r bytes ≡ a
unfolding asked
asks_one r bytes (lookup name) h = ap lookup h
asks_one r bytes (forget n) h = ap forget h
asks_one r bytes getattr h = refl
asks_one r bytes (mkdir name) h = ap mkdir h
asks_one r bytes (unlink name) h = ap unlink h
asks_one r bytes (rmdir name) h = ap rmdir h
asks_one r bytes (rename newdir old new) h = rw (h.0, h.1, h.2) refl
asks_one r bytes (link oldnodeid name) h = rw (h.0, h.1) refl
asks_one r bytes opening h = refl
asks_one r bytes (read fh offset size) h = rw (h.0, h.1, h.2) refl
asks_one r bytes (write fh offset data') h = rw (h.0, h.1, h.2) refl
asks_one r bytes (release fh) h = ap release h
asks_one r bytes (init major minor flags) h = rw (h.0, h.1, h.2) refl
asks_one r bytes (readdir offset size) h = rw (h.0, h.1) refl
asks_one r bytes (readdirplus offset size) h = rw (h.0, h.1) refl
asks_one r bytes (create name) h = ap create h
asks_one r bytes (interrupt unique) h = ap interrupt h
asks_one r bytes (batch_forget ps) h =
    let ends : 0 + 16 * length ps ≡ length (data_in r bytes) = list_ends ps 0 (data_in r bytes) h in
    let count : length (data_in r bytes) / 16 ≡ length ps = omega (arith, ends) in
    ap batch_forget (ap (λ (n : ℕ). pairs_from n 0 (data_in r bytes)) count ∙ one_list ps 0 (data_in r bytes) h)

abbrev message : (unique nodeid : ℕ) → RequestContent → RequestMessage
message unique nodeid content = record { unique = unique; nodeid = nodeid; content = content }

pub says_one : (r : FlatRequest) (bytes : List ℕ) (m n : RequestMessage) → IsRequestStruct r bytes m
    → IsRequestStruct r bytes n → m ≡ n
says_one r bytes m n h k =
    let same : opcode_of m.content ≡ opcode_of n.content =
    same_code (opcode_of m.content) (opcode_of n.content) (sym h.0 ∙ k.0) in
    let content : m.content ≡ n.content = sym (asks_one r bytes m.content h.3) ∙ ap
    (λ (o : Opcode). asked o r bytes) same ∙ asks_one r bytes n.content k.3 in
    let unique : m.unique ≡ n.unique = sym h.1 ∙ k.1 in
    let node : m.nodeid ≡ n.nodeid = sym h.2 ∙ k.2 in
    ap (λ (u : ℕ). message u m.nodeid m.content) unique ∙ ap (λ (x : ℕ). message n.unique x m.content) node ∙ ap
    (λ (c : RequestContent). message n.unique n.nodeid c) content
