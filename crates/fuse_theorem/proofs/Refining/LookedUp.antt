-- The kernel learns the nodes that a reply names.
use Rattle.fuse_theorem.proofs.Refining.Pairs.{listed_with}
use Rattle.std.proofs.lemmas.List.Elements.{All-head, All-tail}
use Rattle.std.proofs.Common.{◌≡◌, ◌≢◌, ℕ, Bool, true, false, true≢false, cond, List, [], ◌∷◌, Option, Some, None, nat_eq, option_map, refl, ap, sym, subst, ◌∙◌, inl, inr, map, All}
use Rattle.std.specs.Prelude.{nat_lt}
use Rattle.std.proofs.lemmas.Bool.{cases_eq}
use Rattle.std.proofs.lemmas.Bool.Decides.{eqb_tells}
use Rattle.fuse_spec.specs.declared.Counted.{Counted}
use Rattle.fuse_spec.specs.declared.Entry.{Entry}
use Rattle.fuse_spec.specs.declared.Opened.{Opened}
use Rattle.fuse_spec.specs.Values.Maps.{Map, get, put}
use Rattle.fuse_spec.specs.Files.Operations.{Operation, create, opening, Reply, found, missing, created, opened, attributes, listed, listed_plus, content, written, agreed, done, failed, files_in_reply, DirentPlus, listed_by, first_listed, files_listed, pair_with, OperationAlike, ReplyAlike, OptionAlike, PairsAlike}
use Rattle.fuse_spec.specs.Kernel.Messages.{WireReply}
use Rattle.fuse_spec.specs.Server.Nodes.{NodeTable, HandleTable, FileHandle, is_open, is_file_of}
use Rattle.fuse_spec.specs.Kernel.Replies.{goes_with, usable, unusable, stale, use_counted, use_of, first_use, counted_more, looked_up, kernel_reply}
use Rattle.fuse_spec.specs.Claim.Denotes.{Denotes, Names, Opens, generation_known, NodeDenotes, OpenDenotes}
use Rattle.fuse_spec.proofs.Tables.{get_put_here, get_put_there}
use Rattle.fuse_theorem.specs.Numbering.{IsOneToOne}
use Rattle.fuse_theorem.specs.Conditions.{OneId, OpensItsFile, IsUsable}
use Rattle.fuse_theorem.proofs.Calls.Finding.{other_is}
use Rattle.fuse_theorem.proofs.Refining.LookupsCounted.{denotes_one}

-- Where no two nodes have the same file, no two that the kernel knows denote the same.
pub one_to_one : (nodes : Map Counted) (t : NodeTable) → OneId t → IsOneToOne (NodeDenotes nodes t)
one_to_one nodes t one a b c d r s = (
  λ e.
      let same_generation : r.generation ≡ s.generation =
      cc (subst (λ (n : ℕ). generation_known nodes n ≡ Some r.generation) e r.known, s.known) in
      denotes_one t b s.generation c d (subst (λ (n : ℕ). Denotes t b n c) same_generation
      (subst (λ (n : ℕ). Denotes t n r.generation c) e r.denotes)) s.denotes,
  λ e. one a b r.generation s.generation d (subst (λ (n : ℕ). Denotes t a r.generation n) e r.denotes) s.denotes,
)

-- what is known stays known
put_known : (nodes : Map Counted) (g : Entry) (id generation : ℕ) → generation_known nodes id ≡ Some generation
    → generation_known (put nodes g.nodeid (counted_more g (get nodes g.nodeid))) id ≡ Some generation
put_known nodes g id generation e = elim (cases_eq id 1) [
  | inl root ↦ ap (λ (b : Bool). cond b (Some 0) (option_map (λ (c : Counted). c.generation)
      (get (put nodes g.nodeid (counted_more g (get nodes g.nodeid))) id))) (is_one root) ∙ sym
      (ap (λ (b : Bool). cond b (Some 0) (option_map (λ (c : Counted). c.generation) (get nodes id))) (is_one root)) ∙ e
  | inr other ↦
      let plain : option_map (λ (c : Counted). c.generation) (get nodes id) ≡ Some generation =
      ap (λ (b : Bool). cond b (Some 0) (option_map (λ (c : Counted). c.generation) (get nodes id)))
      (sym (other_is id 1 other)) ∙ e in
      ap (λ (b : Bool). cond b (Some 0) (option_map (λ (c : Counted). c.generation)
      (get (put nodes g.nodeid (counted_more g (get nodes g.nodeid))) id))) (other_is id 1 other)
      ∙ elim (cases_eq id g.nodeid) [
        | inl here ↦
            ap (λ (n : ℕ). option_map (λ (c : Counted). c.generation)
            (get (put nodes g.nodeid (counted_more g (get nodes g.nodeid))) n)) here ∙ ap
            (λ (o : Option Counted). option_map (λ (c : Counted). c.generation) o)
            (get_put_here nodes g.nodeid (counted_more g (get nodes g.nodeid)))
            ∙ counted (get nodes g.nodeid) (ap (λ (n : ℕ). option_map (λ (c : Counted). c.generation) (get nodes n))
            (sym here) ∙ plain)
        | inr ne ↦ ap (λ (o : Option Counted). option_map (λ (c : Counted). c.generation) o)
            (get_put_there nodes g.nodeid (counted_more g (get nodes g.nodeid)) id ne) ∙ plain
      ]
]
  where
    is_one : id ≡ 1 → nat_eq id 1 ≡ true
    is_one same = subst (λ (n : ℕ). nat_eq n 1 ≡ true) (sym same) refl

    counted : (o : Option Counted) → option_map (λ (c : Counted). c.generation) o ≡ Some generation
        → Some (counted_more g o).generation ≡ Some generation
    counted None f = absurd (cc)
    counted (Some c) f = f

pub looked_up_known : (gs : List Entry) (nodes : Map Counted) (id generation : ℕ)
    → generation_known nodes id ≡ Some generation → generation_known (looked_up nodes gs) id ≡ Some generation
looked_up_known [] nodes id generation e = e
looked_up_known (g ∷ gs) nodes id generation e = looked_up_known gs
    (put nodes g.nodeid (counted_more g (get nodes g.nodeid))) id generation (put_known nodes g id generation e)

-- An entry that can be used is known from then on under its own generation.
pub usable_known : (nodes : Map Counted) (g : Entry) → first_use (use_of nodes g) usable ≡ usable
    → generation_known (looked_up nodes (g ∷ [])) g.nodeid ≡ Some g.generation
usable_known nodes g e = by (nat_lt g.nodeid 2) refl e
  where
    counted : (o : Option Counted) → first_use (use_counted g o) usable ≡ usable
        → Some (counted_more g o).generation ≡ Some g.generation
    counted None f = refl
    counted (Some c) f = tested (nat_eq c.generation g.generation) refl f
      where
        tested : (b : Bool) → nat_eq c.generation g.generation ≡ b
            → first_use (cond b usable (stale g.nodeid)) usable ≡ usable → Some c.generation ≡ Some g.generation
        tested true q f = elim (eqb_tells c.generation g.generation) [
          | inl h ↦ ap
              (λ (n : ℕ). Some n) h.1
          | inr h ↦ absurd (true≢false (sym q ∙ h.0))
        ]
        tested false q f = absurd (cc)

    by : (b : Bool) → nat_lt g.nodeid 2 ≡ b → first_use (cond b unusable (use_counted g (get nodes g.nodeid))) usable
        ≡ usable → generation_known (looked_up nodes (g ∷ [])) g.nodeid ≡ Some g.generation
    by true q f = absurd (cc)
    by false q f =
        let other : g.nodeid ≢ 1 = λ z. absurd (cc (subst (λ (n : ℕ). nat_lt n 2 ≡ false) z q)) in
        ap (λ (b : Bool). cond b (Some 0) (option_map (λ (c : Counted). c.generation)
        (get (put nodes g.nodeid (counted_more g (get nodes g.nodeid))) g.nodeid))) (other_is g.nodeid 1 other)
        ∙ ap (λ (o : Option Counted). option_map (λ (c : Counted). c.generation) o)
        (get_put_here nodes g.nodeid (counted_more g (get nodes g.nodeid))) ∙ counted (get nodes g.nodeid) f

-- a file handle has one file
opens_one : (h : HandleTable) (fh a b : ℕ) → is_open h fh a ≡ true → is_open h fh b ≡ true → a ≡ b
opens_one h fh a b x y = by (get h.handles fh) x y
  where
    by : (o : Option FileHandle) → is_file_of a o ≡ true → is_file_of b o ≡ true → a ≡ b
    by None x y = absurd (cc)
    by (Some open_call) x y = elim (eqb_tells open_call.file a) [
      | inl p ↦ elim (eqb_tells open_call.file b) [ inl q ↦ sym p.1 ∙ q.1 | inr q ↦ absurd (true≢false (sym y ∙ q.0)) ]
      | inr p ↦ absurd (true≢false (sym x ∙ p.0))
    ]

abbrev EntryKnown : Map Counted → Entry → Type 0
EntryKnown nodes g = generation_known nodes g.nodeid ≡ Some g.generation

-- names of a list whose entries are known
received_pairs : (nodes : Map Counted) (t : NodeTable) (xs : List (DirentPlus Entry)) (ys : List (DirentPlus ℕ))
    → All (λ (g : Entry). generation_known nodes g.nodeid ≡ Some g.generation) (files_listed xs)
    → PairsAlike (Names t) xs ys
    → PairsAlike (NodeDenotes nodes t) (map (pair_with (λ (g : Entry). g.nodeid)) xs) ys
received_pairs nodes t [] [] known h = h
received_pairs nodes t (x ∷ xs) (y ∷ ys) known h = (
  (
    subst (λ (o : Option ℕ). OptionAlike (NodeDenotes nodes t) o (listed_by y)) (sym (listed_with (λ (g : Entry). g.nodeid) x))
        (first (listed_by x) (listed_by y) known h.0.0),
    h.0.1,
    h.0.2,
  ),
  received_pairs nodes t xs ys (rest (listed_by x) known) h.1,
)
  where
    first : (a : Option Entry) (b : Option ℕ) → All (EntryKnown nodes) (first_listed a (files_listed xs))
        → OptionAlike (Names t) a b → OptionAlike (NodeDenotes nodes t) (option_map (λ (g : Entry). g.nodeid) a) b
    first None None k r = r
    first (Some g) (Some file) k r = record {
      generation = g.generation;
      known = All-head (EntryKnown nodes) g (files_listed xs) k;
      denotes = r;
    }
    first None (Some file) k r = absurd r
    first (Some g) None k r = absurd r

    rest : (a : Option Entry) → All (EntryKnown nodes) (first_listed a (files_listed xs))
        → All (EntryKnown nodes) (files_listed xs)
    rest None k = k
    rest (Some g) k = All-tail (EntryKnown nodes) g (files_listed xs) k
received_pairs nodes t [] (y ∷ ys) known h = absurd h
received_pairs nodes t (x ∷ xs) [] known h = absurd h

-- What the kernel receives is what the reply says of the files.
pub received_fits : (nodes : Map Counted) (t : NodeTable) (h : HandleTable) (operation : Operation ℕ Opened)
    (asked : Operation ℕ ℕ) (wire : WireReply) (reply : Reply ℕ ℕ) → goes_with operation wire ≡ true
    → IsUsable nodes wire → OpensItsFile t h operation wire
    → OperationAlike (NodeDenotes nodes t) (OpenDenotes nodes t h) operation asked → ReplyAlike (Names t) (Opens h) wire reply
    → ReplyAlike (NodeDenotes (looked_up nodes (files_in_reply wire)) t) (OpenDenotes (looked_up nodes (files_in_reply wire)) t h)
    (kernel_reply operation wire) reply
received_fits nodes t h operation asked (found g v) (found file v') goes used its same reply_matches = (
  record {
    generation = g.generation;
    known = All-head
        (λ (x : Entry). generation_known (looked_up nodes (g ∷ [])) x.nodeid ≡ Some x.generation) g [] used.known;
    denotes =
        reply_matches.0;
  },
  reply_matches.1,
)
received_fits nodes t h operation asked (missing v) (missing v') goes used its same reply_matches = reply_matches
received_fits nodes t h (create d name) asked (created g v fh) (created file v' o) goes used its same reply_matches =
    let known = All-head (λ (x : Entry). generation_known (looked_up nodes (g ∷ [])) x.nodeid
    ≡ Some x.generation) g [] used.known in
    let one_file : file ≡ o = opens_one h fh file o (its file reply_matches.0) reply_matches.2 in (
      record { generation = g.generation; known = known; denotes = reply_matches.0 },
      reply_matches.1,
      record {
        node_means = record {
          generation = g.generation;
          known = known;
          denotes = subst (λ (n : ℕ). Denotes t g.nodeid g.generation n) one_file reply_matches.0;
        };
        is_handle = reply_matches.2;
      },
    )
received_fits nodes t h (opening node) (opening file) (opened fh) (opened o) goes used its same reply_matches =
    let one_file : file ≡ o = opens_one h fh file o (its same.generation file same.denotes) reply_matches in
    record {
      node_means = record {
        generation = same.generation;
        known = same.known;
        denotes = subst (λ (n : ℕ). Denotes t node same.generation n) one_file same.denotes;
      };
      is_handle = reply_matches;
    }
received_fits nodes t h operation asked (attributes a) (attributes b) goes used its same reply_matches = reply_matches
received_fits nodes t h operation asked (listed xs) (listed ys) goes used its same reply_matches = reply_matches
received_fits nodes t h operation asked (listed_plus xs) (listed_plus ys) goes used its same reply_matches =
    received_pairs (looked_up nodes (files_listed xs)) t xs ys used.known reply_matches
received_fits nodes t h operation asked (content xs) (content ys) goes used its same reply_matches = reply_matches
received_fits nodes t h operation asked (written n) (written m) goes used its same reply_matches = reply_matches
received_fits nodes t h operation asked (agreed a b x) (agreed c d y) goes used its same reply_matches = reply_matches
received_fits nodes t h operation asked done done goes used its same reply_matches = reply_matches
received_fits nodes t h operation asked (failed a) (failed b) goes used its same reply_matches = reply_matches
received_fits nodes t h operation asked (created g v fh) (created file v' o) goes used its same reply_matches = absurd (cc)
received_fits nodes t h (opening node) asked (opened fh) (opened o) goes used its same reply_matches = absurd same
received_fits nodes t h operation asked (opened fh) (opened o) goes used its same reply_matches = absurd (cc)
received_fits nodes t h operation asked wire reply goes used its same reply_matches = absurd reply_matches
