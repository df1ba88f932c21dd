-- A copy that says what a performed ask came to goes with its request's operation.
use Rattle.fuse_theorem.proofs.Refining.Pairs.{lengths_same}
use Rattle.std.proofs.Common.{◌≡◌, ℕ, ◌≤◌, ◌<◌, Bool, true, false, List, [], ◌∷◌, Option, Some, None, length, nat_eq, refl, ap, sym, subst, ◌∙◌, arith, All}
use Rattle.std.specs.Prelude.{nat_le, nat_lt, sum_by}
use Rattle.std.proofs.lemmas.Bool.Decides.{nat_tests}
use Rattle.std.proofs.lemmas.List.Elements.{All-head, All-tail}
use Rattle.fuse_spec.specs.declared.Counted.{Counted}
use Rattle.fuse_spec.specs.declared.Entry.{Entry}
use Rattle.fuse_spec.specs.declared.Opened.{Opened}
use Rattle.fuse_spec.specs.Values.Maps.{Map, get}
use Rattle.fuse_spec.specs.Kernel.Messages.{WireReply}
use Rattle.fuse_spec.specs.Files.Operations.{Operation, Reply, Dirent, OperationAlike, ReplyAlike}
use Rattle.fuse_spec.specs.Files.FileOperations.{FileOperation}
use Rattle.fuse_spec.specs.Server.Nodes.{NodeTable, HandleTable, HeldNode, is_open}
use Rattle.fuse_spec.specs.Files.Trees.{record_length, pair_length}
use Rattle.fuse_spec.specs.Claim.Denotes.{Denotes, generation_known, NodeDenotes, Names, Opens}
use Rattle.fuse_spec.specs.Kernel.Replies.{goes_with, Use, usable, first_use, use_of, use_counted, use_of_all}
use Rattle.fuse_spec.specs.Reference.PlainCalls.{RepliesTo}
use Rattle.fuse_theorem.specs.Conditions.{OpensItsFile}
use Rattle.fuse_theorem.specs.Lookups.{IsHeldAs}
use Rattle.fuse_theorem.proofs.Calls.Cases.{SameOperation, both_lookup, both_getattr, both_mkdir, both_create, both_unlink, both_rmdir, both_rename, both_link, both_opening, both_readdir, both_readdirplus, both_read, both_write, same_operation, SameReply, same_found, same_missing, same_created, same_opened, same_attributes, same_listed, same_listed_plus, same_content, same_written, same_done, same_failed, same_reply}
use Rattle.fuse_theorem.proofs.Refining.LookupsCounted.{denotes_one}

within : (n m : ℕ) → n ≤ m → nat_le n m ≡ true
within n m le = grind (arith, nat_tests, le)

module _ (R : ℕ → ℕ → Type 0) (S : Opened → ℕ → Type 0) (t : NodeTable) (h : HandleTable) where
  goes : (a : Operation ℕ Opened) (b : FileOperation) (wire : WireReply) (reply : Reply ℕ ℕ) → SameOperation R S a b
      → SameReply (Names t) (Opens h) wire reply → RepliesTo b reply → goes_with a wire ≡ true
  goes _ _ _ _ (both_lookup d e n m r q) (same_found g x v u named f) so = refl
  goes _ _ _ _ (both_lookup d e n m r q) (same_missing v u f) so = refl
  goes _ _ _ _ (both_lookup d e n m r q) (same_failed x y f) so = refl
  goes _ _ _ _ (both_getattr d e r) (same_attributes x y f) so = refl
  goes _ _ _ _ (both_getattr d e r) (same_failed x y f) so = refl
  goes _ _ _ _ (both_mkdir d e n m r q) (same_found g x v u named f) so = refl
  goes _ _ _ _ (both_mkdir d e n m r q) (same_failed x y f) so = refl
  goes _ _ _ _ (both_create d e n m r q) (same_created g x v u fh o named f number) so = refl
  goes _ _ _ _ (both_create d e n m r q) (same_failed x y f) so = refl
  goes _ _ _ _ (both_unlink d e n m r q) same_done so = refl
  goes _ _ _ _ (both_unlink d e n m r q) (same_failed x y f) so = refl
  goes _ _ _ _ (both_rmdir d e n m r q) same_done so = refl
  goes _ _ _ _ (both_rmdir d e n m r q) (same_failed x y f) so = refl
  goes _ _ _ _ (both_rename d e n m d' e' n' m' r q r' q') same_done so = refl
  goes _ _ _ _ (both_rename d e n m d' e' n' m' r q r' q') (same_failed x y f) so = refl
  goes _ _ _ _ (both_link d e d' e' n m r r' q) (same_found g x v u named f) so = refl
  goes _ _ _ _ (both_link d e d' e' n m r r' q) (same_failed x y f) so = refl
  goes _ _ _ _ (both_opening d e r) (same_opened fh o number) so = refl
  goes _ _ _ _ (both_opening d e r) (same_failed x y f) so = refl
  goes _ _ _ _ (both_readdir d e x y size size' r q same) (same_listed records others f) so =
      within (sum_by record_length records) size (subst (λ (xs : List Dirent). sum_by record_length xs ≤ size) (sym f)
      (subst (λ (n : ℕ). sum_by record_length others ≤ n) (sym same) so))
  goes _ _ _ _ (both_readdir d e x y size size' r q same) (same_failed v u f) so = refl
  goes _ _ _ _ (both_readdirplus d e x y size size' r q same) (same_listed_plus pairs others f) so =
      let lengths = lengths_same (Names t) pairs others f in
      within (sum_by pair_length pairs) size (omega (arith, lengths, same, so))
  goes _ _ _ _ (both_readdirplus d e x y size size' r q same) (same_failed v u f) so = refl
  goes _ _ _ _ (both_read o o' x y size size' r q same) (same_content bytes others f) so =
      within (length bytes) size (subst (λ (xs : List ℕ). length xs ≤ size) (sym f)
      (subst (λ (n : ℕ). length others ≤ n) (sym same) so))
  goes _ _ _ _ (both_read o o' x y size size' r q same) (same_failed v u f) so = refl
  goes _ _ _ _ (both_write o o' x y bytes others r q same) (same_written size n f) so =
      within size (length bytes) (subst (λ (m : ℕ). m ≤ length bytes) (sym f)
      (subst (λ (xs : List ℕ). n ≤ length xs) (sym same) so))
  goes _ _ _ _ (both_write o o' x y bytes others r q same) (same_failed v u f) so = refl
  goes _ _ _ _ other reply_matches so = absurd so

  -- The copy is a body of a reply to the operation.
  pub wire_goes : (a : Operation ℕ Opened) (b : FileOperation) (wire : WireReply) (reply : Reply ℕ ℕ)
      → OperationAlike R S a b → ReplyAlike (Names t) (Opens h) wire reply → RepliesTo b reply → goes_with a wire ≡ true
  wire_goes a b wire reply same reply_matches so = goes a b wire reply (same_operation R S a b same)
      (same_reply (Names t) (Opens h) wire reply reply_matches) so

-- Its file handle is one of the file that was created or opened.
module _ (nodes : Map Counted) (t : NodeTable) (h : HandleTable)
    (held : (id generation : ℕ) → generation_known nodes id ≡ Some generation → (file : ℕ)
    → Denotes t id generation file → (g f : ℕ) → Denotes t id g f → f ≡ file) where
  pub wire_opens : (S : Opened → ℕ → Type 0) (a : Operation ℕ Opened) (b : FileOperation) (wire : WireReply)
      (reply : Reply ℕ ℕ) → SameOperation (NodeDenotes nodes t) S a b → SameReply (Names t) (Opens h) wire reply
      → RepliesTo b reply → OpensItsFile t h a wire
  wire_opens S _ _ _ _ (both_create d e n m r q) (same_created g x v u fh o named f number) so = λ file denotes.
      subst (λ (n : ℕ). is_open h fh n ≡ true) (so ∙ denotes_one t g.nodeid g.generation x file named denotes) number
  wire_opens S _ _ _ _ (both_opening d e r) (same_opened fh o number) so = λ generation file denotes.
      subst (λ (n : ℕ). is_open h fh n ≡ true) (so ∙ sym
      (held d r.generation r.known e r.denotes generation file denotes)) number
  wire_opens S _ _ _ _ other (same_created g x v u fh o named f number) so = absurd so
  wire_opens S _ _ _ _ other reply_matches so = tt

-- ---- entries that can be used

pub use_one : (nodes : Map Counted) (t : NodeTable)
    → ((id : ℕ) (node : Counted) → get nodes id ≡ Some node → IsHeldAs t id node.generation) → (g : Entry)
    → 2 ≤ g.nodeid → IsHeldAs t g.nodeid g.generation → use_of nodes g ≡ usable
use_one nodes t known g low held = by (nat_lt g.nodeid 2) refl
  where
    counted : (o : Option Counted) → get nodes g.nodeid ≡ o → use_counted g o ≡ usable
    counted None at = refl
    counted (Some node) at =
        let there = known g.nodeid node at in
        let a = there.1 in
        let b = held.1 in
        let row : a.row ≡ b.row = cc (a.there, b.there) in
        let same : node.generation ≡ g.generation = sym a.same_generation ∙ ap
        (λ (r : HeldNode). r.generation) row ∙ b.same_generation in
        let is : nat_eq node.generation g.generation ≡ true = grind (arith, nat_tests, same) in
        rw is refl

    by : (b : Bool) → nat_lt g.nodeid 2 ≡ b → use_of nodes g ≡ usable
    by true e = absurd (let lt : g.nodeid < 2 = grind (arith, nat_tests, e) in omega (arith, lt, low))
    by false e = rw e (counted (get nodes g.nodeid) refl)

pub all_usable : (nodes : Map Counted) (t : NodeTable)
    → ((id : ℕ) (node : Counted) → get nodes id ≡ Some node → IsHeldAs t id node.generation) → (gs : List Entry)
    → All (λ (g : Entry). (2 ≤ g.nodeid) × IsHeldAs t g.nodeid g.generation) gs → use_of_all nodes gs ≡ usable
all_usable nodes t known [] h = refl
all_usable nodes t known (g ∷ gs) h =
    let first = All-head (λ (x : Entry). (2 ≤ x.nodeid) × IsHeldAs t x.nodeid x.generation) g gs h in
    let rest = all_usable nodes t known gs (All-tail
    (λ (x : Entry). (2 ≤ x.nodeid) × IsHeldAs t x.nodeid x.generation) g gs h) in
    ap (λ (u : Use). first_use u (use_of_all nodes gs)) (use_one nodes t known g first.0 first.1) ∙ rest
