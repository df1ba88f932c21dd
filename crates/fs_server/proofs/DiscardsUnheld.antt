-- Nameless files that nothing holds have gone, step by step.
use Rattle.std.proofs.Common.{◌≡◌, ◌≢◌, ℕ, Bool, true, false, cond, List, [], ◌∷◌, Option, None, refl, sym, ap, subst, ◌∙◌}
use Rattle.std.specs.Prelude.{option_map, option_to_list}
use Rattle.std.proofs.lemmas.Option.{none-some}
use Rattle.fuse_spec.specs.declared.Minor.{Minor}
use Rattle.fuse_spec.specs.Server.Copies.{handles_back, row_back, rows_back}
use Rattle.fuse_spec.specs.Values.Maps.{get}
use Rattle.fuse_spec.specs.Kernel.Messages.{Forget}
use Rattle.fuse_spec.specs.Server.Nodes.{HandleTable, HeldNode, IsUnheld, NodeTable, FileHandle, all_given, all_opened, handle_back, taken_back}
use Rattle.fuse_spec.specs.Files.Operations.{Reply, files_in_reply, opens_in_reply}
use Rattle.fuse_spec.specs.Server.Server.{HeldRequest, is_file_held}
use Rattle.fuse_spec.specs.Files.Trees.{Tree}
use Rattle.fuse_spec.specs.declared.Entry.{Entry}
use Rattle.fuse_spec.specs.declared.Validity.{Validity}
use Rattle.fs_tree.specs.Outcomes.{without_unheld}
use Rattle.fs_files.specs.Bounds.{AreNamed, AreNamedBut, IsUnopened}
use Rattle.fs_files.specs.Performing.{handles_said, tree_said}
use Rattle.fs_files.specs.Replies.{SentReply, opened_in, sent_wire}
use Rattle.fs_files.specs.Numbering.{GivesNumbers}
use Rattle.fs_files.specs.Values.{FilesState, server_at, server_of}
use Rattle.fuse_frames.specs.declared.reply.Reply.TheVariants as said
use Rattle.fs_files.proofs.Bounds.{back_each, row_back_each, taken_each}
use Rattle.fs_files.proofs.StaysNamed.{named_all_given, named_all_opened, named_less, named_handle_back, named_row_back}
use Rattle.fs_files.proofs.DiscardingUnheld.{discarded_unheld_none, discarded_unheld_twice}
use Rattle.fs_server.specs.Effects.{CountsBack, Forgets, GivesBack, DiscardsUnheld, TakesBack}
use Rattle.fs_server.proofs.GivenBack.{forgets, gives_back}

-- ---- what is to be looked at

-- the same tree, nodes and file handles under other names
but_same : (but l : Option ℕ) (mid : FilesState) (tree : Tree) (nodes : NodeTable) (handles : HandleTable)
    → but ≡ l → mid.tree ≡ tree → mid.nodes ≡ nodes → mid.handles ≡ handles → AreNamedBut l tree nodes handles
    → AreNamedBut but mid.tree mid.nodes mid.handles
but_same but l mid tree nodes handles o t n h named =
    subst (λ (x : Option ℕ). AreNamedBut x mid.tree mid.nodes mid.handles) (sym o)
    (subst (λ (x : Tree). AreNamedBut l x mid.nodes mid.handles) (sym t)
    (subst (λ (x : NodeTable). AreNamedBut l tree x mid.handles) (sym n)
    (subst (λ (x : HandleTable). AreNamedBut l tree nodes x) (sym h) named)))

module _ (old mid : FilesState) (named : AreNamed old.tree old.nodes old.handles) (tree : mid.tree ≡ old.tree) where
  pub but_less : (but : Option ℕ) (t : NodeTable) (id n : ℕ) → t ≡ old.nodes
      → but ≡ option_map (λ (row : HeldNode). row.file) (get t.rows id) → mid.nodes ≡ taken_back old.nodes id n
      → mid.handles ≡ old.handles
      → AreNamedBut but mid.tree mid.nodes mid.handles
  but_less but t id n same is nodes handles =
      but_same but (option_map (λ (row : HeldNode). row.file) (get old.nodes.rows id)) mid old.tree
      (taken_back old.nodes id n) old.handles (is ∙ ap
      (λ (x : NodeTable). option_map (λ (row : HeldNode). row.file) (get x.rows id)) same) tree nodes handles
      (named_less old.tree old.nodes old.handles named id n)

  pub but_row_back : (but : Option ℕ) (t : NodeTable) (g : Entry) → t ≡ old.nodes
      → but ≡ option_map (λ (row : HeldNode). row.file) (get t.rows g.nodeid) → mid.nodes ≡ row_back old.nodes g
      → mid.handles ≡ old.handles
      → AreNamedBut but mid.tree mid.nodes mid.handles
  but_row_back but t g same is nodes handles =
      but_same but (option_map (λ (row : HeldNode). row.file) (get old.nodes.rows g.nodeid)) mid old.tree
      (row_back old.nodes g) old.handles (is ∙ ap (λ (x : NodeTable). option_map (λ (row : HeldNode). row.file)
      (get x.rows g.nodeid)) same) tree nodes handles
      (named_row_back old.tree old.nodes old.handles named g)

  pub but_handle_back : (but : Option ℕ) (fh : ℕ)
      → but ≡ option_map (λ (h : FileHandle). h.file) (get old.handles.handles fh) → mid.nodes ≡ old.nodes
      → mid.handles ≡ handle_back old.handles fh → AreNamedBut but mid.tree mid.nodes mid.handles
  but_handle_back but fh is nodes handles =
      but_same but (option_map (λ (h : FileHandle). h.file) (get old.handles.handles fh)) mid old.tree old.nodes
      (handle_back old.handles fh) is tree nodes handles (named_handle_back old.tree old.nodes old.handles named fh)

  -- a RELEASE takes one use of a file handle back, or none
  pub but_released : (but : Option ℕ) (fh : ℕ) (b : Bool)
      → but ≡ option_map (λ (h : FileHandle). h.file) (get old.handles.handles fh) → mid.nodes ≡ old.nodes
      → mid.handles ≡ cond b (handle_back old.handles fh) old.handles → AreNamedBut but mid.tree mid.nodes mid.handles
  but_released but fh true is nodes handles = but_handle_back but fh is nodes handles
  but_released but fh false is nodes handles =
      but_same but but mid old.tree old.nodes old.handles refl tree nodes handles (record {
        rows = named.rows;
        opens = named.opens;
        coming = named.coming;
        named = λ file other. named.named file (λ e. none-some file e);
      })

-- what a request leaves is given nodes and file handles
pub but_numbered : {A : Type 0} (but : Option ℕ) (start one two : FilesState) (v : Validity) (m : Minor)
    (h : HeldRequest) (reply : Reply ℕ ℕ) (sent : SentReply A)
    → AreNamedBut but (tree_said (server_at m start v) h) start.nodes (handles_said (server_at m start v) h)
    → one.tree ≡ tree_said (server_at m start v) h → one.handles ≡ handles_said (server_at m start v) h
    → one.nodes ≡ start.nodes → GivesNumbers one reply sent two → AreNamedBut but two.tree two.nodes two.handles
but_numbered but start one two v m h reply sent named tree handles nodes gives =
    let one_named = but_same but but one (tree_said (server_at m start v) h) start.nodes
    (handles_said (server_at m start v) h) refl tree nodes handles named in
    but_same but but two one.tree (all_given gives.choice one.nodes (files_in_reply reply))
    (all_opened one.handles (opens_in_reply reply)) refl gives.tree_is gives.nodes_is gives.handles_is
    (named_all_opened but one.tree (all_given gives.choice one.nodes (files_in_reply reply)) one.handles
    (named_all_given gives.choice but one.tree one.nodes one.handles one_named (files_in_reply reply))
    (opens_in_reply reply))

pub but_said : (but : Option ℕ) (start one : FilesState) (v : Validity) (m : Minor) (h : HeldRequest)
    → AreNamedBut but (tree_said (server_at m start v) h) start.nodes (handles_said (server_at m start v) h)
    → one.tree ≡ tree_said (server_at m start v) h → one.handles ≡ handles_said (server_at m start v) h
    → one.nodes ≡ start.nodes → AreNamedBut but one.tree one.nodes one.handles
but_said but start one v m h named tree handles nodes =
    but_same but but one (tree_said (server_at m start v) h) start.nodes
    (handles_said (server_at m start v) h) refl tree nodes handles named

pub named_as : (start files : FilesState) → start.tree ≡ files.tree → start.nodes ≡ files.nodes
    → start.handles ≡ files.handles → AreNamed files.tree files.nodes files.handles
    → AreNamed start.tree start.nodes start.handles
named_as start files tree nodes handles named =
    but_same None None start files.tree files.nodes files.handles refl tree nodes handles named

-- ---- one step

pub discards_none : (files : FilesState) → AreNamed files.tree files.nodes files.handles
    → DiscardsUnheld files files.nodes files.handles files
discards_none files named = record {
  tree = λ v. discarded_unheld_none files v named;
  nodes_are = refl;
  handles_are = refl;
  named = named;
}

pub discards_from : (old mid new : FilesState) (nodes : NodeTable) (handles : HandleTable) → mid.tree ≡ old.tree
    → mid.nodes ≡ nodes → mid.handles ≡ handles → ((v : Validity)
    → new.tree ≡ without_unheld (is_file_held (server_of mid v)) mid.tree)
    → new.nodes ≡ mid.nodes → new.handles ≡ mid.handles → AreNamed new.tree new.nodes new.handles
    → DiscardsUnheld old nodes handles new
discards_from old mid new nodes handles tree n h left n_left h_left named = record {
  tree = λ v. left v ∙ (λ i. without_unheld (is_file_held
      (server_of (record mid { nodes = sym n_left i; handles = sym h_left i }) v)) (tree i));
  nodes_are = n_left ∙ n;
  handles_are = h_left ∙ h;
  named = named;
}

-- ---- one step after another

discards_then : (old one two : FilesState) (nodes n : NodeTable) (handles h : HandleTable) → DiscardsUnheld old nodes handles one
    → DiscardsUnheld one n h two → ((x : ℕ) → IsUnheld one.nodes x → IsUnheld two.nodes x)
    → ((x : ℕ) → IsUnopened one.handles x → IsUnopened two.handles x)
    → DiscardsUnheld old n h two
discards_then old one two nodes n handles h first second no_node no_number = record {
  tree = λ v. second.tree v ∙ ap (without_unheld (is_file_held (server_of two v)))
      (first.tree v) ∙ discarded_unheld_twice one two v second.named no_node no_number old.tree;
  nodes_are = second.nodes_are;
  handles_are = second.handles_are;
  named = second.named;
}

-- lookups of one more pair are given back
pub discards_on : (old one two : FilesState) (id n : ℕ) → DiscardsUnheld old one.nodes old.handles one
    → TakesBack one ((id, n) ∷ []) two → DiscardsUnheld old two.nodes old.handles two
discards_on old one two id n first second =
    let both = discards_then old one two one.nodes (taken_back one.nodes id n) old.handles one.handles first second
    (λ x lacks. subst (λ (t : NodeTable). IsUnheld t x) (sym second.nodes_are)
    (taken_each (λ row. row.file ≢ x) one.nodes id n (λ row is. is) lacks))
    (λ x lacks. subst (λ (t : HandleTable). IsUnopened t x) (sym second.handles_are) lacks) in
    record {
      tree = both.tree;
      nodes_are = refl;
      handles_are = second.handles_are ∙ first.handles_are;
      named = both.named;
    }

-- one entry more is counted back
pub counts_on : (old one two : FilesState) (g : Entry) → DiscardsUnheld old one.nodes old.handles one
    → CountsBack one (g ∷ []) [] two → DiscardsUnheld old two.nodes old.handles two
counts_on old one two g first second =
    let both = discards_then old one two one.nodes (row_back one.nodes g) old.handles one.handles first second
    (λ x lacks. subst (λ (t : NodeTable). IsUnheld t x) (sym second.nodes_are)
    (row_back_each (λ row. row.file ≢ x) one.nodes g (λ row is. is) lacks))
    (λ x lacks. subst (λ (t : HandleTable). IsUnopened t x) (sym second.handles_are) lacks) in
    record {
      tree = both.tree;
      nodes_are = refl;
      handles_are = second.handles_are ∙ first.handles_are;
      named = both.named;
    }

no_more_opened : (handles : HandleTable) (fhs : List ℕ) (x : ℕ) → IsUnopened handles x
    → IsUnopened (handles_back handles fhs) x
no_more_opened handles [] x lacks = lacks
no_more_opened handles (fh ∷ fhs) x lacks = no_more_opened (handle_back handles fh) fhs x
    (back_each (λ h. h.file ≢ x) handles fh (λ h is. is) lacks)

-- an entry is counted back, and then a file handle
counts_both : (old one two : FilesState) (gs : List Entry) (fhs : List ℕ) → CountsBack old gs [] one
    → CountsBack one [] fhs two → CountsBack old gs fhs two
counts_both old one two gs fhs first second =
    let both = discards_then old one two (rows_back old.nodes gs) one.nodes old.handles
    (handles_back one.handles fhs) first second (λ x lacks. subst (λ (t : NodeTable). IsUnheld t x)
    (sym second.nodes_are) lacks)
    (λ x lacks. subst (λ (t : HandleTable). IsUnopened t x) (sym second.handles_are)
    (no_more_opened one.handles fhs x lacks)) in
    record {
      tree = both.tree;
      nodes_are = second.nodes_are ∙ first.nodes_are;
      handles_are = second.handles_are ∙ ap (λ (t : HandleTable). handles_back t fhs) first.handles_are;
      named =
          both.named;
    }

-- ---- what it is in the definitions' words

pub as_forgets : (old new : FilesState) (fs : List Forget) → TakesBack old fs new → Forgets old fs new
as_forgets old new fs t = forgets old (record new { tree = old.tree }) new fs refl t.nodes_are t.handles_are
    (record { tree = t.tree; nodes = refl; handles = refl })

numbers_listed : {A : Type 0} (reply : SentReply A)
    → option_to_list (opened_in reply) ≡ opens_in_reply (sent_wire reply)
numbers_listed (said.Entry entry valid) = refl
numbers_listed (said.Negative valid) = refl
numbers_listed (said.Created entry valid fh) = refl
numbers_listed (said.Opened fh) = refl
numbers_listed (said.Attributes attributes) = refl
numbers_listed (said.Listed records) = refl
numbers_listed (said.ListedPlus names) = refl
numbers_listed (said.Content bytes) = refl
numbers_listed (said.Written size) = refl
numbers_listed (said.Agreed major minor flags) = refl
numbers_listed said.Done = refl
numbers_listed (said.Failed errno) = refl

pub as_given_back : {A : Type 0} (old one two : FilesState) (reply : SentReply A) (entries : List Entry) (fh : Option ℕ)
    → entries ≡ files_in_reply (sent_wire reply) → fh ≡ opened_in reply → CountsBack old entries [] one
    → CountsBack one [] (option_to_list fh) two
    → GivesBack old (sent_wire reply) two
as_given_back old one two reply entries fh entries_are fh_is first second =
    let both = counts_both old one two entries (option_to_list fh) first second in
    let fhs = ap option_to_list fh_is ∙ numbers_listed reply in
    gives_back old (record two { tree = old.tree }) two (sent_wire reply) refl
    (both.nodes_are ∙ ap (rows_back old.nodes) entries_are) (both.handles_are ∙ ap (handles_back old.handles) fhs)
    (record { tree = both.tree; nodes = refl; handles = refl })
