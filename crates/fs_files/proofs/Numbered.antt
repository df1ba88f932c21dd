-- Nodes and file handles are given to the files that a reply names.
use Rattle.std.proofs.Common.{◌≡◌, ℕ, refl, sym, ap, ◌∙◌}
use Rattle.fuse_spec.specs.Server.Nodes.{NodeTable, HandleTable, handle_opened}
use Rattle.fuse_spec.specs.Files.Operations as operation
use Rattle.fuse_spec.specs.Server.Performs.{entry_for}
use Rattle.fuse_spec.specs.declared.Entry.{Entry}
use Rattle.fs_files.specs.Numbering.{GivesEntry, GivesNumbers}
use Rattle.fs_files.specs.Values.{FilesState}
use Rattle.fuse_frames.specs.declared.reply.Reply.TheVariants as said
use Rattle.fs_files.specs.Replies.{NamesNoFile, SentReply, outcome_reply}
use Rattle.fs_files.specs.declared.replies.Outcome.TheVariants as outcome

pub gives_found : {A : Type 0} (one two : FilesState) (file ms : ℕ) (entry : Entry)
    → GivesEntry one.tree one.nodes file two.nodes entry → two.tree ≡ one.tree → two.handles ≡ one.handles
    → GivesNumbers {A = A} one (operation.found file ms) (said.Entry entry ms) two
gives_found one two file ms entry g tree handles = record {
  choice = λ n. g.id;
  may = (g.may, tt);
  tree_is = tree;
  nodes_is = g.nodes_is;
  handles_is = handles;
  wire_is = ap (λ (e : Entry). operation.found e ms) g.entry_is;
}

pub gives_created : {A : Type 0} (one mid two : FilesState) (file ms : ℕ) (entry : Entry) (fh : ℕ)
    → GivesEntry one.tree one.nodes file mid.nodes entry → mid.tree ≡ one.tree → mid.handles ≡ one.handles
    → fh ≡ mid.handles.next_fh → two.tree ≡ mid.tree → two.nodes ≡ mid.nodes
    → two.handles ≡ handle_opened mid.handles file → GivesNumbers {A = A} one (operation.created file ms file)
    (said.Created entry ms fh) two
gives_created one mid two file ms entry fh g tree handles fh_is tree_two nodes_two handles_two = record {
  choice = λ n. g.id;
  may = (g.may, tt);
  tree_is = tree_two ∙ tree;
  nodes_is = nodes_two ∙ g.nodes_is;
  handles_is = handles_two ∙ ap (λ (t : HandleTable). handle_opened t file) handles;
  wire_is = λ i. operation.created ((g.entry_is ∙ ap (λ (n : NodeTable). entry_for (λ k. g.id) n one.tree file)
      (sym nodes_two)) i) ms ((fh_is ∙ ap (λ (t : HandleTable). t.next_fh) handles) i);
}

pub gives_opened : {A : Type 0} (one two : FilesState) (file fh : ℕ) → fh ≡ one.handles.next_fh → two.tree ≡ one.tree
    → two.nodes ≡ one.nodes → two.handles ≡ handle_opened one.handles file
    → GivesNumbers {A = A} one (operation.opened file) (said.Opened fh) two
gives_opened one two file fh fh_is tree nodes handles = record {
  choice = λ n. n;
  may = tt;
  tree_is = tree;
  nodes_is = nodes;
  handles_is = handles;
  wire_is = ap (λ (n : ℕ). operation.opened n) fh_is;
}

-- nothing is given for a reply that names nothing
pub gives_said : {A : Type 0} (one : FilesState) (ms : ℕ) (reply : SentReply A) → NamesNoFile reply
    → GivesNumbers {A = A} one (outcome_reply ms (outcome.Reply reply)) reply one
gives_said one ms (said.Entry entry valid) nothing = absurd nothing
gives_said one ms (said.Negative valid) nothing = record {
  choice = λ n. n;
  may = tt;
  tree_is = refl;
  nodes_is = refl;
  handles_is = refl;
  wire_is = refl;
}
gives_said one ms (said.Created entry valid fh) nothing = absurd nothing
gives_said one ms (said.Opened fh) nothing = absurd nothing
gives_said one ms (said.Attributes attributes) nothing = record {
  choice = λ n. n;
  may = tt;
  tree_is = refl;
  nodes_is = refl;
  handles_is = refl;
  wire_is = refl;
}
gives_said one ms (said.Listed records) nothing = record {
  choice = λ n. n;
  may = tt;
  tree_is = refl;
  nodes_is = refl;
  handles_is = refl;
  wire_is = refl;
}
gives_said one ms (said.ListedPlus names) nothing = absurd nothing
gives_said one ms (said.Content bytes) nothing = record {
  choice = λ n. n;
  may = tt;
  tree_is = refl;
  nodes_is = refl;
  handles_is = refl;
  wire_is = refl;
}
gives_said one ms (said.Written size) nothing = record {
  choice = λ n. n;
  may = tt;
  tree_is = refl;
  nodes_is = refl;
  handles_is = refl;
  wire_is = refl;
}
gives_said one ms (said.Agreed major minor flags) nothing = record {
  choice = λ n. n;
  may = tt;
  tree_is = refl;
  nodes_is = refl;
  handles_is = refl;
  wire_is = refl;
}
gives_said one ms said.Done nothing = record {
  choice = λ n. n;
  may = tt;
  tree_is = refl;
  nodes_is = refl;
  handles_is = refl;
  wire_is = refl;
}
gives_said one ms (said.Failed errno) nothing = record {
  choice = λ n. n;
  may = tt;
  tree_is = refl;
  nodes_is = refl;
  handles_is = refl;
  wire_is = refl;
}
