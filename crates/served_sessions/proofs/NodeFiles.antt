-- The file that a session knows of a node, and the file that a server's node is of.
use Rattle.std.proofs.Common.{◌≡◌, ◌≢◌, ◌≤◌, ◌<◌, ◌⊎◌, inl, inr, ℕ, ◌+◌, None, refl, sym, ◌∙◌, ap, subst, arith}
use Rattle.fuse_spec.specs.declared.Kind.{Kind}
use Rattle.fuse_spec.specs.declared.Kind.TheVariants.{Directory, Regular, Other}
use Rattle.fuse_spec.specs.Values.Maps.{get}
use Rattle.fuse_spec.specs.Files.Trees.{Tree, kind_of}
use Rattle.fuse_spec.specs.Server.Server.{Server}
use Rattle.fuse_spec.specs.Claim.Denotes.{Denotes}
use Rattle.fuse_sessions.specs.declared.act.File.{File}
use Rattle.fuse_theorem.proofs.Refining.LookupsCounted.{denotes_one}
use Rattle.fs_serve.proofs.NodesLater.{WasHeld}
use Rattle.served_sessions.proofs.Entering.{by_bits, directory_bits, regular_bits}
use Rattle.served_sessions.proofs.FileKinds.{WasThere}
use Rattle.served_sessions.proofs.Fine.{IsFine}
use Rattle.served_sessions.proofs.Onward.{Onward}
use Rattle.served_sessions.proofs.Shown.{row_there, row_held}

-- a kind's bits of a mode
abbrev pub bits_of : Kind → ℕ
bits_of Directory = 16384
bits_of Regular = 32768
bits_of Other = 0

bits_are : (bits : ℕ) (k : Kind) → by_bits bits ≡ k → k ≢ Other → bits ≡ bits_of k
bits_are bits Directory is some = directory_bits bits is
bits_are bits Regular is some = regular_bits bits is
bits_are bits Other is some = absurd (some refl)

-- A file of the tree has this kind, by its mode's bits, and this inode number.
pub record IsFileAs (tree : Tree) (file kind ino : ℕ) : Type 0 where
  pub kind_is : kind ≡ bits_of (kind_of (get tree.files file))
  pub ino_is : ino ≡ file + 1

-- The server holds the node for the file, under the file's generation.
abbrev pub IsNodeOf : Server → ℕ → File → Type 0
IsNodeOf s n f = (file : ℕ) × Denotes s.nodes n f.generation file × IsFileAs s.tree file f.kind f.ino

-- attributes that are read so are those of the file
pub read_file : (tree : Tree) (file bits ino : ℕ) (kind : Kind) → by_bits bits ≡ kind → kind ≢ Other
    → kind ≡ kind_of (get tree.files file) → ino ≡ file + 1 → IsFileAs tree file bits ino
read_file tree file bits ino kind is some same ino_is =
    record { kind_is = bits_are bits kind is some ∙ ap bits_of same; ino_is = ino_is }

pub one_file_as : (tree : Tree) (file kind ino kind' ino' : ℕ) → IsFileAs tree file kind ino → IsFileAs tree file kind' ino'
    → (kind ≡ kind') × (ino ≡ ino')
one_file_as tree file kind ino kind' ino' a b = (a.kind_is ∙ sym b.kind_is, a.ino_is ∙ sym b.ino_is)

-- If the node is held under this generation, it is of this file. The generation was given.
pub record MayBeOf (s : Server) (n : ℕ) (f : File) : Type 0 where
  pub given : f.generation < s.nodes.next_generation
  pub same : (file : ℕ) → Denotes s.nodes n f.generation file → IsFileAs s.tree file f.kind f.ino

-- a node that is held is such
pub of_node : (s : Server) → IsFine s → (n : ℕ) (f : File) → 2 ≤ n → IsNodeOf s n f → MayBeOf s n f
of_node s fine n f low (file, d, here) = record {
  given = subst (λ (g : ℕ). g < s.nodes.next_generation) d.same_generation
      (fine.sound.nodes.generations n d.row (row_held s.nodes n f.generation file low d));
  same = λ other e. subst (λ (x : ℕ). IsFileAs s.tree x f.kind f.ino)
      (denotes_one s.nodes n f.generation file other d e) here;
}

-- It stays so.
module _ (old new : Server) (old_fine : IsFine old) (new_fine : IsFine new) (on : Onward old new) where
  denoted_before : (n generation file : ℕ) → 2 ≤ n → generation < old.nodes.next_generation
      → Denotes new.nodes n generation file → Denotes old.nodes n generation file
  denoted_before n generation file low given d = by (on.nodes.nodes n d.row (row_held new.nodes n generation file low d))
    where
      by : (old.nodes.next_generation ≤ (let r = d.row in r.generation)) ⊎ WasHeld old.nodes n d.row
          → Denotes old.nodes n generation file
      by (inl fresh) = let same = d.same_generation in absurd (omega (arith, same, fresh, given))
      by (inr (before, there, same)) =
          record {
            row = before;
            there = row_there old.nodes n before low there;
            same_generation = same.generation ∙ d.same_generation;
            same_file = same.file ∙ d.same_file;
          }

  kind_still : (n generation file : ℕ) → 2 ≤ n → Denotes old.nodes n generation file
      → Denotes new.nodes n generation file → kind_of (get new.tree.files file) ≡ kind_of (get old.tree.files file)
  kind_still n generation file low before now = by (on.files.kinds file (there new new_fine now))
    where
      there : (s : Server) → IsFine s → Denotes s.nodes n generation file → get s.tree.files file ≢ None
      there s fine d = subst (λ (x : ℕ). get s.tree.files x ≢ None) d.same_file
          (fine.firm.nodes n d.row (row_held s.nodes n generation file low d))

      by : (old.tree.next_inode ≤ file) ⊎ WasThere old.tree.files file (get new.tree.files file)
          → kind_of (get new.tree.files file) ≡ kind_of (get old.tree.files file)
      by (inl fresh) =
          let numbered = old_fine.firm.numbered file (there old old_fine before) in absurd (omega (arith, numbered, fresh))
      by (inr was) = was.1

  pub may_still : (n : ℕ) (f : File) → 2 ≤ n → MayBeOf old n f → MayBeOf new n f
  may_still n f low may = record {
    given = let more = on.nodes.next in let was = may.given in omega (arith, more, was);
    same = λ file d.
        let before = denoted_before n f.generation file low may.given d in
        let was = may.same file before in
        record {
          kind_is = was.kind_is ∙ sym (ap bits_of (kind_still n f.generation file low before d));
          ino_is = was.ino_is;
        };
  }
