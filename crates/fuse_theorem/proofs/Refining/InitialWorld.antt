-- The world before its first mount is alike to the plain world with the root alone.
use Rattle.std.proofs.Common.{◌≡◌, ◌≢◌, ℕ, Bool, true, false, true≢false, cond, not, ◌||◌, Option, Some, None, refl, ap, sym, subst, arith, inl, inr}
use Rattle.std.proofs.lemmas.Bool.{cases_eq}
use Rattle.fuse_spec.specs.Values.Maps.{get}
use Rattle.fuse_spec.specs.Files.Trees.{Content, a_directory, is_nameless}
use Rattle.fuse_spec.specs.Server.Nodes.{root_row}
use Rattle.fuse_spec.specs.World.Worlds.{first_world}
use Rattle.fuse_spec.specs.Reference.Plain.{first_plain}
use Rattle.fuse_spec.specs.Claim.Denotes.{NodeDenotesIn}
use Rattle.fuse_spec.specs.Claim.Alike.{Alike}
use Rattle.fuse_spec.proofs.Tables.{tie_no}

other_files : (file : ℕ) → file ≢ 0 → get first_plain.tree.files file ≡ None
other_files file ne = ap (λ (b : Bool). cond b (Some a_directory) None) (tie_no file 0 ne)

none_kept : (b : Bool) (o : Option Content) → o ≡ None → o ≡ cond b o None
none_kept true o e = refl
none_kept false o e = e

first_files : (file : ℕ) → get first_world.server.tree.files file
    ≡ cond (not (is_nameless first_plain.tree file) || false) (get first_plain.tree.files file) None
first_files file =
    elim (cases_eq file 0) [
      | inl e ↦ subst (λ (f : ℕ). get first_world.server.tree.files f
          ≡ cond (not (is_nameless first_plain.tree f) || false) (get first_plain.tree.files f) None) (sym e) refl
      | inr ne ↦ none_kept (not (is_nameless first_plain.tree file) || false) (get first_plain.tree.files file)
          (other_files file ne)
    ]

root_means : NodeDenotesIn first_world 1 0
root_means = record {
  generation = 0;
  known = refl;
  denotes = record { row = root_row; there = refl; same_generation = refl; same_file = refl };
}

pub first_alike : Alike first_world first_plain
first_alike = record {
  tree = record { names = refl; next_inode = refl; next_cookie = refl; files = first_files };
  vfs = record {
    names = λ id file name r. tt;
    names_meant = λ id name there. absurd (there refl);
    names_reached = λ file name there. absurd (there refl);
    opens = λ open_call. tt;
    calls = λ call. tt;
    answers = refl;
    next_call = refl;
    clock = refl;
    roots = root_means;
  };
  requests = record {
    pending = λ k d below. absurd (omega arith);
    sent = λ k d below. absurd (omega arith);
    held = λ unique t at. absurd (cc);
  };
  asks = λ live. absurd (true≢false (sym live));
  validity = refl;
  minor = refl;
  agreed = λ e. absurd (cc (e));
  aborted = refl;
}
