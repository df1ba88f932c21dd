-- What the laws on single events need of a world holds after each mount; and after an abort, as far as the kernel is
-- concerned.
use Rattle.fuse_spec.specs.declared.Minor.{Minor}
use Rattle.std.proofs.Common.{◌≡◌, ℕ, ◌<◌, cond, [], Some, None, refl, ap, sym, subst, ◌∙◌, arith, inl, inr}
use Rattle.std.proofs.lemmas.Bool.{cases_eq}
use Rattle.std.proofs.lemmas.List.Elements.{All-nil}
use Rattle.fuse_spec.specs.declared.Purpose.TheVariants as purpose
use Rattle.fuse_spec.specs.Kernel.Queues.{empty_queues}
use Rattle.fuse_spec.specs.Kernel.Messages.{Request}
use Rattle.fuse_spec.specs.Server.Nodes.{NodeTable, root_row, row_of}
use Rattle.fuse_spec.specs.World.Worlds.{World, Sent, after_mount, after_abort}
use Rattle.fuse_spec.specs.Claim.Denotes.{Denotes, generation_known}
use Rattle.fuse_spec.proofs.QueueSoundness.{IsSound-enqueue}
use Rattle.fuse_theorem.specs.Numbering.{IsNumbered}
use Rattle.fuse_theorem.specs.Conditions.{OneId, KnownAreHeld, TablesSound}
use Rattle.fuse_theorem.proofs.Calls.Finding.{other_is}
use Rattle.fuse_theorem.proofs.Requests.EmptyQueues.{empty_sound}

-- a kernel that has no table of nodes knows the root, which each server holds
known_held : (t : NodeTable) (id generation : ℕ) → generation_known [] id ≡ Some generation
    → (file : ℕ) × Denotes t id generation file
known_held t id generation known = elim (cases_eq id 1) [
  | inl e ↦
      let zero_known : Some 0 ≡ Some generation = subst (λ (n : ℕ). generation_known [] n ≡ Some generation) e known in
      let is : 0 ≡ generation = cc in (
        0,
        subst (λ (n : ℕ). Denotes t n generation 0) (sym e)
            (record { row = root_row; there = refl; same_generation = is; same_file = refl }),
      )
  | inr ne ↦
      let unknown : generation_known [] id ≡ None = ap (λ b. cond b (Some 0) None) (other_is id 1 ne) in
      absurd (cc (unknown, known))
]

-- a server whose table is empty holds the root alone
root_held : (next id generation file : ℕ) → Denotes (record { rows = []; next_generation = next }) id generation file
    → id ≡ 1
root_held next id generation file held = elim (cases_eq id 1) [
  | inl e ↦ e
  | inr ne ↦
      let none : row_of (record { rows = []; next_generation = next }) id ≡ None =
      ap (λ b. cond b (Some root_row) None) (other_is id 1 ne) in
      let there = held.there in
      absurd (cc (none, there))
]

module _ (w : World) (found_ms missing_ms : ℕ) (minor : Minor) where
  abbrev mounted : World
  mounted = after_mount w found_ms missing_ms minor

  pub mounted_numbered : IsNumbered mounted
  mounted_numbered = record {
    queues = IsSound-enqueue empty_queues purpose.Init empty_sound
        (record { even = refl; low = omega arith; high = omega arith });
    calls_below = λ c le. refl;
    one_request = λ c. omega arith;
    sent_below = All-nil (λ (r : Request). r.unique < mounted.kernel.queues.next);
    replies_below = All-nil (λ (s : Sent). s.unique < mounted.kernel.queues.next);
    held_below = λ live u t at. absurd (cc);
    kept_below = λ live u k at. absurd (cc);
  }

  pub mounted_one_id : OneId mounted.server.nodes
  mounted_one_id i j g h file held other = root_held w.server.nodes.next_generation i g file held ∙ sym
      (root_held w.server.nodes.next_generation j h file other)

  pub mounted_known : KnownAreHeld mounted
  mounted_known id generation known = known_held mounted.server.nodes id generation known

  pub mounted_tables : TablesSound mounted.server
  mounted_tables = record { no_root = refl; new_handle = refl }

module _ (w : World) where
  pub aborted_numbered : IsNumbered (after_abort w)
  aborted_numbered = record {
    queues = empty_sound;
    calls_below = λ c le. refl;
    one_request = λ c. omega arith;
    sent_below = All-nil (λ (r : Request). r.unique < (after_abort w).kernel.queues.next);
    replies_below = All-nil (λ (s : Sent). s.unique < (after_abort w).kernel.queues.next);
    held_below = λ live u t at. absurd (cc);
    kept_below = λ live u k at. absurd (cc);
  }

  pub aborted_known : KnownAreHeld (after_abort w)
  aborted_known id generation known = known_held w.server.nodes id generation known
