-- What the worlds of the counterexamples are.
use Rattle.std.proofs.Common.{◌≡◌, ◌≤◌, ℕ, ◌+◌, Bool, true, false, true≢false, is_some, cond, [], ◌∷◌, Some, None, refl, ap, sym, subst, ◌∙◌, arith, inl, inr}
use Rattle.std.proofs.lemmas.Bool.{cases_eq}
use Rattle.std.proofs.lemmas.List.Elements.{All-cons}
use Rattle.fuse_spec.specs.Claim.Alike.{Alike, RequestBodyAsked}
use Rattle.fuse_spec.specs.Claim.Denotes.{NodeDenotesIn, OpenDenotesIn}
use Rattle.fuse_spec.specs.Values.Maps.{get}
use Rattle.fuse_spec.specs.Kernel.Messages.{Request, forget}
use Rattle.fuse_spec.specs.Server.Nodes.{HeldNode, root_row}
use Rattle.fuse_spec.specs.Reference.Plain.{first_plain}
use Rattle.fuse_spec.proofs.Tables.{get_put_here, tie_no}
use Rattle.fuse_theorem.specs.Counterexamples.{with_a_stray_forget, with_a_node_left, with_a_late_request}
use Rattle.fuse_theorem.specs.Lookups.{LookupsSound}
use Rattle.fuse_theorem.specs.ServerTables.{NodesSound}
use Rattle.fuse_theorem.specs.WorldSound.{WorldSound}
use Rattle.fuse_theorem.proofs.Refining.InitialWorld.{first_alike}
use Rattle.fuse_theorem.proofs.Nodes.ServerSound.{first_sound}
use Rattle.fuse_theorem.proofs.WholeLists.WorldSound.{first_world_sound}

-- What a table of one row holds.
pub only : {X : Type 0} (key : ℕ) (x : X) (k : ℕ) (y : X) → get ((key, x) ∷ []) k ≡ Some y → (k ≡ key) × (x ≡ y)
only {X} key x k y there = elim (cases_eq k key) [
  | inl same ↦ (
    same,
    let here : get ((key, x) ∷ []) key
        ≡ Some y = subst (λ (n : ℕ). get ((key, x) ∷ []) n ≡ Some y) same there in at_key here,
  )
  | inr other ↦ let none : get ((key, x) ∷ []) k ≡ None =
      ap (λ b. cond b (Some x) None) (tie_no k key other) in absurd (cc (none, there))
]
  where
    at_key : get ((key, x) ∷ []) key ≡ Some y → x ≡ y
    at_key here = let there_is : get ((key, x) ∷ []) key ≡ Some x = get_put_here [] key x in cc (there_is, here)

root_means : NodeDenotesIn with_a_stray_forget 1 0
root_means = record {
  generation = 0;
  known = refl;
  denotes = record { row = root_row; there = refl; same_generation = refl; same_file = refl };
}

pub stray_alike : Alike with_a_stray_forget first_plain
stray_alike = record {
  tree = first_alike.tree;
  vfs = record {
    names = λ id file name r. tt;
    names_meant = λ id name there. absurd (there refl);
    names_reached = λ file name there. absurd (there refl);
    opens = λ open_call. tt;
    calls = λ call. tt;
    answers = refl;
    next_call = refl;
    clock = refl;
    roots = root_means;
  };
  requests = record {
    pending = λ k d below. absurd (omega arith);
    sent = All-cons (λ (r : Request). RequestBodyAsked first_plain.asks r.unique false false
        (NodeDenotesIn with_a_stray_forget) (OpenDenotesIn with_a_stray_forget) r.body)
        (record { unique = 2; body = forget (2, 1) }) [] refl (λ k d below. absurd (omega arith));
    held =
        λ unique t at. absurd (cc);
  };
  asks = λ live. record {
    of_calls = λ call state there. absurd (cc);
    no_other = λ unique ask there. absurd (cc);
    signalled = λ unique request ask there. absurd (cc);
    kept = λ unique kept ask there. absurd (cc);
    copies = λ k d below. absurd (omega arith);
  };
  validity = refl;
  minor = refl;
  agreed = λ e. (refl, refl);
  aborted = refl;
}

node_left : NodesSound with_a_node_left.server.nodes
node_left = record {
  ids = λ id row at. let one = only 2 (record { file = 1; generation = 1; count = 1 }) id row at in
      omega (arith, one.0);
  files = λ id row at none. let one = only 2 (record { file = 1; generation = 1; count = 1 }) id row at in
      let file : 1 ≡ row.file = ap (λ (r : HeldNode). r.file) one.1 in omega (arith, file, none);
  apart = λ i j a b p q same. let one = only 2 (record { file = 1; generation = 1; count = 1 }) i a p in let other =
      only 2 (record { file = 1; generation = 1; count = 1 }) j b q in one.0 ∙ sym other.0;
  generations = λ id row at. let one = only 2 (record { file = 1; generation = 1; count = 1 }) id row at in
      let generation : 1 ≡ row.generation = ap (λ (r : HeldNode). r.generation) one.1 in omega (arith, generation);
  counts = λ id row at. let one = only 2 (record { file = 1; generation = 1; count = 1 }) id row at in
      let count : 1 ≡ row.count = ap (λ (r : HeldNode). r.count) one.1 in omega (arith, count);
}

pub left_sound : LookupsSound with_a_node_left
left_sound = record {
  server = record {
    tree = first_sound.tree;
    nodes = node_left;
    handles = first_sound.handles;
    copies = first_sound.copies;
  };
  numbers = record { live = λ live. absurd (true≢false (sym live)); idle = λ dead. refl };
  copies = record {
    sent = λ k d below. absurd (omega arith);
    results = λ k d below. absurd (omega arith);
    once = λ number. omega arith;
  };
  kept = λ u k at. absurd (cc);
  balanced = λ live. absurd (true≢false (sym live));
  uncounted = λ dead. refl;
}

pub stray_sound : WorldSound with_a_late_request
stray_sound = record {
  rooted = first_world_sound.rooted;
  queues = first_world_sound.queues;
  lookups = record {
    server = record {
      tree = first_sound.tree;
      nodes = first_sound.nodes;
      handles = first_sound.handles;
      copies = first_sound.copies;
    };
    numbers = record { live = λ live. absurd (true≢false (sym live)); idle = λ dead. refl };
    copies = record {
      sent = λ k d below. absurd (omega arith);
      results = λ k d below. absurd (omega arith);
      once = λ number. omega arith;
    };
    kept = λ u k at. absurd (cc);
    balanced = λ live. absurd (true≢false (sym live));
    uncounted = λ dead. refl;
  };
  requests = record {
    once = λ unique even. at_most (is_some (get with_a_late_request.server.held unique));
    numbers = λ k d below. absurd (omega arith);
    unanswered = λ unique even stands. record { copies = λ k d below. absurd (omega arith); kept = refl };
  };
}
  where
    at_most : (b : Bool) → 0 + cond b 1 0 ≤ 1
    at_most true = omega arith
    at_most false = omega arith
