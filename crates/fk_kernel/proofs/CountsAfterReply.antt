-- The counted nodes after a reply to the request of a call.
use Rattle.std.proofs.Common.{◌≡◌, ℕ, ◌≤◌, ◌<◌, ◌%◌, Bool, true, false, List, [], ◌∷◌, Option, Some, None, T, nat_eq, refl, ap, sym, subst, ◌∙◌, arith}
use Rattle.std.specs.Prelude.{nat_le}
use Rattle.std.specs.FinMap.{is_sorted}
use Rattle.std.specs.Ordering.{nat_cmp}
use Rattle.std.proofs.lemmas.Bool.Decides.{nat_tests}
use Rattle.fuse_spec.specs.declared.Counted.{Counted}
use Rattle.fuse_spec.specs.declared.Entry.{Entry}
use Rattle.fuse_spec.specs.declared.Opened.{Opened}
use Rattle.fuse_spec.specs.declared.Purpose.TheVariants.{Call}
use Rattle.fuse_spec.specs.declared.WriteResult.{WriteResult}
use Rattle.fuse_spec.specs.Calls.Answers as answer
use Rattle.fuse_spec.specs.Kernel.Kernel.{Kernel, asking_for, after_use, released}
use Rattle.fuse_spec.specs.Values.Maps.{Map, get}
use Rattle.fuse_spec.specs.Kernel.Messages.{WireReply}
use Rattle.fuse_spec.specs.Values.Numbers.{counter_end}
use Rattle.fuse_spec.specs.Files.Operations as reply
use Rattle.fuse_spec.specs.Files.Operations.{Operation, DirentPlus, files_in_reply, files_listed}
use Rattle.fuse_spec.specs.Kernel.QueueCalls.{waiting, without}
use Rattle.fuse_spec.specs.Kernel.Replies.{Use, usable, unusable, stale, first_use, use_of, counted_more, looked_up, judged, reply_received, goes_with, reply_judged, use_of_reply, without_stale, reply_written}
use Rattle.fuse_spec.specs.Calls.Vfs.{CallState, walking, doing, using, asked}
use Rattle.fuse_spec.proofs.Tables.{get_put_here}
use Rattle.fuse_spec.specs.Kernel.Refusals.{is_counted_out}
use Rattle.fk_nodes.specs.LookedUp.{looked_up_from, HaveCountsInRange, SomeOut}
use Rattle.fk_nodes.proofs.Judged.{looked_up_is}
use Rattle.fk_nodes.proofs.Outs.{out_below, some_out, none_out, one_below, sorted_from}
use Rattle.fk_kernel.specs.Entries.{Awaits, looked_up_by_all, nodes_after_reply}
use Rattle.fk_kernel.proofs.Replied.{goes_is, wrong_is, ended}

-- ---- what leaves the counts as they are

released_nodes : (k : Kernel) (open_call : ℕ) (o : Option Opened) → (released k open_call o).nodes ≡ k.nodes
released_nodes k open_call None = refl
released_nodes k open_call (Some opened) = refl

pub use_nodes : (k : Kernel) (state : CallState Opened) → (after_use k state).nodes ≡ k.nodes
use_nodes k (walking d w ws p) = refl
use_nodes k (doing operation) = refl
use_nodes k (using open_call operation) = released_nodes k open_call (get k.closing open_call)

asking_nodes : (k : Kernel) (call : ℕ) (o : Option (Operation ℕ Opened)) → (asking_for k call o).nodes ≡ k.nodes
asking_nodes k call None = refl
asking_nodes k call (Some operation) = refl

-- ---- what a reply makes of them

judged_nodes : (k : Kernel) (call : ℕ) (state : CallState Opened) (wire : WireReply) (u : Use)
    → (judged k call state wire u).nodes ≡ looked_up_by_all k.nodes (files_in_reply wire) u
judged_nodes k call state wire usable = asking_nodes _ call _
judged_nodes k call state wire unusable = refl
judged_nodes k call state wire (stale node) = refl

module _ (k : Kernel) (unique call : ℕ) (even : nat_eq (unique % 2) 1 ≡ false)
    (waits : waiting k.queues unique ≡ Some (Call call)) where
  pub goes_nodes : (wire : WireReply) (aw : Awaits (get k.vfs.calls call) wire)
      → (reply_written k unique wire).1.nodes ≡ nodes_after_reply k.nodes wire
  goes_nodes wire aw =
      let ended_so : Kernel = record k { queues = without k.queues unique } in
      ap (λ (r : WriteResult × Kernel). r.1.nodes) (goes_is k unique call even waits wire aw)
      ∙ use_nodes (reply_received ended_so call aw.state wire) aw.state
      ∙ judged_nodes (without_stale ended_so wire) call aw.state (reply_judged k.nodes wire) (use_of_reply k.nodes wire)

  -- a body that does not go with what was asked
  pub wrong_nodes : (state : CallState Opened) → get k.vfs.calls call ≡ Some state → (wire : WireReply)
      → goes_with (asked state) wire ≡ false → (reply_written k unique wire).1.nodes ≡ k.nodes
  wrong_nodes state at wire other =
      ap (λ (r : WriteResult × Kernel). r.1.nodes) (wrong_is k unique call even waits state at wire other) ∙ use_nodes
      (ended k unique k.vfs call (answer.failed 5)) state

-- ---- whether a count ends

-- an entry that can be used
pub one_out : (nodes : Map Counted) (g : Entry) → T (is_sorted nat_cmp nodes)
    → T (is_sorted nat_cmp (looked_up nodes (g ∷ []))) → HaveCountsInRange nodes → (b : Bool)
    → nat_le counter_end (counted_more g (get nodes g.nodeid)).count ≡ b → is_counted_out (looked_up nodes (g ∷ [])) ≡ b
one_out nodes g sorted after below true out =
    let most : counter_end ≤ (counted_more g (get nodes g.nodeid)).count = at_least counter_end _ out in
    some_out (looked_up nodes (g ∷ [])) g.nodeid (counted_more g (get nodes g.nodeid))
    (get_put_here nodes g.nodeid (counted_more g (get nodes g.nodeid))) most
  where
    at_least : (m n : ℕ) → nat_le m n ≡ true → m ≤ n
    at_least m n is = grind (arith, nat_tests)
one_out nodes g sorted after below false within =
    let less : (counted_more g (get nodes g.nodeid)).count < counter_end = at_most counter_end _ within in
    none_out (looked_up nodes (g ∷ [])) after (one_below nodes g below less)
  where
    at_most : (m n : ℕ) → nat_le m n ≡ false → n < m
    at_most m n is = grind (arith, nat_tests)

fits_at : (nodes : Map Counted) (g : Entry) → is_counted_out (looked_up nodes (g ∷ [])) ≡ false
    → (counted_more g (get nodes g.nodeid)).count < counter_end
fits_at nodes g none = (out_below (looked_up nodes (g ∷ [])) none).below g.nodeid (counted_more g (get nodes g.nodeid))
    (get_put_here nodes g.nodeid (counted_more g (get nodes g.nodeid)))

-- Where no count ends, one lookup more of the node of a usable entry fits.
pub entry_fits : (nodes : Map Counted) (g : Entry) → use_of nodes g ≡ usable
    → is_counted_out (looked_up_by_all nodes (g ∷ []) (first_use (use_of nodes g) usable)) ≡ false
    → (counted_more g (get nodes g.nodeid)).count < counter_end
entry_fits nodes g is none = fits_at nodes g (subst
    (λ (u : Use). is_counted_out (looked_up_by_all nodes (g ∷ []) (first_use u usable)) ≡ false) is none)

-- The names of a list.
pub pairs_below : (nodes : Map Counted) (pairs : List (DirentPlus Entry))
    → is_counted_out (nodes_after_reply nodes (reply.listed_plus pairs)) ≡ false → HaveCountsInRange (looked_up_from nodes pairs)
pairs_below nodes pairs none = out_below (looked_up_from nodes pairs)
    (subst (λ (m : Map Counted). is_counted_out m ≡ false) (looked_up_is nodes pairs) none)

-- whether one of them brings a count to its end
pub pairs_out : (nodes : Map Counted) (pairs : List (DirentPlus Entry)) → T (is_sorted nat_cmp nodes) → (b : Bool)
    → (b ≡ true → SomeOut (looked_up_from nodes pairs)) → (b ≡ false → HaveCountsInRange (looked_up_from nodes pairs))
    → b ≡ is_counted_out (nodes_after_reply nodes (reply.listed_plus pairs))
pairs_out nodes pairs sorted true out within =
    let past = out refl in
    sym (ap is_counted_out (looked_up_is nodes pairs) ∙ some_out (looked_up_from nodes pairs) past.id past.counted past.at past.out)
pairs_out nodes pairs sorted false out within = sym
    (ap is_counted_out (looked_up_is nodes pairs) ∙ none_out (looked_up_from nodes pairs) (sorted_from pairs nodes sorted)
    (within refl))
