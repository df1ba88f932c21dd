-- The counted nodes as the kernel's state has them: how one lookup more is counted, and how many nodes there are then.
use Rattle.std.proofs.Common.{◌≡◌, ◌≢◌, ℕ, ◌+◌, ◌-◌, true≢false, true, false, cond, [], ◌∷◌, length, Option, Some, None, T, refl, ap, sym, ◌∙◌, arith}
use Rattle.std.specs.Prelude.{option_map, is_some, is_none}
use Rattle.std.specs.Ordering.{nat_cmp}
use Rattle.std.specs.Cmp.{nat_cmp_total}
use Rattle.std.specs.FinMap.{is_sorted}
use Rattle.std.specs.FinMap.Entries.{length-put}
use Rattle.fuse_spec.specs.declared.Counted.{Counted}
use Rattle.fuse_spec.specs.declared.Entry.{Entry}
use Rattle.fuse_spec.specs.Values.Maps.{Map, get, put, remove}
use Rattle.fuse_spec.specs.Kernel.Replies as replies
use Rattle.fuse_spec.specs.Kernel.Replies.{Use, usable, unusable, stale, use_counted}
use Rattle.fk_lookup_count.specs.declared.forget.Forget.{Forget}
use Rattle.fk_lookup_count.specs.CountedNodes.{counted_once_more, forget_of}
use Rattle.fk_nodes.specs.LookedUp.{looked_up_by_use}
use Rattle.fk_nodes.proofs.Lengths.{gone_absent, length_left}

-- the forget of a node has its whole count
pub count_of_forget : (id : ℕ) (o : Option Counted)
    → option_map (λ (f : Forget). f.nlookup) (forget_of id o) ≡ option_map (λ (c : Counted). c.count) o
count_of_forget id None = refl
count_of_forget id (Some node) = refl

-- one node fewer is counted
pub fewer : (m : Map Counted) (len id : ℕ) (f : Forget) → T (is_sorted nat_cmp m) → len ≡ length m
    → Some f ≡ forget_of id (get m id) → len - 1 ≡ length (remove m id)
fewer m len id f sorted is forgotten =
    let left = length_left m id sorted (there_was (get m id) forgotten) in
    omega arith
  where
    there_was : (o : Option Counted) → Some f ≡ forget_of id o → o ≢ None
    there_was None is =
        let no : ◌≡◌ {A = Option Forget} (Some f) None = is in
        cc
    there_was (Some node) is = λ none.
        let no : ◌≡◌ {A = Option Counted} (Some node) None = none in
        cc

-- none is where there is no forget
pub not_fewer : (m : Map Counted) (id : ℕ) → None ≡ forget_of id (get m id) → length m ≡ length (remove m id)
not_fewer m id is = sym (ap length (gone_absent m id (was_not (get m id) is)))
  where
    was_not : (o : Option Counted) → None ≡ forget_of id o → o ≡ None
    was_not None is = refl
    was_not (Some node) is = absurd (cc)

module _ (m : Map Counted) (g : Entry) where
  looked_up_by : (o : Option Counted) → counted_once_more m g.nodeid g.generation o ≡ put m g.nodeid (replies.counted_more g o)
  looked_up_by None = refl
  looked_up_by (Some node) = refl

  -- one lookup more is counted, of a node that may be new
  pub looked_up_is : counted_once_more m g.nodeid g.generation (get m g.nodeid) ≡ replies.looked_up m (g ∷ [])
  looked_up_is = looked_up_by (get m g.nodeid)

  length_looked_up : T (is_sorted nat_cmp m) → length (replies.looked_up m (g ∷ []))
      ≡ cond (is_some (get m g.nodeid)) (length m) (length m + 1)
  length_looked_up sorted = length-put nat_cmp nat_cmp_total g.nodeid (replies.counted_more g (get m g.nodeid)) m sorted

  some_there : (o : Option Counted) → is_none o ≡ false → is_some o ≡ true
  some_there None known = absurd (true≢false known)
  some_there (Some node) known = refl

  none_there : (o : Option Counted) → is_none o ≡ true → is_some o ≡ false
  none_there None new = refl
  none_there (Some node) new = absurd (true≢false (sym new))

  -- of one that is new
  pub one_more : T (is_sorted nat_cmp m) → is_none (get m g.nodeid) ≡ true
      → length m + 1 ≡ length (replies.looked_up m (g ∷ []))
  one_more sorted new = sym (length_looked_up sorted ∙ ap (λ b. cond b (length m) (length m + 1))
      (none_there (get m g.nodeid) new))

  -- of one that is not new
  pub as_many : T (is_sorted nat_cmp m) → is_none (get m g.nodeid) ≡ false
      → length m ≡ length (replies.looked_up m (g ∷ []))
  as_many sorted known = sym (length_looked_up sorted ∙ ap (λ b. cond b (length m) (length m + 1))
      (some_there (get m g.nodeid) known))

  -- so too by an entry that may be of no use
  pub one_more_by : T (is_sorted nat_cmp m) → is_none (get m g.nodeid) ≡ true
      → length m + 1 ≡ length (looked_up_by_use m g (use_counted g (get m g.nodeid)))
  one_more_by sorted new = one_more sorted new ∙ ap (λ u. length (looked_up_by_use m g u))
      (sym (usable_new (get m g.nodeid) new))
    where
      usable_new : (o : Option Counted) → is_none o ≡ true → use_counted g o ≡ usable
      usable_new None new = refl
      usable_new (Some node) new = absurd (true≢false (sym new))

  pub as_many_by : (u : Use) → T (is_sorted nat_cmp m) → is_none (get m g.nodeid) ≡ false
      → length m ≡ length (looked_up_by_use m g u)
  as_many_by usable sorted known = as_many sorted known
  as_many_by unusable sorted known = refl
  as_many_by (stale node) sorted known = refl
