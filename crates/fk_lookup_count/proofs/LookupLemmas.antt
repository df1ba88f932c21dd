-- One lookup more in a slot, and what it makes of the nodes.
use Rattle.std.proofs.Common.{◌≡◌, ◌≢◌, ℕ, ◌+◌, ◌<◌, ◌^◌, true≢false, true, false, Option, Some, None, IsSome, Result, Ok, Err, refl, ap, sym, subst, ◌∙◌, arith, rules, inl, inr}
use Rattle.std.specs.Prelude.{OnErr}
use Rattle.std.specs.FinMap.{get as slot_of}
use Rattle.std.proofs.lemmas.Bool.{cases_eq}
use Rattle.std.proofs.lemmas.Option.{none-some}
use Rattle.fuse_spec.specs.Values.Maps.{get}
use Rattle.fuse_spec.specs.declared.Counted.{Counted}
use Rattle.fk_lookup_count.specs.CountedNodes.{IsUnlike, counted_once_more}
use Rattle.fk_lookup_count.specs.Slots.{nodes_in, slot_counted_more, written, slot_looked_up}
use Rattle.fk_lookup_count.proofs.SlotLemmas.{Slots, no_node, node_is, nodes-insert, room-insert}

-- what holds anyway holds where there is an error
pub if_err : {T E X : Type 0} (r : Result T E) → X → OnErr r X
if_err (Ok t) x = tt
if_err (Err e) x = x

-- what is not counted is not unlike
pub none_unlike : (generation : ℕ) (node : Option Counted) → node ≡ None
    → (false ≡ true → IsUnlike node generation) × (IsUnlike node generation → false ≡ true)
none_unlike generation None is = ((λ e. absurd (true≢false (sym e))), (λ other. absurd other))
none_unlike generation (Some node) is = absurd (none-some node (sym is))

module _ (s : Slots) (id generation : ℕ) where
  room_written : (o : Option Counted) (other : ℕ) → IsSome (slot_of s other) → IsSome (slot_of (written s id o) other)
  room_written None other some = some
  room_written (Some slot) other some = room-insert s id slot other some

  pub room_looked_up : (o : Option Counted) (other : ℕ) → IsSome (slot_of s other)
      → IsSome (slot_of (slot_looked_up s id generation o) other)
  room_looked_up None other some = some
  room_looked_up (Some slot) other some = room_written (slot_counted_more generation slot) other some

  module _ (slot : Counted) (is : slot_of s id ≡ Some slot) where
    pub slot_fits : ((node : Counted) → get (nodes_in s) id ≡ Some node → node.count + 1 < 2 ^ 64)
        → slot.count + 1 < 2 ^ 64
    slot_fits fits = elim (cases_eq slot.count 0) [
      | inl e ↦ omega (arith, e)
      | inr ne ↦
          let some : 0 < slot.count = omega (arith, ne) in
          fits slot (node_is s id slot is some)
    ]

    -- room for a node
    pub new_there : slot.count ≡ 0 → nodes_in (slot_looked_up s id generation (slot_of s id))
        ≡ counted_once_more (nodes_in s) id generation (get (nodes_in s) id)
    new_there none =
        let more : slot_counted_more generation slot ≡ Some (record { generation = generation; count = 1 }) =
        grind (arith, none, rules) in
        ap (λ o. nodes_in (slot_looked_up s id generation o)) is ∙ ap (λ o. nodes_in (written s id o)) more
        ∙ nodes-insert s id (record { generation = generation; count = 1 }) (omega arith)
        ∙ sym (ap (counted_once_more (nodes_in s) id generation) (no_node s id slot is none))

    -- a node of the same generation
    pub again_there : 0 < slot.count → slot.generation ≡ generation
        → nodes_in (slot_looked_up s id generation (slot_of s id))
        ≡ counted_once_more (nodes_in s) id generation (get (nodes_in s) id)
    again_there some same =
        let more : slot_counted_more generation slot ≡ Some (record slot { count = slot.count + 1 }) =
        grind (arith, some, same, rules) in
        ap (λ o. nodes_in (slot_looked_up s id generation o)) is ∙ ap (λ o. nodes_in (written s id o)) more
        ∙ nodes-insert s id (record slot { count = slot.count + 1 }) (omega arith)
        ∙ sym (ap (counted_once_more (nodes_in s) id generation) (node_is s id slot is some))

    pub is_unlike : 0 < slot.count → slot.generation ≢ generation
        → (true ≡ true → IsUnlike (get (nodes_in s) id) generation)
        × (IsUnlike (get (nodes_in s) id) generation → true ≡ true)
    is_unlike some other = (
      (λ e. subst (λ node. IsUnlike node generation) (sym (node_is s id slot is some)) other),
      (λ u. refl),
    )

    pub is_alike : 0 < slot.count → slot.generation ≡ generation
        → (false ≡ true → IsUnlike (get (nodes_in s) id) generation)
        × (IsUnlike (get (nodes_in s) id) generation → false ≡ true)
    is_alike some same = (
      (λ e. absurd (true≢false (sym e))),
      (λ u. absurd (subst (λ node. IsUnlike node generation) (node_is s id slot is some) u same)),
    )
