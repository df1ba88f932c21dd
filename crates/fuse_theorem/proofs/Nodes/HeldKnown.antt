-- A held request of a call names its nodes under the generations that the kernel knows, whatever happens.
use Rattle.std.proofs.Common.{◌≡◌, ℕ, true, List, [], ◌∷◌, map, Option, Some, None, nat_eq, arith, refl, ap, sym, subst, ◌∙◌, All}
use Rattle.std.proofs.lemmas.List.Elements.{All-nil, All-cons, All-head, All-tail}
use Rattle.std.proofs.lemmas.Bool.Decides.{nat_tests}
use Rattle.fuse_spec.specs.declared.Counted.{Counted}
use Rattle.fuse_spec.specs.declared.Opened.{Opened}
use Rattle.fuse_spec.specs.declared.Purpose.{Purpose}
use Rattle.fuse_spec.specs.declared.Purpose.TheVariants as purpose
use Rattle.fuse_spec.specs.Values.Maps.{Map, get}
use Rattle.fuse_spec.specs.Kernel.Messages.{RequestBody, asks}
use Rattle.fuse_spec.specs.Files.Operations.{Operation, files_in}
use Rattle.fuse_spec.specs.Calls.Vfs.{CallState, walking, doing, using, asked}
use Rattle.fuse_spec.specs.Files.Operations.{opened_nodes}
use Rattle.fuse_spec.specs.Kernel.Kernel.{Kernel, asked_by, body_of, nodes_of_state}
use Rattle.fuse_spec.specs.Server.Nodes.{NodeTable, row_of, is_row_of, is_held}
use Rattle.fuse_spec.specs.Server.Performs.{is_still_held}
use Rattle.fuse_spec.specs.Server.Server.{HeldRequest, generation_in, nodes_of_body}
use Rattle.fuse_spec.specs.Claim.Denotes.{generation_known}
use Rattle.fuse_spec.specs.World.Worlds.{World}
use Rattle.fuse_theorem.specs.AskedRequests.{IsAsked}
use Rattle.fuse_theorem.specs.Conditions.{KnownAreHeld}
use Rattle.fuse_theorem.specs.KnownNodes.{IsKnown, NodesKnown}
use Rattle.fuse_theorem.specs.Lookups.{IsHeldAs}
use Rattle.fuse_theorem.proofs.Calls.KnownWalks.{StateKnown}
use Rattle.fuse_theorem.proofs.Nodes.NodesKnown.{known_some, All-more}
use Rattle.fuse_theorem.proofs.Lists.Values.{All-get}

-- What a request of a call names is known.
pub state_names : (nodes : Map Counted) (state : CallState Opened) → All (IsKnown nodes) (nodes_of_state state)
    → All (IsKnown nodes) (files_in opened_nodes (asked state))
state_names nodes (walking d word words plan) h =
    All-cons (IsKnown nodes) d [] (All-head (IsKnown nodes) d _ h) (All-nil (IsKnown nodes))
state_names nodes (doing operation) h = h
state_names nodes (using open_call operation) h = h

pub names_known : (k : Kernel) → NodesKnown k → (unique : ℕ) (operation : Operation ℕ Opened)
    → IsAsked k unique (asks operation) → All (IsKnown k.nodes) (files_in opened_nodes operation)
names_known k known unique operation is = by is.request.kept is.asks
  where
    of_call : (o : Option (CallState Opened)) (call : ℕ) → get k.vfs.calls call ≡ o
        → asked_by o ≡ Some (asks operation) → All (IsKnown k.nodes) (files_in opened_nodes operation)
    of_call None call at e = absurd (cc)
    of_call (Some state) call at e =
        let same : asked state ≡ operation = cc (e) in
        subst (λ (x : Operation ℕ Opened). All (IsKnown k.nodes) (files_in opened_nodes x)) same
        (state_names k.nodes state (All-get (StateKnown k.nodes) k.vfs.calls call state known.calls at))

    by : (kept : Purpose) → body_of k kept ≡ Some (asks operation)
        → All (IsKnown k.nodes) (files_in opened_nodes operation)
    by purpose.Init e = absurd (cc)
    by (purpose.Release o) e = absurd (cc)
    by (purpose.Call call) e = of_call (get k.vfs.calls call) call refl e

-- The generations of nodes that the kernel knows are its own.
taken_known : (w : World) → KnownAreHeld w → (ids : List ℕ) → All (IsKnown w.kernel.nodes) ids
    → All (λ (g : ℕ × ℕ). generation_known w.kernel.nodes g.0 ≡ Some g.1)
    (map (λ (id : ℕ). (id, generation_in (row_of w.server.nodes id))) ids)
taken_known w held [] h = All-nil (λ (g : ℕ × ℕ). generation_known w.kernel.nodes g.0 ≡ Some g.1)
taken_known w held (id ∷ ids) h =
    All-cons (λ (g : ℕ × ℕ). generation_known w.kernel.nodes g.0 ≡ Some g.1)
    (id, generation_in (row_of w.server.nodes id)) (map
    (λ (x : ℕ). (x, generation_in (row_of w.server.nodes x))) ids) same
    (taken_known w held ids (All-tail (IsKnown w.kernel.nodes) id ids h))
  where
    same : generation_known w.kernel.nodes id ≡ Some (generation_in (row_of w.server.nodes id))
    same =
        let some = known_some w.kernel.nodes id (All-head (IsKnown w.kernel.nodes) id ids h) in
        let row = (held id some.0 some.1).1 in
        let is : generation_in (row_of w.server.nodes id) ≡ some.0 = ap generation_in row.there ∙ row.same_generation in
        some.1 ∙ ap (λ (n : ℕ). Some n) (sym is)

named_ids : (f : ℕ → ℕ) (ids : List ℕ) → map (λ (g : ℕ × ℕ). g.0) (map (λ (id : ℕ). (id, f id)) ids) ≡ ids
named_ids f [] = refl
named_ids f (id ∷ ids) = ap (λ (xs : List ℕ). id ∷ xs) (named_ids f ids)

-- A held request's generations are of the nodes that it names, and where it is one of these, they are those that the
-- kernel knows.
pub record HeldOf (Which : RequestBody → Type 0) (w : World) (t : HeldRequest) : Type 0 where
  pub names : map (λ (g : ℕ × ℕ). g.0) t.generations ≡ nodes_of_body t.body
  pub known : Which t.body → All (λ (g : ℕ × ℕ). generation_known w.kernel.nodes g.0 ≡ Some g.1) t.generations

-- A request that the server takes is held so, where the kernel knows what it names.
pub taken_held : (Which : RequestBody → Type 0) (w : World) → KnownAreHeld w → (body : RequestBody)
    → (Which body → All (IsKnown w.kernel.nodes) (nodes_of_body body)) → (t : HeldRequest) → t.body ≡ body
    → t.generations ≡ map (λ (id : ℕ). (id, generation_in (row_of w.server.nodes id))) (nodes_of_body body)
    → HeldOf Which w t
taken_held Which w held body known t body_is generations_are = record {
  names = ap (map (λ (g : ℕ × ℕ). g.0)) generations_are ∙ named_ids (λ id. generation_in (row_of w.server.nodes id))
      (nodes_of_body body) ∙ ap nodes_of_body (sym body_is);
  known = λ which. subst (All (λ (g : ℕ × ℕ). generation_known w.kernel.nodes g.0 ≡ Some g.1)) (sym generations_are)
      (taken_known w held (nodes_of_body body) (known (subst Which body_is which)));
}

-- What the kernel knows, the server holds.
pub known_nodes_held : (w : World) → KnownAreHeld w → (gs : List (ℕ × ℕ))
    → All (λ (g : ℕ × ℕ). generation_known w.kernel.nodes g.0 ≡ Some g.1) gs
    → All (λ (g : ℕ × ℕ). IsHeldAs w.server.nodes g.0 g.1) gs
known_nodes_held w held gs h = All-more gs (λ g known. held g.0 g.1 known) h

pub all_still_held : (t : NodeTable) (gs : List (ℕ × ℕ)) → All (λ (g : ℕ × ℕ). IsHeldAs t g.0 g.1) gs
    → is_still_held t gs ≡ true
all_still_held t [] h = refl
all_still_held t (g ∷ gs) h =
    let row = (All-head (λ (x : ℕ × ℕ). IsHeldAs t x.0 x.1) g gs h).1 in
    let is : nat_eq row.row.generation g.1 ≡ true = grind (arith, nat_tests, row.same_generation) in
    let here : is_held t g.0 g.1 ≡ true = ap (is_row_of g.1) row.there ∙ is in
    rw here (all_still_held t gs (All-tail (λ (x : ℕ × ℕ). IsHeldAs t x.0 x.1) g gs h))

-- So its nodes are held still.
pub still_held : (w : World) → KnownAreHeld w → (gs : List (ℕ × ℕ))
    → All (λ (g : ℕ × ℕ). generation_known w.kernel.nodes g.0 ≡ Some g.1) gs → is_still_held w.server.nodes gs ≡ true
still_held w held gs h = all_still_held w.server.nodes gs (known_nodes_held w held gs h)
