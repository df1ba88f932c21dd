-- Operations that are alike stay alike where what their nodes denote is said in another way.
use Rattle.std.proofs.Common.{◌≡◌, ℕ, zero, suc, List, [], ◌∷◌, ◌++◌, Option, Some, None, map, refl, ap, subst, ◌∙◌, arith}
use Rattle.std.specs.Prelude.{Contains, option_to_list}
use Rattle.fuse_spec.specs.Files.Operations.{Operation, lookup, getattr, mkdir, create, unlink, rmdir, rename, link, opening, readdir, readdirplus, read, write, files_in, opened_nodes, OptionAlike, OperationAlike}
use Rattle.fuse_spec.specs.declared.Opened.{Opened}
use Rattle.fuse_spec.specs.declared.Counted.{Counted}
use Rattle.fuse_spec.specs.Values.Maps.{Map}
use Rattle.fuse_spec.specs.Claim.Counts.{opens_of}
use Rattle.fuse_spec.specs.Server.Nodes.{NodeTable, HandleTable, row_of}
use Rattle.fuse_spec.specs.Server.Server.{generation_in}
use Rattle.fuse_spec.specs.Claim.Denotes.{FinalAlike, NodeDenotes, OpenDenotes}
use Rattle.fuse_spec.specs.Calls.Walks.{FinalOperation, last, files_of_plan}
use Rattle.fuse_spec.specs.Claim.Alike.{StillDenotes, OpenStillDenotes}

pub first_of : {X : Type 0} (x : X) (xs : List X) → Contains (x ∷ xs) x
first_of x xs = (0, omega arith, refl)

second_of : {X : Type 0} (x y : X) (xs : List X) → Contains (x ∷ y ∷ xs) y
second_of x y xs = (1, omega arith, refl)

-- what holds of an operation's files and open files alone
pub operation_more : (R R' : ℕ → ℕ → Type 0) (S S' : Opened → ℕ → Type 0) (a : Operation ℕ Opened) (b : Operation ℕ ℕ)
    → ((id file : ℕ) → Contains (files_in opened_nodes a) id → R id file → R' id file)
    → ((o : Opened) (file : ℕ) → Contains (files_in opened_nodes a) o.nodeid → Contains (opens_of a) o → S o file
    → S' o file)
    → OperationAlike R S a b → OperationAlike R' S' a b
operation_more R R' S S' (lookup d name) (lookup e other) f g h = (f d e (first_of d []) h.0, h.1)
operation_more R R' S S' (getattr x) (getattr y) f g h = f x y (first_of x []) h
operation_more R R' S S' (mkdir d name) (mkdir e other) f g h = (f d e (first_of d []) h.0, h.1)
operation_more R R' S S' (create d name) (create e other) f g h = (f d e (first_of d []) h.0, h.1)
operation_more R R' S S' (unlink d name) (unlink e other) f g h = (f d e (first_of d []) h.0, h.1)
operation_more R R' S S' (rmdir d name) (rmdir e other) f g h = (f d e (first_of d []) h.0, h.1)
operation_more R R' S S' (rename d old e new) (rename d' old' e' new') f g h =
    (f d d' (first_of d (e ∷ [])) h.0, h.1, f e e' (second_of d e []) h.2, h.3)
operation_more R R' S S' (link x d name) (link y e other) f g h =
    (f x y (second_of d x []) h.0, f d e (first_of d (x ∷ [])) h.1, h.2)
operation_more R R' S S' (opening x) (opening y) f g h = f x y (first_of x []) h
operation_more R R' S S' (readdir d after size) (readdir e after' size') f g h = (f d e (first_of d []) h.0, h.1, h.2)
operation_more R R' S S' (readdirplus d after size) (readdirplus e after' size') f g h =
    (f d e (first_of d []) h.0, h.1, h.2)
operation_more R R' S S' (read o offset size) (read o' offset' size') f g h =
    (g o o' (first_of o.nodeid []) (first_of o []) h.0, h.1, h.2)
operation_more R R' S S' (write o offset bytes) (write o' offset' bytes') f g h =
    (g o o' (first_of o.nodeid []) (first_of o []) h.0, h.1, h.2)
operation_more R R' S S' a b f g h = absurd h

pub next_of : {X : Type 0} (y : X) (xs : List X) (x : X) → Contains xs x → Contains (y ∷ xs) x
next_of y xs x (k, lt, is) = (suc k, omega (arith, lt), is)

-- .. and so of the operation at the end of a walk
module _ (R R' : ℕ → ℕ → Type 0) where
  abbrev Within : List ℕ → Type 0
  Within ids = (id file : ℕ) → Contains ids id → R id file → R' id file

  named_within : (d e : Option ℕ) (others : List ℕ) → Within (option_to_list d ++ others) → OptionAlike R d e
      → OptionAlike R' d e
  named_within None None others f h = h
  named_within (Some x) (Some y) others f h = f x y (first_of x others) h
  named_within None (Some y) others f h = absurd h
  named_within (Some x) None others f h = absurd h

  others_within : (d : Option ℕ) (others : List ℕ) → Within (option_to_list d ++ others) → Within others
  others_within None others f = f
  others_within (Some x) others f = λ id file among. f id file (next_of x others id among)

  pub final_within : (a b : FinalOperation ℕ) → Within (files_of_plan (last a)) → FinalAlike R a b → FinalAlike R' a b
  final_within (lookup d name) (lookup e other) f h = (named_within d e [] f h.0, h.1)
  final_within (mkdir d name) (mkdir e other) f h = (named_within d e [] f h.0, h.1)
  final_within (create d name) (create e other) f h = (named_within d e [] f h.0, h.1)
  final_within (unlink d name) (unlink e other) f h = (named_within d e [] f h.0, h.1)
  final_within (rmdir d name) (rmdir e other) f h = (named_within d e [] f h.0, h.1)
  final_within (getattr x) (getattr y) f h = named_within x y [] f h
  final_within (opening x) (opening y) f h = named_within x y [] f h
  final_within (readdir d after size) (readdir e after' size') f h = (named_within d e [] f h.0, h.1, h.2)
  final_within (readdirplus d after size) (readdirplus e after' size') f h = (named_within d e [] f h.0, h.1, h.2)
  final_within (rename d old e new) (rename d' old' e' new') f h = (
    named_within d d' (option_to_list e ++ []) f h.0,
    h.1,
    named_within e e' [] (others_within d (option_to_list e ++ []) f) h.2,
    h.3,
  )
  final_within (link x d name) (link y e other) f h = (
    named_within x y [] (others_within d (option_to_list x ++ []) f) h.0,
    named_within d e (option_to_list x ++ []) f h.1,
    h.2,
  )
  final_within (read o offset size) b f h = elim o [ ]
  final_within (write o offset bytes) b f h = elim o [ ]
  final_within a b f h = absurd h

Contains-map : {X Y : Type 0} (f : X → Y) (xs : List X) (x : X) → Contains xs x → Contains (map f xs) (f x)
Contains-map f [] x at = absurd (let lt = at.1 in omega (arith, lt))
Contains-map f (y ∷ xs) x (zero, lt, is) = (0, omega (arith), ap f is)
Contains-map f (y ∷ xs) x (suc k, lt, is) = let rest = Contains-map f xs x (k, omega (arith, lt), is) in let low =
    rest.1 in (suc rest.0, omega (arith, low), rest.2)

module _ (nodes : Map Counted) (t : NodeTable) (h : HandleTable) (ids : List ℕ) where
  -- the generations under which the server holds these nodes
  abbrev pub generations_of : List (ℕ × ℕ)
  generations_of = map (λ id. (id, generation_in (row_of t id))) ids

  -- What the kernel's node denotes is what it denoted when the request that names it was taken.
  pub means_meant : (id file : ℕ) → Contains ids id → NodeDenotes nodes t id file → StillDenotes t generations_of id file
  means_meant id file among means =
      let same : generation_in (row_of t id) ≡ means.generation =
      ap generation_in means.denotes.there ∙ means.denotes.same_generation in
      record {
        generation = means.generation;
        then_held =
            subst (λ (g : ℕ). Contains generations_of (id, g)) same
            (Contains-map (λ i. (i, generation_in (row_of t i))) ids id among);
        denotes = means.denotes;
      }

  pub means_open_meant : (o : Opened) (file : ℕ) → Contains ids o.nodeid → OpenDenotes nodes t h o file
      → OpenStillDenotes t h generations_of o file
  means_open_meant o file among means = record {
    node_meant = means_meant o.nodeid file among means.node_means;
    is_handle = means.is_handle;
  }
