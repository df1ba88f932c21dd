-- A step of a call leads from known nodes to known nodes.
use Rattle.std.proofs.Common.{◌≡◌, ℕ, ◌+◌, Bool, true, false, not, cond, List, [], ◌∷◌, Option, Some, None, refl, ap, sym, subst, ◌∙◌, inl, inr, All}
use Rattle.std.specs.Prelude.{nat_lt, ◌++◌, option_to_list, unwrap_or}
use Rattle.std.specs.Ordering.{eq_by_cmp}
use Rattle.std.proofs.lemmas.Bool.{cases_eq}
use Rattle.std.proofs.lemmas.List.Elements.{All-nil, All-cons, All-head, All-tail}
use Rattle.fuse_spec.specs.declared.Dentry.{Dentry}
use Rattle.fuse_spec.specs.declared.Counted.{Counted}
use Rattle.fuse_spec.specs.declared.Opened.{Opened}
use Rattle.fuse_spec.specs.Calls.Answers.{Answer}
use Rattle.fuse_spec.specs.Values.Maps.{Map, place_cmp, get_name}
use Rattle.fuse_spec.specs.Files.Operations.{files_in, lookup, getattr, mkdir, create, unlink, rmdir, opening, readdir, readdirplus, read, write}
use Rattle.fuse_spec.specs.Files.Operations as op
use Rattle.fuse_spec.specs.Calls.Paths.{Name}
use Rattle.fuse_spec.specs.Calls.Walks.{FinalOperation, WalkPlan, last, rename, link, operation_at, WalkStop, unknown, missing, arrived, go, Walked, looks_up, finds_none, asks, after_last, after_stop, walk, files_of_plan}
use Rattle.fuse_spec.specs.Calls.Vfs.{CallState, walking, doing, Vfs, answered, asking, bound, unbound, opened_by, valid_at, look, after_walk, walks_on}
use Rattle.fuse_spec.specs.Files.Operations.{opened_nodes}
use Rattle.fuse_spec.specs.Kernel.Kernel.{nodes_of_state}
use Rattle.fuse_spec.proofs.Tables.{name_put, name_gone, name_put_there}
use Rattle.fuse_theorem.specs.KnownNodes.{IsKnown, VfsKnown}
use Rattle.fuse_theorem.proofs.Lists.Values.{All-put, All-gone}

abbrev pub StateKnown : Map Counted → CallState Opened → Type 0
StateKnown nodes state = All (IsKnown nodes) (nodes_of_state state)

abbrev pub OpenKnown : Map Counted → Opened → Type 0
OpenKnown nodes o = IsKnown nodes o.nodeid

module _ (nodes : Map Counted) where
  abbrev K : ℕ → Type 0
  K id = IsKnown nodes id

  one : (id : ℕ) → K id → All (IsKnown nodes) (id ∷ [])
  one id h = All-cons (IsKnown nodes) id [] h (All-nil (IsKnown nodes))

  two : (a b : ℕ) → K a → K b → All (IsKnown nodes) (a ∷ b ∷ [])
  two a b h g = All-cons (IsKnown nodes) a (b ∷ []) h (one b g)

  only : (id : ℕ) (ids : List ℕ) → All (IsKnown nodes) (id ∷ ids) → K id
  only id ids h = All-head (IsKnown nodes) id ids h

  -- ---- walks

  abbrev StopKnown : WalkStop ℕ → Type 0
  StopKnown (unknown d word words) = IsKnown nodes d
  StopKnown missing = Unit {0}
  StopKnown (arrived file) = IsKnown nodes file

  abbrev WalkedKnown : Walked ℕ Opened → Type 0
  WalkedKnown (looks_up d word words plan) = IsKnown nodes d × All (IsKnown nodes) (files_of_plan plan)
  WalkedKnown finds_none = Unit {0}
  WalkedKnown (asks operation) = All (IsKnown nodes) (files_in opened_nodes operation)

  stops_known : (seen : ℕ → Name → Option (Option ℕ))
      → ((d : ℕ) (name : Name) (file : ℕ) → seen d name ≡ Some (Some file) → K file) → (words : List Name) (at : ℕ)
      → K at → StopKnown (go seen at words)
  stops_known seen leads [] at h = h
  stops_known seen leads (word ∷ words) at h = by (seen at word) refl (λ file g. stops_known seen leads words file g)
    where
      by : (o : Option (Option ℕ)) → seen at word ≡ o → ((file : ℕ) → K file → StopKnown (go seen file words))
          → StopKnown (elim o as (λ x. WalkStop ℕ) [
            | None ↦ unknown at word words
            | Some found ↦ elim found as
                (λ x. WalkStop ℕ) [ None ↦ missing | Some file ↦ go seen file words ]
          ])
      by None e rest = h
      by (Some None) e rest = tt
      by (Some (Some file)) e rest = rest file (leads at word file e)

  -- the nodes that the operation at the end of a walk names
  named_known : (named : Option ℕ) (others : List ℕ) (file : ℕ) → All (IsKnown nodes) (option_to_list named ++ others)
      → K file → K (unwrap_or named file)
  named_known None others file h g = g
  named_known (Some id) others file h g = only id others h

  others_known : (named : Option ℕ) (others : List ℕ) → All (IsKnown nodes) (option_to_list named ++ others)
      → All (IsKnown nodes) others
  others_known None others h = h
  others_known (Some id) others h = All-tail (IsKnown nodes) id others h

  final_known : (final : FinalOperation ℕ) (file : ℕ) → All (IsKnown nodes) (files_of_plan (last final)) → K file
      → All (IsKnown nodes) (files_in opened_nodes (operation_at {O = Opened} final file))
  final_known (lookup d name) file h g = one (unwrap_or d file) (named_known d [] file h g)
  final_known (getattr x) file h g = one (unwrap_or x file) (named_known x [] file h g)
  final_known (mkdir d name) file h g = one (unwrap_or d file) (named_known d [] file h g)
  final_known (create d name) file h g = one (unwrap_or d file) (named_known d [] file h g)
  final_known (unlink d name) file h g = one (unwrap_or d file) (named_known d [] file h g)
  final_known (rmdir d name) file h g = one (unwrap_or d file) (named_known d [] file h g)
  final_known (op.rename d old e new) file h g =
      two (unwrap_or d file) (unwrap_or e file) (named_known d (option_to_list e ++ []) file h g)
      (named_known e [] file (others_known d (option_to_list e ++ []) h) g)
  final_known (op.link x d name) file h g =
      two (unwrap_or d file) (unwrap_or x file) (named_known d (option_to_list x ++ []) file h g)
      (named_known x [] file (others_known d (option_to_list x ++ []) h) g)
  final_known (opening x) file h g = one (unwrap_or x file) (named_known x [] file h g)
  final_known (readdir d after size) file h g = one (unwrap_or d file) (named_known d [] file h g)
  final_known (readdirplus d after size) file h g = one (unwrap_or d file) (named_known d [] file h g)
  final_known (read o offset size) file h g = elim o [ ]
  final_known (write o offset bytes) file h g = elim o [ ]

  last_known : (final : FinalOperation ℕ) (stop : WalkStop ℕ) → All (IsKnown nodes) (files_of_plan (last final))
      → StopKnown stop → WalkedKnown (after_last final stop)
  last_known final (unknown at word words) h g = (g, h)
  last_known final missing h g = tt
  last_known final (arrived file) h g = final_known final file h g

  walk_known : (seen : ℕ → Name → Option (Option ℕ))
      → ((d : ℕ) (name : Name) (file : ℕ) → seen d name ≡ Some (Some file) → K file) → (root at : ℕ) → K root → K at
      → (words : List Name) (plan : WalkPlan ℕ) → All (IsKnown nodes) (files_of_plan plan)
      → WalkedKnown (walk seen root at words plan)
  walk_known seen leads root at top h words plan names =
      by plan (go seen at words) names (stops_known seen leads words at h)
    where
      by : (plan : WalkPlan ℕ) (stop : WalkStop ℕ) → All (IsKnown nodes) (files_of_plan plan) → StopKnown stop
          → WalkedKnown (after_stop seen root plan stop)
      by (last final) (unknown d word more) named g = (g, named)
      by (rename old more new) (unknown d word others) named g = (g, named)
      by (link more name) (unknown d word others) named g = (g, named)
      by (last final) missing named g = tt
      by (rename old more new) missing named g = tt
      by (link more name) missing named g = tt
      by (last final) (arrived file) named g = final_known final file named g
      by (rename old more new) (arrived file) named g =
          last_known (op.rename (Some file) old None new) (go seen root more) (one file g) (stops_known seen leads more root top)
      by (link more name) (arrived file) named g = last_known (op.link (Some file) None name) (go seen root more) (one file g)
          (stops_known seen leads more root top)

  -- ---- the system calls' side

  pub answered_known : (c : Vfs Opened) → VfsKnown nodes c → (call : ℕ) (a : Answer)
      → VfsKnown nodes (answered c call a)
  answered_known c old call a = record {
    root = old.root;
    names = old.names;
    calls = All-gone (StateKnown nodes) c.calls call old.calls;
    opens = old.opens;
  }

  pub asking_known : (c : Vfs Opened) → VfsKnown nodes c → (call : ℕ) (state : CallState Opened)
      → All (IsKnown nodes) (nodes_of_state state) → VfsKnown nodes (asking c call state).vfs
  asking_known c old call state new = record {
    root = old.root;
    names = old.names;
    calls = All-put (StateKnown nodes) c.calls call state old.calls new;
    opens = old.opens;
  }

  pub opened_known : (c : Vfs Opened) → VfsKnown nodes c → (call : ℕ) (o : Opened) → K o.nodeid
      → VfsKnown nodes (opened_by c call o)
  opened_known c old call o new = record {
    root = old.root;
    names = old.names;
    calls = old.calls;
    opens = All-put (OpenKnown nodes) c.opens call o old.opens new;
  }

  pub bound_known : (c : Vfs Opened) → VfsKnown nodes c → (d : ℕ) (name : Name) (target : Option ℕ) (valid : ℕ) → K d
      → ((file : ℕ) → target ≡ Some file → K file) → VfsKnown nodes (bound c d name target valid)
  bound_known c old d name target valid from to = record {
    root = old.root;
    names = record {
      directories = λ id other b at. elim (cases_eq id d) [
        | inl e ↦ subst (λ (n : ℕ). K n) (sym e) from
        | inr ne ↦ old.names.directories id other b (sym (name_put_there c.names d id name other new ne) ∙ at)
      ];
      targets = λ id other b at. which id other b (eq_by_cmp place_cmp (id, other) (d, name))
          (sym (name_put c.names (d, name) new (id, other)) ∙ at);
    };
    calls = old.calls;
    opens = old.opens;
  }
    where
      new : Dentry
      new = record { target = target; until = c.clock + valid }

      which : (id : ℕ) (other : List ℕ) (b : Dentry) (tie : Bool)
          → cond tie (Some (record { target = target; until = c.clock + valid })) (get_name c.names (id, other))
          ≡ Some b → (file : ℕ) → b.target ≡ Some file → K file
      which id other b true at file is = let same : record { target = target; until = c.clock + valid } ≡ b =
          cc in to file (ap (λ (x : Dentry). x.target) same ∙ is)
      which id other b false at file is = old.names.targets id other b at file is

  pub unbound_known : (c : Vfs Opened) → VfsKnown nodes c → (d : ℕ) (name : Name) → VfsKnown nodes (unbound c d name)
  unbound_known c old d name = record {
    root = old.root;
    names = record {
      directories = λ id other b at. old.names.directories id other b
          (was id other b (not (eq_by_cmp place_cmp (d, name) (id, other)))
          (sym (name_gone c.names (d, name) (id, other)) ∙ at));
      targets = λ id other b at. old.names.targets id other b
          (was id other b (not (eq_by_cmp place_cmp (d, name) (id, other)))
          (sym (name_gone c.names (d, name) (id, other)) ∙ at));
    };
    calls = old.calls;
    opens = old.opens;
  }
    where
      was : (id : ℕ) (other : List ℕ) (b : Dentry) (left : Bool)
          → cond left (get_name c.names (id, other)) None ≡ Some b → get_name c.names (id, other) ≡ Some b
      was id other b true at = at
      was id other b false at = absurd (cc)

  -- what a valid name leads to
  look_known : (c : Vfs Opened) → VfsKnown nodes c → (d : ℕ) (name : Name) (file : ℕ)
      → look c d name ≡ Some (Some file) → K file
  look_known c old d name file e = by (get_name c.names (d, name)) refl e
    where
      valid : (b : Dentry) → get_name c.names (d, name) ≡ Some b → (t : Bool)
          → cond t (Some b.target) None ≡ Some (Some file) → K file
      valid b at true f = let is : b.target ≡ Some file = cc in old.names.targets d name b at file is
      valid b at false f = absurd (cc)

      by : (o : Option Dentry) → get_name c.names (d, name) ≡ o → valid_at c.clock o ≡ Some (Some file) → K file
      by None at f = absurd (cc)
      by (Some b) at f = valid b at (nat_lt c.clock b.until) f

  walked_known : (c : Vfs Opened) → VfsKnown nodes c → (call : ℕ) (went : Walked ℕ Opened) → WalkedKnown went
      → VfsKnown nodes (after_walk c call went).vfs
  walked_known c old call (looks_up d word words plan) h =
      asking_known c old call (walking d word words plan) (All-cons (IsKnown nodes) d (files_of_plan plan) h.0 h.1)
  walked_known c old call finds_none h = answered_known c old call _
  walked_known c old call (asks operation) h = asking_known c old call (doing operation) h

  pub walks_on_known : (c : Vfs Opened) → VfsKnown nodes c → (call file : ℕ) → K file
      → (words : List Name) (plan : WalkPlan ℕ) → All (IsKnown nodes) (files_of_plan plan)
      → VfsKnown nodes (walks_on c call file words plan).vfs
  walks_on_known c old call file h words plan named =
      walked_known c old call (walk (look c) c.root file words plan)
      (walk_known (look c) (look_known c old) c.root file old.root h words plan named)
