-- The vfs' sides of the two worlds stay alike, whatever the operation.
use Rattle.std.proofs.Common.{◌≡◌, ◌≢◌, ℕ, ◌+◌, Bool, true, false, cond, not, List, Option, Some, None, refl, ap, sym, ◌∙◌, subst, inl, inr}
use Rattle.std.specs.Ordering.{eq_by_cmp}
use Rattle.std.proofs.lemmas.Bool.{cases_eq}
use Rattle.fuse_spec.specs.Values.Maps.{Map, put, place_cmp, get_name, put_name, remove_name}
use Rattle.fuse_spec.specs.Calls.Answers.{Answer}
use Rattle.fuse_spec.specs.declared.Dentry.{Dentry}
use Rattle.fuse_spec.specs.Calls.Vfs.{Vfs, answered, bound, unbound, opened_by}
use Rattle.fuse_spec.specs.Claim.Denotes.{StateAlike, DentryAlike}
use Rattle.fuse_spec.specs.Files.Operations.{OptionAlike}
use Rattle.fuse_spec.specs.Claim.Alike.{VfsAlike}
use Rattle.fuse_theorem.specs.Numbering.{IsOneToOne}
use Rattle.fuse_spec.proofs.Tables.{put_alike, gone_alike, name_put, name_put_there, name_gone, tie_alike}

cond_alike : {X Y : Type 0} (A : X → Y → Type 0) (b c : Bool) (x x' : X) (y y' : Y) → b ≡ c → A x y → A x' y'
    → A (cond b x x') (cond c y y')
cond_alike A b c x x' y y' e h k = subst (λ t. A (cond b x x') (cond t y y')) e (by b)
  where
    by : (t : Bool) → A (cond t x x') (cond t y y')
    by true = h
    by false = k

module _ {O P : Type 0} (R : ℕ → ℕ → Type 0) (S : O → P → Type 0) (one : IsOneToOne R) (c : Vfs O) (d : Vfs P)
    (same : VfsAlike R S c d) where
  pub answered_alike : (call call' : ℕ) (answer answer' : Answer) → call ≡ call' → answer ≡ answer'
      → VfsAlike R S (answered c call answer) (answered d call' answer')
  answered_alike call call' answer answer' e f = subst
      (λ (x : ℕ). VfsAlike R S (answered c call answer) (answered d x answer')) e
      (subst (λ (x : Answer). VfsAlike R S (answered c call answer) (answered d call x)) f (record {
        names = same.names;
        names_meant = same.names_meant;
        names_reached = same.names_reached;
        opens = same.opens;
        calls = gone_alike (OptionAlike (StateAlike R S)) c.calls d.calls call same.calls tt;
        answers = ap (λ (m : Map Answer). put m call answer) same.answers;
        next_call = same.next_call;
        clock = same.clock;
        roots = same.roots;
      }))

  pub opened_alike : (call : ℕ) (o : O) (p : P) → S o p → VfsAlike R S (opened_by c call o) (opened_by d call p)
  opened_alike call o p s = record {
    names = same.names;
    names_meant = same.names_meant;
    names_reached = same.names_reached;
    opens = put_alike (OptionAlike S) c.opens d.opens call o p same.opens s;
    calls = same.calls;
    answers = same.answers;
    next_call = same.next_call;
    clock = same.clock;
    roots = same.roots;
  }

  tie_same : (id file x y : ℕ) (name other : List ℕ) → R id file → R x y
      → eq_by_cmp place_cmp (id, name) (x, other) ≡ eq_by_cmp place_cmp (file, name) (y, other)
  tie_same id file x y name other r s = let both = one id x file y r s in tie_alike id x file y name other both.0 both.1

  put_names : (x y : ℕ) (name : List ℕ) (t u : Dentry) → R x y → DentryAlike R t u → (id file : ℕ) (other : List ℕ)
      → R id file
      → OptionAlike (DentryAlike R) (get_name (put_name c.names (x, name) t) (id, other))
      (get_name (put_name d.names (y, name) u) (file, other))
  put_names x y name t u r b id file other s =
      subst (λ (v : Option Dentry). OptionAlike (DentryAlike R) v
      (get_name (put_name d.names (y, name) u) (file, other))) (sym (name_put c.names (x, name) t (id, other)))
      (subst (λ (v : Option Dentry). OptionAlike (DentryAlike R)
      (cond (eq_by_cmp place_cmp (id, other) (x, name)) (Some t) (get_name c.names (id, other))) v)
      (sym (name_put d.names (y, name) u (file, other)))
      (cond_alike (OptionAlike (DentryAlike R)) (eq_by_cmp place_cmp (id, other) (x, name))
      (eq_by_cmp place_cmp (file, other) (y, name)) (Some t) (get_name c.names (id, other)) (Some u)
      (get_name d.names (file, other))
      (tie_same id file x y other name s r) b (same.names id file other s)))

  gone_names : (x y : ℕ) (name : List ℕ) → R x y → (id file : ℕ) (other : List ℕ) → R id file
      → OptionAlike (DentryAlike R) (get_name (remove_name c.names (x, name)) (id, other))
      (get_name (remove_name d.names (y, name)) (file, other))
  gone_names x y name r id file other s =
      subst (λ (v : Option Dentry). OptionAlike (DentryAlike R) v
      (get_name (remove_name d.names (y, name)) (file, other))) (sym (name_gone c.names (x, name) (id, other)))
      (subst (λ (v : Option Dentry). OptionAlike (DentryAlike R)
      (cond (not (eq_by_cmp place_cmp (x, name) (id, other))) (get_name c.names (id, other)) None) v)
      (sym (name_gone d.names (y, name) (file, other)))
      (cond_alike (OptionAlike (DentryAlike R)) (not (eq_by_cmp place_cmp (x, name) (id, other)))
      (not (eq_by_cmp place_cmp (y, name) (file, other))) (get_name c.names (id, other)) None
      (get_name d.names (file, other)) None
      (ap not (tie_same x y id file name other r s)) (same.names id file other s) tt))

  still_there : {X : Type 0} (b : Bool) (o : Option X) → cond b o None ≢ None → o ≢ None
  still_there true o h = h
  still_there false o h = absurd (h refl)

  same_bound : (x y : ℕ) (name : List ℕ) (t u : Option ℕ) (v : ℕ) → R x y → OptionAlike R t u
      → VfsAlike R S (bound c x name t v) (bound d y name u v)
  same_bound x y name t u v r h = record {
    names = put_names x y name (record { target = t; until = c.clock + v })
        (record { target = u; until = d.clock + v }) r (h, ap (λ (n : ℕ). n + v) same.clock);
    names_meant = λ id other there. elim (cases_eq id x) [
      | inl e ↦ (y, subst (λ (z : ℕ). R z y) (sym e) r)
      | inr ne ↦ same.names_meant id other (λ none. there
          (name_put_there c.names x id name other (record { target = t; until = c.clock + v }) ne ∙ none))
    ];
    names_reached = λ file other there. elim (cases_eq file y) [
      | inl e ↦ (x, subst (λ (z : ℕ). R x z) (sym e) r)
      | inr ne ↦ same.names_reached file other (λ none. there
          (name_put_there d.names y file name other (record { target = u; until = d.clock + v }) ne ∙ none))
    ];
    opens = same.opens;
    calls = same.calls;
    answers = same.answers;
    next_call = same.next_call;
    clock = same.clock;
    roots = same.roots;
  }

  pub bound_alike : (x y : ℕ) (name name' : List ℕ) (t u : Option ℕ) (v v' : ℕ) → R x y → name ≡ name'
      → OptionAlike R t u → v ≡ v' → VfsAlike R S (bound c x name t v) (bound d y name' u v')
  bound_alike x y name name' t u v v' r e h f =
      subst (λ (n : List ℕ). VfsAlike R S (bound c x name t v) (bound d y n u v')) e
      (subst (λ (n : ℕ). VfsAlike R S (bound c x name t v) (bound d y name u n)) f (same_bound x y name t u v r h))

  same_unbound : (x y : ℕ) (name : List ℕ) → R x y → VfsAlike R S (unbound c x name) (unbound d y name)
  same_unbound x y name r = record {
    names = gone_names x y name r;
    names_meant = λ id other there. same.names_meant id other
        (still_there (not (eq_by_cmp place_cmp (x, name) (id, other))) (get_name c.names (id, other))
        (λ none. there (name_gone c.names (x, name) (id, other) ∙ none)));
    names_reached = λ file other there. same.names_reached file other
        (still_there (not (eq_by_cmp place_cmp (y, name) (file, other))) (get_name d.names (file, other))
        (λ none. there (name_gone d.names (y, name) (file, other) ∙ none)));
    opens = same.opens;
    calls = same.calls;
    answers = same.answers;
    next_call = same.next_call;
    clock = same.clock;
    roots = same.roots;
  }

  pub unbound_alike : (x y : ℕ) (name name' : List ℕ) → R x y → name ≡ name'
      → VfsAlike R S (unbound c x name) (unbound d y name')
  unbound_alike x y name name' r e = subst (λ (n : List ℕ). VfsAlike R S (unbound c x name) (unbound d y n)) e
      (same_unbound x y name r)
