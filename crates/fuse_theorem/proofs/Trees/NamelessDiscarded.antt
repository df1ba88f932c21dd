-- Nameless files that nothing holds leave the server's tree. The plain tree keeps them, and the two stay alike.
use Rattle.std.proofs.Common.{◌≡◌, ℕ, Bool, true, false, true≢false, not, ◌||◌, cond, List, [], ◌∷◌, Option, Some, None, nat_eq, filter, count_by, refl, ap, sym, ◌∙◌}
use Rattle.std.specs.List.{list_any}
use Rattle.std.specs.declared.cmp.Ordering.{Ordering}
use Rattle.std.specs.declared.cmp.Ordering.TheVariants.{Less, Equal, Greater}
use Rattle.std.specs.Ordering.{nat_cmp, is_eq}
use Rattle.std.specs.FinMap.{nat_cmp-IsAntisymmetric}
use Rattle.std.specs.FinMap.Entries.{by_order, find-where_key}
use Rattle.fuse_spec.specs.Values.Maps.{Map, get, put, values}
use Rattle.fuse_spec.specs.Files.Trees.{Tree, Content, Named, is_nameless}
use Rattle.fuse_spec.specs.Server.Server.{Server, is_file_held, without_unheld_files}
use Rattle.fuse_spec.specs.Claim.Alike.{TreeAlike}

-- a look-up among the entries whose keys pass a test
pub get_kept : {X : Type 0} (q : ℕ → Bool) (m : Map X) (k : ℕ)
    → get (filter (λ e. q e.0) m) k ≡ cond (q k) (get m k) None
get_kept q m k = find-where_key nat_cmp q k (λ x t. ap q (sym (nat_cmp-IsAntisymmetric k x t))) m

cond_twice : {X : Type 0} (named after before : Bool) (o : Option X) → (after ≡ true → before ≡ true)
    → cond (named || after) (cond (named || before) o None) None ≡ cond (named || after) o None
cond_twice true after before o f = refl
cond_twice false false before o f = refl
cond_twice false true true o f = refl
cond_twice false true false o f = absurd (true≢false (sym (f refl)))

-- The server without the files that nothing holds any more, where nothing holds more files than before.
pub discarded_unheld_alike : (s : Server) (tree : Tree) (before : ℕ → Bool) → s.tree.names ≡ tree.names
    → s.tree.next_inode ≡ tree.next_inode → s.tree.next_cookie ≡ tree.next_cookie
    → ((file : ℕ) → get s.tree.files file ≡ cond (not (is_nameless tree file) || before file)
    (get tree.files file) None) → ((file : ℕ) → is_file_held s file ≡ true → before file ≡ true)
    → TreeAlike (without_unheld_files s) tree
discarded_unheld_alike s tree before names inodes cookies files fewer = record {
  names = names;
  next_inode = inodes;
  next_cookie = cookies;
  files = λ file.
      let same_name : is_nameless s.tree file ≡ is_nameless tree file =
      ap (λ (ns : List Named). nat_eq (cond (nat_eq file 0) 1
      (count_by (λ (n : Named). nat_eq n.file file) ns)) 0) names in
      get_kept (λ f. not (is_nameless s.tree f) || is_file_held s f) s.tree.files file
      ∙ ap (λ (b : Bool). cond (not b || is_file_held s file) (get s.tree.files file) None) same_name ∙ ap
      (λ (o : Option Content). cond (not (is_nameless tree file) || is_file_held s file) o None) (files file)
      ∙ cond_twice (not (is_nameless tree file)) (is_file_held s file) (before file) (get tree.files file) (fewer file);
}

-- what is found at a key is a value
pub found_any : {X : Type 0} (test : X → Bool) (m : Map X) (k : ℕ) (x : X) → get m k ≡ Some x → test x ≡ true
    → list_any test (values m) ≡ true
found_any test [] k x at holds = absurd (cc)
found_any test (e ∷ m) k x at holds = by (is_eq (nat_cmp k e.0)) at (λ f. found_any test m k x f holds)
  where
    later : (b : Bool) → list_any test (values m) ≡ true → (b || list_any test (values m)) ≡ true
    later true h = refl
    later false h = h

    first : (b : Bool) → b ≡ true → (b || list_any test (values m)) ≡ true
    first true h = refl
    first false h = absurd (true≢false (sym h))

    by : (b : Bool) → cond b (Some e.1) (get m k) ≡ Some x → (get m k ≡ Some x → list_any test (values m) ≡ true)
        → (test e.1 || list_any test (values m)) ≡ true
    by true f rest = let same : e.1 ≡ x = cc in first (test e.1) (ap test same ∙ holds)
    by false f rest = later (test e.1) (rest f)

-- what a test says of some value of a map, after another value that it says the same of stands at a key
pub any_put : {X : Type 0} (test : X → Bool) (m : Map X) (k : ℕ) (old new : X) → get m k ≡ Some old
    → test new ≡ test old → list_any test (values (put m k new)) ≡ list_any test (values m)
any_put test [] k old new there same = absurd (cc)
any_put test (e ∷ m) k old new there same = by (nat_cmp k e.0) refl (any_put test m k old new)
  where
    absorbed : (b c : Bool) → (b ≡ true → c ≡ true) → (b || c) ≡ c
    absorbed true c f = sym (f refl)
    absorbed false c f = refl

    by : (r : Ordering) → nat_cmp k e.0 ≡ r → (get m k ≡ Some old → test new ≡ test old
        → list_any test (values (put m k new)) ≡ list_any test (values m))
        → list_any test (values (by_order r ((k, new) ∷ e ∷ m) ((e.0, new) ∷ m) (e ∷ put m k new)))
        ≡ list_any test (values (e ∷ m))
    by Less r rest = absorbed (test new) (list_any test (values (e ∷ m)))
        (λ h. found_any test (e ∷ m) k old there (sym same ∙ h))
    by Equal r rest =
        let here : Some e.1 ≡ Some old = ap (λ (o : Ordering). cond (is_eq o) (Some e.1) (get m k)) (sym r) ∙ there in
        let is : e.1 ≡ old = cc in
        ap (λ (b : Bool). b || list_any test (values m)) (same ∙ ap test (sym is))
    by Greater r rest = ap (λ (b : Bool). test e.1 || b)
        (rest (ap (λ (o : Ordering). cond (is_eq o) (Some e.1) (get m k)) (sym r) ∙ there) same)
