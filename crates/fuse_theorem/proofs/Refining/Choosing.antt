-- There are always free nodeids to choose from.
use Rattle.fuse_theorem.proofs.Nodes.NodesSound.{put_found}
use Rattle.std.proofs.lemmas.Bool.{cases_eq}
use Rattle.std.proofs.Common.{◌≡◌, ◌≢◌, ◌⊎◌, ◌≤◌, ℕ, ◌+◌, Bool, true, false, true≢false, cond, ◌||◌, List, [], ◌∷◌, Option, Some, None, nat_eq, map, refl, sym, subst, inl, inr, arith, ap, ◌∙◌}
use Rattle.std.specs.List.{list_any}
use Rattle.std.specs.Prelude.{MatchOption}
use Rattle.std.proofs.lemmas.Bool.Decides.{nat_tests}
use Rattle.fuse_spec.specs.Values.Maps.{Map, get}
use Rattle.fuse_spec.specs.Kernel.Messages.{RequestBody, init, asks, release, forget, batch_forget, interrupt}
use Rattle.fuse_spec.specs.Server.Nodes.{NodeTable, HeldNode, IsUnheld, MayName, MayChoose, given, given_row}
use Rattle.fuse_spec.specs.Files.Operations.{Reply, found, missing, created, opened, attributes, listed, listed_plus, content, written, agreed, done, failed, files_in_reply, files_listed}
use Rattle.fuse_spec.specs.Files.FileOperations.{reply_by}
use Rattle.fuse_spec.specs.Server.Performs.{files_by, is_open_for, file_operation_of}
use Rattle.fuse_spec.specs.Server.Server.{Server, HeldRequest}
use Rattle.fuse_spec.specs.World.Worlds.{World}
use Rattle.fuse_spec.specs.declared.Refusal.{Refusal}
use Rattle.fuse_spec.specs.World.Events.{Event, Outcome}
use Rattle.fuse_spec.specs.World.Events as event
use Rattle.fuse_spec.specs.World.Steps.{MayChooseFor, MayStep, IsRefused, Happens}
use Rattle.fuse_spec.proofs.Tables.{tie_no, get_put_here, get_put_there}

-- ---- keys

abbrev keys : {X : Type 0} → Map X → List ℕ
keys m = map (λ e. e.0) m

-- a number passes the test, or none that stands in the list does
search : (test : ℕ → Bool) (ks : List ℕ) → ((k : ℕ) × (test k ≡ true))
    ⊎ ((k : ℕ) → list_any (nat_eq k) ks ≡ true → test k ≡ false)
search test [] = inr (λ k h. absurd (true≢false (sym h)))
search test (x ∷ ks) = by (test x) refl (search test ks)
  where
    by : (b : Bool) → test x ≡ b → ((k : ℕ) × (test k ≡ true))
        ⊎ ((k : ℕ) → list_any (nat_eq k) ks ≡ true → test k ≡ false)
        → ((k : ℕ) × (test k ≡ true)) ⊎ ((k : ℕ) → list_any (nat_eq k) (x ∷ ks) ≡ true → test k ≡ false)
    by true e rest = inl (x, e)
    by false e (inl some) = inl some
    by false e (inr none) = inr (λ k h. one k (nat_eq k x) refl h)
      where
        one : (k : ℕ) (c : Bool) → nat_eq k x ≡ c → (c || list_any (nat_eq k) ks) ≡ true → test k ≡ false
        one k true same h = subst (λ (y : ℕ). test y ≡ false) (grind (arith, nat_tests, same)) e
        one k false other h = none k h

abbrev total : List ℕ → ℕ
total [] = 0
total (x ∷ ks) = x + total ks

-- what stands in the list is no more than its sum
no_more : (k : ℕ) (ks : List ℕ) → list_any (nat_eq k) ks ≡ true → k ≤ total ks
no_more k [] h = absurd (true≢false (sym h))
no_more k (x ∷ ks) h = by (nat_eq k x) refl h (no_more k ks)
  where
    by : (c : Bool) → nat_eq k x ≡ c → (c || list_any (nat_eq k) ks) ≡ true
        → (list_any (nat_eq k) ks ≡ true → k ≤ total ks) → k ≤ x + total ks
    by true same h rest = grind (arith, nat_tests, same)
    by false other h rest = let low = rest h in omega (arith, low)

-- what is found at a key has that key in the list
has_key : {X : Type 0} (m : Map X) (k : ℕ) (x : X) → get m k ≡ Some x → list_any (nat_eq k) (keys m) ≡ true
has_key [] k x at = absurd (cc)
has_key (e ∷ m) k x at = by (nat_eq k e.0) refl (λ f. has_key m k x f)
  where
    by : (c : Bool) → nat_eq k e.0 ≡ c → (get m k ≡ Some x → list_any (nat_eq k) (keys m) ≡ true)
        → (c || list_any (nat_eq k) (keys m)) ≡ true
    by true same rest = refl
    by false other rest =
        let apart : k ≢ e.0 = λ same. grind (arith, nat_tests, other, same) in
        rest (subst (λ (b : Bool). cond b (Some e.1) (get m k) ≡ Some x) (tie_no k e.0 apart) at)

-- ---- a nodeid for a file

abbrev has_file : ℕ → Option HeldNode → Bool
has_file file None = false
has_file file (Some row) = nat_eq row.file file

-- a nodeid that is in no row
abbrev fresh : NodeTable → ℕ
fresh t = 2 + total (keys t.rows)

-- .. that names it already, or that is new, and another for each file
may_name : (t : NodeTable) (file : ℕ) → (id : ℕ) × MayName t file id × (get t.rows id ≡ None → id ≡ fresh t + file)
may_name t file = by (search (λ id. has_file file (get t.rows id)) (keys t.rows))
  where
    named : (id : ℕ) (o : Option HeldNode) → has_file file o ≡ true
        → MatchOption o ((2 ≤ id) × IsUnheld t file) (λ row. row.file ≡ file)
    named id None h = absurd (true≢false (sym h))
    named id (Some row) h = grind (arith, nat_tests, h)

    unheld : ((k : ℕ) → list_any (nat_eq k) (keys t.rows) ≡ true → has_file file (get t.rows k) ≡ false)
        → IsUnheld t file
    unheld none id row at is =
        let off : has_file file (Some row) ≡ false = subst (λ (o : Option HeldNode). has_file file o ≡ false) at
        (none id (has_key t.rows id row at)) in
        grind (arith, nat_tests, off, is)

    free : IsUnheld t file → (o : Option HeldNode) → get t.rows (fresh t + file) ≡ o
        → MatchOption o ((2 ≤ fresh t + file) × IsUnheld t file) (λ row. row.file ≡ file)
    free none None is = (omega (arith), none)
    free none (Some row) is = let low = no_more (fresh t + file) (keys t.rows)
        (has_key t.rows (fresh t + file) row is) in absurd (omega (arith, low))

    by : ((k : ℕ) × (has_file file (get t.rows k) ≡ true))
        ⊎ ((k : ℕ) → list_any (nat_eq k) (keys t.rows) ≡ true → has_file file (get t.rows k) ≡ false)
        → (id : ℕ) × MayName t file id × (get t.rows id ≡ None → id ≡ fresh t + file)
    by (inl some) = (
      some.0,
      named some.0 (get t.rows some.0) some.1,
      λ none. absurd (true≢false (sym some.1 ∙ ap (has_file file) none)),
    )
    by (inr none) = (fresh t + file, free (unheld none) (get t.rows (fresh t + file)) refl, λ e. refl)

-- ---- what a request gives nodes to

abbrev CanChoose : NodeTable → List ℕ → Type 0
CanChoose t files = (choice : ℕ → ℕ) × MayChoose choice t files

for_none : (t : NodeTable) → CanChoose t []
for_none t = (λ x. 0, tt)

-- One id for each file, and no id for two.
module _ (choice : ℕ → ℕ) (apart : (x y : ℕ) → choice x ≡ choice y → x ≡ y) where
  still_may : (t : NodeTable) (f : ℕ) → ((x : ℕ) → MayName t x (choice x)) → (x : ℕ)
      → MayName (given t f (choice f)) x (choice x)
  still_may t f may x = elim (cases_eq x f) [
    | inl same ↦ subst (λ (n : ℕ). MayName (given t f (choice f)) n (choice n)) (sym same)
        (rw (get_put_here t.rows (choice f) (given_row t f (get t.rows (choice f))))
        (is_its (get t.rows (choice f)) (may f)))
    | inr other ↦ rw (get_put_there t.rows (choice f) (given_row t f (get t.rows (choice f))) (choice x)
        (λ e. other (apart x f e))) (kept other (get t.rows (choice x)) (may x))
  ]
    where
      is_its : (o : Option HeldNode) → MatchOption o ((2 ≤ choice f) × IsUnheld t f) (λ row. row.file ≡ f)
          → (given_row t f o).file ≡ f
      is_its None m = refl
      is_its (Some row) m = m

      kept : x ≢ f → (o : Option HeldNode) → MatchOption o ((2 ≤ choice x) × IsUnheld t x) (λ row. row.file ≡ x)
          → MatchOption o ((2 ≤ choice x) × IsUnheld (given t f (choice f)) x) (λ row. row.file ≡ x)
      kept other (Some row) m = m
      kept other None m = (
        m.0,
        λ id row at is. elim (put_found t.rows (choice f) (given_row t f (get t.rows (choice f))) id row at) [
          | inl h ↦ other (sym (sym (is_its (get t.rows (choice f)) (may f)) ∙ ap (λ (r : HeldNode). r.file) h.1 ∙ is))
          | inr h ↦ m.1 id row h is
        ],
      )

  all_may : (files : List ℕ) (t : NodeTable) → ((x : ℕ) → MayName t x (choice x)) → MayChoose choice t files
  all_may [] t may = tt
  all_may (f ∷ files) t may = (may f, all_may files (given t f (choice f)) (still_may t f may))

for_all : (files : List ℕ) (t : NodeTable) → CanChoose t files
for_all files t = (choice, all_may choice apart files t (λ x. (may_name t x).1))
  where
    choice : ℕ → ℕ
    choice x = (may_name t x).0

    -- what stands under two files' ids
    apart_by : (x y i : ℕ) (o : Option HeldNode) → get t.rows i ≡ o
        → MatchOption o ((2 ≤ i) × IsUnheld t x) (λ row. row.file ≡ x)
        → MatchOption o ((2 ≤ i) × IsUnheld t y) (λ row. row.file ≡ y)
        → (get t.rows i ≡ None → i ≡ fresh t + x) → (get t.rows i ≡ None → i ≡ fresh t + y) → x ≡ y
    apart_by x y i None at m n f g = let a = f at in let b = g at in omega (arith, a, b)
    apart_by x y i (Some row) at m n f g = sym m ∙ n

    apart : (x y : ℕ) → choice x ≡ choice y → x ≡ y
    apart x y e =
        let of_y = subst (λ (i : ℕ). MayName t y i × (get t.rows i ≡ None → i ≡ fresh t + y)) (sym e)
        ((may_name t y).1, (may_name t y).2) in
        apart_by x y (choice x) (get t.rows (choice x)) refl (may_name t x).1 of_y.0 (may_name t x).2 of_y.1

for_one : (t : NodeTable) (file : ℕ) → CanChoose t (file ∷ [])
for_one t file = for_all (file ∷ []) t

for_reply : {O : Type 0} (t : NodeTable) (reply : Reply ℕ O) → CanChoose t (files_in_reply reply)
for_reply t (found x valid) = for_one t x
for_reply t (created x valid o) = for_one t x
for_reply t (missing valid) = for_none t
for_reply t (opened o) = for_none t
for_reply t (attributes a) = for_none t
for_reply t (listed records) = for_none t
for_reply t (listed_plus pairs) = for_all (files_listed pairs) t
for_reply t (content bytes) = for_none t
for_reply t (written size) = for_none t
for_reply t (agreed major minor flags) = for_none t
for_reply t done = for_none t
for_reply t (failed errno) = for_none t

either : (t : NodeTable) (b : Bool) (xs ys : List ℕ) → CanChoose t xs → CanChoose t ys → CanChoose t (cond b xs ys)
either t true xs ys a b = a
either t false xs ys a b = b

for_body : (s : Server) (body : RequestBody) → CanChoose s.nodes (files_by s body)
for_body s (asks operation) =
    let reply = reply_by s.validity s.tree (file_operation_of s.nodes operation) in
    either s.nodes (is_open_for s operation) (files_in_reply reply) [] (for_reply s.nodes reply) (for_none s.nodes)
for_body s (init flags) = for_none s.nodes
for_body s (release o) = for_none s.nodes
for_body s (forget f) = for_none s.nodes
for_body s (batch_forget fs) = for_none s.nodes
for_body s (interrupt original) = for_none s.nodes

for_held : (w : World) (o : Option HeldRequest) → (choice : ℕ → ℕ) × MayChooseFor choice w o
for_held w None = (λ x. 0, tt)
for_held w (Some t) = either w.server.nodes _ [] (files_by w.server t.body) (for_none w.server.nodes)
    (for_body w.server t.body)

-- Whatever the event, the server has ids to choose.
pub some_choice : (w : World) (e : Event) → (choice : ℕ → ℕ) × MayStep choice w e
some_choice w (event.perform unique) = for_held w _
some_choice w (event.mount f m v) = (λ x. 0, tt)
some_choice w (event.call c) = (λ x. 0, tt)
some_choice w event.read_interrupt = (λ x. 0, tt)
some_choice w (event.read_forgets n) = (λ x. 0, tt)
some_choice w (event.read_pending k) = (λ x. 0, tt)
some_choice w (event.take k) = (λ x. 0, tt)
some_choice w (event.again u) = (λ x. 0, tt)
some_choice w (event.write k) = (λ x. 0, tt)
some_choice w (event.settle k) = (λ x. 0, tt)
some_choice w (event.intr c fatal) = (λ x. 0, tt)
some_choice w (event.tick ms) = (λ x. 0, tt)
some_choice w (event.drop_name d name) = (λ x. 0, tt)
some_choice w (event.evict node) = (λ x. 0, tt)
some_choice w event.abort = (λ x. 0, tt)

-- So what is refused for any choice has one refusal.
pub one_refusal : (w : World) (e : Event) (r s : Refusal) → IsRefused w e r → IsRefused w e s → r ≡ s
one_refusal w e r s first second =
    let some = some_choice w e in
    let one = first some.0 some.1 in
    let other = second some.0 some.1 in
    cc

-- It is not accepted.
pub not_both : (w : World) (e : Event) (r : Refusal) → IsRefused w e r → (o : Outcome) (after : World)
    → Happens w e o after → ⊥
not_both w e r refused o after happens =
    let one = refused happens.0 happens.1 in
    let other = happens.2 in
    absurd (cc)
