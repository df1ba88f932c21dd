-- The file handles of held requests stay open as one is held no longer, and as a RELEASE gives its handle back.
use Rattle.std.proofs.Common.{◌≡◌, ◌≢◌, ℕ, ◌+◌, ◌-◌, ◌≤◌, ◌<◌, Bool, true, false, not, cond, [], ◌∷◌, Option, Some, None, zero, suc, nat_eq, refl, ap, sym, subst, ◌∙◌, arith, inl, inr}
use Rattle.std.specs.Prelude.{Contains, nat_lt, sum_by}
use Rattle.std.proofs.lemmas.Bool.{cases_eq}
use Rattle.std.proofs.lemmas.Bool.Decides.{nat_tests}
use Rattle.std.proofs.lemmas.List.Sums.{sum_by-cons}
use Rattle.std.specs.Ordering.{nat_cmp, is_eq}
use Rattle.fuse_spec.specs.declared.Opened.{Opened}
use Rattle.fuse_spec.specs.Values.Maps.{Map, get, put, remove, values}
use Rattle.fuse_spec.specs.Files.Operations.{Operation}
use Rattle.fuse_spec.specs.Kernel.Messages.{RequestBody, init, asks, release, forget, batch_forget, interrupt}
use Rattle.fuse_spec.specs.Server.Nodes.{NodeTable, HandleTable, FileHandle, file_of, is_file_of, is_open, handles_less, handle_back}
use Rattle.fuse_spec.specs.Server.Server.{HeldRequest}
use Rattle.fuse_spec.specs.Claim.Counts.{opens_of, opens_of_body, releases_in, handle_count}
use Rattle.fuse_spec.proofs.Tables.{cmp_same, tie_no, get_put_here, get_put_there, get_gone_there}
use Rattle.fuse_theorem.specs.StillOpen.{releases_held, HandlesStillOpen}
use Rattle.fuse_theorem.proofs.Calls.Finding.{same_is, other_is}
use Rattle.fuse_theorem.proofs.Nodes.NodesSound.{left_found}
use Rattle.fuse_theorem.proofs.Refining.Settling.{handle_back_left}

-- ---- sums over a map that loses a key

module _ {X : Type 0} (f : X → ℕ) where
  abbrev worth : Option X → ℕ
  worth None = 0
  worth (Some x) = f x

  sum_left : (m : Map X) (k : ℕ) → sum_by f (values (remove m k)) + worth (get m k) ≤ sum_by f (values m)
  sum_left [] k = omega arith
  sum_left (e ∷ m) k =
      let rest = sum_left m k in
      let whole : sum_by f (values (e ∷ m)) ≡ f e.1 + sum_by f (values m) = sum_by-cons f e.1 (values m) in
      elim (cases_eq k e.0) [
        | inl same ↦
            let is : nat_eq e.0 k ≡ true = subst (λ (n : ℕ). nat_eq e.0 n ≡ true) (sym same) (same_is e.0) in
            let tie : is_eq (nat_cmp k e.0) ≡ true = subst (λ (n : ℕ). is_eq (nat_cmp n e.0) ≡ true) (sym same)
            (ap is_eq (cmp_same e.0)) in
            let gone : sum_by f (values (remove (e ∷ m) k)) ≡ sum_by f (values (remove m k)) =
            ap (λ (b : Bool). sum_by f (values (cond (not b) (e ∷ remove m k) (remove m k)))) is in
            let found : worth (get (e ∷ m) k) ≡ f e.1 = ap (λ (b : Bool). worth (cond b (Some e.1) (get m k))) tie in
            omega (arith, whole, gone, found, rest)
        | inr ne ↦
            let is : nat_eq e.0 k ≡ false = other_is e.0 k (λ q. ne (sym q)) in
            let stays : sum_by f (values (remove (e ∷ m) k)) ≡ sum_by f (values (e ∷ remove m k)) =
            ap (λ (b : Bool). sum_by f (values (cond (not b) (e ∷ remove m k) (remove m k)))) is in
            let more = sum_by-cons f e.1 (values (remove m k)) in
            let found : worth (get (e ∷ m) k) ≡ worth (get m k) =
            ap (λ (b : Bool). worth (cond b (Some e.1) (get m k))) (tie_no k e.0 ne) in
            omega (arith, whole, stays, more, found, rest)
      ]

-- ---- a handle is given back

-- how often it is given back where it is this one
abbrev back_if : ℕ → ℕ → ℕ
back_if fh q = cond (nat_eq fh q) 1 0

back_count : (h : HandleTable) (fh q : ℕ) → handle_count (get h.handles q) ≤ handle_count
    (get (handle_back h fh).handles q) + back_if fh q
back_count h fh q = elim (cases_eq q fh) [
  | inl same ↦
      let one : back_if fh q ≡ 1 = ap (λ (b : Bool). cond b 1 0)
      (subst (λ (n : ℕ). nat_eq fh n ≡ true) (sym same) (same_is fh)) in
      let here = by (get h.handles fh) refl in
      let few = subst (λ (n : ℕ). handle_count (get h.handles n) ≤ handle_count (get (handle_back h fh).handles n) + 1)
      (sym same) here in
      omega (arith, one, few)
  | inr ne ↦ let there = ap handle_count (other (get h.handles fh) ne) in omega (arith, there)
]
  where
    counted : (x : FileHandle) (b : Bool) → nat_lt 1 x.count ≡ b
        → x.count ≤ handle_count (get (cond b (put h.handles fh (record x { count = x.count - 1 }))
        (remove h.handles fh)) fh) + 1
    counted x true many = let is = ap handle_count (get_put_here h.handles fh (record x { count = x.count - 1 })) in
        let low : 1 < x.count = grind (arith, nat_tests, many) in omega (arith, is, low)
    counted x false few = let low : x.count ≤ 1 = grind (arith, nat_tests, few) in omega (arith, low)

    by : (o : Option FileHandle) → get h.handles fh ≡ o
        → handle_count (get h.handles fh) ≤ handle_count (get (handles_less h.handles fh o) fh) + 1
    by None at = let none = ap handle_count at in omega (arith, none)
    by (Some x) at = let is = ap handle_count at in let few =
        counted x (nat_lt 1 x.count) refl in omega (arith, is, few)

    other : (o : Option FileHandle) → q ≢ fh → get (handles_less h.handles fh o) q ≡ get h.handles q
    other None ne = refl
    other (Some x) ne = either (nat_lt 1 x.count)
      where
        either : (b : Bool) → get (cond b (put h.handles fh (record x { count = x.count - 1 }))
            (remove h.handles fh)) q ≡ get h.handles q
        either true = get_put_there h.handles fh (record x { count = x.count - 1 }) q ne
        either false = get_gone_there h.handles fh q ne

-- A handle that is counted still is one of the same file.
still_open : (h : HandleTable) (fh q file : ℕ) → is_open h q file ≡ true
    → 1 ≤ handle_count (get (handle_back h fh).handles q) → is_open (handle_back h fh) q file ≡ true
still_open h fh q file was counted = by (get (handle_back h fh).handles q) refl counted
  where
    by : (o : Option FileHandle) → get (handle_back h fh).handles q ≡ o → 1 ≤ handle_count o → is_file_of file o ≡ true
    by None at low = absurd (omega (arith, low))
    by (Some y) at low =
        let x = handle_back_left h fh q y at in
        let same : is_file_of file (Some x.0) ≡ true = ap (is_file_of file) (sym x.1) ∙ was in
        ap (λ (n : ℕ). nat_eq n file) x.2 ∙ same

-- ---- what is held

module _ (nodes : NodeTable) (handles : HandleTable) (held : Map HeldRequest)
    (old : HandlesStillOpen nodes handles held) (unique : ℕ) where
  abbrev left : Map HeldRequest
  left = remove held unique

  -- those that are left release no handle more often
  releases_left : (fh : ℕ) (t : HeldRequest) → get held unique ≡ Some t
      → releases_held left fh + releases_in fh t.body ≤ releases_held held fh
  releases_left fh t there =
      let few = sum_left (λ (x : HeldRequest). releases_in fh x.body) held unique in
      let is : worth (λ (x : HeldRequest). releases_in fh x.body) (get held unique) ≡ releases_in fh t.body =
      ap (worth (λ (x : HeldRequest). releases_in fh x.body)) there in
      omega (arith, few, is)

  fewer_left : (fh : ℕ) → releases_held left fh ≤ releases_held held fh
  fewer_left fh = let few = sum_left (λ (x : HeldRequest). releases_in fh x.body) held unique in omega (arith, few)

  -- One is held no longer.
  pub left_open : HandlesStillOpen nodes handles left
  left_open = record {
    files = λ u x at o among. old.files u x (left_found held unique u x at) o among;
    released = λ fh. let few = fewer_left fh in let enough = old.released fh in omega (arith, few, enough);
    used = λ u x at operation is o among. let few = fewer_left o.fh in let enough =
        old.used u x (left_found held unique u x at) operation is o among in omega (arith, few, enough);
  }

  module _ (t : HeldRequest) (there : get held unique ≡ Some t) (given : Opened)
      (body_is : t.body ≡ release given) where
    abbrev back : HandleTable
    back = handle_back handles given.fh

    fewer_by_one : (fh : ℕ) → releases_held left fh + back_if given.fh fh ≤ releases_held held fh
    fewer_by_one fh =
        let few = releases_left fh t there in
        let is : releases_in fh t.body ≡ back_if given.fh fh = ap (releases_in fh) body_is in
        omega (arith, few, is)

    enough_left : (fh : ℕ) → releases_held left fh ≤ handle_count (get back.handles fh)
    enough_left fh =
        let few = fewer_by_one fh in
        let enough = old.released fh in
        let counts = back_count handles given.fh fh in
        omega (arith, few, enough, counts)

    enough_used : (u : ℕ) (x : HeldRequest) → get left u ≡ Some x → (operation : Operation ℕ Opened)
        → x.body ≡ asks operation → (o : Opened) → Contains (opens_of operation) o
        → releases_held left o.fh + 1 ≤ handle_count (get back.handles o.fh)
    enough_used u x at operation is o among =
        let few = fewer_by_one o.fh in
        let enough = old.used u x (left_found held unique u x at) operation is o among in
        let counts = back_count handles given.fh o.fh in
        omega (arith, few, enough, counts)

    -- what is held is counted
    counted_still : (u : ℕ) (x : HeldRequest) → get left u ≡ Some x → (o : Opened) (body : RequestBody) → x.body ≡ body
        → Contains (opens_of_body body) o → 1 ≤ handle_count (get back.handles o.fh)
    counted_still u x at o (init flags) is among = absurd (let lt = among.1 in omega (arith, lt))
    counted_still u x at o (asks operation) is among = let enough =
        enough_used u x at operation is o among in omega (arith, enough)
    counted_still u x at o (release other) is (zero, lt, same) =
        let number : releases_in o.fh x.body ≡ 1 = ap (releases_in o.fh) is ∙ ap
        (λ (y : Opened). cond (nat_eq y.fh o.fh) 1 0) same ∙ ap (λ (b : Bool). cond b 1 0) (same_is o.fh) in
        let some = sum_left (λ (y : HeldRequest). releases_in o.fh y.body) left u in
        let here : worth (λ (y : HeldRequest). releases_in o.fh y.body) (get left u) ≡ releases_in o.fh x.body =
        ap (worth (λ (y : HeldRequest). releases_in o.fh y.body)) at in
        let enough = enough_left o.fh in
        omega (arith, number, some, here, enough)
    counted_still u x at o (release other) is (suc i, lt, same) = absurd (omega (arith, lt))
    counted_still u x at o (forget f) is among = absurd (let lt = among.1 in omega (arith, lt))
    counted_still u x at o (batch_forget fs) is among = absurd (let lt = among.1 in omega (arith, lt))
    counted_still u x at o (interrupt original) is among = absurd (let lt = among.1 in omega (arith, lt))

    -- A RELEASE is held no longer, and its handle is given back.
    pub released_open : HandlesStillOpen nodes back left
    released_open = record {
      files = λ u x at o among. still_open handles given.fh o.fh (file_of nodes o.nodeid)
          (old.files u x (left_found held unique u x at) o among) (counted_still u x at o x.body refl among);
      released = enough_left;
      used = enough_used;
    }
