-- A call's step, as the open files and the calls that use them see it: closed files stay used, but for those that its
-- own state used.
use Rattle.std.proofs.Common.{T, ◌≡◌, ◌≢◌, ℕ, ◌<◌, ◌≤◌, Bool, true, false, true≢false, [], ◌∷◌, Some, None, not, nat_eq, refl, ap, sym, subst, ◌∙◌, arith, inl, inr}
use Rattle.std.specs.List.{list_any}
use Rattle.std.specs.Ordering.{nat_cmp}
use Rattle.std.specs.Cmp.{nat_cmp_total}
use Rattle.std.specs.FinMap.{is_sorted}
use Rattle.std.specs.FinMap.Entries.{is_sorted-put, is_sorted-where_key}
use Rattle.std.proofs.lemmas.Bool.{cases_eq}
use Rattle.fuse_spec.specs.declared.Dentry.{Dentry}
use Rattle.fuse_spec.specs.declared.Opened.{Opened}
use Rattle.fuse_spec.specs.Calls.Answers.{Answer}
use Rattle.fuse_spec.specs.Claim.Counts.{opens_of}
use Rattle.fuse_spec.specs.Kernel.Kernel.{is_using}
use Rattle.fuse_spec.specs.Values.Maps.{Map, NameMap, get, put, remove, values}
use Rattle.fuse_spec.specs.Files.Operations.{Operation}
use Rattle.fuse_spec.specs.Calls.Vfs.{CallState, walking, doing, using, Vfs}
use Rattle.fuse_spec.proofs.Tables.{get_put_here, get_put_there, get_gone_here, get_gone_there}
use Rattle.fuse_theorem.specs.ClosedFiles.{WasAnswered, UsesFile, ClosedFiles}
use Rattle.fuse_theorem.proofs.Calls.Finding.{same_is, other_is}
use Rattle.fuse_theorem.proofs.Nodes.NodesSound.{put_found, left_found, left_none}
use Rattle.fuse_theorem.proofs.Trees.NamelessDiscarded.{found_any}
use Rattle.fuse_theorem.proofs.Lists.Values.{any_found}

-- The same, where closed files of some numbers may be used no more.
pub record ClosedBut (except : ℕ → Bool) (c : Vfs Opened) (closing : Map Opened) : Type 0 where
  pub calls_in_order : T (is_sorted nat_cmp c.calls)
  pub closing_in_order : T (is_sorted nat_cmp closing)
  pub calls_below : (call : ℕ) → c.next_call ≤ call → get c.calls call ≡ None
  pub opens : (open_call : ℕ) (o : Opened) → get c.opens open_call ≡ Some o → WasAnswered c open_call
  pub users : (call open_call : ℕ) (operation : Operation ℕ Opened) → get c.calls call ≡ Some (using open_call operation)
      → UsesFile c closing open_call operation
  pub not_open : (open_call : ℕ) (o : Opened) → get closing open_call ≡ Some o → get c.opens open_call ≡ None
  pub used : (open_call : ℕ) (o : Opened) → get closing open_call ≡ Some o → except open_call ≡ false
      → list_any (is_using open_call) (values c.calls) ≡ true

-- no number is excepted
pub all_used : (except : ℕ → Bool) (c : Vfs Opened) (closing : Map Opened) → ClosedBut except c closing
    → ((h : ℕ) → except h ≡ false) → ClosedFiles c closing
all_used except c closing b none = record {
  calls_in_order = b.calls_in_order;
  closing_in_order = b.closing_in_order;
  calls_below = b.calls_below;
  opens = b.opens;
  users = b.users;
  not_open = b.not_open;
  used = λ h o at. b.used h o at (none h);
}

same_number : (a b : ℕ) → nat_eq a b ≡ true → a ≡ b
same_number a b e = elim (cases_eq a b) [ inl same ↦ same | inr ne ↦ absurd (true≢false (sym e ∙ other_is a b ne)) ]

is_user : (state : CallState Opened) (open_call : ℕ) → is_using open_call state ≡ true
    → (operation : Operation ℕ Opened) × (state ≡ using open_call operation)
is_user (walking d word words plan) open_call e = absurd (true≢false (sym e))
is_user (doing operation) open_call e = absurd (true≢false (sym e))
is_user (using other operation) open_call e = (operation, ap (λ (h : ℕ). using h operation) (same_number other open_call e))

-- The call that uses a closed file.
pub user_of : (c : Vfs Opened) (closing : Map Opened) → ClosedFiles c closing → (open_call : ℕ) (o : Opened)
    → get closing open_call ≡ Some o
    → (call : ℕ) × (operation : Operation ℕ Opened) × (get c.calls call ≡ Some (using open_call operation))
    × (opens_of operation ≡ o ∷ [])
user_of c closing old open_call o at =
    let found = any_found (is_using open_call) c.calls old.calls_in_order (old.used open_call o at) in
    let is = is_user found.1 open_call found.3 in
    let there : get c.calls found.0 ≡ Some (using open_call is.0) = found.2 ∙ ap (λ (s : CallState Opened). Some s) is.1 in
    (found.0, is.0, there, (old.users found.0 open_call is.0 there).of_closed o at)

-- ---- a step of a call

module _ (c : Vfs Opened) (closing : Map Opened) (old : ClosedFiles c closing) (n call : ℕ) (later : c.next_call ≤ n)
    (low : call < n) (apart : (h : ℕ) → WasAnswered c h → h ≢ call)
    (except : ℕ → Bool) (mine : (h : ℕ) (operation : Operation ℕ Opened) → get c.calls call ≡ Some (using h operation)
    → except h ≡ true) where
  -- its calls are these, and its open files these
  abbrev Then : Map (CallState Opened) → Map Opened → NameMap Dentry → Map Answer → Vfs Opened
  Then m os names answers = record c { calls = m; opens = os; names = names; answers = answers; next_call = n }

  module _ (m : Map (CallState Opened)) (os : Map Opened) (names : NameMap Dentry) (answers : Map Answer)
      (others : (q : ℕ) → q ≢ call → get m q ≡ get c.calls q) where
    answered_still : (h : ℕ) → WasAnswered c h → WasAnswered (Then m os names answers) h
    answered_still h was = record {
      begun = let b = was.begun in
          omega (arith, b, later);
      not_waiting = others h (apart h was) ∙ was.not_waiting;
    }

    stepped : T (is_sorted nat_cmp m) → ((h : ℕ) (operation : Operation ℕ Opened)
        → get m call ≡ Some (using h operation) → UsesFile (Then m os names answers) closing h operation)
        → ((h : ℕ) (o : Opened) → get os h ≡ Some o → WasAnswered (Then m os names answers) h)
        → ((h : ℕ) → WasAnswered c h → get os h ≡ get c.opens h)
        → ClosedBut except (Then m os names answers) closing
    stepped sorted new opens same = record {
      calls_in_order = sorted;
      closing_in_order = old.closing_in_order;
      calls_below = λ q le. others q (λ e. absurd (omega (arith, e, le, low))) ∙ old.calls_below q
          (omega (arith, le, later));
      opens = opens;
      users = λ q h operation at. elim (cases_eq q call) [
        | inl e ↦ new h operation (subst (λ (x : ℕ). get m x ≡ Some (using h operation)) e at)
        | inr ne ↦ let was = old.users q h operation (sym (others q ne) ∙ at) in
            record {
              opener = answered_still h was.opener;
              of_open =
                  λ o there. was.of_open o (sym (same h was.opener) ∙ there);
              of_closed = was.of_closed;
            }
      ];
      not_open = λ h o at.
          let user = user_of c closing old h o at in
          let was = old.users user.0 h user.1 user.2 in
          same h was.opener ∙ old.not_open h o at;
      used = λ h o at free.
          let user = user_of c closing old h o at in
          let there : get m user.0 ≡ Some (using h user.1) =
          others user.0 (λ e. true≢false (sym (mine h user.1
          (subst (λ (x : ℕ). get c.calls x ≡ Some (using h user.1)) e user.2)) ∙ free)) ∙ user.2 in
          found_any (is_using h) m user.0 (using h user.1) there (same_is h);
    }

  gone : (q : ℕ) → q ≢ call → get (remove c.calls call) q ≡ get c.calls q
  gone q ne = get_gone_there c.calls call q ne

  gone_in_order : T (is_sorted nat_cmp (remove c.calls call))
  gone_in_order = is_sorted-where_key nat_cmp (λ (x : ℕ). not (nat_eq x call)) c.calls old.calls_in_order

  -- The call is answered.
  pub ends_but : (names : NameMap Dentry) (answers : Map Answer)
      → ClosedBut except (Then (remove c.calls call) c.opens names answers) closing
  ends_but names answers =
      stepped (remove c.calls call) c.opens names answers gone gone_in_order
      (λ h operation at. absurd (cc (at, get_gone_here c.calls call)))
      (λ h o at. answered_still (remove c.calls call) c.opens names answers gone h (old.opens h o at)) (λ h was. refl)

  -- The call is answered, and a file is open under its number.
  pub opens_but : (o : Opened) (names : NameMap Dentry) (answers : Map Answer)
      → ClosedBut except (Then (remove c.calls call) (put c.opens call o) names answers) closing
  opens_but o names answers =
      let m = remove c.calls call in
      let os = put c.opens call o in
      stepped m os names answers gone gone_in_order (λ h operation at. absurd (cc (at, get_gone_here c.calls call)))
      (λ h x at. elim (put_found c.opens call o h x at) [
        | inl e ↦ subst (WasAnswered (Then m os names answers)) (sym e.0)
            (record { begun = low; not_waiting = get_gone_here c.calls call })
        | inr there ↦ answered_still m os names answers gone h (old.opens h x there)
      ]) (λ h was. get_put_there c.opens call o h (apart h was))

  -- The call asks an operation, on an open file or on none.
  pub asks_but : (state : CallState Opened) → ((h : ℕ) (operation : Operation ℕ Opened) → state ≡ using h operation
      → (o : Opened) × (get c.opens h ≡ Some o) × (opens_of operation ≡ o ∷ [])) → (names : NameMap Dentry)
      → ClosedBut except (Then (put c.calls call state) c.opens names c.answers) closing
  asks_but state is_open names =
      let m = put c.calls call state in
      stepped m c.opens names c.answers others
      (is_sorted-put nat_cmp nat_cmp_total call state c.calls old.calls_in_order)
      (λ h operation at. new h operation (let same : Some state
      ≡ Some (using h operation) = sym (get_put_here c.calls call state) ∙ at in cc))
      (λ h o at. answered_still m c.opens names c.answers others h (old.opens h o at)) (λ h was. refl)
    where
      others : (q : ℕ) → q ≢ call → get (put c.calls call state) q ≡ get c.calls q
      others q ne = get_put_there c.calls call state q ne

      new : (h : ℕ) (operation : Operation ℕ Opened) → state ≡ using h operation
          → UsesFile (Then (put c.calls call state) c.opens names c.answers) closing h operation
      new h operation is =
          let file = is_open h operation is in
          record {
            opener = answered_still (put c.calls call state) c.opens names c.answers others h
                (old.opens h file.0 file.1);
            of_open = λ o at. let same : file.0 ≡ o = cc (file.1, at) in file.2 ∙ ap (λ (x : Opened). x ∷ []) same;
            of_closed = λ o at. absurd (cc (old.not_open h o at, file.1));
          }

-- A file is closed: it may be used no more.
pub closed_but : (c : Vfs Opened) (closing : Map Opened) → ClosedFiles c closing → (open_call : ℕ) (o : Opened)
    → get c.opens open_call ≡ Some o → ClosedBut (nat_eq open_call) (record c { opens = remove c.opens open_call })
    (put closing open_call o)
closed_but c closing old open_call o there = record {
  calls_in_order = old.calls_in_order;
  closing_in_order = is_sorted-put nat_cmp nat_cmp_total open_call o closing old.closing_in_order;
  calls_below = old.calls_below;
  opens = λ h x at. again h (old.opens h x (left_found c.opens open_call h x at));
  users = λ q h operation at.
      let was = old.users q h operation at in
      record {
        opener = again h was.opener;
        of_open = λ x here. was.of_open x (left_found c.opens open_call h x here);
        of_closed = λ x closed. elim (put_found closing open_call o h x closed) [
          | inl e ↦ subst (λ (y : Opened). opens_of operation ≡ y ∷ []) e.1
              (was.of_open o (subst (λ (y : ℕ). get c.opens y ≡ Some o) (sym e.0) there))
          | inr before ↦ was.of_closed x before
        ];
      };
  not_open = λ h x at. elim (put_found closing open_call o h x at) [
    | inl e ↦ subst (λ (y : ℕ). get (remove c.opens open_call) y ≡ None) (sym e.0) (get_gone_here c.opens open_call)
    | inr before ↦ left_none c.opens open_call h (old.not_open h x before)
  ];
  used = λ h x at free. elim (put_found closing open_call o h x at) [
    | inl e ↦ absurd (true≢false (sym (subst (λ (y : ℕ). nat_eq open_call y ≡ true) (sym e.0) (same_is open_call)) ∙ free))
    | inr before ↦ old.used h x before
  ];
}
  where
    again : (h : ℕ) → WasAnswered c h → WasAnswered (record c { opens = remove c.opens open_call }) h
    again h was = record { begun = was.begun; not_waiting = was.not_waiting }
