-- Acts that are free of a group of faults, in parts and as a whole.
use Rattle.std.proofs.Common.{◌≡◌, ℕ, zero, suc, Bool, true, List, [], ◌∷◌, ◌++◌, Option, Some, None, refl, sym, ap, subst, append_assoc, append-nil, take, slice_get}
use Rattle.std.specs.List.{list_all}
use Rattle.std.proofs.lemmas.Bool.{and_parts}
use Rattle.fuse_sessions.specs.declared.act.Act.{Act}
use Rattle.fuse_sessions.specs.declared.fault.Fault.{Fault}
use Rattle.fuse_sessions.specs.Sessions.{Session}
use Rattle.fuse_sessions.specs.Faults.{Breaks, HasFaultAt}
use Rattle.served_sessions.proofs.Acts.{is_beside, is_of_frames, beside_law}

-- None of the next acts has, at its moment, a fault of this group.
abbrev pub AreFree : (Fault → Bool) → Session → List Act → Type 0
AreFree group s [] = Unit {0}
AreFree group s (act ∷ later) =
    ((f : Fault) → Breaks s act f → group f ≡ true → ⊥) × AreFree group (s ++ act ∷ []) later

some_act : (a b : Act) → ◌≡◌ {A = Option Act} (Some a) (Some b) → a ≡ b
some_act a b same = ap of same
  where
    of : Option Act → Act
    of None = a
    of (Some x) = x

module _ (group : Fault → Bool) where
  pub free_append : (s : Session) (xs ys : List Act) → AreFree group s xs → AreFree group (s ++ xs) ys
      → AreFree group s (xs ++ ys)
  free_append s [] ys first second = subst (λ t. AreFree group t ys) (append-nil s) second
  free_append s (a ∷ xs) ys first second = (
    first.0,
    free_append (s ++ a ∷ []) xs ys first.1
        (subst (λ t. AreFree group t ys) (sym (append_assoc s (a ∷ []) xs)) second),
  )

  pub free_first : (s : Session) (xs ys : List Act) → AreFree group s (xs ++ ys) → AreFree group s xs
  free_first s [] ys free = tt
  free_first s (a ∷ xs) ys free = (free.0, free_first (s ++ a ∷ []) xs ys free.1)

  pub free_last : (s : Session) (xs ys : List Act) → AreFree group s (xs ++ ys) → AreFree group (s ++ xs) ys
  free_last s [] ys free = subst (λ t. AreFree group t ys) (sym (append-nil s)) free
  free_last s (a ∷ xs) ys free =
      subst (λ t. AreFree group t ys) (append_assoc s (a ∷ []) xs) (free_last (s ++ a ∷ []) xs ys free.1)

  -- no act has such a fault at its place
  pub never_at : (s : Session) (acts : List Act) → AreFree group s acts → (place : ℕ) (f : Fault)
      → HasFaultAt s acts place f → group f ≡ true → ⊥
  never_at s [] free place f has = absurd (none has.act has.stands)
    where
      none : (a : Act) → slice_get [] place ≡ Some a → ⊥
      none a e = cc
  never_at s (a ∷ acts) free zero f has = free.0 f (subst (λ t. Breaks t a f) (append-nil s)
      (subst (λ x. Breaks (s ++ []) x f) (sym (some_act a has.act has.stands)) has.breaks))
  never_at s (a ∷ acts) free (suc place) f has = never_at (s ++ a ∷ []) acts free.1 place f (record {
    act = has.act;
    stands = has.stands;
    breaks = subst (λ t. Breaks t has.act f) (sym (append_assoc s (a ∷ []) (take place acts))) has.breaks;
  })

  -- acts that pass a test by which none shows such a fault
  pub all_free : (test : Act → Bool)
      → ((s : Session) (a : Act) (f : Fault) → test a ≡ true → Breaks s a f → group f ≡ true → ⊥)
      → (s : Session) (acts : List Act) → list_all test acts ≡ true → AreFree group s acts
  all_free test law s [] are = tt
  all_free test law s (a ∷ acts) are =
      let both = and_parts (test a) (list_all test acts) are in
      (λ f b is. law s a f both.0 b is, all_free test law (s ++ a ∷ []) acts both.1)

  -- acts that are beside have none of the faults of frames
  pub beside_free : ((f : Fault) → group f ≡ true → is_of_frames f ≡ true) → (s : Session) (acts : List Act)
      → list_all is_beside acts ≡ true → AreFree group s acts
  beside_free within s acts beside =
      all_free is_beside (λ s a f is b of. beside_law s a f is b (within f of)) s acts beside

  -- and none has one at its moment if none has one at its place
  pub free_if : (s : Session) (acts : List Act)
      → ((place : ℕ) (f : Fault) → HasFaultAt s acts place f → group f ≡ true → ⊥) → AreFree group s acts
  free_if s [] never = tt
  free_if s (a ∷ acts) never = (
    λ f b is. never 0 f
        (record { act = a; stands = refl; breaks = subst (λ t. Breaks t a f) (sym (append-nil s)) b }) is,
    free_if (s ++ a ∷ []) acts (λ place f has is. never (suc place) f (record {
      act = has.act;
      stands = has.stands;
      breaks = subst (λ t. Breaks t has.act f) (append_assoc s (a ∷ []) (take place acts)) has.breaks;
    }) is),
  )
