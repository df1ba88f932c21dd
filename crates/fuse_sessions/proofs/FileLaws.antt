-- The file that a node is of, with one more act.
use Rattle.std.proofs.Common.{◌≡◌, ◌≢◌, ◌≤◌, ◌<◌, ◌⊎◌, ℕ, zero, suc, ◌+◌, ◌-◌, true, false, [], ◌∷◌, ◌++◌, Some, None, refl, sym, ◌∙◌, ap, append_assoc, append-nil, arith, rules, nat_eq, subst, inl, inr}
use Rattle.std.proofs.lemmas.Bool.{cases_eq}
use Rattle.fuse_sessions.specs.declared.act.Act.{Act}
use Rattle.fuse_sessions.specs.declared.act.Act.TheVariants as act
use Rattle.fuse_sessions.specs.declared.act.File.{File}
use Rattle.fuse_sessions.specs.Sessions.{Session, moments, latest, or_earlier}
use Rattle.fuse_sessions.specs.Counts.{gives_least, forgets_of, least_count, first_file, known}
use Rattle.fuse_sessions.proofs.Laws.{left-more, latest-more, moments-more}

-- what holds of no act, and goes on with one more, holds of every session
module _ (P : Session → Type 0) (more : (s : Session) (a : Act) → P s → P (s ++ a ∷ [])) where
  pub onward : (before later : Session) → P before → P (before ++ later)
  onward before [] p = subst P (sym (append-nil before)) p
  onward before (a ∷ later) p = subst P (append_assoc before (a ∷ []) later) (onward (before ++ a ∷ []) later (more before a p))

  pub each_session : P [] → (s : Session) → P s
  each_session none s = onward [] s none

pub known-more : (s : Session) (a : Act) (n : ℕ) → known (s ++ a ∷ []) n ≡ or_earlier (first_file n (s, a)) (known s n)
known-more s a n = ap (latest (first_file n)) (moments-more [] s a) ∙ latest-more (first_file n) (moments s) (s, a)

-- An act gives no file to a node.
pub record GivesNoFile (n : ℕ) (a : Act) : Type 0 where
  pub least : gives_least n a ≡ 0
  pub file : (before : Session) → first_file n (before, a) ≡ None

pub differ : (k q : ℕ) → k ≢ q → nat_eq k q ≡ false
differ k q ne = grind (arith, rules)

pub same : (k : ℕ) → nat_eq k k ≡ true
same k = grind (arith, rules)

-- it does, or it gives this node for certain
pub file_or_none : (n : ℕ) (a : Act) → ((file : File) × (a ≡ act.Gives n file true)) ⊎ GivesNoFile n a
file_or_none n (act.Gives m file true) = elim (cases_eq m n) [
  | inl e ↦ inl (file, ap (λ k. act.Gives k file true) e)
  | inr ne ↦ inr (record { least = rw (differ m n ne) refl; file = λ before. rw (differ m n ne) refl })
]
file_or_none n a = inr (record { least = refl; file = λ before. refl })

module _ (n : ℕ) where
  -- with an act that gives it no file
  pub no_more : (s : Session) (a : Act) → GivesNoFile n a → least_count (s ++ a ∷ []) n ≤ least_count s n
  no_more s a none =
      let more : least_count (s ++ a ∷ []) n ≡ least_count s n + gives_least n a - forgets_of n a
      = left-more (gives_least n) (forgets_of n) s a (inl none.least) in
      omega (arith, more, none.least)

  pub known_still : (s : Session) (a : Act) → GivesNoFile n a → known (s ++ a ∷ []) n ≡ known s n
  known_still s a none = known-more s a n ∙ ap (λ o. or_earlier o (known s n)) (none.file s)

  -- with one that does
  pub known_first : (s : Session) (file : File) → least_count s n ≡ 0 → known (s ++ act.Gives n file true ∷ []) n ≡ Some file
  known_first s file none = known-more s (act.Gives n file true) n ∙ rw (same n, none) refl

  pub known_later : (s : Session) (file : File) → 0 < least_count s n → known (s ++ act.Gives n file true ∷ []) n ≡ known s n
  known_later s file some = known-more s (act.Gives n file true) n
      ∙ rw (same n, differ (least_count s n) 0 (λ e. omega (arith, some, e))) refl

-- a count is none, or some
pub cases_zero : (n : ℕ) → (n ≡ 0) ⊎ (0 < n)
cases_zero zero = inl refl
cases_zero (suc n) = inr (omega arith)

-- a node that is counted for certain is of a known file
pub has_file : (n : ℕ) (s : Session) → 0 < least_count s n → (file : File) × (known s n ≡ Some file)
has_file n = each_session (λ s. 0 < least_count s n → (file : File) × (known s n ≡ Some file)) more
    (λ none. absurd (omega (arith, none)))
  where
    more : (s : Session) (a : Act) → (0 < least_count s n → (file : File) × (known s n ≡ Some file))
        → 0 < least_count (s ++ a ∷ []) n → (file : File) × (known (s ++ a ∷ []) n ≡ Some file)
    more s a had some = elim (file_or_none n a) [
      | inl given ↦ subst (λ b. (file : File) × (known (s ++ b ∷ []) n ≡ Some file)) (sym given.1) (elim (cases_zero (least_count s n)) [
        | inl none ↦ (given.0, known_first n s given.0 none)
        | inr was ↦ ((had was).0, known_later n s given.0 was ∙ (had was).1)
      ])
      | inr none ↦ let was : 0 < least_count s n = omega (arith, no_more n s a none, some) in
          ((had was).0, known_still n s a none ∙ (had was).1)
    ]

abbrev file_of : (generation kind ino : ℕ) → File
file_of generation kind ino = record { generation = generation; kind = kind; ino = ino }

pub one_file : (x y : File) → x.generation ≡ y.generation → x.kind ≡ y.kind → x.ino ≡ y.ino → x ≡ y
one_file x y g k i = ap (λ n. file_of n x.kind x.ino) g ∙ ap (λ n. file_of y.generation n x.ino) k ∙ ap (file_of y.generation y.kind) i
