-- How many lookups the frames that wait will add at most.
use Rattle.std.proofs.Common.{◌≡◌, ℕ, ◌+◌, List, [], ◌∷◌, ◌++◌, refl, sym, subst, arith}
use Rattle.fuse_device.specs.Transfers.{Transfer, received, sent, stopped, unsent}
use Rattle.fuse_spec.specs.declared.WriteResult.{WriteResult}
use Rattle.driven_sessions.specs.Taken.{Outcome, all_aside, aside, first_written, waiting, written}
use Rattle.driven_sessions.proofs.Outcomes.{GoOn, left_of}

-- Each frame that waits is such, with what becomes of it and what it adds: so much in all.
module _ (IsSuch : List ℕ → Outcome → ℕ → Type 0) where
  abbrev pub Owes : (frames : List (List ℕ)) (now all : List Outcome) (n : ℕ) → Type 0
  Owes frames [] all n = (frames ≡ []) × (n ≡ 0)
  Owes frames (aside ∷ now) [] n = ⊥
  Owes frames (waiting ∷ now) [] n = ⊥
  Owes frames (written result ∷ now) [] n = ⊥
  Owes frames (aside ∷ now) (o ∷ all) n = Owes frames now all n
  Owes frames (written result ∷ now) (o ∷ all) n = Owes frames now all n
  Owes [] (waiting ∷ now) (o ∷ all) n = ⊥
  Owes (frame ∷ frames) (waiting ∷ now) (o ∷ all) n =
      (g : ℕ) × (m : ℕ) × (n ≡ g + m) × IsSuch frame o g × Owes frames now all m

  -- The first is such with its result, and the others owe the rest.
  pub record FirstOwes (frame : List ℕ) (rest : List (List ℕ)) (result : WriteResult) (now all : List Outcome) (n : ℕ)
      : Type 0 where
    pub adds : ℕ
    pub left : ℕ
    pub sum : n ≡ adds + left
    pub such : IsSuch frame (written result) adds
    pub owes : Owes rest (first_written result now) all left

  pub first_owes : (frame : List ℕ) (rest : List (List ℕ)) (result : WriteResult) (now all : List Outcome) (n : ℕ)
      → Owes (frame ∷ rest) now all n → GoOn (first_written result now) all → FirstOwes frame rest result now all n
  first_owes frame rest result [] all n owes on = absurd (cc owes.0)
  first_owes frame rest result (aside ∷ now) [] n owes on = absurd owes
  first_owes frame rest result (waiting ∷ now) [] n owes on = absurd owes
  first_owes frame rest result (written other ∷ now) [] n owes on = absurd owes
  first_owes frame rest result (aside ∷ now) (o ∷ all) n owes on =
      let more = first_owes frame rest result now all n owes on in
      record { adds = more.adds; left = more.left; sum = more.sum; such = more.such; owes = more.owes }
  first_owes frame rest result (waiting ∷ now) (o ∷ all) n owes on = record {
    adds = owes.0;
    left = owes.1;
    sum = owes.2;
    such = subst (λ (x : Outcome). IsSuch frame x owes.0) on.0 owes.3;
    owes = owes.4;
  }
  first_owes frame rest result (written other ∷ now) (o ∷ all) n owes on =
      let more = first_owes frame rest result now all n owes on.1 in
      record { adds = more.adds; left = more.left; sum = more.sum; such = more.such; owes = more.owes }

  none_owe : (frames : List (List ℕ)) (log : List Transfer) (all : List Outcome) (n : ℕ) → frames ≡ [] → n ≡ 0
      → GoOn (all_aside log) all → Owes frames (all_aside log) all n
  none_owe frames [] all n none zero on = (none, zero)
  none_owe frames (received frame ∷ log) [] n none zero on = on
  none_owe frames (received frame ∷ log) (o ∷ all) n none zero on = none_owe frames log all n none zero on
  none_owe frames (sent frame result ∷ log) all n none zero on = none_owe frames log all n none zero on
  none_owe frames (unsent frame end ∷ log) all n none zero on = none_owe frames log all n none zero on
  none_owe frames (stopped end ∷ log) all n none zero on = none_owe frames log all n none zero on

  pub aside_owes : (frames : List (List ℕ)) (log : List Transfer) (now all : List Outcome) (n : ℕ) → Owes frames now all n
      → GoOn (now ++ all_aside log) all → Owes frames (now ++ all_aside log) all n
  aside_owes frames log [] all n owes on = none_owe frames log all n owes.0 owes.1 on
  aside_owes frames log (aside ∷ now) [] n owes on = on
  aside_owes frames log (waiting ∷ now) [] n owes on = on
  aside_owes frames log (written result ∷ now) [] n owes on = on
  aside_owes frames log (aside ∷ now) (o ∷ all) n owes on = aside_owes frames log now all n owes on
  aside_owes frames log (written result ∷ now) (o ∷ all) n owes on = aside_owes frames log now all n owes on.1
  aside_owes [] log (waiting ∷ now) (o ∷ all) n owes on = owes
  aside_owes (frame ∷ frames) log (waiting ∷ now) (o ∷ all) n owes on =
      (owes.0, owes.1, owes.2, owes.3, aside_owes frames log now all owes.1 owes.4 on)

  -- One more waits, and adds this.
  pub last_owes : (frames : List (List ℕ)) (frame : List ℕ) (now all : List Outcome) (n g : ℕ) → Owes frames now all n
      → GoOn (now ++ waiting ∷ []) all → ((o : Outcome) (more : List Outcome) → left_of now all ≡ o ∷ more → IsSuch frame o g)
      → Owes (frames ++ frame ∷ []) (now ++ waiting ∷ []) all (n + g)
  last_owes frames frame [] [] n g owes on such = absurd on
  last_owes frames frame [] (o ∷ all) n g owes on such =
      let zero = owes.1 in
      subst (λ (l : List (List ℕ)). Owes (l ++ frame ∷ []) (waiting ∷ []) (o ∷ all) (n + g)) (sym owes.0)
      (g, 0, omega (arith, zero), such o all refl, (refl, refl))
  last_owes frames frame (aside ∷ now) [] n g owes on such = absurd on
  last_owes frames frame (waiting ∷ now) [] n g owes on such = absurd on
  last_owes frames frame (written result ∷ now) [] n g owes on such = absurd on
  last_owes frames frame (aside ∷ now) (o ∷ all) n g owes on such = last_owes frames frame now all n g owes on such
  last_owes frames frame (written result ∷ now) (o ∷ all) n g owes on such = last_owes frames frame now all n g owes on.1 such
  last_owes [] frame (waiting ∷ now) (o ∷ all) n g owes on such = absurd owes
  last_owes (first ∷ frames) frame (waiting ∷ now) (o ∷ all) n g owes on such =
      let sum = owes.2 in
      (owes.0, owes.1 + g, omega (arith, sum), owes.3, last_owes frames frame now all owes.1 g owes.4 on such)

pub map_owes : (P Q : List ℕ → Outcome → ℕ → Type 0) → ((frame : List ℕ) (o : Outcome) (g : ℕ) → P frame o g → Q frame o g)
    → (frames : List (List ℕ)) (now all : List Outcome) (n : ℕ) → Owes P frames now all n → Owes Q frames now all n
map_owes P Q to frames [] all n owes = owes
map_owes P Q to frames (aside ∷ now) [] n owes = owes
map_owes P Q to frames (waiting ∷ now) [] n owes = owes
map_owes P Q to frames (written result ∷ now) [] n owes = owes
map_owes P Q to frames (aside ∷ now) (o ∷ all) n owes = map_owes P Q to frames now all n owes
map_owes P Q to frames (written result ∷ now) (o ∷ all) n owes = map_owes P Q to frames now all n owes
map_owes P Q to [] (waiting ∷ now) (o ∷ all) n owes = owes
map_owes P Q to (frame ∷ frames) (waiting ∷ now) (o ∷ all) n owes =
    (owes.0, owes.1, owes.2, to frame o owes.0 owes.3, map_owes P Q to frames now all owes.1 owes.4)
