-- The exit statuses of `serve` and `drive`.
use Rattle.std.specs.Prelude.{ℕ, Bool, true, false, List, [], ◌∷◌, Option, Some, None}

-- of a device that is served: 6 where it is judged, and somebody broke a rule
abbrev pub served_statuses : (check : Bool) → List ℕ
served_statuses false = 0 ∷ 3 ∷ 4 ∷ []
served_statuses true = 0 ∷ 3 ∷ 4 ∷ 6 ∷ []

-- the same with a capture: 1 where its file cannot be written
abbrev pub captured_statuses : (check : Bool) → List ℕ
captured_statuses false = 0 ∷ 1 ∷ 3 ∷ 4 ∷ []
captured_statuses true = 0 ∷ 1 ∷ 3 ∷ 4 ∷ 6 ∷ []

abbrev pub serve_statuses : {P : Type 0} → (capture : Option P) → (check : Bool) → List ℕ
serve_statuses None check = served_statuses check
serve_statuses (Some path) check = captured_statuses check

-- of a server that is driven: 6 where it was wrong, or somebody else whose rules are judged
abbrev pub drive_statuses : List ℕ
drive_statuses = 0 ∷ 1 ∷ 3 ∷ 4 ∷ 5 ∷ 6 ∷ []
