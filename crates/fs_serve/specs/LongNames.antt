-- Requests of which nothing is wrong but that a name is too long.
use Rattle.std.specs.Prelude.{◌≡◌, ◌≢◌, ◌≤◌, ◌<◌, ◌⊎◌, ℕ, All, List, [], ◌∷◌, ◌++◌, drop, length}
use Rattle.fk_wire.specs.declared.opcode.Opcode.{Opcode}
use Rattle.fk_wire.specs.Faults.{HasLength}
use Rattle.fk_wire.specs.Fields.{number_at}
use Rattle.fk_wire.specs.Opcodes.{Shape, code_of, name_after, names_after, shape_of}
use Rattle.fk_wire.specs.Requests.{max_frame}

-- What is a name, if its length is one of a name: 1 byte or more, no NUL, no slash, and neither `.` nor `..`.
pub record IsNameOfAnyLength (name : List ℕ) : Type 0 where
  pub some : 0 < length name
  pub plain : All (λ b. (b ≢ 0) × (b ≢ 47)) name
  pub no_dot : name ≢ 46 ∷ []
  pub no_dots : name ≢ 46 ∷ 46 ∷ []

-- These bytes are such a name and a NUL byte, and the name has more than 255.
pub record EndsInLongName (bytes : List ℕ) : Type 0 where
  pub name : List ℕ
  pub is : IsNameOfAnyLength name
  pub long : 255 < length name
  pub ends : bytes ≡ name ++ 0 ∷ []

-- These are two such names, and one of them has more than 255 bytes.
pub record AreLongNames (old new : List ℕ) : Type 0 where
  pub old_is : IsNameOfAnyLength old
  pub new_is : IsNameOfAnyLength new
  pub long : (255 < length old) ⊎ (255 < length new)

-- These bytes are two such names, each with a NUL byte.
pub record EndsInLongNames (bytes : List ℕ) : Type 0 where
  pub old : List ℕ
  pub new : List ℕ
  pub are : AreLongNames old new
  pub ends : bytes ≡ old ++ 0 ∷ (new ++ 0 ∷ [])

abbrev pub HasLongNames : Shape → List ℕ → Type 0
HasLongNames (name_after size) bytes = EndsInLongName (drop size bytes)
HasLongNames (names_after size) bytes = EndsInLongNames (drop size bytes)
HasLongNames shape bytes = ⊥

-- The one thing that is wrong with a request's frame is that a name has more than 255 bytes: its header is good, and its
-- names stand where those of its opcode stand, to the end. Every minor knows the opcodes that have names.
pub record IsNameTooLong (bytes : List ℕ) : Type 0 where
  pub header : HasLength bytes
  pub short : length bytes ≤ max_frame
  pub opcode : Opcode
  pub asks : code_of opcode ≡ number_at 4 4 bytes
  pub names : HasLongNames (shape_of opcode) bytes

-- ---- how such names are found

-- These bytes are two, each with a NUL byte, and the first has none.
pub record HasTwoNames (bytes : List ℕ) : Type 0 where
  pub old : List ℕ
  pub new : List ℕ
  pub plain : All (λ b. b ≢ 0) old
  pub ends : bytes ≡ old ++ 0 ∷ (new ++ 0 ∷ [])

-- They are these two, and no others.
pub record AreTwoNames (bytes old new : List ℕ) : Type 0 where
  pub ends : bytes ≡ old ++ 0 ∷ (new ++ 0 ∷ [])
  pub alone : (two : HasTwoNames bytes) → (two.old ≡ old) × (two.new ≡ new)
