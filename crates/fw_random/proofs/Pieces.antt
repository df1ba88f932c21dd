-- A text in pieces, each of one line.
use Rattle.std.proofs.Common.{◌≡◌, ◌+◌, ◌-◌, ◌++◌, ◌<◌, ◌==◌, ◌∙◌, ℕ, Bool, true, false, cond, nat_eq, nat_lt, get_or, List, [], ◌∷◌, length, take, Option, Some, None, arith, ap, refl, subst, suc, sym, zero, slice_index_or}
use Rattle.std.specs.Prelude.{MatchOption, if◌then◌else◌, not, position}
use Rattle.std.specs.List.{position_or_len}
use Rattle.std.proofs.lemmas.List.Sums.{fails_before_first}
use Rattle.std.proofs.lemmas.Bool.{ltb-false}
use Rattle.fw_random.specs.Comments.{IsPiece, commented, is_begun_behind}

abbrev is_feed : ℕ → Bool
is_feed byte = byte == 10

-- ---- up to the first line feed

-- No byte before a place is a line feed.
abbrev HasNone : List ℕ → ℕ → Type 0
HasNone text end = (k : ℕ) (d : ℕ) → k < end → is_feed (get_or text k d) ≡ false

behind_first : (byte : ℕ) (text : List ℕ) (end : ℕ) → HasNone (byte ∷ text) (suc end) → HasNone text end
behind_first byte text end none k d below = none (suc k) d (omega (arith, below))

piece_of_none : (n : ℕ) → IsPiece (take n [])
piece_of_none zero = tt
piece_of_none (suc n) = tt

piece_of_one : (byte n : ℕ) → IsPiece (byte ∷ take n [])
piece_of_one byte zero = tt
piece_of_one byte (suc n) = tt

-- The bytes up to a place before which there is no line feed, with that at the place, are a piece.
none_before : (text : List ℕ) (end : ℕ) → HasNone text end → IsPiece (take (suc end) text)
none_before [] end none = piece_of_none (suc end)
none_before (byte ∷ []) end none = piece_of_one byte end
none_before (byte ∷ next ∷ text) zero none = tt
none_before (byte ∷ next ∷ text) (suc end) none =
    (none 0 0 (omega arith), none_before (next ∷ text) end (behind_first byte (next ∷ text) end none))

piece_by : (text : List ℕ) (found : Bool) → nat_lt (position_or_len is_feed text) (length text) ≡ found
    → MatchOption (cond found (Some (position_or_len is_feed text)) None) (IsPiece (take (length text) text))
    (λ end. IsPiece (take (end + 1) text))
piece_by text true h =
    let end = position_or_len is_feed text in
    let one : suc end ≡ end + 1 = omega arith in
    subst (λ (n : ℕ). IsPiece (take n text)) one
    (none_before text end (λ k d below. fails_before_first is_feed text k d below))
piece_by text false h = all text (λ k d below. fails_before_first is_feed text k d (let past = ltb-false _ _ h in omega (arith, past, below)))
  where
    all : (bytes : List ℕ) → HasNone bytes (length bytes) → IsPiece (take (length bytes) bytes)
    all [] none = tt
    all (byte ∷ bytes) none = none_before (byte ∷ bytes) (length bytes) (λ k d below. none k d (omega (arith, below)))

pub piece_at_feed : (text : List ℕ) (o : Option ℕ) → o ≡ position (λ byte. byte == 10) text
    → MatchOption o (IsPiece (take (length text) text)) (λ end. IsPiece (take (end + 1) text))
piece_at_feed text o e = rw e (piece_by text (nat_lt (position_or_len is_feed text) (length text)) refl)

-- ---- a piece in a comment

commented_none : (begun : Bool) → commented begun [] ≡ []
commented_none true = refl
commented_none false = refl

begun_none : (begun : Bool) → is_begun_behind begun [] ≡ begun
begun_none true = refl
begun_none false = refl

rest_commented : (text : List ℕ) → IsPiece text → commented true text ≡ text
rest_commented [] is = refl
rest_commented (byte ∷ []) is = ap (λ (l : List ℕ). byte ∷ l) (commented_none (not (is_feed byte)))
rest_commented (byte ∷ next ∷ text) is =
    ap (λ (b : Bool). byte ∷ commented (not b) (next ∷ text)) is.0
    ∙ ap (λ (l : List ℕ). byte ∷ l) (rest_commented (next ∷ text) is.1)

-- A piece is as it is, behind `# ` where it begins a line.
pub piece_commented : (begun : Bool) (piece : List ℕ) → 0 < length piece → IsPiece piece
    → commented begun piece ≡ (if begun then [] else 35 ∷ 32 ∷ []) ++ piece
piece_commented begun [] some is = absurd (omega (arith, some))
piece_commented true (byte ∷ text) some is = rest_commented (byte ∷ text) is
piece_commented false (byte ∷ text) some is = ap (λ (l : List ℕ). 35 ∷ 32 ∷ l) (rest_commented (byte ∷ text) is)

begun_at : (begun : Bool) (piece : List ℕ) (n : ℕ) → length piece ≡ n + 1
    → not (nat_eq (get_or piece n 0) 10) ≡ is_begun_behind begun piece
begun_at begun [] n long = absurd (omega (arith, long))
begun_at true (byte ∷ []) zero long = sym (begun_none (not (is_feed byte)))
begun_at false (byte ∷ []) zero long = sym (begun_none (not (is_feed byte)))
begun_at begun (byte ∷ []) (suc n) long = absurd (omega (arith, long))
begun_at begun (byte ∷ next ∷ text) zero long = absurd (omega (arith, long))
begun_at true (byte ∷ next ∷ text) (suc n) long = begun_at (not (is_feed byte)) (next ∷ text) n (omega (arith, long))
begun_at false (byte ∷ next ∷ text) (suc n) long = begun_at (not (is_feed byte)) (next ∷ text) n (omega (arith, long))

-- It leaves a line begun where its last byte is no line feed.
pub begun_by_last : (begun : Bool) (piece : List ℕ) → 0 < length piece
    → not (nat_eq (slice_index_or piece (length piece - 1) 0) 10) ≡ is_begun_behind begun piece
begun_by_last begun piece some = begun_at begun piece (length piece - 1) (omega (arith, some))

-- ---- a text behind another

pub commented_behind : (begun : Bool) (one two : List ℕ)
    → commented begun (one ++ two) ≡ commented begun one ++ commented (is_begun_behind begun one) two
commented_behind true [] two = refl
commented_behind false [] two = refl
commented_behind true (byte ∷ one) two = ap (λ (l : List ℕ). byte ∷ l) (commented_behind (not (is_feed byte)) one two)
commented_behind false (byte ∷ one) two =
    ap (λ (l : List ℕ). 35 ∷ 32 ∷ byte ∷ l) (commented_behind (not (is_feed byte)) one two)

pub begun_behind : (begun : Bool) (one two : List ℕ)
    → is_begun_behind begun (one ++ two) ≡ is_begun_behind (is_begun_behind begun one) two
begun_behind true [] two = refl
begun_behind false [] two = refl
begun_behind true (byte ∷ one) two = begun_behind (not (is_feed byte)) one two
begun_behind false (byte ∷ one) two = begun_behind (not (is_feed byte)) one two
