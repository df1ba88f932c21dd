-- The moves of lines, one line after another.
use Rattle.std.proofs.Common.{◌≡◌, ◌⊎◌, ◌+◌, ◌<◌, ℕ, List, [], ◌∷◌, ◌++◌, length, take, drop, get_or, inl, inr, refl, sym, ap, subst, ◌∙◌, append-nil, append_assoc, take-append-drop}
use Rattle.std.specs.Prelude.{All, Result, Ok, Err}
use Rattle.std.proofs.lemmas.List.{take_more}
use Rattle.std.proofs.lemmas.List.Elements.{All-append, All-cons, All-nil, All-same, All-weaker}
use Rattle.fuse_device.specs.Transfers.{Transfer}
use Rattle.fk_kernel.specs.declared.read.Pick.{Pick}
use Rattle.fk_drive.specs.Driving.{Driven}
use Rattle.fw_drive.specs.DriveLines.{IsOfCalls}
use Rattle.fw_drive.specs.Findings.{Told}
use Rattle.fw_drive.specs.LineMoves.{Carries, FirstLinesMove, FirstThen, after_note, first_move, IsCarriedBy, IsCollected, IsMoveOf, IsSentBy, IsWritten, LinesMove, LinesMoveAs, MayFollow, Perhaps, all_lines, mount_line, mount_lines, next_line, no_line}
use Rattle.fw_drive.specs.Moves.{Move, sends, writes, collects, notes}
use Rattle.fw_drive.specs.Notes.{Note}
use Rattle.fw_drive.specs.Runs.{Goes}
use Rattle.fw_drive.specs.declared.form.Form.{Form}
use Rattle.fw_drive.specs.declared.form.Form.TheVariants as form
use Rattle.fw_drive.specs.declared.line.DriveLine.{DriveLine}
use Rattle.fw_drive.specs.declared.line.DriveLine.TheVariants as line
use Rattle.fw_drive.specs.declared.stop.Stop.{Stop}
use Rattle.fw_drive.proofs.Following.{weaker}

pub first_weaker : {A : Type 0} (F G R S : Move A → Type 0) → ((m : Move A) → F m → G m) → ((m : Move A) → R m → S m)
    → (moves : List (Move A)) → FirstThen F R moves → FirstThen G S moves
first_weaker F G R S first rest _ (first_move m is moves are) =
    first_move m (first m is) moves (All-weaker R S rest moves are)
first_weaker F G R S first rest _ (after_note note moves are) =
    after_note note moves (first_weaker F G R S first rest moves are)

pub first_on : {A : Type 0} (F R : Move A → Type 0) (m n : List (Move A)) → FirstThen F R m → All R n
    → FirstThen F R (m ++ n)
first_on F R _ n (first_move x is m are) more = first_move x is (m ++ n) (All-append R m n are more)
first_on F R _ n (after_note note m are) more = after_note note (m ++ n) (first_on F R m n are more)

pub perhaps : {A T E : Type 0} (r : Result T E) (Are : List (Move A) → Type 0) (moves : List (Move A)) → Are moves
    → Perhaps r Are moves
perhaps (Ok x) Are moves holds = holds
perhaps (Err e) Are moves holds = inr holds

pub perhaps_weaker : {A T E : Type 0} (r : Result T E) (P Q : List (Move A) → Type 0)
    → ((m : List (Move A)) → P m → Q m) → (m : List (Move A)) → Perhaps r P m → Perhaps r Q m
perhaps_weaker (Ok x) P Q less m holds = less m holds
perhaps_weaker (Err e) P Q less m (inl none) = inl none
perhaps_weaker (Err e) P Q less m (inr holds) = inr (less m holds)

pub collected_carries : {A : Type 0} (move : Move A) → IsCollected move → Carries move
collected_carries (collects call answer) is = tt
collected_carries (notes note) is = tt
collected_carries move is = absurd is

pub collected_follows : {A : Type 0} (f : Form) (move : Move A) → IsCollected move → MayFollow f move
collected_follows form.Events move is = is
collected_follows form.Calls move is = collected_carries move is
collected_follows form.CallsBeside move is = collected_carries move is

pub note_follows : {A : Type 0} (f : Form) (note : Note A) → MayFollow f (notes note)
note_follows form.Events note = tt
note_follows form.Calls note = tt
note_follows form.CallsBeside note = tt

pub carries_follows : {A : Type 0} (f : Form) → IsOfCalls f → (move : Move A) → Carries move → MayFollow f move
carries_follows form.Events of_calls move is = absurd of_calls
carries_follows form.Calls of_calls move is = is
carries_follows form.CallsBeside of_calls move is = is

pub mounts : (f : Form) → IsOfCalls f → mount_lines f ≡ mount_line ∷ []
mounts form.Events of_calls = absurd of_calls
mounts form.Calls of_calls = refl
mounts form.CallsBeside of_calls = refl

pub mounts_not : (f : Form) → (IsOfCalls f → ⊥) → mount_lines f ≡ []
mounts_not form.Events never = refl
mounts_not form.Calls never = absurd (never tt)
mounts_not form.CallsBeside never = absurd (never tt)

module _ {A : Type 0} (f : Form) where
  pub lines_on : (a b : List DriveLine) (m n : List (Move A)) → LinesMove f a m → LinesMove f b n
      → LinesMove f (a ++ b) (m ++ n)
  lines_on a _ m _ one no_line =
      subst (λ (l : List DriveLine). LinesMove f l (m ++ [])) (sym (append-nil a))
      (subst (λ (k : List (Move A)). LinesMove f a k) (sym (append-nil m)) one)
  lines_on a _ m _ one (next_line lines moves two line more are) =
      subst (λ (l : List DriveLine). LinesMove f l (m ++ (moves ++ more))) (append_assoc a lines (line ∷ []))
      (subst (λ (k : List (Move A)). LinesMove f ((a ++ lines) ++ line ∷ []) k) (append_assoc m moves more)
      (next_line (a ++ lines) (m ++ moves) (lines_on a lines m moves one two) line more are))

  pub one_line : (line : DriveLine) (m : List (Move A)) → FirstThen (IsMoveOf line) (MayFollow f) m
      → LinesMove f (line ∷ []) m
  one_line line m are = next_line [] [] no_line line m are

  -- the first lines failed, so that others were not reached
  pub as_before : (a b : List DriveLine) (m : List (Move A)) → FirstLinesMove f a m → FirstLinesMove f (a ++ b) m
  as_before a b m (done, rest, is, moves) =
      (done, rest ++ b, ap (λ (l : List DriveLine). l ++ b) is ∙ append_assoc done rest b, moves)

  pub first_then : (a b : List DriveLine) (m n : List (Move A)) → LinesMove f a m → FirstLinesMove f b n
      → FirstLinesMove f (a ++ b) (m ++ n)
  first_then a b m n one (done, rest, is, two) = (
    a ++ done,
    rest,
    ap (λ (l : List DriveLine). a ++ l) is ∙ sym (append_assoc a done rest),
    lines_on a done m n one two,
  )

  pub first_line : (line : DriveLine) (m : List (Move A)) → (m ≡ []) ⊎ FirstThen (IsMoveOf line) (MayFollow f) m
      → FirstLinesMove f (line ∷ []) m
  first_line line m (inl none) =
      ([], line ∷ [], refl, subst (λ (k : List (Move A)). LinesMove f [] k) (sym none) no_line)
  first_line line m (inr are) = (line ∷ [], [], refl, one_line line m are)

  -- these lines, and then those, as far as they came
  pub as_then : {T E : Type 0} (r : Result T E) (a b : List DriveLine) (m n : List (Move A)) → LinesMove f a m
      → LinesMoveAs f r b n → LinesMoveAs f r (a ++ b) (m ++ n)
  as_then (Ok x) a b m n one two = lines_on a b m n one two
  as_then (Err e) a b m n one two = first_then a b m n one two

  -- one line, as far as it came
  pub as_line : {T E : Type 0} (r : Result T E) (line : DriveLine) (m : List (Move A))
      → Perhaps r (FirstThen (IsMoveOf line) (MayFollow f)) m → LinesMoveAs f r (line ∷ []) m
  as_line (Ok x) line m are = one_line line m are
  as_line (Err e) line m are = first_line line m are

  -- one line more
  pub line_more : (lines : List DriveLine) (k : ℕ) (d : DriveLine) → k < length lines → (m n : List (Move A))
      → LinesMove f (take k lines) m → FirstThen (IsMoveOf (get_or lines k d)) (MayFollow f) n
      → LinesMove f (take (k + 1) lines) (m ++ n)
  line_more lines k d within m n one are =
      subst (λ (l : List DriveLine). LinesMove f l (m ++ n)) (sym (take_more lines k d within))
      (next_line (take k lines) m one (get_or lines k d) n are)

  -- it failed
  pub line_failed : (lines : List DriveLine) (k : ℕ) (d : DriveLine) → k < length lines → (m n : List (Move A))
      → LinesMove f (take k lines) m → (n ≡ []) ⊎ FirstThen (IsMoveOf (get_or lines k d)) (MayFollow f) n
      → FirstLinesMove f lines (m ++ n)
  line_failed lines k d within m n one are =
      let front = take k lines ++ get_or lines k d ∷ [] in
      let split : front ++ drop (k + 1) lines ≡ lines =
      ap (λ (l : List DriveLine). l ++ drop (k + 1) lines) (sym (take_more lines k d within))
      ∙ take-append-drop (k + 1) lines in
      subst (λ (l : List DriveLine). FirstLinesMove f l (m ++ n)) split
      (as_before front (drop (k + 1) lines) (m ++ n)
      (first_then (take k lines) (get_or lines k d ∷ []) m n one (first_line (get_or lines k d) n are)))

-- ---- how calls are carried

both_carry : {A : Type 0} (F : Move A → Type 0) → ((m : Move A) → F m → Carries m) → (moves : List (Move A))
    → FirstThen F IsCollected moves → All Carries moves
both_carry F first _ (first_move m is moves are) =
    All-cons Carries m moves (first m is) (All-weaker IsCollected Carries collected_carries moves are)
both_carry F first _ (after_note note moves are) =
    All-cons Carries (notes note) moves tt (both_carry F first moves are)

written_one : {A : Type 0} (move : Move A) → IsWritten move → Carries move
written_one (writes result) is = tt
written_one move is = absurd is

sent_one : {A : Type 0} (pick : Pick) → IsCarriedBy pick → (move : Move A) → IsSentBy pick move → Carries move
sent_one pick by (sends picked fields result) is = subst IsCarriedBy (sym is) by
sent_one pick by move is = absurd is

pub written_carries : {A : Type 0} (moves : List (Move A)) → FirstThen IsWritten IsCollected moves → All Carries moves
written_carries moves are = both_carry IsWritten written_one moves are

pub sent_carries : {A : Type 0} (pick : Pick) → IsCarriedBy pick → (moves : List (Move A))
    → FirstThen (IsSentBy pick) IsCollected moves → All Carries moves
sent_carries pick by moves are = both_carry (IsSentBy pick) (sent_one pick by) moves are

pub failed_carries : {A : Type 0} (P : List (Move A) → Type 0) → ((m : List (Move A)) → P m → All Carries m)
    → (moves : List (Move A)) → (moves ≡ []) ⊎ P moves → All Carries moves
failed_carries P less moves (inl none) = All-same Carries moves [] none (All-nil Carries)
failed_carries P less moves (inr are) = less moves are

-- A line's move was made, which says of it the same as the line.
pub as_line_move : {A T E : Type 0} (r : Result T E) (line made : DriveLine) (First : Move A → Type 0) → line ≡ made
    → ((move : Move A) → First move → IsMoveOf made move) → (moves : List (Move A)) → FirstThen First IsCollected moves
    → Perhaps r (FirstThen (IsMoveOf line) IsCollected) moves
as_line_move r line made First is says moves are =
    perhaps r (FirstThen (IsMoveOf line) IsCollected) moves
    (first_weaker First (IsMoveOf line) IsCollected IsCollected
    (λ move first. subst (λ (l : DriveLine). IsMoveOf l move) (sym is) (says move first)) (λ move is. is) moves are)

-- and the call failed
pub failed_line : {A : Type 0} (line made : DriveLine) (First : Move A → Type 0) → line ≡ made
    → ((move : Move A) → First move → IsMoveOf made move) → (moves : List (Move A))
    → (moves ≡ []) ⊎ FirstThen First IsCollected moves → (moves ≡ []) ⊎ FirstThen (IsMoveOf line) IsCollected moves
failed_line line made First is says moves (inl none) = inl none
failed_line line made First is says moves (inr are) =
    inr (first_weaker First (IsMoveOf line) IsCollected IsCollected
    (λ move first. subst (λ (l : DriveLine). IsMoveOf l move) (sym is) (says move first)) (λ move is. is) moves are)

-- a call made the moves of a line that is known
pub said_line : (A : Type 0) {D T : Type 0} (logs : D → D → List Transfer → Type 0) (f : Form) (d : D)
    (had has : Told) (driver : Driven) (r : Result T Stop) (line made : DriveLine) → line ≡ made
    → Goes A logs f d d had has driver driver r (FirstThen (IsMoveOf made) IsCollected)
    → Goes A logs f d d had has driver driver r (Perhaps r (FirstThen (IsMoveOf line) IsCollected))
said_line A logs f d had has driver r line made is goes =
    weaker A logs f d d had has driver driver r (FirstThen (IsMoveOf made) IsCollected)
    (Perhaps r (FirstThen (IsMoveOf line) IsCollected)) goes
    (λ m are. perhaps r (FirstThen (IsMoveOf line) IsCollected) m
    (subst (λ (l : DriveLine). FirstThen (IsMoveOf l) IsCollected m) (sym is) are))

-- ---- the lines of a script

pub mounted : {A : Type 0} (f : Form) → IsOfCalls f → (m : List (Move A)) → FirstThen (IsMoveOf mount_line) Carries m
    → LinesMove f (mount_lines f) m
mounted f of_calls m are =
    subst (λ (l : List DriveLine). LinesMove f l m) (sym (mounts f of_calls))
    (one_line f mount_line m
    (first_weaker (IsMoveOf mount_line) (IsMoveOf mount_line) Carries (MayFollow f) (λ move is. is)
    (carries_follows f of_calls) m are))

pub mounted_then : {A T E : Type 0} (f : Form) → IsOfCalls f → (r : Result T E) (lines : List DriveLine)
    (m n : List (Move A)) → FirstThen (IsMoveOf mount_line) Carries m → LinesMoveAs f r lines n
    → LinesMoveAs f r (mount_lines f ++ lines) (m ++ n)
mounted_then f of_calls r lines m n are more =
    as_then f r (mount_lines f) lines m n (mounted f of_calls m are) more

pub mount_failed : {A : Type 0} (f : Form) → IsOfCalls f → (lines : List DriveLine) (m : List (Move A))
    → FirstThen (IsMoveOf mount_line) Carries m → FirstLinesMove f (mount_lines f ++ lines) m
mount_failed f of_calls lines m are = (mount_lines f, lines, refl, mounted f of_calls m are)

pub unmounted : {A T E : Type 0} (f : Form) → (IsOfCalls f → ⊥) → (r : Result T E) (lines : List DriveLine)
    (m : List (Move A)) → LinesMoveAs f r lines m → LinesMoveAs f r (mount_lines f ++ lines) m
unmounted f never r lines m are =
    subst (λ (l : List DriveLine). LinesMoveAs f r (l ++ lines) m) (sym (mounts_not f never)) are

-- and the nodes were shown
pub shown_then : {A T E : Type 0} (f : Form) (r : Result T E) (lines : List DriveLine) (m n : List (Move A))
    → LinesMove f (mount_lines f ++ lines) m → Perhaps r (FirstThen (IsMoveOf line.Show) (MayFollow f)) n
    → LinesMoveAs f r (all_lines f lines) (m ++ n)
shown_then f r lines m n are shown =
    as_then f r (mount_lines f ++ lines) (line.Show ∷ []) m n are (as_line f r line.Show n shown)

pub lines_failed : {A : Type 0} (f : Form) (lines : List DriveLine) (m : List (Move A))
    → FirstLinesMove f (mount_lines f ++ lines) m → FirstLinesMove f (all_lines f lines) m
lines_failed f lines m are = as_before f (mount_lines f ++ lines) (line.Show ∷ []) m are

pub no_lines : (A : Type 0) (f : Form) (lines : List DriveLine) → FirstLinesMove {A = A} f lines []
no_lines A f lines = ([], lines, refl, no_line)
