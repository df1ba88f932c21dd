-- What an output gets of the text of moves, and what is said between them.
use Rattle.std.proofs.Common.{◌≡◌, ◌||◌, ℕ, Bool, true, false, List, [], ◌∷◌, ◌++◌, Option, None, refl, sym, ap, subst, ◌∙◌, append-nil, append_assoc, codes, decimal}
use Rattle.std.specs.Prelude.{All, IfErr, Result, Ok, Err, OnOk, map}
use Rattle.std.specs.Io.KnownBytes.{Appends}
use Rattle.std.proofs.lemmas.List.Elements.{All-cons, All-nil}
use Rattle.std.specs.Fmt.{digits}
use Rattle.fk_syscalls.specs.declared.call.Answer.{Answer}
use Rattle.fuse_text.specs.Outputs.{AppendsSome}
use Rattle.fw_script.specs.Records.{answer_text, answer_words}
use Rattle.std.proofs.KnownBytes.{Appends-trans, Appends-nil}
use Rattle.fuse_text.proofs.Writes.{some_all, some_first, some_none}
use Rattle.fw_drive.specs.Findings.{Tells, is_any_move_wrong, is_any_wrong, is_wrong, is_wrong_move}
use Rattle.fw_drive.specs.LineMoves.{FirstThen, IsCollected, after_note}
use Rattle.fw_drive.specs.Moves.{GoOn, Move, end_of, notes}
use Rattle.fw_drive.specs.Notes.{Note, answer_said, difference_text, differs, errno_words, failed_errno, note_text, notes_text}
use Rattle.fw_drive.specs.PrintingLaws as laws
use Rattle.fw_drive.specs.Printing.{Says}
use Rattle.fw_drive.specs.Printed.{Gets, GetsAt, IsTextOf, next_text, no_text}
use Rattle.fw_drive.specs.Runs.{IsOwnStop, IsUnprinted}
use Rattle.fw_drive.specs.declared.form.Form.{Form}
use Rattle.fw_drive.specs.declared.stop.Stop.{Stop}
use Rattle.fw_drive.specs.declared.stop.Stop.TheVariants as stops

-- ---- outputs

pub gets_some : (s : Stop) (had has : Option (List ℕ)) (text : List ℕ) → IsUnprinted s → AppendsSome had has text
    → GetsAt s had has text
gets_some stops.NoMemory had has text is some = some
gets_some stops.OutputRefused had has text is some = some
gets_some other had has text is some = absurd is

pub gets_none : (s : Stop) (had : Option (List ℕ)) (text : List ℕ) → IsUnprinted s → GetsAt s had had text
gets_none s had text is = gets_some s had had text is (some_none had had text (Appends-nil had))

pub gets_all_at : (s : Stop) (had has : Option (List ℕ)) (text : List ℕ) → Appends had has text → GetsAt s had has text
gets_all_at stops.NoMemory had has text all = some_all had has text all
gets_all_at stops.OutputRefused had has text all = some_all had has text all
gets_all_at other had has text all = all

pub gets_all : {T : Type 0} (r : Result T Stop) (had has : Option (List ℕ)) (text : List ℕ) → Appends had has text
    → Gets r had has text
gets_all (Ok x) had has text all = all
gets_all (Err s) had has text all = gets_all_at s had has text all

pub gets_then_at : (s : Stop) (had mid has : Option (List ℕ)) (a b : List ℕ) → Appends had mid a → GetsAt s mid has b
    → GetsAt s had has (a ++ b)
gets_then_at = laws.gets_then_at

pub gets_then : {T : Type 0} (r : Result T Stop) (had mid has : Option (List ℕ)) (a b : List ℕ) → Appends had mid a
    → Gets r mid has b → Gets r had has (a ++ b)
gets_then = laws.gets_then

-- nothing more is printed, so that a beginning of the text is all
pub gets_more : (s : Stop) (had has : Option (List ℕ)) (a b : List ℕ) → IsUnprinted s → GetsAt s had has a
    → GetsAt s had has (a ++ b)
gets_more stops.NoMemory had has a b is some = some_first had has a b (a ++ b) refl some
gets_more stops.OutputRefused had has a b is some = some_first had has a b (a ++ b) refl some
gets_more other had has a b is some = absurd is

pub own_stop : (s : Stop) → IsUnprinted s → IsOwnStop s
own_stop (stops.Refused refusal) is = tt
own_stop other is = is

pub own_result : {T : Type 0} (r : Result T Stop) → IfErr r IsUnprinted → IfErr r IsOwnStop
own_result (Ok x) own = tt
own_result (Err s) own = own_stop s own

-- ---- texts

pub text_on : {A : Type 0} (f : Form) (m n : List (Move A)) (a b : List ℕ) → IsTextOf f m a → IsTextOf f n b
    → IsTextOf f (m ++ n) (a ++ b)
text_on f _ n _ b no_text two = two
text_on f _ n _ b (next_text move line is moves text one) two =
    subst (λ (l : List ℕ). IsTextOf f ((move ∷ moves) ++ n) l) (sym (append_assoc line text b))
    (next_text move line is (moves ++ n) (text ++ b) (text_on f moves n text b one two))

-- ---- what is said between

abbrev pub said_moves : {A : Type 0} → List (Note A) → List (Move A)
said_moves said = map notes said

pub text_said : {A : Type 0} (f : Form) (said : List (Note A)) → IsTextOf f (said_moves said) (notes_text said)
text_said f [] = no_text
text_said f (note ∷ said) = next_text (notes note) (note_text note) refl (said_moves said) (notes_text said) (text_said f said)

pub all_said : {A : Type 0} (P : Move A → Type 0) → ((note : Note A) → P (notes note)) → (said : List (Note A))
    → All P (said_moves said)
all_said P each [] = All-nil P
all_said P each (note ∷ said) = All-cons P (notes note) (said_moves said) (each note) (all_said P each said)

pub said_goes : {A : Type 0} (said : List (Note A)) → GoOn (said_moves said)
said_goes said = all_said (λ move. end_of move ≡ None) (λ note. refl) said

pub said_collected : {A : Type 0} (said : List (Note A)) → All IsCollected (said_moves said)
said_collected said = all_said IsCollected (λ note. tt) said

pub after_said : {A : Type 0} (F R : Move A → Type 0) (said : List (Note A)) (moves : List (Move A)) → FirstThen F R moves
    → FirstThen F R (said_moves said ++ moves)
after_said F R [] moves are = are
after_said F R (note ∷ said) moves are = after_note note (said_moves said ++ moves) (after_said F R said moves are)

-- ---- whether the server was wrong

pub or_false : (b : Bool) → (b || false) ≡ b
or_false = laws.or_false

pub or_true : (b : Bool) → (b || true) ≡ true
or_true = laws.or_true

pub tells_then : {T : Type 0} (r : Result T Stop) (old mid new one two : Bool) → mid ≡ (old || one) → Tells r mid new two
    → Tells r old new (one || two)
tells_then = laws.tells_then

-- nothing was wrong
pub tells_nothing : {T : Type 0} (r : Result T Stop) (told : Bool) → Tells r told told false
tells_nothing (Ok x) told = sym (or_false told)
tells_nothing (Err s) told = tt

-- notes that say no more
pub tells_none : {A T : Type 0} (r : Result T Stop) (told : Bool) (said : List (Note A)) → is_any_wrong said ≡ false
    → Tells r told told (is_any_wrong said)
tells_none r told said none = subst (λ (any : Bool). Tells r told told any) (sym none) (tells_nothing r told)

pub told_given : {U : Type 0} (r : Result U Stop) (old new is_said : Bool) → new ≡ (old || is_said) → Tells r old new is_said
told_given (Ok x) old new is_said told = told
told_given (Err s) old new is_said told = tt

pub moves_wrong_on : {A : Type 0} (m n : List (Move A))
    → is_any_move_wrong (m ++ n) ≡ (is_any_move_wrong m || is_any_move_wrong n)
moves_wrong_on [] n = refl
moves_wrong_on (move ∷ m) n =
    ap (λ (any : Bool). is_wrong_move move || any) (moves_wrong_on m n)
    ∙ sym (laws.or_assoc (is_wrong_move move) (is_any_move_wrong m) (is_any_move_wrong n))

pub said_wrong : {A : Type 0} (said : List (Note A)) → is_any_move_wrong (said_moves said) ≡ is_any_wrong said
said_wrong [] = refl
said_wrong (note ∷ said) = ap (λ (any : Bool). is_wrong note || any) (said_wrong said)

-- moves behind notes
pub said_wrong_then : {A : Type 0} (said : List (Note A)) (m : List (Move A))
    → is_any_move_wrong (said_moves said ++ m) ≡ (is_any_wrong said || is_any_move_wrong m)
said_wrong_then said m =
    moves_wrong_on (said_moves said) m ∙ ap (λ (any : Bool). any || is_any_move_wrong m) (said_wrong said)

-- one behind notes, which says nothing of that
pub one_wrong_then : {A : Type 0} (said : List (Note A)) (move : Move A) (m : List (Move A)) → is_wrong_move move ≡ false
    → is_any_move_wrong (said_moves said ++ move ∷ m) ≡ (is_any_wrong said || is_any_move_wrong m)
one_wrong_then said move m none =
    said_wrong_then said (move ∷ m)
    ∙ ap (λ (b : Bool). is_any_wrong said || (b || is_any_move_wrong m)) none

pub moves_tell : {A T : Type 0} (r : Result T Stop) (old mid new : Bool) (m n : List (Move A))
    → mid ≡ (old || is_any_move_wrong m) → Tells r mid new (is_any_move_wrong n) → Tells r old new (is_any_move_wrong (m ++ n))
moves_tell r old mid new m n one two =
    subst (λ (any : Bool). Tells r old new any) (sym (moves_wrong_on m n))
    (tells_then r old mid new (is_any_move_wrong m) (is_any_move_wrong n) one two)

-- ---- notes that are printed

-- a note was printed
pub says_one : {A : Type 0} (note : Note A) (had has : Option (List ℕ)) → Appends had has (note_text note)
    → (is_found : Bool) → is_found ≡ is_wrong note
    → (said : List (Note A)) × Appends had has (notes_text said) × (is_found ≡ is_any_wrong said)
says_one note had has all is_found is = (
  note ∷ [],
  subst (λ (l : List ℕ). Appends had has l) (sym (append-nil (note_text note))) all,
  is ∙ sym (or_false (is_wrong note)),
)

-- one that says nothing wrong
pub says_right : {A : Type 0} (note : Note A) (had has : Option (List ℕ)) → Appends had has (note_text note)
    → is_wrong note ≡ false → (said : List (Note A)) × Appends had has (notes_text said) × (is_any_wrong said ≡ false)
says_right note had has all none =
    let (said, printed, is) = says_one note had has all false (sym none) in (said, printed, sym is)

-- one that says that the server was wrong
pub says_wrong : {A : Type 0} (note : Note A) (had has : Option (List ℕ)) → Appends had has (note_text note)
    → is_wrong note ≡ true → (told : Bool)
    → (said : List (Note A)) × Appends had has (notes_text said) × (true ≡ (told || is_any_wrong said))
says_wrong note had has all wrongs told = (
  note ∷ [],
  subst (λ (l : List ℕ). Appends had has l) (sym (append-nil (note_text note))) all,
  sym (ap (λ (b : Bool). told || (b || false)) wrongs ∙ or_true told),
)

-- the output refused it
pub says_part : {A : Type 0} (note : Note A) (had has : Option (List ℕ)) → AppendsSome had has (note_text note)
    → (said : List (Note A)) × AppendsSome had has (notes_text said) × Unit {0}
says_part note had has some =
    (note ∷ [], subst (λ (l : List ℕ). AppendsSome had has l) (sym (append-nil (note_text note))) some, tt)

-- and it says nothing wrong
pub says_right_part : {A : Type 0} (note : Note A) (had has : Option (List ℕ)) → AppendsSome had has (note_text note)
    → is_wrong note ≡ false → (said : List (Note A)) × AppendsSome had has (notes_text said) × (is_any_wrong said ≡ false)
says_right_part note had has some none = (
  note ∷ [],
  subst (λ (l : List ℕ). AppendsSome had has l) (sym (append-nil (note_text note))) some,
  or_false (is_wrong note) ∙ none,
)

-- notes that say nothing wrong, and then others
pub right_then : (A : Type 0) {T : Type 0} (r : Result T Stop) (had mid has : Option (List ℕ)) (told tells : Bool)
    → (said : List (Note A)) × Appends had mid (notes_text said) × (is_any_wrong said ≡ false)
    → Says A r (mid, told) (has, tells) → Says A r (had, told) (has, tells)
right_then A r had mid has told tells (said, all, none) more =
    let q : Result (Unit {0}) Stop = Ok tt in
    laws.says_then A r (had, told) (mid, told) (has, tells) (said, all, tells_none q told said none) more

-- ---- lines of answers

all_parts : (a d b w l n r p x y f : List ℕ)
    → a ++ d ++ b ++ w ++ l ++ n ++ r ++ p ++ x ++ y ++ f ≡ ((a ++ (d ++ b)) ++ (w ++ (l ++ (n ++ r)))) ++ (p ++ (x ++ (y ++ f)))
all_parts a d b w l n r p x y f = simp append_assoc

pub difference_parts : (call : ℕ) (words : List ℕ) (line : ℕ) (answer here : List ℕ)
    → difference_text call words line answer here
    ≡ ((codes "differs: answer " ++ (decimal call ++ codes " (")) ++ (words ++ (codes ", line " ++ (decimal line ++ codes "): "))))
    ++ (answer ++ (codes ", here " ++ (here ++ codes "\n")))
difference_parts call words line answer here =
    all_parts (codes "differs: answer ") (decimal call) (codes " (") words (codes ", line ") (decimal line) (codes "): ") answer
    (codes ", here ") here (codes "\n")

-- the line of an answered call of the number 0
pub answer_parts : {A : Type 0} (answer : Answer A)
    → answer_text 0 answer ≡ codes "answer 0 " ++ answer_words answer ++ codes "\n"
unfolding digits
answer_parts answer = refl

pub said_is : {A : Type 0} (answer : Answer A) (errno : Option ℕ) (words : List ℕ) → errno ≡ failed_errno answer
    → words ≡ answer_words answer → errno_words errno ++ words ≡ answer_said answer
said_is answer errno words is same =
    ap (λ (e : Option ℕ). errno_words e ++ words) is ∙ ap (λ (l : List ℕ). errno_words (failed_errno answer) ++ l) same

pub difference_is : {A : Type 0} (call : ℕ) (said : List ℕ) (line : ℕ) (answer here : Answer A) (words words_here : List ℕ)
    → words ≡ answer_said answer → words_here ≡ answer_said here
    → difference_text call said line words words_here ≡ note_text (differs call said line answer here)
difference_is call said line answer here words words_here is is_here =
    ap (λ (l : List ℕ). difference_text call said line l words_here) is
    ∙ ap (λ (l : List ℕ). difference_text call said line (answer_said answer) l) is_here

-- ---- parts

pub five_parts : (a b c d e : List ℕ) → a ++ b ++ c ++ d ++ e ≡ (a ++ b) ++ (c ++ (d ++ e))
five_parts a b c d e = simp append_assoc

-- the first part was taken, and then the rest was
pub taken_then : {T E : Type 0} (r : Result T E) (old mid new : Option (List ℕ)) (first rest whole : List ℕ)
    → whole ≡ first ++ rest → Appends old mid first → OnOk r (Appends mid new rest) → OnOk r (Appends old new whole)
taken_then (Ok x) old mid new first rest whole is before after =
    subst (λ (l : List ℕ). Appends old new l) (sym is) (Appends-trans old mid new first rest before after)
taken_then (Err e) old mid new first rest whole is before after = tt
