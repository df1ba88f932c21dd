-- How texts and notes that are printed follow one another.
use Rattle.std.proofs.Common.{◌≡◌, ◌||◌, ℕ, Bool, true, false, List, [], ◌∷◌, ◌++◌, Option, refl, sym, ap, subst, ◌∙◌, append_assoc}
use Rattle.std.specs.Prelude.{Result, Ok, Err}
use Rattle.std.specs.Io.KnownBytes.{Appends}
use Rattle.std.proofs.KnownBytes.{Appends-trans, Appends-nil}
use Rattle.fuse_text.proofs.Writes.{some_then}
use Rattle.fw_drive.specs.Findings.{Tells, Told, is_any_wrong, is_wrong}
use Rattle.fw_drive.specs.Notes.{Note, note_text, notes_text}
use Rattle.fw_drive.specs.Printed.{Gets, GetsAt}
use Rattle.fw_drive.specs.Printing.{HasPrinted, PrintsOn, Says}
use Rattle.fw_drive.specs.declared.stop.Stop.{Stop}
use Rattle.fw_drive.specs.declared.stop.Stop.TheVariants as stops

pub gets_then_at : (s : Stop) (had mid has : Option (List ℕ)) (a b : List ℕ) → Appends had mid a → GetsAt s mid has b
    → GetsAt s had has (a ++ b)
gets_then_at stops.NoMemory had mid has a b one two = some_then had mid has a b (a ++ b) refl one two
gets_then_at stops.OutputRefused had mid has a b one two = some_then had mid has a b (a ++ b) refl one two
gets_then_at other had mid has a b one two = Appends-trans had mid has a b one two

pub gets_then : {T : Type 0} (r : Result T Stop) (had mid has : Option (List ℕ)) (a b : List ℕ) → Appends had mid a
    → Gets r mid has b → Gets r had has (a ++ b)
gets_then (Ok x) had mid has a b one two = Appends-trans had mid has a b one two
gets_then (Err s) had mid has a b one two = gets_then_at s had mid has a b one two

notes_on : {A : Type 0} (a b : List (Note A)) → notes_text (a ++ b) ≡ notes_text a ++ notes_text b
notes_on [] b = refl
notes_on (note ∷ a) b =
    ap (λ (l : List ℕ). note_text note ++ l) (notes_on a b) ∙ sym (append_assoc (note_text note) (notes_text a) (notes_text b))

-- ---- whether the server was wrong

pub or_false : (b : Bool) → (b || false) ≡ b
or_false true = refl
or_false false = refl

pub or_true : (b : Bool) → (b || true) ≡ true
or_true true = refl
or_true false = refl

pub or_assoc : (a b c : Bool) → ((a || b) || c) ≡ (a || (b || c))
or_assoc true b c = refl
or_assoc false b c = refl

pub tells_then : {T : Type 0} (r : Result T Stop) (old mid new one two : Bool) → mid ≡ (old || one) → Tells r mid new two
    → Tells r old new (one || two)
tells_then (Ok x) old mid new one two first then =
    then ∙ ap (λ (b : Bool). b || two) first ∙ or_assoc old one two
tells_then (Err s) old mid new one two first then = tt

wrong_on : {A : Type 0} (a b : List (Note A)) → is_any_wrong (a ++ b) ≡ (is_any_wrong a || is_any_wrong b)
wrong_on [] b = refl
wrong_on (note ∷ a) b =
    ap (λ (any : Bool). is_wrong note || any) (wrong_on a b) ∙ sym (or_assoc (is_wrong note) (is_any_wrong a) (is_any_wrong b))

pub says_then : (A : Type 0) {T : Type 0} (r : Result T Stop) (had mid has : Told)
    → (let first : Result (Unit {0}) Stop = Ok tt in Says A first had mid) → Says A r mid has → Says A r had has
says_then A r had mid has (a, one, told) (b, two, tells) = (
  a ++ b,
  subst (λ (l : List ℕ). Gets r had.0 has.0 l) (sym (notes_on a b))
      (gets_then r had.0 mid.0 has.0 (notes_text a) (notes_text b) one two),
  subst (λ (any : Bool). Tells r had.1 has.1 any) (sym (wrong_on a b))
      (tells_then r had.1 mid.1 has.1 (is_any_wrong a) (is_any_wrong b) told tells),
)

pub prints_nothing : (A : Type 0) (r : Result (Unit {0}) Stop) (had : Told) → PrintsOn A r r had had
prints_nothing A (Ok _) had = (tt, [], Appends-nil had.0, sym (or_false had.1))
prints_nothing A (Err stop) had = (refl, refl)

pub prints_then : (A : Type 0) (a b c : Result (Unit {0}) Stop) (had mid has : Told) → PrintsOn A a b had mid
    → PrintsOn A b c mid has → PrintsOn A a c had has
prints_then A (Ok x) (Ok y) c had mid has (own, said, one, told) (owned, more, two, tells) =
    let (all, printed, is) = says_then A c had mid has (said, one, told) (more, two, tells) in (owned, all, printed, is)
prints_then A (Ok x) (Err stop) c had mid has (own, said, one, told) (same, kept) =
    subst (λ (r : Result (Unit {0}) Stop). HasPrinted A r had has) (sym same)
    (subst (λ (t : Told). (let r : Result (Unit {0}) Stop = Err stop in HasPrinted A r had t)) (sym kept) (own, said, one, told))
prints_then A (Err stop) b c had mid has (same, kept) two =
    let (again, more) = subst (λ (r : Result (Unit {0}) Stop). PrintsOn A r c mid has) same two in
    (again, more ∙ kept)
