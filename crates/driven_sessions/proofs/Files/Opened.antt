-- How often a file is open as a session goes on, and which requests wait then.
use Rattle.std.proofs.Common.{◌≡◌, ℕ, ◌+◌, ◌≤◌, ◌<◌, Bool, true, false, ◌&&◌, cond, not, List, [], ◌∷◌, ◌++◌, filter, nat_eq, append-nil, append_assoc, refl, ap, sym, subst, ◌∙◌, arith}
use Rattle.std.specs.List.{list_all, list_any}
use Rattle.std.specs.Prelude.{sum_by}
use Rattle.std.proofs.lemmas.Bool.Decides.{nat_tests}
use Rattle.std.proofs.lemmas.Bool.{and_parts, false≢true}
use Rattle.std.proofs.lemmas.List.Sums.{sum_by-append, sum_by-cons}
use Rattle.fuse_spec.specs.declared.Opened.{Opened}
use Rattle.fuse_sessions.specs.declared.act.Act.{Act}
use Rattle.fuse_sessions.specs.declared.act.Act.TheVariants as act
use Rattle.fuse_sessions.specs.declared.act.Asked.{Asked}
use Rattle.fuse_sessions.specs.declared.act.OpenFile.{OpenFile}
use Rattle.fuse_sessions.specs.declared.act.OpenKind.{OpenKind}
use Rattle.fuse_sessions.specs.declared.act.OpenKind.TheVariants as kind
use Rattle.fuse_sessions.specs.OpenFiles.{IsUsable, MayUse, has_none, opened, opens_this, releases_this}
use Rattle.fuse_sessions.specs.Sessions.{Session, left}
use Rattle.fuse_sessions.specs.Waiting.{asked_by, ends, is_used, same_kind, uses_file, waiting}
use Rattle.fuse_sessions.proofs.Laws.{waiting-more}
use Rattle.driven_sessions.proofs.Asks.{AllAsk, EachAsked, each_append, each_kept}

-- the open file of a session that an open file of this kind is
abbrev pub as_file : OpenKind → Opened → OpenFile
as_file which o = record { kind = which; nodeid = o.nodeid; fh = o.fh }

-- that which an open file of the kernel is
abbrev pub open_file : Opened → OpenFile
open_file o = as_file kind.File o

pub kind_self : (which : OpenKind) → same_kind which which ≡ true
kind_self kind.File = refl
kind_self kind.Directory = refl

-- whether an open file is this one, as a number
abbrev pub is_file : Opened → Opened → ℕ
is_file o x = cond (nat_eq x.nodeid o.nodeid && nat_eq x.fh o.fh) 1 0

-- how often acts open a file, and release it
abbrev pub opens_in : OpenFile → List Act → ℕ
opens_in file acts = sum_by (opens_this file) acts

abbrev pub releases_in : OpenFile → List Act → ℕ
releases_in file acts = sum_by (releases_this file) acts

-- ---- what is left of what is given

module _ (gives takes : Act → ℕ) where
  left_least : (acts : List Act) → sum_by gives acts ≤ left gives takes acts + sum_by takes acts
  left_least [] = omega arith
  left_least (a ∷ acts) = omega arith

  pub left_most : (acts : List Act) → left gives takes acts ≤ sum_by gives acts
  left_most [] = omega arith
  left_most (a ∷ acts) =
      let sum = sum_by-cons gives a acts in
      let rest = left_most acts in
      omega (arith, sum, rest)

  left_on : (s acts : List Act) → left gives takes s + sum_by gives acts ≤ left gives takes (s ++ acts) + sum_by takes acts
  left_on [] acts = let least = left_least acts in omega (arith, least)
  left_on (a ∷ s) acts =
      let more = sum_by-append gives (a ∷ s) acts in
      let fewer = sum_by-append takes (a ∷ s) acts in
      let rest = left_on s acts in
      omega (arith, more, fewer, rest)

  left_up : (s acts : List Act) → left gives takes (s ++ acts) ≤ left gives takes s + sum_by gives acts
  left_up [] acts = let most = left_most acts in omega (arith, most)
  left_up (a ∷ s) acts =
      let more = sum_by-append gives (a ∷ s) acts in
      let fewer = sum_by-append takes (a ∷ s) acts in
      let rest = left_up s acts in
      omega (arith, more, fewer, rest)

-- ---- how often a file is open

pub opened_on : (file : OpenFile) (s acts : List Act)
    → opened s file + opens_in file acts ≤ opened (s ++ acts) file + releases_in file acts
opened_on file s acts = left_on (opens_this file) (releases_this file) s acts

pub opened_up : (file : OpenFile) (s acts : List Act) → opened (s ++ acts) file ≤ opened s file + opens_in file acts
opened_up file s acts = left_up (opens_this file) (releases_this file) s acts

-- A file of which one is opened is opened.
pub file_most : (which : OpenKind) (o q : Opened) (acts : List Act) → 1 ≤ opens_in (as_file which q) acts → is_file o q ≤ opens_in (as_file which o) acts
file_most which o q acts some = by (nat_eq q.nodeid o.nodeid) (nat_eq q.fh o.fh) refl refl
  where
    equal : (a b : ℕ) → nat_eq a b ≡ true → a ≡ b
    equal a b e = grind (arith, nat_tests, e)

    by : (a b : Bool) → nat_eq q.nodeid o.nodeid ≡ a → nat_eq q.fh o.fh ≡ b → cond (a && b) 1 0 ≤ opens_in (as_file which o) acts
    by true true node fh =
        let same_node = equal q.nodeid o.nodeid node in
        let same_fh = equal q.fh o.fh fh in
        let same : q ≡ o = λ i. record { nodeid = same_node i; fh = same_fh i } in
        subst (λ (x : Opened). 1 ≤ opens_in (as_file which x) acts) same some
    by true false node fh = omega arith
    by false b node fh = omega arith

-- A file that is open may be used.
pub open_used : (s : Session) (file : OpenFile) → 0 < opened s file → MayUse s file
open_used s file some = by (has_none s file.kind && nat_eq file.fh 0)
  where
    by : (b : Bool) → IsUsable (opened s file) b
    by true = tt
    by false = some

-- ---- acts that open and release nothing, and ask and answer nothing

abbrev pub is_still : Act → Bool
is_still (act.Opens file) = false
is_still (act.Releases file) = false
is_still (act.Asks unique asked) = false
is_still (act.Resent unique original) = false
is_still (act.Replies unique t) = false
is_still a = true

abbrev pub AreStill : List Act → Type 0
AreStill acts = list_all is_still acts ≡ true

still_ends : (a : Act) → is_still a ≡ true → (u : ℕ) → ends u a ≡ false
still_ends (act.Asks unique asked) is u = absurd (false≢true is)
still_ends (act.Resent unique original) is u = absurd (false≢true is)
still_ends (act.Replies unique t) is u = absurd (false≢true is)
still_ends a is u = refl

still_asks : (a : Act) → is_still a ≡ true → asked_by a ≡ []
still_asks (act.Asks unique asked) is = absurd (false≢true is)
still_asks a is = refl

still_opens : (file : OpenFile) (a : Act) → is_still a ≡ true → opens_this file a ≡ 0
still_opens file (act.Opens other) is = absurd (false≢true is)
still_opens file a is = refl

still_releases : (file : OpenFile) (a : Act) → is_still a ≡ true → releases_this file a ≡ 0
still_releases file (act.Releases other) is = absurd (false≢true is)
still_releases file a is = refl

none_ended : (a : Act) → is_still a ≡ true → (es : List (ℕ × Asked)) → filter (λ (e : ℕ × Asked). not (ends e.0 a)) es ≡ es
none_ended a is [] = refl
none_ended a is (e ∷ es) = ap (λ (b : Bool). cond (not b) (e ∷ filter (λ (x : ℕ × Asked). not (ends x.0 a)) es)
    (filter (λ (x : ℕ × Asked). not (ends x.0 a)) es)) (still_ends a is e.0)
    ∙ ap (λ (l : List (ℕ × Asked)). e ∷ l) (none_ended a is es)

pub still_waiting : (s acts : List Act) → AreStill acts → waiting (s ++ acts) ≡ waiting s
still_waiting s [] are = ap waiting (append-nil s)
still_waiting s (a ∷ acts) are =
    let both = and_parts (is_still a) (list_all is_still acts) are in
    ap waiting (sym (append_assoc s (a ∷ []) acts)) ∙ still_waiting (s ++ a ∷ []) acts both.1 ∙ waiting-more s a
    ∙ ap (λ (l : List (ℕ × Asked)). filter (λ (e : ℕ × Asked). not (ends e.0 a)) (waiting s) ++ l) (still_asks a both.0)
    ∙ append-nil (filter (λ (e : ℕ × Asked). not (ends e.0 a)) (waiting s)) ∙ none_ended a both.0 (waiting s)

pub still_used : (s acts : List Act) → AreStill acts → (file : OpenFile) → is_used (s ++ acts) file ≡ is_used s file
still_used s acts are file = ap (list_any (λ (e : ℕ × Asked). uses_file file e.1)) (still_waiting s acts are)

pub still_sums : (file : OpenFile) (acts : List Act) → AreStill acts → (opens_in file acts ≡ 0) × (releases_in file acts ≡ 0)
still_sums file [] are = (refl, refl)
still_sums file (a ∷ acts) are =
    let both = and_parts (is_still a) (list_all is_still acts) are in
    let rest = still_sums file acts both.1 in
    let opens = sum_by-cons (opens_this file) a acts in
    let releases = sum_by-cons (releases_this file) a acts in
    let first = still_opens file a both.0 in
    let second = still_releases file a both.0 in
    let none = rest.0 in
    let zero = rest.1 in
    (omega (arith, opens, first, none), omega (arith, releases, second, zero))

pub still_opened : (s acts : List Act) → AreStill acts → (file : OpenFile) → opened (s ++ acts) file ≡ opened s file
still_opened s acts are file =
    let sums = still_sums file acts are in
    let on = opened_on file s acts in
    let up = opened_up file s acts in
    let opens = sums.0 in
    let releases = sums.1 in
    omega (arith, on, up, opens, releases)

-- ---- what waits is such

-- What waits behind acts waited before, or is asked by one of them.
pub each_on : (P : ℕ → Asked → Type 0) (s acts : List Act) → EachAsked P (waiting s) → AllAsk P acts
    → EachAsked P (waiting (s ++ acts))
each_on P s [] each all = subst (λ (l : Session). EachAsked P (waiting l)) (sym (append-nil s)) each
each_on P s (a ∷ acts) each all = subst (λ (l : Session). EachAsked P (waiting l)) (append_assoc s (a ∷ []) acts)
    (each_on P (s ++ a ∷ []) acts (subst (EachAsked P) (sym (waiting-more s a))
    (each_append P (filter (λ (e : ℕ × Asked). not (ends e.0 a)) (waiting s)) (asked_by a)
    (each_kept P (λ (e : ℕ × Asked). not (ends e.0 a)) (waiting s) each) (one a all))) (rest a all))
  where
    one : (a : Act) → AllAsk P (a ∷ acts) → EachAsked P (asked_by a)
    one (act.Asks unique asked) all = (all.0, tt)
    one a all = tt

    rest : (a : Act) → AllAsk P (a ∷ acts) → AllAsk P acts
    rest (act.Asks unique asked) all = all.1
    rest a all = all

pub each_map : (P Q : ℕ → Asked → Type 0) → ((u : ℕ) (a : Asked) → P u a → Q u a) → (es : List (ℕ × Asked)) → EachAsked P es
    → EachAsked Q es
each_map P Q to [] each = tt
each_map P Q to (e ∷ es) each = (to e.0 e.1 each.0, each_map P Q to es each.1)
