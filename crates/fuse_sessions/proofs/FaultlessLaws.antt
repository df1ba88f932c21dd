-- Sessions in which a party has no fault.
use Rattle.std.proofs.Common.{◌≡◌, ◌≢◌, ◌≤◌, ◌<◌, ◌⊎◌, ℕ, ◌+◌, Bool, true, [], ◌∷◌, ◌++◌, length, Some, refl, sym, ◌∙◌, ap, append_assoc, append-nil, arith, subst, inl, inr}
use Rattle.std.specs.Prelude.{slice_get, take}
use Rattle.std.proofs.lemmas.Bool.{cases_eq}
use Rattle.fuse_sessions.specs.declared.act.Act.{Act}
use Rattle.fuse_sessions.specs.declared.act.Act.TheVariants as act
use Rattle.fuse_sessions.specs.declared.act.File.{File}
use Rattle.fuse_sessions.specs.declared.fault.Fault.{Fault}
use Rattle.fuse_sessions.specs.declared.fault.Fault.TheVariants as fault
use Rattle.fuse_sessions.specs.declared.fault.Party.{Party}
use Rattle.fuse_sessions.specs.declared.fault.Party.TheVariants.{Kernel, Server}
use Rattle.fuse_sessions.specs.Sessions.{Session}
use Rattle.fuse_sessions.specs.Counts.{forgets_of, gives_most, least_count, most_count, known}
use Rattle.fuse_sessions.specs.Faults.{Breaks}
use Rattle.fuse_sessions.specs.Parties.{party_of}
use Rattle.fuse_sessions.specs.Faultless.{Balances, HasNoFaultOf, StaysCounted, StaysOfOneFile, StaysOfOneKind, given, given_back}
use Rattle.fuse_sessions.proofs.Laws.{balance-more}
use Rattle.fuse_sessions.proofs.FileLaws.{cases_zero, differ, each_session, file_or_none, has_file, known_first, known_later, known_still, one_file, same}

-- ---- an act between others

at_place : (before : Session) (a : Act) (after : Session) → slice_get (before ++ a ∷ after) (length before) ≡ Some a
at_place [] a after = refl
at_place (b ∷ before) a after = at_place before a after

take_first : (before after : Session) → take (length before) (before ++ after) ≡ before
take_first [] after = refl
take_first (b ∷ before) after = ap (λ t. b ∷ t) (take_first before after)

-- No act has a fault of this party behind those before it.
abbrev Keeps : Party → Session → Type 0
Keeps party s = (before : Session) (a : Act) (after : Session) (f : Fault) → s ≡ before ++ a ∷ after
    → party_of f ≡ party → Breaks before a f → ⊥

keeps : (party : Party) (s : Session) → HasNoFaultOf party s → Keeps party s
keeps party s none before a after f parts whose breaks = none (length before) f record {
  act = a;
  stands = ap (λ t. slice_get t (length before)) parts ∙ at_place before a after;
  breaks = subst (λ t. Breaks t a f) (sym (ap (take (length before)) parts ∙ take_first before (a ∷ after))) breaks;
} whose

keeps_first : (party : Party) (s : Session) (a : Act) → Keeps party (s ++ a ∷ []) → Keeps party s
keeps_first party s a all before b after f parts =
    all before b (after ++ a ∷ []) f (ap (λ t. t ++ a ∷ []) parts ∙ append_assoc before (b ∷ after) (a ∷ []))

-- ---- counts

cases_less : (a b : ℕ) → (a < b) ⊎ (b ≤ a)
cases_less a b = grind (arith)

not_below : (a b : ℕ) → (a < b → ⊥) → b ≤ a
not_below a b never = elim (cases_less a b) [
  | inl less ↦ absurd (never less)
  | inr most ↦ most
]

-- An act gives lookups of a node, or gives some back of which there are so many, or neither.
one_way : (node : ℕ) (s : Session) (a : Act) → node ≢ 1
    → ((f : Fault) → party_of f ≡ Kernel → Breaks s a f → ⊥)
    → ((gives_most node a ≡ 0) ⊎ (forgets_of node a ≡ 0)) × (forgets_of node a ≤ most_count s node)
one_way node s (act.Forgets other lookups) unlike keep = elim (cases_eq other node) [
  | inl is ↦ (
    inl refl,
    subst (λ k. forgets_of node (act.Forgets other lookups) ≤ k) refl
        (omega (arith, less is)),
  )
  | inr ne ↦ (inl refl, rw (differ other node ne) (omega arith))
]
  where
    less : other ≡ node → forgets_of node (act.Forgets other lookups) ≤ most_count s node
    less is = rw is (rw (same node) (not_below (most_count s node) lookups
        (λ few. keep fault.ForgetOfMoreThanIsCounted refl (rw is (unlike, few)))))
one_way node s a unlike keep = (inr refl, omega arith)

balances : (node : ℕ) → node ≢ 1 → (s : Session) → Keeps Kernel s → given node s ≡ given_back node s + most_count s node
balances node unlike = each_session (λ s. Keeps Kernel s → given node s ≡ given_back node s + most_count s node) more
    (λ all. refl)
  where
    more : (s : Session) (a : Act) → (Keeps Kernel s → given node s ≡ given_back node s + most_count s node)
        → Keeps Kernel (s ++ a ∷ []) → given node (s ++ a ∷ []) ≡ given_back node (s ++ a ∷ []) + most_count (s ++ a ∷ []) node
    more s a had all =
        let is = one_way node s a unlike (λ f. all s a [] f refl) in
        balance-more (gives_most node) (forgets_of node) s a is.0 is.1 (had (keeps_first Kernel s a all))

pub balance_law : (s : Session) → HasNoFaultOf Kernel s → Balances s
balance_law s none node unlike = balances node unlike s (keeps Kernel s none)

-- ---- files

-- An entry of a node that is counted is of the file that is known.
gives_same : (node : ℕ) (s : Session) (old other : File) (is_certain : Bool) → 0 < least_count s node
    → known s node ≡ Some old
    → ((f : Fault) → party_of f ≡ Server → Breaks s (act.Gives node other is_certain) f → ⊥) → old ≡ other
gives_same node s old other is_certain some is keep = elim (cases_eq old.generation other.generation) [
  | inr ne ↦ absurd (keep fault.NodeOfTwoGenerations refl (some, old, is, ne))
  | inl generation ↦ elim (cases_eq old.kind other.kind) [
    | inr ne ↦ absurd (keep fault.NodeOfTwoKinds refl (some, old, is, generation, ne))
    | inl kind ↦ elim (cases_eq old.ino other.ino) [
      | inr ne ↦ absurd (keep fault.NodeOfTwoInodeNumbers refl (some, old, is, generation, kind, ne))
      | inl ino ↦ one_file old other generation kind ino
    ]
  ]
]

module _ (node : ℕ) (file : File) where
  abbrev gives : Act
  gives = act.Gives node file true

  -- behind an entry that counts for certain its file is known
  known_given : (before : Session) → ((f : Fault) → party_of f ≡ Server → Breaks before gives f → ⊥)
      → known (before ++ gives ∷ []) node ≡ Some file
  known_given before keep = elim (cases_zero (least_count before node)) [
    | inl none ↦ known_first node before file none
    | inr some ↦
        let old = has_file node before some in
        known_later node before file some ∙ old.1 ∙ ap Some (gives_same node before old.0 file true some old.1 keep)
  ]

  known_one : (s : Session) (a : Act) → 0 < least_count s node → known s node ≡ Some file
      → known (s ++ a ∷ []) node ≡ Some file
  known_one s a some is = elim (file_or_none node a) [
    | inl given ↦ subst (λ b. known (s ++ b ∷ []) node ≡ Some file) (sym given.1) (known_later node s given.0 some ∙ is)
    | inr none ↦ known_still node s a none ∙ is
  ]

  -- while the node stays counted it stays known
  known_on : (first later : Session) → known first node ≡ Some file → StaysCounted node first later
      → known (first ++ later) node ≡ Some file
  known_on first [] is stays = subst (λ t. known t node ≡ Some file) (sym (append-nil first)) is
  known_on first (a ∷ later) is stays =
      let some : 0 < least_count first node
      = subst (λ t. 0 < least_count t node) (append-nil first) (stays [] (a ∷ later) refl) in
      subst (λ t. known t node ≡ Some file) (append_assoc first (a ∷ []) later)
      (known_on (first ++ a ∷ []) later (known_one first a some is)
      (λ part rest parts. subst (λ t. 0 < least_count t node) (sym (append_assoc first (a ∷ []) part))
      (stays (a ∷ part) rest (ap (λ t. a ∷ t) parts))))

  counted_on : (first later : Session) → StaysCounted node first later → 0 < least_count (first ++ later) node
  counted_on first later stays = stays later [] (sym (append-nil later))

  -- the parts of a session
  apart : (before later after : Session) (a : Act)
      → before ++ gives ∷ (later ++ a ∷ after) ≡ ((before ++ gives ∷ []) ++ later) ++ a ∷ after
  apart before later after a = sym (append_assoc before (gives ∷ []) (later ++ a ∷ after))
      ∙ sym (append_assoc (before ++ gives ∷ []) later (a ∷ after))

  -- what is known before an act behind which the node was given
  known_there : (s before later after : Session) (a : Act) → Keeps Server s
      → s ≡ before ++ gives ∷ (later ++ a ∷ after) → StaysCounted node (before ++ gives ∷ []) later
      → known ((before ++ gives ∷ []) ++ later) node ≡ Some file
  known_there s before later after a all parts stays = known_on (before ++ gives ∷ []) later
      (known_given before (λ f. all before gives (later ++ a ∷ after) f parts)) stays

pub one_file_law : (s : Session) → HasNoFaultOf Server s → StaysOfOneFile s
one_file_law s none node file other is_certain before later after parts stays =
    let all = keeps Server s none in
    let a = act.Gives node other is_certain in
    sym (gives_same node ((before ++ gives node file ∷ []) ++ later) file other is_certain
    (counted_on node file (before ++ gives node file ∷ []) later stays)
    (known_there node file s before later after a all parts stays)
    (λ f. all ((before ++ gives node file ∷ []) ++ later) a after f (parts ∙ apart node file before later after a)))

-- Attributes of a node that is counted are of the file that is known.
describes_same : (node kind ino : ℕ) (s : Session) (old : File) → 0 < least_count s node → known s node ≡ Some old
    → ((f : Fault) → party_of f ≡ Server → Breaks s (act.Describes node kind ino) f → ⊥)
    → (kind ≡ old.kind) × (ino ≡ old.ino)
describes_same node kind ino s old some is keep = elim (cases_eq old.kind kind) [
  | inr ne ↦ absurd (keep fault.NodeOfTwoKinds refl (some, old, is, ne))
  | inl same_kind ↦ elim (cases_eq old.ino ino) [
    | inr ne ↦ absurd (keep fault.NodeOfTwoInodeNumbers refl (some, old, is, same_kind, ne))
    | inl same_ino ↦ (sym same_kind, sym same_ino)
  ]
]

pub one_kind_law : (s : Session) → HasNoFaultOf Server s → StaysOfOneKind s
one_kind_law s none node kind ino file before later after parts stays =
    let all = keeps Server s none in
    let a = act.Describes node kind ino in
    describes_same node kind ino ((before ++ gives node file ∷ []) ++ later) file
    (counted_on node file (before ++ gives node file ∷ []) later stays)
    (known_there node file s before later after a all parts stays)
    (λ f. all ((before ++ gives node file ∷ []) ++ later) a after f (parts ∙ apart node file before later after a))
