-- What a request that is answered does: it asks under its number, as its last act.
use Rattle.std.proofs.Common.{◌≡◌, ℕ, Bool, true, false, not, ◌||◌, List, [], ◌∷◌, ◌++◌, Option, Some, None, refl, sym, ◌∙◌, ap, subst, append_assoc, nat_eq, cond, arith, rules}
use Rattle.std.specs.List.{list_any, list_all}
use Rattle.std.proofs.lemmas.Bool.{and_from, and_parts, or_left, or_right, or_from}
use Rattle.std.proofs.lemmas.List.Folds.{list_any-append}
use Rattle.fuse_protocol.specs.declared.init.InitRequest.{InitRequest}
use Rattle.fuse_protocol.specs.declared.opcode.Opcode.{Opcode}
use Rattle.fuse_protocol.specs.declared.opcode.Opcode.TheVariants as op
use Rattle.fuse_protocol.specs.Requests.{RequestMessage}
use Rattle.fuse_sessions.specs.declared.act.Act.{Act}
use Rattle.fuse_sessions.specs.declared.act.Act.TheVariants as act
use Rattle.fuse_sessions.specs.declared.act.Asked.{Asked}
use Rattle.fuse_sessions.specs.Sessions.{Session}
use Rattle.std.specs.Map.{lookup}
use Rattle.fuse_sessions.specs.Waiting.{ends, waiting, waits}
use Rattle.fuse_sessions.specs.Numbers.{asks_under, reads, is_reading}
use Rattle.fuse_sessions.specs.RequestActs.{request_acts, asking, asked_of}
use Rattle.fuse_sessions.specs.UnreadRequests.{unread_acts, unjudged, malformed, asking_unread, has_header, takes_no_reply, opcode_in, unique_in}
use Rattle.fuse_sessions.specs.declared.fault.Fault.{Fault}
use Rattle.fuse_sessions.specs.Faults.{BreaksNumber}
use Rattle.joined_sessions.proofs.Behind.{asked_alike}
use Rattle.served_sessions.proofs.Free.{free_last, AreFree}
use Rattle.served_sessions.proofs.Acts.{each_of, is_plain, before_asking, before_plain, malformed_plain}

-- whether an opcode asks for a reply under its number, by the table
abbrev pub is_asking : Opcode → Bool
is_asking op.Interrupt = false
is_asking op.NotifyReply = false
is_asking op.Forget = false
is_asking op.BatchForget = false
is_asking o = true

-- whether a request that is asked takes a reply, if its opcode is known
abbrev pub is_wanted : Option Opcode → Bool
is_wanted None = true
is_wanted (Some o) = is_asking o

abbrev pub asks_right : Act → Bool
asks_right (act.Asks unique asked) = is_wanted asked.opcode
asks_right a = true

same : (k : ℕ) → nat_eq k k ≡ true
same k = grind (arith, rules)

pub one_number : (m n : ℕ) → nat_eq m n ≡ true → m ≡ n
one_number m n e = grind (arith, rules)

pub asking_does : (o : Opcode) (m : RequestMessage) → is_asking o ≡ true
    → request_acts false o m ≡ act.Arrives ∷ act.Begins o ∷ asking o m (asked_of o m)
asking_does op.Interrupt m is = cc
asking_does op.NotifyReply m is = cc
asking_does op.Forget m is = cc
asking_does op.BatchForget m is = cc
asking_does o m is = refl

-- The acts end in asking for a reply under this number. Before, they read it, and ask for nothing.
pub record Ask (acts : List Act) (unique : ℕ) (asked : Asked) : Type 0 where
  pub before : List Act
  pub opcode : Option Opcode
  pub middle : List Act
  pub before_plain : list_all is_plain before ≡ true
  pub middle_plain : list_all is_plain middle ≡ true
  pub parts : acts ≡ before ++ (act.Read opcode unique ∷ middle) ++ act.Asks unique asked ∷ []

pub asks : (o : Opcode) (m : RequestMessage) → is_asking o ≡ true → Ask (request_acts false o m) m.unique (asked_of o m)
asks o m is = record {
  before = act.Arrives ∷ act.Begins o ∷ [];
  opcode = Some o;
  middle = before_asking o m (asked_of o m);
  before_plain = refl;
  middle_plain = before_plain o m (asked_of o m);
  parts = asking_does o m is;
}

-- one that is not read by a row
pub asks_unread : (offered : Option InitRequest) (bytes : List ℕ) → has_header bytes ≡ true
    → takes_no_reply (opcode_in bytes) ≡ false → Ask (unread_acts offered bytes) (unique_in bytes) unjudged
asks_unread offered bytes header wanted =
    let faulty = malformed offered bytes in
    let last : List Act = act.Asks (unique_in bytes) unjudged ∷ [] in
    let asked : asking_unread bytes ≡ act.Read None (unique_in bytes) ∷ last = rw (header, wanted) refl in
    record {
      before = act.Arrives ∷ faulty;
      opcode = None;
      middle = [];
      before_plain = malformed_plain offered bytes;
      middle_plain = refl;
      parts = ap (λ (l : List Act). act.Arrives ∷ (faulty ++ l)) asked
          ∙ ap (λ (l : List Act). act.Arrives ∷ l) (sym (append_assoc faulty (act.Read None (unique_in bytes) ∷ []) last));
    }

pub plain_asks : (u : ℕ) (acts : List Act) → list_all is_plain acts ≡ true → list_any (asks_under u) acts ≡ false
plain_asks u [] is = refl
plain_asks u (a ∷ acts) is =
    let both = and_parts (is_plain a) (list_all is_plain acts) is in
    or_from (asks_under u a) (list_any (asks_under u) acts) (none a both.0) (plain_asks u acts both.1)
  where
    none : (a : Act) → is_plain a ≡ true → asks_under u a ≡ false
    none (act.Asks n asked) is = cc
    none a is = refl

pub plain_right : (acts : List Act) → list_all is_plain acts ≡ true → list_all asks_right acts ≡ true
plain_right [] is = refl
plain_right (a ∷ acts) is =
    let both = and_parts (is_plain a) (list_all is_plain acts) is in
    and_from (asks_right a) (list_all asks_right acts) (right a both.0) (plain_right acts both.1)
  where
    right : (a : Act) → is_plain a ≡ true → asks_right a ≡ true
    right (act.Asks n asked) is = cc
    right a is = refl

-- What waits takes a reply.
waits_first : (u n : ℕ) (asked a : Asked) (kept : Bool) (rest : List (ℕ × Asked)) → is_wanted asked.opcode ≡ true
    → (lookup (nat_eq u) rest ≡ Some a → is_wanted a.opcode ≡ true)
    → lookup (nat_eq u) (cond kept ((n, asked) ∷ []) [] ++ rest) ≡ Some a → is_wanted a.opcode ≡ true
waits_first u n asked a false rest right later is = later is
waits_first u n asked a true rest right later is = by (nat_eq u n) refl is
  where
    of : Option Asked → Option Opcode
    of None = a.opcode
    of (Some x) = x.opcode

    by : (b : Bool) → nat_eq u n ≡ b → lookup (nat_eq u) ((n, asked) ∷ rest) ≡ Some a → is_wanted a.opcode ≡ true
    by true e h = ap is_wanted (sym (ap of (rw e at h))) ∙ right
    by false e h = later (rw e at h)

right_by : (u : ℕ) (a : Asked) (s : Session) (x : Act) → asks_right x ≡ true
    → (waits s u ≡ Some a → is_wanted a.opcode ≡ true) → waits (x ∷ s) u ≡ Some a → is_wanted a.opcode ≡ true
right_by u a s (act.Asks n asked) right later w =
    waits_first u n asked a (not (list_any (ends n) s)) (waiting s) right later w
right_by u a s x right later w = later w

pub waiting_right : (s : Session) → list_all asks_right s ≡ true → (u : ℕ) (a : Asked) → waits s u ≡ Some a
    → is_wanted a.opcode ≡ true
waiting_right [] is u a waiting' = let no : ◌≡◌ {A = Option Asked} None (Some a) = waiting' in cc
waiting_right (x ∷ s) is u a waiting' =
    let both = and_parts (asks_right x) (list_all asks_right s) is in
    right_by u a s x both.0 (waiting_right s both.1 u a) waiting'

module _ (acts : List Act) (unique : ℕ) (asked : Asked) (ask : Ask acts unique asked) where
  abbrev reading : List Act
  reading = act.Read ask.opcode unique ∷ ask.middle

  abbrev last : List Act
  last = act.Asks unique asked ∷ []

  abbrev front : List Act
  front = ask.before ++ reading

  -- What asks waits.
  pub waits_now : (s : Session) → waits (s ++ acts) unique ≡ Some asked
  waits_now s =
      let one : waits last unique ≡ Some asked = rw (same unique) refl in
      let asked_last : list_any (asks_under unique) last ≡ true = or_left (nat_eq unique unique) false (same unique) in
      ap (λ (l : List Act). waits (s ++ l) unique) ask.parts
      ∙ ap (λ (t : Session). waits t unique) (sym (append_assoc s front last))
      ∙ asked_alike (s ++ front) last unique asked_last ∙ one

  -- It was read.
  read_in : (test : Act → Bool) → test (act.Read ask.opcode unique) ≡ true → list_any test acts ≡ true
  read_in test is = ap (list_any test) ask.parts ∙ list_any-append test front last
      ∙ or_left (list_any test front) (list_any test last) (list_any-append test ask.before reading
      ∙ or_right (list_any test ask.before) (list_any test reading)
      (or_left (test (act.Read ask.opcode unique)) (list_any test ask.middle) is))

  pub reads_it : (u : ℕ) → nat_eq unique u ≡ true → list_any (reads u) acts ≡ true
  reads_it u is = read_in (reads u) is

  pub reads_some : list_any is_reading acts ≡ true
  reads_some = read_in is_reading refl

  -- Nothing else is asked.
  pub asks_only : (u : ℕ) → list_any (asks_under u) acts ≡ true → nat_eq unique u ≡ true
  asks_only u is = by (nat_eq unique u) (sym parts ∙ is)
    where
      parts : list_any (asks_under u) acts ≡ (nat_eq unique u || false)
      parts = ap (list_any (asks_under u)) ask.parts ∙ list_any-append (asks_under u) front last
          ∙ ap (λ (b : Bool). b || (nat_eq unique u || false)) (plain_asks u front
          (each_of is_plain ask.before reading ask.before_plain ask.middle_plain))

      by : (b : Bool) → (b || false) ≡ true → b ≡ true
      by true e = refl
      by false e = e

  -- It asks right.
  pub asks_all_right : is_wanted asked.opcode ≡ true → list_all asks_right acts ≡ true
  asks_all_right right = ap (list_all asks_right) ask.parts ∙ each_of asks_right front last
      (each_of asks_right ask.before reading (plain_right ask.before ask.before_plain)
      (plain_right ask.middle ask.middle_plain)) (and_from (is_wanted asked.opcode) true right refl)

  -- It has no fault of its number, where there is none.
  pub number_free : (group : Fault → Bool) (s : Session) → AreFree group s acts → (f : Fault)
      → BreaksNumber (s ++ ask.before) unique f → group f ≡ true → ⊥
  number_free group s free = (free_last group s ask.before (reading ++ last)
      (subst (AreFree group s) (ask.parts ∙ append_assoc ask.before reading last) free)).0
