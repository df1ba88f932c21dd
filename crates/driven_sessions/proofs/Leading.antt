-- Acts that are free of a group of faults, in parts, and sessions that lead on.
use Rattle.std.proofs.Common.{◌≡◌, ◌⊎◌, inl, inr, ℕ, zero, suc, Bool, true, false, ◌||◌, List, [], ◌∷◌, ◌++◌, Option, Some, None, refl, sym, ◌∙◌, ap, subst, append_assoc, append-nil, take, slice_get, nat_eq, arith, rules}
use Rattle.std.specs.List.{list_any, list_all}
use Rattle.std.proofs.lemmas.Bool.{and_parts, or_from}
use Rattle.std.proofs.lemmas.List.Folds.{list_any-append}
use Rattle.fuse_device.specs.Transfers.{Transfer}
use Rattle.fuse_protocol.specs.declared.opcode.Opcode.{Opcode}
use Rattle.fuse_sessions.specs.declared.act.Act.{Act}
use Rattle.fuse_sessions.specs.declared.act.Act.TheVariants as act
use Rattle.fuse_sessions.specs.declared.fault.Fault.{Fault}
use Rattle.fuse_sessions.specs.declared.known.Known.{Known}
use Rattle.fuse_sessions.specs.declared.transfer.Transfer.{Transfer as Said}
use Rattle.fuse_sessions.specs.Sessions.{Session}
use Rattle.fuse_sessions.specs.Faults.{Breaks, HasFaultAt}
use Rattle.fuse_sessions.specs.Frames.{Lead}
use Rattle.fuse_sessions.specs.Numbers.{has_several_readers, is_of_several, reads, was_read}
use Rattle.driven_sessions.specs.Transfers.{AreSaid}
use Rattle.driven_sessions.proofs.Calm.{AreCalm, calm_law, is_calm, is_of_numbers}

-- None of the next acts has, at its moment, a fault of this group.
abbrev pub AreFree : (Fault → Bool) → Session → List Act → Type 0
AreFree group s [] = Unit {0}
AreFree group s (act ∷ later) =
    ((f : Fault) → Breaks s act f → group f ≡ true → ⊥) × AreFree group (s ++ act ∷ []) later

some_act : (a b : Act) → ◌≡◌ {A = Option Act} (Some a) (Some b) → a ≡ b
some_act a b same = ap of same
  where
    of : Option Act → Act
    of None = a
    of (Some x) = x

module _ (group : Fault → Bool) where
  pub free_append : (s : Session) (xs ys : List Act) → AreFree group s xs → AreFree group (s ++ xs) ys
      → AreFree group s (xs ++ ys)
  free_append s [] ys first second = subst (λ t. AreFree group t ys) (append-nil s) second
  free_append s (a ∷ xs) ys first second = (
    first.0,
    free_append (s ++ a ∷ []) xs ys first.1
        (subst (λ t. AreFree group t ys) (sym (append_assoc s (a ∷ []) xs)) second),
  )

  -- no act has such a fault at its place
  pub never_at : (s : Session) (acts : List Act) → AreFree group s acts → (place : ℕ) (f : Fault)
      → HasFaultAt s acts place f → group f ≡ true → ⊥
  never_at s [] free place f has = absurd (none has.act has.stands)
    where
      none : (a : Act) → slice_get [] place ≡ Some a → ⊥
      none a e = cc
  never_at s (a ∷ acts) free zero f has = free.0 f (subst (λ t. Breaks t a f) (append-nil s)
      (subst (λ x. Breaks (s ++ []) x f) (sym (some_act a has.act has.stands)) has.breaks))
  never_at s (a ∷ acts) free (suc place) f has = never_at (s ++ a ∷ []) acts free.1 place f (record {
    act = has.act;
    stands = has.stands;
    breaks = subst (λ t. Breaks t has.act f) (sym (append_assoc s (a ∷ []) (take place acts))) has.breaks;
  })

  pub calm_free : ((f : Fault) → group f ≡ true → is_of_numbers f ≡ true) → (s : Session) (acts : List Act)
      → AreCalm acts → AreFree group s acts
  calm_free within s [] are = tt
  calm_free within s (a ∷ acts) are =
      let both = and_parts (is_calm a) (list_all is_calm acts) are in
      (λ f b is. calm_law s a f both.0 b (within f is), calm_free within (s ++ a ∷ []) acts both.1)

-- ---- what was read

calm_any : (u : ℕ) (acts : List Act) → AreCalm acts → list_any (reads u) acts ≡ false
calm_any u [] are = refl
calm_any u (a ∷ acts) are =
    let both = and_parts (is_calm a) (list_all is_calm acts) are in
    or_from (reads u a) (list_any (reads u) acts) (by a both.0) (calm_any u acts both.1)
  where
    by : (a : Act) → is_calm a ≡ true → reads u a ≡ false
    by (act.Read o n) is = cc
    by (act.Resent n original) is = cc
    by a is = refl

or_false : (b : Bool) → (b || false) ≡ b
or_false true = refl
or_false false = refl

-- Acts that read nothing change nothing of it.
pub quiet_read : (u : ℕ) (s acts : List Act) → list_any (reads u) acts ≡ false → was_read (s ++ acts) u ≡ was_read s u
quiet_read u s acts none =
    list_any-append (reads u) s acts ∙ ap (λ b. was_read s u || b) none ∙ or_false (was_read s u)

pub calm_read : (u : ℕ) (s acts : List Act) → AreCalm acts → was_read (s ++ acts) u ≡ was_read s u
calm_read u s acts are = quiet_read u s acts (calm_any u acts are)

-- Where one number is read among acts that read none, it alone is new.
pub one_read : (u n : ℕ) (o : Option Opcode) (s before after : List Act) → list_any (reads u) before ≡ false
    → list_any (reads u) after ≡ false → was_read (s ++ (before ++ act.Read o n ∷ after)) u ≡ true
    → (was_read s u ≡ true) ⊎ (u ≡ n)
one_read u n o s before after quiet_before quiet_after is = by (was_read s u) (nat_eq n u) refl refl
  where
    all : was_read (s ++ (before ++ act.Read o n ∷ after)) u ≡ (was_read s u || nat_eq n u)
    all = list_any-append (reads u) s (before ++ act.Read o n ∷ after)
        ∙ ap (λ b. was_read s u || b) (list_any-append (reads u) before (act.Read o n ∷ after)
        ∙ ap (λ b. b || (nat_eq n u || list_any (reads u) after)) quiet_before
        ∙ ap (λ b. nat_eq n u || b) quiet_after ∙ or_false (nat_eq n u))

    by : (a b : Bool) → was_read s u ≡ a → nat_eq n u ≡ b → (was_read s u ≡ true) ⊎ (u ≡ n)
    by true b old new = inl old
    by false true old new = inr (grind (arith, rules, new))
    by false false old new = cc (is, all, old, new)

pub calm_none : (u : ℕ) (acts : List Act) → AreCalm acts → list_any (reads u) acts ≡ false
calm_none = calm_any

-- ---- several threads read

abbrev pub HasSeveral : Session → Type 0
HasSeveral s = has_several_readers s ≡ true

pub several_append : (s acts : List Act) → HasSeveral s → HasSeveral (s ++ acts)
several_append s acts several =
    list_any-append is_of_several s acts ∙ ap (λ b. b || list_any is_of_several acts) several

-- ---- sessions in parts

-- Of what went over the device in two parts.
pub record SplitsAt (log : List Transfer) (more : List Transfer) (ts : List Said) : Type 0 where
  pub first : List Said
  pub last : List Said
  pub all : ts ≡ first ++ last
  pub said : AreSaid log first
  pub said_more : AreSaid more last

pub said_parts : (log more : List Transfer) (ts : List Said) → AreSaid (log ++ more) ts → SplitsAt log more ts
said_parts [] more ts is = record { first = []; last = ts; all = refl; said = tt; said_more = is }
said_parts (t ∷ log) more [] is = absurd is
said_parts (t ∷ log) more (u ∷ ts) is =
    let rest = said_parts log more ts is.1 in
    record {
      first = u ∷ rest.first;
      last = rest.last;
      all = ap (λ (l : List Said). u ∷ l) rest.all;
      said = (is.0, rest.said);
      said_more = rest.said_more;
    }

pub record LeadsBy (k : Known) (s : Session) (first last : List Said) (later : Known) (all : Session) : Type 0 where
  pub known : Known
  pub session : Session
  pub before : Lead k s first known session
  pub behind : Lead known session last later all

pub lead_parts : (k : Known) (s : Session) (first last : List Said) (later : Known) (all : Session)
    → Lead k s (first ++ last) later all → LeadsBy k s first last later all
lead_parts k s [] last later all leads = record { known = k; session = s; before = (refl, refl); behind = leads }
lead_parts k s (t ∷ first) last later all (acts, next, are, leads) =
    let rest = lead_parts next (s ++ acts) first last later all leads in
    record {
      known = rest.known;
      session = rest.session;
      before = (acts, next, are, rest.before);
      behind = rest.behind;
    }
