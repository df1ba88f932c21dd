-- What waits past acts that end nothing, and a reply to what does not wait.
use Rattle.std.proofs.Common.{◌≡◌, ℕ, Bool, true, false, List, [], ◌∷◌, ◌++◌, None, filter, nat_eq, refl, ◌∙◌, ap}
use Rattle.std.specs.Map.{lookup}
use Rattle.fuse_sessions.specs.declared.act.Act.TheVariants as act
use Rattle.fuse_sessions.specs.declared.act.Asked.{Asked}
use Rattle.fuse_sessions.specs.declared.act.Fit.{Fit}
use Rattle.fuse_sessions.specs.declared.act.Taken.{Taken}
use Rattle.fuse_sessions.specs.declared.fault.Fault.{Fault}
use Rattle.fuse_sessions.specs.declared.fault.Fault.TheVariants as fault
use Rattle.fuse_sessions.specs.declared.fault.Party.TheVariants.{Server}
use Rattle.fuse_sessions.specs.Faults.{Breaks}
use Rattle.fuse_sessions.specs.Numbers.{was_forget, was_read}
use Rattle.fuse_sessions.specs.Parties.{party_of}
use Rattle.fuse_sessions.specs.Sessions.{Session}
use Rattle.fuse_sessions.specs.Waiting.{waiting, waits}
use Rattle.fuse_sessions.proofs.Laws.{waiting-more}

-- An act that ends nothing, and asks nothing, keeps all that waits.
pub all_kept : (xs : List (ℕ × Asked)) → filter (λ (e : ℕ × Asked). true) xs ++ [] ≡ xs
all_kept [] = refl
all_kept (x ∷ xs) = ap (λ (ys : List (ℕ × Asked)). x ∷ ys) (all_kept xs)

pub waits_past_taking : (s : Session) (u n : ℕ) (t : Taken) (body : Fit) → waits (s ++ act.Takes n t body ∷ []) u ≡ waits s u
waits_past_taking s u n t body =
    ap (lookup (nat_eq u)) (waiting-more s (act.Takes n t body) ∙ all_kept (waiting s))

pub waits_past_interrupted : (s : Session) (u n : ℕ) → waits (s ++ act.Interrupted n ∷ []) u ≡ waits s u
waits_past_interrupted s u n = ap (lookup (nat_eq u)) (waiting-more s (act.Interrupted n) ∙ all_kept (waiting s))

-- A reply to what does not wait is a fault of the server.
pub unawaited_reply : (s : Session) (u : ℕ) (t : Taken) → waits s u ≡ None
    → ((f : Fault) → Breaks s (act.Replies u t) f → party_of f ≡ Server → ⊥) → ⊥
unawaited_reply s u t none free = by (was_forget s u) (was_read s u) refl refl
  where
    by : (forget read : Bool) → was_forget s u ≡ forget → was_read s u ≡ read → ⊥
    by true read forgets reads = free fault.ReplyToForget (none, forgets) refl
    by false true forgets reads = free fault.SecondReply (none, forgets, reads) refl
    by false false forgets reads = free fault.ReplyToNothing (none, reads) refl
