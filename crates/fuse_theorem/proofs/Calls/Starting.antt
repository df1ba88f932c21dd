-- Calls begin alike in the two worlds; both abandon everything alike; time passes alike; names leave alike.
use Rattle.std.proofs.Common.{ℕ, ◌+◌, Bool, true, false, refl, ap, subst}
use Rattle.fuse_spec.specs.Values.Maps.{remove}
use Rattle.fuse_spec.specs.Calls.Calls.{Call}
use Rattle.fuse_spec.specs.Calls.Answers as answer
use Rattle.fuse_spec.specs.Calls.Answers.{Answer}
use Rattle.fuse_spec.specs.Calls.Begins.{Beginning, faulty, sets_out, uses, closes, beginning}
use Rattle.fuse_spec.specs.Calls.Vfs.{using, Vfs, numbered, begun, after_beginning, later}
use Rattle.fuse_spec.specs.Files.Operations.{OptionAlike}
use Rattle.fuse_spec.specs.Claim.Alike.{VfsAlike}
use Rattle.fuse_spec.proofs.Tables.{gone_alike}
use Rattle.fuse_theorem.specs.Numbering.{IsOneToOne}
use Rattle.fuse_theorem.proofs.Calls.Beginning.{BeginningAlike, beginning_alike}
use Rattle.fuse_theorem.proofs.Calls.RepliesReceived.{answered_alike}
use Rattle.fuse_theorem.proofs.Calls.RepliesReach.{AdvanceAlike, asking_alike, walks_on_alike}

module _ {O P : Type 0} (R : ℕ → ℕ → Type 0) (S : O → P → Type 0) (c : Vfs O) (d : Vfs P)
    (same : VfsAlike R S c d) where
  numbered_alike : VfsAlike R S (numbered c) (numbered d)
  numbered_alike = record {
    names = same.names;
    names_meant = same.names_meant;
    names_reached = same.names_reached;
    opens = same.opens;
    calls = same.calls;
    answers = same.answers;
    next_call = ap (λ (n : ℕ). n + 1) same.next_call;
    clock = same.clock;
    roots = same.roots;
  }

  closed_alike : (open_call : ℕ) → VfsAlike R S (record c { opens = remove c.opens open_call })
      (record d { opens = remove d.opens open_call })
  closed_alike open_call = record {
    names = same.names;
    names_meant = same.names_meant;
    names_reached = same.names_reached;
    opens = gone_alike (OptionAlike S) c.opens d.opens open_call same.opens tt;
    calls = same.calls;
    answers = same.answers;
    next_call = same.next_call;
    clock = same.clock;
    roots = same.roots;
  }

  pub later_alike : (ms : ℕ) → VfsAlike R S (later c ms) (later d ms)
  later_alike ms = record {
    names = same.names;
    names_meant = same.names_meant;
    names_reached = same.names_reached;
    opens = same.opens;
    calls = same.calls;
    answers = same.answers;
    next_call = same.next_call;
    clock = ap (λ (n : ℕ). n + ms) same.clock;
    roots = same.roots;
  }

pub after_beginning_alike : {O P : Type 0} (R : ℕ → ℕ → Type 0) (S : O → P → Type 0) (one : IsOneToOne R) (c : Vfs O)
    (d : Vfs P) → VfsAlike R S c d → (call : ℕ)
    (b : Beginning ℕ O) (b' : Beginning ℕ P) → BeginningAlike R S b b'
    → AdvanceAlike R S one (after_beginning c call b) (after_beginning d call b')
after_beginning_alike R S one c d same call (faulty e) (faulty f) h =
    record {
      vfs = answered_alike R S one c d same call call (answer.failed e) (answer.failed f) refl
          (ap (λ (n : ℕ). answer.failed n) h);
      operation = tt;
    }
after_beginning_alike R S one c d same call (sets_out words x) (sets_out words' y) h =
    walks_on_alike R S one c d same call c.root d.root words words' x y same.roots h.0 h.1
after_beginning_alike R S one c d same call (uses n a) (uses m b) h =
    asking_alike R S one c d same call (using n a) (using m b) h
after_beginning_alike {O} {P} R S one c d same call (closes n o) (closes m p) h =
    record {
      vfs =
          answered_alike R S one (record c { opens = remove c.opens n }) (record d { opens = remove d.opens m })
          (subst (λ (k : ℕ). VfsAlike R S (record c { opens = remove c.opens n })
          (record d { opens = remove d.opens k })) h.0
          (closed_alike R S c d same n)) call call answer.done answer.done refl refl;
      operation = tt;
    }
after_beginning_alike R S one c d same call b b' h = absurd h

-- A call begins alike, live or aborted.
pub begin_refines : {O P : Type 0} (R : ℕ → ℕ → Type 0) (S : O → P → Type 0) (one : IsOneToOne R) (c : Vfs O) (d : Vfs P)
    → VfsAlike R S c d → (aborted : Bool) (call : Call)
    → AdvanceAlike R S one (begun aborted c call) (begun aborted d call)
begin_refines {O} {P} R S one c d same true call =
    record {
      vfs = answered_alike R S one (numbered c) (numbered d)
          (numbered_alike R S c d same) c.next_call d.next_call (answer.failed 107)
          (answer.failed 107) same.next_call refl;
      operation = tt;
    }
begin_refines {O} {P} R S one c d same false call =
    subst (λ (n : ℕ). AdvanceAlike R S one (after_beginning (numbered c) c.next_call (beginning c.opens call))
    (after_beginning (numbered d) n (beginning d.opens call))) same.next_call
    (after_beginning_alike R S one (numbered c) (numbered d) (numbered_alike R S c d same) c.next_call
    (beginning c.opens call) (beginning d.opens call) (beginning_alike R S c.opens d.opens same.opens call))
