-- What is true of the tables and the verdicts in the middle of the acts that are seen.
use Rattle.std.proofs.Common.{◌≡◌, ◌≤◌, ℕ, List, [], ◌∷◌, ◌++◌, Option, append_assoc, subst, refl, arith, nat_eq}
use Rattle.std.proofs.lemmas.Option.{none-some}
use Rattle.fuse_spec.specs.Values.Maps.{Map}
use Rattle.fuse_sessions.specs.declared.act.Act.{Act}
use Rattle.fuse_sessions.specs.declared.fault.Fault.{Fault}
use Rattle.fuse_sessions.specs.Sessions.{Session}
use Rattle.fuse_judge.specs.declared.flags.Flags.{Flags}
use Rattle.fuse_judge.specs.declared.handle.Handle.{Handle}
use Rattle.fuse_judge.specs.declared.marks.Block.{Block}
use Rattle.fuse_judge.specs.declared.nodes.NodeRow.{NodeRow}
use Rattle.fuse_judge.specs.declared.pending.Waiting.{Waiting}
use Rattle.fuse_judge.specs.declared.tables.Tables.{Tables}
use Rattle.fuse_judge.specs.Flags.{AreFlags}
use Rattle.fuse_judge.specs.Handles.{handle, same_handle}
use Rattle.fuse_judge.specs.Tallies.{Counts, count_in}
use Rattle.fuse_judge.specs.Verdicts.{IsVerdict, AreVerdicts}
use Rattle.fuse_judge.specs.Seen.{JudgeState, HasRoom, HasSeen}
use Rattle.fuse_judge.proofs.VerdictLaws.{verdicts-more}

-- The first acts are seen, and each has its verdict.
pub record AreSeen (old : JudgeState) (acts : List Act) (verdicts : List (Option Fault))
    (now : JudgeState) : Type 0 where
  pub judged : (s : Session) → HasSeen s old → AreVerdicts s acts verdicts
  pub right : (s : Session) → HasSeen s old → HasSeen (s ++ acts) now

-- one more act is seen
pub seen-more : (old : JudgeState) (acts : List Act) (verdicts : List (Option Fault)) (now : JudgeState) (act : Act)
    (verdict : Option Fault) (new : JudgeState) → AreSeen old acts verdicts now
    → ((s : Session) → HasSeen s now → IsVerdict s act verdict)
    → ((s : Session) → HasSeen s now → HasSeen (s ++ act ∷ []) new)
    → AreSeen old (acts ++ act ∷ []) (verdicts ++ verdict ∷ []) new
seen-more old acts verdicts now act verdict new so_far is_verdict step = record {
  judged = λ s are. verdicts-more s acts verdicts act verdict (so_far.judged s are)
      (is_verdict (s ++ acts) (so_far.right s are));
  right = λ s are. subst (λ t. HasSeen t new) (append_assoc s acts (act ∷ []))
      (step (s ++ acts) (so_far.right s are));
}

-- Empty tables are right of the empty session.
pub seen_nothing : (flags : Flags) (numbers : Map Block) (nodes : Map NodeRow) (waiting : Map Waiting)
    (named : Counts ℕ) (used open_counts : Counts Handle) (open_nodes : Counts ℕ) → AreFlags [] flags
    → numbers ≡ [] → nodes ≡ [] → waiting ≡ [] → ((q : ℕ) → count_in nat_eq named q ≡ 0)
    → ((q : Handle) → count_in same_handle used q ≡ 0) → ((q : Handle) → count_in same_handle open_counts q ≡ 0)
    → ((q : ℕ) → count_in nat_eq open_nodes q ≡ 0)
    → HasSeen [] record {
      flags = flags;
      numbers = numbers;
      nodes = nodes;
      waiting = waiting;
      named = named;
      used = used;
      open_counts = open_counts;
      open_nodes = open_nodes;
    }
seen_nothing flags numbers nodes waiting named used open_counts open_nodes are a b c d e f g = rw
    (a, b, c) record {
      right_flags = are;
      right_numbers = record {
        marked = λ u. record {
          read = refl;
          forget = refl;
        };
        whole = λ k x none. absurd (none-some x none);
      };
      right_nodes = λ n. (refl, refl, refl);
      right_pending = record {
        listed = record {
          once = λ u. refl;
          names = λ n. d n;
          uses = λ o. e (handle o);
        };
        interrupted = λ u. tt;
      };
      right_opens = record {
        open_count = λ o. f (handle o);
        files = [];
        once = λ o. refl;
        of_nodes = λ n. g n;
        few = omega arith;
      };
    }

-- Tables with room for some acts have room for fewer.
pub room_for_fewer : {A : Type 0} (t : Tables A) (more acts : ℕ) → acts ≤ more → HasRoom more t → HasRoom acts t
room_for_fewer t more acts few has = record {
  numbers = omega (arith, few, has.numbers);
  nodes = omega (arith, few, has.nodes);
  waiting = omega (arith, few, has.waiting);
  named = omega (arith, few, has.named);
  used = omega (arith, few, has.used);
  open_counts = omega (arith, few, has.open_counts);
  open_nodes = omega (arith, few, has.open_nodes);
}

pub room_for_none : {A : Type 0} (t : Tables A) → HasRoom 0 t
room_for_none t = record {
  numbers = omega arith;
  nodes = omega arith;
  waiting = omega arith;
  named = omega arith;
  used = omega arith;
  open_counts = omega arith;
  open_nodes = omega arith;
}
