-- What is replied reaches the calls of the two worlds alike, once for all operations.
use Rattle.fuse_theorem.proofs.Refining.Pairs.{dirents_same}
use Rattle.std.proofs.Common.{◌≡◌, ℕ, cond, Bool, true, false, true≢false, List, Option, Some, None, refl, ap, sym, [], ◌∷◌, map}
use Rattle.std.specs.Prelude.{nat_lt}
use Rattle.fuse_spec.specs.Values.Maps.{get_name}
use Rattle.fuse_spec.specs.Calls.Paths.{Name}
use Rattle.fuse_spec.specs.Files.Operations.{Operation, Dirent, DirentPlus, listed_by, Reply, OptionAlike, OperationAlike, ReplyAlike, PairsAlike}
use Rattle.fuse_spec.specs.Calls.Walks.{WalkPlan, Walked, looks_up, finds_none, asks, walk}
use Rattle.fuse_spec.specs.Calls.Answers as answer
use Rattle.fuse_spec.specs.declared.Dentry.{Dentry}
use Rattle.fuse_spec.specs.Calls.Vfs.{CallState, walking, doing, using, Vfs, Advance, answered, bound, unbound, opened_by, asking, no_more, valid_at, look, after_walk, walks_on, asked}
use Rattle.fuse_spec.specs.Calls.CallReplies.{name_listed, names_listed, all_bound, operation_replied, call_replied}
use Rattle.fuse_spec.specs.Claim.Denotes.{StateAlike, DentryAlike, WalkPlanAlike}
use Rattle.fuse_spec.specs.Claim.Alike.{VfsAlike}
use Rattle.fuse_spec.proofs.Tables.{put_alike}
use Rattle.fuse_theorem.specs.Numbering.{IsOneToOne}
use Rattle.fuse_theorem.proofs.Calls.Cases.{SameOperation, both_getattr, both_mkdir, both_create, both_unlink, both_rmdir, both_rename, both_link, both_opening, both_readdir, both_readdirplus, both_read, both_write, same_operation, SameReply, same_found, same_missing, same_created, same_opened, same_attributes, same_listed, same_listed_plus, same_content, same_written, same_done, same_failed, same_reply}
use Rattle.fuse_theorem.proofs.Calls.Walking.{WalkedAlike, LookAlike, walk_alike}
use Rattle.fuse_theorem.proofs.Calls.RepliesReceived.{answered_alike, opened_alike, bound_alike, unbound_alike}

module _ {O P : Type 0} (R : ℕ → ℕ → Type 0) (S : O → P → Type 0) (one : IsOneToOne R) where
  -- The names of a list come into force alike.
  all_bound_alike : (x y : ℕ) → R x y → (v w : List (DirentPlus ℕ)) (c : Vfs O) (d : Vfs P) → VfsAlike R S c d
      → PairsAlike R v w → VfsAlike R S (all_bound c x v) (all_bound d y w)
  all_bound_alike x y r [] [] c d same h = same
  all_bound_alike x y r (p ∷ v) (q ∷ w) c d same h =
      by (listed_by p) (listed_by q) h.0.0 (λ c' d' same'. all_bound_alike x y r v w c' d' same' h.1)
    where
      by : (a b : Option ℕ) → OptionAlike R a b → ((c' : Vfs O) (d' : Vfs P) → VfsAlike R S c' d'
          → VfsAlike R S (all_bound c' x v) (all_bound d' y w))
          → VfsAlike R S (record c { names = names_listed c.clock x (name_listed c.clock x c.names p a) v })
          (record d { names = names_listed d.clock y (name_listed d.clock y d.names q b) w })
      by None None k rest = rest c d same
      by (Some f) (Some g) k rest =
          rest (bound c x p.dirent.name (Some f) p.valid) (bound d y q.dirent.name (Some g) q.valid)
          (bound_alike R S one c d same x y p.dirent.name q.dirent.name (Some f) (Some g) p.valid q.valid r
          (ap (λ (e : Dirent). e.name) h.0.2) k h.0.1)
      by None (Some g) k rest = absurd k
      by (Some f) None k rest = absurd k
  all_bound_alike x y r [] (q ∷ w) c d same h = absurd h
  all_bound_alike x y r (p ∷ v) [] c d same h = absurd h

  listed_by_cases : (c : Vfs O) (d : Vfs P) → VfsAlike R S c d
      → (call : ℕ) (a : Operation ℕ O) (b : Operation ℕ P) (s : Reply ℕ O) (t : Reply ℕ P) → SameOperation R S a b
      → SameReply R S s t
      → VfsAlike R S (operation_replied c call a s) (operation_replied d call b t)
  listed_by_cases c d same call a b s t o (same_failed x y e) =
      answered_alike R S one c d same call call (answer.failed x) (answer.failed y) refl
      (ap (λ (n : ℕ). answer.failed n) e)
  listed_by_cases c d same call a b s t (both_getattr x y r) (same_attributes v w e) =
      answered_alike R S one c d same call call (answer.attributes v) (answer.attributes w) refl
      (ap (λ v. answer.attributes v) e)
  listed_by_cases c d same call a b s t (both_mkdir x y n m r e) (same_found f g v w q u) =
      answered_alike R S one (bound c x n (Some f) v) (bound d y m (Some g) w)
      (bound_alike R S one c d same x y n m (Some f) (Some g) v w r e q u) call call answer.done answer.done refl refl
  listed_by_cases c d same call a b s t (both_link l k x y n m z r e) (same_found f g v w q u) =
      answered_alike R S one (bound c x n (Some f) v) (bound d y m (Some g) w)
      (bound_alike R S one c d same x y n m (Some f) (Some g) v w r e q u) call call answer.done answer.done refl refl
  listed_by_cases c d same call a b s t (both_create x y n m r e) (same_created f g v w o p q u z) =
      answered_alike R S one (opened_by (bound c x n (Some f) v) call o) (opened_by (bound d y m (Some g) w) call p)
      (opened_alike R S one (bound c x n (Some f) v) (bound d y m (Some g) w)
      (bound_alike R S one c d same x y n m (Some f)
      (Some g) v w r e q u) call o p z) call call answer.done answer.done refl refl
  listed_by_cases c d same call a b s t (both_unlink x y n m r e) same_done =
      answered_alike R S one (unbound c x n) (unbound d y m)
      (unbound_alike R S one c d same x y n m r e) call call answer.done answer.done refl refl
  listed_by_cases c d same call a b s t (both_rmdir x y n m r e) same_done =
      answered_alike R S one (unbound c x n) (unbound d y m)
      (unbound_alike R S one c d same x y n m r e) call call answer.done answer.done refl refl
  listed_by_cases c d same call a b s t (both_rename x y n m x' y' n' m' r e r' e') same_done =
      answered_alike R S one (unbound (unbound c x n) x' n') (unbound (unbound d y m) y' m')
      (unbound_alike R S one (unbound c x n) (unbound d y m)
      (unbound_alike R S one c d same x y n m r e) x' y' n' m' r' e') call call answer.done answer.done refl refl
  listed_by_cases c d same call a b s t (both_opening x y r) (same_opened o p z) =
      answered_alike R S one (opened_by c call o) (opened_by d call p)
      (opened_alike R S one c d same call o p z) call call answer.done answer.done refl refl
  listed_by_cases c d same call a b s t (both_readdir x y n m i j r e f) (same_listed v w h) =
      answered_alike R S one c d same call call (answer.listing v) (answer.listing w) refl
      (ap (λ v. answer.listing v) h)
  listed_by_cases c d same call a b s t (both_readdirplus x y n m i j r e f) (same_listed_plus v w h) =
      answered_alike R S one (all_bound c x v) (all_bound d y w) (all_bound_alike x y r v w c d same h) call call
      (answer.listing (map (λ (p : DirentPlus ℕ). p.dirent) v))
      (answer.listing (map (λ (p : DirentPlus ℕ). p.dirent) w)) refl
      (ap (λ v. answer.listing v) (dirents_same R v w h))
  listed_by_cases c d same call a b s t (both_read x y n m i j r e f) (same_content v w h) =
      answered_alike R S one c d same call call (answer.content v) (answer.content w) refl
      (ap (λ v. answer.content v) h)
  listed_by_cases c d same call a b s t (both_write x y n m i j r e f) (same_written v w h) =
      answered_alike R S one c d same call call (answer.written v) (answer.written w) refl
      (ap (λ v. answer.written v) h)
  listed_by_cases c d same call a b s t o p = answered_alike R S one c d same call call (answer.failed 5)
      (answer.failed 5) refl refl

  -- Where a step leaves the vfs of the two worlds, and what it asks.
  pub record AdvanceAlike (l : Advance O) (m : Advance P) : Type 0 where
    pub vfs : VfsAlike R S l.vfs m.vfs
    pub operation : OptionAlike (OperationAlike R S) l.operation m.operation

  pub asked_alike : (st : CallState O) (st' : CallState P) → StateAlike R S st st'
      → OperationAlike R S (asked st) (asked st')
  asked_alike (walking d word words plan) (walking e word' words' plan') h = (h.0, h.1)
  asked_alike (doing a) (doing b) h = h
  asked_alike (using open_call a) (using open_call' b) h = h.1
  asked_alike (walking d word words plan) (doing b) h = absurd h
  asked_alike (walking d word words plan) (using open_call' b) h = absurd h
  asked_alike (doing a) (walking e word' words' plan') h = absurd h
  asked_alike (doing a) (using open_call' b) h = absurd h
  asked_alike (using open_call a) (walking e word' words' plan') h = absurd h
  asked_alike (using open_call a) (doing b) h = absurd h

  module _ (c : Vfs O) (d : Vfs P) (same : VfsAlike R S c d) where
    pub no_more_alike : AdvanceAlike (no_more c) (no_more d)
    no_more_alike = record { vfs = same; operation = tt }

    pub asking_alike : (call : ℕ) (st : CallState O) (st' : CallState P) → StateAlike R S st st'
        → AdvanceAlike (asking c call st) (asking d call st')
    asking_alike call st st' h = record {
      vfs = record {
        names = same.names;
        names_meant = same.names_meant;
        names_reached = same.names_reached;
        opens = same.opens;
        calls = put_alike (OptionAlike (StateAlike R S)) c.calls d.calls call st st' same.calls h;
        answers = same.answers;
        next_call = same.next_call;
        clock = same.clock;
        roots = same.roots;
      };
      operation = asked_alike st st' h;
    }

    valid_alike : (n m : ℕ) → n ≡ m → (a b : Option Dentry) → OptionAlike (DentryAlike R) a b
        → OptionAlike (OptionAlike R) (valid_at n a) (valid_at m b)
    valid_alike n m e None None h = tt
    valid_alike n m e (Some a) (Some b) h = by (nat_lt n a.until) (nat_lt m b.until) (λ i. nat_lt (e i) (h.1 i))
      where
        by : (s t : Bool) → s ≡ t → OptionAlike (OptionAlike R) (cond s (Some a.target) None)
            (cond t (Some b.target) None)
        by true true q = h.0
        by false false q = tt
        by true false q = absurd (true≢false q)
        by false true q = absurd (true≢false (sym q))
    valid_alike n m e None (Some b) h = absurd h
    valid_alike n m e (Some a) None h = absurd h

    look_alike : LookAlike {O = O} {P = P} R S (look c) (look d)
    look_alike x y name r = valid_alike c.clock d.clock same.clock (get_name c.names (x, name))
        (get_name d.names (y, name)) (same.names x y name r)

    after_walk_alike : (call : ℕ) (w : Walked ℕ O) (v : Walked ℕ P) → WalkedAlike R S w v
        → AdvanceAlike (after_walk c call w) (after_walk d call v)
    after_walk_alike call (looks_up x word words plan) (looks_up y word' words' plan') h =
        asking_alike call (walking x word words plan) (walking y word' words' plan') h
    after_walk_alike call finds_none finds_none h = record {
      vfs =
          answered_alike R S one c d same call call (answer.failed 2) (answer.failed 2) refl refl;
      operation = tt;
    }
    after_walk_alike call (asks a) (asks b) h = asking_alike call (doing a) (doing b) h
    after_walk_alike call (looks_up x word words plan) finds_none h = absurd h
    after_walk_alike call (looks_up x word words plan) (asks b) h = absurd h
    after_walk_alike call finds_none (looks_up y word' words' plan') h = absurd h
    after_walk_alike call finds_none (asks b) h = absurd h
    after_walk_alike call (asks a) (looks_up y word' words' plan') h = absurd h
    after_walk_alike call (asks a) finds_none h = absurd h

    pub walks_on_alike : (call x y : ℕ) (words words' : List Name) (plan plan' : WalkPlan ℕ) → R x y → words ≡ words'
        → WalkPlanAlike R plan plan'
        → AdvanceAlike (walks_on c call x words plan) (walks_on d call y words' plan')
    walks_on_alike call x y words words' plan plan' r e h =
        after_walk_alike call (walk (look c) c.root x words plan) (walk (look d) d.root y words' plan')
        (walk_alike R S (look c) (look d) look_alike c.root d.root same.roots x y words words' plan plan' r e h)

  -- What is replied reaches a call of the two worlds alike.
  reply_step_by : (c : Vfs O) (d : Vfs P) → VfsAlike R S c d
      → (call : ℕ) (st : CallState O) (st' : CallState P) (s : Reply ℕ O) (t : Reply ℕ P) → StateAlike R S st st'
      → SameReply R S s t
      → AdvanceAlike (call_replied c call st s) (call_replied d call st' t)
  reply_step_by c d same call (walking x word words plan) (walking y word' words' plan') s t h (same_found f g v w q u) =
      walks_on_alike (bound c x word (Some f) v) (bound d y word' (Some g) w)
      (bound_alike R S one c d same x y word word' (Some f)
      (Some g) v w h.0 h.1 q u) call f g words words' plan plan' q h.2 h.3
  reply_step_by c d same call (walking x word words plan) (walking y word' words' plan') s t h (same_missing v w u) =
      no_more_alike (answered (bound c x word None v) call (answer.failed 2))
      (answered (bound d y word' None w) call (answer.failed 2))
      (answered_alike R S one (bound c x word None v) (bound d y word' None w)
      (bound_alike R S one c d same x y word word' None None v w h.0 h.1 tt u) call call (answer.failed 2)
      (answer.failed 2) refl refl)
  reply_step_by c d same call (walking x word words plan) (walking y word' words' plan') s t h (same_failed m n u) =
      no_more_alike (answered c call (answer.failed m)) (answered d call (answer.failed n))
      (answered_alike R S one c d same call call (answer.failed m) (answer.failed n) refl
      (ap (λ (e : ℕ). answer.failed e) u))
  reply_step_by c d same call (doing a) (doing b) s t h k =
      no_more_alike (operation_replied c call a s) (operation_replied d call b t)
      (listed_by_cases c d same call a b s t (same_operation R S a b h) k)
  reply_step_by c d same call (using n a) (using m b) s t h k =
      no_more_alike (operation_replied c call a s) (operation_replied d call b t)
      (listed_by_cases c d same call a b s t (same_operation R S a b h.1) k)
  reply_step_by c d same call (walking x word words plan) (walking y word' words' plan') s t h k =
      no_more_alike (answered c call (answer.failed 5)) (answered d call (answer.failed 5))
      (answered_alike R S one c d same call call (answer.failed 5) (answer.failed 5) refl refl)
  reply_step_by c d same call (walking x word words plan) (doing b) s t h k = absurd h
  reply_step_by c d same call (walking x word words plan) (using m b) s t h k = absurd h
  reply_step_by c d same call (doing a) (walking y word' words' plan') s t h k = absurd h
  reply_step_by c d same call (doing a) (using m b) s t h k = absurd h
  reply_step_by c d same call (using n a) (walking y word' words' plan') s t h k = absurd h
  reply_step_by c d same call (using n a) (doing b) s t h k = absurd h

  pub reply_step_refines : (c : Vfs O) (d : Vfs P) → VfsAlike R S c d
      → (call : ℕ) (st : CallState O) (st' : CallState P) (s : Reply ℕ O) (t : Reply ℕ P) → StateAlike R S st st'
      → ReplyAlike R S s t
      → AdvanceAlike (call_replied c call st s) (call_replied d call st' t)
  reply_step_refines c d same call st st' s t h k = reply_step_by c d same call st st' s t h (same_reply R S s t k)
