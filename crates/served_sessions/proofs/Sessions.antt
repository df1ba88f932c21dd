-- A session of exchanges is free of a group of faults, if each frame that answers keeps its header, number and agreement.
use Rattle.std.proofs.Common.{◌≡◌, ℕ, Bool, true, List, [], ◌∷◌, ◌++◌, Option, Some, None, refl, sym, ◌∙◌, ap, subst, subst₂, append_assoc, append-nil}
use Rattle.std.specs.Prelude.{MatchOption}
use Rattle.std.specs.Borrow.{Bor}
use Rattle.fuse_device.specs.Transfers.{Transfer}
use Rattle.fuse_protocol.specs.declared.agreed.Unjudged.{Unjudged}
use Rattle.fuse_replies.specs.Replies.{IsErrorWord}
use Rattle.fuse_sessions.specs.declared.act.Act.{Act}
use Rattle.fuse_sessions.specs.declared.act.Act.TheVariants as act
use Rattle.fuse_sessions.specs.declared.act.Taken.{Taken}
use Rattle.fuse_sessions.specs.declared.fault.Fault.{Fault}
use Rattle.fuse_sessions.specs.declared.fault.Fault.TheVariants as fault
use Rattle.fuse_sessions.specs.declared.known.Known.{Known}
use Rattle.fuse_sessions.specs.declared.transfer.Transfer.{Transfer as Said}
use Rattle.fuse_sessions.specs.declared.transfer.Transfer.TheVariants as said
use Rattle.fuse_sessions.specs.Sessions.{Session}
use Rattle.fuse_sessions.specs.Frames.{error_in, AreRequestActs, IsOffered, AreReadActs, AreActs, Lead}
use Rattle.served_sessions.specs.Exchanges.{AllReceived, AreExchangesBy, AreSaid, IsAnswer, answered, cut_off, ended, nothing, unanswered}
use Rattle.served_sessions.proofs.Acts.{is_of_frames}
use Rattle.served_sessions.proofs.Free.{beside_free, free_append, free_first, free_last, AreFree}
use Rattle.served_sessions.proofs.Kept.{Kept, kept_end, kept_request, kept_written}
use Rattle.served_sessions.proofs.Requested.{acts_beside}
use Rattle.served_sessions.proofs.Written.{Keeps, written_free}

-- the transfers lead to a session that goes on from this one
pub extends : (k : Known) (s : Session) (ts : List Said) (later : Known) (all : Session) → Lead k s ts later all
    → (rest : List Act) × (all ≡ s ++ rest)
extends k s [] later all (known, same) = ([], same ∙ sym (append-nil s))
extends k s (t ∷ ts) later all (acts, next, are, leads) =
    let more : (rest : List Act) × (all ≡ s ++ acts ++ rest) = extends next (s ++ acts) ts later all leads in
    (acts ++ more.0, more.1 ∙ append_assoc s acts more.0)

pub by_judged : (Goal : Type 0) (o : Option Unjudged) (P : Type 0) (R : Unjudged → Type 0) → (o ≡ None → P → Goal)
    → ((why : Unjudged) → o ≡ Some why → R why → Goal) → MatchOption o P R → Goal
by_judged Goal None P R judged unjudged is = judged refl is
by_judged Goal (Some why) P R judged unjudged is = unjudged why refl is

-- If the session is free of what is asked of the kernel, so are its next acts, and those behind them.
module _ (asked : Fault → Bool) (later : Known) (all : Session) where
  pub asked_next : (s : Session) (acts : List Act) (k : Known) (ts : List Said) → ((rest : List Act) → all ≡ s ++ rest
      → AreFree asked s rest) → Lead k (s ++ acts) ts later all → AreFree asked s acts
  asked_next s acts k ts is leads =
      let more : (rest : List Act) × (all ≡ s ++ acts ++ rest) = extends k (s ++ acts) ts later all leads in
      free_first asked s acts more.0 (is (acts ++ more.0) (more.1 ∙ append_assoc s acts more.0))

  pub asked_later : (s : Session) (acts : List Act) → ((rest : List Act) → all ≡ s ++ rest → AreFree asked s rest)
      → (rest : List Act) → all ≡ s ++ acts ++ rest → AreFree asked (s ++ acts) rest
  asked_later s acts is rest same =
      free_last asked s acts rest (is (acts ++ rest) (same ∙ append_assoc s acts rest))

-- The session ends in acts that are free of the group's faults.
pub record EndsFree (group : Fault → Bool) (s all : Session) : Type 0 where
  pub rest : List Act
  pub all_is : all ≡ s ++ rest
  pub free : AreFree group s rest

module _ (group asked : Fault → Bool) (within : (f : Fault) → group f ≡ true → is_of_frames f ≡ true)
    (IsSuch : List ℕ → Type 0) (Answers : List ℕ → List ℕ → Type 0)
    (head : (request reply : List ℕ) → Answers request reply → IsAnswer request reply)
    (answers : (k later : Known) (s : Session) (request reply : List ℕ) (t : Taken) (acts : List Act)
    → Kept (asked fault.OddNumber) k s → IsSuch request → Answers request reply → AreRequestActs k request acts
    → IsOffered k request later → AreFree asked s acts → Keeps group later (s ++ acts) reply t) where
  abbrev even : Bool
  even = asked fault.OddNumber

  -- the session after some acts, which are free of the group's faults
  record Step (k next : Known) (s : Session) (acts : List Act) : Type 0 where
    kept : Kept even next (s ++ acts)
    free : AreFree group s acts

  no_step : (k next : Known) (s : Session) (acts : List Act) → Kept even k s → (acts ≡ []) × (next ≡ k)
      → Step k next s acts
  no_step k next s acts kept (none, same) = record {
    kept = subst₂ (λ (x : Known) (l : List Act). Kept even x (s ++ l)) (sym same) (sym none)
        (subst (Kept even k) (sym (append-nil s)) kept);
    free = subst (AreFree group s) (sym none) tt;
  }

  request_step : (k next : Known) (s : Session) (b : Bor (List ℕ)) (acts : List Act) → Kept even k s
      → AreFree asked s acts → AreActs k s (said.Request b) acts next → Step k next s acts
  request_step k next s b acts kept free is = by_judged (Step k next s acts) k.unjudged
      (AreReadActs k s (said.Request b) acts next) (λ why. (acts ≡ []) × (next ≡ k)) (λ judged does. record {
        kept = kept_request asked k s b.now acts next kept does.0 does.1 free;
        free = beside_free group within s acts (acts_beside k b.now acts kept.not_resent does.0);
      }) (λ why unjudged. no_step k next s acts kept) is

  written_step : (k next : Known) (s : Session) (b : Bor (List ℕ)) (t : Taken) (acts : List Act) → Kept even k s
      → IsErrorWord (error_in b.now) → (k.unjudged ≡ None → Keeps group k s b.now t)
      → AreActs k s (said.Written b t) acts next → Step k next s acts
  written_step k next s b t acts kept error keeps is = by_judged (Step k next s acts) k.unjudged
      (AreReadActs k s (said.Written b t) acts next) (λ why. (acts ≡ []) × (next ≡ k)) (λ judged does. record {
        kept = kept_written even group k next s b.now t acts kept error (keeps judged) does;
        free = written_free group within k s b.now t (keeps judged) acts next does;
      }) (λ why unjudged. no_step k next s acts kept) is

  end_step : (k next : Known) (s : Session) (acts : List Act) → Kept even k s → AreActs k s said.Ended acts next
      → Step k next s acts
  end_step k next s acts kept is = by_judged (Step k next s acts) k.unjudged
      (AreReadActs k s said.Ended acts next) (λ why. (acts ≡ []) × (next ≡ k)) (λ judged does. record {
        kept = subst₂ (λ (x : Known) (l : List Act). Kept even x (s ++ l)) (sym does.1) (sym does.0)
            (kept_end even k s kept);
        free = subst (AreFree group s) (sym does.0) (beside_free group within s (act.Ends ∷ []) refl);
      }) (λ why unjudged. no_step k next s acts kept) is

  keeps_behind : (k next : Known) (s : Session) (request reply : Bor (List ℕ)) (t : Taken) (acts : List Act)
      → Kept even k s → IsSuch request.now → Answers request.now reply.now → AreFree asked s acts
      → AreActs k s (said.Request request) acts next → next.unjudged ≡ None → Keeps group next (s ++ acts) reply.now t
  keeps_behind k next s request reply t acts kept such answer free is judged_next =
      by_judged (Keeps group next (s ++ acts) reply.now t) k.unjudged
      (AreReadActs k s (said.Request request) acts next) (λ why. (acts ≡ []) × (next ≡ k))
      (λ judged does. answers k next s request.now reply.now t acts kept such answer does.0 does.1 free)
      (λ why unjudged same. absurd (not_both why (sym unjudged ∙ ap (λ (x : Known). x.unjudged) (sym same.1) ∙ judged_next)))
      is
    where
      not_both : (why : Unjudged) → ◌≡◌ {A = Option Unjudged} (Some why) None → ⊥
      not_both why e = cc

  -- Whatever ends the session is free of what is asked of the kernel.
  IsAsked : Session → Session → Type 0
  IsAsked s all = (rest : List Act) → all ≡ s ++ rest → AreFree asked s rest

  module _ (later : Known) (all : Session) where
    behind : (s : Session) (acts : List Act) → AreFree group s acts → EndsFree group (s ++ acts) all
        → EndsFree group s all
    behind s acts free more = record {
      rest = acts ++ more.rest;
      all_is = more.all_is ∙ append_assoc s acts more.rest;
      free = free_append group s acts more.rest free more.free;
    }

    pub exchanges_free : (log : List Transfer) → AreExchangesBy Answers log → (ts : List Said) → AreSaid log ts
        → AllReceived IsSuch log → (k : Known) (s : Session) → Kept even k s → Lead k s ts later all
        → ((rest : List Act) → all ≡ s ++ rest → AreFree asked s rest) → EndsFree group s all
    exchanges_free log nothing [] is such k s kept (known, same) free =
        record { rest = []; all_is = same ∙ sym (append-nil s); free = tt }
    exchanges_free log nothing (t ∷ ts) is such k s kept leads free = absurd is
    exchanges_free log (unanswered request more ex) (said.Request b ∷ ts) is such k s kept (acts, next, are, leads) free =
        let step = request_step k next s b acts kept (asked_next asked later all s acts next ts free leads) are in
        behind s acts step.free (exchanges_free more ex ts is.1 such.1 next (s ++ acts) step.kept leads
        (asked_later asked later all s acts free))
    exchanges_free log (answered request reply answer result more ex) (said.Request b ∷ said.Written c t ∷ ts) is such k
        s kept (acts, next, are, (acts', next', are', leads)) free =
        let first = asked_next asked later all s acts next (said.Written c t ∷ ts) free (acts', next', are', leads) in
        let step = request_step k next s b acts kept first are in
        let answer' : Answers b.now c.now = subst₂ Answers (sym is.0) (sym is.1.0.0) answer in
        let such' : IsSuch b.now = subst IsSuch (sym is.0) such.0 in
        let keeps = keeps_behind k next s b c t acts kept such' answer' first are in
        let step' = written_step next next' (s ++ acts) c t acts' step.kept (head b.now c.now answer').error keeps are' in
        behind s acts step.free (behind (s ++ acts) acts' step'.free
        (exchanges_free more ex ts is.1.1 such.1 next' (s ++ acts ++ acts') step'.kept leads
        (asked_later asked later all (s ++ acts) acts' (asked_later asked later all s acts free))))
    exchanges_free log (cut_off request reply end more ex) (said.Request b ∷ said.Ended ∷ ts) is such k s kept
        (acts, next, are, (acts', next', are', leads)) free =
        let first = asked_next asked later all s acts next (said.Ended ∷ ts) free (acts', next', are', leads) in
        let step = request_step k next s b acts kept first are in
        let step' = end_step next next' (s ++ acts) acts' step.kept are' in
        behind s acts step.free (behind (s ++ acts) acts' step'.free
        (exchanges_free more ex ts is.1.1 such.1 next' (s ++ acts ++ acts') step'.kept leads
        (asked_later asked later all (s ++ acts) acts' (asked_later asked later all s acts free))))
    exchanges_free log (ended end more ex) (said.Ended ∷ ts) is such k s kept (acts, next, are, leads) free =
        let step = end_step k next s acts kept are in
        behind s acts step.free (exchanges_free more ex ts is.1 such next (s ++ acts) step.kept leads
        (asked_later asked later all s acts free))
    exchanges_free log (unanswered request more ex) ts is such k s kept leads free = absurd search
    exchanges_free log (answered request reply answer result more ex) ts is such k s kept leads free = absurd search
    exchanges_free log (cut_off request reply end more ex) ts is such k s kept leads free = absurd search
    exchanges_free log (ended end more ex) ts is such k s kept leads free = absurd search
