-- A session shows no fault of a group, where none of its requests' frames and nothing that a server shows does.
use Rattle.std.proofs.Common.{◌≡◌, ℕ, Bool, List, [], ◌∷◌, ◌++◌, refl, sym, ap, subst}
use Rattle.std.specs.Borrow.{Bor}
use Rattle.std.specs.List.{list_all}
use Rattle.fuse_device.specs.Transfers.{Transfer, received, sent, stopped, unsent}
use Rattle.fuse_sessions.specs.declared.act.Act.{Act}
use Rattle.fuse_sessions.specs.declared.act.Act.TheVariants as act
use Rattle.fuse_sessions.specs.declared.act.Taken.{Taken}
use Rattle.fuse_sessions.specs.declared.fault.Fault.{Fault}
use Rattle.fuse_sessions.specs.declared.known.Known.{Known}
use Rattle.fuse_sessions.specs.declared.transfer.Transfer.{Transfer as Said}
use Rattle.fuse_sessions.specs.declared.transfer.Transfer.TheVariants as said
use Rattle.fuse_sessions.specs.Frames.{AreActs, AreReadActs, AreRequestActs, Lead}
use Rattle.fuse_sessions.specs.Sessions.{Session}
use Rattle.driven_sessions.specs.Driven.{IsFreeOf}
use Rattle.driven_sessions.specs.Transfers.{AllSent, AreSaid}
use Rattle.driven_sessions.proofs.Calm.{AreShown, is_shown, written_shown}
use Rattle.driven_sessions.proofs.Leading.{AreFree, HasSeveral, free_append, never_at, several_append}
use Rattle.driven_sessions.proofs.Never.{by_judged}

module _ (group : Fault → Bool) (shown : (s : Session) (acts : List Act) → AreShown acts → AreFree group s acts)
    (IsSuch : List ℕ → Type 0) (reads : (k : Known) (frame : List ℕ) (s : Session) (acts : List Act) → HasSeveral s
    → IsSuch frame → AreRequestActs k frame acts → AreFree group s acts) where
  none_free : (s : Session) (acts : List Act) → acts ≡ [] → AreFree group s acts
  none_free s acts none = subst (AreFree group s) (sym none) tt

  request_free : (k : Known) (s : Session) (b : Bor (List ℕ)) (acts : List Act) (later : Known) → HasSeveral s
      → IsSuch b.now → AreActs k s (said.Request b) acts later → AreFree group s acts
  request_free k s b acts later several such is = by_judged (AreFree group s acts) k.unjudged
      (AreReadActs k s (said.Request b) acts later) (λ why. (acts ≡ []) × (later ≡ k))
      (λ judged does. reads k b.now s acts several such does.0) (λ why unjudged none. none_free s acts none.0) is

  written_free : (k : Known) (s : Session) (b : Bor (List ℕ)) (t : Taken) (acts : List Act) (later : Known)
      → AreActs k s (said.Written b t) acts later → AreFree group s acts
  written_free k s b t acts later is = by_judged (AreFree group s acts) k.unjudged
      (AreReadActs k s (said.Written b t) acts later) (λ why. (acts ≡ []) × (later ≡ k))
      (λ judged does. shown s acts (written_shown k b.now t s acts later does)) (λ why unjudged none. none_free s acts none.0) is

  ended_free : (k : Known) (s : Session) (acts : List Act) (later : Known) → AreActs k s said.Ended acts later
      → AreFree group s acts
  ended_free k s acts later is = by_judged (AreFree group s acts) k.unjudged (AreReadActs k s said.Ended acts later)
      (λ why. (acts ≡ []) × (later ≡ k)) (λ judged does. shown s acts (ap (list_all is_shown) does.0))
      (λ why unjudged none. none_free s acts none.0) is

  session_free : (log : List Transfer) → AllSent IsSuch log → (ts : List Said) → AreSaid log ts → (k : Known) (s : Session)
      → HasSeveral s → AreFree group [] s → (later : Known) (all : Session) → Lead k s ts later all → AreFree group [] all
  session_free [] such [] is k s several free later all leads = subst (AreFree group []) (sym leads.1) free
  session_free (sent frame result ∷ log) such (said.Request b ∷ ts) is k s several free later all (acts, known, are, leads) =
      session_free log such.1 ts is.1 known (s ++ acts) (several_append s acts several) (free_append group [] s acts free
      (request_free k s b acts known several (subst IsSuch (sym is.0) such.0) are)) later all leads
  session_free (received frame ∷ log) such (said.Written b t ∷ ts) is k s several free later all (acts, known, are, leads) =
      session_free log such ts is.1 known (s ++ acts) (several_append s acts several)
      (free_append group [] s acts free (written_free k s b t acts known are)) later all leads
  session_free (unsent frame end ∷ log) such (said.Ended ∷ ts) is k s several free later all (acts, known, are, leads) =
      session_free log such ts is.1 known (s ++ acts) (several_append s acts several)
      (free_append group [] s acts free (ended_free k s acts known are)) later all leads
  session_free (stopped end ∷ log) such (said.Ended ∷ ts) is k s several free later all (acts, known, are, leads) =
      session_free log such ts is.1 known (s ++ acts) (several_append s acts several)
      (free_append group [] s acts free (ended_free k s acts known are)) later all leads
  session_free log such ts is k s several free later all leads = absurd search

  pub such_free : (log : List Transfer) → AllSent IsSuch log → IsFreeOf group log
  such_free log such s (ts, is, k, (acts, known, are, leads)) place f has of =
      let first : acts ≡ act.SeveralReaders ∷ [] = are.0 in
      never_at group [] s (session_free log such ts is known acts (subst HasSeveral (sym first) refl)
      (shown [] acts (ap (list_all is_shown) first)) k s leads) place f has of
