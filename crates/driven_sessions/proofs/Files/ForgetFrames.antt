-- What a session shows of the nodes that a step forgets.
use Rattle.std.proofs.Common.{inl, inr, ◌∙◌, ap, ◌<◌, ◌^◌, Some, ◌≡◌, ℕ, ◌≤◌, List, [], ◌∷◌, ◌++◌, sym, subst, arith}
use Rattle.fuse_device.specs.Transfers.{Transfer}
use Rattle.fk_drive.specs.Driving.{Driven}
use Rattle.fuse_sessions.specs.declared.known.Known.{Known}
use Rattle.fuse_sessions.specs.declared.transfer.Transfer.{Transfer as Said}
use Rattle.fuse_sessions.specs.Frames.{Lead}
use Rattle.fuse_sessions.specs.Sessions.{Session}
use Rattle.driven_sessions.specs.Transfers.{AreSaid}
use Rattle.fuse_device.specs.Transfers.{received, sent, stopped, unsent}
use Rattle.fuse_spec.specs.declared.Opened.{Opened}
use Rattle.fuse_spec.specs.Kernel.Messages.{Request}
use Rattle.fuse_spec.specs.Server.Server.{forgets_of, forgotten}
use Rattle.std.proofs.lemmas.Bool.{false≢true}
use Rattle.fk_drive.specs.Driving.{DriveStep, ReleasesBehind, SendsFrame, Turn, at_end, opens, releases, releases_none, sends, sends_opened, with_result, writes}
use Rattle.fuse_sessions.specs.Frames.{AreReadActs, AreRequestActs}
use Rattle.fuse_sessions.specs.declared.transfer.Transfer.TheVariants as said
use Rattle.driven_sessions.specs.Transfers.{AllSent}
use Rattle.driven_sessions.proofs.Counting.{back_of, held_back}
use Rattle.driven_sessions.proofs.Doing.{request_does}
use Rattle.driven_sessions.proofs.Forgetting.{AreForgets}
use Rattle.driven_sessions.proofs.Frames.{IsOwn, SaysForgets, frame_forgets, own_head}
use Rattle.driven_sessions.proofs.Never.{by_judged, ended_calm, written_is_calm}
use Rattle.driven_sessions.proofs.Spent.{held}
use Rattle.fuse_sessions.specs.Counts.{most_count}
use Rattle.driven_sessions.proofs.Files.ForgetActs.{AllSuch, AreLast, all_append, calm_forgetless, forgetless_all, forgets_such}
use Rattle.driven_sessions.proofs.Files.Opened.{AreStill}

-- Where what is held may forget the last lookups of a node, it has the property.
abbrev pub HasLast : (Session → ℕ → Type 0) → Driven → Session → Type 0
HasLast IsSuch d s = (id : ℕ) → 2 ≤ id → 1 ≤ held_back id d.turn → most_count s id ≤ held_back id d.turn → IsSuch s id

module _ (IsSuch : Session → ℕ → Type 0)
    (keeps : (s acts : Session) → AreStill acts → (id : ℕ) → IsSuch s id → IsSuch (s ++ acts) id) where
  -- OPENDIR and RELEASEDIR forget nothing.
  own_says : (s : Session) (frame : List ℕ) (unique : ℕ) → unique < 2 ^ 63 → IsOwn frame unique → SaysForgets (AreLast IsSuch keeps s) frame
  own_says s frame unique low own =
      let head = own_head frame unique low own in record {
        one = λ e. absurd (false≢true (sym head.2 ∙ e));
        many = λ e. absurd (false≢true (sym head.3 ∙ e));
      }

  module _ (later : Known) (all : Session) where
    -- where nothing is sent
    quiet_such : (log : List Transfer) → AllSent (λ frame. ⊥) log → (ts : List Said) → AreSaid log ts → (k : Known) (s : Session)
        → AllSuch IsSuch keeps [] s → Lead k s ts later all → AllSuch IsSuch keeps [] all
    quiet_such [] such [] is k s free leads = subst (AllSuch IsSuch keeps []) (sym leads.1) free
    quiet_such (sent frame result ∷ log) such ts is k s free leads = absurd such.0
    quiet_such (received frame ∷ log) such (said.Written b t ∷ ts) is k s free (acts, known, are, leads) =
        quiet_such log such ts is.1 known (s ++ acts) (all_append IsSuch keeps [] s acts free
        (forgetless_all IsSuch keeps s acts (calm_forgetless acts (written_is_calm k s b t acts known are)))) leads
    quiet_such (unsent frame end ∷ log) such (said.Ended ∷ ts) is k s free (acts, known, are, leads) =
        quiet_such log such ts is.1 known (s ++ acts) (all_append IsSuch keeps [] s acts free
        (forgetless_all IsSuch keeps s acts (calm_forgetless acts (ended_calm k s acts known are)))) leads
    quiet_such (stopped end ∷ log) such (said.Ended ∷ ts) is k s free (acts, known, are, leads) =
        quiet_such log such ts is.1 known (s ++ acts) (all_append IsSuch keeps [] s acts free
        (forgetless_all IsSuch keeps s acts (calm_forgetless acts (ended_calm k s acts known are)))) leads
    quiet_such log such ts is k s free leads = absurd search

    module _ (k : Known) (s : Session) (free : AllSuch IsSuch keeps [] s) where
      sends_such : (frame : List ℕ) → SaysForgets (AreLast IsSuch keeps s) frame → (log : List Transfer) → SendsFrame frame log
          → (ts : List Said) → AreSaid log ts → Lead k s ts later all → AllSuch IsSuch keeps [] all
      sends_such frame says log (with_result result) (said.Request b ∷ []) is (acts, known, are, leads) =
          subst (AllSuch IsSuch keeps []) (sym leads.1) (all_append IsSuch keeps [] s acts free
          (by_judged (AllSuch IsSuch keeps s acts) k.unjudged (AreReadActs k s (said.Request b) acts known)
          (λ why. (acts ≡ []) × (known ≡ k)) (λ judged does. forgets_such IsSuch keeps k.agreed frame s acts says
          (request_does k frame acts (subst (λ (l : List ℕ). AreRequestActs k l acts) is.0 does.0)))
          (λ why unjudged none. subst (AllSuch IsSuch keeps s) (sym none.0) tt) are))
      sends_such frame says log (at_end end) (said.Ended ∷ []) is (acts, known, are, leads) =
          subst (AllSuch IsSuch keeps []) (sym leads.1) (all_append IsSuch keeps [] s acts free
          (forgetless_all IsSuch keeps s acts (calm_forgetless acts (ended_calm k s acts known are))))
      sends_such frame says log went ts is leads = absurd search

      held_such : (old : Driven) → HasLast IsSuch old s → ((r : Request) → held old.turn ≡ Some r → AreForgets (forgets_of r.body))
          → (r : Request) → held old.turn ≡ Some r → AreLast IsSuch keeps s (forgets_of r.body)
      held_such old kept good r holds = (
        good r holds,
        λ id low some last.
            let back : held_back id old.turn ≡ forgotten id (forgets_of r.body) = ap (back_of id) holds in
            kept id low (omega (arith, some, back)) (omega (arith, last, back)),
      )

      pub step_such : (old : Driven) → HasLast IsSuch old s → ((r : Request) → held old.turn ≡ Some r → AreForgets (forgets_of r.body))
          → (log : List Transfer) (new : Driven) → DriveStep old log new → (ts : List Said) → AreSaid log ts → Lead k s ts later all
          → AllSuch IsSuch keeps [] all
      step_such old kept good log new (sends request turn unlisted frame goes log' went) ts is leads =
          sends_such frame (frame_forgets (AreLast IsSuch keeps s) frame request goes.says (held_such old kept good request (ap held turn))) log went ts
          is leads
      step_such old kept good log new (sends_opened request fh turn frame goes handle log' went) ts is leads =
          sends_such frame (frame_forgets (AreLast IsSuch keeps s) frame request goes.says (held_such old kept good request (ap held turn))) log went ts
          is leads
      step_such old kept good log new (opens request turn asks_it below node lists frame mine log' went) ts is leads =
          sends_such frame (own_says s frame old.next below (inl (node, mine))) log went ts is leads
      step_such old kept good log new (writes idles frame rest there handed on result l took log' coming left turn behind_it) ts is leads =
          by log' coming left turn behind_it is
        where
          by : (log : List Transfer) (coming : ℕ) (left : List (ℕ × Opened)) (turn : Turn)
              → ReleasesBehind frame old.next old.directories log coming left turn → AreSaid log ts → AllSuch IsSuch keeps [] all
          by log coming left turn (releases head below before after directory stands apart bytes mine over went) is =
              sends_such bytes (own_says s bytes old.next below (inr (directory, mine))) log went ts is leads
          by log coming left turn (releases_none unlisted) is = quiet_such [] tt ts is k s free leads
      step_such old kept good log new step ts is leads = quiet_such log tt ts is k s free leads
