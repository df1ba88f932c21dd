-- What waits in a session under a number of the kernel's asks of open files what the kernel's request there asks.
use Rattle.std.proofs.Common.{◌≡◌, ◌⊎◌, ◌&&◌, inl, inr, ℕ, ◌+◌, ◌≤◌, ◌<◌, ◌^◌, Bool, true, false, All, List, [], ◌∷◌, Some, nat_eq, nat_le, refl, ap, sym, subst, ◌∙◌, arith}
use Rattle.std.proofs.lemmas.Bool.Decides.{nat_tests}
use Rattle.std.proofs.lemmas.List.Elements.{All-cons, All-nil}
use Rattle.fuse_device.specs.Transfers.{Transfer}
use Rattle.fuse_spec.specs.declared.Opened.{Opened}
use Rattle.fuse_spec.specs.Kernel.Kernel.{Kernel}
use Rattle.fuse_spec.specs.Kernel.Messages.{Request, RequestBody}
use Rattle.fuse_spec.specs.Server.Server.{nodes_of_body}
use Rattle.fuse_protocol.specs.declared.opcode.Opcode.{Opcode}
use Rattle.fuse_protocol.specs.declared.opcode.Opcode.TheVariants as op
use Rattle.fuse_protocol.specs.Pairs.{pairs_of_row}
use Rattle.fuse_protocol.specs.Requests.{RequestMessage}
use Rattle.fuse_protocol.specs.Table.{row_at}
use Rattle.fk_drive.specs.Driving.{Driven, DriveStep, IsSentFrame, ReleasesBehind, SendsFrame, Turn, alone, at_end, opens, reads, releases, releases_none, sends, sends_opened, with_result, writes}
use Rattle.fk_drive.specs.KernelSteps.{mounts}
use Rattle.fk_drive_theorem.specs.TakenOnce.{mounts_at}
use Rattle.fk_drive_theorem.proofs.OneEach.{OneEach}
use Rattle.fk_drive_theorem.proofs.WrittenCounted.{EmptyUnlessLive}
use Rattle.protocol_law.specs.Law.{Carries}
use Rattle.fuse_sessions.specs.declared.act.Asked.{Asked}
use Rattle.fuse_sessions.specs.declared.act.OpenKind.TheVariants as kind
use Rattle.fuse_sessions.specs.declared.known.Known.{Known}
use Rattle.fuse_sessions.specs.declared.transfer.Transfer.{Transfer as Said}
use Rattle.fuse_sessions.specs.Frames.{IsRequestOf, Lead}
use Rattle.fuse_sessions.specs.RequestActs.{request_acts}
use Rattle.fuse_sessions.specs.Waiting.{names_node}
use Rattle.fuse_sessions.specs.Sessions.{Session}
use Rattle.fuse_sessions.specs.UnreadRequests.{opcode_in, unique_in}
use Rattle.driven_sessions.specs.Driven.{HaveAgreed}
use Rattle.driven_sessions.specs.Transfers.{AllSent, AreSaid}
use Rattle.driven_sessions.proofs.Asks.{AllAsk, doing_ask, map_ask, pairs_ask, zip_ask}
use Rattle.driven_sessions.proofs.Frames.{frame_interrupt, is_interrupt}
use Rattle.driven_sessions.proofs.Naming.{SaysNodes, names_such, request_nodes}
use Rattle.driven_sessions.proofs.Reading.{picked_alive}
use Rattle.driven_sessions.proofs.Shapes.{said_shaped}
use Rattle.driven_sessions.proofs.Spent.{Keeps, held, none_held, some_request}
use Rattle.driven_sessions.proofs.Telling.{FrameAsks, IsOwnNumber, Tells, asks_grow, held_before, interrupt_asks, own_asks}
use Rattle.driven_sessions.proofs.Files.Bodies.{AsksAlike, KnowsFiles, step_files}
use Rattle.driven_sessions.proofs.Files.FrameActs.{AsksFor, file_acts}
use Rattle.driven_sessions.proofs.Files.Rows.{files_of}
use Rattle.driven_sessions.proofs.Files.Frames.{request_files}
use Rattle.driven_sessions.proofs.Files.Picked.{picked_alike}

abbrev pub IsIn : ℕ → List ℕ → Type 0
IsIn node [] = ⊥
IsIn node (x ∷ xs) = (x ≡ node) ⊎ IsIn node xs

-- It asks of open files what this body asks, and names its nodes.
pub record AsksSame (body : RequestBody) (a : Asked) : Type 0 where
  pub files : AsksFor kind.File (files_of body) a
  pub names : (node : ℕ) → 1 ≤ node → names_node node a ≡ true → IsIn node (nodes_of_body body)

-- A request that was sent under a number of the kernel's: the kernel's there asks the same of open files.
abbrev pub TiedFiles : Kernel → ℕ → Asked → Type 0
TiedFiles k u a = u < 2 ^ 62 → (body : RequestBody) × AsksSame body a × KnowsFiles body u k

pub record Ties (d : Driven) (s : Session) : Type 0 where
  pub asks : AllAsk (TiedFiles d.kernel) s
  pub holds : (r : Request) → held d.turn ≡ Some r → is_interrupt r.body ≡ false → KnowsFiles r.body r.unique d.kernel

-- ---- a frame that is sent

-- the number of a request's frame
pub frame_number : (frame : List ℕ) (r : Request) (goes : IsSentFrame frame r) → unique_in frame ≡ r.unique
frame_number frame r goes = goes.says.spells.3.1.1.0 ∙ goes.says.unique

pub frame_of_interrupt : (frame : List ℕ) (r : Request) → IsSentFrame frame r → is_interrupt r.body ≡ true → opcode_in frame ≡ 36
frame_of_interrupt frame r goes is = by (frame_interrupt frame r goes.says ∙ is)
  where
    by : nat_eq (opcode_in frame) 36 ≡ true → opcode_in frame ≡ 36
    by e = grind (arith, nat_tests, e)

all_in : (P : ℕ → Type 0) (xs : List ℕ) → ((n : ℕ) → IsIn n xs → P n) → All P xs
all_in P [] is = All-nil P
all_in P (x ∷ xs) is = All-cons P x xs (is x (inl refl)) (all_in P xs (λ n there. is n (inr there)))

-- What a request's frame asks names the nodes of its body.
names_asked : (frame : List ℕ) (r : Request) → IsSentFrame frame r
    → FrameAsks (λ u a. (node : ℕ) → 1 ≤ node → names_node node a ≡ true → IsIn node (nodes_of_body r.body)) frame
names_asked frame r goes k acts carries (inl ((o, m), is, does)) =
    subst (AllAsk (λ u a. (node : ℕ) → 1 ≤ node → names_node node a ≡ true → IsIn node (nodes_of_body r.body))) (sym does) (row o m is)
  where
    says : SaysNodes (λ n. IsIn n (nodes_of_body r.body)) frame
    says = request_nodes (λ n. IsIn n (nodes_of_body r.body)) frame r goes.says
        (all_in (λ n. IsIn n (nodes_of_body r.body)) (nodes_of_body r.body) (λ n there. there))

    row : (o : Opcode) (m : RequestMessage) → IsRequestOf k.agreed frame (o, m)
        → AllAsk (λ u a. (node : ℕ) → 1 ≤ node → names_node node a ≡ true → IsIn node (nodes_of_body r.body))
        (request_acts k.has_resent o m)
    row op.Interrupt m is = tt
    row op.NotifyReply m is = tt
    row op.Forget m is = tt
    row op.BatchForget m is =
        pairs_ask (λ u a. (node : ℕ) → 1 ≤ node → names_node node a ≡ true → IsIn node (nodes_of_body r.body))
        (pairs_of_row (row_at op.BatchForget).tail m.tail)
    row o m is = doing_ask (λ u a. (node : ℕ) → 1 ≤ node → names_node node a ≡ true → IsIn node (nodes_of_body r.body))
        (k.has_resent && nat_le (2 ^ 63) m.unique) o m
        (names_such (λ n. IsIn n (nodes_of_body r.body)) k frame says o m is refl)
names_asked frame r goes k acts carries (inr (none, does)) =
    let one = said_shaped frame r goes.says k.agreed carries in absurd (none (one.0, one.1) one.2)

request_tied : (kernel : Kernel) (frame : List ℕ) (r : Request) (goes : IsSentFrame frame r)
    → (is_interrupt r.body ≡ false → KnowsFiles r.body r.unique kernel) → FrameAsks (TiedFiles kernel) frame
request_tied kernel frame r goes holds = by (is_interrupt r.body) refl
  where
    by : (b : Bool) → is_interrupt r.body ≡ b → FrameAsks (TiedFiles kernel) frame
    by true is = interrupt_asks (TiedFiles kernel) frame (said_shaped frame r goes.says) (frame_of_interrupt frame r goes is)
    by false other = λ k acts carries does. map_ask (λ u a. ((u ≡ unique_in frame) × AsksFor kind.File (files_of r.body) a)
        × ((node : ℕ) → 1 ≤ node → names_node node a ≡ true → IsIn node (nodes_of_body r.body))) (TiedFiles kernel)
        (λ u a is low. (
          r.body,
          record { files = is.0.1; names = is.1 },
          subst (λ (n : ℕ). KnowsFiles r.body n kernel) (sym (is.0.0 ∙ frame_number frame r goes)) (holds other),
        )) acts (zip_ask (λ u a. (u ≡ unique_in frame) × AsksFor kind.File (files_of r.body) a)
        (λ u a. (node : ℕ) → 1 ≤ node → names_node node a ≡ true → IsIn node (nodes_of_body r.body)) acts
        (file_acts r.body k frame (request_files frame r goes) (said_shaped frame r goes.says) carries acts does).asks
        (names_asked frame r goes k acts carries does))

own_tied : (k : Kernel) (u : ℕ) (a : Asked) → IsOwnNumber u a → TiedFiles k u a
own_tied k u a high low = absurd (omega (arith, high, low))

own_asks_tied : (kernel : Kernel) (frame : List ℕ) → FrameAsks IsOwnNumber frame → FrameAsks (TiedFiles kernel) frame
own_asks_tied kernel frame asks k acts carries does =
    map_ask IsOwnNumber (TiedFiles kernel) (own_tied kernel) acts (asks k acts carries does)

-- ---- a step

abbrev IsNoRead : {old : Driven} {log : List Transfer} {new : Driven} → DriveStep old log new → Type 0
IsNoRead (reads idles pick may request is) = ⊥
IsNoRead step = Unit {0}

module _ (count : ℕ) (old : Driven) (s : Session) (ties : Ties old s) (keeps : Keeps count old s)
    (one : OneEach old.kernel.queues) (empty : EmptyUnlessLive old.kernel) (tells : Tells count old s) where
  frames_tied : (log : List Transfer) (new : Driven) → DriveStep old log new → AllSent (FrameAsks (TiedFiles old.kernel)) log
  frames_tied log new (sends request turn unlisted frame goes log' went) = by log' went
    where
      by : (log : List Transfer) → SendsFrame frame log → AllSent (FrameAsks (TiedFiles old.kernel)) log
      by log (with_result result) =
          (request_tied old.kernel frame request goes (λ other. ties.holds request (ap held turn) other), tt)
      by log (at_end end) = tt
  frames_tied log new (sends_opened request fh turn frame goes handle log' went) = by log' went
    where
      by : (log : List Transfer) → SendsFrame frame log → AllSent (FrameAsks (TiedFiles old.kernel)) log
      by log (with_result result) =
          (request_tied old.kernel frame request goes (λ other. ties.holds request (ap held turn) other), tt)
      by log (at_end end) = tt
  frames_tied log new (opens request turn asks below node lists frame own log' went) = by log' went
    where
      by : (log : List Transfer) → SendsFrame frame log → AllSent (FrameAsks (TiedFiles old.kernel)) log
      by log (with_result result) =
          (own_asks_tied old.kernel frame (own_asks frame old.next keeps.low below (inl (node, own))), tt)
      by log (at_end end) = tt
  frames_tied log new (writes idles frame rest there handed on result l took log' coming left turn release) =
      by log' coming left turn release
    where
      by : (log : List Transfer) (coming : ℕ) (left : List (ℕ × Opened)) (turn : Turn)
          → ReleasesBehind frame old.next old.directories log coming left turn → AllSent (FrameAsks (TiedFiles old.kernel)) log
      by log coming left turn
          (releases head below before after directory is apart bytes own over (with_result result)) =
          (own_asks_tied old.kernel bytes (own_asks bytes old.next keeps.low below (inr (directory, own))), tt)
      by log coming left turn (releases head below before after directory is apart bytes own over (at_end end)) = tt
      by log coming left turn (releases_none unlisted) = tt
  frames_tied log new step = tt

  module _ (k : Known) (later : Known) (all : Session) (ts : List Said) where
    still_ties : (log : List Transfer) (new : Driven) (step : DriveStep old log new) → mounts_at step ≡ 0
        → ((r : Request) → held new.turn ≡ Some r → is_interrupt r.body ≡ false → KnowsFiles r.body r.unique new.kernel)
        → AreSaid log ts → (leads : Lead k s ts later all) → HaveAgreed Carries k s ts later all leads → Ties new all
    still_ties log new step still holds is leads agreed = record {
      asks = map_ask (TiedFiles old.kernel) (TiedFiles new.kernel) (λ u a tied low.
          let was = tied low in
          (was.0, was.1, step_files old one empty tells.well log new step still was.0 u was.2)) all
          (asks_grow (TiedFiles old.kernel) log (frames_tied log new step) ts is k s later all leads agreed ties.asks);
      holds = holds;
    }

    same_holds : (log : List Transfer) (new : Driven) (step : DriveStep old log new) → mounts_at step ≡ 0 → IsNoRead step
        → (r : Request) → held new.turn ≡ Some r → is_interrupt r.body ≡ false → KnowsFiles r.body r.unique new.kernel
    same_holds log new (reads idles pick may request is) still unread r holds other = absurd unread
    same_holds log new step still unread r holds other =
        step_files old one empty tells.well log new step still r.body r.unique
        (ties.holds r (held_before old log new step tt r holds) other)

    pub step_ties : (log : List Transfer) (new : Driven) (step : DriveStep old log new) → count + mounts_at step ≤ 1
        → Tells (count + mounts_at step) new all → AreSaid log ts → (leads : Lead k s ts later all)
        → HaveAgreed Carries k s ts later all leads → Ties new all
    step_ties log new (alone l (mounts may)) few next is leads agreed =
        let none : count ≡ 0 = omega (arith, few) in record {
          asks = map_ask IsOwnNumber (TiedFiles new.kernel) (own_tied new.kernel) all
              (asks_grow IsOwnNumber log tt ts is k s later all leads agreed (tells.before none));
          holds = λ r holds other. absurd (none_held (held old.turn) r (keeps.before none).1 holds);
        }
    step_ties log new (reads idles pick may request picked_one) few next is leads agreed =
        still_ties log new (reads idles pick may request picked_one) refl (λ r holds other live. (
          (((next.holds r holds other).1) live).0,
          subst (λ (q : Request). AsksAlike q.body q.unique new.kernel) (some_request request r holds)
              (picked_alike old.kernel one (tells.above (picked_alive old.kernel pick may)) pick request picked_one
              (ap (λ (q : Request). is_interrupt q.body) (some_request request r holds) ∙ other)),
        )) is leads agreed
    step_ties log new step few next is leads agreed =
        still_ties log new step refl (same_holds log new step refl tt) is leads agreed
