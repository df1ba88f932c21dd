-- No request of a run names a node that is not counted.
use Rattle.std.proofs.Common.{◌≡◌, ◌⊎◌, inl, inr, ℕ, ◌+◌, ◌≤◌, ◌<◌, ◌^◌, Bool, false, List, [], ◌∷◌, ◌++◌, Some, None, refl, ap, sym, subst, ◌∙◌, arith, All}
use Rattle.std.specs.Borrow.{Bor}
use Rattle.fuse_device.specs.Transfers.{Transfer, received, sent, stopped, unsent}
use Rattle.fuse_spec.specs.declared.Opened.{Opened}
use Rattle.fuse_spec.specs.Claim.Counts.{counted}
use Rattle.fuse_spec.specs.Values.Maps.{get}
use Rattle.fuse_spec.specs.Kernel.Messages.{Request}
use Rattle.fuse_spec.specs.Server.Server.{nodes_of_body}
use Rattle.fuse_theorem.specs.KnownNodes.{IsKnown}
use Rattle.fuse_theorem.proofs.Nodes.NodesKnown.{All-more}
use Rattle.fk_kernel.specs.AwaitedReplies.{head_unique}
use Rattle.fk_drive.specs.Driving.{Driven, DriveStep, Drives, ReleasesBehind, SendsFrame, Turn, first_driven, alone, reads, sends, opens, is_given, is_not_known, is_refused, is_garbled, sends_opened, answers, waits, sets_aside, writes, is_released, ends, releases, releases_none, with_result, at_end, nothing as none_yet, next as behind}
use Rattle.fk_drive_theorem.specs.TakenOnce.{mounts_in}
use Rattle.fk_drive_theorem.proofs.OneEach.{run_one}
use Rattle.fk_drive_theorem.proofs.RunsTally.{run_forgets, run_tallied}
use Rattle.protocol_law.specs.Law.{Carries}
use Rattle.fuse_sessions.specs.declared.act.Act.{Act}
use Rattle.fuse_sessions.specs.declared.act.Act.TheVariants as act
use Rattle.fuse_sessions.specs.declared.act.Taken.{Taken}
use Rattle.fuse_sessions.specs.declared.known.Known.{Known}
use Rattle.fuse_sessions.specs.declared.transfer.Transfer.{Transfer as Said}
use Rattle.fuse_sessions.specs.declared.transfer.Transfer.TheVariants as said
use Rattle.fuse_sessions.specs.Counts.{most_count}
use Rattle.fuse_sessions.specs.Frames.{AreActs, AreReadActs, AreRequestActs, Lead}
use Rattle.fuse_sessions.specs.Numbers.{was_read}
use Rattle.fuse_sessions.specs.Sessions.{Session}
use Rattle.driven_sessions.specs.Driven.{HaveAgreed, NeverAccusedMountedOnceWhereTaken}
use Rattle.driven_sessions.specs.Groups.{is_of_uncounted_nodes}
use Rattle.driven_sessions.specs.Taken.{AreTaken, Outcome, outcomes_of}
use Rattle.driven_sessions.specs.Transfers.{AllSent, AreSaid}
use Rattle.driven_sessions.proofs.Calm.{written_server}
use Rattle.driven_sessions.proofs.Counted.{RunCounts, run_counts}
use Rattle.driven_sessions.proofs.Counting.{held_back, none_grows, own_forgets, received_grows, sends_grow, stopped_grows}
use Rattle.driven_sessions.proofs.Directories.{EachIs, Listed, Waiting, each_middle, left_there, open_left, step_listed}
use Rattle.driven_sessions.proofs.Forgetting.{Forgetting, run_forgetting}
use Rattle.driven_sessions.proofs.Heard.{judged_before}
use Rattle.driven_sessions.proofs.KnownNodes.{Knowing, run_knowing}
use Rattle.driven_sessions.proofs.Leading.{AreFree, calm_free, free_append, never_at, said_parts}
use Rattle.driven_sessions.proofs.Listing.{lists_names, lists_of}
use Rattle.driven_sessions.proofs.Naming.{AreUnnamed, IsThere, SaysNodes, opendir_nodes, releasedir_nodes, request_named, request_nodes, unnamed_free, written_unnamed}
use Rattle.driven_sessions.proofs.Never.{by_judged, is_of_readings, readings_within, run_on}
use Rattle.driven_sessions.proofs.Outcomes.{GoOn, goes_before, goes_same, taken_parts}
use Rattle.driven_sessions.proofs.PickedNodes.{known_counted, picked_known}
use Rattle.driven_sessions.proofs.Spent.{held, some_request}

-- ---- what the session has of the request that is held

-- Each node that it names is there.
abbrev Holds : Driven → Session → Type 0
Holds d s = (r : Request) → held d.turn ≡ Some r → All (IsThere s) (nodes_of_body r.body)

there_more : (s t : Session) (id : ℕ) → most_count s id ≤ most_count t id → IsThere s id → IsThere t id
there_more s t id more (inl root) = inl root
there_more s t id more (inr some) = inr (omega (arith, more, some))

holds_more : (s t : Session) (d e : Driven) → ((id : ℕ) → most_count s id ≤ most_count t id)
    → ((r : Request) → held e.turn ≡ Some r → held d.turn ≡ Some r) → Holds d s → Holds e t
holds_more s t d e more same holds r is =
    All-more (nodes_of_body r.body) (λ id there. there_more s t id (more id) there) (holds r (same r is))

module _ (old : Driven) (f : Forgetting old.kernel) (w : Knowing old.kernel) (k : Known) (s : Session)
    (few : (id : ℕ) → 2 ≤ id → counted (get old.kernel.nodes id) + held_back id old.turn ≤ most_count s id) (holds : Holds old s)
    (ts : List Said) (later : Known) (whole : Session) (leads : Lead k s ts later whole) where
  same_grows : AreSaid [] ts → (id : ℕ) → most_count s id ≤ most_count whole id
  same_grows is id = let same = none_grows id k s ts is later whole leads in omega (arith, same)

  known_there : (id : ℕ) → IsKnown old.kernel.nodes id → IsThere s id
  known_there id known = by (known_counted old.kernel w f id known)
    where
      by : (id ≡ 1) ⊎ ((2 ≤ id) × (1 ≤ counted (get old.kernel.nodes id))) → IsThere s id
      by (inl root) = inl root
      by (inr (low, some)) = let le = few id low in inr (omega (arith, le, some))

  -- A frame was received, and what is held is held still.
  received_holds : (frame : List ℕ) (new : Driven) → AreSaid (received frame ∷ []) ts
      → ((r : Request) → held new.turn ≡ Some r → held old.turn ≡ Some r) → Holds new whole
  received_holds frame new is same =
      holds_more s whole old new (λ id. received_grows id k s frame ts is later whole leads) same holds

  step_holds : (log : List Transfer) (new : Driven) → DriveStep old log new → AreSaid log ts → Holds new whole
  step_holds log new (alone l acts) is = holds_more s whole old new (same_grows is) (λ r of. of) holds
  step_holds log new (reads idles pick may request picked_one) is = λ r of.
      subst (λ (x : Request). All (IsThere whole) (nodes_of_body x.body)) (some_request request r of)
      (All-more (nodes_of_body request.body) (λ id known. there_more s whole id (same_grows is id) (known_there id known))
      (picked_known old.kernel w pick request picked_one))
  step_holds log new (sends request turn unlisted frame says log' went) is = λ r of. absurd (cc of)
  step_holds log new (sends_opened request fh turn frame says handle log' went) is = λ r of. absurd (cc of)
  step_holds log new (opens request turn asks below node lists frame own log' went) is = λ r of.
      holds_more s whole old new (λ id.
      let most = sends_grow id k s frame 0 (own_forgets id frame old.next below (inl (node, own))) log went ts is later whole leads in
      omega (arith, most)) (λ q on. ap held turn ∙ on) holds r of
  step_holds log new (is_given request unique node turn frame fh gives) is = λ r of.
      received_holds frame new is (λ q on. ap held turn ∙ on) r of
  step_holds log new (is_not_known request unique node turn frame gives) is = λ r of.
      received_holds frame new is (λ q on. ap held turn ∙ on) r of
  step_holds log new (is_refused request unique node turn frame error other gives) is = λ r of.
      received_holds frame new is (λ q on. ap held turn ∙ on) r of
  step_holds log new (is_garbled request unique node turn frame head same gives) is = λ r of.
      received_holds frame new is (λ q on. ap held turn ∙ on) r of
  step_holds log new (answers request error turn bytes reply result l took) is = λ r of. absurd (cc of)
  step_holds log new (waits frame own) is = λ r of. received_holds frame new is (λ q on. on) r of
  step_holds log new (sets_aside frame other) is = λ r of. received_holds frame new is (λ q on. on) r of
  step_holds log new (writes idles frame rest there handed on result l took log' coming left turn release) is =
      by log' coming left turn release
    where
      by : (log : List Transfer) (coming : ℕ) (left : List (ℕ × Opened)) (turn : Turn)
          → ReleasesBehind frame old.next old.directories log coming left turn → (r : Request) → held turn ≡ Some r
          → All (IsThere whole) (nodes_of_body r.body)
      by log coming left turn (releases head below before after directory is apart bytes own over went) r of = absurd (cc of)
      by log coming left turn (releases_none unlisted) r of = absurd (cc of)
  step_holds log new (is_released unique turn frame head same) is = λ r of. absurd (cc of)
  step_holds log new (ends end) is = λ r of.
      holds_more s whole old new (λ id. stopped_grows id k s end ts is later whole leads) (λ q on. on) holds r of

-- ---- what the session shows

unnamed_more : (s : Session) → AreFree is_of_uncounted_nodes [] s → (acts : List Act) → AreUnnamed acts
    → AreFree is_of_uncounted_nodes [] (s ++ acts)
unnamed_more s free acts are = free_append is_of_uncounted_nodes [] s acts free (unnamed_free s acts are)

written_names_none : (k : Known) (s : Session) (b : Bor (List ℕ)) (t : Taken) (acts : List Act) (later : Known)
    → AreActs k s (said.Written b t) acts later → AreUnnamed acts
written_names_none k s b t acts later is = by_judged (AreUnnamed acts) k.unjudged (AreReadActs k s (said.Written b t) acts later)
    (λ why. (acts ≡ []) × (later ≡ k)) (λ judged does. written_unnamed acts (written_server k b.now t s acts later does))
    (λ why unjudged none. subst AreUnnamed (sym none.0) refl) is

ended_names_none : (k : Known) (s : Session) (acts : List Act) (later : Known) → AreActs k s said.Ended acts later → AreUnnamed acts
ended_names_none k s acts later is = by_judged (AreUnnamed acts) k.unjudged (AreReadActs k s said.Ended acts later)
    (λ why. (acts ≡ []) × (later ≡ k)) (λ judged does. subst AreUnnamed (sym does.0) refl)
    (λ why unjudged none. subst AreUnnamed (sym none.0) refl) is

module _ (k : Known) (s : Session) (free : AreFree is_of_uncounted_nodes [] s) (later : Known) (all : Session) where
  -- where nothing is sent
  quiet_free : (log : List Transfer) → AllSent (λ frame. ⊥) log → (ts : List Said) → AreSaid log ts → (k : Known) (s : Session)
      → AreFree is_of_uncounted_nodes [] s → Lead k s ts later all → AreFree is_of_uncounted_nodes [] all
  quiet_free [] such [] is k s free leads = subst (AreFree is_of_uncounted_nodes []) (sym leads.1) free
  quiet_free (sent frame result ∷ log) such ts is k s free leads = absurd such.0
  quiet_free (received frame ∷ log) such (said.Written b t ∷ ts) is k s free (acts, known, are, leads) =
      quiet_free log such ts is.1 known (s ++ acts) (unnamed_more s free acts (written_names_none k s b t acts known are)) leads
  quiet_free (unsent frame end ∷ log) such (said.Ended ∷ ts) is k s free (acts, known, are, leads) =
      quiet_free log such ts is.1 known (s ++ acts) (unnamed_more s free acts (ended_names_none k s acts known are)) leads
  quiet_free (stopped end ∷ log) such (said.Ended ∷ ts) is k s free (acts, known, are, leads) =
      quiet_free log such ts is.1 known (s ++ acts) (unnamed_more s free acts (ended_names_none k s acts known are)) leads
  quiet_free log such ts is k s free leads = absurd search

  acts_free : (acts : List Act) → AreFree is_of_uncounted_nodes s acts → all ≡ s ++ acts → AreFree is_of_uncounted_nodes [] all
  acts_free acts are same = subst (AreFree is_of_uncounted_nodes []) (sym same) (free_append is_of_uncounted_nodes [] s acts free are)

  sends_free : (frame : List ℕ) → (k.unjudged ≡ None → SaysNodes (IsThere s) frame) → (log : List Transfer) → SendsFrame frame log
      → (ts : List Said) → AreSaid log ts → Lead k s ts later all → AreFree is_of_uncounted_nodes [] all
  sends_free frame says log (with_result result) (said.Request b ∷ []) is (acts, known, are, leads) = acts_free acts
      (by_judged (AreFree is_of_uncounted_nodes s acts) k.unjudged (AreReadActs k s (said.Request b) acts known)
      (λ why. (acts ≡ []) × (known ≡ k)) (λ judged does. request_named k frame s (says judged) acts
      (subst (λ (l : List ℕ). AreRequestActs k l acts) is.0 does.0))
      (λ why unjudged none. subst (AreFree is_of_uncounted_nodes s) (sym none.0) tt) are) leads.1
  sends_free frame says log (at_end end) (said.Ended ∷ []) is (acts, known, are, leads) =
      acts_free acts (unnamed_free s acts (ended_names_none k s acts known are)) leads.1
  sends_free frame says log went ts is leads = absurd search

  module _ (old : Driven) (holds : k.unjudged ≡ None → Holds old s)
      (listed : k.unjudged ≡ None → old.next < 2 ^ 63 → (before : List (ℕ × Opened)) (u : ℕ) (directory : Opened)
      (after : List (ℕ × Opened)) → old.directories ≡ before ++ (u, directory) ∷ after → IsThere s directory.nodeid) where
    step_free : (log : List Transfer) (new : Driven) → DriveStep old log new → (ts : List Said) → AreSaid log ts
        → Lead k s ts later all → AreFree is_of_uncounted_nodes [] all
    step_free log new (sends request turn unlisted frame says log' went) ts is leads = sends_free frame
        (λ judged. request_nodes (IsThere s) frame request says.says (holds judged request (ap held turn))) log went ts is leads
    step_free log new (sends_opened request fh turn frame says handle log' went) ts is leads = sends_free frame
        (λ judged. request_nodes (IsThere s) frame request says.says (holds judged request (ap held turn))) log went ts is leads
    step_free log new (opens request turn asks below node lists frame own log' went) ts is leads =
        sends_free frame (λ judged. opendir_nodes (IsThere s) frame old.next node own below
        (lists_names (IsThere s) request.body node (lists_of request.body node lists) (holds judged request (ap held turn))))
        log went ts is leads
    step_free log new (writes idles frame rest there handed on result l took log' coming left turn release) ts is leads =
        by log' coming left turn release ts is leads
      where
        by : (log : List Transfer) (coming : ℕ) (left : List (ℕ × Opened)) (turn : Turn)
            → ReleasesBehind frame old.next old.directories log coming left turn → (ts : List Said) → AreSaid log ts
            → Lead k s ts later all → AreFree is_of_uncounted_nodes [] all
        by log coming left turn (releases head below before after directory is apart bytes own over went) ts said leads =
            sends_free bytes (λ judged. releasedir_nodes (IsThere s) bytes old.next directory own below
            (listed judged below before (head_unique frame) directory after is)) log went ts said leads
        by log coming left turn (releases_none unlisted) ts said leads = quiet_free [] tt ts said k s free leads
    step_free log new step ts is leads = quiet_free log tt ts is k s free leads

-- ---- a run

-- Numbers of requests that are not the kernel's rise.
next_rises : (old : Driven) (log : List Transfer) (new : Driven) → DriveStep old log new → old.next ≤ new.next
next_rises old log new (opens request turn asks below node lists frame own log' went) = omega arith
next_rises old log new (writes idles frame rest there handed on result l took log' coming left turn release) = by log' coming left turn release
  where
    by : (log : List Transfer) (coming : ℕ) (left : List (ℕ × Opened)) (turn : Turn)
        → ReleasesBehind frame old.next old.directories log coming left turn → old.next ≤ coming
    by log coming left turn (releases head below before after directory is apart bytes own over went) = omega arith
    by log coming left turn (releases_none unlisted) = omega arith
next_rises old log new step = omega arith

pub record Named (count : ℕ) (d : Driven) (k : Known) (s : Session) : Type 0 where
  pub free : AreFree is_of_uncounted_nodes [] s
  pub holds : k.unjudged ≡ None → Holds d s
  pub listed : k.unjudged ≡ None → d.next < 2 ^ 63 → Listed count d s

module _ (asks : Bool) (os : List Outcome) (k : Known) (s : Session) (first : s ≡ act.SeveralReaders ∷ [])
    (free : AreFree is_of_readings [] s) (none : (u : ℕ) → was_read s u ≡ false) where
  pub run_named : (log : List Transfer) (new : Driven) (run : Drives (first_driven asks) log new) → mounts_in run ≤ 1
      → GoOn (outcomes_of run) os → (ts : List Said) → AreSaid log ts → (later : Known) (whole : Session)
      (leads : Lead k s ts later whole) → AreTaken k s ts later whole leads os → HaveAgreed Carries k s ts later whole leads
      → Named (mounts_in run) new later whole
  run_named log new none_yet one_mount goes [] is later whole leads taken agreed = record {
    free = subst (AreFree is_of_uncounted_nodes []) (sym leads.1) (subst (AreFree is_of_uncounted_nodes []) (sym first)
        (unnamed_free [] (act.SeveralReaders ∷ []) refl));
    holds = λ judged r of. absurd (cc of);
    listed = λ judged low. record { opens = tt; held = λ r of. absurd (cc of); each = tt; apart = tt; early = λ zero. refl };
  }
  run_named log new none_yet one_mount goes (t ∷ ts) is later whole leads taken agreed = absurd is
  run_named log new (behind before mid run last end step) one_mount goes ts is later whole leads taken agreed =
      let parts = said_parts before last ts is in
      let both : (l : Lead k s (parts.first ++ parts.last) later whole)
      × AreTaken k s (parts.first ++ parts.last) later whole l os × HaveAgreed Carries k s (parts.first ++ parts.last) later whole l =
      subst (λ (us : List Said). (l : Lead k s us later whole) × AreTaken k s us later whole l os × HaveAgreed Carries k s us later whole l)
      parts.all (leads, taken, agreed) in
      let led = taken_parts k s parts.first parts.last later whole both.0 os both.1 in
      let have = led.agreed both.2 in
      let goes_so = goes_before mid last end step (outcomes_of run) os goes in
      let fewer : mounts_in run ≤ 1 = omega (arith, one_mount) in
      let was = run_named before mid run fewer goes_so parts.first parts.said led.known led.session led.before led.taken have.0 in
      let f = run_forgetting asks before mid run in
      let w = run_knowing asks before mid run in
      let one = run_one asks before mid run in
      let empty = (run_tallied 2 (omega arith) asks before mid run).empty in
      let keeps = (run_on asks k s free none before mid run fewer parts.first parts.said led.known led.session led.before).keeps in
      let counts : led.known.unjudged ≡ None → (id : ℕ) → 2 ≤ id
      → RunCounts id asks os before mid run led.session = λ judged id low. run_counts id low asks os k s first free none before mid run
      fewer goes_so parts.first parts.said led.known led.session led.before led.taken have.0 judged in
      let few : led.known.unjudged ≡ None → (id : ℕ) → 2 ≤ id
      → counted (get mid.kernel.nodes id) + held_back id mid.turn ≤ most_count led.session id = λ judged id low.
      let balance = (counts judged id low).counts.balance in
      let tally = (run_forgets id low asks before mid run).balance in
      omega (arith, balance, tally) in
      let judged_so : later.unjudged ≡ None → led.known.unjudged ≡ None =
      judged_before parts.last led.known led.session later whole led.behind in
      record {
        free = step_free led.known led.session was.free later whole mid was.holds (λ judged low before u directory after same.
            let l = was.listed judged low in
            left_there mid led.session directory.nodeid (open_left (mounts_in run) mid led.known led.session l keeps.before one empty
            (counts judged 2 (omega arith)).tells.well f w (few judged) (u, directory)
            (each_middle (Waiting mid led.session) before (u, directory) after
            (subst (EachIs (Waiting mid led.session)) same l.each)))) last end step parts.last parts.said_more led.behind;
        holds = λ judged. step_holds mid f w led.known led.session (few (judged_so judged)) (was.holds (judged_so judged)) parts.last
            later whole led.behind last end step parts.said_more;
        listed = λ judged low.
            let rises = next_rises mid last end step in
            let below : mid.next < 2 ^ 63 = omega (arith, rises, low) in
            step_listed (mounts_in run) mid led.known led.session (was.listed (judged_so judged) below) keeps.before one empty
            (counts (judged_so judged) 2 (omega arith)).tells.well f w (few (judged_so judged)) parts.last later whole led.behind last
            end step one_mount below (was.holds (judged_so judged)) parts.said_more;
      }

pub uncounted_never : NeverAccusedMountedOnceWhereTaken is_of_uncounted_nodes
uncounted_never asks log new run one ts is k s (acts, known, are, leads) taken agreed place f has of =
    let first : acts ≡ act.SeveralReaders ∷ [] = are.0 in
    let named = run_named asks (outcomes_of run) known acts first (subst (AreFree is_of_readings []) (sym first)
    (calm_free is_of_readings readings_within [] (act.SeveralReaders ∷ []) refl))
    (λ u. ap (λ (l : List Act). was_read l u) first) log new run one (goes_same (outcomes_of run)) ts is k s leads taken agreed.1 in
    never_at is_of_uncounted_nodes [] s named.free place f has of
