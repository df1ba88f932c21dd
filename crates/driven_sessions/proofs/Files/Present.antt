-- What waits in a session waits in a live kernel too, and what was answered waits no more.
use Rattle.std.proofs.Common.{◌≡◌, ◌⊎◌, inl, inr, ℕ, ◌+◌, ◌≤◌, ◌<◌, ◌%◌, ◌^◌, Bool, true, false, true≢false, List, [], ◌∷◌, ◌++◌, Option, Some, None, length, nat_eq, nat_le, nat_lt, refl, ap, sym, subst, ◌∙◌, arith}
use Rattle.std.proofs.lemmas.Bool.{false≢true}
use Rattle.std.proofs.lemmas.Bool.Decides.{nat_tests}
use Rattle.fk_fields.specs.Fields.{number_at}
use Rattle.fuse_device.specs.Transfers.{Transfer, received}
use Rattle.fuse_spec.specs.declared.Opened.{Opened}
use Rattle.fuse_spec.specs.declared.Purpose.{Purpose}
use Rattle.fuse_spec.specs.declared.QueuedRequest.{QueuedRequest}
use Rattle.fuse_spec.specs.declared.WriteResult.{WriteResult}
use Rattle.fuse_spec.specs.Kernel.Kernel.{Kernel, is_live}
use Rattle.fuse_spec.specs.Kernel.Messages.{Forget, Request, RequestBody, interrupt}
use Rattle.fuse_spec.specs.Kernel.Queues.{request_under}
use Rattle.fuse_spec.specs.World.Worlds.{forget_body}
use Rattle.fuse_theorem.proofs.Requests.AskKept.{StillThere}
use Rattle.fk_kernel.specs.AwaitedReplies.{head_unique}
use Rattle.fk_kernel.specs.Picks.{IsPicked, after_pick}
use Rattle.fk_kernel.specs.declared.read.Pick.{Pick}
use Rattle.fk_kernel.specs.declared.read.Pick.TheVariants.{Forgets, Interrupt, Pending}
use Rattle.fk_drive_frames.specs.Agreements.{IsHandedOn, IsOlderAgreement}
use Rattle.fk_drive.specs.Driving.{Driven, DriveStep, IsSentFrame, ReleasesBehind, Turn, alone, answers, reads, releases, releases_none, waits, writes}
use Rattle.fk_drive.specs.KernelSteps.{IsReplyTaken, mounts}
use Rattle.fk_drive_theorem.specs.TakenOnce.{mounts_at}
use Rattle.fk_drive_theorem.proofs.OneEach.{OneEach}
use Rattle.fk_drive_theorem.proofs.Taken.{TakenAs, holds_as_taken, is_read, refused_whole}
use Rattle.fk_drive_theorem.proofs.WrittenCounted.{EmptyUnlessLive}
use Rattle.protocol_law.specs.Law.{Carries}
use Rattle.fuse_sessions.specs.declared.act.Asked.{Asked}
use Rattle.fuse_sessions.specs.declared.act.OpenKind.TheVariants as kind
use Rattle.fuse_sessions.specs.declared.act.Taken.{Taken}
use Rattle.fuse_sessions.specs.declared.act.Taken.TheVariants as taken
use Rattle.fuse_sessions.specs.declared.known.Known.{Known}
use Rattle.fuse_sessions.specs.declared.transfer.Transfer.{Transfer as Said}
use Rattle.fuse_sessions.specs.declared.transfer.Transfer.TheVariants as said
use Rattle.fuse_sessions.specs.Frames.{AreAccepted, AreActs, Lead}
use Rattle.fuse_sessions.specs.Numbers.{was_read}
use Rattle.fuse_sessions.specs.Sessions.{Session}
use Rattle.fuse_sessions.specs.UnreadRequests.{unique_in}
use Rattle.fuse_sessions.specs.Waiting.{uses_file, waiting, waits as waits_in}
use Rattle.driven_sessions.specs.Driven.{HaveAgreed}
use Rattle.driven_sessions.specs.Transfers.{AllSent, AreSaid}
use Rattle.driven_sessions.proofs.Asking.{read_under}
use Rattle.driven_sessions.proofs.Asks.{AllAsk, EachAsked, map_ask, waiting_each, waits_ask}
use Rattle.driven_sessions.proofs.Frames.{IsOwn, is_interrupt}
use Rattle.driven_sessions.proofs.Heard.{judged_before}
use Rattle.driven_sessions.proofs.Leading.{AreFree}
use Rattle.driven_sessions.proofs.Numbers.{Passed}
use Rattle.driven_sessions.proofs.Reading.{picked_alive}
use Rattle.driven_sessions.proofs.Replying.{Moves, WellNumbered, alone_moves, moved, picked_moves}
use Rattle.driven_sessions.proofs.Served.{added, added_all, free_first, is_of_server}
use Rattle.driven_sessions.proofs.Shapes.{own_shaped, said_shaped}
use Rattle.driven_sessions.proofs.Spent.{Keeps, Spent, held, none_held, of_kernel, own, some_request}
use Rattle.driven_sessions.proofs.Steps.{alone_dead, taken_dead}
use Rattle.driven_sessions.proofs.Telling.{FrameAsks, IsOwnNumber, Tells, Tied, asks_grow, held_before, interrupt_asks, own_asks}
use Rattle.driven_sessions.proofs.Unagreed.{judged_acts}
use Rattle.driven_sessions.proofs.Files.FrameActs.{AsksFor, file_acts}
use Rattle.driven_sessions.proofs.Files.Rows.{files_of}
use Rattle.driven_sessions.proofs.Files.Frames.{no_files, own_files, request_files}
use Rattle.driven_sessions.proofs.Files.Opened.{each_map, open_file}
use Rattle.driven_sessions.proofs.Files.Picked.{pending_under}
use Rattle.driven_sessions.proofs.Files.Short.{answer_number, raised_number}
use Rattle.driven_sessions.proofs.Files.Ties.{Ties, TiedFiles, frame_number, frame_of_interrupt}
use Rattle.driven_sessions.proofs.Files.Waiting.{HasBody, WereRead, accepted_answers, awaits_reply, none_asked, read_on, reads_grow, step_sent, waits_grow}

-- ---- the kernel

abbrev pub IsPresent : ℕ → Kernel → Type 0
IsPresent u k = request_under k.queues u ≡ None → ⊥

-- What was read is there still, unless it ended.
moves_present : (u v : ℕ) (k l : Kernel) → Passed u k.queues → Moves v k l → (u ≡ v → ⊥) → IsPresent u k → IsPresent u l
moves_present u v k l passed moves apart present none = by (request_under k.queues u) refl
  where
    by : (x : Option (QueuedRequest Purpose)) → request_under k.queues u ≡ x → ⊥
    by None under = present under
    by (Some r) under = one (moves.still u r passed.read under (read_under u k.queues.requests r passed.read under))
      where
        one : StillThere k l u r ⊎ ((u ≡ v) × (request_under l.queues u ≡ None)) → ⊥
        one (inl still) = cc (still.under, none)
        one (inr gone) = apart gone.0

-- the number under which a step ends a request
abbrev pub IsEnded : {old : Driven} {log : List Transfer} {new : Driven} → DriveStep old log new → ℕ → Type 0
IsEnded (answers request error turn bytes reply result l took) u = u ≡ head_unique bytes
IsEnded (writes idles frame rest there handed on result l took log coming left turn behind_it) u = u ≡ head_unique handed
IsEnded step u = ⊥

module _ (old : Driven) (one : OneEach old.kernel.queues) (empty : EmptyUnlessLive old.kernel) (well : WellNumbered old.kernel)
    (u : ℕ) (some : 2 ≤ u) (passed : is_live old.kernel.phase ≡ true → Passed u old.kernel.queues)
    (present : is_live old.kernel.phase ≡ true → IsPresent u old.kernel) where
  was_live : (b : Bool) → is_live old.kernel.phase ≡ b → (is_live old.kernel.phase ≡ false → ⊥) → is_live old.kernel.phase ≡ true
  was_live true is dead = is
  was_live false is dead = absurd (dead is)

  taken_present : (bytes : List ℕ) (result : WriteResult) (new : Kernel) → IsReplyTaken old.kernel bytes result new
      → is_live new.phase ≡ true → (u ≡ head_unique bytes → ⊥) → IsPresent u new
  taken_present bytes result new took live apart =
      let alive = was_live (is_live old.kernel.phase) refl
      (λ dead. true≢false (sym live ∙ taken_dead old.kernel bytes result new took empty dead)) in
      holds_as_taken old.kernel bytes result new took (IsPresent u new) (λ s e. s (λ n. n e)) (by alive)
    where
      by : is_live old.kernel.phase ≡ true → TakenAs old.kernel bytes result new → IsPresent u new
      by alive (refused_whole refused no_entry same) = subst (IsPresent u) (sym same) (present alive)
      by alive (is_read p wire awaits means same) = moves_present u (head_unique bytes) old.kernel new (passed alive)
          (moved old.kernel bytes result new took live one (well alive) p wire same) apart (present alive)

  pub step_present : (log : List Transfer) (new : Driven) (step : DriveStep old log new) → mounts_at step ≡ 0
      → (IsEnded step u → ⊥) → is_live new.kernel.phase ≡ true → IsPresent u new.kernel
  step_present log new (alone l acts) none apart live =
      let alive = was_live (is_live old.kernel.phase) refl
      (λ dead. true≢false (sym live ∙ alone_dead old.kernel l acts none dead)) in
      moves_present u 0 old.kernel l (passed alive) (alone_moves 0 old.kernel l acts none live one (well alive))
      (λ e. omega (arith, e, some)) (present alive)
  step_present log new (reads idles pick may request picked_one) none apart live = moves_present u 0 old.kernel new.kernel
      (passed live) (picked_moves 0 old.kernel pick (well live)) (λ e. omega (arith, e, some)) (present live)
  step_present log new (answers request error turn bytes reply result l took) none apart live =
      taken_present bytes result l took live apart
  step_present log new (writes idles frame rest there handed on result l took log' coming left turn behind_it) none apart live =
      taken_present handed result l took live apart
  step_present log new step none apart live = present live

-- ---- what is kept

-- A request that waits in the session under a number of the kernel's waits in the kernel.
abbrev pub WaitsThere : Kernel → ℕ → Asked → Type 0
WaitsThere k u a = u < 2 ^ 62 → is_live k.phase ≡ true → IsPresent u k

-- OPENDIR and RELEASEDIR use no file.
abbrev pub UsesNone : ℕ → Asked → Type 0
UsesNone u a = 2 ^ 62 ≤ u → (p : Opened) → uses_file (open_file p) a ≡ false

-- Numbers of the kernel's are even.
abbrev pub IsEven : ℕ → Asked → Type 0
IsEven u a = u < 2 ^ 62 → u % 2 ≡ 0

-- What was asked under a number was answered, and nothing waits there.
abbrev pub IsAnswered : Session → ℕ → Type 0
IsAnswered s u = (was_read s u ≡ true) × EachAsked (λ n a. n ≡ u → ⊥) (waiting s)

-- So it is of each frame under a number of the kernel's.
abbrev pub AreAnswered : Session → List (List ℕ) → Type 0
AreAnswered s [] = Unit {0}
AreAnswered s (frame ∷ frames) = (2 ≤ head_unique frame → head_unique frame % 2 ≡ 0 → head_unique frame < 2 ^ 62
    → IsAnswered s (head_unique frame)) × AreAnswered s frames

answered_map : (s t : Session) → ((u : ℕ) → u < 2 ^ 62 → IsAnswered s u → IsAnswered t u) → (frames : List (List ℕ))
    → AreAnswered s frames → AreAnswered t frames
answered_map s t to [] all = tt
answered_map s t to (frame ∷ frames) all =
    (λ some even less. to (head_unique frame) less (all.0 some even less), answered_map s t to frames all.1)

answered_last : (s : Session) (frames : List (List ℕ)) (frame : List ℕ) → AreAnswered s frames
    → (2 ≤ head_unique frame → head_unique frame % 2 ≡ 0 → head_unique frame < 2 ^ 62 → IsAnswered s (head_unique frame))
    → AreAnswered s (frames ++ frame ∷ [])
answered_last s [] frame all last = (last, tt)
answered_last s (f ∷ frames) frame all last = (all.0, answered_last s frames frame all.1 last)

pub record Present (d : Driven) (s : Session) : Type 0 where
  pub waiting_there : EachAsked (WaitsThere d.kernel) (waiting s)
  pub holds : (r : Request) → held d.turn ≡ Some r → awaits_reply r.body ≡ true → is_live d.kernel.phase ≡ true
      → IsPresent r.unique d.kernel
  pub own : AllAsk UsesNone s
  pub even : AllAsk IsEven s
  pub read : WereRead s
  pub answered : AreAnswered s d.waiting

-- ---- frames that are sent

-- What a frame asks, it asks under its number.
pub request_numbers : (frame : List ℕ) (r : Request) → IsSentFrame frame r → FrameAsks (λ u a. u ≡ r.unique) frame
request_numbers frame r goes k acts carries does = map_ask (λ u a. (u ≡ unique_in frame) × AsksFor kind.File (files_of r.body) a) (λ u a. u ≡ r.unique)
    (λ u a is. is.0 ∙ frame_number frame r goes) acts
    (file_acts r.body k frame (request_files frame r goes) (said_shaped frame r goes.says) carries acts does).asks

pub map_frame : (P Q : ℕ → Asked → Type 0) → ((u : ℕ) (a : Asked) → P u a → Q u a) → (frame : List ℕ) → FrameAsks P frame
    → FrameAsks Q frame
map_frame P Q to frame asks k acts carries does = map_ask P Q to acts (asks k acts carries does)

own_uses : (frame : List ℕ) (unique : ℕ) → unique < 2 ^ 63 → IsOwn frame unique → FrameAsks UsesNone frame
own_uses frame unique low mine k acts carries does = map_ask (λ u a. (u ≡ unique_in frame) × AsksFor kind.File (files_of no_files) a) UsesNone
    (λ u a is high p. by a p (uses_file (open_file p) a) refl (is.1.uses p)) acts
    (file_acts no_files k frame (own_files frame unique low mine) (own_shaped frame unique low mine) carries acts does).asks
  where
    by : (a : Asked) (p : Opened) (b : Bool) → uses_file (open_file p) a ≡ b
        → (uses_file (open_file p) a ≡ true → ◌≡◌ {A = List Opened} [] (p ∷ [])) → b ≡ false
    by a p true is uses = absurd (cc (uses is))
    by a p false is uses = refl

-- ---- lists of what waits

pub each_zip : (P Q : ℕ → Asked → Type 0) (es : List (ℕ × Asked)) → EachAsked P es → EachAsked Q es → EachAsked (λ u a. P u a × Q u a) es
each_zip P Q [] first second = tt
each_zip P Q (e ∷ es) first second = ((first.0, second.0), each_zip P Q es first.1 second.1)

each_all : (P : ℕ → Asked → Type 0) → ((u : ℕ) (a : Asked) → P u a) → (es : List (ℕ × Asked)) → EachAsked P es
each_all P all [] = tt
each_all P all (e ∷ es) = (all e.0 e.1, each_all P all es)

no_interrupt : (body : RequestBody) → awaits_reply body ≡ true → is_interrupt body ≡ false
no_interrupt (interrupt original) is = absurd (false≢true is)
no_interrupt body is = refl

older_long : (frame : List ℕ) → IsOlderAgreement frame → 16 ≤ length frame
older_long frame (inl is) = let whole = is.whole in omega (arith, whole)
older_long frame (inr (inl is)) = let whole = is.whole in omega (arith, whole)
older_long frame (inr (inr is)) = let whole = is.whole in omega (arith, whole)

handed_number : (frame handed : List ℕ) → IsHandedOn frame handed → head_unique handed ≡ head_unique frame
handed_number frame handed (inl (older, same)) = ap head_unique same ∙ raised_number frame (older_long frame older)
handed_number frame handed (inr (other, same)) = ap head_unique same

-- ---- a step

module _ (count : ℕ) (old : Driven) (s : Session) (was : Present old s) (ties : Ties old s) (tells : Tells count old s)
    (keeps : Keeps count old s) (one : OneEach old.kernel.queues) (empty : EmptyUnlessLive old.kernel) where
  -- ---- frames

  sent_so : (P : ℕ → Asked → Type 0)
      → ((r : Request) → held old.turn ≡ Some r → is_interrupt r.body ≡ false → (a : Asked) → P r.unique a)
      → ((u : ℕ) (a : Asked) → 2 ^ 62 ≤ u → P u a) → (log : List Transfer) (new : Driven) → DriveStep old log new
      → AllSent (FrameAsks P) log
  sent_so P of_request of_own log new step = step_sent (FrameAsks P) old
      (λ r holds frame goes. by r holds frame goes (is_interrupt r.body) refl)
      (λ frame mine below. map_frame IsOwnNumber P of_own frame (own_asks frame old.next keeps.low below mine)) log new step
    where
      by : (r : Request) → held old.turn ≡ Some r → (frame : List ℕ) → IsSentFrame frame r → (b : Bool) → is_interrupt r.body ≡ b
          → FrameAsks P frame
      by r holds frame goes true is = interrupt_asks P frame (said_shaped frame r goes.says) (frame_of_interrupt frame r goes is)
      by r holds frame goes false is = map_frame (λ u a. u ≡ r.unique) P
          (λ u a same. subst (λ (n : ℕ). P n a) (sym same) (of_request r holds is a)) frame (request_numbers frame r goes)

  -- ---- numbers that end

  answer_apart : (request : Request) → held old.turn ≡ Some request → EachAsked (λ n a. n < 2 ^ 62 → n ≡ request.unique → ⊥) (waiting s)
  answer_apart request holds = each_map (λ n a. was_read s n ≡ true) (λ n a. n < 2 ^ 62 → n ≡ request.unique → ⊥)
      (λ n a is less same. by n same less (keeps.spent n is)) (waiting s) (waiting_each (λ n a. was_read s n ≡ true) s was.read)
    where
      by : (n : ℕ) → n ≡ request.unique → n < 2 ^ 62 → Spent count old n → ⊥
      by n same less (own high below) = omega (arith, high, less)
      by n same less (of_kernel some number apart) = apart request holds (sym same)

  -- Nothing waits under the number of a frame that was received.
  frame_apart : (frame : List ℕ) → (2 ≤ head_unique frame → head_unique frame % 2 ≡ 0 → head_unique frame < 2 ^ 62
      → IsAnswered s (head_unique frame)) → EachAsked (λ n a. n < 2 ^ 62 → n ≡ head_unique frame → ⊥) (waiting s)
  frame_apart frame answered =
      by (nat_le 2 (head_unique frame)) (nat_eq (head_unique frame % 2) 0) (nat_lt (head_unique frame) (2 ^ 62)) refl refl refl
    where
      known : EachAsked (λ n a. Tied old.kernel n a × IsEven n a) (waiting s)
      known = each_zip (Tied old.kernel) IsEven (waiting s) (waiting_each (Tied old.kernel) s tells.asks) (waiting_each IsEven s was.even)

      none : ((n : ℕ) → 2 ≤ n → n % 2 ≡ 0 → n < 2 ^ 62 → n ≡ head_unique frame → ⊥)
          → EachAsked (λ n a. n < 2 ^ 62 → n ≡ head_unique frame → ⊥) (waiting s)
      none never = each_map (λ n a. Tied old.kernel n a × IsEven n a) (λ n a. n < 2 ^ 62 → n ≡ head_unique frame → ⊥)
          (λ n a both less same. never n (both.0 less).0 (both.1 less) less same) (waiting s) known

      by : (x y z : Bool) → nat_le 2 (head_unique frame) ≡ x → nat_eq (head_unique frame % 2) 0 ≡ y
          → nat_lt (head_unique frame) (2 ^ 62) ≡ z → EachAsked (λ n a. n < 2 ^ 62 → n ≡ head_unique frame → ⊥) (waiting s)
      by true true true some even less =
          each_map (λ n a. n ≡ head_unique frame → ⊥) (λ n a. n < 2 ^ 62 → n ≡ head_unique frame → ⊥) (λ n a apart low same. apart same)
          (waiting s) (answered (grind (arith, nat_tests, some)) (grind (arith, nat_tests, even)) (grind (arith, nat_tests, less))).1
      by false y z some even less = none (λ n two two_even low same. grind (arith, nat_tests, some, two, same))
      by true false z some even less = none (λ n two two_even low same.
          false≢true (sym even ∙ ap (λ (m : ℕ). nat_eq (m % 2) 0) (sym same) ∙ ap (λ (m : ℕ). nat_eq m 0) two_even))
      by true true false some even less = none (λ n two two_even low same. grind (arith, nat_tests, less, low, same))

  ends_apart : (log : List Transfer) (new : Driven) (step : DriveStep old log new)
      → EachAsked (λ n a. n < 2 ^ 62 → IsEnded step n → ⊥) (waiting s)
  ends_apart log new (answers request error turn bytes reply result l took) =
      each_map (λ n a. n < 2 ^ 62 → n ≡ request.unique → ⊥) (λ n a. n < 2 ^ 62 → n ≡ head_unique bytes → ⊥)
      (λ n a apart less same. apart less (same ∙ answer_number request.unique error bytes reply)) (waiting s)
      (answer_apart request (ap held turn))
  ends_apart log new (writes idles frame rest there handed on result l took log' coming left turn behind_it) =
      each_map (λ n a. n < 2 ^ 62 → n ≡ head_unique frame → ⊥) (λ n a. n < 2 ^ 62 → n ≡ head_unique handed → ⊥)
      (λ n a apart less same. apart less (same ∙ handed_number frame handed on)) (waiting s)
      (frame_apart frame (subst (AreAnswered s) there was.answered).0)
  ends_apart log new step = each_all (λ n a. n < 2 ^ 62 → IsEnded step n → ⊥) (λ n a less is. is) (waiting s)

  -- ---- the request that is held

  held_apart : (log : List Transfer) (new : Driven) (step : DriveStep old log new) → (r : Request) → held new.turn ≡ Some r
      → IsEnded step r.unique → ⊥
  held_apart log new (answers request error turn bytes reply result l took) r holds is = cc holds
  held_apart log new (writes idles frame rest there handed on result l took log' coming left turn behind_it) r holds is =
      by log' coming left turn behind_it holds
    where
      by : (log : List Transfer) (coming : ℕ) (left : List (ℕ × Opened)) (turn : Turn)
          → ReleasesBehind frame old.next old.directories log coming left turn → held turn ≡ Some r → ⊥
      by log coming left turn (releases head below before after directory is apart bytes own_frame over went) holds = cc holds
      by log coming left turn (releases_none unlisted) holds = cc holds
  held_apart log new step r holds is = is

  -- It waits there still.
  held_present : (log : List Transfer) (new : Driven) (step : DriveStep old log new) → mounts_at step ≡ 0 → (r : Request)
      → held old.turn ≡ Some r → awaits_reply r.body ≡ true → (IsEnded step r.unique → ⊥) → is_live new.kernel.phase ≡ true
      → IsPresent r.unique new.kernel
  held_present log new step none r holds asks_it apart live =
      let other = no_interrupt r.body asks_it in
      step_present old one empty tells.well r.unique (tells.holds r holds other).0 (λ l. ((ties.holds r holds other) l).0)
      (was.holds r holds asks_it) log new step none apart live

  module _ (k : Known) (later : Known) (all : Session) (ts : List Said) (leads : Lead k s ts later all) where
    -- ---- what waits

    kept_there : (log : List Transfer) (new : Driven) (step : DriveStep old log new) → mounts_at step ≡ 0
        → EachAsked (WaitsThere new.kernel) (waiting s)
    kept_there log new step none =
        each_map (λ u a. (Tied old.kernel u a × TiedFiles old.kernel u a) × (WaitsThere old.kernel u a
        × (u < 2 ^ 62 → IsEnded step u → ⊥))) (WaitsThere new.kernel)
        (λ u a x less live. step_present old one empty tells.well u (x.0.0 less).0 (λ l. (((x.0.1 less).2) l).0) (x.1.0 less) log new
        step none (x.1.1 less) live) (waiting s)
        (each_zip (λ u a. Tied old.kernel u a × TiedFiles old.kernel u a)
        (λ u a. WaitsThere old.kernel u a × (u < 2 ^ 62 → IsEnded step u → ⊥)) (waiting s)
        (each_zip (Tied old.kernel) (TiedFiles old.kernel) (waiting s) (waiting_each (Tied old.kernel) s tells.asks)
        (waiting_each (TiedFiles old.kernel) s ties.asks))
        (each_zip (WaitsThere old.kernel) (λ u a. u < 2 ^ 62 → IsEnded step u → ⊥) (waiting s) was.waiting_there
        (ends_apart log new step)))

    old_there : (r : Request) → held old.turn ≡ Some r → (frame : List ℕ) → IsSentFrame frame r
        → FrameAsks (WaitsThere old.kernel) frame
    old_there r holds frame goes = by (awaits_reply r.body) refl
      where
        by : (b : Bool) → awaits_reply r.body ≡ b → FrameAsks (WaitsThere old.kernel) frame
        by true is = map_frame (λ u a. u ≡ r.unique) (WaitsThere old.kernel)
            (λ u a same less live. subst (λ (n : ℕ). IsPresent n old.kernel) (sym same) (was.holds r holds is live)) frame
            (request_numbers frame r goes)
        by false is = none_asked (WaitsThere old.kernel) frame r goes is

    own_there : (kernel : Kernel) (frame : List ℕ) → IsOwn frame old.next → old.next < 2 ^ 63 → FrameAsks (WaitsThere kernel) frame
    own_there kernel frame mine below = map_frame IsOwnNumber (WaitsThere kernel)
        (λ u a high less. absurd (omega (arith, high, less))) frame (own_asks frame old.next keeps.low below mine)

    sent_there : (log : List Transfer) (new : Driven) → DriveStep old log new → AllSent (FrameAsks (WaitsThere new.kernel)) log
    sent_there log new (alone l acts) = tt
    sent_there log new (reads idles pick may request picked_one) = tt
    sent_there log new (answers request error turn bytes reply result l took) = tt
    sent_there log new (writes idles frame rest there handed on result l took log' coming left turn behind_it) =
        step_sent (FrameAsks (WaitsThere l)) old (λ r holds. absurd (none_held (held old.turn) r (ap held idles) holds)) (own_there l) log
        new (writes idles frame rest there handed on result l took log' coming left turn behind_it)
    sent_there log new step = step_sent (FrameAsks (WaitsThere old.kernel)) old old_there (own_there old.kernel) log new step

    -- ---- what was answered

    answered_on : (log : List Transfer) (new : Driven) → DriveStep old log new → AreSaid log ts
        → HaveAgreed Carries k s ts later all leads → (u : ℕ) → u < 2 ^ 62 → IsAnswered s u → IsAnswered all u
    answered_on log new step is agreed u less answered = (
      subst (λ (t : Session). was_read t u ≡ true) (sym (added_all k s ts later all leads))
          (read_on s (added k s ts later all leads) u answered.0),
      waits_grow (λ n a. n ≡ u → ⊥) log (sent_so (λ n a. n ≡ u → ⊥)
          (λ r holds other a same. by r holds same (keeps.spent u answered.0))
          (λ n a high same. omega (arith, high, less, same)) log new step) ts is k s later all leads agreed answered.1,
    )
      where
        by : (r : Request) → held old.turn ≡ Some r → r.unique ≡ u → Spent count old u → ⊥
        by r holds same (own high below) = omega (arith, high, less)
        by r holds same (of_kernel some number apart) = apart r holds same

    received_answered : (frame : List ℕ) → AreSaid (received frame ∷ []) ts → later.unjudged ≡ None → AreAccepted ts
        → AreFree is_of_server s (added k s ts later all leads) → 2 ≤ head_unique frame → head_unique frame % 2 ≡ 0
        → head_unique frame < 2 ^ 62 → IsAnswered all (head_unique frame)
    received_answered frame is judged accepted free some even less = by ts leads is accepted free
      where
        by : (us : List Said) (l : Lead k s us later all) → AreSaid (received frame ∷ []) us → AreAccepted us
            → AreFree is_of_server s (added k s us later all l) → IsAnswered all (head_unique frame)
        by (said.Written b t ∷ []) (acts, known, are, end) is accepted free =
            let first : k.unjudged ≡ None = judged_before (said.Written b t ∷ []) k s later all (acts, known, are, end) judged in
            let are_accepted = subst (λ (x : Taken). AreActs k s (said.Written b x) acts known) accepted.0 are in
            let does = judged_acts k s (said.Written b taken.Accepted) acts known first are_accepted in
            let both = accepted_answers k s b.now acts known does (free_first s acts [] free) (head_unique frame)
            (ap (number_at 8 8) is.0) some even in
            subst (λ (t : Session). IsAnswered t (head_unique frame)) (sym end.1) (
              read_on s acts (head_unique frame) (was_asked (waits_in s (head_unique frame)) refl both.1),
              both.0,
            )
          where
            was_asked : (x : Option Asked) → waits_in s (head_unique frame) ≡ x → (waits_in s (head_unique frame) ≡ None → ⊥)
                → was_read s (head_unique frame) ≡ true
            was_asked None at some = absurd (some at)
            was_asked (Some a) at some = waits_ask (λ u a. was_read s u ≡ true) s was.read (head_unique frame) a at
        by us l is accepted free = absurd search

    step_answered : (log : List Transfer) (new : Driven) → DriveStep old log new → AreSaid log ts
        → HaveAgreed Carries k s ts later all leads → later.unjudged ≡ None → AreAccepted ts
        → AreFree is_of_server s (added k s ts later all leads) → AreAnswered all new.waiting
    step_answered log new (waits frame own_one) is agreed judged accepted free =
        answered_last all old.waiting frame
        (answered_map s all (answered_on log new (waits frame own_one) is agreed) old.waiting was.answered)
        (received_answered frame is judged accepted free)
    step_answered log new (writes idles frame rest there handed on result l took log' coming left turn behind_it) is agreed judged
        accepted free = answered_map s all
        (answered_on log new (writes idles frame rest there handed on result l took log' coming left turn behind_it) is agreed) rest
        (subst (AreAnswered s) there was.answered).1
    step_answered log new step is agreed judged accepted free =
        answered_map s all (answered_on log new step is agreed) old.waiting was.answered

    -- ---- all

    goes_present : (log : List Transfer) (new : Driven) (step : DriveStep old log new) → AreSaid log ts
        → HaveAgreed Carries k s ts later all leads → later.unjudged ≡ None → AreAccepted ts
        → AreFree is_of_server s (added k s ts later all leads) → EachAsked (WaitsThere new.kernel) (waiting s)
        → ((r : Request) → held new.turn ≡ Some r → awaits_reply r.body ≡ true → is_live new.kernel.phase ≡ true
        → IsPresent r.unique new.kernel) → Present new all
    goes_present log new step is agreed judged accepted free there holds = record {
      waiting_there = waits_grow (WaitsThere new.kernel) log (sent_there log new step) ts is k s later all leads agreed there;
      holds = holds;
      own = asks_grow UsesNone log (step_sent (FrameAsks UsesNone) old
          (λ r holds_it frame goes. uses_none r holds_it frame goes (is_interrupt r.body) refl)
          (λ frame mine below. own_uses frame old.next below mine) log new step) ts is k s later all leads agreed was.own;
      even = asks_grow IsEven log (sent_so IsEven (λ r holds_it other a less. ((keeps.holds r holds_it).request other).even)
          (λ u a high less. absurd (omega (arith, high, less))) log new step) ts is k s later all leads agreed was.even;
      read = reads_grow log (step_sent HasBody old
          (λ r holds_it frame goes. (r.body, request_files frame r goes, said_shaped frame r goes.says))
          (λ frame mine below. (no_files, own_files frame old.next below mine, own_shaped frame old.next below mine)) log new step) ts is
          k s later all leads agreed was.read;
      answered = step_answered log new step is agreed judged accepted free;
    }
      where
        uses_none : (r : Request) → held old.turn ≡ Some r → (frame : List ℕ) → IsSentFrame frame r → (b : Bool)
            → is_interrupt r.body ≡ b → FrameAsks UsesNone frame
        uses_none r holds_it frame goes true is_it =
            interrupt_asks UsesNone frame (said_shaped frame r goes.says) (frame_of_interrupt frame r goes is_it)
        uses_none r holds_it frame goes false other =
            let low = ((keeps.holds r holds_it).request other).low in
            map_frame (λ u a. u ≡ r.unique) UsesNone (λ u a same high. absurd (omega (arith, same, high, low))) frame
            (request_numbers frame r goes)

    pub present_on : (log : List Transfer) (new : Driven) (step : DriveStep old log new) → count + mounts_at step ≤ 1
        → AreSaid log ts → HaveAgreed Carries k s ts later all leads → later.unjudged ≡ None → AreAccepted ts
        → AreFree is_of_server s (added k s ts later all leads) → Present new all
    present_on log new (alone l (mounts may)) few is agreed judged accepted free =
        let none : count ≡ 0 = omega (arith, few) in
        goes_present log new (alone l (mounts may)) is agreed judged accepted free
        (each_map IsOwnNumber (WaitsThere l) (λ u a high less. absurd (omega (arith, high, less))) (waiting s)
        (waiting_each IsOwnNumber s (tells.before none)))
        (λ r holds asks_it live. absurd (none_held (held old.turn) r (keeps.before none).1 holds))
    present_on log new (reads idles pick may request picked_one) few is agreed judged accepted free =
        goes_present log new (reads idles pick may request picked_one) is agreed judged accepted free
        (kept_there log new (reads idles pick may request picked_one) refl)
        (λ r holds asks_it live. subst (λ (q : Request). IsPresent q.unique new.kernel) (some_request request r holds)
        (picked_there pick request picked_one (ap (λ (q : Request). awaits_reply q.body) (some_request request r holds) ∙ asks_it)))
      where
        picked_there : (pick : Pick) (r : Request) → IsPicked old.kernel pick r → awaits_reply r.body ≡ true
            → IsPresent r.unique (record old.kernel { queues = after_pick old.kernel.queues pick })
        picked_there Interrupt r is asks_it none =
            absurd (false≢true (sym (ap (λ (q : Request). awaits_reply q.body) is.is) ∙ asks_it))
        picked_there (Forgets n) r is asks_it none =
            absurd (false≢true (sym (ap (λ (q : Request). awaits_reply q.body) is.is ∙ forgotten is.forgets) ∙ asks_it))
          where
            forgotten : (fs : List Forget) → awaits_reply (forget_body fs) ≡ false
            forgotten [] = refl
            forgotten (f ∷ []) = refl
            forgotten (f ∷ g ∷ fs) = refl
        picked_there (Pending place) r is asks_it none =
            cc ((pending_under old.kernel one (tells.above (picked_alive old.kernel pick may)) place r is).under, none)
    present_on log new step few is agreed judged accepted free =
        goes_present log new step is agreed judged accepted free (kept_there log new step refl)
        (λ r holds asks_it live. held_present log new step refl r (held_before old log new step tt r holds) asks_it
        (held_apart log new step r holds) live)
