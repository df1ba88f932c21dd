-- As a file is released last, no request that waits uses it.
use Rattle.std.proofs.Common.{◌≡◌, ℕ, ◌+◌, ◌≤◌, ◌<◌, ◌^◌, Bool, true, false, ◌&&◌, ◌||◌, cond, List, [], ◌∷◌, Option, Some, None, nat_eq, nat_lt, refl, ap, sym, ◌∙◌, arith}
use Rattle.std.specs.List.{list_any}
use Rattle.std.specs.Option.{option_map_or}
use Rattle.std.specs.Prelude.{sum_by}
use Rattle.std.proofs.lemmas.Bool.{false≢true}
use Rattle.std.proofs.lemmas.Bool.Decides.{nat_tests}
use Rattle.std.proofs.lemmas.List.Sums.{sum_by-cons}
use Rattle.fuse_device.specs.Transfers.{Transfer}
use Rattle.fuse_spec.specs.declared.Opened.{Opened}
use Rattle.fuse_spec.specs.declared.Purpose.{Purpose}
use Rattle.fuse_spec.specs.declared.Purpose.TheVariants as purpose
use Rattle.fuse_spec.specs.declared.QueuedRequest.{QueuedRequest}
use Rattle.fuse_spec.specs.Calls.Vfs.{CallState, asked}
use Rattle.fuse_spec.specs.Claim.Counts.{opens_of}
use Rattle.fuse_spec.specs.Kernel.Kernel.{Kernel, asked_by, body_of, is_live}
use Rattle.fuse_spec.specs.Kernel.Messages.{Request, RequestBody, asks, init, release}
use Rattle.fuse_spec.specs.Kernel.QueueCalls.{waiting as queue_waiting}
use Rattle.fuse_spec.specs.Kernel.Queues.{is_unread, request_under}
use Rattle.fuse_spec.specs.Values.Maps.{get}
use Rattle.fuse_spec.specs.Values.Numbers.{init_flags}
use Rattle.fuse_theorem.specs.OpenNumbers.{OpensApart, released_by}
use Rattle.fuse_theorem.proofs.Calls.Finding.{same_is}
use Rattle.fuse_theorem.proofs.Lists.MapSums.{values_sum}
use Rattle.fuse_theorem.proofs.Lists.OpenSums.{kernel_sum, pending_sum}
use Rattle.fuse_theorem.proofs.Lookups.LookupsAfterReply.{unanswered}
use Rattle.fuse_theorem.proofs.Requests.Numbered.{CallsNumbered}
use Rattle.fk_kernel.specs.Picks.{IsPicked, after_pick}
use Rattle.fk_kernel.specs.declared.read.Pick.{Pick}
use Rattle.fk_drive_frames.specs.OwnRequests.{ListsNode, readdir, readdirplus}
use Rattle.fk_drive.specs.Driving.{Driven, DriveStep, ReleasesBehind, Turn, alone, answers, ends, is_garbled, is_given, is_not_known, is_refused, is_released, opens, reads, releases, releases_none, sends, sends_opened, sets_aside, waits, writes}
use Rattle.fk_drive_theorem.proofs.OneEach.{OneEach}
use Rattle.protocol_law.specs.Law.{Carries}
use Rattle.fuse_sessions.specs.declared.act.Asked.{Asked}
use Rattle.fuse_sessions.specs.declared.act.OpenFile.{OpenFile}
use Rattle.fuse_sessions.specs.declared.known.Known.{Known}
use Rattle.fuse_sessions.specs.declared.transfer.Transfer.{Transfer as Said}
use Rattle.fuse_sessions.specs.Frames.{Lead}
use Rattle.fuse_sessions.specs.OpenFiles.{opened}
use Rattle.fuse_sessions.specs.Sessions.{Session}
use Rattle.fuse_sessions.specs.Waiting.{uses_file, waiting}
use Rattle.driven_sessions.specs.Driven.{HaveAgreed}
use Rattle.driven_sessions.specs.Transfers.{AllSent, AreSaid}
use Rattle.driven_sessions.proofs.Asking.{once_each, read_under}
use Rattle.driven_sessions.proofs.Asks.{EachAsked, waiting_each}
use Rattle.driven_sessions.proofs.Reading.{picked_alive}
use Rattle.driven_sessions.proofs.Spent.{held}
use Rattle.driven_sessions.proofs.Telling.{FrameAsks, Tells}
use Rattle.driven_sessions.proofs.Files.Balance.{Files, releases_of}
use Rattle.driven_sessions.proofs.Files.Bodies.{AsksAlike}
use Rattle.driven_sessions.proofs.Files.Growing.{none_grows, received_grows, stopped_grows}
use Rattle.driven_sessions.proofs.Files.KernelFiles.{picked_sum, state_used, used_by}
use Rattle.driven_sessions.proofs.Files.Opened.{each_map, is_file, open_file}
use Rattle.driven_sessions.proofs.Files.Present.{Present, UsesNone, WaitsThere, each_zip}
use Rattle.driven_sessions.proofs.Files.Ties.{Ties, TiedFiles}
use Rattle.driven_sessions.proofs.Files.Waiting.{waits_grow}

-- ---- no request that waits uses a file

abbrev pub UsesNot : OpenFile → ℕ → Asked → Type 0
UsesNot file u a = uses_file file a ≡ false

pub none_used : (file : OpenFile) (es : List (ℕ × Asked)) → EachAsked (UsesNot file) es
    → list_any (λ (e : ℕ × Asked). uses_file file e.1) es ≡ false
none_used file [] each = refl
none_used file (e ∷ es) each = ap (λ (b : Bool). b || list_any (λ (x : ℕ × Asked). uses_file file x.1) es) each.0
    ∙ none_used file es each.1

-- Where the file that is held to be released is open once, no request that waits uses it.
abbrev pub Last : Opened → Driven → Session → Type 0
Last o d s = 1 ≤ releases_of o (held d.turn) → opened s (open_file o) ≡ 1 → EachAsked (UsesNot (open_file o)) (waiting s)

-- ---- a request that is there uses a file that the kernel has

module _ (o : Opened) (k : Kernel) (one : OneEach k.queues) (apart : OpensApart k.vfs k.closing) (numbered : CallsNumbered k) where
  abbrev weight : Opened → ℕ
  weight = is_file o

  self_weight : weight o ≡ 1
  self_weight = ap (λ (b : Bool). cond {A = ℕ} (b && nat_eq o.fh o.fh) 1 0) (same_is o.nodeid)
      ∙ ap (λ (b : Bool). cond {A = ℕ} b 1 0) (same_is o.fh)

  -- What was read, and awaits a reply, for a body that uses the file.
  there_used : (u : ℕ) (body : RequestBody) → used_by body ≡ o ∷ [] → AsksAlike body u k → (r : QueuedRequest Purpose)
      → request_under k.queues u ≡ Some r → is_unread r.mark ≡ false
      → 1 ≤ values_sum weight k.vfs.opens + values_sum weight k.closing
  there_used u body used alike r under read = by r.kept refl
    where
      waits_it : queue_waiting k.queues u ≡ Some r.kept
      waits_it = ap (λ (x : Option (QueuedRequest Purpose)).
          option_map_or (λ (y : QueuedRequest Purpose). cond (is_unread y.mark) None (Some y.kept)) x None) under
          ∙ ap (λ (b : Bool). cond b None (Some r.kept)) read

      never : {P : Type 0} (b : RequestBody) → used_by b ≡ [] → body_of k r.kept ≡ Some b → P
      never b none is = absurd (cc (none, (alike r under read b is).files, used))

      by : (kept : Purpose) → r.kept ≡ kept → 1 ≤ values_sum weight k.vfs.opens + values_sum weight k.closing
      by purpose.Init same = never (init init_flags) refl (ap (body_of k) same)
      by (purpose.Release p) same = never (release p) refl (ap (body_of k) same)
      by (purpose.Call call) same = of_call (get k.vfs.calls call) refl
        where
          of_call : (x : Option (CallState Opened)) → get k.vfs.calls call ≡ x
              → 1 ≤ values_sum weight k.vfs.opens + values_sum weight k.closing
          of_call None none = absurd (unanswered k numbered.one_request call u (waits_it ∙ ap (λ (p : Purpose). Some p) same) none)
          of_call (Some state) at =
              let body_is : body_of k r.kept ≡ Some (asks (asked state)) = ap (body_of k) same ∙ ap asked_by at in
              let files : opens_of (asked state) ≡ o ∷ [] = (alike r under read (asks (asked state)) body_is).files ∙ used in
              let few = state_used weight k (once_each k.queues one) apart state (apart.uses call state at) in
              let all : sum_by weight (opens_of (asked state)) ≡ sum_by weight (o ∷ []) = ap (sum_by weight) files in
              let sum = sum_by-cons weight o [] in
              let self = self_weight in
              omega (arith, few, all, sum, self)

-- ---- a step

lists_release : (o : Opened) (body : RequestBody) (node : ℕ) → ListsNode body node → sum_by (is_file o) (released_by body) ≡ 0
lists_release o _ _ (readdir node after size) = refl
lists_release o _ _ (readdirplus node after size) = refl

module _ (o : Opened) (count : ℕ) (old : Driven) (s : Session) (last : Last o old s) (files : Files o count old s)
    (present : Present old s) (ties : Ties old s) (tells : Tells count old s) (one : OneEach old.kernel.queues)
    (apart : OpensApart old.kernel.vfs old.kernel.closing) where
  -- A RELEASE is read, and a request uses the file: then it is open twice.
  picked_last : (pick : Pick) (request : Request) → IsPicked old.kernel pick request → is_live old.kernel.phase ≡ true
      → 1 ≤ sum_by (is_file o) (released_by request.body) → opened s (open_file o) ≡ 1 → EachAsked (UsesNot (open_file o)) (waiting s)
  picked_last pick request is live some once = each_map
      (λ u a. (TiedFiles old.kernel u a × WaitsThere old.kernel u a) × UsesNone u a) (UsesNot (open_file o))
      (λ u a x. by u a x (uses_file (open_file o) a) refl) (waiting s)
      (each_zip (λ u a. TiedFiles old.kernel u a × WaitsThere old.kernel u a) UsesNone (waiting s)
      (each_zip (TiedFiles old.kernel) (WaitsThere old.kernel) (waiting s) (waiting_each (TiedFiles old.kernel) s ties.asks)
      present.waiting_there) (waiting_each UsesNone s present.own))
    where
      twice : 1 ≤ values_sum (is_file o) old.kernel.vfs.opens + values_sum (is_file o) old.kernel.closing → ⊥
      twice used =
          let sums = picked_sum (is_file o) old.kernel (once_each old.kernel.queues one) pick request is in
          let balance = files.balance in
          let all : kernel_sum (is_file o) (record old.kernel { queues = after_pick old.kernel.queues pick })
          ≡ values_sum (is_file o) old.kernel.vfs.opens + values_sum (is_file o) old.kernel.closing
          + pending_sum (is_file o) (after_pick old.kernel.queues pick) = refl in
          omega (arith, sums, balance, all, used, some, once)

      low : (u : ℕ) (a : Asked) → (TiedFiles old.kernel u a × WaitsThere old.kernel u a) → u < 2 ^ 62
          → uses_file (open_file o) a ≡ true → ⊥
      low u a x less uses =
          let tied = x.0 less in
          let knows = tied.2 live in
          there (request_under old.kernel.queues u) refl tied.0 (tied.1.files.uses o uses) knows.1
        where
          there : (y : Option (QueuedRequest Purpose)) → request_under old.kernel.queues u ≡ y → (body : RequestBody)
              → used_by body ≡ o ∷ [] → AsksAlike body u old.kernel → ⊥
          there None none body used alike = x.1 less live none
          there (Some r) under body used alike =
              twice (there_used o old.kernel one apart (tells.well live) u body used alike r under
              (read_under u old.kernel.queues.requests r ((x.0 less).2 live).0.read under))

      by : (u : ℕ) (a : Asked) → ((TiedFiles old.kernel u a × WaitsThere old.kernel u a) × UsesNone u a) → (b : Bool)
          → uses_file (open_file o) a ≡ b → b ≡ false
      by u a x false uses = refl
      by u a x true uses = at (nat_lt u (2 ^ 62)) refl
        where
          at : (c : Bool) → nat_lt u (2 ^ 62) ≡ c → true ≡ false
          at true less = absurd (low u a x.0 (grind (arith, nat_tests, less)) uses)
          at false high = absurd (false≢true (sym (x.1 (grind (arith, nat_tests, high)) o) ∙ uses))

  module _ (k : Known) (later : Known) (all : Session) (ts : List Said) (leads : Lead k s ts later all) where
    -- The request that is held is held still, and the session asks nothing that uses the file.
    still_last : (log : List Transfer) (new : Driven) → held new.turn ≡ held old.turn
        → opened s (open_file o) ≤ opened all (open_file o) → AllSent (FrameAsks (UsesNot (open_file o))) log → AreSaid log ts
        → HaveAgreed Carries k s ts later all leads → Last o new all
    still_last log new turn grows such is agreed some once =
        let same : releases_of o (held new.turn) ≡ releases_of o (held old.turn) = ap (releases_of o) turn in
        let balance = files.balance in
        waits_grow (UsesNot (open_file o)) log such ts is k s later all leads agreed
        (last (omega (arith, some, same)) (omega (arith, some, same, balance, grows, once)))

    -- Nothing is held.
    none_last : (new : Driven) → held new.turn ≡ None → Last o new all
    none_last new turn some once =
        let none : releases_of o (held new.turn) ≡ 0 = ap (releases_of o) turn in absurd (omega (arith, some, none))

    behind_none : (frame : List ℕ) (log : List Transfer) (coming : ℕ) (left : List (ℕ × Opened)) (turn : Turn)
        → ReleasesBehind frame old.next old.directories log coming left turn → held turn ≡ None
    behind_none frame log coming left turn (releases head below before after directory is apart_so bytes frame_is over went) = refl
    behind_none frame log coming left turn (releases_none unlisted) = refl

    pub step_last : (log : List Transfer) (new : Driven) → DriveStep old log new → AreSaid log ts
        → HaveAgreed Carries k s ts later all leads → Last o new all
    step_last log new (alone l acts) is agreed =
        let same = none_grows (open_file o) k s ts is later all leads in
        still_last log new refl (omega (arith, same)) tt is agreed
    step_last log new (reads idles pick may request picked_one) is agreed = λ some once.
        let same = none_grows (open_file o) k s ts is later all leads in
        waits_grow (UsesNot (open_file o)) log tt ts is k s later all leads agreed
        (picked_last pick request picked_one (picked_alive old.kernel pick may) some (sym same ∙ once))
    step_last log new (sends request turn unlisted frame goes log' went) is agreed = none_last new refl
    step_last log new (sends_opened request fh turn frame goes handle log' went) is agreed = none_last new refl
    step_last log new (opens request turn asks_it below node lists frame frame_is log' went) is agreed = λ some once.
        let none = lists_release o request.body node lists in absurd (omega (arith, some, none))
    step_last log new (is_given request unique node turn frame fh gives) is agreed =
        still_last log new (sym (ap held turn)) (received_grows (open_file o) k s frame ts is later all leads) tt is agreed
    step_last log new (is_not_known request unique node turn frame gives) is agreed =
        still_last log new (sym (ap held turn)) (received_grows (open_file o) k s frame ts is later all leads) tt is agreed
    step_last log new (is_refused request unique node turn frame error other gives) is agreed =
        still_last log new (sym (ap held turn)) (received_grows (open_file o) k s frame ts is later all leads) tt is agreed
    step_last log new (is_garbled request unique node turn frame head under gives) is agreed =
        still_last log new (sym (ap held turn)) (received_grows (open_file o) k s frame ts is later all leads) tt is agreed
    step_last log new (answers request error turn bytes reply result l took) is agreed = none_last new refl
    step_last log new (waits frame own_one) is agreed =
        still_last log new refl (received_grows (open_file o) k s frame ts is later all leads) tt is agreed
    step_last log new (sets_aside frame other) is agreed =
        still_last log new refl (received_grows (open_file o) k s frame ts is later all leads) tt is agreed
    step_last log new (writes idles frame rest there handed on result l took log' coming left turn behind_it) is agreed =
        none_last new (behind_none frame log' coming left turn behind_it)
    step_last log new (is_released unique turn frame head same) is agreed = none_last new refl
    step_last log new (ends end) is agreed =
        still_last log new refl (stopped_grows (open_file o) k s end ts is later all leads) tt is agreed
