-- As a forget is read, no request that waits in the session names a node of which no lookup is left.
use Rattle.std.proofs.Common.{◌≡◌, ◌⊎◌, inl, inr, ℕ, ◌+◌, ◌≤◌, ◌<◌, ◌%◌, ◌^◌, Bool, true, false, All, List, [], ◌∷◌, Option, Some, None, nat_lt, cond, refl, ap, sym, subst, ◌∙◌, arith}
use Rattle.std.specs.Option.{option_map_or}
use Rattle.std.proofs.lemmas.Bool.Decides.{nat_tests}
use Rattle.std.proofs.lemmas.List.Elements.{All-head, All-tail}
use Rattle.fk_fields.specs.Fields.{number_at}
use Rattle.fuse_device.specs.Transfers.{Transfer, received, stopped}
use Rattle.fuse_spec.specs.declared.Opened.{Opened}
use Rattle.fuse_spec.specs.declared.Purpose.{Purpose}
use Rattle.fuse_spec.specs.declared.Purpose.TheVariants as purpose
use Rattle.fuse_spec.specs.declared.QueuedRequest.{QueuedRequest}
use Rattle.fuse_spec.specs.Calls.Vfs.{CallState}
use Rattle.fuse_spec.specs.Claim.Counts.{counted}
use Rattle.fuse_spec.specs.Kernel.Kernel.{Kernel, asked_by, body_of, is_live}
use Rattle.fuse_spec.specs.Kernel.Messages.{Request, RequestBody}
use Rattle.fuse_spec.specs.Kernel.QueueCalls.{waiting as queue_waiting}
use Rattle.fuse_spec.specs.Kernel.Queues.{is_unread, request_under}
use Rattle.fuse_spec.specs.Server.Server.{forgotten, nodes_of_body}
use Rattle.fuse_spec.specs.Values.Maps.{get}
use Rattle.fuse_theorem.specs.KnownNodes.{IsKnown}
use Rattle.fuse_theorem.specs.ReleasesKnown.{ReleaseKnown}
use Rattle.fuse_theorem.proofs.Calls.Finding.{All-found}
use Rattle.fuse_theorem.proofs.Lookups.LookupsAfterReply.{unanswered}
use Rattle.fk_drive.specs.Driving.{Driven, DriveStep, IsSentFrame, ReleasesBehind, SendsFrame, Turn, alone, answers, ends, idle, is_garbled, is_given, is_not_known, is_refused, is_released, opening, opens, reads, releases, releases_none, releasing, sends, sends_opened, sets_aside, waits, writes}
use Rattle.protocol_law.specs.Law.{Carries}
use Rattle.fuse_sessions.specs.declared.act.Asked.{Asked}
use Rattle.fuse_sessions.specs.declared.act.Taken.{Taken}
use Rattle.fuse_sessions.specs.declared.act.Taken.TheVariants as taken
use Rattle.fuse_sessions.specs.declared.known.Known.{Known}
use Rattle.fuse_sessions.specs.declared.transfer.Transfer.{Transfer as Said}
use Rattle.fuse_sessions.specs.declared.transfer.Transfer.TheVariants as said
use Rattle.fuse_sessions.specs.Counts.{most_count}
use Rattle.fuse_sessions.specs.Frames.{AreAccepted, AreActs, IsWritten, Lead}
use Rattle.fuse_sessions.specs.Sessions.{Session}
use Rattle.fuse_sessions.specs.UnreadRequests.{unique_in}
use Rattle.fuse_sessions.specs.Waiting.{names_node, waiting, waits as waits_in}
use Rattle.driven_sessions.specs.Driven.{HaveAgreed}
use Rattle.driven_sessions.specs.Transfers.{AllSent, AreSaid}
use Rattle.driven_sessions.proofs.Asking.{read_under}
use Rattle.driven_sessions.proofs.Asks.{AsksCode, EachAsked, map_ask, sent_asks, waiting_each}
use Rattle.driven_sessions.proofs.Counting.{back_of, held_back, none_grows, received_grows, stopped_grows}
use Rattle.driven_sessions.proofs.Forgetting.{Forgetting}
use Rattle.driven_sessions.proofs.Frames.{IsOwn, is_interrupt, own_head}
use Rattle.driven_sessions.proofs.Heard.{judged_before}
use Rattle.driven_sessions.proofs.KnownNodes.{Knowing}
use Rattle.driven_sessions.proofs.Leading.{AreFree}
use Rattle.driven_sessions.proofs.Listing.{lists_forgets_none, lists_of}
use Rattle.driven_sessions.proofs.Numbers.{Passed}
use Rattle.driven_sessions.proofs.PickedNodes.{known_counted, purpose_known}
use Rattle.driven_sessions.proofs.Reading.{picked_alive}
use Rattle.driven_sessions.proofs.Served.{added, free_first, is_of_server}
use Rattle.driven_sessions.proofs.Shapes.{own_shaped, said_shaped}
use Rattle.driven_sessions.proofs.Spent.{Keeps, held}
use Rattle.driven_sessions.proofs.Telling.{FrameAsks, Tells, interrupt_asks}
use Rattle.driven_sessions.proofs.Unagreed.{judged_acts}
use Rattle.driven_sessions.proofs.Files.Bodies.{AsksAlike}
use Rattle.driven_sessions.proofs.Files.DirectorySteps.{went_such}
use Rattle.driven_sessions.proofs.Files.ForgetActs.{NamesNot}
use Rattle.driven_sessions.proofs.Files.Opened.{each_map}
use Rattle.driven_sessions.proofs.Files.Present.{Present, WaitsThere, each_zip, map_frame, request_numbers}
use Rattle.driven_sessions.proofs.Files.Ties.{IsIn, Ties, TiedFiles, frame_of_interrupt}
use Rattle.driven_sessions.proofs.Files.Waiting.{accepted_answers, waits_grow}

-- the number of OPENDIR or RELEASEDIR whose reply is awaited
abbrev pub own_awaited : Turn → Option ℕ
own_awaited (opening r unique node) = Some unique
own_awaited (releasing unique) = Some unique
own_awaited turn = None

-- What waits under such a number is awaited.
abbrev pub OwnAwaited : Turn → ℕ → Asked → Type 0
OwnAwaited turn u a = 2 ^ 62 ≤ u → own_awaited turn ≡ Some u

pub record NamedKept (d : Driven) (s : Session) : Type 0 where
  pub last : (id : ℕ) → 2 ≤ id → 1 ≤ held_back id d.turn → most_count s id ≤ held_back id d.turn
      → EachAsked (NamesNot id) (waiting s)
  pub own : EachAsked (OwnAwaited d.turn) (waiting s)
  pub numbers : (u : ℕ) → own_awaited d.turn ≡ Some u → (u % 2 ≡ 0) × (2 ^ 62 ≤ u)

pub number_same : (a b : ℕ) → ◌≡◌ {A = Option ℕ} (Some a) (Some b) → a ≡ b
number_same a b same = ap of same
  where
    of : Option ℕ → ℕ
    of None = a
    of (Some n) = n

in_all : (P : ℕ → Type 0) (xs : List ℕ) → All P xs → (n : ℕ) → IsIn n xs → P n
in_all P [] all n is = absurd is
in_all P (x ∷ xs) all n (inl same) = subst P same (All-head P x xs all)
in_all P (x ∷ xs) all n (inr is) = in_all P xs (All-tail P x xs all) n is

-- ---- the kernel

module _ (k : Kernel) (live : is_live k.phase ≡ true) (w : Knowing k) (f : Forgetting k)
    (numbered : (u call : ℕ) → queue_waiting k.queues u ≡ Some (purpose.Call call) → get k.vfs.calls call ≡ None → ⊥) where
  -- A node that a request under a number names is counted.
  module _ (u : ℕ) (a : Asked) (low : u < 2 ^ 62) (there : WaitsThere k u a) (node : ℕ) (two : 2 ≤ node) (body : RequestBody)
      (inside : IsIn node (nodes_of_body body)) (passed : Passed u k.queues) (alike : AsksAlike body u k) where
    bodiless : (r : QueuedRequest Purpose) → queue_waiting k.queues u ≡ Some r.kept → (kept : Purpose) → r.kept ≡ kept
        → body_of k kept ≡ None → ⊥
    bodiless r waits_it purpose.Init same none = cc none
    bodiless r waits_it (purpose.Release o) same none = cc none
    bodiless r waits_it (purpose.Call call) same none = at (get k.vfs.calls call) refl
      where
        at : (x : Option (CallState Opened)) → get k.vfs.calls call ≡ x → ⊥
        at None gone = numbered u call (waits_it ∙ ap (λ (p : Purpose). Some p) same) gone
        at (Some state) is = absurd (cc (none, ap asked_by is))

    counts : (node ≡ 1) ⊎ ((2 ≤ node) × (1 ≤ counted (get k.nodes node))) → 1 ≤ counted (get k.nodes node)
    counts (inl root) = absurd (omega (arith, root, two))
    counts (inr some) = some.1

    by_request : (x : Option (QueuedRequest Purpose)) → request_under k.queues u ≡ x → 1 ≤ counted (get k.nodes node)
    by_request None under = absurd (there low live under)
    by_request (Some r) under = of (body_of k r.kept) refl
      where
        read : is_unread r.mark ≡ false
        read = read_under u k.queues.requests r passed.read under

        waits_it : queue_waiting k.queues u ≡ Some r.kept
        waits_it = ap (λ (x : Option (QueuedRequest Purpose)).
            option_map_or (λ (y : QueuedRequest Purpose). cond (is_unread y.mark) None (Some y.kept)) x None) under
            ∙ ap (λ (b : Bool). cond b None (Some r.kept)) read

        of : (b : Option RequestBody) → body_of k r.kept ≡ b → 1 ≤ counted (get k.nodes node)
        of None is = absurd (bodiless r waits_it r.kept refl is)
        of (Some other) is =
            let known : IsKnown k.nodes node = in_all (IsKnown k.nodes) (nodes_of_body other) (purpose_known k w r.kept
            (All-found (λ (e : ℕ × QueuedRequest Purpose). ReleaseKnown k.nodes e.1.kept) u k.queues.requests r w.releases.requests
            under) other is) node (subst (IsIn node) (sym (alike r under read other is).nodes) inside) in
            counts (known_counted k w f node known)

  named_counted : (u : ℕ) (a : Asked) → TiedFiles k u a → WaitsThere k u a → u < 2 ^ 62 → (node : ℕ) → 2 ≤ node
      → names_node node a ≡ true → 1 ≤ counted (get k.nodes node)
  named_counted u a ties there low node two names =
      let tied = ties low in
      let knows = tied.2 live in
      by_request u a low there node two tied.0 (tied.1.names node (omega (arith, two)) names) knows.0 knows.1 (request_under k.queues u) refl

-- ---- a frame under a number that waits no more

module _ (k : Known) (s : Session) (later : Known) (whole : Session) (judged : later.unjudged ≡ None) (frame : List ℕ) (unique : ℕ)
    (even : unique % 2 ≡ 0) (some : 2 ≤ unique) (under : number_at 8 8 frame ≡ unique) where
  pub was_answered : (ts : List Said) (leads : Lead k s ts later whole) → AreSaid (received frame ∷ []) ts → AreAccepted ts
      → AreFree is_of_server s (added k s ts later whole leads)
      → EachAsked (λ n a. n ≡ unique → ⊥) (waiting whole) × (waits_in s unique ≡ None → ⊥)
  was_answered (said.Written b t ∷ []) (acts, known, are, end) is accepted free =
      let does : IsWritten k s b.now taken.Accepted acts known = judged_acts k s (said.Written b taken.Accepted) acts known
      (judged_before (said.Written b t ∷ []) k s later whole (acts, known, are, end) judged)
      (subst (λ (x : Taken). AreActs k s (said.Written b x) acts known) accepted.0 are) in
      let both = accepted_answers k s b.now acts known does (free_first s acts [] free) unique (ap (number_at 8 8) is.0 ∙ under) some even in
      (subst (λ (x : Session). EachAsked (λ n a. n ≡ unique → ⊥) (waiting x)) (sym end.1) both.0, both.1)
  was_answered ts leads is accepted free = absurd search

-- ---- a step

module _ (count : ℕ) (old : Driven) (k : Known) (s : Session) (was : NamedKept old s) (present : Present old s) (ties : Ties old s)
    (tells : Tells count old s) (keeps : Keeps count old s) (w : Knowing old.kernel) (f : Forgetting old.kernel) where
  -- A forget is read.
  picked_last : is_live old.kernel.phase ≡ true → old.turn ≡ idle → (id : ℕ) → 2 ≤ id → counted (get old.kernel.nodes id) ≡ 0
      → EachAsked (NamesNot id) (waiting s)
  picked_last live idles id low none = each_map
      (λ u a. (TiedFiles old.kernel u a × WaitsThere old.kernel u a) × OwnAwaited old.turn u a) (NamesNot id)
      (λ u a x. by u a x (names_node id a) refl) (waiting s)
      (each_zip (λ u a. TiedFiles old.kernel u a × WaitsThere old.kernel u a) (OwnAwaited old.turn) (waiting s)
      (each_zip (TiedFiles old.kernel) (WaitsThere old.kernel) (waiting s) (waiting_each (TiedFiles old.kernel) s ties.asks)
      present.waiting_there) was.own)
    where
      by : (u : ℕ) (a : Asked) → (TiedFiles old.kernel u a × WaitsThere old.kernel u a) × OwnAwaited old.turn u a → (b : Bool)
          → names_node id a ≡ b → b ≡ false
      by u a x false names = refl
      by u a x true names = at (nat_lt u (2 ^ 62)) refl
        where
          at : (c : Bool) → nat_lt u (2 ^ 62) ≡ c → true ≡ false
          at true less =
              let some = named_counted old.kernel live w f
              (λ n call waits gone. unanswered old.kernel (tells.well live).one_request call n waits gone) u a x.0.0 x.0.1
              (grind (arith, nat_tests, less)) id low names in
              absurd (omega (arith, some, none))
          at false high =
              let awaited = x.1 (grind (arith, nat_tests, high)) in
              absurd (cc (awaited, ap own_awaited idles))

  -- ---- frames

  request_own : (turn : Turn) (r : Request) → held old.turn ≡ Some r → (frame : List ℕ) → IsSentFrame frame r
      → FrameAsks (OwnAwaited turn) frame
  request_own turn r holds frame goes = by (is_interrupt r.body) refl
    where
      by : (b : Bool) → is_interrupt r.body ≡ b → FrameAsks (OwnAwaited turn) frame
      by true is = interrupt_asks (OwnAwaited turn) frame (said_shaped frame r goes.says) (frame_of_interrupt frame r goes is)
      by false other =
          let low = ((keeps.holds r holds).request other).low in
          map_frame (λ u a. u ≡ r.unique) (OwnAwaited turn) (λ u a same high. absurd (omega (arith, same, high, low))) frame
          (request_numbers frame r goes)

  own_own : (turn : Turn) → own_awaited turn ≡ Some old.next → (frame : List ℕ) → old.next < 2 ^ 63 → IsOwn frame old.next
      → FrameAsks (OwnAwaited turn) frame
  own_own turn awaits frame below mine k acts carries does =
      let number : unique_in frame ≡ old.next = (own_head frame old.next below mine).1 in
      map_ask (AsksCode (unique_in frame) _) (OwnAwaited turn)
      (λ u a is high. awaits ∙ ap (λ (n : ℕ). Some n) (sym (is.0 ∙ number))) acts
      (sent_asks k frame acts (own_shaped frame old.next below mine) carries does)

  -- No reply to an OPENDIR or a RELEASEDIR was awaited.
  none_own : (turn : Turn) → own_awaited old.turn ≡ None → EachAsked (OwnAwaited turn) (waiting s)
  none_own turn none = each_map (OwnAwaited old.turn) (OwnAwaited turn) (λ u a is high. absurd (cc (is high, none))) (waiting s) was.own

  module _ (ts : List Said) (later : Known) (whole : Session) (leads : Lead k s ts later whole)
      (agreed : HaveAgreed Carries k s ts later whole leads) where
    -- The same is held, and nothing is sent.
    same_last : (log : List Transfer) → ((P : ℕ → Asked → Type 0) → AllSent (FrameAsks P) log) → AreSaid log ts
        → ((id : ℕ) → most_count s id ≤ most_count whole id) → (new : Driven) → held new.turn ≡ held old.turn → (id : ℕ) → 2 ≤ id
        → 1 ≤ held_back id new.turn → most_count whole id ≤ held_back id new.turn → EachAsked (NamesNot id) (waiting whole)
    same_last log such is grows new same id low some last =
        let back : held_back id new.turn ≡ held_back id old.turn = ap (back_of id) same in
        let more = grows id in
        waits_grow (NamesNot id) log (such (NamesNot id)) ts is k s later whole leads agreed
        (was.last id low (omega (arith, some, back)) (omega (arith, last, back, more)))

    -- Nothing is given back.
    none_last : (new : Driven) → ((id : ℕ) → held_back id new.turn ≡ 0) → (id : ℕ) → 2 ≤ id → 1 ≤ held_back id new.turn
        → most_count whole id ≤ held_back id new.turn → EachAsked (NamesNot id) (waiting whole)
    none_last new none id low some last = let zero = none id in absurd (omega (arith, some, zero))

    still_kept : (log : List Transfer) → ((P : ℕ → Asked → Type 0) → AllSent (FrameAsks P) log) → AreSaid log ts
        → ((id : ℕ) → most_count s id ≤ most_count whole id) → (new : Driven) → new.turn ≡ old.turn → NamedKept new whole
    still_kept log such is grows new same = record {
      last = same_last log such is grows new (ap held same);
      own = subst (λ (t : Turn). EachAsked (OwnAwaited t) (waiting whole)) (sym same)
          (waits_grow (OwnAwaited old.turn) log (such (OwnAwaited old.turn)) ts is k s later whole leads agreed was.own);
      numbers = λ u awaits. was.numbers u (sym (ap own_awaited same) ∙ awaits);
    }

    sent_kept : (frame : List ℕ) (log : List Transfer) → SendsFrame frame log → AreSaid log ts → own_awaited old.turn ≡ None
        → (new : Driven) → FrameAsks (OwnAwaited new.turn) frame → ((id : ℕ) → held_back id new.turn ≡ 0)
        → ((u : ℕ) → own_awaited new.turn ≡ Some u → (u % 2 ≡ 0) × (2 ^ 62 ≤ u)) → NamedKept new whole
    sent_kept frame log went is none new such back numbers = record {
      last = none_last new back;
      own = waits_grow (OwnAwaited new.turn) log (went_such (FrameAsks (OwnAwaited new.turn)) frame such log went) ts is k s later whole
          leads agreed (none_own new.turn none);
      numbers = numbers;
    }

    answered_kept : (judged : later.unjudged ≡ None) → AreAccepted ts → AreFree is_of_server s (added k s ts later whole leads)
        → (frame : List ℕ) (unique : ℕ) → own_awaited old.turn ≡ Some unique → number_at 8 8 frame ≡ unique
        → AreSaid (received frame ∷ []) ts → (new : Driven) → own_awaited new.turn ≡ None → ((id : ℕ) → 2 ≤ id
        → 1 ≤ held_back id new.turn → most_count whole id ≤ held_back id new.turn → EachAsked (NamesNot id) (waiting whole))
        → NamedKept new whole
    answered_kept judged accepted free frame unique awaited under is new none last =
        let number = was.numbers unique awaited in
        let high = number.1 in record {
          last = last;
          own = each_map (λ u a. OwnAwaited old.turn u a × (u ≡ unique → ⊥)) (OwnAwaited new.turn)
              (λ u a x big. absurd (x.1 (number_same u unique (sym (x.0 big) ∙ awaited)))) (waiting whole)
              (each_zip (OwnAwaited old.turn) (λ u a. u ≡ unique → ⊥) (waiting whole)
              (waits_grow (OwnAwaited old.turn) (received frame ∷ []) tt ts is k s later whole leads agreed was.own)
              (was_answered k s later whole judged frame unique number.0 (omega (arith, high)) under ts leads is accepted free).0);
          numbers = λ u awaits. absurd (cc (awaits, none));
        }

    next_number : (u : ℕ) → ◌≡◌ {A = Option ℕ} (Some old.next) (Some u) → (u % 2 ≡ 0) × (2 ^ 62 ≤ u)
    next_number u same =
        subst (λ (n : ℕ). (n % 2 ≡ 0) × (2 ^ 62 ≤ n)) (number_same old.next u same) (keeps.even, keeps.low)

    -- Nothing goes over the device, and nothing is given back.
    idle_kept : AreSaid [] ts → own_awaited old.turn ≡ None → (new : Driven) → new.turn ≡ idle → NamedKept new whole
    idle_kept is none new same = record {
      last = none_last new (λ id. ap (held_back id) same);
      own = waits_grow (OwnAwaited new.turn) [] tt ts is k s later whole leads agreed (none_own new.turn none);
      numbers = λ u awaits. absurd (cc (awaits, ap own_awaited same));
    }

    pub step_named : (judged : later.unjudged ≡ None) → AreAccepted ts → AreFree is_of_server s (added k s ts later whole leads)
        → (log : List Transfer) (new : Driven) → DriveStep old log new → AreSaid log ts
        → ((id : ℕ) → 2 ≤ id → counted (get new.kernel.nodes id) + held_back id new.turn ≤ most_count whole id) → NamedKept new whole
    step_named judged accepted free log new (alone l acts) is few = still_kept [] (λ P. tt) is
        (λ id. let same = none_grows id k s ts is later whole leads in omega (arith, same)) new refl
    step_named judged accepted free log new (reads idles pick may request picked_one) is few = record {
      last = λ id low some last.
          let le = few id low in
          waits_grow (NamesNot id) [] tt ts is k s later whole leads agreed
          (picked_last (picked_alive old.kernel pick may) idles id low (omega (arith, le, last)));
      own = waits_grow (OwnAwaited new.turn) [] tt ts is k s later whole leads agreed (none_own new.turn (ap own_awaited idles));
      numbers = λ u awaits. absurd (cc awaits);
    }
    step_named judged accepted free log new (sends request turn unlisted frame goes log' went) is few =
        sent_kept frame log' went is (ap own_awaited turn) new (request_own idle request (ap held turn) frame goes) (λ id. refl)
        (λ u awaits. absurd (cc awaits))
    step_named judged accepted free log new (sends_opened request fh turn frame goes handle log' went) is few =
        sent_kept frame log' went is (ap own_awaited turn) new (request_own idle request (ap held turn) frame goes) (λ id. refl)
        (λ u awaits. absurd (cc awaits))
    step_named judged accepted free log new (opens request turn asks_it below node lists frame mine log' went) is few =
        sent_kept frame log' went is (ap own_awaited turn) new
        (own_own (opening request old.next node) refl frame below (inl (node, mine)))
        (λ id. ap (forgotten id) (lists_forgets_none request.body node (lists_of request.body node lists))) next_number
    step_named judged accepted free log new (is_given request unique node turn frame fh gives) is few =
        answered_kept judged accepted free frame unique (ap own_awaited turn) gives.5.1.1.0 is new refl
        (same_last (received frame ∷ []) (λ P. tt) is (λ id. received_grows id k s frame ts is later whole leads) new (sym (ap held turn)))
    step_named judged accepted free log new (is_not_known request unique node turn frame gives) is few =
        answered_kept judged accepted free frame unique (ap own_awaited turn) gives.5.1.1.0 is new refl
        (same_last (received frame ∷ []) (λ P. tt) is (λ id. received_grows id k s frame ts is later whole leads) new (sym (ap held turn)))
    step_named judged accepted free log new (is_refused request unique node turn frame error other gives) is few =
        answered_kept judged accepted free frame unique (ap own_awaited turn) gives.5.1.1.0 is new refl
        (same_last (received frame ∷ []) (λ P. tt) is (λ id. received_grows id k s frame ts is later whole leads) new (sym (ap held turn)))
    step_named judged accepted free log new (is_garbled request unique node turn frame head same gives) is few =
        answered_kept judged accepted free frame unique (ap own_awaited turn) same is new refl
        (same_last (received frame ∷ []) (λ P. tt) is (λ id. received_grows id k s frame ts is later whole leads) new (sym (ap held turn)))
    step_named judged accepted free log new (answers request error turn bytes reply result l took) is few =
        idle_kept is (ap own_awaited turn) new refl
    step_named judged accepted free log new (waits frame own_one) is few = still_kept (received frame ∷ []) (λ P. tt) is
        (λ id. received_grows id k s frame ts is later whole leads) new refl
    step_named judged accepted free log new (sets_aside frame other) is few = still_kept (received frame ∷ []) (λ P. tt) is
        (λ id. received_grows id k s frame ts is later whole leads) new refl
    step_named judged accepted free log new
        (writes idles frame rest there handed on result l took log' coming left turn behind_it) is few = by log' coming left turn behind_it is
      where
        by : (log : List Transfer) (coming : ℕ) (left : List (ℕ × Opened)) (turn : Turn)
            → ReleasesBehind frame old.next old.directories log coming left turn → AreSaid log ts
            → NamedKept (record old { kernel = l; waiting = rest; next = coming; directories = left; turn = turn }) whole
        by log coming left turn (releases head below before after directory stands apart bytes mine over went) is =
            sent_kept bytes log went is (ap own_awaited idles)
            (record old { kernel = l; waiting = rest; next = coming; directories = left; turn = turn })
            (own_own (releasing old.next) refl bytes below (inr (directory, mine))) (λ id. refl) next_number
        by log coming left turn (releases_none unlisted) is = idle_kept is (ap own_awaited idles)
            (record old { kernel = l; waiting = rest; next = coming; directories = left; turn = turn }) refl
    step_named judged accepted free log new (is_released unique turn frame head same) is few =
        answered_kept judged accepted free frame unique (ap own_awaited turn) same is new refl (none_last new (λ id. refl))
    step_named judged accepted free log new (ends end) is few = still_kept (stopped end ∷ []) (λ P. tt) is
        (λ id. stopped_grows id k s end ts is later whole leads) new refl
