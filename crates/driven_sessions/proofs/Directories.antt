-- An open directory is of a node that is there, until its RELEASEDIR was sent.
use Rattle.std.proofs.Common.{◌≡◌, ◌≢◌, ◌⊎◌, inl, inr, ℕ, ℤ, ◌+◌, ◌-◌, ◌≤◌, ◌<◌, ◌^◌, false, true≢false, List, [], ◌∷◌, ◌++◌, Option, Some, None, take, drop, length, length-drop, replicate, set, refl, ap, sym, subst, ◌∙◌, arith, All}
use Rattle.std.specs.Int.{cast_signed, w32}
use Rattle.std.proofs.lemmas.Int.{ints}
use Rattle.std.proofs.lemmas.List.{drop-append-le, drop-set-add, drop-set-lt, take-append-le, take-set-le}
use Rattle.std.proofs.lemmas.List.Elements.{All-head, All-tail}
use Rattle.byteorder.specs.Endian.{little_from}
use Rattle.byteorder.specs.Numbers.{little_from-take}
use Rattle.fk_fields.specs.Fields.{number_at}
use Rattle.fuse_device.specs.Transfers.{Transfer}
use Rattle.fuse_spec.specs.declared.Opened.{Opened}
use Rattle.fuse_spec.specs.declared.WriteResult.{WriteResult}
use Rattle.fuse_spec.specs.Claim.Counts.{counted}
use Rattle.fuse_spec.specs.Values.Maps.{get}
use Rattle.fuse_spec.specs.Kernel.Kernel.{Kernel, is_live}
use Rattle.fuse_spec.specs.Kernel.Messages.{Request}
use Rattle.fuse_spec.specs.Server.Server.{forgets_of, forgotten, nodes_of_body}
use Rattle.fuse_theorem.specs.KnownNodes.{IsKnown}
use Rattle.fk_wire.specs.Replies.{IsErrorNumber, ReplyMessage, WrittenReply, empty_reply, reply_fields}
use Rattle.fk_wire.proofs.Frames.{reads_back}
use Rattle.fk_kernel.specs.AwaitedReplies.{HasReplyHead, head_unique}
use Rattle.fk_drive_frames.specs.Agreements.{IsAgreement, IsHandedOn, IsOlderAgreement, agreement_on, raised}
use Rattle.fk_drive_frames.proofs.Agreements.{by_raised}
use Rattle.fk_drive.specs.Driving.{Driven, DriveStep, ReleasesBehind, Turn, idle, picked, opening, opened, unopened, releasing, alone, reads, sends, opens, is_given, is_not_known, is_refused, is_garbled, sends_opened, answers, waits, sets_aside, writes, is_released, ends, releases, releases_none}
use Rattle.fk_drive.specs.KernelSteps.{ActsAlone, IsReplyTaken, mounts}
use Rattle.fk_drive_theorem.specs.TakenOnce.{mounts_alone, mounts_at}
use Rattle.fk_drive_theorem.proofs.OneEach.{OneEach}
use Rattle.fk_drive_theorem.proofs.Stable.{Stable}
use Rattle.fk_drive_theorem.proofs.WrittenCounted.{EmptyUnlessLive}
use Rattle.fuse_sessions.specs.declared.known.Known.{Known}
use Rattle.fuse_sessions.specs.declared.transfer.Transfer.{Transfer as Said}
use Rattle.fuse_sessions.specs.Counts.{most_count}
use Rattle.fuse_sessions.specs.Frames.{Lead}
use Rattle.fuse_sessions.specs.Sessions.{Session}
use Rattle.driven_sessions.specs.Transfers.{AreSaid}
use Rattle.driven_sessions.proofs.Counting.{held_back, none_grows, own_forgets, received_grows, request_forgets, sends_grow, stopped_grows}
use Rattle.driven_sessions.proofs.Forgetting.{Forgetting}
use Rattle.driven_sessions.proofs.KnownNodes.{Knowing}
use Rattle.driven_sessions.proofs.Listing.{Lists, Tracks, alone_tracks, lists_body, lists_forgets_none, lists_known, lists_names, lists_of, picked_lists, picked_tracks, taken_tracks, tracks_stable}
use Rattle.driven_sessions.proofs.Naming.{IsThere}
use Rattle.driven_sessions.proofs.PickedNodes.{known_counted}
use Rattle.driven_sessions.proofs.Reading.{picked_alive}
use Rattle.driven_sessions.proofs.Replying.{WellNumbered, by_live}
use Rattle.driven_sessions.proofs.Spent.{held, none_held, some_request}

-- ---- lists of open directories

abbrev pub EachIs : (ℕ × Opened → Type 0) → List (ℕ × Opened) → Type 0
EachIs P [] = Unit {0}
EachIs P (e ∷ es) = P e × EachIs P es

-- None has this number.
abbrev Apart : ℕ → List (ℕ × Opened) → Type 0
Apart u es = EachIs (λ e. e.0 ≢ u) es

-- No two have one number.
abbrev AreApart : List (ℕ × Opened) → Type 0
AreApart [] = Unit {0}
AreApart (e ∷ es) = Apart e.0 es × AreApart es

pub each_map : (P Q : ℕ × Opened → Type 0) → ((e : ℕ × Opened) → P e → Q e) → (es : List (ℕ × Opened)) → EachIs P es → EachIs Q es
each_map P Q to [] all = tt
each_map P Q to (e ∷ es) all = (to e all.0, each_map P Q to es all.1)

each_both : (P Q R : ℕ × Opened → Type 0) → ((e : ℕ × Opened) → P e → Q e → R e) → (es : List (ℕ × Opened)) → EachIs P es
    → EachIs Q es → EachIs R es
each_both P Q R to [] all both = tt
each_both P Q R to (e ∷ es) all both = (to e all.0 both.0, each_both P Q R to es all.1 both.1)

pub each_push : (P : ℕ × Opened → Type 0) (es : List (ℕ × Opened)) (e : ℕ × Opened) → EachIs P es → P e → EachIs P (es ++ e ∷ [])
each_push P [] e all is = (is, tt)
each_push P (x ∷ es) e all is = (all.0, each_push P es e all.1 is)

pub each_drop : (P : ℕ × Opened → Type 0) (before : List (ℕ × Opened)) (x : ℕ × Opened) (after : List (ℕ × Opened))
    → EachIs P (before ++ x ∷ after) → EachIs P (before ++ after)
each_drop P [] x after all = all.1
each_drop P (e ∷ before) x after all = (all.0, each_drop P before x after all.1)

pub each_middle : (P : ℕ × Opened → Type 0) (before : List (ℕ × Opened)) (x : ℕ × Opened) (after : List (ℕ × Opened))
    → EachIs P (before ++ x ∷ after) → P x
each_middle P [] x after all = all.0
each_middle P (e ∷ before) x after all = each_middle P before x after all.1

each_stable : (P : ℕ × Opened → Type 0) → ((e : ℕ × Opened) → Stable (P e)) → (es : List (ℕ × Opened)) → Stable (EachIs P es)
each_stable P one [] s = tt
each_stable P one (e ∷ es) s = (one e (λ no. s (λ all. no all.0)), each_stable P one es (λ no. s (λ all. no all.1)))

each_of_all : (P : ℕ × Opened → Type 0) (es : List (ℕ × Opened)) → All P es → EachIs P es
each_of_all P [] all = tt
each_of_all P (e ∷ es) all = (All-head P e es all, each_of_all P es (All-tail P e es all))

apart_push : (es : List (ℕ × Opened)) (x : ℕ × Opened) → AreApart es → Apart x.0 es → AreApart (es ++ x ∷ [])
apart_push [] x are apart = (tt, tt)
apart_push (e ∷ es) x are apart =
    (each_push (λ y. y.0 ≢ e.0) es x are.0 (λ same. apart.0 (sym same)), apart_push es x are.1 apart.1)

apart_drop : (before : List (ℕ × Opened)) (x : ℕ × Opened) (after : List (ℕ × Opened)) → AreApart (before ++ x ∷ after)
    → AreApart (before ++ after)
apart_drop [] x after are = are.1
apart_drop (e ∷ before) x after are =
    (each_drop (λ y. y.0 ≢ e.0) before x after are.0, apart_drop before x after are.1)

apart_middle : (before : List (ℕ × Opened)) (x : ℕ × Opened) (after : List (ℕ × Opened)) → AreApart (before ++ x ∷ after)
    → Apart x.0 (before ++ after)
apart_middle [] x after are = are.0
apart_middle (e ∷ before) x after are = (
  λ same. each_middle (λ y. y.0 ≢ e.0) before x after are.0 (sym same),
  apart_middle before x after are.1,
)

none_listed : (before : List (ℕ × Opened)) (d : ℕ × Opened) (after : List (ℕ × Opened)) → [] ≡ before ++ d ∷ after → ⊥
none_listed [] d after same = cc same
none_listed (e ∷ before) d after same = cc same

-- ---- an agreement that is handed on

agreement_unique : (minor size : ℕ) (frame : List ℕ) → 16 ≤ length frame
    → number_at 8 8 (agreement_on minor size frame) ≡ number_at 8 8 frame
unfolding number_at
agreement_unique minor size frame long =
    let h : 0 + 8 ≤ 8 = omega arith in
    let whole : List ℕ = frame ++ replicate (size - length frame) 0 in
    let one : drop 8 (agreement_on minor size frame) ≡ set (drop 8 (set whole 0 size)) 12 minor = drop-set-add 8 (set whole 0 size) 12 minor in
    let two : drop 8 (set whole 0 size) ≡ drop 8 whole = drop-set-lt 8 whole 0 size (omega arith) in
    let three : drop 8 whole ≡ drop 8 frame ++ replicate (size - length frame) 0 =
    drop-append-le 8 frame (replicate (size - length frame) 0) (omega (arith, long)) in
    let short : take 8 (drop 8 (agreement_on minor size frame)) ≡ take 8 (drop 8 frame) =
    ap (take 8) one ∙ take-set-le 8 (drop 8 (set whole 0 size)) 12 minor (omega arith) ∙ ap (take 8) (two ∙ three)
    ∙ take-append-le 8 (drop 8 frame) (replicate (size - length frame) 0) (omega (arith, long, length-drop 8 frame)) in
    sym (little_from-take 0 8 8 (drop 8 (agreement_on minor size frame)) h) ∙ ap (little_from 0 8) short ∙ little_from-take 0 8 8 (drop 8 frame) h

raised_unique : (frame : List ℕ) → 16 ≤ length frame → number_at 8 8 (raised frame) ≡ number_at 8 8 frame
raised_unique frame long = by_raised (λ l. number_at 8 8 l ≡ number_at 8 8 frame) frame (agreement_unique 15 40 frame long)
    (agreement_unique 31 80 frame long)

module _ (frame handed : List ℕ) where
  long_of : IsOlderAgreement frame → 16 ≤ length frame
  long_of (inl is) = let whole = is.whole in omega (arith, whole)
  long_of (inr (inl is)) = let whole = is.whole in omega (arith, whole)
  long_of (inr (inr is)) = let whole = is.whole in omega (arith, whole)

  older_head : (size from to : ℕ) → 16 ≤ size → IsAgreement size from to frame → HasReplyHead frame
  older_head size from to least is =
      let whole = is.whole in (
        (omega (arith, whole, least), is.stated ∙ sym whole),
        subst (λ (n : ℕ). IsErrorNumber (cast_signed w32 n)) (sym is.succeeds) (omega (arith, ints), omega (arith, ints)),
      )

  head_of : IsOlderAgreement frame → HasReplyHead frame
  head_of (inl is) = older_head 80 23 30 (omega arith) is
  head_of (inr (inl is)) = older_head 40 16 22 (omega arith) is
  head_of (inr (inr is)) = older_head 40 12 14 (omega arith) is

  handed_unique : IsHandedOn frame handed → head_unique handed ≡ head_unique frame
  handed_unique (inl (older, same)) = ap (number_at 8 8) same ∙ raised_unique frame (long_of older)
  handed_unique (inr (other, same)) = ap (number_at 8 8) same

  handed_head : IsHandedOn frame handed → HasReplyHead handed → HasReplyHead frame
  handed_head (inl (older, same)) head = head_of older
  handed_head (inr (other, same)) head = subst HasReplyHead same head

reply_unique : (r : Request) (error : ℤ) (bytes : List ℕ)
    → WrittenReply (record { unique = r.unique; error = error; content = empty_reply }) bytes → head_unique bytes ≡ r.unique
reply_unique r error bytes reply =
    let t : ReplyMessage = record { unique = r.unique; error = error; content = empty_reply } in
    let reads = reads_back (reply_fields (length bytes) t) [] reply.6 reply.7 in
    ap (number_at 8 8) reply.8 ∙ reads.1.1.0

-- ---- what is so between the steps

-- The node is the root, or counted in the session beyond what a request that is held gives back.
abbrev pub IsLeft : Driven → Session → ℕ → Type 0
IsLeft d s node = (node ≡ 1) ⊎ (1 + held_back node d.turn ≤ most_count s node)

pub left_there : (d : Driven) (s : Session) (node : ℕ) → IsLeft d s node → IsThere s node
left_there d s node (inl root) = inl root
left_there d s node (inr some) = inr (omega (arith, some))

left_more : (old new : Driven) (s t : Session) (node : ℕ)
    → most_count s node + held_back node new.turn ≤ most_count t node + held_back node old.turn → IsLeft old s node → IsLeft new t node
left_more old new s t node more (inl root) = inl root
left_more old new s t node more (inr some) = inr (omega (arith, more, some))

-- A request waits and lists the directory's node; of a mount that is over the node is there.
abbrev pub Waiting : Driven → Session → ℕ × Opened → Type 0
Waiting d s e = Tracks e.0 e.1.nodeid d.kernel × (is_live d.kernel.phase ≡ false → IsLeft d s e.1.nodeid)

-- The request for which no directory is open.
abbrev unlisted_of : Turn → Option Request
unlisted_of (picked r) = Some r
unlisted_of (opening r unique node) = Some r
unlisted_of (unopened r error) = Some r
unlisted_of turn = None

-- What is opened is what the request lists.
abbrev pub OpensListed : Turn → Type 0
OpensListed (opening r unique node) = lists_body (Some r.body) node
OpensListed (unopened r error) = (node : ℕ) × lists_body (Some r.body) node
OpensListed turn = Unit {0}

pub record Listed (count : ℕ) (d : Driven) (s : Session) : Type 0 where
  pub opens : OpensListed d.turn
  pub held : (r : Request) → unlisted_of d.turn ≡ Some r → (node : ℕ) → lists_body (Some r.body) node
      → Tracks r.unique node d.kernel × Apart r.unique d.directories
  pub each : EachIs (Waiting d s) d.directories
  pub apart : AreApart d.directories
  pub early : count ≡ 0 → d.directories ≡ []

held_of : (turn : Turn) (r : Request) → unlisted_of turn ≡ Some r → held turn ≡ Some r
held_of (picked q) r is = is
held_of (opening q unique node) r is = is
held_of (unopened q error) r is = is
held_of idle r is = absurd (cc is)
held_of (opened q fh) r is = absurd (cc is)
held_of (releasing unique) r is = absurd (cc is)

module _ (count : ℕ) (old : Driven) (k : Known) (s : Session) (l : Listed count old s)
    (before : count ≡ 0 → (is_live old.kernel.phase ≡ false) × (held old.turn ≡ None)) (one : OneEach old.kernel.queues)
    (empty : EmptyUnlessLive old.kernel) (well : WellNumbered old.kernel) (f : Forgetting old.kernel) (w : Knowing old.kernel)
    (few : (id : ℕ) → 2 ≤ id → counted (get old.kernel.nodes id) + held_back id old.turn ≤ most_count s id) where
  known_left : (id : ℕ) → IsKnown old.kernel.nodes id → IsLeft old s id
  known_left id known = by (known_counted old.kernel w f id known)
    where
      by : (id ≡ 1) ⊎ ((2 ≤ id) × (1 ≤ counted (get old.kernel.nodes id))) → IsLeft old s id
      by (inl root) = inl root
      by (inr (low, some)) = let le = few id low in inr (omega (arith, le, some))

  -- The node of a directory that is open is there.
  pub open_left : (e : ℕ × Opened) → Waiting old s e → IsLeft old s e.1.nodeid
  open_left e waiting = by_live old.kernel
      (λ live. known_left e.1.nodeid (lists_known old.kernel w e.0 e.1.nodeid (waiting.0 live).1)) waiting.1

  module _ (ts : List Said) (later : Known) (whole : Session) (leads : Lead k s ts later whole) where
    -- A step at which the kernel stays as it is.
    same_waiting : (new : Driven) → new.kernel ≡ old.kernel
        → ((id : ℕ) → most_count s id + held_back id new.turn ≤ most_count whole id + held_back id old.turn) → (e : ℕ × Opened)
        → Waiting old s e → Waiting new whole e
    same_waiting new same grows e waiting = (
      subst (Tracks e.0 e.1.nodeid) (sym same) waiting.0,
      λ dead. left_more old new s whole e.1.nodeid (grows e.1.nodeid) (open_left e waiting),
    )

    alone_listed : (kernel : Kernel) (acts : ActsAlone old.kernel kernel) → mounts_alone acts ≡ 0 → AreSaid [] ts
        → Listed (count + 0) (record old { kernel = kernel }) whole
    alone_listed kernel acts none is = record {
      opens = l.opens;
      held = λ r of node lists.
          let was = l.held r of node lists in
          (alone_tracks old.kernel kernel one empty well r.unique node was.0 acts none, was.1);
      each = each_map (Waiting old s) (Waiting (record old { kernel = kernel }) whole) (λ e waiting. (
        alone_tracks old.kernel kernel one empty well e.0 e.1.nodeid waiting.0 acts none,
        λ dead. left_more old (record old { kernel = kernel }) s whole e.1.nodeid
            (let same = none_grows e.1.nodeid k s ts is later whole leads in omega (arith, same)) (open_left e waiting),
      )) old.directories l.each;
      apart = l.apart;
      early = λ zero. l.early (omega (arith, zero));
    }

    -- The kernel takes a reply under a number that no open directory has.
    taken_waiting : (bytes : List ℕ) (result : WriteResult) (kernel : Kernel) → IsReplyTaken old.kernel bytes result kernel
        → (new : Driven) → new.kernel ≡ kernel
        → ((id : ℕ) → most_count s id + held_back id new.turn ≤ most_count whole id + held_back id old.turn) → (e : ℕ × Opened)
        → Waiting old s e → e.0 ≢ head_unique bytes → Waiting new whole e
    taken_waiting bytes result kernel took new same grows e waiting apart = (
      subst (Tracks e.0 e.1.nodeid) (sym same)
          (taken_tracks old.kernel kernel one empty well e.0 e.1.nodeid waiting.0 bytes result took apart),
      λ dead. left_more old new s whole e.1.nodeid (grows e.1.nodeid) (open_left e waiting),
    )

    given_left : (request : Request) (node fh : ℕ) → lists_body (Some request.body) node → IsThere s node
        → ((id : ℕ) → most_count s id ≤ most_count whole id) → (new : Driven) → new.turn ≡ opened request fh → IsLeft new whole node
    given_left request node fh lists there grows new turn = by there
      where
        none : held_back node new.turn ≡ 0
        none = ap (held_back node) turn ∙ ap (forgotten node) (lists_forgets_none request.body node lists)

        by : IsThere s node → IsLeft new whole node
        by (inl root) = inl root
        by (inr some) = let more = grows node in inr (omega (arith, some, more, none))

    -- The first frame that waits is written.
    written_listed : (frame : List ℕ) (rest : List (List ℕ)) (handed : List ℕ) → IsHandedOn frame handed → (result : WriteResult)
        (kernel : Kernel) → IsReplyTaken old.kernel handed result kernel → old.next < 2 ^ 63 → (log : List Transfer) (coming : ℕ)
        (left : List (ℕ × Opened)) (turn : Turn) → ReleasesBehind frame old.next old.directories log coming left turn → AreSaid log ts
        → Listed (count + 0) (record old { kernel = kernel; waiting = rest; next = coming; directories = left; turn = turn }) whole
    written_listed frame rest handed on result kernel took low log coming left turn
        (releases head below before after directory is apart bytes own log' went) said =
        let new : Driven = record old { kernel = kernel; waiting = rest; next = coming; directories = left; turn = turn } in
        let x : ℕ × Opened = (head_unique frame, directory) in
        record {
          opens = tt;
          held = λ r of. absurd (cc of);
          each = each_both (Waiting old s) (λ e. e.0 ≢ head_unique frame) (Waiting new whole) (λ e waiting others.
              taken_waiting handed result kernel took new refl (λ id.
              let most = sends_grow id k s bytes 0 (own_forgets id bytes old.next below (inr (directory, own))) log went ts said later
              whole leads in omega (arith, most)) e waiting (λ same. others (same ∙ handed_unique frame handed on)))
              (before ++ after) (each_drop (Waiting old s) before x after (subst (EachIs (Waiting old s)) is l.each))
              (apart_middle before x after (subst AreApart is l.apart));
          apart = apart_drop before x after (subst AreApart is l.apart);
          early = λ zero. absurd (none_listed before x after (sym (l.early (omega (arith, zero))) ∙ is));
        }
    written_listed frame rest handed on result kernel took low log coming left turn (releases_none unlisted) said =
        let new : Driven = record old { kernel = kernel; waiting = rest; next = coming; directories = left; turn = turn } in
        record {
          opens = tt;
          held = λ r of. absurd (cc of);
          each = each_both (Waiting old s) (λ e. Tracks e.0 e.1.nodeid kernel) (Waiting new whole) (λ e waiting tracks. (
            tracks,
            λ dead. left_more old new s whole e.1.nodeid
                (let same = none_grows e.1.nodeid k s ts said later whole leads in omega (arith, same)) (open_left e waiting),
          )) old.directories l.each tracked;
          apart = l.apart;
          early = λ zero. l.early (omega (arith, zero));
        }
      where
        tracked : EachIs (λ e. Tracks e.0 e.1.nodeid kernel) old.directories
        tracked = each_stable (λ e. Tracks e.0 e.1.nodeid kernel) (λ e. tracks_stable e.0 e.1.nodeid kernel) old.directories (λ never.
            let headless : HasReplyHead handed → ⊥ = λ head. never (each_both (Waiting old s) (λ e. e.0 ≢ head_unique frame)
            (λ e. Tracks e.0 e.1.nodeid kernel) (λ e waiting others. taken_tracks old.kernel kernel one empty well e.0 e.1.nodeid
            waiting.0 handed result took (λ same. others (same ∙ handed_unique frame handed on))) old.directories l.each
            (each_of_all (λ e. e.0 ≢ head_unique frame) old.directories (unlisted (handed_head frame handed on head) low))) in
            let same : kernel ≡ old.kernel = (took.headless headless).1 in
            never (each_map (Waiting old s) (λ e. Tracks e.0 e.1.nodeid kernel)
            (λ e waiting. subst (Tracks e.0 e.1.nodeid) (sym same) waiting.0) old.directories l.each))

    pub step_listed : (log : List Transfer) (new : Driven) (step : DriveStep old log new) → count + mounts_at step ≤ 1
        → old.next < 2 ^ 63 → ((r : Request) → held old.turn ≡ Some r → All (IsThere s) (nodes_of_body r.body)) → AreSaid log ts
        → Listed (count + mounts_at step) new whole
    step_listed log new (alone kernel (mounts may)) one_mount low holds is =
        let none : count ≡ 0 = omega (arith, one_mount) in record {
          opens = l.opens;
          held = λ r of. absurd (none_held (held old.turn) r (before none).1 (held_of old.turn r of));
          each = subst (EachIs (Waiting new whole)) (sym (l.early none)) tt;
          apart = l.apart;
          early = λ zero. absurd (omega (arith, zero));
        }
    step_listed log new (alone kernel acts) one_mount low holds is = alone_listed kernel acts refl is
    step_listed log new (reads idles pick may request picked_one) one_mount low holds is =
        let live = picked_alive old.kernel pick may in record {
          opens = tt;
          held = λ r of node lists. subst (λ (q : Request). lists_body (Some q.body) node
              → Tracks q.unique node new.kernel × Apart q.unique old.directories) (some_request request r of) (λ mine.
              let picks = picked_lists old.kernel one pick request picked_one node mine in (
                (λ alive. (picks.passed, picks.lists)),
                each_map (Waiting old s) (λ e. e.0 ≢ request.unique) (λ e waiting same. picks.unread e.1.nodeid
                    (subst (λ (n : ℕ). Lists old.kernel n e.1.nodeid) same (waiting.0 live).1)) old.directories l.each,
              )) lists;
          each = each_map (Waiting old s) (Waiting new whole) (λ e waiting. (
            picked_tracks old.kernel pick well e.0 e.1.nodeid waiting.0,
            λ dead. absurd (true≢false (sym live ∙ dead)),
          )) old.directories l.each;
          apart = l.apart;
          early = λ zero. l.early (omega (arith, zero));
        }
    step_listed log new (sends request turn unlisted frame says log' went) one_mount low holds is = record {
      opens = tt;
      held = λ r of. absurd (cc of);
      each = each_map (Waiting old s) (Waiting new whole) (same_waiting new refl (λ id.
          let most = sends_grow id k s frame (forgotten id (forgets_of request.body)) (request_forgets id frame request says.says) log went ts
          is later whole leads in
          let back : held_back id old.turn ≡ forgotten id (forgets_of request.body) = ap (held_back id) turn in
          omega (arith, most, back))) old.directories l.each;
      apart = l.apart;
      early = λ zero. l.early (omega (arith, zero));
    }
    step_listed log new (sends_opened request fh turn frame says handle log' went) one_mount low holds is = record {
      opens = tt;
      held = λ r of. absurd (cc of);
      each = each_map (Waiting old s) (Waiting new whole) (same_waiting new refl (λ id.
          let most = sends_grow id k s frame (forgotten id (forgets_of request.body)) (request_forgets id frame request says.says) log went ts
          is later whole leads in
          let back : held_back id old.turn ≡ forgotten id (forgets_of request.body) = ap (held_back id) turn in
          omega (arith, most, back))) old.directories l.each;
      apart = l.apart;
      early = λ zero. l.early (omega (arith, zero));
    }
    step_listed log new (opens request turn asks below node lists frame own log' went) one_mount low holds is = record {
      opens = lists_of request.body node lists;
      held = λ r of other mine. l.held r (ap unlisted_of turn ∙ of) other mine;
      each = each_map (Waiting old s) (Waiting new whole) (same_waiting new refl (λ id.
          let most = sends_grow id k s frame 0 (own_forgets id frame old.next below (inl (node, own))) log went ts is later whole leads in
          let back : held_back id old.turn ≡ forgotten id (forgets_of request.body) = ap (held_back id) turn in
          omega (arith, most, back))) old.directories l.each;
      apart = l.apart;
      early = λ zero. l.early (omega (arith, zero));
    }
    step_listed log new (is_given request unique node turn frame fh gives) one_mount low holds is =
        let lists : lists_body (Some request.body) node = subst OpensListed turn l.opens in
        let was = l.held request (ap unlisted_of turn) node lists in
        let x : ℕ × Opened = (request.unique, record { nodeid = node; fh = fh }) in
        record {
          opens = tt;
          held = λ r of. absurd (cc of);
          each = each_push (Waiting new whole) old.directories x (each_map (Waiting old s) (Waiting new whole)
              (same_waiting new refl (λ id.
              let most = received_grows id k s frame ts is later whole leads in
              let back : held_back id old.turn ≡ forgotten id (forgets_of request.body) = ap (held_back id) turn in
              omega (arith, most, back))) old.directories l.each) (
                was.0,
                λ dead. given_left request node fh lists (lists_names (IsThere s) request.body node lists (holds request (ap held turn)))
                    (λ id. received_grows id k s frame ts is later whole leads) new refl,
              );
          apart = apart_push old.directories x l.apart was.1;
          early = λ zero. absurd (none_held (held old.turn) request (before (omega (arith, zero))).1 (ap held turn));
        }
    step_listed log new (is_not_known request unique node turn frame gives) one_mount low holds is = record {
      opens = tt;
      held = λ r of other mine. l.held r (ap unlisted_of turn ∙ of) other mine;
      each = each_map (Waiting old s) (Waiting new whole) (same_waiting new refl (λ id.
          let most = received_grows id k s frame ts is later whole leads in
          let back : held_back id old.turn ≡ forgotten id (forgets_of request.body) = ap (held_back id) turn in
          omega (arith, most, back))) old.directories l.each;
      apart = l.apart;
      early = λ zero. l.early (omega (arith, zero));
    }
    step_listed log new (is_refused request unique node turn frame error other gives) one_mount low holds is = record {
      opens = (node, subst OpensListed turn l.opens);
      held = λ r of other mine. l.held r (ap unlisted_of turn ∙ of) other mine;
      each = each_map (Waiting old s) (Waiting new whole) (same_waiting new refl (λ id.
          let most = received_grows id k s frame ts is later whole leads in
          let back : held_back id old.turn ≡ forgotten id (forgets_of request.body) = ap (held_back id) turn in
          omega (arith, most, back))) old.directories l.each;
      apart = l.apart;
      early = λ zero. l.early (omega (arith, zero));
    }
    step_listed log new (is_garbled request unique node turn frame head same gives) one_mount low holds is = record {
      opens = (node, subst OpensListed turn l.opens);
      held = λ r of other mine. l.held r (ap unlisted_of turn ∙ of) other mine;
      each = each_map (Waiting old s) (Waiting new whole) (same_waiting new refl (λ id.
          let most = received_grows id k s frame ts is later whole leads in
          let back : held_back id old.turn ≡ forgotten id (forgets_of request.body) = ap (held_back id) turn in
          omega (arith, most, back))) old.directories l.each;
      apart = l.apart;
      early = λ zero. l.early (omega (arith, zero));
    }
    step_listed log new (answers request error turn bytes reply result kernel took) one_mount low holds is =
        let lists : (node : ℕ) × lists_body (Some request.body) node = subst OpensListed turn l.opens in
        let was = l.held request (ap unlisted_of turn) lists.0 lists.1 in
        let unique : head_unique bytes ≡ request.unique = reply_unique request error bytes reply in
        record {
          opens = tt;
          held = λ r of. absurd (cc of);
          each = each_both (Waiting old s) (λ e. e.0 ≢ request.unique) (Waiting new whole) (λ e waiting others.
              taken_waiting bytes result kernel took new refl (λ id.
              let same = none_grows id k s ts is later whole leads in omega (arith, same)) e waiting
              (λ same. others (same ∙ unique))) old.directories l.each was.1;
          apart = l.apart;
          early = λ zero. l.early (omega (arith, zero));
        }
    step_listed log new (waits frame own) one_mount low holds is = record {
      opens = l.opens;
      held = l.held;
      each = each_map (Waiting old s) (Waiting new whole) (same_waiting new refl (λ id.
          let most = received_grows id k s frame ts is later whole leads in omega (arith, most))) old.directories l.each;
      apart = l.apart;
      early = λ zero. l.early (omega (arith, zero));
    }
    step_listed log new (sets_aside frame other) one_mount low holds is = record {
      opens = l.opens;
      held = l.held;
      each = each_map (Waiting old s) (Waiting new whole) (same_waiting new refl (λ id.
          let most = received_grows id k s frame ts is later whole leads in omega (arith, most))) old.directories l.each;
      apart = l.apart;
      early = λ zero. l.early (omega (arith, zero));
    }
    step_listed log new (writes idles frame rest there handed on result kernel took log' coming left turn release) one_mount low holds is =
        written_listed frame rest handed on result kernel took low log' coming left turn release is
    step_listed log new (is_released unique turn frame head same) one_mount low holds is = record {
      opens = tt;
      held = λ r of. absurd (cc of);
      each = each_map (Waiting old s) (Waiting new whole) (same_waiting new refl (λ id.
          let most = received_grows id k s frame ts is later whole leads in omega (arith, most))) old.directories l.each;
      apart = l.apart;
      early = λ zero. l.early (omega (arith, zero));
    }
    step_listed log new (ends end) one_mount low holds is = record {
      opens = l.opens;
      held = l.held;
      each = each_map (Waiting old s) (Waiting new whole) (same_waiting new refl (λ id.
          let most = stopped_grows id k s end ts is later whole leads in omega (arith, most))) old.directories l.each;
      apart = l.apart;
      early = λ zero. l.early (omega (arith, zero));
    }
