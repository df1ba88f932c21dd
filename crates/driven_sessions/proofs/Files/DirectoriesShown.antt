-- A session shows no directory as open that the kernel that is driven has not open.
use Rattle.std.proofs.Common.{◌≡◌, ◌⊎◌, inl, inr, ℕ, ◌-◌, ◌≤◌, ◌<◌, ◌^◌, ◌&&◌, Bool, true, false, cond, List, [], ◌∷◌, ◌++◌, Option, Some, None, nat_eq, nat_le, nat_lt, refl, ap, sym, subst, ◌∙◌, arith}
use Rattle.std.specs.Map.{lookup}
use Rattle.std.proofs.lemmas.Bool.{false≢true}
use Rattle.std.proofs.lemmas.Bool.Decides.{nat_tests}
use Rattle.std.proofs.lemmas.List.Sums.{sum_by-append, sum_by-cons}
use Rattle.fk_fields.specs.Fields.{number_at}
use Rattle.fuse_device.specs.declared.device.DeviceEnd.{DeviceEnd}
use Rattle.fuse_device.specs.Transfers.{Transfer, received, sent, stopped}
use Rattle.fuse_spec.specs.declared.Opened.{Opened}
use Rattle.fuse_spec.specs.declared.WriteResult.{WriteResult}
use Rattle.fuse_spec.specs.Kernel.Messages.{Request}
use Rattle.fk_kernel.specs.AwaitedReplies.{head_unique}
use Rattle.fk_drive_frames.specs.OwnRequests.{IsReleasedir, not_known}
use Rattle.fk_drive.specs.Driving.{Driven, DriveStep, ReleasesBehind, SendsFrame, Turn, alone, answers, at_end, ends, is_garbled, is_given, is_not_known, is_refused, is_released, opening, opens, reads, releases, releases_none, releasing, sends, sends_opened, sets_aside, waits, with_result, writes}
use Rattle.fuse_protocol.specs.declared.opcode.Opcode.{Opcode}
use Rattle.fuse_protocol.specs.declared.opcode.Opcode.TheVariants as op
use Rattle.fuse_protocol.specs.declared.request.OpenHandle.TheVariants as handle
use Rattle.fuse_protocol.specs.Requests.{RequestMessage}
use Rattle.fuse_protocol.proofs.Codes.{same_opcode}
use Rattle.protocol_law.specs.Law.{Carries}
use Rattle.protocol_law.specs.ReplyLaw.{table_opcode}
use Rattle.fuse_sessions.specs.declared.act.Act.{Act}
use Rattle.fuse_sessions.specs.declared.act.Act.TheVariants as act
use Rattle.fuse_sessions.specs.declared.act.Asked.{Asked}
use Rattle.fuse_sessions.specs.declared.act.OpenKind.TheVariants as kind
use Rattle.fuse_sessions.specs.declared.act.Taken.{Taken}
use Rattle.fuse_sessions.specs.declared.act.Taken.TheVariants as taken
use Rattle.fuse_sessions.specs.declared.known.Known.{Known}
use Rattle.fuse_sessions.specs.declared.transfer.Transfer.{Transfer as Said}
use Rattle.fuse_sessions.specs.declared.transfer.Transfer.TheVariants as said
use Rattle.fuse_sessions.specs.Frames.{AreAccepted, AreActs, AreRequestActs, IsRequestOf, IsWritten, Lead, number_in}
use Rattle.fuse_sessions.specs.OpenFiles.{opened, releases_this}
use Rattle.fuse_sessions.specs.RequestActs.{asked_of, asking, naming, releasing as release_acts, request_acts, resend_bit, resent, using, writing}
use Rattle.fuse_sessions.specs.Sessions.{Session}
use Rattle.fuse_sessions.specs.Waiting.{waiting, waits as waits_in}
use Rattle.driven_sessions.specs.Driven.{HaveAgreed}
use Rattle.driven_sessions.specs.Forgets.{AreAllSent}
use Rattle.driven_sessions.specs.Transfers.{AllSent, AreSaid}
use Rattle.driven_sessions.proofs.Asks.{AllAsk, EachAsked, found_each, waits_ask}
use Rattle.driven_sessions.proofs.Frames.{releasedir_handle, releasedir_head, releasedir_node, releasedir_starts}
use Rattle.driven_sessions.proofs.Heard.{judged_before}
use Rattle.driven_sessions.proofs.Leading.{AreFree}
use Rattle.driven_sessions.proofs.Served.{added, is_of_server}
use Rattle.driven_sessions.proofs.Shapes.{own_shaped}
use Rattle.driven_sessions.proofs.Spent.{Keeps}
use Rattle.driven_sessions.proofs.Telling.{FrameAsks, Tells, Tied, asks_grow}
use Rattle.driven_sessions.proofs.Unagreed.{judged_acts}
use Rattle.driven_sessions.proofs.Files.DirectoryOpens.{error_opens_nothing, garbled_opens_nothing, handle_opens_one, opened_down, others_open_none, request_unopening, table_apart, unopening_none}
use Rattle.driven_sessions.proofs.Files.DirectorySteps.{HeardReply, carried, fresh_asked, heard_opendir, opendir_asked, own_asked, went_such}
use Rattle.driven_sessions.proofs.Files.ForgetSteps.{NamedKept, OwnAwaited, number_same, own_awaited, was_answered}
use Rattle.driven_sessions.proofs.Files.OpenDirectories.{AsksOpendir, times_drop, times_open, times_push}
use Rattle.driven_sessions.proofs.Files.Opened.{as_file, is_file, opened_up, opens_in, releases_in}
use Rattle.driven_sessions.proofs.Files.Present.{Present}
use Rattle.driven_sessions.proofs.Files.Waiting.{waits_grow}

-- ---- what is kept

-- RELEASEDIR was asked under the number.
abbrev pub AsksReleasedir : (unique : ℕ) → ℕ → Asked → Type 0
AsksReleasedir unique u a = u ≡ unique → a.opcode ≡ Some op.Releasedir

abbrev pub AsksOwn : Session → Turn → Type 0
AsksOwn s (opening r unique node) = AllAsk (AsksOpendir unique node) s
AsksOwn s (releasing unique) = AllAsk (AsksReleasedir unique) s
AsksOwn s turn = Unit {0}

-- Each directory is open in the session as often at most.
abbrev pub HasAll : Driven → Session → Type 0
HasAll d s = (p : Opened) → opened s (as_file kind.Directory p) ≤ times_open p d.directories

-- Or the reply that is awaited was answered already, so none will come.
abbrev pub IsStuck : Driven → Session → Type 0
IsStuck d s = (unique : ℕ) × (own_awaited d.turn ≡ Some unique) × EachAsked (λ u a. u ≡ unique → ⊥) (waiting s)

pub record DirectoriesShown (d : Driven) (s : Session) : Type 0 where
  pub all : HasAll d s ⊎ IsStuck d s
  pub asks : AsksOwn s d.turn

none_waits : (u : ℕ) (es : List (ℕ × Asked)) → EachAsked (λ n a. n ≡ u → ⊥) es → lookup (nat_eq u) es ≡ None
none_waits u [] each = refl
none_waits u (e ∷ es) each = by (nat_eq u e.0) refl (none_waits u es each.1)
  where
    by : (b : Bool) → nat_eq u e.0 ≡ b → lookup (nat_eq u) es ≡ None → cond b (Some e.1) (lookup (nat_eq u) es) ≡ None
    by true is rest = absurd (each.0 (grind (arith, nat_tests, is)))
    by false is rest = rest

abbrev is_opendir : Option Opcode → Bool
is_opendir (Some op.Opendir) = true
is_opendir o = false

abbrev asks_opendir : Option Asked → Bool
asks_opendir None = false
asks_opendir (Some a) = is_opendir a.opcode

opendir_of : (o : Option Opcode) → is_opendir o ≡ true → o ≡ Some op.Opendir
opendir_of (Some op.Opendir) is = refl
opendir_of None is = absurd (false≢true is)
opendir_of (Some o) is = absurd (false≢true is)

-- ---- RELEASEDIR's frame releases its directory

releases_first : (p : Opened) (xs ys : List Act) → releases_in (as_file kind.Directory p) xs ≤ releases_in (as_file kind.Directory p) (xs ++ ys)
releases_first p xs ys = let sum = sum_by-append (releases_this (as_file kind.Directory p)) xs ys in omega (arith, sum)

releases_last : (p : Opened) (xs ys : List Act) → releases_in (as_file kind.Directory p) ys ≤ releases_in (as_file kind.Directory p) (xs ++ ys)
releases_last p xs ys = let sum = sum_by-append (releases_this (as_file kind.Directory p)) xs ys in omega (arith, sum)

and_false : (a b : Bool) → b ≡ false → (a && b) ≡ false
and_false true b is = is
and_false false b is = refl

module _ (frame : List ℕ) (unique : ℕ) (directory : Opened) (low : unique < 2 ^ 63) (mine : IsReleasedir frame unique directory) where
  asking_releases : (m : RequestMessage) (p : Opened) → m.nodeid ≡ directory.nodeid → m.handle ≡ handle.Directory directory.fh
      → is_file p directory ≤ releases_in (as_file kind.Directory p) (asking op.Releasedir m (asked_of op.Releasedir m))
  asking_releases m p node fh =
      let a : Asked = asked_of op.Releasedir m in
      let four : List Act = naming a.nodeid ++ naming a.other ++ using a.uses ++ using a.copies_to in
      let last : List Act = release_acts op.Releasedir m.nodeid m.handle in
      let one = releases_last p four last in
      let two = releases_first p (four ++ last) (writing op.Releasedir m) in
      let three = releases_first p ((four ++ last) ++ writing op.Releasedir m) (act.Asks m.unique a ∷ []) in
      let same : last ≡ act.Releases (as_file kind.Directory directory) ∷ [] =
      ap (λ (n : ℕ). release_acts op.Releasedir n m.handle) node ∙ ap (release_acts op.Releasedir directory.nodeid) fh in
      let whole = ap (releases_in (as_file kind.Directory p)) same in
      let sum = sum_by-cons (releases_this (as_file kind.Directory p)) (act.Releases (as_file kind.Directory directory)) [] in
      let first = sum_by-cons (releases_this (as_file kind.Directory p)) (act.Read (Some op.Releasedir) m.unique)
      (((four ++ last) ++ writing op.Releasedir m) ++ act.Asks m.unique a ∷ []) in
      omega (arith, one, two, three, whole, sum, first)

  row_releases : (k : Known) (o : Opcode) (m : RequestMessage) → IsRequestOf k.agreed frame (o, m) → (p : Opened)
      → is_file p directory ≤ releases_in (as_file kind.Directory p) (request_acts k.has_resent o m)
  row_releases k o m is p = subst (λ (x : Opcode). IsRequestOf k.agreed frame (x, m)
      → is_file p directory ≤ releases_in (as_file kind.Directory p) (request_acts k.has_resent x m)) (sym code) row is
    where
      code : o ≡ op.Releasedir
      code = same_opcode o op.Releasedir (sym is.opcode ∙ (releasedir_starts frame unique directory mine low).1)

      row : IsRequestOf k.agreed frame (op.Releasedir, m)
          → is_file p directory ≤ releases_in (as_file kind.Directory p) (request_acts k.has_resent op.Releasedir m)
      row at =
          let number : m.unique ≡ unique = sym at.unique ∙ (releasedir_head frame unique directory mine low).1 in
          let again : (k.has_resent && nat_le resend_bit m.unique) ≡ false =
          and_false k.has_resent (nat_le resend_bit m.unique) (grind (arith, nat_tests, number, low)) in
          let shown : request_acts k.has_resent op.Releasedir m ≡ act.Arrives ∷ act.Begins op.Releasedir
          ∷ asking op.Releasedir m (asked_of op.Releasedir m) = ap (λ (b : Bool). act.Arrives ∷ act.Begins op.Releasedir
          ∷ cond b (resent op.Releasedir m) (asking op.Releasedir m (asked_of op.Releasedir m))) again in
          let whole = ap (releases_in (as_file kind.Directory p)) shown in
          let part = asking_releases m p (sym at.nodeid ∙ releasedir_node frame unique directory mine low)
          (sym at.handle ∙ ap handle.Directory (releasedir_handle frame unique directory mine low)) in
          let last = releases_last p (act.Arrives ∷ act.Begins op.Releasedir ∷ []) (asking op.Releasedir m (asked_of op.Releasedir m)) in
          omega (arith, whole, part, last)

  releases_shown : (k : Known) → Carries k.agreed → (acts : List Act) → AreRequestActs k frame acts → (p : Opened)
      → is_file p directory ≤ releases_in (as_file kind.Directory p) acts
  releases_shown k carries acts (inl ((o, m), is, does)) p =
      let whole = ap (releases_in (as_file kind.Directory p)) does in
      let some = row_releases k o m is p in
      omega (arith, whole, some)
  releases_shown k carries acts (inr (none, does)) p =
      let one = own_shaped frame unique low (inr (directory, mine)) k.agreed carries in absurd (none (one.0, one.1) one.2)

some_opcode : (x y : Opcode) → ◌≡◌ {A = Option Opcode} (Some x) (Some y) → x ≡ y
some_opcode x y same = ap of same
  where
    of : Option Opcode → Opcode
    of None = x
    of (Some z) = z

-- An OPENDIR that waits is the one whose reply is awaited.
pub awaited_opendir : (count : ℕ) (d : Driven) (s : Session) → NamedKept d s → Tells count d s → (u : ℕ) (a : Asked) → waits_in s u ≡ Some a
    → a.opcode ≡ Some op.Opendir → own_awaited d.turn ≡ Some u
awaited_opendir count d s named tells u a at asks = of (nat_lt u (2 ^ 62)) refl
  where
    of : (b : Bool) → nat_lt u (2 ^ 62) ≡ b → own_awaited d.turn ≡ Some u
    of true less =
        let tied = waits_ask (Tied d.kernel) s tells.asks u a at (grind (arith, nat_tests, less)) in
        absurd (table_apart tied.1 (some_opcode (table_opcode tied.1) op.Opendir (sym tied.2 ∙ asks)))
    of false high = found_each (OwnAwaited d.turn) u (waiting s) a named.own at (grind (arith, nat_tests, high))

-- ---- a step

module _ (count : ℕ) (old : Driven) (k : Known) (s : Session) (was : DirectoriesShown old s) (named : NamedKept old s)
    (present : Present old s) (tells : Tells count old s) (keeps : Keeps count old s) where
  -- None is awaited.
  pub not_stuck : own_awaited old.turn ≡ None → HasAll old s
  not_stuck none = by was.all
    where
      by : HasAll old s ⊎ IsStuck old s → HasAll old s
      by (inl all) = all
      by (inr (unique, awaits, gone)) = absurd (cc (awaits, none))

  module _ (ts : List Said) (later : Known) (whole : Session) (leads : Lead k s ts later whole)
      (agreed : HaveAgreed Carries k s ts later whole leads) where
    -- A frame that is sent opens none.
    sent_opens_none : (judged : k.unjudged ≡ None) (frame : List ℕ) → (log : List Transfer) → SendsFrame frame log → AreSaid log ts → (p : Opened)
        → opened whole (as_file kind.Directory p) ≤ opened s (as_file kind.Directory p)
    sent_opens_none judged frame log went is p = by log went ts is leads
      where
        by : (log : List Transfer) → SendsFrame frame log → (us : List Said) → AreSaid log us → Lead k s us later whole
            → opened whole (as_file kind.Directory p) ≤ opened s (as_file kind.Directory p)
        by log (with_result result) (said.Request b ∷ []) is (acts, known, are, end) =
            let does = judged_acts k s (said.Request b) acts known judged are in
            let none = unopening_none (as_file kind.Directory p) acts (request_unopening k b.now acts does.0) in
            let up = opened_up (as_file kind.Directory p) s acts in
            let same = ap (λ (x : Session). opened x (as_file kind.Directory p)) end.1 in
            omega (arith, none, up, same)
        by log (at_end end) (said.Ended ∷ []) is (acts, known, are, end_is) =
            let does = judged_acts k s said.Ended acts known judged are in
            let none = ap (opens_in (as_file kind.Directory p)) does.0 in
            let up = opened_up (as_file kind.Directory p) s acts in
            let same = ap (λ (x : Session). opened x (as_file kind.Directory p)) end_is.1 in
            omega (arith, none, up, same)
        by log went us is l = absurd search

    -- So does the device's end.
    pub stopped_opens_none : (judged : k.unjudged ≡ None) (end : DeviceEnd) → AreSaid (stopped end ∷ []) ts → (p : Opened)
        → opened whole (as_file kind.Directory p) ≤ opened s (as_file kind.Directory p)
    stopped_opens_none judged end is p = by ts is leads
      where
        by : (us : List Said) → AreSaid (stopped end ∷ []) us → Lead k s us later whole
            → opened whole (as_file kind.Directory p) ≤ opened s (as_file kind.Directory p)
        by (said.Ended ∷ []) is (acts, known, are, last) =
            let does = judged_acts k s said.Ended acts known judged are in
            let none = ap (opens_in (as_file kind.Directory p)) does.0 in
            let up = opened_up (as_file kind.Directory p) s acts in
            let same = ap (λ (x : Session). opened x (as_file kind.Directory p)) last.1 in
            omega (arith, none, up, same)
        by us is l = absurd search

    pub same_opened : AreSaid [] ts → (p : Opened) → opened whole (as_file kind.Directory p) ≤ opened s (as_file kind.Directory p)
    same_opened is p = by ts is leads
      where
        by : (us : List Said) → AreSaid [] us → Lead k s us later whole
            → opened whole (as_file kind.Directory p) ≤ opened s (as_file kind.Directory p)
        by [] is l = let same = ap (λ (x : Session). opened x (as_file kind.Directory p)) l.1 in omega (arith, same)
        by (t ∷ us) is l = absurd is

    asks_on : (log : List Transfer) → ((P : ℕ → Asked → Type 0) → AllSent (FrameAsks P) log) → AreSaid log ts → (turn : Turn)
        → AsksOwn s turn → AsksOwn whole turn
    asks_on log such is (opening r unique node) all =
        asks_grow (AsksOpendir unique node) log (such (AsksOpendir unique node)) ts is k s later whole leads agreed all
    asks_on log such is (releasing unique) all =
        asks_grow (AsksReleasedir unique) log (such (AsksReleasedir unique)) ts is k s later whole leads agreed all
    asks_on log such is turn all = tt

    stuck_on : (log : List Transfer) → ((P : ℕ → Asked → Type 0) → AllSent (FrameAsks P) log) → AreSaid log ts → (new : Driven)
        → new.turn ≡ old.turn → IsStuck old s → IsStuck new whole
    stuck_on log such is new same (unique, awaits, gone) = (
      unique,
      ap own_awaited same ∙ awaits,
      waits_grow (λ u a. u ≡ unique → ⊥) log (such (λ u a. u ≡ unique → ⊥)) ts is k s later whole leads agreed gone,
    )

    -- The turn and the directories are as they were, and nothing is opened.
    still_shown : (log : List Transfer) → ((P : ℕ → Asked → Type 0) → AllSent (FrameAsks P) log) → AreSaid log ts
        → ((p : Opened) → opened whole (as_file kind.Directory p) ≤ opened s (as_file kind.Directory p)) → (new : Driven)
        → new.turn ≡ old.turn → new.directories ≡ old.directories → DirectoriesShown new whole
    still_shown log such is less new turn directories = record {
      all = by was.all;
      asks = subst (AsksOwn whole) (sym turn) (asks_on log such is old.turn was.asks);
    }
      where
        by : HasAll old s ⊎ IsStuck old s → HasAll new whole ⊎ IsStuck new whole
        by (inl all) = inl (λ p. subst (λ (es : List (ℕ × Opened)). opened whole (as_file kind.Directory p) ≤ times_open p es)
            (sym directories) (let le = all p in let fewer = less p in omega (arith, le, fewer)))
        by (inr stuck) = inr (stuck_on log such is new turn stuck)

    -- No reply was awaited, and none is opened.
    free_shown : own_awaited old.turn ≡ None
        → ((p : Opened) → opened whole (as_file kind.Directory p) ≤ opened s (as_file kind.Directory p)) → (new : Driven)
        → new.directories ≡ old.directories → AsksOwn whole new.turn → DirectoriesShown new whole
    free_shown none less new directories asks = record {
      all = inl (λ p. subst (λ (es : List (ℕ × Opened)). opened whole (as_file kind.Directory p) ≤ times_open p es)
          (sym directories) (let le = not_stuck none p in let fewer = less p in omega (arith, le, fewer)));
      asks = asks;
    }

    module _ (judged : later.unjudged ≡ None) (accepted : AreAccepted ts) (free : AreFree is_of_server s (added k s ts later whole leads))
      where
        judged_here : k.unjudged ≡ None
        judged_here = judged_before ts k s later whole leads judged

        -- The awaited reply came, and was not answered before.
        unstuck : (frame : List ℕ) (unique : ℕ) → own_awaited old.turn ≡ Some unique → number_at 8 8 frame ≡ unique
            → AreSaid (received frame ∷ []) ts → HasAll old s
        unstuck frame unique awaited under is =
            let number = named.numbers unique awaited in
            let high = number.1 in
            let waited = (was_answered k s later whole judged frame unique number.0 (omega (arith, high)) under ts leads is accepted free).1 in
            by waited was.all
          where
            by : (waits_in s unique ≡ None → ⊥) → HasAll old s ⊎ IsStuck old s → HasAll old s
            by waited (inl all) = all
            by waited (inr (other, awaits, gone)) =
                let same : other ≡ unique = number_same other unique (sym awaits ∙ awaited) in
                absurd (waited (none_waits unique (waiting s)
                (subst (λ (n : ℕ). EachAsked (λ u a. u ≡ n → ⊥) (waiting s)) same gone)))

        -- The acts of a frame that is received.
        heard_acts : (frame : List ℕ) → AreSaid (received frame ∷ []) ts
            → (acts : List Act) × (known : Known) × (whole ≡ s ++ acts) × IsWritten k s frame taken.Accepted acts known
        heard_acts frame is = by ts is leads accepted
          where
            by : (us : List Said) → AreSaid (received frame ∷ []) us → Lead k s us later whole → AreAccepted us
                → (acts : List Act) × (known : Known) × (whole ≡ s ++ acts) × IsWritten k s frame taken.Accepted acts known
            by (said.Written b t ∷ []) is (acts, known, are, last) accepted = (
              acts,
              known,
              last.1,
              subst (λ (l : List ℕ). IsWritten k s l taken.Accepted acts known) is.0 (judged_acts k s (said.Written b taken.Accepted) acts
                  known judged_here (subst (λ (x : Taken). AreActs k s (said.Written b x) acts known) accepted.0 are)),
            )
            by us is l accepted = absurd search

        -- It opens none, where its number is that of no OPENDIR.
        pub heard_none : (frame : List ℕ) → AreSaid (received frame ∷ []) ts
            → ((a : Asked) → waits_in s (number_in frame) ≡ Some a → a.opcode ≡ Some op.Opendir → ⊥) → (p : Opened)
            → opened whole (as_file kind.Directory p) ≤ opened s (as_file kind.Directory p)
        heard_none frame is apart p =
            let heard = heard_acts frame is in
            let none = others_open_none k s frame heard.0 heard.1 heard.3 apart p in
            let up = opened_up (as_file kind.Directory p) s heard.0 in
            let same = ap (λ (x : Session). opened x (as_file kind.Directory p)) heard.2 in
            omega (arith, none, up, same)

        -- A frame is set aside, or waits for the kernel.
        received_shown : (frame : List ℕ) → AreSaid (received frame ∷ []) ts → (new : Driven) → new.turn ≡ old.turn
            → new.directories ≡ old.directories → DirectoriesShown new whole
        received_shown frame is new turn directories = by (asks_opendir (waits_in s (number_in frame))) refl
          where
            stuck : (x : Option Asked) → waits_in s (number_in frame) ≡ x → asks_opendir x ≡ true → DirectoriesShown new whole
            stuck None at is_so = absurd (false≢true is_so)
            stuck (Some a) at is_so =
                let awaited = awaited_opendir count old s named tells (number_in frame) a at (opendir_of a.opcode is_so) in
                let number = named.numbers (number_in frame) awaited in
                let high = number.1 in record {
                  all = inr (
                    number_in frame,
                    ap own_awaited turn ∙ awaited,
                    (was_answered k s later whole judged frame (number_in frame) number.0 (omega (arith, high)) refl ts leads is accepted
                        free).0,
                  );
                  asks = subst (AsksOwn whole) (sym turn) (asks_on (received frame ∷ []) (λ P. tt) is old.turn was.asks);
                }

            by : (b : Bool) → asks_opendir (waits_in s (number_in frame)) ≡ b → DirectoriesShown new whole
            by true is_so = stuck (waits_in s (number_in frame)) refl is_so
            by false none = still_shown (received frame ∷ []) (λ P. tt) is (heard_none frame is
                (λ a at asks. false≢true (sym none ∙ ap asks_opendir at ∙ ap is_opendir asks))) new turn directories

        -- OPENDIR is answered.
        opendir_heard : (request : Request) (unique node : ℕ) → old.turn ≡ opening request unique node → (frame : List ℕ)
            → number_at 8 8 frame ≡ unique → AreSaid (received frame ∷ []) ts → HeardReply k s whole frame node
        opendir_heard request unique node turn frame under is =
            let awaited : own_awaited old.turn ≡ Some unique = ap own_awaited turn in
            let number = named.numbers unique awaited in
            let high = number.1 in
            let asks : AllAsk (AsksOpendir unique node) s = subst (AsksOwn s) turn was.asks in
            heard_opendir k s later whole judged frame unique node asks number.0 (omega (arith, high)) under ts leads is accepted free

        failed_shown : (request : Request) (unique node : ℕ) → old.turn ≡ opening request unique node → (frame : List ℕ)
            → number_at 8 8 frame ≡ unique → AreSaid (received frame ∷ []) ts
            → ((heard : HeardReply k s whole frame node) (p : Opened) → opens_in (as_file kind.Directory p) heard.acts ≡ 0) → (new : Driven)
            → new.directories ≡ old.directories → AsksOwn whole new.turn → DirectoriesShown new whole
        failed_shown request unique node turn frame under is none new directories asks =
            let heard = opendir_heard request unique node turn frame under is in
            let had = unstuck frame unique (ap own_awaited turn) under is in record {
              all = inl (λ p. subst (λ (es : List (ℕ × Opened)). opened whole (as_file kind.Directory p) ≤ times_open p es) (sym directories)
                  (let le = had p in
                  let zero = none heard p in
                  let up = opened_up (as_file kind.Directory p) s heard.acts in
                  let same = ap (λ (x : Session). opened x (as_file kind.Directory p)) heard.grown in
                  omega (arith, le, zero, up, same)));
              asks = asks;
            }

        -- RELEASEDIR is answered.
        free_released : (frame : List ℕ) (unique : ℕ) → old.turn ≡ releasing unique → number_at 8 8 frame ≡ unique
            → AreSaid (received frame ∷ []) ts → (new : Driven) → new.directories ≡ old.directories → AsksOwn whole new.turn
            → DirectoriesShown new whole
        free_released frame unique turn under is new directories asks =
            let had = unstuck frame unique (ap own_awaited turn) under is in
            let all : AllAsk (AsksReleasedir unique) s = subst (AsksOwn s) turn was.asks in record {
              all = inl (λ p. subst (λ (es : List (ℕ × Opened)). opened whole (as_file kind.Directory p) ≤ times_open p es) (sym directories)
                  (let le = had p in
                  let less = heard_none frame is (λ a at is_opendir.
                  let is_releasedir = waits_ask (AsksReleasedir unique) s all (number_in frame) a at under in
                  cc (is_opendir, is_releasedir)) p in
                  omega (arith, le, less)));
              asks = asks;
            }

        -- A RELEASEDIR that was sent releases its directory.
        released_opened : (bytes : List ℕ) (directory : Opened) → old.next < 2 ^ 63 → IsReleasedir bytes old.next directory → (result : WriteResult)
            → AreSaid (sent bytes result ∷ []) ts → (p : Opened)
            → opened whole (as_file kind.Directory p) ≤ opened s (as_file kind.Directory p) - is_file p directory
        released_opened bytes directory below mine result is p = by ts is leads agreed
          where
            by : (us : List Said) → AreSaid (sent bytes result ∷ []) us → (l : Lead k s us later whole)
                → HaveAgreed Carries k s us later whole l
                → opened whole (as_file kind.Directory p) ≤ opened s (as_file kind.Directory p) - is_file p directory
            by (said.Request b ∷ []) is (acts, known, are, last) agreed =
                let does = judged_acts k s (said.Request b) acts known judged_here are in
                let none = unopening_none (as_file kind.Directory p) acts (request_unopening k b.now acts does.0) in
                let one = releases_shown bytes old.next directory below mine k agreed.0 acts
                (subst (λ (x : List ℕ). AreRequestActs k x acts) is.0 does.0) p in
                let down = opened_down (as_file kind.Directory p) s acts none in
                let same = ap (λ (x : Session). opened x (as_file kind.Directory p)) last.1 in
                omega (arith, one, down, same)
            by us is l agreed = absurd search

        pub step_shown : (log : List Transfer) (new : Driven) → DriveStep old log new → AreSaid log ts → AreAllSent log
            → DirectoriesShown new whole
        step_shown log new (alone l acts) is all_sent = still_shown [] (λ P. tt) is (same_opened is) new refl refl
        step_shown log new (reads idles pick may request picked_one) is all_sent =
            free_shown (ap own_awaited idles) (same_opened is) new refl tt
        step_shown log new (sends request turn unlisted frame goes log' went) is all_sent =
            free_shown (ap own_awaited turn) (sent_opens_none judged_here frame log' went is) new refl tt
        step_shown log new (sends_opened request fh turn frame goes handle log' went) is all_sent =
            free_shown (ap own_awaited turn) (sent_opens_none judged_here frame log' went is) new refl tt
        step_shown log new (opens request turn asks_it below node lists frame mine log' went) is all_sent =
            free_shown (ap own_awaited turn) (sent_opens_none judged_here frame log' went is) new refl
            (asks_grow (AsksOpendir old.next node) log'
            (went_such (FrameAsks (AsksOpendir old.next node)) frame (opendir_asked frame old.next node below mine) log' went) ts is k s later
            whole leads agreed (fresh_asked count old s present keeps (λ u a. (a.opcode ≡ Some op.Opendir) × (a.nodeid ≡ node))))
        step_shown log new (is_given request unique node turn frame fh gives) is all_sent =
            let heard = opendir_heard request unique node turn frame gives.5.1.1.0 is in
            let had = unstuck frame unique (ap own_awaited turn) gives.5.1.1.0 is in record {
              all = inl (λ p.
                  let le = had p in
                  let one = handle_opens_one k (carried k s later whole frame ts leads agreed is) frame heard.asked heard.acts heard.known
                  heard.does unique fh gives p in
                  let node_same = ap (λ (n : ℕ). is_file p (record { nodeid = n; fh = fh })) heard.names in
                  let sum = times_push p old.directories (request.unique, record { nodeid = node; fh = fh }) in
                  let up = opened_up (as_file kind.Directory p) s heard.acts in
                  let same = ap (λ (x : Session). opened x (as_file kind.Directory p)) heard.grown in
                  omega (arith, le, one, node_same, sum, up, same));
              asks = tt;
            }
        step_shown log new (is_not_known request unique node turn frame gives) is all_sent =
            failed_shown request unique node turn frame gives.5.1.1.0 is (λ heard p. error_opens_nothing k
            (carried k s later whole frame ts leads agreed is) frame heard.asked heard.acts heard.known heard.does unique not_known gives p)
            new refl tt
        step_shown log new (is_refused request unique node turn frame error other gives) is all_sent =
            failed_shown request unique node turn frame gives.5.1.1.0 is (λ heard p. error_opens_nothing k
            (carried k s later whole frame ts leads agreed is) frame heard.asked heard.acts heard.known heard.does unique error gives p)
            new refl tt
        step_shown log new (is_garbled request unique node turn frame head same gives) is all_sent =
            failed_shown request unique node turn frame same is (λ heard p. garbled_opens_nothing k
            (carried k s later whole frame ts leads agreed is) frame heard.asked heard.acts heard.known heard.does unique gives p)
            new refl tt
        step_shown log new (answers request error turn bytes reply result l took) is all_sent =
            free_shown (ap own_awaited turn) (same_opened is) new refl tt
        step_shown log new (waits frame own_one) is all_sent = received_shown frame is new refl refl
        step_shown log new (sets_aside frame other) is all_sent = received_shown frame is new refl refl
        step_shown log new (writes idles frame rest there handed on result l took log' coming left turn behind_it) is all_sent =
            by log' coming left turn behind_it is all_sent
          where
            by : (log : List Transfer) (coming : ℕ) (left : List (ℕ × Opened)) (turn : Turn)
                → ReleasesBehind frame old.next old.directories log coming left turn → AreSaid log ts → AreAllSent log
                → DirectoriesShown (record old { kernel = l; waiting = rest; next = coming; directories = left; turn = turn }) whole
            by log coming left turn (releases_none unlisted) is all_sent = free_shown (ap own_awaited idles) (same_opened is)
                (record old { kernel = l; waiting = rest; next = coming; directories = left; turn = turn }) refl tt
            by log coming left turn (releases head below before after directory stands apart bytes mine over (at_end end)) is all_sent =
                absurd all_sent
            by log coming left turn (releases head below before after directory stands apart bytes mine over (with_result result)) is all_sent =
                record {
                  all = inl (λ p.
                      let le = not_stuck (ap own_awaited idles) p in
                      let fewer = released_opened bytes directory below mine result is p in
                      let whole_list = ap (times_open p) stands in
                      let sum = times_drop p before (head_unique frame, directory) after in
                      omega (arith, le, fewer, whole_list, sum));
                  asks = asks_grow (AsksReleasedir old.next) log (
                    own_asked bytes old.next 29 below (inr (directory, mine))
                        (releasedir_starts bytes old.next directory mine below).1 op.Releasedir refl,
                    tt,
                  ) ts is k s later whole leads agreed
                      (fresh_asked count old s present keeps (λ u a. a.opcode ≡ Some op.Releasedir));
                }
        step_shown log new (is_released unique turn frame head same) is all_sent =
            free_released frame unique turn same is new refl tt
        step_shown log new (ends end) is all_sent =
            still_shown (stopped end ∷ []) (λ P. tt) is (stopped_opens_none judged_here end is) new refl refl
