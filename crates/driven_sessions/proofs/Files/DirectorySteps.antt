-- What a step makes of open directories, and that it uses and releases them as it may.
use Rattle.std.proofs.Common.{◌≡◌, inl, inr, ℕ, ◌+◌, ◌≤◌, ◌<◌, ◌%◌, ◌^◌, Bool, true, false, List, [], ◌∷◌, ◌++◌, Option, Some, None, refl, ap, sym, subst, ◌∙◌, arith}
use Rattle.std.specs.List.{list_any}
use Rattle.std.specs.Prelude.{sum_by}
use Rattle.std.proofs.lemmas.Bool.{false≢true}
use Rattle.std.proofs.lemmas.List.Sums.{sum_by-cons}
use Rattle.fk_fields.specs.Fields.{number_at}
use Rattle.fuse_device.specs.Transfers.{Transfer, received, stopped}
use Rattle.fuse_spec.specs.declared.Opened.{Opened}
use Rattle.fuse_spec.specs.Kernel.Messages.{Request}
use Rattle.fk_kernel.specs.AwaitedReplies.{head_unique}
use Rattle.fk_drive_frames.specs.OwnRequests.{IsOpendir, IsReleasedir}
use Rattle.fk_drive.specs.Driving.{Driven, DriveStep, IsSentFrame, ReleasesBehind, SendsFrame, Turn, alone, answers, at_end, ends, is_garbled, is_given, is_not_known, is_refused, is_released, opened as has_opened, opening, opens, reads, releases, releases_none, releasing, sends, sends_opened, sets_aside, waits, with_result, writes}
use Rattle.fuse_protocol.specs.declared.opcode.Opcode.{Opcode}
use Rattle.fuse_protocol.specs.declared.opcode.Opcode.TheVariants as op
use Rattle.fuse_protocol.specs.Table.{code_of}
use Rattle.fuse_protocol.proofs.Codes.{same_opcode}
use Rattle.protocol_law.specs.Law.{Carries}
use Rattle.fuse_sessions.specs.declared.act.Act.{Act}
use Rattle.fuse_sessions.specs.declared.act.Asked.{Asked}
use Rattle.fuse_sessions.specs.declared.act.OpenKind.TheVariants as kind
use Rattle.fuse_sessions.specs.declared.act.Taken.{Taken}
use Rattle.fuse_sessions.specs.declared.act.Taken.TheVariants as taken
use Rattle.fuse_sessions.specs.declared.known.Known.{Known}
use Rattle.fuse_sessions.specs.declared.transfer.Transfer.{Transfer as Said}
use Rattle.fuse_sessions.specs.declared.transfer.Transfer.TheVariants as said
use Rattle.fuse_sessions.specs.Frames.{AreAccepted, AreActs, IsReplyOf, IsWritten, Lead, number_in}
use Rattle.fuse_sessions.specs.Numbers.{was_read}
use Rattle.fuse_sessions.specs.OpenFiles.{has_none, opened, opens_none}
use Rattle.fuse_sessions.specs.Sessions.{Session}
use Rattle.fuse_sessions.specs.UnreadRequests.{opcode_in, unique_in}
use Rattle.fuse_sessions.specs.Waiting.{is_used, uses_file, waiting, waits as waits_in}
use Rattle.driven_sessions.specs.Driven.{HaveAgreed}
use Rattle.driven_sessions.specs.Transfers.{AllSent, AreSaid, IsShaped}
use Rattle.driven_sessions.proofs.Asks.{AllAsk, AsksCode, EachAsked, map_ask, sent_asks, waits_ask, zip_ask}
use Rattle.driven_sessions.proofs.Directories.{EachIs, each_drop, each_middle, each_push}
use Rattle.driven_sessions.proofs.Frames.{IsOwn, opendir_starts}
use Rattle.driven_sessions.proofs.Heard.{judged_before}
use Rattle.driven_sessions.proofs.Leading.{AreFree}
use Rattle.driven_sessions.proofs.Listing.{lists_body, lists_of}
use Rattle.driven_sessions.proofs.Served.{added, free_first, is_of_server}
use Rattle.driven_sessions.proofs.Shapes.{own_shaped, said_shaped}
use Rattle.driven_sessions.proofs.Spent.{Keeps, Spent, held, of_kernel, own}
use Rattle.driven_sessions.proofs.Telling.{FrameAsks, Tells, asks_grow}
use Rattle.driven_sessions.proofs.Unagreed.{judged_acts}
use Rattle.driven_sessions.proofs.Files.DirectoryFrames.{SaysDirectories, directory_of, listed_says, no_directory, node_opened, one_listed, one_released, opendir_says, releasedir_says, unlisted_says}
use Rattle.driven_sessions.proofs.Files.DirectoryReplies.{error_opens_none, free_reply, handle_opens}
use Rattle.driven_sessions.proofs.Files.FrameActs.{AsksFor, MayDo, frame_acts}
use Rattle.driven_sessions.proofs.Files.Free.{quiet_free, sends_free}
use Rattle.driven_sessions.proofs.Files.Growing.{none_grows, received_grows, sends_grow, stopped_grows, written_opened}
use Rattle.driven_sessions.proofs.Files.Last.{UsesNot, none_used}
use Rattle.driven_sessions.proofs.Files.OpenDirectories.{AsksOpendir, IsFor, IsKernelNumber, OpenDirectories, OpensFor, UsesOpen, for_drop, for_last, for_push, for_times, lists_interrupts_none, lists_node, self_file, times_drop, times_open, times_push}
use Rattle.driven_sessions.proofs.Files.Opened.{as_file, each_map, file_most, is_file, opens_in}
use Rattle.driven_sessions.proofs.Files.Present.{AreAnswered, Present, each_zip}
use Rattle.driven_sessions.proofs.Files.Rows.{FilesFree, Handles}
use Rattle.driven_sessions.proofs.Files.Ties.{frame_number}
use Rattle.driven_sessions.proofs.Files.Waiting.{accepted_answers, any_last, waits_grow}

-- ---- a reply to OPENDIR

-- What a session gets of one that is accepted.
pub record HeardReply (k : Known) (s : Session) (whole : Session) (frame : List ℕ) (node : ℕ) : Type 0 where
  pub acts : List Act
  pub asked : Asked
  pub known : Known
  pub grown : whole ≡ s ++ acts
  pub does : IsReplyOf k frame taken.Accepted op.Opendir asked acts known
  pub names : asked.nodeid ≡ node
  pub more : (o : Opened) → opened s (as_file kind.Directory o) + opens_in (as_file kind.Directory o) acts
      ≤ opened whole (as_file kind.Directory o)

module _ (k : Known) (s : Session) (later : Known) (whole : Session) where
  pub carried : (frame : List ℕ) (ts : List Said) (leads : Lead k s ts later whole) → HaveAgreed Carries k s ts later whole leads
      → AreSaid (received frame ∷ []) ts → Carries k.agreed
  carried frame (said.Written b t ∷ []) (acts, known, are, end) agreed is = agreed.0
  carried frame ts leads agreed is = absurd search

  module _ (judged : later.unjudged ≡ None) (frame : List ℕ) (unique node : ℕ) (asks : AllAsk (AsksOpendir unique node) s)
      (even : unique % 2 ≡ 0) (some : 2 ≤ unique) (under : number_at 8 8 frame ≡ unique) where
    pub heard_opendir : (ts : List Said) (leads : Lead k s ts later whole) → AreSaid (received frame ∷ []) ts → AreAccepted ts
        → AreFree is_of_server s (added k s ts later whole leads) → HeardReply k s whole frame node
    heard_opendir (said.Written b t ∷ []) (acts, known, are, end) is accepted free = by (waits_in s unique) refl
      where
        does : IsWritten k s b.now taken.Accepted acts known
        does = judged_acts k s (said.Written b taken.Accepted) acts known
            (judged_before (said.Written b t ∷ []) k s later whole (acts, known, are, end) judged)
            (subst (λ (x : Taken). AreActs k s (said.Written b x) acts known) accepted.0 are)

        free_acts : AreFree is_of_server s acts
        free_acts = free_first s acts [] free

        number : number_in b.now ≡ unique
        number = ap (number_at 8 8) is.0 ∙ under

        by : (x : Option Asked) → waits_in s unique ≡ x → HeardReply k s whole frame node
        by None at = absurd ((accepted_answers k s b.now acts known does free_acts unique number some even).1 at)
        by (Some a) at =
            let tied = waits_ask (AsksOpendir unique node) s asks unique a at refl in record {
              acts = acts;
              asked = a;
              known = known;
              grown = end.1;
              does = subst (λ (l : List ℕ). IsReplyOf k l taken.Accepted op.Opendir a acts known) is.0
                  (free_reply k s b.now acts known does free_acts unique number some a at tied.0);
              names = tied.1;
              more = λ o.
                  let grows = written_opened (as_file kind.Directory o) k s b t acts known are in
                  let same : opened whole (as_file kind.Directory o) ≡ opened (s ++ acts) (as_file kind.Directory o) =
                  ap (λ (x : Session). opened x (as_file kind.Directory o)) end.1 in
                  omega (arith, grows, same);
            }
    heard_opendir ts leads is accepted free = absurd search

-- ---- frames

one_file : (a b : Opened) → ◌≡◌ {A = List Opened} (a ∷ []) (b ∷ []) → a ≡ b
one_file a b same = ap of same
  where
    of : List Opened → Opened
    of [] = a
    of (x ∷ xs) = x

-- A frame that is sent is such.
pub went_such : (P : List ℕ → Type 0) (frame : List ℕ) → P frame → (log : List Transfer) → SendsFrame frame log → AllSent P log
went_such P frame such log (with_result result) = (such, tt)
went_such P frame such log (at_end end) = tt

-- What a frame asks uses directories that its request uses.
asks_used : (handles : Handles) (frame : List ℕ) → SaysDirectories handles frame → IsShaped frame → (es : List (ℕ × Opened))
    → ((u : ℕ) → u ≡ unique_in frame → (o : Opened) → handles.used ≡ o ∷ [] → IsFor u o es) → FrameAsks (UsesOpen es) frame
asks_used handles frame says shaped es are k acts carries does =
    map_ask (λ u a. (u ≡ unique_in frame) × AsksFor kind.Directory handles a) (UsesOpen es)
    (λ u a is o uses. are u is.0 o (is.1.uses o uses)) acts
    (frame_acts kind.Directory handles k frame (directory_of handles k frame says) shaped carries acts does).asks

-- What the frames of OPENDIR and RELEASEDIR ask.
pub own_asked : (frame : List ℕ) (unique code : ℕ) → unique < 2 ^ 63 → IsOwn frame unique → opcode_in frame ≡ code → (o : Opcode)
    → code_of o ≡ code → FrameAsks (λ u a. u ≡ unique → a.opcode ≡ Some o) frame
own_asked frame unique code low mine is o coded k acts carries does =
    map_ask (AsksCode (unique_in frame) (opcode_in frame)) (λ u a. u ≡ unique → a.opcode ≡ Some o)
    (λ u a asks same. asks.2 ∙ ap Some (same_opcode asks.1 o (asks.3 ∙ is ∙ sym coded))) acts
    (sent_asks k frame acts (own_shaped frame unique low mine) carries does)

pub opendir_asked : (frame : List ℕ) (unique node : ℕ) → unique < 2 ^ 63 → IsOpendir frame unique node
    → FrameAsks (AsksOpendir unique node) frame
opendir_asked frame unique node low mine k acts carries does =
    let says = opendir_says frame unique node low mine in
    map_ask (λ u a. (u ≡ unique → a.opcode ≡ Some op.Opendir)
    × ((u ≡ unique_in frame) × AsksFor kind.Directory (node_opened node) a)) (AsksOpendir unique node)
    (λ u a is same. (is.0 same, is.1.1.node (is.0 same))) acts
    (zip_ask (λ u a. u ≡ unique → a.opcode ≡ Some op.Opendir) (λ u a. (u ≡ unique_in frame) × AsksFor kind.Directory (node_opened node) a)
    acts (own_asked frame unique 27 low (inl (node, mine)) (opendir_starts frame unique node mine low).1 op.Opendir refl k acts carries does)
    (frame_acts kind.Directory (node_opened node) k frame (directory_of (node_opened node) k frame says)
    (own_shaped frame unique low (inl (node, mine))) carries acts does).asks)

-- The number of the next was not read.
pub fresh_asked : (count : ℕ) (d : Driven) (s : Session) → Present d s → Keeps count d s → (IsSuch : ℕ → Asked → Type 0)
    → AllAsk (λ u a. u ≡ d.next → IsSuch u a) s
fresh_asked count d s present keeps IsSuch = map_ask (λ u a. was_read s u ≡ true) (λ u a. u ≡ d.next → IsSuch u a)
    (λ u a read same. absurd (never u same (keeps.spent u read))) s present.read
  where
    never : (u : ℕ) → u ≡ d.next → Spent count d u → ⊥
    never u same (own high below) = omega (arith, same, below)
    never u same (of_kernel some number apart) =
        let low = number.low in let high = keeps.low in omega (arith, same, low, high)

module _ (count : ℕ) (old : Driven) (k : Known) (s : Session) (was : OpenDirectories old s) (present : Present old s)
    (tells : Tells count old s) (keeps : Keeps count old s) (few : old.next < 2 ^ 63) where
  -- ---- frames

  unlisted_frame : (request : Request) (frame : List ℕ) → IsSentFrame frame request
      → ((node : ℕ) → lists_body (Some request.body) node → ⊥) → FrameAsks (UsesOpen old.directories) frame
  unlisted_frame request frame goes unlisted = asks_used no_directory frame (unlisted_says frame request goes unlisted)
      (said_shaped frame request goes.says) old.directories (λ u same o of. absurd (cc of))

  -- What was listed was answered as its reply is written: so no request that waits has its number.
  answered_apart : (frame : List ℕ) (rest : List (List ℕ)) → old.waiting ≡ frame ∷ rest → (before after : List (ℕ × Opened))
      (directory : Opened) → old.directories ≡ before ++ (head_unique frame, directory) ∷ after
      → EachAsked (λ u a. u ≡ head_unique frame → ⊥) (waiting s)
  answered_apart frame rest there before after directory stands =
      let number = each_middle (λ x. IsKernelNumber x.0) before (head_unique frame, directory) after
      (subst (EachIs (λ x. IsKernelNumber x.0)) stands was.numbers) in
      ((subst (AreAnswered s) there present.answered).0 number.0 number.1 number.2).1

  left_listed : (frame : List ℕ) (rest : List (List ℕ)) → old.waiting ≡ frame ∷ rest → (before after : List (ℕ × Opened))
      (directory : Opened) → old.directories ≡ before ++ (head_unique frame, directory) ∷ after
      → EachAsked (UsesOpen (before ++ after)) (waiting s)
  left_listed frame rest there before after directory stands =
      each_map (λ u a. UsesOpen old.directories u a × (u ≡ head_unique frame → ⊥)) (UsesOpen (before ++ after))
      (λ u a is o uses. for_drop u o before (head_unique frame, directory) after is.1
      (subst (IsFor u o) stands (is.0 o uses))) (waiting s)
      (each_zip (UsesOpen old.directories) (λ u a. u ≡ head_unique frame → ⊥) (waiting s) was.listed
      (answered_apart frame rest there before after directory stands))

  -- What is left is open, and used by none that waits where it is open once.
  may_release : (frame : List ℕ) (rest : List (List ℕ)) → old.waiting ≡ frame ∷ rest → (before after : List (ℕ × Opened))
      (directory : Opened) → old.directories ≡ before ++ (head_unique frame, directory) ∷ after
      → MayDo kind.Directory (one_released directory) s
  may_release frame rest there before after directory stands = record {
    used = λ q of. absurd (cc of);
    released = λ q of. subst (λ (x : Opened). (0 < opened s (as_file kind.Directory x))
        × (opened s (as_file kind.Directory x) ≡ 1 → is_used s (as_file kind.Directory x) ≡ false)) (one_file directory q of) (
          omega (arith, had, same, sum, self),
          λ once. none_used (as_file kind.Directory directory) (waiting s) (each_map (UsesOpen (before ++ after))
              (UsesNot (as_file kind.Directory directory))
              (λ u a has. by once u a has (uses_file (as_file kind.Directory directory) a) refl) (waiting s)
              (left_listed frame rest there before after directory stands)),
        );
  }
    where
      had : times_open directory old.directories ≤ opened s (as_file kind.Directory directory)
      had = was.balance directory

      same : times_open directory old.directories ≡ times_open directory (before ++ (head_unique frame, directory) ∷ after)
      same = ap (times_open directory) stands

      sum : times_open directory (before ++ (head_unique frame, directory) ∷ after)
          ≡ times_open directory (before ++ after) + is_file directory directory
      sum = times_drop directory before (head_unique frame, directory) after

      self : is_file directory directory ≡ 1
      self = self_file directory

      by : opened s (as_file kind.Directory directory) ≡ 1 → (u : ℕ) (a : Asked) → UsesOpen (before ++ after) u a → (b : Bool)
          → uses_file (as_file kind.Directory directory) a ≡ b → b ≡ false
      by once u a has false uses = refl
      by once u a has true uses =
          let some = for_times u directory (before ++ after) (has directory uses) in
          absurd (omega (arith, had, same, sum, self, some, once))

  -- ---- what the session shows

  module _ (ts : List Said) (later : Known) (whole : Session) (leads : Lead k s ts later whole)
      (agreed : HaveAgreed Carries k s ts later whole leads) where
    -- No directory is opened or left.
    quiet : (log : List Transfer) → AllSent (FrameAsks (UsesOpen old.directories)) log → AreSaid log ts
        → ((o : Opened) → opened s (as_file kind.Directory o) ≤ opened whole (as_file kind.Directory o)) → (new : Driven)
        → new.directories ≡ old.directories → new.asks ≡ old.asks → OpensFor whole new.turn old.directories → OpenDirectories new whole
    quiet log such is grows new same asks turn = record {
      asks = asks ∙ was.asks;
      balance = λ o. subst (λ (es : List (ℕ × Opened)). times_open o es ≤ opened whole (as_file kind.Directory o)) (sym same)
          (let had = was.balance o in let more = grows o in omega (arith, had, more));
      listed = subst (λ (es : List (ℕ × Opened)). EachAsked (UsesOpen es) (waiting whole)) (sym same)
          (waits_grow (UsesOpen old.directories) log such ts is k s later whole leads agreed was.listed);
      numbers = subst (EachIs (λ e. IsKernelNumber e.0)) (sym same) was.numbers;
      turn = subst (OpensFor whole new.turn) (sym same) turn;
    }

    -- The turn is as it was, and nothing is sent.
    turn_on : (log : List Transfer) → ((P : ℕ → Asked → Type 0) → AllSent (FrameAsks P) log) → AreSaid log ts → (turn : Turn)
        → OpensFor s turn old.directories → OpensFor whole turn old.directories
    turn_on log such is (opening r unique node) (lists, even, high, all) =
        (lists, even, high, asks_grow (AsksOpendir unique node) log (such (AsksOpendir unique node)) ts is k s later whole leads agreed all)
    turn_on log such is (has_opened r fh) is_for = is_for
    turn_on log such is turn is_for = tt

    none_more : AreSaid [] ts → (o : Opened) → opened s (as_file kind.Directory o) ≤ opened whole (as_file kind.Directory o)
    none_more is o = let same = none_grows (as_file kind.Directory o) k s ts is later whole leads in omega (arith, same)

    received_more : (frame : List ℕ) → AreSaid (received frame ∷ []) ts → (o : Opened)
        → opened s (as_file kind.Directory o) ≤ opened whole (as_file kind.Directory o)
    received_more frame is o = received_grows (as_file kind.Directory o) k s frame ts is later whole leads

    sent_more : (handles : Handles) (frame : List ℕ) → SaysDirectories handles frame → IsShaped frame → (log : List Transfer)
        → SendsFrame frame log → AreSaid log ts → (o : Opened)
        → opened s (as_file kind.Directory o) ≤ opened whole (as_file kind.Directory o) + sum_by (is_file o) handles.released
    sent_more handles frame says shaped log went is o = sends_grow kind.Directory handles o k s frame (directory_of handles k frame says)
        shaped log went ts is later whole leads agreed

    -- ---- the step

    given_directories : (request : Request) (unique node : ℕ) → old.turn ≡ opening request unique node → (frame : List ℕ) (fh : ℕ)
        → OpensFor s (opening request unique node) old.directories → AreSaid (received frame ∷ []) ts → ((o : Opened)
        → opened s (as_file kind.Directory o) + is_file o (record { nodeid = node; fh = fh }) ≤ opened whole (as_file kind.Directory o))
        → OpenDirectories (record old {
          directories = old.directories ++ (request.unique, record { nodeid = node; fh = fh }) ∷ [];
          turn = has_opened request fh;
        }) whole
    given_directories request unique node turn frame fh mine is opens_more =
        let p : Opened = record { nodeid = node; fh = fh } in
        let e : ℕ × Opened = (request.unique, p) in
        let plain = lists_interrupts_none request.body node mine.0 in
        let number = (keeps.holds request (ap held turn)).request plain in record {
          asks = was.asks;
          balance = λ o.
              let sum = times_push o old.directories e in
              let had = was.balance o in
              let more = opens_more o in
              omega (arith, sum, had, more);
          listed = waits_grow (UsesOpen (old.directories ++ e ∷ [])) (received frame ∷ []) tt ts is k s later whole leads agreed
              (each_map (UsesOpen old.directories) (UsesOpen (old.directories ++ e ∷ []))
              (λ u a has o uses. for_push u o old.directories e (has o uses)) (waiting s) was.listed);
          numbers = each_push (λ x. IsKernelNumber x.0) old.directories e was.numbers
              ((tells.holds request (ap held turn) plain).0, number.even, number.low);
          turn = (node, mine.0, for_last request.unique p old.directories);
        }

    released_directories : (frame : List ℕ) (rest : List (List ℕ)) → old.waiting ≡ frame ∷ rest → (before after : List (ℕ × Opened))
        (directory : Opened) → old.directories ≡ before ++ (head_unique frame, directory) ∷ after → (bytes : List ℕ)
        → IsReleasedir bytes old.next directory → (log : List Transfer) → SendsFrame bytes log → AreSaid log ts → (new : Driven)
        → new.directories ≡ before ++ after → new.asks ≡ old.asks → new.turn ≡ releasing old.next → OpenDirectories new whole
    released_directories frame rest there before after directory stands bytes mine log went is new left asks turn =
        let e : ℕ × Opened = (head_unique frame, directory) in
        let says = releasedir_says bytes old.next directory few mine in
        let shaped = own_shaped bytes old.next few (inr (directory, mine)) in record {
          asks = asks ∙ was.asks;
          balance = λ o. subst (λ (es : List (ℕ × Opened)). times_open o es ≤ opened whole (as_file kind.Directory o)) (sym left)
              (let sum = times_drop o before e after in
              let had = was.balance o in
              let same : times_open o old.directories ≡ times_open o (before ++ e ∷ after) = ap (times_open o) stands in
              let more = sent_more (one_released directory) bytes says shaped log went is o in
              let one = sum_by-cons (is_file o) directory [] in
              omega (arith, sum, had, same, more, one));
          listed = subst (λ (es : List (ℕ × Opened)). EachAsked (UsesOpen es) (waiting whole)) (sym left)
              (waits_grow (UsesOpen (before ++ after)) log
              (went_such (FrameAsks (UsesOpen (before ++ after))) bytes
              (asks_used (one_released directory) bytes says shaped (before ++ after) (λ u same o of. absurd (cc of))) log went)
              ts is k s later whole leads agreed (left_listed frame rest there before after directory stands));
          numbers = subst (EachIs (λ x. IsKernelNumber x.0)) (sym left) (each_drop (λ x. IsKernelNumber x.0) before e after
              (subst (EachIs (λ x. IsKernelNumber x.0)) stands was.numbers));
          turn = subst (λ (t : Turn). OpensFor whole t new.directories) (sym turn) tt;
        }

    pub step_directories : (judged : later.unjudged ≡ None) → AreAccepted ts → AreFree is_of_server s (added k s ts later whole leads)
        → has_none whole kind.Directory ≡ false → (log : List Transfer) (new : Driven) → DriveStep old log new → AreSaid log ts
        → OpenDirectories new whole
    step_directories judged accepted free some log new (alone l acts) is =
        quiet [] tt is (none_more is) new refl refl (turn_on [] (λ P. tt) is old.turn was.turn)
    step_directories judged accepted free some log new (reads idles pick may request picked_one) is =
        quiet [] tt is (none_more is) new refl refl tt
    step_directories judged accepted free some log new (sends request turn unlisted frame goes log' went) is =
        let apart = λ (node : ℕ) (lists : lists_body (Some request.body) node). unlisted was.asks few node (lists_node request.body node lists) in
        quiet log' (went_such (FrameAsks (UsesOpen old.directories)) frame (unlisted_frame request frame goes apart) log' went) is
        (λ o. let more = sent_more no_directory frame (unlisted_says frame request goes apart) (said_shaped frame request goes.says) log'
        went is o in omega (arith, more)) new refl refl tt
    step_directories judged accepted free some log new (sends_opened request fh turn frame goes handle log' went) is =
        let mine : OpensFor s (has_opened request fh) old.directories = subst (λ (t : Turn). OpensFor s t old.directories) turn was.turn in
        let p : Opened = record { nodeid = mine.0; fh = fh } in
        let says = listed_says frame request goes mine.0 fh mine.1 handle in
        let shaped = said_shaped frame request goes.says in
        quiet log' (went_such (FrameAsks (UsesOpen old.directories)) frame (asks_used (one_listed p) frame says shaped old.directories
        (λ u same o of. subst (λ (n : ℕ). IsFor n o old.directories) (sym (same ∙ frame_number frame request goes))
        (subst (λ (x : Opened). IsFor request.unique x old.directories) (one_file p o of) mine.2))) log' went) is
        (λ o. let more = sent_more (one_listed p) frame says shaped log' went is o in omega (arith, more)) new refl refl tt
    step_directories judged accepted free some log new (opens request turn asks below node lists frame mine log' went) is =
        let says = opendir_says frame old.next node few mine in
        let shaped = own_shaped frame old.next few (inl (node, mine)) in
        quiet log' (went_such (FrameAsks (UsesOpen old.directories)) frame (asks_used (node_opened node) frame says shaped old.directories
        (λ u same o of. absurd (cc of))) log' went) is
        (λ o. let more = sent_more (node_opened node) frame says shaped log' went is o in omega (arith, more)) new refl refl (
          lists_of request.body node lists,
          keeps.even,
          keeps.low,
          asks_grow (AsksOpendir old.next node) log'
              (went_such (FrameAsks (AsksOpendir old.next node)) frame (opendir_asked frame old.next node few mine) log' went) ts is k s later whole leads
              agreed (fresh_asked count old s present keeps (λ u a. (a.opcode ≡ Some op.Opendir) × (a.nodeid ≡ node))),
        )
    step_directories judged accepted free some log new (is_given request unique node turn frame fh gives) is =
        let mine : OpensFor s (opening request unique node) old.directories = subst (λ (t : Turn). OpensFor s t old.directories) turn was.turn in
        let high = mine.2 in
        let heard = heard_opendir k s later whole judged frame unique node mine.3 mine.1 (omega (arith, high)) gives.5.1.1.0 ts leads is
        accepted free in
        let p : Opened = record { nodeid = node; fh = fh } in
        given_directories request unique node turn frame fh mine is (λ o.
        let one = file_most kind.Directory o p heard.acts (handle_opens k (carried k s later whole frame ts leads agreed is) frame heard.asked heard.acts
        heard.known heard.does unique p heard.names gives) in
        let more = heard.more o in
        omega (arith, one, more))
    step_directories judged accepted free some log new (is_not_known request unique node turn frame gives) is =
        let mine : OpensFor s (opening request unique node) old.directories = subst (λ (t : Turn). OpensFor s t old.directories) turn was.turn in
        let high = mine.2 in
        let heard = heard_opendir k s later whole judged frame unique node mine.3 mine.1 (omega (arith, high)) gives.5.1.1.0 ts leads is
        accepted free in
        let none = error_opens_none k (carried k s later whole frame ts leads agreed is) frame heard.asked heard.acts heard.known heard.does unique gives in
        absurd (false≢true (sym some ∙ ap (list_any (opens_none kind.Directory)) heard.grown
        ∙ any_last (opens_none kind.Directory) s heard.acts none))
    step_directories judged accepted free some log new (is_refused request unique node turn frame error other gives) is =
        quiet (received frame ∷ []) tt is (received_more frame is) new refl refl tt
    step_directories judged accepted free some log new (is_garbled request unique node turn frame head same gives) is =
        quiet (received frame ∷ []) tt is (received_more frame is) new refl refl tt
    step_directories judged accepted free some log new (answers request error turn bytes reply result l took) is =
        quiet [] tt is (none_more is) new refl refl tt
    step_directories judged accepted free some log new (waits frame own_one) is =
        quiet (received frame ∷ []) tt is (received_more frame is) new refl refl
        (turn_on (received frame ∷ []) (λ P. tt) is old.turn was.turn)
    step_directories judged accepted free some log new (sets_aside frame other) is =
        quiet (received frame ∷ []) tt is (received_more frame is) new refl refl
        (turn_on (received frame ∷ []) (λ P. tt) is old.turn was.turn)
    step_directories judged accepted free some log new
        (writes idles frame rest there handed on result l took log' coming left turn behind_it) is = by log' coming left turn behind_it is
      where
        by : (log : List Transfer) (coming : ℕ) (left : List (ℕ × Opened)) (turn : Turn)
            → ReleasesBehind frame old.next old.directories log coming left turn → AreSaid log ts
            → OpenDirectories (record old { kernel = l; waiting = rest; next = coming; directories = left; turn = turn }) whole
        by log coming left turn (releases head below before after directory stands apart bytes mine over went) is =
            released_directories frame rest there before after directory stands bytes mine log went is
            (record old { kernel = l; waiting = rest; next = coming; directories = left; turn = turn }) refl refl refl
        by log coming left turn (releases_none unlisted) is = quiet [] tt is (none_more is)
            (record old { kernel = l; waiting = rest; next = coming; directories = left; turn = turn }) refl refl tt
    step_directories judged accepted free some log new (is_released unique turn frame head same) is =
        quiet (received frame ∷ []) tt is (received_more frame is) new refl refl tt
    step_directories judged accepted free some log new (ends end) is =
        quiet (stopped end ∷ []) tt is (λ o. stopped_grows (as_file kind.Directory o) k s end ts is later whole leads) new refl refl
        (turn_on (stopped end ∷ []) (λ P. tt) is old.turn was.turn)

    -- ---- faults

    module _ (begun : FilesFree kind.Directory [] s) where
      free_so : (handles : Handles) (frame : List ℕ) → SaysDirectories handles frame → IsShaped frame → MayDo kind.Directory handles s
          → (log : List Transfer) → SendsFrame frame log → AreSaid log ts → FilesFree kind.Directory [] whole
      free_so handles frame says shaped may log went is = sends_free kind.Directory later whole k s begun frame handles
          (directory_of handles k frame says) shaped (λ judged. may) log went ts is leads agreed

      none_may : (node : ℕ) → MayDo kind.Directory (node_opened node) s
      none_may node = record { used = λ p of. absurd (cc of); released = λ p of. absurd (cc of) }

      pub directories_free : (log : List Transfer) (new : Driven) → DriveStep old log new → AreSaid log ts
          → FilesFree kind.Directory [] whole
      directories_free log new (sends request turn unlisted frame goes log' went) is =
          free_so no_directory frame (unlisted_says frame request goes (λ node lists.
          unlisted was.asks few node (lists_node request.body node lists))) (said_shaped frame request goes.says) (none_may 0) log' went is
      directories_free log new (sends_opened request fh turn frame goes handle log' went) is =
          let mine : OpensFor s (has_opened request fh) old.directories = subst (λ (t : Turn). OpensFor s t old.directories) turn was.turn in
          let p : Opened = record { nodeid = mine.0; fh = fh } in
          free_so (one_listed p) frame (listed_says frame request goes mine.0 fh mine.1 handle) (said_shaped frame request goes.says) (record {
            used = λ q of. subst (λ (x : Opened). 0 < opened s (as_file kind.Directory x)) (one_file p q of)
                (let some = for_times request.unique p old.directories mine.2 in
                let had = was.balance p in
                omega (arith, some, had));
            released = λ q of. absurd (cc of);
          }) log' went is
      directories_free log new (opens request turn asks below node lists frame mine log' went) is =
          free_so (node_opened node) frame (opendir_says frame old.next node few mine) (own_shaped frame old.next few (inl (node, mine)))
          (none_may node) log' went is
      directories_free log new (writes idles frame rest there handed on result l took log' coming left turn behind_it) is =
          by log' coming left turn behind_it is
        where
          by : (log : List Transfer) (coming : ℕ) (left : List (ℕ × Opened)) (turn : Turn)
              → ReleasesBehind frame old.next old.directories log coming left turn → AreSaid log ts → FilesFree kind.Directory [] whole
          by log coming left turn (releases head below before after directory stands apart bytes mine over went) is =
              free_so (one_released directory) bytes (releasedir_says bytes old.next directory few mine)
              (own_shaped bytes old.next few (inr (directory, mine)))
              (may_release frame rest there before after directory stands) log went is
          by log coming left turn (releases_none unlisted) is = quiet_free kind.Directory later whole [] tt ts is k s begun leads
      directories_free log new step is = quiet_free kind.Directory later whole log tt ts is k s begun leads
