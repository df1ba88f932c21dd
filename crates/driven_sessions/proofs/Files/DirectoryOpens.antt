-- How many directories the acts of a frame open: those of a request none, those of a reply one at most, as OPENDIR asks.
use Rattle.std.proofs.Common.{◌≡◌, ◌⊎◌, inl, inr, ℕ, ◌-◌, ◌≤◌, ◌^◌, ◌==◌, ◌&&◌, Bool, true, false, cond, not, List, [], ◌∷◌, ◌++◌, Option, Some, None, nat_eq, nat_le, length, if◌then◌else◌, append_assoc, refl, ap, sym, subst, ◌∙◌, arith}
use Rattle.std.specs.List.{list_all}
use Rattle.std.specs.Prelude.{MatchBool, pos, sum_by, ℤ}
use Rattle.std.proofs.lemmas.Bool.{and_parts, false≢true}
use Rattle.std.proofs.lemmas.Bool.Decides.{nat_tests}
use Rattle.std.proofs.lemmas.Int.{ints}
use Rattle.std.proofs.lemmas.List.Sums.{sum_by-append, sum_by-cons}
use Rattle.fk_fields.specs.Fields.{number_at}
use Rattle.fk_wire.specs.declared.opcode.Opcode.{Opcode as CodecOpcode}
use Rattle.fk_wire.specs.declared.opcode.Opcode.TheVariants as codec_op
use Rattle.fk_wire.specs.Replies.{kind_of_content, open_reply}
use Rattle.fuse_spec.specs.declared.Opened.{Opened}
use Rattle.fk_drive_frames.specs.OwnRequests.{GivesError, GivesHandle, GivesNothing}
use Rattle.fuse_protocol.specs.declared.opcode.Opcode.{Opcode}
use Rattle.fuse_protocol.specs.declared.opcode.Opcode.TheVariants as op
use Rattle.fuse_protocol.specs.declared.request.OpenHandle.{OpenHandle}
use Rattle.fuse_protocol.specs.declared.request.OpenHandle.TheVariants as handle
use Rattle.fuse_protocol.specs.Pairs.{pairs_of_row}
use Rattle.fuse_protocol.specs.Requests.{RequestMessage}
use Rattle.fuse_protocol.specs.Table.{row_at}
use Rattle.fuse_replies.specs.Entries.{opened_at}
use Rattle.fuse_replies.specs.Replies.{AnswerContent, IsReply, ReplyMessage, answer_at}
use Rattle.fuse_replies.specs.Replies as answer
use Rattle.protocol_law.specs.Law.{Carries}
use Rattle.protocol_law.specs.ReplyLaw.{table_opcode}
use Rattle.fuse_sessions.specs.declared.act.Act.{Act}
use Rattle.fuse_sessions.specs.declared.act.Act.TheVariants as act
use Rattle.fuse_sessions.specs.declared.act.Asked.{Asked}
use Rattle.fuse_sessions.specs.declared.act.OpenFile.{OpenFile}
use Rattle.fuse_sessions.specs.declared.act.OpenKind.TheVariants as kind
use Rattle.fuse_sessions.specs.declared.act.Taken.TheVariants as taken
use Rattle.fuse_sessions.specs.declared.fault.Fault.TheVariants as fault
use Rattle.fuse_sessions.specs.declared.known.Known.{Known}
use Rattle.fuse_sessions.specs.Fits.{fit_in, fit_of_another}
use Rattle.fuse_sessions.specs.Frames.{AreRequestActs, IsReplyOf, IsWritten, init_acts, listed_acts, number_in, replied, said_acts}
use Rattle.fuse_sessions.specs.OpenFiles.{opened, opens_this, releases_this}
use Rattle.fuse_sessions.specs.ReplyActs.{answer_acts, failed_acts, opening}
use Rattle.fuse_sessions.specs.RequestActs.{asked_of, asking, forgets_in, naming, releasing, request_acts, resend_bit, resent, using, writing}
use Rattle.fuse_sessions.specs.Sessions.{Session, left}
use Rattle.fuse_sessions.specs.UnreadRequests.{asking_unread, has_header, malformed, may_be_known, opcode_in, takes_no_reply, unjudged, unique_in}
use Rattle.fuse_sessions.specs.Waiting.{same_kind, waits}
use Rattle.driven_sessions.proofs.Calm.{bare_such, each_of, either, failed_bare, init_bare, is_plain, replied_such, written_such}
use Rattle.driven_sessions.proofs.Files.Opened.{as_file, is_file, left_most, opens_in, releases_in}

-- ---- acts that open nothing

abbrev pub is_unopening : Act → Bool
is_unopening (act.Opens file) = false
is_unopening a = true

abbrev pub AreUnopening : List Act → Type 0
AreUnopening acts = list_all is_unopening acts ≡ true

unopening_plain : (a : Act) → is_plain a ≡ true → is_unopening a ≡ true
unopening_plain (act.Opens file) is = is
unopening_plain a is = refl

pub unopening_none : (file : OpenFile) (acts : List Act) → AreUnopening acts → opens_in file acts ≡ 0
unopening_none file [] are = refl
unopening_none file (a ∷ acts) are =
    let both = and_parts (is_unopening a) (list_all is_unopening acts) are in
    let sum = sum_by-cons (opens_this file) a acts in
    let first = none a both.0 in
    let rest = unopening_none file acts both.1 in
    omega (arith, sum, first, rest)
  where
    none : (a : Act) → is_unopening a ≡ true → opens_this file a ≡ 0
    none (act.Opens other) is = absurd (false≢true is)
    none a is = refl

-- acts that open no directory
abbrev no_directory_opened : Act → Bool
no_directory_opened (act.Opens file) = not (same_kind file.kind kind.Directory)
no_directory_opened a = true

undirected_plain : (a : Act) → is_plain a ≡ true → no_directory_opened a ≡ true
undirected_plain (act.Opens file) is = absurd (false≢true is)
undirected_plain a is = refl

undirected_none : (p : Opened) (acts : List Act) → list_all no_directory_opened acts ≡ true → opens_in (as_file kind.Directory p) acts ≡ 0
undirected_none p [] are = refl
undirected_none p (a ∷ acts) are =
    let both = and_parts (no_directory_opened a) (list_all no_directory_opened acts) are in
    let sum = sum_by-cons (opens_this (as_file kind.Directory p)) a acts in
    let first = none a both.0 in
    let rest = undirected_none p acts both.1 in
    omega (arith, sum, first, rest)
  where
    by : (file : OpenFile) (b : Bool) → same_kind file.kind kind.Directory ≡ b → not b ≡ true
        → cond {A = ℕ} (b && (nat_eq file.nodeid p.nodeid && nat_eq file.fh p.fh)) 1 0 ≡ 0
    by file true is none = absurd (false≢true none)
    by file false is none = refl

    none : (a : Act) → no_directory_opened a ≡ true → opens_this (as_file kind.Directory p) a ≡ 0
    none (act.Opens file) is =
        ap (λ (b : Bool). cond {A = ℕ} (b && (nat_eq file.nodeid p.nodeid && nat_eq file.fh p.fh)) 1 0) refl
        ∙ by file (same_kind file.kind kind.Directory) refl is
    none a is = refl

-- ---- what a release leaves

module _ (gives takes : Act → ℕ) where
  left_down : (s acts : List Act) → sum_by gives acts ≡ 0 → left gives takes (s ++ acts) ≤ left gives takes s - sum_by takes acts
  left_down [] acts none = let most = left_most gives takes acts in omega (arith, most, none)
  left_down (a ∷ s) acts none =
      let more = sum_by-append gives (a ∷ s) acts in
      let fewer = sum_by-append takes (a ∷ s) acts in
      let rest = left_down s acts none in
      omega (arith, more, fewer, rest, none)

-- Acts that open none of a file leave it open as often as they do not release it.
pub opened_down : (file : OpenFile) (s acts : List Act) → opens_in file acts ≡ 0 → opened (s ++ acts) file ≤ opened s file - releases_in file acts
opened_down file s acts none = left_down (opens_this file) (releases_this file) s acts none

-- ---- requests

module _ (o : Opcode) (m : RequestMessage) where
  naming_unopening : (node : ℕ) → AreUnopening (naming node)
  naming_unopening node = either is_unopening (nat_eq node 0) [] (act.Names node ∷ []) refl refl

  using_unopening : (file : Option OpenFile) → AreUnopening (using file)
  using_unopening None = refl
  using_unopening (Some file) = refl

  releasing_unopening : (p : Opcode) (node : ℕ) (h : OpenHandle) → AreUnopening (releasing p node h)
  releasing_unopening op.Release node (handle.File fh) = refl
  releasing_unopening op.Releasedir node (handle.Directory fh) = refl
  releasing_unopening op.Release node h = refl
  releasing_unopening op.Releasedir node h = refl
  releasing_unopening p node h = refl

  writing_unopening : (p : Opcode) → AreUnopening (writing p m)
  writing_unopening op.Write = refl
  writing_unopening p = refl

  asking_unopening : (a : Asked) → AreUnopening (asking o m a)
  asking_unopening a =
      let one : List Act = naming a.nodeid in
      let two : List Act = one ++ naming a.other in
      let three : List Act = two ++ using a.uses in
      let four : List Act = three ++ using a.copies_to in
      let five : List Act = four ++ releasing o m.nodeid m.handle in
      let six : List Act = five ++ writing o m in
      each_of is_unopening six (act.Asks m.unique a ∷ []) (each_of is_unopening five (writing o m)
      (each_of is_unopening four (releasing o m.nodeid m.handle) (each_of is_unopening three (using a.copies_to)
      (each_of is_unopening two (using a.uses) (each_of is_unopening one (naming a.other) (naming_unopening a.nodeid)
      (naming_unopening a.other)) (using_unopening a.uses)) (using_unopening a.copies_to))
      (releasing_unopening o m.nodeid m.handle)) (writing_unopening o)) refl

  doing_unopening : (again : Bool) → AreUnopening (if again then resent o m else asking o m (asked_of o m))
  doing_unopening true = refl
  doing_unopening false = asking_unopening (asked_of o m)

forgets_unopening : (pairs : List (ℕ × ℕ)) → AreUnopening (forgets_in pairs)
forgets_unopening [] = refl
forgets_unopening (p ∷ pairs) = forgets_unopening pairs

row_unopening : (again : Bool) (o : Opcode) (m : RequestMessage) → AreUnopening (request_acts again o m)
row_unopening again op.Interrupt m = refl
row_unopening again op.NotifyReply m = refl
row_unopening again op.Forget m = refl
row_unopening again op.BatchForget m = forgets_unopening (pairs_of_row (row_at op.BatchForget).tail m.tail)
row_unopening again o m = doing_unopening o m (again && nat_le resend_bit m.unique)

pub request_unopening : (k : Known) (frame : List ℕ) (acts : List Act) → AreRequestActs k frame acts → AreUnopening acts
request_unopening k frame acts (inl ((o, m), is, does)) = ap (list_all is_unopening) does ∙ row_unopening k.has_resent o m
request_unopening k frame acts (inr (none, does)) = ap (list_all is_unopening) does
    ∙ each_of is_unopening (malformed k.offered frame) (asking_unread frame)
    (either is_unopening (may_be_known k.offered frame) [] (act.Faulty fault.MalformedRequest ∷ []) refl refl)
    (either is_unopening (has_header frame && not (takes_no_reply (opcode_in frame)))
    (act.Read None (unique_in frame) ∷ act.Asks (unique_in frame) unjudged ∷ []) [] refl refl)

-- ---- replies

-- None of the kernel's requests is OPENDIR.
pub table_apart : (c : CodecOpcode) → table_opcode c ≡ op.Opendir → ⊥
table_apart codec_op.Lookup e = cc e
table_apart c e = cc e

opens_files : (o : Opcode) → (o ≡ op.Opendir → ⊥) → (node fh : ℕ) → list_all no_directory_opened (opening o node fh) ≡ true
opens_files op.Open apart node fh = refl
opens_files op.Opendir apart node fh = absurd (apart refl)
opens_files op.Create apart node fh = refl
opens_files op.Tmpfile apart node fh = refl
opens_files o apart node fh = refl

-- A frame opens no directory, unless it replies to OPENDIR.
pub others_open_none : (k : Known) (s : Session) (bytes : List ℕ) (acts : List Act) (later : Known)
    → IsWritten k s bytes taken.Accepted acts later → ((a : Asked) → waits s (number_in bytes) ≡ Some a
    → a.opcode ≡ Some op.Opendir → ⊥) → (p : Opened) → opens_in (as_file kind.Directory p) acts ≡ 0
others_open_none k s bytes acts later does apart p = undirected_none p acts (written_such no_directory_opened undirected_plain k bytes
    taken.Accepted s acts later (λ a o at is. opens_files o (λ same. apart a at (is ∙ ap Some same))) does)

module _ (k : Known) (carries : Carries k.agreed) (bytes : List ℕ) (a : Asked) (acts : List Act) (later : Known)
    (does : IsReplyOf k bytes taken.Accepted op.Opendir a acts later) (unique : ℕ) where
  abbrev first : List Act
  first = replied bytes taken.Accepted (fit_in (row_at op.Opendir).reply a.asked bytes)

  first_unopening : (content : AnswerContent) → AreUnopening (first ++ init_acts k.offered content)
  first_unopening content = each_of is_unopening first (init_acts k.offered content)
      (replied_such is_unopening unopening_plain k bytes taken.Accepted taken.Accepted (fit_in (row_at op.Opendir).reply a.asked bytes))
      (bare_such is_unopening unopening_plain (init_acts k.offered content) (init_bare k.offered content))

  -- What a reply says, where it is one.
  says_so : (m : ReplyMessage) (content : AnswerContent) → m.answer ≡ content
      → acts ≡ first ++ said_acts k op.Opendir a taken.Accepted m.answer
      → acts ≡ (first ++ init_acts k.offered content) ++ answer_acts op.Opendir a content
  says_so m content is same = same ∙ ap (λ (c : AnswerContent). first ++ said_acts k op.Opendir a taken.Accepted c) is
      ∙ sym (append_assoc first (init_acts k.offered content) (answer_acts op.Opendir a content))

  -- Where it is none, it opens nothing.
  none_so : acts ≡ act.Faulty fault.BodyOfAnotherRequest ∷ (replied bytes taken.Accepted (fit_of_another (fit_in (row_at op.Opendir).reply
      a.asked bytes)) ++ listed_acts op.Opendir a taken.Accepted bytes) → AreUnopening acts
  none_so same =
      let body = fit_of_another (fit_in (row_at op.Opendir).reply a.asked bytes) in
      ap (list_all is_unopening) same ∙ each_of is_unopening (replied bytes taken.Accepted body) []
      (replied_such is_unopening unopening_plain k bytes taken.Accepted taken.Accepted body) refl

  -- An error opens nothing.
  failed_so : (m : ReplyMessage) (errno : ℕ) → m.answer ≡ answer.failed errno
      → acts ≡ first ++ said_acts k op.Opendir a taken.Accepted m.answer → AreUnopening acts
  failed_so m errno is same = ap (list_all is_unopening) (says_so m (answer.failed errno) is same)
      ∙ each_of is_unopening (first ++ init_acts k.offered (answer.failed errno)) (failed_acts op.Opendir a.nodeid errno)
      (first_unopening (answer.failed errno))
      (bare_such is_unopening unopening_plain (failed_acts op.Opendir a.nodeid errno) (failed_bare op.Opendir a.nodeid errno))

  -- It opens one, with the handle in it, or none.
  abbrev pub OpensOne : Type 0
  OpensOne = (number_at 4 4 bytes ≡ 0) × (m : ReplyMessage) × IsReply k.agreed (row_at op.Opendir).reply a.asked bytes m
      × ((p : Opened) → opens_in (as_file kind.Directory p) acts ≡ is_file p (record { nodeid = a.nodeid; fh = number_at 16 8 bytes }))

  pub opens_what : AreUnopening acts ⊎ OpensOne
  opens_what = by does
    where
      opens_one : (m : ReplyMessage) → m.answer ≡ answer.opened (opened_at 16 bytes)
          → acts ≡ first ++ said_acts k op.Opendir a taken.Accepted m.answer → (p : Opened)
          → opens_in (as_file kind.Directory p) acts ≡ is_file p (record { nodeid = a.nodeid; fh = number_at 16 8 bytes })
      opens_one m at same p =
          let content : AnswerContent = answer.opened (opened_at 16 bytes) in
          let all = says_so m content at same in
          let parts = sum_by-append (opens_this (as_file kind.Directory p)) (first ++ init_acts k.offered content)
          (answer_acts op.Opendir a content) in
          let none = unopening_none (as_file kind.Directory p) (first ++ init_acts k.offered content) (first_unopening content) in
          let last = sum_by-cons (opens_this (as_file kind.Directory p))
          (act.Opens (record { kind = kind.Directory; nodeid = a.nodeid; fh = number_at 16 8 bytes })) [] in
          let whole = ap (opens_in (as_file kind.Directory p)) all in
          omega (arith, parts, none, last, whole)

      chosen : (b : Bool) → (number_at 4 4 bytes == 0) ≡ b → answer_at (row_at op.Opendir).reply a.asked bytes
          ≡ (if b then answer.opened (opened_at 16 bytes) else answer.failed (2 ^ 32 - number_at 4 4 bytes))
      chosen b is = ap (λ (x : Bool). if x then answer.opened (opened_at 16 bytes) else answer.failed (2 ^ 32 - number_at 4 4 bytes)) is

      of : (m : ReplyMessage) → IsReply k.agreed (row_at op.Opendir).reply a.asked bytes m
          → acts ≡ first ++ said_acts k op.Opendir a taken.Accepted m.answer → (b : Bool) → (number_at 4 4 bytes == 0) ≡ b
          → AreUnopening acts ⊎ OpensOne
      of m is same true zero = inr (grind (arith, nat_tests, zero), m, is, opens_one m (sym is.answer ∙ chosen true zero) same)
      of m is same false some = inl (failed_so m (2 ^ 32 - number_at 4 4 bytes) (sym is.answer ∙ chosen false some) same)

      by : IsReplyOf k bytes taken.Accepted op.Opendir a acts later → AreUnopening acts ⊎ OpensOne
      by (inl (m, is, (same, told))) = of m is same (number_at 4 4 bytes == 0) refl
      by (inr (none, (same, told))) = inl (none_so same)

  -- A reply without an error has a body of 16 bytes.
  long : number_at 4 4 bytes ≡ 0 → (m : ReplyMessage) → IsReply k.agreed (row_at op.Opendir).reply a.asked bytes m → length bytes ≡ 32
  long zero m is =
      let size : length bytes - 16 ≡ 16 = subst (λ (n : ℕ). MatchBool (n == 0) (length bytes - 16 ≡ 16) (length bytes ≡ 16)) zero is.body in
      let least = is.frame.0 in
      omega (arith, size, least)

  -- OPENDIR's handle opens it, and an error none.
  pub handle_opens_one : (fh : ℕ) → GivesHandle bytes unique fh → (p : Opened)
      → opens_in (as_file kind.Directory p) acts ≤ is_file p (record { nodeid = a.nodeid; fh = fh })
  handle_opens_one fh gives p = by opens_what
    where
      by : AreUnopening acts ⊎ OpensOne → opens_in (as_file kind.Directory p) acts ≤ is_file p (record { nodeid = a.nodeid; fh = fh })
      by (inl none) = let zero = unopening_none (as_file kind.Directory p) acts none in omega (arith, zero)
      by (inr (zero, m, is, one)) =
          let same = one p in
          let handle = ap (λ (n : ℕ). is_file p (record { nodeid = a.nodeid; fh = n })) gives.5.1.1.1.0 in
          omega (arith, same, handle)

  pub error_opens_nothing : (error : ℤ) → GivesError bytes unique error → (p : Opened) → opens_in (as_file kind.Directory p) acts ≡ 0
  error_opens_nothing error gives p = by opens_what
    where
      by : AreUnopening acts ⊎ OpensOne → opens_in (as_file kind.Directory p) acts ≡ 0
      by (inl none) = unopening_none (as_file kind.Directory p) acts none
      by (inr (zero, m, is, one)) =
          let size = long zero m is in
          let short : length bytes ≡ 16 = gives.5.1.1.1 in
          absurd (omega (arith, size, short))

  -- What the codec does not read opens none.
  pub garbled_opens_nothing : GivesNothing bytes → (p : Opened) → opens_in (as_file kind.Directory p) acts ≡ 0
  garbled_opens_nothing nothing p = by opens_what
    where
      by : AreUnopening acts ⊎ OpensOne → opens_in (as_file kind.Directory p) acts ≡ 0
      by (inl none) = unopening_none (as_file kind.Directory p) acts none
      by (inr (zero, m, is, one)) =
          let size = long zero m is in
          absurd (nothing (record { unique = number_at 8 8 bytes; error = pos 0; content = open_reply (number_at 16 8 bytes) }) (
            omega (arith, size),
            (omega (arith, ints), omega (arith, ints)),
            (kind_of_content (open_reply 0), refl, refl),
            tt,
            tt,
            (is.frame.2, (zero ∙ omega (arith, ints), (refl, (refl, size)))),
          ))
