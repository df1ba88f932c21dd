-- What the requests of a session ask, each under its number.
use Rattle.std.proofs.Common.{◌≡◌, inl, inr, ℕ, ◌^◌, ◌&&◌, Bool, true, false, cond, not, List, [], ◌∷◌, ◌++◌, Option, Some, None, filter, nat_eq, nat_le, if◌then◌else◌, refl, sym, ◌∙◌, ap, subst, arith}
use Rattle.std.specs.List.{list_all, list_any}
use Rattle.std.specs.Map.{lookup}
use Rattle.std.proofs.lemmas.Bool.{and_from, and_parts, false≢true}
use Rattle.std.proofs.lemmas.Bool.Decides.{nat_tests}
use Rattle.fk_wire.specs.declared.opcode.Opcode.{Opcode as CodecOpcode}
use Rattle.fk_wire.specs.declared.opcode.Opcode.TheVariants as codec_op
use Rattle.fk_wire.specs.Opcodes.{code_of as codec_code}
use Rattle.fuse_spec.specs.Kernel.Messages.{Request}
use Rattle.fuse_frames.specs.RequestTies.{SaysRequest, asked_opcode}
use Rattle.fk_drive.proofs.SentFrames.{said_opcode}
use Rattle.fuse_protocol.specs.declared.opcode.Opcode.{Opcode}
use Rattle.fuse_protocol.specs.declared.opcode.Opcode.TheVariants as op
use Rattle.fuse_protocol.specs.declared.request.OpenHandle.{OpenHandle}
use Rattle.fuse_protocol.specs.declared.request.OpenHandle.TheVariants as handle
use Rattle.fuse_protocol.specs.Pairs.{pairs_of_row}
use Rattle.fuse_protocol.specs.Requests.{RequestMessage}
use Rattle.fuse_protocol.specs.Table.{code_of, row_at}
use Rattle.fuse_protocol.proofs.Codes.{same_opcode}
use Rattle.protocol_law.specs.Law.{Carries}
use Rattle.protocol_law.specs.ReplyLaw.{table_opcode}
use Rattle.fuse_sessions.specs.declared.act.Act.{Act}
use Rattle.fuse_sessions.specs.declared.act.Act.TheVariants as act
use Rattle.fuse_sessions.specs.declared.act.Asked.{Asked}
use Rattle.fuse_sessions.specs.declared.act.OpenFile.{OpenFile}
use Rattle.fuse_sessions.specs.declared.known.Known.{Known}
use Rattle.fuse_sessions.specs.Frames.{AreRequestActs}
use Rattle.fuse_sessions.specs.RequestActs.{asked_of, asking, doing, forgets_in, naming, releasing, resent, using, writing}
use Rattle.fuse_sessions.specs.Sessions.{Session}
use Rattle.fuse_sessions.specs.UnreadRequests.{opcode_in, unique_in}
use Rattle.fuse_sessions.specs.Waiting.{asked_by, ends, waiting, waits}
use Rattle.driven_sessions.specs.Transfers.{IsShaped}
use Rattle.driven_sessions.proofs.Calm.{AreShown, either, is_shown}
use Rattle.driven_sessions.proofs.Doing.{behind_passes, writing_passes}

-- Each request is such, with its number.
abbrev pub AllAsk : (ℕ → Asked → Type 0) → List Act → Type 0
AllAsk IsSuch [] = Unit {0}
AllAsk IsSuch (act.Asks unique asked ∷ acts) = IsSuch unique asked × AllAsk IsSuch acts
AllAsk IsSuch (a ∷ acts) = AllAsk IsSuch acts

module _ (IsSuch : ℕ → Asked → Type 0) where
  tail_ask : (a : Act) (acts : List Act) → AllAsk IsSuch (a ∷ acts) → AllAsk IsSuch acts
  tail_ask (act.Asks unique asked) acts all = all.1
  tail_ask a acts all = all

  pub append_ask : (xs ys : List Act) → AllAsk IsSuch xs → AllAsk IsSuch ys → AllAsk IsSuch (xs ++ ys)
  append_ask [] ys first last = last
  append_ask (act.Asks unique asked ∷ xs) ys first last = (first.0, append_ask xs ys first.1 last)
  append_ask (a ∷ xs) ys first last = append_ask xs ys first last

  pub shown_ask : (acts : List Act) → AreShown acts → AllAsk IsSuch acts
  shown_ask [] are = tt
  shown_ask (act.Asks unique asked ∷ acts) are = absurd (false≢true are)
  shown_ask (a ∷ acts) are = shown_ask acts (and_parts (is_shown a) (list_all is_shown acts) are).1

  -- ---- what waits

  abbrev pub EachAsked : List (ℕ × Asked) → Type 0
  EachAsked [] = Unit {0}
  EachAsked (e ∷ es) = IsSuch e.0 e.1 × EachAsked es

  pub each_kept : (test : ℕ × Asked → Bool) (es : List (ℕ × Asked)) → EachAsked es → EachAsked (filter test es)
  each_kept test [] all = tt
  each_kept test (e ∷ es) all = by (test e) (each_kept test es all.1)
    where
      by : (b : Bool) → EachAsked (filter test es) → EachAsked (cond b (e ∷ filter test es) (filter test es))
      by true rest = (all.0, rest)
      by false rest = rest

  pub each_append : (xs ys : List (ℕ × Asked)) → EachAsked xs → EachAsked ys → EachAsked (xs ++ ys)
  each_append [] ys first last = last
  each_append (e ∷ xs) ys first last = (first.0, each_append xs ys first.1 last)

  asked_each : (a : Act) (later : List Act) → AllAsk IsSuch (a ∷ later) → EachAsked (asked_by a)
  asked_each (act.Asks unique asked) later all = (all.0, tt)
  asked_each a later all = tt

  pub waiting_each : (s : Session) → AllAsk IsSuch s → EachAsked (waiting s)
  waiting_each [] all = tt
  waiting_each (a ∷ later) all = each_append (filter (λ e. not (list_any (ends e.0) later)) (asked_by a)) (waiting later)
      (each_kept _ (asked_by a) (asked_each a later all)) (waiting_each later (tail_ask a later all))

  pub found_each : (unique : ℕ) (es : List (ℕ × Asked)) (asked : Asked) → EachAsked es → lookup (nat_eq unique) es ≡ Some asked
      → IsSuch unique asked
  found_each unique [] asked all there = absurd (cc there)
  found_each unique (e ∷ es) asked all there =
      by (nat_eq unique e.0) refl (found_each unique es asked all.1) there
    where
      or_that : Option Asked → Asked
      or_that None = e.1
      or_that (Some x) = x

      by : (b : Bool) → nat_eq unique e.0 ≡ b → (lookup (nat_eq unique) es ≡ Some asked → IsSuch unique asked)
          → cond b (Some e.1) (lookup (nat_eq unique) es) ≡ Some asked → IsSuch unique asked
      by true is rest there =
          let same : e.0 ≡ unique = grind (arith, nat_tests, is) in
          let that : e.1 ≡ asked = ap or_that there in
          subst (λ (x : Asked). IsSuch unique x) that (subst (λ (n : ℕ). IsSuch n e.1) same all.0)
      by false is rest there = rest there

  -- What waits under a number is such.
  pub waits_ask : (s : Session) → AllAsk IsSuch s → (unique : ℕ) (asked : Asked) → waits s unique ≡ Some asked
      → IsSuch unique asked
  waits_ask s all unique asked there = found_each unique (waiting s) asked (waiting_each s all) there

pub map_ask : (P Q : ℕ → Asked → Type 0) → ((unique : ℕ) (asked : Asked) → P unique asked → Q unique asked) → (acts : List Act)
    → AllAsk P acts → AllAsk Q acts
map_ask P Q to [] all = tt
map_ask P Q to (act.Asks unique asked ∷ acts) all = (to unique asked all.0, map_ask P Q to acts all.1)
map_ask P Q to (a ∷ acts) all = map_ask P Q to acts all

-- Both hold of what is asked, where each does.
pub zip_ask : (P Q : ℕ → Asked → Type 0) (acts : List Act) → AllAsk P acts → AllAsk Q acts → AllAsk (λ u a. P u a × Q u a) acts
zip_ask P Q [] first second = tt
zip_ask P Q (act.Asks unique asked ∷ acts) first second = ((first.0, second.0), zip_ask P Q acts first.1 second.1)
zip_ask P Q (a ∷ acts) first second = zip_ask P Q acts first second

-- ---- the acts of a row

module _ (P : ℕ → Asked → Type 0) where
  naming_ask : (node : ℕ) → AllAsk P (naming node)
  naming_ask node = by (nat_eq node 0)
    where
      by : (b : Bool) → AllAsk P (if b then [] else act.Names node ∷ [])
      by true = tt
      by false = tt

  using_ask : (file : Option OpenFile) → AllAsk P (using file)
  using_ask None = tt
  using_ask (Some file) = tt

  releasing_ask : (o : Opcode) (node : ℕ) (h : OpenHandle) → AllAsk P (releasing o node h)
  releasing_ask op.Release node (handle.File fh) = tt
  releasing_ask op.Releasedir node (handle.Directory fh) = tt
  releasing_ask op.Release node h = tt
  releasing_ask op.Releasedir node h = tt
  releasing_ask o node h = tt

  writing_ask : (o : Opcode) (m : RequestMessage) → AllAsk P (writing o m)
  writing_ask op.Write m = tt
  writing_ask o m = tt

  asking_ask : (o : Opcode) (m : RequestMessage) (a : Asked) → P m.unique a → AllAsk P (asking o m a)
  asking_ask o m a such =
      let one : List Act = naming a.nodeid in
      let two : List Act = one ++ naming a.other in
      let three : List Act = two ++ using a.uses in
      let four : List Act = three ++ using a.copies_to in
      let five : List Act = four ++ releasing o m.nodeid m.handle in
      let six : List Act = five ++ writing o m in
      append_ask P six (act.Asks m.unique a ∷ []) (append_ask P five (writing o m) (append_ask P four (releasing o m.nodeid m.handle)
      (append_ask P three (using a.copies_to) (append_ask P two (using a.uses) (append_ask P one (naming a.other) (naming_ask a.nodeid)
      (naming_ask a.other)) (using_ask a.uses)) (using_ask a.copies_to)) (releasing_ask o m.nodeid m.handle)) (writing_ask o m))
      (such, tt)

  -- What a row's acts ask is such, where its request is.
  pub doing_ask : (again : Bool) (o : Opcode) (m : RequestMessage) → P m.unique (asked_of o m)
      → AllAsk P (if again then resent o m else asking o m (asked_of o m))
  doing_ask true o m such = (such, tt)
  doing_ask false o m such = asking_ask o m (asked_of o m) such

  pub pairs_ask : (pairs : List (ℕ × ℕ)) → AllAsk P (forgets_in pairs)
  pairs_ask [] = tt
  pairs_ask (p ∷ pairs) = pairs_ask pairs

-- ---- the acts of a frame

abbrev has_code : ℕ → Option Opcode → Bool
has_code code None = false
has_code code (Some o) = nat_eq (code_of o) code

-- It asks this opcode under this number, if it asks.
abbrev asks_as : (unique code : ℕ) → Act → Bool
asks_as unique code (act.Asks n asked) = nat_eq n unique && has_code code asked.opcode
asks_as unique code a = true

-- So is a request.
abbrev pub AsksCode : (unique code : ℕ) → ℕ → Asked → Type 0
AsksCode unique code n asked = (n ≡ unique) × (o : Opcode) × (asked.opcode ≡ Some o) × (code_of o ≡ code)

module _ (unique code : ℕ) where
  coded : (o : Option Opcode) → has_code code o ≡ true → (p : Opcode) × (o ≡ Some p) × (code_of p ≡ code)
  coded None is = absurd (false≢true is)
  coded (Some o) is = (o, refl, grind (arith, nat_tests, is))

  pub all_coded : (acts : List Act) → list_all (asks_as unique code) acts ≡ true → AllAsk (AsksCode unique code) acts
  all_coded [] are = tt
  all_coded (act.Asks n asked ∷ acts) are =
      let both = and_parts (nat_eq n unique && has_code code asked.opcode) (list_all (asks_as unique code) acts) are in
      let first = and_parts (nat_eq n unique) (has_code code asked.opcode) both.0 in
      let number : n ≡ unique = same n first.0 in
      let that = coded asked.opcode first.1 in
      ((number, that.0, that.1, that.2), all_coded acts both.1)
    where
      same : (n : ℕ) → nat_eq n unique ≡ true → n ≡ unique
      same n is = grind (arith, nat_tests, is)
  all_coded (a ∷ acts) are = all_coded acts are

  -- ---- a request of a row

  passes : (a : Act) → is_shown a ≡ true → asks_as unique code a ≡ true
  passes (act.Asks n asked) is = absurd (false≢true is)
  passes a is = refl

  forgets_pass : (pairs : List (ℕ × ℕ)) → list_all (asks_as unique code) (forgets_in pairs) ≡ true
  forgets_pass [] = refl
  forgets_pass (p ∷ pairs) = forgets_pass pairs

  doing_pass : (again : Bool) (o : Opcode) (m : RequestMessage) → m.unique ≡ unique → code_of o ≡ code
      → list_all (asks_as unique code) (doing again o m) ≡ true
  doing_pass again o m number coded = by again o same
    where
      numbered : nat_eq m.unique unique ≡ true
      numbered = grind (arith, nat_tests, number)

      same : nat_eq (code_of o) code ≡ true
      same = grind (arith, nat_tests, coded)

      last : (o : Opcode) → nat_eq (code_of o) code ≡ true → asks_as unique code (act.Asks m.unique (asked_of o m)) ≡ true
      last o same = and_from (nat_eq m.unique unique) (nat_eq (code_of o) code) numbered same

      by : (again : Bool) (o : Opcode) → nat_eq (code_of o) code ≡ true
          → list_all (asks_as unique code) (doing again o m) ≡ true
      by again op.Interrupt same = refl
      by again op.NotifyReply same = refl
      by again op.Forget same = refl
      by again op.BatchForget same = forgets_pass (pairs_of_row (row_at op.BatchForget).tail m.tail)
      by again o same = either (asks_as unique code) again (resent o m) (asking o m (asked_of o m))
          (and_from (asks_as unique code (act.Asks m.unique (asked_of o m))) true (last o same) refl)
          (behind_passes (asks_as unique code) passes o m (asked_of o m) (writing_passes (asks_as unique code) m refl o) (last o same))

-- What is asked by a frame that is a request of some row.
pub sent_asks : (k : Known) (frame : List ℕ) (acts : List Act) → IsShaped frame → Carries k.agreed → AreRequestActs k frame acts
    → AllAsk (AsksCode (unique_in frame) (opcode_in frame)) acts
sent_asks k frame acts shaped carries (inl ((o, m), is, does)) = all_coded (unique_in frame) (opcode_in frame) acts
    (ap (list_all (asks_as (unique_in frame) (opcode_in frame))) does
    ∙ doing_pass (unique_in frame) (opcode_in frame) (k.has_resent && nat_le (2 ^ 63) m.unique) o m (sym is.unique) (sym is.opcode))
sent_asks k frame acts shaped carries (inr (none, does)) =
    let one = shaped k.agreed carries in absurd (none (one.0, one.1) one.2)

-- ---- a request of the kernel's

same_tables : (c : CodecOpcode) → codec_code c ≡ code_of (table_opcode c)
same_tables codec_op.Lookup = refl
same_tables c = refl

-- What is asked by the frame of a request.
abbrev pub AsksOpcode : Request → ℕ → Asked → Type 0
AsksOpcode r n asked = (n ≡ r.unique) × (asked.opcode ≡ Some (table_opcode (asked_opcode r.body)))

pub request_asks : (k : Known) (frame : List ℕ) (acts : List Act) (r : Request) → SaysRequest frame r → IsShaped frame
    → Carries k.agreed → AreRequestActs k frame acts → AllAsk (AsksOpcode r) acts
request_asks k frame acts r says shaped carries does =
    map_ask (AsksCode (unique_in frame) (opcode_in frame)) (AsksOpcode r) (λ n asked is. (
      is.0 ∙ says.spells.3.1.1.0 ∙ says.unique,
      is.2 ∙ ap Some (same_opcode is.1 (table_opcode (asked_opcode r.body)) (is.3 ∙ code)),
    )) acts (sent_asks k frame acts shaped carries does)
  where
    code : opcode_in frame ≡ code_of (table_opcode (asked_opcode r.body))
    code = says.spells.3.1.0 ∙ said_opcode says.message.nodeid says.message.content r.body says.says
        ∙ same_tables (asked_opcode r.body)
