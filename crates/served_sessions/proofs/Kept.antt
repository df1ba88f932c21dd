-- What holds between the transfers of a session whose server never asks for requests once more.
use Rattle.std.proofs.Common.{◌≡◌, ◌⊎◌, inl, inr, ℕ, ◌+◌, ◌%◌, ◌^◌, ◌≤◌, ◌==◌, Bool, true, false, not, ◌&&◌, ◌||◌, List, [], ◌∷◌, ◌++◌, Option, Some, None, refl, sym, ◌∙◌, ap, subst, nat_eq, nat_lt, bit_and, arith, if◌then◌else◌}
use Rattle.std.specs.List.{list_any, list_all}
use Rattle.std.proofs.lemmas.Bool.{and_from, and_parts, or_left, or_right, or_from, false≢true, false_from_ne_true}
use Rattle.std.proofs.lemmas.List.Folds.{list_any-append}
use Rattle.fuse_protocol.specs.declared.agreed.Agreed.{Agreed}
use Rattle.fuse_protocol.specs.declared.init.InitRequest.{InitRequest}
use Rattle.fuse_protocol.specs.declared.init.InitReply.{InitReply}
use Rattle.fuse_protocol.specs.declared.opcode.Opcode.{Opcode}
use Rattle.fuse_protocol.specs.declared.opcode.Opcode.TheVariants as op
use Rattle.fuse_protocol.specs.Agreement.{IsAgreement, before_init, create_supp_group, flags_of_both, has_any, max_pages, security_ctx}
use Rattle.fuse_protocol.specs.Init.{init_request_at}
use Rattle.fuse_protocol.specs.Inits.{IsInit}
use Rattle.fuse_protocol.specs.Requests.{IsRequest}
use Rattle.fuse_protocol.specs.Table.{row_at}
use Rattle.fuse_protocol.proofs.Codes.{same_opcode}
use Rattle.fuse_replies.specs.Replies.{AnswerContent, IsErrorWord}
use Rattle.fuse_replies.specs.Replies as answer
use Rattle.fuse_sessions.specs.declared.act.Act.{Act}
use Rattle.fuse_sessions.specs.declared.act.Act.TheVariants as act
use Rattle.fuse_sessions.specs.declared.act.Asked.{Asked}
use Rattle.fuse_sessions.specs.declared.act.Taken.{Taken}
use Rattle.fuse_sessions.specs.declared.act.Taken.TheVariants as taken
use Rattle.fuse_sessions.specs.declared.fault.Fault.{Fault}
use Rattle.fuse_sessions.specs.declared.fault.Fault.TheVariants as fault
use Rattle.fuse_sessions.specs.declared.known.Known.{Known}
use Rattle.fuse_sessions.specs.Sessions.{Session}
use Rattle.fuse_sessions.specs.Waiting.{waits}
use Rattle.fuse_sessions.specs.Numbers.{asks_under, reads, was_read, is_reading, was_anything_read, has_several_readers, has_several_writers, has_several_threads, is_of_several, is_of_writers}
use Rattle.fuse_sessions.specs.Frames.{number_in, error_in, is_resend, is_to_interrupt, known_resent, AreRequestActs, IsRequestOf, IsOffered, IsNotified, IsAgreed, IsTold, IsReplyBy, IsReplyTo, IsWritten}
use Rattle.fuse_sessions.specs.RequestActs.{request_acts}
use Rattle.served_sessions.proofs.Free.{AreFree}
use Rattle.served_sessions.specs.Exchanges.{IsPlainInit}
use Rattle.served_sessions.proofs.Acts.{each_of, is_plain}
use Rattle.served_sessions.proofs.Flags.{none_high}
use Rattle.served_sessions.proofs.Asking.{Ask, asks, asks_all_right, asks_only, asks_right, is_wanted, plain_right, number_free, one_number, plain_asks, reads_it, reads_some}
use Rattle.served_sessions.proofs.Requested.{asks_or_plain}
use Rattle.served_sessions.proofs.Written.{Keeps, by_bool, is_unasking, written_unasking}

-- What was asked for was read, under an even number where the kernel keeps to that. INIT alone offers, and agrees on frames
-- without extensions, and on names of 255 bytes.
pub record Kept (even_numbers : Bool) (k : Known) (s : Session) : Type 0 where
  pub not_resent : k.has_resent ≡ false
  pub alone : has_several_threads s ≡ false
  pub read : (u : ℕ) → list_any (asks_under u) s ≡ true → was_read s u ≡ true
  pub even : even_numbers ≡ true → (u : ℕ) → list_any (asks_under u) s ≡ true → u % 2 ≡ 0
  pub before : k.offered ≡ None → k.agreed ≡ before_init
  pub offered : (r : InitRequest) → k.offered ≡ Some r → was_anything_read s ≡ true
  pub extensions : k.agreed.has_extensions ≡ false
  pub names : 255 ≤ k.agreed.max_name
  pub right : list_all asks_right s ≡ true

-- ---- acts that show no other thread

unasking_any : (test : Act → Bool) → ((a : Act) → is_unasking a ≡ true → test a ≡ false) → (acts : List Act)
    → list_all is_unasking acts ≡ true → list_any test acts ≡ false
unasking_any test none [] is = refl
unasking_any test none (a ∷ acts) is =
    let both = and_parts (is_unasking a) (list_all is_unasking acts) is in
    or_from (test a) (list_any test acts) (none a both.0) (unasking_any test none acts both.1)

plain_any : (test : Act → Bool) → ((a : Act) → is_plain a ≡ true → test a ≡ false) → (acts : List Act)
    → list_all is_plain acts ≡ true → list_any test acts ≡ false
plain_any test none [] is = refl
plain_any test none (a ∷ acts) is =
    let both = and_parts (is_plain a) (list_all is_plain acts) is in
    or_from (test a) (list_any test acts) (none a both.0) (plain_any test none acts both.1)

any_after : (test : Act → Bool) (s acts : List Act) → list_any test acts ≡ false → list_any test (s ++ acts) ≡ list_any test s
any_after test s acts none = list_any-append test s acts ∙ ap (λ b. list_any test s || b) none ∙ or_false (list_any test s)
  where
    or_false : (b : Bool) → (b || false) ≡ b
    or_false true = refl
    or_false false = refl

pub any_before : (test : Act → Bool) (s acts : List Act) → list_any test s ≡ true → list_any test (s ++ acts) ≡ true
any_before test s acts is = list_any-append test s acts ∙ or_left (list_any test s) (list_any test acts) is

pub threads_alike : (s acts : List Act) → list_any is_of_several acts ≡ false → list_any is_of_writers acts ≡ false
    → has_several_threads (s ++ acts) ≡ has_several_threads s
threads_alike s acts readers writers =
    ap (λ b. b || has_several_writers (s ++ acts)) (any_after is_of_several s acts readers)
    ∙ ap (λ b. has_several_readers s || b) (any_after is_of_writers s acts writers)

plain_readers : (a : Act) → is_plain a ≡ true → is_of_several a ≡ false
plain_readers act.SeveralReaders is = cc
plain_readers a is = refl

plain_writers : (a : Act) → is_plain a ≡ true → is_of_writers a ≡ false
plain_writers act.SeveralWriters is = cc
plain_writers a is = refl

unasking_readers : (a : Act) → is_unasking a ≡ true → is_of_several a ≡ false
unasking_readers act.SeveralReaders is = cc
unasking_readers a is = refl

unasking_writers : (a : Act) → is_unasking a ≡ true → is_of_writers a ≡ false
unasking_writers act.SeveralWriters is = cc
unasking_writers a is = refl

unasking_asks : (u : ℕ) (a : Act) → is_unasking a ≡ true → asks_under u a ≡ false
unasking_asks u (act.Asks n asked) is = cc
unasking_asks u a is = refl

unasking_right : (acts : List Act) → list_all is_unasking acts ≡ true → list_all asks_right acts ≡ true
unasking_right [] is = refl
unasking_right (a ∷ acts) is =
    let both = and_parts (is_unasking a) (list_all is_unasking acts) is in
    and_from (asks_right a) (list_all asks_right acts) (by a both.0) (unasking_right acts both.1)
  where
    by : (a : Act) → is_unasking a ≡ true → asks_right a ≡ true
    by (act.Asks n asked) is = cc
    by a is = refl

-- ---- by a request

ask_quiet : (test : Act → Bool) → ((a : Act) → is_plain a ≡ true → test a ≡ false)
    → ((u : ℕ) (a : Asked) → test (act.Asks u a) ≡ false) → (acts : List Act) (u : ℕ) (a : Asked) → Ask acts u a
    → list_any test acts ≡ false
ask_quiet test plain asks_none acts u a ask =
    let reading : List Act = act.Read ask.opcode u ∷ ask.middle in
    let last : List Act = act.Asks u a ∷ [] in
    ap (list_any test) ask.parts ∙ list_any-append test (ask.before ++ reading) last
    ∙ or_from (list_any test (ask.before ++ reading)) (list_any test last)
    (list_any-append test ask.before reading ∙ or_from (list_any test ask.before) (list_any test reading)
    (plain_any test plain ask.before ask.before_plain)
    (or_from (test (act.Read ask.opcode u)) (list_any test ask.middle) (plain (act.Read ask.opcode u) refl)
    (plain_any test plain ask.middle ask.middle_plain)))
    (or_from (test (act.Asks u a)) false (asks_none u a) refl)

parity : (u : ℕ) → (u % 2 ≡ 1 → ⊥) → u % 2 ≡ 0
parity u not_one = omega (arith, not_one)

module _ (asked : Fault → Bool) (k : Known) (s : Session) (bytes : List ℕ) (acts : List Act) (later : Known)
    (kept : Kept (asked fault.OddNumber) k s) (does : AreRequestActs k bytes acts) (offers : IsOffered k bytes later)
    (free : AreFree asked s acts) where
  quiet : (test : Act → Bool) → ((a : Act) → is_plain a ≡ true → test a ≡ false)
      → ((u : ℕ) (a : Asked) → test (act.Asks u a) ≡ false) → list_any test acts ≡ false
  quiet test plain none = by (asks_or_plain k bytes acts kept.not_resent does)
    where
      by : ((u : ℕ) × (a : Asked) × Ask acts u a × (is_wanted a.opcode ≡ true)) ⊎ (list_all is_plain acts ≡ true) → list_any test acts ≡ false
      by (inl (u, a, ask, right)) = ask_quiet test plain none acts u a ask
      by (inr are) = plain_any test plain acts are

  -- what is asked now was read now, under an even number
  asked_now : (u : ℕ) → list_any (asks_under u) acts ≡ true
      → (list_any (reads u) acts ≡ true) × (asked fault.OddNumber ≡ true → u % 2 ≡ 0)
  asked_now u is = by (asks_or_plain k bytes acts kept.not_resent does)
    where
      by : ((n : ℕ) × (a : Asked) × Ask acts n a × (is_wanted a.opcode ≡ true)) ⊎ (list_all is_plain acts ≡ true)
          → (list_any (reads u) acts ≡ true) × (asked fault.OddNumber ≡ true → u % 2 ≡ 0)
      by (inl (n, a, ask, right)) =
          let same : nat_eq n u ≡ true = asks_only acts n a ask u is in (
            reads_it acts n a ask u same,
            λ of_even. subst (λ (m : ℕ). m % 2 ≡ 0) (one_number n u same)
                (parity n (λ odd. number_free acts n a ask asked s free fault.OddNumber odd of_even)),
          )
      by (inr are) = absurd (false≢true (sym (plain_asks u acts are) ∙ is))

  asked_before : (u : ℕ) → list_any (asks_under u) (s ++ acts) ≡ true
      → (list_any (asks_under u) s ≡ true) ⊎ (list_any (asks_under u) acts ≡ true)
  asked_before u is = by (list_any (asks_under u) s) (list_any (asks_under u) acts)
      (sym (list_any-append (asks_under u) s acts) ∙ is)
    where
      by : (b c : Bool) → (b || c) ≡ true → (b ≡ true) ⊎ (c ≡ true)
      by true c e = inl refl
      by false c e = inr e

  -- an INIT that offers is read
  init_read : k.offered ≡ None → IsInit bytes → was_anything_read (s ++ acts) ≡ true
  init_read none (m, is) = by does
    where
      is_now : IsRequestOf k.agreed bytes (op.Init, m)
      is_now = subst (λ (g : Agreed). IsRequest g bytes (row_at op.Init) m) (sym (kept.before none)) is

      by : AreRequestActs k bytes acts → was_anything_read (s ++ acts) ≡ true
      by (inr (nope, as_none)) = absurd (nope (op.Init, m) is_now)
      by (inl ((o, n), as_row, as_acts)) =
          let same : o ≡ op.Init = same_opcode o op.Init (sym as_row.opcode ∙ is.opcode) in
          let now : acts ≡ request_acts false op.Init n =
          as_acts ∙ ap (λ (b : Bool). request_acts b o n) kept.not_resent
          ∙ ap (λ (p : Opcode). request_acts false p n) same in
          list_any-append is_reading s acts ∙ or_right (list_any is_reading s) (list_any is_reading acts)
          (ap (list_any is_reading) now ∙ reads_some (request_acts false op.Init n) n.unique _ (asks op.Init n refl))

  pub kept_request : Kept (asked fault.OddNumber) later (s ++ acts)
  kept_request = by offers
    where
      read_later : (u : ℕ) → list_any (asks_under u) (s ++ acts) ≡ true → was_read (s ++ acts) u ≡ true
      read_later u is = by_part (asked_before u is)
        where
          by_part : (list_any (asks_under u) s ≡ true) ⊎ (list_any (asks_under u) acts ≡ true)
              → was_read (s ++ acts) u ≡ true
          by_part (inl old) = any_before (reads u) s acts (kept.read u old)
          by_part (inr new) = list_any-append (reads u) s acts
              ∙ or_right (list_any (reads u) s) (list_any (reads u) acts) (asked_now u new).0

      even_later : asked fault.OddNumber ≡ true → (u : ℕ) → list_any (asks_under u) (s ++ acts) ≡ true → u % 2 ≡ 0
      even_later of_even u is = by_part (asked_before u is)
        where
          by_part : (list_any (asks_under u) s ≡ true) ⊎ (list_any (asks_under u) acts ≡ true) → u % 2 ≡ 0
          by_part (inl old) = kept.even of_even u old
          by_part (inr new) = (asked_now u new).1 of_even

      alone_later : has_several_threads (s ++ acts) ≡ false
      alone_later = threads_alike s acts (quiet is_of_several plain_readers (λ u a. refl))
          (quiet is_of_writers plain_writers (λ u a. refl)) ∙ kept.alone

      right_later : list_all asks_right (s ++ acts) ≡ true
      right_later = each_of asks_right s acts kept.right (right_now (asks_or_plain k bytes acts kept.not_resent does))
        where
          right_now : ((u : ℕ) × (a : Asked) × Ask acts u a × (is_wanted a.opcode ≡ true)) ⊎ (list_all is_plain acts ≡ true)
              → list_all asks_right acts ≡ true
          right_now (inl (u, a, ask, right)) = asks_all_right acts u a ask right
          right_now (inr are) = plain_right acts are

      no_offer : (r : InitRequest) → ◌≡◌ {A = Option InitRequest} (Some r) None → ⊥
      no_offer r e = cc

      by : IsOffered k bytes later → Kept (asked fault.OddNumber) later (s ++ acts)
      by (inl (first, same)) = subst (λ (x : Known). Kept (asked fault.OddNumber) x (s ++ acts)) (sym same) (record {
        not_resent = kept.not_resent;
        alone = alone_later;
        read = read_later;
        even = even_later;
        before = λ none. absurd (no_offer (init_request_at bytes) none);
        offered = λ r is. init_read first.0 first.1;
        extensions = kept.extensions;
        names = kept.names;
        right = right_later;
      })
      by (inr (other, same)) = subst (λ (x : Known). Kept (asked fault.OddNumber) x (s ++ acts)) (sym same) (record {
        not_resent = kept.not_resent;
        alone = alone_later;
        read = read_later;
        even = even_later;
        before = kept.before;
        offered = λ r is. any_before is_reading s acts (kept.offered r is);
        extensions = kept.extensions;
        names = kept.names;
        right = right_later;
      })

-- ---- by what is written

-- what a server's frame leaves as it was
pub record Leaves (k later : Known) : Type 0 where
  pub not_resent : later.has_resent ≡ k.has_resent
  pub offered : later.offered ≡ k.offered
  pub agreed : k.offered ≡ None → later.agreed ≡ k.agreed
  pub extensions : k.agreed.has_extensions ≡ false → later.agreed.has_extensions ≡ false
  pub names : 255 ≤ k.agreed.max_name → 255 ≤ later.agreed.max_name

leaves_all : (k later : Known) → later ≡ k → Leaves k later
leaves_all k later same = record {
  not_resent = ap (λ (x : Known). x.has_resent) same;
  offered = ap (λ (x : Known). x.offered) same;
  agreed = λ none. ap (λ (x : Known). x.agreed) same;
  extensions = λ none. ap (λ (x : Known). x.agreed.has_extensions) same ∙ none;
  names = λ long. subst (λ (x : Known). 255 ≤ x.agreed.max_name) (sym same) long;
}

no_code : (word : ℕ) → IsErrorWord word → (word == 7) ≡ false
no_code word (inl zero) = rw zero refl
no_code word (inr large) = false_from_ne_true (word == 7) (λ e. not_seven (one_number word 7 e) large)
  where
    not_seven : word ≡ 7 → 2 ^ 32 ≤ word + 511 → ⊥
    not_seven e l = omega (arith, e, l)

-- what is agreed on with such a reply
no_extensions_agreed : (r : InitRequest) (i : InitReply) (agreed : Agreed) → IsAgreement r i agreed → IsPlainInit i
    → agreed.has_extensions ≡ false
no_extensions_agreed r i agreed agrees plain =
    let none : bit_and (flags_of_both r i) (security_ctx + create_supp_group) ≡ 0 = none_high r.flags i.flags plain in
    agrees.extensions ∙ rw none refl

long_names_agreed : (r : InitRequest) (i : InitReply) (agreed : Agreed) → IsAgreement r i agreed → 255 ≤ agreed.max_name
long_names_agreed r i agreed agrees = subst (λ (n : ℕ). 255 ≤ n) (sym agrees.names)
    (long (has_any (flags_of_both r i) max_pages && nat_lt 1 i.max_pages))
  where
    long : (b : Bool) → 255 ≤ (if b then 4095 else 1024)
    long true = omega arith
    long false = omega arith

some_offer : (r : InitRequest) (o : Option InitRequest) → o ≡ Some r → o ≡ None → ⊥
some_offer r o is none = let no : ◌≡◌ {A = Option InitRequest} (Some r) None = sym is ∙ none in cc

agreed_leaves : (k : Known) (o : Option InitRequest) (i : InitReply) (later : Known) → IsPlainInit i → k.offered ≡ o
    → IsAgreed k o i later → Leaves k later
agreed_leaves k None i later plain is same = leaves_all k later same
agreed_leaves k (Some r) i later plain is (inl (agreed, agrees, same)) = record {
  not_resent = ap (λ (x : Known). x.has_resent) same;
  offered = ap (λ (x : Known). x.offered) same;
  agreed = λ none. absurd (some_offer r k.offered is none);
  extensions = λ none. ap (λ (x : Known). x.agreed.has_extensions) same ∙ no_extensions_agreed r i agreed agrees plain;
  names = λ long. subst (λ (x : Known). 255 ≤ x.agreed.max_name) (sym same) (long_names_agreed r i agreed agrees);
}
agreed_leaves k (Some r) i later plain is (inr (why, unjudged, same)) = record {
  not_resent = ap (λ (x : Known). x.has_resent) same;
  offered = ap (λ (x : Known). x.offered) same;
  agreed = λ none. ap (λ (x : Known). x.agreed) same;
  extensions = λ none. ap (λ (x : Known). x.agreed.has_extensions) same ∙ none;
  names = λ long. subst (λ (x : Known). 255 ≤ x.agreed.max_name) (sym same) long;
}

told_leaves : (k : Known) (t : Taken) (content : AnswerContent) (later : Known)
    → ((i : InitReply) → content ≡ answer.init i → IsPlainInit i) → IsTold k t content later → Leaves k later
told_leaves k taken.Accepted (answer.init i) later plain is = agreed_leaves k k.offered i later (plain i refl) refl is
told_leaves k taken.Accepted content later plain is = leaves_all k later is
told_leaves k taken.NoEntry content later plain is = leaves_all k later is
told_leaves k taken.Invalid content later plain is = leaves_all k later is
told_leaves k taken.Failed content later plain is = leaves_all k later is

module _ (group : Fault → Bool) (k : Known) (s : Session) (bytes : List ℕ) (t : Taken) (error : IsErrorWord (error_in bytes))
    (keeps : Keeps group k s bytes t) where
  no_resend : is_resend bytes t ≡ false
  no_resend = by t
    where
      by : (t : Taken) → is_resend bytes t ≡ false
      by taken.Accepted = no_code (error_in bytes) error
      by taken.NoEntry = refl
      by taken.Invalid = refl
      by taken.Failed = refl

  by_leaves : (o : Option Opcode) (a : Asked) (acts : List Act) (later : Known) → waits s (number_in bytes) ≡ Some a
      → a.opcode ≡ o → IsReplyBy k bytes t o a acts later → Leaves k later
  by_leaves None a acts later waiting' by is = leaves_all k later is.1
  by_leaves (Some o) a acts later waiting' by (inl (m, is, does)) =
      told_leaves k t m.answer later (keeps.tells a o m waiting' by is) does.1
  by_leaves (Some o) a acts later waiting' by (inr (none, does)) = leaves_all k later does.1

  to_leaves : (o : Option Asked) (acts : List Act) (later : Known) → waits s (number_in bytes) ≡ o
      → IsReplyTo k bytes t o acts later → Leaves k later
  to_leaves None acts later waiting' is = leaves_all k later is.1
  to_leaves (Some a) acts later waiting' is = by_leaves a.opcode a acts later waiting' refl is

  written_leaves : (acts : List Act) (later : Known) → IsWritten k s bytes t acts later → Leaves k later
  written_leaves acts later (inl (head, is)) = by_bool (number_in bytes == 0) (Leaves k later) _ _ (λ zero. notified)
      (λ some. by_bool (is_to_interrupt (number_in bytes) (waits s (number_in bytes))) (Leaves k later) _ _
      (λ interrupt does. leaves_all k later does.1) (λ other. to_leaves (waits s (number_in bytes)) acts later refl)) is
    where
      notified : IsNotified k bytes t acts later → Leaves k later
      notified (inl (m, is, does)) = leaves_all k later (does.1 ∙ ap (known_resent k) no_resend)
      notified (inr (not, does)) = leaves_all k later does.1
  written_leaves acts later (inr (bad, faulty, same)) = leaves_all k later same

module _ (even_numbers : Bool) where
  pub kept_unasking : (k later : Known) (s : Session) (acts : List Act) → Kept even_numbers k s
      → list_all is_unasking acts ≡ true → Leaves k later → Kept even_numbers later (s ++ acts)
  kept_unasking k later s acts kept are leaves =
      let asks_alike : (u : ℕ) → list_any (asks_under u) (s ++ acts) ≡ list_any (asks_under u) s =
      λ u. any_after (asks_under u) s acts (unasking_any (asks_under u) (unasking_asks u) acts are) in
      record {
        not_resent = leaves.not_resent ∙ kept.not_resent;
        alone = threads_alike s acts (unasking_any is_of_several unasking_readers acts are)
            (unasking_any is_of_writers unasking_writers acts are) ∙ kept.alone;
        read = λ u is. any_before (reads u) s acts (kept.read u (sym (asks_alike u) ∙ is));
        even = λ of_even u is. kept.even of_even u (sym (asks_alike u) ∙ is);
        before = λ none. leaves.agreed (sym leaves.offered ∙ none) ∙ kept.before (sym leaves.offered ∙ none);
        offered = λ r is. any_before is_reading s acts (kept.offered r (sym leaves.offered ∙ is));
        extensions = leaves.extensions kept.extensions;
        names = leaves.names kept.names;
        right = each_of asks_right s acts kept.right (unasking_right acts are);
      }

  pub kept_written : (group : Fault → Bool) (k later : Known) (s : Session) (bytes : List ℕ) (t : Taken) (acts : List Act)
      → Kept even_numbers k s → IsErrorWord (error_in bytes) → Keeps group k s bytes t
      → IsWritten k s bytes t acts later → Kept even_numbers later (s ++ acts)
  kept_written group k later s bytes t acts kept error keeps is = kept_unasking k later s acts kept
      (written_unasking k bytes t s acts later is) (written_leaves group k s bytes t error keeps acts later is)

  pub kept_end : (k : Known) (s : Session) → Kept even_numbers k s → Kept even_numbers k (s ++ act.Ends ∷ [])
  kept_end k s kept = kept_unasking k k s (act.Ends ∷ []) kept refl (leaves_all k k refl)
