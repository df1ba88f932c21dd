-- A server gives each node that is counted under one generation and for one file, and describes it so.
use Rattle.std.proofs.Common.{length, ◌≡◌, ◌≤◌, ◌⊎◌, inl, inr, ℕ, ◌+◌, ◌-◌, ◌==◌, Bool, true, false, List, [], ◌∷◌, ◌++◌, Option, Some, None, refl, sym, ◌∙◌, ap, subst, subst₂, append_assoc, append-nil, bit_and, if◌then◌else◌, arith}
use Rattle.std.specs.Prelude.{MatchOption, sum_by}
use Rattle.std.specs.List.{list_all}
use Rattle.std.specs.Borrow.{Bor}
use Rattle.std.proofs.lemmas.Bool.{and_from, and_parts, eqb-true, false≢true, false_from_ne_true}
use Rattle.fuse_spec.specs.declared.WriteResult.{WriteResult}
use Rattle.fuse_spec.specs.declared.WriteResult.TheVariants as result
use Rattle.fuse_spec.specs.Server.Server.{Server}
use Rattle.fuse_spec.specs.Claim.Denotes.{Denotes}
use Rattle.fuse_theorem.proofs.Lookups.RowCounts.{count_of}
use Rattle.fuse_device.specs.Transfers.{Transfer}
use Rattle.fs_serve.specs.LongBatches.{IsLongBatch}
use Rattle.fuse_protocol.specs.declared.agreed.Unjudged.{Unjudged}
use Rattle.fuse_protocol.specs.declared.init.InitRequest.{InitRequest}
use Rattle.fk_fields.specs.Fields.{number_at}
use Rattle.fuse_protocol.specs.declared.opcode.Opcode.{Opcode}
use Rattle.fuse_protocol.specs.declared.opcode.Opcode.TheVariants as op
use Rattle.fuse_protocol.specs.Requests.{RequestMessage, asked_at}
use Rattle.fuse_protocol.specs.Table.{row_at}
use Rattle.fuse_replies.specs.Replies.{AnswerContent, IsReply, ReplyMessage, content_at, errno_in}
use Rattle.fuse_replies.specs.Replies as answer
use Rattle.fuse_sessions.specs.declared.act.Act.{Act}
use Rattle.fuse_sessions.specs.declared.act.Act.TheVariants as act
use Rattle.fuse_sessions.specs.declared.act.Asked.{Asked}
use Rattle.fuse_sessions.specs.declared.act.Fit.{Fit}
use Rattle.fuse_sessions.specs.declared.act.Fit.TheVariants as fit
use Rattle.fuse_sessions.specs.declared.act.Taken.{Taken}
use Rattle.fuse_sessions.specs.declared.act.Taken.TheVariants as taken
use Rattle.fuse_sessions.specs.declared.fault.Fault.{Fault}
use Rattle.fuse_sessions.specs.declared.fault.Fault.TheVariants as fault
use Rattle.fuse_sessions.specs.declared.known.Known.{Known}
use Rattle.fuse_sessions.specs.declared.transfer.Transfer.{Transfer as Said}
use Rattle.fuse_sessions.specs.declared.transfer.Transfer.TheVariants as said
use Rattle.fuse_sessions.specs.Sessions.{Session}
use Rattle.fuse_sessions.specs.Counts.{forgets_of, least_count}
use Rattle.fuse_sessions.specs.Fits.{fit_in}
use Rattle.fuse_sessions.specs.Frames.{AreActs, AreReadActs, AreRequestActs, IsNotified, IsOffered, IsReplyBy, IsReplyTo, IsWritten, Lead, eintr, eintr_acts, error_in, init_acts, interrupt_acts, is_resend, is_to_interrupt, number_in, of_offered, of_version, replied, said_acts}
use Rattle.fuse_sessions.specs.ReplyActs.{answer_acts, kind_of}
use Rattle.fuse_sessions.specs.RequestActs.{node_asked}
use Rattle.fuse_sessions.specs.UnreadRequests.{opcode_in, takes_no_reply}
use Rattle.fuse_sessions.specs.Waiting.{waits}
use Rattle.served_sessions.specs.Exchanges.{AllReceived, AreSaid, IsAnswer, taken_of}
use Rattle.served_sessions.specs.Groups.{is_nothing, is_of_bodies}
use Rattle.served_sessions.proofs.Acts.{each_of, either, is_plain}
use Rattle.served_sessions.proofs.Answering.{row_asked}
use Rattle.served_sessions.proofs.Asking.{Ask, is_wanted}
use Rattle.served_sessions.proofs.Bodied.{bodies_keep}
use Rattle.served_sessions.proofs.Forgotten.{forgets_read}
use Rattle.served_sessions.proofs.Free.{AreFree, free_append}
use Rattle.served_sessions.proofs.Fine.{IsFine}
use Rattle.served_sessions.proofs.Gained.{AllHeld, Gains, GainsIn, IsDescribed, entries_of, times_given}
use Rattle.served_sessions.proofs.NodeFiles.{IsFileAs, may_still}
use Rattle.served_sessions.proofs.Gifts.{answer_tracks, weaker, weaker_calm}
use Rattle.served_sessions.proofs.Kept.{Kept, kept_end, kept_request, kept_written}
use Rattle.served_sessions.proofs.Requested.{asks_or_plain}
use Rattle.served_sessions.proofs.Sessions.{EndsFree, asked_later, asked_next, by_judged}
use Rattle.served_sessions.proofs.Traced.{Moved, Trace, cut, ready, silent, stop}
use Rattle.served_sessions.proofs.Traced as traced
use Rattle.served_sessions.proofs.Tracked.{Calm, Tracks, calm_acts, forgets_less, is_calm, is_of_nodes, known_same, then_calm}
use Rattle.served_sessions.proofs.BatchTurns.{GivesPairsBack}
use Rattle.served_sessions.proofs.Batches.{batch_read}
use Rattle.served_sessions.proofs.Turns.{GivesBack}
use Rattle.served_sessions.proofs.Written.{Keeps, by_bool}

pub nothing_free : (s : Session) (acts : List Act) → AreFree is_nothing s acts
nothing_free s [] = tt
nothing_free s (a ∷ acts) = (λ f b is. false≢true is, nothing_free (s ++ a ∷ []) acts)

-- ---- what a request does gives nothing

plain_calm : (acts : List Act) → list_all is_plain acts ≡ true → list_all is_calm acts ≡ true
plain_calm [] are = refl
plain_calm (a ∷ acts) are =
    let both = and_parts (is_plain a) (list_all is_plain acts) are in
    and_from (is_calm a) (list_all is_calm acts) (by a both.0) (plain_calm acts both.1)
  where
    by : (a : Act) → is_plain a ≡ true → is_calm a ≡ true
    by (act.Faulty fault.MalformedRequest) is = refl
    by (act.Faulty f) is = cc
    by (act.Gives node file certain) is = is
    by (act.Describes node kind ino) is = is
    by a is = refl

request_calm : (k : Known) (bytes : List ℕ) (acts : List Act) → k.has_resent ≡ false → AreRequestActs k bytes acts
    → list_all is_calm acts ≡ true
request_calm k bytes acts not_resent does = by (asks_or_plain k bytes acts not_resent does)
  where
    by : ((u : ℕ) × (a : Asked) × Ask acts u a × (is_wanted a.opcode ≡ true)) ⊎ (list_all is_plain acts ≡ true)
        → list_all is_calm acts ≡ true
    by (inl (u, a, ask, right)) =
        let reading : List Act = act.Read ask.opcode u ∷ ask.middle in
        ap (list_all is_calm) ask.parts ∙ each_of is_calm (ask.before ++ reading) (act.Asks u a ∷ [])
        (each_of is_calm ask.before reading (plain_calm ask.before ask.before_plain) (plain_calm ask.middle ask.middle_plain))
        refl
    by (inr are) = plain_calm acts are

-- what the server counts, less what a frame gives back
abbrev left_of : Server → (ℕ → ℕ) → ℕ → ℕ
left_of s back n = count_of s.nodes n - back n

abbrev counted : Server → ℕ → ℕ
counted s n = count_of s.nodes n

module _ (old mid : Server) (k : Known) (s : Session) (bytes : List ℕ) (acts : List Act) (kept : Kept false k s)
    (tracks : Tracks old (λ n. count_of old.nodes n) s) (moved : Moved old mid bytes)
    (does : AreRequestActs k bytes acts) (short : IsLongBatch bytes → length bytes ≤ 16777216) where
  are_calm : list_all is_calm acts ≡ true
  are_calm = request_calm k bytes acts kept.not_resent does

  back_few : (n : ℕ) → moved.back n ≤ sum_by (forgets_of n) acts
  back_few n = by moved.backs
    where
      by : GivesBack bytes moved.back ⊎ GivesPairsBack bytes moved.back → moved.back n ≤ sum_by (forgets_of n) acts
      by (inl (inl none)) = let no = none n in omega (arith, no)
      by (inl (inr (request, says, is))) =
          let same = is n in
          let few = forgets_read k bytes acts kept.extensions does request says n in
          omega (arith, same, few)
      by (inr (batch, less)) =
          let same = batch_read k bytes acts kept.extensions does batch (short batch) n in
          let few = less n in
          omega (arith, same, few)

  few_left : (n : ℕ) → 2 ≤ n → least_count (s ++ acts) n ≤ count_of old.nodes n - moved.back n
  few_left n low =
      let less = forgets_less n s acts are_calm in
      let few = back_few n in
      let was = tracks.counts n low in
      omega (arith, less, few, was)

  -- So what the session counts behind it the server holds on.
  request_tracks : Calm mid (λ n. count_of old.nodes n - moved.back n) s acts
  request_tracks = record {
    free = (calm_acts old moved.old_fine (λ n. count_of old.nodes n) s acts are_calm tracks).free;
    tracks = record {
      counts = few_left;
      held = λ n f low some is.
          let few = few_left n low in
          let less = forgets_less n s acts are_calm in
          let fell = moved.turns.counts n in
          let before = tracks.held n f low (omega (arith, less, some)) (sym (known_same n s acts are_calm) ∙ is) in
          moved.turns.held n f.generation low before (omega (arith, few, fell, some));
      none = λ n low.
          let less = forgets_less n s acts are_calm in
          let was = tracks.none n low in
          omega (arith, less, was);
      files = λ n f low is. may_still old mid moved.old_fine moved.new_fine moved.on n f low
          (tracks.files n f low (sym (known_same n s acts are_calm) ∙ is));
    };
  }

  left_few : (n : ℕ) → 2 ≤ n → count_of old.nodes n - moved.back n ≤ count_of mid.nodes n
  left_few n low = let fell = moved.turns.counts n in omega (arith, fell)

-- ---- what is written gives what the server counts

replied_calm : (bytes : List ℕ) (t : Taken) (body : Fit) → list_all is_calm (replied bytes t body) ≡ true
replied_calm bytes taken.Accepted body = each_of is_calm (eintr_acts bytes taken.Accepted)
    (act.Takes (number_in bytes) taken.Accepted body ∷ act.Replies (number_in bytes) taken.Accepted ∷ [])
    (either is_calm (error_in bytes == eintr) (act.Interrupted (number_in bytes) ∷ []) [] refl refl) refl
replied_calm bytes taken.NoEntry body = refl
replied_calm bytes taken.Invalid body = refl
replied_calm bytes taken.Failed body = refl

init_calm : (o : Option InitRequest) (content : AnswerContent) → list_all is_calm (init_acts o content) ≡ true
init_calm (Some r) (answer.init i) = each_of is_calm (of_version i) (of_offered r i)
    (either is_calm (i.major == 7) [] (act.Faulty fault.InitOfAnotherVersion ∷ []) refl refl)
    (either is_calm (bit_and i.flags r.flags == i.flags) [] (act.Faulty fault.FlagsThatWereNotOffered ∷ []) refl refl)
init_calm (Some r) content = refl
init_calm None content = refl

-- what an accepted reply gives
pub record GivesSo (mid : Server) (most : ℕ → ℕ) (o : Opcode) (node : ℕ) (content : AnswerContent) : Type 0 where
  pub held : AllHeld mid (entries_of content)
  pub described : IsDescribed mid o node content
  pub counts : (n : ℕ) → 2 ≤ n → most n + times_given n (entries_of content) ≤ count_of mid.nodes n

module _ (mid : Server) (fine : IsFine mid) (most : ℕ → ℕ) (few : (n : ℕ) → 2 ≤ n → most n ≤ count_of mid.nodes n) (k : Known)
    (bytes : List ℕ) (t : Taken) where
  calm_so : (s : Session) (acts : List Act) → list_all is_calm acts ≡ true → Tracks mid most s
      → Calm mid (λ n. count_of mid.nodes n) s acts
  calm_so s acts are tracks = weaker_calm mid most (λ n. count_of mid.nodes n) s acts few
      (calm_acts mid fine most s acts are tracks)

  said_so : (s : Session) → Tracks mid most s → (o : Opcode) (a : Asked) (content : AnswerContent) (t : Taken)
      → (t ≡ taken.Accepted → GivesSo mid most o a.nodeid content)
      → Calm mid (λ n. count_of mid.nodes n) s (said_acts k o a t content)
  said_so s tracks o a content taken.Accepted gives =
      let first = calm_acts mid fine most s (init_acts k.offered content) (init_calm k.offered content) tracks in
      let so = gives refl in
      let second = answer_tracks mid fine most (s ++ init_acts k.offered content) first.tracks o a content so.held so.described in
      then_calm mid most (λ n. count_of mid.nodes n) s (init_acts k.offered content) (answer_acts o a content) first.free
      (weaker_calm mid (λ n. most n + times_given n (entries_of content)) (λ n. count_of mid.nodes n)
      (s ++ init_acts k.offered content) (answer_acts o a content) so.counts second)
  said_so s tracks o a content taken.NoEntry gives = calm_so s [] refl tracks
  said_so s tracks o a content taken.Invalid gives = calm_so s [] refl tracks
  said_so s tracks o a content taken.Failed gives = calm_so s [] refl tracks

  module _ (s : Session) (tracks : Tracks mid most s) (keeps : Keeps is_of_bodies k s bytes t)
      (gives : t ≡ taken.Accepted → (a : Asked) (o : Opcode) (m : ReplyMessage) → waits s (number_in bytes) ≡ Some a
      → a.opcode ≡ Some o → IsReply k.agreed (row_at o).reply a.asked bytes m → GivesSo mid most o a.nodeid m.answer) where
    by_so : (o : Option Opcode) (a : Asked) (acts : List Act) (later : Known) → waits s (number_in bytes) ≡ Some a
        → a.opcode ≡ o → IsReplyBy k bytes t o a acts later → Calm mid (λ n. count_of mid.nodes n) s acts
    by_so None a acts later waiting by is = subst (Calm mid (λ n. count_of mid.nodes n) s) (sym is.0)
        (calm_so s (replied bytes t fit.MayFit) (replied_calm bytes t fit.MayFit) tracks)
    by_so (Some o) a acts later waiting by (inl (m, is, says)) =
        let body : Fit = fit_in (row_at o).reply a.asked bytes in
        let first = calm_acts mid fine most s (replied bytes t body) (replied_calm bytes t body) tracks in
        subst (Calm mid (λ n. count_of mid.nodes n) s) (sym says.0)
        (then_calm mid most (λ n. count_of mid.nodes n) s (replied bytes t body) (said_acts k o a t m.answer) first.free
        (said_so (s ++ replied bytes t body) first.tracks o a m.answer t (λ accepted. gives accepted a o m waiting by is)))
    by_so (Some o) a acts later waiting by (inr (none, is)) =
        let one = keeps.fits a o waiting by in absurd (none one.0 one.1)

    to_so : (o : Option Asked) (acts : List Act) (later : Known) → waits s (number_in bytes) ≡ o
        → IsReplyTo k bytes t o acts later → Calm mid (λ n. count_of mid.nodes n) s acts
    to_so None acts later waiting is = subst (Calm mid (λ n. count_of mid.nodes n) s) (sym is.0)
        (calm_so s (replied bytes t fit.MayFit) (replied_calm bytes t fit.MayFit) tracks)
    to_so (Some a) acts later waiting is = by_so a.opcode a acts later waiting refl is

    notified_so : (acts : List Act) (later : Known) → IsNotified k bytes t acts later
        → Calm mid (λ n. count_of mid.nodes n) s acts
    notified_so acts later (inl (m, is, does)) = subst (Calm mid (λ n. count_of mid.nodes n) s) (sym does.0)
        (calm_so s (if is_resend bytes t then act.Resends ∷ [] else [])
        (either is_calm (is_resend bytes t) (act.Resends ∷ []) [] refl refl) tracks)
    notified_so acts later (inr (not, does)) = subst (Calm mid (λ n. count_of mid.nodes n) s) (sym does.0)
        (calm_so s (act.Faulty fault.MalformedNotification ∷ []) refl tracks)

    written_so : (acts : List Act) (later : Known) → IsWritten k s bytes t acts later
        → Calm mid (λ n. count_of mid.nodes n) s acts
    written_so acts later (inl (head, is)) = by_bool (number_in bytes == 0) (Calm mid (λ n. count_of mid.nodes n) s acts) _ _
        (λ none. notified_so acts later)
        (λ some. by_bool (is_to_interrupt (number_in bytes) (waits s (number_in bytes)))
        (Calm mid (λ n. count_of mid.nodes n) s acts) _ _
        (λ interrupt does. subst (Calm mid (λ n. count_of mid.nodes n) s) (sym does.0)
        (calm_so s (interrupt_acts bytes t) refl tracks))
        (λ other. to_so (waits s (number_in bytes)) acts later refl)) is
    written_so acts later (inr (bad, faulty, same)) = absurd (bad keeps.head)

-- the node that GETATTR names is that of its frame
node_is : (o : Opcode) → o ≡ op.Getattr → (n : RequestMessage) → node_asked o n ≡ n.nodeid
node_is o getattr n = ap (λ (p : Opcode). node_asked p n) getattr

named_so : (mid : Server) (o : Opcode) (k n : ℕ) (content : AnswerContent) → IsDescribed mid o k content
    → (o ≡ op.Getattr → k ≡ n) → IsDescribed mid o n content
named_so mid o k n (answer.attributes v) so same = (
  so.0,
  subst (λ (x : ℕ). 2 ≤ x → (generation file : ℕ) → Denotes mid.nodes x generation file
      → IsFileAs mid.tree file (kind_of v.attributes) v.attributes.ino) (same so.0) so.1,
)
named_so mid o k n content so same = tt

-- ---- a frame that answers

module _ (old mid : Server) (k next : Known) (s : Session) (request reply : List ℕ) (t : Taken) (acts : List Act)
    (kept : Kept false k s) (tracks : Tracks old (λ n. count_of old.nodes n) s) (answers : IsAnswer request reply)
    (moved : Moved old mid request) (gains : t ≡ taken.Accepted → GainsIn old.nodes mid request reply)
    (does : AreRequestActs k request acts) (offers : IsOffered k request next) (short : IsLongBatch request → length request ≤ 16777216) where
  abbrev backs : ℕ → ℕ
  backs = moved.back

  keeps_now : Keeps is_of_bodies next (s ++ acts) reply t
  keeps_now = bodies_keep k next s request reply t acts kept tt answers does offers (nothing_free s acts)

  gives_now : t ≡ taken.Accepted → (a : Asked) (o : Opcode) (m : ReplyMessage)
      → waits (s ++ acts) (number_in reply) ≡ Some a → a.opcode ≡ Some o
      → IsReply next.agreed (row_at o).reply a.asked reply m
      → GivesSo mid (λ n. count_of old.nodes n - backs n) o a.nodeid m.answer
  gives_now accepted a o m waiting by_row is = by (error_in reply == 0) refl is.answer
    where
      left : (n : ℕ) → 2 ≤ n → count_of old.nodes n - backs n ≤ count_of mid.nodes n
      left = left_few old mid k s request acts kept tracks moved does short

      of_body : error_in reply ≡ 0
          → GivesSo mid (λ n. count_of old.nodes n - backs n) o a.nodeid (content_at (row_at o).reply a.asked reply)
      of_body fine =
          let takes : takes_no_reply (opcode_in request) ≡ false =
          false_from_ne_true (takes_no_reply (opcode_in request)) (λ none. answers.fails none fine) in
          let r = row_asked is_nothing k next s request reply t acts kept answers does offers (nothing_free s acts) takes a o
          waiting by_row in
          let room : asked_at (row_at o).reply request ≡ a.asked = r.1.asked ∙ ap (λ (x : Asked). x.asked) (sym r.3) in
          let g : Gains old.nodes mid (entries_of (content_at (row_at o).reply a.asked reply))
          × IsDescribed mid o (number_at 16 8 request) (content_at (row_at o).reply a.asked reply) =
          subst (λ (n : ℕ). Gains old.nodes mid (entries_of (content_at (row_at o).reply n reply))
          × IsDescribed mid o (number_at 16 8 request) (content_at (row_at o).reply n reply)) room
          (gains accepted fine o (sym r.1.opcode)) in
          record {
            held = (let one = g.0 in one.held);
            counts = λ n low. let one = g.0 in let more = one.counts n low in omega (arith, more);
            described = named_so mid o (number_at 16 8 request) a.nodeid (content_at (row_at o).reply a.asked reply) g.1
                (λ getattr. r.1.nodeid ∙ sym (node_is o getattr r.0)
                ∙ ap (λ (x : Asked). x.nodeid) (sym r.3));
          }

      by : (b : Bool) → (error_in reply == 0) ≡ b
          → (if b then content_at (row_at o).reply a.asked reply else answer.failed (errno_in reply)) ≡ m.answer
          → GivesSo mid (λ n. count_of old.nodes n - backs n) o a.nodeid m.answer
      by true none same = subst (GivesSo mid (λ n. count_of old.nodes n - backs n) o a.nodeid) same
          (of_body (eqb-true (error_in reply) 0 none))
      by false some same = subst (GivesSo mid (λ n. count_of old.nodes n - backs n) o a.nodeid) same
          (record { held = tt; described = tt; counts = λ n low. let few = left n low in omega (arith, few) })

  -- The session counts on, and shows no other generation.
  reply_so : (acts' : List Act) (later : Known) → IsWritten next (s ++ acts) reply t acts' later
      → Calm mid (λ n. count_of mid.nodes n) (s ++ acts) acts'
  reply_so acts' later is = written_so mid moved.new_fine (λ n. count_of old.nodes n - backs n)
      (left_few old mid k s request acts kept tracks moved does short) next reply t (s ++ acts)
      (request_tracks old mid k s request acts kept tracks moved does short).tracks keeps_now gives_now acts' later is

  reply_kept : (acts' : List Act) (later : Known) → IsWritten next (s ++ acts) reply t acts' later
      → Kept false later (s ++ acts ++ acts')
  reply_kept acts' later is = kept_written false is_of_bodies next later (s ++ acts) reply t acts'
      (kept_request is_nothing k s request acts next kept does offers (nothing_free s acts)) answers.error keeps_now is

-- ---- a session

-- Once a session is not judged any more it has no further acts.
unjudged_rest : (k : Known) (why : Unjudged) → k.unjudged ≡ Some why → (s : Session) (ts : List Said) (later : Known)
    (all : Session) → Lead k s ts later all → all ≡ s
unjudged_rest k why is s [] later all (known', same) = same
unjudged_rest k why is s (t ∷ ts) later all (acts, next, are, leads) =
    let quiet : (acts ≡ []) × (next ≡ k) =
    subst (λ o. MatchOption o (AreReadActs k s t acts next) (λ (w : Unjudged). (acts ≡ []) × (next ≡ k))) is are in
    unjudged_rest next why (ap (λ (x : Known). x.unjudged) quiet.1 ∙ is) (s ++ acts) ts later all leads
    ∙ ap (λ (l : List Act). s ++ l) quiet.0 ∙ append-nil s

ends_here : (s all : Session) → all ≡ s → EndsFree is_of_nodes s all
ends_here s all same = record { rest = []; all_is = same ∙ sym (append-nil s); free = tt }

behind : (s : Session) (acts : List Act) (all : Session) → AreFree is_of_nodes s acts
    → EndsFree is_of_nodes (s ++ acts) all → EndsFree is_of_nodes s all
behind s acts all free more = record {
  rest = acts ++ more.rest;
  all_is = more.all_is ∙ append_assoc s acts more.rest;
  free = free_append is_of_nodes s acts more.rest free more.free;
}

accepted_of : (r : WriteResult) → taken_of r ≡ taken.Accepted → r ≡ result.Accepted
accepted_of result.Accepted e = refl
accepted_of result.NoEntry e = cc
accepted_of result.Invalid e = cc

module _ (asked : Fault → Bool) (IsSuch : List ℕ → Type 0) (short : (k : Known) (s : Session) (bytes : List ℕ)
    (acts : List Act) → AreRequestActs k bytes acts → AreFree asked s acts → IsSuch bytes → IsLongBatch bytes
    → length bytes ≤ 16777216) (later : Known) (all : Session) where
  -- the rest is judged, or there is none
  either_judged : (k : Known) (s : Session) (t : Said) (ts : List Said) (acts : List Act) (next : Known)
      → AreActs k s t acts next → Lead next (s ++ acts) ts later all
      → (AreReadActs k s t acts next → EndsFree is_of_nodes s all) → EndsFree is_of_nodes s all
  either_judged k s t ts acts next are leads judged_so = by_judged (EndsFree is_of_nodes s all) k.unjudged
      (AreReadActs k s t acts next) (λ (why : Unjudged). (acts ≡ []) × (next ≡ k)) (λ judged does. judged_so does)
      (λ why unjudged quiet. ends_here s all (unjudged_rest k why unjudged s (t ∷ ts) later all (acts, next, are, leads))) are

  behind_request : (old mid : Server) (k next : Known) (s : Session) (b : Bor (List ℕ)) (acts : List Act)
      → (kept : Kept false k s) (tracks : Tracks old (λ n. count_of old.nodes n) s) → Moved old mid b.now
      → AreRequestActs k b.now acts → (IsLongBatch b.now → length b.now ≤ 16777216) → IsOffered k b.now next
      → (Kept false next (s ++ acts) → Tracks mid (λ n. count_of mid.nodes n) (s ++ acts)
      → EndsFree is_of_nodes (s ++ acts) all)
      → EndsFree is_of_nodes s all
  behind_request old mid k next s b acts kept tracks moved does few offers rest =
      let calm = request_tracks old mid k s b.now acts kept tracks moved does few in
      behind s acts all calm.free (rest (kept_request is_nothing k s b.now acts next kept does offers (nothing_free s acts))
      (weaker mid (λ n. count_of old.nodes n - moved.back n) (λ n. count_of mid.nodes n) (s ++ acts)
      (left_few old mid k s b.now acts kept tracks moved does few) calm.tracks))

  behind_end : (s0 : Server) → IsFine s0 → (k next : Known) (s : Session) (acts : List Act) → Kept false k s
      → Tracks s0 (λ n. count_of s0.nodes n) s → (acts ≡ act.Ends ∷ []) × (next ≡ k)
      → (Kept false next (s ++ acts) → Tracks s0 (λ n. count_of s0.nodes n) (s ++ acts)
      → EndsFree is_of_nodes (s ++ acts) all)
      → EndsFree is_of_nodes s all
  behind_end s0 fine k next s acts kept tracks does rest =
      let calm = subst (Calm s0 (λ n. count_of s0.nodes n) s) (sym does.0)
      (calm_acts s0 fine (λ n. count_of s0.nodes n) s (act.Ends ∷ []) refl tracks) in
      behind s acts all calm.free (rest (subst₂ (λ (x : Known) (l : List Act). Kept false x (s ++ l)) (sym does.1) (sym does.0)
      (kept_end false k s kept)) calm.tracks)

  behind_reply : (old mid : Server) (k next next' : Known) (s : Session) (b c : Bor (List ℕ)) (t : Taken)
      (ts : List Said) (acts acts' : List Act) → Kept false k s → Tracks old (λ n. count_of old.nodes n) s
      → IsAnswer b.now c.now → Moved old mid b.now
      → (t ≡ taken.Accepted → GainsIn old.nodes mid b.now c.now) → AreRequestActs k b.now acts
      → (IsLongBatch b.now → length b.now ≤ 16777216) → IsOffered k b.now next
      → AreActs next (s ++ acts) (said.Written c t) acts' next' → Lead next' (s ++ acts ++ acts') ts later all
      → (Kept false next' (s ++ acts ++ acts') → Tracks mid (λ n. count_of mid.nodes n) (s ++ acts ++ acts')
      → EndsFree is_of_nodes (s ++ acts ++ acts') all)
      → EndsFree is_of_nodes s all
  behind_reply old mid k next next' s b c t ts acts acts' kept tracks answers moved gains does few offers are leads rest =
      behind s acts all (request_tracks old mid k s b.now acts kept tracks moved does few).free
      (either_judged next (s ++ acts) (said.Written c t) ts acts' next' are leads (λ is.
      let calm = reply_so old mid k next s b.now c.now t acts kept tracks answers moved gains does offers few acts' next' is in
      behind (s ++ acts) acts' all calm.free (rest
      (reply_kept old mid k next s b.now c.now t acts kept tracks answers moved gains does offers few acts' next' is) calm.tracks)))

  pub trace_free : (s0 last : Server) → IsFine s0 → (log : List Transfer) → Trace s0 log last → (ts : List Said) → AreSaid log ts
      → AllReceived IsSuch log → (k : Known) (s : Session) → Kept false k s
      → Tracks s0 (λ n. count_of s0.nodes n) s → Lead k s ts later all
      → ((rest : List Act) → all ≡ s ++ rest → AreFree asked s rest) → EndsFree is_of_nodes s all
  trace_free s0 last fine log (ready s') [] is such k s kept tracks (known', same) asks = ends_here s all same
  trace_free s0 last fine log (ready s') (t ∷ ts) is such k s kept tracks leads asks = absurd is
  trace_free s0 last fine log (silent s' mid l request more moves trace) (said.Request b ∷ ts) is such k s kept tracks
      (acts, next, are, leads) asks =
      let moved : Moved s0 mid b.now = subst (Moved s0 mid) (sym is.0) moves in
      let first = asked_next asked later all s acts next ts asks leads in
      either_judged k s (said.Request b) ts acts next are leads (λ does.
      behind_request s0 mid k next s b acts kept tracks moved does.0 (short k s b.now acts does.0 first (subst IsSuch (sym is.0) such.0)) does.1
      (λ kept' tracks'. trace_free mid last moved.new_fine more trace ts is.1 such.1 next (s ++ acts) kept' tracks' leads (asked_later asked later all s acts asks)))
  trace_free s0 last fine log (traced.replied s' mid l request reply r more answers moves gains trace)
      (said.Request b ∷ said.Written c t ∷ ts) is such k s kept tracks (acts, next, are, (acts', next', are', leads)) asks =
      let moved : Moved s0 mid b.now = subst (Moved s0 mid) (sym is.0) moves in
      let first = asked_next asked later all s acts next (said.Written c t ∷ ts) asks (acts', next', are', leads) in
      let answers' : IsAnswer b.now c.now = subst₂ IsAnswer (sym is.0) (sym is.1.0.0) answers in
      let gains' : t ≡ taken.Accepted → GainsIn s0.nodes mid b.now c.now =
      λ accepted. subst₂ (GainsIn s0.nodes mid) (sym is.0) (sym is.1.0.0)
      (gains (accepted_of r (sym is.1.0.1 ∙ accepted))) in
      either_judged k s (said.Request b) (said.Written c t ∷ ts) acts next are (acts', next', are', leads) (λ does.
      behind_reply s0 mid k next next' s b c t ts acts acts' kept tracks answers' moved gains' does.0 (short k s b.now acts does.0 first (subst IsSuch (sym is.0) such.0)) does.1 are' leads
      (λ kept' tracks'. trace_free mid last moved.new_fine more trace ts is.1.1 such.1 next' (s ++ acts ++ acts') kept' tracks' leads (asked_later asked later all (s ++ acts) acts' (asked_later asked later all s acts asks))))
  trace_free s0 last fine log (cut s' mid l request reply end more moves trace) (said.Request b ∷ said.Ended ∷ ts) is such k s
      kept tracks (acts, next, are, (acts', next', are', leads)) asks =
      let moved : Moved s0 mid b.now = subst (Moved s0 mid) (sym is.0) moves in
      let first = asked_next asked later all s acts next (said.Ended ∷ ts) asks (acts', next', are', leads) in
      either_judged k s (said.Request b) (said.Ended ∷ ts) acts next are (acts', next', are', leads) (λ does.
      behind_request s0 mid k next s b acts kept tracks moved does.0 (short k s b.now acts does.0 first (subst IsSuch (sym is.0) such.0)) does.1 (λ kept' tracks'.
      either_judged next (s ++ acts) said.Ended ts acts' next' are' leads (λ ends.
      behind_end mid moved.new_fine next next' (s ++ acts) acts' kept' tracks' ends (λ kept'' tracks''.
      trace_free mid last moved.new_fine more trace ts is.1.1 such.1 next' (s ++ acts ++ acts') kept'' tracks'' leads (asked_later asked later all (s ++ acts) acts' (asked_later asked later all s acts asks))))))
  trace_free s0 last fine log (stop s' l end more trace) (said.Ended ∷ ts) is such k s kept tracks (acts, next, are, leads) asks =
      either_judged k s said.Ended ts acts next are leads (λ ends.
      behind_end s0 fine k next s acts kept tracks ends (λ kept' tracks'.
      trace_free s0 last fine more trace ts is.1 such next (s ++ acts) kept' tracks' leads (asked_later asked later all s acts asks)))
  trace_free s0 last fine log (silent s' mid l request more moves trace) ts is such k s kept tracks leads asks = absurd search
  trace_free s0 last fine log (traced.replied s' mid l request reply r more answers moves gains trace) ts is such k s kept tracks
      leads asks = absurd search
  trace_free s0 last fine log (cut s' mid l request reply end more moves trace) ts is such k s kept tracks leads asks = absurd search
  trace_free s0 last fine log (stop s' l end more trace) ts is such k s kept tracks leads asks = absurd search
