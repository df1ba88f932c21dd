-- No session of exchanges shows a fault of the groups, and so no session of a server.
use Rattle.std.proofs.Common.{◌≡◌, arith, ℕ, Bool, true, false, List, [], ◌∷◌, ◌++◌, Some, refl, sym, subst}
use Rattle.std.proofs.lemmas.Bool.{false≢true}
use Rattle.fuse_spec.specs.Server.Server.{Server}
use Rattle.fuse_theorem.proofs.Lookups.RowCounts.{count_of}
use Rattle.fuse_device.specs.Transfers.{Transfer, received, sent, stopped, unsent}
use Rattle.fs_serve.specs.LookupCounts.{IsFresh}
use Rattle.fs_serve.specs.Serving.{Serves}
use Rattle.fuse_protocol.specs.declared.init.InitRequest.{InitRequest}
use Rattle.fuse_sessions.specs.declared.act.Act.{Act}
use Rattle.fuse_sessions.specs.declared.act.Taken.{Taken}
use Rattle.fuse_sessions.specs.declared.fault.Fault.{Fault}
use Rattle.fuse_sessions.specs.declared.fault.Fault.TheVariants as fault
use Rattle.fuse_sessions.specs.declared.known.Known.{Known}
use Rattle.fuse_sessions.specs.declared.transfer.Transfer.{Transfer as Said}
use Rattle.fuse_sessions.specs.Faults.{HasFaultAt}
use Rattle.fuse_sessions.specs.Sessions.{Session}
use Rattle.fuse_sessions.specs.Frames.{AreRequestActs, IsOffered, IsSession, nothing_known}
use Rattle.served_sessions.specs.Exchanges.{AllReceived, AreExchangesBy, AreSaid, IsAnswer}
use Rattle.served_sessions.specs.Entries.{IsSoundAnswer}
use Rattle.served_sessions.specs.Groups.{HasFewForgets, HasNumber, IsAny, IsNoNotifyReply, IsOrdinary, is_nothing, is_of_bodies, is_of_counts, is_of_entries, is_of_files, is_of_flags, is_of_generations, is_of_heads, is_of_interrupts, is_of_kernel, is_of_notices, is_of_numbers, is_of_pairs, is_of_second_init, is_of_server}
use Rattle.served_sessions.specs.Served.{FreshNeverAccused, IsFreeOf, NeverAccused, ShowsNone}
use Rattle.served_sessions.proofs.Acts.{is_of_frames}
use Rattle.served_sessions.proofs.Fine.{fresh_fine}
use Rattle.served_sessions.proofs.Batches.{free_short}
use Rattle.served_sessions.proofs.Free.{free_if, never_at, AreFree}
use Rattle.served_sessions.proofs.Generations.{nothing_free, trace_free}
use Rattle.served_sessions.proofs.Heads.{heads_keep, heads_within, notices_keep, notices_within, flags_keep, flags_within}
use Rattle.served_sessions.proofs.Numbering.{numbers_keep, numbers_within}
use Rattle.served_sessions.proofs.Bodied.{bodies_keep, bodies_within}
use Rattle.served_sessions.proofs.Counted.{counts_keep, counts_within}
use Rattle.served_sessions.proofs.Entered.{entries_keep, entries_within}
use Rattle.served_sessions.proofs.Exchanged.{exchanges, sound_exchanges}
use Rattle.served_sessions.proofs.Kept.{Kept}
use Rattle.served_sessions.proofs.Sessions.{exchanges_free}
use Rattle.served_sessions.proofs.Traced.{traces}
use Rattle.served_sessions.proofs.Tracked.{Tracks, is_of_nodes}
use Rattle.served_sessions.proofs.Written.{Keeps}

kept_first : (even : Bool) → Kept even nothing_known []
kept_first even = record {
  not_resent = refl;
  alone = refl;
  read = λ u is. absurd (false≢true is);
  even = λ of_even u is. absurd (false≢true is);
  before = λ none. refl;
  offered = λ r is. absurd (none_offered r is);
  extensions = refl;
  names = omega arith;
  right = refl;
}
  where
    none_offered : (r : InitRequest) → nothing_known.offered ≡ Some r → ⊥
    none_offered r is = cc

module _ (group asked : Fault → Bool) (within : (f : Fault) → group f ≡ true → is_of_frames f ≡ true)
    (IsSuch : List ℕ → Type 0) (Answers : List ℕ → List ℕ → Type 0)
    (head : (request reply : List ℕ) → Answers request reply → IsAnswer request reply)
    (answers : (k later : Known) (s : Session) (request reply : List ℕ) (t : Taken) (acts : List Act)
    → Kept (asked fault.OddNumber) k s → IsSuch request → Answers request reply → AreRequestActs k request acts
    → IsOffered k request later → AreFree asked s acts → Keeps group later (s ++ acts) reply t) where
  never : (log : List Transfer) → AreExchangesBy Answers log → IsFreeOf group asked IsSuch log
  never log ex such ts said k s is keeps place f has of =
      let asked_free : (rest : List Act) → s ≡ [] ++ rest → AreFree asked [] rest =
      λ rest same. subst (AreFree asked []) same (free_if asked [] s keeps) in
      let ends = exchanges_free group asked within IsSuch Answers head answers k s log ex ts said such nothing_known []
      (kept_first (asked fault.OddNumber)) is asked_free in
      never_at group [] s (subst (AreFree group []) (sym ends.all_is) ends.free) place f has of

-- nor does what a server sends
never_accused : (group asked : Fault → Bool) → ((f : Fault) → group f ≡ true → is_of_frames f ≡ true)
    → (IsSuch : List ℕ → Type 0) → ((k later : Known) (s : Session) (request reply : List ℕ) (t : Taken) (acts : List Act)
    → Kept (asked fault.OddNumber) k s → IsSuch request → IsAnswer request reply → AreRequestActs k request acts
    → IsOffered k request later → AreFree asked s acts → Keeps group later (s ++ acts) reply t)
    → NeverAccused group asked IsSuch
never_accused group asked within IsSuch answers old log new serves =
    never group asked within IsSuch IsAnswer (λ request reply answer. answer) answers log (exchanges old log new serves)

pub heads_never : NeverAccused is_of_heads is_nothing IsAny
heads_never = never_accused is_of_heads is_nothing heads_within IsAny heads_keep

pub notices_never : NeverAccused is_of_notices is_nothing HasNumber
notices_never = never_accused is_of_notices is_nothing notices_within HasNumber notices_keep

pub numbers_never : NeverAccused is_of_numbers is_of_interrupts IsNoNotifyReply
numbers_never = never_accused is_of_numbers is_of_interrupts numbers_within IsNoNotifyReply numbers_keep

pub flags_never : NeverAccused is_of_flags is_of_second_init IsAny
flags_never = never_accused is_of_flags is_of_second_init flags_within IsAny flags_keep

pub bodies_never : NeverAccused is_of_bodies is_nothing IsAny
bodies_never = never_accused is_of_bodies is_nothing bodies_within IsAny bodies_keep

pub counts_never : NeverAccused is_of_counts is_nothing IsAny
counts_never = never_accused is_of_counts is_nothing counts_within IsAny counts_keep

pub entries_never : FreshNeverAccused is_of_entries is_nothing IsAny
entries_never old log new serves mounted = never is_of_entries is_nothing entries_within IsAny IsSoundAnswer
    (λ request reply answer. answer.answers) entries_keep log (sound_exchanges old mounted log new serves)

-- before anything nothing is counted
tracks_first : (s : Server) → Tracks s (λ n. count_of s.nodes n) []
tracks_first s = record {
  counts = λ n low. omega arith;
  none = λ n low. refl;
  held = λ n f low some is. absurd (omega (arith, some));
  files = λ n f low is. absurd cc;
}

nodes_never : (group : Fault → Bool) → ((f : Fault) → group f ≡ true → is_of_nodes f ≡ true)
    → FreshNeverAccused group is_nothing HasFewForgets
nodes_never group within old log new serves mounted such ts said k s is keeps place f has of =
    let ends = trace_free is_nothing HasFewForgets (λ known before bytes acts does free few batch. few batch.opcode) k s
    old new (fresh_fine old mounted) log (traces old mounted log new serves) ts said such nothing_known []
    (kept_first false) (tracks_first old) is (λ rest same. nothing_free [] rest) in
    never_at is_of_nodes [] s (subst (AreFree is_of_nodes []) (sym ends.all_is) ends.free) place f has (within f of)

-- a longer BATCH_FORGET than is read would be a fault of the kernel
honest_never : (group : Fault → Bool) → ((f : Fault) → group f ≡ true → is_of_nodes f ≡ true)
    → FreshNeverAccused group is_of_kernel IsAny
honest_never group within old log new serves mounted such ts said k s is keeps place f has of =
    let ends = trace_free is_of_kernel IsAny (λ known before bytes acts does free any batch.
    free_short known bytes acts does batch is_of_kernel refl before free) k s old new (fresh_fine old mounted) log
    (traces old mounted log new serves) ts said such nothing_known [] (kept_first false) (tracks_first old) is
    (λ rest same. subst (AreFree is_of_kernel []) same (free_if is_of_kernel [] s keeps)) in
    never_at is_of_nodes [] s (subst (AreFree is_of_nodes []) (sym ends.all_is) ends.free) place f has (within f of)

generations_within : (f : Fault) → is_of_generations f ≡ true → is_of_nodes f ≡ true
generations_within fault.NodeOfTwoGenerations is = refl
generations_within f is = absurd (false≢true is)

files_within : (f : Fault) → is_of_files f ≡ true → is_of_nodes f ≡ true
files_within fault.NodeOfTwoKinds is = refl
files_within fault.NodeOfTwoInodeNumbers is = refl
files_within f is = absurd (false≢true is)

pairs_within : (f : Fault) → is_of_pairs f ≡ true → is_of_nodes f ≡ true
pairs_within fault.NodeGivenAgain is = refl
pairs_within f is = absurd (false≢true is)

pub generations_never : FreshNeverAccused is_of_generations is_nothing HasFewForgets
generations_never = nodes_never is_of_generations generations_within

pub files_never : FreshNeverAccused is_of_files is_nothing HasFewForgets
files_never = nodes_never is_of_files files_within

pub pairs_never : FreshNeverAccused is_of_pairs is_nothing HasFewForgets
pairs_never = nodes_never is_of_pairs pairs_within

-- ---- every fault of a server

-- what holds of each frame that was received, with less
received_less : (IsThis IsThat : List ℕ → Type 0) → ((frame : List ℕ) → IsThis frame → IsThat frame)
    → (log : List Transfer) → AllReceived IsThis log → AllReceived IsThat log
received_less IsThis IsThat less [] all = tt
received_less IsThis IsThat less (received frame ∷ log) all =
    (less frame all.0, received_less IsThis IsThat less log all.1)
received_less IsThis IsThat less (sent frame result ∷ log) all = received_less IsThis IsThat less log all
received_less IsThis IsThat less (unsent frame end ∷ log) all = received_less IsThis IsThat less log all
received_less IsThis IsThat less (stopped end ∷ log) all = received_less IsThis IsThat less log all

-- a law of a group is one of each of its faults
free_of : (group asked : Fault → Bool) (IsSuch : List ℕ → Type 0)
    → ((f : Fault) → asked f ≡ true → is_of_kernel f ≡ true) → ((frame : List ℕ) → IsOrdinary frame → IsSuch frame)
    → (log : List Transfer) → IsFreeOf group asked IsSuch log → (f : Fault) → group f ≡ true
    → AllReceived IsOrdinary log → (ts : List Said) → AreSaid log ts → (k : Known) (s : Session) → IsSession ts k s
    → ShowsNone is_of_kernel s → (place : ℕ) → HasFaultAt [] s place f → ⊥
free_of group asked IsSuch of_kernel such log free f of all ts said k s is keeps place has =
    free (received_less IsOrdinary IsSuch such log all) ts said k s is
    (λ at g broken asks. keeps at g broken (of_kernel g asks)) place f has of

none_asked : (f : Fault) → is_nothing f ≡ true → is_of_kernel f ≡ true
none_asked f is = absurd (false≢true is)

interrupts_asked : (f : Fault) → is_of_interrupts f ≡ true → is_of_kernel f ≡ true
interrupts_asked fault.OddNumber is = refl
interrupts_asked fault.InterruptUnderAnotherNumber is = refl
interrupts_asked fault.InterruptOfNothing is = refl
interrupts_asked f is = absurd (false≢true is)

init_asked : (f : Fault) → is_of_second_init f ≡ true → is_of_kernel f ≡ true
init_asked fault.InitNotFirst is = refl
init_asked f is = absurd (false≢true is)

module _ (old : Server) (log : List Transfer) (new : Server) (serves : Serves old log new) (mounted : IsFresh old) where
  plain : (group : Fault → Bool) → IsFreeOf group is_nothing IsAny log → (f : Fault) → group f ≡ true
      → AllReceived IsOrdinary log → (ts : List Said) → AreSaid log ts → (k : Known) (s : Session) → IsSession ts k s
      → ShowsNone is_of_kernel s → (place : ℕ) → HasFaultAt [] s place f → ⊥
  plain group free = free_of group is_nothing IsAny none_asked (λ frame is. tt) log free

  honest : (group : Fault → Bool) → ((f : Fault) → group f ≡ true → is_of_nodes f ≡ true) → (f : Fault)
      → group f ≡ true → AllReceived IsOrdinary log → (ts : List Said) → AreSaid log ts → (k : Known) (s : Session)
      → IsSession ts k s → ShowsNone is_of_kernel s → (place : ℕ) → HasFaultAt [] s place f → ⊥
  honest group within = free_of group is_of_kernel IsAny (λ f is. is) (λ frame is. tt) log
      (honest_never group within old log new serves mounted)

  numbered : (f : Fault) → is_of_numbers f ≡ true
      → AllReceived IsOrdinary log → (ts : List Said) → AreSaid log ts → (k : Known) (s : Session) → IsSession ts k s
      → ShowsNone is_of_kernel s → (place : ℕ) → HasFaultAt [] s place f → ⊥
  numbered = free_of is_of_numbers is_of_interrupts IsNoNotifyReply interrupts_asked (λ frame is. is.other) log
      (numbers_never old log new serves)

  each_fault : (f : Fault) → is_of_server f ≡ true → AllReceived IsOrdinary log → (ts : List Said) → AreSaid log ts
      → (k : Known) (s : Session) → IsSession ts k s → ShowsNone is_of_kernel s → (place : ℕ)
      → HasFaultAt [] s place f → ⊥
  each_fault fault.MalformedReply of = plain is_of_heads (heads_never old log new serves) fault.MalformedReply refl
  each_fault fault.InitOfAnotherVersion of =
      plain is_of_heads (heads_never old log new serves) fault.InitOfAnotherVersion refl
  each_fault fault.MalformedNotification of = free_of is_of_notices is_nothing HasNumber none_asked
      (λ frame is. is.number) log (notices_never old log new serves) fault.MalformedNotification refl
  each_fault fault.ReplyToNothing of = numbered fault.ReplyToNothing refl
  each_fault fault.SecondReply of = numbered fault.SecondReply refl
  each_fault fault.ReplyToForget of = numbered fault.ReplyToForget refl
  each_fault fault.ReplyToNoInterrupt of = numbered fault.ReplyToNoInterrupt refl
  each_fault fault.FlagsThatWereNotOffered of = free_of is_of_flags is_of_second_init IsAny init_asked
      (λ frame is. tt) log (flags_never old log new serves) fault.FlagsThatWereNotOffered refl
  each_fault fault.BodyOfAnotherRequest of =
      plain is_of_bodies (bodies_never old log new serves) fault.BodyOfAnotherRequest refl
  each_fault fault.MoreThanWasAsked of = plain is_of_counts (counts_never old log new serves) fault.MoreThanWasAsked refl
  each_fault fault.EntryOfTheRoot of =
      plain is_of_entries (entries_never old log new serves mounted) fault.EntryOfTheRoot refl
  each_fault fault.EntryOfNoNode of = plain is_of_entries (entries_never old log new serves mounted) fault.EntryOfNoNode refl
  each_fault fault.EntryOfNoKind of = plain is_of_entries (entries_never old log new serves mounted) fault.EntryOfNoKind refl
  each_fault fault.EntryOfAnotherKind of =
      plain is_of_entries (entries_never old log new serves mounted) fault.EntryOfAnotherKind refl
  each_fault fault.NodeOfTwoGenerations of =
      honest is_of_generations generations_within fault.NodeOfTwoGenerations refl
  each_fault fault.NodeOfTwoKinds of = honest is_of_files files_within fault.NodeOfTwoKinds refl
  each_fault fault.NodeOfTwoInodeNumbers of =
      honest is_of_files files_within fault.NodeOfTwoInodeNumbers refl
  each_fault f of = absurd (false≢true of)

pub server_never : FreshNeverAccused is_of_server is_of_kernel IsOrdinary
server_never old log new serves mounted all ts said k s is keeps place f has of =
    each_fault old log new serves mounted f of all ts said k s is keeps place has
