-- What the acts of a frame do with open files.
use Rattle.std.proofs.Common.{◌≡◌, ◌⊎◌, inl, inr, ℕ, ◌≤◌, ◌<◌, ◌&&◌, ◌||◌, Bool, true, false, List, [], ◌∷◌, ◌++◌, Option, Some, None, nat_eq, nat_le, if◌then◌else◌, append_assoc, not, refl, ap, sym, subst, ◌∙◌, arith}
use Rattle.std.specs.List.{list_all}
use Rattle.std.specs.Prelude.{sum_by}
use Rattle.std.proofs.lemmas.Bool.{and_parts, false≢true}
use Rattle.std.proofs.lemmas.Bool.Decides.{nat_tests}
use Rattle.std.proofs.lemmas.List.Sums.{sum_by-append, sum_by-cons}
use Rattle.fuse_spec.specs.declared.Opened.{Opened}
use Rattle.fuse_spec.specs.Kernel.Messages.{RequestBody}
use Rattle.fuse_protocol.specs.declared.opcode.Opcode.{Opcode}
use Rattle.fuse_protocol.specs.declared.opcode.Opcode.TheVariants as op
use Rattle.fuse_protocol.specs.Requests.{RequestMessage}
use Rattle.fuse_protocol.specs.Pairs.{pairs_of_row}
use Rattle.fuse_protocol.specs.Table.{row_at}
use Rattle.protocol_law.specs.Law.{Carries}
use Rattle.fuse_sessions.specs.declared.act.Act.{Act}
use Rattle.fuse_sessions.specs.declared.act.Act.TheVariants as act
use Rattle.fuse_sessions.specs.declared.act.Asked.{Asked}
use Rattle.fuse_sessions.specs.declared.act.OpenFile.{OpenFile}
use Rattle.fuse_sessions.specs.declared.act.OpenKind.{OpenKind}
use Rattle.fuse_sessions.specs.declared.act.OpenKind.TheVariants as kind
use Rattle.fuse_sessions.specs.declared.fault.Fault.{Fault}
use Rattle.fuse_sessions.specs.declared.fault.Fault.TheVariants as fault
use Rattle.fuse_sessions.specs.declared.known.Known.{Known}
use Rattle.fuse_sessions.specs.Faults.{BreaksRelease, BreaksUse}
use Rattle.fuse_sessions.specs.Frames.{AreRequestActs, IsRequestOf}
use Rattle.fuse_sessions.specs.OpenFiles.{MayUse, opened, releases_this}
use Rattle.fuse_sessions.specs.RequestActs.{asked_of, asking, file_copied_to, file_used, forgets_in, naming, node_asked, or_none, releasing, request_acts, resend_bit, resent, using, writing}
use Rattle.fuse_sessions.specs.Sessions.{Session}
use Rattle.fuse_sessions.specs.UnreadRequests.{unique_in}
use Rattle.fuse_sessions.specs.Waiting.{is_that, is_used, same_kind, uses_file}
use Rattle.driven_sessions.specs.Transfers.{IsShaped}
use Rattle.driven_sessions.proofs.Asks.{AllAsk, append_ask}
use Rattle.driven_sessions.proofs.Calm.{each_of, either}
use Rattle.driven_sessions.specs.Files.{is_of}
use Rattle.driven_sessions.proofs.Files.Frames.{SaysFiles}
use Rattle.driven_sessions.proofs.Files.Opened.{AreStill, as_file, is_file, is_still, kind_self, open_used, releases_in, still_opened, still_sums, still_used}
use Rattle.driven_sessions.proofs.Files.Rows.{AreApart, FilesFree, HandleOf, Handles, apart_free, files_of, free_parts, handle_of, opener}

-- What is asked: the node of which a file of the kind is opened, and the file that is used.
pub record AsksFor (which : OpenKind) (handles : Handles) (a : Asked) : Type 0 where
  pub node : a.opcode ≡ Some (opener which) → a.nodeid ≡ handles.node
  pub uses : (p : Opened) → uses_file (as_file which p) a ≡ true → handles.used ≡ p ∷ []

-- What the request uses is open; what it releases is open, and used by none that waits as it is released last.
pub record MayDo (which : OpenKind) (handles : Handles) (s : Session) : Type 0 where
  pub used : (p : Opened) → handles.used ≡ p ∷ [] → 0 < opened s (as_file which p)
  pub released : (p : Opened) → handles.released ≡ p ∷ [] → (0 < opened s (as_file which p))
      × (opened s (as_file which p) ≡ 1 → is_used s (as_file which p) ≡ false)

opener_asked : (which : OpenKind) (m : RequestMessage) → node_asked (opener which) m ≡ m.nodeid
opener_asked kind.File m = refl
opener_asked kind.Directory m = refl

pub still_may : (which : OpenKind) (handles : Handles) (s acts : Session) → AreStill acts → MayDo which handles s → MayDo which handles (s ++ acts)
still_may which handles s acts are may = record {
  used = λ p of. let some = may.used p of in let same = still_opened s acts are (as_file which p) in omega (arith, some, same);
  released = λ p of.
      let was = may.released p of in
      let some = was.0 in
      let same = still_opened s acts are (as_file which p) in (
        omega (arith, some, same),
        λ last. still_used s acts are (as_file which p) ∙ was.1 (sym same ∙ last),
      );
}

pub record Acts (which : OpenKind) (handles : Handles) (number : ℕ) (acts : List Act) : Type 0 where
  pub releases : (p : Opened) → releases_in (as_file which p) acts ≤ sum_by (is_file p) (handles.released)
  pub asks : AllAsk (λ u a. (u ≡ number) × AsksFor which handles a) acts
  pub free : (s : Session) → MayDo which handles s → FilesFree which s acts

module _ (which : OpenKind) (handles : Handles) (number : ℕ) where
  still_apart : (acts : List Act) → AreStill acts → AreApart which acts → Acts which handles number acts
  still_apart acts are apart = record {
    releases = λ p. let none = (still_sums (as_file which p) acts are).1 in omega (arith, none);
    asks = still_ask acts are;
    free = λ s may. apart_free which s acts apart;
  }
    where
      still_ask : (xs : List Act) → AreStill xs → AllAsk (λ u a. (u ≡ number) × AsksFor which handles a) xs
      still_ask [] is = tt
      still_ask (act.Asks unique asked ∷ xs) is = absurd (false≢true is)
      still_ask (a ∷ xs) is = still_ask xs (and_parts (is_still a) (list_all is_still xs) is).1

  -- Acts of which the first open, release and ask nothing.
  behind_still : (xs ys : List Act) → AreStill xs → AreApart which xs → Acts which handles number ys → Acts which handles number (xs ++ ys)
  behind_still xs ys are apart later = record {
    releases = λ p.
        let none = (still_sums (as_file which p) xs are).1 in
        let sum = sum_by-append (releases_this (as_file which p)) xs ys in
        let few = later.releases p in
        omega (arith, none, sum, few);
    asks = append_ask (λ u a. (u ≡ number) × AsksFor which handles a) xs ys ((still_apart xs are apart).asks) later.asks;
    free = λ s may. free_parts which s xs ys (apart_free which s xs apart) (later.free (s ++ xs) (still_may which handles s xs are may));
  }

module _ (which : OpenKind) (handles : Handles) (o : Opcode) (m : RequestMessage) (h : HandleOf which handles o m.nodeid m.node m.handle) where
  open_asked : (p : Opcode) → ◌≡◌ {A = Option Opcode} (Some o) (Some p) → o ≡ p
  open_asked p e = ap of e
    where
      of : Option Opcode → Opcode
      of None = o
      of (Some x) = x

  -- A file of that number is the file.
  used_file : (x : Option OpenFile) → file_used o m.nodeid m.handle ≡ x → (p : Opened) → is_that (as_file which p) x ≡ true
      → handles.used ≡ p ∷ []
  used_file None at p is = absurd (false≢true is)
  used_file (Some file) at p is =
      let parts = and_parts (same_kind file.kind which) (nat_eq file.nodeid p.nodeid && nat_eq file.fh p.fh) is in
      let numbers = and_parts (nat_eq file.nodeid p.nodeid) (nat_eq file.fh p.fh) parts.1 in
      let (q, used, same) = h.uses file at parts.0 in
      let node : q.nodeid ≡ p.nodeid = sym (ap (λ (x : OpenFile). x.nodeid) same) ∙ equal file.nodeid p.nodeid numbers.0 in
      let fh : q.fh ≡ p.fh = sym (ap (λ (x : OpenFile). x.fh) same) ∙ equal file.fh p.fh numbers.1 in
      used ∙ (λ i. record { nodeid = node i; fh = fh i } ∷ [])
    where
      equal : (a b : ℕ) → nat_eq a b ≡ true → a ≡ b
      equal a b e = grind (arith, nat_tests, e)

  asks_for : AsksFor which handles (asked_of o m)
  asks_for = record {
    node = λ e. subst (λ (p : Opcode). node_asked p m ≡ m.nodeid) (sym (open_asked (opener which) e)) (opener_asked which m)
        ∙ h.opens (open_asked (opener which) e);
    uses = λ p is. either_file p (is_that (as_file which p) (file_used o m.nodeid m.handle)) refl is;
  }
    where
      none_copied : (p : Opened) → is_that (as_file which p) (file_copied_to (or_none m.node) m.handle) ≡ false
      none_copied p = ap (is_that (as_file which p)) h.copies

      either_file : (p : Opened) (b : Bool) → is_that (as_file which p) (file_used o m.nodeid m.handle) ≡ b
          → (b || is_that (as_file which p) (file_copied_to (or_none m.node) m.handle)) ≡ true → handles.used ≡ p ∷ []
      either_file p true at is = used_file (file_used o m.nodeid m.handle) refl p at
      either_file p false at is = absurd (false≢true (sym (none_copied p) ∙ is))

  last_acts : Acts which handles m.unique (act.Asks m.unique (asked_of o m) ∷ [])
  last_acts = record {
    releases = λ p. omega arith;
    asks = ((refl, asks_for), tt);
    free = λ s may. apart_free which s (act.Asks m.unique (asked_of o m) ∷ []) refl;
  }

  naming_still : (node : ℕ) → AreStill (naming node) × AreApart which (naming node)
  naming_still node = (
    either is_still (nat_eq node 0) [] (act.Names node ∷ []) refl refl,
    either (λ (a : Act). not (is_of which a)) (nat_eq node 0) [] (act.Names node ∷ []) refl refl,
  )

  writing_still : (p : Opcode) → AreStill (writing p m) × AreApart which (writing p m)
  writing_still op.Write = (refl, refl)
  writing_still p = (refl, refl)

  -- What is released, before what opens, uses and releases nothing.
  releasing_acts : (ys : List Act) → Acts which handles m.unique ys → AreApart which ys → ((p : Opened) → releases_in (as_file which p) ys ≡ 0)
      → Acts which handles m.unique (releasing o m.nodeid m.handle ++ ys)
  releasing_acts ys later apart none = by h.releases
    where
      released_fault : (s : Session) (file : OpenFile) → MayUse s file → (opened s file ≡ 1 → is_used s file ≡ false) → (f : Fault)
          → BreaksRelease s file f → ⊥
      released_fault s file may last fault.ReleaseOfWhatIsNotOpen b = b may
      released_fault s file may last fault.ReleaseBesideAUse b = false≢true (sym (last b.1) ∙ b.2)
      released_fault s file may last f b = b

      one_file : (file : OpenFile) → (same_kind file.kind which ≡ true
          → (p : Opened) × (handles.released ≡ p ∷ []) × (file ≡ as_file which p)) → Acts which handles m.unique (act.Releases file ∷ ys)
      one_file file is = record {
        releases = λ p.
            let sum = sum_by-cons (releases_this (as_file which p)) (act.Releases file) ys in
            let zero = none p in
            let few = weight p (same_kind file.kind which) refl in
            omega (arith, sum, zero, few);
        asks = later.asks;
        free = λ s may. (
          λ of f b.
              let (p, released, same) = is of in
              let fine = may.released p released in
              released_fault s file
              (open_used s file (subst (λ (x : OpenFile). 0 < opened s x) (sym same) fine.0))
              (subst (λ (x : OpenFile). opened s x ≡ 1 → is_used s x ≡ false) (sym same) fine.1) f b,
          apart_free which (s ++ act.Releases file ∷ []) ys apart,
        );
      }
        where
          weight : (p : Opened) (b : Bool) → same_kind file.kind which ≡ b
              → releases_this (as_file which p) (act.Releases file) ≤ sum_by (is_file p) (handles.released)
          weight p true of =
              let (q, released, same) = is of in
              let one : releases_this (as_file which p) (act.Releases file) ≡ is_file p q =
              ap (λ (x : OpenFile). releases_this (as_file which p) (act.Releases x)) same
              ∙ ap (λ (b : Bool). if b && (nat_eq q.nodeid p.nodeid && nat_eq q.fh p.fh) then 1 else 0) (kind_self which) in
              let all : sum_by (is_file p) (handles.released) ≡ sum_by (is_file p) (q ∷ []) = ap (sum_by (is_file p)) released in
              let sum = sum_by-cons (is_file p) q [] in
              omega (arith, one, all, sum)
          weight p false of =
              let zero : releases_this (as_file which p) (act.Releases file) ≡ 0 =
              ap (λ (b : Bool). if b && (nat_eq file.nodeid p.nodeid && nat_eq file.fh p.fh) then 1 else 0) of in
              omega (arith, zero)

      by : (releasing o m.nodeid m.handle ≡ []) ⊎ ((file : OpenFile) × (releasing o m.nodeid m.handle ≡ act.Releases file ∷ [])
          × (same_kind file.kind which ≡ true → (p : Opened) × (handles.released ≡ p ∷ []) × (file ≡ as_file which p)))
          → Acts which handles m.unique (releasing o m.nodeid m.handle ++ ys)
      by (inl empty) = subst (λ (xs : List Act). Acts which handles m.unique (xs ++ ys)) (sym empty) later
      by (inr (file, one, is)) = subst (λ (xs : List Act). Acts which handles m.unique (xs ++ ys)) (sym one) (one_file file is)

  -- What is used.
  using_acts : (x : Option OpenFile) → file_used o m.nodeid m.handle ≡ x → (ys : List Act) → Acts which handles m.unique ys
      → Acts which handles m.unique (using x ++ ys)
  using_acts None at ys later = later
  using_acts (Some file) at ys later = record {
    releases = λ p.
        let sum = sum_by-cons (releases_this (as_file which p)) (act.Uses file) ys in
        let few = later.releases p in
        omega (arith, sum, few);
    asks = later.asks;
    free = λ s may. (
      λ of f b.
          let (p, used, same) = h.uses file at of in
          used_fault s f b (open_used s file (subst (λ (x : OpenFile). 0 < opened s x) (sym same) (may.used p used))),
      later.free (s ++ act.Uses file ∷ []) (still_may which handles s (act.Uses file ∷ []) refl may),
    );
  }
    where
      used_fault : (s : Session) (f : Fault) → BreaksUse s file f → MayUse s file → ⊥
      used_fault s fault.HandleNotOpen b may = b may
      used_fault s f b may = b

  asking_acts : Acts which handles m.unique (act.Arrives ∷ act.Begins o ∷ asking o m (asked_of o m))
  asking_acts =
      let one : List Act = naming (node_asked o m) in
      let two : List Act = naming (or_none m.node) in
      let three : List Act = using (file_used o m.nodeid m.handle) in
      let four : List Act = using (file_copied_to (or_none m.node) m.handle) in
      let five : List Act = releasing o m.nodeid m.handle in
      let six : List Act = writing o m in
      let last : List Act = act.Asks m.unique (asked_of o m) ∷ [] in
      let writes = writing_still o in
      let six_acts = behind_still which handles m.unique six last writes.0 writes.1 last_acts in
      let five_acts = releasing_acts (six ++ last) six_acts
      (each_of (λ (a : Act). not (is_of which a)) six last writes.1 refl)
      (λ p.
      let zero = (still_sums (as_file which p) six writes.0).1 in
      let sum = sum_by-append (releases_this (as_file which p)) six last in
      omega (arith, zero, sum)) in
      let four_acts = subst (λ (x : Option OpenFile). Acts which handles m.unique (using x ++ (five ++ (six ++ last)))) (sym h.copies) five_acts in
      let three_acts = using_acts (file_used o m.nodeid m.handle) refl (four ++ (five ++ (six ++ last))) four_acts in
      let two_acts = behind_still which handles m.unique two (three ++ (four ++ (five ++ (six ++ last)))) (naming_still (or_none m.node)).0
      (naming_still (or_none m.node)).1 three_acts in
      let one_acts = behind_still which handles m.unique one (two ++ (three ++ (four ++ (five ++ (six ++ last)))))
      (naming_still (node_asked o m)).0 (naming_still (node_asked o m)).1 two_acts in
      behind_still which handles m.unique (act.Arrives ∷ act.Begins o ∷ act.Read (Some o) m.unique ∷ [])
      (one ++ two ++ three ++ four ++ five ++ six ++ last) refl refl
      (subst (Acts which handles m.unique) (sym (append_assoc (one ++ two ++ three ++ four ++ five) six last
      ∙ append_assoc (one ++ two ++ three ++ four) five (six ++ last)
      ∙ append_assoc (one ++ two ++ three) four (five ++ (six ++ last))
      ∙ append_assoc (one ++ two) three (four ++ (five ++ (six ++ last)))
      ∙ append_assoc one two (three ++ (four ++ (five ++ (six ++ last)))))) one_acts)

  doing_acts : (again : Bool)
      → Acts which handles m.unique (act.Arrives ∷ act.Begins o ∷ (if again then resent o m else asking o m (asked_of o m)))
  doing_acts true = record {
    releases = λ p. omega arith;
    asks = ((refl, asks_for), tt);
    free = λ s may. apart_free which s (act.Arrives ∷ act.Begins o ∷ resent o m) refl;
  }
  doing_acts false = asking_acts

-- ---- the acts of a frame

module _ (which : OpenKind) (handles : Handles) (k : Known) (frame : List ℕ)
    (handle_of : (o : Opcode) (m : RequestMessage) → IsRequestOf k.agreed frame (o, m) → HandleOf which handles o m.nodeid m.node m.handle)
  where
    forgets_still : (pairs : List (ℕ × ℕ)) → AreStill (forgets_in pairs) × AreApart which (forgets_in pairs)
    forgets_still [] = (refl, refl)
    forgets_still (p ∷ pairs) = forgets_still pairs

    row_acts : (o : Opcode) (m : RequestMessage) → IsRequestOf k.agreed frame (o, m)
        → Acts which handles m.unique (request_acts k.has_resent o m)
    row_acts op.Interrupt m is = still_apart which handles m.unique (request_acts k.has_resent op.Interrupt m) refl refl
    row_acts op.NotifyReply m is = still_apart which handles m.unique (request_acts k.has_resent op.NotifyReply m) refl refl
    row_acts op.Forget m is = still_apart which handles m.unique (request_acts k.has_resent op.Forget m) refl refl
    row_acts op.BatchForget m is =
        let both = forgets_still (pairs_of_row (row_at op.BatchForget).tail m.tail) in
        still_apart which handles m.unique (request_acts k.has_resent op.BatchForget m) both.0 both.1
    row_acts o m is = doing_acts which handles o m (handle_of o m is) (k.has_resent && nat_le resend_bit m.unique)

    pub frame_acts : IsShaped frame → Carries k.agreed → (acts : List Act) → AreRequestActs k frame acts
        → Acts which handles (unique_in frame) acts
    frame_acts shaped carries acts (inl ((o, m), is, does)) = subst (Acts which handles (unique_in frame)) (sym does)
        (subst (λ (n : ℕ). Acts which handles n (request_acts k.has_resent o m)) (sym is.unique) (row_acts o m is))
    frame_acts shaped carries acts (inr (none, does)) =
        let one = shaped k.agreed carries in absurd (none (one.0, one.1) one.2)

-- So it is with files that are no directories.
pub file_acts : (body : RequestBody) (k : Known) (frame : List ℕ) → SaysFiles body frame → IsShaped frame → Carries k.agreed
    → (acts : List Act) → AreRequestActs k frame acts → Acts kind.File (files_of body) (unique_in frame) acts
file_acts body k frame says = frame_acts kind.File (files_of body) k frame (handle_of body k frame says)
