-- The faults of several acts.
use Rattle.std.proofs.Common.{◌≡◌, ℕ, ◌-◌, ◌==◌, Bool, true, false, true≢false, not, ◌||◌, cond, nat_eq, List, [], ◌∷◌, ◌++◌, drop, Option, Some, None, refl, sym, ◌∙◌, ap, append_assoc}
use Rattle.std.specs.Prelude.{nat_le}
use Rattle.std.specs.List.{list_any, flat_map}
use Rattle.std.proofs.lemmas.List.{append-nil}
use Rattle.fuse_protocol.specs.declared.opcode.Opcode.{Opcode}
use Rattle.fuse_protocol.specs.Requests.{RequestMessage}
use Rattle.fuse_replies.specs.Record.{EntryRecordContent}
use Rattle.fuse_replies.specs.Records.{entry_records_from}
use Rattle.fuse_sessions.specs.declared.act.Taken.{Taken}
use Rattle.fuse_sessions.specs.Frames.{number_in}
use Rattle.fuse_sessions.specs.RequestActs.{resend_bit}
use Rattle.fuse_sessions.specs.Waiting.{reaches}
use Rattle.name_sessions.specs.Names.{Name}
use Rattle.name_sessions.specs.NameActs.{NameAct, NamesAsked, Unsure, Asks, Ends, Removes, Gives, Loses, Leaves}
use Rattle.name_sessions.specs.NameSessions.{NameSession, is_doubt, is_unsure, is_given, is_fault}
use Rattle.name_sessions.specs.NameFrames.{has_fault}
use Rattle.name_sessions.specs.RequestNames.{beginning, names_asked, removal, removed_name, request_acts, takes_no_reply, waiting}
use Rattle.name_sessions.specs.ReplyNames.{done_acts, giving, is_done, is_negative_entry, listed_acts, losing, record_acts, said_acts, written_acts}
use Rattle.name_sessions.proofs.NameLaws.{any-append, or_false, stays_unsure}

or_assoc : (a b c : Bool) → ((a || b) || c) ≡ (a || (b || c))
or_assoc true b c = refl
or_assoc false b c = refl

pub fault-append : (s : NameSession) (xs ys : List NameAct)
    → has_fault s (xs ++ ys) ≡ (has_fault s xs || has_fault (s ++ xs) ys)
fault-append s [] ys = ap (λ (t : NameSession). has_fault t ys) (sym (append-nil s))
fault-append s (x ∷ xs) ys =
    ap (λ b. is_fault s x || b) (fault-append (s ++ x ∷ []) xs ys)
    ∙ sym (or_assoc (is_fault s x) (has_fault (s ++ x ∷ []) xs) (has_fault ((s ++ x ∷ []) ++ xs) ys))
    ∙ ap (λ (t : NameSession). (is_fault s x || has_fault (s ++ x ∷ []) xs) || has_fault t ys)
    (append_assoc s (x ∷ []) xs)

fault_unsure : (s : NameSession) (a : NameAct) → is_unsure s ≡ true → is_fault s a ≡ false
fault_unsure s (Removes name) unsure = ap (λ b. not (b || is_given s name)) unsure
fault_unsure s Unsure unsure = refl
fault_unsure s (Asks unique asked) unsure = refl
fault_unsure s (Ends unique) unsure = refl
fault_unsure s (Gives name) unsure = refl
fault_unsure s (Loses name) unsure = refl
fault_unsure s (Leaves node) unsure = refl

-- where nothing is certain nothing is a fault
pub silent : (s : NameSession) (acts : List NameAct) → is_unsure s ≡ true → has_fault s acts ≡ false
silent s [] unsure = refl
silent s (a ∷ acts) unsure =
    ap (λ b. b || has_fault (s ++ a ∷ []) acts) (fault_unsure s a unsure)
    ∙ silent (s ++ a ∷ []) acts (stays_unsure s (a ∷ []) unsure)

-- ---- acts that are no fault, and no doubt

-- an act by which something is judged, or doubted
abbrev pub is_loud : NameAct → Bool
is_loud Unsure = true
is_loud (Removes name) = true
is_loud act = false

abbrev pub AreQuiet : List NameAct → Type 0
AreQuiet acts = list_any is_loud acts ≡ false

neither_first : (a b : Bool) → (a || b) ≡ false → a ≡ false
neither_first true b e = e
neither_first false b e = refl

neither_second : (a b : Bool) → (a || b) ≡ false → b ≡ false
neither_second true b e = absurd (true≢false e)
neither_second false b e = e

quiet_fault : (s : NameSession) (a : NameAct) → is_loud a ≡ false → is_fault s a ≡ false
quiet_fault s (Removes name) e = absurd (true≢false e)
quiet_fault s Unsure e = refl
quiet_fault s (Asks unique asked) e = refl
quiet_fault s (Ends unique) e = refl
quiet_fault s (Gives name) e = refl
quiet_fault s (Loses name) e = refl
quiet_fault s (Leaves node) e = refl

quiet_doubt : (a : NameAct) → is_loud a ≡ false → is_doubt a ≡ false
quiet_doubt (Removes name) e = refl
quiet_doubt Unsure e = e
quiet_doubt (Asks unique asked) e = refl
quiet_doubt (Ends unique) e = refl
quiet_doubt (Gives name) e = refl
quiet_doubt (Loses name) e = refl
quiet_doubt (Leaves node) e = refl

pub quiet_faults : (s : NameSession) (acts : List NameAct) → AreQuiet acts → has_fault s acts ≡ false
quiet_faults s [] e = refl
quiet_faults s (a ∷ acts) e =
    ap (λ b. b || has_fault (s ++ a ∷ []) acts) (quiet_fault s a (neither_first (is_loud a) (list_any is_loud acts) e))
    ∙ quiet_faults (s ++ a ∷ []) acts (neither_second (is_loud a) (list_any is_loud acts) e)

pub quiet_doubts : (acts : List NameAct) → AreQuiet acts → list_any is_doubt acts ≡ false
quiet_doubts [] e = refl
quiet_doubts (a ∷ acts) e =
    ap (λ b. b || list_any is_doubt acts) (quiet_doubt a (neither_first (is_loud a) (list_any is_loud acts) e))
    ∙ quiet_doubts acts (neither_second (is_loud a) (list_any is_loud acts) e)

pub both_quiet : (xs ys : List NameAct) → AreQuiet xs → AreQuiet ys → AreQuiet (xs ++ ys)
both_quiet xs ys e f = any-append is_loud xs ys ∙ ap (λ b. b || list_any is_loud ys) e ∙ f

-- ---- requests and replies

quiet_waiting : (unique : ℕ) (o : Option NamesAsked) → AreQuiet (waiting unique o)
quiet_waiting unique None = refl
quiet_waiting unique (Some asked) = refl

undoubted_removal : (o : Option Name) → list_any is_doubt (removal o) ≡ false
undoubted_removal None = refl
undoubted_removal (Some name) = refl

chosen : {X : Type 0} (P : X → Type 0) (b : Bool) (x y : X) → P x → P y → P (cond b x y)
chosen P true x y p q = p
chosen P false x y p q = q

abbrev AreUndoubted : List NameAct → Type 0
AreUndoubted acts = list_any is_doubt acts ≡ false

undoubted_beginning : (o : Opcode) (m : RequestMessage) → AreUndoubted (beginning o m)
undoubted_beginning o m = chosen AreUndoubted (nat_le resend_bit m.unique) (Ends (m.unique - resend_bit) ∷ [])
    (removal (removed_name o m)) refl (undoubted_removal (removed_name o m))

pub request_undoubted : (o : Opcode) (m : RequestMessage) → list_any is_doubt (request_acts o m) ≡ false
request_undoubted o m =
    chosen AreUndoubted (takes_no_reply o) [] (beginning o m ++ waiting m.unique (names_asked o m)) refl
    (any-append is_doubt (beginning o m) (waiting m.unique (names_asked o m))
    ∙ ap (λ b. b || list_any is_doubt (waiting m.unique (names_asked o m))) (undoubted_beginning o m)
    ∙ quiet_doubts (waiting m.unique (names_asked o m)) (quiet_waiting m.unique (names_asked o m)))

-- a request's faults are those of its beginning
pub request_faults : (s : NameSession) (o : Opcode) (m : RequestMessage)
    → has_fault s (beginning o m ++ waiting m.unique (names_asked o m)) ≡ has_fault s (beginning o m)
request_faults s o m = fault-append s (beginning o m) (waiting m.unique (names_asked o m))
    ∙ ap (λ b. has_fault s (beginning o m) || b)
    (quiet_faults (s ++ beginning o m) (waiting m.unique (names_asked o m)) (quiet_waiting m.unique (names_asked o m)))
    ∙ or_false (has_fault s (beginning o m))

quiet_losing : (o : Option Name) → AreQuiet (losing o)
quiet_losing None = refl
quiet_losing (Some name) = refl

quiet_giving : (o : Option Name) → AreQuiet (giving o)
quiet_giving None = refl
quiet_giving (Some name) = refl

quiet_record : (parent : ℕ) (r : EntryRecordContent) → AreQuiet (record_acts parent r)
quiet_record parent r = chosen AreQuiet (nat_eq r.entry.nodeid 0) [] (Gives (parent, r.said.name) ∷ []) refl refl

quiet_records : (parent : ℕ) (rs : List EntryRecordContent) → AreQuiet (flat_map (record_acts parent) rs)
quiet_records parent [] = refl
quiet_records parent (r ∷ rs) = both_quiet (record_acts parent r) (flat_map (record_acts parent) rs)
    (quiet_record parent r) (quiet_records parent rs)

quiet_listed : (o : Option ℕ) (bytes : List ℕ) → AreQuiet (listed_acts o bytes)
quiet_listed None bytes = refl
quiet_listed (Some parent) bytes = quiet_records parent (entry_records_from 0 (drop 16 bytes))

quiet_done : (asked : NamesAsked) (bytes : List ℕ) → AreQuiet (done_acts asked bytes)
quiet_done asked bytes =
    both_quiet (cond (is_negative_entry bytes) [] (losing asked.removed ++ giving asked.made)) (listed_acts asked.listed bytes)
    (chosen AreQuiet (is_negative_entry bytes) [] (losing asked.removed ++ giving asked.made) refl
    (both_quiet (losing asked.removed) (giving asked.made) (quiet_losing asked.removed) (quiet_giving asked.made)))
    (quiet_listed asked.listed bytes)

quiet_said : (o : Option NamesAsked) (bytes : List ℕ) (t : Taken) → AreQuiet (said_acts o bytes t)
quiet_said None bytes t = refl
quiet_said (Some asked) bytes t = chosen AreQuiet (is_done bytes t) (done_acts asked bytes) [] (quiet_done asked bytes) refl

pub quiet_written : (o : Option NamesAsked) (bytes : List ℕ) (t : Taken) → AreQuiet (written_acts o bytes t)
quiet_written o bytes t =
    chosen AreQuiet (number_in bytes == 0 || not (reaches t)) [] (Ends (number_in bytes) ∷ said_acts o bytes t)
    refl (quiet_said o bytes t)
