-- The names of a transfer that is seen.
use Rattle.std.proofs.Common.{◌≡◌, ℕ, ◌+◌, ◌<◌, ◌++◌, Bool, false, true≢false, inl, inr, List, [], ◌∷◌, Option, Some, None, refl, sym, ap, subst, ◌∙◌, append_assoc, append-nil, length, take, get_or}
use Rattle.std.specs.Prelude.{MatchOption, is_some}
use Rattle.std.specs.List.{flat_map}
use Rattle.std.proofs.lemmas.Grind.{flat_map-append}
use Rattle.fuse_protocol.specs.declared.opcode.Opcode.{Opcode}
use Rattle.fuse_sessions.specs.declared.act.Act.{Act}
use Rattle.fuse_sessions.specs.declared.act.Act.TheVariants.{Read}
use Rattle.fuse_sessions.specs.declared.known.Known.{Known}
use Rattle.fuse_sessions.specs.declared.transfer.Transfer.{Transfer}
use Rattle.fuse_sessions.specs.declared.transfer.Transfer.TheVariants as transfer
use Rattle.fuse_sessions.specs.Frames.{AreActs, AreReadActs, number_in}
use Rattle.fuse_sessions.specs.Sessions.{Session}
use Rattle.name_sessions.specs.NameActs.{NameAct, Unsure}
use Rattle.name_sessions.specs.NameFrames.{AreNameActs, AreNamesAfter, has_fault, leaves}
use Rattle.name_sessions.specs.NameSessions.{NameSession, waits}
use Rattle.name_sessions.specs.ReplyNames.{written_acts}
use Rattle.name_sessions.specs.RequestNames.{request_acts}
use Rattle.fw_check.specs.Names.{removal_in}
use Rattle.fw_check.proofs.StandingLaws.{next_act}

-- What has acts has name acts: whether a frame can be read decides both.
pub name_acts : (k next : Known) (names : NameSession) (s : Session) (t : Transfer) (acts : List Act)
    → AreReadActs k s t acts next → (said : List NameAct) × AreNameActs k.agreed names t said
name_acts k next names s (transfer.Request bytes) acts (inl (q, is, does), offered) =
    (request_acts q.0 q.1, inl (q, is, refl))
name_acts k next names s (transfer.Request bytes) acts (inr (none, does), offered) = (Unsure ∷ [], inr (none, refl))
name_acts k next names s (transfer.Written bytes t) acts (inl (head, does)) =
    (written_acts (waits names (number_in bytes.now)) bytes.now t, inl (head, refl))
name_acts k next names s (transfer.Written bytes t) acts (inr (none, does, same)) = ([], inr (none, refl))
name_acts k next names s transfer.SeveralReaders acts are = (Unsure ∷ [], refl)
name_acts k next names s transfer.SeveralWriters acts are = (Unsure ∷ [], refl)
name_acts k next names s transfer.Ended acts are = ([], refl)

pub none_there : {A : Type 0} (o : Option A) (test : Bool) → test ≡ is_some o → test ≡ false → o ≡ None
none_there None test is none = refl
none_there (Some x) test is none = absurd (true≢false (sym is ∙ none))

at_none : {A : Type 0} (P : Type 0) (Q : A → Type 0) (o : Option A) → o ≡ None → MatchOption o P Q → P
at_none P Q o is h = rw is at h

from_none : {A : Type 0} (P : Type 0) (Q : A → Type 0) (o : Option A) → o ≡ None → P → MatchOption o P Q
from_none P Q o is h = rw is h

-- ---- what forgets leave

-- the acts that were passed, with what the next one leaves
pub left_more : (n : NameSession) (f : Act → List NameAct) (acts : List Act) (i : ℕ) (a : Act) → i < length acts
    → (n ++ flat_map f (take i acts)) ++ f (get_or acts i a) ≡ n ++ flat_map f (take (i + 1) acts)
left_more n f acts i a within =
    append_assoc n (flat_map f (take i acts)) (f (get_or acts i a))
    ∙ ap (λ l. n ++ l)
    (ap (λ l. flat_map f (take i acts) ++ l) (sym (append-nil (f (get_or acts i a))))
    ∙ sym (flat_map-append f (take i acts) (get_or acts i a ∷ []))
    ∙ ap (flat_map f) (next_act [] acts i a within))

-- ---- the act of a removal

-- it is none of those that are passed
pub removal_passed : (a : Act) (acts : List Act)
    → ((opcode : Option Opcode) (unique : ℕ) → a ≡ Read opcode unique → ⊥) → removal_in (a ∷ acts) ≡ removal_in acts
removal_passed (Read opcode unique) acts other = absurd (other opcode unique refl)
removal_passed a acts other = refl

-- ---- one transfer more

-- The names of a transfer of a session that is judged, with what its forgets leave.
pub judged_names : (k next : Known) (names : NameSession) (s : Session) (t : Transfer) (acts : List Act) (is_missing : Bool)
    (Seen Left : NameSession → Type 0) → k.unjudged ≡ None → AreActs k s t acts next
    → ((said : List NameAct) → AreNameActs k.agreed names t said → is_missing ≡ has_fault names said)
    → ((said : List NameAct) → AreNameActs k.agreed names t said → Seen (names ++ said))
    → ((n : NameSession) → Seen n → Left (n ++ flat_map (leaves (s ++ acts)) acts))
    → (after : NameSession) × AreNamesAfter k names s t acts after is_missing × Left after
judged_names k next names s t acts is_missing Seen Left is are verdict seen left =
    let (said, names_are) = name_acts k next names s t acts (at_none _ _ k.unjudged is are) in
    let later = flat_map (leaves (s ++ acts)) acts in (
      names ++ (said ++ later),
      from_none _ _ k.unjudged is (said, names_are, verdict said names_are, refl),
      subst Left (append_assoc names said later) (left (names ++ said) (seen said names_are)),
    )
