-- What went over a device, as name acts.
use Rattle.std.specs.Prelude.{◌≡◌, ◌⊎◌, ℕ, Bool, true, false, MatchOption, ◌||◌, ◌&&◌, not, List, [], ◌∷◌, ◌++◌, nat_eq, if◌then◌else◌}
use Rattle.std.specs.List.{flat_map}
use Rattle.fuse_protocol.specs.declared.agreed.Agreed.{Agreed}
use Rattle.fuse_sessions.specs.declared.act.Act.{Act}
use Rattle.fuse_sessions.specs.declared.act.Act.TheVariants.{Forgets}
use Rattle.fuse_sessions.specs.declared.act.Taken.{Taken}
use Rattle.fuse_sessions.specs.declared.known.Known.{Known}
use Rattle.fuse_sessions.specs.declared.transfer.Transfer.{Transfer}
use Rattle.fuse_sessions.specs.declared.transfer.Transfer.TheVariants as transfer
use Rattle.fuse_sessions.specs.Counts.{most_count}
use Rattle.fuse_sessions.specs.Frames.{Reads, IsRequestOf, IsHead, number_in}
use Rattle.fuse_sessions.specs.Sessions.{Session}
use Rattle.name_sessions.specs.NameActs.{NameAct, Unsure, Leaves}
use Rattle.name_sessions.specs.NameSessions.{NameSession, waits, is_fault}
use Rattle.name_sessions.specs.RequestNames.{request_acts}
use Rattle.name_sessions.specs.ReplyNames.{written_acts}

-- A request is one of a row. Of another nothing is known, nor what its reply does.
abbrev pub AreRequestActs : Agreed → List ℕ → List NameAct → Type 0
AreRequestActs agreed bytes acts =
    Reads (IsRequestOf agreed bytes) (λ q. acts ≡ request_acts q.0 q.1) (acts ≡ Unsure ∷ [])

abbrev pub AreWrittenActs : NameSession → List ℕ → Taken → List NameAct → Type 0
AreWrittenActs s bytes t acts = (IsHead bytes × (acts ≡ written_acts (waits s (number_in bytes)) bytes t))
    ⊎ ((IsHead bytes → ⊥) × (acts ≡ []))

-- These are the name acts of the next transfer, by what the two sides agreed on. With several threads another order may
-- have been at the kernel.
abbrev pub AreNameActs : Agreed → NameSession → Transfer → List NameAct → Type 0
AreNameActs agreed s (transfer.Request bytes) acts = AreRequestActs agreed bytes.now acts
AreNameActs agreed s (transfer.Written bytes t) acts = AreWrittenActs s bytes.now t acts
AreNameActs agreed s transfer.SeveralReaders acts = acts ≡ Unsure ∷ []
AreNameActs agreed s transfer.SeveralWriters acts = acts ≡ Unsure ∷ []
AreNameActs agreed s transfer.Ended acts = acts ≡ []

-- Some of the next acts is a fault.
abbrev pub has_fault : NameSession → List NameAct → Bool
has_fault s [] = false
has_fault s (act ∷ acts) = is_fault s act || has_fault (s ++ act ∷ []) acts

-- A FORGET after which a node has no lookup leaves nothing of it, but of the root. `later` is the session with the
-- transfer.
abbrev pub leaves : (later : Session) → Act → List NameAct
leaves later (Forgets node lookups) =
    if not (nat_eq node 1) && nat_eq (most_count later node) 0 then Leaves node ∷ [] else []
leaves later act = []

-- One transfer more, by what was known before it: its name acts, and behind them what its forgets leave. Of a session that
-- is not judged any more no name is.
abbrev pub AreNamesAfter : Known → NameSession → Session → Transfer → List Act → (after : NameSession)
    → (is_missing : Bool) → Type 0
AreNamesAfter k names s t acts after is_missing = MatchOption k.unjudged
    ((said : List NameAct) × AreNameActs k.agreed names t said × (is_missing ≡ has_fault names said)
    × (after ≡ names ++ (said ++ flat_map (leaves (s ++ acts)) acts)))
    (λ why. (is_missing ≡ false) × (after ≡ names))

-- Of a session that is joined nothing is certain.
abbrev pub start_names : (is_joined : Bool) → NameSession
start_names true = Unsure ∷ []
start_names false = []
