-- What is seen of a transfer.
use Rattle.std.proofs.Common.{◌≡◌, ℕ, Bool, false, inl, List, [], ◌++◌, refl, sym}
use Rattle.fuse_protocol.specs.declared.agreed.Agreed.{Agreed}
use Rattle.fuse_protocol.specs.declared.opcode.Opcode.{Opcode}
use Rattle.fuse_protocol.specs.Requests.{RequestMessage, IsRequest}
use Rattle.fuse_protocol.specs.Table.{row_at}
use Rattle.fuse_sessions.specs.declared.act.Taken.{Taken}
use Rattle.fuse_sessions.specs.Frames.{IsHead, number_in}
use Rattle.name_sessions.specs.NameActs.{NameAct}
use Rattle.name_sessions.specs.NameFrames.{AreRequestActs, AreWrittenActs, has_fault}
use Rattle.name_sessions.specs.NameSessions.{NameSession, waits}
use Rattle.name_sessions.specs.RequestNames.{request_acts}
use Rattle.name_sessions.specs.ReplyNames.{written_acts}
use Rattle.name_sessions.proofs.FaultLaws.{quiet_doubts, quiet_faults, quiet_written, request_undoubted}
use Rattle.name_judge.specs.declared.tables.Tables.{Tables}
use Rattle.name_judge.specs.Seen.{AreRight, IsSeen}
use Rattle.name_judge.proofs.ReplyLaws.{none_on}

module _ {A : Type 0} (s : NameSession) (t : Tables A) where
  pub seen_request : (agreed : Agreed) (bytes : List ℕ) (o : Opcode) (m : RequestMessage) (fault : Bool)
      → IsRequest agreed bytes (row_at o) m → fault ≡ has_fault s (request_acts o m)
      → AreRight (s ++ request_acts o m) t → IsSeen (AreRequestActs agreed bytes) s t fault
  seen_request agreed bytes o m fault is said right = record {
    acts = request_acts o m;
    are = inl ((o, m), is, refl);
    said = said;
    certain = request_undoubted o m;
    right = right;
  }

  pub seen_written : (bytes : List ℕ) (taken : Taken) → IsHead bytes
      → AreRight (s ++ written_acts (waits s (number_in bytes)) bytes taken) t
      → IsSeen (AreWrittenActs s bytes taken) s t false
  seen_written bytes taken head right =
      let o = waits s (number_in bytes) in
      record {
        acts = written_acts o bytes taken;
        are = inl (head, refl);
        said = sym (quiet_faults s (written_acts o bytes taken) (quiet_written o bytes taken));
        certain = quiet_doubts (written_acts o bytes taken) (quiet_written o bytes taken);
        right = right;
      }

  -- no act is seen
  pub seen_none : (Are : List NameAct → Type 0) → Are [] → AreRight s t → IsSeen Are s t false
  seen_none Are are right = record { acts = []; are = are; said = refl; certain = refl; right = none_on s t right }
