-- Counts, as they are kept.
use Rattle.std.specs.Prelude.{◌≡◌, ◌+◌, ℕ, List, ◌++◌, Option, sum_by}
use Rattle.fuse_sessions.specs.declared.act.Act.{Act}
use Rattle.fuse_sessions.specs.declared.fault.Fault.{Fault}
use Rattle.fuse_sessions.specs.declared.fault.Party.{Party}
use Rattle.fuse_sessions.specs.declared.fault.Party.TheVariants as party
use Rattle.fuse_sessions.specs.declared.transfer.Transfer.{Transfer}
use Rattle.fw_check.specs.declared.counts.Counts.{Counts}
use Rattle.fw_check.specs.declared.remains.Remains.{Remains}
use Rattle.fw_check.specs.Tallies.{entries_of, faults_text, forgotten_by, is_notification, is_of, is_refused, is_reply, is_request, later_text, one_if, transfers_text}

-- how many of these verdicts are faults of a party
abbrev pub faults_in : Party → List (Option Fault) → ℕ
faults_in p verdicts = sum_by (λ v. one_if (is_of p v)) verdicts

-- The counts with one transfer more, its acts and their verdicts.
pub record CountsMore (old : Counts) (t : Transfer) (acts : List Act) (verdicts : List (Option Fault))
    (new : Counts) : Type 0 where
  pub requests : new.requests ≡ old.requests + one_if (is_request t)
  pub replies : new.replies ≡ old.replies + one_if (is_reply t)
  pub notifications : new.notifications ≡ old.notifications + one_if (is_notification t)
  pub refused : new.refused ≡ old.refused + one_if (is_refused t)
  pub entries : new.entries ≡ old.entries + sum_by entries_of acts
  pub forgotten : new.forgotten ≡ old.forgotten + sum_by forgotten_by acts
  pub kernel : new.kernel ≡ old.kernel + faults_in party.Kernel verdicts
  pub server : new.server ≡ old.server + faults_in party.Server verdicts
  pub device : new.device ≡ old.device + faults_in party.Device verdicts
  pub warnings : new.warnings ≡ old.warnings + faults_in party.Nobody verdicts

-- the last two lines
abbrev pub counts_lines : Remains → Counts → List ℕ
counts_lines r c = transfers_text c.requests c.replies c.notifications c.refused
    ++ later_text r c.entries c.forgotten ++ faults_text c.kernel c.server c.device c.warnings
