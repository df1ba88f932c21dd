-- The counts with one transfer more are those of what was judged.
use Rattle.std.proofs.Common.{◌≡◌, ◌+◌, ◌++◌, ℕ, List, [], ◌∷◌, Option, sym, ap, ◌∙◌}
use Rattle.std.specs.Prelude.{sum_by}
use Rattle.std.proofs.lemmas.List.Sums.{sum_by-append, sum_by_push}
use Rattle.fuse_sessions.specs.declared.act.Act.{Act}
use Rattle.fuse_sessions.specs.declared.fault.Fault.{Fault}
use Rattle.fuse_sessions.specs.declared.fault.Party.{Party}
use Rattle.fuse_sessions.specs.declared.fault.Party.TheVariants as party
use Rattle.fuse_sessions.specs.declared.known.Known.{Known}
use Rattle.fuse_sessions.specs.declared.transfer.Transfer.{Transfer}
use Rattle.name_sessions.specs.NameSessions.{NameSession}
use Rattle.fw_check.specs.declared.counts.Counts.{Counts}
use Rattle.fw_check.specs.declared.past.Trace.{Trace}
use Rattle.fw_check.specs.Checks.{Judged}
use Rattle.fw_check.specs.Counting.{CountsMore}
use Rattle.fw_check.specs.Running.{AreCounts, judged_after}
use Rattle.fw_check.specs.Summary.{ExchangeState}
use Rattle.fw_check.specs.Tallies.{entries_of, forgotten_by, is_notification, is_of, is_refused, is_reply, is_request, one_if}

-- a sum with more elements
with_more : {T : Type 0} (f : T → ℕ) (xs ys : List T) (old new : ℕ) → old ≡ sum_by f xs → new ≡ old + sum_by f ys
    → new ≡ sum_by f (xs ++ ys)
with_more f xs ys old new was is = is ∙ ap (λ n. n + sum_by f ys) was ∙ sym (sum_by-append f xs ys)

with_one : {T : Type 0} (f : T → ℕ) (xs : List T) (y : T) (old new : ℕ) → old ≡ sum_by f xs → new ≡ old + f y
    → new ≡ sum_by f (xs ++ y ∷ [])
with_one f xs y old new was is = is ∙ ap (λ n. n + f y) was ∙ sym (sum_by_push f xs y)

pub counts_after : (j : Judged) (t : Transfer) (acts : List Act) (names : NameSession) (verdicts : List (Option Fault)) (known : Known) (exchanges : ExchangeState) (past : List Trace) (text : List ℕ)
    (old new : Counts) → AreCounts j old → CountsMore old t acts verdicts new
    → AreCounts (judged_after j t acts names verdicts known exchanges past text) new
counts_after j t acts names verdicts known exchanges past text old new are more = record {
  requests = with_one (λ x. one_if (is_request x)) j.transfers t _ _ are.requests more.requests;
  replies = with_one (λ x. one_if (is_reply x)) j.transfers t _ _ are.replies more.replies;
  notifications = with_one (λ x. one_if (is_notification x)) j.transfers t _ _ are.notifications more.notifications;
  refused = with_one (λ x. one_if (is_refused x)) j.transfers t _ _ are.refused more.refused;
  entries = with_more entries_of j.acts acts _ _ are.entries more.entries;
  forgotten = with_more forgotten_by j.acts acts _ _ are.forgotten more.forgotten;
  kernel = faults party.Kernel _ _ are.kernel more.kernel;
  server = faults party.Server _ _ are.server more.server;
  device = faults party.Device _ _ are.device more.device;
  warnings = faults party.Nobody _ _ are.warnings more.warnings;
}
  where
    faults : (p : Party) (was is : ℕ) → was ≡ sum_by (λ v. one_if (is_of p v)) j.verdicts
        → is ≡ was + sum_by (λ v. one_if (is_of p v)) verdicts → is ≡ sum_by (λ v. one_if (is_of p v)) (j.verdicts ++ verdicts)
    faults p was is = with_more (λ v. one_if (is_of p v)) j.verdicts verdicts was is
