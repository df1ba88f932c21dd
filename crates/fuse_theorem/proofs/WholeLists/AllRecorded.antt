-- Every list of events has records.
use Rattle.std.proofs.Common.{◌≢◌, ◌⊎◌, List, [], ◌∷◌, ◌++◌, inl, inr, All}
use Rattle.std.proofs.lemmas.List.Elements.{All-nil, All-cons, All-append}
use Rattle.fuse_spec.specs.declared.Refusal.{Refusal}
use Rattle.fuse_spec.specs.declared.Refusal.TheVariants.{NoMemory}
use Rattle.fuse_spec.specs.Calls.Answers.{Answer}
use Rattle.fuse_spec.specs.Values.Maps.{Map}
use Rattle.fuse_spec.specs.World.Records.{Record, outcome, refused, answers_of, collected}
use Rattle.fuse_spec.specs.World.Events.{Event, Outcome}
use Rattle.fuse_spec.specs.World.Steps.{IsRefused, Happens}
use Rattle.fuse_spec.specs.World.Worlds.{World}
use Rattle.fuse_theorem.specs.Recorded.{Recorded, none_left, one_refused, one_accepted}
use Rattle.fuse_theorem.proofs.RefusalCases.NeverMemory.{never_memory}
use Rattle.fuse_theorem.proofs.RefusalCases.SameRefusals.{happens_or_refused}

abbrev NotMemory : Record → Type 0
NotMemory x = x ≢ refused NoMemory

abbrev HasRecords : World → List Event → Type 0
HasRecords w events = (records : List Record) × (after : World) × Recorded w events records after
    × All NotMemory records

answers_not_memory : (answers : Map Answer) → All NotMemory (answers_of answers)
answers_not_memory [] = All-nil NotMemory
answers_not_memory (a ∷ answers) = All-cons NotMemory _ _ (λ is. absurd (cc)) (answers_not_memory answers)

refused_not_memory : (r : Refusal) → r ≢ NoMemory → NotMemory (refused r)
refused_not_memory r apart is = absurd (apart (cc))

-- Each event adds its outcome and the answers, or its refusal, which is not out of memory.
pub has_records : (w : World) (events : List Event)
    → (records : List Record) × (after : World) × Recorded w events records after
    × All (λ (x : Record). x ≢ refused NoMemory) records
has_records w [] = ([], w, none_left w, All-nil NotMemory)
has_records w (e ∷ events) = by (happens_or_refused w e) (λ v. has_records v events)
  where
    by : (((o : Outcome) × (mid : World) × Happens w e o mid) ⊎ ((r : Refusal) × IsRefused w e r))
        → ((v : World) → HasRecords v events) → HasRecords w (e ∷ events)
    by (inl (o, mid, happens)) rest =
        let more = rest (collected mid) in
        let answers = answers_of mid.kernel.vfs.answers in (
          outcome o ∷ answers ++ more.0,
          more.1,
          one_accepted w e o mid events more.0 more.1 happens more.2,
          All-cons NotMemory (outcome o) (answers ++ more.0) (λ is. absurd (cc))
              (All-append NotMemory answers more.0 (answers_not_memory mid.kernel.vfs.answers) more.3),
        )
    by (inr (r, is)) rest =
        let more = rest w in (
          refused r ∷ more.0,
          more.1,
          one_refused w e r events more.0 more.1 (inl is) more.2,
          All-cons NotMemory (refused r) more.0 (refused_not_memory r (never_memory w e r is)) more.3,
        )
