-- No state of the world has an event refused as out of memory or for a lost link.
use Rattle.std.proofs.Common.{◌≢◌, ℕ, inl, inr}
use Rattle.fuse_spec.specs.declared.Refusal.{Refusal}
use Rattle.fuse_spec.specs.declared.Refusal.TheVariants.{NoMemory, LinkLost}
use Rattle.fuse_spec.specs.World.Events.{Event}
use Rattle.fuse_spec.specs.World.Refusals.{Refuses, too_long, in_use, clock_ends, not_ready, too_many, not_live, interrupt_first, names_nothing, none_kept, not_current, pinned_or_bound, counted_too_often, copied_too_often, past_its_end}
use Rattle.fuse_spec.specs.World.Steps.{IsRefused, RefusedWith}
use Rattle.fuse_spec.specs.World.Worlds.{World}
use Rattle.fuse_theorem.proofs.Refining.Choosing.{some_choice}
use Rattle.fuse_theorem.proofs.RefusalCases.RefusalsByCases.{only_refused}

-- Which refusals the machine has.
record IsJudged (r : Refusal) : Type 0 where
  not_memory : r ≢ NoMemory
  not_link : r ≢ LinkLost

by_case : (choice : ℕ → ℕ) (w : World) (e : Event) (r : Refusal) → Refuses choice w e r → IsJudged r
by_case choice w e r (too_long f m v far) = record {
  not_memory = λ is. absurd (cc is);
  not_link = λ is. absurd (cc is);
}
by_case choice w e r (in_use f m v near used) = record {
  not_memory = λ is. absurd (cc is);
  not_link = λ is. absurd (cc is);
}
by_case choice w e r (clock_ends ms end) = record { not_memory = λ is. absurd (cc is); not_link = λ is. absurd (cc is) }
by_case choice w e r (not_ready call down) = record {
  not_memory = λ is. absurd (cc is);
  not_link = λ is. absurd (cc is);
}
by_case choice w e r (too_many call ready full) =
    record { not_memory = λ is. absurd (cc is); not_link = λ is. absurd (cc is) }
by_case choice w e r (not_live _ needs down) = record {
  not_memory = λ is. absurd (cc is);
  not_link = λ is. absurd (cc is);
}
by_case choice w e r (interrupt_first _ reads live queued) =
    record { not_memory = λ is. absurd (cc is); not_link = λ is. absurd (cc is) }
by_case choice w e r (names_nothing _ live free nothing) =
    record { not_memory = λ is. absurd (cc is); not_link = λ is. absurd (cc is) }
by_case choice w e r (none_kept unique none) = record {
  not_memory = λ is. absurd (cc is);
  not_link = λ is. absurd (cc is);
}
by_case choice w e r (not_current unique kept there old) =
    record { not_memory = λ is. absurd (cc is); not_link = λ is. absurd (cc is) }
by_case choice w e r (pinned_or_bound node counted live there kept) =
    record { not_memory = λ is. absurd (cc is); not_link = λ is. absurd (cc is) }
by_case choice w e r (counted_too_often unique held there many) =
    record { not_memory = λ is. absurd (cc is); not_link = λ is. absurd (cc is) }
by_case choice w e r (copied_too_often unique kept there current many) =
    record { not_memory = λ is. absurd (cc is); not_link = λ is. absurd (cc is) }
by_case choice w e r (past_its_end _ o after allocated leads past) =
    record { not_memory = λ is. absurd (cc is); not_link = λ is. absurd (cc is) }

judged : (w : World) (e : Event) (r : Refusal) → IsRefused w e r → IsJudged r
judged w e r refused = let some = some_choice w e in
    by_case some.0 w e r (only_refused some.0 w e r (refused some.0 some.1))

-- What is refused whatever the server chooses is not refused as out of memory.
pub never_memory : (w : World) (e : Event) (r : Refusal) → IsRefused w e r → r ≢ NoMemory
never_memory w e r refused = (judged w e r refused).not_memory

-- Nor is it for a lost link, and out of memory is no lost link.
pub never_link_lost : (w : World) (e : Event) (r : Refusal) → RefusedWith w e r → r ≢ LinkLost
never_link_lost w e r (inl refused) = (judged w e r refused).not_link
never_link_lost w e r (inr wants) = λ is. absurd (cc (wants.out_of_memory, is))
