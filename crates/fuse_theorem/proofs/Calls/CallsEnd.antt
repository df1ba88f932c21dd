-- A call that is answered and collected is over for good.
use Rattle.std.proofs.Common.{◌≡◌, ℕ, Bool, true, false, cond, List, [], ◌∷◌, ◌++◌, Some, get_or, refl, ap, All}
use Rattle.std.specs.declared.cmp.Ordering.{Ordering}
use Rattle.std.specs.Ordering.{nat_cmp, eq_by_cmp, is_eq}
use Rattle.std.proofs.lemmas.List.Elements.{All-nil, All-cons, All-append}
use Rattle.fuse_spec.specs.Values.Maps.{Map, get}
use Rattle.fuse_spec.specs.Calls.Answers.{Answer}
use Rattle.fuse_spec.specs.World.Worlds.{World}
use Rattle.fuse_spec.specs.World.Events.{Event}
use Rattle.fuse_spec.specs.World.Records.{Record, outcome, refused, link_lost, answered, answers_of, collected}
use Rattle.fuse_spec.specs.Claim.Runs.{IsOver, EndsCall, CallsEnd}
use Rattle.fuse_spec.proofs.Tables.{cmp_same}
use Rattle.fuse_theorem.specs.AnswersSound.{AnswersSound}
use Rattle.fuse_theorem.specs.Recorded.{Recorded, none_left, one_refused, one_accepted}
use Rattle.fuse_theorem.proofs.Answers.AnswersStay.{IsCollected, calls_stay, collected_sound}
use Rattle.fuse_theorem.proofs.Answers.EachAnsweredOnce.{answered_collected}

pub over_is : (w : World) (call : ℕ) → IsOver w call → IsCollected w.kernel.vfs call
over_is w call over = record { begun = over.begun; not_waiting = over.not_waiting; no_answer = over.no_answer }

pub is_over : (w : World) (call : ℕ) → IsCollected w.kernel.vfs call → IsOver w call
is_over w call is = record { begun = is.begun; not_waiting = is.not_waiting; no_answer = is.no_answer }

-- what holds of each call that has an answer holds of the records of all answers
pub all_answers : (P : ℕ → Type 0) (R : Record → Type 0) → ((call : ℕ) (a : Answer) → P call → R (answered call a))
    → (answers : Map Answer) → ((call : ℕ) (a : Answer) → get answers call ≡ Some a → P call)
    → All R (answers_of answers)
all_answers P R reply_matches [] each = All-nil R
all_answers P R reply_matches (e ∷ answers) each =
    let here : get (e ∷ answers) e.0 ≡ Some e.1 = ap (λ (r : Ordering). cond (is_eq r) (Some e.1) (get answers e.0))
    (cmp_same e.0) in
    All-cons R (answered e.0 e.1) (answers_of answers) (reply_matches e.0 e.1 (each e.0 e.1 here))
    (all_answers P R reply_matches answers rest)
  where
    found : (call : ℕ) (a : Answer) (b : Bool) → get answers call ≡ Some a
        → (x : Answer) × (cond b (Some e.1) (get answers call) ≡ Some x)
    found call a true at = (e.1, refl)
    found call a false at = (a, at)

    rest : (call : ℕ) (a : Answer) → get answers call ≡ Some a → P call
    rest call a at = let there = found call a (eq_by_cmp nat_cmp call e.0) at in each call there.0 there.1

-- what ends a call that was not over, where more calls were not
pub ends_before : (old mid new : World) → ((call : ℕ) → IsOver old call → IsOver mid call) → (r : Record)
    → EndsCall mid new r → EndsCall old new r
ends_before old mid new stay (answered call a) ends = ((λ over. ends.0 (stay call over)), ends.1)
ends_before old mid new stay (outcome o) ends = tt
ends_before old mid new stay (refused r) ends = tt
ends_before old mid new stay link_lost ends = tt

-- Whatever is recorded of a list of events, each call that it answers is over with it, and one that was over stays so.
pub calls_end : (w : World) → AnswersSound w.kernel.vfs → (events : List Event) (records : List Record) (after : World)
    → Recorded w events records after → CallsEnd w records after
calls_end w sound events records after (none_left v) =
    record { ended = All-nil (EndsCall v v); stay = λ call over. over }
calls_end w sound events records after (one_refused v event refusal rest more last judged recorded) =
    let next = calls_end w sound rest more last recorded in
    record { ended = All-cons (EndsCall v last) (refused refusal) more tt next.ended; stay = next.stay }
calls_end w sound events records after (one_accepted v event o mid rest more last happens recorded) =
    let stay = calls_stay v sound event o mid happens in
    let next = calls_end (collected mid) (collected_sound mid stay.sound) rest more last recorded in
    let answers = mid.kernel.vfs.answers in
    let kept : (call : ℕ) → IsOver v call → IsCollected mid.kernel.vfs call =
    λ call over. stay.still_collected call (over_is v call over) in
    let first : (call : ℕ) → IsOver v call → IsOver (collected mid) call = λ call over. let now =
    kept call over in record { begun = now.begun; not_waiting = now.not_waiting; no_answer = refl } in
    let one : All (EndsCall v last) (answers_of answers) =
    all_answers (λ call. (IsOver v call → ⊥) × IsOver last call) (EndsCall v last) (λ call a ends. ends) answers
    (λ call a at. (
      (λ over. let now = kept call over in absurd (cc (at, now.no_answer))),
      next.stay call (is_over (collected mid) call (answered_collected mid stay.sound call a at)),
    )) in
    record {
      ended = All-cons (EndsCall v last) (outcome o) (answers_of answers ++ more) tt
          (All-append (EndsCall v last) (answers_of answers) more one
          (λ i r lt. ends_before v (collected mid) last first (get_or more i r) (next.ended i r lt)));
      stay = λ call over. next.stay call (first call over);
    }
