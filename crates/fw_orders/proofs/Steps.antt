-- The steps of an order, put together.
use Rattle.std.proofs.Common.{◌≡◌, ℕ, ◌+◌, List, [], ◌∷◌, ◌++◌, Option, Some, None, Result, Ok, Err, IfOk, OnOk, inl, inr, option_map, ap, sym, subst, ◌∙◌, append_assoc}
use Rattle.std.specs.Prelude.{codes, decimal}
use Rattle.fuse_spec.specs.World.Events.{Event, Outcome, is_read, perform, read_forgets, read_interrupt, read_pending, settle, take, write}
use Rattle.fuse_spec.specs.declared.Refusal.{Refusal}
use Rattle.fuse_spec.specs.declared.Refusal.TheVariants.{NoMemory}
use Rattle.fuse_spec.specs.World.Steps.{Happens, IsRefused, RefusedWith}
use Rattle.fw_world.specs.Values.{outcome_of}
use Rattle.fw_world.specs.declared.event.Outcome.{Outcome as OutcomeValue}
use Rattle.fuse_spec.specs.World.Worlds.{World}
use Rattle.order_law.specs.Moments.{Acts, AllTried, Answered, Asked, Carried, Forgotten, InterruptRead, IsLacking, Moment, RepliesTaken, Tried, all_read, by_line, happens, is_refused, line, no_event, none_left, none_pending, none_queued, one_event, one_left, one_pending, one_queued, one_read, said}
use Rattle.fw_orders.specs.Attempts.{AreTried, Attempted, AttemptedIn, CannotHappen, ForgetRead, IsTried, ReplyTaken, in_world, one_more_left, then_said}

pub on_ok : {T E P Q : Type 0} (r : Result T E) → (P → Q) → OnOk r P → OnOk r Q
on_ok (Ok value) f p = f p
on_ok (Err error) f p = tt

-- ---- events

-- a refusal for another reason than memory
pub refused : (w : World) (event : Event) (refusal : Refusal) → (refusal ≡ NoMemory → ⊥)
    → RefusedWith w event refusal → IsRefused w event refusal
refused w event refusal other (inl is) = is
refused w event refusal other (inr out) = absurd (other out.out_of_memory)

pub attempted : (m new : Moment) (event : Event) {E : Type 0} (r : Result (Option OutcomeValue) E) (w : World)
    → new ≡ in_world m w → IfOk r (λ o. AttemptedIn m.world event (option_map outcome_of o) w)
    → IfOk r (λ o. Attempted m event (option_map outcome_of o) new)
attempted m new event (Ok (Some o)) w is fact = (w, fact, is)
attempted m new event (Ok None) w is fact = (fact.0, is ∙ ap (in_world m) fact.1)
attempted m new event (Err e) w is fact = tt

pub tried : (m new : Moment) (event : Event) (o : Option Outcome) → Attempted m event o new → IsTried m event new
tried m new event (Some outcome) a = (a.0, happens outcome a.0 a.1, a.2)
tried m new event None a = (m.world, is_refused a.0.0 a.0.1, a.1)

pub both : (m m1 new : Moment) (first second : Event) → IsTried m first m1 → IsTried m1 second new
    → AreTried m (first ∷ second ∷ []) new
both m m1 new first second t u =
    let there : Tried t.0 second u.0 = subst (λ (w : World). Tried w second u.0) (ap (λ (x : Moment). x.world) t.2) u.1 in (
      u.0,
      one_event m.world first t.0 (second ∷ []) u.0 t.1 (one_event t.0 second u.0 [] u.0 there (no_event u.0)),
      u.2 ∙ ap (λ (x : Moment). in_world x u.0) t.2,
    )

-- ---- the script

-- the same world with another script
abbrev with_script : Moment → List ℕ → Moment
with_script m script = record { world = m.world; script = script; left = m.left }

pub said_twice : (m m1 new : Moment) (text more : List ℕ) → m1 ≡ then_said m text → new ≡ then_said m1 more
    → new ≡ then_said m (text ++ more)
said_twice m m1 new text more first second = second ∙ ap (λ (x : Moment). then_said x more) first
    ∙ ap (with_script m) (append_assoc m.script text more)

pub by_text : (m m1 m2 new : Moment) (text : List ℕ) (event : Event) → m1 ≡ then_said m text
    → m2 ≡ then_said m1 (codes "\n") → IsTried m2 event new → Acts m (line text event) new
by_text m m1 m2 new text event first second t =
    let is = said_twice m m1 m2 text (codes "\n") first second in
    subst (Acts m (line text event)) (sym (t.2 ∙ ap (λ (x : Moment). in_world x t.0) is))
    (by_line text event t.0 (subst (λ (w : World). Tried w event t.0) (ap (λ (x : Moment). x.world) is) t.1))

-- ---- what is read

-- A request is read and taken, with a text in the script.
pub record ReadAndTaken (m : Moment) (event : Event) (text : List ℕ) (new : Moment) : Type 0 where
  pub unique : ℕ
  pub first : World
  pub w : World
  pub reads : Happens m.world event (is_read unique) first
  pub takes : Tried first (take 0) w
  pub is : new ≡ said m text w

pub read_and_taken : (m m1 m2 new : Moment) (event : Event) (unique : ℕ) (text : List ℕ)
    → Attempted m event (Some (is_read unique)) m1 → m2 ≡ then_said m1 text → IsTried m2 (take 0) new
    → ReadAndTaken m event text new
read_and_taken m m1 m2 new event unique text a says t =
    let is = says ∙ ap (λ (x : Moment). then_said x text) a.2 in
    record {
      unique = unique;
      first = a.0;
      w = t.0;
      reads = a.1;
      takes = subst (λ (w : World). Tried w (take 0) t.0) (ap (λ (x : Moment). x.world) is) t.1;
      is = t.2 ∙ ap (λ (x : Moment). in_world x t.0) is;
    }

pub interrupt_read : (m new : Moment) → ReadAndTaken m read_interrupt (codes "read i\n") new → InterruptRead m new
interrupt_read m new r = subst (InterruptRead m) (sym r.is) (one_queued r.unique r.first r.w r.reads r.takes)

pub no_interrupt : (m new : Moment) → Attempted m read_interrupt None new → InterruptRead m new
no_interrupt m new a = subst (InterruptRead m) (sym a.1) (none_queued a.0.0 a.0.1)

pub forget_read : (m new : Moment) → ReadAndTaken m (read_forgets 1) (codes "read f 1\n") new → ForgetRead m new
forget_read m new r = record { unique = r.unique; first = r.first; w = r.w; reads = r.reads; tries = r.takes; is = r.is }

abbrev written : World → List ℕ → ℕ → Moment
written w script left = record { world = w; script = script; left = left }

pub asked : (m m1 m2 m3 m4 new : Moment) (place unique : ℕ)
    → Attempted m (read_pending place) (Some (is_read unique)) m1
    → m2 ≡ then_said m1 (codes "read p " ++ decimal place ++ codes "\n")
    → AreTried m2 (take 0 ∷ perform unique ∷ []) m3 → m4 ≡ one_more_left m3 → InterruptRead m4 new
    → Asked m place new
asked m m1 m2 m3 m4 new place unique a says t more reads =
    let text = codes "read p " ++ decimal place ++ codes "\n" in
    let is : m2 ≡ then_said m1 text = says in
    let at : m2 ≡ said m text a.0 = is ∙ ap (λ (x : Moment). then_said x text) a.2 in
    record {
      unique = unique;
      first = a.0;
      served = t.0;
      read = a.1;
      serves = subst (λ (w : World). AllTried w (take 0 ∷ perform unique ∷ []) t.0) (ap (λ (x : Moment). x.world) at) t.1;
      interrupted = subst (λ (x : Moment). InterruptRead x new)
          (more ∙ ap one_more_left (t.2 ∙ ap (λ (x : Moment). in_world x t.0) at)
          ∙ ap (λ (script : List ℕ). written t.0 script (m.left + 1)) (simp append_assoc)) reads;
    }

-- ---- replies

pub reply_taken : (m m1 m2 new : Moment) → m ≡ one_more_left m1 → m2 ≡ then_said m1 (codes "write\n")
    → AreTried m2 (write 0 ∷ settle 0 ∷ []) new → ReplyTaken m new
reply_taken m m1 m2 new had says t = record {
  left = m1.left;
  had = ap (λ (x : Moment). x.left) had;
  w = t.0;
  tries = subst (λ (w : World). AllTried w (write 0 ∷ settle 0 ∷ []) t.0)
      (ap (λ (x : Moment). x.world) says ∙ ap (λ (x : Moment). x.world) (sym had)) t.1;
  is = t.2 ∙ ap (λ (x : Moment). in_world x t.0) says
      ∙ ap (λ (script : List ℕ). written t.0 (script ++ codes "write\n") m1.left)
      (ap (λ (x : Moment). x.script) (sym had));
}

pub reply_then : (m mid last : Moment) → ReplyTaken m mid → RepliesTaken mid last → RepliesTaken m last
reply_then m mid last t more = one_left m t.left t.w last t.had t.tries
    (subst (λ (x : Moment). RepliesTaken x last) t.is more)

pub no_reply : (m new : Moment) → (m.left ≡ 0) × (new ≡ m) → RepliesTaken m new
no_reply m new none = subst (RepliesTaken m) (sym none.1) (none_left m none.0)

-- ---- forgets and requests, one after another

pub forget_then : (m mid last : Moment) → ForgetRead m mid → Forgotten mid last → Forgotten m last
forget_then m mid last t more = one_read m t.unique t.first t.w last t.reads t.tries
    (subst (λ (x : Moment). Forgotten x last) t.is more)

pub no_forget : (m new : Moment) → CannotHappen m (read_forgets 1) × (new ≡ m) → Forgotten m new
no_forget m new none = subst (Forgotten m) (sym none.1) (all_read m none.0.0 none.0.1)

pub no_request : (m new : Moment) → IsLacking m 0 × (new ≡ m) → Carried m new
no_request m new none = subst (Carried m) (sym none.1) (none_pending m none.0)

pub request_then : (m mid last : Moment) → Answered m 0 mid → Carried mid last → Carried m last
request_then m mid last a more = one_pending m mid last a more
