-- Parts, one line more at a time.
use Rattle.std.proofs.Common.{◌≡◌, ◌≢◌, ◌⊎◌, ◌<◌, ◌≤◌, ◌+◌, ◌++◌, ◌∷◌, [], ℕ, List, Option, Some, None, Result, Ok, Err, IfErr, length, map, refl, ap, sym, subst, ◌∙◌, arith, append_assoc, length-append}
use Rattle.std.proofs.lemmas.List.{map-append, same_from_push}
use Rattle.order_law.specs.Moments.{Act, Part, group}
use Rattle.order_law.specs.Moments.{alone as alone_part}
use Rattle.fw_orders.specs.FileLines.{EndInGroup, FileLine, IsGroup, IsLeftOut, Make, Together, alone, call, calls_in, first_of, group_of, ninth, no_part, one_alone, one_group, second, step, steps_in, together}
use Rattle.fw_orders.specs.Reading.{GroupTaken, IsFull, IsJoined, LeavesOut, a_call, a_step, fresh, last}
use Rattle.fw_orders.specs.FileLines.{LineSays}
use Rattle.fw_orders.specs.Reading.{AddsNot, not_joined}
use Rattle.fw_orders.specs.Saying.{part_of, parts_of}
use Rattle.fw_orders.specs.declared.part.Part.{Part as CodePart}
use Rattle.fw_orders.specs.declared.fault.LinesFault.{LinesFault}
use Rattle.fw_orders.specs.declared.fault.LinesFault.TheVariants as file_faults
use Rattle.fw_orders.specs.declared.read.NotAdded.{NotAdded}
use Rattle.fw_orders.specs.declared.read.NotAdded.TheVariants as not_added

no_end : {A : Type 0} (xs : List A) (x : A) → [] ≡ xs ++ x ∷ [] → ⊥
no_end [] x e = absurd (cc)
no_end (y ∷ xs) x e = absurd (cc)

-- ---- the calls and the steps of what runs together

call_more : (run : List Together) (act : Act) → calls_in (run ++ call act ∷ []) ≡ calls_in run ++ act ∷ []
call_more [] act = refl
call_more (call first ∷ run) act = ap (λ (acts : List Act). first ∷ acts) (call_more run act)
call_more (step first ∷ run) act = call_more run act

no_call_more : (run : List Together) (act : Act) → calls_in (run ++ step act ∷ []) ≡ calls_in run
no_call_more [] act = refl
no_call_more (call first ∷ run) act = ap (λ (acts : List Act). first ∷ acts) (no_call_more run act)
no_call_more (step first ∷ run) act = no_call_more run act

step_more : (run : List Together) (act : Act) → steps_in (run ++ step act ∷ []) ≡ steps_in run ++ act ∷ []
step_more [] act = refl
step_more (call first ∷ run) act = step_more run act
step_more (step first ∷ run) act = ap (λ (acts : List Act). first ∷ acts) (step_more run act)

no_step_more : (run : List Together) (act : Act) → steps_in (run ++ call act ∷ []) ≡ steps_in run
no_step_more [] act = refl
no_step_more (call first ∷ run) act = no_step_more run act
no_step_more (step first ∷ run) act = ap (λ (acts : List Act). first ∷ acts) (no_step_more run act)

none_first : (acts : List Act) → first_of acts ≡ None → acts ≡ []
none_first [] e = refl
none_first (act ∷ acts) e = absurd (cc)

some_first : (acts : List Act) → first_of acts ≢ None → 0 < length acts
some_first [] e = absurd (e refl)
some_first (act ∷ acts) e = omega arith

-- ---- the group at the end

-- The lines end with those of a group.
record EndsSo (said : List FileLine) (rest : List Part) (calls : List Act) (due : Option Act) : Type 0 where
  before : List FileLine
  first : Together
  run : List Together
  split : said ≡ before ++ map together (first ∷ run)
  make : Make before rest
  not_before : ¬ (EndInGroup rest)
  is_group : IsGroup (first ∷ run)
  calls_are : calls_in (first ∷ run) ≡ calls
  due_is : first_of (steps_in (first ∷ run)) ≡ due

ends_so : (said : List FileLine) (old rest : List Part) (calls : List Act) (due : Option Act) → Make said old
    → old ≡ rest ++ group calls due ∷ [] → EndsSo said rest calls due
ends_so _ _ rest calls due no_part e = absurd (no_end rest (group calls due) e)
ends_so _ _ rest calls due (one_alone said parts make act) e =
    let ends = same_from_push parts rest (alone_part act) (group calls due) e in
    let other = ends.1 in absurd (cc)
ends_so _ _ rest calls due (one_group said parts make not first run is) e =
    let ends = same_from_push parts rest (group_of (first ∷ run)) (group calls due) e in
    let same = ends.1 in
    record {
      before = said;
      first = first;
      run = run;
      split = refl;
      make = subst (Make said) ends.0 make;
      not_before = subst (λ (p : List Part). ¬ (EndInGroup p)) ends.0 not;
      is_group = is;
      calls_are = cc;
      due_is = cc;
    }

-- one line more in a group that is there
more_said : (said before : List FileLine) (first one : Together) (run : List Together)
    → said ≡ before ++ map together (first ∷ run)
    → before ++ map together (first ∷ (run ++ one ∷ [])) ≡ said ++ together one ∷ []
more_said said before first one run split =
    ap (λ (xs : List FileLine). before ++ xs) (map-append together (first ∷ run) (one ∷ []))
    ∙ sym (append_assoc before (map together (first ∷ run)) (together one ∷ []))
    ∙ ap (λ (xs : List FileLine). xs ++ together one ∷ []) (sym split)

call_joins : (said : List FileLine) (rest : List Part) (calls : List Act) (due : Option Act) (act : Act)
    → length calls < 8 → EndsSo said rest calls due
    → Make (said ++ together (call act) ∷ []) (rest ++ group (calls ++ act ∷ []) due ∷ [])
call_joins said rest calls due act few ends =
    let run = ends.first ∷ ends.run in
    let more = call_more run act ∙ ap (λ (acts : List Act). acts ++ act ∷ []) ends.calls_are in
    let same = no_step_more run act in
    let size = ap length more ∙ length-append calls (act ∷ []) in
    let steps = ap length same in
    let is : IsGroup (ends.first ∷ (ends.run ++ call act ∷ [])) = record {
      few_calls = omega (arith, size, few);
      one_step = omega (arith, steps, ends.is_group.one_step);
    } in
    let made = one_group ends.before rest ends.make ends.not_before ends.first (ends.run ++ call act ∷ []) is in
    let group_is : group_of (run ++ call act ∷ []) ≡ group (calls ++ act ∷ []) due =
    ap (λ (acts : List Act). group acts (first_of (steps_in (run ++ call act ∷ [])))) more
    ∙ ap (group (calls ++ act ∷ [])) (ap first_of same ∙ ends.due_is) in
    subst (λ (p : Part). Make (said ++ together (call act) ∷ []) (rest ++ p ∷ [])) group_is
    (subst (λ (xs : List FileLine). Make xs (rest ++ group_of (run ++ call act ∷ []) ∷ []))
    (more_said said ends.before ends.first (call act) ends.run ends.split) made)

step_joins : (said : List FileLine) (rest : List Part) (calls : List Act) (due : Option Act) (act : Act)
    → due ≡ None → EndsSo said rest calls due
    → Make (said ++ together (step act) ∷ []) (rest ++ group calls (Some act) ∷ [])
step_joins said rest calls due act none ends =
    let run = ends.first ∷ ends.run in
    let more = step_more run act ∙ ap (λ (acts : List Act). acts ++ act ∷ []) (none_first (steps_in run) (ends.due_is ∙ none)) in
    let same = no_call_more run act in
    let size = ap length same in
    let steps = ap length more in
    let is : IsGroup (ends.first ∷ (ends.run ++ step act ∷ [])) = record {
      few_calls = omega (arith, size, ends.is_group.few_calls);
      one_step = omega (arith, steps);
    } in
    let made = one_group ends.before rest ends.make ends.not_before ends.first (ends.run ++ step act ∷ []) is in
    let group_is : group_of (run ++ step act ∷ []) ≡ group calls (Some act) =
    ap (λ (acts : List Act). group acts (first_of (steps_in (run ++ step act ∷ [])))) (same ∙ ends.calls_are)
    ∙ ap (λ (acts : List Act). group calls (first_of acts)) more in
    subst (λ (p : Part). Make (said ++ together (step act) ∷ []) (rest ++ p ∷ [])) group_is
    (subst (λ (xs : List FileLine). Make xs (rest ++ group_of (run ++ step act ∷ []) ∷ []))
    (more_said said ends.before ends.first (step act) ends.run ends.split) made)

-- a new group
begins : (said : List FileLine) (parts : List Part) (one : Together) → Make said parts → ¬ (EndInGroup parts)
    → Make (said ++ together one ∷ []) (parts ++ group_of (one ∷ []) ∷ [])
begins said parts (call act) make not =
    one_group said parts make not (call act) [] (record { few_calls = omega arith; one_step = omega arith })
begins said parts (step act) make not =
    one_group said parts make not (step act) [] (record { few_calls = omega arith; one_step = omega arith })

module _ (said : List FileLine) (old rest : List Part) (calls : List Act) (due : Option Act) where
  pub joins : (one : Together) (more : List Act) (then : Option Act) → Make said old → GroupTaken old rest calls due
      → IsJoined calls due one more then
      → Make (said ++ together one ∷ []) (rest ++ group more then ∷ [])
  joins _ _ _ make (last is) (a_call act few) = call_joins said rest calls due act few (ends_so said old rest calls due make is)
  joins _ _ _ make (last is) (a_step act none) = step_joins said rest calls due act none (ends_so said old rest calls due make is)
  joins _ _ _ make (fresh same not no_calls no_due) (a_call act few) =
      rw (same, no_calls, no_due) (begins said old (call act) make not)
  joins _ _ _ make (fresh same not no_calls no_due) (a_step act none) =
      rw (same, no_calls) (begins said old (step act) make not)

  pub leaves_out : (one : Together) (why : NotAdded) → Make said old → GroupTaken old rest calls due
      → IsFull calls due one why → LeavesOut said one why
  leaves_out one not_added.NoMemory make taken full = tt
  leaves_out (call act) (not_added.Fault file_faults.TooManyCalls) make (last is) full =
      let ends = ends_so said old rest calls due make is in
      let size = ap length ends.calls_are in
      ninth ends.before (ends.first ∷ ends.run) act ends.split (omega (arith, size, full, ends.is_group.few_calls))
  leaves_out (call act) (not_added.Fault file_faults.TooManyCalls) make (fresh same not no_calls no_due) full =
      let size = ap length no_calls in absurd (omega (arith, size, full))
  leaves_out (step act) (not_added.Fault file_faults.SecondStep) make (last is) full =
      let ends = ends_so said old rest calls due make is in
      let some = some_first (steps_in (ends.first ∷ ends.run)) (λ none. full (sym ends.due_is ∙ none)) in
      second ends.before (ends.first ∷ ends.run) act ends.split (omega (arith, some, ends.is_group.one_step))
  leaves_out (step act) (not_added.Fault file_faults.SecondStep) make (fresh same not no_calls no_due) full =
      absurd (full no_due)
  leaves_out (call act) (not_added.Fault (file_faults.Line f)) make taken full = absurd full
  leaves_out (call act) (not_added.Fault file_faults.SecondStep) make taken full = absurd full
  leaves_out (call act) (not_added.Fault file_faults.TooManyLines) make taken full = absurd full
  leaves_out (step act) (not_added.Fault (file_faults.Line f)) make taken full = absurd full
  leaves_out (step act) (not_added.Fault file_faults.TooManyCalls) make taken full = absurd full
  leaves_out (step act) (not_added.Fault file_faults.TooManyLines) make taken full = absurd full

-- ---- what the code has

pub parts_more : {A : Type 0} (parts new : List (CodePart A)) (part : CodePart A) → new ≡ parts ++ part ∷ []
    → parts_of parts ++ part_of part ∷ [] ≡ parts_of new
parts_more parts new part is = sym (ap parts_of is ∙ map-append part_of parts (part ∷ []))

pub if_err : {T E : Type 0} (P Q : E → Type 0) (r : Result T E) → ((e : E) → P e → Q e) → IfErr r P → IfErr r Q
if_err P Q (Ok value) f p = tt
if_err P Q (Err error) f p = f error p

pub adds_not : (text : List ℕ) (one : Together) (said : List FileLine) → LineSays text (together one)
    → (why : NotAdded) → LeavesOut said one why → AddsNot said text why
adds_not text one said says not_added.NoMemory out = tt
adds_not text one said says (not_added.Fault fault) out = not_joined one says fault out
