-- Where choices lead, one step after another.
use Rattle.std.proofs.Common.{◌≡◌, ℕ, Bool, true, false, MatchBool, List, [], ◌∷◌, Option, Some, None, Result, Ok, Err, IfOk, length, is_some, nat_lt, refl, ap, sym, subst, ◌∙◌, arith}
use Rattle.order_law.specs.Moments.{Act as ActValue, Acts, Answered, Asked, Begun, Carries, IsLacking, Moment, Part as PartValue, Stepped, group, no_call, one_call}
use Rattle.order_search.specs.declared.choice.Choice.{Choice}
use Rattle.order_search.specs.declared.choice.Choice.TheVariants.{Trip, Ask, Step, Over}
use Rattle.order_search.specs.declared.choice.Standing.{Standing}
use Rattle.order_search.specs.declared.choice.Standing.TheVariants.{Ended, Choosing, Lacking}
use Rattle.fw_orders.specs.Following.{Chooses, Follows, IsMissing, Place, alone_next, among, answers, asks, between, chosen, file_over, goes_on, group_next, missing, no_ask, no_step, no_trip, steps, to_choose}
use Rattle.fw_orders.specs.Saying.{act_of, acts_of, part_of, parts_of, step_of}
use Rattle.fw_orders.specs.declared.act.Act.{Act}
use Rattle.fw_orders.specs.declared.part.Part.{Part}
use Rattle.fw_orders.specs.declared.part.Part.TheVariants.{Alone}

pub if_ok : {T E : Type 0} (P Q : T → Type 0) (r : Result T E) → ((x : T) → P x → Q x) → IfOk r P → IfOk r Q
if_ok P Q (Ok value) f p = f value p
if_ok P Q (Err error) f p = tt

-- no call, or one call more is made
pub begun_all : (m : Moment) (calls : List Act) → length calls ≡ 0 → Begun m (acts_of calls) m
begun_all m [] none = no_call m
begun_all m (call ∷ calls) none = absurd (omega (arith, none))

pub begun_then : (m mid last : Moment) (calls rest : List Act) (call : Act) → calls ≡ call ∷ rest
    → Acts m (act_of call) mid → Begun mid (acts_of rest) last → Begun m (acts_of calls) last
begun_then m mid last calls rest call split acts more =
    subst (λ (xs : List Act). Begun m (acts_of xs) last) (sym split)
    (one_call m (act_of call) mid (acts_of rest) last acts more)

module _ {A : Type 0} where
  pub at_end : (m new : Moment) (parts : List (Part A)) (choices : List Choice) → new ≡ m → length parts ≡ 0
      → Follows m between (parts_of parts) choices Ended new
  at_end m new [] choices same none = subst (Follows m between [] choices Ended) (sym same) (file_over m choices)
  at_end m new (part ∷ parts) choices same none = absurd (omega (arith, none))

  pub alone_then : (m mid new : Moment) (parts rest : List (Part A)) (part : Part A) (act : Act)
      (choices : List Choice) (standing : Standing) → parts ≡ part ∷ rest → part ≡ Alone act
      → Carries m (act_of act) mid → Follows mid between (parts_of rest) choices standing new
      → Follows m between (parts_of parts) choices standing new
  alone_then m mid new parts rest part act choices standing split is carries more =
      subst (λ (xs : List (Part A)). Follows m between (parts_of xs) choices standing new)
      (sym (split ∙ ap (λ (p : Part A). p ∷ rest) is))
      (alone_next m mid (act_of act) (parts_of rest) choices standing new carries more)

  pub group_then : (m mid new : Moment) (parts rest : List (Part A)) (part : Part A) (calls : List Act)
      (step : Option Act) (choices : List Choice) (standing : Standing) → parts ≡ part ∷ rest
      → part_of part ≡ group (acts_of calls) (step_of step) → Begun m (acts_of calls) mid
      → Follows mid (among (step_of step)) (parts_of rest) choices standing new
      → Follows m between (parts_of parts) choices standing new
  group_then m mid new parts rest part calls step choices standing split is begun more =
      subst (λ (xs : List PartValue). Follows m between xs choices standing new)
      (sym (ap parts_of split ∙ ap (λ (p : PartValue). p ∷ parts_of rest) is))
      (group_next m mid (acts_of calls) (step_of step) (parts_of rest) choices standing new begun more)

-- whether a step is to come
due_is : (due : Option Act) → is_some (step_of due) ≡ is_some due
due_is None = refl
due_is (Some act) = refl

pub at_choice : (m new : Moment) (due : Option Act) (parts : List PartValue) (choices : List Choice)
    (is_due has_left : Bool) → new ≡ m → length choices ≡ 0 → is_due ≡ is_some due → has_left ≡ nat_lt 0 m.left
    → Follows m (among (step_of due)) parts choices (Choosing is_due has_left) new
at_choice m new due parts [] is_due has_left same none dues lefts =
    subst (λ (x : Moment). Follows m (among (step_of due)) parts [] (Choosing is_due has_left) x) (sym same)
    (subst (λ (b : Bool). Follows m (among (step_of due)) parts [] (Choosing is_due b) m) (sym lefts)
    (subst (λ (b : Bool). Follows m (among (step_of due)) parts [] (Choosing b (nat_lt 0 m.left)) m)
    (due_is due ∙ sym dues) (to_choose m (step_of due) parts)))
at_choice m new due parts (choice ∷ choices) is_due has_left same none dues lefts = absurd (omega (arith, none))

pub choice_then : (m mid new : Moment) (due : Option ActValue) (place : Place) (parts : List PartValue)
    (choices rest : List Choice) (choice : Choice) (standing : Standing) → choices ≡ choice ∷ rest
    → Chooses m due choice mid place → Follows mid place parts rest standing new
    → Follows m (among due) parts choices standing new
choice_then m mid new due place parts choices rest choice standing split chooses more =
    subst (λ (xs : List Choice). Follows m (among due) parts xs standing new) (sym split)
    (chosen m mid due place parts choice rest standing new chooses more)

pub no_choice : (m new : Moment) (due : Option ActValue) (parts : List PartValue) (choices rest : List Choice)
    (choice : Choice) → choices ≡ choice ∷ rest → IsMissing m due choice × (new ≡ m)
    → Follows m (among due) parts choices Lacking new
no_choice m new due parts choices rest choice split none =
    subst (λ (xs : List Choice). Follows m (among due) parts xs Lacking new) (sym split)
    (subst (Follows m (among due) parts (choice ∷ rest) Lacking) (sym none.1)
    (missing m due parts choice rest none.0))

-- ---- one choice

module _ (m new : Moment) (due : Option ActValue) (choice : Choice) (place : ℕ) (is_there : Bool) where
  pub answered : choice ≡ Trip place → is_there ≡ true
      → MatchBool is_there (Answered m place new) (IsLacking m place × (new ≡ m)) → Chooses m due choice new (among due)
  answered is there fact = subst (λ (x : Choice). Chooses m due x new (among due)) (sym is)
      (answers place new (subst (λ (b : Bool). MatchBool b (Answered m place new) (IsLacking m place × (new ≡ m))) there fact))

  pub not_answered : choice ≡ Trip place → is_there ≡ false
      → MatchBool is_there (Answered m place new) (IsLacking m place × (new ≡ m)) → IsMissing m due choice × (new ≡ m)
  not_answered is there fact =
      let none = subst (λ (b : Bool). MatchBool b (Answered m place new) (IsLacking m place × (new ≡ m))) there fact in
      (subst (IsMissing m due) (sym is) (no_trip place none.0), none.1)

  pub asked : choice ≡ Ask place → is_there ≡ true
      → MatchBool is_there (Asked m place new) (IsLacking m place × (new ≡ m)) → Chooses m due choice new (among due)
  asked is there fact = subst (λ (x : Choice). Chooses m due x new (among due)) (sym is)
      (asks place new (subst (λ (b : Bool). MatchBool b (Asked m place new) (IsLacking m place × (new ≡ m))) there fact))

  pub not_asked : choice ≡ Ask place → is_there ≡ false
      → MatchBool is_there (Asked m place new) (IsLacking m place × (new ≡ m)) → IsMissing m due choice × (new ≡ m)
  not_asked is there fact =
      let none = subst (λ (b : Bool). MatchBool b (Asked m place new) (IsLacking m place × (new ≡ m))) there fact in
      (subst (IsMissing m due) (sym is) (no_ask place none.0), none.1)

pub stepped : (m new : Moment) (due : Option Act) (act : Act) (choice : Choice) → choice ≡ Step → due ≡ Some act
    → Stepped m (act_of act) new → Chooses m (step_of due) choice new (among None)
stepped m new due act choice is had fact = subst (λ (x : Choice). Chooses m (step_of due) x new (among None)) (sym is)
    (steps (act_of act) new (ap step_of had) fact)

pub no_step_left : (m : Moment) (due : Option Act) (choice : Choice) → choice ≡ Step → due ≡ None
    → IsMissing m (step_of due) choice × (m ≡ m)
no_step_left m due choice is had = (subst (IsMissing m (step_of due)) (sym is) (no_step (ap step_of had)), refl)

pub gone_on : (m : Moment) (due : Option ActValue) (choice : Choice) → choice ≡ Over → Chooses m due choice m between
gone_on m due choice is = subst (λ (x : Choice). Chooses m due x m between) (sym is) goes_on
