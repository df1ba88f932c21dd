-- What was found at each choice, as it is known where a call has returned.
use Rattle.std.proofs.Common.{◌≡◌, ℕ, ◌+◌, ◌<◌, ◌≤◌, Bool, true, false, List, [], ◌++◌, refl, ap, subst, ◌∙◌, arith}
use Rattle.order_search.specs.declared.choice.Choice.{Choice}
use Rattle.order_search.specs.declared.choice.Choice.TheVariants.{Step, Over}
use Rattle.order_search.specs.declared.choice.Standing.{Standing}
use Rattle.order_search.specs.declared.choice.Standing.TheVariants.{Ended, Choosing}
use Rattle.order_search.specs.declared.course.Wanted.{Wanted}
use Rattle.order_search.specs.Orders.{Explored, ExploredBelow, ExploredPlaces, IsAbsent, Looked, at_place, then_choice}
use Rattle.order_search.proofs.Assembling.{below_more, places, when_ended, when_due, when_replies_are_left, when_pending, when_over}

-- the same choices, and the same that is wanted
moved : (F : List Choice → Wanted → Type 0) (c d : List Choice) (w v : Wanted) → c ≡ d → w ≡ v → F c w → F d v
moved F c d w v cs ws fact = subst (λ (x : Wanted). F d x) ws (subst (λ (x : List Choice). F x w) cs fact)

-- a standing by its parts
stands : (standing : Standing) (is_due has_left due left : Bool) → standing ≡ Choosing is_due has_left → is_due ≡ due
    → has_left ≡ left → standing ≡ Choosing due left
stands standing is_due has_left due left is dues lefts = is ∙ ap (λ (b : Bool). Choosing b has_left) dues
    ∙ ap (λ (b : Bool). Choosing due b) lefts

-- the choices and what is wanted, together
abbrev pub Same : List Choice → List Choice → Wanted → Wanted → Type 0
Same c d w v = (c ≡ d) × (w ≡ v)

module _ {P : Type 0} (Leads : List Choice → Standing → List ℕ → Type 0)
    (prints : P → P → List (ℕ × List ℕ) → Type 0) (stays : (printer : P) → prints printer printer [])
    (goes_on : (first mid last : P) (orders more : List (ℕ × List ℕ)) → prints first mid orders → prints mid last more
    → prints first last (orders ++ more)) (choices : List Choice) (wanted : Wanted) where
  pub at_end : (p0 p1 : P) (n0 n1 : ℕ) (standing : Standing)
      → Looked Leads prints choices wanted n0 n1 p0 p1 standing → standing ≡ Ended
      → Explored Leads prints choices wanted n0 n1 p0 p1
  at_end p0 p1 n0 n1 standing looked is = when_ended Leads prints stays goes_on choices wanted p0 p1 n0 n1
      (subst (Looked Leads prints choices wanted n0 n1 p0 p1) is looked)

  pub at_step : (p0 p1 p2 p3 p4 : P) (n0 n1 n2 n3 n4 trip_count ask_count : ℕ) (standing : Standing)
      (is_due has_left : Bool) (c1 c2 c3 : List Choice) (w1 w2 w3 : Wanted)
      → Looked Leads prints choices wanted n0 n1 p0 p1 standing → standing ≡ Choosing is_due has_left
      → is_due ≡ true → has_left ≡ false → Same c1 choices w1 wanted → Same c2 c1 w2 w1 → Same c3 c2 w3 w2
      → ExploredPlaces Leads prints true c1 trip_count w1 n1 n2 p1 p2
      → ExploredPlaces Leads prints false c2 ask_count w2 n2 n3 p2 p3
      → Explored Leads prints (then_choice c3 Step) w3 n3 n4 p3 p4
      → Explored Leads prints choices wanted n0 n4 p0 p4
  at_step p0 p1 p2 p3 p4 n0 n1 n2 n3 n4 trip_count ask_count standing is_due has_left c1 c2 c3 w1 w2 w3 looked is dues
      lefts s1 s2 s3 trips asks steps = when_due Leads prints stays goes_on choices wanted p0 p1 p2 p3 p4 n0 n1 n2 n3 n4
      trip_count ask_count
      (subst (Looked Leads prints choices wanted n0 n1 p0 p1) (stands standing is_due has_left true false is dues lefts)
      looked)
      (moved (λ c w. ExploredPlaces Leads prints true c trip_count w n1 n2 p1 p2) c1 choices w1 wanted s1.0 s1.1 trips)
      (moved (λ c w. ExploredPlaces Leads prints false c ask_count w n2 n3 p2 p3) c2 choices w2 wanted (s2.0 ∙ s1.0)
      (s2.1 ∙ s1.1) asks)
      (moved (λ c w. Explored Leads prints (then_choice c Step) w n3 n4 p3 p4) c3 choices w3 wanted
      (s3.0 ∙ s2.0 ∙ s1.0) (s3.1 ∙ s2.1 ∙ s1.1) steps)

  pub at_replies : (p0 p1 p2 p3 : P) (n0 n1 n2 n3 ask_count : ℕ) (standing : Standing)
      (is_due has_left : Bool) (c1 c2 : List Choice) (w1 w2 : Wanted)
      → Looked Leads prints choices wanted n0 n1 p0 p1 standing → standing ≡ Choosing is_due has_left
      → is_due ≡ true → has_left ≡ true → Same c1 choices w1 wanted → Same c2 c1 w2 w1
      → ExploredPlaces Leads prints false c1 ask_count w1 n1 n2 p1 p2
      → Explored Leads prints (then_choice c2 Step) w2 n2 n3 p2 p3
      → Explored Leads prints choices wanted n0 n3 p0 p3
  at_replies p0 p1 p2 p3 n0 n1 n2 n3 ask_count standing is_due has_left c1 c2 w1 w2 looked is dues lefts s1 s2 asks
      steps = when_replies_are_left Leads prints stays goes_on choices wanted p0 p1 p2 p3 n0 n1 n2 n3 ask_count
      (subst (Looked Leads prints choices wanted n0 n1 p0 p1) (stands standing is_due has_left true true is dues lefts)
      looked)
      (moved (λ c w. ExploredPlaces Leads prints false c ask_count w n1 n2 p1 p2) c1 choices w1 wanted s1.0 s1.1 asks)
      (moved (λ c w. Explored Leads prints (then_choice c Step) w n2 n3 p2 p3) c2 choices w2 wanted (s2.0 ∙ s1.0)
      (s2.1 ∙ s1.1) steps)

  pub at_pending : (p0 p1 p2 : P) (n0 n1 n2 count : ℕ) (standing : Standing) (is_due has_left : Bool)
      (c1 : List Choice) (w1 : Wanted)
      → Looked Leads prints choices wanted n0 n1 p0 p1 standing → standing ≡ Choosing is_due has_left
      → is_due ≡ false → Same c1 choices w1 wanted → 0 < count
      → ExploredPlaces Leads prints true c1 count w1 n1 n2 p1 p2
      → Explored Leads prints choices wanted n0 n2 p0 p2
  at_pending p0 p1 p2 n0 n1 n2 count standing is_due has_left c1 w1 looked is dues s1 some trips =
      when_pending Leads prints stays goes_on choices wanted has_left p0 p1 p2 n0 n1 n2 count
      (subst (Looked Leads prints choices wanted n0 n1 p0 p1)
      (stands standing is_due has_left false has_left is dues refl) looked) some
      (moved (λ c w. ExploredPlaces Leads prints true c count w n1 n2 p1 p2) c1 choices w1 wanted s1.0 s1.1 trips)

  pub at_over : (p0 p1 p2 p3 : P) (n0 n1 n2 n3 count : ℕ) (standing : Standing) (is_due has_left : Bool)
      (c1 c2 : List Choice) (w1 w2 : Wanted)
      → Looked Leads prints choices wanted n0 n1 p0 p1 standing → standing ≡ Choosing is_due has_left
      → is_due ≡ false → Same c1 choices w1 wanted → Same c2 c1 w2 w1 → count ≤ 0
      → ExploredPlaces Leads prints true c1 count w1 n1 n2 p1 p2
      → Explored Leads prints (then_choice c2 Over) w2 n2 n3 p2 p3
      → Explored Leads prints choices wanted n0 n3 p0 p3
  at_over p0 p1 p2 p3 n0 n1 n2 n3 count standing is_due has_left c1 c2 w1 w2 looked is dues s1 s2 none trips others =
      let zero_is : count ≡ 0 = omega (arith, none) in
      when_over Leads prints stays goes_on choices wanted has_left p0 p1 p2 p3 n0 n1 n2 n3
      (subst (Looked Leads prints choices wanted n0 n1 p0 p1)
      (stands standing is_due has_left false has_left is dues refl) looked)
      (subst (λ (n : ℕ). ExploredPlaces Leads prints true choices n wanted n1 n2 p1 p2) zero_is
      (moved (λ c w. ExploredPlaces Leads prints true c count w n1 n2 p1 p2) c1 choices w1 wanted s1.0 s1.1 trips))
      (moved (λ c w. Explored Leads prints (then_choice c Over) w n2 n3 p2 p3) c2 choices w2 wanted (s2.0 ∙ s1.0)
      (s2.1 ∙ s1.1) others)

  pub one_more : (is_answered : Bool) (place : ℕ) (old mid new : P) (before between after : ℕ) (c1 : List Choice)
      (w1 : Wanted) (choice : Choice) → Same c1 choices w1 wanted → choice ≡ at_place is_answered place
      → ExploredBelow Leads prints is_answered choices place wanted before between old mid
      → Explored Leads prints (then_choice c1 choice) w1 between after mid new
      → ExploredBelow Leads prints is_answered choices (place + 1) wanted before after old new
  one_more is_answered place old mid new before between after c1 w1 choice s1 is below one =
      below_more Leads prints stays goes_on choices wanted is_answered place old mid new before between after below
      (subst (λ (x : Choice). Explored Leads prints (then_choice choices x) wanted between after mid new) is
      (moved (λ c w. Explored Leads prints (then_choice c choice) w between after mid new) c1 choices w1 wanted
      s1.0 s1.1 one))

  pub no_more_places : (is_answered : Bool) (place : ℕ) (old mid new : P) (before between after : ℕ)
      (c1 : List Choice) (w1 : Wanted) (choice : Choice) → Same c1 choices w1 wanted
      → choice ≡ at_place is_answered place
      → ExploredBelow Leads prints is_answered choices place wanted before between old mid
      → IsAbsent Leads prints (then_choice c1 choice) between after mid new
      → ExploredPlaces Leads prints is_answered choices place wanted before after old new
  no_more_places is_answered place old mid new before between after c1 w1 choice s1 is below absent =
      places Leads prints stays goes_on choices wanted is_answered place old mid new before between after below
      (subst (λ (x : Choice). IsAbsent Leads prints (then_choice choices x) between after mid new) is
      (subst (λ (x : List Choice). IsAbsent Leads prints (then_choice x choice) between after mid new) s1.0 absent))
