-- What a search found, as it is printed.
use Rattle.std.proofs.Common.{◌≡◌, ◌⊎◌, ◌+◌, ◌++◌, ◌∷◌, [], ℕ, List, Option, Result, Ok, Err, IfErr, OnOk, inl, inr, length, refl, ap, sym, subst, ◌∙◌, arith, append-nil, codes}
use Rattle.std.specs.Prelude.{decimal}
use Rattle.std.specs.Io.KnownBytes.{Appends}
use Rattle.fuse_text.specs.Outputs.{AppendsSome}
use Rattle.fuse_text.specs.Lines.{lines_of}
use Rattle.std.proofs.KnownBytes.{Appends-trans}
use Rattle.order_law.specs.Moments.{Moment, Part}
use Rattle.order_search.specs.Orders.{Explored, wanted_of}
use Rattle.order_search.specs.declared.choice.Choice.{Choice}
use Rattle.order_search.specs.declared.choice.Standing.{Standing}
use Rattle.order_search.specs.declared.choice.Standing.TheVariants.{Lacking}
use Rattle.order_search.specs.declared.course.Wanted.{Wanted}
use Rattle.order_search.specs.declared.course.Wanted.TheVariants as wanted
use Rattle.fw_orders.specs.FileLines.{HaveParts}
use Rattle.fw_orders.specs.Following.{Follows, LeadsIn, Place, alone_next, chosen, file_over, group_next, missing, to_choose}
use Rattle.fw_orders.specs.Found.{Ends, FinishEnds, Finishes, Prints, SaysStop, SearchEnds}
use Rattle.fw_orders.specs.Printed.{orders_text}
use Rattle.fw_orders.specs.Reading.{ReadingEnds}
use Rattle.fw_orders.specs.Stops.{status_of, stop_text}
use Rattle.fw_orders.specs.declared.stop.Stop.{Stop}
use Rattle.fw_orders.specs.declared.stop.Stop.TheVariants as stop

-- no choice is not missing
never_lacks : (m : Moment) (place : Place) (parts : List Part) (choices : List Choice) (standing : Standing)
    (last : Moment) → Follows m place parts choices standing last → choices ≡ [] → standing ≡ Lacking → ⊥
never_lacks _ _ _ _ _ _ (file_over m choices) none is = absurd (cc)
never_lacks _ _ _ _ _ _ (alone_next m mid act parts choices standing last carries more) none is =
    never_lacks mid _ parts choices standing last more none is
never_lacks _ _ _ _ _ _ (group_next m mid calls due parts choices standing last begun more) none is =
    never_lacks mid _ parts choices standing last more none is
never_lacks _ _ _ _ _ _ (to_choose m due parts) none is = absurd (cc)
never_lacks _ _ _ _ _ _ (chosen m mid due place parts choice choices standing last chooses more) none is = absurd (cc)
never_lacks _ _ _ _ _ _ (missing m due parts choice choices not) none is = absurd (cc)

abbrev pub Lacks : List Part → Type 0
Lacks parts = (script : List ℕ) × LeadsIn parts [] Lacking script

never : (parts : List Part) → Lacks parts → ⊥
never parts lacks = never_lacks _ _ parts [] Lacking _ lacks.1.follows refl refl

-- where orders are counted none is printed
none_wanted : (before : ℕ) (orders : List (List ℕ)) → wanted_of wanted.Number before orders ≡ []
none_wanted before [] = refl
none_wanted before (order ∷ orders) = none_wanted (before + 1) orders

module _ (had parts : List Part) (same : had ≡ parts) {P : Type 0} (printed : P → P → List (ℕ × List ℕ) → Type 0)
    (w : Wanted) (count : ℕ) (p q : P) (found : Lacks had ⊎ Explored (LeadsIn had) printed [] w 0 count p q) where
  all_found : Explored (LeadsIn parts) printed [] w 0 count p q
  all_found = subst (λ (x : List Part). Explored (LeadsIn x) printed [] w 0 count p q) same
      (elim found [ inl lacks ↦ absurd (never had lacks) | inr all ↦ all ])

  pub search_ends : (why : Stop) → FinishEnds count why → SearchEnds parts why
  search_ends (stop.BadLine number fault) ends = ends
  search_ends stop.TooLong ends = tt
  search_ends (stop.NoSuchOrder orders) ends =
      (all_found.orders, all_found.all, omega (arith, all_found.printed.counted, ends))
  search_ends stop.NoMemory ends = tt
  search_ends stop.OutputRefused ends = tt

printed_all : {P : Type 0} (printed : P → P → List (ℕ × List ℕ) → Type 0) (parts : List Part) (w : Wanted) (count : ℕ)
    (p q : P) (old mid new : Option (List ℕ)) → Explored (LeadsIn parts) printed [] w 0 count p q
    → ((orders : List (ℕ × List ℕ)) → printed p q orders → Appends old mid (orders_text orders))
    → Finishes w count mid new → Prints w parts old new
printed_all printed parts wanted.All count p q old mid new found gets finish = (
  found.orders,
  found.all,
  subst (Appends old new) (append-nil (orders_text (wanted_of wanted.All 0 found.orders)))
      (Appends-trans old mid new (orders_text (wanted_of wanted.All 0 found.orders)) []
      (gets (wanted_of wanted.All 0 found.orders) found.printed.printed) finish),
)
printed_all printed parts wanted.Number count p q old mid new found gets finish =
    let counted : count ≡ length found.orders = omega (arith, found.printed.counted) in
    let none : Appends old mid [] = subst (λ (orders : List (ℕ × List ℕ)). Appends old mid (orders_text orders))
    (none_wanted 0 found.orders) (gets (wanted_of wanted.Number 0 found.orders) found.printed.printed) in (
      found.orders,
      found.all,
      subst (λ (n : ℕ). Appends old new (decimal n ++ codes "\n")) counted
          (Appends-trans old mid new [] (decimal count ++ codes "\n") none finish),
    )
printed_all printed parts (wanted.Nth number) count p q old mid new found gets finish = tt

pub prints : (had parts : List Part) → had ≡ parts → {P : Type 0} (printed : P → P → List (ℕ × List ℕ) → Type 0)
    (w : Wanted) (count : ℕ) (p q : P) → Lacks had ⊎ Explored (LeadsIn had) printed [] w 0 count p q
    → (old mid new : Option (List ℕ))
    → ((orders : List (ℕ × List ℕ)) → printed p q orders → Appends old mid (orders_text orders))
    → Finishes w count mid new → Prints w parts old new
prints had parts same printed w count p q found old mid new gets finish =
    printed_all printed parts w count p q old mid new (all_found had parts same printed w count p q found) gets finish
