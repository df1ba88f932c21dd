-- What was found at each choice, put together.
use Rattle.std.proofs.Common.{◌≡◌, ℕ, ◌+◌, ◌<◌, Bool, true, false, List, [], ◌∷◌, ◌++◌, length, refl, subst, ◌∙◌, append-nil, arith}
use Rattle.order_search.specs.declared.choice.Choice.{Choice}
use Rattle.order_search.specs.declared.choice.Choice.TheVariants.{Step, Over}
use Rattle.order_search.specs.declared.choice.Standing.{Standing}
use Rattle.order_search.specs.declared.choice.Standing.TheVariants.{Ended, Choosing, Lacking}
use Rattle.order_search.specs.declared.course.Wanted.{Wanted}
use Rattle.order_search.specs.Orders.{ended, due, due_with_replies, pending, over, until, no_place, one_place, Explored, ExploredBelow, ExploredPlaces, IsAbsent, Looked, Printed, at_place, then_choice}
use Rattle.order_search.proofs.Printing.{then_printed}

module _ {P : Type 0} (Leads : List Choice → Standing → List ℕ → Type 0)
    (prints : P → P → List (ℕ × List ℕ) → Type 0) (stays : (printer : P) → prints printer printer [])
    (goes_on : (first mid last : P) (orders more : List (ℕ × List ℕ)) → prints first mid orders → prints mid last more
    → prints first last (orders ++ more)) (choices : List Choice) (wanted : Wanted) where
  nothing : (old new : P) (before after : ℕ) → prints old new [] → after ≡ before
      → Printed prints old new wanted before after []
  nothing old new before after silent same = record { counted = same ∙ by before; printed = silent }
    where
      by : (n : ℕ) → n ≡ n + length {A = List ℕ} []
      by n = omega arith

  both : (old mid new : P) (before between after : ℕ) (xs ys : List (List ℕ))
      → Printed prints old mid wanted before between xs → Printed prints mid new wanted between after ys
      → Printed prints old new wanted before after (xs ++ ys)
  both old mid new before between after xs ys = then_printed prints goes_on old mid new wanted before between after xs ys

  -- nothing printed before
  after_none : (old mid new : P) (before between after : ℕ) (ys : List (List ℕ))
      → Printed prints old mid wanted before between [] → Printed prints mid new wanted between after ys
      → Printed prints old new wanted before after ys
  after_none old mid new before between after ys first rest = both old mid new before between after [] ys first rest

  pub below_none : (is_answered : Bool) (printer : P) (found : ℕ)
      → ExploredBelow Leads prints is_answered choices 0 wanted found found printer printer
  below_none is_answered printer found =
      record { orders = []; all = no_place is_answered choices; printed = nothing printer printer found found (stays printer) refl }

  pub below_more : (is_answered : Bool) (place : ℕ) (old mid new : P) (before between after : ℕ)
      → ExploredBelow Leads prints is_answered choices place wanted before between old mid
      → Explored Leads prints (then_choice choices (at_place is_answered place)) wanted between after mid new
      → ExploredBelow Leads prints is_answered choices (place + 1) wanted before after old new
  below_more is_answered place old mid new before between after below one = record {
    orders = below.orders ++ one.orders;
    all = one_place is_answered choices place below.orders one.orders below.all one.all;
    printed = both old mid new before between after below.orders one.orders below.printed one.printed;
  }

  pub places : (is_answered : Bool) (count : ℕ) (old mid new : P) (before between after : ℕ)
      → ExploredBelow Leads prints is_answered choices count wanted before between old mid
      → IsAbsent Leads prints (then_choice choices (at_place is_answered count)) between after mid new
      → ExploredPlaces Leads prints is_answered choices count wanted before after old new
  places is_answered count old mid new before between after below absent = record {
    orders = below.orders;
    all = until is_answered choices count below.orders absent.script below.all absent.lacking;
    printed = subst (Printed prints old new wanted before after) (append-nil below.orders)
        (both old mid new before between after below.orders [] below.printed
        (nothing mid new between after absent.silent absent.counted));
  }

  pub when_ended : (old new : P) (before after : ℕ)
      → Looked Leads prints choices wanted before after old new Ended
      → Explored Leads prints choices wanted before after old new
  when_ended old new before after looked = record {
    orders = looked.script ∷ [];
    all = ended choices looked.script looked.leads;
    printed = looked.printed;
  }

  pub when_lacking : (old new : P) (before after : ℕ)
      → Looked Leads prints choices wanted before after old new Lacking
      → IsAbsent Leads prints choices before after old new
  when_lacking old new before after looked =
      let counted = looked.printed.counted in
      record {
        script = looked.script;
        lacking = looked.leads;
        silent = looked.printed.printed;
        counted = counted ∙ by before;
      }
    where
      by : (n : ℕ) → n + length {A = List ℕ} [] ≡ n
      by n = omega arith

  pub when_due : (p0 p1 p2 p3 p4 : P) (n0 n1 n2 n3 n4 trip_count ask_count : ℕ)
      → Looked Leads prints choices wanted n0 n1 p0 p1 (Choosing true false)
      → ExploredPlaces Leads prints true choices trip_count wanted n1 n2 p1 p2
      → ExploredPlaces Leads prints false choices ask_count wanted n2 n3 p2 p3
      → Explored Leads prints (then_choice choices Step) wanted n3 n4 p3 p4
      → Explored Leads prints choices wanted n0 n4 p0 p4
  when_due p0 p1 p2 p3 p4 n0 n1 n2 n3 n4 trip_count ask_count looked trips asks steps = record {
    orders = trips.orders ++ asks.orders ++ steps.orders;
    all = due choices looked.script trip_count ask_count trips.orders asks.orders steps.orders looked.leads trips.all
        asks.all steps.all;
    printed = after_none p0 p1 p4 n0 n1 n4 (trips.orders ++ asks.orders ++ steps.orders) looked.printed
        (both p1 p3 p4 n1 n3 n4 (trips.orders ++ asks.orders) steps.orders
        (both p1 p2 p3 n1 n2 n3 trips.orders asks.orders trips.printed asks.printed) steps.printed);
  }

  pub when_replies_are_left : (p0 p1 p2 p3 : P) (n0 n1 n2 n3 ask_count : ℕ)
      → Looked Leads prints choices wanted n0 n1 p0 p1 (Choosing true true)
      → ExploredPlaces Leads prints false choices ask_count wanted n1 n2 p1 p2
      → Explored Leads prints (then_choice choices Step) wanted n2 n3 p2 p3
      → Explored Leads prints choices wanted n0 n3 p0 p3
  when_replies_are_left p0 p1 p2 p3 n0 n1 n2 n3 ask_count looked asks steps = record {
    orders = asks.orders ++ steps.orders;
    all = due_with_replies choices looked.script ask_count asks.orders steps.orders looked.leads asks.all steps.all;
    printed = after_none p0 p1 p3 n0 n1 n3 (asks.orders ++ steps.orders) looked.printed
        (both p1 p2 p3 n1 n2 n3 asks.orders steps.orders asks.printed steps.printed);
  }

  pub when_pending : (has_left : Bool) (p0 p1 p2 : P) (n0 n1 n2 trip_count : ℕ)
      → Looked Leads prints choices wanted n0 n1 p0 p1 (Choosing false has_left) → 0 < trip_count
      → ExploredPlaces Leads prints true choices trip_count wanted n1 n2 p1 p2
      → Explored Leads prints choices wanted n0 n2 p0 p2
  when_pending has_left p0 p1 p2 n0 n1 n2 trip_count looked some trips = record {
    orders = trips.orders;
    all = pending choices looked.script has_left trip_count trips.orders looked.leads some trips.all;
    printed = after_none p0 p1 p2 n0 n1 n2 trips.orders looked.printed trips.printed;
  }

  pub when_over : (has_left : Bool) (p0 p1 p2 p3 : P) (n0 n1 n2 n3 : ℕ)
      → Looked Leads prints choices wanted n0 n1 p0 p1 (Choosing false has_left)
      → ExploredPlaces Leads prints true choices 0 wanted n1 n2 p1 p2
      → Explored Leads prints (then_choice choices Over) wanted n2 n3 p2 p3
      → Explored Leads prints choices wanted n0 n3 p0 p3
  when_over has_left p0 p1 p2 p3 n0 n1 n2 n3 looked none others = record {
    orders = none.orders ++ others.orders;
    all = over choices looked.script has_left none.orders others.orders looked.leads none.all others.all;
    printed = after_none p0 p1 p3 n0 n1 n3 (none.orders ++ others.orders) looked.printed
        (both p1 p2 p3 n1 n2 n3 none.orders others.orders none.printed others.printed);
  }
