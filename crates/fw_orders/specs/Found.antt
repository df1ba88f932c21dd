-- What is printed of the orders of a file.
use Rattle.std.specs.Prelude.{◌≡◌, ◌⊎◌, ◌++◌, ℕ, List, [], Option, IfSome, codes, decimal, length}
use Rattle.std.specs.Io.KnownBytes.{Appends}
use Rattle.order_law.specs.Moments.{Part}
use Rattle.order_search.specs.Orders.{AreOrders, wanted_of}
use Rattle.order_search.specs.declared.course.Wanted.{Wanted}
use Rattle.order_search.specs.declared.course.Wanted.TheVariants as wanted
use Rattle.fuse_text.specs.Outputs.{AppendsSome}
use Rattle.fuse_text.specs.Lines.{lines_of}
use Rattle.fuse_text.specs.Stops.{unreadable}
use Rattle.fw_orders.specs.FileLines.{FirstBadLine, HaveParts}
use Rattle.fw_orders.specs.Following.{LeadsIn}
use Rattle.fw_orders.specs.Printed.{orders_text}
use Rattle.fw_orders.specs.Stops.{status_of, stop_text}
use Rattle.fw_orders.specs.declared.stop.Stop.{Stop}
use Rattle.fw_orders.specs.declared.stop.Stop.TheVariants as stop

-- These are all orders of a file with these parts, in turn, each by its script.
abbrev pub AllOrders : List Part → List (List ℕ) → Type 0
AllOrders parts orders = AreOrders (LeadsIn parts) [] orders

-- what is printed of all orders: each behind the line of its number, from 1; or how many there are
abbrev pub IsPrinted : Wanted → List (List ℕ) → (old new : Option (List ℕ)) → Type 0
IsPrinted wanted.All orders old new = Appends old new (orders_text (wanted_of wanted.All 0 orders))
IsPrinted wanted.Number orders old new = Appends old new (decimal (length orders) ++ codes "\n")
IsPrinted (wanted.Nth number) orders old new = Unit {0}

-- All orders are found and printed. Of a single one that is asked for nothing is said here.
abbrev pub Prints : Wanted → List Part → (old new : Option (List ℕ)) → Type 0
Prints (wanted.Nth number) parts old new = Unit {0}
Prints w parts old new = (orders : List (List ℕ)) × AllOrders parts orders × IsPrinted w orders old new

-- why a search of orders ends early: where the order that was asked for is not there, it is known how many there are
abbrev pub SearchEnds : List Part → Stop → Type 0
SearchEnds parts (stop.BadLine number fault) = ⊥
SearchEnds parts (stop.NoSuchOrder count) = (orders : List (List ℕ)) × AllOrders parts orders × (count ≡ length orders)
SearchEnds parts other = Unit {0}

-- The lines of a text are good, and its orders are printed.
abbrev pub PrintsOrders : Wanted → (text : List ℕ) → (old new : Option (List ℕ)) → Type 0
PrintsOrders w text old new = (parts : List Part) × HaveParts (lines_of text) parts × Prints w parts old new

-- why that ends early
abbrev pub Ends : (text : List ℕ) → Stop → Type 0
Ends text (stop.BadLine number fault) = FirstBadLine (lines_of text) number fault
Ends text stop.NoMemory = Unit {0}
Ends text other = (parts : List Part) × HaveParts (lines_of text) parts × SearchEnds parts other

-- The file is good, or nothing is printed.
abbrev pub IsGoodOr : (text : List ℕ) → Type 0 → Type 0
IsGoodOr text Unprinted = ((parts : List Part) × HaveParts (lines_of text) parts) ⊎ Unprinted

-- What is said of a text at status 1, or a beginning of it: why its orders are not printed.
abbrev pub SaysStop : (text : List ℕ) → (old new : Option (List ℕ)) → Type 0
SaysStop text old new = (why : Stop) × (status_of why ≡ 1) × Ends text why × AppendsSome old new (stop_text why)

-- What is said of a file at status 1, or a beginning of it: that it cannot be read, or why its orders are not printed.
abbrev pub SaysWhy : (name : List ℕ) → (text : Option (List ℕ)) → (old new : Option (List ℕ)) → Type 0
SaysWhy name text old new =
    AppendsSome old new (unreadable name ++ codes "\n")
    ⊎ IfSome text (λ t. SaysStop t old new)

-- the last of what is printed: nothing, or how many orders were found
abbrev pub Finishes : Wanted → (found : ℕ) → (old new : Option (List ℕ)) → Type 0
Finishes wanted.All found old new = Appends old new []
Finishes wanted.Number found old new = Appends old new (decimal found ++ codes "\n")
Finishes (wanted.Nth number) found old new = ⊥

abbrev pub FinishEnds : (found : ℕ) → Stop → Type 0
FinishEnds found (stop.BadLine number fault) = ⊥
FinishEnds found (stop.NoSuchOrder orders) = orders ≡ found
FinishEnds found other = Unit {0}
