-- What is true of every node and of every file handle, as they are given and given back.
use Rattle.std.proofs.Common.{◌≡◌, ℕ, ◌+◌, ◌-◌, Bool, true, false, cond, Option, Some, None, refl, sym, ap, subst, ◌∙◌, inl, inr}
use Rattle.std.specs.Prelude.{nat_lt}
use Rattle.std.proofs.lemmas.Bool.{cases_eq}
use Rattle.std.proofs.lemmas.Option.{none-some, same_Some}
use Rattle.fuse_spec.specs.Values.Maps.{Map, get, put, remove}
use Rattle.fuse_spec.specs.declared.Entry.{Entry}
use Rattle.fuse_spec.specs.Server.Copies.{row_back}
use Rattle.fuse_spec.specs.Server.Nodes.{HeldNode, NodeTable, is_held, given, given_row, taken_back, rows_less, row_more, rows_more, FileHandle, HandleTable, handle_opened, handle_back, handles_less, handle_more, handles_more}
use Rattle.fuse_spec.proofs.Tables.{get_put_here, get_put_there, get_gone_here, get_gone_there}

-- each value of a map has it
abbrev pub Each : {X : Type 0} → (X → Type 0) → Map X → Type 0
Each {X} P m = (q : ℕ) (x : X) → get m q ≡ Some x → P x

pub each_put : {X : Type 0} (P : X → Type 0) (m : Map X) (k : ℕ) (x : X) → P x → Each P m → Each P (put m k x)
each_put P m k x new old q y is = elim (cases_eq q k) [
  | inl e ↦ subst P (same_Some x y (sym (get_put_here m k x) ∙ ap (get (put m k x)) (sym e) ∙ is)) new
  | inr ne ↦ old q y (sym (get_put_there m k x q ne) ∙ is)
]

pub each_gone : {X : Type 0} (P : X → Type 0) (m : Map X) (k : ℕ) → Each P m → Each P (remove m k)
each_gone P m k old q y is = elim (cases_eq q k) [
  | inl e ↦ absurd (none-some y (sym (get_gone_here m k) ∙ ap (get (remove m k)) (sym e) ∙ is))
  | inr ne ↦ old q y (sym (get_gone_there m k q ne) ∙ is)
]

-- ---- nodes

pub given_each : (P Q : HeldNode → Type 0) (t : NodeTable) (file id : ℕ) → ((row : HeldNode) → P row → Q row)
    → ((row : HeldNode) → P row → Q (record row { count = row.count + 1 }))
    → Q (record { file = file; generation = t.next_generation; count = 1 }) → Each P t.rows
    → Each Q (given t file id).rows
given_each P Q t file id still more new old = each_put Q t.rows id (given_row t file (get t.rows id))
    (by (get t.rows id) refl) (λ q row is. still row (old q row is))
  where
    by : (o : Option HeldNode) → get t.rows id ≡ o → Q (given_row t file o)
    by None e = new
    by (Some row) e = more row (old id row e)

pub less_each : (P : HeldNode → Type 0) (rows : Map HeldNode) (id n : ℕ)
    → ((row : HeldNode) → P row → P (record row { count = row.count - n })) → Each P rows
    → Each P (rows_less rows id n (get rows id))
less_each P rows id n less old = by (get rows id) refl
  where
    fewer : (row : HeldNode) → get rows id ≡ Some row → (b : Bool)
        → Each P (cond b (put rows id (record row { count = row.count - n })) (remove rows id))
    fewer row e true = each_put P rows id (record row { count = row.count - n }) (less row (old id row e)) old
    fewer row e false = each_gone P rows id old

    by : (o : Option HeldNode) → get rows id ≡ o → Each P (rows_less rows id n o)
    by None e = old
    by (Some row) e = fewer row e (nat_lt n row.count)

pub taken_each : (P : HeldNode → Type 0) (t : NodeTable) (id n : ℕ)
    → ((row : HeldNode) → P row → P (record row { count = row.count - n })) → Each P t.rows
    → Each P (taken_back t id n).rows
taken_each P t id n less old = less_each P t.rows id n less old

pub more_rows_each : (P Q : HeldNode → Type 0) (rows : Map HeldNode) (id : ℕ) → ((row : HeldNode) → P row → Q row)
    → ((row : HeldNode) → P row → Q (record row { count = row.count + 1 })) → Each P rows
    → Each Q (rows_more rows id (get rows id))
more_rows_each P Q rows id still more old = by (get rows id) refl
  where
    by : (o : Option HeldNode) → get rows id ≡ o → Each Q (rows_more rows id o)
    by None e = λ q row is. still row (old q row is)
    by (Some row) e = each_put Q rows id (record row { count = row.count + 1 }) (more row (old id row e))
        (λ q r is. still r (old q r is))

pub more_each : (P Q : HeldNode → Type 0) (t : NodeTable) (id : ℕ) → ((row : HeldNode) → P row → Q row)
    → ((row : HeldNode) → P row → Q (record row { count = row.count + 1 })) → Each P t.rows
    → Each Q (row_more t id).rows
more_each P Q t id still more old = more_rows_each P Q t.rows id still more old

-- ---- file handles

pub opened_each : (P Q : FileHandle → Type 0) (t : HandleTable) (file : ℕ) → ((h : FileHandle) → P h → Q h)
    → Q (record { file = file; count = 1 }) → Each P t.handles → Each Q (handle_opened t file).handles
opened_each P Q t file still new old = each_put Q t.handles t.next_fh (record { file = file; count = 1 }) new
    (λ q h is. still h (old q h is))

pub back_each : (P : FileHandle → Type 0) (t : HandleTable) (fh : ℕ)
    → ((h : FileHandle) → P h → P (record h { count = h.count - 1 })) → Each P t.handles
    → Each P (handle_back t fh).handles
back_each P t fh less old = by (get t.handles fh) refl
  where
    fewer : (h : FileHandle) → get t.handles fh ≡ Some h → (b : Bool)
        → Each P (cond b (put t.handles fh (record h { count = h.count - 1 })) (remove t.handles fh))
    fewer h e true = each_put P t.handles fh (record h { count = h.count - 1 }) (less h (old fh h e)) old
    fewer h e false = each_gone P t.handles fh old

    by : (o : Option FileHandle) → get t.handles fh ≡ o → Each P (handles_less t.handles fh o)
    by None e = old
    by (Some h) e = fewer h e (nat_lt 1 h.count)

pub handle_more_each : (P Q : FileHandle → Type 0) (t : HandleTable) (fh : ℕ) → ((h : FileHandle) → P h → Q h)
    → ((h : FileHandle) → P h → Q (record h { count = h.count + 1 })) → Each P t.handles
    → Each Q (handle_more t fh).handles
handle_more_each P Q t fh still more old = by (get t.handles fh) refl
  where
    by : (o : Option FileHandle) → get t.handles fh ≡ o → Each Q (handles_more t.handles fh o)
    by None e = λ q h is. still h (old q h is)
    by (Some h) e = each_put Q t.handles fh (record h { count = h.count + 1 }) (more h (old fh h e))
        (λ q g is. still g (old q g is))

pub row_back_each : (P : HeldNode → Type 0) (t : NodeTable) (g : Entry)
    → ((row : HeldNode) → P row → P (record row { count = row.count - 1 })) → Each P t.rows → Each P (row_back t g).rows
row_back_each P t g less old = by (is_held t g.nodeid g.generation)
  where
    by : (b : Bool) → Each P (cond b (taken_back t g.nodeid 1) t).rows
    by true = taken_each P t g.nodeid 1 less old
    by false = old
