-- The entries of a hash map, read as the table of file handles.
use Rattle.std.proofs.Common.{◌≡◌, ℕ, ◌-◌, ◌+◌, ◌<◌, ◌≤◌, Bool, true, false, cond, List, [], ◌∷◌, Option, Some, None, refl, ap, sym, ◌∙◌, arith, rules, T}
use Rattle.std.specs.Prelude.{nat_eq, nat_lt}
use Rattle.std.specs.Option.{option_map}
use Rattle.std.specs.Map.{lookup}
use Rattle.std.specs.Ordering.{nat_cmp}
use Rattle.std.specs.FinMap.{is_sorted}
use Rattle.fuse_spec.specs.Values.Maps.{Map, get, put, remove}
use Rattle.fuse_spec.specs.Server.Nodes.{FileHandle, HandleTable, handles_less, handles_more, handle_opened, handle_back, handle_more}
use Rattle.fs_handles.specs.declared.open_file.OpenFile.{OpenFile}
use Rattle.fs_handles.specs.OpenNumbers.{handle_of, handles_of, table_of}
use Rattle.fuse_tables.proofs.Maps.{turned, sorted_put, is_put, is_remove, get-put}

pub sorted_handles : (es : List (ℕ × OpenFile)) → T (is_sorted nat_cmp (handles_of es))
sorted_handles [] = tt
sorted_handles (e ∷ es) = sorted_put (handles_of es) e.0 (handle_of e.1) (sorted_handles es)

seen-cond : (b : Bool) (x y : Option OpenFile) → option_map handle_of (cond b x y)
    ≡ cond b (option_map handle_of x) (option_map handle_of y)
seen-cond true x y = refl
seen-cond false x y = refl

pub get-handles_of : (es : List (ℕ × OpenFile)) (q : ℕ)
    → get (handles_of es) q ≡ option_map handle_of (lookup (nat_eq q) es)
get-handles_of [] q = refl
get-handles_of (e ∷ es) q =
    get-put (handles_of es) e.0 (handle_of e.1) q
    ∙ ap (cond (nat_eq e.0 q) (Some (handle_of e.1))) (get-handles_of es q)
    ∙ ap (λ b. cond b (Some (handle_of e.1)) (option_map handle_of (lookup (nat_eq q) es))) (turned e.0 q)
    ∙ sym (seen-cond (nat_eq q e.0) (Some e.1) (lookup (nat_eq q) es))

pub get_there : (es : List (ℕ × OpenFile)) (fh : ℕ) (found : Option OpenFile) → lookup (nat_eq fh) es ≡ found
    → get (handles_of es) fh ≡ option_map handle_of found
get_there es fh found is = get-handles_of es fh ∙ ap (option_map handle_of) is

-- what a look-up finds where what stands under a handle was written
get_written : (new old : List (ℕ × OpenFile)) (fh : ℕ) (kept : Option OpenFile)
    → ((q : ℕ) → lookup (nat_eq q) new ≡ cond (nat_eq fh q) kept (lookup (nat_eq q) old))
    → (q : ℕ) → get (handles_of new) q ≡ cond (nat_eq fh q) (option_map handle_of kept) (get (handles_of old) q)
get_written new old fh kept at q =
    get_there new q _ (at q) ∙ seen-cond (nat_eq fh q) kept (lookup (nat_eq q) old)
    ∙ ap (cond (nat_eq fh q) (option_map handle_of kept)) (sym (get-handles_of old q))

handles-put : (new old : List (ℕ × OpenFile)) (fh : ℕ) (kept : OpenFile)
    → ((q : ℕ) → lookup (nat_eq q) new ≡ cond (nat_eq fh q) (Some kept) (lookup (nat_eq q) old))
    → handles_of new ≡ put (handles_of old) fh (handle_of kept)
handles-put new old fh kept at =
    is_put (handles_of new) (handles_of old) fh (handle_of kept) (sorted_handles new) (sorted_handles old)
    (get_written new old fh (Some kept) at)

handles-remove : (new old : List (ℕ × OpenFile)) (fh : ℕ)
    → ((q : ℕ) → lookup (nat_eq q) new ≡ cond (nat_eq fh q) None (lookup (nat_eq q) old))
    → handles_of new ≡ remove (handles_of old) fh
handles-remove new old fh at =
    is_remove (handles_of new) (handles_of old) fh (sorted_handles new) (sorted_handles old)
    (get_written new old fh None at)

-- a table is what its handles are
of_handles : (next : ℕ) (a b : Map FileHandle) → a ≡ b
    → ◌≡◌ {A = HandleTable} (record { handles = a; next_fh = next }) (record { handles = b; next_fh = next })
of_handles next a b is = λ i. record { handles = is i; next_fh = next }

pub opened : (new old : List (ℕ × OpenFile)) (next file : ℕ)
    → ((q : ℕ) → lookup (nat_eq q) new ≡ cond (nat_eq next q) (Some (record { file = file; count = 1 }))
    (lookup (nat_eq q) old))
    → table_of new (next + 1) ≡ handle_opened (table_of old next) file
opened new old next file at = of_handles (next + 1) _ _
    (handles-put new old next (record { file = file; count = 1 }) at)

pub more-none : (opens : List (ℕ × OpenFile)) (next fh : ℕ) → lookup (nat_eq fh) opens ≡ None
    → table_of opens next ≡ handle_more (table_of opens next) fh
more-none opens next fh none = of_handles next _ _
    (sym (ap (handles_more (handles_of opens) fh) (get_there opens fh None none)))

pub more-some : (new opens : List (ℕ × OpenFile)) (next fh : ℕ) (old : OpenFile) → lookup (nat_eq fh) opens ≡ Some old
    → ((q : ℕ) → lookup (nat_eq q) new ≡ cond (nat_eq fh q) (Some (record old { count = old.count + 1 }))
    (lookup (nat_eq q) opens))
    → table_of new next ≡ handle_more (table_of opens next) fh
more-some new opens next fh old is at =
    of_handles next _ _ (handles-put new opens fh (record old { count = old.count + 1 }) at ∙ sym
    (ap (handles_more (handles_of opens) fh) (get_there opens fh (Some old) is)))

many_is : (n : ℕ) → 1 < n → true ≡ nat_lt 1 n
many_is n many = grind (arith, many, rules)

few_is : (n : ℕ) → n ≤ 1 → false ≡ nat_lt 1 n
few_is n few = grind (arith, few, rules)

pub less-none : (opens : List (ℕ × OpenFile)) (next fh : ℕ) → lookup (nat_eq fh) opens ≡ None
    → table_of opens next ≡ handle_back (table_of opens next) fh
less-none opens next fh none = of_handles next _ _
    (sym (ap (handles_less (handles_of opens) fh) (get_there opens fh None none)))

lessened : List (ℕ × OpenFile) → ℕ → OpenFile → Bool → Map FileHandle
lessened opens fh old b = cond b (put (handles_of opens) fh (record { file = old.file; count = old.count - 1 }))
    (remove (handles_of opens) fh)

pub less-some : (new opens : List (ℕ × OpenFile)) (next fh : ℕ) (old : OpenFile) → lookup (nat_eq fh) opens ≡ Some old
    → 1 < old.count
    → ((q : ℕ) → lookup (nat_eq q) new ≡ cond (nat_eq fh q) (Some (record old { count = old.count - 1 }))
    (lookup (nat_eq q) opens))
    → table_of new next ≡ handle_back (table_of opens next) fh
unfolding lessened
less-some new opens next fh old is many at =
    of_handles next _ _ (handles-put new opens fh (record old { count = old.count - 1 }) at ∙ ap
    (lessened opens fh old) (many_is old.count many)
    ∙ sym (ap (handles_less (handles_of opens) fh) (get_there opens fh (Some old) is)))

pub less-last : (new opens : List (ℕ × OpenFile)) (next fh : ℕ) (old : OpenFile) → lookup (nat_eq fh) opens ≡ Some old
    → old.count ≤ 1
    → ((q : ℕ) → lookup (nat_eq q) new ≡ cond (nat_eq fh q) None (lookup (nat_eq q) opens))
    → table_of new next ≡ handle_back (table_of opens next) fh
unfolding lessened
less-last new opens next fh old is few at =
    of_handles next _ _ (handles-remove new opens fh at ∙ ap (lessened opens fh old) (few_is old.count few)
    ∙ sym (ap (handles_less (handles_of opens) fh) (get_there opens fh (Some old) is)))
