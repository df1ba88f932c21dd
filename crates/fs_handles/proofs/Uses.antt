-- What the calls keep true of the two maps.
use Rattle.std.proofs.Common.{◌≡◌, ◌≢◌, ℕ, ◌+◌, ◌<◌, ◌≤◌, ◌^◌, Bool, true, false, cond, List, [], ◌∷◌, ◌++◌, Option, Some, None, is_some, length, length-append, refl, ap, sym, ◌∙◌, arith, rules, nat_eq, sum_by, inl, inr, suc, Contains, unwrap_or, position, get_or}
use Rattle.std.specs.List.{IsDistinct, list_any}
use Rattle.std.specs.Cmp.{nat_eq_equiv}
use Rattle.std.specs.Map.{lookup, keys_of, values_of, set_value}
use Rattle.std.proofs.lemmas.Bool.{cases_eq, eq-eqb, eqb-true}
use Rattle.std.proofs.lemmas.Option.{none-some, same_Some, get_or_from_slice_get}
use Rattle.std.proofs.lemmas.List.{length-map}
use Rattle.std.proofs.lemmas.List.Sums.{sum_by-cons, sum_by-swap_remove}
use Rattle.std.proofs.lemmas.Map.Entries.{sum_by-set_value}
use Rattle.std.proofs.lemmas.Map.Views.{lookup-from_Contains}
use Rattle.indexmap.specs.IndexMap.{swap_remove_entry}
use Rattle.indexmap.proofs.MapLemmas.{Found-position, Missing-position, swap_remove_entry-found}
use Rattle.indexmap.proofs.SetLemmas.{map-swap_remove}
use Rattle.fuse_spec.specs.Values.Maps.{values}
use Rattle.fuse_spec.specs.Server.Nodes.{FileHandle}
use Rattle.fs_handles.specs.declared.open_file.OpenFile.{OpenFile}
use Rattle.fs_handles.specs.OpenNumbers.{handle_of, handles_of}
use Rattle.fuse_tables.specs.Tallies.{one_less, positive}
use Rattle.fs_handles.specs.Uses.{handle_use_of, numbers_of, AreUsesCounted}
use Rattle.fuse_tables.proofs.Maps.{HasValue, any_is}
use Rattle.fs_handles.proofs.Handles.{sorted_handles, get_there}

numbers-cons : (file : ℕ) (e : ℕ × OpenFile) (es : List (ℕ × OpenFile))
    → numbers_of file (e ∷ es) ≡ handle_use_of file e.1 + numbers_of file es
numbers-cons file e es = sum_by-cons (handle_use_of file) e.1 (values_of es)

-- a file with a file handle has an entry
entry_of : (file : ℕ) (opens : List (ℕ × OpenFile)) → 0 < numbers_of file opens
    → (fh : ℕ) × (opened : OpenFile) × Contains opens (fh, opened) × (opened.file ≡ file)
entry_of file [] some = absurd (omega arith)
entry_of file (e ∷ es) some = elim (cases_eq e.1.file file) [
  | inl same ↦ (e.0, e.1, (0, omega arith, refl), same)
  | inr other ↦
      let r = entry_of file es (let no : handle_use_of file e.1 ≡ 0 = grind (arith, other, rules) in
      omega (arith, no, numbers-cons file e es)) in
      (r.0, r.1, (let h = r.2 in (suc h.0, omega arith, h.2)), r.3)
]

-- and an entry of a file is counted
counts : (file fh : ℕ) (opened : OpenFile) (opens : List (ℕ × OpenFile)) → lookup (nat_eq fh) opens ≡ Some opened
    → opened.file ≡ file → 0 < numbers_of file opens
counts file fh opened [] is same = absurd (none-some opened is)
counts file fh opened (e ∷ es) is same = elim (cases_eq fh e.0) [
  | inl here ↦
      let there : e.1 ≡ opened = grind (arith, here, is, rules) in
      let one : handle_use_of file e.1 ≡ 1 = grind (arith, there, same, rules) in
      omega (arith, one, numbers-cons file e es)
  | inr other ↦
      let rest : lookup (nat_eq fh) es ≡ Some opened = grind (arith, other, is, rules) in
      let more = counts file fh opened es rest same in
      omega (arith, more, numbers-cons file e es)
]

-- an entry is taken out, and the last one stands in its place
numbers-swap_remove : (file : ℕ) (test : ℕ → Bool) (es : List (ℕ × OpenFile)) (old : OpenFile)
    → lookup test es ≡ Some old
    → numbers_of file (swap_remove_entry test es) + handle_use_of file old ≡ numbers_of file es
numbers-swap_remove file test es old is = by (position test (keys_of es)) refl
  where
    by : (at : Option ℕ) → position test (keys_of es) ≡ at
        → numbers_of file (swap_remove_entry test es) + handle_use_of file old ≡ numbers_of file es
    by None p = absurd (none-some old (sym (Missing-position test es p).value ∙ is))
    by (Some i) p =
        let found = Found-position test es i p in
        let within = found.within in
        let value : get_or (values_of es) i old ≡ old = get_or_from_slice_get (values_of es) i old old
        (sym found.value ∙ is) in
        let out = ap (numbers_of file) (swap_remove_entry-found test es i (0, old) p) ∙ ap (sum_by (handle_use_of file))
        (map-swap_remove (λ e. e.1) es i (0, old) (omega arith)) in
        let sums = sum_by-swap_remove (handle_use_of file) (values_of es) i old
        (let long = length-map es (λ e. e.1) in omega (arith, long)) in
        let one = ap (handle_use_of file) value in
        omega (arith, out, sums, one)

-- a write of another count under a handle in use
pub recounted : {opens : List (ℕ × OpenFile)} {uses : List (ℕ × ℕ)} {next : ℕ} (new : List (ℕ × OpenFile)) (fh : ℕ)
    (old with : OpenFile) → AreUsesCounted opens uses next
    → lookup (nat_eq fh) opens ≡ Some old → with.file ≡ old.file → new ≡ set_value (nat_eq fh) opens with
    → ((q : ℕ) → lookup (nat_eq q) new ≡ cond (nat_eq fh q) (Some with) (lookup (nat_eq q) opens))
    → IsDistinct nat_eq (keys_of new) → length new ≡ length opens → AreUsesCounted new uses next
recounted {opens = opens} {uses = uses} {next = next} new fh old with table is same set at distinct len = record {
  counted = λ file. table.counted file ∙ ap positive (sym (as_many file));
  fresh = λ q le. at q ∙ fresh_at q le;
  distinct = distinct;
  few = (let few = table.few in omega arith);
  limit = table.limit;
}
  where
    as_many : (file : ℕ) → numbers_of file new ≡ numbers_of file opens
    as_many file =
        let sums = sum_by-set_value (handle_use_of file) (nat_eq fh) opens old with is in
        let one : handle_use_of file with ≡ handle_use_of file old = ap (λ f. cond (nat_eq f file) 1 0) same in
        ap (numbers_of file) set ∙ omega (arith, sums, one)

    fresh_at : (q : ℕ) → next ≤ q → cond (nat_eq fh q) (Some with) (lookup (nat_eq q) opens) ≡ None
    fresh_at q le = elim (cases_eq fh q) [
      | inl e ↦ absurd (none-some old (sym (table.fresh fh (omega arith)) ∙ is))
      | inr ne ↦ (let none = table.fresh q le in grind (arith, ne, none, rules))
    ]

-- the last use of a handle is taken back
pub ended : {opens : List (ℕ × OpenFile)} {uses : List (ℕ × ℕ)} {next : ℕ} (new : List (ℕ × OpenFile))
    (fewer : List (ℕ × ℕ)) (fh : ℕ) (old : OpenFile) → AreUsesCounted opens uses next
    → lookup (nat_eq fh) opens ≡ Some old → new ≡ swap_remove_entry (nat_eq fh) opens
    → ((q : ℕ) → lookup (nat_eq q) new ≡ cond (nat_eq fh q) None (lookup (nat_eq q) opens))
    → ((q : ℕ) → lookup (nat_eq q) fewer ≡ cond (nat_eq old.file q) (one_less (lookup (nat_eq old.file) uses))
    (lookup (nat_eq q) uses))
    → IsDistinct nat_eq (keys_of new) → length new ≤ length opens → AreUsesCounted new fewer next
ended {opens = opens} {uses = uses} {next = next} new fewer fh old table is removed at less distinct len = record {
  counted = λ file. less file ∙ counted_at file;
  fresh = λ q le. at q ∙ fresh_at q le;
  distinct = distinct;
  few = (let few = table.few in omega arith);
  limit = table.limit;
}
  where
    sums : (file : ℕ) → numbers_of file new + handle_use_of file old ≡ numbers_of file opens
    sums file =
        ap (λ es. numbers_of file es + handle_use_of file old) removed ∙ numbers-swap_remove file (nat_eq fh) opens old is

    less_one : (n m : ℕ) → n + 1 ≡ m → one_less (positive m) ≡ positive n
    less_one n m e = grind (arith, e, rules)

    counted_at : (file : ℕ) → cond (nat_eq old.file file) (one_less (lookup (nat_eq old.file) uses))
        (lookup (nat_eq file) uses) ≡ positive (numbers_of file new)
    counted_at file = elim (cases_eq old.file file) [
      | inl e ↦
          let one : handle_use_of file old ≡ 1 = grind (arith, e, rules) in
          let step = less_one (numbers_of file new) (numbers_of file opens) (omega (arith, sums file, one)) in
          let same : lookup (nat_eq old.file) uses ≡ positive (numbers_of file opens) =
          ap (λ f. lookup (nat_eq f) uses) e ∙ table.counted file in
          here file e ∙ ap one_less same ∙ step
      | inr ne ↦
          let none : handle_use_of file old ≡ 0 = grind (arith, ne, rules) in
          there file ne ∙ table.counted file ∙ ap positive (omega (arith, sums file, none))
    ]
      where
        here : (file : ℕ) → old.file ≡ file → cond (nat_eq old.file file) (one_less (lookup (nat_eq old.file) uses))
            (lookup (nat_eq file) uses) ≡ one_less (lookup (nat_eq old.file) uses)
        here file e = grind (arith, e, rules)

        there : (file : ℕ) → old.file ≢ file → cond (nat_eq old.file file) (one_less (lookup (nat_eq old.file) uses))
            (lookup (nat_eq file) uses) ≡ lookup (nat_eq file) uses
        there file ne = grind (arith, ne, rules)

    fresh_at : (q : ℕ) → next ≤ q → cond (nat_eq fh q) None (lookup (nat_eq q) opens) ≡ None
    fresh_at q le = (let none = table.fresh q le in grind (arith, none, rules))

-- a handle is given
pub given : {opens : List (ℕ × OpenFile)} {uses : List (ℕ × ℕ)} {next : ℕ} (new : List (ℕ × OpenFile))
    (more : List (ℕ × ℕ)) (file : ℕ) (with : OpenFile) → AreUsesCounted opens uses next
    → next < 2 ^ 62 → with.file ≡ file → new ≡ opens ++ (next, with) ∷ []
    → ((q : ℕ) → lookup (nat_eq q) new ≡ cond (nat_eq next q) (Some with) (lookup (nat_eq q) opens))
    → ((q : ℕ) → lookup (nat_eq q) more ≡ cond (nat_eq file q) (Some (unwrap_or (lookup (nat_eq file) uses) 0 + 1))
    (lookup (nat_eq q) uses))
    → IsDistinct nat_eq (keys_of new) → AreUsesCounted new more (next + 1)
given {opens = opens} {uses = uses} {next = next} new more file with table room same pushed at counts distinct =
    record {
      counted = λ q. counts q ∙ counted_at q;
      fresh = λ q le. at q ∙ fresh_at q le;
      distinct = distinct;
      few = (let few = table.few in let longer = ap length pushed ∙ length-append opens ((next, with) ∷ []) in
          omega (arith, few, longer));
      limit = omega arith;
    }
  where
    sums : (q : ℕ) → numbers_of q new ≡ numbers_of q opens + handle_use_of q with
    sums q = ap (numbers_of q) pushed ∙ pushes opens
      where
        pushes : (es : List (ℕ × OpenFile)) → numbers_of q (es ++ (next, with) ∷ []) ≡ numbers_of q es + handle_use_of q with
        pushes [] = sum_by-cons (handle_use_of q) with [] ∙ omega arith
        pushes (e ∷ es) = sum_by-cons (handle_use_of q) e.1 (values_of (es ++ (next, with) ∷ [])) ∙ omega
            (arith, pushes es, sum_by-cons (handle_use_of q) e.1 (values_of es))

    more_one : (n m : ℕ) → m ≡ n + 1 → Some (unwrap_or (positive n) 0 + 1) ≡ positive m
    more_one n m e = grind (arith, e, rules)

    counted_at : (q : ℕ) → cond (nat_eq file q) (Some (unwrap_or (lookup (nat_eq file) uses) 0 + 1))
        (lookup (nat_eq q) uses) ≡ positive (numbers_of q new)
    counted_at q = elim (cases_eq file q) [
      | inl e ↦
          let one : handle_use_of q with ≡ 1 = grind (arith, e, same, rules) in
          let step = more_one (numbers_of q opens) (numbers_of q new) (omega (arith, sums q, one)) in
          let has : lookup (nat_eq file) uses ≡ positive (numbers_of q opens) =
          ap (λ f. lookup (nat_eq f) uses) e ∙ table.counted q in
          here q e ∙ ap (λ o. Some (unwrap_or o 0 + 1)) has ∙ step
      | inr ne ↦
          let none : handle_use_of q with ≡ 0 = grind (arith, ne, same, rules) in
          there q ne ∙ table.counted q ∙ ap positive (omega (arith, sums q, none))
    ]
      where
        here : (q : ℕ) → file ≡ q → cond (nat_eq file q) (Some (unwrap_or (lookup (nat_eq file) uses) 0 + 1))
            (lookup (nat_eq q) uses) ≡ Some (unwrap_or (lookup (nat_eq file) uses) 0 + 1)
        here q e = grind (arith, e, rules)

        there : (q : ℕ) → file ≢ q → cond (nat_eq file q) (Some (unwrap_or (lookup (nat_eq file) uses) 0 + 1))
            (lookup (nat_eq q) uses) ≡ lookup (nat_eq q) uses
        there q ne = grind (arith, ne, rules)

    fresh_at : (q : ℕ) → next + 1 ≤ q → cond (nat_eq next q) (Some with) (lookup (nat_eq q) opens) ≡ None
    fresh_at q le = (let none = table.fresh q (omega arith) in let ne : next ≢ q = omega arith in
        grind (arith, none, ne, rules))

-- a file has no more file handles than there are
pub uses_few : {opens : List (ℕ × OpenFile)} {uses : List (ℕ × ℕ)} {next : ℕ} (file : ℕ) → AreUsesCounted opens uses next
    → unwrap_or (lookup (nat_eq file) uses) 0 < next
uses_few {opens = opens} {uses = uses} {next = next} file table =
    let few = table.few in
    let most = most_numbers opens in
    let is = ap (λ o. unwrap_or o 0) (table.counted file) ∙ value_of (numbers_of file opens) in
    omega (arith, few, most, is)
  where
    value_of : (n : ℕ) → unwrap_or (positive n) 0 ≡ n
    value_of n = grind (arith, rules)

    one_most : (opened : OpenFile) → handle_use_of file opened ≤ 1
    one_most opened = grind (arith, rules)

    most_numbers : (es : List (ℕ × OpenFile)) → numbers_of file es ≤ length es
    most_numbers [] = omega arith
    most_numbers (e ∷ es) = omega (arith, most_numbers es, one_most e.1, sum_by-cons (handle_use_of file) e.1 (values_of es))

-- to take out what was just written is to take out what was there
pub without_twice : {X : Type 0} (b : Bool) (written there : Option X)
    → cond b None (cond b written there) ≡ cond b None there
without_twice true written there = refl
without_twice false written there = refl

some_is : (n : ℕ) → is_some (positive n) ≡ true → 0 < n
some_is n some = grind (arith, some, rules)

is_there : (n : ℕ) → 0 < n → is_some (positive n) ≡ true
is_there n some = grind (arith, some, rules)

-- a file has a count exactly where some file handle is of it
pub has_is : {opens : List (ℕ × OpenFile)} {uses : List (ℕ × ℕ)} {next : ℕ} (answer : Bool) (file : ℕ)
    → AreUsesCounted opens uses next → answer ≡ is_some (lookup (nat_eq file) uses)
    → answer ≡ list_any (λ (handle : FileHandle). nat_eq handle.file file) (values (handles_of opens))
has_is {opens = opens} {uses = uses} answer file table is =
    any_is answer (handles_of opens) (λ (handle : FileHandle). nat_eq handle.file file)
    (sorted_handles opens) there back
  where
    counted_is : answer ≡ is_some (positive (numbers_of file opens))
    counted_is = is ∙ ap is_some (table.counted file)

    there : answer ≡ true → HasValue (handles_of opens) (λ (handle : FileHandle). nat_eq handle.file file)
    there is_so =
        let entry = entry_of file opens (some_is (numbers_of file opens) (sym counted_is ∙ is_so)) in
        record {
          key = entry.0;
          value = handle_of entry.1;
          there = get_there opens entry.0 (Some entry.1)
              (lookup-from_Contains nat_eq_equiv entry.0 entry.1 opens table.distinct entry.2);
          passes = eq-eqb entry.1.file file entry.3;
        }

    back : HasValue (handles_of opens) (λ (handle : FileHandle). nat_eq handle.file file) → answer ≡ true
    back has = by (lookup (nat_eq has.key) opens) refl
      where
        by : (found : Option OpenFile) → lookup (nat_eq has.key) opens ≡ found → answer ≡ true
        by None none = absurd (none-some has.value (sym (get_there opens has.key None none) ∙ has.there))
        by (Some kept) found =
            let same : handle_of kept ≡ has.value = same_Some _ _
            (sym (get_there opens has.key (Some kept) found) ∙ has.there) in
            let of_file : kept.file ≡ file =
            ap (λ (h : FileHandle). h.file) same ∙ eqb-true has.value.file file has.passes in
            counted_is ∙ is_there (numbers_of file opens) (counts file has.key kept opens found of_file)
