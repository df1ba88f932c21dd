-- Writes one after another.
use Rattle.std.proofs.Common.{◌≡◌, ◌++◌, ◌<◌, ℕ, List, [], ◌∷◌, Option, Result, Ok, Err, length, take, drop, get_or, map, suc, zero, arith, refl, sym, ap, subst, ◌∙◌, append_assoc, append-nil, take-append-drop}
use Rattle.std.proofs.lemmas.List.{take_at}
use Rattle.std.specs.Prelude.{OnErr, OnOk, flat_map}
use Rattle.std.specs.Io.KnownBytes.{Appends}
use Rattle.std.proofs.KnownBytes.{Appends-nil, Appends-trans}
use Rattle.fuse_text.specs.Outputs.{AppendsSome}

-- what follows from a fact on `Ok`
pub OnOk-map : {T E : Type 0} (P Q : Type 0) (r : Result T E) → (P → Q) → OnOk r P → OnOk r Q
OnOk-map P Q (Ok x) f h = f h
OnOk-map P Q (Err e) f h = tt

pub OnOk-always : {T E : Type 0} (P : Type 0) (r : Result T E) → P → OnOk r P
OnOk-always P (Ok x) h = h
OnOk-always P (Err e) h = tt

-- what follows from a fact on `Err`
pub OnErr-map : {T E : Type 0} (P Q : Type 0) (r : Result T E) → (P → Q) → OnErr r P → OnErr r Q
OnErr-map P Q (Ok x) f h = tt
OnErr-map P Q (Err e) f h = f h

pub OnErr-always : {T E : Type 0} (P : Type 0) (r : Result T E) → P → OnErr r P
OnErr-always P (Ok x) h = tt
OnErr-always P (Err e) h = h

-- ---- beginnings of a text

-- what was written is a beginning of what it is a first part of
pub some_of : (old new : Option (List ℕ)) (text done rest : List ℕ) → text ≡ done ++ rest → Appends old new done
    → AppendsSome old new text
some_of old new text done rest split appends =
    let front : take (length done) text ≡ done =
    ap (λ (l : List ℕ). take (length done) l) split ∙ take_at done rest (length done) refl in
    record { count = length done; part = subst (λ (l : List ℕ). Appends old new l) (sym front) appends }

-- nothing
pub some_none : (old new : Option (List ℕ)) (text : List ℕ) → Appends old new [] → AppendsSome old new text
some_none old new text appends = some_of old new text [] text refl appends

-- all
pub some_all : (old new : Option (List ℕ)) (text : List ℕ) → Appends old new text → AppendsSome old new text
some_all old new text appends = some_of old new text text [] (sym (append-nil text)) appends

-- the first part, or a beginning of it
pub some_first : (old new : Option (List ℕ)) (first rest whole : List ℕ) → whole ≡ first ++ rest
    → AppendsSome old new first → AppendsSome old new whole
some_first old new first rest whole is some =
    let n = some.count in
    some_of old new whole (take n first) (drop n first ++ rest)
    (is ∙ ap (λ (l : List ℕ). l ++ rest) (sym (take-append-drop n first)) ∙ append_assoc (take n first) (drop n first) rest)
    some.part

-- the first part, and a beginning of the rest
pub some_then : (old mid new : Option (List ℕ)) (first rest whole : List ℕ) → whole ≡ first ++ rest
    → Appends old mid first → AppendsSome mid new rest → AppendsSome old new whole
some_then old mid new first rest whole is before some =
    let n = some.count in
    some_of old new whole (first ++ take n rest) (drop n rest)
    (is ∙ ap (λ (l : List ℕ). first ++ l) (sym (take-append-drop n rest)) ∙ sym
    (append_assoc first (take n rest) (drop n rest)))
    (Appends-trans old mid new first (take n rest) before some.part)

-- the first part was taken, and then one refused
pub refused_then : {T E : Type 0} (r : Result T E) (old mid new : Option (List ℕ)) (first rest whole : List ℕ)
    → whole ≡ first ++ rest → Appends old mid first → OnErr r (AppendsSome mid new rest)
    → OnErr r (AppendsSome old new whole)
refused_then (Ok x) old mid new first rest whole is before after = tt
refused_then (Err e) old mid new first rest whole is before after =
    some_then old mid new first rest whole is before after

-- ---- texts of one element after another

flat_split : {X : Type 0} (f : X → List ℕ) (xs : List X) (i : ℕ) (d : X) → i < length xs
    → flat_map f xs ≡ flat_map f (take i xs) ++ (f (get_or xs i d) ++ flat_map f (drop (suc i) xs))
flat_split f [] i d h = absurd (omega arith)
flat_split f (x ∷ xs) zero d h = refl
flat_split f (x ∷ xs) (suc i) d h =
    ap (λ (l : List ℕ). f x ++ l) (flat_split f xs i d (omega arith))
    ∙ sym (append_assoc (f x) (flat_map f (take i xs)) (f (get_or xs i d) ++ flat_map f (drop (suc i) xs)))

-- those before one were taken, and then it was refused
pub some_within : {X : Type 0} (f : X → List ℕ) (xs : List X) (i : ℕ) (d : X) (old mid new : Option (List ℕ))
    → i < length xs → Appends old mid (flat_map f (take i xs)) → AppendsSome mid new (f (get_or xs i d))
    → AppendsSome old new (flat_map f xs)
some_within f xs i d old mid new within before some =
    let here = f (get_or xs i d) in
    let rest = flat_map f (drop (suc i) xs) in
    some_then old mid new (flat_map f (take i xs)) (here ++ rest) (flat_map f xs) (flat_split f xs i d within) before
    (some_first mid new here rest (here ++ rest) refl some)

map_split : (f : ℕ → ℕ) (xs : List ℕ) (i d : ℕ) → i < length xs
    → map f xs ≡ map f (take i xs) ++ (f (get_or xs i d) ∷ map f (drop (suc i) xs))
map_split f [] i d h = absurd (omega arith)
map_split f (x ∷ xs) zero d h = refl
map_split f (x ∷ xs) (suc i) d h = ap (λ (l : List ℕ). f x ∷ l) (map_split f xs i d (omega arith))

pub some_within_map : (f : ℕ → ℕ) (xs : List ℕ) (i d : ℕ) (old mid new : Option (List ℕ)) → i < length xs
    → Appends old mid (map f (take i xs)) → AppendsSome mid new (f (get_or xs i d) ∷ [])
    → AppendsSome old new (map f xs)
some_within_map f xs i d old mid new within before some =
    let rest = map f (drop (suc i) xs) in
    some_then old mid new (map f (take i xs)) (f (get_or xs i d) ∷ rest) (map f xs) (map_split f xs i d within) before
    (some_first mid new (f (get_or xs i d) ∷ []) rest (f (get_or xs i d) ∷ rest) refl some)

-- the same of an element that is read as a value
pub some_within_item : {X : Type 0} (f : X → List ℕ) (xs : List X) (i : ℕ) (x : X) (old mid new : Option (List ℕ))
    → i < length xs → x ≡ get_or xs i x → Appends old mid (flat_map f (take i xs)) → AppendsSome mid new (f x)
    → AppendsSome old new (flat_map f xs)
some_within_item f xs i x old mid new within is before some =
    some_within f xs i x old mid new within before (subst (λ y. AppendsSome mid new (f y)) is some)

-- ---- three parts

-- the first of three refused, the second, or the third
pub refused_1 : {T E : Type 0} (r : Result T E) (old new : Option (List ℕ)) (a b c whole : List ℕ)
    → whole ≡ a ++ (b ++ c) → AppendsSome old new a → OnErr r (AppendsSome old new whole)
refused_1 r old new a b c whole is some = OnErr-always _ r (some_first old new a (b ++ c) whole is some)

pub refused_2 : {T E : Type 0} (r : Result T E) (old mid new : Option (List ℕ)) (a b c whole : List ℕ)
    → whole ≡ a ++ (b ++ c) → Appends old mid a → AppendsSome mid new b → OnErr r (AppendsSome old new whole)
refused_2 r old mid new a b c whole is before some =
    OnErr-always _ r
    (some_then old mid new a (b ++ c) whole is before (some_first mid new b c (b ++ c) refl some))

pub refused_3 : {T E : Type 0} (r : Result T E) (old mid after_b new : Option (List ℕ)) (a b c whole : List ℕ)
    → whole ≡ a ++ (b ++ c) → Appends old mid a → Appends mid after_b b → OnErr r (AppendsSome after_b new c)
    → OnErr r (AppendsSome old new whole)
refused_3 r old mid after_b new a b c whole is first second after =
    refused_then r old mid new a (b ++ c) whole is first
    (refused_then r mid after_b new b c (b ++ c) refl second after)

-- whatever the result, a beginning was written
pub some_either : {T E : Type 0} (r : Result T E) (old new : Option (List ℕ)) (text : List ℕ)
    → OnOk r (Appends old new text) → OnErr r (AppendsSome old new text) → AppendsSome old new text
some_either (Ok x) old new text all some = some_all old new text all
some_either (Err e) old new text all some = some

-- ---- a list, written element by element

-- of the texts of all, those of the ones that are left are still to be written
pub record Left {T : Type 0} (f : T → List ℕ) (old now : Option (List ℕ)) (all left : List T) : Type 0 where
  pub done : List ℕ
  pub wrote : Appends old now done
  pub rest : done ++ flat_map f left ≡ flat_map f all

pub none_done : {T : Type 0} (f : T → List ℕ) (old : Option (List ℕ)) (all : List T) → Left f old old all all
none_done f old all = record { done = []; wrote = Appends-nil old; rest = refl }

pub one_more : {T : Type 0} (f : T → List ℕ) (old mid new : Option (List ℕ)) (all rest : List T) (x : T)
    → Left f old mid all (x ∷ rest) → Appends mid new (f x) → Left f old new all rest
one_more f old mid new all rest x h wrote = record {
  done = h.done ++ f x;
  wrote = Appends-trans old mid new h.done (f x) h.wrote wrote;
  rest = append_assoc h.done (f x) (flat_map f rest) ∙ h.rest;
}

pub all_done : {T : Type 0} (f : T → List ℕ) (old now : Option (List ℕ)) (all : List T) → Left f old now all []
    → Appends old now (flat_map f all)
all_done f old now all h =
    let same : h.done ≡ flat_map f all = sym (append-nil h.done) ∙ h.rest in
    rw (← same) h.wrote

-- ---- some writes in a row

pub Appends-three : (a b c d : Option (List ℕ)) (xs ys zs : List ℕ) → Appends a b xs → Appends b c ys → Appends c d zs
    → Appends a d (xs ++ ys ++ zs)
Appends-three a b c d xs ys zs p q r =
    Appends-trans a c d (xs ++ ys) zs (Appends-trans a b c xs ys p q) r

pub Appends-four : (a b c d e : Option (List ℕ)) (xs ys zs ws : List ℕ) → Appends a b xs → Appends b c ys
    → Appends c d zs → Appends d e ws → Appends a e (xs ++ ys ++ zs ++ ws)
Appends-four a b c d e xs ys zs ws p q r s =
    Appends-trans a d e (xs ++ ys ++ zs) ws (Appends-three a b c d xs ys zs p q r) s
