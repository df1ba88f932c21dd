-- What a change of a connection results in.
use Rattle.std.proofs.Common.{◌≡◌, ℕ, zero, suc, ◌+◌, ◌<◌, Bool, true, false, cond, not, Option, Some, None, List, Vec, [], ◌∷◌, ◌++◌, length, map, get_or, take, drop, length-take, refl, sym, ap, subst, ◌∙◌, arith}
use Rattle.std.specs.Prelude.{◌==◌, ◌^◌, ◌≢◌, All, nat_lt, position, remove, slice_get}
use Rattle.std.specs.List.{position_or_len}
use Rattle.std.proofs.lemmas.Bool.Decides.{nat_tests}
use Rattle.std.proofs.lemmas.List.{get_or-take, map-append}
use Rattle.std.proofs.lemmas.List.Elements.{All-map}
use Rattle.std.proofs.lemmas.List.Quantifiers.{position-Some}
use Rattle.std.proofs.lemmas.List.Sums.{prefix_len_passes}
use Rattle.std.proofs.lemmas.Option.{get_or_from_slice_get}
use Rattle.fuse_spec.specs.declared.Opened.{Opened}
use Rattle.fuse_spec.specs.Kernel.Kernel.{Kernel}
use Rattle.fuse_spec.specs.Kernel.Messages.{Request}
use Rattle.fuse_device.specs.Transfers.{Transfer, received}
use Rattle.fuse_frames.specs.DecodedReplies.{HasReplyHead, head_unique}
use Rattle.fk_drive_frames.specs.Asides.{IsOtherFrame}
use Rattle.fk_drive_frames.specs.OwnRequests.{GivesHandle, IsReleasedir}
use Rattle.fk_drive.specs.Driven.{KeepsWaiting, directories_in, driven}
use Rattle.fk_drive_frames.specs.declared.filling.FreeFields.{FreeFields}
use Rattle.fk_drive.specs.Driving.{Driven, SendsFrame, DriveStep, ReleasesBehind, Turn, is_given, opened, opening, releases, releasing, waits}
use Rattle.fk_drive.specs.Steps.{IsKept, SendStep}
use Rattle.fk_drive.specs.declared.connection.Connection.{Connection}
use Rattle.fk_drive.specs.declared.connection.Directory.{Directory}

abbrev pub state : Kernel → List (List ℕ) → ℕ → Bool → List (ℕ × Opened) → Turn → Driven
state kernel waiting next asks directories turn = record {
  kernel = kernel;
  waiting = waiting;
  next = next;
  asks = asks;
  directories = directories;
  turn = turn;
}

abbrev pub pair : Directory → ℕ × Opened
pair d = (d.unique, d.opened)

abbrev pub bytes : {A : Type 0} → Vec ℕ A → List ℕ
bytes frame = frame.items

-- a step at which this frame is received, and waits or is set aside
abbrev pub Keeping : List ℕ → Driven → Driven → Type 0
Keeping frame old new = (step : DriveStep old (received frame ∷ []) new) × IsKept frame step

module _ {A : Type 0} (kernel : Kernel) (old new : Connection A) where
  pub step_waits : (frame : Vec ℕ A) → new.waiting.items ≡ old.waiting.items ++ frame ∷ []
      → new ≡ record old { waiting = new.waiting } → (turn : Turn) → (IsOtherFrame old.next frame.items → ⊥)
      → Keeping frame.items (driven kernel old turn) (driven kernel new turn)
  step_waits frame items same turn is =
      let to : driven kernel new turn ≡ state kernel (map bytes old.waiting.items ++ frame.items ∷ []) old.next old.asks
      (map pair old.directories.items) turn =
      ap (λ (c : Connection A). driven kernel c turn) same
      ∙ ap (λ (w : List (Vec ℕ A)). state kernel (map bytes w) old.next old.asks (map pair old.directories.items) turn) items
      ∙ ap (λ (w : List (List ℕ)). state kernel w old.next old.asks (map pair old.directories.items) turn)
      (map-append bytes old.waiting.items (frame ∷ [])) in
      subst (λ (s : Driven). Keeping frame.items (driven kernel old turn) s) (sym to) (waits frame.items is, refl)

  pub step_given : (request : Request) (own node fh unique : ℕ) → request.unique ≡ unique
      → new.directories.items ≡ old.directories.items ++ (record { unique = unique; opened = record { nodeid = node; fh = fh } }) ∷ []
      → new ≡ record old { directories = new.directories } → (frame : List ℕ) → GivesHandle frame own fh
      → (free_fields : FreeFields)
      → SendStep free_fields (driven kernel old (opening request own node)) (received frame ∷ []) (driven kernel new (opened request fh))
  step_given request own node fh unique under items same frame gives free_fields =
      let place : Opened = record { nodeid = node; fh = fh } in
      let turn = opened request fh in
      let to : driven kernel new turn ≡ state kernel (map bytes old.waiting.items) old.next old.asks
      (map pair old.directories.items ++ (request.unique, place) ∷ []) turn =
      ap (λ (c : Connection A). driven kernel c turn) same
      ∙ ap (λ (ds : List Directory). state kernel (map bytes old.waiting.items) old.next old.asks (map pair ds) turn) items
      ∙ ap (λ (ds : List (ℕ × Opened)). state kernel (map bytes old.waiting.items) old.next old.asks ds turn)
      (map-append pair old.directories.items ((record { unique = unique; opened = place }) ∷ []))
      ∙ ap (λ (u : ℕ). state kernel (map bytes old.waiting.items) old.next old.asks
      (map pair old.directories.items ++ (u, place) ∷ []) turn) (sym under) in
      subst (λ (s : Driven). SendStep free_fields (driven kernel old (opening request own node)) (received frame ∷ []) s) (sym to)
      (is_given request own node refl frame fh gives, tt)

-- the first of a list with some, and what is left
pub first_of : {X : Type 0} (xs ys : List X) (x : X) → 0 < length xs → x ≡ get_or xs 0 x → ys ≡ take 0 xs ++ drop 1 xs
    → xs ≡ x ∷ ys
first_of [] ys x some first rest = absurd (omega (arith, some))
first_of (a ∷ xs) ys x some first rest = ap (λ y. y ∷ xs) (sym first) ∙ ap (λ l. x ∷ l) (sym rest)

-- two that are first are the same
pub first_same : {X : Type 0} (xs : List X) (x y : X) → 0 < length xs → x ≡ get_or xs 0 x → y ≡ get_or xs 0 y → x ≡ y
first_same [] x y some one two = absurd (omega (arith, some))
first_same (a ∷ xs) x y some one two = one ∙ sym two

-- the frame that waits first, before the others
pub first_waits : {A : Type 0} (connection : Connection A) (first : Vec ℕ A) → 0 < length connection.waiting.items
    → first ≡ get_or connection.waiting.items 0 first
    → map bytes connection.waiting.items ≡ first.items ∷ map bytes (drop 1 connection.waiting.items)
first_waits connection first some is =
    ap (map bytes) (first_of connection.waiting.items (drop 1 connection.waiting.items) first some is refl)

-- what stands before a place, at it and behind it
parts_at : {X : Type 0} (xs : List X) (i : ℕ) (x : X) → i < length xs → x ≡ get_or xs i x
    → xs ≡ take i xs ++ x ∷ drop (i + 1) xs
parts_at [] i x within is = absurd (omega (arith, within))
parts_at (a ∷ xs) zero x within is = ap (λ y. y ∷ xs) (sym is)
parts_at {X} (a ∷ xs) (suc i) x within is =
    let next : suc i + 1 ≡ suc (i + 1) = omega arith in
    ap (λ l. a ∷ l) (parts_at xs i x (omega (arith, within)) is)
    ∙ ap (λ (n : ℕ). (a ∷ take i xs) ++ x ∷ drop n (a ∷ xs)) (sym next)

-- what a test that is passed, or is not, says
is_under : (x u : ℕ) → (x == u) ≡ true → x ≡ u
is_under x u e = grind (arith, nat_tests, e)

not_under : (x u : ℕ) → (x == u) ≡ false → x ≢ u
not_under x u e same = grind (arith, nat_tests, e, same)

not_passed : (b : Bool) → not b ≡ true → b ≡ false
not_passed true e = absurd (cc e)
not_passed false e = refl

none_passes : {X : Type 0} (p : X → Bool) (xs : List X) → position p xs ≡ None → (k : ℕ) (d : X) → k < length xs
    → p (get_or xs k d) ≡ false
none_passes {X} p xs none k d low = by (nat_lt (position_or_len p xs) (length xs)) refl
  where
    by : (b : Bool) → nat_lt (position_or_len p xs) (length xs) ≡ b → p (get_or xs k d) ≡ false
    by true e =
        let no : ◌≡◌ {A = Option ℕ} (Some (position_or_len p xs)) None =
        ap (λ (b : Bool). cond b (Some (position_or_len p xs)) None) (sym e) ∙ none in
        absurd (cc no)
    by false e =
        not_passed (p (get_or xs k d)) (prefix_len_passes (λ x. not (p x)) xs k d (grind (arith, nat_tests, e, low)))

-- a directory that stands at the first place with its number
pub releases_at : (frame : List ℕ) → HasReplyHead frame → (next : ℕ) → next < 2 ^ 63 → (directories : List Directory) (i : ℕ)
    (d : Directory) → position (λ x. x.unique == head_unique frame) directories ≡ Some i → slice_get directories i ≡ Some d
    → (bytes : List ℕ) → IsReleasedir bytes next d.opened → (log : List Transfer) → SendsFrame bytes log
    → ReleasesBehind frame next (map pair directories) log (next + 2) (map pair (remove directories i)) (releasing next)
releases_at frame head next low directories i d first there spelled about log sends =
    let u : ℕ = head_unique frame in
    let test : Directory → Bool = λ x. x.unique == u in
    let before : List Directory = take i directories in
    let after : List Directory = drop (i + 1) directories in
    let at = position-Some test directories i d first in
    let is : get_or directories i d ≡ d = get_or_from_slice_get directories i d d there in
    let under : d.unique ≡ u = is_under d.unique u (subst (λ (x : Directory). test x ≡ true) is at.1) in
    let split : map pair directories ≡ map pair before ++ (u, d.opened) ∷ map pair after =
    ap (map pair) (parts_at directories i d at.0 (sym is)) ∙ map-append pair before (d ∷ after)
    ∙ ap (λ (n : ℕ). map pair before ++ (n, d.opened) ∷ map pair after) under in
    let unlike : All (λ (x : Directory). x.unique ≢ u) before = λ k e short.
    let lower : k < i = omega (arith, short, length-take i directories) in
    not_under _ u (ap test (get_or-take i directories k e lower) ∙ (position-Some test directories i e first).2 k lower) in
    let same : suc i ≡ i + 1 = omega arith in
    let left : map pair (remove directories i) ≡ map pair before ++ map pair after =
    ap (λ (n : ℕ). map pair (before ++ drop n directories)) same ∙ map-append pair before after in
    subst (λ (ds : List (ℕ × Opened)). ReleasesBehind frame next (map pair directories) log (next + 2) ds (releasing next)) (sym left)
    (releases head low (map pair before) (map pair after) d.opened split (All-map (λ x. x.0 ≢ u) pair before unlike) spelled about log
    sends)

-- none has it
pub releases_nothing : (frame : List ℕ) (directories : List Directory)
    → position (λ x. x.unique == head_unique frame) directories ≡ None → All (λ x. x.0 ≢ head_unique frame) (map pair directories)
releases_nothing frame directories none =
    All-map (λ x. x.0 ≢ head_unique frame) pair directories
    (λ k d low. not_under _ (head_unique frame) (none_passes (λ x. x.unique == head_unique frame) directories none k d low))

-- what a connection is once it was released
pub released : {A : Type 0} (old new : Connection A) (frame : List ℕ) (i : ℕ)
    → new.directories.items ≡ remove old.directories.items i
    → new ≡ record old { next = old.next + 2; directories = new.directories } → (log : List Transfer) → (turn : Turn)
    → ReleasesBehind frame old.next (directories_in old) log (old.next + 2) (map pair (remove old.directories.items i)) turn
    → ReleasesBehind frame old.next (directories_in old) log new.next (directories_in new) turn
released {A} old new frame i left same log turn behind =
    let next : new.next ≡ old.next + 2 = ap (λ (c : Connection A). c.next) same in
    subst (λ (n : ℕ). ReleasesBehind frame old.next (directories_in old) log n (directories_in new) turn) (sym next)
    (subst (λ (ds : List Directory). ReleasesBehind frame old.next (directories_in old) log (old.next + 2) (map pair ds) turn)
    (sym left) behind)

pub keeps_waiting : {A : Type 0} (old new : Connection A)
    → new ≡ record old { next = old.next + 2; directories = new.directories } → KeepsWaiting old new
keeps_waiting {A} old new same =
    same ∙ ap (λ (n : ℕ). record old { next = n; directories = new.directories })
    (sym (ap (λ (c : Connection A). c.next) same))
