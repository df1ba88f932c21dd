-- What the nodes have that a frame forgets.
use Rattle.std.proofs.Common.{◌≡◌, ℕ, zero, suc, ◌≤◌, ◌<◌, ◌||◌, Bool, true, false, cond, List, [], ◌∷◌, ◌++◌, Option, Some, None, nat_eq, slice_get, take, append-nil, append_assoc, refl, ap, sym, subst, ◌∙◌, arith}
use Rattle.std.specs.List.{list_all, list_any}
use Rattle.std.proofs.lemmas.Bool.{and_parts, false≢true}
use Rattle.std.proofs.lemmas.List.Sums.{sum_by-cons}
use Rattle.fk_fields.specs.Fields.{number_at}
use Rattle.fuse_spec.specs.Kernel.Messages.{Forget}
use Rattle.fuse_spec.specs.Server.Server.{forgotten}
use Rattle.fuse_theorem.proofs.Calls.Finding.{same_is}
use Rattle.fuse_protocol.specs.declared.agreed.Agreed.{Agreed}
use Rattle.fuse_protocol.specs.declared.opcode.Opcode.{Opcode}
use Rattle.fuse_protocol.specs.declared.opcode.Opcode.TheVariants as op
use Rattle.fuse_protocol.specs.Pairs.{pairs_of_row}
use Rattle.fuse_protocol.specs.Places.{number_in, places_at}
use Rattle.fuse_protocol.specs.Table.{row_at}
use Rattle.fuse_sessions.specs.declared.act.Act.{Act}
use Rattle.fuse_sessions.specs.declared.act.Act.TheVariants as act
use Rattle.fuse_sessions.specs.declared.act.Asked.{Asked}
use Rattle.fuse_sessions.specs.Counts.{most_count}
use Rattle.fuse_sessions.specs.RequestActs.{forgets_in, number_of}
use Rattle.fuse_sessions.specs.Sessions.{Session}
use Rattle.fuse_sessions.specs.UnreadRequests.{unique_in}
use Rattle.fuse_sessions.specs.Waiting.{names_node, waiting}
use Rattle.driven_sessions.proofs.Asks.{EachAsked}
use Rattle.driven_sessions.proofs.Calm.{AreCalm, is_calm, pass_on}
use Rattle.driven_sessions.proofs.Doing.{Does, comes_again, forgets_many, forgets_one, interrupts, nothing, reads}
use Rattle.driven_sessions.proofs.Forgetting.{AreForgets}
use Rattle.driven_sessions.proofs.Forgotten.{pairs_read}
use Rattle.driven_sessions.proofs.Frames.{SaysForgets}
use Rattle.driven_sessions.proofs.Single.{front, struct_number}
use Rattle.driven_sessions.proofs.Takes.{count_on}
use Rattle.driven_sessions.proofs.Files.Opened.{AreStill, still_waiting}

-- ---- a node that no request names which waits

abbrev pub NamesNot : ℕ → ℕ → Asked → Type 0
NamesNot node u a = names_node node a ≡ false

pub none_named : (node : ℕ) (es : List (ℕ × Asked)) → EachAsked (NamesNot node) es
    → list_any (λ (e : ℕ × Asked). names_node node e.1) es ≡ false
none_named node [] each = refl
none_named node (e ∷ es) each =
    ap (λ (b : Bool). b || list_any (λ (x : ℕ × Asked). names_node node x.1) es) each.0 ∙ none_named node es each.1

-- It stays so.
pub named_on : (s acts : Session) → AreStill acts → (id : ℕ) → EachAsked (NamesNot id) (waiting s)
    → EachAsked (NamesNot id) (waiting (s ++ acts))
named_on s acts are id each = subst (EachAsked (NamesNot id)) (sym (still_waiting s acts are)) each

-- ---- acts that forget nothing

abbrev pub is_forgetless : Act → Bool
is_forgetless (act.Forgets node lookups) = false
is_forgetless a = true

abbrev pub AreForgetless : List Act → Type 0
AreForgetless acts = list_all is_forgetless acts ≡ true

forgetless_where_calm : (a : Act) → is_calm a ≡ true → is_forgetless a ≡ true
forgetless_where_calm (act.Forgets node lookups) is = absurd (false≢true is)
forgetless_where_calm a is = refl

pub calm_forgetless : (acts : List Act) → AreCalm acts → AreForgetless acts
calm_forgetless = pass_on is_calm is_forgetless forgetless_where_calm

-- ---- acts whose forgets are such

-- A property of a node in a session, which acts keep that open and release nothing, and ask and answer nothing.
module _ (IsSuch : Session → ℕ → Type 0)
    (keeps : (s acts : Session) → AreStill acts → (id : ℕ) → IsSuch s id → IsSuch (s ++ acts) id) where
  -- As the last lookups of a node are forgotten, it has it.
  abbrev pub AllSuch : Session → List Act → Type 0
  AllSuch s [] = Unit {0}
  AllSuch s (act.Forgets node lookups ∷ later) =
      (0 < lookups → most_count s node ≡ lookups → IsSuch s node) × AllSuch (s ++ act.Forgets node lookups ∷ []) later
  AllSuch s (a ∷ later) = AllSuch (s ++ a ∷ []) later

  pub forgetless_all : (s : Session) (acts : List Act) → AreForgetless acts → AllSuch s acts
  forgetless_all s [] are = tt
  forgetless_all s (act.Forgets node lookups ∷ acts) are = absurd (false≢true are)
  forgetless_all s (a ∷ acts) are = forgetless_all (s ++ a ∷ []) acts (and_parts (is_forgetless a) (list_all is_forgetless acts) are).1

  pub all_append : (s : Session) (xs ys : List Act) → AllSuch s xs → AllSuch (s ++ xs) ys → AllSuch s (xs ++ ys)
  all_append s [] ys first second = subst (λ (t : Session). AllSuch t ys) (append-nil s) second
  all_append s (act.Forgets node lookups ∷ xs) ys first second = (
    first.0,
    all_append (s ++ act.Forgets node lookups ∷ []) xs ys first.1
        (subst (λ (t : Session). AllSuch t ys) (sym (append_assoc s (act.Forgets node lookups ∷ []) xs)) second),
  )
  all_append s (a ∷ xs) ys first second =
      all_append (s ++ a ∷ []) xs ys first (subst (λ (t : Session). AllSuch t ys) (sym (append_assoc s (a ∷ []) xs)) second)

  -- So it is at each place.
  pub all_at : (s : Session) (acts : List Act) → AllSuch s acts → (place node lookups : ℕ)
      → slice_get acts place ≡ Some (act.Forgets node lookups) → 0 < lookups → most_count (s ++ take place acts) node ≡ lookups
      → IsSuch (s ++ take place acts) node
  all_at s [] all place node lookups stands some last = absurd (nowhere stands)
    where
      nowhere : slice_get [] place ≡ Some (act.Forgets node lookups) → ⊥
      nowhere e = cc
  all_at s (a ∷ acts) all zero node lookups stands some last =
      let same : a ≡ act.Forgets node lookups = some_act a (act.Forgets node lookups) stands in
      subst (λ (t : Session). IsSuch t node) (sym (append-nil s))
      ((subst (λ (x : Act). AllSuch s (x ∷ acts)) same all).0 some (ap (λ (t : Session). most_count t node) (sym (append-nil s)) ∙ last))
    where
      some_act : (a b : Act) → ◌≡◌ {A = Option Act} (Some a) (Some b) → a ≡ b
      some_act a b same = ap of same
        where
          of : Option Act → Act
          of None = a
          of (Some x) = x
  all_at s (a ∷ acts) all (suc place) node lookups stands some last =
      let same : (s ++ a ∷ []) ++ take place acts ≡ s ++ a ∷ take place acts = append_assoc s (a ∷ []) (take place acts) in
      subst (λ (t : Session). IsSuch t node) same
      (all_at (s ++ a ∷ []) acts (rest a all) place node lookups stands some (ap (λ (t : Session). most_count t node) same ∙ last))
    where
      rest : (x : Act) → AllSuch s (x ∷ acts) → AllSuch (s ++ x ∷ []) acts
      rest (act.Forgets n l) all = all.1
      rest x all = all

  -- ---- the forgets of a frame

  -- They are of nodes, and where a node may have no further lookup it has the property.
  abbrev pub AreLast : Session → List Forget → Type 0
  AreLast s fs = AreForgets fs × ((id : ℕ) → 2 ≤ id → 1 ≤ forgotten id fs → most_count s id ≤ forgotten id fs → IsSuch s id)

  -- Acts before them forget and ask nothing.
  later_such : (s acts : Session) (fs : List Forget) → AreStill acts → ((id : ℕ) → most_count s id ≤ most_count (s ++ acts) id)
      → AreLast s fs → AreLast (s ++ acts) fs
  later_such s acts fs are grows such = (
    such.0,
    λ id low some last. keeps s acts are id (such.1 id low some (let more = grows id in omega (arith, more, last))),
  )

  pairs_such : (s : Session) (pairs : List Forget) → AreLast s pairs → AllSuch s (forgets_in pairs)
  pairs_such s [] such = tt
  pairs_such s (p ∷ pairs) such = (
    λ some last. such.1 p.0 such.0.0.0 (let sum = mine in omega (arith, sum, some)) (let sum = mine in omega (arith, sum, last)),
    pairs_such (s ++ act.Forgets p.0 p.1 ∷ []) pairs (
      such.0.1,
      λ id low some last. keeps s (act.Forgets p.0 p.1 ∷ []) refl id
          (let on = count_on id s (act.Forgets p.0 p.1 ∷ []) in
          let sum = sum_by-cons (λ (f : Forget). cond (nat_eq f.0 id) f.1 0) p pairs in
          such.1 id low (omega (arith, sum, some)) (omega (arith, on, sum, last))),
    ),
  )
    where
      mine : p.1 ≤ forgotten p.0 (p ∷ pairs)
      mine =
          let sum = sum_by-cons (λ (f : Forget). cond (nat_eq f.0 p.0) f.1 0) p pairs in
          let self : cond (nat_eq p.0 p.0) p.1 0 ≡ p.1 = ap (λ (b : Bool). cond b p.1 0) (same_is p.0) in
          omega (arith, sum, self)

  -- Forgets behind the reading of their request.
  read_such : (s : Session) (o : Opcode) (u : ℕ) (pairs : List Forget) → AreLast s pairs
      → AllSuch s (front o ++ act.Read (Some o) u ∷ forgets_in pairs)
  read_such s o u pairs such =
      let before : List Act = front o ++ act.Read (Some o) u ∷ [] in
      all_append s (front o) (act.Read (Some o) u ∷ forgets_in pairs) (forgetless_all s (front o) refl)
      (pairs_such ((s ++ front o) ++ act.Read (Some o) u ∷ []) pairs
      (subst (λ (t : Session). AreLast t pairs) (sym (append_assoc s (front o) (act.Read (Some o) u ∷ [])))
      (later_such s before pairs refl
      (λ id. let on = count_on id s before in omega (arith, on)) such)))

  pub forgets_such : (agreed : Agreed) (frame : List ℕ) (s : Session) (acts : List Act) → SaysForgets (AreLast s) frame
      → Does agreed frame acts → AllSuch s acts
  forgets_such agreed frame s acts says (reads other before after calm calm_after o same) = subst (AllSuch s) (sym same)
      (all_append s before (act.Read o (unique_in frame) ∷ after) (forgetless_all s before (calm_forgetless before calm))
      (forgetless_all ((s ++ before) ++ act.Read o (unique_in frame) ∷ []) after (calm_forgetless after calm_after)))
  forgets_such agreed frame s acts says (forgets_one m is same) =
      let lookups : ℕ = number_of (number_in (places_at op.Forget).forgotten m.fixed) in
      let whole = is.whole in
      let number : lookups ≡ number_at 40 8 frame = struct_number frame m.fixed (omega (arith, whole)) is.fixed in
      let said : AreLast s ((number_at 16 8 frame, number_at 40 8 frame) ∷ []) =
      says.one (ap (λ (n : ℕ). nat_eq n 2) is.opcode) in
      let fine : AreLast s ((m.nodeid, lookups) ∷ []) =
      subst (λ (n : ℕ). AreLast s ((m.nodeid, n) ∷ [])) (sym number)
      (subst (λ (n : ℕ). AreLast s ((n, number_at 40 8 frame) ∷ [])) is.nodeid said) in
      subst (AllSuch s) (sym same) (read_such s op.Forget (unique_in frame) ((m.nodeid, lookups) ∷ []) fine)
  forgets_such agreed frame s acts says (forgets_many m is same) =
      let pairs : List Forget = pairs_of_row (row_at op.BatchForget).tail m.tail in
      let said = says.many (ap (λ (n : ℕ). nat_eq n 42) is.opcode) in
      let fine : AreLast s pairs = subst (AreLast s) (sym (pairs_read agreed frame m is said.0 said.1 said.2)) said.3 in
      subst (AllSuch s) (sym same) (read_such s op.BatchForget (unique_in frame) pairs fine)
  forgets_such agreed frame s acts says (interrupts m is same) = subst (AllSuch s) (sym same) tt
  forgets_such agreed frame s acts says (comes_again high other o m same) = subst (AllSuch s) (sym same) tt
  forgets_such agreed frame s acts says (nothing calm) = forgetless_all s acts (calm_forgetless acts calm)
