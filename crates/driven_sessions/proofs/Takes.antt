-- How often acts forget a node, and how the count of a node goes on.
use Rattle.std.proofs.Common.{◌≡◌, ◌≤◌, ℕ, ◌+◌, ◌-◌, true, cond, List, [], ◌∷◌, ◌++◌, nat_eq, refl, sym, ◌∙◌, ap, subst, arith}
use Rattle.std.specs.Prelude.{sum_by}
use Rattle.std.specs.List.{list_all}
use Rattle.std.proofs.lemmas.Bool.{and_parts, false≢true}
use Rattle.std.proofs.lemmas.List.Sums.{sum_by-append, sum_by-cons}
use Rattle.fk_fields.specs.Fields.{number_at}
use Rattle.fuse_spec.specs.Kernel.Messages.{Forget}
use Rattle.fuse_spec.specs.Server.Server.{forgotten}
use Rattle.fuse_protocol.specs.declared.agreed.Agreed.{Agreed}
use Rattle.fuse_protocol.specs.declared.opcode.Opcode.TheVariants as op
use Rattle.fuse_protocol.specs.Pairs.{pairs_of_row}
use Rattle.fuse_protocol.specs.Places.{number_in, places_at}
use Rattle.fuse_protocol.specs.Requests.{RequestMessage}
use Rattle.fuse_protocol.specs.Table.{row_at}
use Rattle.fuse_sessions.specs.declared.act.Act.{Act}
use Rattle.fuse_sessions.specs.declared.act.Act.TheVariants as act
use Rattle.fuse_sessions.specs.Counts.{forgets_of, gives_most, most_count}
use Rattle.fuse_sessions.specs.Frames.{IsRequestOf}
use Rattle.fuse_sessions.specs.RequestActs.{forgets_in, number_of}
use Rattle.fuse_sessions.specs.Sessions.{Session}
use Rattle.fuse_sessions.specs.UnreadRequests.{unique_in}
use Rattle.driven_sessions.proofs.Calm.{AreCalm, is_calm}
use Rattle.driven_sessions.proofs.Doing.{Does, comes_again, forgets_many, forgets_one, interrupts, nothing, reads}
use Rattle.driven_sessions.proofs.Forgotten.{pairs_read}
use Rattle.driven_sessions.proofs.Frames.{SaysForgets}
use Rattle.driven_sessions.proofs.Gives.{gives}
use Rattle.driven_sessions.proofs.Single.{struct_number}

-- how many lookups of a node acts forget
abbrev pub takes : ℕ → List Act → ℕ
takes id acts = sum_by (forgets_of id) acts

takes_append : (id : ℕ) (xs ys : List Act) → takes id (xs ++ ys) ≡ takes id xs + takes id ys
takes_append id xs ys = sum_by-append (forgets_of id) xs ys

-- ---- the count

module _ (id : ℕ) where
  left_least : (acts : List Act) → gives id acts ≤ most_count acts id + takes id acts
  left_least [] = omega arith
  left_least (a ∷ acts) = omega arith

  -- What acts give is counted, but for what they forget.
  pub count_on : (s acts : Session) → most_count s id + gives id acts ≤ most_count (s ++ acts) id + takes id acts
  count_on [] acts = let least = left_least acts in omega (arith, least)
  count_on (a ∷ s) acts =
      let more = sum_by-append (gives_most id) (a ∷ s) acts in
      let fewer = sum_by-append (forgets_of id) (a ∷ s) acts in
      let rest = count_on s acts in
      omega (arith, more, fewer, rest)

  left_most : (acts : List Act) → most_count acts id ≤ gives id acts
  left_most [] = omega arith
  left_most (a ∷ acts) =
      let sum = sum_by-cons (gives_most id) a acts in
      let rest = left_most acts in
      omega (arith, sum, rest)

  -- No more is counted than what acts give.
  pub count_up : (s acts : Session) → most_count (s ++ acts) id ≤ most_count s id + gives id acts
  count_up [] acts = let most = left_most acts in omega (arith, most)
  count_up (a ∷ s) acts =
      let more = sum_by-append (gives_most id) (a ∷ s) acts in
      let fewer = sum_by-append (forgets_of id) (a ∷ s) acts in
      let rest = count_up s acts in
      omega (arith, more, fewer, rest)

  -- What acts forget that give nothing is counted no more.
  pub count_down : (s acts : Session) → gives id acts ≡ 0 → most_count (s ++ acts) id ≤ most_count s id - takes id acts
  count_down [] acts none = let most = left_most acts in omega (arith, most, none)
  count_down (a ∷ s) acts none =
      let more = sum_by-append (gives_most id) (a ∷ s) acts in
      let fewer = sum_by-append (forgets_of id) (a ∷ s) acts in
      let rest = count_down s acts none in
      omega (arith, more, fewer, rest, none)

  -- ---- what a request's frame forgets

  pub calm_takes : (acts : List Act) → AreCalm acts → takes id acts ≡ 0
  calm_takes [] are = refl
  calm_takes (a ∷ acts) are =
      let both = and_parts (is_calm a) (list_all is_calm acts) are in
      let first = none a both.0 in
      let rest = calm_takes acts both.1 in
      let sum = sum_by-cons (forgets_of id) a acts in
      omega (arith, first, rest, sum)
    where
      none : (a : Act) → is_calm a ≡ true → forgets_of id a ≡ 0
      none (act.Forgets node lookups) is = absurd (false≢true is)
      none a is = refl

  forgets_take : (pairs : List Forget) → takes id (forgets_in pairs) ≡ forgotten id pairs
  forgets_take [] = refl
  forgets_take (p ∷ pairs) =
      let sum = sum_by-cons (forgets_of id) (act.Forgets p.0 p.1) (forgets_in pairs) in
      let said = sum_by-cons (λ (f : Forget). cond (nat_eq f.0 id) f.1 0) p pairs in
      let rest = forgets_take pairs in
      omega (arith, sum, said, rest)

  -- A FORGET and a BATCH_FORGET forget what they say.
  pub one_takes : (n : ℕ) (agreed : Agreed) (frame : List ℕ) → SaysForgets (λ (fs : List Forget). forgotten id fs ≡ n) frame
      → (m : RequestMessage) → IsRequestOf agreed frame (op.Forget, m)
      → takes id (forgets_in ((m.nodeid, number_of (number_in (places_at op.Forget).forgotten m.fixed)) ∷ [])) ≡ n
  one_takes n agreed frame says m is =
      let lookups : ℕ = number_of (number_in (places_at op.Forget).forgotten m.fixed) in
      let whole = is.whole in
      let number : lookups ≡ number_at 40 8 frame = struct_number frame m.fixed (omega (arith, whole)) is.fixed in
      let said : forgotten id ((number_at 16 8 frame, number_at 40 8 frame) ∷ []) ≡ n =
      says.one (ap (λ (n : ℕ). nat_eq n 2) is.opcode) in
      let told : forgotten id ((m.nodeid, lookups) ∷ []) ≡ n =
      subst (λ (x : ℕ). forgotten id ((m.nodeid, x) ∷ []) ≡ n) (sym number)
      (subst (λ (x : ℕ). forgotten id ((x, number_at 40 8 frame) ∷ []) ≡ n) is.nodeid said) in
      forgets_take ((m.nodeid, lookups) ∷ []) ∙ told

  pub many_takes : (n : ℕ) (agreed : Agreed) (frame : List ℕ) → SaysForgets (λ (fs : List Forget). forgotten id fs ≡ n) frame
      → (m : RequestMessage) → IsRequestOf agreed frame (op.BatchForget, m)
      → takes id (forgets_in (pairs_of_row (row_at op.BatchForget).tail m.tail)) ≡ n
  many_takes n agreed frame says m is =
      let pairs : List Forget = pairs_of_row (row_at op.BatchForget).tail m.tail in
      let said = says.many (ap (λ (n : ℕ). nat_eq n 42) is.opcode) in
      forgets_take pairs ∙ ap (forgotten id) (pairs_read agreed frame m is said.0 said.1 said.2) ∙ said.3

  pub request_takes : (n : ℕ) (agreed : Agreed) (frame : List ℕ) (acts : List Act)
      → SaysForgets (λ (fs : List Forget). forgotten id fs ≡ n) frame → Does agreed frame acts → takes id acts ≤ n
  request_takes n agreed frame acts says (reads other before after calm calm_after o same) =
      let all : takes id acts ≡ takes id (before ++ act.Read o (unique_in frame) ∷ after) = ap (takes id) same in
      let parts = takes_append id before (act.Read o (unique_in frame) ∷ after) in
      let last = sum_by-cons (forgets_of id) (act.Read o (unique_in frame)) after in
      let first = calm_takes before calm in
      let second = calm_takes after calm_after in
      omega (arith, all, parts, last, first, second)
  request_takes n agreed frame acts says (forgets_one m is same) =
      let lookups : ℕ = number_of (number_in (places_at op.Forget).forgotten m.fixed) in
      let all : takes id acts ≡ takes id (forgets_in ((m.nodeid, lookups) ∷ [])) = ap (takes id) same in
      let told = one_takes n agreed frame says m is in
      omega (arith, all, told)
  request_takes n agreed frame acts says (forgets_many m is same) =
      let all : takes id acts ≡ takes id (forgets_in (pairs_of_row (row_at op.BatchForget).tail m.tail)) = ap (takes id) same in
      let told = many_takes n agreed frame says m is in
      omega (arith, all, told)
  request_takes n agreed frame acts says (interrupts m is same) =
      let all : takes id acts ≡ 0 = ap (takes id) same in omega (arith, all)
  request_takes n agreed frame acts says (comes_again high other o m same) =
      let all : takes id acts ≡ 0 = ap (takes id) same in omega (arith, all)
  request_takes n agreed frame acts says (nothing calm) =
      let none = calm_takes acts calm in omega (arith, none)
