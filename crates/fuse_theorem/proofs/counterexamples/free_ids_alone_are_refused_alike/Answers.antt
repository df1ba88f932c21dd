use Rattle.std.proofs.Common.{◌≡◌, ℕ, ◌+◌, ◌||◌, Bool, true, false, cond, [], ◌∷◌, Option, Some, None, Ok, Err, nat_lt, refl, ap, ◌∙◌, arith}
use Rattle.std.specs.Prelude.{◌≤◌, MatchOption}
use Rattle.fuse_spec.specs.World.Events as event
use Rattle.fuse_spec.specs.Values.Maps.{get}
use Rattle.fuse_spec.specs.Kernel.Messages.{asks}
use Rattle.fuse_spec.specs.Server.Nodes.{HeldNode, IsUnheld, MayName, generation_after}
use Rattle.fuse_spec.specs.Values.Numbers.{counter_end}
use Rattle.fuse_spec.specs.Files.Operations.{errno_of, lookup}
use Rattle.fuse_spec.specs.Server.Performs.{PerformResult, served}
use Rattle.fuse_spec.specs.Server.Server.{HeldRequest}
use Rattle.fuse_spec.specs.World.Steps.{Stepped, is_past, step}
use Rattle.fuse_spec.specs.World.Worlds.{after_perform}
use Rattle.fuse_spec.specs.declared.Refusal.TheVariants.{Exhausted}
use Rattle.fuse_theorem.specs.Counterexamples.{with_no_generation}
use Rattle.fuse_theorem.proofs.WholeLists.NoPremise.{only}
use Rattle.fuse_theorem.proofs.RefusalCases.RefusalsByCases.{also_refused}
use Rattle.fuse_theorem.proofs.counterexamples.free_ids_alone_are_refused_alike.Goals as goal

abbrev other : HeldNode
other = record { file = 5; generation = 1; count = 1 }

abbrev held : HeldRequest
held = record { body = asks (lookup 1 (97 ∷ [])); generations = (1, 0) ∷ []; marked = false }

-- A lawful id is free.
is_free : (id : ℕ) → MayName with_no_generation.server.nodes 1 id → get with_no_generation.server.nodes.rows id ≡ None
is_free id may = by (get with_no_generation.server.nodes.rows id) refl may
  where
    by : (o : Option HeldNode) → get with_no_generation.server.nodes.rows id ≡ o
        → MatchOption o ((2 ≤ id) × IsUnheld with_no_generation.server.nodes 1) (λ row. row.file ≡ 1)
        → get with_no_generation.server.nodes.rows id ≡ None
    by None is h = is
    by (Some row) is h = let one = only 2 other id row is in let file : 5 ≡ 1 =
        ap (λ (r : HeldNode). r.file) one.1 ∙ h in absurd (omega (arith, file))

third : (e r t : Bool) → e ≡ true → ((e || r) || t) ≡ true
third true r t is = refl
third false r t is = absurd (cc (is))

past : (choice : ℕ → ℕ) → MayName with_no_generation.server.nodes 1 (choice 1)
    → is_past (after_perform with_no_generation 2 (served choice with_no_generation.server 2 held)) ≡ true
past choice may =
    let allocates : generation_after with_no_generation.server.nodes (get with_no_generation.server.nodes.rows (choice 1))
    ≡ counter_end + 1 = ap (generation_after with_no_generation.server.nodes) (is_free (choice 1) may) in
    third (nat_lt counter_end (generation_after with_no_generation.server.nodes
    (get with_no_generation.server.nodes.rows (choice 1)))) _ _ (ap (nat_lt counter_end) allocates)

pub returns : goal.returns
returns g = (
  λ choice may.
      let did : PerformResult = served choice with_no_generation.server 2 held in
      ap (λ (b : Bool). cond {A = Stepped} b (Err Exhausted)
      (Ok (event.performed 2 (errno_of did.wire) false, after_perform with_no_generation 2 did)))
      (past choice may.0),
  λ file. 2,
  λ refuses. let no : step (λ file. 2) with_no_generation (event.perform 2) ≡ Err Exhausted =
      also_refused (λ file. 2) with_no_generation (event.perform 2) Exhausted refuses in cc (no),
)
