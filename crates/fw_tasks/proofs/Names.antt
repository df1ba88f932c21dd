-- The names of commands that a parse meets.
use Rattle.std.proofs.Common.{◌≡◌, ◌⊎◌, ◌<◌, ap, ℕ, zero, suc, true, not, List, [], ◌∷◌, length, map, true≢false, refl, sym, subst, inl, inr, arith, slice_index_or}
use Rattle.std.specs.Prelude.{Option, Some, None, IfSome, option_map, codes}
use Rattle.std.specs.Borrow.{Bor}
use Rattle.std.specs.List.{Any, list_all}
use Rattle.clap.specs.Words.{App, MeetsSubcommandOf, Shape, Text, app_of, subcommand_names, subcommand_rows_of}
use Rattle.clap.specs.Simple.{has_plain_fields}
use Rattle.clap.specs.declared.builder.command.Command.{Command}
use Rattle.clap.specs.declared.builder.command.Command.TheOpen.{Command-F}
use Rattle.clap.specs.declared.builder.command.Command.TheViews.{out-Command}
use Rattle.clap.specs.declared.parser.matches.ArgMatches.{ArgMatches}
use Rattle.clap.specs.declared.parser.matches.ArgMatches.TheViews.{out-ArgMatches}
use Rattle.fw_tasks.specs.Commands.{program_app}
use Rattle.fw_tasks.specs.Tasks.{IsMet, NamesCommand, is_command}
use Rattle.fw_tasks.proofs.Reading.{both}

at_place : (names : List Text) (k : ℕ) (name : Text) → list_all is_command names ≡ true → slice_index_or names k name ≡ name
    → k < length names → is_command name ≡ true
at_place [] k name all at below = absurd (omega (arith, below))
at_place (first ∷ rest) zero name all at below = subst (λ n. is_command n ≡ true) at (both _ _ all).0
at_place (first ∷ rest) (suc k) name all at below = at_place rest k name (both _ _ all).1 at (omega (arith, below))

-- a plain command takes no other name
not_external : (f : Command-F Command) → has_plain_fields f ≡ true → f.allow_external_subcommands ≡ true → ⊥
not_external f plain external =
    let inner = both _ _ (both _ _ plain).1 in
    true≢false (sym (subst (λ b. not b ≡ true) external inner.0))

is_met : (minors : Bor (List (Bor Text))) (c : Command) (name : Text) → app_of c ≡ program_app minors
    → Any (λ x. x ≡ name) (subcommand_names c) ⊎ ((name ≡ codes "help") ⊎ ((out-Command c).allow_external_subcommands ≡ true))
    → IsMet name
is_met minors c name is (inl any) =
    let all : list_all is_command (subcommand_names c) ≡ true = ap (λ (a : App). list_all is_command (map (λ (s : Shape). s.name) a.subs)) is in
    inl (subst (λ n. is_command n ≡ true) any.4 (at_place (subcommand_names c) any.0 any.1 all any.3 any.2))
is_met minors c name is (inr (inl help)) = inr help
is_met minors c name is (inr (inr external)) =
    absurd (not_external (out-Command c) (ap (λ (a : App). a.top.is_plain) is) external)

at_name : {X Y : Type 0} (o : Option X) (f : X → Text) (g : X → Text × Y) → ((x : X) → f x ≡ (g x).0)
    → {Q : Text → Type 0} → ((n : Text) → Q n → IsMet n) → IfSome (option_map f o) Q → IfSome (option_map g o) (λ p. IsMet p.0)
at_name None f g same q h = h
at_name (Some x) f g same q h = subst IsMet (same x) (q (f x) h)

-- a name that the program's parse meets is that of a command, or `help`
pub names : (minors : Bor (List (Bor Text))) (c : Command) (m : ArgMatches) → app_of c ≡ program_app minors → MeetsSubcommandOf c m
    → NamesCommand (subcommand_rows_of m)
names minors c m is meets = at_name (out-ArgMatches m).subcommand _ _ (λ x. refl) (λ n h. is_met minors c n is h) meets
