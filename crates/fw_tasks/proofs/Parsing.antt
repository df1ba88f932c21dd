-- What a parse of the program's words gives.
use Rattle.std.proofs.Common.{◌≡◌, ◌∙◌, ap, true, refl, sym, subst, inl}
use Rattle.std.specs.Prelude.{Result, Ok, Err, List, [], ◌∷◌, codes}
use Rattle.std.specs.Borrow.{Bor}
use Rattle.std.specs.Result.{IsErrAnd}
use Rattle.clap.specs.Words.{App, FailsBy, HasKind, HasMatchesOf, Text, fault_of, is_simple, is_simple_and_free, kind_of, subcommand_of, subcommand_rows_of}
use Rattle.clap.specs.declared.error.Error.{Error}
use Rattle.clap.specs.declared.error.kind.ErrorKind.TheVariants.{OutOfMemory}
use Rattle.clap.specs.declared.parser.matches.ArgMatches.{ArgMatches}
use Rattle.fw_tasks.specs.Commands.{AreMinors, program_app}
use Rattle.fw_tasks.specs.Tasks.{AsksFor, NamesCommand, ReadsTask}
use Rattle.fw_tasks.specs.declared.command.Task.{Task}

-- the program's commands are of those whose matches are known
is_simple_program : (minors : Bor (List (Bor Text))) → is_simple (program_app minors) ≡ true
is_simple_program minors = refl

is_free_program : (minors : Bor (List (Bor Text))) → is_simple_and_free (program_app minors) ≡ true
is_free_program minors = refl

text_at_none : Text → Bor Text
text_at_none text = record { ref_ptr = (0, 0); now = text }

-- the minors, wherever they lie
pub some_minors : Bor (List (Bor Text))
some_minors = record {
  ref_ptr = (0, 0);
  now = text_at_none (codes "15") ∷ text_at_none (codes "31") ∷ [];
}

pub are_some_minors : AreMinors some_minors
unfolding some_minors text_at_none
are_some_minors = refl

-- the parse succeeds, and what its matches ask for is the task
pub reads : (minors : Bor (List (Bor Text))) (app : App) (words : List Text) (m : ArgMatches) (t : Task) (r : Result ArgMatches Error)
    → app ≡ program_app minors → r ≡ Ok m → HasMatchesOf app words m → (is_simple_and_free app ≡ true → FailsBy (fault_of app words) r)
    → AsksFor (subcommand_rows_of m) t → NamesCommand (subcommand_rows_of m) → ReadsTask (program_app minors) words (Ok t)
reads minors app words m t r is ok has fails asks named =
    let faults : fault_of app words ≡ [] = subst (FailsBy (fault_of app words)) ok (fails (ap is_simple_and_free is ∙ is_free_program minors)) in
    let rows = (has (ap is_simple is ∙ is_simple_program minors)).1 ∙ ap (λ a. subcommand_of a words) is in
    (ap (λ a. fault_of a words) (sym is) ∙ faults, subst (λ s. AsksFor s t) rows asks, subst NamesCommand rows named)

-- memory runs out
pub lacks_memory : (app : App) (words : List Text) (r : Result Task Error) → IsErrAnd r (λ e. kind_of e ≡ OutOfMemory)
    → ReadsTask app words r
lacks_memory app words (Ok t) h = absurd h
lacks_memory app words (Err e) h = inl h

-- an error that is handed on
pub hands_on : (app : App) (words : List Text) (e : Error) (r : Result Task Error) → IsErrAnd r (λ x. x ≡ e)
    → ReadsTask app words (Err e) → ReadsTask app words r
hands_on app words e (Ok t) h is = absurd h
hands_on app words e (Err x) h is = subst (HasKind (fault_of app words)) (sym h) is

-- it fails by a kind that the words give
pub refuses : (minors : Bor (List (Bor Text))) (app : App) (words : List Text) (e : Error) (r : Result ArgMatches Error)
    → app ≡ program_app minors → r ≡ Err e → (is_simple_and_free app ≡ true → FailsBy (fault_of app words) r)
    → ReadsTask (program_app minors) words (Err e)
refuses minors app words e r is err fails =
    let kinds : HasKind (fault_of app words) e = subst (FailsBy (fault_of app words)) err (fails (ap is_simple_and_free is ∙ is_free_program minors)) in
    subst (λ a. HasKind (fault_of a words) e) is kinds
