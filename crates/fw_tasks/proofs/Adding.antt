-- Commands that are built up.
use Rattle.std.proofs.Common.{◌≡◌, ◌∙◌, ◌||◌, ap, ap₂, true}
use Rattle.std.specs.Prelude.{Some}
use Rattle.std.specs.Borrow.{Bor}
use Rattle.clap.specs.Words.{AddsArg, AddsSubcommand, App, Rule, Text, with_rule, with_subcommand}
use Rattle.clap.specs.Simple.{app_of_fields, on_top}
use Rattle.clap.specs.declared.builder.arg.Arg.{Arg}
use Rattle.clap.specs.declared.builder.command.Command.{Command}
use Rattle.clap.specs.declared.builder.command.Command.TheViews.{out-Command}
use Rattle.fw_tasks.specs.Arguments.{IsArgument}
use Rattle.fw_tasks.specs.Commands.{IsCommand}

pub adds_argument : (a : App) (r : Rule) (old new : Command) (x : Arg) → IsCommand a old → IsArgument r x → AddsArg old x new
    → IsCommand (with_rule a r) new
adds_argument a r old new x c is adds = (adds.shape is.1 ∙ ap₂ with_rule c.0 is.0, adds.globals ∙ ap₂ ◌||◌ c.1 is.1)

pub adds_command : (a b : App) (old sub new : Command) → IsCommand a old → IsCommand b sub → AddsSubcommand old sub new
    → IsCommand (with_subcommand a b.top) new
adds_command a b old sub new c is adds =
    (adds.shape is.1 ∙ ap₂ with_subcommand c.0 (ap (λ (x : App). x.top) is.0), adds.globals ∙ ap₂ ◌||◌ c.1 is.1)

-- what help says changes nothing
pub with_about : (a : App) (old new : Command) (text : Bor Text) → out-Command new ≡ record (out-Command old) { about = Some text }
    → IsCommand a old → IsCommand a new
with_about a old new text e c = (ap app_of_fields e ∙ c.0, ap (λ f. f.has_globals) e ∙ c.1)

pub with_after_help : (a : App) (old new : Command) (text : Bor Text)
    → out-Command new ≡ record (out-Command old) { after_help = Some text } → IsCommand a old → IsCommand a new
with_after_help a old new text e c = (ap app_of_fields e ∙ c.0, ap (λ f. f.has_globals) e ∙ c.1)

pub with_version : (a : App) (old new : Command) (text : Bor Text)
    → out-Command new ≡ record (out-Command old) { version = Some text } → IsCommand a old
    → IsCommand (on_top (λ s. record s { has_version = true }) a) new
with_version a old new text e c =
    (ap app_of_fields e ∙ ap (on_top (λ s. record s { has_version = true })) c.0, ap (λ f. f.has_globals) e ∙ c.1)
