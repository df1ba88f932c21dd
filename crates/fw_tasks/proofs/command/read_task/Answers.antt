use Rattle.std.proofs.Common.{map, string_bytes}
use Rattle.fw_tasks.specs.Commands.{program_app}
use Rattle.fw_tasks.proofs.Names.{names}
use Rattle.fw_tasks.proofs.Parsing.{some_minors, are_some_minors, hands_on, lacks_memory, reads, refuses}
use Rattle.fw_tasks.proofs.command.read_task.Goals as goal

pub returns-in_err-program : goal.returns-in_err-program
returns-in_err-program c = (
  some_minors,
  are_some_minors,
  lacks_memory (program_app some_minors) (map string_bytes c.args.words.now)
      c.from_residual.result c.from_residual.ensures.1,
)

pub returns-in_err-matches : goal.returns-in_err-matches
returns-in_err-matches c =
    let program = c.in_ok-program.ensures in
    let parse = c.try_get_matches_from in (
      program.0,
      program.1,
      hands_on (program_app program.0) (map string_bytes c.args.words.now) c.in_err-matches.field-0.0
          c.from_residual-in_err-matches.result c.from_residual-in_err-matches.ensures.1
          (refuses program.0 _ _ _ parse.result program.2.0 c.in_err-matches.was parse.ensures.kinds),
    )

pub returns : goal.returns
returns c =
    let program = c.in_ok-program.ensures in
    let parse = c.try_get_matches_from in (
      program.0,
      program.1,
      reads program.0 _ _ c.in_ok-matches.matches c.asked_task.result parse.result program.2.0
          c.in_ok-matches.was c.in_ok-matches.ensures.matches parse.ensures.kinds c.asked_task.ensures
          (names program.0 c.in_ok-program.field-0 c.in_ok-matches.matches program.2.0 (c.in_ok-matches.ensures.subcommand program.2.1)),
    )
