use Rattle.std.proofs.Common.{sym, ◌∙◌}
use Rattle.fs_serve.proofs.LongNames.{no_end, no_last, two_names}
use Rattle.fs_serve.proofs.names.between_nuls.Goals as goal

pub returns-then-end-bytes : goal.returns-then-end-bytes
returns-then-end-bytes c =
    let first = c.first_nul-end.ensures in
    no_end c.args.bytes.now c.first_nul-end.result first.within first.before first.at c.if-end-bytes.true

pub returns-in-Some : goal.returns-in-Some
returns-in-Some c =
    let first = c.first_nul-end.ensures in
    two_names c.args.bytes.now c.first_nul-end.result first.within first.before first.at c.in-Some.new.now
    c.if-end-bytes.false (sym c.rest_from.ensures ∙ c.in-Some.ensures)

pub returns-in-None : goal.returns-in-None
returns-in-None c =
    let first = c.first_nul-end.ensures in
    no_last c.args.bytes.now c.first_nul-end.result first.within first.before first.at
    (λ name is. c.in-None.ensures name (c.rest_from.ensures ∙ is))
