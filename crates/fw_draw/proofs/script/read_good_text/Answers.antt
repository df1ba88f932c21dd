use Rattle.std.proofs.lemmas.Result.{err_from_is_err_and}
use Rattle.fw_draw.proofs.Reading.{fault_of_text}
use Rattle.fw_draw.proofs.script.read_good_text.Goals as goal

pub returns-in_err-judge-clause-fault : goal.returns-in_err-judge-clause-fault
returns-in_err-judge-clause-fault g c =
    let p = err_from_is_err_and c.from_residual-in_err-judge.result c.from_residual-in_err-judge.ensures.1 in
    rw (p.1, p.2, ← c.in_ok-text.ensures.no_fault) (λ one.
    fault_of_text c.args.name.now c.as_slice.result.now (g.R.Read.remaining c.args.input.now)
    (g.F.Write.contents c.read_text.new.faults) (g.F.Write.contents c.judge.new.faults)
    (rw c.as_slice.ensures.value c.in_ok-text.ensures.text) (c.in_err-judge.ensures.fault one))
