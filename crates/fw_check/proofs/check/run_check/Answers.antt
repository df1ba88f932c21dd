use Rattle.fw_check.proofs.check.run_check.Goals as goal

pub returns : goal.returns
returns g c = c.check_with.ensures c.new-checker.ensures
