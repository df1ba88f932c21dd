use Rattle.fw_drive.proofs.driver.Driver.receive.Goals as goal

pub returns-clause-moves : goal.returns-clause-moves
returns-clause-moves g c = rw (← c.self.view_is) c.write_next.ensures.writes
