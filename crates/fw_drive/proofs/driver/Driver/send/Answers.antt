use Rattle.fw_drive.proofs.driver.Driver.send.Goals as goal

pub returns-clause-moves : goal.returns-clause-moves
returns-clause-moves g c =
    let (turn, log, over, sends) = c.send_next.ensures.sends in rw (← c.self.view_is) (_, turn, log, over, sends)
