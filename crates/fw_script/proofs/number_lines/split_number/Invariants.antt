use Rattle.fw_script.proofs.NumberEnds.{AreDigits}
use Rattle.fw_script.proofs.number_lines.split_number.Given as goal

abbrev pub invariant-digits : goal.invariant-digits
invariant-digits l = AreDigits l.text l.place l.number
