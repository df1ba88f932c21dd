-- How the lines begin that are words and one number.
use Rattle.std.specs.Prelude.{ℕ, List, codes}
use Rattle.fw_script.specs.declared.number_lines.NumberForm.{NumberForm}
use Rattle.fw_script.specs.declared.number_lines.NumberForm.TheVariants as number

-- the bytes before the number
abbrev pub number_start : NumberForm → List ℕ
number_start number.Pending = codes "read p "
number_start number.Forgets = codes "read f "
number_start number.Take = codes "take "
number_start number.Do = codes "do "
number_start number.Again = codes "again "
number_start number.Write = codes "write "
number_start number.Settle = codes "settle "
number_start number.Tick = codes "tick "
number_start number.Evict = codes "evict "
