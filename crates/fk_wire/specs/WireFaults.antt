-- The numbers and names of the faults.
use Rattle.std.specs.Prelude.{ℕ, List, codes}
use Rattle.fk_wire.specs.declared.fault.WireFault.{WireFault}
use Rattle.fk_wire.specs.declared.fault.WireFault.TheVariants as faults

-- the number of a fault
abbrev pub fault_number : WireFault → ℕ
fault_number faults.Short = 1
fault_number faults.Length = 2
fault_number faults.Opcode = 3
fault_number faults.Name = 4
fault_number faults.Body = 5
fault_number faults.ErrorRange = 6
fault_number faults.Memory = 7

-- its name
abbrev pub fault_name : WireFault → List ℕ
fault_name faults.Short = codes "Short"
fault_name faults.Length = codes "Length"
fault_name faults.Opcode = codes "Opcode"
fault_name faults.Name = codes "Name"
fault_name faults.Body = codes "Body"
fault_name faults.ErrorRange = codes "ErrorRange"
fault_name faults.Memory = codes "Memory"
