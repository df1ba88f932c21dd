use Rattle.std.proofs.Common.{◌++◌, ℕ, List, codes, subst}
use Rattle.fuse_text.specs.Outputs.{AppendsSome}
use Rattle.fuse_text.specs.Stops.{bad_line}
use Rattle.fw_script.proofs.fault_words.bad_line.Goals as goal

pub returns-clause-said : goal.returns-clause-said
returns-clause-said g c =
    subst (λ (words : List ℕ). AppendsSome (g.F.Write.contents c.args.faults.now) (g.F.Write.contents c.bad_line.new.faults)
    (bad_line c.args.number words ++ codes "\n")) c.words_of_fault.ensures c.bad_line.ensures.said
