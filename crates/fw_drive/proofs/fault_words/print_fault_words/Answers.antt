use Rattle.std.proofs.Common.{subst, sym}
use Rattle.std.specs.Prelude.{OnErr, OnOk}
use Rattle.std.specs.Io.KnownBytes.{Appends}
use Rattle.fuse_text.specs.Outputs.{AppendsSome}
use Rattle.fw_drive.specs.Faults.{fault_words}
use Rattle.fw_drive.specs.declared.fault.Fault.{Fault}
use Rattle.fw_drive.proofs.fault_words.print_fault_words.Goals as goal

pub returns-in-Second-clause-refused : goal.returns-in-Second-clause-refused
returns-in-Second-clause-refused g c =
    subst (λ (x : Fault). OnErr c.print_named.result (AppendsSome (g.W.Write.contents c.args.out.now)
    (g.W.Write.contents c.print_named.new.out) (fault_words x))) (sym c.in-Second.is) c.print_named.ensures.refused

pub returns-in-Root-clause-ok : goal.returns-in-Root-clause-ok
returns-in-Root-clause-ok g c =
    subst (λ (x : Fault). OnOk c.print_named-in-Root.result (Appends (g.W.Write.contents c.args.out.now)
    (g.W.Write.contents c.print_named-in-Root.new.out) (fault_words x))) (sym c.in-Root.is) c.print_named-in-Root.ensures.ok

pub returns-in-Root-clause-refused : goal.returns-in-Root-clause-refused
returns-in-Root-clause-refused g c =
    subst (λ (x : Fault). OnErr c.print_named-in-Root.result (AppendsSome (g.W.Write.contents c.args.out.now)
    (g.W.Write.contents c.print_named-in-Root.new.out) (fault_words x))) (sym c.in-Root.is) c.print_named-in-Root.ensures.refused
