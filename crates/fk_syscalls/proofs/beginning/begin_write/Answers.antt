use Rattle.std.proofs.Common.{◌≡◌, Some, false, refl, length, rules, arith}
use Rattle.std.specs.Prelude.{◌||◌, nat_lt}
use Rattle.std.proofs.lemmas.Bool.Decides.{nat_tests}
use Rattle.fuse_spec.specs.Values.Maps.{get}
use Rattle.fuse_spec.specs.Files.Operations.{write}
use Rattle.fuse_spec.specs.Calls.Vfs.{using}
use Rattle.fk_syscalls.proofs.Advances.{if_err}
use Rattle.fk_syscalls.proofs.beginning.begin_write.Goals as goal

pub returns-in_err-state-clause-out_of_memory : goal.returns-in_err-state-clause-out_of_memory
returns-in_err-state-clause-out_of_memory g c =
    let at : get c.args.opens.now.entries c.args.open_call ≡ Some c.in-Some.opened.now = search rules in
    let low : (nat_lt 65536 c.args.offset || nat_lt 4096 (length c.args.bytes.now)) ≡ false =
    grind (arith, nat_tests) in
    if_err c.from_residual.result (λ vfs call. (
      using c.args.open_call
          (write c.in-Some.opened.now c.args.offset c.args.bytes.now),
      rw (at, low) refl,
    ))
