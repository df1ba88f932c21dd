use Rattle.std.proofs.Common.{◌≡◌, ◌<◌, ◌≤◌, ◌^◌, true, false, length, sym, ◌∙◌, arith}
use Rattle.std.specs.Prelude.{nat_le}
use Rattle.std.proofs.lemmas.Bool.Decides.{nat_tests}
use Rattle.fk_kernel.proofs.Beginnings.{unready_refused, full_refused}
use Rattle.fk_kernel.proofs.Numbered.{exhausted_refused}
use Rattle.fk_kernel.proofs.kernel.KernelOf.begin.Goals as goal

pub returns-then-not-is_ready-clause-refusal : goal.returns-then-not-is_ready-clause-refusal
returns-then-not-is_ready-clause-refusal g c = unready_refused c.args.self.now c.args.call.now
    (sym c.is_ready.ensures ∙ c.if-not-is_ready.true)

pub returns-then-is_full-clause-refusal : goal.returns-then-is_full-clause-refusal
returns-then-is_full-clause-refusal g c =
    let full : nat_le 64 (length c.self.inside.calls.entries) ≡ true = sym c.is_full.ensures ∙ c.if-is_full.true in
    let many : 64 ≤ length c.args.self.now.vfs.calls = rw (← c.self.view_is) (grind (arith, nat_tests, full)) in
    full_refused c.args.self.now c.args.call.now (sym c.is_ready.ensures ∙ c.if-not-is_ready.false) many

pub returns-then-self-ge-COUNTER_END-clause-refusal : goal.returns-then-self-ge-COUNTER_END-clause-refusal
returns-then-self-ge-COUNTER_END-clause-refusal g c =
    let k = c.args.self.now in
    let room : nat_le 64 (length c.self.inside.calls.entries) ≡ false = sym c.is_full.ensures ∙ c.if-is_full.false in
    let few : length k.vfs.calls < 64 = rw (← c.self.view_is) (grind (arith, nat_tests, room)) in
    let last : 2 ^ 62 ≤ k.vfs.next_call = rw (← c.self.view_is) c.if-self-ge-COUNTER_END.true in
    exhausted_refused k c.args.call.now (sym c.is_ready.ensures ∙ c.if-not-is_ready.false) few last
