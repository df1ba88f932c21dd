use Rattle.std.proofs.Common.{◌≡◌, ◌≢◌, ◌∙◌, ℕ, ap, below_more, rules, sym}
use Rattle.fuse_protocol.specs.declared.opcode.Opcode.{Opcode}
use Rattle.fuse_protocol.specs.Table.{code_of, name_of}
use Rattle.fuse_protocol.proofs.Codes.{same_opcode}
use Rattle.fw_any.proofs.opcode_name.any_opcode_of_name.Goals as goal
use Rattle.fw_any.proofs.opcode_name.any_opcode_of_name.Goals.{in-Some+else-eq, in_default}

pub loop-code-preserved : goal.loop-code-preserved
loop-code-preserved c =
    let P : ℕ → Type 0 = λ k. (o : Opcode) → code_of o ≡ k → name_of o ≢ c.args.name.now in
    below_more P c.loop-code.code c.loop-code.invariant (elim c.match-opcode_of_code.branch [
      | in-Some+else-eq w ↦
          let differs : name_of w.in-Some.opcode ≢ c.args.name.now = search rules in
          λ o at named. differs (ap name_of (sym (same_opcode o w.in-Some.opcode (at ∙ sym w.in-Some.ensures))) ∙ named)
      | in_default w ↦ λ o at named. w.in_default.ensures o at
    ])
