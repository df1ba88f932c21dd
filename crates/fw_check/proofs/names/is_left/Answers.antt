use Rattle.std.proofs.Common.{◌≡◌, ℕ, ◌&&◌, not, false, nat_eq, arith, rules, ap, sym, ◌∙◌}
use Rattle.fuse_sessions.specs.Counts.{most_count}
use Rattle.fw_check.proofs.names.is_left.Goals as goal

differ : (a b : ℕ) → (a ≡ b → ⊥) → nat_eq a b ≡ false
differ a b ne = grind (arith, rules)

pub returns-then-node-ne-ROOT : goal.returns-then-node-ne-ROOT
returns-then-node-ne-ROOT g c = λ later stands.
    let node = c.args.node in
    ap (λ n. nat_eq n 0) (sym (c.count_of_node.ensures later stands))
    ∙ ap (λ b. not b && nat_eq (most_count later node) 0) (sym (differ node 1 c.if-node-ne-ROOT.true))
