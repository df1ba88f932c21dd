use Rattle.std.proofs.Common.{◌≡◌, ◌∙◌, length, sym, subst, ap, rules}
use Rattle.std.proofs.lemmas.List.{take_at}
use Rattle.fk_wire.specs.Replies.{SpellsReply}
use Rattle.fs_serve.specs.Blocks.{with_blocks}
use Rattle.fs_serve.proofs.blocks.filled.Goals as goal

pub returns : goal.returns
returns c m h =
    let all : c.try_extend_from_slice.new.self.items ≡ c.args.frame.now = search rules in
    let same = sym (c.as_mut_slice.ensures.value ∙ all) in
    take_at c.fill.new.frame _ _ (c.fill.ensures.long ∙ ap length c.as_mut_slice.ensures.value)
    ∙ c.fill.ensures.filled m (subst (λ b. SpellsReply c.args.opcode b m) same h) ∙ ap (with_blocks m.content) (sym same)
