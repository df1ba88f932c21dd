use Rattle.std.proofs.Common.{ℕ, take, sym, ap, ◌∙◌}
use Rattle.std.proofs.lemmas.List.{at_drop_all, at_drop_more, take_min}
use Rattle.fuse_tables.specs.NameFronts.{front_of, number_behind}
use Rattle.fuse_tables.proofs.name_front.front_of.Goals as goal

pub loop-byte-init : goal.loop-byte-init
unfolding front_of
loop-byte-init c = ap (number_behind 0)
    (ap (λ (n : ℕ). take n c.args.name.now) c.min.ensures ∙ take_min 8 c.args.name.now)

pub loop-byte-preserved : goal.loop-byte-preserved
loop-byte-preserved c =
    sym (at_drop_more (number_behind c.loop-byte.front) (take c.min.result c.args.name.now) c.loop-byte.byte-index 0 c.loop-byte-test.true)
    ∙ c.loop-byte.invariant

pub returns : goal.returns
returns c =
    sym (at_drop_all (number_behind c.loop-byte.front) (take c.min.result c.args.name.now) c.loop-byte.byte-index c.loop-byte-test.false)
    ∙ c.loop-byte.invariant
