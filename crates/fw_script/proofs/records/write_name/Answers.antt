use Rattle.std.proofs.Common.{ℕ, [], ◌∷◌, refl, subst}
use Rattle.fw_script.specs.Records.{shown_byte}
use Rattle.fuse_text.specs.Outputs.{AppendsSome}
use Rattle.fw_script.proofs.Names.{map_kept}
use Rattle.fuse_text.proofs.Writes.{OnErr-always, some_within_map}
use Rattle.fw_script.proofs.records.write_name.Goals as goal

pub returns-then-is_shown_as_is : goal.returns-then-is_shown_as_is
returns-then-is_shown_as_is g c =
    rw (map_kept shown_byte c.args.name.now (c.if-is_shown_as_is.ensures.0 refl)) c.write_text.ensures

pub returns-in_err-write_text-clause-refused : goal.returns-in_err-write_text-clause-refused
returns-in_err-write_text-clause-refused g c =
    let old = g.W.Write.contents c.args.out.now in
    let mid = g.W.Write.contents c.loop-byte.out in
    let new = g.W.Write.contents c.write_text-in-loop-byte.new.out in
    OnErr-always _ c.from_residual.result
    (some_within_map shown_byte c.args.name.now c.loop-byte.byte-index 0 old mid new c.loop-byte-test.true
    c.loop-byte.invariant
    (subst (λ (b : ℕ). AppendsSome mid new (b ∷ [])) c.shown.ensures c.in_err-write_text.ensures.refused))
