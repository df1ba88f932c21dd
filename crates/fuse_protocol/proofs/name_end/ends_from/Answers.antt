use Rattle.std.proofs.Common.{◌≡◌, ◌+◌, ◌<◌, true, eqb, length, get_or, sym, subst, ap, ◌∙◌, arith, w8}
use Rattle.std.specs.Prelude.{◌↔◌, bit_or}
use Rattle.std.specs.Int.{bit_at}
use Rattle.std.specs.Simd.Lanes.{chunk}
use Rattle.std.proofs.lemmas.Simd.{length-chunk, get_or-chunk, bitmask_splat}
use Rattle.fuse_protocol.specs.Ends.{is_end}
use Rattle.fuse_protocol.proofs.Masks.{ends_bit}
use Rattle.fuse_protocol.proofs.name_end.ends_from.Goals as goal

pub returns : goal.returns
returns c k =
    let bytes = c.args.bytes.now in
    let place = c.args.place in
    let other = c.args.other in
    let lanes = chunk place 16 bytes in
    let long : length lanes ≡ 16 = length-chunk place 16 bytes c.requires in
    let nul = bitmask_splat w8 eqb lanes 16 0 long (omega arith) in
    let same = bitmask_splat w8 eqb lanes 16 other long (omega arith) in
    let told = ends_bit other lanes k in
    subst (λ m. (bit_at m k ≡ 1) ↔ ((k < 16) × (is_end other (get_or bytes (place + k) 0) ≡ true)))
    (λ i. bit_or (sym nul i) (sym same i)) (
      λ set. let h = told.0 set in let lt : k < 16 = omega (arith, h.0, long) in
          (lt, sym (ap (is_end other) (get_or-chunk place 16 bytes k 0 lt)) ∙ h.1),
      λ h. told.1 (omega (arith, h.0, long), ap (is_end other) (get_or-chunk place 16 bytes k 0 h.0) ∙ h.1),
    )
