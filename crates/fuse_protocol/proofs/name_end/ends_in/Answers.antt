use Rattle.std.proofs.Common.{◌≡◌, ℕ, ◌+◌, ◌-◌, ◌/◌, ◌%◌, ◌^◌, get_or, sym, ap, ◌∙◌, arith, shr-shr}
use Rattle.std.specs.Int.{bit_at}
use Rattle.fuse_protocol.specs.Ends.{is_end}
use Rattle.fuse_protocol.proofs.name_end.ends_in.Goals as goal

pub returns : goal.returns
returns c k =
    let shift = 16 - (c.args.stop - c.args.place) in
    let moved : bit_at (c.ends_from.result / 2 ^ shift) k ≡ bit_at c.ends_from.result (shift + k) =
    ap (λ x. x % 2) (shr-shr c.ends_from.result shift k) in
    let told = c.ends_from.ensures (shift + k) in
    let there : c.args.stop - 16 + (shift + k) ≡ c.args.place + k = omega (arith, c.requires) in
    let same = ap (λ (n : ℕ). is_end c.args.other (get_or c.args.bytes.now n 0)) there in (
      λ set. let h = told.0 (sym moved ∙ set) in (omega (arith, h.0, c.requires), sym same ∙ h.1),
      λ h. moved ∙ told.1 (omega (arith, h.0, c.requires), same ∙ h.1),
    )
