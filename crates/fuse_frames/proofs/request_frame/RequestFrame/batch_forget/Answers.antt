use Rattle.std.proofs.Common.{ℕ, Some, List, refl, ap, ◌∙◌}
use Rattle.fk_wire.specs.Fields.{ReadsAs}
use Rattle.fk_wire.specs.Pairs.{pairs_in, forget_ones}
use Rattle.fuse_spec.specs.Kernel.Messages.{batch_forget}
use Rattle.fuse_frames.proofs.PairLemmas.{pairs_read, is_over, pairs_over}
use Rattle.fuse_frames.proofs.request_frame.RequestFrame.batch_forget.Goals as goal

pub unwrap-requires : goal.unwrap-requires
unwrap-requires g c =
    let spelled : ReadsAs 0 (forget_ones c.args.pairs.now) c.deref.result.now =
    pairs_read c.args.pairs.now c.deref.result.now c.in_ok-bytes.ensures.fits
    (c.deref.ensures.value ∙ c.in_ok-bytes.ensures.items) in
    is_over c.args.pairs.now c.deref.result.now c.over.result spelled c.over.ensures

pub framed-requires : goal.framed-requires
framed-requires g c = (batch_forget (pairs_in c.unwrap.result), refl, refl)

pub returns : goal.returns
returns g c =
    let spelled : ReadsAs 0 (forget_ones c.args.pairs.now) c.deref.result.now =
    pairs_read c.args.pairs.now c.deref.result.now c.in_ok-bytes.ensures.fits
    (c.deref.ensures.value ∙ c.in_ok-bytes.ensures.items) in
    c.framed.ensures (batch_forget c.args.pairs.now)
    (ap (λ (ps : List (ℕ × ℕ)). Some (batch_forget ps))
    (pairs_over c.args.pairs.now c.deref.result.now c.over.result c.unwrap.result spelled c.over.ensures c.unwrap.ensures))
