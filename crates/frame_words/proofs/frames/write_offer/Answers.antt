use Rattle.std.proofs.Common.{inr, refl, sym, true≢false}
use Rattle.fuse_text.proofs.Writes.{OnOk-map}
use Rattle.frame_words.proofs.frames.write_offer.Goals as goal

pub returns-in-Err : goal.returns-in-Err
returns-in-Err g c =
    OnOk-map _ _ c.write_all.result (λ wrote. (_, inr (λ is. true≢false (sym (c.in-Err.ensures.only is)), refl), wrote))
    c.write_all.ensures.bytes
