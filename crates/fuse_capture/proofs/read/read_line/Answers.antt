use Rattle.fuse_capture.specs.Lines.{HasNoTransfer, LineFaultIs}
use Rattle.fuse_text.specs.Words.{words_of}
use Rattle.fuse_capture.specs.Readings.{IsBad}
use Rattle.fuse_capture.proofs.LineLaws.{line_fault, on_error}
use Rattle.fuse_capture.proofs.read.read_line.Goals as goal

pub returns-clause-fault : goal.returns-clause-fault
returns-clause-fault c =
    let text = c.text_of.result.now in
    on_error _ (λ f. ¬ (HasNoTransfer text) × IsBad (words_of text) f) (LineFaultIs c.args.line.now) c.read_text.result
    (λ f bad. line_fault c.args.line.now text f c.text_of.ensures bad.0 bad.1) c.read_text.ensures
