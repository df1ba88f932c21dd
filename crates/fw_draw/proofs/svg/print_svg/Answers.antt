use Rattle.std.proofs.Common.{◌++◌}
use Rattle.std.specs.Prelude.{codes}
use Rattle.std.proofs.KnownBytes.{Appends-trans, Appends-kept}
use Rattle.fuse_text.proofs.Writes.{OnOk-always}
use Rattle.fw_draw.specs.Svg.{svg_text}
use Rattle.fw_draw.proofs.svg.print_svg.Goals as goal

pub returns : goal.returns
returns g c =
    let now = g.W.Write.contents in
    let inner = c.args.inner.now in
    let head = codes "<svg xmlns=\"http://www.w3.org/2000/svg\" " in
    let opened = Appends-trans (now c.args.out.now) (now c.write_all.new.self) (now c.write_all-2.new.self) head inner
    c.in_ok-write_all.ensures.bytes c.in_ok-write_all-2.ensures.bytes in
    let closed = Appends-trans (now c.args.out.now) (now c.write_all-2.new.self) (now c.write_all-3.new.self)
    (head ++ inner) (codes "</svg>\n") opened c.in_ok-write_all-3.ensures.bytes in
    OnOk-always _ c.flush.result (Appends-kept (now c.args.out.now) (now c.write_all-3.new.self)
    (now c.flush.new.self) (svg_text inner) closed c.flush.ensures.bytes)
