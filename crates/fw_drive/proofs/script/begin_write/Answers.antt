use Rattle.std.proofs.Common.{◌≡◌, ◌∙◌, ◌∷◌, [], ℕ, List, ap, inl, refl, sym}
use Rattle.std.specs.Prelude.{codes, decimal}
use Rattle.fk_syscalls.specs.declared.call.Call.TheVariants as call
use Rattle.fuse_text.specs.HexTexts.{hex_or_none}
use Rattle.fw_script.specs.Lines.{spelled}
use Rattle.fw_script.specs.declared.line.Line.TheVariants as lines
use Rattle.fw_world.specs.declared.event.Event.TheVariants as event
use Rattle.fw_drive.specs.LineMoves.{FirstThen, IsCollected, IsEvent, IsMoveOf, Perhaps}
use Rattle.fw_drive.specs.Runs.{NothingOver}
use Rattle.fw_drive.specs.declared.line.DriveLine.TheVariants as line
use Rattle.fw_drive.proofs.Following.{none_goes, nothing_stays, weaker}
use Rattle.fw_drive.proofs.LineRuns.{first_weaker, perhaps}
use Rattle.fw_drive.proofs.script.begin_write.Goals as goal

pub returns-then-not-is_hex_or_none : goal.returns-then-not-is_hex_or_none
returns-then-not-is_hex_or_none g c f =
    none_goes g.row.T-Heap.Denot NothingOver nothing_stays f tt (g.W.Write.contents c.args.out.now, c.args.notes.now.is_wrong) c.args.driver.now _ tt _
    (inl refl)

pub returns-in-Ok : goal.returns-in-Ok
returns-in-Ok g c f =
    let r = c.act.result in
    let Is = IsMoveOf (line.CallWrite c.args.file.0 c.args.file.1 c.args.file.2) in
    let made = event.Call (call.Write c.args.file.0 c.args.file.1 c.as_slice.result) in
    let spells : spelled (lines.Event made)
    ≡ spelled (lines.CallWrite c.args.file.0 c.args.file.1 c.args.file.2) =
    ap (λ (hex : List ℕ). codes "call" ∷ codes "write" ∷ decimal c.args.file.0 ∷ decimal c.args.file.1 ∷ hex ∷ [])
    (ap hex_or_none c.as_slice.ensures.value ∙ sym c.in-Ok.ensures) in
    weaker g.row.T-Heap.Denot NothingOver f tt tt (g.W.Write.contents c.args.out.now, c.args.notes.now.is_wrong) (g.W.Write.contents c.act.new.out, c.act.new.notes.is_wrong)
    c.args.driver.now c.act.new.driver r (FirstThen (IsEvent made) IsCollected)
    (Perhaps r (FirstThen Is IsCollected)) (c.act.ensures f)
    (λ m are. perhaps r (FirstThen Is IsCollected) m
    (first_weaker (IsEvent made) Is IsCollected IsCollected (λ move is. (made, is, spells)) (λ move is. is) m are))

pub returns : goal.returns
returns g c f =
    none_goes g.row.T-Heap.Denot NothingOver nothing_stays f tt (g.W.Write.contents c.args.out.now, c.args.notes.now.is_wrong) c.args.driver.now _ tt _
    (inl refl)
