use Rattle.std.proofs.Common.{[], ◌∙◌, ap, false, refl, sym}
use Rattle.std.specs.Prelude.{Result, Ok, Err}
use Rattle.fk_drive.specs.Driving.{idle}
use Rattle.fuse_spec.specs.Kernel.Kernel.{Kernel}
use Rattle.fw_drive.specs.Findings.{Told}
use Rattle.fw_drive.specs.LineMoves.{IsCollected, IsEvent}
use Rattle.fw_drive.specs.Moves.{acts}
use Rattle.fw_drive.specs.Printed.{outcome_text, refusal_text}
use Rattle.fw_drive.specs.Runs.{NothingOver}
use Rattle.fw_drive.specs.declared.stop.Stop.{Stop}
use Rattle.fw_drive.specs.declared.stop.Stop.TheVariants as stops
use Rattle.fw_drive.proofs.Following.{acts_move, collects_after, collects_behind, one_goes, one_went, refused_move}
use Rattle.fw_drive.proofs.Texts.{or_false, own_stop}
use Rattle.fw_drive.proofs.exchange.act.Goals as goal

pub returns-in-Err-note_outcome : goal.returns-in-Err-note_outcome
returns-in-Err-note_outcome g c f =
    let r : Result (Unit {0}) Stop = Err c.in-Err-note_outcome.stop in
    let move = acts c.args.event.now (Ok c.in-Ok.outcome) in
    one_goes g.row.T-Heap.Denot NothingOver f tt tt (g.W.Write.contents c.args.out.now, c.args.notes.now.is_wrong)
    (g.W.Write.contents c.note_outcome.new.out, c.note_outcome.new.self.is_wrong) c.args.driver.now c.act.new.self idle [] move
    (outcome_text g.row.T-Heap.Denot c.in-Ok.outcome) refl [] (IsEvent c.args.event.now) IsCollected refl refl
    (acts_move g.row.T-Heap.Denot c.args.driver.now c.act.new.self c.args.event.now c.in-Ok.outcome c.in-Ok.ensures.does
    c.in-Ok.ensures.same) r
    (one_went r move (own_stop c.in-Err-note_outcome.stop c.in-Err-note_outcome.ensures.own) refl) tt (λ settled. tt)
    c.in-Err-note_outcome.ensures.printed refl tt

pub returns-in-Ok-note_outcome : goal.returns-in-Ok-note_outcome
returns-in-Ok-note_outcome g c f =
    let had : Told = (g.W.Write.contents c.args.out.now, c.args.notes.now.is_wrong) in
    let mid : Told = (g.W.Write.contents c.note_outcome.new.out, c.note_outcome.new.self.is_wrong) in
    let has : Told = (g.W.Write.contents c.collect_answers.new.out, c.collect_answers.new.notes.is_wrong) in
    let line = outcome_text g.row.T-Heap.Denot c.in-Ok.outcome in
    collects_behind g.row.T-Heap.Denot NothingOver f tt tt had has c.args.driver.now c.act.new.self
    c.collect_answers.new.driver idle [] (acts c.args.event.now (Ok c.in-Ok.outcome)) line refl [] (IsEvent c.args.event.now)
    refl refl refl refl
    (acts_move g.row.T-Heap.Denot c.args.driver.now c.act.new.self c.args.event.now c.in-Ok.outcome c.in-Ok.ensures.does
    c.in-Ok.ensures.same) refl c.collect_answers.result
    (collects_after f line false had mid has c.act.new.self c.collect_answers.new.driver c.collect_answers.result
    c.in-Ok-note_outcome.ensures.printed (c.in-Ok-note_outcome.ensures.told ∙ sym (or_false c.args.notes.now.is_wrong))
    (c.collect_answers.ensures f))

pub returns-in-Err-print_refusal : goal.returns-in-Err-print_refusal
returns-in-Err-print_refusal g c f =
    let r : Result (Unit {0}) Stop = Err stops.OutputRefused in
    let move = acts c.args.event.now (Err c.in-Err.refusal) in
    one_goes g.row.T-Heap.Denot NothingOver f tt tt (g.W.Write.contents c.args.out.now, c.args.notes.now.is_wrong)
    (g.W.Write.contents c.print_refusal.new.out, c.args.notes.now.is_wrong) c.args.driver.now c.act.new.self idle [] move
    (refusal_text g.row.T-Heap.Denot c.in-Err.refusal) refl [] (IsEvent c.args.event.now) IsCollected refl refl
    (refused_move g.row.T-Heap.Denot c.args.driver.now c.act.new.self c.args.event.now c.in-Err.refusal c.in-Err.ensures.err
    c.in-Err.ensures.same) r (one_went r move tt refl) tt (λ settled. tt) c.in-Err-print_refusal.ensures.refused
    refl tt

pub returns-in-Ok-print_refusal : goal.returns-in-Ok-print_refusal
returns-in-Ok-print_refusal g c f =
    let r : Result (Unit {0}) Stop = Ok tt in
    let move = acts c.args.event.now (Err c.in-Err.refusal) in
    one_goes g.row.T-Heap.Denot NothingOver f tt tt (g.W.Write.contents c.args.out.now, c.args.notes.now.is_wrong)
    (g.W.Write.contents c.print_refusal.new.out, c.args.notes.now.is_wrong) c.args.driver.now c.act.new.self idle [] move
    (refusal_text g.row.T-Heap.Denot c.in-Err.refusal) refl [] (IsEvent c.args.event.now) IsCollected refl refl
    (refused_move g.row.T-Heap.Denot c.args.driver.now c.act.new.self c.args.event.now c.in-Err.refusal c.in-Err.ensures.err
    c.in-Err.ensures.same) r (one_went r move tt refl) refl
    (λ settled. ap (λ (k : Kernel). k.vfs.answers) c.in-Err.ensures.err ∙ settled) c.in-Ok-print_refusal.ensures.ok
    refl (sym (or_false c.args.notes.now.is_wrong))
