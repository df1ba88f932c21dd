use Rattle.std.proofs.Common.{◌∙◌, ℕ, List, ap, sym, arith}
use Rattle.std.specs.Prelude.{bytes_eq}
use Rattle.fw_json.specs.Events.{all_events, event_word}
use Rattle.fw_json.proofs.Finding.{find_behind}
use Rattle.fw_json.proofs.event.Event.of.Goals as goal

pub loop-event-preserved : goal.loop-event-preserved
loop-event-preserved c =
    find_behind (λ e. bytes_eq (event_word e) c.args.word.now) all_events c.loop-event.event-index _ (omega arith)
    (ap (λ (l : List ℕ). bytes_eq l c.args.word.now) (sym c.word.ensures) ∙ sym c.eq.ensures ∙ c.if-eq.false)
    ∙ c.loop-event.invariant
