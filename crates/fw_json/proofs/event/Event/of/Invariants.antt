use Rattle.std.proofs.Common.{◌≡◌, drop}
use Rattle.std.specs.Prelude.{bytes_eq, find}
use Rattle.fw_json.specs.Events.{all_events, event_of, event_word}
use Rattle.fw_json.proofs.event.Event.of.Given as goal

abbrev pub invariant-loop-event : goal.invariant-loop-event
invariant-loop-event l = find (λ e. bytes_eq (event_word e) l.word) (drop l.event-index all_events) ≡ event_of l.word
