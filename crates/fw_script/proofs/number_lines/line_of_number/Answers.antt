use Rattle.std.proofs.Common.{refl}
use Rattle.std.specs.Prelude.{decimal}
use Rattle.fuse_text.proofs.Splitting.{number_is_one_word}
use Rattle.fw_script.proofs.number_lines.line_of_number.Goals.{in-Pending, in-Forgets, in-Take, in-Do, in-Again, in-Write, in-Settle, in-Tick, in-Evict}
use Rattle.fw_script.proofs.number_lines.line_of_number.Goals as goal

pub returns : goal.returns
returns c =
    let one = number_is_one_word c.args.number (decimal c.args.number) c.ranges.number.fits refl in
    elim c.match-form.branch [
      | in-Pending w ↦ rw (w.event-is, w.in-Pending.is, one) (refl, tt)
      | in-Forgets w ↦ rw (w.event-is, w.in-Forgets.is, one) (refl, tt)
      | in-Take w ↦ rw (w.event-is, w.in-Take.is, one) (refl, tt)
      | in-Do w ↦ rw (w.event-is, w.in-Do.is, one) (refl, tt)
      | in-Again w ↦ rw (w.event-is, w.in-Again.is, one) (refl, tt)
      | in-Write w ↦ rw (w.event-is, w.in-Write.is, one) (refl, tt)
      | in-Settle w ↦ rw (w.event-is, w.in-Settle.is, one) (refl, tt)
      | in-Tick w ↦ rw (w.event-is, w.in-Tick.is, one) (refl, tt)
      | in-Evict w ↦ rw (w.event-is, w.in-Evict.is, one) (refl, tt)
    ]
