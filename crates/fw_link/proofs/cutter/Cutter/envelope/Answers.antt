use Rattle.std.proofs.Common.{sym, ◌∙◌, arith}
use Rattle.std.proofs.lemmas.List.{take_rest}
use Rattle.fw_link.proofs.Spellings.{stands, parts}
use Rattle.fw_link.proofs.cutter.Cutter.envelope.Goals as goal
use Rattle.fw_link.proofs.cutter.Cutter.envelope.Goals.{then-held-lt-JUDGED-via-then-held-lt-JUDGED, then-held-lt-JUDGED-via-else-held-lt-JUDGED+then-held-end_of}

pub returns-then-held-lt-JUDGED-clause-only : goal.returns-then-held-lt-JUDGED-clause-only
returns-then-held-lt-JUDGED-clause-only g c kind copy frame p =
    let s = rw (← c.self.view_is) at (stands _ _ _ _ p) in
    let h = c.as_slice-held.ensures in
    elim c.then-held-lt-JUDGED.branch [
      | then-held-lt-JUDGED-via-then-held-lt-JUDGED w ↦ grind arith
      | then-held-lt-JUDGED-via-else-held-lt-JUDGED+then-held-end_of w ↦ grind (arith, w.end_of.ensures.end)
    ]

pub returns-clause-spelled : goal.returns-clause-spelled
returns-clause-spelled g c = rw (← c.self.view_is, take_rest) (sym c.as_slice-held.ensures ∙ c.copy_of.ensures.spelled)

pub returns-clause-only : goal.returns-clause-only
returns-clause-only g c kind copy frame p =
    let s = rw (← c.self.view_is) at (parts _ _ _ _ p) in
    rw (c.copy_of.ensures.value, take_rest, c.as_slice-held.ensures) s
