use Rattle.std.proofs.Common.{◌≡◌, ◌+◌, ◌-◌, refl, sym, subst, arith, take, drop}
use Rattle.fk_wire.specs.Fields.{IsRecordName, bytes_at}
use Rattle.fk_wire.specs.RecordEnds.{name_at, record_place}
use Rattle.fk_wire.proofs.RecordLists.{one_more, one_more_name, record_after}
use Rattle.fk_wire.proofs.walk.count_records.Goals as goal
use Rattle.fk_wire.proofs.walk.count_records.Goals.{then-named, else-named}

pub records-preserved : goal.records-preserved
unfolding bytes_at
records-preserved c =
    let more = rw c.records.invariant.0 at (one_more_name c.args.plus c.records.count c.args.place c.args.bytes.now) in
    let next = rw c.records.invariant.0 at (one_more c.args.plus c.records.count c.args.place c.args.bytes.now) in
    let after = record_after c.args.plus c.records.end in
    let start = c.record_place-record.result + 24 in
    let len : start + c.u32_at-len.result - start ≡ c.u32_at-len.result = omega arith in
    let name : take (start + c.u32_at-len.result - start) (drop start c.args.bytes.now) ≡ name_at
    (record_place c.args.plus c.records.end) c.args.bytes.now =
    rw (len, c.u32_at-len.ensures, c.record_place-record.ensures) refl in (
      rw (c.padded_len-size.ensures, c.u32_at-len.ensures, c.record_place-record.ensures) next,
      omega arith,
      omega (arith, after),
      elim c.if-named.branch [
        | then-named w ↦ rw w.named-is (
          (λ h. more.1 (c.records.invariant.3.0 w.if-named.true, subst IsRecordName name (w.is_record_name-named.ensures.0 h))),
          (λ h. w.is_record_name-named.ensures.1 (subst IsRecordName (sym name) (more.0 h).1)),
        )
        | else-named w ↦ rw w.named-is ((λ h. absurd (cc)), (λ h. c.records.invariant.3.1 (more.0 h).0))
      ],
    )
