use Rattle.std.proofs.Common.{◌≡◌, ◌-◌, arith, sym, ap, length, take, ◌∙◌}
use Rattle.std.proofs.lemmas.List.{take_all}
use Rattle.fw_check.specs.declared.past.Trace.{Trace}
use Rattle.fw_check.specs.Past.{is_about, last_of}
use Rattle.fw_check.proofs.PastLaws.{latest_found, latest_passed}
use Rattle.fw_check.proofs.past.last_of.Goals as goal

pub loop-newer-init : goal.loop-newer-init
loop-newer-init g c = ap (last_of c.args.is_end c.args.topic)
    (sym (take_all (length c.args.past.now.items - 0) c.args.past.now.items (omega arith)))

pub returns-then-is_about : goal.returns-then-is_about
returns-then-is_about g c = sym (latest_found (λ (t : Trace). is_about c.args.is_end c.args.topic t.deed) c.args.past.now.items
    c.loop-newer.newer _ c.index-trace.result.now _ (omega arith) (omega arith) c.index-trace.ensures c.loop-newer.invariant
    (sym c.is_about.ensures ∙ c.if-is_about.true))

pub loop-newer-preserved : goal.loop-newer-preserved
loop-newer-preserved g c = latest_passed (λ (t : Trace). is_about c.args.is_end c.args.topic t.deed) c.args.past.now.items
    c.loop-newer.newer _ c.index-trace.result.now _ (omega arith) (omega arith) c.index-trace.ensures c.loop-newer.invariant
    (sym c.is_about.ensures ∙ c.if-is_about.false)

pub returns : goal.returns
returns g c =
    let none : length c.args.past.now.items - c.loop-newer.newer ≡ 0 = omega arith in
    sym (c.loop-newer.invariant ∙ ap (λ n. last_of c.args.is_end c.args.topic (take n c.args.past.now.items)) none)
