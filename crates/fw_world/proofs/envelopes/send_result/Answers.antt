use Rattle.std.proofs.Common.{List, ℕ, refl, sym, subst, rules}
use Rattle.fk_wire.specs.Results.{SpellsResult}
use Rattle.fw_link.specs.declared.side.Side.TheVariants.{Kernel}
use Rattle.fw_world.specs.Sends.{SendsResult, result_error}
use Rattle.fw_world.proofs.Sending.{at_err, at_ok, result_whole}
use Rattle.fw_world.proofs.envelopes.send_result.Goals as goal
use Rattle.fw_world.proofs.envelopes.send_result.Given.{Over}

pub carry-requires-clause-whole : goal.carry-requires-clause-whole
carry-requires-clause-whole g c =
    let spells : SpellsResult c.deref.result.now (result_error c.in-Some.settled.result) c.in-Some.settled.unique =
    subst (λ (l : List ℕ). SpellsResult l (result_error c.in-Some.settled.result) c.in-Some.settled.unique)
    (sym c.deref.ensures.value) c.frame_result.ensures.spells in
    result_whole c.deref.result.now c.in-Some.settled.result c.in-Some.settled.unique c.in-Some.settled.number
    (search rules) spells

sends : (g : Over) (c : goal.After-carry g) → SendsResult c.args.world.now
    (record { from = Kernel; kind = 2; copy = c.in-Some.settled.number; frame = c.deref.result.now })
sends g c =
    let spells : SpellsResult c.deref.result.now (result_error c.in-Some.settled.result) c.in-Some.settled.unique =
    subst (λ (l : List ℕ). SpellsResult l (result_error c.in-Some.settled.result) c.in-Some.settled.unique)
    (sym c.deref.ensures.value) c.frame_result.ensures.spells in
    record {
      result = c.in-Some.settled;
      is_last = c.in-Some.ensures.some;
      spells = spells;
      from = refl;
      kind = refl;
      copy = refl;
    }

pub returns-clause-ok : goal.returns-clause-ok
returns-clause-ok g c = at_ok _ _ c.carry.result
    (λ carried. record {
      envelope = record {
        from = Kernel;
        kind = 2;
        copy = c.in-Some.settled.number;
        frame = c.deref.result.now;
      };
      sends = sends g c;
      carried = carried;
    }) c.carry.ensures.ok

pub returns-clause-err : goal.returns-clause-err
returns-clause-err g c = at_err _ _ c.carry.result
    (λ is_lost. record {
      envelope = record {
        from = Kernel;
        kind = 2;
        copy = c.in-Some.settled.number;
        frame = c.deref.result.now;
      };
      sends = sends g c;
      is_lost = is_lost;
    }) c.carry.ensures.err
