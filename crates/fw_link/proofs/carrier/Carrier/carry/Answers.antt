use Rattle.std.proofs.Common.{◌≡◌, ℕ, List, [], length, inl, inr, Result, Ok, Err, subst, sym, ap, ◌∙◌, rules}
use Rattle.std.specs.Prelude.{OnErr}
use Rattle.fw_link.specs.Carrying.{IsLost, envelope_bytes}
use Rattle.fw_link.specs.Cutting.{HoldsEnvelope}
use Rattle.fw_link.specs.Traffic.{HasFailed, sent}
use Rattle.fw_link.proofs.Fronts.{lost, put_and_got, whole_front}
use Rattle.fw_link.proofs.Splitting.{one_put}
use Rattle.fw_link.proofs.carrier.Carrier.carry.Goals as goal

on_err : {T E : Type 0} (P : Type 0) (r : Result T E) → P → OnErr r P
on_err P (Ok _) p = tt
on_err P (Err _) p = p

pub returns-in_err-get_bytes-clause-err : goal.returns-in_err-get_bytes-clause-err
returns-in_err-get_bytes-clause-err g c =
    let bytes = envelope_bytes c.args.envelope.now in
    let put : c.deref.result.now ≡ bytes = search rules in
    let len : length c.deref.result.now ≡ c.len-len.result = search rules in
    let (got, carried, why) = c.in_err-get_bytes.ensures.err in
    on_err (IsLost (g.L.Link.carries c.args.link.now c.get_bytes.new.link) c.args.from bytes
    (g.L.Link.failed c.args.link.now) (g.L.Link.failed c.get_bytes.new.link)) _ (lost
    g.L.Link.carries
    g.met.L.Link.goes_on
    c.args.link.now
    c.put.new.self
    c.get_bytes.new.link
    c.args.from
    bytes
    got
    _
    _
    (subst (λ (l : List ℕ). g.L.Link.carries c.args.link.now c.put.new.self
    (sent c.args.from l [])) put c.in_ok-put.ensures.put)
    carried
    (λ front. elim why [
      | inl failed ↦ subst (λ (k : ℕ). HasFailed k
          (g.L.Link.failed c.get_bytes.new.link)) c.in_ok-put.ensures.counted failed
      | inr otherwise ↦ absurd (otherwise bytes (one_put _ _ _ c.requires.whole) (ap length (sym put) ∙ len) front)
    ]))

pub returns-then-not-stands-clause-err : goal.returns-then-not-stands-clause-err
returns-then-not-stands-clause-err g c =
    let bytes = envelope_bytes c.args.envelope.now in
    let put : c.deref.result.now ≡ bytes = search rules in
    let len : length c.deref.result.now ≡ c.len-len.result = search rules in
    lost
    g.L.Link.carries
    g.met.L.Link.goes_on
    c.args.link.now
    c.put.new.self
    c.get_bytes.new.link
    c.args.from
    bytes
    c.get_bytes.new.cutter.bytes
    _
    _
    (subst (λ (l : List ℕ). g.L.Link.carries c.args.link.now c.put.new.self
    (sent c.args.from l [])) put c.in_ok-put.ensures.put)
    c.in_ok-get_bytes.ensures.ok
    (λ front.
    let same : c.get_bytes.new.cutter.bytes ≡ bytes =
    whole_front bytes c.get_bytes.new.cutter.bytes front
    (c.in_ok-get_bytes.ensures.len ∙ sym len ∙ ap length put) in
    let no = c.if-not-stands.ensures.1 (record {
      good = c.in_ok-get_bytes.ensures.good;
      whole = c.requires.whole;
      spelled = same;
    }) in
    absurd (search rules))

pub returns-clause-ok : goal.returns-clause-ok
returns-clause-ok g c =
    let bytes = envelope_bytes c.args.envelope.now in
    let put : c.deref.result.now ≡ bytes = search rules in
    let there : HoldsEnvelope c.get_bytes.new.cutter c.args.envelope.now.kind c.args.envelope.now.copy c.args.envelope.now.frame.now = search rules in
    put_and_got
    g.L.Link.carries
    g.met.L.Link.goes_on
    c.args.link.now
    c.put.new.self
    c.get_bytes.new.link
    c.args.from
    bytes
    bytes
    (subst (λ (l : List ℕ). g.L.Link.carries c.args.link.now c.put.new.self
    (sent c.args.from l [])) put c.in_ok-put.ensures.put)
    (subst (λ (l : List ℕ). g.L.Link.carries c.put.new.self c.get_bytes.new.link
    (sent c.args.from [] l)) there.spelled c.in_ok-get_bytes.ensures.ok)
