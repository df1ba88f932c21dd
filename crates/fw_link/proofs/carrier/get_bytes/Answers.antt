use Rattle.std.proofs.Common.{◌≡◌, ◌⊎◌, ◌≤◌, ◌+◌, ◌++◌, ℕ, List, [], length, take, inl, inr, Result, Ok, Err, subst, sym, ap, ◌∙◌, arith, rules}
use Rattle.std.proofs.lemmas.List.{length-append, length-take, take_all}
use Rattle.std.specs.Prelude.{OnErr}
use Rattle.fw_link.specs.Carrying.{CutsOtherwise}
use Rattle.fw_link.specs.Traffic.{HasFailed, sent}
use Rattle.fw_link.proofs.Fronts.{damage_otherwise, end_otherwise, got_more, got_none}
use Rattle.fw_link.proofs.carrier.get_bytes.Goals as goal

on_err : {T E : Type 0} (P : Type 0) (r : Result T E) → P → OnErr r P
on_err P (Ok _) p = tt
on_err P (Err _) p = p

pub returns-in_err-piece-clause-err : goal.returns-in_err-piece-clause-err
returns-in_err-piece-clause-err g c =
    let (carried, counted, len, good) = c.loop-left.invariant in
    let failed : HasFailed (g.L.Link.failed c.args.link.now) (g.L.Link.failed c.get_piece.new.link)
    = subst (λ (k : ℕ). HasFailed k (g.L.Link.failed c.get_piece.new.link)) counted c.in_err-piece.ensures.counted in
    on_err
    ((got : List ℕ) × g.L.Link.carries c.args.link.now c.get_piece.new.link (sent c.args.from [] got)
    × (HasFailed (g.L.Link.failed c.args.link.now) (g.L.Link.failed c.get_piece.new.link)
    ⊎ CutsOtherwise c.args.len got))
    _ (
      c.loop-left.cutter.bytes,
      got_none g.L.Link.carries g.met.L.Link.goes_on _ _ _ _ _ carried c.in_err-piece.ensures.nothing,
      inl failed,
    )

pub returns-in-Err-clause-err : goal.returns-in-Err-clause-err
returns-in-Err-clause-err g c =
    let (carried, counted, len, good) = c.loop-left.invariant in
    let damage = c.in-Err.ensures.damage in (
      c.loop-left.cutter.bytes ++ c.in_ok-piece.piece.now,
      got_more g.L.Link.carries g.met.L.Link.goes_on _ _ _ _ _ _ carried c.in_ok-piece.ensures.got,
      inr (damage_otherwise c.args.len (c.loop-left.cutter.bytes ++ c.in_ok-piece.piece.now)
          (elim damage [ inl was ↦ absurd (search rules) | inr is ↦ is ])),
    )

pub returns-then-taken-piece-clause-err : goal.returns-then-taken-piece-clause-err
returns-then-taken-piece-clause-err g c =
    let (carried, counted, len, good) = c.loop-left.invariant in
    let (within, taken) = c.in-Ok.ensures.count in
    let held : length c.feed.new.self.bytes ≡ length c.loop-left.cutter.bytes + length
    (take c.in-Ok.taken c.in_ok-piece.piece.now)
    = ap length taken ∙ length-append _ _ in (
      c.loop-left.cutter.bytes ++ c.in_ok-piece.piece.now,
      got_more g.L.Link.carries g.met.L.Link.goes_on _ _ _ _ _ _ carried c.in_ok-piece.ensures.got,
      inr (end_otherwise c.args.len (c.loop-left.cutter.bytes
          ++ c.in_ok-piece.piece.now) c.feed.new.self.bytes c.in-Ok.ensures.held
          (omega (arith, length-take {A = ℕ}, length-append {A = ℕ}))),
    )

pub loop-left-preserved : goal.loop-left-preserved
loop-left-preserved g c =
    let (carried, counted, len, good) = c.loop-left.invariant in
    let (within, taken) = c.in-Ok.ensures.count in
    let all : c.feed.new.self.bytes ≡ c.loop-left.cutter.bytes ++ c.in_ok-piece.piece.now
    = taken ∙ ap (λ (l : List ℕ). c.loop-left.cutter.bytes ++ l)
    (take_all c.in-Ok.taken c.in_ok-piece.piece.now (omega arith)) in
    let all_len : length c.feed.new.self.bytes ≡ length c.loop-left.cutter.bytes + length c.in_ok-piece.piece.now
    = ap length all ∙ length-append _ _ in
    let some : length c.in_ok-piece.piece.now ≤ c.loop-left.left = search rules in (
      subst (λ (l : List ℕ). g.L.Link.carries c.args.link.now c.get_piece.new.link (sent c.args.from [] l)) (sym all)
          (got_more g.L.Link.carries g.met.L.Link.goes_on _ _ _ _ _ _ carried c.in_ok-piece.ensures.got),
      c.in_ok-piece.ensures.counted ∙ counted,
      omega (arith, some, len, all_len),
      search rules,
    )
