use Rattle.std.proofs.Common.{◌≡◌, ◌∙◌, ap, sym, true}
use Rattle.std.proofs.lemmas.Bool.Decides.{Decides-eqb}
use Rattle.std.proofs.lemmas.Slice.Eq.{slice_eq-Decides}
use Rattle.fuse_text.specs.Lines.{lines_of}
use Rattle.fw_call_names.proofs.Alike.{plain_alike}
use Rattle.fw_call_names.proofs.PlainTexts.{is_other, is_plain, lines_of_plain}
use Rattle.fw_call_names.proofs.plain.plain_script.Goals as goal

pub returns-then-eq-clause-plain : goal.returns-then-eq-clause-plain
returns-then-eq-clause-plain g c =
    let same = slice_eq-Decides Decides-eqb c.as_slice.result.now c.args.script.now c.eq.result c.eq.ensures in
    is_plain c.args.script.now c.in_ok-text.text.items c.in_ok-text.ensures
    (sym c.as_slice.ensures.value ∙ same.0 c.if-eq.true)

pub returns-else-eq-clause-plain : goal.returns-else-eq-clause-plain
returns-else-eq-clause-plain g c =
    let same = slice_eq-Decides Decides-eqb c.as_slice.result.now c.args.script.now c.eq.result c.eq.ensures in (
      ap lines_of c.in_ok-text.ensures ∙ lines_of_plain c.args.script.now,
      is_other c.args.script.now c.in_ok-text.text.items c.in_ok-text.ensures
          (λ is. let yes : c.eq.result ≡ true = same.1 (c.as_slice.ensures.value ∙ is) in
          let no = c.if-eq.false in (cc)),
    )

pub returns-then-eq-clause-alike : goal.returns-then-eq-clause-alike
returns-then-eq-clause-alike g c = plain_alike c.args.script.now

pub returns-else-eq-clause-alike : goal.returns-else-eq-clause-alike
returns-else-eq-clause-alike g c = plain_alike c.args.script.now

pub returns-in_err-text-clause-alike : goal.returns-in_err-text-clause-alike
returns-in_err-text-clause-alike g c = plain_alike c.args.script.now
