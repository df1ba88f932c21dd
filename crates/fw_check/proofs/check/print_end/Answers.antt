use Rattle.std.proofs.Common.{◌≡◌, ◌++◌, false, List, [], ℕ, Result, Ok, Err, ap, subst, sym, ◌∙◌}
use Rattle.std.specs.Result.{OnOk, is_err}
use Rattle.std.specs.Io.KnownBytes.{Appends}
use Rattle.fuse_text.specs.Outputs.{AppendsSome}
use Rattle.fw_check.specs.Forms.{closing_text}
use Rattle.fw_check.specs.Summary.{exchanges_of}
use Rattle.fw_check.proofs.check.print_end.Goals as goal

-- what holds of a result that is no error
holds : {T E : Type 0} (P : Type 0) (result : Result T E) → is_err result ≡ false → OnOk result P → P
holds P (Ok done) good so = so
holds P (Err e) good so = cc

-- the text that is printed
printed : {T E : Type 0} (result : Result T E) (before text shown closing : List ℕ) → is_err result ≡ false
    → OnOk result (text ≡ before ++ closing) → before ≡ [] → shown ≡ text → shown ≡ closing
printed result before text shown closing good so empty is =
    is ∙ holds (text ≡ before ++ closing) result good so ∙ ap (λ (xs : List ℕ). xs ++ closing) empty

pub returns-in-Ok : goal.returns-in-Ok
returns-in-Ok g c =
    let closing = closing_text c.args.options (exchanges_of c.args.exchanges.now) c.args.remains c.args.counts in
    subst (Appends (g.W.Write.contents c.args.out.now) (g.W.Write.contents c.print.new.out))
    (printed c.put_end.result c.clear.new.self.items c.put_end.new.text.items c.as_slice.result.now closing
    (sym c.is_err.ensures.value ∙ c.if-is_err.false) c.put_end.ensures c.clear.ensures.items c.as_slice.ensures.value)
    c.in-Ok.ensures.ok

pub returns : goal.returns
returns g c =
    let closing = closing_text c.args.options (exchanges_of c.args.exchanges.now) c.args.remains c.args.counts in
    subst (AppendsSome (g.W.Write.contents c.args.out.now) (g.W.Write.contents c.print.new.out))
    (printed c.put_end.result c.clear.new.self.items c.put_end.new.text.items c.as_slice.result.now closing
    (sym c.is_err.ensures.value ∙ c.if-is_err.false) c.put_end.ensures c.clear.ensures.items c.as_slice.ensures.value)
    c.in-Err.ensures.refused
