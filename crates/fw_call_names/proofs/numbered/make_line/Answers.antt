use Rattle.std.proofs.Common.{ℕ, List, ap, map}
use Rattle.std.specs.Borrow.{Bor}
use Rattle.fw_call_names.specs.CallNames.{names_of}
use Rattle.fw_call_names.specs.Naming.{rest_numbered, with_numbers}
use Rattle.fw_call_names.proofs.Givens.{made_of}
use Rattle.fw_call_names.proofs.numbered.make_line.Goals as goal

pub returns : goal.returns
returns g c =
    let names = names_of c.args.names.now in
    let now : List (Bor (List ℕ)) → List (List ℕ) = λ words. map (λ (word : Bor (List ℕ)). word.now) words in
    made_of c.put_rest.result c.clear.new.self.items c.extend_from_slice.new.self.items c.put_rest.new.line.items
    c.in-Some.first.now.now (rest_numbered names c.in-Some.first.now.now (now c.in-Some.rest.now))
    (with_numbers names (now c.args.words.now)) c.clear.ensures.items c.in_ok-extend_from_slice.ensures.items
    (ap (λ (words : List (Bor (List ℕ))). with_numbers names (now words)) c.in-Some.ensures.cases.0) c.put_rest.ensures
