use Rattle.std.proofs.Common.{rules, ◌≡◌, ◌∙◌, ap, List, Bor}
use Rattle.std.specs.Prelude.{Some}
use Rattle.clap.specs.Words.{Text}
use Rattle.clap.specs.declared.builder.value_parser.ValueParser.{ValueParser}
use Rattle.clap.specs.declared.builder.value_parser.ValueParser.TheVariants as parser
use Rattle.fw_tasks.proofs.serve_words.minor_argument.Goals as goal

words_of : {q : ValueParser} {words : Bor (List (Bor Text))} → q ≡ parser.Names words → Bor (List (Bor Text))
words_of {q} {words} e = words

pub returns : goal.returns
unfolding words_of
returns c =
    let given = c.value_parser.ensures.given in
    let is_parser : c.value_parser.result.value_parser ≡ Some (parser.Names _) = given.1 ∙ ap Some given.2 in
    (words_of given.2, search rules, search rules)
