use Rattle.std.proofs.Common.{◌∙◌, sym}
use Rattle.fw_call_names.proofs.Givens.{words_kept}
use Rattle.fw_call_names.proofs.split.split_name.Goals as goal

pub returns-in-len2-up-clause-words : goal.returns-in-len2-up-clause-words
returns-in-len2-up-clause-words c =
    words_kept c.args.words.now (sym c.gives_name.ensures ∙ c.if-gives_name.true)
