use Rattle.std.proofs.Common.{◌∙◌, Some, ap, arith}
use Rattle.std.specs.Fmt.{option_append}
use Rattle.fw_json.specs.declared.key.Key.TheVariants.{Call}
use Rattle.fw_json.proofs.Putting.{no_key, no_word, puts_behind_ok}
use Rattle.fw_json.proofs.field.put_fields.Goals as goal

pub returns-in_default : goal.returns-in_default
returns-in_default g c =
    let left = rw c.in_default.is at c.loop-key.invariant.2 in
    left ∙ ap (option_append (Some c.loop-key.invariant.0))
    (no_word c.args.keys.now c.loop-key.key-index Call c.args.list_key (omega arith))

pub returns : goal.returns
returns g c =
    puts_behind_ok c.put_last.result c.args.text.now.items c.loop-key.text.items c.put_last.new.text.items
    c.loop-key.invariant.0 _ _ c.loop-key.invariant.1
    (c.loop-key.invariant.2 ∙ ap (option_append (Some c.loop-key.invariant.0))
    (no_key c.args.keys.now c.loop-key.key-index c.args.list_key _ (omega arith)))
    c.put_last.ensures
