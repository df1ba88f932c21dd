use Rattle.std.proofs.Common.{◌++◌, ◌∙◌, List, ℕ, ap, append_assoc, codes, decimal, sym}
use Rattle.fuse_sessions.specs.Parties.{party_of}
use Rattle.fw_check.specs.FaultWords.{act_words, fault_words, party_word, past_words}
use Rattle.fuse_text.proofs.Writes.{OnOk-map}
use Rattle.fw_check.proofs.Parts.{after_two}
use Rattle.fw_check.proofs.fault_line.put_fault_line.Goals as goal

pub returns : goal.returns
returns g c = OnOk-map _ _ c.put.result (λ put.
    let old = c.args.text.now.items in
    let numbered = c.put_number_of_line.new.text.items in
    let ruled = c.put_rule.new.text.items in
    let acted = c.put_act.new.text.items in
    let remembered = c.put_past.new.text.items in
    let new = c.put.new.text.items in
    let head = codes "line " ++ decimal c.args.number ++ codes ": " in
    let party = party_word (party_of c.args.fault) in
    let colon : List ℕ = codes ": " in
    let rule = fault_words c.args.fault in
    let said = after_two old numbered ruled head (party ++ colon ++ rule) c.in_ok-put_number_of_line.ensures c.in_ok-put_rule.ensures
    ∙ ap (λ l. old ++ l) (sym (append_assoc head (party ++ colon) rule))
    ∙ ap (λ l. old ++ (l ++ rule)) (sym (append_assoc head party colon)) in
    let first = head ++ party ++ colon ++ rule in
    let subject = act_words c.args.act in
    let past = past_words c.args.past.now.items c.args.act in
    let three = after_two old ruled acted first subject said c.in_ok-put_act.ensures in
    after_two old remembered new (first ++ subject ++ past) (codes "\n")
    (after_two old acted remembered (first ++ subject) past three c.in_ok-put_past.ensures) put)
    c.put.ensures
