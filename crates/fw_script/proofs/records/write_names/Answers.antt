use Rattle.std.proofs.Common.{◌≡◌, ◌++◌, ℕ, List, append_assoc, codes, decimal, subst, sym}
use Rattle.std.specs.Prelude.{flat_map}
use Rattle.std.specs.Io.KnownBytes.{Appends}
use Rattle.fuse_text.specs.Outputs.{AppendsSome}
use Rattle.fw_script.specs.Records.{listed_words}
use Rattle.fw_script.proofs.Chunked.{but_more, but_refused, but_then, but_written}
use Rattle.fuse_text.proofs.Writes.{OnErr-always, OnErr-map, OnOk-map, some_first}
use Rattle.fw_script.proofs.records.write_names.Goals as goal

shape : (a d s z w e : List ℕ) → ((a ++ d ++ (s ++ z)) ++ w) ++ e ≡ a ++ d ++ s ++ (z ++ w) ++ e
shape a d s z w e = simp append_assoc

-- the line, as it is put into the chunk
parts : (start number words : List ℕ) → start ≡ codes "answer " ++ number ++ codes " 0"
    → (start ++ words) ++ codes "\n" ≡ codes "answer " ++ number ++ codes " " ++ (codes "0" ++ words) ++ codes "\n"
parts start number words is = rw is (shape (codes "answer ") number (codes " ") (codes "0") words (codes "\n"))

pub returns-in_err-put_listing-clause-refused : goal.returns-in_err-put_listing-clause-refused
returns-in_err-put_listing-clause-refused g c =
    let start = c.put_start.new.chunk in
    let words = flat_map listed_words c.args.names.now in
    OnErr-always _ c.from_residual.result
    (some_first _ _ (start ++ words) (codes "\n") _ (sym (parts start (decimal c.args.call) words c.put_start.ensures))
    c.in_err-put_listing.ensures.refused)

pub returns-in_err-put_last-clause-refused : goal.returns-in_err-put_last-clause-refused
returns-in_err-put_last-clause-refused g c =
    let old = g.W.Write.contents c.args.out.now in
    let mid = g.W.Write.contents c.put_listing.new.out in
    let new = g.W.Write.contents c.put_last.new.out in
    let start = c.put_start.new.chunk in
    let words = flat_map listed_words c.args.names.now in
    let held = c.put_listing.new.chunk in
    OnErr-always _ c.from_residual-in_err-put_last.result
    (subst (λ (b : List ℕ). AppendsSome old new b) (parts start (decimal c.args.call) words c.put_start.ensures)
    (but_refused old mid new ((start ++ words) ++ codes "\n") (held ++ codes "\n")
    (but_more old mid (start ++ words) held (codes "\n") c.in_ok-put_listing.ensures.ok)
    c.in_err-put_last.ensures.refused))

pub returns-clause-ok : goal.returns-clause-ok
returns-clause-ok g c =
    let old = g.W.Write.contents c.args.out.now in
    let mid = g.W.Write.contents c.put_last.new.out in
    let new = g.W.Write.contents c.write_text.new.out in
    let start = c.put_start.new.chunk in
    let words = flat_map listed_words c.args.names.now in
    let held = c.put_last.new.chunk in
    let line = (start ++ words) ++ codes "\n" in
    let is : c.bytes.result.now ≡ held = c.bytes.ensures in
    let put = but_then old (g.W.Write.contents c.put_listing.new.out) mid (start ++ words) c.put_listing.new.chunk
    (codes "\n") held c.in_ok-put_listing.ensures.ok c.in_ok-put_last.ensures.ok in
    OnOk-map (Appends mid new held) _ c.write_text.result
    (λ wrote. subst (λ (b : List ℕ). Appends old new b) (parts start (decimal c.args.call) words c.put_start.ensures)
    (but_written old mid new line held put wrote)) (rw is at c.write_text.ensures.ok)

pub returns-clause-refused : goal.returns-clause-refused
returns-clause-refused g c =
    let old = g.W.Write.contents c.args.out.now in
    let mid = g.W.Write.contents c.put_last.new.out in
    let new = g.W.Write.contents c.write_text.new.out in
    let start = c.put_start.new.chunk in
    let words = flat_map listed_words c.args.names.now in
    let held = c.put_last.new.chunk in
    let line = (start ++ words) ++ codes "\n" in
    let is : c.bytes.result.now ≡ held = c.bytes.ensures in
    let put = but_then old (g.W.Write.contents c.put_listing.new.out) mid (start ++ words) c.put_listing.new.chunk
    (codes "\n") held c.in_ok-put_listing.ensures.ok c.in_ok-put_last.ensures.ok in
    OnErr-map (AppendsSome mid new held) _ c.write_text.result
    (λ some. subst (λ (b : List ℕ). AppendsSome old new b) (parts start (decimal c.args.call) words c.put_start.ensures)
    (but_refused old mid new line held put some)) (rw is at c.write_text.ensures.refused)
