use Rattle.std.proofs.Common.{◌≡◌, ◌++◌, ◌∷◌}
use Rattle.std.specs.Prelude.{flat_map}
use Rattle.fk_syscalls.specs.Listings.{listed_dirent, names_left_in}
use Rattle.fw_script.specs.Records.{listed_words}
use Rattle.fw_script.proofs.Chunked.{Pending, one_put, some_put}
use Rattle.fuse_text.proofs.Writes.{OnErr-always}
use Rattle.fw_script.proofs.records.put_listing.Goals as goal

pub loop-listed-preserved : goal.loop-listed-preserved
loop-listed-preserved g c =
    let now = g.W.Write.contents in
    let first = listed_dirent c.in-Some.listed in
    let rest = names_left_in c.next.new.self in
    let whole = c.args.chunk.now ++ flat_map listed_words c.args.names.now in
    let k : names_left_in c.loop-listed.listed-iterator ≡ first ∷ rest = c.in-Some.ensures.steps in
    let before : Pending listed_words (now c.args.out.now) (now c.loop-listed.out) c.loop-listed.chunk whole
    (first ∷ rest) = rw k at c.loop-listed.invariant in
    one_put listed_words (now c.args.out.now) (now c.loop-listed.out) (now c.put_listed.new.out) c.loop-listed.chunk
    c.put_listed.new.chunk whole rest first before c.in_ok-put_listed.ensures.ok

pub returns-in_err-put_listed-clause-refused : goal.returns-in_err-put_listed-clause-refused
returns-in_err-put_listed-clause-refused g c =
    let now = g.W.Write.contents in
    let first = listed_dirent c.in-Some.listed in
    let rest = names_left_in c.next.new.self in
    let whole = c.args.chunk.now ++ flat_map listed_words c.args.names.now in
    let k : names_left_in c.loop-listed.listed-iterator ≡ first ∷ rest = c.in-Some.ensures.steps in
    let before : Pending listed_words (now c.args.out.now) (now c.loop-listed.out) c.loop-listed.chunk whole
    (first ∷ rest) = rw k at c.loop-listed.invariant in
    OnErr-always _ c.from_residual.result
    (some_put listed_words (now c.args.out.now) (now c.loop-listed.out) (now c.put_listed.new.out) c.loop-listed.chunk
    whole rest first before c.in_err-put_listed.ensures.refused)
