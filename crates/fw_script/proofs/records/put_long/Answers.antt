use Rattle.std.proofs.Common.{◌++◌, refl}
use Rattle.std.specs.Io.KnownBytes.{Appends}
use Rattle.fk_syscalls.specs.Listings.{listed_dirent}
use Rattle.fw_script.specs.Chunks.{AppendsBut}
use Rattle.fw_script.specs.Records.{listed_words}
use Rattle.fw_script.proofs.Chunked.{but_none}
use Rattle.std.proofs.KnownBytes.{Appends-trans}
use Rattle.fuse_text.proofs.Writes.{OnErr-always, OnOk-map, refused_then, some_first}
use Rattle.fw_script.proofs.records.put_long.Goals as goal

pub returns-in_err-write_chunk-clause-refused : goal.returns-in_err-write_chunk-clause-refused
returns-in_err-write_chunk-clause-refused g c =
    let held = c.args.chunk.now in
    let words = listed_words (listed_dirent c.args.listed.now) in
    OnErr-always _ c.from_residual.result
    (some_first _ _ held words (held ++ words) refl c.in_err-write_chunk.ensures.refused)

pub returns-clause-ok : goal.returns-clause-ok
returns-clause-ok g c =
    let now = g.W.Write.contents in
    let held = c.args.chunk.now in
    let words = listed_words (listed_dirent c.args.listed.now) in
    let old = now c.args.out.now in
    let mid = now c.write_chunk.new.out in
    let new = now c.write_long.new.out in
    OnOk-map (Appends mid new words) (AppendsBut old new (held ++ words) c.write_chunk.new.chunk) c.write_long.result
    (λ wrote. but_none old new (held ++ words) c.write_chunk.new.chunk c.in_ok-write_chunk.ensures.empty
    (Appends-trans old mid new held words c.in_ok-write_chunk.ensures.ok wrote)) c.write_long.ensures.ok

pub returns-clause-refused : goal.returns-clause-refused
returns-clause-refused g c =
    let held = c.args.chunk.now in
    let words = listed_words (listed_dirent c.args.listed.now) in
    refused_then c.write_long.result _ _ _ held words (held ++ words) refl c.in_ok-write_chunk.ensures.ok
    c.write_long.ensures.refused
