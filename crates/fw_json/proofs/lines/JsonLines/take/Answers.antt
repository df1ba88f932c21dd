use Rattle.std.proofs.Common.{◌++◌, ◌+◌, List, ℕ, ap, sym, subst, take}
use Rattle.fuse_text.specs.Outputs.{AppendsSome}
use Rattle.fuse_text.proofs.Splitting.{split_at_position}
use Rattle.fuse_text.proofs.Writes.{OnErr-always}
use Rattle.fw_json.specs.Objects.{json_line}
use Rattle.fw_json.specs.Texts.{first_of}
use Rattle.fw_json.proofs.Feeds.{cut_at_feed}
use Rattle.fw_json.proofs.Written.{kept_all, one_more_written}
use Rattle.fw_json.proofs.lines.JsonLines.take.Goals as goal

pub returns-in_err-end_line-in-Some-clause-refused :
    goal.returns-in_err-end_line-in-Some-clause-refused
returns-in_err-end_line-in-Some-clause-refused g c =
    let split = rw c.in-Some.is at (split_at_position 10 c.args.bytes.now c.find_feed.result c.find_feed.ensures) in
    OnErr-always _ c.from_residual.result
    (subst (λ (l : List ℕ). AppendsSome (g.W.Write.contents c.args.self.now.writer)
    (g.W.Write.contents c.end_line.new.self.writer)
    (json_line c.args.self.now.is_first (c.args.self.now.line.items ++ l))) (sym (ap first_of split.1))
    c.in_err-end_line-in-Some.ensures.refused)

pub returns-in_ok-end_line-in-Some-clause-written :
    goal.returns-in_ok-end_line-in-Some-clause-written
returns-in_ok-end_line-in-Some-clause-written g c start text has =
    let cut = rw c.in-Some.is at (cut_at_feed c.args.bytes.now c.find_feed.result c.find_feed.ensures) in
    let ok = c.in_ok-end_line-in-Some.ensures in
    one_more_written start (g.W.Write.contents c.args.self.now.writer) (g.W.Write.contents c.end_line.new.self.writer)
    text (take (c.in-Some.end + 1) c.args.bytes.now) (take c.in-Some.end c.args.bytes.now) c.args.self.now.line.items
    c.end_line.new.self.line.items c.args.self.now.is_first c.end_line.new.self.is_first has cut.1 ok.ok ok.kept.0 ok.kept.1

pub returns-in_ok-keep-in-None-clause-written : goal.returns-in_ok-keep-in-None-clause-written
returns-in_ok-keep-in-None-clause-written g c start text has =
    let cut = rw c.in-None.is at (cut_at_feed c.args.bytes.now c.find_feed.result c.find_feed.ensures) in
    kept_all g.W.Write.contents start c.args.self.now.writer c.keep.new.self.writer text c.args.bytes.now
    c.args.self.now.line.items c.keep.new.self.line.items c.args.self.now.is_first c.keep.new.self.is_first has cut
    c.in_ok-keep-in-None.ensures.ok c.keep.ensures.same.0 c.keep.ensures.same.1
