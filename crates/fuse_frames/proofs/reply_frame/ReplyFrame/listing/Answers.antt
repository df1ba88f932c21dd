use Rattle.std.proofs.Common.{ℕ, sym, subst, ap, ◌∙◌}
use Rattle.fuse_frames.specs.ReplyTies.{Framed, IsReplyFrame, said_in}
use Rattle.fuse_frames.proofs.ReplyLemmas.{one_framed, is_framed, one_unique}
use Rattle.fuse_frames.proofs.reply_frame.ReplyFrame.listing.Goals as goal

pub invariant_of-result : goal.invariant_of-result
invariant_of-result g c =
    let bytes = c.args.bytes.items in
    let under : ℕ → Framed = λ unique. record { unique = unique; wire = said_in c.args.opcode bytes } in
    subst (λ (unique : ℕ). IsReplyFrame c.args.opcode bytes (under unique)) (sym c.requires.4)
    (is_framed c.args.opcode bytes c.requires.0 c.requires.1 c.requires.2 c.requires.3)

pub returns : goal.returns
returns g c message goes written =
    let bytes = c.args.bytes.items in
    let under : ℕ → Framed = λ unique. record { unique = unique; wire = said_in c.args.opcode bytes } in
    let same = c.requires.4
    ∙ one_unique c.args.opcode bytes c.requires.0 message c.requires.1 c.requires.2 goes written in
    ap under same ∙ one_framed c.args.opcode bytes message goes written
