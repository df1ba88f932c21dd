use Rattle.std.proofs.Common.{sym, ap, subst, ◌∙◌}
use Rattle.std.specs.Prelude.{ℤ}
use Rattle.fk_wire.specs.Replies.{reply_content, headed, SpellsReply}
use Rattle.fk_wire.specs.declared.opcode.Opcode.{Opcode}
use Rattle.fuse_spec.specs.Kernel.Messages.{asks}
use Rattle.fuse_spec.specs.Kernel.Replies.{goes_with}
use Rattle.fuse_spec.specs.Files.Operations.{operation_of}
use Rattle.fuse_frames.specs.ReplyTies.{wire_said, wire_body}
use Rattle.fuse_frames.specs.RequestTies.{asked_opcode}
use Rattle.fuse_frames.proofs.SaidWithin.{content_fits, failed_goes}
use Rattle.fuse_frames.proofs.Sayings.{says_read, says_one, same_error}
use Rattle.fuse_frames.proofs.reply_decoding.reply_to_call.Goals as goal

pub returns-in-Some-clause-said : goal.returns-in-Some-clause-said
returns-in-Some-clause-said c =
    let operation = operation_of (λ s. s.now) c.args.asked.now in
    let bytes = c.args.bytes.now in
    let head = c.args.head in
    let body = c.in-Ok.body in
    let content = reply_content body in
    let spells : SpellsReply (asked_opcode (asks operation)) bytes (headed head body) =
    subst (λ (o : Opcode). SpellsReply o bytes (headed head body)) c.opcode_asked.ensures c.in-Ok.ensures.ok in
    let same = same_error head.error c.in-Ok.ensures.ok.1 in
    record {
      says = says_read (asked_opcode (asks operation)) bytes head body _ spells
          (ap (λ (z : ℤ). wire_said z content) (sym same) ∙ c.in-Some.ensures content);
      goes = failed_goes operation c.in-Some.errno;
      day = tt;
    }

pub returns-then-not-is_within_asked-clause-none : goal.returns-then-not-is_within_asked-clause-none
returns-then-not-is_within_asked-clause-none c = λ wire other.
    let operation = operation_of (λ s. s.now) c.args.asked.now in
    let bytes = c.args.bytes.now in
    let head = c.args.head in
    let body = c.in-Ok.body in
    let content = reply_content body in
    let spells : SpellsReply (asked_opcode (asks operation)) bytes (headed head body) =
    subst (λ (o : Opcode). SpellsReply o bytes (headed head body)) c.opcode_asked.ensures c.in-Ok.ensures.ok in
    let none = sym (same_error head.error c.in-Ok.ensures.ok.1) ∙ c.in_default-failure.ensures in
    let says = says_read (asked_opcode (asks operation)) bytes head body (wire_body content) spells
    (ap (λ (z : ℤ). wire_said z content) none) in
    ap (goes_with operation) (says_one (asked_opcode (asks operation)) bytes wire (wire_body content) other says)
    ∙ content_fits operation bytes head.unique head.error content none spells
    ∙ sym c.is_within_asked.ensures ∙ c.if-not-is_within_asked.true

pub returns-clause-said : goal.returns-clause-said
returns-clause-said c =
    let operation = operation_of (λ s. s.now) c.args.asked.now in
    let bytes = c.args.bytes.now in
    let head = c.args.head in
    let body = c.in-Ok.body in
    let content = reply_content body in
    let spells : SpellsReply (asked_opcode (asks operation)) bytes (headed head body) =
    subst (λ (o : Opcode). SpellsReply o bytes (headed head body)) c.opcode_asked.ensures c.in-Ok.ensures.ok in
    let none = sym (same_error head.error c.in-Ok.ensures.ok.1) ∙ c.in_default-failure.ensures in
    record {
      says = says_read (asked_opcode (asks operation)) bytes head body _ spells
          (ap (λ (z : ℤ). wire_said z content) none ∙ c.decode_body.ensures.wire);
      goes = ap (goes_with operation) (sym c.decode_body.ensures.wire)
          ∙ content_fits operation bytes head.unique head.error content none spells
          ∙ sym c.is_within_asked.ensures ∙ c.if-not-is_within_asked.false;
      day = c.decode_body.ensures.day;
    }
