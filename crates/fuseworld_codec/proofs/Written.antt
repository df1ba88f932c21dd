-- A buffer that a header and a body fill.
use Rattle.std.proofs.Common.{◌≡◌, ◌≤◌, ◌<◌, ℕ, ◌+◌, ◌^◌, List, [], ◌++◌, length, take, sym, ap, subst, ◌∙◌, arith}
use Rattle.std.specs.Prelude.{IsTrue}
use Rattle.std.proofs.lemmas.List.{take_all}
use Rattle.fk_wire.specs.Fields.{HaveNames, InRange, sizes, spellings, u64}
use Rattle.fk_wire.specs.Opcodes.{code_of, has_node, minor_knows}
use Rattle.fk_wire.specs.Requests.{RequestMessage, IsNodeOf, WrittenAt, header, max_frame, opcode_of, request_body}
use Rattle.fk_wire.specs.declared.opcode.Minor.{Minor}
use Rattle.fk_wire.proofs.Frames.{frame, reply_frame}
use Rattle.std.specs.Int.{cast_unsigned, w32}
use Rattle.fk_wire.specs.Fields.{bytes_of}
use Rattle.fk_wire.specs.Replies.{ReplyMessage, HasReplyNames, IsAlone, IsErrorNumber, IsReplyContent, WrittenReplyAt, kind_of_content, knows_kind, reply_body}

pub whole_request : (minor : Minor) (m : RequestMessage) (out : List ℕ) (len place code : ℕ) → length out ≡ len
    → place ≡ len → 40 + sizes (request_body m.content) ≡ len → len ≤ max_frame → m.unique < 2 ^ 64
    → m.nodeid < 2 ^ 64 → code < 2 ^ 32 → code ≡ code_of (opcode_of m.content)
    → IsTrue (minor_knows minor (opcode_of m.content)) → IsNodeOf (has_node (opcode_of m.content)) m.nodeid
    → InRange (request_body m.content) → HaveNames (request_body m.content)
    → take place out ≡ spellings (header len code m.unique (u64 m.nodeid)) ++ spellings (request_body m.content)
    → WrittenAt minor m out
whole_request minor m out len place code size end total small unique node bound same known good fits names e =
    let all : take place out ≡ out = take_all place out (omega (arith, size, end)) in
    let head : out ≡ spellings (header len (code_of (opcode_of m.content)) m.unique (u64 m.nodeid))
    ++ spellings (request_body m.content) = sym all ∙ e ∙ ap
    (λ (k : ℕ). spellings (header len k m.unique (u64 m.nodeid)) ++ spellings (request_body m.content)) same in
    let made = frame minor m [] out len total small unique node (subst (λ (k : ℕ). k < 2 ^ 32) same bound) known good
    fits names head in
    subst (λ (bytes : List ℕ). WrittenAt minor m bytes) (sym made.2) made.1

pub whole_reply : (minor : Minor) (t : ReplyMessage) (out : List ℕ) (len place : ℕ) → length out ≡ len
    → place ≡ len → 16 + sizes (reply_body t.content) ≡ len → len ≤ max_frame → IsErrorNumber t.error
    → IsTrue (knows_kind minor (kind_of_content t.content)) → IsAlone t → IsReplyContent t.content
    → HasReplyNames t.content → cast_unsigned w32 t.error < 2 ^ 32 → t.unique < 2 ^ 64
    → InRange (reply_body t.content)
    → take place out ≡ ((bytes_of 4 len ++ bytes_of 4 (cast_unsigned w32 t.error)) ++ bytes_of 8 t.unique)
    ++ spellings (reply_body t.content)
    → WrittenReplyAt minor t out
whole_reply minor t out len place size end total small error known alone good names word unique fits e =
    let all : take place out ≡ out = take_all place out (omega (arith, size, end)) in
    let made = reply_frame minor t [] out len total small error known alone good names word unique fits
    (sym all ∙ e) in
    subst (λ (bytes : List ℕ). WrittenReplyAt minor t bytes) (sym made.2) made.1
