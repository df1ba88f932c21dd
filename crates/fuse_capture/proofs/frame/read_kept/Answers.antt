use Rattle.std.specs.Prelude.{option_copied}
use Rattle.fuse_text.specs.Words.{words_left}
use Rattle.fuse_capture.proofs.FrameLaws.{no_hex_kept, kept_too_long, kept_reads}
use Rattle.std.proofs.Common.{refl}
use Rattle.fuse_capture.proofs.frame.read_kept.Goals as goal

pub returns-then-not-is_hex_word : goal.returns-then-not-is_hex_word
returns-then-not-is_hex_word c =
    no_hex_kept _ c.in-Some.hex.now (words_left (option_copied c.in-Some.later)) c.in-Some.ensures
    (λ pairs. let hex = c.if-not-is_hex_word.ensures.1 pairs in cc)

pub returns-then-not-is_short : goal.returns-then-not-is_short
returns-then-not-is_short c =
    kept_too_long _ c.in-Some.hex.now (words_left (option_copied c.in-Some.later)) c.take_marked-more.result.0
    (words_left (option_copied c.take_marked-more.result.1)) c.unwrap_or-more.result c.in-Some.ensures
    c.take_marked-more.ensures.taken c.take_marked-more.ensures.small c.unwrap_or-more.ensures
    (c.if-not-is_hex_word.ensures.0 refl) (λ short. let is = c.if-not-is_short.ensures.1 short in cc)

pub returns : goal.returns
returns c =
    kept_reads _ c.in-Some.hex.now (words_left (option_copied c.in-Some.later)) c.take_marked-more.result.0
    (words_left (option_copied c.take_marked-more.result.1)) c.unwrap_or-more.result c.in-Some.ensures
    (c.if-not-is_hex_word.ensures.0 refl) c.take_marked-more.ensures.taken c.unwrap_or-more.ensures
    (c.if-not-is_short.ensures.0 refl)
