-- What the lines of a capture say.
use Rattle.std.proofs.Common.{◌≡◌, ◌==◌, ◌&&◌, arith, nat_le, not, ℕ, Bool, true, false, List, [], ◌∷◌, ◌++◌, refl, sym, ap, subst, ◌∙◌, inl, inr, append_assoc, append-nil, true≢false, map}
use Rattle.std.specs.Prelude.{All, codes}
use Rattle.std.specs.List.{AllPass, list_all, slice_split}
use Rattle.std.proofs.lemmas.Bool.{and_parts, leb-true, ne_eqb}
use Rattle.std.proofs.lemmas.List.Elements.{All-append, All-cons, All-head, All-nil, All-tail}
use Rattle.std.proofs.lemmas.List.Splits.{slice_split_at, slice_split_none}
use Rattle.hex.specs.Hex.{encode_lower, is_hex_digit}
use Rattle.hex.proofs.HexLemmas.{decode_of-encode_lower, decode_of-ok}
use Rattle.fuse_spec.specs.declared.WriteResult.{WriteResult}
use Rattle.fuse_spec.specs.declared.WriteResult.TheVariants.{Accepted, NoEntry, Invalid}
use Rattle.fuse_sessions.specs.declared.act.Taken.{Taken}
use Rattle.fuse_sessions.specs.declared.transfer.Transfer.{Transfer as Said}
use Rattle.fuse_sessions.specs.declared.transfer.Transfer.TheVariants as said
use Rattle.fuse_capture.specs.Lines.{BeginsWithTimedFrame, IsErrno, IsErrnoByte, IsHexWord, IsResult, IsTextOf, LineSays, whole}
use Rattle.fuse_text.specs.Words.{words_of}
use Rattle.fuse_device.specs.Transfers.{Transfer, received, sent, stopped, unsent}
use Rattle.fuse_device.specs.declared.device.DeviceEnd.{DeviceEnd}
use Rattle.fuse_device.specs.declared.device.DeviceEnd.TheVariants.{Ended, TimedOut, Failed}
use Rattle.fw_capture.specs.Captured.{HasCapturable, IsCapturable, IsSaidAs, IsTakenAs, capture_text, ended_text, line_of, result_text}

-- ---- bytes of lines

-- neither a space, nor a line feed or a carriage return
abbrev IsInWord : ℕ → Type 0
IsInWord c = (c == 32) ≡ false

abbrev pub IsInLine : ℕ → Type 0
IsInLine c = ((c == 10) ≡ false) × ((c == 13) ≡ false)

abbrev is_in_line : ℕ → Bool
is_in_line c = not (c == 10) && not (c == 13)

no_digit : (mark c : ℕ) → is_hex_digit mark ≡ false → is_hex_digit c ≡ true → (c == mark) ≡ false
no_digit mark c other is = ne_eqb c mark (λ same. true≢false (sym is ∙ ap is_hex_digit same ∙ other))

-- the hex of a frame
pub are_digits : (frame : List ℕ) → IsCapturable frame → AllPass is_hex_digit (encode_lower frame)
are_digits frame is = (decode_of-ok (encode_lower frame) frame (decode_of-encode_lower frame is.bytes)).1

hex_in_word : (frame : List ℕ) → IsCapturable frame → All IsInWord (encode_lower frame)
hex_in_word frame is k d within = no_digit 32 _ refl (are_digits frame is k d within)

hex_in_line : (frame : List ℕ) → IsCapturable frame → All IsInLine (encode_lower frame)
hex_in_line frame is k d within =
    (no_digit 10 _ refl (are_digits frame is k d within), no_digit 13 _ refl (are_digits frame is k d within))

pub is_hex_word : (frame : List ℕ) → IsCapturable frame → IsHexWord (encode_lower frame) frame
is_hex_word frame is = (is.some, decode_of-encode_lower frame is.bytes)

-- a text that computes
test_line : (b : Bool) → not b ≡ true → b ≡ false
test_line false h = refl
test_line true h = absurd (true≢false (sym h))

in_line : (text : List ℕ) → list_all is_in_line text ≡ true → All IsInLine text
in_line [] h = All-nil IsInLine
in_line (c ∷ text) h =
    let parts = and_parts (is_in_line c) (list_all is_in_line text) h in
    let both = and_parts (not (c == 10)) (not (c == 13)) parts.0 in
    All-cons IsInLine c text (test_line (c == 10) both.0, test_line (c == 13) both.1) (in_line text parts.1)

result_in_line : (result : WriteResult) → All IsInLine (result_text result)
result_in_line Accepted = in_line [] refl
result_in_line NoEntry = in_line (codes " ENOENT") refl
result_in_line Invalid = in_line (codes " EINVAL") refl

ended_in_line : (end : DeviceEnd) → All IsInLine (ended_text end)
ended_in_line Ended = in_line (codes "= ended ENODEV") refl
ended_in_line TimedOut = in_line (codes "= ended EAGAIN") refl
ended_in_line Failed = in_line (codes "= ended EIO") refl

pub line_in_line : (t : Transfer) → HasCapturable t → All IsInLine (line_of t)
line_in_line (received frame) is =
    All-append IsInLine (codes "> ") (encode_lower frame) (in_line (codes "> ") refl) (hex_in_line frame is)
line_in_line (sent frame result) is =
    All-append IsInLine (codes "< " ++ encode_lower frame) (result_text result)
    (All-append IsInLine (codes "< ") (encode_lower frame) (in_line (codes "< ") refl) (hex_in_line frame is))
    (result_in_line result)
line_in_line (unsent frame end) is = ended_in_line end
line_in_line (stopped end) is = ended_in_line end

-- ---- texts

pub no_return : (start : List ℕ) → All IsInLine (start ++ 13 ∷ []) → ⊥
no_return [] h = true≢false (All-head IsInLine 13 [] h).1
no_return (c ∷ start) h = no_return start (All-tail IsInLine c (start ++ 13 ∷ []) h)

is_text : (line : List ℕ) → All IsInLine line → IsTextOf line line
is_text line h = inr (refl, λ start e. no_return start (subst (All IsInLine) e h))

-- the lines of a capture are those of its transfers, and an empty one behind the last line feed
pub lines_of_capture : (log : List Transfer) → All HasCapturable log
    → slice_split (λ byte. byte == 10) (capture_text log) ≡ map line_of log ++ [] ∷ []
lines_of_capture [] all = refl
lines_of_capture (t ∷ log) all =
    let line = line_in_line t (All-head HasCapturable t log all) in
    ap (slice_split (λ byte. byte == 10)) (append_assoc (line_of t) (codes "\n") (capture_text log))
    ∙ slice_split_at (λ byte. byte == 10) (line_of t) 10 (capture_text log) (λ k d within. (line k d within).0) refl
    ∙ ap (λ (lines : List (List ℕ)). line_of t ∷ lines) (lines_of_capture log (All-tail HasCapturable t log all))

-- ---- words

words_of_hex : (frame : List ℕ) → IsCapturable frame → words_of (encode_lower frame) ≡ encode_lower frame ∷ []
words_of_hex frame is = slice_split_none (λ byte. byte == 32) (encode_lower frame) (hex_in_word frame is)

-- hex and one word more
words_of_both : (frame word : List ℕ) → IsCapturable frame
    → words_of (encode_lower frame ++ 32 ∷ word) ≡ encode_lower frame ∷ words_of word
words_of_both frame word is =
    slice_split_at (λ byte. byte == 32) (encode_lower frame) 32 word (hex_in_word frame is) refl

-- the words after the frame
abbrev pub result_words : WriteResult → List (List ℕ)
result_words Accepted = []
result_words NoEntry = codes "ENOENT" ∷ []
result_words Invalid = codes "EINVAL" ∷ []

pub words_of_request : (frame : List ℕ) → IsCapturable frame
    → words_of (line_of (received frame)) ≡ codes ">" ∷ encode_lower frame ∷ []
words_of_request frame is = ap (λ (words : List (List ℕ)). codes ">" ∷ words) (words_of_hex frame is)

pub words_of_written : (frame : List ℕ) (result : WriteResult) → IsCapturable frame
    → words_of (line_of (sent frame result)) ≡ codes "<" ∷ encode_lower frame ∷ result_words result
words_of_written frame Accepted is =
    ap words_of (append-nil (codes "< " ++ encode_lower frame))
    ∙ ap (λ (words : List (List ℕ)). codes "<" ∷ words) (words_of_hex frame is)
words_of_written frame NoEntry is =
    ap (λ (words : List (List ℕ)). codes "<" ∷ words) (words_of_both frame (codes "ENOENT") is)
words_of_written frame Invalid is =
    ap (λ (words : List (List ℕ)). codes "<" ∷ words) (words_of_both frame (codes "EINVAL") is)

-- ---- what is said

begins_with : (frame bytes : List ℕ) (rest : List (List ℕ)) → IsCapturable frame → bytes ≡ frame
    → BeginsWithTimedFrame (encode_lower frame ∷ rest) bytes rest
begins_with frame bytes rest is same =
    rw same (inl (whole (encode_lower frame) frame (is_hex_word frame is) is.short rest))

is_result : (result : WriteResult) (t : Taken) → IsTakenAs result t → IsResult (result_words result) t
is_result Accepted t is = rw is tt
is_result NoEntry t is = rw is refl
is_result Invalid t is = rw is refl

abbrev is_capital : ℕ → Bool
is_capital c = nat_le 65 c && nat_le c 90

are_capitals : (text : List ℕ) → list_all is_capital text ≡ true → All IsErrnoByte text
are_capitals [] h = All-nil IsErrnoByte
are_capitals (c ∷ text) h =
    let parts = and_parts (is_capital c) (list_all is_capital text) h in
    let both = and_parts (nat_le 65 c) (nat_le c 90) parts.0 in
    All-cons IsErrnoByte c text (inr (leb-true 65 c both.0, leb-true c 90 both.1)) (are_capitals text parts.1)

pub is_errno : (end : DeviceEnd) → (word : List ℕ) × (words_of (ended_text end) ≡ codes "=" ∷ codes "ended" ∷ word ∷ [])
    × IsErrno word
is_errno Ended = (codes "ENODEV", refl, (codes "NODEV", refl, omega arith, are_capitals (codes "NODEV") refl))
is_errno TimedOut = (codes "EAGAIN", refl, (codes "AGAIN", refl, omega arith, are_capitals (codes "AGAIN") refl))
is_errno Failed = (codes "EIO", refl, (codes "IO", refl, omega arith, are_capitals (codes "IO") refl))

-- Each line of a capture says its transfer, which is read as this one.
pub line_says : (t : Transfer) (s : Said) → HasCapturable t → IsSaidAs t s → LineSays (line_of t) s
line_says (received frame) (said.Request bytes) is same = (
  line_of (received frame),
  is_text (line_of (received frame)) (line_in_line (received frame) is),
  (encode_lower frame ∷ [], words_of_request frame is, begins_with frame bytes.now [] is same),
)
line_says (received frame) (said.Written bytes t) is same = absurd same
line_says (received frame) said.SeveralReaders is same = absurd same
line_says (received frame) said.SeveralWriters is same = absurd same
line_says (received frame) said.Ended is same = absurd same
line_says (sent frame result) (said.Written bytes t) is same = (
  line_of (sent frame result),
  is_text (line_of (sent frame result)) (line_in_line (sent frame result) is),
  (
    encode_lower frame ∷ result_words result,
    result_words result,
    words_of_written frame result is,
    begins_with frame bytes.now (result_words result) is same.0,
    is_result result t same.1,
  ),
)
line_says (sent frame result) (said.Request bytes) is same = absurd same
line_says (sent frame result) said.SeveralReaders is same = absurd same
line_says (sent frame result) said.SeveralWriters is same = absurd same
line_says (sent frame result) said.Ended is same = absurd same
line_says (unsent frame end) said.Ended is same =
    (ended_text end, is_text (ended_text end) (ended_in_line end), is_errno end)
line_says (unsent frame end) (said.Request bytes) is same = absurd same
line_says (unsent frame end) (said.Written bytes t) is same = absurd same
line_says (unsent frame end) said.SeveralReaders is same = absurd same
line_says (unsent frame end) said.SeveralWriters is same = absurd same
line_says (stopped end) said.Ended is same =
    (ended_text end, is_text (ended_text end) (ended_in_line end), is_errno end)
line_says (stopped end) (said.Request bytes) is same = absurd same
line_says (stopped end) (said.Written bytes t) is same = absurd same
line_says (stopped end) said.SeveralReaders is same = absurd same
line_says (stopped end) said.SeveralWriters is same = absurd same
