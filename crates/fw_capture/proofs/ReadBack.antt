-- What is read in the lines of a capture.
use Rattle.std.proofs.Common.{◌≡◌, ◌⊎◌, ℕ, true, false, nat_eq, List, [], ◌∷◌, get_or, arith, eq-eqb, true≢false, refl, sym, ap, subst, ◌∙◌, inl, inr}
use Rattle.std.specs.Prelude.{All, codes, decimal}
use Rattle.std.specs.List.{AllPass}
use Rattle.std.proofs.lemmas.List.Elements.{All-head}
use Rattle.hex.specs.Hex.{encode_lower, is_hex_digit}
use Rattle.hex.proofs.HexLemmas.{decode_of-same}
use Rattle.fuse_spec.specs.declared.WriteResult.{WriteResult}
use Rattle.fuse_spec.specs.declared.WriteResult.TheVariants.{Accepted, NoEntry, Invalid}
use Rattle.fuse_sessions.specs.declared.act.Taken.{Taken}
use Rattle.fuse_sessions.specs.declared.act.Taken.TheVariants as taken
use Rattle.fuse_sessions.specs.declared.transfer.Transfer.{Transfer as Said}
use Rattle.fuse_sessions.specs.declared.transfer.Transfer.TheVariants as said
use Rattle.fuse_capture.specs.Lines.{BeginsWithFrame, BeginsWithTimedFrame, IsHexWord, IsMoreWord, IsResult, IsTextOf, LineSays, SaysTransfer, cut, whole}
use Rattle.fuse_text.specs.Words.{words_of}
use Rattle.fuse_capture.specs.Readings.{HasNoMore}
use Rattle.fuse_device.specs.Transfers.{Transfer, received, sent, stopped, unsent}
use Rattle.fuse_device.specs.declared.device.DeviceEnd.{DeviceEnd}
use Rattle.fw_capture.specs.Captured.{HasCapturable, IsCapturable, IsSaidAs, IsTakenAs, line_of}
use Rattle.fw_capture.proofs.Said.{IsInLine, are_digits, is_errno, is_hex_word, line_in_line, no_return, result_words, words_of_request, words_of_written}

-- words whose first bytes differ
differs : {x y : List ℕ} {u v : List (List ℕ)} (a b : ℕ) → nat_eq a b ≡ false → (a ∷ x) ∷ u ≡ (b ∷ y) ∷ v → ⊥
differs a b other e =
    let same : a ≡ b = ap (λ (l : List (List ℕ)). get_or (get_or l 0 []) 0 0) e in
    true≢false (sym (eq-eqb a b same) ∙ other)

-- ---- frames

-- one word of hex, or two words
abbrev IsBegun : (words : List (List ℕ)) (bytes : List ℕ) (rest : List (List ℕ)) → Type 0
IsBegun words bytes rest =
    ((hex : List ℕ) × (words ≡ hex ∷ rest) × IsHexWord hex bytes)
    ⊎ ((hex kept more : List ℕ) × (count : ℕ) × (words ≡ hex ∷ more ∷ rest) × IsHexWord hex kept × IsMoreWord more count)

begun : {words : List (List ℕ)} {bytes : List ℕ} {rest : List (List ℕ)} → BeginsWithFrame words bytes rest
    → IsBegun words bytes rest
begun (whole hex bytes is short rest) = inl (hex, refl, is)
begun (cut hex kept more count is said short rest) = inr (hex, kept, more, count, refl, is, said)

untimed_once : (frame bytes : List ℕ) (words rest left : List (List ℕ)) → IsCapturable frame → HasNoMore rest
    → words ≡ encode_lower frame ∷ rest → BeginsWithFrame words bytes left → (bytes ≡ frame) × (left ≡ rest)
untimed_once frame bytes words rest left is none e b = elim (begun b) [
  | inl (hex, e', spells) ↦
      let same : hex ≡ encode_lower frame = cc in
      let others : left ≡ rest = cc in
      (decode_of-same (encode_lower frame) bytes frame (subst (λ h. IsHexWord h bytes) same spells).1 (is_hex_word frame is).1, others)
  | inr (hex, kept, more, count, e', spells, says) ↦
      let others : rest ≡ more ∷ left = cc in absurd (none more left count others says)
]

-- The words of a line begin with its frame alone.
frame_once : (frame bytes : List ℕ) (words rest left : List (List ℕ)) → IsCapturable frame → HasNoMore rest
    → words ≡ encode_lower frame ∷ rest → BeginsWithTimedFrame words bytes left → (bytes ≡ frame) × (left ≡ rest)
frame_once frame bytes words rest left is none e (inl b) = untimed_once frame bytes words rest left is none e b
frame_once frame bytes words rest left is none e (inr (word, time, later, e', is_time, b)) =
    let same : encode_lower frame ≡ word = cc in
    let digits = subst (AllPass is_hex_digit) (same ∙ is_time.1) (are_digits frame is) in
    absurd (true≢false (sym (All-head (λ c. is_hex_digit c ≡ true) 64 (decimal time) digits)))

-- ---- lines

text_is : (line text : List ℕ) → All IsInLine line → IsTextOf line text → line ≡ text
text_is line text h (inl e) = absurd (no_return text (subst (All IsInLine) e h))
text_is line text h (inr e) = e.0

nothing_more : HasNoMore []
nothing_more word later count e more = cc

named_more : (c : ℕ) (rest : List ℕ) → nat_eq c 43 ≡ false → HasNoMore ((c ∷ rest) ∷ [])
named_more c rest other word later count e more =
    let same : c ≡ 43 = ap (λ (l : List ℕ). get_or l 0 0) (ap (λ (l : List (List ℕ)). get_or l 0 []) e ∙ more) in
    absurd (true≢false (sym (eq-eqb c 43 same) ∙ other))

no_more : (result : WriteResult) → HasNoMore (result_words result)
no_more Accepted = nothing_more
no_more NoEntry = named_more 69 (codes "NOENT") refl
no_more Invalid = named_more 69 (codes "INVAL") refl

taken_once : (result : WriteResult) (t : Taken) → IsResult (result_words result) t → IsTakenAs result t
taken_once Accepted taken.Accepted h = refl
taken_once Accepted taken.NoEntry h = absurd h
taken_once Accepted taken.Invalid h = absurd h
taken_once Accepted taken.Failed h = absurd h
taken_once NoEntry taken.Accepted h = absurd h
taken_once NoEntry taken.NoEntry h = refl
taken_once NoEntry taken.Invalid h =
    let e : 78 ≡ 73 = ap (λ (l : List ℕ). get_or l 1 0) h in absurd (omega (arith, e))
taken_once NoEntry taken.Failed h = absurd (h.1 refl)
taken_once Invalid taken.Accepted h = absurd h
taken_once Invalid taken.NoEntry h =
    let e : 73 ≡ 78 = ap (λ (l : List ℕ). get_or l 1 0) h in absurd (omega (arith, e))
taken_once Invalid taken.Invalid h = refl
taken_once Invalid taken.Failed h = absurd (h.2 refl)

-- `ended` is none of the words of readers and writers
no_several : (a b : List ℕ) (words : List (List ℕ)) → words ≡ codes "=" ∷ codes "ended" ∷ a ∷ []
    → words ≡ codes "=" ∷ codes "several" ∷ b ∷ [] → ⊥
no_several a b words one two =
    let e : 101 ≡ 115 = ap (λ (l : List (List ℕ)). get_or (get_or l 1 []) 0 0) (sym one ∙ two) in
    omega (arith, e)

-- the words of the text that is read
read_words : (t : Transfer) (text : List ℕ) → HasCapturable t → IsTextOf (line_of t) text
    → words_of text ≡ words_of (line_of t)
read_words t text is of = ap words_of (sym (text_is (line_of t) text (line_in_line t is) of))

only_request : (frame : List ℕ) (words : List (List ℕ)) (s : Said) → IsCapturable frame
    → words ≡ codes ">" ∷ encode_lower frame ∷ [] → SaysTransfer words s → IsSaidAs (received frame) s
only_request frame words (said.Request bytes) is are (rest, e, b) =
    let same : rest ≡ encode_lower frame ∷ [] = cc in
    (frame_once frame bytes.now rest [] [] is nothing_more same b).0
only_request frame words (said.Written bytes t) is are (rest, result, e, b, r) = differs 62 60 refl (sym are ∙ e)
only_request frame words said.SeveralReaders is are e = differs 62 61 refl (sym are ∙ e)
only_request frame words said.SeveralWriters is are e = differs 62 61 refl (sym are ∙ e)
only_request frame words said.Ended is are (word, e, named) = differs 62 61 refl (sym are ∙ e)

only_sent : (frame : List ℕ) (result : WriteResult) (words : List (List ℕ)) (s : Said) → IsCapturable frame
    → words ≡ codes "<" ∷ encode_lower frame ∷ result_words result → SaysTransfer words s
    → IsSaidAs (sent frame result) s
only_sent frame result words (said.Request bytes) is are (rest, e, b) = differs 60 62 refl (sym are ∙ e)
only_sent frame result words (said.Written bytes t) is are (rest, left, e, b, r) =
    let same : rest ≡ encode_lower frame ∷ result_words result = cc in
    let once = frame_once frame bytes.now rest (result_words result) left is (no_more result) same b in
    (once.0, taken_once result t (subst (λ (l : List (List ℕ)). IsResult l t) once.1 r))
only_sent frame result words said.SeveralReaders is are e = differs 60 61 refl (sym are ∙ e)
only_sent frame result words said.SeveralWriters is are e = differs 60 61 refl (sym are ∙ e)
only_sent frame result words said.Ended is are (word, e, named) = differs 60 61 refl (sym are ∙ e)

only_end : (frame word : List ℕ) (end : DeviceEnd) (words : List (List ℕ)) (s : Said)
    → words ≡ codes "=" ∷ codes "ended" ∷ word ∷ [] → SaysTransfer words s
    → IsSaidAs (unsent frame end) s × IsSaidAs (stopped end) s
only_end frame word end words (said.Request bytes) are (rest, e, b) = absurd (differs 61 62 refl (sym are ∙ e))
only_end frame word end words (said.Written bytes t) are (rest, left, e, b, r) = absurd (differs 61 60 refl (sym are ∙ e))
only_end frame word end words said.SeveralReaders are e = absurd (no_several word (codes "readers") words are e)
only_end frame word end words said.SeveralWriters are e = absurd (no_several word (codes "writers") words are e)
only_end frame word end words said.Ended are e = (tt, tt)

-- What the line of a transfer says is that transfer, and no other.
pub line_says_only : (t : Transfer) (s : Said) → HasCapturable t → LineSays (line_of t) s → IsSaidAs t s
line_says_only (received frame) s is (text, of, says) =
    only_request frame (words_of text) s is (read_words (received frame) text is of ∙ words_of_request frame is) says
line_says_only (sent frame result) s is (text, of, says) =
    only_sent frame result (words_of text) s is
    (read_words (sent frame result) text is of ∙ words_of_written frame result is) says
line_says_only (unsent frame end) s is (text, of, says) =
    let named = is_errno end in
    (only_end frame named.0 end (words_of text) s (read_words (unsent frame end) text is of ∙ named.1) says).0
line_says_only (stopped end) s is (text, of, says) =
    let named = is_errno end in
    (only_end [] named.0 end (words_of text) s (read_words (stopped end) text is of ∙ named.1) says).1
