-- The frame that words begin with.
use Rattle.std.proofs.Common.{◌≡◌, ◌+◌, ◌/◌, ◌<◌, ◌≤◌, ◌^◌, ◌⊎◌, ℕ, List, ◌∷◌, Option, Some, None, length, unwrap_or, append-nil, arith, refl, ap, subst, ◌∙◌, inl, inr}
use Rattle.std.specs.Prelude.{MatchOption, IfSome, decimal}
use Rattle.fuse_capture.specs.declared.line.CaptureFault.{CaptureFault}
use Rattle.fuse_capture.specs.declared.line.CaptureFault.TheVariants.{BadHex, WrongWords, UnknownDirection}
use Rattle.fuse_capture.specs.declared.line.CapturedFrame.{CapturedFrame}
use Rattle.fuse_capture.specs.Lines.{IsHexWord, IsMoreWord, BeginsWithFrame, BeginsWithTimedFrame, HasBadHex, whole, cut, longest_frame}
use Rattle.fuse_capture.specs.Readings.{AreBytes, HasNoMark, HasNoMore, IsPairs, KeptFaultIs, FrameFaultIs, IsTimeOf, ReadsFrame, ReadsKept, SaysOfHex, BeginsWithBadHex}
use Rattle.fuse_text.proofs.Decimals.{decimal_once}
use Rattle.fuse_capture.proofs.HexLaws.{hex_spells, pairs_spell, no_marked_hex}

-- ---- what begins

-- one word of hex, or two words
abbrev IsBegun : (words : List (List ℕ)) (bytes : List ℕ) (rest : List (List ℕ)) → Type 0
IsBegun words bytes rest =
    ((hex : List ℕ) × (words ≡ hex ∷ rest) × IsHexWord hex bytes × (length bytes ≤ longest_frame))
    ⊎ ((hex kept more : List ℕ) × (count : ℕ) × (words ≡ hex ∷ more ∷ rest) × IsHexWord hex kept × IsMoreWord more count
    × (length kept + count ≤ longest_frame))

begun : {words : List (List ℕ)} {bytes : List ℕ} {rest : List (List ℕ)} → BeginsWithFrame words bytes rest
    → IsBegun words bytes rest
begun (whole hex bytes is short rest) = inl (hex, refl, is, short)
begun (cut hex kept more count is said short rest) = inr (hex, kept, more, count, refl, is, said, short)

-- in each case the first word is hex
first_is_hex : (words : List (List ℕ)) (bytes : List ℕ) (rest : List (List ℕ)) (hex : List ℕ) (later : List (List ℕ))
    → words ≡ hex ∷ later → BeginsWithFrame words bytes rest → (kept : List ℕ) × IsHexWord hex kept
first_is_hex words bytes rest hex later e b = elim (begun b) [
  | inl (hex', e', is, short) ↦
      let same : hex' ≡ hex = cc in
      (bytes, subst (λ h. IsHexWord h bytes) same is)
  | inr (hex', kept, more, count, e', is, said, short) ↦
      let same : hex' ≡ hex = cc in
      (kept, subst (λ h. IsHexWord h kept) same is)
]

-- ---- hex, and how many bytes more

-- the number behind a mark that was taken from words
abbrev pub IsTakenFrom : ℕ → List (List ℕ) → Option ℕ → List (List ℕ) → Type 0
IsTakenFrom mark words o left = MatchOption o (HasNoMark mark words × (left ≡ words)) (λ n. words ≡ (mark ∷ decimal n) ∷ left)

pub no_hex_kept : (words : List (List ℕ)) (hex : List ℕ) (later : List (List ℕ)) → words ≡ hex ∷ later
    → (IsPairs hex → ⊥) → KeptFaultIs words BadHex
no_hex_kept words hex later e bad = record {
  none = λ bytes rest b more.
      let is = first_is_hex words bytes rest hex later e b in bad (hex_spells hex is.0 is.1).1;
  says = (hex, later, e, λ bytes is. bad (hex_spells hex bytes is).1);
}

-- pairs of digits are no bad hex
begins_well : (words : List (List ℕ)) (hex : List ℕ) (later : List (List ℕ)) → words ≡ hex ∷ later → IsPairs hex
    → BeginsWithBadHex words → ⊥
begins_well words hex later e pairs (word, rest, e', bad) =
    let same : hex ≡ word = cc in
    let found = pairs_spell hex pairs in
    bad found.0 (subst (λ h. IsHexWord h found.0) same found.1)

kept_begins : (hex : List ℕ) (later : List (List ℕ)) (o : Option ℕ) (left : List (List ℕ)) → IsPairs hex
    → IsTakenFrom 43 later o left → length hex / 2 + unwrap_or o 0 ≤ longest_frame
    → (bytes : List ℕ) → AreBytes hex (unwrap_or o 0) bytes → BeginsWithFrame (hex ∷ later) bytes left
kept_begins hex later None left pairs from short bytes are =
    let found = pairs_spell hex pairs in
    let size = (hex_spells hex found.0 found.1).0 in
    let same : bytes ≡ found.0 = are found.0 found.1 ∙ append-nil found.0 in
    rw (same, from.1) (whole hex found.0 found.1 (omega (arith, size, short)) later)
kept_begins hex later (Some n) left pairs from short bytes are =
    let found = pairs_spell hex pairs in
    let size = (hex_spells hex found.0 found.1).0 in
    rw (are found.0 found.1, from) (cut hex found.0 (43 ∷ decimal n) n found.1 refl (omega (arith, size, short)) left)

kept_only : (hex : List ℕ) (later : List (List ℕ)) (o : Option ℕ) (left : List (List ℕ))
    → IsTakenFrom 43 later o left → (words : List (List ℕ)) (bytes : List ℕ) (rest : List (List ℕ)) → words ≡ hex ∷ later
    → BeginsWithFrame words bytes rest → HasNoMore rest → rest ≡ left
kept_only hex later None left from words bytes rest e b more = elim (begun b) [
  | inl (hex', e', is, short) ↦ let same = from.1 in cc
  | inr (hex', kept, word, count, e', is, said, short) ↦
      let same : later ≡ word ∷ rest = cc in absurd (from.0 word rest same count (omega (arith, short)) said)
]
kept_only hex later (Some n) left from words bytes rest e b more = elim (begun b) [
  | inl (hex', e', is, short) ↦
      let same : rest ≡ (43 ∷ decimal n) ∷ left = cc in absurd (more (43 ∷ decimal n) left n same refl)
  | inr (hex', kept, word, count, e', is, said, short) ↦ cc
]

pub kept_reads : (words : List (List ℕ)) (hex : List ℕ) (later : List (List ℕ)) (o : Option ℕ) (left : List (List ℕ))
    (more : ℕ) → words ≡ hex ∷ later → IsPairs hex → IsTakenFrom 43 later o left → more ≡ unwrap_or o 0
    → length hex / 2 + more ≤ longest_frame → ReadsKept words hex more left
kept_reads words hex later o left more e pairs from is short = record {
  begins = λ bytes are. rw e (kept_begins hex later o left pairs from (rw is at short) bytes (rw is at are));
  only = λ bytes rest b no_more. kept_only hex later o left from words bytes rest e b no_more;
  good = begins_well words hex later e pairs;
}

too_long : (hex : List ℕ) (later : List (List ℕ)) (o : Option ℕ) (left : List (List ℕ)) → IsTakenFrom 43 later o left
    → IfSome o (λ n. n < 2 ^ 64) → longest_frame < length hex / 2 + unwrap_or o 0
    → (words : List (List ℕ)) (bytes : List ℕ) (rest : List (List ℕ)) → words ≡ hex ∷ later
    → BeginsWithFrame words bytes rest → HasNoMore rest → ⊥
too_long hex later None left from small long words bytes rest e b more = elim (begun b) [
  | inl (hex', e', is, short) ↦
      let same : hex' ≡ hex = cc in
      let size = (hex_spells hex' bytes is).0 in
      let width = ap length same in omega (arith, size, short, long, width)
  | inr (hex', kept, word, count, e', is, said, short) ↦
      let same : later ≡ word ∷ rest = cc in from.0 word rest same count (omega (arith, short)) said
]
too_long hex later (Some n) left from small long words bytes rest e b more = elim (begun b) [
  | inl (hex', e', is, short) ↦
      let same : rest ≡ (43 ∷ decimal n) ∷ left = cc in more (43 ∷ decimal n) left n same refl
  | inr (hex', kept, word, count, e', is, said, short) ↦
      let same : hex' ≡ hex = cc in
      let size = (hex_spells hex' kept is).0 in
      let width = ap length same in
      let digits : decimal count ≡ decimal n = cc in
      let number = decimal_once count n (omega (arith, short)) small digits in
      omega (arith, size, short, long, width, number)
]

pub kept_too_long : (words : List (List ℕ)) (hex : List ℕ) (later : List (List ℕ)) (o : Option ℕ)
    (left : List (List ℕ)) (more : ℕ) → words ≡ hex ∷ later → IsTakenFrom 43 later o left → IfSome o (λ n. n < 2 ^ 64)
    → more ≡ unwrap_or o 0 → IsPairs hex → (length hex / 2 + more ≤ longest_frame → ⊥) → KeptFaultIs words WrongWords
kept_too_long words hex later o left more e from small is pairs long = record {
  none = λ bytes rest b no_more.
      too_long hex later o left from small (rw is at (let past : longest_frame < length hex / 2 + more = grind arith in past))
      words bytes rest e b no_more;
  says = begins_well words hex later e pairs;
}

-- ---- with a time before it

no_hex_at_time : (words : List (List ℕ)) (n : ℕ) (later : List (List ℕ)) (bytes : List ℕ) (rest : List (List ℕ))
    → words ≡ (64 ∷ decimal n) ∷ later → BeginsWithFrame words bytes rest → ⊥
no_hex_at_time words n later bytes rest e b =
    let is = first_is_hex words bytes rest (64 ∷ decimal n) later e b in
    no_marked_hex 64 (decimal n) is.0 refl is.1

-- what begins after the time begins there
after_time : (words : List (List ℕ)) (o : Option ℕ) (later : List (List ℕ)) → IsTakenFrom 64 words o later
    → (bytes : List ℕ) (rest : List (List ℕ)) → BeginsWithTimedFrame words bytes rest → BeginsWithFrame later bytes rest
after_time words None later from bytes rest (inl b) = rw from.1 b
after_time words None later from bytes rest (inr (word, time, left, e, is, b)) =
    absurd (from.0 word left e time is.0 is.1)
after_time words (Some n) later from bytes rest (inl b) = absurd (no_hex_at_time words n later bytes rest from b)
after_time words (Some n) later from bytes rest (inr (word, time, left, e, is, b)) =
    let same : left ≡ later = cc in subst (λ (l : List (List ℕ)). BeginsWithFrame l bytes rest) same b

before_time : (words : List (List ℕ)) (o : Option ℕ) (later : List (List ℕ)) → IsTakenFrom 64 words o later
    → IfSome o (λ n. n < 2 ^ 64) → (bytes : List ℕ) (rest : List (List ℕ)) → BeginsWithFrame later bytes rest
    → BeginsWithTimedFrame words bytes rest
before_time words None later from small bytes rest b =
    inl (subst (λ (l : List (List ℕ)). BeginsWithFrame l bytes rest) from.1 b)
before_time words (Some n) later from small bytes rest b =
    inr (64 ∷ decimal n, n, later, from, (small, refl), b)

time_of : (words : List (List ℕ)) (o : Option ℕ) (later : List (List ℕ)) → IsTakenFrom 64 words o later
    → IfSome o (λ n. n < 2 ^ 64) → IsTimeOf words o
time_of words None later from small = λ word rest time e is. from.0 word rest e time is.0 is.1
time_of words (Some n) later from small = (64 ∷ decimal n, later, from, (small, refl))

-- ---- where the hex should be

bad_behind_time : (words : List (List ℕ)) (o : Option ℕ) (later : List (List ℕ)) → IsTakenFrom 64 words o later
    → IfSome o (λ n. n < 2 ^ 64) → BeginsWithBadHex later → HasBadHex words
bad_behind_time words None later from small (word, rest, e, bad) =
    let whole : words ≡ word ∷ rest = cc in
    (word, (rest, inl (whole, λ time timed. from.0 word rest whole time timed.0 timed.1)), bad)
bad_behind_time words (Some n) later from small (word, rest, e, bad) =
    let whole : words ≡ (64 ∷ decimal n) ∷ word ∷ rest = cc in
    (word, (rest, inr (n, 64 ∷ decimal n, (small, refl), whole)), bad)

bad_is_behind_time : (words : List (List ℕ)) (o : Option ℕ) (later : List (List ℕ)) → IsTakenFrom 64 words o later
    → IfSome o (λ n. n < 2 ^ 64) → HasBadHex words → BeginsWithBadHex later
bad_is_behind_time words None later from small (word, (rest, inl (e, untimed)), bad) =
    let there : later ≡ word ∷ rest = cc in (word, rest, there, bad)
bad_is_behind_time words None later from small (word, (rest, inr (time, at, timed, e)), bad) =
    absurd (from.0 at (word ∷ rest) e time timed.0 timed.1)
bad_is_behind_time words (Some n) later from small (word, (rest, inl (e, untimed)), bad) =
    let same : word ≡ 64 ∷ decimal n = cc in absurd (untimed n (small, same))
bad_is_behind_time words (Some n) later from small (word, (rest, inr (time, at, timed, e)), bad) =
    let there : later ≡ word ∷ rest = cc in (word, rest, there, bad)

says_as : (f : CaptureFault) (P Q : Type 0) → (P → Q) → (Q → P) → SaysOfHex f P → SaysOfHex f Q
says_as BadHex P Q to from h = to h
says_as WrongWords P Q to from h = λ q. h (from q)
says_as UnknownDirection P Q to from h = h

pub frame_reads : (words : List (List ℕ)) (o : Option ℕ) (later : List (List ℕ)) (f : CapturedFrame)
    (left : List (List ℕ)) → f.time ≡ o → IsTakenFrom 64 words o later → IfSome o (λ n. n < 2 ^ 64)
    → ReadsKept later f.hex.now f.more left → ReadsFrame words f left
frame_reads words o later f left is from small reads = record {
  time = rw is (time_of words o later from small);
  begins = λ bytes is. before_time words o later from small bytes left (reads.begins bytes is);
  only = λ bytes rest b more. reads.only bytes rest (after_time words o later from bytes rest b) more;
  good = λ bad. reads.good (bad_is_behind_time words o later from small bad);
}

pub frame_fault : (words : List (List ℕ)) (o : Option ℕ) (later : List (List ℕ)) (f : CaptureFault)
    → IsTakenFrom 64 words o later → IfSome o (λ n. n < 2 ^ 64) → KeptFaultIs later f → FrameFaultIs words f
frame_fault words o later f from small fault = record {
  none = λ bytes rest b more. fault.none bytes rest (after_time words o later from bytes rest b) more;
  says = says_as f (BeginsWithBadHex later) (HasBadHex words) (bad_behind_time words o later from small)
      (bad_is_behind_time words o later from small) fault.says;
}
