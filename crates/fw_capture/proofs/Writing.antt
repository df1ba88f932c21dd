-- Texts that a writer takes, or of which it takes a beginning.
use Rattle.std.proofs.Common.{◌≡◌, ◌++◌, ℕ, Bool, true, false, List, [], Option, Result, Ok, Err, take, drop, refl, sym, ap, ◌∙◌, append_assoc, append-nil, take-append-drop, true≢false}
use Rattle.std.specs.Prelude.{OnErr, OnOk}
use Rattle.std.specs.Result.{IsErr, is_err}
use Rattle.std.specs.Io.KnownBytes.{Appends, Keeps}
use Rattle.std.proofs.KnownBytes.{Appends-nil, Appends-trans, Appends-kept}
use Rattle.fuse_text.specs.Outputs as Text
use Rattle.fw_capture.specs.Captured.{AppendsSome, IsCaptured, Writes}

-- what was written is a first part of the text
pub as_begun : (old new : Option (List ℕ)) (text : List ℕ) → Text.AppendsSome old new text → AppendsSome old new text
as_begun old new text some = record {
  bytes = take some.count text;
  rest = drop some.count text;
  split = sym (take-append-drop some.count text);
  appended = some.part;
}

pub as_written : {T E : Type 0} (r : Result T E) (old new : Option (List ℕ)) (text : List ℕ)
    → OnOk r (Appends old new text) → OnErr r (Text.AppendsSome old new text) → Writes old new text r
as_written (Ok x) old new text wrote some = wrote
as_written (Err e) old new text wrote some = as_begun old new text some

-- the first part, or a beginning of it
pub some_first : (old new : Option (List ℕ)) (first rest whole : List ℕ) → whole ≡ first ++ rest
    → AppendsSome old new first → AppendsSome old new whole
some_first old new first rest whole is some = record {
  bytes = some.bytes;
  rest = some.rest ++ rest;
  split = is ∙ ap (λ (l : List ℕ). l ++ rest) some.split ∙ append_assoc some.bytes some.rest rest;
  appended = some.appended;
}

-- the first part, and a beginning of the rest
pub some_then : (old mid new : Option (List ℕ)) (first rest whole : List ℕ) → whole ≡ first ++ rest
    → Appends old mid first → AppendsSome mid new rest → AppendsSome old new whole
some_then old mid new first rest whole is before some = record {
  bytes = first ++ some.bytes;
  rest = some.rest;
  split = is ∙ ap (λ (l : List ℕ). first ++ l) some.split ∙ sym (append_assoc first some.bytes some.rest);
  appended = Appends-trans old mid new first some.bytes before some.appended;
}

-- a text that was taken, and then another one
pub writes_then : {T E : Type 0} (r : Result T E) (old mid new : Option (List ℕ)) (first rest whole : List ℕ)
    → whole ≡ first ++ rest → Appends old mid first → Writes mid new rest r → Writes old new whole r
writes_then (Ok x) old mid new first rest whole is before after =
    rw is (Appends-trans old mid new first rest before after)
writes_then (Err e) old mid new first rest whole is before after =
    some_then old mid new first rest whole is before after

-- where it failed a beginning was taken
pub writes_failed : {T E : Type 0} (r : Result T E) (old new : Option (List ℕ)) (text : List ℕ) → IsErr r
    → AppendsSome old new text → Writes old new text r
writes_failed (Ok x) old new text failed some = absurd (true≢false (sym failed))
writes_failed (Err e) old new text failed some = some

-- ---- a capture

-- nothing is written behind a refusal
pub not_written : (known : Option (List ℕ)) (buffer text : List ℕ) (is_whole : Bool) → is_whole ≡ false
    → IsCaptured known known buffer buffer is_whole is_whole text
not_written known buffer text is_whole is = record {
  some = record { bytes = []; rest = text; split = refl; appended = Appends-nil known };
  whole = λ still. absurd (true≢false (sym still ∙ is));
  none_after = λ gone. refl;
  handed_on = λ still empty. empty;
}

-- what was taken of a text, and kept by a flush
some_of : {T E : Type 0} (r : Result T E) (old mid new : Option (List ℕ)) (text : List ℕ) → Writes old mid text r
    → Keeps mid new → AppendsSome old new text
some_of (Ok x) old mid new text wrote kept = record {
  bytes = text;
  rest = [];
  split = sym (append-nil text);
  appended = Appends-kept old mid new text wrote kept;
}
some_of (Err e) old mid new text wrote kept = record {
  bytes = wrote.bytes;
  rest = wrote.rest;
  split = wrote.split;
  appended = Appends-kept old mid new wrote.bytes wrote.appended kept;
}

-- the text and its flush
pub refused_at : {T E : Type 0} (r : Result T E) (old mid new : Option (List ℕ)) (old_buffer new_buffer text : List ℕ)
    (before : Bool) → before ≡ true → Writes old mid text r → Keeps mid new
    → IsCaptured old new old_buffer new_buffer before false text
refused_at r old mid new old_buffer new_buffer text before was wrote kept = record {
  some = some_of r old mid new text wrote kept;
  whole = λ still. absurd (true≢false (sym still));
  none_after = λ gone. absurd (true≢false (sym was ∙ gone));
  handed_on = λ still empty. absurd (true≢false (sym still));
}

nothing_left : {T E : Type 0} (r : Result T E) (old mid new : Option (List ℕ)) (text : List ℕ) (wrote : Writes old mid text r)
    (kept : Keeps mid new) → is_err r ≡ false → (some_of r old mid new text wrote kept).rest ≡ []
unfolding some_of
nothing_left (Ok x) old mid new text wrote kept good = refl
nothing_left (Err e) old mid new text wrote kept good = absurd (true≢false good)

ok_holds : {T E : Type 0} (P : Type 0) (r : Result T E) → is_err r ≡ false → OnOk r P → P
ok_holds P (Ok x) good h = h
ok_holds P (Err e) good h = absurd (true≢false good)

pub written_whole : {T E U V : Type 0} (r : Result T E) (f : Result U V) (old mid new : Option (List ℕ))
    (old_buffer new_buffer text : List ℕ) (before : Bool) → before ≡ true → Writes old mid text r → Keeps mid new
    → is_err r ≡ false → is_err f ≡ false → OnOk f (new_buffer ≡ [])
    → IsCaptured old new old_buffer new_buffer before before text
written_whole r f old mid new old_buffer new_buffer text before was wrote kept written flushed empty = record {
  some = some_of r old mid new text wrote kept;
  whole = λ still. (was, nothing_left r old mid new text wrote kept written);
  none_after = λ gone. absurd (true≢false (sym was ∙ gone));
  handed_on = λ still none. ok_holds (new_buffer ≡ []) f flushed empty;
}
