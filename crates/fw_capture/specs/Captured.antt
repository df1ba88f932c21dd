-- The capture of what goes over a device.
use Rattle.std.specs.Prelude.{◌≡◌, ◌<◌, ◌≤◌, ◌++◌, [], Result, Ok, Err, ℕ, List, Option, Bool, true, false, codes, flat_map, length}
use Rattle.std.specs.Io.KnownBytes.{Appends}
use Rattle.std.proofs.Common.{refl, sym, subst, ap, ap₂, ◌∙◌, append_assoc, append-nil, true≢false}
use Rattle.std.proofs.KnownBytes.{Appends-nil, Appends-trans}
use Rattle.std.proofs.lemmas.List.Concat.{flat_map-append}
use Rattle.hex.specs.Hex.{IsBytes, encode_lower}
use Rattle.fuse_spec.specs.declared.WriteResult.{WriteResult}
use Rattle.fuse_spec.specs.declared.WriteResult.TheVariants.{Accepted, NoEntry, Invalid}
use Rattle.fuse_sessions.specs.declared.act.Taken.{Taken}
use Rattle.fuse_sessions.specs.declared.act.Taken.TheVariants as taken
use Rattle.fuse_sessions.specs.declared.transfer.Transfer.{Transfer as Said}
use Rattle.fuse_sessions.specs.declared.transfer.Transfer.TheVariants as said
use Rattle.fuse_capture.specs.Lines.{longest_frame}
use Rattle.fuse_device.specs.Transfers.{Transfer, received, sent, stopped, unsent}
use Rattle.fuse_device.specs.declared.device.DeviceEnd.{DeviceEnd}
use Rattle.fuse_device.specs.declared.device.DeviceEnd.TheVariants.{Ended, TimedOut, Failed}

-- ---- lines

-- what stands behind a frame that was sent
abbrev pub result_text : WriteResult → List ℕ
result_text Accepted = []
result_text NoEntry = codes " ENOENT"
result_text Invalid = codes " EINVAL"

-- The line of a device's end. A device gives no error's number: these are the first that stand for its ends.
abbrev pub ended_text : DeviceEnd → List ℕ
ended_text Ended = codes "= ended ENODEV"
ended_text TimedOut = codes "= ended EAGAIN"
ended_text Failed = codes "= ended EIO"

-- The line of a transfer, without its line feed. Whether a frame arrived that was to be sent as the device ended is not
-- known, so that it has no line.
abbrev pub line_of : Transfer → List ℕ
line_of (received frame) = codes "> " ++ encode_lower frame
line_of (sent frame result) = codes "< " ++ encode_lower frame ++ result_text result
line_of (unsent frame end) = ended_text end
line_of (stopped end) = ended_text end

-- the capture of what went over a device
abbrev pub capture_text : List Transfer → List ℕ
capture_text log = flat_map (λ t. line_of t ++ codes "\n") log

-- ---- what the lines say

-- what the device made of a frame, as a capture has it
abbrev pub IsTakenAs : WriteResult → Taken → Type 0
IsTakenAs Accepted t = t ≡ taken.Accepted
IsTakenAs NoEntry t = t ≡ taken.NoEntry
IsTakenAs Invalid t = t ≡ taken.Invalid

-- a transfer over a device is this one of a session
abbrev pub IsSaidAs : Transfer → Said → Type 0
IsSaidAs (received frame) (said.Request bytes) = bytes.now ≡ frame
IsSaidAs (sent frame result) (said.Written bytes t) = (bytes.now ≡ frame) × IsTakenAs result t
IsSaidAs (unsent frame end) said.Ended = Unit {0}
IsSaidAs (stopped end) said.Ended = Unit {0}
IsSaidAs t s = ⊥

-- a frame that a line may have: bytes, one at least and no more than the longest
pub record IsCapturable (frame : List ℕ) : Type 0 where
  pub bytes : IsBytes frame
  pub some : 0 < length frame
  pub short : length frame ≤ longest_frame

abbrev pub HasCapturable : Transfer → Type 0
HasCapturable (received frame) = IsCapturable frame
HasCapturable (sent frame result) = IsCapturable frame
HasCapturable (unsent frame end) = Unit {0}
HasCapturable (stopped end) = Unit {0}

-- ---- writing

-- The writer got a beginning of the text.
pub record AppendsSome (old new : Option (List ℕ)) (text : List ℕ) : Type 0 where
  pub bytes : List ℕ
  pub rest : List ℕ
  pub split : text ≡ bytes ++ rest
  pub appended : Appends old new bytes

-- A writer was given the text, and took all of it, or else a beginning.
abbrev pub Writes : {T E : Type 0} → (old new : Option (List ℕ)) → (text : List ℕ) → Result T E → Type 0
Writes old new text (Ok x) = Appends old new text
Writes old new text (Err e) = AppendsSome old new text

-- From one state of a capture to another its writer got the text, and still takes all; or a beginning of the text, and
-- nothing once it refused. Each says what it holds and what of that waits in its buffer.
pub record IsCaptured (old new : Option (List ℕ)) (old_buffer new_buffer : List ℕ) (before after : Bool) (text : List ℕ)
    : Type 0 where
  pub some : AppendsSome old new text
  pub whole : after ≡ true → (before ≡ true) × (some.rest ≡ [])
  pub none_after : before ≡ false → some.bytes ≡ []
  pub handed_on : after ≡ true → old_buffer ≡ [] → new_buffer ≡ []

pub nothing_captured : (known : Option (List ℕ)) (buffer : List ℕ) (is_whole : Bool)
    → IsCaptured known known buffer buffer is_whole is_whole (capture_text [])
nothing_captured known buffer is_whole = record {
  some = record { bytes = []; rest = []; split = refl; appended = Appends-nil known };
  whole = λ still. (still, refl);
  none_after = λ gone. refl;
  handed_on = λ still empty. empty;
}

-- what two logs have in one capture, the first of which it has whole; or the second is not written
both_split : (h k : List Transfer) (a b c : List ℕ) → capture_text h ≡ a ++ [] → capture_text k ≡ b ++ c
    → capture_text (h ++ k) ≡ (a ++ b) ++ c
both_split h k a b c first second =
    flat_map-append (λ t. line_of t ++ codes "\n") h k ∙ ap₂ (λ (x y : List ℕ). x ++ y) (first ∙ append-nil a) second
    ∙ sym (append_assoc a b c)

first_split : (h k : List Transfer) (a b c : List ℕ) → capture_text h ≡ a ++ c → b ≡ []
    → capture_text (h ++ k) ≡ (a ++ b) ++ (c ++ capture_text k)
first_split h k a b c first none =
    flat_map-append (λ t. line_of t ++ codes "\n") h k ∙ ap (λ (x : List ℕ). x ++ capture_text k) first
    ∙ append_assoc a c (capture_text k)
    ∙ ap (λ (x : List ℕ). x ++ (c ++ capture_text k)) (sym (ap (λ (x : List ℕ). a ++ x) none ∙ append-nil a))

pub captured_in_turn : (a b c : Option (List ℕ)) (x y z : List ℕ) (first mid last : Bool) (h k : List Transfer)
    → IsCaptured a b x y first mid (capture_text h) → IsCaptured b c y z mid last (capture_text k)
    → IsCaptured a c x z first last (capture_text (h ++ k))
captured_in_turn a b c x y z first true last h k one two =
    let before = one.whole refl in
    let split = subst (λ (l : List ℕ). capture_text h ≡ one.some.bytes ++ l) before.1 one.some.split in
    record {
      some = record {
        bytes = one.some.bytes ++ two.some.bytes;
        rest = two.some.rest;
        split = both_split h k one.some.bytes two.some.bytes two.some.rest split two.some.split;
        appended = Appends-trans a b c one.some.bytes two.some.bytes one.some.appended two.some.appended;
      };
      whole = λ still. (before.0, (two.whole still).1);
      none_after = λ gone. absurd (true≢false (sym before.0 ∙ gone));
      handed_on = λ still empty. two.handed_on still (one.handed_on refl empty);
    }
captured_in_turn a b c x y z first false last h k one two =
    let none = two.none_after refl in
    record {
      some = record {
        bytes = one.some.bytes ++ two.some.bytes;
        rest = one.some.rest ++ capture_text k;
        split = first_split h k one.some.bytes two.some.bytes one.some.rest one.some.split none;
        appended = Appends-trans a b c one.some.bytes two.some.bytes one.some.appended two.some.appended;
      };
      whole = λ still. absurd (true≢false (sym (two.whole still).0));
      none_after = λ gone. ap₂ (λ (s t : List ℕ). s ++ t) (one.none_after gone) none;
      handed_on = λ still empty. absurd (true≢false (sym (two.whole still).0));
    }
