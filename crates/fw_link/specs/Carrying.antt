-- One envelope over a link.
use Rattle.std.specs.Prelude.{◌≡◌, ℕ, false, List, [], length, take}
use Rattle.fw_link.specs.declared.envelope.Envelope.{Envelope}
use Rattle.fw_link.specs.declared.side.Side.{Side}
use Rattle.fw_link.specs.Cutting.{CutterState}
use Rattle.fw_link.specs.Envelopes.{envelope_spelling}
use Rattle.fw_link.specs.Streams.{IsOne}
use Rattle.fw_link.specs.Traffic.{BeginsWith, HasFailed, Traffic, sent}

-- the bytes of an envelope
abbrev pub envelope_bytes : Envelope → List ℕ
envelope_bytes envelope = envelope_spelling envelope.kind envelope.copy envelope.frame.now

-- the cutter is where an envelope may begin
pub record IsEmpty (held : CutterState) : Type 0 where
  pub nothing : held.bytes ≡ []
  pub good : held.is_damaged ≡ false

-- no envelope of this length begins so
abbrev pub CutsOtherwise : (len : ℕ) (got : List ℕ) → Type 0
CutsOtherwise len got = (bytes : List ℕ) → IsOne bytes → length bytes ≡ len → BeginsWith bytes got → ⊥

-- A beginning of these bytes was put, and some bytes were got. If what was got is a beginning of these bytes, then the
-- link has failed, and its count says so.
pub record IsLost (carries : Traffic → Type 0) (from : Side) (bytes : List ℕ) (before after : ℕ) : Type 0 where
  pub put_len : ℕ
  pub got : List ℕ
  pub carried : carries (sent from (take put_len bytes) got)
  pub counted : BeginsWith bytes got → HasFailed before after
