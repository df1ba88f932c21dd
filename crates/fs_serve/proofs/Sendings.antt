-- What settling results in.
use Rattle.std.proofs.Common.{◌≡◌, ℕ, Result, Ok, Err, inl, inr}
use Rattle.std.specs.Prelude.{MatchResult, OnErr}
use Rattle.fuse_spec.specs.Server.Server.{Server}
use Rattle.fuse_spec.specs.declared.Refusal.{Refusal}
use Rattle.fuse_spec.specs.declared.WriteResult.{WriteResult}
use Rattle.fs_server.specs.Effects.{Settles, HasNoCopy}
use Rattle.fs_serve.specs.Sending.{IsSettled}

pub is_settled : {T : Type 0} (r : Result T Refusal) (old new : Server) (number : ℕ) (result : WriteResult)
    → OnErr r (new ≡ old) → MatchResult r (λ _. Settles old number result new) (HasNoCopy old number)
    → IsSettled old number result new
is_settled (Ok _) old new number result same settles = inl settles
is_settled (Err refusal) old new number result same absent = inr (refusal, absent, same)
