-- That no copy has a body which its request forbids, and no result says so.
use Rattle.std.specs.Prelude.{◌≡◌, ◌≢◌, ◌%◌, ℕ, List, true, Some, All}
use Rattle.fuse_spec.specs.declared.Purpose.{Purpose}
use Rattle.fuse_spec.specs.declared.Purpose.TheVariants as purpose
use Rattle.fuse_spec.specs.declared.QueuedRequest.{QueuedRequest}
use Rattle.fuse_spec.specs.declared.ReplyResult.{ReplyResult}
use Rattle.fuse_spec.specs.declared.WriteResult.TheVariants.{Invalid}
use Rattle.fuse_spec.specs.Kernel.Kernel.{is_live}
use Rattle.fuse_spec.specs.Values.Maps.{Map, get}
use Rattle.fuse_spec.specs.Kernel.Replies.{is_empty_reply}
use Rattle.fuse_spec.specs.Server.Server.{Kept}
use Rattle.fuse_spec.specs.World.Worlds.{World, Sent}

-- Each copy under this number, and the kept reply under it, says only whether the request failed.
pub record IsEmptyUnder (replies : List Sent) (kept : Map Kept) (unique : ℕ) : Type 0 where
  pub of_copies : All (λ (s : Sent). s.unique ≡ unique → is_empty_reply s.wire ≡ true) replies
  pub of_kept : (k : Kept) → get kept unique ≡ Some k → is_empty_reply k.wire ≡ true

-- So it is with replies to a RELEASE.
abbrev pub FitsPurpose : List Sent → Map Kept → ℕ → Purpose → Type 0
FitsPurpose replies kept unique purpose.Init = Unit {0}
FitsPurpose replies kept unique (purpose.Release o) = IsEmptyUnder replies kept unique
FitsPurpose replies kept unique (purpose.Call call) = Unit {0}

-- Replies to RELEASEs and to INTERRUPTs say only whether the request failed, and no copy was refused for its body.
pub record RepliesFit (w : World) : Type 0 where
  pub released : All (λ (e : ℕ
      × QueuedRequest Purpose). FitsPurpose w.replies w.server.kept e.0 e.1.kept) w.kernel.queues.requests
  pub interrupted : All (λ (s : Sent). s.unique % 2 ≡ 1 → is_empty_reply s.wire ≡ true) w.replies
  pub results : All (λ (r : ReplyResult). r.result ≢ Invalid) w.results

abbrev pub RepliesFitWhileLive : World → Type 0
RepliesFitWhileLive w = is_live w.kernel.phase ≡ true → RepliesFit w
