-- What is true of open files and their numbers, whatever happened.
use Rattle.std.specs.Prelude.{T, ◌≡◌, ◌≤◌, ◌+◌, ◌⊎◌, ℕ, true, false, cond, List, [], ◌∷◌, ◌++◌, Option, Some, All, is_some}
use Rattle.std.specs.Ordering.{nat_cmp}
use Rattle.std.specs.FinMap.{is_sorted}
use Rattle.fuse_spec.specs.declared.Opened.{Opened}
use Rattle.fuse_spec.specs.declared.Purpose.{Purpose}
use Rattle.fuse_spec.specs.declared.Purpose.TheVariants as purpose
use Rattle.fuse_spec.specs.declared.QueuedRequest.{QueuedRequest}
use Rattle.fuse_spec.specs.Values.Maps.{Map, get, values}
use Rattle.fuse_spec.specs.Kernel.Queues.{QueueState, pending}
use Rattle.fuse_spec.specs.Kernel.Messages.{Request, RequestBody, init, asks, release, forget, batch_forget, interrupt}
use Rattle.fuse_spec.specs.Calls.Vfs.{CallState, walking, doing, using, Vfs}
use Rattle.fuse_spec.specs.Kernel.Kernel.{is_live}
use Rattle.fuse_spec.specs.Server.Nodes.{file_of, is_open}
use Rattle.fuse_spec.specs.Server.Server.{Server, HeldRequest}
use Rattle.fuse_spec.specs.Claim.Counts.{OpenBalance, opens_of}
use Rattle.fuse_spec.specs.World.Worlds.{World}

-- ---- the kernel alone

-- Whether there is one, as a number.
abbrev pub stands : {X : Type 0} → Option X → ℕ
stands o = cond (is_some o) 1 0

-- The open file that a call reads or writes is open under the call's number for it, or closing.
abbrev pub UsesOpen : (opens closing : Map Opened) → CallState Opened → Type 0
UsesOpen opens closing (walking directory word words plan) = Unit {0}
UsesOpen opens closing (doing operation) = opens_of operation ≡ []
UsesOpen opens closing (using open_call operation) =
    All (λ (o : Opened). (get opens open_call ≡ Some o) ⊎ (get closing open_call ≡ Some o)) (opens_of operation)

-- A number is that of an unanswered call, of an open file or of a closing one, and of one alone; the coming numbers are
-- of none. What a call reads or writes is open or closing.
pub record OpensApart (c : Vfs Opened) (closed : Map Opened) : Type 0 where
  pub once : (n : ℕ) → stands (get c.calls n) + stands (get c.opens n) + stands (get closed n) ≤ 1
  pub below : (n : ℕ) → c.next_call ≤ n → stands (get c.calls n) + stands (get c.opens n) + stands (get closed n) ≡ 0
  pub opens : T (is_sorted nat_cmp c.opens)
  pub closing : T (is_sorted nat_cmp closed)
  pub uses : (call : ℕ) (state : CallState Opened) → get c.calls call ≡ Some state → UsesOpen c.opens closed state

-- ---- the kernel and the server

-- The open file that a request releases, as the kernel keeps it and as it is sent.
abbrev pub released_for : Purpose → List Opened
released_for purpose.Init = []
released_for (purpose.Release o) = o ∷ []
released_for (purpose.Call call) = []

abbrev pub released_by : RequestBody → List Opened
released_by (init flags) = []
released_by (asks operation) = []
released_by (release o) = o ∷ []
released_by (forget f) = []
released_by (batch_forget fs) = []
released_by (interrupt original) = []

-- What these elements release, one after another.
abbrev pub all_released : {X : Type 0} → (X → List Opened) → List X → List Opened
all_released released [] = []
all_released released (x ∷ xs) = released x ++ all_released released xs

-- What the RELEASEs that are pending, on the link and held release.
abbrev pub released_pending : QueueState Purpose → List Opened
released_pending q = all_released (λ (e : ℕ × QueuedRequest Purpose). released_for e.1.kept) (pending q)

abbrev pub released_sent : List Request → List Opened
released_sent requests = all_released (λ (r : Request). released_by r.body) requests

abbrev pub released_held : Map HeldRequest → List Opened
released_held held = all_released (λ (t : HeldRequest). released_by t.body) (values held)

-- The files that are open or closing, and those whose RELEASE is not performed.
abbrev pub open_files : World → List Opened
open_files w = values w.kernel.vfs.opens ++ values w.kernel.closing ++ released_pending w.kernel.queues
    ++ released_sent w.requests ++ released_held w.server.held

-- The file handle is one of its node's file.
abbrev pub IsOfItsNode : Server → Opened → Type 0
IsOfItsNode s o = is_open s.handles o.fh (file_of s.nodes o.nodeid) ≡ true

-- The server's count of each file handle is the open files with it, and the copies that carry it, refused ones among
-- them. The handle of each open file is one of its node's file.
pub record OpensBalanced (w : World) : Type 0 where
  pub balance : OpenBalance w
  pub files : All (IsOfItsNode w.server) (open_files w)

-- While the mount is live the file handles are balanced; else no file is open or closing. The rest is what keeps it so.
pub record OpensSound (w : World) : Type 0 where
  pub apart : OpensApart w.kernel.vfs w.kernel.closing
  pub held : T (is_sorted nat_cmp w.server.held)
  pub balanced : is_live w.kernel.phase ≡ true → OpensBalanced w
  pub unopened : is_live w.kernel.phase ≡ false → (w.kernel.vfs.opens ≡ []) × (w.kernel.closing ≡ [])
