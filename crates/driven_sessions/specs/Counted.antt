-- The lookups of a kernel, counted in a session of what it sends and receives.
use Rattle.std.specs.Prelude.{◌≡◌, ◌≤◌, ℕ, ◌+◌, Bool, true, List, ◌∷◌, [], None}
use Rattle.fuse_device.specs.Transfers.{Transfer}
use Rattle.fuse_spec.specs.Claim.Counts.{counted}
use Rattle.fuse_spec.specs.declared.Opened.{Opened}
use Rattle.fuse_spec.specs.Kernel.Kernel.{Kernel, is_live}
use Rattle.fuse_spec.specs.Server.Server.{forgotten}
use Rattle.fuse_spec.specs.Values.Maps.{get}
use Rattle.fk_drive_frames.specs.Agreements.{IsOlderAgreement}
use Rattle.fk_drive.specs.Driving.{Driven, DriveStep, Drives, ReleasesBehind, SendsFrame, Turn, alone, at_end, first_driven, idle, next, nothing, reads, releases, releases_none, sends, waits, with_result, writes}
use Rattle.protocol_law.specs.Law.{Carries}
use Rattle.fuse_sessions.specs.declared.known.Known.{Known}
use Rattle.fuse_sessions.specs.declared.transfer.Transfer.{Transfer as Said}
use Rattle.fuse_sessions.specs.declared.transfer.Transfer.TheVariants as said
use Rattle.fuse_sessions.specs.Counts.{most_count}
use Rattle.fuse_sessions.specs.Frames.{IsSession, nothing_known}
use Rattle.fuse_sessions.specs.Sessions.{Session}
use Rattle.driven_sessions.specs.Driven.{HaveAgreed, IsOneMount}
use Rattle.driven_sessions.specs.Taken.{AreRefusedToo, AreTaken, outcomes_of}
use Rattle.driven_sessions.specs.Transfers.{AreSaid}

-- Each lookup of a node that the kernel counts, or has to forget, is counted in the session. The root has none.
abbrev pub AreLookupsCounted : Kernel → Session → Type 0
AreLookupsCounted k s = (node : ℕ) → 2 ≤ node
    → counted (get k.nodes node) + forgotten node k.queues.forgets ≤ most_count s node

-- So it is where the session has of each frame what the kernel made of it, is judged to its end, and each of its agreements
-- carries the codec's frames.
abbrev pub CountsLookups : {old : Driven} {log : List Transfer} {new : Driven} → Drives old log new → Type 0
CountsLookups {log = log} {new = new} run = (ts : List Said) → AreSaid log ts → (k : Known) (s : Session)
    (is : IsSession (said.SeveralReaders ∷ ts) k s)
    → AreTaken nothing_known [] (said.SeveralReaders ∷ ts) k s is (outcomes_of run)
    → HaveAgreed Carries nothing_known [] (said.SeveralReaders ∷ ts) k s is → k.unjudged ≡ None
    → AreLookupsCounted new.kernel s

-- So it is of a kernel that mounts once, whatever server it drives.
abbrev pub LookupsAreCounted : Type 0
LookupsAreCounted = (asks : Bool) (log : List Transfer) (new : Driven) (run : Drives (first_driven asks) log new)
    → IsOneMount run → CountsLookups run

-- ---- counted no oftener

-- It is sent: the device does not end before it.
abbrev pub IsSent : {frame : List ℕ} {log : List Transfer} → SendsFrame frame log → Type 0
IsSent (with_result result) = Unit {0}
IsSent (at_end end) = ⊥

-- No RELEASEDIR goes behind a frame.
abbrev pub HasNoneBehind : {frame : List ℕ} {next : ℕ} {directories : List (ℕ × Opened)} {log : List Transfer} {coming : ℕ}
    {left : List (ℕ × Opened)} {turn : Turn} → ReleasesBehind frame next directories log coming left turn → Type 0
HasNoneBehind (releases_none unlisted) = Unit {0}
HasNoneBehind (releases head below before after directory is apart bytes own log went) = ⊥

-- The next two: each request that is read is the kernel's and is sent, and each frame that is received is for the kernel, and none
-- agrees on a version from 7.12 to 7.30 but 7.15.
abbrev pub IsPlainStep : {old : Driven} {log : List Transfer} {new : Driven} → DriveStep old log new → Type 0
IsPlainStep (alone kernel acts) = Unit {0}
IsPlainStep (reads idles pick may request is) = Unit {0}
IsPlainStep (sends request turn unlisted frame goes log went) = IsSent went
IsPlainStep (waits frame is) = IsOlderAgreement frame → ⊥
IsPlainStep (writes idles frame rest there handed on result kernel taken log coming left turn behind) = HasNoneBehind behind
IsPlainStep step = ⊥

abbrev pub IsPlainRun : {old : Driven} {log : List Transfer} {new : Driven} → Drives old log new → Type 0
IsPlainRun nothing = Unit {0}
IsPlainRun (next before mid run log new step) = IsPlainStep step × IsPlainRun run

-- Each node is counted as often in the session as the kernel counts it, or has to forget it.
abbrev pub AreLookupsSame : Kernel → Session → Type 0
AreLookupsSame k s = (node : ℕ) → 2 ≤ node
    → counted (get k.nodes node) + forgotten node k.queues.forgets ≡ most_count s node

-- So it is while the mount is live and no request is on its way to the device, where moreover the session has as refused what the
-- kernel refused, and is judged to its end, by agreements that carry the codec's frames.
abbrev pub CountsSame : {old : Driven} {log : List Transfer} {new : Driven} → Drives old log new → Type 0
CountsSame {log = log} {new = new} run = (ts : List Said) → AreSaid log ts → (k : Known) (s : Session)
    (is : IsSession (said.SeveralReaders ∷ ts) k s)
    → AreTaken nothing_known [] (said.SeveralReaders ∷ ts) k s is (outcomes_of run) → AreRefusedToo ts (outcomes_of run)
    → HaveAgreed Carries nothing_known [] (said.SeveralReaders ∷ ts) k s is → k.unjudged ≡ None
    → is_live new.kernel.phase ≡ true → new.turn ≡ idle → AreLookupsSame new.kernel s

-- So it is of a kernel that mounts once.
abbrev pub LookupsAreSame : Type 0
LookupsAreSame = (asks : Bool) (log : List Transfer) (new : Driven) (run : Drives (first_driven asks) log new)
    → IsOneMount run → IsPlainRun run → CountsSame run
