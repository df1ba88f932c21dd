-- What a run gathers of a node's lookups, and what it forgets of them.
use Rattle.std.specs.Prelude.{◌≡◌, ◌≤◌, ℕ, ◌+◌, cond, List, None}
use Rattle.fuse_spec.specs.declared.WriteResult.{WriteResult}
use Rattle.fuse_spec.specs.declared.WriteResult.TheVariants.{Accepted, NoEntry, Invalid}
use Rattle.fuse_spec.specs.Claim.Counts.{counted, times_named}
use Rattle.fuse_spec.specs.Kernel.Kernel.{Kernel, is_live}
use Rattle.fuse_spec.specs.Server.Server.{forgets_of, forgotten}
use Rattle.fuse_spec.specs.Values.Maps.{get}
use Rattle.fuse_frames.specs.ReplyTies.{said_in}
use Rattle.fuse_device.specs.Transfers.{Transfer}
use Rattle.fk_kernel.specs.AwaitedReplies.{Awaited, nothing as nothing_awaited, reply_to, awaited, head_unique}
use Rattle.fk_drive.specs.Driving.{Driven, DriveStep, Drives, alone, reads, answers, writes, next, nothing}
use Rattle.fk_drive.specs.KernelSteps.{ActsAlone, mounts, aborts}

-- How often replies that were accepted named a node since the mount, and how many lookups of it the requests that were
-- read since then give back.
pub record Tally : Type 0 where
  pub gathered : ℕ
  pub forgotten : ℕ

-- as a mount begins
abbrev pub no_lookups : Tally
no_lookups = record { gathered = 0; forgotten = 0 }

-- How often the bytes of a reply name the node, by what awaits them.
abbrev pub times_said : ℕ → List ℕ → Awaited → ℕ
times_said id bytes nothing_awaited = 0
times_said id bytes (reply_to opcode) = times_named id (said_in opcode bytes)

-- A count, where the reply is accepted; any other reply counts nothing.
abbrev pub where_accepted : WriteResult → ℕ → ℕ
where_accepted Accepted n = n
where_accepted NoEntry n = 0
where_accepted Invalid n = 0

-- The tally once bytes are written as a reply, which may end the mount.
abbrev pub tally_written : ℕ → (old : Kernel) → List ℕ → WriteResult → (new : Kernel) → Tally → Tally
tally_written id old bytes result new tally = cond (is_live new.phase) (record tally {
  gathered = tally.gathered + where_accepted result (times_said id bytes (awaited old (head_unique bytes)));
}) no_lookups

-- The tally once the kernel does something without its server: a mount and an abort begin it anew.
abbrev pub tally_alone : {old new : Kernel} → ActsAlone old new → Tally → Tally
tally_alone (mounts may) tally = no_lookups
tally_alone (aborts may) tally = no_lookups
tally_alone acts tally = tally

-- The tally after a step: what is read is forgotten, as often as it says.
abbrev pub tally_at : ℕ → {old : Driven} {log : List Transfer} {new : Driven} → DriveStep old log new → Tally → Tally
tally_at id (alone new acts) tally = tally_alone acts tally
tally_at id (reads idle pick may request is) tally = record tally {
  forgotten = tally.forgotten + forgotten id (forgets_of request.body);
}
tally_at id {old = old} (answers request error turn bytes written result new taken) tally =
    tally_written id old.kernel bytes result new tally
tally_at id {old = old} (writes idles frame rest there handed on result new taken went next_own left turn behind) tally =
    tally_written id old.kernel handed result new tally
tally_at id step tally = tally

-- The tally of a node in a run that begins with none.
abbrev pub tally_of : ℕ → {old : Driven} {log : List Transfer} {new : Driven} → Drives old log new → Tally
tally_of id nothing = no_lookups
tally_of id (next before mid run log new step) = tally_at id step (tally_of id run)

-- What was gathered of a node is what the kernel counts, what it has to forget and what it forgot: never more is
-- forgotten, and all of it once the kernel counts none and has none to forget.
pub record ForgottenAsGathered (id : ℕ) (k : Kernel) (tally : Tally) : Type 0 where
  pub balance : counted (get k.nodes id) + forgotten id k.queues.forgets + tally.forgotten ≡ tally.gathered
  pub never_more : tally.forgotten ≤ tally.gathered
  pub in_the_end : get k.nodes id ≡ None → forgotten id k.queues.forgets ≡ 0 → tally.forgotten ≡ tally.gathered
