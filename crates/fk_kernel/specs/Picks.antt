-- What is read from the kernel: why it cannot be read, its frame, and what becomes of the queues.
use Rattle.std.specs.Prelude.{Option}
use Rattle.fuse_spec.specs.Kernel.Kernel.{Kernel}
use Rattle.fuse_spec.specs.Kernel.Messages.{Request}
use Rattle.fuse_spec.specs.Kernel.Queues.{QueueState}
use Rattle.fuse_spec.specs.Kernel.QueueCalls.{after_read_interrupt, after_read_forgets, after_read_pending}
use Rattle.fuse_spec.specs.declared.Purpose.{Purpose}
use Rattle.fuse_spec.specs.declared.Refusal.{Refusal}
use Rattle.fk_kernel.specs.Refused.{read_interrupt_refusal, read_forgets_refusal, read_refusal, IsInterruptFrame, IsForgetFrame, IsPendingRequest}
use Rattle.fk_kernel.specs.declared.read.Pick.{Pick}
use Rattle.fk_kernel.specs.declared.read.Pick.TheVariants.{Interrupt, Forgets, Pending}

-- why it cannot be read
abbrev pub pick_refusal : Kernel → Pick → Option Refusal
pick_refusal k Interrupt = read_interrupt_refusal k
pick_refusal k (Forgets count) = read_forgets_refusal k count
pick_refusal k (Pending place) = read_refusal k place

-- its frame
abbrev pub IsPicked : Kernel → Pick → Request → Type 0
IsPicked k Interrupt frame = IsInterruptFrame k frame
IsPicked k (Forgets count) frame = IsForgetFrame k count frame
IsPicked k (Pending place) frame = IsPendingRequest k place frame

-- the queues once it is read
abbrev pub after_pick : QueueState Purpose → Pick → QueueState Purpose
after_pick queues Interrupt = after_read_interrupt queues
after_pick queues (Forgets count) = after_read_forgets queues count
after_pick queues (Pending place) = after_read_pending queues place
