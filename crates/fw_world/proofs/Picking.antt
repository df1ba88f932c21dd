-- Why a request that is picked is not read.
use Rattle.std.proofs.Common.{◌≡◌, false, None, Some}
use Rattle.fuse_spec.specs.declared.Refusal.{Refusal}
use Rattle.fuse_spec.specs.declared.Refusal.TheVariants.{NoMemory}
use Rattle.fuse_spec.specs.World.Steps.{IsRefused, RefusedWith, is_past}
use Rattle.fuse_spec.specs.World.Worlds.{World}
use Rattle.fk_kernel.specs.Picks.{pick_refusal}
use Rattle.fk_kernel.specs.declared.read.Pick.{Pick}
use Rattle.fk_kernel.specs.declared.read.Pick.TheVariants as pick
use Rattle.fw_world.specs.Values.{read_of}
use Rattle.fw_world.proofs.Interrupts.{read_interrupt_refused}
use Rattle.fw_world.proofs.MemoryRefusals.{forgets_out_of_memory, interrupt_out_of_memory, read_out_of_memory}
use Rattle.fw_world.proofs.Refusing.{forgets_refused, read_refused}

pub pick_refused : (w : World) (pick : Pick) (r : Refusal) → pick_refusal w.kernel pick ≡ Some r
    → IsRefused w (read_of pick) r
pick_refused w pick.Interrupt = read_interrupt_refused w
pick_refused w (pick.Forgets count) = forgets_refused w count
pick_refused w (pick.Pending place) = read_refused w place

pub pick_out_of_memory : (w : World) → is_past w ≡ false → (pick : Pick) → pick_refusal w.kernel pick ≡ None
    → (given : Refusal) → given ≡ NoMemory → RefusedWith w (read_of pick) given
pick_out_of_memory w within pick.Interrupt = interrupt_out_of_memory w within
pick_out_of_memory w within (pick.Forgets count) = forgets_out_of_memory w within count
pick_out_of_memory w within (pick.Pending place) = read_out_of_memory w within place
