use Rattle.std.proofs.Common.{refl, length}
use Rattle.fuse_spec.specs.Calls.Begins.{using}
use Rattle.fuse_spec.specs.Values.Maps.{get}
use Rattle.fuse_spec.specs.Files.Operations as op
use Rattle.fk_syscalls.specs.Values.{call_of}
use Rattle.fk_syscalls.proofs.Advances.{first_asks, file_asks}
use Rattle.fk_syscalls.proofs.beginning.begin.Goals as goal

pub returns-in-Stat-clause-out_of_memory : goal.returns-in-Stat-clause-out_of_memory
returns-in-Stat-clause-out_of_memory g c = first_asks c.args.names.now.names c.args.clock c.args.opens.now.entries
    (call_of c.args.call.now) _ (λ vfs. rw c.in-Stat.is refl) c.begin_whole.result c.begin_whole.ensures.out_of_memory

pub returns-in-List-clause-out_of_memory : goal.returns-in-List-clause-out_of_memory
returns-in-List-clause-out_of_memory g c = first_asks c.args.names.now.names c.args.clock c.args.opens.now.entries
    (call_of c.args.call.now) _
    (λ vfs. rw (c.in-List.is, ← c.list_from.ensures.operation) refl) c.begin_whole-in-List.result c.begin_whole-in-List.ensures.out_of_memory

pub returns-in-ListPlus-clause-out_of_memory : goal.returns-in-ListPlus-clause-out_of_memory
returns-in-ListPlus-clause-out_of_memory g c = first_asks c.args.names.now.names c.args.clock c.args.opens.now.entries
    (call_of c.args.call.now) _
    (λ vfs. rw (c.in-ListPlus.is, ← c.list_with_files_from.ensures.operation) refl) c.begin_whole-in-ListPlus.result c.begin_whole-in-ListPlus.ensures.out_of_memory

pub returns-in-Open-clause-out_of_memory : goal.returns-in-Open-clause-out_of_memory
returns-in-Open-clause-out_of_memory g c = first_asks c.args.names.now.names c.args.clock c.args.opens.now.entries
    (call_of c.args.call.now) _
    (λ vfs. rw c.in-Open.is refl) c.begin_whole-in-Open.result c.begin_whole-in-Open.ensures.out_of_memory

pub returns-in-Mkdir-clause-out_of_memory : goal.returns-in-Mkdir-clause-out_of_memory
returns-in-Mkdir-clause-out_of_memory g c = first_asks c.args.names.now.names c.args.clock c.args.opens.now.entries
    (call_of c.args.call.now) _ (λ vfs. rw c.in-Mkdir.is refl) c.begin_change.result c.begin_change.ensures.out_of_memory

pub returns-in-Create-clause-out_of_memory : goal.returns-in-Create-clause-out_of_memory
returns-in-Create-clause-out_of_memory g c = first_asks c.args.names.now.names c.args.clock c.args.opens.now.entries
    (call_of c.args.call.now) _
    (λ vfs. rw c.in-Create.is refl) c.begin_change-in-Create.result c.begin_change-in-Create.ensures.out_of_memory

pub returns-in-Unlink-clause-out_of_memory : goal.returns-in-Unlink-clause-out_of_memory
returns-in-Unlink-clause-out_of_memory g c = first_asks c.args.names.now.names c.args.clock c.args.opens.now.entries
    (call_of c.args.call.now) _
    (λ vfs. rw c.in-Unlink.is refl) c.begin_change-in-Unlink.result c.begin_change-in-Unlink.ensures.out_of_memory

pub returns-in-Rmdir-clause-out_of_memory : goal.returns-in-Rmdir-clause-out_of_memory
returns-in-Rmdir-clause-out_of_memory g c = first_asks c.args.names.now.names c.args.clock c.args.opens.now.entries
    (call_of c.args.call.now) _
    (λ vfs. rw c.in-Rmdir.is refl) c.begin_change-in-Rmdir.result c.begin_change-in-Rmdir.ensures.out_of_memory

pub returns-in-Rename-clause-out_of_memory : goal.returns-in-Rename-clause-out_of_memory
returns-in-Rename-clause-out_of_memory g c = first_asks c.args.names.now.names c.args.clock c.args.opens.now.entries
    (call_of c.args.call.now) _ (λ vfs. rw c.in-Rename.is refl) c.begin_rename.result c.begin_rename.ensures.out_of_memory

pub returns-in-Link-clause-out_of_memory : goal.returns-in-Link-clause-out_of_memory
returns-in-Link-clause-out_of_memory g c = first_asks c.args.names.now.names c.args.clock c.args.opens.now.entries
    (call_of c.args.call.now) _ (λ vfs. rw c.in-Link.is refl) c.begin_link.result c.begin_link.ensures.out_of_memory

pub returns-in-Write-clause-out_of_memory : goal.returns-in-Write-clause-out_of_memory
returns-in-Write-clause-out_of_memory g c = file_asks c.args.names.now.names c.args.clock c.args.opens.now.entries
    (call_of c.args.call.now) (using c.in-Write.open_call
    (get c.args.opens.now.entries c.in-Write.open_call) c.in-Write.offset (length c.in-Write.bytes.now)
    (λ opened. op.write opened c.in-Write.offset c.in-Write.bytes.now))
    (λ vfs opens. rw (c.in-Write.is, opens) refl) c.begin_write.result c.begin_write.ensures.out_of_memory
