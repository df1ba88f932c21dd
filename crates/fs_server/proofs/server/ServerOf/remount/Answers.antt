use Rattle.std.proofs.Common.{refl}
use Rattle.fuse_spec.specs.declared.Validity.{Validity}
use Rattle.fs_files.specs.Values.{FilesState}
use Rattle.fs_server.proofs.GivenBack.{remounts}
use Rattle.fs_server.proofs.Stays.{cleared, first_again}
use Rattle.fs_server.proofs.server.ServerOf.remount.Goals as goal

pub invariant_of-self : goal.invariant_of-self
invariant_of-self g c =
    let s = c.self.inside in
    let v : Validity = record { found_ms = c.args.found_ms; missing_ms = c.args.missing_ms } in
    let clear = cleared s.files s.held.entries s.kept.entries s.copies.entries s.next_copy s.validity c.self.invariant c.clear.new.self c.clear.ensures.nodes c.clear.ensures.handles c.clear.ensures.named in
    rw (c.clear-2.ensures.entries, c.clear-3.ensures.entries, c.clear-4.ensures.entries)
    (first_again c.clear.new.self s.next_copy s.validity v clear.below clear.used clear.named clear.numbers c.requires.found c.requires.missing)

pub returns : goal.returns
returns g c =
    let s = c.self.inside in
    let v : Validity = record { found_ms = c.args.found_ms; missing_ms = c.args.missing_ms } in
    let mid : FilesState = record c.clear.new.self { tree = s.files.tree } in
    rw (← c.self.view_is, c.clear-2.ensures.entries, c.clear-3.ensures.entries, c.clear-4.ensures.entries)
    (remounts s.files c.clear.new.self s.held.entries s.kept.entries s.copies.entries s.next_copy s.validity s.minor s.is_aborted mid v c.args.minor refl c.clear.ensures.nodes c.clear.ensures.handles (record { tree = c.clear.ensures.tree; nodes = refl; handles = refl }))
