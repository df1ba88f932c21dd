use Rattle.std.proofs.Common.{◌≡◌, List, length, ap, arith}
use Rattle.fuse_spec.specs.Files.Operations.{files_listed}
use Rattle.fuse_spec.specs.declared.Entry.{Entry}
use Rattle.fs_files.specs.Listed.{listed_pairs, dirents_in_bytes}
use Rattle.fs_files.proofs.FilesListed.{few_files}
use Rattle.fs_files.proofs.listed_names.ListedNames.copied.Goals as goal

pub unwrap-requires-3 : goal.unwrap-requires-3
unwrap-requires-3 g c =
    let self = c.args.self.now in
    let few = few_files self.found_ms self.entries.items (dirents_in_bytes self.records.items) in
    let file_entries : length self.file_entries.items ≡ length (files_listed
    (listed_pairs self.found_ms self.entries.items self.records.items)) =
    ap (λ (es : List Entry). length es) self.are_of_files in
    let value : length c.deref-3.result.now ≡ length self.file_entries.items =
    ap (λ (es : List Entry). length es) c.deref-3.ensures.value in
    let none : length c.args.spare.file_entries.items ≡ 0 = ap (λ (es : List Entry). length es) c.requires.no_file_entries in
    let room = c.requires.file_entries in
    c.extend_from_slice-3.ensures.succeeds (omega (arith, few, file_entries, value, none, room))
