use Rattle.std.proofs.Common.{◌≡◌, Option, Some, None, cond, ◌++◌, List, [], ◌∷◌, All, length, map, ap, subst, ◌∙◌, arith}
use Rattle.std.proofs.lemmas.List.Elements.{All-head, All-tail}
use Rattle.fk_wire.specs.Dirents.{DirentContent}
use Rattle.fk_wire.specs.Records.{records_in, dirent_content}
use Rattle.fuse_spec.specs.Files.Operations.{Dirent, files_listed}
use Rattle.fuse_spec.specs.declared.Entry.{Entry}
use Rattle.fuse_frames.specs.ReplyTies.{dirent_read}
use Rattle.fs_files.specs.Listed.{listed_in}
use Rattle.fs_files.specs.Replies.{IsListable}
use Rattle.fs_files.specs.Numbering.{entries_named, entry_named}
use Rattle.fuse_spec.specs.Files.Operations.{first_listed}
use Rattle.fuse_spec.specs.Calls.Paths.{is_dots}
use Rattle.fs_files.proofs.EntriesPut.{one_longer, one_on, files_longer, files_on}
use Rattle.fs_files.proofs.files.Files.put_entries.Goals as goal

pub records-init : goal.records-init
records-init g c =
    let tree = c.args.self.now.tree in
    let nodes = c.args.self.now.nodes in
    let names = listed_in c.args.records in
    let none : length c.args.entries.now.items ≡ 0 = ap (λ (es : List Entry). length es) c.requires.none in
    let no_file_entries : length c.args.file_entries.now.items ≡ 0 = ap (λ (es : List Entry). length es) c.requires.no_file_entries in
    let room = c.requires.room in
    let file_room = c.requires.file_room in
    rw c.into_iter-record-iterator.ensures.into_iter_gives (
      tt,
      tt,
      c.requires.listable,
      ap (λ (es : List Entry). es ++ map (entry_named tree nodes) names) c.requires.none,
      ap (λ (es : List Entry). es ++ files_listed (entries_named tree nodes names)) c.requires.no_file_entries,
      omega (arith, none, room),
      omega (arith, no_file_entries, file_room),
    )

pub overflow_sub-record : goal.overflow_sub-record
overflow_sub-record g c =
    let listable = subst (λ (ds : List DirentContent). All (IsListable c.args.self.now.tree)
    (map dirent_read ds)) c.in-Some.ensures.steps c.records.invariant.2 in
    (All-head (IsListable c.args.self.now.tree) (dirent_read (dirent_content c.in-Some.record))
    (map dirent_read (records_in c.next.new.self)) listable).0

pub entry_of-entry-requires : goal.entry_of-entry-requires
entry_of-entry-requires g c =
    let listable = subst (λ (ds : List DirentContent). All (IsListable c.args.self.now.tree)
    (map dirent_read ds)) c.in-Some.ensures.steps c.records.invariant.2 in
    (All-head (IsListable c.args.self.now.tree) (dirent_read (dirent_content c.in-Some.record))
    (map dirent_read (records_in c.next.new.self)) listable).1

pub records-preserved : goal.records-preserved
records-preserved g c =
    let tree = c.args.self.now.tree in
    let nodes = c.args.self.now.nodes in
    let d : Dirent = dirent_read (dirent_content c.in-Some.record) in
    let ds : List Dirent = map dirent_read (records_in c.next.new.self) in
    let first : map dirent_read (records_in c.records.record-iterator) ≡ d ∷ ds =
    ap (λ (xs : List DirentContent). map dirent_read xs) c.in-Some.ensures.steps in
    let many : length (map dirent_read (records_in c.records.record-iterator)) ≡ length (d ∷ ds) =
    ap (λ (xs : List Dirent). length xs) first in
    let es : List Entry = c.records.entries.items in
    let ts : List Entry = c.records.file_entries.items in
    let e : Entry = c.entry_of-entry.result in
    let is : e ≡ entry_named tree nodes d = c.entry_of-entry.ensures in
    let o : Option Entry = cond (is_dots d.name) None (Some e) in
    let rest : List Entry = files_listed (entries_named tree nodes ds) in
    let whole : List Entry = map (entry_named tree nodes) (listed_in c.args.records) in
    let all_files : List Entry = files_listed (entries_named tree nodes (listed_in c.args.records)) in
    let items : es ++ map (entry_named tree nodes) (d ∷ ds) ≡ whole =
    subst (λ (xs : List Dirent). es ++ map (entry_named tree nodes) xs ≡ whole) first c.records.invariant.3 in
    let file_entries : ts ++ files_listed (entries_named tree nodes (d ∷ ds)) ≡ all_files =
    subst (λ (xs : List Dirent). ts ++ files_listed (entries_named tree nodes xs)
    ≡ all_files) first c.records.invariant.4 in
    let put : c.push_reserved.new.self.items ≡ es ++ e ∷ [] = c.push_reserved.ensures.items in
    let file_put : c.put_file_entry.new.file_entries.items ≡ ts ++ first_listed o [] = c.put_file_entry.ensures.items in
    let put_len : length c.push_reserved.new.self.items ≡ length (es ++ e ∷ []) =
    ap (λ (xs : List Entry). length xs) put in
    let files_len : length c.put_file_entry.new.file_entries.items ≡ length (ts ++ first_listed o []) =
    ap (λ (xs : List Entry). length xs) file_put in
    let longer = one_longer es e in
    let longer_files = files_longer ts o in
    let room = c.records.invariant.5 in
    let file_room = c.records.invariant.6 in
    let capacity = c.push_reserved.ensures.capacity in
    let files_capacity = c.put_file_entry.ensures.capacity in (
      tt,
      tt,
      All-tail (IsListable tree) d ds (subst (λ (xs : List Dirent). All
          (IsListable tree) xs) first c.records.invariant.2),
      ap (λ (xs : List Entry). xs ++ map (entry_named tree nodes) ds) put ∙ one_on es e
          (map (entry_named tree nodes) ds) ∙ ap (λ (x : Entry). es ++ x ∷ map (entry_named tree nodes) ds) is ∙ items,
      ap (λ (xs : List Entry). xs ++ rest) file_put ∙ files_on ts o rest ∙ ap
          (λ (x : Entry). ts ++ first_listed (cond (is_dots d.name) None (Some x)) rest) is ∙ file_entries,
      omega (arith, many, put_len, longer, room, capacity),
      omega (arith, many, files_len, longer_files, file_room, files_capacity),
    )
