use Rattle.std.proofs.Common.{◌≡◌, ◌-◌, ◌++◌, List, [], ◌∷◌, length, map, refl, sym, ap, subst, ◌∙◌, arith, true≢false}
use Rattle.fuse_spec.specs.declared.Entry.{Entry}
use Rattle.fs_files.specs.Numbering.{GivesEntry, entries_named, entry_named}
use Rattle.fs_files.proofs.EntriesPut.{one_longer}
use Rattle.fs_files.proofs.EntriesStay.{WillBePut, all_put, next_put, none_put}
use Rattle.fuse_spec.specs.Files.Operations.{Dirent, files_listed}
use Rattle.fuse_spec.specs.Files.Trees.{Tree}
use Rattle.fk_wire.specs.Dirents.{DirentContent}
use Rattle.fk_wire.specs.Records.{dirent_content}
use Rattle.fuse_frames.specs.ReplyTies.{dirent_read}
use Rattle.fs_files.specs.Bounds.{IsThere}
use Rattle.fs_files.specs.Listed.{listed_in, pair_listed}
use Rattle.fs_files.proofs.NumberedNames.{StillToGive, next_counted, first_to_give, next_generations, next_listable, given_next, next_room}
use Rattle.fs_files.proofs.files.Files.give_records.Goals as goal

pub records-init : goal.records-init
records-init g c =
    let s = c.args.self.now in
    let names = listed_in c.args.records in
    let none : length c.args.entries.now.items ≡ 0 = ap (λ (es : List Entry). length es) c.requires.none in
    let no_files : length c.args.file_entries.now.items ≡ 0 = ap (λ (es : List Entry). length es) c.requires.no_file_entries in
    rw c.into_iter-record-iterator.ensures.into_iter_gives (
      tt,
      tt,
      first_to_give s.tree s.nodes s.node_room names
          c.requires.listable c.requires.few c.requires.room c.requires.generations c.requires.counted,
      refl,
      refl,
      (λ _. none_put s.tree s.nodes names c.args.entries.now.items c.args.file_entries.now.items c.requires.none
          c.requires.no_file_entries),
      omega (arith, none, c.requires.entry_room),
      omega (arith, no_files, c.requires.file_room),
      omega arith,
      omega arith,
    )

pub overflow_sub-record : goal.overflow_sub-record
overflow_sub-record g c =
    let old = c.args.self.now in
    let now = c.records.self in
    let all = files_listed (map (pair_listed 0) (listed_in c.args.records)) in
    let d : Dirent = dirent_read (dirent_content c.in-Some.record) in
    let ds : List Dirent = listed_in c.next.new.self in
    let still : StillToGive old.tree old.nodes all now.nodes now.node_room (d ∷ ds) =
    subst (λ (xs : List DirentContent). StillToGive old.tree old.nodes all now.nodes now.node_room
    (map dirent_read xs)) c.in-Some.ensures.steps c.records.invariant.2 in
    (next_listable old.tree old.nodes all now.nodes now.node_room d ds still).0

pub give_named-requires-clause-file : goal.give_named-requires-clause-file
give_named-requires-clause-file g c =
    let old = c.args.self.now in
    let now = c.records.self in
    let all = files_listed (map (pair_listed 0) (listed_in c.args.records)) in
    let d : Dirent = dirent_read (dirent_content c.in-Some.record) in
    let ds : List Dirent = listed_in c.next.new.self in
    let still : StillToGive old.tree old.nodes all now.nodes now.node_room (d ∷ ds) =
    subst (λ (xs : List DirentContent). StillToGive old.tree old.nodes all now.nodes now.node_room
    (map dirent_read xs)) c.in-Some.ensures.steps c.records.invariant.2 in
    (next_listable old.tree old.nodes all now.nodes now.node_room d ds still).1

pub give_named-requires-clause-there : goal.give_named-requires-clause-there
give_named-requires-clause-there g c =
    let old = c.args.self.now in
    let now = c.records.self in
    let all = files_listed (map (pair_listed 0) (listed_in c.args.records)) in
    let d : Dirent = dirent_read (dirent_content c.in-Some.record) in
    let ds : List Dirent = listed_in c.next.new.self in
    let still : StillToGive old.tree old.nodes all now.nodes now.node_room (d ∷ ds) =
    subst (λ (xs : List DirentContent). StillToGive old.tree old.nodes all now.nodes now.node_room
    (map dirent_read xs)) c.in-Some.ensures.steps c.records.invariant.2 in
    subst (λ (t : Tree). IsThere t (d.ino - 1)) (sym c.records.invariant.3)
    (next_listable old.tree old.nodes all now.nodes now.node_room d ds still).2

pub give_named-requires-clause-room : goal.give_named-requires-clause-room
give_named-requires-clause-room g c =
    let old = c.args.self.now in
    let now = c.records.self in
    let all = files_listed (map (pair_listed 0) (listed_in c.args.records)) in
    let d : Dirent = dirent_read (dirent_content c.in-Some.record) in
    let ds : List Dirent = listed_in c.next.new.self in
    let still : StillToGive old.tree old.nodes all now.nodes now.node_room (d ∷ ds) =
    subst (λ (xs : List DirentContent). StillToGive old.tree old.nodes all now.nodes now.node_room
    (map dirent_read xs)) c.in-Some.ensures.steps c.records.invariant.2 in
    next_room old.tree old.nodes all now.nodes now.node_room d ds still

pub give_named-requires-clause-generations : goal.give_named-requires-clause-generations
give_named-requires-clause-generations g c =
    let old = c.args.self.now in
    let now = c.records.self in
    let all = files_listed (map (pair_listed 0) (listed_in c.args.records)) in
    let d : Dirent = dirent_read (dirent_content c.in-Some.record) in
    let ds : List Dirent = listed_in c.next.new.self in
    let still : StillToGive old.tree old.nodes all now.nodes now.node_room (d ∷ ds) =
    subst (λ (xs : List DirentContent). StillToGive old.tree old.nodes all now.nodes now.node_room
    (map dirent_read xs)) c.in-Some.ensures.steps c.records.invariant.2 in
    next_generations old.tree old.nodes all now.nodes now.node_room d ds still

pub give_named-requires-clause-counted : goal.give_named-requires-clause-counted
give_named-requires-clause-counted g c =
    let old = c.args.self.now in
    let now = c.records.self in
    let all = files_listed (map (pair_listed 0) (listed_in c.args.records)) in
    let d : Dirent = dirent_read (dirent_content c.in-Some.record) in
    let ds : List Dirent = listed_in c.next.new.self in
    let still : StillToGive old.tree old.nodes all now.nodes now.node_room (d ∷ ds) =
    subst (λ (xs : List DirentContent). StillToGive old.tree old.nodes all now.nodes now.node_room
    (map dirent_read xs)) c.in-Some.ensures.steps c.records.invariant.2 in
    next_counted old.tree old.nodes all now.nodes now.node_room d ds still

pub records-preserved-in-Some-give_named : goal.records-preserved-in-Some-give_named
records-preserved-in-Some-give_named g c =
    let old = c.args.self.now in
    let now = c.records.self in
    let names = listed_in c.args.records in
    let all = files_listed (map (pair_listed 0) names) in
    let d : Dirent = dirent_read (dirent_content c.in-Some.record) in
    let ds : List Dirent = listed_in c.next.new.self in
    let first : listed_in c.records.record-iterator ≡ d ∷ ds =
    ap (λ (xs : List DirentContent). map dirent_read xs) c.in-Some.ensures.steps in
    let still : StillToGive old.tree old.nodes all now.nodes now.node_room (d ∷ ds) =
    subst (λ (xs : List Dirent). StillToGive old.tree old.nodes all now.nodes now.node_room xs) first c.records.invariant.2 in
    let next = c.give_named.new.self in
    let does = c.give_named.ensures in
    let es : List Entry = c.records.entries.items in
    let fs : List Entry = c.records.file_entries.items in
    let e : Entry = c.in-Some-give_named.entry in
    let named = c.in-Some-give_named.ensures.entry in
    let gives : GivesEntry old.tree now.nodes (d.ino - 1) next.nodes e =
    subst (λ (t : Tree). GivesEntry t now.nodes (d.ino - 1) next.nodes e) c.records.invariant.3 named.3 in
    let put : c.push_reserved.new.self.items ≡ es ++ e ∷ [] = c.push_reserved.ensures.items in
    let file_put : c.push_reserved-in-Some-give_named.new.self.items ≡ fs ++ e ∷ [] =
    c.push_reserved-in-Some-give_named.ensures.items in
    let many : length (listed_in c.records.record-iterator) ≡ length (d ∷ ds) = ap (λ (xs : List Dirent). length xs) first in
    let put_len : length c.push_reserved.new.self.items ≡ length (es ++ e ∷ []) = ap (λ (xs : List Entry). length xs) put in
    let files_len : length c.push_reserved-in-Some-give_named.new.self.items ≡ length (fs ++ e ∷ []) =
    ap (λ (xs : List Entry). length xs) file_put in (
      tt,
      tt,
      given_next old.tree old.nodes all now.nodes now.node_room d ds still next.nodes next.node_room does.given does.generations does.room,
      does.tree ∙ c.records.invariant.3,
      does.handles ∙ c.records.invariant.4,
      (λ no_dots.
          subst (λ (xs : List Entry). WillBePut old.tree next.nodes names ds xs
          c.push_reserved-in-Some-give_named.new.self.items) (sym put)
          (subst (λ (xs : List Entry). WillBePut old.tree next.nodes names ds (es ++ e ∷ []) xs) (sym file_put)
          (next_put old.tree now.nodes next.nodes names d ds es fs e named.0 gives named.1 named.2
          (subst (λ (xs : List Dirent). WillBePut old.tree now.nodes names xs es fs) first (c.records.invariant.5 no_dots))))),
      omega (arith, many, put_len, one_longer es e, c.records.invariant.6, c.push_reserved.ensures.capacity),
      omega (
        arith,
        many,
        files_len,
        one_longer fs e,
        c.records.invariant.7,
        c.push_reserved-in-Some-give_named.ensures.capacity,
      ),
      omega (arith, c.records.invariant.8, c.push_reserved.ensures.capacity),
      omega (arith, c.records.invariant.9, c.push_reserved-in-Some-give_named.ensures.capacity),
    )

pub records-preserved : goal.records-preserved
records-preserved g c =
    let old = c.args.self.now in
    let now = c.records.self in
    let all = files_listed (map (pair_listed 0) (listed_in c.args.records)) in
    let d : Dirent = dirent_read (dirent_content c.in-Some.record) in
    let ds : List Dirent = listed_in c.next.new.self in
    let first : listed_in c.records.record-iterator ≡ d ∷ ds =
    ap (λ (xs : List DirentContent). map dirent_read xs) c.in-Some.ensures.steps in
    let still : StillToGive old.tree old.nodes all now.nodes now.node_room (d ∷ ds) =
    subst (λ (xs : List Dirent). StillToGive old.tree old.nodes all now.nodes now.node_room xs) first c.records.invariant.2 in
    let next = c.give_named.new.self in
    let does = c.give_named.ensures in
    let many : length (listed_in c.records.record-iterator) ≡ length (d ∷ ds) = ap (λ (xs : List Dirent). length xs) first in (
      tt,
      tt,
      given_next old.tree old.nodes all now.nodes now.node_room d ds still next.nodes next.node_room does.given does.generations does.room,
      does.tree ∙ c.records.invariant.3,
      does.handles ∙ c.records.invariant.4,
      (λ dots. absurd (true≢false dots)),
      omega (arith, many, c.records.invariant.6),
      omega (arith, many, c.records.invariant.7),
      c.records.invariant.8,
      c.records.invariant.9,
    )

pub returns-clause-given : goal.returns-clause-given
returns-clause-given g c =
    let old = c.args.self.now in
    let now = c.records.self in
    let all = files_listed (map (pair_listed 0) (listed_in c.args.records)) in
    let still : StillToGive old.tree old.nodes all now.nodes now.node_room [] =
    subst (λ (xs : List DirentContent). StillToGive old.tree old.nodes all now.nodes now.node_room
    (map dirent_read xs)) c.in-None.ensures.steps.0 c.records.invariant.2 in
    still.goes now.nodes refl

pub returns-clause-tree : goal.returns-clause-tree
returns-clause-tree g c = c.records.invariant.3

pub returns-clause-handles : goal.returns-clause-handles
returns-clause-handles g c = c.records.invariant.4

pub returns-clause-entries : goal.returns-clause-entries
returns-clause-entries g c no_dots =
    let names = listed_in c.args.records in
    let es = c.records.entries.items in
    let fs = c.records.file_entries.items in
    let none : listed_in c.records.record-iterator ≡ [] =
    ap (λ (xs : List DirentContent). map dirent_read xs) c.in-None.ensures.steps.0 in
    let will = subst (λ (xs : List Dirent). WillBePut c.args.self.now.tree c.records.self.nodes names xs es fs) none
    (c.records.invariant.5 no_dots) in
    subst (λ (t : Tree). es ≡ map (entry_named t c.records.self.nodes) names) (sym c.records.invariant.3)
    (all_put c.args.self.now.tree c.records.self.nodes names es fs will).0

pub returns-clause-file_entries : goal.returns-clause-file_entries
returns-clause-file_entries g c no_dots =
    let names = listed_in c.args.records in
    let es = c.records.entries.items in
    let fs = c.records.file_entries.items in
    let none : listed_in c.records.record-iterator ≡ [] =
    ap (λ (xs : List DirentContent). map dirent_read xs) c.in-None.ensures.steps.0 in
    let will = subst (λ (xs : List Dirent). WillBePut c.args.self.now.tree c.records.self.nodes names xs es fs) none
    (c.records.invariant.5 no_dots) in
    subst (λ (t : Tree). fs ≡ files_listed (entries_named t c.records.self.nodes names)) (sym c.records.invariant.3)
    (all_put c.args.self.now.tree c.records.self.nodes names es fs will).1
