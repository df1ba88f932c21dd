use Rattle.std.proofs.Common.{◌≡◌, ◌≤◌, List, length, map, sym, subst, ap, arith}
use Rattle.std.specs.Prelude.{All}
use Rattle.fuse_spec.specs.Values.Numbers.{counter_end}
use Rattle.fuse_spec.specs.Files.Operations.{Dirent, files_listed}
use Rattle.fk_wire.specs.Dirents.{DirentContent}
use Rattle.fuse_frames.specs.ReplyTies.{dirent_read}
use Rattle.fs_files.specs.Giving.{generations_after}
use Rattle.fs_files.specs.Listed.{dirents_in_bytes, listed_in, pair_listed}
use Rattle.fs_files.specs.Replies.{IsListable}
use Rattle.fs_files.proofs.NumberedList.{one_a_record, one_each, file_entries_so}
use Rattle.fs_files.proofs.files.Files.list.Goals as goal

pub give_listed-requires-clause-listable : goal.give_listed-requires-clause-listable
give_listed-requires-clause-listable g c =
    let names : listed_in c.records_of-listed.result ≡ dirents_in_bytes c.args.records.items =
    ap (λ (ds : List DirentContent). map dirent_read ds) (rw c.deref.ensures.value at c.records_of-listed.ensures) in
    subst (λ (ds : List Dirent). All (IsListable c.args.self.now.tree) ds) (sym names) c.requires.listable.2

pub give_listed-requires-clause-few : goal.give_listed-requires-clause-few
give_listed-requires-clause-few g c =
    let names : listed_in c.records_of-listed.result ≡ dirents_in_bytes c.args.records.items =
    ap (λ (ds : List DirentContent). map dirent_read ds) (rw c.deref.ensures.value at c.records_of-listed.ensures) in
    let count : length (listed_in c.records_of-listed.result) ≡ length (dirents_in_bytes c.args.records.items) =
    ap (λ (ds : List Dirent). length ds) names in
    let most = c.requires.listable.1 in
    omega (arith, count, most)

pub give_listed-requires-clause-room : goal.give_listed-requires-clause-room
give_listed-requires-clause-room g c =
    let names : listed_in c.records_of-listed.result ≡ dirents_in_bytes c.args.records.items =
    ap (λ (ds : List DirentContent). map dirent_read ds) (rw c.deref.ensures.value at c.records_of-listed.ensures) in
    subst (λ (ds : List Dirent). length ds ≤ c.args.self.now.node_room) (sym names) c.requires.room

pub give_listed-requires-clause-generations : goal.give_listed-requires-clause-generations
give_listed-requires-clause-generations g c =
    let names : listed_in c.records_of-listed.result ≡ dirents_in_bytes c.args.records.items =
    ap (λ (ds : List DirentContent). map dirent_read ds) (rw c.deref.ensures.value at c.records_of-listed.ensures) in
    subst (λ (ds : List Dirent). generations_after c.args.self.now.nodes
    (files_listed (map (pair_listed 0) ds)) ≤ counter_end) (sym names) c.requires.generations

pub invariant_of-result : goal.invariant_of-result
invariant_of-result g c =
    let s = c.give_listed.new.self in
    let bytes = c.args.records.items in
    let put = c.give_listed.new in
    let names : listed_in c.records_of-listed.result ≡ dirents_in_bytes bytes =
    ap (λ (ds : List DirentContent). map dirent_read ds) (rw c.deref.ensures.value at c.records_of-listed.ensures) in
    let each = one_each s.tree s.nodes bytes (listed_in c.records_of-listed.result) names put.entries.items c.give_listed.ensures.entries in
    let most = c.requires.listable.1 in
    record {
      are_records = c.requires.listable.0;
      together = one_a_record s.tree s.nodes bytes (listed_in c.records_of-listed.result) names put.entries.items c.give_listed.ensures.entries;
      most = omega (arith, each, most);
      are_of_files = file_entries_so s.tree s.nodes bytes (listed_in c.records_of-listed.result) names put.entries.items c.give_listed.ensures.entries c.lemma_sound.ensures c.args.found_ms put.file_entries.items c.give_listed.ensures.file_entries;
      day = c.requires.day;
    }
