use Rattle.std.proofs.Common.{◌≡◌, ◌+◌, List, drop, get_or, length, arith, ap}
use Rattle.std.proofs.lemmas.List.{length-drop}
use Rattle.fk_wire.specs.Dirents.{DirentContent}
use Rattle.fk_wire.specs.Entries.{entry_content}
use Rattle.fuse_frames.specs.ReplyTies.{AreWritten}
use Rattle.fuse_frames.proofs.LeftListing.{all_left, at_end, at_place, is_split, no_entry, one_less, shares}
use Rattle.fuse_frames.proofs.listing.put_listing.Goals as goal

pub entries-init : goal.entries-init
entries-init g c = (
  c.requires.room,
  λ ds are together. all_left c.args.found_ms c.args.entries.now ds c.args.records.now c.args.out.now.items are together,
)

pub split_record-requires : goal.split_record-requires
split_record-requires g c =
    let es = c.args.entries.now in
    let at = c.entries.entry-index in
    let some : (ds : List DirentContent) × AreWritten ds c.args.records.now × (length es ≡ length ds) = c.requires.written in
    is_split _ _ _ _ _ (get_or es at no_entry) (drop (at + 1) es)
    (at_place _ _ _ _ _ es at (c.entries.invariant.1 some.0 some.1 some.2) c.entries-test.true)

pub entries-preserved : goal.entries-preserved
entries-preserved g c =
    let es = c.args.entries.now in
    let at = c.entries.entry-index in
    let record' = c.split_record.result.0.now in
    let others = c.split_record.result.1.now in
    let before = λ (ds : List DirentContent) (are : AreWritten ds c.args.records.now) (together : length es ≡ length ds).
    at_place _ _ _ _ _ es at (c.entries.invariant.1 ds are together) c.entries-test.true in
    let some : (ds : List DirentContent) × AreWritten ds c.args.records.now × (length es ≡ length ds) = c.requires.written in
    let share = shares _ _ _ _ _ _ _ (before some.0 some.1 some.2) record' others c.split_record.ensures in (
      omega (
        arith,
        c.entries.invariant.0,
        share,
        length-drop at es,
        length-drop (at + 1) es,
        c.entries-test.true,
        c.put_listed.ensures.len,
        c.put_listed.ensures.capacity,
      ),
      λ ds are together. one_less _ _ _ _ _ _ _ (before ds are together) (entry_content c.entry_of.result) record' others
          c.put_listed.new.out.items c.split_record.ensures (λ d. ap entry_content c.entry_of.ensures)
          c.put_listed.ensures.items c.put_listed.ensures.fits,
    )

pub returns-clause-items : goal.returns-clause-items
returns-clause-items g c ds are together = (at_end _ _ _ _ _ c.args.entries.now c.entries.entry-index
    (c.entries.invariant.1 ds are together) c.entries-test.false).0

pub returns-clause-fits : goal.returns-clause-fits
returns-clause-fits g c ds are together = (at_end _ _ _ _ _ c.args.entries.now c.entries.entry-index
    (c.entries.invariant.1 ds are together) c.entries-test.false).1
