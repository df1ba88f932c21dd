use Rattle.std.proofs.Common.{◌≡◌, ◌≤◌, ◌+◌, ◌*◌, ◌++◌, List, drop, length, vec_len, vec_capacity}
use Rattle.fk_wire.specs.Dirents.{DirentContent, direntpluses}
use Rattle.fk_wire.specs.Fields.{InRange, spellings}
use Rattle.fuse_frames.specs.ReplyTies.{AreWritten, pairs_listed}
use Rattle.fuse_frames.proofs.LeftListing.{IsLeft}
use Rattle.fuse_frames.proofs.listing.put_listing.Given as goal

abbrev pub invariant-entries : goal.invariant-entries
invariant-entries g l =
    (vec_len l.out + (128 * length (drop l.entry-index l.entries) + length l.left) ≤ vec_capacity l.out)
    × ((ds : List DirentContent) → AreWritten ds l.fn.records → length l.fn.entries ≡ length ds
    → IsLeft l.fn.found_ms (drop l.entry-index l.entries) l.left l.out.items (l.fn.out.items
    ++ spellings (direntpluses (pairs_listed l.fn.found_ms l.fn.entries ds)))
    (InRange (direntpluses (pairs_listed l.fn.found_ms l.fn.entries ds))))
