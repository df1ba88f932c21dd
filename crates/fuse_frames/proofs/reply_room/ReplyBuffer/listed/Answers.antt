use Rattle.std.proofs.Common.{◌≡◌, ◌+◌, ◌∷◌, ◌++◌, ℕ, List, [], length, refl, ap, arith, ◌∙◌}
use Rattle.fk_wire.specs.Dirents.{DirentContent}
use Rattle.fk_wire.specs.Fields.{spellings, u32, u64}
use Rattle.fk_wire.specs.Replies.{WrittenReply}
use Rattle.fuse_frames.specs.ReplyTies.{AreWritten}
use Rattle.fuse_frames.proofs.WrittenRecords.{names_listing, names_listing_goes, names_listing_exact, names_listing_written}
use Rattle.fuse_frames.proofs.reply_room.ReplyBuffer.listed.Goals as goal

pub listing-requires : goal.listing-requires
listing-requires g c =
    let unique = c.args.unique in
    let records = c.args.records.now in
    let ds : List DirentContent = c.requires.written.0 in
    let are : AreWritten ds records = c.requires.written.1 in
    let first : c.put_listing_head.new.out.items ≡ spellings (u32 (16 + length records) ∷ u32 0 ∷ u64 unique ∷ []) =
    c.put_listing_head.ensures.items ∙ ap (λ (x : List ℕ). x
    ++ spellings (u32 (16 + length records) ∷ u32 0 ∷ u64 unique ∷ [])) c.self.invariant.0 in
    let whole : c.extend_from_slice.new.self.items ≡ c.put_listing_head.new.out.items ++ records = grind arith in
    let written : WrittenReply (names_listing unique ds) c.extend_from_slice.new.self.items =
    names_listing_written unique ds records c.put_listing_head.new.out.items c.extend_from_slice.new.self.items are
    (omega (arith, c.requires.most)) (omega (arith, c.ranges.unique.fits)) first whole in (
      names_listing unique ds,
      names_listing_goes unique ds,
      written,
      names_listing_exact unique ds records are,
      refl,
    )

pub returns : goal.returns
returns g c ds are =
    let unique = c.args.unique in
    let records = c.args.records.now in
    let first : c.put_listing_head.new.out.items ≡ spellings (u32 (16 + length records) ∷ u32 0 ∷ u64 unique ∷ []) =
    c.put_listing_head.ensures.items ∙ ap (λ (x : List ℕ). x
    ++ spellings (u32 (16 + length records) ∷ u32 0 ∷ u64 unique ∷ [])) c.self.invariant.0 in
    let whole : c.extend_from_slice.new.self.items ≡ c.put_listing_head.new.out.items ++ records = grind arith in
    let written : WrittenReply (names_listing unique ds) c.extend_from_slice.new.self.items =
    names_listing_written unique ds records c.put_listing_head.new.out.items c.extend_from_slice.new.self.items are
    (omega (arith, c.requires.most)) (omega (arith, c.ranges.unique.fits)) first whole in
    c.listing.ensures (names_listing unique ds) (names_listing_goes unique ds) written
