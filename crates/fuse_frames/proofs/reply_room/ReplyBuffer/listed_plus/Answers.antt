use Rattle.std.proofs.Common.{◌≡◌, ◌+◌, ◌*◌, ◌∷◌, ◌++◌, ◌∙◌, ℕ, List, [], length, refl, ap, arith}
use Rattle.fk_wire.specs.Dirents.{DirentContent, direntpluses}
use Rattle.fk_wire.specs.Fields.{sizes, spellings, u32, u64}
use Rattle.fk_wire.specs.Replies.{WrittenReply}
use Rattle.fuse_spec.specs.Files.Operations as reply
use Rattle.fuse_spec.specs.Files.Operations.{DirentPlus}
use Rattle.fuse_spec.specs.declared.Entry.{Entry}
use Rattle.fuse_frames.specs.ReplyTies.{AreWritten, pairs_listed}
use Rattle.fuse_frames.proofs.ListedPairs.{listing, listing_goes, listing_exact, listing_written, listed_entries, listed_names, listed_sizes, pairs_say}
use Rattle.fuse_frames.proofs.WrittenRecords.{written_sizes}
use Rattle.fuse_frames.proofs.reply_room.ReplyBuffer.listed_plus.Goals as goal

pub listing-requires : goal.listing-requires
listing-requires g c =
    let unique = c.args.unique in
    let es : List Entry = c.args.entries.now in
    let some : (ds : List DirentContent) × AreWritten ds c.args.records.now × (length es ≡ length ds) = c.requires.written in
    let ds = some.0 in
    let are = some.1 in
    let ps = pairs_listed c.args.found_ms es ds in
    let size : ℕ = 128 * length es + length c.args.records.now in
    let total : sizes (direntpluses ps) ≡ size = omega
    (arith, listed_sizes c.args.found_ms es ds some.2, written_sizes ds c.args.records.now are) in
    let first : c.put_listing_head.new.out.items ≡ spellings (u32 (16 + size) ∷ u32 0 ∷ u64 unique ∷ []) =
    c.put_listing_head.ensures.items ∙ ap (λ (x : List ℕ). x
    ++ spellings (u32 (16 + size) ∷ u32 0 ∷ u64 unique ∷ [])) c.self.invariant.0 in
    let written : WrittenReply (listing unique ps) c.put_listing.new.out.items =
    listing_written unique size ps c.put_listing_head.new.out.items c.put_listing.new.out.items total
    (omega (arith, c.requires.most)) (omega (arith, c.ranges.unique.fits))
    (listed_entries c.args.found_ms es ds) (listed_names c.args.found_ms es ds are.named)
    (c.put_listing.ensures.fits ds are some.2) first (c.put_listing.ensures.items ds are some.2) in (
      listing unique ps,
      listing_goes unique ps,
      written,
      listing_exact unique c.args.found_ms es ds c.requires.valid are.typed,
      refl,
    )

pub returns : goal.returns
returns g c ds are together =
    let unique = c.args.unique in
    let es : List Entry = c.args.entries.now in
    let ps = pairs_listed c.args.found_ms es ds in
    let size : ℕ = 128 * length es + length c.args.records.now in
    let total : sizes (direntpluses ps) ≡ size = omega
    (arith, listed_sizes c.args.found_ms es ds together, written_sizes ds c.args.records.now are) in
    let first : c.put_listing_head.new.out.items ≡ spellings (u32 (16 + size) ∷ u32 0 ∷ u64 unique ∷ []) =
    c.put_listing_head.ensures.items ∙ ap (λ (x : List ℕ). x
    ++ spellings (u32 (16 + size) ∷ u32 0 ∷ u64 unique ∷ [])) c.self.invariant.0 in
    let written : WrittenReply (listing unique ps) c.put_listing.new.out.items =
    listing_written unique size ps c.put_listing_head.new.out.items c.put_listing.new.out.items total
    (omega (arith, c.requires.most)) (omega (arith, c.ranges.unique.fits))
    (listed_entries c.args.found_ms es ds) (listed_names c.args.found_ms es ds are.named)
    (c.put_listing.ensures.fits ds are together) first (c.put_listing.ensures.items ds are together) in
    c.listing.ensures (listing unique ps) (listing_goes unique ps) written
    ∙ ap (λ (pairs : List (DirentPlus Entry)). record { unique = unique; wire = reply.listed_plus pairs })
    (pairs_say c.args.found_ms es ds c.requires.valid)
