use Rattle.std.proofs.Common.{◌≡◌, ℕ, ◌+◌, ◌-◌, ◌<◌, ◌≤◌, ◌++◌, ◌∙◌, ap, sym, List, Option, Result, Ok, Err, length, take}
use Rattle.std.specs.Prelude.{IfOk}
use Rattle.std.specs.Io.KnownBytes.{Consumes}
use Rattle.std.proofs.Math.Seq.{take-append-add}
use Rattle.std.proofs.lemmas.List.{take-append-le, length-take-le}
use borrow.Rule.Slice.PartMut.{put_mid, post_of}
use Rattle.fuse_device.proofs.stream.read_at.Goals as goal

-- what is read behind the front stands behind it
front_grown : (n at k : ℕ) (room part : List ℕ) → at ≤ length room → n ≤ length part
    → take (at + n) (put_mid at k room part) ≡ take at room ++ take n part
front_grown n at k room part within count =
    ap (λ (m : ℕ). take (m + n) (put_mid at k room part)) (sym (length-take-le at room within))
    ∙ take-append-add (take at room) (part ++ post_of at k room) n
    ∙ ap (λ (l : List ℕ). take at room ++ l) (take-append-le n part (post_of at k room) count)

part_read : {E : Type 0} (r : Result ℕ E) (at k : ℕ) (room part : List ℕ) (before now : Option (List ℕ)) → at ≤ length room
    → IfOk r (λ n. n ≤ length part) → IfOk r (λ n. Consumes before now (take n part))
    → IfOk r (λ n. (bytes : List ℕ) × (take (at + n) (put_mid at k room part) ≡ take at room ++ bytes)
    × Consumes before now bytes)
part_read (Err e) at k room part before now within count read = tt
part_read (Ok n) at k room part before now within count read = (take n part, front_grown n at k room part within count, read)

within_room : {E : Type 0} (r : Result ℕ E) (m : ℕ) → IfOk r (λ n. (0 < n) × (n ≤ m)) → IfOk r (λ n. n ≤ m)
within_room (Err e) m h = tt
within_room (Ok n) m (some, within) = within

pub returns-clause-bytes : goal.returns-clause-bytes
returns-clause-bytes g c =
    part_read c.read_some.result c.args.at (length c.args.room.now - c.args.at) c.args.room.now c.read_some.new.room
    (g.R.Read.remaining c.args.from.now) (g.R.Read.remaining c.read_some.new.from) c.requires
    (within_room c.read_some.result (length c.read_some.new.room) c.read_some.ensures.count) c.read_some.ensures.bytes
