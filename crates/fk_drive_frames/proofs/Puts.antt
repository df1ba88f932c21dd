-- A number that is put into a frame.
use Rattle.std.proofs.Common.{◌≡◌, ℕ, ◌+◌, ◌-◌, ◌≤◌, ◌<◌, ◌^◌, List, ◌++◌, length, take, drop, sym, ap, subst, ◌∙◌, arith, append_assoc, length-drop}
use Rattle.std.proofs.lemmas.List.{drop_at, length-take-le}
use borrow.Rule.Slice.PartMut.{drop_put, mid_of, post_of, put_mid, same_len_mid, take_put}
use Rattle.byteorder.specs.Endian.{little_bytes, little_from}
use Rattle.byteorder.specs.Numbers.{little_number-reads_back}
use Rattle.fk_wire.specs.Fields.{number_at}
use Rattle.fk_drive_frames.specs.Filling.{ChangesOnly}

pub put_only : (at end w : ℕ) (room part : List ℕ) → end ≡ at + w → end ≤ length room → length part ≡ w
    → ChangesOnly at w room (put_mid at (end - at) room part)
put_only at end w room part is within long =
    let count : length (mid_of at (end - at) room) ≡ end - at =
    length-take-le (end - at) (drop at room) (omega (arith, is, within, length-drop at room)) in
    let all : length part ≡ end - at = omega (arith, is, long) in record {
      long = same_len_mid at (end - at) room part (all ∙ sym count);
      before = take_put at (end - at) room part (omega (arith, is, within));
      after = subst (λ (n : ℕ). drop n (put_mid at (end - at) room part) ≡ drop n room) is
          (drop_put at end room part (omega (arith, is)) within all);
    }

pub put_value : (at k w value : ℕ) (room part rest : List ℕ) → at ≤ length room → value < 256 ^ w
    → part ≡ little_bytes w value ++ rest → number_at at w (put_mid at k room part) ≡ value
unfolding number_at
put_value at k w value room part rest within fits is =
    ap (little_from 0 w) (drop_at (take at room) (part ++ post_of at k room) at (length-take-le at room within))
    ∙ ap (λ (l : List ℕ). little_from 0 w (l ++ post_of at k room)) is
    ∙ ap (little_from 0 w) (append_assoc (little_bytes w value) rest (post_of at k room))
    ∙ little_number-reads_back w value (rest ++ post_of at k room) fits
