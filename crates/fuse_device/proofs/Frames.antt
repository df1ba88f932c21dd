-- A frame, of the length that it states and what follows.
use Rattle.std.proofs.Common.{◌≡◌, ◌-◌, ◌<◌, ◌≤◌, ◌++◌, ◌∙◌, ℕ, List, length, take, sym, ap, arith, length-append, append_assoc}
use Rattle.std.proofs.lemmas.List.{take_at}
use Rattle.byteorder.specs.Numbers.{little_from-append}
use Rattle.fuse_device.specs.Streamed.{IsWholeFrame, stated_len}
use borrow.Rule.Slice.PartMut.{put_mid, post_of}

stated_len-append : (head rest : List ℕ) → length head ≡ 4 → stated_len (head ++ rest) ≡ stated_len head
stated_len-append head rest four = let h : 4 ≤ length head = omega (arith, four) in little_from-append 4 head rest h

-- the front of a room into which a length and then a body of that length were read
pub frame_read : (head old body : List ℕ) (len : ℕ) → length head ≡ 4 → 4 ≤ len → length body ≡ len - 4
    → take len (put_mid 4 (len - 4) (head ++ old) body) ≡ head ++ body
frame_read head old body len four least is =
    let h : take 4 (head ++ old) ≡ head = take_at head old 4 four in
    let post = post_of 4 (len - 4) (head ++ old) in
    let n : len ≡ length (head ++ body) = omega (arith, length-append head body, four, is) in
    ap (λ (l : List ℕ). take len (l ++ (body ++ post))) h
    ∙ ap (take len) (sym (append_assoc head body post))
    ∙ take_at (head ++ body) post len (sym n)

pub frame_whole : (n : ℕ) (head old body : List ℕ) (len : ℕ) → length head ≡ 4 → len ≡ stated_len (head ++ old) → n ≤ len
    → length body ≡ len - 4 → 4 ≤ len → IsWholeFrame n (head ++ body)
frame_whole n head old body len four is least body_is most =
    let all : len ≡ length (head ++ body) = omega (arith, length-append head body, four, body_is, most) in record {
      header = omega (arith, all, least);
      stated = stated_len-append head body four ∙ sym (stated_len-append head old four) ∙ sym is ∙ all;
    }

-- less than a length and a body is no frame
pub part_no_frame : (n : ℕ) (head old part : List ℕ) (len : ℕ) → length head ≡ 4 → len ≡ stated_len (head ++ old)
    → length part < len - 4 → IsWholeFrame n (head ++ part) → ⊥
part_no_frame n head old part len four is less whole =
    let e : len ≡ length (head ++ part) = is ∙ stated_len-append head old four ∙ sym (stated_len-append head part four) ∙ whole.stated in
    omega (arith, e, length-append head part, four, less)
