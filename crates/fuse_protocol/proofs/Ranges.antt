-- Parts of a frame in which a name is looked for.
use Rattle.std.proofs.Common.{◌≡◌, ◌≢◌, ℕ, suc, ◌+◌, ◌-◌, ◌<◌, ◌≤◌, List, ◌∷◌, ◌++◌, length, take, drop, get_or, true, false, sym, ap, subst, ◌∙◌, length-append, length-drop, add-one, arith}
use Rattle.std.specs.Prelude.{slice_range}
use Rattle.std.proofs.lemmas.List.{drop-drop, get_or-take, get_or-drop, length-take-le}
use Rattle.std.proofs.Math.Seq.{take-add, drop-cons, take-append_seam, get_or-append_seam}
use Rattle.fuse_protocol.specs.Ends.{is_end, HasNoEnd}
use Rattle.fuse_protocol.proofs.Ends.{plain_at}
use Rattle.fuse_protocol.proofs.Splits.{other_end_first}

-- A part is what stands before a place in it, the byte there, and what stands behind.
pub range_split : (bytes : List ℕ) (start end stop : ℕ) → start ≤ end → end < stop → stop ≤ length bytes
    → slice_range bytes start stop ≡ slice_range bytes start end ++ get_or bytes end 0 ∷ slice_range bytes (end + 1) stop
range_split bytes start end stop from inside within =
    let count : stop - start ≡ (end - start) + suc (stop - (end + 1)) = omega (arith, from, inside) in
    let there : start + (end - start) ≡ end = omega (arith, from) in
    let behind : drop (end - start) (drop start bytes) ≡ get_or bytes end 0 ∷ drop (end + 1) bytes =
    drop-drop (end - start) start bytes ∙ ap (λ n. drop n bytes) there ∙ drop-cons bytes end 0 (omega (arith, inside, within))
    ∙ ap (λ n. get_or bytes end 0 ∷ drop n bytes) (sym (add-one end)) in
    ap (λ n. take n (drop start bytes)) count ∙ take-add (end - start) (suc (stop - (end + 1))) (drop start bytes)
    ∙ ap (λ xs. take (end - start) (drop start bytes) ++ take (suc (stop - (end + 1))) xs) behind

-- Where no byte of a part ends a name, none is in the part.
pub none_in_range : (other : ℕ) (bytes : List ℕ) (start stop : ℕ) → start ≤ stop → stop ≤ length bytes
    → ((k : ℕ) → start ≤ k → k < stop → is_end other (get_or bytes k 0) ≡ false)
    → HasNoEnd other (slice_range bytes start stop)
none_in_range other bytes start stop ordered within none = λ k d lt.
    let count : length (take (stop - start) (drop start bytes)) ≡ stop - start =
    length-take-le (stop - start) (drop start bytes) (omega (arith, length-drop start bytes, ordered, within)) in
    let inside : k < stop - start = omega (arith, lt, count) in
    rw (get_or-take (stop - start) (drop start bytes) k d inside) (rw (get_or-drop start bytes k d)
    (plain_at other bytes (start + k) d (omega (arith, inside, within)) (none (start + k) (omega arith) (omega (arith, inside)))))

-- Where a byte other than NUL ends the names first, there is no name.
pub other_first : (other : ℕ) (bytes : List ℕ) (start end stop : ℕ) (name rest : List ℕ) → start ≤ end → end < stop
    → stop ≤ length bytes → HasNoEnd other (slice_range bytes start end) → is_end other (get_or bytes end 0) ≡ true
    → get_or bytes end 0 ≢ 0 → slice_range bytes start stop ≡ name ++ 0 ∷ rest → HasNoEnd other name → ⊥
other_first other bytes start end stop name rest from inside within before ends some e plain =
    let front = slice_range bytes start end in
    let b = get_or bytes end 0 in
    let behind = slice_range bytes (end + 1) stop in
    let seam : get_or (front ++ b ∷ behind) (length front) 0 ≡ b = get_or-append_seam front b behind 0 in
    other_end_first other (front ++ b ∷ behind) (length front) name rest
    (omega (arith, length-append front (b ∷ behind)))
    (subst (HasNoEnd other) (sym (take-append_seam front (b ∷ behind))) before)
    (ap (is_end other) seam ∙ ends)
    (λ z. some (sym seam ∙ z))
    (sym (range_split bytes start end stop from inside within) ∙ e) plain
