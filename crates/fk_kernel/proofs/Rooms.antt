-- Room, counts and times as they follow from one another. They are stated on numbers alone, where little is in scope.
use Rattle.std.proofs.Common.{◌≡◌, ℕ, ◌+◌, ◌-◌, ◌*◌, ◌≤◌, ◌<◌, ◌^◌, min, Option, Some, arith}
use Rattle.fuse_spec.specs.Values.Numbers.{clock_end, counter_end, max_validity}

-- Room that is kept still holds as much.
pub still_room : {n a b : ℕ} → n ≤ a → a ≤ b → n ≤ b
still_room fits kept = omega arith

-- What is queued in room for one more leaves room for the rest.
pub room_left : {n a b : ℕ} → n + 1 ≤ a → a ≤ b + 1 → n ≤ b
room_left fits taken = omega arith

-- Where one fewer fits there is some room.
pub some_room : (n : ℕ) {a b : ℕ} → n + 1 ≤ a → a ≤ b → 0 < b
some_room n fits kept = omega arith

-- There is room for one call more where there is room to answer the most.
pub call_room : {n a : ℕ} → n < 64 → 64 ≤ a → n + 1 ≤ a
call_room few room = omega arith

-- Room to answer the most, of which one place is taken.
pub answer_room : {n a b : ℕ} → n < 64 → 64 ≤ a → a ≤ b + 1 → n ≤ b
answer_room few room taken = omega arith

-- A count below the end of counters has a next one that fits.
pub one_more_fits : {n : ℕ} → n < counter_end → n + 1 < 2 ^ 64
one_more_fits low = omega arith

-- A name is cached until a time that fits.
pub until_is : (clock ms until : ℕ) → clock < clock_end → ms ≤ max_validity → until ≡ min (clock + ms) (2 ^ 64 - 1)
    → until ≡ clock + ms
until_is clock ms until low day is = omega arith

-- Where twice as many forgets have room as a list has names, and one of each name is queued, the rest has room for all.
pub room_to_list : (n left listed count reserved queued answered : ℕ) → count ≡ left → listed ≡ left
    → n + 2 * count ≤ reserved → reserved ≤ queued + listed → queued ≤ answered → n + listed ≤ answered
room_to_list n left listed count reserved queued answered is same room taken kept = omega arith

pub itself : (n : ℕ) → n ≤ n
itself n = omega arith

-- What is there once is one.
pub some_same : {X : Type 0} {x y : X} → Some x ≡ Some y → x ≡ y
some_same {X} {x} {y} same =
    let both : ◌≡◌ {A = Option X} (Some x) (Some y) = same in
    cc
