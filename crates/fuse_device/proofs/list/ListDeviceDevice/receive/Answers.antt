use Rattle.std.proofs.Common.{◌≡◌, ◌+◌, ◌<◌, ◌∙◌, ◌∷◌, ◌++◌, ℕ, suc, List, drop, get_or, length, map, take, refl, sym, ap, add-one, append-nil}
use Rattle.std.proofs.Math.Seq.{drop-cons}
use Rattle.std.proofs.lemmas.List.{drop-map, take_at}
use Rattle.fuse_device.proofs.list.ListDeviceDevice.receive.Goals as goal

-- what is left begins with the frame at its front
front_given : {X Y : Type 0} (f : X → Y) (xs : List X) (n : ℕ) (d : X) → n < length xs
    → (front : Y) → front ≡ f (get_or xs n d) → drop n (map f xs) ≡ front ∷ drop (n + 1) (map f xs)
front_given f xs n d within front is =
    drop-map f n xs ∙ ap (map f) (drop-cons xs n d within)
    ∙ ap (λ l. f (get_or xs n d) ∷ l) (sym (drop-map f (suc n) xs))
    ∙ ap (λ m. f (get_or xs n d) ∷ drop m (map f xs)) (sym (add-one n))
    ∙ ap (λ x. x ∷ drop (n + 1) (map f xs)) (sym is)

-- a frame that was copied into the front of a room
copied : (part frame rest : List ℕ) → part ≡ frame → take (length frame) (part ++ rest) ≡ frame
copied part frame rest is = ap (λ (l : List ℕ). take (length frame) (l ++ rest)) is ∙ take_at frame rest (length frame) refl

pub returns-clause-frame : goal.returns-clause-frame
returns-clause-frame g c =
    let device = c.args.self.now in
    let front = copied c.copy_from_slice.new.self _ _ c.copy_from_slice.ensures.after in record {
      given = front_given (λ frame. frame.now) device.frames.now device.given _ c.if-self.false _ front;
      kept = sym (append-nil device.sent.items);
    }
