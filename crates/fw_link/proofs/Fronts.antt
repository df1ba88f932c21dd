-- What a cutter knows of a beginning of a whole envelope.
use Rattle.std.proofs.Common.{◌≡◌, ℕ, ◌+◌, ◌<◌, ◌≤◌, inl, inr, List, [], ◌∷◌, ◌++◌, length, take, drop, refl, sym, ap, ◌∙◌, subst, arith, append_assoc, take-append-drop}
use Rattle.std.specs.Prelude.{Option, Some, None, Result, Ok, Err, OnErr, OnOk}
use Rattle.std.specs.Io.KnownBytes.{Consumes}
use Rattle.std.proofs.lemmas.Bool.{cases_lt}
use Rattle.std.proofs.lemmas.List.{length-append, take_all, append-nil}
use Rattle.fw_link.specs.declared.side.Side.{Side}
use Rattle.fw_link.specs.declared.side.Side.TheVariants.{Kernel, Server}
use Rattle.fw_link.specs.Carrying.{CutsOtherwise, IsLost}
use Rattle.fw_link.specs.Envelopes.{IsDamaged, IsUndamaged, first_envelope_of, len_in}
use Rattle.fw_link.specs.Streams.{IsOne}
use Rattle.fw_link.specs.Traffic.{BeginsWith, HasFailed, IsInOrder, IsCounted, IsWhole, Traffic, in_turn, no_traffic, other_side, sent}
use Rattle.fw_link.proofs.Cuts.{first_of-long, first_of-short, len_in-append}

-- what is damaged is not sound
not_both : (s : List ℕ) → IsUndamaged s → IsDamaged s → ⊥
not_both s sound (inl kind) = let k = sound.kind in omega arith
not_both s sound (inr (judged, inl short)) = let n = sound.no_shorter judged in omega arith
not_both s sound (inr (judged, inr long)) = let n = sound.no_longer judged in omega arith

module _ (whole : List ℕ) (one : IsOne whole) where
  -- its beginnings are sound
  front_sound : (front rest : List ℕ) → whole ≡ front ++ rest → IsUndamaged front
  front_sound [] rest is = record {
    kind = omega arith;
    no_shorter = λ h. absurd (omega arith);
    no_longer = λ h. absurd (omega arith);
  }
  front_sound (a ∷ front) rest is =
      let s = subst IsUndamaged is one.sound in
      record {
        kind = s.kind;
        no_shorter = λ h. subst (λ (k : ℕ). 16 ≤ k) (len_in-append (a ∷ front) rest h)
            (s.no_shorter (omega (arith, length-append (a ∷ front) rest)));
        no_longer = λ h. subst (λ (k : ℕ). k ≤ 4176) (len_in-append (a ∷ front) rest h)
            (s.no_longer (omega (arith, length-append (a ∷ front) rest)));
      }

  -- and have no end of an envelope within them
  front_first : (front rest : List ℕ) → whole ≡ front ++ rest → first_envelope_of front ≡ front
  front_first front rest is = elim (cases_lt (length front) 13) [
    | inl short ↦ first_of-short front short
    | inr long ↦
        let n : length whole ≡ length front + length rest = ap length is ∙ length-append front rest in
        let l : len_in whole ≡ len_in front = ap len_in is ∙ len_in-append front rest long in
        let w = one.whole in
        first_of-long front long ∙ take_all _ front (omega arith)
  ]

-- what is damaged begins no envelope
pub damage_otherwise : (len : ℕ) (got : List ℕ) → IsDamaged got → CutsOtherwise len got
damage_otherwise len got damaged whole one same (rest, is) = not_both got (front_sound whole one got rest is) damaged

-- nor does what has the end of one within it
pub end_otherwise : (len : ℕ) (got held : List ℕ) → held ≡ first_envelope_of got → length held < length got
    → CutsOtherwise len got
end_otherwise len got held first less whole one same (rest, is) =
    let e : length held ≡ length got = ap length (first ∙ front_first whole one got rest is) in omega arith

-- a beginning that is as long as the whole is the whole
pub whole_front : (whole got : List ℕ) → BeginsWith whole got → length got ≡ length whole → got ≡ whole
whole_front whole got (rest, is) same = by rest is
  where
    by : (rest : List ℕ) → whole ≡ got ++ rest → got ≡ whole
    by [] is = sym (is ∙ append-nil got)
    by (a ∷ rest) is = absurd (let n : length whole ≡ length got + length (a ∷ rest) =
        ap length is ∙ length-append got (a ∷ rest) in omega arith)

-- what is sent in turn
pub sent_in_turn : (from : Side) (p g q k : List ℕ)
    → in_turn (sent from p g) (sent from q k) ≡ sent from (p ++ q) (g ++ k)
sent_in_turn Kernel p g q k = refl
sent_in_turn Server p g q k = refl

pub back_again : (side : Side) → other_side (other_side side) ≡ side
back_again Kernel = refl
back_again Server = refl

pub all_got : (from : Side) (bytes : List ℕ) → IsWhole (sent from bytes bytes)
all_got Kernel bytes = record { to_kernel = refl; to_server = refl }
all_got Server bytes = record { to_kernel = refl; to_server = refl }

-- what is in order begins so
pub in_order_front : (from : Side) (p g : List ℕ) → IsInOrder (sent from p g) → BeginsWith p g
in_order_front Kernel p g h = h.to_server
in_order_front Server p g h = h.to_kernel

sent_alone : (from : Side) (p g : List ℕ) → in_turn (sent from p g) no_traffic ≡ sent from p g
sent_alone Kernel p g = rw (append-nil p, append-nil g) refl
sent_alone Server p g = rw (append-nil p, append-nil g) refl

-- what begins a beginning begins the whole
pub front_of_all : (n : ℕ) (bytes got : List ℕ) → BeginsWith (take n bytes) got → BeginsWith bytes got
front_of_all n bytes got (rest, is) = (
  rest ++ drop n bytes,
  sym (take-append-drop n bytes) ∙ ap (λ (l : List ℕ). l ++ drop n bytes) is ∙ append_assoc got rest (drop n bytes),
)

-- what a reader that has these bytes to give gave is a beginning of them
pub given_front : (known left : Option (List ℕ)) (bytes got : List ℕ) → known ≡ Some bytes → Consumes known left got
    → BeginsWith bytes got
given_front known left bytes got is gave = by left (subst (λ (k : Option (List ℕ)). Consumes k left got) is gave)
  where
    by : (left : Option (List ℕ)) → Consumes (Some bytes) left got → BeginsWith bytes got
    by None gave = absurd gave
    by (Some rest) gave = (rest, gave)

-- What a link carries in turn.
module _ {L : Type 0} (carries : (old new : L) → Traffic → Type 0)
    (goes_on : (first mid last : L) (h k : Traffic) → carries first mid h → carries mid last k
    → carries first last (in_turn h k)) where
  pub got_more : (first mid last : L) (from : Side) (held piece : List ℕ) → carries first mid (sent from [] held)
      → carries mid last (sent from [] piece)
      → carries first last (sent from [] (held ++ piece))
  got_more first mid last from held piece one two =
      subst (carries first last) (sent_in_turn from [] held [] piece) (goes_on first mid last _ _ one two)

  pub got_none : (first mid last : L) (from : Side) (held : List ℕ) → carries first mid (sent from [] held)
      → carries mid last no_traffic → carries first last (sent from [] held)
  got_none first mid last from held one two = subst (carries first last) (sent_alone from [] held)
      (goes_on first mid last _ _ one two)

  pub put_and_got : (first mid last : L) (from : Side) (p g : List ℕ) → carries first mid (sent from p [])
      → carries mid last (sent from [] g) → carries first last (sent from p g)
  put_and_got first mid last from p g one two =
      subst (λ (l : List ℕ). carries first last (sent from l g)) (append-nil p)
      (subst (carries first last) (sent_in_turn from p [] [] g) (goes_on first mid last _ _ one two))

  -- what was put was not got: if its beginning was, the link has failed
  pub lost : (first mid last : L) (from : Side) (bytes got : List ℕ) (before after : ℕ)
      → carries first mid (sent from bytes []) → carries mid last (sent from [] got)
      → (BeginsWith bytes got → HasFailed before after) → IsLost (carries first last) from bytes before after
  lost first mid last from bytes got before after one two failed =
      let all : take (length bytes) bytes ≡ bytes = take_all _ bytes (omega arith) in
      record {
        put_len = length bytes;
        got = got;
        carried = subst (λ (l : List ℕ). carries first last (sent from l got)) (sym all)
            (put_and_got first mid last from bytes got one two);
        counted = failed;
      }

-- what is counted at a fault and not counted at a success is counted
pub is_counted : {T E : Type 0} (r : Result T E) (before after : ℕ) → OnOk r (after ≡ before)
    → OnErr r (HasFailed before after) → IsCounted r before after
is_counted (Ok _) before after ok err = ok
is_counted (Err _) before after ok err = err

pub at_err : {T E : Type 0} (P Q : Type 0) (r : Result T E) → (P → Q) → OnErr r P → OnErr r Q
at_err P Q (Ok _) so p = p
at_err P Q (Err _) so p = so p
