-- What goes over a device of a list of frames.
use Rattle.std.specs.Prelude.{◌≡◌, ℕ, List, [], ◌∷◌, ◌++◌, drop, map}
use Rattle.std.proofs.Common.{refl, sym, ap, ◌∙◌, append_assoc, append-nil}
use Rattle.fuse_device.specs.Transfers.{Transfer, received, sent, unsent, stopped}
use Rattle.fuse_device.specs.declared.list.ListDevice.{ListDevice}

-- the frames that were received
abbrev pub frames_received : List Transfer → List (List ℕ)
frames_received [] = []
frames_received (received frame ∷ log) = frame ∷ frames_received log
frames_received (sent frame result ∷ log) = frames_received log
frames_received (unsent frame end ∷ log) = frames_received log
frames_received (stopped end ∷ log) = frames_received log

-- the bytes of the frames that were sent, whatever came of them
abbrev pub bytes_sent : List Transfer → List ℕ
bytes_sent [] = []
bytes_sent (received frame ∷ log) = bytes_sent log
bytes_sent (sent frame result ∷ log) = frame ++ bytes_sent log
bytes_sent (unsent frame end ∷ log) = bytes_sent log
bytes_sent (stopped end ∷ log) = bytes_sent log

pub frames_received-append : (h k : List Transfer) → frames_received (h ++ k) ≡ frames_received h ++ frames_received k
frames_received-append [] k = refl
frames_received-append (received frame ∷ h) k = ap (λ (l : List (List ℕ)). frame ∷ l) (frames_received-append h k)
frames_received-append (sent frame result ∷ h) k = frames_received-append h k
frames_received-append (unsent frame end ∷ h) k = frames_received-append h k
frames_received-append (stopped end ∷ h) k = frames_received-append h k

pub bytes_sent-append : (h k : List Transfer) → bytes_sent (h ++ k) ≡ bytes_sent h ++ bytes_sent k
bytes_sent-append [] k = refl
bytes_sent-append (received frame ∷ h) k = bytes_sent-append h k
bytes_sent-append (sent frame result ∷ h) k =
    ap (λ (l : List ℕ). frame ++ l) (bytes_sent-append h k) ∙ sym (append_assoc frame (bytes_sent h) (bytes_sent k))
bytes_sent-append (unsent frame end ∷ h) k = bytes_sent-append h k
bytes_sent-append (stopped end ∷ h) k = bytes_sent-append h k

module _ {A : Type 0} where
  -- the frames that a device has still to give
  abbrev pub coming : ListDevice A → List (List ℕ)
  coming device = drop device.given (map (λ frame. frame.now) device.frames.now)

  -- The frames that were received are those that the list had in front, and what was sent is kept behind what was.
  pub record Listed (old new : ListDevice A) (log : List Transfer) : Type 0 where
    pub given : coming old ≡ frames_received log ++ coming new
    pub kept : new.sent.items ≡ old.sent.items ++ bytes_sent log

  pub nothing_listed : (device : ListDevice A) → Listed device device []
  nothing_listed device = record { given = refl; kept = sym (append-nil device.sent.items) }

  pub listed_in_turn : (first mid last : ListDevice A) (h k : List Transfer) → Listed first mid h → Listed mid last k
      → Listed first last (h ++ k)
  listed_in_turn first mid last h k one two = record {
    given = one.given ∙ ap (λ (l : List (List ℕ)). frames_received h ++ l) two.given
        ∙ sym (append_assoc (frames_received h) (frames_received k) (coming last))
        ∙ ap (λ (l : List (List ℕ)). l ++ coming last) (sym (frames_received-append h k));
    kept = two.kept ∙ ap (λ (l : List ℕ). l ++ bytes_sent k) one.kept
        ∙ append_assoc first.sent.items (bytes_sent h) (bytes_sent k)
        ∙ ap (λ (l : List ℕ). first.sent.items ++ l) (sym (bytes_sent-append h k));
  }
