-- The text of one transfer, as it is written.
use Rattle.std.proofs.Common.{◌≡◌, ◌++◌, ℕ, Bool, List, [], ◌∷◌, Option, sym, ap, subst, ◌∙◌, append_assoc, append-nil}
use Rattle.std.specs.Prelude.{codes}
use Rattle.hex.specs.Hex.{encode_lower}
use Rattle.fuse_text.proofs.Hexes.{encode_lower-nil}
use Rattle.fuse_spec.specs.declared.WriteResult.{WriteResult}
use Rattle.fuse_device.specs.Transfers.{Transfer, received, sent, stopped, unsent}
use Rattle.fuse_device.specs.declared.device.DeviceEnd.{DeviceEnd}
use Rattle.fw_capture.specs.Captured.{IsCaptured, capture_text, ended_text, line_of, result_text}

-- a start, hex and an end
abbrev pub parts_text : (start frame end : List ℕ) → List ℕ
parts_text start frame end = start ++ (encode_lower frame ++ (end ++ codes "\n"))

one_line : (t : Transfer) → capture_text (t ∷ []) ≡ line_of t ++ codes "\n"
one_line t = append-nil (line_of t ++ codes "\n")

request_text : (frame : List ℕ) → capture_text (received frame ∷ []) ≡ parts_text (codes "> ") frame []
request_text frame = one_line (received frame) ∙ append_assoc (codes "> ") (encode_lower frame) (codes "\n")

sent_text : (frame : List ℕ) (result : WriteResult)
    → capture_text (sent frame result ∷ []) ≡ parts_text (codes "< ") frame (result_text result)
sent_text frame result =
    one_line (sent frame result) ∙ append_assoc (codes "< " ++ encode_lower frame) (result_text result) (codes "\n")
    ∙ append_assoc (codes "< ") (encode_lower frame) (result_text result ++ codes "\n")

-- the end has no frame
end_text : (end : DeviceEnd) → ended_text end ++ codes "\n" ≡ parts_text (ended_text end) [] []
end_text end = ap (λ (l : List ℕ). ended_text end ++ (l ++ codes "\n")) (sym encode_lower-nil)

module _ (a b : Option (List ℕ)) (x y : List ℕ) (p q : Bool) where
  pub captured_request : (frame : List ℕ) → IsCaptured a b x y p q (parts_text (codes "> ") frame [])
      → IsCaptured a b x y p q (capture_text (received frame ∷ []))
  captured_request frame h = subst (IsCaptured a b x y p q) (sym (request_text frame)) h

  pub captured_sent : (frame : List ℕ) (result : WriteResult) (end : List ℕ) → end ≡ result_text result
      → IsCaptured a b x y p q (parts_text (codes "< ") frame end)
      → IsCaptured a b x y p q (capture_text (sent frame result ∷ []))
  captured_sent frame result end is h =
      subst (IsCaptured a b x y p q) (ap (parts_text (codes "< ") frame) is ∙ sym (sent_text frame result)) h

  pub captured_unsent : (frame : List ℕ) (end : DeviceEnd) (start : List ℕ) → start ≡ ended_text end
      → IsCaptured a b x y p q (parts_text start [] []) → IsCaptured a b x y p q (capture_text (unsent frame end ∷ []))
  captured_unsent frame end start is h =
      subst (IsCaptured a b x y p q)
      (ap (λ (l : List ℕ). parts_text l [] []) is ∙ sym (one_line (unsent frame end) ∙ end_text end)) h

  pub captured_stopped : (end : DeviceEnd) (start : List ℕ) → start ≡ ended_text end
      → IsCaptured a b x y p q (parts_text start [] []) → IsCaptured a b x y p q (capture_text (stopped end ∷ []))
  captured_stopped end start is h =
      subst (IsCaptured a b x y p q)
      (ap (λ (l : List ℕ). parts_text l [] []) is ∙ sym (one_line (stopped end) ∙ end_text end)) h
