-- Lines of a text, and what they say.
use Rattle.std.proofs.Common.{◌≡◌, ◌++◌, ℕ, List, [], ◌∷◌, append-nil, refl, ap, subst}
use Rattle.fw_script.specs.Lines.{IsWritten, LineHasWords}
use Rattle.fw_script.specs.Running.{Say, no_more, passed_over, says}
use Rattle.fw_script.specs.Scripts.{IsPassedOver}
use Rattle.fuse_text.specs.Words.{words_of}
use Rattle.fw_script.specs.declared.line.Line.{Line}
use Rattle.fw_script.specs.declared.line.Line.TheVariants as lines
use Rattle.fw_world.specs.declared.event.Event.TheVariants as event

-- one text after another
pub Say-append : (texts more : List (List ℕ)) (lines others : List Line) → Say texts lines → Say more others
    → Say (texts ++ more) (lines ++ others)
Say-append texts more lines others no_more next = next
Say-append texts more lines others (passed_over t ts said over rest) next =
    passed_over t (ts ++ more) (said ++ others) over (Say-append ts more said others rest next)
Say-append texts more lines others (says t l ts said names rest) next =
    says t l (ts ++ more) (said ++ others) names (Say-append ts more said others rest next)

-- what says some lines and then others, in two parts
pub record Parts (texts : List (List ℕ)) (front back : List Line) : Type 0 where
  pub done : List (List ℕ)
  pub rest : List (List ℕ)
  pub whole : texts ≡ done ++ rest
  pub first : Say done front
  pub last : Say rest back

pub parts_of : (texts : List (List ℕ)) (lines : List Line) → Say texts lines → (front back : List Line)
    → lines ≡ front ++ back → Parts texts front back
parts_of texts lines said [] back is = record {
  done = [];
  rest = texts;
  whole = refl;
  first = no_more;
  last = subst (λ (ls : List Line). Say texts ls) is said;
}
parts_of texts lines no_more (l ∷ front) back is = absurd (cc is)
parts_of texts lines (passed_over t ts said over rest) (l ∷ front) back is =
    let others = parts_of ts said rest (l ∷ front) back is in
    record {
      done = t ∷ others.done;
      rest = others.rest;
      whole = ap (λ (x : List (List ℕ)). t ∷ x) others.whole;
      first = passed_over t others.done (l ∷ front) over others.first;
      last = others.last;
    }
parts_of texts lines (says t m ts said names rest) (l ∷ front) back is =
    let same : m ≡ l = cc is in
    let after : said ≡ front ++ back = cc is in
    let others = parts_of ts said rest front back after in
    record {
      done = t ∷ others.done;
      rest = others.rest;
      whole = ap (λ (x : List (List ℕ)). t ∷ x) others.whole;
      first = says t l others.done front (subst (λ (x : Line). LineHasWords x (words_of t)) same names) others.first;
      last = others.last;
    }

-- what says one line: lines that are passed over, that one, and such lines again
pub record OneSaid (texts : List (List ℕ)) (l : Line) : Type 0 where
  pub over : List (List ℕ)
  pub line : List ℕ
  pub rest : List (List ℕ)
  pub whole : texts ≡ over ++ line ∷ rest
  pub before : Say over []
  pub names : LineHasWords l (words_of line)
  pub after : Say rest []

pub one_said : (texts : List (List ℕ)) (lines : List Line) → Say texts lines → (l : Line) → lines ≡ l ∷ []
    → OneSaid texts l
one_said texts lines no_more l is = absurd (cc is)
one_said texts lines (passed_over t ts said over rest) l is =
    let others = one_said ts said rest l is in
    record {
      over = t ∷ others.over;
      line = others.line;
      rest = others.rest;
      whole = ap (λ (x : List (List ℕ)). t ∷ x) others.whole;
      before = passed_over t others.over [] over others.before;
      names = others.names;
      after = others.after;
    }
one_said texts lines (says t m ts said names rest) l is =
    let same : m ≡ l = cc is in
    let none : said ≡ [] = cc is in
    record {
      over = [];
      line = t;
      rest = ts;
      whole = refl;
      before = no_more;
      names = subst (λ (x : Line). LineHasWords x (words_of t)) same names;
      after = subst (λ (ls : List Line). Say ts ls) none rest;
    }

-- one line more, which says nothing
pub Say-over : (texts : List (List ℕ)) (lines : List Line) → Say texts lines → (t : List ℕ) → IsPassedOver t
    → Say (texts ++ t ∷ []) lines
Say-over texts lines said t over =
    subst (λ (ls : List Line). Say (texts ++ t ∷ []) ls) (append-nil lines)
    (Say-append texts (t ∷ []) lines [] said (passed_over t [] [] over no_more))

-- one line more, which says this
pub Say-more : (texts : List (List ℕ)) (lines : List Line) → Say texts lines → (t : List ℕ) (l : Line)
    → LineHasWords l (words_of t) → Say (texts ++ t ∷ []) (lines ++ l ∷ [])
Say-more texts lines said t l names = Say-append texts (t ∷ []) lines (l ∷ []) said (says t l [] [] names no_more)

-- what a line says is written
pub said_is_written : (l : Line) (words : List (List ℕ)) → LineHasWords l words → IsWritten l
said_is_written (lines.Event (event.Mount found missing m)) words h = tt
said_is_written l words h = h.1
