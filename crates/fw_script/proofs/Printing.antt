-- What lines print, one after another.
use Rattle.std.proofs.Common.{◌≡◌, ◌++◌, ◌+◌, ◌<◌, ℕ, Bool, List, [], ◌∷◌, Option, Result, Ok, Err, length, take, drop, get_or, refl, sym, ap, subst, ◌∙◌, append_assoc, append-nil, take-append-drop}
use Rattle.std.proofs.lemmas.List.{take_more}
use Rattle.std.specs.Prelude.{IfErr}
use Rattle.std.specs.Io.KnownBytes.{Appends, Keeps}
use Rattle.fw_script.specs.Lines.{LineHasWords}
use Rattle.fw_script.specs.Running.{EachLinePrints, HasPrinted, LineEnds, LinesEnd, Say, no_more, passed_over, says}
use Rattle.fw_script.specs.Scripts.{Machine, Prints, no_line, next_line, nothing}
use Rattle.fuse_text.specs.Words.{words_of}
use Rattle.fw_script.specs.declared.line.Line.{Line}
use Rattle.fuse_text.specs.declared.stop.Stop.{Stop}
use Rattle.fw_script.specs.declared.line.LineFault.{LineFault}
use Rattle.fuse_text.specs.declared.stop.Stop.TheVariants as stop
use Rattle.fw_script.proofs.Saying.{one_said, parts_of}
use Rattle.std.proofs.KnownBytes.{Appends-trans, Appends-kept, Appends-nil}
use Rattle.fuse_text.proofs.Writes.{some_all, some_then}
use Rattle.fw_world.specs.declared.event.Event.{Event}
use Rattle.fw_world.specs.declared.record.Record.{Record}

module _ {S A : Type 0} (m : Machine S A) (hex : Bool) (first : S) where
  -- lines that say nothing
  passes : (lines : List (List ℕ)) (events : List Event) (records : List (Record A)) (text : List ℕ) (s : S)
      → Prints m hex first lines events records text s → (over : List (List ℕ)) (none : List Line) → Say over none
      → none ≡ [] → Prints m hex first (lines ++ over) events records text s
  passes lines events records text s printed over none no_more is =
      subst (λ (l : List (List ℕ)). Prints m hex first l events records text s) (sym (append-nil lines)) printed
  passes lines events records text s printed over none (passed_over t ts said empty rest) is =
      let one : Prints m hex first (lines ++ t ∷ []) (events ++ []) (records ++ []) (text ++ []) s =
      next_line lines events records text s printed t [] [] [] s (nothing empty) in
      let same : Prints m hex first (lines ++ t ∷ []) events records text s =
      subst (λ (x : List Event × List (Record A) × List ℕ). Prints m hex first (lines ++ t ∷ []) x.0 x.1 x.2 s)
      (λ i. (append-nil events i, append-nil records i, append-nil text i)) one in
      subst (λ (l : List (List ℕ)). Prints m hex first l events records text s) (append_assoc lines (t ∷ []) ts)
      (passes (lines ++ t ∷ []) events records text s same ts said rest is)
  passes lines events records text s printed over none (says t l ts said names rest) is = absurd (cc is)

  -- All texts that say these lines print this.
  abbrev pub Follows : List Line → List ℕ → S → Type 0
  Follows lines text last = (texts : List (List ℕ)) → Say texts lines → HasPrinted m hex first texts text last

  pub none_follow : Follows [] [] first
  none_follow texts said = record {
    events = [];
    records = [];
    prints = passes [] [] [] [] first no_line texts [] said refl;
  }

  -- one line more
  pub one_more : (lines : List Line) (text : List ℕ) (mid : S) → Follows lines text mid → (l : Line)
      (printed : List ℕ) (last : S) → EachLinePrints m hex mid (λ t. LineHasWords l (words_of t)) printed last
      → Follows (lines ++ l ∷ []) (text ++ printed) last
  one_more lines text mid follows l printed last comes texts said =
      let parts = parts_of texts (lines ++ l ∷ []) said lines (l ∷ []) refl in
      let one = one_said parts.rest (l ∷ []) parts.last l refl in
      let before = follows parts.done parts.first in
      let over = passes parts.done before.events before.records text mid before.prints one.over [] one.before refl in
      let events = before.events ++ comes.events in
      let records = before.records ++ comes.records in
      let line = next_line (parts.done ++ one.over) before.events before.records text mid over one.line comes.events
      comes.records printed last (comes.prints one.line one.names) in
      let all = passes ((parts.done ++ one.over) ++ one.line ∷ []) events records (text ++ printed) last line one.rest
      [] one.after refl in
      let whole : ((parts.done ++ one.over) ++ one.line ∷ []) ++ one.rest ≡ texts =
      append_assoc (parts.done ++ one.over) (one.line ∷ []) one.rest
      ∙ append_assoc parts.done one.over (one.line ∷ one.rest)
      ∙ ap (λ (l : List (List ℕ)). parts.done ++ l) (sym one.whole) ∙ sym parts.whole in
      record {
        events = events;
        records = records;
        prints = subst (λ (l : List (List ℕ)). Prints m hex first l events records (text ++ printed) last) whole all;
      }

  -- What the first lines have printed.
  pub record Printed (lines : List Line) (last : S) (old now : Option (List ℕ)) : Type 0 where
    pub text : List ℕ
    pub follows : Follows lines text last
    pub written : Appends old now text

  pub nothing_printed : (old : Option (List ℕ)) → Printed [] first old old
  nothing_printed old = record { text = []; follows = none_follow; written = Appends-nil old }

  -- and one line more
  pub line_went : {T : Type 0} → (lines : List Line) (k : ℕ) (d : Line) (mid last : S)
      (old had has : Option (List ℕ)) (done : T) → k < length lines → Printed (take k lines) mid old had
      → LineEnds m hex mid (λ t. LineHasWords (get_or lines k d) (words_of t)) last (Ok done) had has
      → Printed (take (k + 1) lines) last old has
  line_went lines k d mid last old had has done within printed (text, comes, written) =
      subst (λ (ls : List Line). Printed ls last old has) (sym (take_more lines k d within)) (record {
        text = printed.text ++ text;
        follows = one_more (take k lines) printed.text mid printed.follows (get_or lines k d) text last comes;
        written = Appends-trans old had has printed.text text printed.written written;
      })

  -- Why a line ends the run.
  pub line_ended : (T : Type 0) → (lines : List Line) (k : ℕ) (d : Line) (mid last : S)
      (old had has : Option (List ℕ)) (s : Stop LineFault) → k < length lines → Printed (take k lines) mid old had
      → LineEnds {T = T} m hex mid (λ t. LineHasWords (get_or lines k d) (words_of t)) last (Err s) had has
      → (texts : List (List ℕ)) → Say texts lines → LinesEnd {T = T} m hex first texts last (Err s) old has
  line_ended T lines k d mid last old had has stop.CannotRead within printed ends texts said = absurd ends
  line_ended T lines k d mid last old had has (stop.BadLine number fault) within printed ends texts said = absurd ends
  line_ended T lines k d mid last old had has stop.NoMemory within printed (same, written) texts said =
      let parts = parts_of texts lines said (take k lines) (drop k lines) (sym (take-append-drop k lines)) in
      let all : Appends old has printed.text =
      subst (λ (l : List ℕ). Appends old has l) (append-nil printed.text)
      (Appends-trans old had has printed.text [] printed.written written) in (
        parts.done,
        parts.rest,
        parts.whole,
        printed.text,
        subst (λ (s : S). HasPrinted m hex first parts.done printed.text s) (sym same)
            (printed.follows parts.done parts.first),
        all,
      )
  line_ended T lines k d mid last old had has stop.OutputRefused within printed (text, comes, written) texts said =
      let front = take k lines ++ get_or lines k d ∷ [] in
      let split : lines ≡ front ++ drop (k + 1) lines =
      sym (take-append-drop (k + 1) lines) ∙ ap (λ (ls : List Line). ls ++ drop (k + 1) lines)
      (take_more lines k d within) in
      let parts = parts_of texts lines said front (drop (k + 1) lines) split in
      let more = one_more (take k lines) printed.text mid printed.follows (get_or lines k d) text last comes in (
        parts.done,
        parts.rest,
        parts.whole,
        printed.text ++ text,
        more parts.done parts.first,
        some_then old had has printed.text text (printed.text ++ text) refl printed.written written,
      )

  -- All lines were done, and the output was flushed.
  pub all_went : {T : Type 0} → (lines : List Line) (k : ℕ) (last : S) (old had has : Option (List ℕ)) (done : T)
      → take k lines ≡ lines → Printed (take k lines) last old had → Keeps had has
      → (texts : List (List ℕ)) → Say texts lines → LinesEnd {T = T} m hex first texts last (Ok done) old has
  all_went lines k last old had has done all printed kept texts said = (
    printed.text,
    printed.follows texts (subst (λ (ls : List Line). Say texts ls) (sym all) said),
    Appends-kept old had has printed.text printed.written kept,
  )

  pub all_refused : (T : Type 0) → (lines : List Line) (k : ℕ) (last : S) (old had has : Option (List ℕ))
      → take k lines ≡ lines → Printed (take k lines) last old had → Keeps had has
      → (texts : List (List ℕ)) → Say texts lines
      → LinesEnd {T = T} m hex first texts last (Err stop.OutputRefused) old has
  all_refused T lines k last old had has all printed kept texts said = (
    texts,
    [],
    sym (append-nil texts),
    printed.text,
    printed.follows texts (subst (λ (ls : List Line). Say texts ls) (sym all) said),
    some_all old has printed.text (Appends-kept old had has printed.text printed.written kept),
  )

  pub all_ended : {T : Type 0} → (lines : List Line) (k : ℕ) (last : S) (old had has : Option (List ℕ))
      (r : Result T (Stop LineFault)) → IfErr r (λ s. s ≡ stop.OutputRefused) → take k lines ≡ lines
      → Printed (take k lines) last old had → Keeps had has
      → (texts : List (List ℕ)) → Say texts lines → LinesEnd m hex first texts last r old has
  all_ended lines k last old had has (Ok done) is all printed kept texts said =
      all_went lines k last old had has done all printed kept texts said
  all_ended {T} lines k last old had has (Err s) is all printed kept texts said =
      subst (λ (e : Stop LineFault). LinesEnd {T = T} m hex first texts last (Err e) old has) (sym is)
      (all_refused T lines k last old had has all printed kept texts said)
