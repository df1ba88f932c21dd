-- What one line results in.
use Rattle.std.proofs.Common.{◌≡◌, ◌++◌, ℕ, Bool, true, false, List, [], ◌∷◌, Option, Result, Ok, Err, is_err, sym, subst, ◌∙◌, codes}
use Rattle.std.specs.Prelude.{IfErr, OnErr, OnOk}
use Rattle.std.specs.Result.{IsErrAnd}
use Rattle.fuse_spec.specs.declared.NodeCount.{NodeCount}
use Rattle.fuse_text.specs.Nodes.{nodes_text}
use Rattle.fw_script.specs.Records.{event_text}
use Rattle.fw_script.specs.Running.{EachLinePrints, LineEnds}
use Rattle.fw_script.specs.Scripts.{IsPut, Machine, PrintsLine, LineSaysEvent, SaysShow, event, nodes}
use Rattle.fuse_text.specs.declared.stop.Stop.{Stop}
use Rattle.fw_script.specs.declared.line.LineFault.{LineFault}
use Rattle.fuse_text.specs.declared.stop.Stop.TheVariants as stop
use Rattle.fw_world.specs.declared.event.Event.{Event}
use Rattle.fw_world.specs.declared.record.Record.{Record}

-- what follows from a fact on `Ok` or `Err`
pub on_ok : {T E : Type 0} (P : Type 0) (r : Result T E) → OnOk r P → is_err r ≡ false → P
on_ok P (Ok x) h is = h
on_ok P (Err e) h is = absurd (cc is)

pub on_err : {T E : Type 0} (P : Type 0) (r : Result T E) → OnErr r P → is_err r ≡ true → P
on_err P (Ok x) h is = absurd (cc is)
on_err P (Err e) h is = h

module _ {S A : Type 0} (m : Machine S A) (hex : Bool) where
  -- an event
  pub event_comes : (old : S) (e : Event) (before items : List (Record A)) (put : Option (List ℕ)) (new : S)
      → before ≡ [] → ((added : List (Record A)) × (items ≡ before ++ added) × m.runs old e added new)
      → IsPut m hex new items put
      → EachLinePrints m hex old (λ line. LineSaysEvent line e) (event_text items put) new
  event_comes old e before items put new none (added, is, runs) is_put =
      let same : added ≡ items =
      sym (is ∙ subst (λ (b : List (Record A)). b ++ added ≡ added) (sym none) (λ i. added)) in
      record {
        events = e ∷ [];
        records = items;
        prints =
            λ line says.
            event e items put new says (subst (λ (rs : List (Record A)). m.runs old e rs new) same runs) is_put;
      }

  -- the nodes of kernel and server
  pub nodes_come : (s : S) (kernel server : List NodeCount) → kernel ≡ m.counted s → server ≡ m.held s
      → EachLinePrints m hex s SaysShow (nodes_text (codes "kernel") kernel ++ nodes_text (codes "server") server) s
  nodes_come s kernel server counted held = record {
    events = [];
    records = [];
    prints =
        λ line shows.
        subst (λ (x : List NodeCount × List NodeCount).
        PrintsLine m hex s line [] [] (nodes_text (codes "kernel") x.0 ++ nodes_text (codes "server") x.1) s)
        (λ i. (sym counted i, sym held i)) (nodes shows);
  }

  comes_map : (old : S) (P Q : List ℕ → Type 0) (text : List ℕ) (new : S) → ((line : List ℕ) → Q line → P line)
      → EachLinePrints m hex old P text new → EachLinePrints m hex old Q text new
  comes_map old P Q text new map comes = record {
    events = comes.events;
    records = comes.records;
    prints = λ line q. comes.prints line (map line q);
  }

  -- the same of other lines that say it
  pub line_map : {T : Type 0} → (old : S) (P Q : List ℕ → Type 0) (new : S) (r : Result T (Stop LineFault))
      (had has : Option (List ℕ)) → ((line : List ℕ) → Q line → P line) → LineEnds m hex old P new r had has
      → LineEnds m hex old Q new r had has
  line_map old P Q new (Ok done) had has map (text, comes, written) =
      (text, comes_map old P Q text new map comes, written)
  line_map old P Q new (Err stop.OutputRefused) had has map (text, comes, written) =
      (text, comes_map old P Q text new map comes, written)
  line_map old P Q new (Err stop.NoMemory) had has map ends = ends
  line_map old P Q new (Err stop.CannotRead) had has map ends = absurd ends
  line_map old P Q new (Err (stop.BadLine number fault)) had has map ends = absurd ends

-- a result that is this error
pub by_error : {T E : Type 0} (r : Result T E) (e : E) (P : Result T E → Type 0) → IsErrAnd r (λ x. x ≡ e) → P (Err e)
    → P r
by_error (Ok x) e P is p = absurd is
by_error {T} {E} (Err x) e P is p = subst (λ (y : E). P (Err y)) (sym is) p

pub err_by_error : {T E : Type 0} (r : Result T E) (e : E) (P : E → Type 0) → IsErrAnd r (λ x. x ≡ e) → P e → IfErr r P
err_by_error (Ok x) e P is p = absurd is
err_by_error (Err x) e P is p = subst P (sym is) p
