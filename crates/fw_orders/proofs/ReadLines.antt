-- What one line says, put together.
use Rattle.std.proofs.Common.{◌≡◌, ◌≢◌, ◌⊎◌, ◌↔◌, ℕ, Bool, true, false, List, Option, Some, None, Result, Ok, Err, OnOk, ◌<◌, ◌++◌, ◌∷◌, [], length, inl, inr, option_map, arith, length-append, refl, ap, sym, subst, ◌∙◌}
use Rattle.std.specs.Prelude.{IsTrue, codes}
use Rattle.fw_script.specs.Lines.{LineHasWords, WordsFaultIs}
use Rattle.fuse_text.specs.Words.{words_of}
use Rattle.fw_script.specs.declared.line.Line.{Line}
use Rattle.fw_script.specs.declared.line.Line.TheVariants as lines
use Rattle.fw_script.specs.declared.line.LineFault.{LineFault}
use Rattle.fw_script.specs.declared.line.LineFault.TheVariants.{UnknownEvent}
use Rattle.order_law.specs.Moments.{Act as ActValue}
use Rattle.fw_orders.specs.FileLines.{IsAlone, IsCall, IsStep, MayJoin, Says, SaysNot, no_line, no_such, step_said}
use Rattle.std.proofs.lemmas.List.{length-map, map-append}
use Rattle.fw_orders.specs.Reading.{IsJoined, a_call, a_step, together_of}
use Rattle.fw_orders.specs.Saying.{act_of, acts_of, step_of}
use Rattle.fw_orders.specs.declared.read.Together.{Together}
use Rattle.fw_orders.specs.declared.read.Together.TheVariants as one
use Rattle.fw_orders.specs.declared.act.Act.{Act}

pub says_it : (Kind : Line → Type 0) (text : List ℕ) (l : Line) (o : Option Act) (act : Act)
    → LineHasWords l (words_of text) → option_map act_of o ≡ step_said text l → o ≡ Some act → Kind l
    → Says Kind text (act_of act)
says_it Kind text l o act words same is kind =
    record { l = l; words = words; kind = kind; is = sym same ∙ ap (option_map act_of) is }

some_none : (act : ActValue) → None ≡ Some act → ⊥
some_none act e = absurd (cc)

-- a line that is no step
no_step_alone : (text : List ℕ) (l : Line) → step_said text l ≡ None → ¬ (IsAlone l)
no_step_alone text (lines.Event e) none kind = some_none _ (sym none)
no_step_alone text (lines.CallWrite open_call offset hex) none kind = some_none _ (sym none)
no_step_alone text lines.Show none kind = kind

no_step_joins : (text : List ℕ) (l : Line) → step_said text l ≡ None → ¬ (MayJoin l)
no_step_joins text (lines.Event e) none kind = some_none _ (sym none)
no_step_joins text (lines.CallWrite open_call offset hex) none kind = some_none _ (sym none)
no_step_joins text lines.Show none (inl kind) = kind
no_step_joins text lines.Show none (inr kind) = kind

module _ (text : List ℕ) (l : Line) (o : Option Act) where
  pub shows_alone : LineHasWords l (words_of text) → option_map act_of o ≡ step_said text l → o ≡ None
      → SaysNot IsAlone text UnknownEvent
  shows_alone words same is = no_such l words (no_step_alone text l (sym same ∙ ap (option_map act_of) is))

  pub shows_together : LineHasWords l (words_of text) → option_map act_of o ≡ step_said text l → o ≡ None
      → SaysNot MayJoin text UnknownEvent
  shows_together words same is = no_such l words (no_step_joins text l (sym same ∙ ap (option_map act_of) is))

-- the answer of a test
pub is_not : (b : Bool) (P : Type 0) → IsTrue b ↔ P → b ≡ false → ¬ P
is_not true P iff e p = absurd (cc)
is_not false P iff e p = let x = iff.1 p in absurd (cc)

pub is_so : (b : Bool) (P : Type 0) → IsTrue b ↔ P → b ≡ true → P
is_so true P iff e = iff.0 refl
is_so false P iff e = absurd (cc)

pub neither : (l : Line) → ¬ (IsCall l) → ¬ (IsStep l) → ¬ (MayJoin l)
neither l no_call no_step (inl kind) = no_call kind
neither l no_call no_step (inr kind) = no_step kind

-- a line that a group has room for
pub call_joined : {T E : Type 0} (calls more : List Act) (due : Option ActValue) (act : Act) (line : Together)
    (r : Result T E) → line ≡ one.Call act → length calls < 8 → OnOk r (more ≡ calls ++ act ∷ [])
    → OnOk r (IsJoined (acts_of calls) due (together_of line) (acts_of more) due)
call_joined calls more due act line (Ok x) is few added =
    let size = length-map calls act_of in
    subst (λ (t : Together). IsJoined (acts_of calls) due (together_of t) (acts_of more) due) (sym is)
    (subst (λ (acts : List ActValue). IsJoined (acts_of calls) due (together_of (one.Call act)) acts due)
    (sym (ap acts_of added ∙ map-append act_of calls (act ∷ [])))
    (a_call (act_of act) (omega (arith, size, few))))
call_joined calls more due act line (Err e) is few added = tt

pub step_joined : (calls : List ActValue) (due : Option Act) (act : Act) (line : Together) → line ≡ one.Step act
    → due ≡ None → IsJoined calls (step_of due) (together_of line) calls (Some (act_of act))
step_joined calls due act line is none =
    subst (λ (t : Together). IsJoined calls (step_of due) (together_of t) calls (Some (act_of act))) (sym is)
    (a_step (act_of act) (ap step_of none))
