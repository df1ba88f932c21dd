-- The kernel's calls stay sound as calls begin, are answered and collected.
use Rattle.std.proofs.Common.{◌≡◌, ◌≢◌, ℕ, ◌+◌, ◌≤◌, ◌<◌, ◌^◌, Bool, true, false, cond, [], ◌∷◌, length, Option, Some, None, refl, sym, ap, subst, ◌∙◌, arith, inl, inr, true≢false, if◌then◌else◌}
use Rattle.std.specs.Prelude.{is_some, option_map, slice_get}
use Rattle.std.specs.Ordering.{nat_cmp, is_eq}
use Rattle.std.proofs.lemmas.Bool.{cases_eq}
use Rattle.fuse_spec.specs.Values.Maps.{Map, get, put, remove}
use Rattle.fuse_spec.proofs.Tables.{cmp_same, get_put_there, get_gone_here}
use Rattle.fk_kernel.specs.Soundness.{AreSoundCalls}
pub use Rattle.fk_nodes.proofs.Lengths.{length_put, length_kept, gone_none, length_gone, gone_absent}

module _ {V : Type 0} where
  abbrev entry : ℕ → V → Option (ℕ × V)
  entry k v = Some (k, v)

  -- the lowest entry is found under its key
  pub first_found : (m : Map V) (k : ℕ) (v : Option V)
      → option_map {T = ℕ × V} {U = ℕ} (λ e. e.0) (slice_get m 0) ≡ Some k → v ≡ get m k
      → option_map {T = V} {U = ℕ × V} (λ x. (k, x)) v ≡ slice_get m 0
  first_found [] k v first found =
      let no : None ≡ Some k = first in
      cc
  first_found (e ∷ m) k v first found =
      let same : e.0 ≡ k = cc first in
      let here : v ≡ Some e.1 = found ∙ ap (λ (n : ℕ). cond (is_eq (nat_cmp n e.0)) (Some e.1) (get m n))
      (sym same) ∙ ap (λ r. cond (is_eq r) (Some e.1) (get m e.0)) (cmp_same e.0) in
      ap (option_map {T = V} {U = ℕ × V} (λ x. (k, x))) here ∙ ap (λ (n : ℕ). entry n e.1) (sym same)

  -- a look-up that finds something does not find nothing
  pub there_is : (o : Option V) → is_some o ≡ true → o ≢ None
  there_is None e = absurd (true≢false (sym e))
  there_is (Some v) e = λ h. true≢false (ap is_some h)

  none_is : (o : Option V) → is_some o ≡ false → o ≡ None
  none_is None e = refl
  none_is (Some v) e = absurd (true≢false e)

module _ {V W : Type 0} (calls : Map V) (answers : Map W) (free coming : ℕ)
    (old : AreSoundCalls calls answers free coming) where
  pub sound_begun_answered : (w : W) (free' : ℕ) → coming < 2 ^ 62 → length calls ≤ free'
      → AreSoundCalls calls (put answers coming w) free' (coming + 1)
  sound_begun_answered w free' low room =
      record {
        calls_below = λ n le. old.calls_below n (omega arith);
        answers_below = λ n le. get_put_there answers coming w n (λ e. absurd (omega arith)) ∙ old.answers_below n
            (omega arith);
        apart = λ n there. get_put_there answers coming w n
            (λ e. there (old.calls_below n (omega arith))) ∙ old.apart n there;
        room = room;
        next = omega arith;
      }

  pub sound_begun_asking : (v : V) (free' : ℕ) → coming < 2 ^ 62 → length calls + 1 ≤ free'
      → AreSoundCalls (put calls coming v) answers free' (coming + 1)
  sound_begun_asking v free' low room =
      let long = length_put calls coming v in
      record {
        calls_below = λ n le. get_put_there calls coming v n (λ e. absurd (omega arith)) ∙ old.calls_below n
            (omega arith);
        answers_below = λ n le. old.answers_below n (omega arith);
        apart = λ n there. elim (cases_eq n coming) [
          | inl e ↦ old.answers_below n (omega arith)
          | inr ne ↦ old.apart n
              (λ none. there (get_put_there calls coming v n ne ∙ none))
        ];
        room = omega arith;
        next = omega arith;
      }

  pub sound_answered : (call : ℕ) (w : W) (free' : ℕ) → get calls call ≢ None → free ≤ free' + 1
      → AreSoundCalls (remove calls call) (put answers call w) free' coming
  sound_answered call w free' there room =
      let short = length_gone calls call there in
      let fits = old.room in
      record {
        calls_below = λ n le. gone_none calls call n (old.calls_below n le);
        answers_below = λ n le. get_put_there answers call w n
            (λ e. there (old.calls_below call (omega arith))) ∙ old.answers_below n le;
        apart = λ n still. elim (cases_eq n call) [
          | inl e ↦ absurd
              (still (subst (λ (m : ℕ). get (remove calls call) m ≡ None) (sym e)
              (get_gone_here calls call)))
          | inr ne ↦ get_put_there answers call w n ne ∙ old.apart n
              (λ none. still (gone_none calls call n none))
        ];
        room = omega arith;
        next = old.next;
      }

  -- a call that is there waits for something else
  pub sound_walks : (call : ℕ) (v : V) → get calls call ≢ None → length (put calls call v) ≡ length calls
      → AreSoundCalls (put calls call v) answers free coming
  sound_walks call v there same =
      let fits = old.room in
      record {
        calls_below = λ n le. get_put_there calls call v n
            (λ e. there (old.calls_below call (omega arith))) ∙ old.calls_below n le;
        answers_below = old.answers_below;
        apart = λ n still. elim (cases_eq n call) [
          | inl e ↦ old.apart n
              (λ none. there (ap (λ (m : ℕ). get calls m) (sym e) ∙ none))
          | inr ne ↦ old.apart n
              (λ none. still (get_put_there calls call v n ne ∙ none))
        ];
        room = omega arith;
        next = old.next;
      }

  pub sound_collected : (call : ℕ) (free' : ℕ) → free ≤ free' → AreSoundCalls calls (remove answers call) free' coming
  sound_collected call free' room =
      let fits = old.room in
      record {
        calls_below = old.calls_below;
        answers_below = λ n le. gone_none answers call n (old.answers_below n le);
        apart = λ n there. gone_none answers call n (old.apart n there);
        room = omega arith;
        next = old.next;
      }

-- room that grows by one where something was taken out grows
pub more_room : (old new : ℕ) (taken : Bool) → (if taken then old + 1 else old) ≤ new → old ≤ new
more_room old new true h = omega arith
more_room old new false h = h
