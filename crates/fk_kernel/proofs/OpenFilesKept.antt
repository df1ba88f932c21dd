-- The open and the closed files as calls begin, end and close them.
use Rattle.std.proofs.Common.{◌≡◌, ◌≢◌, ℕ, ◌+◌, ◌≤◌, [], Option, Some, None, refl, sym, ap, subst, ◌∙◌, arith, inl, inr}
use Rattle.std.proofs.lemmas.Bool.{cases_eq}
use Rattle.fuse_spec.specs.Values.Maps.{Map, get, put, remove}
use Rattle.fuse_spec.specs.declared.Opened.{Opened}
use Rattle.fuse_spec.proofs.Tables.{get_put_here, get_put_there, get_gone_here}
use Rattle.fk_kernel.proofs.Sound.{gone_none}
use Rattle.fk_kernel.specs.Soundness.{AreFiles}

-- what is at a key after one is put is new, or was there
put_there : {V : Type 0} (m : Map V) (k n : ℕ) (v : V) → get m n ≢ None → get (put m k v) n ≢ None
put_there m k n v there = elim (cases_eq n k) [
  | inl e ↦ λ none.
      let no : Some v ≡ None = sym (get_put_here m k v) ∙ ap (λ (i : ℕ). get (put m k v) i) (sym e) ∙ none in
      cc
  | inr ne ↦ λ none. there (sym (get_put_there m k v n ne) ∙ none)
]

pub some_not_none : {X : Type 0} (o : Option X) (x : X) → o ≡ Some x → o ≢ None
some_not_none {X} o x is none =
    let no : ◌≡◌ {A = Option X} (Some x) None = sym is ∙ none in
    cc

module _ {V : Type 0} (calls : Map V) (opens closing : Map Opened) (coming : ℕ)
    (old : AreFiles calls opens closing coming) where
  -- the next number is allocated
  pub numbered_files : AreFiles calls opens closing (coming + 1)
  numbered_files = record {
    opens_below = λ n le. old.opens_below n (omega arith);
    closing_below = λ n le. old.closing_below n (omega arith);
    opens_apart = old.opens_apart;
    closing_apart = old.closing_apart;
    closed_once = old.closed_once;
  }

  -- a call of the next number asks
  pub asking_files : (v : V) → AreFiles (put calls coming v) opens closing (coming + 1)
  asking_files v = record {
    opens_below = λ n le. old.opens_below n (omega arith);
    closing_below = λ n le. old.closing_below n (omega arith);
    opens_apart = λ n there. elim (cases_eq n coming) [
      | inl e ↦ old.opens_below n
          (omega arith)
      | inr ne ↦ old.opens_apart n (λ none. there (get_put_there calls coming v n ne ∙ none))
    ];
    closing_apart = λ n there. elim (cases_eq n coming) [
      | inl e ↦ old.closing_below n
          (omega arith)
      | inr ne ↦ old.closing_apart n (λ none. there (get_put_there calls coming v n ne ∙ none))
    ];
    closed_once = old.closed_once;
  }

  -- a call that is there asks anew
  pub walking_files : (call : ℕ) (v : V) → get calls call ≢ None → AreFiles (put calls call v) opens closing coming
  walking_files call v is_there = record {
    opens_below = old.opens_below;
    closing_below = old.closing_below;
    opens_apart = λ n there. elim (cases_eq n call) [
      | inl e ↦ old.opens_apart n
          (λ none. is_there (ap (λ (i : ℕ). get calls i) (sym e) ∙ none))
      | inr ne ↦ old.opens_apart n
          (λ none. there (get_put_there calls call v n ne ∙ none))
    ];
    closing_apart = λ n there. elim (cases_eq n call) [
      | inl e ↦ old.closing_apart n
          (λ none. is_there (ap (λ (i : ℕ). get calls i) (sym e) ∙ none))
      | inr ne ↦ old.closing_apart n
          (λ none. there (get_put_there calls call v n ne ∙ none))
    ];
    closed_once = old.closed_once;
  }

  -- a call is answered
  pub answered_files : (call : ℕ) → AreFiles (remove calls call) opens closing coming
  answered_files call = record {
    opens_below = old.opens_below;
    closing_below = old.closing_below;
    opens_apart = λ n there. old.opens_apart n (λ none. there (gone_none calls call n none));
    closing_apart = λ n there. old.closing_apart n (λ none. there (gone_none calls call n none));
    closed_once = old.closed_once;
  }

  -- a call is answered, and the file that it opened is open
  pub opened_files : (below : (n : ℕ) → coming ≤ n → get calls n ≡ None) (call : ℕ) (file : Opened)
      → get calls call ≢ None → AreFiles (remove calls call) (put opens call file) closing coming
  opened_files below call file is_there = record {
    opens_below = λ n le. get_put_there opens call file n
        (λ e. is_there (ap (λ (i : ℕ). get calls i) (sym e) ∙ below n le)) ∙ old.opens_below n le;
    closing_below = old.closing_below;
    opens_apart = λ n there. elim (cases_eq n call) [
      | inl e ↦ absurd (there (subst (λ (i : ℕ). get (remove calls call) i ≡ None) (sym e) (get_gone_here calls call)))
      | inr ne ↦ get_put_there opens call file n ne ∙ old.opens_apart n (λ none. there (gone_none calls call n none))
    ];
    closing_apart = λ n there. old.closing_apart n (λ none. there (gone_none calls call n none));
    closed_once = λ n there. elim (cases_eq n call) [
      | inl e ↦ old.closing_apart n (λ none. is_there (ap (λ (i : ℕ). get calls i) (sym e) ∙ none))
      | inr ne ↦ old.closed_once n (λ none. there (get_put_there opens call file n ne ∙ none))
    ];
  }

  -- a file is open no longer
  pub shut_files : (open_call : ℕ) → AreFiles calls (remove opens open_call) closing coming
  shut_files open_call = record {
    opens_below = λ n le. gone_none opens open_call n (old.opens_below n le);
    closing_below = old.closing_below;
    opens_apart = λ n there. gone_none opens open_call n (old.opens_apart n there);
    closing_apart = old.closing_apart;
    closed_once = λ n there. old.closed_once n (λ none. there (gone_none opens open_call n none));
  }

  -- it is closed while it is used
  pub closed_files : (open_call : ℕ) (file : Opened) → get opens open_call ≢ None
      → AreFiles calls (remove opens open_call) (put closing open_call file) coming
  closed_files open_call file is_open = record {
    opens_below = λ n le. gone_none opens open_call n (old.opens_below n le);
    closing_below = λ n le. get_put_there closing open_call file n
        (λ e. is_open (ap (λ (i : ℕ). get opens i) (sym e) ∙ old.opens_below n le)) ∙ old.closing_below n le;
    opens_apart = λ n there. gone_none opens open_call n (old.opens_apart n there);
    closing_apart = λ n there. get_put_there closing open_call file n
        (λ e. is_open (ap (λ (i : ℕ). get opens i) (sym e) ∙ old.opens_apart n there)) ∙ old.closing_apart n there;
    closed_once = λ n there. elim (cases_eq n open_call) [
      | inl e ↦ absurd (there (subst (λ (i : ℕ). get (remove opens open_call) i ≡ None) (sym e)
          (get_gone_here opens open_call)))
      | inr ne ↦ get_put_there closing open_call file n ne ∙ old.closed_once n
          (λ none. there (gone_none opens open_call n none))
    ];
  }

  -- a closed file is released
  pub released_files : (open_call : ℕ) → AreFiles calls opens (remove closing open_call) coming
  released_files open_call = record {
    opens_below = old.opens_below;
    closing_below = λ n le. gone_none closing open_call n (old.closing_below n le);
    opens_apart = old.opens_apart;
    closing_apart = λ n there. gone_none closing open_call n (old.closing_apart n there);
    closed_once = λ n there. gone_none closing open_call n (old.closed_once n there);
  }

-- No file is open.
pub no_files : {V : Type 0} (calls : Map V) (coming : ℕ) → AreFiles calls [] [] coming
no_files calls coming = record {
  opens_below = λ n le. refl;
  closing_below = λ n le. refl;
  opens_apart = λ n there. refl;
  closing_apart = λ n there. refl;
  closed_once = λ n there. refl;
}
