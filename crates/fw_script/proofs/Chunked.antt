-- Texts that are written by way of a chunk.
use Rattle.std.proofs.Common.{◌≡◌, ◌++◌, ℕ, List, [], ◌∷◌, Option, sym, ap, ◌∙◌, append_assoc, append-nil}
use Rattle.std.specs.Prelude.{flat_map}
use Rattle.std.specs.Io.KnownBytes.{Appends}
use Rattle.fw_script.specs.Chunks.{AppendsBut}
use Rattle.fuse_text.specs.Outputs.{AppendsSome}
use Rattle.std.proofs.KnownBytes.{Appends-trans}
use Rattle.fuse_text.proofs.Writes.{some_first, some_then}

-- nothing is held
pub but_none : (old new : Option (List ℕ)) (text held : List ℕ) → held ≡ [] → Appends old new text
    → AppendsBut old new text held
but_none old new text held empty wrote = record {
  wrote = text;
  part = wrote;
  all = ap (λ (l : List ℕ). text ++ l) empty ∙ append-nil text;
}

-- more is held
pub but_more : (old new : Option (List ℕ)) (text held more : List ℕ) → AppendsBut old new text held
    → AppendsBut old new (text ++ more) (held ++ more)
but_more old new text held more h = record {
  wrote = h.wrote;
  part = h.part;
  all = sym (append_assoc h.wrote held more) ∙ ap (λ (l : List ℕ). l ++ more) h.all;
}

-- what is held then, and more, was put too
pub but_then : (old mid new : Option (List ℕ)) (text held more after : List ℕ) → AppendsBut old mid text held
    → AppendsBut mid new (held ++ more) after → AppendsBut old new (text ++ more) after
but_then old mid new text held more after h k = record {
  wrote = h.wrote ++ k.wrote;
  part = Appends-trans old mid new h.wrote k.wrote h.part k.part;
  all = append_assoc h.wrote k.wrote after ∙ ap (λ (l : List ℕ). h.wrote ++ l) k.all
      ∙ sym (append_assoc h.wrote held more) ∙ ap (λ (l : List ℕ). l ++ more) h.all;
}

-- what is held was then written, or refused
pub but_written : (old mid new : Option (List ℕ)) (text held : List ℕ) → AppendsBut old mid text held
    → Appends mid new held → Appends old new text
but_written old mid new text held h wrote = rw (← h.all) (Appends-trans old mid new h.wrote held h.part wrote)

pub but_refused : (old mid new : Option (List ℕ)) (text held : List ℕ) → AppendsBut old mid text held
    → AppendsSome mid new held → AppendsSome old new text
but_refused old mid new text held h some = some_then old mid new h.wrote held text (sym h.all) h.part some

-- of a text, what is held and the texts of the elements that are left are still to be written
pub record Pending {T : Type 0} (f : T → List ℕ) (old now : Option (List ℕ)) (held whole : List ℕ) (left : List T) : Type 0 where
  pub done : List ℕ
  pub wrote : Appends old now done
  pub rest : done ++ (held ++ flat_map f left) ≡ whole

pub one_put : {T : Type 0} (f : T → List ℕ) (old mid new : Option (List ℕ)) (before after whole : List ℕ)
    (rest : List T) (x : T) → Pending f old mid before whole (x ∷ rest) → AppendsBut mid new (before ++ f x) after
    → Pending f old new after whole rest
one_put f old mid new before after whole rest x h put =
    let last = flat_map f rest in
    record {
      done = h.done ++ put.wrote;
      wrote = Appends-trans old mid new h.done put.wrote h.wrote put.part;
      rest = append_assoc h.done put.wrote (after ++ last) ∙ ap (λ (l : List ℕ). h.done ++ l)
          (sym (append_assoc put.wrote after last) ∙ ap (λ (l : List ℕ). l ++ last) put.all ∙ append_assoc before (f x) last)
          ∙ h.rest;
    }

-- one was refused, or what was held before it
pub some_put : {T : Type 0} (f : T → List ℕ) (old mid new : Option (List ℕ)) (held whole : List ℕ) (rest : List T) (x : T)
    → Pending f old mid held whole (x ∷ rest) → AppendsSome mid new (held ++ f x) → AppendsSome old new whole
some_put f old mid new held whole rest x h some =
    let last = flat_map f rest in
    some_then old mid new h.done (held ++ (f x ++ last)) whole (sym h.rest) h.wrote
    (some_first mid new (held ++ f x) last (held ++ (f x ++ last)) (sym (append_assoc held (f x) last)) some)
