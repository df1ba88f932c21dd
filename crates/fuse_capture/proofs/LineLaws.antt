-- Lines that say nothing.
use Rattle.std.proofs.Common.{◌≡◌, ℕ, List, [], ◌∷◌, Result, Ok, Err, refl, sym, subst, ◌∙◌, inl, inr}
use Rattle.std.proofs.lemmas.List.{append_cancel_right}
use Rattle.std.specs.Prelude.{codes, IfErr, MatchResult}
use Rattle.fuse_sessions.specs.declared.act.Taken.{Taken}
use Rattle.fuse_sessions.specs.declared.transfer.Transfer.{Transfer}
use Rattle.fuse_sessions.specs.declared.transfer.Transfer.TheVariants.{Request, Written, SeveralReaders, SeveralWriters, Ended}
use Rattle.fuse_capture.specs.declared.line.CaptureFault.{CaptureFault}
use Rattle.fuse_capture.specs.declared.line.CaptureFault.TheVariants.{BadHex, WrongWords, UnknownDirection}
use Rattle.fuse_capture.specs.declared.line.CapturedFrame.{CapturedFrame}
use Rattle.fuse_capture.specs.declared.line.CaptureLine.TheVariants as line
use Rattle.fuse_capture.specs.Lines.{BeginsWithTimedFrame, HasBadHex, HasNoDirection, HasNoTransfer, IsFaultOf, IsOfFrame, IsResult, IsTextOf, LineFaultIs, SaysTransfer}
use Rattle.fuse_text.specs.Words.{words_of}
use Rattle.fuse_capture.specs.Readings.{AreRead, FrameFaultIs, HasNoMore, IsBad, IsTimeOf, IsTransferOf, ReadsFrame, SaysOfHex}
use Rattle.fuse_capture.proofs.ResultLaws.{differs, result_is_no_more}

-- ---- what the fault of a frame says of its line

is_directed : (first : List ℕ) (words : List (List ℕ)) → IsOfFrame first → HasNoDirection (first ∷ words) → ⊥
is_directed first words is none = none.0 is

fault_says : (first : List ℕ) (words : List (List ℕ)) (f : CaptureFault) → IsOfFrame first
    → SaysOfHex f (HasBadHex words) → IsFaultOf (first ∷ words) f
fault_says first words BadHex is says = (is, says)
fault_says first words WrongWords is says = (is_directed first words is, λ bad. says bad.1)
fault_says first words UnknownDirection is says = absurd says

-- ---- requests

no_more_none : HasNoMore []
no_more_none word later count e more = cc

-- what a line with `>` says is a frame alone
request_silent : (words : List (List ℕ))
    → ((bytes : List ℕ) → BeginsWithTimedFrame words bytes [] → ⊥)
    → (t : Transfer) → SaysTransfer (codes ">" ∷ words) t → ⊥
request_silent words bad (Request bytes) (rest, e, b) =
    let same : rest ≡ words = cc in bad bytes.now (subst (λ (l : List (List ℕ)). BeginsWithTimedFrame l bytes.now []) same b)
request_silent words bad (Written bytes t) (rest, result, e, b, r) = differs 62 60 refl e
request_silent words bad SeveralReaders e = differs 62 61 refl e
request_silent words bad SeveralWriters e = differs 62 61 refl e
request_silent words bad Ended (word, e, is) = differs 62 61 refl e

pub request_fault : (words : List (List ℕ)) (f : CaptureFault) → FrameFaultIs words f → IsBad (codes ">" ∷ words) f
request_fault words f fault = record {
  silent = request_silent words (λ bytes b. fault.none bytes [] b no_more_none);
  open_still = λ e. differs 62 61 refl e;
  says = fault_says (codes ">") words f (inl refl) fault.says;
}

-- words are left after the frame
pub request_left : (words : List (List ℕ)) (f : CapturedFrame) (left : List (List ℕ)) → ReadsFrame words f left
    → (left ≡ [] → ⊥) → IsBad (codes ">" ∷ words) WrongWords
request_left words f left reads some = record {
  silent = request_silent words (λ bytes b. some (sym (reads.only bytes [] b no_more_none)));
  open_still = λ e. differs 62 61 refl e;
  says = fault_says (codes ">") words WrongWords (inl refl) reads.good;
}

request_says : (words : List (List ℕ)) (f : CapturedFrame) → ReadsFrame words f [] → (t : Transfer)
    → IsTransferOf (line.Request f) t → SaysTransfer (codes ">" ∷ words) t
request_says words f reads (Request bytes) is = (words, refl, reads.begins bytes.now is)
request_says words f reads (Written bytes t) is = absurd is
request_says words f reads SeveralReaders is = absurd is
request_says words f reads SeveralWriters is = absurd is
request_says words f reads Ended is = absurd is

-- the frame is all
pub request_reads : (words : List (List ℕ)) (f : CapturedFrame) → ReadsFrame words f []
    → AreRead (codes ">" ∷ words) (line.Request f)
request_reads words f reads = record {
  says = request_says words f reads;
  time = λ first rest e. let same : words ≡ rest = cc in subst (λ (l : List (List ℕ)). IsTimeOf l f.time) same reads.time;
}

-- ---- what is written

written_silent : (words : List (List ℕ))
    → ((bytes : List ℕ) (rest : List (List ℕ)) (t : Taken) → BeginsWithTimedFrame words bytes rest → IsResult rest t → ⊥)
    → (t : Transfer) → SaysTransfer (codes "<" ∷ words) t → ⊥
written_silent words bad (Request bytes) (rest, e, b) = differs 60 62 refl e
written_silent words bad (Written bytes t) (rest, result, e, b, r) =
    let same : rest ≡ words = cc in
    bad bytes.now result t (subst (λ (l : List (List ℕ)). BeginsWithTimedFrame l bytes.now result) same b) r
written_silent words bad SeveralReaders e = differs 60 61 refl e
written_silent words bad SeveralWriters e = differs 60 61 refl e
written_silent words bad Ended (word, e, is) = differs 60 61 refl e

pub written_fault : (words : List (List ℕ)) (f : CaptureFault) → FrameFaultIs words f → IsBad (codes "<" ∷ words) f
written_fault words f fault = record {
  silent = written_silent words (λ bytes rest t b r. fault.none bytes rest b (result_is_no_more rest t r));
  open_still = λ e. differs 60 61 refl e;
  says = fault_says (codes "<") words f (inr refl) fault.says;
}

-- what is left after the frame is no result
pub written_left : (words : List (List ℕ)) (f : CapturedFrame) (left : List (List ℕ)) → ReadsFrame words f left
    → ((t : Taken) → IsResult left t → ⊥) → IsBad (codes "<" ∷ words) WrongWords
written_left words f left reads none = record {
  silent = written_silent words (λ bytes rest t b r.
      let same = reads.only bytes rest b (result_is_no_more rest t r) in
      none t (subst (λ (l : List (List ℕ)). IsResult l t) same r));
  open_still = λ e. differs 60 61 refl e;
  says = fault_says (codes "<") words WrongWords (inr refl) reads.good;
}

written_says : (words : List (List ℕ)) (f : CapturedFrame) (left : List (List ℕ)) (t : Taken) → ReadsFrame words f left
    → IsResult left t → (x : Transfer) → IsTransferOf (line.Written f t) x → SaysTransfer (codes "<" ∷ words) x
written_says words f left t reads result (Request bytes) is = absurd is
written_says words f left t reads result (Written bytes taken) is =
    (words, left, refl, reads.begins bytes.now is.0, subst (IsResult left) (sym is.1) result)
written_says words f left t reads result SeveralReaders is = absurd is
written_says words f left t reads result SeveralWriters is = absurd is
written_says words f left t reads result Ended is = absurd is

-- what is left is a result
pub written_reads : (words : List (List ℕ)) (f : CapturedFrame) (left : List (List ℕ)) (t : Taken)
    → ReadsFrame words f left → IsResult left t → AreRead (codes "<" ∷ words) (line.Written f t)
written_reads words f left t reads result = record {
  says = written_says words f left t reads result;
  time = λ first rest e. let same : words ≡ rest = cc in subst (λ (l : List (List ℕ)). IsTimeOf l f.time) same reads.time;
}

-- ---- lines and their texts

-- a line has one text
text_once : (line a b : List ℕ) → IsTextOf line a → IsTextOf line b → a ≡ b
text_once line a b (inl x) (inl y) = append_cancel_right a b (13 ∷ []) (sym x ∙ y)
text_once line a b (inl x) (inr y) = absurd (y.1 a x)
text_once line a b (inr x) (inl y) = absurd (x.1 b y)
text_once line a b (inr x) (inr y) = sym x.0 ∙ y.0

pub line_fault : (line text : List ℕ) (f : CaptureFault) → IsTextOf line text → (HasNoTransfer text → ⊥)
    → IsBad (words_of text) f → LineFaultIs line f
line_fault line text f is some bad = (
  λ (other, are, none). some (subst HasNoTransfer (text_once line other text are is) none),
  λ t (other, are, says).
      bad.silent t (subst (λ (l : List ℕ). SaysTransfer (words_of l) t) (text_once line other text are is) says),
  λ other are. subst (λ (l : List ℕ). IsFaultOf (words_of l) f) (text_once line text other is are) bad.says,
)

-- what follows of an error
pub on_error : {T E : Type 0} (P : T → Type 0) (Q R : E → Type 0) (r : Result T E) → ((e : E) → Q e → R e)
    → MatchResult r P Q → IfErr r R
on_error P Q R (Ok x) map h = tt
on_error P Q R (Err e) map h = map e h
