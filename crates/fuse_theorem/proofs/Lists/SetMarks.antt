-- What stays as a request's mark is set.
use Rattle.std.proofs.Common.{◌≡◌, ℕ, ◌+◌, Bool, true, false, cond, List, [], ◌∷◌, nat_eq, count_by, refl, ap, sym, ◌∙◌, All}
use Rattle.std.proofs.lemmas.List.Elements.{All-cons, All-head, All-tail}
use Rattle.fuse_spec.specs.declared.Mark.{Mark}
use Rattle.fuse_spec.specs.declared.Purpose.{Purpose}
use Rattle.fuse_spec.specs.declared.QueuedRequest.{QueuedRequest}
use Rattle.fuse_spec.specs.Kernel.QueueCalls.{set_mark}
use Rattle.fuse_spec.specs.Kernel.Kernel.{is_for}
use Rattle.fuse_spec.proofs.QueueCounts.{count_by-cons}

-- each request after a mark is set
pub All-marked : (P : ℕ × QueuedRequest Purpose → Type 0) (u : ℕ) (m : Mark) (es : List (ℕ × QueuedRequest Purpose))
    → All P es → ((x : ℕ × QueuedRequest Purpose) → P x → P (x.0, record { mark = m; kept = x.1.kept }))
    → All P (set_mark u es m)
All-marked P u m [] h f = h
All-marked P u m (e ∷ es) h f = by (nat_eq u e.0) (All-marked P u m es (All-tail P e es h) f)
  where
    by : (b : Bool) → All P (set_mark u es m) → All P
        (cond b ((e.0, record { mark = m; kept = e.1.kept }) ∷ es) (e ∷ set_mark u es m))
    by true rest = All-cons P (e.0, record { mark = m; kept = e.1.kept }) es (f e (All-head P e es h))
        (All-tail P e es h)
    by false rest = All-cons P e (set_mark u es m) (All-head P e es h) rest

-- a mark changes no purpose
pub count_marked : (c u : ℕ) (m : Mark) (es : List (ℕ × QueuedRequest Purpose))
    → count_by (λ (e : ℕ × QueuedRequest Purpose). is_for c e.1.kept) (set_mark u es m)
    ≡ count_by (λ (e : ℕ × QueuedRequest Purpose). is_for c e.1.kept) es
count_marked c u m [] = refl
count_marked c u m (e ∷ es) = by (nat_eq u e.0) (count_marked c u m es)
  where
    Serves_c : ℕ × QueuedRequest Purpose → Bool
    Serves_c x = is_for c x.1.kept

    by : (b : Bool) → count_by Serves_c (set_mark u es m) ≡ count_by Serves_c es
        → count_by Serves_c (cond b ((e.0, record { mark = m; kept = e.1.kept }) ∷ es) (e ∷ set_mark u es m))
        ≡ count_by Serves_c (e ∷ es)
    by true rest = count_by-cons Serves_c (e.0, record { mark = m; kept = e.1.kept }) es ∙ sym
        (count_by-cons Serves_c e es)
    by false rest = count_by-cons Serves_c e (set_mark u es m) ∙ ap
        (λ (n : ℕ). cond (is_for c e.1.kept) 1 0 + n) rest ∙ sym (count_by-cons Serves_c e es)
