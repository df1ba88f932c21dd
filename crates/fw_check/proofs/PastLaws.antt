-- The traces of the lines before, one after another, and the last of them that passes a test.
use Rattle.std.proofs.Common.{◌≡◌, ℕ, ◌+◌, ◌-◌, ◌<◌, ◌≤◌, Bool, true, false, cond, List, [], ◌∷◌, ◌++◌, Some, None, length, take, drop, get_or, sym, ap, subst, ◌∙◌, append_assoc, append-nil, arith}
use Rattle.std.proofs.lemmas.List.{drop_all, drop_more, take_all, take_more}
use Rattle.fuse_sessions.specs.declared.act.Act.{Act}
use Rattle.fuse_sessions.specs.Sessions.{Session, or_earlier}
use Rattle.fuse_sessions.proofs.Laws.{latest-more}
use Rattle.fw_check.specs.declared.past.Trace.{Trace}
use Rattle.fw_check.specs.Past.{latest_trace, trace_of, traces_of}
use Rattle.fw_check.specs.Standing.{Stands}
use Rattle.fw_check.specs.declared.file_key.FileKey.{FileKey}
use Rattle.fw_check.proofs.StandingLaws.{next_act}

-- the traces that were passed, with the next one
pub next_trace : (all traces : List Trace) (i : ℕ) (t : Trace) → i < length traces
    → (all ++ take i traces) ++ get_or traces i t ∷ [] ≡ all ++ take (i + 1) traces
next_trace all traces i t within = append_assoc all (take i traces) (get_or traces i t ∷ [])
    ∙ ap (λ l. all ++ l) (sym (take_more traces i t within))

-- ---- the traces of a transfer's acts

-- The loop over acts has passed so many of them, and written their traces.
pub record Traced (number : ℕ) (s : Session) (acts : List Act) (traces : List Trace) (i : ℕ) (nodes : List (ℕ × ℕ))
    (files : List (FileKey × ℕ)) : Type 0 where
  pub stands : Stands (s ++ take i acts) nodes files
  pub written : traces ++ traces_of number (s ++ take i acts) (drop i acts) ≡ traces_of number s acts

pub traced_none : (number : ℕ) (s : Session) (acts : List Act) (traces : List Trace) (nodes : List (ℕ × ℕ)) (files : List (FileKey × ℕ))
    → traces ≡ [] → Stands s nodes files → Traced number s acts traces 0 nodes files
traced_none number s acts traces nodes files none stands = record {
  stands = subst (λ (l : Session). Stands l nodes files) (sym (append-nil s)) stands;
  written = ap (λ l. l ++ traces_of number (s ++ []) acts) none ∙ ap (λ (l : Session). traces_of number l acts) (append-nil s);
}

pub traced_more : (number : ℕ) (s : Session) (acts : List Act) (old new : List Trace) (i : ℕ) (a : Act)
    (nodes later : List (ℕ × ℕ)) (files after : List (FileKey × ℕ)) → i < length acts → Traced number s acts old i nodes files
    → (Stands (s ++ take i acts) nodes files → Stands ((s ++ take i acts) ++ get_or acts i a ∷ []) later after)
    → (Stands ((s ++ take i acts) ++ get_or acts i a ∷ []) later after → new ≡ old ++ trace_of number (s ++ take i acts) (get_or acts i a))
    → Traced number s acts new (i + 1) later after
traced_more number s acts old new i a nodes later files after within was noted written = record {
  stands = subst (λ (l : Session). Stands l later after) next stands;
  written = ap (λ l. l ++ rest (s ++ take (i + 1) acts)) (written stands)
      ∙ append_assoc old (trace_of number (s ++ take i acts) act) (rest (s ++ take (i + 1) acts))
      ∙ ap (λ l. old ++ (trace_of number (s ++ take i acts) act ++ rest l)) (sym next)
      ∙ ap (λ l. old ++ traces_of number (s ++ take i acts) l) (sym (drop_more acts i a within))
      ∙ was.written;
}
  where
    act : Act
    act = get_or acts i a

    next : (s ++ take i acts) ++ act ∷ [] ≡ s ++ take (i + 1) acts
    next = next_act s acts i a within

    stands : Stands ((s ++ take i acts) ++ act ∷ []) later after
    stands = noted was.stands

    rest : Session → List Trace
    rest l = traces_of number l (drop (i + 1) acts)

pub traced_all : (number : ℕ) (s : Session) (acts : List Act) (traces : List Trace) (i : ℕ) (nodes : List (ℕ × ℕ))
    (files : List (FileKey × ℕ)) → length acts ≤ i → Traced number s acts traces i nodes files
    → Stands (s ++ acts) nodes files × (traces ≡ traces_of number s acts)
traced_all number s acts traces i nodes files all was = (
  subst (λ (l : Session). Stands (s ++ l) nodes files) (take_all i acts all) was.stands,
  sym (append-nil traces) ∙ ap (λ l. traces ++ traces_of number (s ++ take i acts) l) (sym (drop_all i acts all)) ∙ was.written,
)

-- ---- the last trace that passes a test

-- the newest is it, or is passed
latest_by : (test : Trace → Bool) (past : List Trace) (t : Trace)
    → latest_trace test (past ++ t ∷ []) ≡ or_earlier (cond (test t) (Some t) None) (latest_trace test past)
latest_by test past t = latest-more (λ t. cond (test t) (Some t) None) past t

-- the traces that are older than so many
abbrev pub older : List Trace → ℕ → List Trace
older past n = take (length past - n) past

split : (past : List Trace) (n m : ℕ) (t d : Trace) → n < length past → m ≡ length past - 1 - n → t ≡ get_or past m d
    → older past n ≡ older past (n + 1) ++ t ∷ []
split past n m t d within at is =
    let e : length past - n ≡ m + 1 = omega (arith, within, at) in
    let f : m ≡ length past - (n + 1) = omega (arith, within, at) in
    ap (λ k. take k past) e ∙ take_more past m d (omega (arith, within, at))
    ∙ ap (λ k. take k past ++ get_or past m d ∷ []) f
    ∙ ap (λ x. older past (n + 1) ++ x ∷ []) (sym is)

module _ (test : Trace → Bool) (past : List Trace) (n m : ℕ) (t d : Trace) (within : n < length past)
    (at : m ≡ length past - 1 - n) (is : t ≡ get_or past m d)
    (before : latest_trace test past ≡ latest_trace test (older past n)) where
  with_next : latest_trace test past ≡ or_earlier (cond (test t) (Some t) None) (latest_trace test (older past (n + 1)))
  with_next = before ∙ ap (latest_trace test) (split past n m t d within at is) ∙ latest_by test (older past (n + 1)) t

  pub latest_found : test t ≡ true → latest_trace test past ≡ Some t
  latest_found passes = with_next ∙ ap (λ b. or_earlier (cond b (Some t) None) (latest_trace test (older past (n + 1)))) passes

  pub latest_passed : test t ≡ false → latest_trace test past ≡ latest_trace test (older past (n + 1))
  latest_passed fails = with_next ∙ ap (λ b. or_earlier (cond b (Some t) None) (latest_trace test (older past (n + 1)))) fails
