-- The lines of a node's life, act after act.
use Rattle.std.proofs.Common.{◌≡◌, ℕ, ◌+◌, ◌-◌, Bool, true, false, cond, List, [], ◌∷◌, ◌++◌, refl, sym, ◌∙◌, ap, append_assoc, append-nil, arith, length, take, drop, get_or, ◌<◌, ◌≤◌, nat_eq, inl, inr}
use Rattle.std.proofs.lemmas.List.{drop_all, drop_more}
use Rattle.std.specs.Cmp.{nat_eq_equiv}
use Rattle.fuse_sessions.specs.declared.act.Act.{Act}
use Rattle.fuse_sessions.specs.declared.act.Act.TheVariants as act
use Rattle.fuse_sessions.specs.Counts.{forgets_of, gives_most, most_count}
use Rattle.fuse_sessions.specs.Sessions.{Session}
use Rattle.fuse_sessions.proofs.Laws.{left-more}
use Rattle.fw_check.specs.declared.life.Deed.{Deed}
use Rattle.fw_check.specs.declared.life.Deed.TheVariants as deed
use Rattle.fw_check.specs.declared.life.Doer.{Doer}
use Rattle.fw_check.specs.Life.{count_after, deed_of, doer_after, life_lines, life_text, of_node}
use Rattle.fw_check.proofs.StandingLaws.{next_act}

-- The loop over acts has passed so many of them, and put their lines.
pub record Passed (number node : ℕ) (first : Doer) (s : Session) (acts : List Act) (old text : List ℕ) (i : ℕ) (who : Doer) (count : ℕ) : Type 0 where
  pub counted : count ≡ most_count (s ++ take i acts) node
  pub lines : text ++ life_lines number node who (s ++ take i acts) (drop i acts) ≡ old ++ life_lines number node first s acts

pub passed_none : (number node count : ℕ) (first : Doer) (s : Session) (acts : List Act) (old : List ℕ) → most_count s node ≡ count
    → Passed number node first s acts old old 0 first count
passed_none number node count first s acts old is = record {
  counted = sym is ∙ ap (λ l. most_count l node) (sym (append-nil s));
  lines = ap (λ l. old ++ life_lines number node first l acts) (append-nil s);
}

gives_by : (b : Bool) (n : ℕ) → n + cond b 1 0 - 0 ≡ count_after n (cond b deed.Gives deed.Nothing)
gives_by true n = omega arith
gives_by false n = omega arith

names_by : (b : Bool) (n : ℕ) → n + 0 - 0 ≡ count_after n (cond b deed.Names deed.Nothing)
names_by true n = omega arith
names_by false n = omega arith

forgets_by : (b : Bool) (n less : ℕ) → n + 0 - cond b less 0 ≡ count_after n (cond b (deed.Forgets less) deed.Nothing)
forgets_by true n less = omega arith
forgets_by false n less = omega arith

-- a deed changes the count as its act does
pub counted_after : (s : Session) (node : ℕ) (a : Act) → most_count (s ++ a ∷ []) node ≡ count_after (most_count s node) (deed_of node a)
counted_after s node (act.Gives other file is_certain) =
    left-more (gives_most node) (forgets_of node) s (act.Gives other file is_certain) (inr refl)
    ∙ ap (λ b. most_count s node + cond b 1 0 - 0) (nat_eq_equiv.symm other node)
    ∙ gives_by (nat_eq node other) (most_count s node)
counted_after s node (act.Names other) =
    left-more (gives_most node) (forgets_of node) s (act.Names other) (inr refl)
    ∙ names_by (nat_eq node other) (most_count s node)
counted_after s node (act.Forgets other lookups) =
    left-more (gives_most node) (forgets_of node) s (act.Forgets other lookups) (inl refl)
    ∙ ap (λ b. most_count s node + 0 - cond b lookups 0) (nat_eq_equiv.symm other node)
    ∙ forgets_by (nat_eq node other) (most_count s node) lookups
counted_after s node a = left-more (gives_most node) (forgets_of node) s a (inr refl) ∙ names_by false (most_count s node)

pub passed_more : (number node : ℕ) (first : Doer) (s : Session) (acts : List Act) (old text new : List ℕ) (i : ℕ) (who next : Doer)
    (count later : ℕ) (d : Deed) (a : Act) → i < length acts → Passed number node first s acts old text i who count
    → next ≡ doer_after who (get_or acts i a) → d ≡ deed_of node (get_or acts i a) → later ≡ count_after count d
    → new ≡ text ++ life_text number next node later d → Passed number node first s acts old new (i + 1) next later
passed_more number node first s acts old text new i who next count later d a within was is_next is_deed is_later is_new = record {
  counted = now;
  lines = ap (λ l. l ++ life_lines number node next after tail) is_new
      ∙ ap (λ w. (text ++ life_text number w node later d) ++ life_lines number node w after tail) is_next
      ∙ ap (λ e. (text ++ life_text number (doer_after who act) node later e) ++ rest) is_deed
      ∙ ap (λ n. (text ++ life_text number (doer_after who act) node n (deed_of node act)) ++ rest) now
      ∙ append_assoc text (life_text number (doer_after who act) node (most_count after node) (deed_of node act)) rest
      ∙ ap (λ l. text ++ l) (sym step)
      ∙ was.lines;
}
  where
    act : Act
    act = get_or acts i a

    after : Session
    after = s ++ take (i + 1) acts

    tail : List Act
    tail = drop (i + 1) acts

    rest : List ℕ
    rest = life_lines number node (doer_after who act) after tail

    now : later ≡ most_count after node
    now = is_later ∙ ap (count_after count) is_deed ∙ ap (λ n. count_after n (deed_of node act)) was.counted
        ∙ sym (counted_after (s ++ take i acts) node act) ∙ ap (λ l. most_count l node) (next_act s acts i a within)

    step : life_lines number node who (s ++ take i acts) (drop i acts)
        ≡ life_text number (doer_after who act) node (most_count after node) (deed_of node act) ++ rest
    step = ap (λ l. life_lines number node who (s ++ take i acts) l) (drop_more acts i a within)
        ∙ ap (λ t. life_text number (doer_after who act) node (most_count t node) (deed_of node act)
        ++ life_lines number node (doer_after who act) t tail) (next_act s acts i a within)

pub passed_all : (number node count : ℕ) (first : Doer) (s : Session) (acts : List Act) (old text : List ℕ) (i : ℕ) (who : Doer)
    → length acts ≤ i → Passed number node first s acts old text i who count → text ≡ old ++ life_lines number node first s acts
passed_all number node count first s acts old text i who all was =
    sym (append-nil text) ∙ ap (λ l. text ++ life_lines number node who (s ++ take i acts) l) (sym (drop_all i acts all)) ∙ was.lines
