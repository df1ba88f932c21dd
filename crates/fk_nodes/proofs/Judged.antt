-- The names of a list are judged by the counts that those before them left, and by the counts after all of them alike.
use Rattle.std.proofs.Common.{◌≡◌, ℕ, Bool, true, false, cond, List, [], ◌∷◌, ◌++◌, Option, Some, None, nat_eq, map, option_map, refl, ap, sym, subst, ◌∙◌, inl, inr}
use Rattle.std.specs.Prelude.{nat_lt}
use Rattle.std.proofs.lemmas.Bool.{cases_eq}
use Rattle.std.proofs.lemmas.Bool.Decides.{eqb_tells}
use Rattle.fuse_spec.specs.declared.Counted.{Counted}
use Rattle.fuse_spec.specs.declared.Entry.{Entry}
use Rattle.fuse_spec.specs.Values.Maps.{Map, get, put}
use Rattle.fuse_spec.specs.Files.Operations.{DirentPlus, listed_by, first_listed, files_listed, pair_with}
use Rattle.fuse_spec.specs.Calls.Paths.{is_dots}
use Rattle.fuse_spec.specs.Kernel.Replies.{Use, usable, unusable, stale, use_counted, use_of, use_of_listed, counted_more, looked_up, pair_judged, looked_up_by, pairs_judged, stale_in, stale_among}
use Rattle.fuse_spec.proofs.Tables.{get_put_here, get_put_there}
use Rattle.fk_nodes.specs.LookedUp.{looked_up_by_use, looked_up_listed, looked_up_from, judged_in, stale_by}

-- ---- the file of a judged name

abbrev kept_by : Use → Option Entry → Option Entry
kept_by usable o = o
kept_by unusable o = None
kept_by (stale node) o = None

tells_none : (b : Bool) → ◌≡◌ {A = Option Entry} (cond b None None) None
tells_none true = refl
tells_none false = refl

listed_judged : (pair : DirentPlus Entry) (u : Use) → listed_by (pair_judged pair u) ≡ kept_by u (listed_by pair)
listed_judged pair usable = refl
listed_judged pair unusable = tells_none (is_dots pair.dirent.name)
listed_judged pair (stale node) = tells_none (is_dots pair.dirent.name)

looked_up_kept : (nodes : Map Counted) (g : Entry) (u : Use)
    → looked_up nodes (first_listed (kept_by u (Some g)) []) ≡ looked_up_by_use nodes g u
looked_up_kept nodes g usable = refl
looked_up_kept nodes g unusable = refl
looked_up_kept nodes g (stale node) = refl

kept_is : (nodes : Map Counted) (o : Option Entry)
    → looked_up nodes (first_listed (kept_by (use_of_listed nodes o) o) []) ≡ looked_up_listed nodes o
kept_is nodes None = refl
kept_is nodes (Some g) = looked_up_kept nodes g (use_of nodes g)

pub looked_up_by_is : (nodes : Map Counted) (pair : DirentPlus Entry)
    → looked_up_by nodes pair ≡ looked_up_listed nodes (listed_by pair)
looked_up_by_is nodes pair = ap (λ (o : Option Entry). looked_up nodes (first_listed o []))
    (listed_judged pair (use_of_listed nodes (listed_by pair))) ∙ kept_is nodes (listed_by pair)

in_turn : (nodes : Map Counted) (o : Option Entry) (files : List Entry)
    → looked_up nodes (first_listed o files) ≡ looked_up (looked_up nodes (first_listed o [])) files
in_turn nodes None files = refl
in_turn nodes (Some g) files = refl

-- The counts after the names of a list are those of the files that are listed once they are judged.
pub looked_up_is : (nodes : Map Counted) (pairs : List (DirentPlus Entry))
    → looked_up nodes (files_listed (pairs_judged nodes pairs)) ≡ looked_up_from nodes pairs
looked_up_is nodes [] = refl
looked_up_is nodes (pair ∷ pairs) =
    in_turn nodes (listed_by (judged_in nodes pair)) (files_listed (pairs_judged (looked_up_by nodes pair) pairs))
    ∙ looked_up_is (looked_up_by nodes pair) pairs
    ∙ ap (λ (m : Map Counted). looked_up_from m pairs) (looked_up_by_is nodes pair)

-- ---- a generation stays

abbrev pub generation_in : Map Counted → ℕ → Option ℕ
generation_in nodes id = option_map (λ (c : Counted). c.generation) (get nodes id)

more_generation : (g : Entry) (o : Option Counted) (generation : ℕ)
    → option_map (λ (c : Counted). c.generation) o ≡ Some generation → (counted_more g o).generation ≡ generation
more_generation g None generation at = absurd (cc)
more_generation g (Some c) generation at = cc

stays_by : (nodes : Map Counted) (g : Entry) (u : Use) (id generation : ℕ) → generation_in nodes id ≡ Some generation
    → generation_in (looked_up_by_use nodes g u) id ≡ Some generation
stays_by nodes g usable id generation at = elim (cases_eq id g.nodeid) [
  | inl e ↦
      let new = counted_more g (get nodes g.nodeid) in
      let there : generation_in nodes g.nodeid ≡ Some generation =
      subst (λ (n : ℕ). generation_in nodes n ≡ Some generation) e at in
      let found : get (put nodes g.nodeid new) id ≡ Some new =
      subst (λ (n : ℕ). get (put nodes g.nodeid new) n ≡ Some new) (sym e) (get_put_here nodes g.nodeid new) in
      ap (option_map (λ (c : Counted). c.generation)) found ∙ ap (λ (n : ℕ). Some n)
      (more_generation g (get nodes g.nodeid) generation there)
  | inr ne ↦ ap (option_map (λ (c : Counted). c.generation))
      (get_put_there nodes g.nodeid (counted_more g (get nodes g.nodeid)) id ne) ∙ at
]
stays_by nodes g unusable id generation at = at
stays_by nodes g (stale node) id generation at = at

stays_listed : (nodes : Map Counted) (o : Option Entry) (id generation : ℕ) → generation_in nodes id ≡ Some generation
    → generation_in (looked_up_listed nodes o) id ≡ Some generation
stays_listed nodes None id generation at = at
stays_listed nodes (Some g) id generation at = stays_by nodes g (use_of nodes g) id generation at

stays : (pairs : List (DirentPlus Entry)) (nodes : Map Counted) (id generation : ℕ)
    → generation_in nodes id ≡ Some generation → generation_in (looked_up_from nodes pairs) id ≡ Some generation
stays [] nodes id generation at = at
stays (pair ∷ pairs) nodes id generation at = stays pairs (looked_up_listed nodes (listed_by pair)) id generation
    (stays_listed nodes (listed_by pair) id generation at)

-- ---- an entry is judged alike by any later counts

use_by : (g : Entry) (o : Option Counted) (generation : ℕ)
    → option_map (λ (c : Counted). c.generation) o ≡ Some generation
    → use_counted g o ≡ cond (nat_eq generation g.generation) usable (stale g.nodeid)
use_by g None generation at = absurd (cc)
use_by g (Some c) generation at =
    let same : c.generation ≡ generation = cc at in
    ap (λ (n : ℕ). cond (nat_eq n g.generation) usable (stale g.nodeid)) same

alike_by : (nodes later : Map Counted) (g : Entry) (o : Option Counted) → get nodes g.nodeid ≡ o
    → ((generation : ℕ) → generation_in (looked_up_by_use nodes g (use_counted g o)) g.nodeid ≡ Some generation
    → generation_in later g.nodeid ≡ Some generation)
    → use_counted g o ≡ use_counted g (get later g.nodeid)
alike_by nodes later g None at more =
    let new = counted_more g (get nodes g.nodeid) in
    let fresh : new.generation ≡ g.generation = ap (λ (x : Option Counted). (counted_more g x).generation) at in
    let there : generation_in (put nodes g.nodeid new) g.nodeid ≡ Some g.generation =
    ap (option_map (λ (c : Counted). c.generation)) (get_put_here nodes g.nodeid new) ∙ ap
    (λ (n : ℕ). Some n) fresh in
    sym (use_by g (get later g.nodeid) g.generation (more g.generation there) ∙ ap
    (λ (b : Bool). cond b usable (stale g.nodeid)) (itself g.generation))
  where
    itself : (n : ℕ) → nat_eq n n ≡ true
    itself n = elim (eqb_tells n n) [ inl h ↦ h.0 | inr h ↦ absurd (h.1 refl) ]
alike_by nodes later g (Some c) at more =
    let here : generation_in nodes g.nodeid ≡ Some c.generation = ap (option_map (λ (x : Counted). x.generation)) at in
    sym (use_by g (get later g.nodeid) c.generation (more c.generation
    (stays_by nodes g (use_counted g (Some c)) g.nodeid c.generation here)))

alike_low : (b : Bool) (nodes later : Map Counted) (g : Entry)
    → ((generation : ℕ) → generation_in (looked_up_by_use nodes g
    (cond b unusable (use_counted g (get nodes g.nodeid)))) g.nodeid ≡ Some generation
    → generation_in later g.nodeid ≡ Some generation)
    → cond b unusable (use_counted g (get nodes g.nodeid)) ≡ cond b unusable (use_counted g (get later g.nodeid))
alike_low true nodes later g more = refl
alike_low false nodes later g more = alike_by nodes later g (get nodes g.nodeid) refl more

alike : (nodes : Map Counted) (o : Option Entry) (pairs : List (DirentPlus Entry))
    → use_of_listed nodes o ≡ use_of_listed (looked_up_from (looked_up_listed nodes o) pairs) o
alike nodes None pairs = refl
alike nodes (Some g) pairs =
    alike_low (nat_lt g.nodeid 2) nodes (looked_up_from (looked_up_listed nodes (Some g)) pairs) g
    (λ generation at. stays pairs (looked_up_listed nodes (Some g)) g.nodeid generation at)

-- So each name may be judged by the counts after all of them.
pub settled : (nodes : Map Counted) (pairs : List (DirentPlus Entry))
    → pairs_judged nodes pairs ≡ map (judged_in (looked_up_from nodes pairs)) pairs
settled nodes [] = refl
settled nodes (pair ∷ pairs) =
    let next = looked_up_listed nodes (listed_by pair) in
    let rest : pairs_judged (looked_up_by nodes pair) pairs ≡ map (judged_in (looked_up_from next pairs)) pairs =
    ap (λ (m : Map Counted). pairs_judged m pairs) (looked_up_by_is nodes pair) ∙ settled next pairs in
    ap (λ (u : Use). pair_judged pair u ∷ pairs_judged (looked_up_by nodes pair) pairs) (alike nodes (listed_by pair) pairs)
    ∙ ap (λ (ps : List (DirentPlus Entry)). judged_in (looked_up_from next pairs) pair ∷ ps) rest

pub stale_settled : (nodes : Map Counted) (pairs : List (DirentPlus Entry))
    → stale_among nodes pairs ≡ stale_by (looked_up_from nodes pairs) pairs
stale_settled nodes [] = refl
stale_settled nodes (pair ∷ pairs) =
    let next = looked_up_listed nodes (listed_by pair) in
    let rest : stale_among (looked_up_by nodes pair) pairs ≡ stale_by (looked_up_from next pairs) pairs =
    ap (λ (m : Map Counted). stale_among m pairs) (looked_up_by_is nodes pair) ∙ stale_settled next pairs in
    ap (λ (u : Use). stale_in u ++ stale_among (looked_up_by nodes pair) pairs) (alike nodes (listed_by pair) pairs)
    ∙ ap (λ (ns : List ℕ). stale_in (use_of_listed (looked_up_from next pairs) (listed_by pair)) ++ ns) rest

-- The names are listed as they came.
dirent_kept : (pair : DirentPlus Entry) (u : Use) → (pair_judged pair u).dirent ≡ pair.dirent
dirent_kept pair usable = refl
dirent_kept pair unusable = refl
dirent_kept pair (stale node) = refl

pub dirents_kept : (nodes : Map Counted) (pairs : List (DirentPlus Entry))
    → map (λ (p : DirentPlus ℕ). p.dirent) (map (pair_with (λ (g : Entry). g.nodeid)) (pairs_judged nodes pairs))
    ≡ map (λ (p : DirentPlus Entry). p.dirent) pairs
dirents_kept nodes [] = refl
dirents_kept nodes (pair ∷ pairs) = λ i. dirent_kept pair (use_of_listed nodes (listed_by pair)) i ∷ dirents_kept
    (looked_up_by nodes pair) pairs i
