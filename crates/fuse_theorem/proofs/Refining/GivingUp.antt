-- Everything is abandoned: the unanswered calls are answered alike in both worlds.
use Rattle.std.proofs.Common.{◌≡◌, ℕ, Bool, true, false, cond, [], ◌∷◌, Option, Some, None, is_some, refl, ap, sym, subst, ◌∙◌}
use Rattle.std.specs.Prelude.{T}
use Rattle.std.specs.Ordering.{nat_cmp, eq_by_cmp}
use Rattle.std.specs.Cmp.{nat_cmp_total}
use Rattle.std.specs.FinMap.{is_sorted, nat_cmp-IsAntisymmetric}
use Rattle.std.specs.FinMap.Entries.{is_sorted-put, same_entries}
use Rattle.fuse_spec.specs.declared.Counted.{Counted}
use Rattle.fuse_spec.specs.Values.Maps.{Map, get}
use Rattle.fuse_spec.specs.Values.Numbers.{econnaborted}
use Rattle.fuse_spec.specs.Calls.Answers.{Answer, failed}
use Rattle.fuse_spec.specs.Calls.Vfs.{Vfs, all_answered, abandoned}
use Rattle.fuse_spec.specs.Server.Nodes.{NodeTable}
use Rattle.fuse_spec.specs.Claim.Denotes.{NodeDenotes, StateAlike}
use Rattle.fuse_spec.specs.Files.Operations.{OptionAlike}
use Rattle.fuse_spec.specs.Claim.Alike.{VfsAlike}
use Rattle.fuse_spec.proofs.Tables.{get_put}

-- The answers are those from before, and one to each unanswered call.
answer_of : {X : Type 0} (answer : Answer) (calls : Map X) (answers : Map Answer) (call : ℕ)
    → get (all_answered answer calls answers) call ≡ cond (is_some (get calls call)) (Some answer) (get answers call)
answer_of answer [] answers call = refl
answer_of answer (e ∷ calls) answers call = get_put (all_answered answer calls answers) e.0 answer call ∙ by
    (eq_by_cmp nat_cmp call e.0) (answer_of answer calls answers call)
  where
    by : (b : Bool) → get (all_answered answer calls answers) call
        ≡ cond (is_some (get calls call)) (Some answer) (get answers call)
        → cond b (Some answer) (get (all_answered answer calls answers) call)
        ≡ cond (is_some (cond b (Some e.1) (get calls call))) (Some answer) (get answers call)
    by true rest = refl
    by false rest = rest

pub answers_sorted : {X : Type 0} (answer : Answer) (calls : Map X) (answers : Map Answer)
    → T (is_sorted nat_cmp answers) → T (is_sorted nat_cmp (all_answered answer calls answers))
answers_sorted answer [] answers sorted = sorted
answers_sorted answer (e ∷ calls) answers sorted =
    is_sorted-put nat_cmp nat_cmp_total e.0 answer (all_answered answer calls answers)
    (answers_sorted answer calls answers sorted)

both_there : {X Y : Type 0} (R : X → Y → Type 0) (a : Option X) (b : Option Y) → OptionAlike R a b
    → is_some a ≡ is_some b
both_there R None None h = refl
both_there R (Some x) (Some y) h = refl
both_there R None (Some y) h = absurd h
both_there R (Some x) None h = absurd h

-- Where the same calls are unanswered, the answers are the same.
same_answers : {X Y : Type 0} (R : X → Y → Type 0) (answer : Answer) (calls : Map X) (calls' : Map Y)
    (answers : Map Answer) → T (is_sorted nat_cmp answers)
    → ((call : ℕ) → OptionAlike R (get calls call) (get calls' call))
    → all_answered answer calls answers ≡ all_answered answer calls' answers
same_answers R answer calls calls' answers sorted alike =
    same_entries nat_cmp nat_cmp_total nat_cmp-IsAntisymmetric (all_answered answer calls answers)
    (all_answered answer calls' answers) (answers_sorted answer calls answers sorted)
    (answers_sorted answer calls' answers sorted)
    (λ call. answer_of answer calls answers call ∙ ap (λ (b : Bool). cond b (Some answer) (get answers call))
    (both_there R (get calls call) (get calls' call) (alike call)) ∙ sym (answer_of answer calls' answers call))

-- Whatever the nodes denote then, as long as the roots are alike.
pub abandoned_alike : {O P : Type 0} (R R' : ℕ → ℕ → Type 0) (S S' : O → P → Type 0) (c : Vfs O) (d : Vfs P)
    → VfsAlike R S c d → T (is_sorted nat_cmp c.answers) → R' c.root d.root → VfsAlike R' S' (abandoned c) (abandoned d)
abandoned_alike R R' S S' c d same sorted roots = record {
  names = λ id file name r. tt;
  names_meant = λ id name there. absurd (there refl);
  names_reached = λ file name there. absurd (there refl);
  opens = λ open_call. tt;
  calls = λ call. tt;
  answers = same_answers (StateAlike R S) (failed econnaborted) c.calls d.calls c.answers sorted same.calls ∙ ap
      (λ (answers : Map Answer). all_answered (failed econnaborted) d.calls answers) same.answers;
  next_call = same.next_call;
  clock = same.clock;
  roots = roots;
}

-- What node 1 denotes is not a matter of the tables.
pub root_means : (nodes nodes' : Map Counted) (t t' : NodeTable) (id file : ℕ) → id ≡ 1 → NodeDenotes nodes t id file
    → NodeDenotes nodes' t' id file
root_means nodes nodes' t t' id file is means = subst (λ (n : ℕ). NodeDenotes nodes' t' n file) (sym is)
    (of_root (subst (λ (n : ℕ). NodeDenotes nodes t n file) is means))
  where
    of_root : NodeDenotes nodes t 1 file → NodeDenotes nodes' t' 1 file
    of_root old =
        let row = old.denotes in
        record {
          generation = old.generation;
          known = old.known;
          denotes = record {
            row = row.row;
            there = row.there;
            same_generation = row.same_generation;
            same_file = row.same_file;
          };
        }
