-- A table of blocks of marks, as one number is marked.
use Rattle.std.proofs.Common.{◌≡◌, ℕ, Bool, ◌||◌, ◌+◌, ◌*◌, ◌/◌, ◌%◌, ◌<◌, cond, length, get_or, Option, Some, None, refl, sym, ◌∙◌, ap, subst, arith, nat_eq, inl, inr}
use Rattle.std.specs.Prelude.{slice_set}
use Rattle.std.proofs.Math.Nat.{div-add-mod, mod-lt}
use Rattle.std.proofs.lemmas.Bool.{cases_eq}
use Rattle.std.proofs.lemmas.List.{get_or-set_same, get_or-set_other, get_or-replicate, length-set, length-replicate}
use Rattle.std.proofs.lemmas.Option.{same_Some}
use Rattle.fuse_spec.specs.Values.Maps.{Map, get, put}
use Rattle.fuse_spec.proofs.Tables.{get_put_here, get_put_there}
use Rattle.fuse_judge.specs.declared.marks.Block.{Block}
use Rattle.fuse_judge.specs.declared.marks.Mark.{Mark}
use Rattle.fuse_judge.specs.declared.marks.Mark.TheVariants as mark
use Rattle.fuse_judge.specs.Numbers.{block_in, mark_at, mark_in, is_forgets, read_mark, AreWhole}
use Rattle.fuse_judge.proofs.Keys.{same, differ, all_after_put}

in_block : (n : ℕ) → n % 64 < 64
in_block n = mod-lt n (omega arith)

same_number : (a b : ℕ) → a / 64 ≡ b / 64 → a % 64 ≡ b % 64 → a ≡ b
same_number a b e f =
    let one : 64 * (a / 64) + a % 64 ≡ a = div-add-mod a 64 in
    let two : 64 * (b / 64) + b % 64 ≡ b = div-add-mod b 64 in
    omega (arith, one, two, e, f)

block_mark : (o : Option Block) (place : ℕ) → place < 64 → get_or (block_in o).marks place mark.Unread ≡ mark_at o place
block_mark None place small = get_or-replicate 64 place mark.Unread mark.Unread small
block_mark (Some block) place small = refl

whole_block : (numbers : Map Block) → AreWhole numbers → (key : ℕ) → length (block_in (get numbers key)).marks ≡ 64
whole_block numbers whole key = by (get numbers key) refl
  where
    by : (o : Option Block) → get numbers key ≡ o → length (block_in o).marks ≡ 64
    by None e = length-replicate 64 mark.Unread
    by (Some block) e = whole key block e

module _ (numbers : Map Block) (u : ℕ) (m : Mark) (whole : AreWhole numbers) where
  abbrev new_block : Block
  new_block = record { marks = slice_set (block_in (get numbers (u / 64))).marks (u % 64) m }

  pub marks_after : (q : ℕ) → mark_in (put numbers (u / 64) new_block) q ≡ cond (nat_eq u q) m (mark_in numbers q)
  marks_after q = elim (cases_eq (u / 64) (q / 64)) [
    | inl e ↦ elim (cases_eq (u % 64) (q % 64)) [
      | inl f ↦
          let is : u ≡ q = same_number u q e f in
          subst (λ k. mark_in (put numbers (u / 64) new_block) k ≡ cond (nat_eq u k) m (mark_in numbers k)) is
          (ap (λ o. mark_at o (u % 64)) (get_put_here numbers (u / 64) new_block)
          ∙ get_or-set_same (block_in (get numbers (u / 64))).marks (u % 64) m mark.Unread
          (subst (λ n. u % 64 < n) (sym (whole_block numbers whole (u / 64))) (in_block u))
          ∙ sym (ap (λ b. cond b m (mark_in numbers u)) (same u)))
      | inr ne ↦
          ap (λ k. mark_at (get (put numbers (u / 64) new_block) k) (q % 64)) (sym e)
          ∙ ap (λ o. mark_at o (q % 64)) (get_put_here numbers (u / 64) new_block)
          ∙ get_or-set_other (block_in (get numbers (u / 64))).marks (u % 64) (q % 64) m mark.Unread (λ h. ne (sym h))
          ∙ block_mark (get numbers (u / 64)) (q % 64) (in_block q)
          ∙ ap (λ k. mark_at (get numbers k) (q % 64)) e
          ∙ sym (ap (λ b. cond b m (mark_in numbers q)) (differ u q (λ h. ne (ap (λ k. k % 64) h))))
    ]
    | inr ne ↦
        ap (λ o. mark_at o (q % 64)) (get_put_there numbers (u / 64) new_block (q / 64) (λ h. ne (sym h)))
        ∙ sym (ap (λ b. cond b m (mark_in numbers q)) (differ u q (λ h. ne (ap (λ k. k / 64) h))))
  ]

  pub whole_after : AreWhole (put numbers (u / 64) new_block)
  whole_after = all_after_put (λ q o. (block : Block) → o ≡ Some block → length block.marks
      ≡ 64) numbers (u / 64) new_block
      (λ block e. subst (λ b. length b.marks ≡ 64) (same_Some new_block block e)
      (length-set (block_in (get numbers (u / 64))).marks (u % 64) m ∙ whole_block numbers whole (u / 64)))
      (λ q ne block e. whole q block e)

  -- where this stands at the key of its block
  pub marks_read : (o : Option Block) (f : Bool) → get numbers (u / 64) ≡ o
      → m ≡ read_mark (is_forgets (mark_at o (u % 64)) || f) → (q : ℕ)
      → mark_in (put numbers (u / 64) record { marks = slice_set (block_in o).marks (u % 64) m }) q
      ≡ cond (nat_eq u q) (read_mark (is_forgets (mark_in numbers u) || f)) (mark_in numbers q)
  marks_read o f e is q = subst
      (λ p. m ≡ read_mark (is_forgets (mark_at p (u % 64)) || f)
      → mark_in (put numbers (u / 64) record { marks = slice_set (block_in p).marks (u % 64) m }) q
      ≡ cond (nat_eq u q) (read_mark (is_forgets (mark_in numbers u) || f)) (mark_in numbers q)) e
      (λ same_mark. marks_after q ∙ ap (λ n. cond (nat_eq u q) n (mark_in numbers q)) same_mark) is

  pub whole_read : (o : Option Block) → get numbers (u / 64) ≡ o
      → AreWhole (put numbers (u / 64) record { marks = slice_set (block_in o).marks (u % 64) m })
  whole_read o e = subst
      (λ p. AreWhole (put numbers (u / 64) record { marks = slice_set (block_in p).marks (u % 64) m })) e whole_after
