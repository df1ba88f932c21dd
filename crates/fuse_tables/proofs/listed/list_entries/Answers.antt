use Rattle.std.proofs.Common.{ℕ, ◌≡◌, ◌++◌, ◌∷◌, [], take, drop, rules, refl, sym, ap, subst, ◌∙◌, append_assoc}
use Rattle.fuse_tables.specs.LateValues.{entries_of}
use Rattle.fuse_tables.specs.LiveRows.{live}
use Rattle.fuse_tables.proofs.ListedRows.{AreLeft, left_after, left_first, listed_next}
use Rattle.fuse_tables.proofs.listed.list_entries.Goals as goal

pub loop-key-init : goal.loop-key-init
loop-key-init g c =
    let same : c.into_iter-key-iterator.result ≡ c.args.late.now.entries = search rules in
    let gives = c.into_iter-key-iterator.ensures.into_iter_gives in
    (rw (c.new-list.ensures.items, same) refl, rw same (left_first c.requires gives.5))

pub loop-key-preserved : goal.loop-key-preserved
loop-key-preserved g c =
    let rows = c.args.rows.now.items in
    let from = c.loop-key.from in
    let to = c.place_in-to.result in
    let before = live (drop from (take to rows)) in
    let list = c.loop-key.list.items in
    let o : ℕ × g.row.V.Denot = (c.in-Some.key.now, c.in-Some.value.now) in
    let front : c.loop-key.key-iterator ≡ o ∷ c.next.new.self = search rules in
    let place = rw c.key.view_is at c.place_in-to.ensures.place in
    let pushed = rw c.key.view_is at c.in_ok-push.ensures.items in
    let left : AreLeft rows from (o ∷ c.next.new.self) = rw front at c.loop-key.invariant.1 in
    let rest = entries_of (drop to rows) c.next.new.self in
    let next = subst (λ t. entries_of (drop from rows) (o ∷ c.next.new.self)
    ≡ live (drop from (take t rows)) ++ o ∷ entries_of (drop t rows) c.next.new.self) (sym place)
    (listed_next rows from o c.next.new.self c.requires.sorted left) in (
      ap (λ m. m ++ rest) (pushed ∙ ap (λ m. m ++ o ∷ []) c.in_ok-push_rows.ensures)
          ∙ append_assoc (list ++ before) (o ∷ []) rest ∙ append_assoc list before (o ∷ rest)
          ∙ ap (λ m. list ++ m) (sym next ∙ ap (entries_of (drop from rows)) (sym front)) ∙ c.loop-key.invariant.0,
      subst (λ t. AreLeft rows t c.next.new.self) (sym place) (left_after rows from o.0 c.next.new.self left.2 left.3),
    )
