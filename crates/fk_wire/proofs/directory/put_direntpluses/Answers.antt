use Rattle.std.proofs.Common.{◌≡◌, ◌≤◌, ◌+◌, ◌++◌, ◌∷◌, List, refl, subst, arith, vec_len, vec_capacity}
use Rattle.fk_wire.specs.Fields.{InRange, spellings, sizes}
use Rattle.fk_wire.specs.Dirents.{DirentPlusContent, direntpluses, dirent_fields, HavePlusNames}
use Rattle.fk_wire.specs.Records.{pluses_in, direntplus_content}
use Rattle.fk_wire.proofs.RecordLists.{pluses_are_named}
use Rattle.fk_wire.proofs.Spelled.{pair_and, pair_in_range, sizes_of_entry}
use Rattle.fk_wire.proofs.directory.put_direntpluses.Goals as goal

pub pairs-init : goal.pairs-init
pairs-init g c = rw c.into_iter-pair-iterator.ensures.into_iter_gives
    (tt, tt, refl, c.requires, (λ h. h), pluses_are_named c.args.records)

pub pairs-preserved : goal.pairs-preserved
pairs-preserved g c =
    let p : DirentPlusContent = direntplus_content c.in-Some.pair in
    let rest : List DirentPlusContent = pluses_in c.next.new.self in
    let k : pluses_in c.pairs.pair-iterator ≡ p ∷ rest = c.in-Some.ensures.steps in
    let items : c.pairs.out.items ++ spellings (direntpluses (p ∷ rest)) ≡ c.args.out.now.items
    ++ spellings (direntpluses (pluses_in c.args.records)) =
    subst (λ (ps : List DirentPlusContent). c.pairs.out.items ++ spellings (direntpluses ps) ≡ c.args.out.now.items
    ++ spellings (direntpluses (pluses_in c.args.records))) k c.pairs.invariant.2 in
    let room : vec_len c.pairs.out + sizes (direntpluses (p ∷ rest)) ≤ vec_capacity c.pairs.out =
    subst (λ (ps : List DirentPlusContent). vec_len c.pairs.out + sizes
    (direntpluses ps) ≤ vec_capacity c.pairs.out) k c.pairs.invariant.3 in
    let fits : InRange (direntpluses (p ∷ rest)) → InRange (direntpluses (pluses_in c.args.records)) =
    subst (λ (ps : List DirentPlusContent). InRange (direntpluses ps)
    → InRange (direntpluses (pluses_in c.args.records))) k c.pairs.invariant.4 in
    let names : HavePlusNames (p ∷ rest) = subst HavePlusNames k c.pairs.invariant.5 in (
      tt,
      tt,
      pair_and p rest c.pairs.out.items c.put_entry.new.out.items c.put_dirent.new.out.items c.put_entry.ensures.items c.put_dirent.ensures.items items,
      omega (
        arith,
        room,
        sizes_of_entry p.entry_out (dirent_fields p.dirent (direntpluses rest)),
        c.put_entry.ensures.len,
        c.put_dirent.ensures.len,
        c.put_entry.ensures.capacity,
        c.put_dirent.ensures.capacity,
      ),
      (λ h. fits (pair_in_range p rest c.put_entry.ensures.fits c.put_dirent.ensures.fits h)),
      names.1,
    )
