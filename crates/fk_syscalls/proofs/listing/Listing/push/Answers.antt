use Rattle.std.proofs.Common.{◌≡◌, ◌++◌, ◌∷◌, [], rules, refl, length}
use Rattle.fk_syscalls.proofs.RowsLemmas.{dirents_of-push}
use Rattle.fk_syscalls.proofs.listing.Listing.push.Goals as goal

pub returns-clause-ok : goal.returns-clause-ok
returns-clause-ok g c =
    let rows : c.push.new.self.items ≡ c.self.inside.rows.items ++ (record { ino = c.args.listed.ino; offset = c.args.listed.offset; kind = c.args.listed.kind; len = length c.args.listed.name.now }) ∷ [] = search rules in
    let bytes : c.extend_from_slice.new.self.items ≡ c.self.inside.bytes.items ++ c.args.listed.name.now = search rules in
    rw (rows, bytes, ← c.self.view_is) (dirents_of-push c.self.inside.rows.items c.self.inside.bytes.items _ c.args.listed.name.now
    c.self.invariant refl)
