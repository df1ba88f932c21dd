use Rattle.std.proofs.Common.{◌≡◌, ℕ, length, arith, subst, sym}
use Rattle.fs_files.specs.Listing.{Lists, listing}
use Rattle.fs_files.specs.Performing.{Operates}
use Rattle.fs_files.specs.declared.replies.Outcome.TheVariants.{ListedPlus}
use Rattle.fs_files.proofs.NamesListed.{lists_files, lists_names, low_names}
use Rattle.fs_files.proofs.operating.list.Goals as goal

pub record_bytes-requires : goal.record_bytes-requires
record_bytes-requires g c =
    let inodes = c.inodes_left-inodes.ensures in
    let says : Lists c.args.with_files c.args.tree.now c.args.directory c.args.after c.args.size c.deref.result.now =
    rw c.deref.ensures.value c.in-Ok.ensures in
    low_names c.args.tree.now c.args.directory c.args.after c.args.size c.lemma_shaped.ensures (omega (arith, inodes))
    c.args.with_files c.deref.result.now says

pub returns-then-with_files : goal.returns-then-with_files
returns-then-with_files g c v =
    let inodes = c.inodes_left-inodes.ensures in
    let says : Lists c.args.with_files c.args.tree.now c.args.directory c.args.after c.args.size c.deref.result.now =
    rw c.deref.ensures.value c.in-Ok.ensures in
    let records = c.in_ok-records.ensures in
    let count : c.len-names.result ≡ length c.deref.result.now = omega (arith, c.len-names.ensures, c.deref.ensures.len) in
    subst (λ (n : ℕ). Operates v c.args.tree.now (listing c.args.with_files c.args.directory c.args.after c.args.size)
    (ListedPlus c.in_ok-records.records n) c.args.tree.now) (sym count)
    (lists_files c.args.tree.now c.args.directory c.args.after c.args.size c.lemma_shaped.ensures (omega (arith, inodes))
    c.deref.result.now c.in_ok-records.records records.named records.fits records.items v c.args.with_files
    c.if-with_files.true says)

pub returns : goal.returns
returns g c v =
    let inodes = c.inodes_left-inodes.ensures in
    let says : Lists c.args.with_files c.args.tree.now c.args.directory c.args.after c.args.size c.deref.result.now =
    rw c.deref.ensures.value c.in-Ok.ensures in
    let records = c.in_ok-records.ensures in
    lists_names c.args.tree.now c.args.directory c.args.after c.args.size c.lemma_shaped.ensures (omega (arith, inodes))
    c.deref.result.now c.in_ok-records.records records.named records.fits records.items v c.args.with_files
    c.if-with_files.false says
