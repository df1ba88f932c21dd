use Rattle.std.proofs.Common.{ap, ◌∙◌, map, nat_lt, filter, []}
use Rattle.std.specs.Option.{unwrap_or}
use Rattle.fs_tree.specs.Stored.{entries_in, files_led, fitting_with, lead_in, in_directory}
use Rattle.fs_tree.proofs.ByDirectory.{listed-in}
use Rattle.fs_tree.proofs.names.Names.files_listed.Goals as goal

pub returns-in-Some : goal.returns-in-Some
returns-in-Some g c = λ files.
    let there = ap (λ o. map (lead_in files) (filter (λ n. nat_lt c.args.after n.cookie)
    (map (in_directory 0) (unwrap_or o [])))) c.in-Some.ensures.value ∙ listed-in
    (entries_in c.self.inside.directories.entries) c.self.inside.rows c.self.invariant.0 files c.args.directory c.args.after in
    rw (← c.self.view_is, ← there) (c.files_listed.ensures files)

pub returns-in-None : goal.returns-in-None
returns-in-None g c = λ files.
    let there = ap (λ o. map (lead_in files) (filter (λ n. nat_lt c.args.after n.cookie)
    (map (in_directory 0) (unwrap_or o [])))) c.in-None.ensures.value ∙ listed-in
    (entries_in c.self.inside.directories.entries) c.self.inside.rows c.self.invariant.0 files c.args.directory c.args.after in
    rw (c.new.ensures, ← c.self.view_is) (ap (λ l. files_led (fitting_with 128 c.args.size l)) there)
