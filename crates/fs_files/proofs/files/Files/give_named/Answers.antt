use Rattle.std.proofs.Common.{rules, ◌≡◌, false, cond}
use Rattle.std.specs.Prelude.{Some, None}
use Rattle.fuse_spec.specs.Calls.Paths.{is_dots}
use Rattle.fs_files.proofs.GivenEach.{one_generations, named_given, named_left}
use Rattle.fs_files.proofs.files.Files.give_named.Goals as goal

pub give-entry-requires-clause-generation : goal.give-entry-requires-clause-generation
give-entry-requires-clause-generation g c =
    let no_dots : is_dots c.args.name.now ≡ false = search rules in
    named_left c.args.self.now.nodes c.args.file
    (is_dots c.args.name.now) no_dots c.lemma_sound.ensures c.requires.generations

pub returns-clause-generations : goal.returns-clause-generations
returns-clause-generations g c files =
    let no_dots : is_dots c.args.name.now ≡ false = search rules in
    let gives = c.give-entry.ensures.gives in
    one_generations c.args.self.now.nodes c.give-entry.new.self.nodes
    (cond (is_dots c.args.name.now) None (Some c.args.file)) files c.lemma_sound.ensures
    (named_given c.args.self.now.nodes c.give-entry.new.self.nodes c.args.file gives.id
    (is_dots c.args.name.now) no_dots (gives.id, gives.may, gives.nodes_is))
