use Rattle.fs_files.proofs.Numbered.{gives_found, gives_created, gives_opened, gives_said}
use Rattle.std.proofs.Common.{◌≤◌, ◌^◌, ℕ, List, [], subst}
use Rattle.fs_files.specs.Giving.{generations_after}
use Rattle.fs_files.specs.Listed.{dirents_in_bytes}
use Rattle.fs_files.proofs.Giving.{generation_left, holds_sorted}
use Rattle.fs_files.proofs.NumberedList.{same_files, gives_listed}
use Rattle.fs_files.proofs.files.Files.give_numbers.Goals as goal

pub returns-in-Entry-clause-gives : goal.returns-in-Entry-clause-gives
returns-in-Entry-clause-gives g c = rw c.in-Entry.is
    (gives_found c.args.self.now c.give.new.self c.in-Entry.file c.args.found_ms c.give.result c.give.ensures.gives c.give.ensures.tree c.give.ensures.handles)

pub returns-in-Created-clause-gives : goal.returns-in-Created-clause-gives
returns-in-Created-clause-gives g c =
    rw c.in-Created.is
    (gives_created c.args.self.now c.give-entry.new.self c.open.new.self c.in-Created.file c.args.found_ms c.give-entry.result c.open.result c.give-entry.ensures.gives c.give-entry.ensures.tree c.give-entry.ensures.handles c.open.ensures.fh
    c.open.ensures.tree c.open.ensures.nodes c.open.ensures.handles)

pub returns-in-Opened-clause-gives : goal.returns-in-Opened-clause-gives
returns-in-Opened-clause-gives g c = rw c.in-Opened.is
    (gives_opened c.args.self.now c.open-in-Opened.new.self c.in-Opened.file c.open-in-Opened.result c.open-in-Opened.ensures.fh c.open-in-Opened.ensures.tree c.open-in-Opened.ensures.nodes c.open-in-Opened.ensures.handles)

pub returns-in-Reply-clause-gives : goal.returns-in-Reply-clause-gives
returns-in-Reply-clause-gives g c =
    let repliable = rw c.in-Reply.is at c.requires.repliable in
    rw c.in-Reply.is (gives_said c.args.self.now c.args.found_ms c.in-Reply.reply repliable.0)

pub returns-in-ListedPlus-clause-gives : goal.returns-in-ListedPlus-clause-gives
returns-in-ListedPlus-clause-gives g c =
    rw c.in-ListedPlus.is
    (gives_listed c.args.self.now c.list.new.self c.args.found_ms c.in-ListedPlus.records.items c.list.result c.list.ensures.given c.list.ensures.sound c.list.ensures.entries c.list.ensures.records c.list.ensures.valid c.list.ensures.tree
    c.list.ensures.handles)

pub give-requires-clause-generation : goal.give-requires-clause-generation
give-requires-clause-generation g c = generation_left c.args.self.now.nodes c.in-Entry.file []
    (holds_sorted c.args.self.now.nodes c.lemma_sound.ensures) (rw c.in-Entry.is at c.requires.generations)

pub give-entry-requires-clause-generation : goal.give-entry-requires-clause-generation
give-entry-requires-clause-generation g c = generation_left c.args.self.now.nodes c.in-Created.file []
    (holds_sorted c.args.self.now.nodes c.lemma_sound.ensures) (rw c.in-Created.is at c.requires.generations)

pub list-requires-clause-generations : goal.list-requires-clause-generations
list-requires-clause-generations g c =
    subst (λ (files : List ℕ). generations_after c.args.self.now.nodes files ≤ 2 ^ 62)
    (same_files c.args.found_ms (dirents_in_bytes c.in-ListedPlus.records.items))
    (rw c.in-ListedPlus.is at c.requires.generations)
