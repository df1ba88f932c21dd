use Rattle.std.proofs.Common.{sym, ◌∙◌}
use Rattle.fuse_spec.specs.declared.Validity.{Validity}
use Rattle.fs_files.specs.Values.{FilesState}
use Rattle.fs_files.proofs.StaysKnown.{known_discarded}
use Rattle.fs_files.proofs.DiscardingUnheld.{named_gone, named_held, discarded_unheld_gone, discarded_unheld_held, discarded_unheld_if_none}
use Rattle.fs_files.proofs.files.Files.discard_unheld.Goals as goal

any_validity : Validity
any_validity = record { found_ms = 0; missing_ms = 0 }

pub returns-in_default-clause-tree : goal.returns-in_default-clause-tree
returns-in_default-clause-tree g c v = discarded_unheld_if_none c.args.self.now v c.args.file c.in_default.is c.requires

pub returns-then-holds-clause-tree : goal.returns-then-holds-clause-tree
returns-then-holds-clause-tree g c v =
    let s = c.self.inside in
    let files : FilesState = record {
      tree = s.tree;
      nodes = s.known.nodes;
      handles = s.known.handles;
      node_room = s.known.node_room;
      open_room = s.known.open_room;
    } in
    let named = rw (← c.self.view_is) at c.requires in
    rw (← c.self.view_is) (discarded_unheld_held files v c.args.file c.in-Some.file c.in-Some.is named
    (sym c.holds.ensures ∙ c.if-holds.true))

pub returns-then-holds-clause-named : goal.returns-then-holds-clause-named
returns-then-holds-clause-named g c =
    let s = c.self.inside in
    let files : FilesState = record {
      tree = s.tree;
      nodes = s.known.nodes;
      handles = s.known.handles;
      node_room = s.known.node_room;
      open_room = s.known.open_room;
    } in
    let named = rw (← c.self.view_is) at c.requires in
    rw (← c.self.view_is) (named_held files any_validity c.args.file c.in-Some.file c.in-Some.is named
    (sym c.holds.ensures ∙ c.if-holds.true))

pub invariant_of-self : goal.invariant_of-self
invariant_of-self g c =
    let s = c.self.inside in
    let files : FilesState = record {
      tree = s.tree;
      nodes = s.known.nodes;
      handles = s.known.handles;
      node_room = s.known.node_room;
      open_room = s.known.open_room;
    } in
    rw c.discard.ensures (known_discarded files any_validity c.self.invariant c.in-Some.file
    (sym c.holds.ensures ∙ c.if-holds.false))

pub returns-clause-tree : goal.returns-clause-tree
returns-clause-tree g c v =
    let s = c.self.inside in
    let files : FilesState = record {
      tree = s.tree;
      nodes = s.known.nodes;
      handles = s.known.handles;
      node_room = s.known.node_room;
      open_room = s.known.open_room;
    } in
    let named = rw (← c.self.view_is) at c.requires in
    rw (← c.self.view_is, c.discard.ensures) (discarded_unheld_gone files v c.args.file c.in-Some.file c.in-Some.is named
    (sym c.holds.ensures ∙ c.if-holds.false))

pub returns-clause-named : goal.returns-clause-named
returns-clause-named g c =
    let s = c.self.inside in
    let files : FilesState = record {
      tree = s.tree;
      nodes = s.known.nodes;
      handles = s.known.handles;
      node_room = s.known.node_room;
      open_room = s.known.open_room;
    } in
    let named = rw (← c.self.view_is) at c.requires in
    rw c.discard.ensures (named_gone files any_validity c.args.file c.in-Some.file c.in-Some.is named
    (sym c.holds.ensures ∙ c.if-holds.false))
