use Rattle.std.proofs.Common.{sym, ◌∙◌}
use Rattle.fs_files.specs.Values.{FilesState, held_operation_of}
use Rattle.fs_files.proofs.StaysKnown.{keeps_result, known_kept, writes_regular}
use Rattle.fs_files.proofs.files.Files.ask.Goals as goal

pub operate-requires-clause-regular : goal.operate-requires-clause-regular
operate-requires-clause-regular g c =
    let s = c.self.inside in
    let files : FilesState = record {
      tree = s.tree;
      nodes = s.known.nodes;
      handles = s.known.handles;
      node_room = s.known.node_room;
      open_room = s.known.open_room;
    } in
    let regular = writes_regular files c.args.validity c.self.invariant.regular (held_operation_of c.args.operation.now)
    (rw (← c.self.view_is) at (sym (c.is_open_for.ensures c.args.validity) ∙ c.if-not-is_open_for.false)) in
    rw (← c.self-inside.view_is) at regular

pub invariant_of-self : goal.invariant_of-self
invariant_of-self g c =
    let s = c.self.inside in
    let files : FilesState = record {
      tree = s.tree;
      nodes = s.known.nodes;
      handles = s.known.handles;
      node_room = s.known.node_room;
      open_room = s.known.open_room;
    } in
    let regular = writes_regular files c.args.validity c.self.invariant.regular (held_operation_of c.args.operation.now)
    (rw (← c.self.view_is) at (sym (c.is_open_for.ensures c.args.validity) ∙ c.if-not-is_open_for.false)) in
    known_kept _ c.operate.new.tree _ _ (keeps_result _ c.lemma_shaped.ensures c.args.validity _
    (rw (← c.self-inside.view_is) at regular) c.operate.new.tree c.operate.result c.operate.ensures.ok c.operate.ensures.err)
    (rw (← c.self-inside.view_is) at c.self.invariant)
