use Rattle.std.proofs.Common.{map, refl}
use Rattle.std.proofs.lemmas.List.{map-append}
use Rattle.fs_tree.specs.Stored.{parents_in}
use Rattle.fs_tree.specs.Views.{named_of}
use Rattle.fs_tree.proofs.CookieRows.{put-behind}
use Rattle.fs_tree.proofs.ByFile.{AreByFile-same, AreByFile-pushed, AreByFile-undone, below-parents, below-rows}
use Rattle.fs_tree.proofs.Keeping.{unborn}
use Rattle.fs_tree.proofs.rows.Rows.push.Goals as goal

pub put_last_in-requires-clause-last : goal.put_last_in-requires-clause-last
put_last_in-requires-clause-last g c =
    let rising = rw (← c.self.view_is) at c.requires in
    rw (c.open.ensures.same c.args.file) (below-parents 1 c.args.cookie (parents_in c.self.inside.parents.entries)
    (map named_of c.self.inside.names.entries) c.self.invariant rising c.args.file)

pub put-requires-clause-absent : goal.put-requires-clause-absent
put-requires-clause-absent g c =
    let rising = rw (← c.self.view_is) at c.requires in
    rw c.reserve.ensures.entries (unborn c.args.cookie c.self.inside.names.entries
    (below-rows 1 c.args.cookie c.self.inside.names.entries rising))

pub invariant_of-self-in-Ok : goal.invariant_of-self-in-Ok
invariant_of-self-in-Ok g c =
    let rising = rw (← c.self.view_is) at c.requires in
    let opened = AreByFile-same _ _ _ c.open.ensures.same c.self.invariant in
    rw (
      c.put.ensures.entries,
      c.reserve.ensures.entries,
      put-behind c.self.inside.names.entries c.args.cookie _
          (below-rows 1 c.args.cookie c.self.inside.names.entries rising),
      map-append,
    )
    (AreByFile-pushed _ _ (map named_of c.self.inside.names.entries)
    (record {
      directory = c.args.directory;
      name = c.args.name.items;
      file = c.args.file;
      cookie = c.args.cookie;
    }) c.in_ok-put_last_in.ensures.ok opened)

pub returns-in-Ok-clause-ok : goal.returns-in-Ok-clause-ok
returns-in-Ok-clause-ok g c =
    let rising = rw (← c.self.view_is) at c.requires in
    rw (
      ← c.self.view_is,
      c.put.ensures.entries,
      c.reserve.ensures.entries,
      put-behind c.self.inside.names.entries c.args.cookie _
          (below-rows 1 c.args.cookie c.self.inside.names.entries rising),
      map-append,
    ) refl

pub invariant_of-self-in-Err-1 : goal.invariant_of-self-in-Err-1
invariant_of-self-in-Err-1 g c =
    let rising = rw (← c.self.view_is) at c.requires in
    let opened = AreByFile-same _ _ _ c.open.ensures.same c.self.invariant in
    rw c.reserve.ensures.entries
    (AreByFile-undone (parents_in c.open.new.parents.entries) _ _
    (map named_of c.self.inside.names.entries) c.args.file c.args.cookie c.args.directory c.in_ok-put_last_in.ensures.ok c.remove_from.ensures
    (below-parents 1 c.args.cookie (parents_in c.open.new.parents.entries)
    (map named_of c.self.inside.names.entries) opened rising) opened)
