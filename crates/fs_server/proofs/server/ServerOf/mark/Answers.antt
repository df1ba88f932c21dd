use Rattle.std.proofs.Common.{◌≡◌, true, Some, sym, ap, ◌∙◌}
use Rattle.std.proofs.lemmas.Option.{none-some, same_Some}
use Rattle.fuse_spec.specs.Values.Maps.{get, put}
use Rattle.fuse_spec.specs.Server.Server.{HeldRequest}
use Rattle.fuse_spec.proofs.Tables.{get_gone_here}
use Rattle.fs_server.specs.Values.{server_with}
use Rattle.fs_server.proofs.Marked.{put_gone}
use Rattle.fs_server.proofs.Stays.{taken, unheld}
use Rattle.fs_server.proofs.server.ServerOf.mark.Goals as goal

pub invariant_of-self : goal.invariant_of-self
invariant_of-self g c =
    let s = c.self.inside in
    rw c.remove.ensures.entries
    (unheld s.files s.held.entries s.kept.entries s.copies.entries s.next_copy s.validity c.self.invariant c.args.original)

pub put-requires-clause-absent : goal.put-requires-clause-absent
put-requires-clause-absent g c = rw c.remove.ensures.entries (get_gone_here c.self.inside.held.entries c.args.original)

pub invariant_of-self-2 : goal.invariant_of-self-2
invariant_of-self-2 g c =
    let s = c.self.inside in
    let there = sym c.remove.ensures.value ∙ c.in-Some.is in
    rw (c.put.ensures.entries, c.remove.ensures.entries)
    (taken s.files _ s.kept.entries s.copies.entries s.next_copy s.validity
    (unheld s.files s.held.entries s.kept.entries s.copies.entries s.next_copy s.validity c.self.invariant c.args.original) c.args.original c.mark.new.self
    (c.self.invariant.requests.apart c.args.original (λ none. none-some c.in-Some.held (sym none ∙ there))))

pub returns : goal.returns
returns g c h is =
    let s = c.self.inside in
    let was : get s.held.entries c.args.original ≡ Some h = rw (← c.self.view_is) at is in
    let same : c.in-Some.held ≡ h = same_Some c.in-Some.held h (sym c.in-Some.is ∙ c.remove.ensures.value ∙ was) in
    rw (
      ← c.self.view_is,
      c.put.ensures.entries,
      c.remove.ensures.entries,
      put_gone s.held.entries c.args.original c.mark.new.self c.remove.ensures.sorted,
      c.mark.ensures,
    )
    (ap (λ (x : HeldRequest). server_with s.files (put s.held.entries c.args.original
    (record x { marked = true })) s.kept.entries s.copies.entries s.next_copy s.validity s.minor s.is_aborted) same)
