-- As forgets are taken and copies settled, the server holds still what is known, held and on its way.
use Rattle.std.specs.List.{remove as without_at}
use Rattle.std.proofs.Common.{◌≡◌, ℕ, Bool, true, false, List, None, [], ◌∷◌, Option, Some, Ok, slice_get, refl, ap, sym, subst, ◌∙◌}
use Rattle.fuse_spec.specs.declared.ReplyResult.{ReplyResult}
use Rattle.fuse_spec.specs.Kernel.Kernel.{is_live}
use Rattle.fuse_spec.specs.Values.Maps.{get}
use Rattle.fuse_spec.specs.Kernel.Messages.{Forget, Request, RequestBody, init, asks, release, forget, batch_forget, interrupt}
use Rattle.fuse_spec.specs.Server.Server.{Copy, all_taken_back, forgetting}
use Rattle.fuse_spec.specs.Server.Taking.{TakeResult, taking}
use Rattle.fuse_spec.specs.declared.Taken.TheVariants.{Forgot}
use Rattle.fuse_spec.specs.World.Worlds.{World, after_take, after_settle}
use Rattle.fuse_spec.specs.World.Events.{Event, Outcome}
use Rattle.fuse_spec.specs.World.Events as event
use Rattle.fuse_spec.specs.Reference.Plain.{Plain}
use Rattle.fuse_spec.specs.Kernel.Refusals.{found}
use Rattle.fuse_spec.specs.World.Steps.{Happens, taking_request, settling, step}
use Rattle.fuse_theorem.specs.Conditions.{OneId, HoldsAll}
use Rattle.fuse_theorem.specs.EachEvent.{CanTakeRequest, Needs}
use Rattle.fuse_theorem.specs.EveryList.{BothSound}
use Rattle.fuse_theorem.specs.ReleasesKnown.{ReleasesKnown}
use Rattle.fuse_theorem.proofs.RefusalCases.Accepted.{going_ok}
use Rattle.fuse_theorem.proofs.Nodes.HeldStays.{held_stay_known}
use Rattle.fuse_theorem.proofs.Nodes.HoldsAll.{holds_all}
use Rattle.fuse_theorem.proofs.Requests.InterruptsNoted.{interrupt_noted}
use Rattle.fuse_theorem.proofs.Replies.KeptOnLink.{kept_stay_sent}
use Rattle.fuse_theorem.proofs.Requests.LinksSound.{links_stay, none_at}
use Rattle.fuse_theorem.proofs.OpenFiles.ReleasesStay.{releases_stay_known}
use Rattle.fuse_theorem.proofs.Nodes.ServerSound.{one_id}
use Rattle.fuse_theorem.proofs.Requests.RequestsMatchAsks.{requests_stay_asked}
use Rattle.fuse_theorem.proofs.WholeLists.WorldSound.{worlds_stay}

module _ (w : World) (p : Plain) (both : BothSound w p) (releases : ReleasesKnown w) where
  pub holds_now : is_live w.kernel.phase ≡ true → HoldsAll w w.server.nodes
  holds_now live = holds_all w both.world both.asked both.links both.held releases live both.kept

  -- So it does after an event that leaves the mount live.
  pub holds_after : (e : Event) (o : Outcome) (after : World) → Happens w e o after → is_live after.kernel.phase ≡ true
      → HoldsAll after after.server.nodes
  holds_after e o after h live =
      holds_all after (worlds_stay w both.world e o after h) (requests_stay_asked w both.world both.asked e o after h)
      (links_stay w both.world both.asked both.links e o after h)
      (held_stay_known w both.world both.asked both.links both.nodes both.held e o after h)
      (releases_stay_known w both.world both.asked both.links both.nodes both.held releases e o after h) live
      (kept_stay_sent w both.world both.kept e o after h)

  pub one_node_a_file : OneId w.server.nodes
  one_node_a_file = let world = both.world in let lookups = world.lookups in let server =
      lookups.server in one_id w.server.nodes server.nodes

  module _ (choice : ℕ → ℕ) (k : ℕ) (o : Outcome) (after : World)
      (stepped : step choice w (event.take k) ≡ Ok (o, after)) where
    taken_is : (r : Request) → slice_get w.requests k ≡ Some r
        → after_take w k r.unique (taking w.server r.unique r.body) ≡ after
    taken_is r there =
        let took = taking w.server r.unique r.body in
        let went = going_ok (event.taken r.unique took.word) (after_take w k r.unique took) o after
        (subst (λ (x : Option Request). found x (taking_request w k) ≡ Ok (o, after)) there stepped) in
        let leads = went.leads in
        leads.after_is

    -- the world after it has the same kernel, and the server the same held requests and kept replies
    forgets : (r : Request) → slice_get w.requests k ≡ Some r → (body : RequestBody) (fs : List Forget) → r.body ≡ body
        → taking w.server r.unique body ≡ record { word = Forgot; server = forgetting w.server fs; reply = None }
        → HoldsAll w (all_taken_back w.server.nodes fs)
    forgets r there body fs is forgot = by (is_live w.kernel.phase) refl
      where
        same : record w { requests = without_at w.requests k; server = forgetting w.server fs } ≡ after
        same = ap (λ (took : TakeResult). after_take w k r.unique took) (sym forgot) ∙ ap
            (λ (b : RequestBody). after_take w k r.unique (taking w.server r.unique b)) (sym is) ∙ taken_is r there

        holds : is_live w.kernel.phase ≡ true → HoldsAll w (all_taken_back w.server.nodes fs)
        holds live =
            let h = subst (λ (v : World). HoldsAll v v.server.nodes) (sym same)
            (holds_after (event.take k) o after (choice, tt, stepped)
            (subst (λ (v : World). is_live v.kernel.phase ≡ true) same live)) in
            record { known = h.known; held = h.held; kept = h.kept; copies = h.copies }

        by : (b : Bool) → is_live w.kernel.phase ≡ b → HoldsAll w (all_taken_back w.server.nodes fs)
        by true live = holds live
        by false dead = none_at w.requests k r (both.links.idle dead).requests there

    -- What the taking of any request needs holds.
    pub take_met : Needs choice w p (event.take k)
    take_met r there = by r.body refl
      where
        by : (body : RequestBody) → r.body ≡ body → CanTakeRequest w p k r body
        by (init flags) is = tt
        by (asks operation) is = tt
        by (release x) is = tt
        by (forget f) is = (one_node_a_file, forgets r there (forget f) (f ∷ []) is refl)
        by (batch_forget fs) is = (one_node_a_file, forgets r there (batch_forget fs) fs is refl)
        by (interrupt original) is =
            interrupt_noted w p both.world both.asked both.links both.alike k r original there is

  -- What the settling of a copy needs of the nodes holds.
  pub settle_holds : (k : ℕ) (result : ReplyResult) (copy : Copy) → slice_get w.results k ≡ Some result
      → get w.server.copies result.number ≡ Some copy
      → HoldsAll (after_settle w k result (Some copy)) (after_settle w k result (Some copy)).server.nodes
  settle_holds k result copy there known = by (is_live w.kernel.phase) refl
    where
      goes : Happens w (event.settle k) (event.settled result.unique result.result)
          (after_settle w k result (Some copy))
      goes = (
        (λ n. n),
        tt,
        ap (λ o. found o (settling w k)) there ∙ ap
            (λ (x : Option Copy). Ok (event.settled result.unique result.result, after_settle w k result x)) known,
      )

      by : (b : Bool) → is_live w.kernel.phase ≡ b → HoldsAll (after_settle w k result (Some copy))
          (after_settle w k result (Some copy)).server.nodes
      by true live = holds_after (event.settle k) (event.settled result.unique result.result)
          (after_settle w k result (Some copy)) goes live
      by false dead = none_at w.results k result (both.links.idle dead).results there
