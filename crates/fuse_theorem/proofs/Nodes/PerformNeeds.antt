-- What the performing of a held request needs holds.
use Rattle.std.proofs.Common.{◌≡◌, ◌≢◌, ℕ, Bool, true, false, Some, nat_eq, count_by, refl, ap, subst, arith, inl, inr}
use Rattle.fuse_spec.specs.declared.Opened.{Opened}
use Rattle.fuse_spec.specs.declared.Purpose.{Purpose}
use Rattle.fuse_spec.specs.declared.QueuedRequest.{QueuedRequest}
use Rattle.fuse_spec.specs.Values.Maps.{get}
use Rattle.fuse_spec.specs.Kernel.Messages.{Request, RequestBody, init, asks, release, forget, batch_forget, interrupt}
use Rattle.fuse_spec.specs.Files.Operations.{Operation}
use Rattle.fuse_spec.specs.Kernel.Queues.{QueueState, pending}
use Rattle.fuse_spec.specs.Kernel.Kernel.{is_live}
use Rattle.fuse_spec.specs.Server.Nodes.{MayChoose, file_of, is_open, handle_back}
use Rattle.fuse_spec.specs.Server.Server.{HeldRequest}
use Rattle.fuse_spec.specs.Server.Performs.{is_still_held, files_given}
use Rattle.fuse_spec.specs.World.Worlds.{World}
use Rattle.fuse_spec.specs.Reference.Plain.{Plain}
use Rattle.fuse_spec.specs.World.Events as event
use Rattle.fuse_spec.specs.World.Steps.{MayStep, MayChooseFor}
use Rattle.fuse_theorem.specs.Conditions.{OneId, CanPerformCall, HoldsAll, HoldsOpens}
use Rattle.fuse_theorem.specs.EachEvent.{CanServe, Needs}
use Rattle.fuse_theorem.specs.EachEvent as each
use Rattle.fuse_theorem.specs.EveryList.{BothSound}
use Rattle.fuse_theorem.specs.StillHeld.{IsHeldMarked, NodesStillHeld, StillHeldAfterAbort, HeldReleasesKnown}
use Rattle.fuse_theorem.specs.StillOpen.{OpensAfterAbort}
use Rattle.fuse_theorem.proofs.Nodes.HeldKnown.{all_still_held}
use Rattle.fuse_theorem.proofs.Nodes.HeldNodes.{nodes_held}
use Rattle.fuse_theorem.proofs.OpenFiles.HeldNumbers.{handle_open, handles_held}
use Rattle.fuse_theorem.proofs.Refining.LookedUp.{one_to_one}
use Rattle.fuse_theorem.proofs.Requests.LinksSound.{none_in}
use Rattle.fuse_theorem.proofs.Lookups.LookupsStay.{known_held}
use Rattle.fuse_theorem.proofs.Nodes.NodesSound.{left_found}
use Rattle.fuse_theorem.proofs.Refining.Performing.{may_choose}
use Rattle.fuse_theorem.proofs.Refining.PerformingWithoutAsk.{unheld}
use Rattle.fuse_theorem.proofs.Requests.RequestsAsked.{request_even}
use Rattle.fuse_theorem.proofs.Nodes.ServerSound.{one_id, tables_sound}
use Rattle.fuse_theorem.proofs.Requests.StandsOnce.{one_held}
use Rattle.fuse_theorem.proofs.Nodes.StillHeld.{live_still_held, now_still_held}

module _ (w : World) (p : Plain) (both : BothSound w p) (unique : ℕ) (t : HeldRequest)
    (there : get w.server.held unique ≡ Some t) where
  -- how often the number stands before the server holds it
  abbrev PendingUnder : ℕ
  PendingUnder = count_by (λ (e : ℕ × QueuedRequest Purpose). nat_eq unique e.0) (pending w.kernel.queues)

  abbrev SentUnder : ℕ
  SentUnder = count_by (λ (r : Request). nat_eq unique r.unique) w.requests

  one : OneId w.server.nodes
  one = let world = both.world in let lookups = world.lookups in let server =
      lookups.server in one_id w.server.nodes server.nodes

  -- The server of a mount that is not live, but holds something, knows of the abort.
  knows_abort : is_live w.kernel.phase ≡ false → w.server.aborted ≡ true
  knows_abort dead =
      let links = both.links in
      let idle = links.idle dead in
      elim idle.server [ inl empty ↦ none_in w.server.held unique t empty there | inr aborted ↦ aborted ]

  -- It stands nowhere else.
  held_alone : (PendingUnder ≡ 0) × (SentUnder ≡ 0)
  held_alone = by (is_live w.kernel.phase) refl
    where
      by : (b : Bool) → is_live w.kernel.phase ≡ b → (PendingUnder ≡ 0) × (SentUnder ≡ 0)
      by true live =
          let world = both.world in
          let asked = both.asked live in
          let request = (asked.held unique t there).is_asked in
          let requests = world.requests in
          let once = requests.once unique
          (request_even w.kernel.queues world.queues unique request.request request.under) in
          let held : one_held (get w.server.held unique) ≡ 1 = ap one_held there in
          (omega (arith, once, held), omega (arith, once, held))
      by false dead =
          let world = both.world in
          let lookups = world.lookups in
          let numbers = lookups.numbers in
          let links = both.links in
          let idle = links.idle dead in (
            ap (λ (q : QueueState Purpose). count_by (λ (e : ℕ × QueuedRequest Purpose). nat_eq unique e.0)
                (pending q)) (numbers.idle dead),
            ap (count_by (λ (r : Request). nat_eq unique r.unique)) idle.requests,
          )

  module _ (now : NodesStillHeld w.server.nodes t) where
    still : is_still_held w.server.nodes t.generations ≡ true
    still = all_still_held w.server.nodes t.generations now.held

    marked_as : (body : RequestBody) → t.body ≡ body → IsHeldMarked t.marked body
    marked_as body is = subst (IsHeldMarked t.marked) is now.mark

    performs : (choice : ℕ → ℕ) → MayChoose choice w.server.nodes (files_given w.server t)
        → (operation : Operation ℕ Opened) → t.body ≡ asks operation → t.marked ≡ false → CanServe choice w p unique t
    performs choice may operation is unmarked = by (is_live w.kernel.phase) refl
      where
        can : CanPerformCall w unique t operation
        can = record {
          there = there;
          body_is = is;
          unmarked = unmarked;
          still = still;
          none_pending = held_alone.0;
          none_sent = held_alone.1;
        }

        by : (b : Bool) → is_live w.kernel.phase ≡ b → CanServe choice w p unique t
        by true live =
            let world = both.world in
            let lookups = world.lookups in
            let links = both.links in
            let serving = links.serving live in
            each.performs operation can serving (tables_sound w.server lookups.server) one (known_held w world.lookups)
            (may_choose w p both.alike choice unique t operation can serving may)
        by false dead = each.performs_unreceived operation can (knows_abort dead)
            (one_to_one w.kernel.nodes w.server.nodes one)

    -- Whatever is held, but that what the performing of a RELEASE needs is given.
    pub serves : (choice : ℕ → ℕ) → MayChoose choice w.server.nodes (files_given w.server t)
        → ((o : Opened) → t.body ≡ release o → CanServe choice w p unique t) → CanServe choice w p unique t
    serves choice may releases = by t.body refl
      where
        by_mark : (operation : Operation ℕ Opened) → t.body ≡ asks operation → (b : Bool) → t.marked ≡ b
            → CanServe choice w p unique t
        by_mark operation is true marked = each.declines operation
            (record {
              there = there;
              body_is = is;
              marked = marked;
              none_pending = held_alone.0;
              none_sent = held_alone.1;
            })
        by_mark operation is false unmarked = performs choice may operation is unmarked

        by : (body : RequestBody) → t.body ≡ body → CanServe choice w p unique t
        by (init flags) is = each.initiates flags is (marked_as (init flags) is) still
        by (asks operation) is = by_mark operation is t.marked refl
        by (release o) is = releases o is
        by (forget f) is = absurd (marked_as (forget f) is)
        by (batch_forget fs) is = absurd (marked_as (batch_forget fs) is)
        by (interrupt original) is = absurd (marked_as (interrupt original) is)

    -- A RELEASE, where the server holds the nodes and the file handles that are used.
    pub serves_release : (choice : ℕ → ℕ) (o : Opened) → t.body ≡ release o
        → is_open w.server.handles o.fh (file_of w.server.nodes o.nodeid) ≡ true → HoldsAll w w.server.nodes
        → HoldsOpens (unheld w unique) (handle_back w.server.handles o.fh)
        → CanServe choice w p unique t
    serves_release choice o is number all opens =
        each.releases o (record {
          there = there;
          body_is = is;
          unmarked = marked_as (release o) is;
          still = still;
          number = number;
        }) one
        (record {
          known = all.known;
          held = λ u x at. all.held u x (left_found w.server.held unique u x at);
          kept = all.kept;
          copies = all.copies;
        }) opens

-- What is held keeps, of any request but a RELEASE.
pub perform_met : (w : World) (p : Plain) → BothSound w p → StillHeldAfterAbort w → (choice : ℕ → ℕ) (unique : ℕ)
    → MayStep choice w (event.perform unique) → ((t : HeldRequest) (o : Opened) → get w.server.held unique ≡ Some t
    → t.body ≢ release o)
    → Needs choice w p (event.perform unique)
perform_met w p both still choice unique may other t there =
    serves w p both unique t there (now (is_live w.kernel.phase) refl) choice (subst (MayChooseFor choice w) there may)
    (λ o is. absurd (other t o there is))
  where
    now : (b : Bool) → is_live w.kernel.phase ≡ b → NodesStillHeld w.server.nodes t
    now true live = live_still_held w both.world both.asked both.links both.held live unique t there
        (λ o is. absurd (other t o there is))
    now false dead = still dead unique t there

-- So of a RELEASE, with its file handle.
pub release_met : (w : World) (p : Plain) → BothSound w p → HeldReleasesKnown w → StillHeldAfterAbort w
    → (choice : ℕ → ℕ) (unique : ℕ) (t : HeldRequest) (o : Opened) → get w.server.held unique ≡ Some t
    → t.body ≡ release o
    → is_open w.server.handles o.fh (file_of w.server.nodes o.nodeid) ≡ true
    → HoldsOpens (unheld w unique) (handle_back w.server.handles o.fh) → CanServe choice w p unique t
release_met w p both releases still choice unique t o there is number opens =
    let held = now_still_held w both.world both.asked both.links both.held releases still in
    serves_release w p both unique t there (held unique t there) choice o is number
    (nodes_held w both.world both.links both.kept held) opens

-- So of any request; after an abort the file handles are held too.
pub any_met : (w : World) (p : Plain) → BothSound w p → HeldReleasesKnown w → StillHeldAfterAbort w → OpensAfterAbort w
    → (unique : ℕ)
    → (is_live w.kernel.phase ≡ true → (t : HeldRequest) (o : Opened) → get w.server.held unique ≡ Some t
    → t.body ≡ release o
    → (is_open w.server.handles o.fh (file_of w.server.nodes o.nodeid) ≡ true)
    × HoldsOpens (unheld w unique) (handle_back w.server.handles o.fh))
    → (choice : ℕ → ℕ) → MayStep choice w (event.perform unique) → Needs choice w p (event.perform unique)
any_met w p both releases still opens unique live_opens choice may t there =
    serves w p both unique t there
    (now_still_held w both.world both.asked both.links both.held releases still unique t there) choice
    (subst (MayChooseFor choice w) there may) (λ o is. by o is (is_live w.kernel.phase) refl)
  where
    by : (o : Opened) → t.body ≡ release o → (b : Bool) → is_live w.kernel.phase ≡ b → CanServe choice w p unique t
    by o is true live = let numbers = live_opens live t o there is in
        release_met w p both releases still choice unique t o there is numbers.0 numbers.1
    by o is false dead = release_met w p both releases still choice unique t o there is
        (handle_open w both.links opens dead unique t there o is)
        (handles_held w both.links opens dead unique t there o is)
