-- The world and the plain world stay sound and alike, and what most events need of them holds.
use Rattle.std.proofs.Common.{◌≡◌, ℕ, Some, Ok, slice_get, refl}
use Rattle.fuse_spec.specs.Kernel.Messages.{Request, RequestBody, init, asks, release, forget, batch_forget, interrupt}
use Rattle.fuse_spec.specs.World.Worlds.{World, first_world}
use Rattle.fuse_spec.specs.Reference.Plain.{Plain, first_plain}
use Rattle.fuse_spec.specs.Reference.PlainSteps.{Takes}
use Rattle.fuse_spec.specs.World.Events.{Event, Outcome}
use Rattle.fuse_spec.specs.World.Events as event
use Rattle.fuse_spec.specs.World.Steps.{Happens, step}
use Rattle.fuse_spec.specs.Claim.Alike.{Alike}
use Rattle.fuse_theorem.specs.EachEvent.{CanTakeRequest, Needs}
use Rattle.fuse_theorem.specs.EveryList.{BothSound, ForgetsNothing, NeedsBothAlone}
use Rattle.fuse_theorem.proofs.WholeLists.EachEvent.{each_moves}
use Rattle.fuse_theorem.proofs.Refining.InitialWorld.{first_alike}
use Rattle.fuse_theorem.proofs.Nodes.HeldStays.{first_held, held_stay_known}
use Rattle.fuse_theorem.proofs.Requests.InterruptsNoted.{interrupt_noted}
use Rattle.fuse_theorem.proofs.Replies.KeptOnLink.{first_kept, kept_stay_sent}
use Rattle.fuse_theorem.proofs.Requests.LinksSound.{first_links, links_stay}
use Rattle.fuse_theorem.proofs.Nodes.NodesKnown.{first_known, nodes_stay_known}
use Rattle.fuse_theorem.proofs.PlainWorld.PlainAsks.{first_served}
use Rattle.fuse_theorem.proofs.Requests.InterruptedStay.{asks_stay_served}
use Rattle.fuse_theorem.proofs.Requests.RequestsMatchAsks.{first_asked, requests_stay_asked}
use Rattle.fuse_theorem.proofs.Nodes.UnsentNodes.{evict_met}
use Rattle.fuse_theorem.proofs.WholeLists.WorldSound.{first_world_sound, worlds_stay, needs_met}
use Rattle.fuse_theorem.proofs.Replies.WriteNeeds.{write_met}

pub first_both : BothSound first_world first_plain
first_both = record {
  alike = first_alike;
  world = first_world_sound;
  asked = first_asked;
  links = first_links;
  nodes = first_known;
  held = first_held;
  kept = first_kept;
  witness = record { plain = first_plain; alike = first_alike; served = first_served };
}

-- An event whose needs hold leads to two that are sound and alike again.
pub both_move : (w : World) (p : Plain) → BothSound w p → (e : Event) (o : Outcome) (after : World)
    → (h : Happens w e o after) → ((v : Plain) → Alike w v → Needs h.0 w v e)
    → (q : Plain) × Takes p e o q × BothSound after q
both_move w p both e o after h needs =
    let moves = each_moves w p both.alike o after h.0 e (needs p both.alike) h.2 in
    let beside = both.witness in
    let follows = each_moves w beside.plain beside.alike o after h.0 e (needs beside.plain beside.alike) h.2 in (
      moves.0,
      moves.1,
      record {
        alike = moves.2;
        world = worlds_stay w both.world e o after h;
        asked = requests_stay_asked w both.world both.asked e o after h;
        links = links_stay w both.world both.asked both.links e o after h;
        nodes = nodes_stay_known w both.world both.nodes e o after h;
        held = held_stay_known w both.world both.asked both.links both.nodes both.held e o after h;
        kept = kept_stay_sent w both.world both.kept e o after h;
        witness = record {
          plain = follows.0;
          alike = follows.2;
          served = asks_stay_served w both.world both.asked beside.plain beside.alike beside.served e o after h follows.0 follows.1;
        };
      },
    )

-- What most events need holds.
pub both_met : (w : World) (p : Plain) → BothSound w p → (choice : ℕ → ℕ) (e : Event) (o : Outcome) (after : World)
    → step choice w e ≡ Ok (o, after) → NeedsBothAlone w e → Needs choice w p e
both_met w p both choice (event.take k) o after stepped alone = λ r there. takes r there r.body refl (alone r there)
  where
    takes : (r : Request) → slice_get w.requests k ≡ Some r → (body : RequestBody) → r.body ≡ body
        → ForgetsNothing body → CanTakeRequest w p k r body
    takes r there (init flags) is none = tt
    takes r there (asks operation) is none = tt
    takes r there (release x) is none = tt
    takes r there (forget f) is none = absurd none
    takes r there (batch_forget fs) is none = absurd none
    takes r there (interrupt original) is none =
        interrupt_noted w p both.world both.asked both.links both.alike k r original there is
both_met w p both choice (event.perform unique) o after stepped alone = absurd alone
both_met w p both choice (event.settle k) o after stepped alone = absurd alone
both_met w p both choice (event.write k) o after stepped alone =
    write_met choice w p both.world both.asked both.links both.witness both.alike k
both_met w p both choice (event.evict node) o after stepped alone =
    evict_met choice w p both.world both.asked node o after stepped
both_met w p both choice (event.mount f m v) o after stepped alone =
    needs_met w both.world choice p (event.mount f m v) tt
both_met w p both choice (event.call call) o after stepped alone = needs_met w both.world choice p (event.call call) tt
both_met w p both choice event.read_interrupt o after stepped alone =
    needs_met w both.world choice p event.read_interrupt tt
both_met w p both choice (event.read_forgets n) o after stepped alone =
    needs_met w both.world choice p (event.read_forgets n) tt
both_met w p both choice (event.read_pending k) o after stepped alone =
    needs_met w both.world choice p (event.read_pending k) tt
both_met w p both choice (event.again unique) o after stepped alone =
    needs_met w both.world choice p (event.again unique) tt
both_met w p both choice (event.intr call fatal) o after stepped alone =
    needs_met w both.world choice p (event.intr call fatal) tt
both_met w p both choice (event.tick ms) o after stepped alone = needs_met w both.world choice p (event.tick ms) tt
both_met w p both choice (event.drop_name directory name) o after stepped alone =
    needs_met w both.world choice p (event.drop_name directory name) tt
both_met w p both choice event.abort o after stepped alone = needs_met w both.world choice p event.abort tt
