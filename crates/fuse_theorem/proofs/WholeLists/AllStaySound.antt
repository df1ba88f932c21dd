-- Whatever happens, the plain world takes its step, and all stays sound.
use Rattle.std.proofs.Common.{◌≡◌, ℕ, Ok}
use Rattle.fuse_spec.specs.World.Worlds.{World, first_world}
use Rattle.fuse_spec.specs.Reference.Plain.{Plain, first_plain}
use Rattle.fuse_spec.specs.Reference.PlainSteps.{Takes}
use Rattle.fuse_spec.specs.World.Events.{Event, Outcome}
use Rattle.fuse_spec.specs.World.Events as event
use Rattle.fuse_spec.specs.World.Steps.{Happens, step, MayStep}
use Rattle.fuse_spec.specs.Claim.Alike.{Alike}
use Rattle.fuse_theorem.specs.AllSound.{AllSound}
use Rattle.fuse_theorem.specs.EachEvent.{Needs}
use Rattle.fuse_theorem.proofs.WholeLists.EveryList.{first_both, both_met, both_move}
use Rattle.fuse_theorem.proofs.Lookups.ForgetsCounted.{faultless_stay, first_faultless}
use Rattle.fuse_theorem.proofs.Lookups.ForgetsNeeds.{one_node_a_file, settle_holds, take_met}
use Rattle.fuse_theorem.proofs.Requests.OnTheWay.{first_on_their_way, read_stay_on_their_way}
use Rattle.fuse_theorem.proofs.OpenFiles.OnceStays.{first_once, once_stays}
use Rattle.fuse_theorem.proofs.OpenFiles.OpenNeeds.{held_handles, release_handle, released_held_still, settled_held}
use Rattle.fuse_theorem.proofs.OpenFiles.OpensStay.{first_opens, opens_stay}
use Rattle.fuse_theorem.proofs.Nodes.PerformNeeds.{any_met}
use Rattle.fuse_theorem.proofs.OpenFiles.ReleasesStay.{first_releases, releases_stay_known}
use Rattle.fuse_theorem.proofs.Replies.RepliesFitStay.{first_fit, replies_stay_fit}
use Rattle.fuse_theorem.proofs.Nodes.StillHeld.{first_still_held, held_stay_held}
use Rattle.fuse_theorem.proofs.OpenFiles.StillOpen.{first_handles_open, held_handles_stay_open}
use Rattle.fuse_theorem.proofs.Nodes.TakenStay.{first_taken, taken_stay_servable}

pub first_all : AllSound first_world first_plain
first_all = record {
  both = first_both;
  releases = first_releases;
  taken = first_taken;
  faultless = first_faultless;
  fits = first_fit;
  still = first_still_held;
  opens = first_opens;
  left = first_handles_open;
  waiting = first_on_their_way;
  once = first_once;
}

module _ (w : World) (p : Plain) (all : AllSound w p) where
  -- What any event needs of the two worlds holds.
  all_met : (choice : ℕ → ℕ) (e : Event) → MayStep choice w e → (o : Outcome) (after : World)
      → step choice w e ≡ Ok (o, after) → Needs choice w p e
  all_met choice (event.take k) may o after stepped = take_met w p all.both all.releases choice k o after stepped
  all_met choice (event.perform unique) may o after stepped =
      any_met w p all.both all.releases.held all.still all.left unique
      (λ live t x at is. (
        release_handle w p all.both all.opens live unique t at x is,
        released_held_still w p all.both all.opens live unique t at x is,
      )) choice may
  all_met choice (event.settle k) may o after stepped = (
    one_node_a_file w p all.both all.releases,
    λ result copy there known. (
      settle_holds w p all.both all.releases k result copy there known,
      settled_held w p all.both all.releases all.opens k result copy there known,
    ),
  )
  all_met choice (event.mount f m v) may o after stepped =
      both_met w p all.both choice (event.mount f m v) o after stepped tt
  all_met choice (event.call call) may o after stepped =
      both_met w p all.both choice (event.call call) o after stepped tt
  all_met choice event.read_interrupt may o after stepped =
      both_met w p all.both choice event.read_interrupt o after stepped tt
  all_met choice (event.read_forgets n) may o after stepped =
      both_met w p all.both choice (event.read_forgets n) o after stepped tt
  all_met choice (event.read_pending k) may o after stepped =
      both_met w p all.both choice (event.read_pending k) o after stepped tt
  all_met choice (event.again unique) may o after stepped =
      both_met w p all.both choice (event.again unique) o after stepped tt
  all_met choice (event.write k) may o after stepped = both_met w p all.both choice (event.write k) o after stepped tt
  all_met choice (event.intr call fatal) may o after stepped =
      both_met w p all.both choice (event.intr call fatal) o after stepped tt
  all_met choice (event.tick ms) may o after stepped = both_met w p all.both choice (event.tick ms) o after stepped tt
  all_met choice (event.drop_name directory name) may o after stepped =
      both_met w p all.both choice (event.drop_name directory name) o after stepped tt
  all_met choice (event.evict node) may o after stepped =
      both_met w p all.both choice (event.evict node) o after stepped tt
  all_met choice event.abort may o after stepped = both_met w p all.both choice event.abort o after stepped tt

-- All that is sound with one plain world is sound with any other that is alike.
pub alike_too : (w : World) (p : Plain) → AllSound w p → (v : Plain) → Alike w v → AllSound w v
alike_too w p all v alike =
    let both = all.both in
    record {
      both = record {
        alike = alike;
        world = both.world;
        asked = both.asked;
        links = both.links;
        nodes = both.nodes;
        held = both.held;
        kept = both.kept;
        witness = both.witness;
      };
      releases = all.releases;
      taken = all.taken;
      faultless = all.faultless;
      fits = all.fits;
      still = all.still;
      opens = all.opens;
      left = all.left;
      waiting = all.waiting;
      once = all.once;
    }

module _ (w : World) (p : Plain) (all : AllSound w p) where
  -- The plain world takes the step of its outcome, and all stays sound.
  pub all_move : (e : Event) (o : Outcome) (after : World) → Happens w e o after
      → (q : Plain) × Takes p e o q × AllSound after q
  all_move e o after h =
      let both = all.both in
      let moves = both_move w p both e o after h (λ v alike. all_met w v (alike_too w p all v alike) h.0 e h.1 o after h.2) in (
        moves.0,
        moves.1,
        record {
          both = moves.2;
          releases = releases_stay_known w both.world both.asked both.links both.nodes both.held all.releases e o after h;
          taken = taken_stay_servable w both.world both.asked both.links both.nodes both.held all.releases all.taken e o after h;
          faultless = faultless_stay w both.world both.asked both.links all.faultless e o after h;
          fits = replies_stay_fit w p both all.faultless all.fits e o after h;
          still = held_stay_held w both.world both.asked both.links both.held all.releases.held all.still e o after h;
          opens = opens_stay w p both all.releases all.opens e o after h;
          left = held_handles_stay_open w both.world both.asked both.links
              (λ live. held_handles w p both all.opens live) all.left e o after h;
          waiting = read_stay_on_their_way w both.world both.links all.waiting e o after h;
          once = once_stays w p both all.releases all.opens all.once e o after h;
        },
      )
