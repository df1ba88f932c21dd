-- What the settling of a copy and the performing of a RELEASE need of file handles holds.
use Rattle.std.proofs.Common.{◌≡◌, ℕ, ◌+◌, ◌≤◌, Bool, true, false, [], Option, Some, slice_get, refl, ap, subst, arith}
use Rattle.std.specs.Prelude.{sum_by}
use Rattle.std.proofs.lemmas.List.Elements.{All-contains}
use Rattle.std.proofs.lemmas.List.Sums.{sum_by-cons, sum_by-append}
use Rattle.fuse_spec.specs.declared.Opened.{Opened}
use Rattle.fuse_spec.specs.declared.ReplyResult.{ReplyResult}
use Rattle.fuse_spec.specs.Claim.Counts.{opens_of}
use Rattle.fuse_spec.specs.Values.Maps.{get, remove, values}
use Rattle.fuse_spec.specs.Kernel.Messages.{RequestBody, release}
use Rattle.fuse_spec.specs.Calls.Vfs.{asked}
use Rattle.fuse_spec.specs.Kernel.Kernel.{is_live}
use Rattle.fuse_spec.specs.Server.Nodes.{file_of, is_open, handle_back}
use Rattle.fuse_spec.specs.Server.Server.{HeldRequest, Copy}
use Rattle.fuse_spec.specs.Reference.Plain.{Plain}
use Rattle.fuse_spec.specs.World.Worlds.{World, after_settle}
use Rattle.fuse_spec.specs.World.Events as event
use Rattle.fuse_spec.specs.Kernel.Refusals.{found}
use Rattle.fuse_spec.specs.World.Steps.{settling, Happens}
use Rattle.fuse_theorem.specs.AskedRequests.{RequestsAsked}
use Rattle.fuse_theorem.specs.Conditions.{HoldsOpens}
use Rattle.fuse_theorem.specs.EveryList.{BothSound}
use Rattle.fuse_theorem.specs.OpenNumbers.{released_by, open_files, OpensBalanced, OpensSound}
use Rattle.fuse_theorem.specs.ReleasesKnown.{ReleasesKnown}
use Rattle.fuse_theorem.specs.StillOpen.{HeldHandlesOpen}
use Rattle.fuse_theorem.proofs.OpenFiles.BalancedNumbers.{balanced_open}
use Rattle.fuse_theorem.proofs.OpenFiles.HoldsOpens.{copies_there, counted_held}
use Rattle.fuse_theorem.proofs.Replies.KeptOnLink.{kept_stay_sent}
use Rattle.fuse_theorem.proofs.Requests.LinksSound.{none_at}
use Rattle.fuse_theorem.proofs.Lists.MapSums.{values_sum, worth, sum_gone}
use Rattle.fuse_theorem.proofs.Nodes.NodesSound.{left_found}
use Rattle.fuse_theorem.proofs.OpenFiles.NumberCounts.{back_count}
use Rattle.fuse_theorem.proofs.Lists.OpenSums.{has_handle, open_sum, CountsOpens, counts_opens}
use Rattle.fuse_theorem.proofs.OpenFiles.OpensInUse.{handles_there}
use Rattle.fuse_theorem.proofs.OpenFiles.OpensUsed.{used_counted}
use Rattle.fuse_theorem.proofs.OpenFiles.OpensServed.{none_out}
use Rattle.fuse_theorem.proofs.OpenFiles.OpensStay.{opens_stay}
use Rattle.fuse_theorem.proofs.OpenFiles.OpensTables.{held_fits}
use Rattle.fuse_theorem.proofs.Requests.RequestsMatchAsks.{requests_stay_asked}

-- ---- what every event keeps

module _ (w : World) (p : Plain) (both : BothSound w p) (old : OpensSound w)
    (live : is_live w.kernel.phase ≡ true) where
  balanced : OpensBalanced w
  balanced = old.balanced live

  counts : CountsOpens w
  counts = counts_opens w balanced.balance

  -- The server holds the handles that are in use and on their way.
  pub opens_held : HoldsOpens w w.server.handles
  opens_held = counted_held w w.server.handles old.apart (both.asked live) both.kept (handles_there w counts)
      (copies_there w counts)

  -- ---- a RELEASE is performed

  module _ (unique : ℕ) (t : HeldRequest) (at : get w.server.held unique ≡ Some t) (o : Opened)
      (is : t.body ≡ release o) where
    -- Its handle is one of its node's file.
    pub release_handle : is_open w.server.handles o.fh (file_of w.server.nodes o.nodeid) ≡ true
    release_handle = held_fits w balanced.files unique t at o is

    -- the world where it is not held any longer, and its handle is given back
    abbrev after : World
    after = record w {
      server = record w.server {
        held = remove w.server.held unique;
        handles = handle_back w.server.handles o.fh;
      };
    }

    abbrev unheld : World
    unheld = record w { server = record w.server { held = remove w.server.held unique } }

    fewer : (f : Opened → ℕ) → sum_by f (open_files after) + f o ≡ sum_by f (open_files w)
    fewer f =
        let before = open_sum f w in
        let now = open_sum f after in
        let gone = sum_gone (λ (x : HeldRequest). sum_by f (released_by x.body)) w.server.held unique old.held in
        let mine = ap (worth (λ (x : HeldRequest). sum_by f (released_by x.body))) at in
        let body = ap (λ (b : RequestBody). sum_by f (released_by b)) is in
        let alone = sum_by-cons f o [] in
        omega (arith, before, now, gone, mine, body, alone)

    counts_after : CountsOpens after
    counts_after =
        let sound = both.world in
        let lookups = sound.lookups in
        none_out w counts lookups.copies lookups.server after refl refl refl
        (λ fh.
        let less = back_count w.server.handles o.fh fh in
        let files = fewer (has_handle fh) in
        let whole = counts fh in
        omega (arith, less, files, whole))

    asked_after : RequestsAsked after
    asked_after = let asked = both.asked live in record {
      sent = asked.sent;
      held = λ u x there. asked.held u x (left_found w.server.held unique u x there);
      signals =
          asked.signals;
      first = asked.first;
    }

    -- The server holds the other handles still.
    pub released_held_still : HoldsOpens unheld (handle_back w.server.handles o.fh)
    released_held_still =
        let held = counted_held after (handle_back w.server.handles o.fh) old.apart asked_after both.kept
        (handles_there after counts_after) (copies_there after counts_after) in
        record {
          opens = held.opens;
          calls = held.calls;
          sent = held.sent;
          held = held.held;
          kept = held.kept;
          copies = held.copies;
        }

  -- ---- what held requests name

  -- Each handle that a held request names is counted often enough for all of them.
  pub held_handles : HeldHandlesOpen w
  held_handles =
      balanced_open w p both.alike both.asked live balanced.balance
      (λ unique t at o is. release_handle unique t at o is)
      (λ call state at o named.
      let used = All-contains (λ (x : Opened). 1 ≤ values_sum (has_handle x.fh) w.kernel.vfs.opens + values_sum
      (has_handle x.fh) w.kernel.closing) (opens_of (asked state)) o
      (used_counted w.kernel.vfs w.kernel.closing old.apart call state at) named in
      let both_lists = sum_by-append (has_handle o.fh) (values w.kernel.vfs.opens) (values w.kernel.closing) in
      omega (arith, used, both_lists))

-- ---- a copy is settled

-- After a copy is settled the server holds the handles that are in use and on their way.
pub settled_held : (w : World) (p : Plain) → BothSound w p → ReleasesKnown w → OpensSound w
    → (k : ℕ) (result : ReplyResult) (copy : Copy) → slice_get w.results k ≡ Some result
    → get w.server.copies result.number ≡ Some copy
    → HoldsOpens (after_settle w k result (Some copy)) (after_settle w k result (Some copy)).server.handles
settled_held w p both releases old k result copy there known = by (is_live w.kernel.phase) refl
  where
    v : World
    v = after_settle w k result (get w.server.copies result.number)

    happens : Happens w (event.settle k) (event.settled result.unique result.result)
        (after_settle w k result (get w.server.copies result.number))
    happens = (λ n. n, tt, ap (λ o. found o (settling w k)) there)

    settled : is_live w.kernel.phase ≡ true → HoldsOpens (after_settle w k result (get w.server.copies result.number))
        (after_settle w k result (get w.server.copies result.number)).server.handles
    settled live =
        let next = opens_stay w p both releases old (event.settle k)
        (event.settled result.unique result.result) v happens in
        let after = next.balanced live in
        let counted = counts_opens v after.balance in
        let asked_so = requests_stay_asked w both.world both.asked (event.settle k)
        (event.settled result.unique result.result) v happens live in
        let kept = kept_stay_sent w both.world both.kept (event.settle k)
        (event.settled result.unique result.result) v happens in
        counted_held v v.server.handles next.apart asked_so kept (handles_there v counted) (copies_there v counted)

    by : (b : Bool) → is_live w.kernel.phase ≡ b → HoldsOpens (after_settle w k result (Some copy))
        (after_settle w k result (Some copy)).server.handles
    by true live = subst (λ (o : Option Copy). HoldsOpens (after_settle w k result o)
        (after_settle w k result o).server.handles) known (settled live)
    by false dead = let links = both.links in let idle =
        links.idle dead in none_at w.results k result idle.results there
