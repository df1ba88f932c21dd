-- A cached name is dropped in both worlds.
use Rattle.std.proofs.Common.{◌≡◌, ℕ, Some, refl}
use Rattle.fuse_spec.specs.declared.Dentry.{Dentry}
use Rattle.fuse_spec.specs.Values.Maps.{get_name}
use Rattle.fuse_spec.specs.Calls.Paths.{Name}
use Rattle.fuse_spec.specs.World.Worlds.{World, after_drop}
use Rattle.fuse_spec.specs.World.Events as event
use Rattle.fuse_spec.specs.Reference.Plain.{Plain, name_dropped}
use Rattle.fuse_spec.specs.Reference.PlainSteps.{Takes}
use Rattle.fuse_spec.specs.Claim.Denotes.{NodeDenotesIn, OpenDenotesIn}
use Rattle.fuse_spec.specs.Claim.Alike.{Alike}
use Rattle.fuse_theorem.specs.Numbering.{IsOneToOne}
use Rattle.fuse_theorem.proofs.Calls.RepliesReceived.{unbound_alike}

module _ (w : World) (p : Plain) (one : IsOneToOne (NodeDenotesIn w)) (same : Alike w p) where
  dropped_alike : (directory file : ℕ) (name : Name) → NodeDenotesIn w directory file
      → Alike (after_drop w directory name) (name_dropped p file name)
  dropped_alike directory file name means = record {
    tree = same.tree;
    vfs = unbound_alike (NodeDenotesIn w) (OpenDenotesIn w) one w.kernel.vfs p.vfs same.vfs directory file name name means refl;
    requests = record { pending = same.requests.pending; sent = same.requests.sent; held = same.requests.held };
    asks = λ live.
        let old = same.asks live in
        record {
          of_calls = λ q state is.
              let pair = old.of_calls q state is in
              record {
                unique = pair.unique;
                ask = pair.ask;
                request = pair.request;
                there = pair.there;
                by = pair.by;
                same = pair.same;
              };
          no_other = old.no_other;
          signalled = old.signalled;
          kept = old.kept;
          copies = old.copies;
        };
    validity = same.validity;
    minor = same.minor;
    agreed = same.agreed;
    aborted = same.aborted;
  }

  -- The name of the file that the node denotes is dropped.
  pub drop_goes : (directory : ℕ) (name : Name) (bound : Dentry)
      → get_name w.kernel.vfs.names (directory, name) ≡ Some bound
      → (q : Plain) × Takes p (event.drop_name directory name) event.dropped q × Alike (after_drop w directory name) q
  drop_goes directory name bound at =
      let meant = same.vfs.names_meant directory name (λ none. absurd (cc (at, none))) in
      (name_dropped p meant.0 name, (meant.0, refl), dropped_alike directory meant.0 name meant.1)
