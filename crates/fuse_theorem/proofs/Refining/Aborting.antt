-- The mount is aborted in both worlds.
use Rattle.std.proofs.Common.{◌≡◌, ℕ, false, [], refl}
use Rattle.std.specs.Prelude.{T}
use Rattle.std.specs.Ordering.{nat_cmp}
use Rattle.std.specs.FinMap.{is_sorted}
use Rattle.std.proofs.lemmas.List.Elements.{All-nil}
use Rattle.fuse_spec.specs.declared.Purpose.{Purpose}
use Rattle.fuse_spec.specs.declared.QueuedRequest.{QueuedRequest}
use Rattle.fuse_spec.specs.Kernel.Messages.{Request}
use Rattle.fuse_spec.specs.World.Worlds.{World, after_abort}
use Rattle.fuse_spec.specs.World.Events as event
use Rattle.fuse_spec.specs.Reference.Plain.{Plain, plain_aborted}
use Rattle.fuse_spec.specs.Reference.PlainSteps.{Takes}
use Rattle.fuse_spec.specs.Claim.Denotes.{NodeDenotesIn, OpenDenotesIn}
use Rattle.fuse_spec.specs.Claim.Alike.{RequestBodyAsked, PurposeAsked, Alike}
use Rattle.fuse_theorem.proofs.Refining.OnlyRoots.{only_root_known}
use Rattle.fuse_theorem.proofs.Refining.GivingUp.{abandoned_alike, root_means}

-- No node but the root is known then.
pub aborted_means : (w : World) (id file : ℕ) → NodeDenotesIn (after_abort w) id file → (id ≡ 1) × (file ≡ 0)
aborted_means w id file means = only_root_known [] w.server.nodes refl id file means

module _ (w : World) (p : Plain) (root : w.kernel.vfs.root ≡ 1) (sorted : T (is_sorted nat_cmp w.kernel.vfs.answers))
    (same : Alike w p) where
  roots : NodeDenotesIn (after_abort w) w.kernel.vfs.root p.vfs.root
  roots = root_means w.kernel.nodes [] w.server.nodes w.server.nodes w.kernel.vfs.root p.vfs.root root same.vfs.roots

  -- What the server holds stays asked, as its tables alone say what that denotes.
  pub aborted_alike : Alike (after_abort w) (plain_aborted p)
  aborted_alike = record {
    tree = record {
      names = same.tree.names;
      next_inode = same.tree.next_inode;
      next_cookie = same.tree.next_cookie;
      files = same.tree.files;
    };
    vfs = abandoned_alike (NodeDenotesIn w) (NodeDenotesIn (after_abort w)) (OpenDenotesIn w)
        (OpenDenotesIn (after_abort w)) w.kernel.vfs p.vfs same.vfs sorted roots;
    requests = record {
      pending = All-nil (λ (e : ℕ × QueuedRequest Purpose). PurposeAsked (after_abort w) (plain_aborted p) e);
      sent = All-nil (λ (r : Request). RequestBodyAsked p.asks r.unique false false (NodeDenotesIn (after_abort w))
          (OpenDenotesIn (after_abort w)) r.body);
      held = same.requests.held;
    };
    asks = λ live. absurd (cc);
    validity = same.validity;
    minor = same.minor;
    agreed = λ e. absurd (cc (e));
    aborted = refl;
  }

  -- After an abort the plain world has taken its step, and the two are alike.
  pub abort_goes : (q : Plain) × Takes p event.abort event.aborted q × Alike (after_abort w) q
  abort_goes = (plain_aborted p, (0, refl), aborted_alike)
