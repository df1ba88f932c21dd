-- A mount, in both worlds.
use Rattle.fuse_spec.specs.declared.Minor.{Minor}
use Rattle.std.proofs.Common.{◌≡◌, ℕ, false, true≢false, [], Some, refl, sym}
use Rattle.std.specs.Prelude.{T}
use Rattle.std.specs.Ordering.{nat_cmp}
use Rattle.std.specs.FinMap.{is_sorted}
use Rattle.std.proofs.lemmas.List.Elements.{All-nil, All-cons}
use Rattle.fuse_spec.specs.declared.Mark.TheVariants.{Unread}
use Rattle.fuse_spec.specs.declared.Purpose.TheVariants as purpose
use Rattle.fuse_spec.specs.Values.Maps.{get}
use Rattle.fuse_spec.specs.Kernel.Messages.{Request}
use Rattle.fuse_spec.specs.Server.Server.{Server, is_file_held}
use Rattle.fuse_spec.specs.World.Worlds.{World, Sent, after_mount}
use Rattle.fuse_spec.specs.World.Events as event
use Rattle.fuse_spec.specs.Reference.Plain.{Plain, Ask, plain_mounted}
use Rattle.fuse_spec.specs.Reference.PlainSteps.{Takes}
use Rattle.fuse_spec.specs.Claim.Denotes.{NodeDenotesIn, OpenDenotesIn}
use Rattle.fuse_spec.specs.Claim.Alike.{RequestBodyAsked, PurposeAsked, IsStageReplied, Alike}
use Rattle.fuse_theorem.proofs.Refining.OnlyRoots.{only_root_known}
use Rattle.fuse_theorem.proofs.Refining.GivingUp.{abandoned_alike, root_means}
use Rattle.fuse_theorem.proofs.Trees.NamelessDiscarded.{discarded_unheld_alike}

module _ (w : World) (found_ms missing_ms : ℕ) (minor : Minor) where
  abbrev mounted : World
  mounted = after_mount w found_ms missing_ms minor

  -- No node but the root is known then.
  pub mounted_means : (id file : ℕ) → NodeDenotesIn mounted id file → (id ≡ 1) × (file ≡ 0)
  mounted_means id file means = only_root_known [] mounted.server.nodes refl id file means

  module _ (p : Plain) (root : w.kernel.vfs.root ≡ 1) (sorted : T (is_sorted nat_cmp w.kernel.vfs.answers))
      (same : Alike w p) where
    abbrev q : Plain
    q = plain_mounted p (record { found_ms = found_ms; missing_ms = missing_ms }) minor

    -- the tables of the server as they are emptied, before the files that nothing holds go
    abbrev emptied : Server
    emptied = record w.server {
      nodes = record w.server.nodes { rows = [] };
      handles = record w.server.handles { handles = [] };
      held = [];
      kept = [];
      copies = [];
      validity = record { found_ms = found_ms; missing_ms = missing_ms };
      minor = minor;
      aborted = false;
    }

    pub mounted_alike : Alike mounted q
    mounted_alike = record {
      tree = discarded_unheld_alike emptied p.tree
          (is_file_held w.server) same.tree.names same.tree.next_inode same.tree.next_cookie same.tree.files
          (λ file held. absurd (true≢false (sym held)));
      vfs = abandoned_alike (NodeDenotesIn w) (NodeDenotesIn mounted) (OpenDenotesIn w)
          (OpenDenotesIn mounted) w.kernel.vfs p.vfs same.vfs sorted
          (root_means w.kernel.nodes [] w.server.nodes mounted.server.nodes w.kernel.vfs.root p.vfs.root root same.vfs.roots);
      requests = record {
        pending = All-cons (PurposeAsked mounted q) (2, record { mark = Unread; kept = purpose.Init }) [] refl
            (All-nil (PurposeAsked mounted q));
        sent = All-nil (λ (r : Request). RequestBodyAsked [] r.unique false false (NodeDenotesIn mounted)
            (OpenDenotesIn mounted) r.body);
        held = λ u t at. absurd (cc);
      };
      asks = λ _. record {
        of_calls = λ c state at. absurd (cc);
        no_other = λ u ask at. absurd (cc);
        signalled = λ u r ask under at bears. absurd (cc);
        kept = λ u k ask stored at. absurd (cc);
        copies = All-nil (λ (sent : Sent). (ask : Ask) → get q.asks sent.unique ≡ Some ask
            → IsStageReplied mounted.server.nodes mounted.server.handles ask.stage sent.wire);
      };
      validity = refl;
      minor = refl;
      agreed = λ e. absurd (cc (e));
      aborted = refl;
    }

    -- After a mount the plain world has taken its step, and the two are alike.
    pub mount_goes : (q : Plain) × Takes p (event.mount found_ms missing_ms minor) event.mounted q × Alike mounted q
    mount_goes = (q, (0, refl), mounted_alike)
