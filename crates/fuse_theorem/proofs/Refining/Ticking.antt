-- The first events of the theorem: time passes, and both worlds begin alike.
use Rattle.std.proofs.Common.{◌≡◌, ℕ, ◌+◌, Bool, true, ap, inl, inr}
use Rattle.std.specs.Prelude.{nat_eq}
use Rattle.std.proofs.lemmas.Bool.Decides.{eqb_tells}
use Rattle.fuse_spec.specs.World.Worlds.{World, after_tick}
use Rattle.fuse_spec.specs.World.Events as event
use Rattle.fuse_spec.specs.Reference.Plain.{Plain, plain_later}
use Rattle.fuse_spec.specs.Reference.PlainSteps.{Takes, where_so}
use Rattle.fuse_spec.specs.Claim.Denotes.{NodeDenotesIn, OpenDenotesIn}
use Rattle.fuse_spec.specs.Claim.Alike.{Alike}
use Rattle.fuse_theorem.proofs.Calls.Starting.{later_alike}

eq_true : (a b : ℕ) → a ≡ b → nat_eq a b ≡ true
eq_true a b e = elim (eqb_tells a b) [ inl h ↦ h.0 | inr h ↦ absurd (h.1 e) ]

module _ (w : World) (p : Plain) (same : Alike w p) where
  pub tick_alike : (ms : ℕ) → Alike (after_tick w ms) (plain_later p ms)
  tick_alike ms = record {
    tree = same.tree;
    vfs = later_alike (NodeDenotesIn w) (OpenDenotesIn w) w.kernel.vfs p.vfs same.vfs ms;
    requests = record { pending = same.requests.pending; sent = same.requests.sent; held = same.requests.held };
    asks = λ live. record {
      of_calls = λ call state at.
          let old = (same.asks live).of_calls call state at in
          record {
            unique = old.unique;
            ask = old.ask;
            request = old.request;
            there = old.there;
            by = old.by;
            same = old.same;
          };
      no_other = (same.asks live).no_other;
      signalled = (same.asks live).signalled;
      kept = (same.asks live).kept;
      copies = (same.asks live).copies;
    };
    validity = same.validity;
    minor = same.minor;
    agreed = same.agreed;
    aborted = same.aborted;
  }

  -- After a tick the plain world has taken its step, and the two are alike.
  pub tick_goes : (ms : ℕ) → (q : Plain) × Takes p (event.tick ms) (event.now (w.kernel.vfs.clock + ms)) q
      × Alike (after_tick w ms) q
  tick_goes ms = (
    plain_later p ms,
    (
      0,
      ap (λ (b : Bool). where_so b (plain_later p ms))
          (eq_true (w.kernel.vfs.clock + ms) (p.vfs.clock + ms) (ap (λ (n : ℕ). n + ms) same.vfs.clock)),
    ),
    tick_alike ms,
  )
