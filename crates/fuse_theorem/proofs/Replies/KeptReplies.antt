-- Which replies are kept as requests are taken and performed, and as copies are settled.
use Rattle.std.proofs.Common.{◌≡◌, ◌⊎◌, ℕ, Bool, true, false, cond, Option, Some, None, refl, ap, sym, ◌∙◌, inl, inr}
use Rattle.fuse_spec.specs.declared.ReplyResult.{ReplyResult}
use Rattle.fuse_spec.specs.declared.WriteResult.{WriteResult}
use Rattle.fuse_spec.specs.declared.WriteResult.TheVariants.{Accepted, NoEntry, Invalid}
use Rattle.fuse_spec.specs.Server.Copies.{kept_after, after_result}
use Rattle.fuse_spec.specs.Values.Maps.{Map, get, put, remove}
use Rattle.fuse_spec.specs.Kernel.Messages.{RequestBody, init, asks, release, forget, batch_forget, interrupt}
use Rattle.fuse_spec.specs.Server.Performs.{performed, served}
use Rattle.fuse_spec.specs.Server.Server.{Server, HeldRequest, Kept, Copy}
use Rattle.fuse_spec.specs.Server.Taking.{taking, interrupting}
use Rattle.fuse_spec.specs.World.Worlds.{server_settled}
use Rattle.fuse_theorem.proofs.Nodes.NodesSound.{put_found}
use Rattle.fuse_theorem.proofs.Requests.PerformedRest.{performed_rest}
use Rattle.fuse_theorem.proofs.Refining.Settling.{kept_was}

module _ (s : Server) where
  -- To take a request keeps no reply.
  pub taken_kept : (unique : ℕ) (body : RequestBody) → (taking s unique body).server.kept ≡ s.kept
  taken_kept unique (init flags) = refl
  taken_kept unique (asks operation) = refl
  taken_kept unique (release o) = refl
  taken_kept unique (forget f) = refl
  taken_kept unique (batch_forget fs) = refl
  taken_kept unique (interrupt original) = by (get s.held original) (get s.kept original)
    where
      by : (h : Option HeldRequest) (o : Option Kept) → (interrupting s unique original h o).server.kept ≡ s.kept
      by (Some t) o = refl
      by None (Some k) = refl
      by None None = refl

  -- What is kept once a request is performed is its reply, or was kept.
  pub served_kept : (choice : ℕ → ℕ) (unique : ℕ) (t : HeldRequest) (u : ℕ) (k : Kept)
      → get (served choice s unique t).server.kept u ≡ Some k
      → ((u ≡ unique) × (k.wire ≡ (served choice s unique t).wire)) ⊎ (get s.kept u ≡ Some k)
  served_kept choice unique t u k at = by did.aborted at
    where
      did : Server
      did = (performed choice (record s { held = remove s.held unique }) t).server

      was : get did.kept u ≡ Some k → get s.kept u ≡ Some k
      was there = let rest = performed_rest choice (record s { held = remove s.held unique }) t in
          ap (λ (m : Map Kept). get m u) (sym rest.kept) ∙ there

      by : (b : Bool) → get (cond b did.kept (put did.kept unique
          (record { wire = (served choice s unique t).wire; first = did.next_copy }))) u ≡ Some k
          → ((u ≡ unique) × (k.wire ≡ (served choice s unique t).wire)) ⊎ (get s.kept u ≡ Some k)
      by true there = inr (was there)
      by false there = elim (put_found did.kept unique
          (record { wire = (served choice s unique t).wire; first = did.next_copy }) u k there) [
            | inl h ↦ inl (h.0, ap (λ (x : Kept). x.wire) (sym h.1))
            | inr h ↦ inr (was h)
          ]

  -- What is kept once a copy is settled was kept.
  pub settled_kept : (result : ReplyResult) (o : Option Copy) (u : ℕ) (k : Kept)
      → get (server_settled s result o).kept u ≡ Some k → get s.kept u ≡ Some k
  settled_kept result None u k at = at
  settled_kept result (Some copy) u k at = by result.result at
    where
      by : (r : WriteResult) → get (after_result (record s {
        copies = remove s.copies result.number;
        kept = kept_after s.kept copy (get s.kept copy.unique);
      }) copy.wire r).kept u ≡ Some k → get s.kept u ≡ Some k
      by Accepted there = kept_was s.kept copy (get s.kept copy.unique) u k there
      by NoEntry there = kept_was s.kept copy (get s.kept copy.unique) u k there
      by Invalid there = kept_was s.kept copy (get s.kept copy.unique) u k there
