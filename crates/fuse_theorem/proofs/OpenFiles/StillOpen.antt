-- After an abort the file handles of what the server holds stay open, whatever happens.
use Rattle.std.proofs.Common.{◌≡◌, ℕ, Bool, true, false, ◌⊎◌, cond, Option, Some, None, refl, ap, sym, subst, ◌∙◌, arith, inl, inr}
use Rattle.fuse_spec.specs.declared.Opened.{Opened}
use Rattle.fuse_spec.specs.Values.Maps.{Map, get, remove}
use Rattle.fuse_spec.specs.Kernel.Messages.{RequestBody, init, asks, release, forget, batch_forget, interrupt, WireReply}
use Rattle.fuse_spec.specs.Files.Operations.{done, opens_in_reply}
use Rattle.fuse_spec.specs.Files.FileOperations.{reply_by}
use Rattle.fuse_spec.specs.Kernel.Kernel.{Kernel, is_live}
use Rattle.fuse_spec.specs.Server.Nodes.{NodeTable, HandleTable, file_of, is_open, all_opened, handle_back}
use Rattle.fuse_spec.specs.Server.Server.{Server, HeldRequest}
use Rattle.fuse_spec.specs.Server.Performs.{file_operation_of, is_open_for, is_still_held, doing, refusing, performing, performed, served}
use Rattle.fuse_spec.specs.World.Worlds.{World, first_world}
use Rattle.fuse_spec.specs.World.Events.{Event, Outcome}
use Rattle.fuse_spec.specs.World.Steps.{Happens}
use Rattle.fuse_theorem.specs.AskedRequests.{RequestsAskedWhileLive}
use Rattle.fuse_theorem.specs.Links.{LinksSound}
use Rattle.fuse_theorem.specs.StillOpen.{HandlesStillOpen, HeldHandlesOpen, OpensLeft, OpensAfterAbort}
use Rattle.fuse_theorem.specs.WorldSound.{WorldSound}
use Rattle.fuse_theorem.proofs.Requests.AfterAbort.{WithoutMount, by_loss, by_kernel, by_serving, without_mount, replying_server, unreceived_nodes}
use Rattle.fuse_theorem.proofs.RefusalCases.Happened.{happened}
use Rattle.fuse_theorem.proofs.OpenFiles.NumbersLeft.{left_open, released_open}
use Rattle.fuse_theorem.proofs.Requests.NumbersStay.{replying_kernel}
use Rattle.fuse_theorem.proofs.Requests.PerformedRest.{performed_rest}

-- ---- a request is performed after an abort

-- No handle is given, and a RELEASE gives its handle back or is refused.
abbrev HandlesAfter : Server → RequestBody → HandleTable → Type 0
HandlesAfter s body h = (h ≡ s.handles) ⊎ ((o : Opened) × (body ≡ release o) × (h ≡ handle_back s.handles o.fh))

performing_handles : (choice : ℕ → ℕ) (s : Server) → s.aborted ≡ true → (body : RequestBody)
    → HandlesAfter s body (performing choice s body).server.handles
performing_handles choice s aborted (init flags) = inl refl
performing_handles choice s aborted (asks operation) = by (is_open_for s operation)
  where
    by : (b : Bool) → HandlesAfter s (asks operation)
        (cond b (doing choice s (file_operation_of s.nodes operation)) (refusing s 9)).server.handles
    by true = inl (ap (λ (b : Bool). cond b s.handles
        (all_opened s.handles (opens_in_reply (reply_by s.validity s.tree
        (file_operation_of s.nodes operation))))) aborted)
    by false = inl refl
performing_handles choice s aborted (release o) = by (is_open s.handles o.fh (file_of s.nodes o.nodeid))
  where
    by : (b : Bool) → HandlesAfter s (release o) (cond b
        (record { server = record s { handles = handle_back s.handles o.fh }; wire = done })
        (refusing s 9)).server.handles
    by true = inr (o, refl, refl)
    by false = inl refl
performing_handles choice s aborted (forget f) = inl refl
performing_handles choice s aborted (batch_forget fs) = inl refl
performing_handles choice s aborted (interrupt original) = inl refl

performed_handles : (choice : ℕ → ℕ) (s : Server) → s.aborted ≡ true → (t : HeldRequest)
    → HandlesAfter s t.body (performed choice s t).server.handles
performed_handles choice s aborted t = by_mark t.marked
  where
    by_held : (b : Bool) → HandlesAfter s t.body (cond b (performing choice s t.body) (refusing s 5)).server.handles
    by_held true = performing_handles choice s aborted t.body
    by_held false = inl refl

    by_mark : (b : Bool) → HandlesAfter s t.body (cond b (refusing s 4)
        (cond (is_still_held s.nodes t.generations) (performing choice s t.body) (refusing s 5))).server.handles
    by_mark true = inl refl
    by_mark false = by_held (is_still_held s.nodes t.generations)

-- ---- every event

module _ (w : World) (sound : WorldSound w) (live_open : is_live w.kernel.phase ≡ true → HeldHandlesOpen w)
    (old : OpensAfterAbort w) where
  abbrev HandlesOf : Server → Type 0
  HandlesOf s = HandlesStillOpen s.nodes s.handles s.held

  module _ (choice : ℕ → ℕ) (unique : ℕ) (t : HeldRequest) (there : get w.server.held unique ≡ Some t)
      (dead : is_live w.kernel.phase ≡ false) (aborted : w.server.aborted ≡ true) where
    abbrev s1 : Server
    s1 = record w.server { held = remove w.server.held unique }

    numbers_left : HandlesStillOpen w.server.nodes (performed choice s1 t).server.handles s1.held
    numbers_left =
        let now = (old dead).numbers in
        elim (performed_handles choice s1 aborted t) [
          | inl same ↦ subst (λ (h : HandleTable). HandlesStillOpen w.server.nodes h s1.held) (sym same)
              (left_open w.server.nodes w.server.handles w.server.held now unique)
          | inr back ↦
              subst (λ (h : HandleTable). HandlesStillOpen w.server.nodes h s1.held) (sym back.2)
              (released_open w.server.nodes w.server.handles w.server.held now unique t there back.0 back.1)
        ]

    served_open : HandlesOf (served choice w.server unique t).server
    served_open =
        let rest = performed_rest choice s1 t in
        let numbers = (performed choice s1 t).server.handles in
        subst (λ (n : NodeTable). HandlesStillOpen n numbers (performed choice s1 t).server.held)
        (sym (unreceived_nodes w sound choice unique t aborted))
        (subst (λ (m : Map HeldRequest). HandlesStillOpen w.server.nodes numbers m) (sym rest.held) numbers_left)

  by_event : (choice : ℕ → ℕ) (after : World) → WithoutMount choice w after → OpensLeft after
  by_event choice after (by_loss live) = record { numbers = live_open live; calls = refl; opens = refl }
  by_event choice after (by_kernel v dead same empty) = let was =
      old dead in record {
        numbers = subst HandlesOf (sym same) was.numbers;
        calls = empty.calls was.calls;
        opens = empty.opens was.opens;
      }
  by_event choice after (by_serving unique t dead aborted there) =
      let did = served choice w.server unique t in
      let reply : Option WireReply = cond w.server.aborted None (Some did.wire) in
      let kernel = replying_kernel (record w { server = did.server }) w.server.next_copy unique reply in
      let was = old dead in
      record {
        numbers = subst HandlesOf (sym (replying_server (record w {
          server =
              did.server;
        }) w.server.next_copy unique reply)) (served_open choice unique t there dead aborted);
        calls = ap (λ (l : Kernel). l.vfs.calls) kernel ∙ was.calls;
        opens = ap (λ (l : Kernel). l.vfs.opens) kernel ∙ was.opens;
      }

-- After an abort the handles of what is held stay open, whatever the event.
pub held_handles_stay_open : (w : World) → WorldSound w → RequestsAskedWhileLive w → LinksSound w
    → (is_live w.kernel.phase ≡ true → HeldHandlesOpen w) → OpensAfterAbort w
    → (e : Event) (o : Outcome) (after : World) → Happens w e o after → OpensAfterAbort after
held_handles_stay_open w sound asked links live_open old e o after h dead =
    by_event w sound live_open old h.0 after (without_mount h.0 w sound asked links e o after
    (happened h.0 w o after e h.2) dead)

pub first_handles_open : OpensAfterAbort first_world
first_handles_open dead = record {
  numbers = record {
    files = λ u t at. absurd (cc);
    released = λ fh. omega arith;
    used = λ u t at. absurd (cc);
  };
  calls = refl;
  opens = refl;
}
