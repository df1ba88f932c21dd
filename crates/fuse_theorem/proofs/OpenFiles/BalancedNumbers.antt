-- In a live mount whose file handles are balanced, those that held requests name are counted often enough for all of
-- them.
use Rattle.std.proofs.Common.{◌≡◌, ℕ, ◌≤◌, true, false, [], ◌∷◌, Option, Some, None, zero, suc, refl, ap, subst, ◌∙◌, arith}
use Rattle.std.specs.Prelude.{Contains}
use Rattle.fuse_spec.specs.declared.Opened.{Opened}
use Rattle.fuse_spec.specs.declared.Purpose.{Purpose}
use Rattle.fuse_spec.specs.declared.Purpose.TheVariants as purpose
use Rattle.fuse_spec.specs.Values.Maps.{get}
use Rattle.fuse_spec.specs.Kernel.Messages.{RequestBody, init, asks, release, forget, batch_forget, interrupt}
use Rattle.fuse_spec.specs.Files.Operations.{Operation, lookup, getattr, mkdir, create, unlink, rmdir, rename, link, opening, readdir, readdirplus, read, write}
use Rattle.fuse_spec.specs.Calls.Vfs.{CallState, asked}
use Rattle.fuse_spec.specs.Kernel.Kernel.{is_live, asked_by, body_of}
use Rattle.fuse_spec.specs.Server.Nodes.{file_of, is_open}
use Rattle.fuse_spec.specs.Server.Server.{HeldRequest}
use Rattle.fuse_spec.specs.Server.Performs.{is_open_for}
use Rattle.fuse_spec.specs.Claim.Counts.{OpenBalance, open_in_kernel, opens_of, opens_of_body}
use Rattle.fuse_spec.specs.World.Worlds.{World}
use Rattle.fuse_spec.specs.Reference.Plain.{Plain}
use Rattle.fuse_spec.specs.Claim.Alike.{Alike, RequestBodyAsked, StillDenotes, OpenStillDenotes}
use Rattle.fuse_theorem.specs.AskedRequests.{IsAsked, RequestsAskedWhileLive}
use Rattle.fuse_theorem.specs.StillOpen.{HeldHandlesOpen}
use Rattle.fuse_theorem.proofs.Refining.Performing.{open_for}

module _ (w : World) (p : Plain) (same : Alike w p) (requests : RequestsAskedWhileLive w)
    (live : is_live w.kernel.phase ≡ true) (balance : OpenBalance w)
    (of_releases : (unique : ℕ) (t : HeldRequest) → get w.server.held unique ≡ Some t → (o : Opened)
    → t.body ≡ release o → is_open w.server.handles o.fh (file_of w.server.nodes o.nodeid) ≡ true)
    (of_calls : (call : ℕ) (state : CallState Opened) → get w.kernel.vfs.calls call ≡ Some state → (o : Opened)
    → Contains (opens_of (asked state)) o → 1 ≤ open_in_kernel w.kernel o.fh) where
  abbrev IsItsNodes : Opened → Type 0
  IsItsNodes o = is_open w.server.handles o.fh (file_of w.server.nodes o.nodeid) ≡ true

  -- the one that stands in such a list
  only : {X : Type 0} (P : X → Type 0) (x y : X) → Contains (x ∷ []) y → P x → P y
  only P x y (zero, lt, is) h = subst P is h
  only P x y (suc i, lt, is) h = absurd (omega (arith, lt))

  none : {X Y : Type 0} (y : X) → Contains [] y → Y
  none y among = absurd (let lt = among.1 in omega (arith, lt))

  of_operation : (operation : Operation ℕ Opened) (o : Opened) → Contains (opens_of operation) o
      → is_open_for w.server operation ≡ true → IsItsNodes o
  of_operation (read x offset size) o among is = only IsItsNodes x o among is
  of_operation (write x offset bytes) o among is = only IsItsNodes x o among is
  of_operation (lookup d name) o among is = none o among
  of_operation (getattr x) o among is = none o among
  of_operation (mkdir d name) o among is = none o among
  of_operation (create d name) o among is = none o among
  of_operation (unlink d name) o among is = none o among
  of_operation (rmdir d name) o among is = none o among
  of_operation (rename d old e new) o among is = none o among
  of_operation (link x d name) o among is = none o among
  of_operation (opening x) o among is = none o among
  of_operation (readdir d after size) o among is = none o among
  of_operation (readdirplus d after size) o among is = none o among

  module _ (unique : ℕ) (t : HeldRequest) (there : get w.server.held unique ≡ Some t) (o : Opened) where
    of_body : (body : RequestBody) → t.body ≡ body → Contains (opens_of_body body) o → IsItsNodes o
    of_body (init flags) is among = none o among
    of_body (asks operation) is among =
        let asked_is = subst (RequestBodyAsked p.asks unique false t.marked (StillDenotes w.server.nodes t.generations)
        (OpenStillDenotes w.server.nodes w.server.handles t.generations)) is (same.requests.held unique t there) in
        of_operation operation o among (open_for w p same t.generations operation asked_is.ask.operation asked_is.same)
    of_body (release x) is among = only IsItsNodes x o among (of_releases unique t there x is)
    of_body (forget f) is among = none o among
    of_body (batch_forget fs) is among = none o among
    of_body (interrupt original) is among = none o among

    -- A file that is read or written is open in the kernel.
    in_kernel : (operation : Operation ℕ Opened) → t.body ≡ asks operation → Contains (opens_of operation) o
        → 1 ≤ open_in_kernel w.kernel o.fh
    in_kernel operation is among = by request.request.kept (request.asks ∙ ap (λ (b : RequestBody). Some b) is)
      where
        request : IsAsked w.kernel unique t.body
        request = ((requests live).held unique t there).is_asked

        of_call : (call : ℕ) (s : Option (CallState Opened)) → get w.kernel.vfs.calls call ≡ s
            → asked_by s ≡ Some (asks operation) → 1 ≤ open_in_kernel w.kernel o.fh
        of_call call None at says = absurd (cc)
        of_call call (Some state) at says = let asks_it : operation ≡ asked state =
            cc (says) in of_calls call state at o (subst (λ (x : Operation ℕ Opened). Contains
            (opens_of x) o) asks_it among)

        by : (kept : Purpose) → body_of w.kernel kept ≡ Some (asks operation) → 1 ≤ open_in_kernel w.kernel o.fh
        by purpose.Init says = absurd (cc)
        by (purpose.Release x) says = absurd (cc)
        by (purpose.Call call) says = of_call call (get w.kernel.vfs.calls call) refl says

  pub balanced_open : HeldHandlesOpen w
  balanced_open = record {
    files = λ unique t there o among. of_body unique t there o t.body refl among;
    released = λ fh. let whole = balance fh in omega (arith, whole);
    used = λ unique t there operation is o among. let whole = balance o.fh in let one =
        in_kernel unique t there o operation is among in omega (arith, whole, one);
  }
