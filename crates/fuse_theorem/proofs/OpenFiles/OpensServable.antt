-- What `Held` says of file handles: those that a live kernel uses, and those that requests name, are handles of their
-- nodes' files.
use Rattle.fuse_spec.specs.Values.Numbers.{init_flags}
use Rattle.std.proofs.Common.{◌≡◌, ℕ, true, List, ◌++◌, Option, Some, None, refl, ap, sym, subst, ◌∙◌, inl, inr, All}
use Rattle.std.proofs.lemmas.List.Elements.{All-nil}
use Rattle.fuse_spec.specs.declared.Opened.{Opened}
use Rattle.fuse_spec.specs.declared.Purpose.{Purpose}
use Rattle.fuse_spec.specs.declared.Purpose.TheVariants as purpose
use Rattle.fuse_spec.specs.declared.QueuedRequest.{QueuedRequest}
use Rattle.fuse_spec.specs.Values.Maps.{get, values}
use Rattle.fuse_spec.specs.Kernel.Messages.{RequestBody, Request, init, asks, release, forget, batch_forget, interrupt}
use Rattle.fuse_spec.specs.Files.Operations.{Operation}
use Rattle.fuse_spec.specs.Kernel.Queues.{pending}
use Rattle.fuse_spec.specs.Calls.Vfs.{CallState, walking, doing, using, asked}
use Rattle.fuse_spec.specs.Kernel.Kernel.{body_of, asked_by}
use Rattle.fuse_spec.specs.Server.Nodes.{file_in, file_of, is_open}
use Rattle.fuse_spec.specs.Claim.Counts.{opens_of, opens_of_body, NodeDenotesSome, OpenDenotesSome}
use Rattle.fuse_spec.specs.World.Worlds.{World}
use Rattle.fuse_theorem.specs.AskedRequests.{RequestsAsked, SentAsked}
use Rattle.fuse_theorem.specs.OpenNumbers.{OpensApart, IsOfItsNode, released_for, released_by, released_pending, released_sent, released_held, open_files}
use Rattle.fuse_theorem.proofs.Lists.OpenSums.{All-left, All-right}
use Rattle.fuse_theorem.proofs.OpenFiles.OpensTables.{All-each}
use Rattle.fuse_theorem.proofs.OpenFiles.OpensUsed.{asked_state}
use Rattle.fuse_theorem.proofs.Lists.Values.{All-get}

module _ (w : World) (files : All (IsOfItsNode w.server) (open_files w)) where
  abbrev Fits : Opened → Type 0
  Fits = IsOfItsNode w.server

  abbrev Opens : List Opened
  Opens = values w.kernel.vfs.opens

  abbrev Closing : List Opened
  Closing = values w.kernel.closing

  abbrev Pending : List Opened
  Pending = released_pending w.kernel.queues

  abbrev SentOnes : List Opened
  SentOnes = released_sent w.requests

  before_sent : All Fits (Opens ++ Closing ++ Pending)
  before_sent = All-left Fits (Opens ++ Closing ++ Pending) SentOnes
      (All-left Fits (Opens ++ Closing ++ Pending ++ SentOnes) (released_held w.server.held) files)

  before_pending : All Fits (Opens ++ Closing)
  before_pending = All-left Fits (Opens ++ Closing) Pending before_sent

  pub opens_fit : All Fits Opens
  opens_fit = All-left Fits Opens Closing before_pending

  pub closing_fit : All Fits Closing
  closing_fit = All-right Fits Opens Closing before_pending

  pub pending_fit : All (λ (e : ℕ × QueuedRequest Purpose). All Fits (released_for e.1.kept)) (pending w.kernel.queues)
  pending_fit = All-each Fits (λ (e : ℕ × QueuedRequest Purpose). released_for e.1.kept) (pending w.kernel.queues)
      (All-right Fits (Opens ++ Closing) Pending before_sent)

  sent_fit : All (λ (r : Request). All Fits (released_by r.body)) w.requests
  sent_fit =
      All-each Fits (λ (r : Request). released_by r.body) w.requests
      (All-right Fits (Opens ++ Closing ++ Pending) SentOnes
      (All-left Fits (Opens ++ Closing ++ Pending ++ SentOnes) (released_held w.server.held) files))

  -- ---- what calls use

  module _ (apart : OpensApart w.kernel.vfs w.kernel.closing) where
    used_fit : (call : ℕ) (state : CallState Opened) → get w.kernel.vfs.calls call ≡ Some state
        → All Fits (opens_of (asked state))
    used_fit call (walking d word words plan) at = All-nil Fits
    used_fit call (doing operation) at = subst (All Fits) (sym (apart.uses call (doing operation) at)) (All-nil Fits)
    used_fit call (using open_call operation) at = λ i d lt.
        elim (apart.uses call (using open_call operation) at i d lt) [
          | inl there ↦ All-get Fits w.kernel.vfs.opens open_call _ opens_fit there
          | inr closed ↦ All-get Fits w.kernel.closing open_call _ closing_fit closed
        ]

    -- what an unanswered call asks
    called_fit : (call : ℕ) (o : Option (CallState Opened)) → get w.kernel.vfs.calls call ≡ o → (body : RequestBody)
        → asked_by o ≡ Some body → All Fits (opens_of_body body)
    called_fit call None at body is = absurd (cc)
    called_fit call (Some state) at body is = let same : asks (asked state) ≡ body =
        cc in subst (λ (b : RequestBody). All Fits (opens_of_body b)) same (used_fit call state at)

    kept_fit : (kept : Purpose) → All Fits (released_for kept) → (body : RequestBody)
        → body_of w.kernel kept ≡ Some body → All Fits (opens_of_body body)
    kept_fit purpose.Init released body is = let same : init init_flags ≡ body =
        cc in subst (λ (b : RequestBody). All Fits (opens_of_body b)) same (All-nil Fits)
    kept_fit (purpose.Release o) released body is = let same : release o ≡ body =
        cc in subst (λ (b : RequestBody). All Fits (opens_of_body b)) same released
    kept_fit (purpose.Call call) released body is = called_fit call (get w.kernel.vfs.calls call) refl body is

    -- The handles that pending requests name.
    pub pending_servable : (e : ℕ × QueuedRequest Purpose) → All Fits (released_for e.1.kept) → (body : RequestBody)
        → body_of w.kernel e.1.kept ≡ Some body → All Fits (opens_of_body body)
    pending_servable e released body is = kept_fit e.1.kept released body is

    sent_body_fits : (unique : ℕ) (body : RequestBody) → SentAsked w.kernel unique body → All Fits (released_by body)
        → All Fits (opens_of_body body)
    sent_body_fits unique (init flags) of released = All-nil Fits
    sent_body_fits unique (asks operation) of released =
        let call = asked_state w.kernel unique operation of in
        subst (λ (x : Operation ℕ Opened). All Fits (opens_of x)) call.3 (used_fit call.0 call.1 call.2)
    sent_body_fits unique (release o) of released = released
    sent_body_fits unique (forget f) of released = All-nil Fits
    sent_body_fits unique (batch_forget fs) of released = All-nil Fits
    sent_body_fits unique (interrupt original) of released = All-nil Fits

    -- Those that requests on the link name.
    pub sent_servable : RequestsAsked w → All (λ (r : Request). All Fits (opens_of_body r.body)) w.requests
    sent_servable asked = λ i d lt. sent_body_fits _ _ (asked.sent i d lt) (sent_fit i d lt)

-- ---- an open file of a node that means a file

-- It denotes that file.
pub open_meant : (w : World) (o : Opened) → NodeDenotesSome w o.nodeid → IsOfItsNode w.server o → OpenDenotesSome w o
open_meant w o meant fits =
    let means = meant.1 in
    let denotes = means.denotes in
    let same : file_of w.server.nodes o.nodeid ≡ meant.0 = ap file_in denotes.there ∙ denotes.same_file in (
      meant.0,
      record {
        node_means = means;
        is_handle =
            subst (λ (file : ℕ). is_open w.server.handles o.fh file ≡ true) same fits;
      },
    )
