-- The server holds each file handle that is in use or on its way.
use Rattle.std.proofs.Common.{◌≡◌, ℕ, Bool, cond, List, ◌++◌, Some, nat_eq, get_or, ap, sym, subst, ◌∙◌, arith, inl, inr, All}
use Rattle.std.specs.Prelude.{Contains}
use Rattle.std.proofs.lemmas.List.Elements.{All-nil, All-contains, All-head, All-tail}
use Rattle.std.proofs.lemmas.List.Sums.{get_or-le-sum_by}
use Rattle.fuse_spec.specs.declared.Opened.{Opened}
use Rattle.fuse_spec.specs.Claim.Counts.{handle_count, opens_in, opens_of, opens_of_body}
use Rattle.fuse_spec.specs.Values.Maps.{get, values}
use Rattle.fuse_spec.specs.Kernel.Messages.{Request, RequestBody, init, asks, release, forget, batch_forget, interrupt, WireReply}
use Rattle.fuse_spec.specs.Files.Operations.{Operation, opens_in_reply}
use Rattle.fuse_spec.specs.Calls.Vfs.{CallState, walking, doing, using, asked}
use Rattle.fuse_spec.specs.Server.Nodes.{HandleTable}
use Rattle.fuse_spec.specs.Server.Server.{HeldRequest}
use Rattle.fuse_spec.specs.World.Worlds.{World, Sent}
use Rattle.fuse_theorem.specs.AskedRequests.{IsAsked, SentAsked, RequestsAsked}
use Rattle.fuse_theorem.specs.Conditions.{IsFileHandle, HoldsOpens}
use Rattle.fuse_theorem.specs.Copies.{KeptAreSent, SomeHas, here, there}
use Rattle.fuse_theorem.specs.OpenNumbers.{OpensApart, UsesOpen, released_by, released_pending, released_sent, released_held, open_files}
use Rattle.fuse_theorem.proofs.Calls.Finding.{same_is}
use Rattle.fuse_theorem.proofs.Lists.OpenSums.{CountsOpens, All-left, All-right}
use Rattle.fuse_theorem.proofs.OpenFiles.OpensUsed.{asked_state}
use Rattle.fuse_theorem.proofs.OpenFiles.OpensTables.{All-each}
use Rattle.fuse_theorem.proofs.Lists.Values.{All-get}

-- ---- what is counted is held

-- Each handle that a copy carries is one of the server's.
pub copies_there : (w : World) → CountsOpens w → All
    (λ (s : Sent). (fh : ℕ) → Contains (opens_in_reply s.wire) fh → IsFileHandle w.server.handles fh) w.replies
copies_there w counts i s lt fh named none =
    let wire = (get_or w.replies i s).wire in
    let term = get_or-le-sum_by (λ (n : ℕ). cond (nat_eq fh n) 1 0) (opens_in_reply wire) named.0 fh named.1 in
    let mine : ◌≡◌ {A = ℕ} (cond (nat_eq fh (get_or (opens_in_reply wire) named.0 fh)) 1 0) 1 =
    ap {B = ℕ} (λ (n : ℕ). cond (nat_eq fh n) 1 0) named.2 ∙ ap {B = ℕ} (λ (b : Bool). cond b 1 0) (same_is fh) in
    let sum = get_or-le-sum_by (λ (x : Sent). opens_in fh x.wire) w.replies i s lt in
    let whole = counts fh in
    let zero_here : handle_count (get w.server.handles.handles fh) ≡ 0 = ap handle_count none in
    absurd (omega (arith, term, mine, sum, whole, zero_here))

module _ (w : World) (h : HandleTable) (apart : OpensApart w.kernel.vfs w.kernel.closing) (asked_so : RequestsAsked w)
    (kept : KeptAreSent w) (numbers : All (λ (o : Opened). IsFileHandle h o.fh) (open_files w))
    (copies : All (λ (s : Sent). (fh : ℕ) → Contains (opens_in_reply s.wire) fh → IsFileHandle h fh) w.replies) where
  abbrev Held : Opened → Type 0
  Held o = IsFileHandle h o.fh

  abbrev opened : List Opened
  opened = values w.kernel.vfs.opens

  abbrev closed : List Opened
  closed = values w.kernel.closing

  kernel_files : All Held (opened ++ closed)
  kernel_files =
      All-left Held (opened ++ closed) (released_pending w.kernel.queues)
      (All-left Held (opened ++ closed ++ released_pending w.kernel.queues) (released_sent w.requests)
      (All-left Held (opened ++ closed ++ released_pending w.kernel.queues ++ released_sent w.requests)
      (released_held w.server.held) numbers))

  of_opens : (open_call : ℕ) (o : Opened) → get w.kernel.vfs.opens open_call ≡ Some o → Held o
  of_opens open_call o at = All-get Held w.kernel.vfs.opens open_call o (All-left Held opened closed kernel_files) at

  of_closing : (open_call : ℕ) (o : Opened) → get w.kernel.closing open_call ≡ Some o → Held o
  of_closing open_call o at = All-get Held w.kernel.closing open_call o (All-right Held opened closed kernel_files) at

  of_calls : (call : ℕ) (state : CallState Opened) → get w.kernel.vfs.calls call ≡ Some state
      → All Held (opens_of (asked state))
  of_calls call state at = by state (apart.uses call state at)
    where
      by : (s : CallState Opened) → UsesOpen w.kernel.vfs.opens w.kernel.closing s → All Held (opens_of (asked s))
      by (walking d word words plan) u = All-nil Held
      by (doing operation) u = subst (λ (os : List Opened). All Held os) (sym u) (All-nil Held)
      by (using open_call operation) u =
          λ i d lt. elim (u i d lt) [ inl e ↦ of_opens open_call _ e | inr e ↦ of_closing open_call _ e ]

  of_asked : (unique : ℕ) (operation : Operation ℕ Opened) → IsAsked w.kernel unique (asks operation)
      → All Held (opens_of operation)
  of_asked unique operation is = let state = asked_state w.kernel unique operation is in
      subst (λ (x : Operation ℕ Opened). All Held (opens_of x)) state.3 (of_calls state.0 state.1 state.2)

  of_sent : (unique : ℕ) (body : RequestBody) → SentAsked w.kernel unique body → All Held (released_by body)
      → All Held (opens_of_body body)
  of_sent unique (init flags) is r = All-nil Held
  of_sent unique (asks operation) is r = of_asked unique operation is
  of_sent unique (release o) is r = r
  of_sent unique (forget f) is r = All-nil Held
  of_sent unique (batch_forget fs) is r = All-nil Held
  of_sent unique (interrupt original) is r = All-nil Held

  of_held : (unique : ℕ) (body : RequestBody) → IsAsked w.kernel unique body → All Held (released_by body)
      → All Held (opens_of_body body)
  of_held unique (init flags) is r = All-nil Held
  of_held unique (asks operation) is r = of_asked unique operation is
  of_held unique (release o) is r = r
  of_held unique (forget f) is r = All-nil Held
  of_held unique (batch_forget fs) is r = All-nil Held
  of_held unique (interrupt original) is r = All-nil Held

  sent_files : All (λ (r : Request). All Held (released_by r.body)) w.requests
  sent_files =
      All-each Held (λ (r : Request). released_by r.body) w.requests
      (All-right Held (opened ++ closed ++ released_pending w.kernel.queues) (released_sent w.requests)
      (All-left Held (opened ++ closed ++ released_pending w.kernel.queues ++ released_sent w.requests)
      (released_held w.server.held) numbers))

  held_files : All (λ (t : HeldRequest). All Held (released_by t.body)) (values w.server.held)
  held_files = All-each Held (λ (t : HeldRequest). released_by t.body) (values w.server.held)
      (All-right Held (opened ++ closed ++ released_pending w.kernel.queues ++ released_sent w.requests)
      (released_held w.server.held) numbers)

  copy_has : (wire : WireReply) (fh : ℕ) → Contains (opens_in_reply wire) fh → (unique : ℕ) (xs : List Sent)
      → All (λ (s : Sent). (n : ℕ) → Contains (opens_in_reply s.wire) n → IsFileHandle h n) xs
      → SomeHas (λ (s : Sent). (s.unique ≡ unique) × (s.wire ≡ wire)) xs → IsFileHandle h fh
  copy_has wire fh named unique xs each (here x rest is) =
      All-head (λ (s : Sent). (n : ℕ) → Contains (opens_in_reply s.wire) n → IsFileHandle h n) x rest each fh
      (subst (λ (y : WireReply). Contains (opens_in_reply y) fh) (sym is.1) named)
  copy_has wire fh named unique xs each (there x rest more) =
      copy_has wire fh named unique rest (All-tail (λ (s : Sent). (n : ℕ) → Contains (opens_in_reply s.wire) n
      → IsFileHandle h n) x rest each) more

  -- With this table the server holds what is counted.
  pub counted_held : HoldsOpens w h
  counted_held = record {
    opens = of_opens;
    calls = λ call state at o named. All-contains Held (opens_of (asked state)) o (of_calls call state at) named;
    sent = λ i r lt o named. let x = get_or w.requests i r in
        All-contains Held (opens_of_body x.body) o (of_sent x.unique x.body (asked_so.sent i r lt)
        (sent_files i r lt)) named;
    held = λ unique t at o named. let is = asked_so.held unique t at in
        All-contains Held (opens_of_body t.body) o (of_held unique t.body is.is_asked
        (All-get (λ (x : HeldRequest). All Held (released_by x.body)) w.server.held unique t held_files at)) named;
    kept = λ unique k at waits fh named. copy_has k.wire fh named unique w.replies copies (kept unique k at waits);
    copies = λ i s lt waits fh named. copies i s lt fh named;
  }
