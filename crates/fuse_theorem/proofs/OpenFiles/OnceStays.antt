-- A file handle is of one open file at most, whatever happens.
use Rattle.fuse_spec.specs.Calls.Calls.{for_minor}
use Rattle.fuse_spec.specs.declared.Minor.{Minor}
use Rattle.std.proofs.Common.{◌≡◌, ◌≢◌, ℕ, ◌+◌, ◌-◌, ◌≤◌, ◌<◌, Bool, true, false, true≢false, cond, List, [], ◌++◌, drop, Option, Some, None, nat_eq, slice_get, count_by, refl, ap, sym, subst, ◌∙◌, arith, ◌⊎◌, inl, inr, All}
use Rattle.std.specs.Prelude.{◌%◌, sum_by}
use Rattle.std.specs.List.{remove as without_at}
use Rattle.std.proofs.lemmas.List.Elements.{All-head, All-tail}
use Rattle.std.proofs.lemmas.List.Sums.{sum_by-append}
use Rattle.fuse_spec.specs.declared.Opened.{Opened}
use Rattle.fuse_spec.specs.declared.Purpose.{Purpose}
use Rattle.fuse_spec.specs.declared.Purpose.TheVariants as purpose
use Rattle.fuse_spec.specs.declared.ReplyResult.{ReplyResult}
use Rattle.fuse_spec.specs.declared.WriteResult.{WriteResult}
use Rattle.fuse_spec.specs.declared.WriteResult.TheVariants.{Accepted, NoEntry, Invalid}
use Rattle.fuse_spec.specs.Server.Copies.{handles_back, given_back, kept_after, after_result}
use Rattle.fuse_spec.specs.Claim.Counts.{AtRest, handle_count, open_in_kernel, opens_in, result_carries}
use Rattle.fuse_spec.specs.Values.Maps.{Map, get, put, remove, values}
use Rattle.fuse_spec.specs.Kernel.Messages.{Request, RequestBody, init, asks, release, forget, batch_forget, interrupt}
use Rattle.fuse_spec.specs.Files.Operations.{opens_in_reply}
use Rattle.fuse_spec.specs.Kernel.Queues.{QueueState, request_under}
use Rattle.fuse_spec.specs.Kernel.QueueCalls.{can_read_forgets, waiting, without}
use Rattle.fuse_spec.specs.Calls.Vfs.{later}
use Rattle.fuse_spec.specs.Kernel.Kernel.{Kernel, is_live, call_begun}
use Rattle.fuse_spec.specs.Server.Nodes.{HandleTable}
use Rattle.fuse_spec.specs.Reference.Plain.{Plain}
use Rattle.fuse_spec.specs.Kernel.Replies.{replied_to_call, request_reply_written, interrupt_reply_written, reply_written}
use Rattle.fuse_spec.specs.Server.Server.{Server, HeldRequest, Kept, Copy}
use Rattle.fuse_spec.specs.Server.Taking.{taking, interrupting}
use Rattle.fuse_spec.specs.Server.Performs.{PerformResult, performed, served}
use Rattle.fuse_spec.specs.World.Worlds.{World, Sent, copy_put, first_world, after_mount, after_take, after_perform, after_again, after_write, after_settle, after_drop, after_evict}
use Rattle.fuse_spec.specs.World.Events.{Event, Outcome}
use Rattle.fuse_spec.specs.World.Steps.{MayStep, MayChooseFor, Happens}
use Rattle.fuse_spec.proofs.QueueReadings.{request_under-without}
use Rattle.fuse_spec.proofs.QueueReadings.{key_count-le-one}
use Rattle.fuse_theorem.specs.Copies.{SomeHas, here, there}
use Rattle.fuse_theorem.specs.EveryList.{BothSound}
use Rattle.fuse_theorem.specs.Lookups.{LookupsSound}
use Rattle.fuse_theorem.specs.Numbering.{IsNumbered}
use Rattle.fuse_theorem.specs.OpenNumbers.{open_files, released_pending, released_sent, released_held, OpensBalanced, OpensSound}
use Rattle.fuse_theorem.specs.OpensOnce.{CarriesOpen, OpensOnce, OpensOnceWhileLive}
use Rattle.fuse_theorem.specs.ReleasesKnown.{ReleasesKnown}
use Rattle.fuse_theorem.specs.WorldSound.{WorldSound}
use Rattle.fuse_theorem.proofs.Answers.Answered.{waiting_is}
use Rattle.fuse_theorem.proofs.Calls.Finding.{same_is}
use Rattle.fuse_theorem.proofs.Calls.CallsContinue.{begun_goes_on}
use Rattle.fuse_theorem.proofs.RefusalCases.Happened.{Happened, by_mount, by_call, by_read_interrupt, by_read_forgets, by_read_pending, by_take, by_perform, by_again, by_write, by_settle, by_signal, by_tick, by_drop, by_evict, by_abort, happened}
use Rattle.fuse_theorem.proofs.Replies.KeptOnLink.{stays_absent}
use Rattle.fuse_theorem.proofs.Lookups.LookupsAfterReply.{wire_usable}
use Rattle.fuse_theorem.proofs.Lists.MapSums.{worth}
use Rattle.fuse_theorem.proofs.Requests.NewNumbers.{Allocates, performed_allocates, counted_next, given_back_next}
use Rattle.fuse_theorem.proofs.Nodes.NodesSound.{put_found}
use Rattle.fuse_theorem.proofs.Requests.NumbersStay.{replying_kernel, unreceived}
use Rattle.fuse_theorem.proofs.Lists.OpenSums.{has_handle, open_sum, counts_opens}
use Rattle.fuse_theorem.proofs.OpenFiles.OpensAfterReply.{ReceivesOpens, read_sum, written_received}
use Rattle.fuse_theorem.proofs.OpenFiles.OpensKept.{begun_keeps, signalled_keeps}
use Rattle.fuse_theorem.proofs.OpenFiles.OpensMoved.{SameOpen, open_same, keeps_same, interrupt_same, pending_same, forgets_same}
use Rattle.fuse_theorem.proofs.OpenFiles.OpensOnce.{has_none, has_old, has_kept, has_at, files_with, none_new, one_new, one_opened}
use Rattle.fuse_theorem.proofs.OpenFiles.OpensStay.{alive, entries}
use Rattle.fuse_theorem.proofs.OpenFiles.OpensTables.{replying_server, taken_handles, taken_files, performed_files}
use Rattle.fuse_theorem.proofs.Requests.PerformedRest.{performed_rest}
use Rattle.fuse_theorem.proofs.Requests.QueueMoves.{QueueMoves, read_moves, begun_moves, signalled_moves, replied_moves, written_moves}
use Rattle.fuse_theorem.proofs.Refining.Queuing.{All-at}
use Rattle.fuse_theorem.proofs.Refining.Settling.{kept_was}

-- ---- what carries a handle

-- What holds of each holds of the one that has a property.
one_of : {X : Type 0} (P Q : X → Type 0) (xs : List X) → SomeHas P xs → All Q xs → (x : X) × P x × Q x
one_of P Q xs (here x rest p) h = (x, p, All-head Q x rest h)
one_of P Q xs (there x rest s) h = one_of P Q rest s (All-tail Q x rest h)

-- The number of a request whose reply carries a file handle was allocated.
carries_below : (w : World) → IsNumbered w → is_live w.kernel.phase ≡ true → (unique fh : ℕ) → CarriesOpen w unique fh
    → unique < w.kernel.queues.next
carries_below w numbered live unique fh (inl kept) = numbered.kept_below live unique kept.0 kept.1
carries_below w numbered live unique fh (inr sent) =
    let found = one_of (λ (s : Sent). (s.unique ≡ unique) × (1 ≤ opens_in fh s.wire))
    (λ (s : Sent). s.unique < w.kernel.queues.next) w.replies sent numbered.replies_below in
    let low = found.2 in
    let is = found.1.0 in
    omega (arith, low, is)

-- No reply is kept or on the link.
fresh_once : (w : World) (f m : ℕ) (v : Minor) → OpensOnce (after_mount w f m v)
fresh_once w f m v = record {
  below = λ u fh c. absurd (none u fh c);
  one = λ u x fh c d. absurd (none u fh c);
  unopened = λ u fh c waits. absurd (none u fh c);
  once = λ fh. omega arith;
}
  where
    none : (u fh : ℕ) → CarriesOpen (after_mount w f m v) u fh → ⊥
    none u fh (inl kept) = let at = kept.1 in cc (at)
    none u fh (inr sent) = has_none (λ (s : Sent). (s.unique ≡ u) × (1 ≤ opens_in fh s.wire)) [] sent refl

module _ (choice : ℕ → ℕ) (w : World) (p : Plain) (both : BothSound w p) (releases : ReleasesKnown w)
    (opens : OpensSound w) (live : is_live w.kernel.phase ≡ true) (old : OpensOnce w) where
  sound : WorldSound w
  sound = both.world

  lookups : LookupsSound w
  lookups = sound.lookups

  numbered : IsNumbered w
  numbered = let numbers = lookups.numbers in numbers.live live

  balanced : OpensBalanced w
  balanced = opens.balanced live

  -- ---- the kernel moves

  -- What was answered stays so.
  answered_still : (q : QueueState Purpose) → QueueMoves w.kernel.queues q → (u fh : ℕ) → CarriesOpen w u fh
      → request_under q u ≢ None → request_under w.kernel.queues u ≢ None
  answered_still q moves u fh c waits none = waits
      (stays_absent w.kernel.queues q moves u (carries_below w numbered live u fh c) none)

  moved : (k : Kernel) (requests : List Request) → SameOpen w k requests
      → ((u fh : ℕ) → CarriesOpen w u fh → request_under k.queues u ≢ None → request_under w.kernel.queues u ≢ None)
      → OpensOnce (record w { kernel = k; requests = requests })
  moved k requests same still = none_new w (record w { kernel = k; requests = requests }) old (omega arith)
      (λ u fh c. c) still (λ fh. let sum = open_same w k requests same (has_handle fh) in omega (arith, sum))

  forgets_under : (n u : ℕ) (b : Bool) → request_under
      (cond b (record w.kernel.queues {
        forgets = drop n w.kernel.queues.forgets;
        next = w.kernel.queues.next + 2;
      }) w.kernel.queues) u ≡ request_under w.kernel.queues u
  forgets_under n u true = refl
  forgets_under n u false = refl

  -- ---- the server takes, sends again and settles

  taken_carries : (k unique : ℕ) (body : RequestBody) (u fh : ℕ)
      → CarriesOpen (after_take w k unique (taking w.server unique body)) u fh → CarriesOpen w u fh
  taken_carries k unique (init flags) u fh c = c
  taken_carries k unique (asks operation) u fh c = c
  taken_carries k unique (release o) u fh c = c
  taken_carries k unique (forget f) u fh c = c
  taken_carries k unique (batch_forget fs) u fh c = c
  taken_carries k unique (interrupt original) u fh c = by (get w.server.held original) (get w.server.kept original) c
    where
      by : (h : Option HeldRequest) (o : Option Kept) → CarriesOpen
          (after_take w k unique (interrupting w.server unique original h o)) u fh → CarriesOpen w u fh
      by (Some t) o n = n
      by None (Some x) n = n
      by None None (inl kept) = inl kept
      by None None (inr sent) = elim (has_old (λ (s : Sent). (s.unique ≡ u)
          × (1 ≤ opens_in fh s.wire)) w.replies _ sent) [
            | inl e ↦ absurd
                (let some = e.1 in omega (arith, some))
            | inr h ↦ inr h
          ]

  taken_once : (k : ℕ) (r : Request) → slice_get w.requests k ≡ Some r
      → OpensOnce (after_take w k r.unique (taking w.server r.unique r.body))
  taken_once k r at =
      let took = taking w.server r.unique r.body in
      let left = record w { requests = without_at w.requests k; server = took.server } in
      let kernel = replying_kernel left w.server.next_copy r.unique took.reply in
      let next = ap (λ (s : Server). s.handles.next_fh) (replying_server left w.server.next_copy r.unique took.reply) in
      let same = ap (λ (h : HandleTable). h.next_fh) (taken_handles w r.unique r.body) in
      none_new w (after_take w k r.unique took) old (omega (arith, next, same)) (taken_carries k r.unique r.body)
      (λ u fh c waits e. waits (ap (λ (l : Kernel). request_under l.queues u) kernel ∙ e))
      (λ fh. let files = taken_files w p both live releases opens.held balanced k r at (has_handle fh) in
      omega (arith, files))

  again_once : (unique : ℕ) (kept : Kept) → get w.server.kept unique ≡ Some kept → OpensOnce (after_again w unique kept)
  again_once unique kept at =
      none_new w (after_again w unique kept) old (let same =
      counted_next (opens_in_reply kept.wire) w.server.handles in omega (arith, same)) carried
      (λ u fh c waits. waits) (λ fh. omega arith)
    where
      carried : (u fh : ℕ) → CarriesOpen (after_again w unique kept) u fh → CarriesOpen w u fh
      carried u fh (inl x) = inl x
      carried u fh (inr sent) = elim (has_old (λ (s : Sent). (s.unique ≡ u)
          × (1 ≤ opens_in fh s.wire)) w.replies _ sent) [
            | inl e ↦ inl
                (kept, subst (λ (n : ℕ). get w.server.kept n ≡ Some kept) e.0 at, e.1)
            | inr h ↦ inr h
          ]

  module _ (k : ℕ) (result : ReplyResult) (copy : Copy) where
    abbrev less : Server
    less = record w.server {
      copies = remove w.server.copies result.number;
      kept = kept_after w.server.kept copy (get w.server.kept copy.unique);
    }

    fewer : (s : Server) → s.kept ≡ kept_after w.server.kept copy (get w.server.kept copy.unique) → (u fh : ℕ)
        → CarriesOpen (record w { results = without_at w.results k; server = s }) u fh → CarriesOpen w u fh
    fewer s same u fh (inl x) = inl (
      x.0,
      kept_was w.server.kept copy (get w.server.kept copy.unique) u x.0
          (ap (λ (m : Map Kept). get m u) (sym same) ∙ x.1),
      x.2,
    )
    fewer s same u fh (inr sent) = inr sent

    next : w.server.handles.next_fh ≤ (handles_back w.server.handles (opens_in_reply copy.wire)).next_fh
    next = let same = given_back_next (opens_in_reply copy.wire) w.server.handles in omega (arith, same)

    settled_as : (r : WriteResult) → OpensOnce (record w {
      results = without_at w.results k;
      server = after_result less copy.wire r;
    })
    settled_as Accepted = none_new w (record w { results = without_at w.results k; server = less }) old (omega arith)
        (fewer less refl) (λ u fh c waits. waits) (λ fh. omega arith)
    settled_as NoEntry = none_new w (record w {
      results = without_at w.results k;
      server = given_back less copy.wire;
    }) old next (fewer (given_back less copy.wire) refl) (λ u fh c waits. waits)
        (λ fh. omega arith)
    settled_as Invalid = none_new w (record w {
      results = without_at w.results k;
      server = given_back less copy.wire;
    }) old next (fewer (given_back less copy.wire) refl) (λ u fh c waits. waits)
        (λ fh. omega arith)

  settled_once : (k : ℕ) (result : ReplyResult) (o : Option Copy) → OpensOnce (after_settle w k result o)
  settled_once k result None = none_new w (after_settle w k result None) old (omega arith) (λ u fh c. c)
      (λ u fh c waits. waits) (λ fh. omega arith)
  settled_once k result (Some copy) = settled_as k result copy result.result

  -- ---- a request is performed

  module _ (unique : ℕ) (t : HeldRequest) (at : get w.server.held unique ≡ Some t)
      (may : MayChooseFor choice w (Some t)) where
    did : PerformResult
    did = performed choice (record w.server { held = remove w.server.held unique }) t

    allocates : Allocates (record w.server { held = remove w.server.held unique })
        (performed choice (record w.server { held = remove w.server.held unique }) t)
    allocates = performed_allocates choice (record w.server { held = remove w.server.held unique }) t

    -- no file has the coming handle
    none_coming : files_with w.server.handles.next_fh w ≡ 0
    none_coming =
        let server = lookups.server in
        let handles = server.handles in
        let none = ap handle_count (handles.numbers w.server.handles.next_fh (omega arith)) in
        let whole = counts_opens w balanced.balance w.server.handles.next_fh in
        omega (arith, none, whole)

    performed_once : OpensOnce (after_perform w unique (served choice w.server unique t))
    performed_once = by w.server.aborted refl
      where
        serving : w.server.aborted ≡ false
        serving = let links = both.links in links.serving live

        kept_is : (performed choice (record w.server { held = remove w.server.held unique }) t).server.kept
            ≡ w.server.kept
        kept_is = let rest = performed_rest choice (record w.server { held = remove w.server.held unique }) t in
            rest.kept

        -- the reply is kept and goes out
        carried : (b : Bool) → (performed choice (record w.server {
          held =
              remove w.server.held unique;
        }) t).server.aborted ≡ b → (u fh : ℕ)
            → CarriesOpen (copy_put (record w {
              server =
                  (served choice w.server unique t).server;
            }) w.server.next_copy unique
            (Some (served choice w.server unique t).wire)) u fh
            → ((u ≡ unique) × (1 ≤ opens_in fh (performed choice
            (record w.server { held = remove w.server.held unique }) t).wire)) ⊎ CarriesOpen w u fh
        carried b aborted u fh (inr sent) = elim (has_old
            (λ (s : Sent). (s.unique ≡ u) × (1 ≤ opens_in fh s.wire)) w.replies _ sent) [
              | inl e ↦ inl
                  (sym e.0, e.1)
              | inr h ↦ inr (inr h)
            ]
        carried b aborted u fh (inl x) = of_kept b (subst
            (λ (c : Bool). get (cond c (performed choice (record w.server {
              held =
                  remove w.server.held unique;
            }) t).server.kept (put
            (performed choice (record w.server { held = remove w.server.held unique }) t).server.kept unique
            (record {
              wire = (performed choice (record w.server { held = remove w.server.held unique }) t).wire;
              first = (performed choice (record w.server {
                held =
                    remove w.server.held unique;
              }) t).server.next_copy;
            }))) u ≡ Some x.0) aborted x.1)
          where
            of_kept : (c : Bool) → get (cond c (performed choice
                (record w.server { held = remove w.server.held unique }) t).server.kept
                (put (performed choice (record w.server { held = remove w.server.held unique }) t).server.kept unique
                (record {
                  wire = (performed choice (record w.server { held = remove w.server.held unique }) t).wire;
                  first = (performed choice (record w.server {
                    held =
                        remove w.server.held unique;
                  }) t).server.next_copy;
                }))) u ≡ Some x.0
                → ((u ≡ unique) × (1 ≤ opens_in fh (performed choice
                (record w.server { held = remove w.server.held unique }) t).wire)) ⊎ CarriesOpen w u fh
            of_kept true e = inr (inl (x.0, ap (λ (m : Map Kept). get m u) (sym kept_is) ∙ e, x.2))
            of_kept false e = elim (put_found (performed choice
                (record w.server { held = remove w.server.held unique }) t).server.kept unique _ u x.0 e) [
                  | inl h ↦ inl (h.0, subst (λ (k : Kept). 1 ≤ opens_in fh k.wire) (sym h.1) x.2)
                  | inr h ↦ inr (inl (x.0, ap (λ (m : Map Kept). get m u) (sym kept_is) ∙ h, x.2))
                ]

        by : (b : Bool) → w.server.aborted ≡ b → OpensOnce
            (copy_put (record w { server = (served choice w.server unique t).server }) w.server.next_copy unique
            (cond b None (Some (served choice w.server unique t).wire)))
        by true aborted = absurd (true≢false (sym aborted ∙ serving))
        by false alive_still =
            one_new w (copy_put (record w {
              server =
                  (served choice w.server unique t).server;
            }) w.server.next_copy unique
            (Some (served choice w.server unique t).wire)) old unique
            (λ u fh c. elim (carried _ refl u fh c) [
              | inl e ↦ inl
                  (e.0, (allocates.new fh e.1).0, (allocates.new fh e.1).1)
              | inr d ↦ inr d
            ]) allocates.rises refl none_coming
            (λ fh. let files = performed_files w p both live releases opens.held balanced choice unique t at may
            (Some (served choice w.server unique t).wire) (has_handle fh) in omega (arith, files))

  -- ---- a reply is written

  module _ (k : ℕ) (sent : Sent) (at : slice_get w.replies k ≡ Some sent) where
    abbrev taken : WriteResult × Kernel
    taken = reply_written w.kernel sent.unique sent.wire

    abbrev written : World
    written = after_write w k sent (reply_written w.kernel sent.unique sent.wire)

    -- what the copy's request serves, where a file is opened
    abbrev Serves : Opened → Type 0
    Serves o = (call : ℕ) × (nat_eq (sent.unique % 2) 1 ≡ false)
        × (waiting w.kernel.queues sent.unique ≡ Some (purpose.Call call))

    still_live : is_live (reply_written w.kernel sent.unique sent.wire).1.phase ≡ true
    still_live = alive choice w p both releases opens k sent at live

    reply_received : ReceivesOpens Serves w.kernel sent.wire (reply_written w.kernel sent.unique sent.wire)
    reply_received =
        let known = lookups.balanced live in
        written_received Serves w.kernel opens.apart numbered.one_request sent.unique sent.wire
        (wire_usable w.server.nodes w.kernel.nodes known.known sent.wire
        (entries choice w p both releases opens k sent at live))
        (λ even call state waits there goes o e. (call, even, waits)) still_live

    files : (f : Opened → ℕ) → sum_by f (open_files written) ≡ sum_by f (open_files w) + worth f reply_received.opens
    files f =
        let before = open_sum f w in
        let after = open_sum f written in
        let kept = reply_received.keeps.sums f in
        omega (arith, before, after, kept)

    moves : QueueMoves w.kernel.queues (reply_written w.kernel sent.unique sent.wire).1.queues
    moves = written_moves w.kernel sent.unique sent.wire still_live

    carried : (u fh : ℕ) → CarriesOpen written u fh → CarriesOpen w u fh
    carried u fh (inl x) = inl x
    carried u fh (inr s) = inr (has_kept (λ (x : Sent). (x.unique ≡ u) × (1 ≤ opens_in fh x.wire)) w.replies k s)

    low : sent.unique < w.kernel.queues.next
    low = All-at (λ (s : Sent). s.unique < w.kernel.queues.next) w.replies k sent numbered.replies_below at

    -- the request ends with the reply
    ends : (call : ℕ) → nat_eq (sent.unique % 2) 1 ≡ false
        → waiting w.kernel.queues sent.unique ≡ Some (purpose.Call call)
        → request_under (reply_written w.kernel sent.unique sent.wire).1.queues sent.unique ≡ None
    ends call even waits =
        let k1 = record w.kernel { queues = without w.kernel.queues sent.unique } in
        let is : reply_written w.kernel sent.unique sent.wire
        ≡ replied_to_call k1 call sent.wire (get w.kernel.vfs.calls call) =
        ap (λ (b : Bool). cond b (interrupt_reply_written w.kernel sent.unique sent.wire
        (waiting w.kernel.queues (sent.unique - 1))) (request_reply_written w.kernel sent.unique sent.wire
        (waiting w.kernel.queues sent.unique))) even
        ∙ ap (request_reply_written w.kernel sent.unique sent.wire) waits in
        ap (λ (x : WriteResult × Kernel). request_under x.1.queues sent.unique) is
        ∙ stays_absent k1.queues (replied_to_call k1 call sent.wire (get w.kernel.vfs.calls call)).1.queues
        (replied_moves k1 call sent.wire (get w.kernel.vfs.calls call)) sent.unique low
        (request_under-without w.kernel.queues sent.unique sound.queues)

    written_once : OpensOnce (after_write w k sent (reply_written w.kernel sent.unique sent.wire))
    written_once = by reply_received.opens refl
      where
        by : (x : Option Opened) → reply_received.opens ≡ x
            → OpensOnce (after_write w k sent (reply_written w.kernel sent.unique sent.wire))
        by None e =
            none_new w written old (omega arith) carried (answered_still
            (reply_written w.kernel sent.unique sent.wire).1.queues moves)
            (λ fh. let sum = files (has_handle fh) in let none = ap (worth (has_handle fh)) e in
            omega (arith, sum, none))
        by (Some o) e =
            let serves = reply_received.fits o e in
            let request = waiting_is w.kernel.queues sent.unique (purpose.Call serves.0) serves.2 in
            let counted = reply_received.counts o.fh in
            let worth_is = ap (worth (has_handle o.fh)) e in
            let itself : has_handle o.fh o ≡ 1 = ap {B = ℕ} (λ (b : Bool). cond b 1 0) (same_is o.fh) in
            one_opened w written old sent.unique o (omega arith) carried
            (answered_still (reply_written w.kernel sent.unique sent.wire).1.queues moves)
            (inr (has_at (λ (x : Sent). (x.unique ≡ sent.unique) × (1 ≤ opens_in o.fh x.wire)) w.replies k sent at
            (refl, omega (arith, counted, worth_is, itself))))
            (λ none. absurd (cc (none, request.under))) (ends serves.0 serves.1 serves.2)
            (λ fh. let sum = files (has_handle fh) in let is = ap (worth (has_handle fh)) e in
            omega (arith, sum, is))

  -- ---- every event

  once_after : (e : Event) (o : Outcome) (after : World) → MayStep choice w e → Happened choice w e o after
      → is_live after.kernel.phase ≡ true → OpensOnce after
  once_after e o after may (by_mount f m v idle) alive_now = fresh_once w f m v
  once_after e o after may (by_call call ready room within) alive_now =
      moved (call_begun w.kernel (for_minor w.kernel.lists_files call)) w.requests
      (keeps_same w (call_begun w.kernel (for_minor w.kernel.lists_files call))
      (begun_keeps w.kernel opens.apart (for_minor w.kernel.lists_files call)))
      (answered_still (call_begun w.kernel (for_minor w.kernel.lists_files call)).queues
      (begun_moves w.kernel (for_minor w.kernel.lists_files call)))
  once_after e o after may (by_read_interrupt original rest was found within) alive_now =
      moved after.kernel after.requests (interrupt_same w original) (λ u fh c waits. waits)
  once_after e o after may (by_read_forgets n was free can within few) alive_now =
      moved after.kernel after.requests (forgets_same w n)
      (λ u fh c waits none. waits (forgets_under n u (can_read_forgets w.kernel.queues n) ∙ none))
  once_after e o after may (by_read_pending k unique kept body was free found says within) alive_now =
      moved after.kernel after.requests (pending_same w k unique body
      (read_sum w.kernel (λ u. key_count-le-one w.kernel.queues u sound.queues) k unique kept body found says))
      (answered_still after.kernel.queues (read_moves w.kernel.queues sound.queues k))
  once_after e o after may (by_take k r found within) alive_now = taken_once k r found
  once_after e o after may (by_perform unique t found within) alive_now =
      performed_once unique t found (subst (MayChooseFor choice w) found may)
  once_after e o after may (by_again unique kept found current within) alive_now = again_once unique kept found
  once_after e o after may (by_write k sent found within) alive_now = written_once k sent found
  once_after e o after may (by_settle k result found) alive_now =
      settled_once k result (get w.server.copies result.number)
  once_after e o after may (by_signal call fatal state was found within) alive_now =
      moved after.kernel w.requests (keeps_same w after.kernel
      (signalled_keeps w.kernel opens.apart (λ u. key_count-le-one w.kernel.queues u sound.queues) call state
      found fatal))
      (answered_still after.kernel.queues (signalled_moves w.kernel call state fatal))
  once_after e o after may (by_tick ms timely) alive_now =
      moved (record w.kernel { vfs = later w.kernel.vfs ms }) w.requests (λ f. refl) (λ u fh c waits. waits)
  once_after e o after may (by_drop directory name bound was found) alive_now =
      moved (after_drop w directory name).kernel w.requests (λ f. refl) (λ u fh c waits. waits)
  once_after e o after may (by_evict node counted was found unused) alive_now =
      moved (after_evict w node counted).kernel w.requests (λ f. refl) (λ u fh c waits. waits)
  once_after e o after may (by_abort was) alive_now = absurd (true≢false (sym alive_now))

-- A world that is not live becomes live by a mount alone.
mounted_once : (choice : ℕ → ℕ) (w : World) (sound : WorldSound w) → is_live w.kernel.phase ≡ false
    → (e : Event) (o : Outcome) (after : World) → Happened choice w e o after → is_live after.kernel.phase ≡ true
    → OpensOnce after
mounted_once choice w sound dead e o after did live = by e o after did live
  where
    same : (v : World) → v.kernel ≡ w.kernel → is_live v.kernel.phase ≡ true → ⊥
    same v kernel now = true≢false (sym now ∙ ap (λ (k : Kernel). is_live k.phase) kernel ∙ dead)

    was : is_live w.kernel.phase ≡ true → ⊥
    was now = true≢false (sym now ∙ dead)

    by : (x : Event) (r : Outcome) (v : World) → Happened choice w x r v → is_live v.kernel.phase ≡ true → OpensOnce v
    by x r y (by_mount f m v idle) now = fresh_once w f m v
    by x r v (by_call call ready room within) now = let goes =
        begun_goes_on w.kernel (for_minor w.kernel.lists_files call) in
        absurd (true≢false (sym now ∙ ap is_live goes.phase ∙ dead))
    by x r v (by_read_interrupt original rest lives found within) now = absurd (was lives)
    by x r v (by_read_forgets n lives free can within few) now = absurd (was lives)
    by x r v (by_read_pending k unique kept body lives free found says within) now = absurd (was lives)
    by x r v (by_take k q found within) now =
        let took = taking w.server q.unique q.body in
        absurd (same (after_take w k q.unique took) (replying_kernel
        (record w {
          requests = without_at w.requests k;
          server =
              took.server;
        }) w.server.next_copy q.unique took.reply) now)
    by x r v (by_perform unique t found within) now =
        let did_it = served choice w.server unique t in
        absurd (same (after_perform w unique did_it) (replying_kernel
        (record w { server = did_it.server }) w.server.next_copy unique
        (cond w.server.aborted None (Some did_it.wire))) now)
    by x r v (by_again unique kept found current within) now = absurd (was now)
    by x r v (by_write k sent found within) now =
        let lookups = sound.lookups in
        let numbers = lookups.numbers in
        absurd (same (after_write w k sent (reply_written w.kernel sent.unique sent.wire))
        (unreceived w.kernel (numbers.idle dead) sent.unique sent.wire) now)
    by x r v (by_settle k result found) now = absurd (was now)
    by x r v (by_signal call fatal state lives found within) now = absurd (was lives)
    by x r v (by_tick ms timely) now = absurd (was now)
    by x r v (by_drop directory name bound lives found) now = absurd (was lives)
    by x r v (by_evict node counted lives found unused) now = absurd (was lives)
    by x r v (by_abort lives) now = absurd (was lives)

-- File handles are of one open file each, whatever the event.
pub once_stays : (w : World) (p : Plain) → BothSound w p → ReleasesKnown w → OpensSound w → OpensOnceWhileLive w
    → (e : Event) (o : Outcome) (after : World) → Happens w e o after → OpensOnceWhileLive after
once_stays w p both releases opens old e o after h now = by (is_live w.kernel.phase) refl
  where
    did : Happened h.0 w e o after
    did = happened h.0 w o after e h.2

    by : (b : Bool) → is_live w.kernel.phase ≡ b → OpensOnce after
    by true live = once_after h.0 w p both releases opens live (old live) e o after h.1 did now
    by false dead = mounted_once h.0 w both.world dead e o after did now

-- Where nothing is under way, the server counts each file handle once at most.
pub once_at_rest : (w : World) → OpensSound w → OpensOnceWhileLive w → AtRest w → (fh : ℕ)
    → handle_count (get w.server.handles.handles fh) ≤ 1
once_at_rest w opens old rest fh =
    let balanced = opens.balanced rest.live in
    let whole = counts_opens w balanced.balance fh in
    let sent : sum_by (λ (s : Sent). opens_in fh s.wire) w.replies ≡ 0 =
    ap (λ (ss : List Sent). sum_by (λ (s : Sent). opens_in fh s.wire) ss) rest.replies in
    let back : sum_by (result_carries (opens_in fh) w.server) w.results ≡ 0 =
    ap (λ (rs : List ReplyResult). sum_by (result_carries (opens_in fh) w.server) rs) rest.results in
    let once = (old rest.live).once fh in
    omega (arith, whole, sent, back, once)

-- what is counted of a list is counted of one that goes on
count_front : {X : Type 0} (f : X → Bool) (xs ys : List X) → count_by f xs ≤ count_by f (xs ++ ys)
count_front f xs ys =
    let both : count_by f (xs ++ ys) ≡ count_by f xs + count_by f ys = sum_by-append (λ x. cond (f x) 1 0) xs ys in
    omega (arith, both)

-- A file handle is of one file of the kernel at most.
pub once_in_kernel : (w : World) → OpensOnce w → (fh : ℕ) → open_in_kernel w.kernel fh ≤ 1
once_in_kernel w old fh =
    let has = λ (o : Opened). nat_eq o.fh fh in
    let kernel = values w.kernel.vfs.opens ++ values w.kernel.closing in
    let pending = released_pending w.kernel.queues in
    let sent = released_sent w.requests in
    let first = count_front has kernel pending in
    let second = count_front has (kernel ++ pending) sent in
    let third = count_front has (kernel ++ pending ++ sent) (released_held w.server.held) in
    let once = old.once fh in
    omega (arith, first, second, third, once)

pub first_once : OpensOnceWhileLive first_world
first_once live = absurd (true≢false (sym live))
