-- Lookups stay balanced, whatever happens.
use Rattle.fuse_spec.specs.Values.Numbers.{init_flags}
use Rattle.fuse_spec.specs.Calls.Calls.{for_minor}
use Rattle.fuse_spec.specs.declared.Minor.{Minor}
use Rattle.std.proofs.Common.{◌≡◌, ℕ, ◌+◌, ◌≤◌, Bool, true, false, true≢false, cond, List, [], ◌∷◌, ◌++◌, take, drop, Option, Some, None, nat_eq, slice_get, option_map, refl, ap, sym, subst, ◌∙◌, arith, inl, inr, All}
use Rattle.std.specs.List.{remove as without_at}
use Rattle.std.proofs.lemmas.Bool.{cases_eq}
use Rattle.std.proofs.lemmas.List.Elements.{All-nil}
use Rattle.std.proofs.lemmas.List.Sums.{sum_by_push, sum_by-take-drop}
use Rattle.fuse_spec.specs.declared.Counted.{Counted}
use Rattle.fuse_spec.specs.declared.Entry.{Entry}
use Rattle.fuse_spec.specs.declared.Opened.{Opened}
use Rattle.fuse_spec.specs.declared.Purpose.{Purpose}
use Rattle.fuse_spec.specs.declared.Purpose.TheVariants as purpose
use Rattle.fuse_spec.specs.declared.ReplyResult.{ReplyResult}
use Rattle.fuse_spec.specs.declared.WriteResult.{WriteResult}
use Rattle.fuse_spec.specs.declared.WriteResult.TheVariants.{Accepted, NoEntry, Invalid}
use Rattle.fuse_spec.specs.Values.Maps.{Map, get, put, remove}
use Rattle.fuse_spec.specs.Kernel.Messages.{Forget, Request, RequestBody, init, asks, release, forget, batch_forget, interrupt, WireReply}
use Rattle.fuse_spec.specs.Files.Operations.{files_in_reply}
use Rattle.fuse_spec.specs.Kernel.Uniques.{interrupt_number}
use Rattle.fuse_spec.specs.Calls.Vfs.{CallState, asked, later}
use Rattle.fuse_spec.specs.Kernel.Queues.{pending}
use Rattle.fuse_spec.specs.Kernel.QueueCalls as queues
use Rattle.fuse_spec.specs.Kernel.Kernel.{Kernel, is_live, asked_by, body_of, call_begun, call_signalled}
use Rattle.fuse_spec.specs.Server.Nodes.{root_row}
use Rattle.fuse_spec.specs.Server.Server.{HeldRequest, Kept, Copy, forgotten, forgets_of}
use Rattle.fuse_spec.specs.Server.Taking.{taking, interrupting}
use Rattle.fuse_spec.specs.Server.Performs.{performed, served}
use Rattle.fuse_spec.specs.Server.Copies.{after_result, kept_after}
use Rattle.fuse_spec.specs.Kernel.Replies.{reply_written}
use Rattle.fuse_spec.specs.Claim.Counts.{counted}
use Rattle.fuse_spec.specs.Claim.Denotes.{Denotes}
use Rattle.fuse_spec.specs.World.Worlds.{World, Sent, copy_put, forget_body, first_world, server_settled, after_mount, world_after_read_interrupt, world_after_read_forgets, world_after_read_pending, after_take, after_perform, after_write, after_drop, after_evict}
use Rattle.fuse_spec.specs.World.Events.{Event, Outcome}
use Rattle.fuse_spec.specs.World.Steps.{MayStep, MayChooseFor, Happens}
use Rattle.fuse_theorem.specs.Conditions.{KnownAreHeld}
use Rattle.fuse_theorem.specs.Lookups.{IsHeldAs, RefusedHeld, EntriesHeld, LookupsBalanced, LookupsSound}
use Rattle.fuse_theorem.specs.ServerTables.{ServerSound}
use Rattle.fuse_theorem.proofs.Replies.CopiesSound.{first_copies, copies_stay}
use Rattle.fuse_theorem.proofs.Lookups.CountsStay.{SameCounts, begun_same, signalled_same, read_same}
use Rattle.fuse_theorem.proofs.Calls.Finding.{other_is}
use Rattle.fuse_theorem.proofs.Calls.CallsContinue.{begun_goes_on, signalled_goes_on}
use Rattle.fuse_theorem.proofs.RefusalCases.Happened.{Happened, by_mount, by_call, by_read_interrupt, by_read_forgets, by_read_pending, by_take, by_perform, by_again, by_write, by_settle, by_signal, by_tick, by_drop, by_evict, by_abort, happened}
use Rattle.fuse_theorem.proofs.Lookups.Lookups.{sent_forgets, kernel_moves}
use Rattle.fuse_theorem.proofs.Lookups.LookupsAfterReply.{written_balanced}
use Rattle.fuse_theorem.proofs.Lookups.LookupsServed.{taken_balanced, performed_balanced, again_balanced, settled_balanced}
use Rattle.fuse_theorem.proofs.Nodes.NodesSound.{left_found, put_found}
use Rattle.fuse_theorem.proofs.Requests.NumbersStay.{ReceivesReply, goes_on, ends, calls_of, written_received, unreceived, replying_kernel, numbers_stay, first_numbers}
use Rattle.fuse_theorem.proofs.Lookups.PerformedCounts.{Counts, performed_counts}
use Rattle.fuse_theorem.proofs.Requests.PerformedRest.{performed_rest}
use Rattle.fuse_theorem.proofs.Lookups.RowCounts.{evicted_count}
use Rattle.fuse_theorem.proofs.Nodes.ServerSound.{stays_sound, first_sound}
use Rattle.fuse_theorem.proofs.Refining.Settling.{kept_was}

-- ---- requests are read, calls go on, and nodes are evicted

-- The same nodes are counted, and the same lookups are to be forgotten.
moves : (w : World) → LookupsBalanced w → (k : Kernel) → SameCounts w.kernel k
    → LookupsBalanced (record w { kernel = k })
moves w old k same = kernel_moves w old k w.requests same.nodes
    (λ id. ap (λ (fs : List Forget). forgotten id fs + sent_forgets id w.requests) same.forgets)

read_interrupt : (w : World) → LookupsBalanced w → (original : ℕ) → LookupsBalanced (world_after_read_interrupt w original)
read_interrupt w old original =
    let new : Request = record { unique = interrupt_number original; body = interrupt original } in
    kernel_moves w old (record w.kernel { queues = queues.after_read_interrupt w.kernel.queues })
    (w.requests ++ new ∷ []) refl
    (λ id. let pushed : sent_forgets id (w.requests ++ new ∷ [])
    ≡ sent_forgets id w.requests + 0 = sum_by_push (λ (r : Request). forgotten id
    (forgets_of r.body)) w.requests new in omega (arith, pushed))

-- a frame of forgets has them
forget_body_is : (fs : List Forget) → forgets_of (forget_body fs) ≡ fs
forget_body_is [] = refl
forget_body_is (f ∷ []) = refl
forget_body_is (f ∷ g ∷ fs) = refl

read_forgets : (w : World) → LookupsBalanced w → (n : ℕ) → queues.can_read_forgets w.kernel.queues n ≡ true
    → LookupsBalanced (world_after_read_forgets w n (take n w.kernel.queues.forgets))
read_forgets w old n can = by (queues.can_read_forgets w.kernel.queues n) can
  where
    by : (b : Bool) → b ≡ true → LookupsBalanced (record w {
      kernel = record w.kernel {
        queues = cond b (record w.kernel.queues {
          forgets = drop n w.kernel.queues.forgets;
          next = w.kernel.queues.next + 2;
        }) w.kernel.queues;
      };
      requests = w.requests ++ record {
        unique = w.kernel.queues.next;
        body = forget_body (take n w.kernel.queues.forgets);
      } ∷ [];
    })
    by false e = absurd (true≢false (sym e))
    by true e =
        let fs = w.kernel.queues.forgets in
        let new : Request = record { unique = w.kernel.queues.next; body = forget_body (take n fs) } in
        kernel_moves w old (record w.kernel {
          queues = record w.kernel.queues {
            forgets = drop n fs;
            next = w.kernel.queues.next + 2;
          };
        }) (w.requests ++ new ∷ []) refl
        (λ id.
        let pushed : sent_forgets id (w.requests ++ new ∷ [])
        ≡ sent_forgets id w.requests + forgotten id (forgets_of (forget_body (take n fs))) =
        sum_by_push (λ (r : Request). forgotten id (forgets_of r.body)) w.requests new in
        let body : forgotten id (forgets_of (forget_body (take n fs))) ≡ forgotten id (take n fs) =
        ap (forgotten id) (forget_body_is (take n fs)) in
        let whole : forgotten id (take n fs) + forgotten id (drop n fs) ≡ forgotten id fs =
        sum_by-take-drop (λ (f : Forget). cond (nat_eq f.0 id) f.1 0) fs n in
        omega (arith, pushed, body, whole))

-- a pending request forgets nothing
body_forgets : (k : Kernel) (kept : Purpose) (body : RequestBody) → body_of k kept ≡ Some body → forgets_of body ≡ []
body_forgets k purpose.Init body says = let is : init init_flags ≡ body = cc in ap forgets_of (sym is)
body_forgets k (purpose.Release o) body says = let is : release o ≡ body = cc in ap forgets_of (sym is)
body_forgets k (purpose.Call call) body says = by (get k.vfs.calls call) says
  where
    by : (o : Option (CallState Opened)) → asked_by o ≡ Some body → forgets_of body ≡ []
    by None e = absurd (cc)
    by (Some state) e = let is : asks (asked state) ≡ body = cc in ap forgets_of (sym is)

read_pending : (w : World) → LookupsBalanced w → (k unique : ℕ) (kept : Purpose) (body : RequestBody)
    → body_of w.kernel kept ≡ Some body → LookupsBalanced (world_after_read_pending w k unique body)
read_pending w old k unique kept body says =
    let new : Request = record { unique = unique; body = body } in
    let forgets = read_same w.kernel.queues (slice_get (pending w.kernel.queues) k) in
    kernel_moves w old (record w.kernel { queues = queues.after_read_pending w.kernel.queues k })
    (w.requests ++ new ∷ []) refl
    (λ id.
    let same : forgotten id (queues.after_read_pending w.kernel.queues k).forgets
    ≡ forgotten id w.kernel.queues.forgets = ap (forgotten id) forgets in
    let pushed : sent_forgets id (w.requests ++ new ∷ [])
    ≡ sent_forgets id w.requests + forgotten id (forgets_of body) =
    sum_by_push (λ (r : Request). forgotten id (forgets_of r.body)) w.requests new in
    let nothing : forgotten id (forgets_of body) ≡ 0 = ap (forgotten id) (body_forgets w.kernel kept body says) in
    omega (arith, same, pushed, nothing))

evict : (w : World) → LookupsBalanced w → (node : ℕ) (c : Counted) → get w.kernel.nodes node ≡ Some c
    → LookupsBalanced (after_evict w node c)
evict w old node c there = record {
  balance = λ id low.
      let whole = old.balance id low in
      let less = evicted_count w.kernel.nodes node id in
      let mine : cond (nat_eq node id) (counted (get w.kernel.nodes node)) 0 ≡ cond (nat_eq node id) c.count 0 =
      ap (λ (o : Option Counted). cond (nat_eq node id) (counted o) 0) there in
      let pushed : forgotten id (w.kernel.queues.forgets ++ (node, c.count) ∷ [])
      ≡ forgotten id w.kernel.queues.forgets + cond (nat_eq node id) c.count 0 =
      sum_by_push (λ (f : Forget). cond (nat_eq f.0 id) f.1 0) w.kernel.queues.forgets (node, c.count) in
      omega (arith, whole, less, mine, pushed);
  known = λ id x at. old.known id x (left_found w.kernel.nodes node id x at);
  copies = old.copies;
  refused = old.refused;
}

fresh : (w : World) (found_ms missing_ms : ℕ) (minor : Minor)
    → LookupsBalanced (after_mount w found_ms missing_ms minor)
fresh w f m v = record {
  balance = λ id low. omega arith;
  known = λ id node at. absurd (cc);
  copies = All-nil (λ (s : Sent). EntriesHeld (after_mount w f m v).server.nodes s.wire);
  refused = All-nil (RefusedHeld (after_mount w f m v).server.nodes (after_mount w f m v).server.copies);
}

-- ---- kept replies

abbrev KeptNamed : Map Kept → Type 0
KeptNamed kept = (unique : ℕ) (k : Kept) → get kept unique ≡ Some k
    → All (λ (g : Entry). 2 ≤ g.nodeid) (files_in_reply k.wire)

sent_off : (w : World) (number unique : ℕ) (o : Option WireReply) → KeptNamed w.server.kept
    → KeptNamed (copy_put w number unique o).server.kept
sent_off w number unique None named = named
sent_off w number unique (Some wire) named = named

module _ (choice : ℕ → ℕ) (w : World) (s : LookupsSound w) where
  abbrev sound : ServerSound w.server
  sound = s.server

  taken_kept : (unique : ℕ) (body : RequestBody) → KeptNamed (taking w.server unique body).server.kept
  taken_kept unique (init flags) = s.kept
  taken_kept unique (asks operation) = s.kept
  taken_kept unique (release o) = s.kept
  taken_kept unique (forget f) = s.kept
  taken_kept unique (batch_forget fs) = s.kept
  taken_kept unique (interrupt original) = by (get w.server.held original) (get w.server.kept original)
    where
      by : (h : Option HeldRequest) (o : Option Kept) → KeptNamed
          (interrupting w.server unique original h o).server.kept
      by (Some t) o = s.kept
      by None (Some x) = s.kept
      by None None = s.kept

  performed_kept : (unique : ℕ) (t : HeldRequest) → MayChooseFor choice w (Some t)
      → KeptNamed (served choice w.server unique t).server.kept
  performed_kept unique t may = by (performed choice
      (record w.server { held = remove w.server.held unique }) t).server.aborted
    where
      counts : Counts (record w.server { held = remove w.server.held unique })
          (performed choice (record w.server { held = remove w.server.held unique }) t)
      counts = performed_counts choice (record w.server { held = remove w.server.held unique }) sound.nodes t may

      low : All (λ (g : Entry). 2 ≤ g.nodeid) (files_in_reply
          (performed choice (record w.server { held = remove w.server.held unique }) t).wire)
      low i g lt = let held = counts.held i g lt in held.0

      kept_same : (performed choice (record w.server { held = remove w.server.held unique }) t).server.kept
          ≡ w.server.kept
      kept_same = let rest = performed_rest choice (record w.server { held = remove w.server.held unique }) t in
          rest.kept

      by : (b : Bool) → KeptNamed (cond b (performed choice
          (record w.server { held = remove w.server.held unique }) t).server.kept
          (put (performed choice (record w.server { held = remove w.server.held unique }) t).server.kept unique
          (record {
            wire = (performed choice (record w.server { held = remove w.server.held unique }) t).wire;
            first = (performed choice (record w.server { held = remove w.server.held unique }) t).server.next_copy;
          })))
      by true u x at = s.kept u x (sym (ap (λ (m : Map Kept). get m u) kept_same) ∙ at)
      by false u x at = elim (put_found (performed choice
          (record w.server { held = remove w.server.held unique }) t).server.kept unique
          (record {
            wire = (performed choice (record w.server { held = remove w.server.held unique }) t).wire;
            first = (performed choice (record w.server {
              held =
                  remove w.server.held unique;
            }) t).server.next_copy;
          }) u x at) [
            | inl h ↦ subst (λ (k : Kept). All (λ (g : Entry). 2 ≤ g.nodeid) (files_in_reply k.wire)) h.1 low
            | inr h ↦ s.kept u x (sym (ap (λ (m : Map Kept). get m u) kept_same) ∙ h)
          ]

  settled_kept : (result : ReplyResult) (o : Option Copy) → KeptNamed (server_settled w.server result o).kept
  settled_kept result None = s.kept
  settled_kept result (Some copy) = by result.result
    where
      was : KeptNamed (kept_after w.server.kept copy (get w.server.kept copy.unique))
      was u x at = s.kept u x (kept_was w.server.kept copy (get w.server.kept copy.unique) u x at)

      by : (r : WriteResult) → KeptNamed (after_result
          (record w.server {
            copies = remove w.server.copies result.number;
            kept = kept_after w.server.kept copy (get w.server.kept copy.unique);
          }) copy.wire r).kept
      by Accepted = was
      by NoEntry = was
      by Invalid = was

  kept_stays : (e : Event) (o : Outcome) (after : World) → MayStep choice w e → Happened choice w e o after
      → KeptNamed after.server.kept
  kept_stays e o after may (by_mount f m v idle) = λ u k at. absurd (cc)
  kept_stays e o after may (by_call call ready room within) = s.kept
  kept_stays e o after may (by_read_interrupt original rest live there within) = s.kept
  kept_stays e o after may (by_read_forgets n live free can within few) = s.kept
  kept_stays e o after may (by_read_pending k unique kept body live free there says within) = s.kept
  kept_stays e o after may (by_take k r there within) = let took =
      taking w.server r.unique r.body in sent_off (record w {
        requests = without_at w.requests k;
        server = took.server;
      }) w.server.next_copy r.unique took.reply (taken_kept r.unique r.body)
  kept_stays e o after may (by_perform unique t there within) =
      let did = served choice w.server unique t in
      sent_off (record w { server = did.server }) w.server.next_copy unique
      (cond w.server.aborted None (Some did.wire)) (performed_kept unique t
      (subst (MayChooseFor choice w) there may))
  kept_stays e o after may (by_again unique kept there current within) = s.kept
  kept_stays e o after may (by_write k sent there within) = s.kept
  kept_stays e o after may (by_settle k result there) = settled_kept result (get w.server.copies result.number)
  kept_stays e o after may (by_signal call fatal state live there within) = s.kept
  kept_stays e o after may (by_tick ms timely) = s.kept
  kept_stays e o after may (by_drop directory name bound live there) = s.kept
  kept_stays e o after may (by_evict node counted live there unused) = s.kept
  kept_stays e o after may (by_abort live) = λ u k at. absurd (cc)

  -- ---- events

  -- the mount stands as it stood
  same_phase : (v : World) → v.kernel ≡ w.kernel → is_live v.kernel.phase ≡ true → is_live w.kernel.phase ≡ true
  same_phase v same live = sym (ap (λ (k : Kernel). is_live k.phase) same) ∙ live

  taken : (k : ℕ) (r : Request) → slice_get w.requests k ≡ Some r → is_live w.kernel.phase ≡ true
      → LookupsBalanced (after_take w k r.unique (taking w.server r.unique r.body))
  taken k r there live = taken_balanced w (s.balanced live) s.copies s.server k r.unique r.body there

  written : (k : ℕ) (sent : Sent) → slice_get w.replies k ≡ Some sent
      → is_live (reply_written w.kernel sent.unique sent.wire).1.phase ≡ true
      → LookupsBalanced (after_write w k sent (reply_written w.kernel sent.unique sent.wire))
  written k sent there live = by (is_live w.kernel.phase) refl
    where
      by : (b : Bool) → is_live w.kernel.phase ≡ b → LookupsBalanced
          (after_write w k sent (reply_written w.kernel sent.unique sent.wire))
      by true was = let numbers = s.numbers in written_balanced w (s.balanced was) s.copies k sent there
          (numbers.live was) live
      by false dead =
          let numbers = s.numbers in
          absurd (true≢false (sym live ∙ ap (λ (k : Kernel). is_live k.phase)
          (unreceived w.kernel (numbers.idle dead) sent.unique sent.wire) ∙ dead))

  balanced_after : (e : Event) (o : Outcome) (after : World) → MayStep choice w e → Happened choice w e o after
      → is_live after.kernel.phase ≡ true → LookupsBalanced after
  balanced_after e o after may (by_mount f m v idle) live = fresh w f m v
  balanced_after e o after may (by_call call ready room within) live =
      let goes = begun_goes_on w.kernel (for_minor w.kernel.lists_files call) in
      moves w (s.balanced (sym (ap is_live goes.phase) ∙ live))
      (call_begun w.kernel (for_minor w.kernel.lists_files call))
      (begun_same w.kernel (for_minor w.kernel.lists_files call))
  balanced_after e o after may (by_read_interrupt original rest was there within) live =
      read_interrupt w (s.balanced was) original
  balanced_after e o after may (by_read_forgets n was free can within few) live = read_forgets w (s.balanced was) n can
  balanced_after e o after may (by_read_pending k unique kept body was free there says within) live =
      read_pending w (s.balanced was) k unique kept body says
  balanced_after e o after may (by_take k r there within) live =
      let took = taking w.server r.unique r.body in
      taken k r there (same_phase (after_take w k r.unique took)
      (replying_kernel (record w {
        requests = without_at w.requests k;
        server = took.server;
      }) w.server.next_copy r.unique took.reply) live)
  balanced_after e o after may (by_perform unique t there within) live =
      let did = served choice w.server unique t in
      let was = same_phase (after_perform w unique did)
      (replying_kernel (record w { server = did.server }) w.server.next_copy unique
      (cond w.server.aborted None (Some did.wire))) live in
      performed_balanced w (s.balanced was) s.copies s.server choice unique t (subst (MayChooseFor choice w) there may)
  balanced_after e o after may (by_again unique kept there current within) live =
      again_balanced w (s.balanced live) s.copies s.server unique kept (s.kept unique kept there) current
  balanced_after e o after may (by_write k sent there within) live = written k sent there live
  balanced_after e o after may (by_settle k result there) live =
      settled_balanced w (s.balanced live) s.copies s.server k result there
  balanced_after e o after may (by_signal call fatal state was there within) live =
      moves w (s.balanced was) (call_signalled w.kernel call state fatal).1 (signalled_same w.kernel call state fatal)
  balanced_after e o after may (by_tick ms timely) live =
      moves w (s.balanced live) (record w.kernel { vfs = later w.kernel.vfs ms })
      (record { nodes = refl; forgets = refl })
  balanced_after e o after may (by_drop directory name bound was there) live =
      moves w (s.balanced was) (after_drop w directory name).kernel (record { nodes = refl; forgets = refl })
  balanced_after e o after may (by_evict node counted was there unused) live =
      evict w (s.balanced was) node counted there
  balanced_after e o after may (by_abort was) live = absurd (true≢false (sym live))

  -- a mount that is live stays live but for an abort
  still : (v : World) → v.kernel ≡ w.kernel → is_live v.kernel.phase ≡ false → v.kernel.nodes ≡ []
  still v same dead = ap (λ (k : Kernel). k.nodes) same ∙ s.uncounted
      (sym (ap (λ (k : Kernel). is_live k.phase) same) ∙ dead)

  lives_on : (k : Kernel) → k.phase ≡ w.kernel.phase → is_live w.kernel.phase ≡ true → is_live k.phase ≡ false
      → k.nodes ≡ []
  lives_on k same live dead = absurd (true≢false (sym live ∙ sym (ap is_live same) ∙ dead))

  written_uncounted : (sent : Sent) → is_live (reply_written w.kernel sent.unique sent.wire).1.phase ≡ false
      → (reply_written w.kernel sent.unique sent.wire).1.nodes ≡ []
  written_uncounted sent dead = by (is_live w.kernel.phase) refl
    where
      reply_received : ReceivesReply w.kernel (reply_written w.kernel sent.unique sent.wire).1
          → (reply_written w.kernel sent.unique sent.wire).1.nodes ≡ []
      reply_received (goes_on live rises calls) = absurd (true≢false (sym live ∙ dead))
      reply_received (ends d idle uncounted) = uncounted

      by : (b : Bool) → is_live w.kernel.phase ≡ b → (reply_written w.kernel sent.unique sent.wire).1.nodes ≡ []
      by true live = let numbers = s.numbers in let old =
          numbers.live live in reply_received (written_received w.kernel live old.queues
          (calls_of w old) sent.unique sent.wire)
      by false was = let numbers = s.numbers in ap (λ (k : Kernel). k.nodes)
          (unreceived w.kernel (numbers.idle was) sent.unique sent.wire) ∙ s.uncounted was

  uncounted_after : (e : Event) (o : Outcome) (after : World) → Happened choice w e o after
      → is_live after.kernel.phase ≡ false → after.kernel.nodes ≡ []
  uncounted_after e o after (by_mount f m v idle) dead = refl
  uncounted_after e o after (by_call call ready room within) dead =
      let goes = begun_goes_on w.kernel (for_minor w.kernel.lists_files call) in
      let same = begun_same w.kernel (for_minor w.kernel.lists_files call) in
      same.nodes ∙ s.uncounted (sym (ap is_live goes.phase) ∙ dead)
  uncounted_after e o after (by_read_interrupt original rest live there within) dead =
      lives_on after.kernel refl live dead
  uncounted_after e o after (by_read_forgets n live free can within few) dead = lives_on after.kernel refl live dead
  uncounted_after e o after (by_read_pending k unique kept body live free there says within) dead =
      lives_on after.kernel refl live dead
  uncounted_after e o after (by_take k r there within) dead =
      let took = taking w.server r.unique r.body in still (after_take w k r.unique took)
      (replying_kernel (record w {
        requests = without_at w.requests k;
        server = took.server;
      }) w.server.next_copy r.unique took.reply) dead
  uncounted_after e o after (by_perform unique t there within) dead =
      let did = served choice w.server unique t in still (after_perform w unique did)
      (replying_kernel (record w { server = did.server }) w.server.next_copy unique
      (cond w.server.aborted None (Some did.wire))) dead
  uncounted_after e o after (by_again unique kept there current within) dead = s.uncounted dead
  uncounted_after e o after (by_write k sent there within) dead = written_uncounted sent dead
  uncounted_after e o after (by_settle k result there) dead = s.uncounted dead
  uncounted_after e o after (by_signal call fatal state live there within) dead = let goes =
      signalled_goes_on w.kernel call state fatal in lives_on after.kernel goes.phase live dead
  uncounted_after e o after (by_tick ms timely) dead = s.uncounted dead
  uncounted_after e o after (by_drop directory name bound live there) dead = lives_on after.kernel refl live dead
  uncounted_after e o after (by_evict node counted live there unused) dead = lives_on after.kernel refl live dead
  uncounted_after e o after (by_abort live) dead = refl

-- All that keeps the lookups balanced is kept, whatever the event.
pub lookups_stay : (w : World) → LookupsSound w → (e : Event) (o : Outcome) (after : World) → Happens w e o after
    → LookupsSound after
lookups_stay w s e o after h =
    let did = happened h.0 w o after e h.2 in
    record {
      server = stays_sound h.0 w s.server e o after h.1 did;
      numbers = numbers_stay h.0 w s.numbers e o after h.2;
      copies = copies_stay w s.copies s.server h.0 e o after did;
      kept = kept_stays h.0 w s e o after h.1 did;
      balanced = balanced_after h.0 w s e o after h.1 did;
      uncounted = uncounted_after h.0 w s e o after did;
    }

pub first_lookups : LookupsSound first_world
first_lookups = record {
  server = first_sound;
  numbers = first_numbers;
  copies = first_copies;
  kept = λ u k at. absurd (cc);
  balanced = λ live. absurd (true≢false (sym live));
  uncounted = λ dead. refl;
}

-- The server holds what the kernel knows.
pub known_held : (w : World) → LookupsSound w → KnownAreHeld w
known_held w s id generation known = by (nat_eq id 1) refl known
  where
    root_held : id ≡ 1 → 0 ≡ generation → IsHeldAs w.server.nodes id generation
    root_held e is = (
      0,
      subst (λ (n : ℕ). Denotes w.server.nodes n generation 0) (sym e)
          (record { row = root_row; there = refl; same_generation = is; same_file = refl }),
    )

    counted_held : (o : Option Counted) → get w.kernel.nodes id ≡ o
        → option_map (λ (c : Counted). c.generation) o ≡ Some generation → (b : Bool) → is_live w.kernel.phase ≡ b
        → IsHeldAs w.server.nodes id generation
    counted_held None at e b live = absurd (cc)
    counted_held (Some c) at e true live =
        let old = s.balanced live in
        let is : c.generation ≡ generation = cc in
        subst (λ (n : ℕ). IsHeldAs w.server.nodes id n) is (old.known id c at).2
    counted_held (Some c) at e false dead = let none : get w.kernel.nodes id ≡ None =
        ap (λ (m : Map Counted). get m id) (s.uncounted dead) in absurd (cc (none, at))

    by : (b : Bool) → nat_eq id 1 ≡ b → cond b (Some 0)
        (option_map (λ (c : Counted). c.generation) (get w.kernel.nodes id)) ≡ Some generation
        → IsHeldAs w.server.nodes id generation
    by true is e = let zero_is : 0 ≡ generation = cc in
        root_held (elim (cases_eq id 1) [
          | inl same ↦ same
          | inr ne ↦ absurd
              (true≢false (sym is ∙ other_is id 1 ne))
        ]) zero_is
    by false is e = counted_held (get w.kernel.nodes id) refl e (is_live w.kernel.phase) refl
