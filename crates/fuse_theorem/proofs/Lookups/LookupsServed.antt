-- Lookups stay balanced as the server takes requests, performs them, sends copies and settles them.
use Rattle.std.proofs.Common.{◌≡◌, ◌≢◌, ℕ, ◌+◌, ◌≤◌, Bool, true, false, ◌&&◌, cond, List, [], ◌∷◌, ◌++◌, Option, Some, None, slice_get, get_or, refl, ap, sym, subst, ◌∙◌, arith, All}
use Rattle.std.specs.List.{list_all, remove as without_at}
use Rattle.std.proofs.lemmas.List.Elements.{All-nil, All-push}
use Rattle.std.proofs.lemmas.List.Sums.{sum_by_push}
use Rattle.fuse_spec.specs.declared.Entry.{Entry}
use Rattle.fuse_spec.specs.declared.ReplyResult.{ReplyResult}
use Rattle.fuse_spec.specs.declared.WriteResult.{WriteResult}
use Rattle.fuse_spec.specs.declared.WriteResult.TheVariants.{Accepted, NoEntry, Invalid}
use Rattle.fuse_spec.specs.Values.Maps.{Map, get, put, remove}
use Rattle.fuse_spec.specs.Kernel.Messages.{Request, RequestBody, init, asks, release, forget, batch_forget, interrupt}
use Rattle.fuse_spec.specs.Files.Operations.{failed, files_in_reply}
use Rattle.fuse_spec.specs.Server.Nodes.{NodeTable, is_held, MayChoose}
use Rattle.fuse_spec.specs.Server.Server.{Server, HeldRequest, Kept, Copy, forgotten, forgets_of, forgetting}
use Rattle.fuse_spec.specs.Server.Taking.{taking, interrupting}
use Rattle.fuse_spec.specs.Server.Performs.{performed, served, files_given}
use Rattle.fuse_spec.specs.Server.Copies.{is_current, sent_again, kept_after, after_result, given_back}
use Rattle.fuse_spec.specs.Claim.Counts.{times_named, carried, refused}
use Rattle.fuse_spec.specs.Claim.Denotes.{Denotes}
use Rattle.fuse_spec.specs.World.Worlds.{World, Sent, copy_put, after_take, after_perform, after_again, after_settle}
use Rattle.fuse_spec.proofs.Tables.{get_gone_there}
use Rattle.fuse_theorem.specs.Copies.{CopiesSound}
use Rattle.fuse_theorem.specs.Lookups.{EntriesHeld, RefusedHeld, LookupsBalanced}
use Rattle.fuse_theorem.specs.ServerTables.{ServerSound}
use Rattle.fuse_theorem.proofs.Replies.CopiesSound.{served_copies, results_still, results_apart}
use Rattle.fuse_theorem.proofs.Refining.Forgetting.{all_less_denotes}
use Rattle.fuse_theorem.proofs.Refining.LookupsCounted.{counted_denotes}
use Rattle.fuse_theorem.proofs.Lists.LinkSums.{sum_removed, sum_same}
use Rattle.fuse_theorem.proofs.Lookups.Lookups.{sent_forgets, copies_name, refused_name, shrunk, grown}
use Rattle.fuse_theorem.proofs.Lookups.PerformedCounts.{Counts, performed_counts}
use Rattle.fuse_theorem.proofs.Refining.Queuing.{All-without, All-at}
use Rattle.fuse_theorem.proofs.Lookups.RowCounts.{count_of, all_taken_count}
use Rattle.fuse_theorem.proofs.Refining.Settling.{rows_back_denotes}
use Rattle.fuse_theorem.proofs.Lookups.WireCounts.{more_counts, current_held, back_counts}

module _ (w : World) (old : LookupsBalanced w) (sound : CopiesSound w) (server : ServerSound w.server) where
  -- ---- a copy goes out

  module _ (requests : List Request) (s : Server) (copy : Copy)
      (same_forgets : (id : ℕ) → sent_forgets id requests ≡ sent_forgets id w.requests)
      (copies : s.copies ≡ put w.server.copies w.server.next_copy copy) where
    abbrev sent : Sent
    sent = record { number = w.server.next_copy; unique = copy.unique; wire = copy.wire }

    abbrev sent_world : World
    sent_world = record w { requests = requests; server = s; replies = w.replies ++ sent ∷ [] }

    same_copy : All (λ (r : ReplyResult). get s.copies r.number ≡ get w.server.copies r.number) w.results
    same_copy i r lt = ap (λ (m : Map Copy). get m
        (get_or w.results i r).number) copies ∙ results_still w sound server copy i r lt

    same_refused : (id : ℕ) → refused_name id s.copies w.results ≡ refused_name id w.server.copies w.results
    same_refused id =
        sum_same (λ (r : ReplyResult). refused r.result (carried (times_named id) (get s.copies r.number)))
        (λ (r : ReplyResult). refused r.result (carried (times_named id) (get w.server.copies r.number))) w.results
        (λ i r lt. ap (λ (o : Option Copy). refused (get_or w.results i r).result (carried (times_named id) o))
        (same_copy i r lt))

    -- What it names is counted once more.
    copy_out : ((i generation file : ℕ) → Denotes w.server.nodes i generation file → Denotes s.nodes i generation file)
        → ((id : ℕ) → count_of s.nodes id ≡ count_of w.server.nodes id + times_named id copy.wire)
        → EntriesHeld s.nodes copy.wire
        → LookupsBalanced sent_world
    copy_out more counts held =
        grown w old sent_world more refl
        (All-push (λ (x : Sent). EntriesHeld s.nodes x.wire) w.replies sent
        (λ i x lt j g inside. let was = old.copies i x lt j g inside in let node = was.1 in
        (was.0, (node.0, more _ _ node.0 node.1))) held)
        (λ i r lt other no_good there. old.refused i r lt other no_good (sym (same_copy i r lt) ∙ there))
        (λ id low.
        let whole = old.balance id low in
        let pushed : copies_name id (w.replies ++ sent ∷ []) ≡ copies_name id w.replies + times_named id copy.wire =
        sum_by_push (λ (x : Sent). times_named id x.wire) w.replies sent in
        let count = counts id in
        let forgets = same_forgets id in
        let back = same_refused id in
        omega (arith, whole, pushed, count, forgets, back))

  -- ---- requests are taken

  module _ (k unique : ℕ) (body : RequestBody) (there : slice_get w.requests k
      ≡ Some (record { unique = unique; body = body })) where
    requests_less : (id : ℕ) → sent_forgets id (without_at w.requests k) + forgotten id (forgets_of body)
        ≡ sent_forgets id w.requests
    requests_less id = sum_removed (λ (r : Request). forgotten id (forgets_of r.body)) w.requests k
        (record { unique = unique; body = body }) there

    -- The server's nodes and copies are as they were.
    quietly : forgets_of body ≡ [] → (s : Server) → s.nodes ≡ w.server.nodes → s.copies ≡ w.server.copies
        → LookupsBalanced (record w { requests = without_at w.requests k; server = s })
    quietly none s nodes copies =
        subst (λ (t : NodeTable). LookupsBalanced (record w {
          requests = without_at w.requests k;
          server = record s { nodes = t };
        })) (sym nodes)
        (subst (λ (m : Map Copy). LookupsBalanced (record w {
          requests = without_at w.requests k;
          server = record s { nodes = w.server.nodes; copies = m };
        })) (sym copies)
        (record {
          balance = λ id low.
              let whole = old.balance id low in
              let less = requests_less id in
              let nothing : forgotten id (forgets_of body) ≡ 0 = ap (forgotten id) none in
              omega (arith, whole, less, nothing);
          known = old.known;
          copies = old.copies;
          refused = old.refused;
        }))

    -- Forgets are taken.
    forgotten_balanced : LookupsBalanced (record w {
      requests = without_at w.requests k;
      server = forgetting w.server (forgets_of body);
    })
    forgotten_balanced =
        let fs = forgets_of body in
        shrunk w old (record w { requests = without_at w.requests k; server = forgetting w.server fs })
        (λ i generation file d. all_less_denotes fs w.server.nodes i generation file d) refl refl old.refused
        (λ id low.
        let whole = old.balance id low in
        let less = requests_less id in
        let taken = all_taken_count fs w.server.nodes id (omega (arith, whole, less)) in
        omega (arith, whole, less, taken))

  pub taken_balanced : (k unique : ℕ) (body : RequestBody)
      → slice_get w.requests k ≡ Some (record { unique = unique; body = body })
      → LookupsBalanced (after_take w k unique (taking w.server unique body))
  taken_balanced k unique (init flags) there = quietly k unique (init flags) there refl
      (taking w.server unique (init flags)).server refl refl
  taken_balanced k unique (asks operation) there =
      quietly k unique (asks operation) there refl (taking w.server unique (asks operation)).server refl refl
  taken_balanced k unique (release o) there = quietly k unique (release o) there refl
      (taking w.server unique (release o)).server refl refl
  taken_balanced k unique (forget f) there = forgotten_balanced k unique (forget f) there
  taken_balanced k unique (batch_forget fs) there = forgotten_balanced k unique (batch_forget fs) there
  taken_balanced k unique (interrupt original) there = by (get w.server.held original) (get w.server.kept original)
    where
      by : (h : Option HeldRequest) (o : Option Kept) → LookupsBalanced
          (after_take w k unique (interrupting w.server unique original h o))
      by (Some t) o = quietly k unique (interrupt original) there refl
          (interrupting w.server unique original (Some t) o).server refl refl
      by None (Some x) = quietly k unique (interrupt original) there refl w.server refl refl
      by None None =
          copy_out (without_at w.requests k) (interrupting w.server unique original None None).server
          (record { unique = unique; wire = failed 11; first = w.server.next_copy })
          (λ id. let less = requests_less k unique (interrupt original) there id in omega (arith, less)) refl
          (λ i generation file d. d) (λ id. omega arith) (All-nil (λ (g : Entry). (2 ≤ g.nodeid) × _))

  -- ---- requests are performed

  -- The nodes and the copies are as they were.
  same_tables : (s : Server) → s.nodes ≡ w.server.nodes → s.copies ≡ w.server.copies
      → LookupsBalanced (record w { server = s })
  same_tables s nodes copies =
      subst (λ (t : NodeTable). LookupsBalanced (record w { server = record s { nodes = t } })) (sym nodes)
      (subst (λ (m : Map Copy). LookupsBalanced (record w {
        server =
            record s { nodes = w.server.nodes; copies = m };
      })) (sym copies)
      (record { balance = old.balance; known = old.known; copies = old.copies; refused = old.refused }))

  pub performed_balanced : (choice : ℕ → ℕ) (unique : ℕ) (t : HeldRequest)
      → MayChoose choice w.server.nodes (files_given w.server t)
      → LookupsBalanced (after_perform w unique (served choice w.server unique t))
  performed_balanced choice unique t may = by w.server.aborted refl (served_copies choice w.server unique t)
    where
      counts : Counts (record w.server { held = remove w.server.held unique })
          (performed choice (record w.server { held = remove w.server.held unique }) t)
      counts = performed_counts choice (record w.server { held = remove w.server.held unique }) server.nodes t may

      by : (b : Bool) → w.server.aborted ≡ b
          → (served choice w.server unique t).server.copies
          ≡ cond b w.server.copies (put w.server.copies w.server.next_copy
          (record { unique = unique; wire = (served choice w.server unique t).wire; first = w.server.next_copy }))
          → LookupsBalanced (copy_put (record w {
            server =
                (served choice w.server unique t).server;
          }) w.server.next_copy unique
          (cond b None (Some (served choice w.server unique t).wire)))
      by true aborted copies = same_tables (served choice w.server unique t).server (counts.same aborted) copies
      by false live copies =
          copy_out w.requests (served choice w.server unique t).server
          (record { unique = unique; wire = (served choice w.server unique t).wire; first = w.server.next_copy })
          (λ id. refl) copies counts.more (counts.counts live) counts.held

  -- ---- more copies

  pub again_balanced : (unique : ℕ) (kept : Kept) → All (λ (g : Entry). 2 ≤ g.nodeid) (files_in_reply kept.wire)
      → is_current w.server kept.wire ≡ true → LookupsBalanced (after_again w unique kept)
  again_balanced unique kept low current =
      let held = current_held w.server.nodes kept.wire low
      (first (list_all (λ (g : Entry). is_held w.server.nodes g.nodeid g.generation)
      (files_in_reply kept.wire)) _ current) in
      let more = λ (i generation file : ℕ) (d : Denotes w.server.nodes i generation file). counted_denotes
      (files_in_reply kept.wire) w.server.nodes i generation file d in
      copy_out w.requests (sent_again w.server unique kept)
      (record { unique = unique; wire = kept.wire; first = kept.first }) (λ id. refl) refl more
      (more_counts w.server.nodes kept.wire held)
      (λ j g inside. let was = held j g inside in let node = was.1 in (was.0, (node.0, more _ _ node.0 node.1)))
    where
      first : (a b : Bool) → (a && b) ≡ true → a ≡ true
      first true b e = refl
      first false b e = e

  -- ---- copies are settled

  module _ (k : ℕ) (result : ReplyResult) (there : slice_get w.results k ≡ Some result) where
    -- how often the refused copies name a node without this result
    refused_less : (id : ℕ) → refused_name id w.server.copies (without_at w.results k) + refused result.result
        (carried (times_named id) (get w.server.copies result.number)) ≡ refused_name id w.server.copies w.results
    refused_less id = sum_removed (λ (r : ReplyResult). refused r.result
        (carried (times_named id) (get w.server.copies r.number))) w.results k result there

    abbrev left : Map Copy
    left = remove w.server.copies result.number

    others_same : All (λ (r : ReplyResult). get left r.number ≡ get w.server.copies r.number) (without_at w.results k)
    others_same i r lt = get_gone_there w.server.copies result.number (get_or (without_at w.results k) i r).number
        (results_apart w sound k result there i r lt)

    same_others : (id : ℕ) → refused_name id left (without_at w.results k)
        ≡ refused_name id w.server.copies (without_at w.results k)
    same_others id =
        sum_same (λ (r : ReplyResult). refused r.result (carried (times_named id) (get left r.number)))
        (λ (r : ReplyResult). refused r.result (carried (times_named id) (get w.server.copies r.number)))
        (without_at w.results k)
        (λ i r lt. ap (λ (o : Option Copy). refused (get_or (without_at w.results k) i r).result
        (carried (times_named id) o)) (others_same i r lt))

    others_held : All (RefusedHeld w.server.nodes left) (without_at w.results k)
    others_held i r lt copy no_good at = All-without
        (RefusedHeld w.server.nodes w.server.copies) w.results k old.refused i r lt copy no_good
        (sym (others_same i r lt) ∙ at)

    -- The server knows nothing of the copy.
    settled_nothing : get w.server.copies result.number ≡ None
        → LookupsBalanced (record w { results = without_at w.results k })
    settled_nothing none = record {
      balance = λ id low.
          let whole = old.balance id low in
          let less = refused_less id in
          let nothing : refused result.result (carried (times_named id) (get w.server.copies result.number)) ≡ 0 =
          ap (λ (o : Option Copy). refused result.result (carried
          (times_named id) o)) none ∙ refused_none result.result in
          omega (arith, whole, less, nothing);
      known = old.known;
      copies = old.copies;
      refused = All-without (RefusedHeld w.server.nodes w.server.copies) w.results k old.refused;
    }
      where
        refused_none : (r : WriteResult) → refused r 0 ≡ 0
        refused_none Accepted = refl
        refused_none NoEntry = refl
        refused_none Invalid = refl

    module _ (copy : Copy) (known : get w.server.copies result.number ≡ Some copy) where
      abbrev less : Server
      less = record w.server { copies = left; kept = kept_after w.server.kept copy (get w.server.kept copy.unique) }

      -- The kernel accepted the copy.
      accepted_balanced : result.result ≡ Accepted → LookupsBalanced
          (record w { results = without_at w.results k; server = less })
      accepted_balanced good =
          grown w old (record w { results = without_at w.results k; server = less })
          (λ i generation file d. d) refl old.copies others_held
          (λ id low.
          let whole = old.balance id low in
          let fewer = refused_less id in
          let same = same_others id in
          let nothing : refused result.result (carried (times_named id) (get w.server.copies result.number)) ≡ 0 =
          ap (λ (r : WriteResult). refused r (carried (times_named id) (get w.server.copies result.number))) good in
          omega (arith, whole, fewer, same, nothing))

      -- The kernel refused it, and what it carried is given back.
      refused_balanced : result.result ≢ Accepted → ((n : ℕ) → refused result.result n ≡ n)
          → LookupsBalanced (record w { results = without_at w.results k; server = given_back less copy.wire })
      refused_balanced no_good all =
          shrunk w old (record w { results = without_at w.results k; server = given_back less copy.wire })
          (λ i generation file d. rows_back_denotes
          (files_in_reply copy.wire) w.server.nodes i generation file d) refl refl others_held
          (λ id low.
          let whole = old.balance id low in
          let fewer = refused_less id in
          let same = same_others id in
          let carries : refused result.result (carried (times_named id) (get w.server.copies result.number))
          ≡ times_named id copy.wire = all _ ∙ ap (carried (times_named id)) known in
          let back = back_counts w.server.nodes copy.wire (All-at
          (RefusedHeld w.server.nodes w.server.copies) w.results k result old.refused there copy no_good known) id
          (omega (arith, whole, fewer, carries)) in
          omega (arith, whole, fewer, same, carries, back))

      by_result : (r : WriteResult) → result.result ≡ r
          → LookupsBalanced (record w { results = without_at w.results k; server = after_result less copy.wire r })
      by_result Accepted e = accepted_balanced e
      by_result NoEntry e = refused_balanced (λ good. absurd (cc (e, good)))
          (λ n. ap (λ (r : WriteResult). refused r n) e)
      by_result Invalid e = refused_balanced (λ good. absurd (cc (e, good)))
          (λ n. ap (λ (r : WriteResult). refused r n) e)

    pub settled_balanced : LookupsBalanced (after_settle w k result (get w.server.copies result.number))
    settled_balanced = by (get w.server.copies result.number) refl
      where
        by : (o : Option Copy) → get w.server.copies result.number ≡ o → LookupsBalanced (after_settle w k result o)
        by None none = settled_nothing none
        by (Some copy) known = by_result copy known result.result refl
