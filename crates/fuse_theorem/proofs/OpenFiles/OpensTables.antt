-- File handles stay balanced as the tables of the server change.
use Rattle.std.proofs.Common.{◌≡◌, ℕ, ◌+◌, ◌≤◌, Bool, true, false, true≢false, cond, List, [], ◌∷◌, ◌++◌, Option, Some, None, nat_eq, is_some, slice_get, count_by, refl, ap, sym, subst, ◌∙◌, arith, All}
use Rattle.std.specs.Prelude.{◌%◌, sum_by}
use Rattle.std.specs.List.{remove as without_at}
use Rattle.std.proofs.lemmas.List.Elements.{All-nil, All-cons, All-head}
use Rattle.std.proofs.lemmas.List.Sums.{sum_by-cons}
use Rattle.fuse_spec.specs.declared.Opened.{Opened}
use Rattle.fuse_spec.specs.declared.Purpose.{Purpose}
use Rattle.fuse_spec.specs.declared.Purpose.TheVariants as purpose
use Rattle.fuse_spec.specs.declared.ReplyResult.{ReplyResult}
use Rattle.fuse_spec.specs.declared.WriteResult.{WriteResult}
use Rattle.fuse_spec.specs.declared.WriteResult.TheVariants.{Accepted, NoEntry, Invalid}
use Rattle.fuse_spec.specs.Server.Copies.{is_current, kept_after, after_result}
use Rattle.fuse_spec.specs.Values.Maps.{get, put, remove, values}
use Rattle.fuse_spec.specs.Kernel.Messages.{Request, RequestBody, init, asks, release, forget, batch_forget, interrupt, WireReply}
use Rattle.fuse_spec.specs.Files.Operations.{files_in_reply, opens_in_reply}
use Rattle.fuse_spec.specs.Calls.Vfs.{CallState}
use Rattle.fuse_spec.specs.Kernel.Kernel.{Kernel, is_live, asked_by, body_of}
use Rattle.fuse_spec.specs.Server.Nodes.{NodeTable, HandleTable, is_open}
use Rattle.fuse_spec.specs.Server.Server.{Server, HeldRequest, Kept, Copy}
use Rattle.fuse_spec.specs.Server.Taking.{taking, interrupting}
use Rattle.fuse_spec.specs.Server.Performs.{PerformResult, performed, served}
use Rattle.fuse_spec.specs.Claim.Denotes.{Denotes}
use Rattle.fuse_spec.specs.Reference.Plain.{Plain}
use Rattle.fuse_spec.specs.World.Worlds.{World, copy_put, server_settled, after_take, after_perform, after_again, after_settle}
use Rattle.fuse_spec.specs.World.Steps.{MayChooseFor}
use Rattle.fuse_theorem.specs.AskedRequests.{HeldAsked, RequestsAsked, serves_call}
use Rattle.fuse_theorem.specs.Copies.{CopiesSound}
use Rattle.fuse_theorem.specs.EveryList.{BothSound}
use Rattle.fuse_theorem.specs.Lookups.{LookupsSound}
use Rattle.fuse_theorem.specs.OpenNumbers.{released_by, all_released, released_pending, released_sent, released_held, open_files, IsOfItsNode, OpensBalanced}
use Rattle.fuse_theorem.specs.ReleasesKnown.{ReleasesKnown}
use Rattle.fuse_theorem.specs.ServerTables.{ServerSound}
use Rattle.fuse_theorem.specs.Unperformed.{BearsNumber, RequestsSound}
use Rattle.fuse_theorem.proofs.Replies.CopiesSound.{served_copies}
use Rattle.fuse_theorem.proofs.Calls.Finding.{same_is}
use Rattle.fuse_theorem.proofs.Refining.Forgetting.{all_less_denotes}
use Rattle.fuse_theorem.proofs.Refining.LookupsCounted.{denotes_one, counted_denotes, counted_open}
use Rattle.fuse_theorem.proofs.Nodes.HeldKnown.{still_held}
use Rattle.fuse_theorem.proofs.Lists.LinkSums.{term_le}
use Rattle.fuse_theorem.proofs.Lookups.LookupsStay.{known_held}
use Rattle.fuse_theorem.proofs.Lists.MapSums.{Rises, worth, sum_gone}
use Rattle.fuse_theorem.proofs.OpenFiles.NumberCounts.{SameFiles, given_back_files}
use Rattle.fuse_theorem.proofs.Requests.NumbersStay.{replying_kernel}
use Rattle.fuse_theorem.proofs.Lists.OpenSums.{held_sum, open_sum, has_handle, CountsOpens, counts_opens, All-left, All-right}
use Rattle.fuse_theorem.proofs.OpenFiles.OpensInUse.{open_known, files_still}
use Rattle.fuse_theorem.proofs.OpenFiles.OpensServed.{body_sum, copy_out, taken_sum, taken_counts, again_counts, settled_counts}
use Rattle.fuse_theorem.proofs.Lookups.PerformedCounts.{Counts, performed_counts}
use Rattle.fuse_theorem.proofs.OpenFiles.PerformedNumbers.{Numbers, Releases, performed_handles}
use Rattle.fuse_theorem.proofs.Requests.PerformedRest.{performed_rest}
use Rattle.fuse_theorem.proofs.Refining.Queuing.{All-at}
use Rattle.fuse_theorem.proofs.Refining.Settling.{rows_back_denotes}
use Rattle.fuse_theorem.proofs.Lists.Values.{All-get}

-- What holds of each file that some elements release holds of those of each.
pub All-each : {X : Type 0} (P : Opened → Type 0) (released : X → List Opened) (xs : List X)
    → All P (all_released released xs) → All (λ x. All P (released x)) xs
All-each P released [] h = All-nil (λ x. All P (released x))
All-each P released (x ∷ xs) h = All-cons (λ y. All P (released y)) x xs
    (All-left P (released x) (all_released released xs) h)
    (All-each P released xs (All-right P (released x) (all_released released xs) h))

-- The same of a held RELEASE.
pub held_fits : (w : World) → All (IsOfItsNode w.server) (open_files w) → (unique : ℕ) (t : HeldRequest)
    → get w.server.held unique ≡ Some t → (o : Opened) → t.body ≡ release o → IsOfItsNode w.server o
held_fits w old unique t at o is =
    let waits = values w.kernel.vfs.opens ++ values w.kernel.closing ++ released_pending w.kernel.queues
    ++ released_sent w.requests in
    let held = All-each (IsOfItsNode w.server) (λ (x : HeldRequest). released_by x.body) (values w.server.held)
    (All-right (IsOfItsNode w.server) waits (released_held w.server.held) old) in
    let mine = All-get (λ (x : HeldRequest). All (IsOfItsNode w.server)
    (released_by x.body)) w.server.held unique t held at in
    All-head (IsOfItsNode w.server) o [] (subst (λ (b : RequestBody). All (IsOfItsNode w.server)
    (released_by b)) is mine)

-- To take a request changes no file handle.
pub taken_handles : (w : World) (unique : ℕ) (body : RequestBody)
    → (taking w.server unique body).server.handles ≡ w.server.handles
taken_handles w unique (init flags) = refl
taken_handles w unique (asks operation) = refl
taken_handles w unique (release o) = refl
taken_handles w unique (forget f) = refl
taken_handles w unique (batch_forget fs) = refl
taken_handles w unique (interrupt original) = by (get w.server.held original) (get w.server.kept original)
  where
    by : (h : Option HeldRequest) (o : Option Kept) → (interrupting w.server unique original h o).server.handles
        ≡ w.server.handles
    by (Some t) o = refl
    by None (Some x) = refl
    by None None = refl

-- The server is the one that it was before the copy went out.
pub replying_server : (w : World) (number unique : ℕ) (o : Option WireReply)
    → (copy_put w number unique o).server ≡ w.server
replying_server w number unique None = refl
replying_server w number unique (Some wire) = refl

module _ (w : World) (p : Plain) (both : BothSound w p) (live : is_live w.kernel.phase ≡ true)
    (releases : ReleasesKnown w) (rises : Rises w.server.held) (old : OpensBalanced w) where
  asked : RequestsAsked w
  asked = both.asked live

  lookups : LookupsSound w
  lookups = let sound = both.world in sound.lookups

  requests : RequestsSound w
  requests = let sound = both.world in sound.requests

  copies_sound : CopiesSound w
  copies_sound = lookups.copies

  server_sound : ServerSound w.server
  server_sound = lookups.server

  counts : CountsOpens w
  counts = counts_opens w old.balance

  -- The kernel stays as it is, and the server's tables change.
  tables_change : (v : World) → LookupsSound v → v.kernel ≡ w.kernel
      → ((i generation a b : ℕ) → Denotes w.server.nodes i generation a → Denotes v.server.nodes i generation b
      → a ≡ b) → SameFiles w.server.handles v.server.handles
      → ((f : Opened → ℕ) → sum_by f (open_files v) ≤ sum_by f (open_files w)) → CountsOpens v → OpensBalanced v
  tables_change v after same denotes files fewer counts_after =
      files_still w v (open_known w both.nodes releases asked rises) (ap (λ (k : Kernel). k.nodes) same)
      (known_held w lookups) (known_held v after) denotes files fewer old.files counts_after

  fewer_nodes : (t : NodeTable) → ((i generation file : ℕ) → Denotes t i generation file
      → Denotes w.server.nodes i generation file) → (i generation a b : ℕ) → Denotes w.server.nodes i generation a
      → Denotes t i generation b → a ≡ b
  fewer_nodes t less i generation a b d e = denotes_one w.server.nodes i generation a b d (less i generation b e)

  more_nodes : (t : NodeTable) → ((i generation file : ℕ) → Denotes w.server.nodes i generation file
      → Denotes t i generation file) → (i generation a b : ℕ) → Denotes w.server.nodes i generation a
      → Denotes t i generation b → a ≡ b
  more_nodes t more i generation a b d e = denotes_one t i generation a b (more i generation a d) e

  -- ---- a request is taken

  module _ (k : ℕ) (r : Request) (there : slice_get w.requests k ≡ Some r) where
    -- a request on the link is not held under an even number
    not_held : r.unique % 2 ≡ 0 → get w.server.held r.unique ≡ None
    not_held even = by (get w.server.held r.unique) refl
      where
        sent : 1 ≤ count_by (λ (x : Request). nat_eq r.unique x.unique) w.requests
        sent =
            let term = term_le (λ (x : Request). cond (nat_eq r.unique x.unique) 1 0) w.requests k r there in
            let here = ap {B = ℕ} (λ (b : Bool). cond b 1 0) (same_is r.unique) in
            omega (arith, term, here)

        by : (o : Option HeldRequest) → get w.server.held r.unique ≡ o → o ≡ None
        by None at = refl
        by (Some t) at =
            let once = requests.once r.unique even in
            let some = sent in
            let one = ap {B = ℕ} (λ (o : Option HeldRequest). cond (is_some o) 1 0) at in
            absurd (omega (arith, once, some, one))

    taken_denotes : (unique : ℕ) (body : RequestBody) (i generation file : ℕ)
        → Denotes (taking w.server unique body).server.nodes i generation file
        → Denotes w.server.nodes i generation file
    taken_denotes unique (init flags) i generation file d = d
    taken_denotes unique (asks operation) i generation file d = d
    taken_denotes unique (release o) i generation file d = d
    taken_denotes unique (forget f) i generation file d = all_less_denotes (f ∷ []) w.server.nodes i generation file d
    taken_denotes unique (batch_forget fs) i generation file d = all_less_denotes fs w.server.nodes i generation file d
    taken_denotes unique (interrupt original) i generation file d =
        by (get w.server.held original) (get w.server.kept original) d
      where
        by : (h : Option HeldRequest) (o : Option Kept) → Denotes
            (interrupting w.server unique original h o).server.nodes i generation file
            → Denotes w.server.nodes i generation file
        by (Some t) o n = n
        by None (Some x) n = n
        by None None n = n

    -- The same files are open.
    pub taken_files : (f : Opened → ℕ) → sum_by f (open_files
        (after_take w k r.unique (taking w.server r.unique r.body))) ≡ sum_by f (open_files w)
    taken_files f = taken_sum w counts copies_sound server_sound rises k r.unique r.body there
        (All-at (λ (x : Request). BearsNumber x.unique x.body) w.requests k r requests.numbers there) not_held f

    pub taken_balanced : LookupsSound (after_take w k r.unique (taking w.server r.unique r.body))
        → OpensBalanced (after_take w k r.unique (taking w.server r.unique r.body))
    taken_balanced after =
        let took = taking w.server r.unique r.body in
        let left = record w { requests = without_at w.requests k; server = took.server } in
        let v = after_take w k r.unique took in
        let server : v.server ≡ took.server = replying_server left w.server.next_copy r.unique took.reply in
        tables_change v after (replying_kernel left w.server.next_copy r.unique took.reply)
        (λ i g a b d e. fewer_nodes v.server.nodes (λ j h file x. taken_denotes r.unique r.body j h file
        (subst (λ (s : Server). Denotes s.nodes j h file) server x)) i g a b d e)
        (λ fh file x is. subst (λ (h : HandleTable). is_open h fh file ≡ true)
        (sym (ap (λ (s : Server). s.handles) server ∙ taken_handles w r.unique r.body)) is)
        (λ f. let same = taken_files f in omega (arith, same))
        (taken_counts w counts copies_sound server_sound k r.unique r.body taken_files)

  -- ---- a request is performed

  module _ (choice : ℕ → ℕ) (unique : ℕ) (t : HeldRequest) (there : get w.server.held unique ≡ Some t)
      (may : MayChooseFor choice w (Some t)) where
    abbrev less : Server
    less = record w.server { held = remove w.server.held unique }

    held_less : (f : Opened → ℕ) → held_sum f (remove w.server.held unique) + body_sum f t.body
        ≡ held_sum f w.server.held
    held_less f =
        let gone = sum_gone (λ (x : HeldRequest). body_sum f x.body) w.server.held unique rises in
        let mine = ap (worth (λ (x : HeldRequest). body_sum f x.body)) there in
        omega (arith, gone, mine)

    held_is : (performed choice less t).server.held ≡ remove w.server.held unique
    held_is = let rest = performed_rest choice less t in rest.held

    -- The same files are open but that of a RELEASE.
    pub performed_files : (reply : Option WireReply) (f : Opened → ℕ)
        → sum_by f (open_files (copy_put (record w {
          server =
              (served choice w.server unique t).server;
        }) w.server.next_copy unique reply)) + body_sum f t.body
        ≡ sum_by f (open_files w)
    performed_files reply f = by reply
      where
        sum : sum_by f (open_files
            (record w { server = (served choice w.server unique t).server })) + body_sum f t.body
            ≡ sum_by f (open_files w)
        sum =
            let before = open_sum f w in
            let after = open_sum f (record w { server = (served choice w.server unique t).server }) in
            let gone = held_less f in
            let same = ap (held_sum f) held_is in
            omega (arith, before, after, gone, same)

        by : (x : Option WireReply) → sum_by f (open_files
            (copy_put (record w {
              server =
                  (served choice w.server unique t).server;
            }) w.server.next_copy unique x)) + body_sum f t.body
            ≡ sum_by f (open_files w)
        by None = sum
        by (Some wire) = sum

    -- a RELEASE serves no call
    serves_none : (o : Opened) (kept : Purpose) → body_of w.kernel kept ≡ Some (release o) → serves_call kept ≡ false
    serves_none o purpose.Init e = refl
    serves_none o (purpose.Release x) e = refl
    serves_none o (purpose.Call call) e = absurd (of_call (get w.kernel.vfs.calls call) e)
      where
        of_call : (s : Option (CallState Opened)) → asked_by s ≡ Some (release o) → ⊥
        of_call None is = cc (is)
        of_call (Some state) is = cc (is)

    releasing : (o : Opened) → t.body ≡ release o → Releases less t o
    releasing o is = record {
      unmarked = by t.marked refl;
      still = still_held w (known_held w lookups) t.generations (releases.held live unique t there o is);
      number = held_fits w old.files unique t there o is;
      counted = λ fh.
          let whole = counts fh in
          let sum = open_sum (has_handle fh) w in
          let part = held_less (has_handle fh) in
          let mine = ap (body_sum (has_handle fh)) is in
          let alone = sum_by-cons (has_handle fh) o [] in
          omega (arith, whole, sum, part, mine, alone);
    }
      where
        held_asked : HeldAsked w.kernel unique t
        held_asked = asked.held unique t there

        by : (b : Bool) → t.marked ≡ b → t.marked ≡ false
        by false e = e
        by true e =
            let request = held_asked.is_asked in
            let interrupted = held_asked.interrupted e in
            absurd (true≢false (sym (interrupted.of_call request.request request.under) ∙ serves_none o request.request.kept (request.asks ∙ ap (λ (b : RequestBody). Some b) is)))

    pub performed_balanced : LookupsSound (after_perform w unique (served choice w.server unique t))
        → OpensBalanced (after_perform w unique (served choice w.server unique t))
    performed_balanced = by w.server.aborted refl (served_copies choice w.server unique t)
      where
        did : PerformResult
        did = performed choice (record w.server { held = remove w.server.held unique }) t

        serving : w.server.aborted ≡ false
        serving = let links = both.links in links.serving live

        numbers : Numbers less t.body (performed choice (record w.server { held = remove w.server.held unique }) t)
        numbers = let handles = server_sound.handles in performed_handles choice less serving
            (handles.numbers w.server.handles.next_fh (omega arith)) t releasing

        nodes : Counts less (performed choice (record w.server { held = remove w.server.held unique }) t)
        nodes = performed_counts choice less server_sound.nodes t may

        by : (b : Bool) → w.server.aborted ≡ b
            → (served choice w.server unique t).server.copies
            ≡ cond b w.server.copies (put w.server.copies w.server.next_copy
            (record { unique = unique; wire = (served choice w.server unique t).wire; first = w.server.next_copy }))
            → LookupsSound (copy_put
            (record w { server = (served choice w.server unique t).server }) w.server.next_copy unique
            (cond b None (Some (served choice w.server unique t).wire)))
            → OpensBalanced (copy_put
            (record w { server = (served choice w.server unique t).server }) w.server.next_copy unique
            (cond b None (Some (served choice w.server unique t).wire)))
        by true aborted copies after = absurd (true≢false (sym aborted ∙ serving))
        by false alive copies after =
            let v = copy_put (record w { server = (served choice w.server unique t).server }) w.server.next_copy unique
            (Some (served choice w.server unique t).wire) in
            tables_change v after refl (more_nodes v.server.nodes nodes.more) numbers.files
            (λ f. let less_is = performed_files (Some (served choice w.server unique t).wire) f in
            omega (arith, less_is))
            (copy_out w counts copies_sound server_sound v (record {
              unique = unique;
              wire = (served choice w.server unique t).wire;
              first = w.server.next_copy;
            }) copies refl refl
            (λ fh. let change = numbers.counts fh in let files =
            performed_files (Some (served choice w.server unique t).wire) (has_handle fh) in
            omega (arith, change, files)))

  -- ---- copies are sent again and settled

  pub again_balanced : (unique : ℕ) (kept : Kept) → is_current w.server kept.wire ≡ true
      → LookupsSound (after_again w unique kept) → OpensBalanced (after_again w unique kept)
  again_balanced unique kept current after =
      tables_change (after_again w unique kept) after refl
      (more_nodes (after_again w unique kept).server.nodes
      (λ i generation file d. counted_denotes (files_in_reply kept.wire) w.server.nodes i generation file d))
      (λ fh file x is. counted_open (opens_in_reply kept.wire) w.server.handles fh file is) (λ f. omega arith)
      (again_counts w counts copies_sound server_sound unique kept current)

  pub settled_balanced : (k : ℕ) (result : ReplyResult) → slice_get w.results k ≡ Some result
      → LookupsSound (after_settle w k result (get w.server.copies result.number))
      → OpensBalanced (after_settle w k result (get w.server.copies result.number))
  settled_balanced k result there after =
      tables_change (after_settle w k result (get w.server.copies result.number)) after refl
      (fewer_nodes (server_settled w.server result (get w.server.copies result.number)).nodes
      (settled_denotes (get w.server.copies result.number)))
      (settled_files (get w.server.copies result.number)) (settled_same (get w.server.copies result.number))
      (settled_counts w counts copies_sound server_sound k result there)
    where
      settled_denotes : (o : Option Copy) (i generation file : ℕ)
          → Denotes (server_settled w.server result o).nodes i generation file
          → Denotes w.server.nodes i generation file
      settled_denotes None i generation file d = d
      settled_denotes (Some copy) i generation file d = by result.result d
        where
          by : (r : WriteResult) → Denotes (after_result (record w.server {
            copies =
                remove w.server.copies result.number;
            kept = kept_after w.server.kept copy
                (get w.server.kept copy.unique);
          }) copy.wire r).nodes i generation file
              → Denotes w.server.nodes i generation file
          by Accepted n = n
          by NoEntry n = rows_back_denotes (files_in_reply copy.wire) w.server.nodes i generation file n
          by Invalid n = rows_back_denotes (files_in_reply copy.wire) w.server.nodes i generation file n

      settled_files : (o : Option Copy) → SameFiles w.server.handles (server_settled w.server result o).handles
      settled_files None = λ fh file x is. is
      settled_files (Some copy) = by result.result
        where
          by : (r : WriteResult) → SameFiles w.server.handles
              (after_result (record w.server {
                copies = remove w.server.copies result.number;
                kept = kept_after w.server.kept copy (get w.server.kept copy.unique);
              }) copy.wire r).handles
          by Accepted = λ fh file x is. is
          by NoEntry = given_back_files w.server.handles copy.wire
          by Invalid = given_back_files w.server.handles copy.wire

      settled_same : (o : Option Copy) (f : Opened → ℕ)
          → sum_by f (open_files (after_settle w k result o)) ≤ sum_by f (open_files w)
      settled_same None f = omega arith
      settled_same (Some copy) f = by result.result
        where
          by : (r : WriteResult) → sum_by f (open_files (record w {
            results = without_at w.results k;
            server = after_result (record w.server {
              copies = remove w.server.copies result.number;
              kept = kept_after w.server.kept copy (get w.server.kept copy.unique);
            }) copy.wire r;
          })) ≤ sum_by f
              (open_files w)
          by Accepted = omega arith
          by NoEntry = omega arith
          by Invalid = omega arith
