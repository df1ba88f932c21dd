-- The server answers a marked request EINTR, and the plain world declines its ask.
use Rattle.std.proofs.Common.{◌≡◌, ℕ, ◌+◌, Bool, true, false, true≢false, cond, Option, Some, None, nat_eq, get_or, refl, ap, sym, subst, ◌∙◌}
use Rattle.fuse_spec.specs.declared.Opened.{Opened}
use Rattle.fuse_spec.specs.declared.Purpose.{Purpose}
use Rattle.fuse_spec.specs.declared.QueuedRequest.{QueuedRequest}
use Rattle.fuse_spec.specs.Values.Maps.{Map, put, remove}
use Rattle.fuse_spec.specs.Files.Operations.{Operation, failed, errno_of, OperationAlike}
use Rattle.fuse_spec.specs.Kernel.Queues.{pending}
use Rattle.fuse_spec.specs.Kernel.Messages.{Request, WireReply}
use Rattle.fuse_spec.specs.Server.Server.{Server, HeldRequest, Kept, Copy, is_file_held, without_unheld_files}
use Rattle.fuse_spec.specs.Server.Performs.{PerformResult, performing, served, replying, refusing, is_still_held}
use Rattle.fuse_spec.specs.World.Worlds.{World, Sent, after_perform}
use Rattle.fuse_spec.specs.World.Worlds as worlds
use Rattle.fuse_spec.specs.World.Events as event
use Rattle.fuse_spec.specs.Reference.Plain.{Plain, Ask, Stage, ask_declined}
use Rattle.fuse_spec.specs.Reference.Plain as plain
use Rattle.fuse_spec.specs.Reference.PlainSteps.{Takes, serving, serving_ask, where_so}
use Rattle.fuse_spec.specs.Claim.Alike.{AskedBy, RequestBodyAsked, StillDenotes, OpenStillDenotes, IsStageReplied, Alike}
use Rattle.fuse_spec.proofs.Tables.{get_put_here, get_gone_here}
use Rattle.fuse_theorem.specs.Conditions.{CanDecline}
use Rattle.fuse_theorem.proofs.Refining.Changing.{with_ask, MayReplace, ask_changed}
use Rattle.fuse_theorem.proofs.Calls.Finding.{same_is, none_passes}
use Rattle.fuse_theorem.proofs.Refining.Serving.{unheld_alike, replied_alike}
use Rattle.fuse_theorem.proofs.Trees.NamelessDiscarded.{discarded_unheld_alike}

module _ (w : World) (p : Plain) (same : Alike w p) (choice : ℕ → ℕ) (unique : ℕ) (t : HeldRequest)
    (operation : Operation ℕ Opened) (can : CanDecline w unique t operation) where
  asked : AskedBy p.asks unique false t.marked (OperationAlike (StillDenotes w.server.nodes t.generations)
      (OpenStillDenotes w.server.nodes w.server.handles t.generations) operation)
  asked = subst (RequestBodyAsked p.asks unique false t.marked (StillDenotes w.server.nodes t.generations)
      (OpenStillDenotes w.server.nodes w.server.handles t.generations)) can.body_is (same.requests.held unique t can.there)

  abbrev s1 : Server
  s1 = record w.server { held = remove w.server.held unique }

  abbrev w1 : World
  w1 = record w { server = s1 }

  abbrev s2 : Server
  s2 = without_unheld_files s1

  abbrev wire : WireReply
  wire = failed 4

  abbrev kept2 : Kept
  kept2 = record { wire = wire; first = w.server.next_copy }

  abbrev copies2 : Map Copy
  copies2 = put w.server.copies w.server.next_copy (record { unique = unique; wire = wire; first = w.server.next_copy })

  -- the world afterwards, by whether the mount is aborted
  abbrev After : Bool → World
  After aborted = worlds.copy_put (record w {
    server = record s2 {
      kept = cond aborted w.server.kept (put w.server.kept unique kept2);
      copies = cond aborted w.server.copies copies2;
      next_copy =
          cond aborted w.server.next_copy (w.server.next_copy + 1);
    };
  }) w.server.next_copy unique (cond aborted None (Some wire))

  is_served : after_perform w unique (served choice w.server unique t) ≡ After w.server.aborted
  is_served = λ i. after_perform w unique (refused (can.marked i))
    where
      did : Bool → PerformResult
      did marked = cond marked (refusing s1 4) (cond (is_still_held w.server.nodes t.generations)
          (performing choice s1 t.body) (refusing s1 5))

      refused : Bool → PerformResult
      refused marked = record {
        server = replying (without_unheld_files (did marked).server) unique (did marked).wire;
        wire = (did marked).wire;
      }

  abbrev new : Ask
  new = record asked.ask { stage = plain.declined }

  may_replace : MayReplace w1 p unique new
  may_replace =
      let waits = asked.is_waiting in
      let stage = waits.stage in
      record {
        old = asked.ask;
        there = asked.there;
        same_call = refl;
        same_operation = refl;
        pending = λ i e lt same_key.
            absurd (true≢false (sym (subst (λ (n : ℕ). nat_eq unique n ≡ true) (sym same_key)
            (same_is unique)) ∙ none_passes (λ (x : ℕ × QueuedRequest Purpose). nat_eq unique x.0)
            (pending w.kernel.queues) can.none_pending i e lt));
        sent = λ i r lt same_key. absurd (true≢false (sym
            (subst (λ (n : ℕ). nat_eq unique n ≡ true) (sym same_key) (same_is unique)) ∙ none_passes
            (λ (x : Request). nat_eq unique x.unique) w.requests can.none_sent i r lt));
        held = λ x at. absurd (cc (at, get_gone_here w.server.held unique));
        noted = λ r under bears noted. noted;
        kept = λ k at was. absurd (subst (λ (s : Stage). IsStageReplied w.server.nodes w.server.handles s k.wire) stage was);
        copies = λ i s lt same_key was. absurd (subst (λ (x : Stage). IsStageReplied w.server.nodes w.server.handles x
            (get_or w.replies i s).wire) stage was);
      }

  -- the files that nothing holds leave the server's tree
  discarded_unheld : Alike (record w1 { server = s2 }) (with_ask p unique new)
  discarded_unheld =
      let changed = ask_changed w1 p (unheld_alike w p same unique) unique new may_replace in
      record {
        tree = discarded_unheld_alike s1 p.tree
            (λ file. is_file_held w.server file) same.tree.names same.tree.next_inode same.tree.next_cookie same.tree.files (λ file h. h);
        vfs = changed.vfs;
        requests = record {
          pending = changed.requests.pending;
          sent = changed.requests.sent;
          held = changed.requests.held;
        };
        asks = λ live.
            let old = changed.asks live in
            record {
              of_calls = λ q state is.
                  let pair = old.of_calls q state is in
                  record {
                    unique = pair.unique;
                    ask = pair.ask;
                    request = pair.request;
                    there = pair.there;
                    by = pair.by;
                    same = pair.same;
                  };
              no_other = old.no_other;
              signalled = old.signalled;
              kept = old.kept;
              copies = old.copies;
            };
        validity = changed.validity;
        minor = changed.minor;
        agreed = changed.agreed;
        aborted = changed.aborted;
      }

  declined_alike : (aborted : Bool) → Alike (After aborted) (ask_declined p unique asked.ask)
  declined_alike true = discarded_unheld
  declined_alike false =
      replied_alike (record w1 { server = s2 }) (with_ask p unique new) discarded_unheld unique w.server.next_copy
      (w.server.next_copy + 1) wire kept2 copies2 refl
      (λ alive x at.
      let is_new : new ≡ x = cc (get_put_here p.asks unique new, at) in
      subst (λ (y : Ask). IsStageReplied w.server.nodes w.server.handles y.stage wire) is_new refl)

  -- The request is answered EINTR, and its ask declined: the two are alike again.
  pub decline_goes : (q : Plain) × Takes p (event.perform unique)
      (event.performed unique (errno_of (served choice w.server unique t).wire) w.server.aborted) q
      × Alike (after_perform w unique (served choice w.server unique t)) q
  decline_goes =
      let waits = asked.is_waiting in (
        ask_declined p unique asked.ask,
        (
          0,
          ap (λ (o : Option Ask). serving p unique o) asked.there ∙ ap
              (λ (s : Stage). serving_ask p unique asked.ask s) waits.stage
              ∙ ap (λ (b : Bool). cond b (where_so asked.ask.noted (ask_declined p unique asked.ask))
              (Some (plain.ask_performed p unique asked.ask))) (waits.marked_too ∙ can.marked)
              ∙ ap (λ (b : Bool). where_so b (ask_declined p unique asked.ask)) (waits.noted can.marked),
        ),
        subst (λ (v : World). Alike v (ask_declined p unique asked.ask)) (sym is_served)
            (declined_alike w.server.aborted),
      )
