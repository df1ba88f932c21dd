-- What the server takes and holds stays asked as it was.
use Rattle.std.proofs.Common.{◌≡◌, ℕ, false, List, [], ◌∷◌, ◌++◌, remove, Some, None, slice_get, map, sym, subst, ◌∙◌, inl, inr}
use Rattle.std.proofs.lemmas.Bool.{cases_eq}
use Rattle.std.proofs.lemmas.List.Elements.{All-push}
use Rattle.fuse_spec.specs.Values.Maps.{get, put}
use Rattle.fuse_spec.specs.Files.Operations.{files_in}
use Rattle.fuse_spec.specs.Kernel.Messages.{RequestBody, init, asks, release, forget, batch_forget, interrupt, Request, WireReply}
use Rattle.fuse_spec.specs.Files.Operations.{opened_nodes}
use Rattle.fuse_spec.specs.Server.Nodes.{row_of}
use Rattle.fuse_spec.specs.Server.Server.{HeldRequest, holding, sending, nodes_of_body, generation_in}
use Rattle.fuse_spec.specs.World.Worlds.{World, Sent}
use Rattle.fuse_spec.specs.Reference.Plain.{Plain, Ask}
use Rattle.fuse_spec.specs.Claim.Denotes.{NodeDenotesIn, OpenDenotesIn}
use Rattle.fuse_spec.specs.Claim.Alike.{RequestBodyAsked, StillDenotes, OpenStillDenotes, IsStageReplied, Alike}
use Rattle.fuse_spec.proofs.Tables.{get_put_here, get_put_there}
use Rattle.fuse_theorem.proofs.Refining.Queuing.{All-without, All-at}
use Rattle.fuse_theorem.proofs.Calls.Meaning.{operation_more, means_meant, means_open_meant}

module _ (w : World) (p : Plain) (same : Alike w p) where
  abbrev SentAsked : Request → Type 0
  SentAsked r = RequestBodyAsked p.asks r.unique false false (NodeDenotesIn w) (OpenDenotesIn w) r.body

  -- the generations under which the nodes of a request are held
  abbrev pub held_generations : RequestBody → List (ℕ × ℕ)
  held_generations body = map (λ id. (id, generation_in (row_of w.server.nodes id))) (nodes_of_body body)

  -- what was asked on the link is asked of the server
  taken_asked : (unique : ℕ) (body : RequestBody) → RequestBodyAsked p.asks unique false false (NodeDenotesIn w)
      (OpenDenotesIn w) body
      → RequestBodyAsked p.asks unique false false (StillDenotes w.server.nodes (held_generations body))
      (OpenStillDenotes w.server.nodes w.server.handles (held_generations body)) body
  taken_asked unique (asks operation) h =
      let ids = files_in opened_nodes operation in
      record {
        ask = h.ask;
        there = h.there;
        is_waiting = h.is_waiting;
        same = operation_more (NodeDenotesIn w) _ (OpenDenotesIn w) _ operation h.ask.operation
            (means_meant w.kernel.nodes w.server.nodes w.server.handles ids)
            (λ o file among named s. means_open_meant w.kernel.nodes w.server.nodes w.server.handles ids o file among s) h.same;
      }
  taken_asked unique (init flags) h = h
  taken_asked unique (release o) h = h
  taken_asked unique (forget f) h = h
  taken_asked unique (batch_forget fs) h = h
  taken_asked unique (interrupt original) h = h

  -- A request is held.
  pub held_alike : (k : ℕ) (r : Request) → slice_get w.requests k ≡ Some r
      → Alike (record w { requests = remove w.requests k; server = holding w.server r.unique r.body }) p
  held_alike k r at =
      let new : HeldRequest = record { body = r.body; generations = held_generations r.body; marked = false } in
      let mine = taken_asked r.unique r.body (All-at SentAsked w.requests k r same.requests.sent at) in
      record {
        tree = record {
          names = same.tree.names;
          next_inode = same.tree.next_inode;
          next_cookie = same.tree.next_cookie;
          files = same.tree.files;
        };
        vfs = same.vfs;
        requests = record {
          pending = same.requests.pending;
          sent = All-without SentAsked w.requests k same.requests.sent;
          held = λ u t there. elim (cases_eq u r.unique) [
            | inl e ↦
                let is_new : new ≡ t = cc (
                  get_put_here w.server.held r.unique new,
                  subst (λ (n : ℕ). get (put w.server.held r.unique new) n ≡ Some t) e there,
                ) in
                subst (λ (n : ℕ). RequestBodyAsked p.asks n false t.marked (StillDenotes w.server.nodes t.generations)
                (OpenStillDenotes w.server.nodes w.server.handles t.generations) t.body) (sym e)
                (subst (λ (x : HeldRequest). RequestBodyAsked p.asks r.unique false x.marked
                (StillDenotes w.server.nodes x.generations)
                (OpenStillDenotes w.server.nodes w.server.handles x.generations) x.body) is_new mine)
            | inr ne ↦ same.requests.held u t (sym (get_put_there w.server.held r.unique new u ne) ∙ there)
          ];
        };
        asks = λ live.
            let old = same.asks live in
            record {
              of_calls = λ q state is.
                  let pair = old.of_calls q state is in
                  record {
                    unique = pair.unique;
                    ask = pair.ask;
                    request = pair.request;
                    there = pair.there;
                    by = pair.by;
                    same = pair.same;
                  };
              no_other = old.no_other;
              signalled = old.signalled;
              kept = old.kept;
              copies = old.copies;
            };
        validity = same.validity;
        minor = same.minor;
        agreed = same.agreed;
        aborted = same.aborted;
      }

  -- An INTERRUPT that marks nothing goes. Where its request is not known, a copy of EAGAIN goes out under its number,
  -- under which nothing is asked.
  pub ignored_alike : (k : ℕ) → Alike (record w { requests = remove w.requests k }) p
  ignored_alike k = record {
    tree = same.tree;
    vfs = same.vfs;
    requests = record {
      pending = same.requests.pending;
      sent = All-without SentAsked w.requests k same.requests.sent;
      held = same.requests.held;
    };
    asks = λ live.
        let old = same.asks live in
        record {
          of_calls = λ q state is.
              let pair = old.of_calls q state is in
              record {
                unique = pair.unique;
                ask = pair.ask;
                request = pair.request;
                there = pair.there;
                by = pair.by;
                same = pair.same;
              };
          no_other = old.no_other;
          signalled = old.signalled;
          kept = old.kept;
          copies = old.copies;
        };
    validity = same.validity;
    minor = same.minor;
    agreed = same.agreed;
    aborted = same.aborted;
  }

  -- A copy under a number under which nothing is asked goes out.
  pub sending_alike : (unique : ℕ) (wire : WireReply) (number first : ℕ) → get p.asks unique ≡ None
      → Alike (record w {
        server = sending w.server unique wire first;
        replies = w.replies ++ record { number = number; unique = unique; wire = wire } ∷ [];
      }) p
  sending_alike unique wire number first unasked = record {
    tree = record {
      names = same.tree.names;
      next_inode = same.tree.next_inode;
      next_cookie = same.tree.next_cookie;
      files = same.tree.files;
    };
    vfs = same.vfs;
    requests = record { pending = same.requests.pending; sent = same.requests.sent; held = same.requests.held };
    asks = λ live.
        let old = same.asks live in
        record {
          of_calls = λ q state is.
              let pair = old.of_calls q state is in
              record {
                unique = pair.unique;
                ask = pair.ask;
                request = pair.request;
                there = pair.there;
                by = pair.by;
                same = pair.same;
              };
          no_other = old.no_other;
          signalled = old.signalled;
          kept = old.kept;
          copies = All-push (λ (sent : Sent). (ask : Ask) → get p.asks sent.unique ≡ Some ask
              → IsStageReplied w.server.nodes w.server.handles ask.stage sent.wire) w.replies
              (record { number = number; unique = unique; wire = wire }) old.copies
              (λ ask there. absurd (cc (unasked, there)));
        };
    validity = same.validity;
    minor = same.minor;
    agreed = same.agreed;
    aborted = same.aborted;
  }
