-- The server performs a request that is no ask, INIT or a RELEASE: all stays alike, and the plain world takes no step.
use Rattle.std.proofs.Common.{◌≡◌, ℕ, ◌+◌, Bool, true, false, ◌||◌, cond, Option, Some, None, nat_eq, refl, ap, sym, subst, ◌∙◌}
use Rattle.std.specs.List.{list_any}
use Rattle.fuse_spec.specs.declared.Opened.{Opened}
use Rattle.fuse_spec.specs.Values.Maps.{Map, get, put, remove, values}
use Rattle.fuse_spec.specs.Files.Operations.{done, errno_of}
use Rattle.fuse_spec.specs.Kernel.Messages.{RequestBody, init, release, WireReply}
use Rattle.fuse_spec.specs.Server.Nodes.{HeldNode, FileHandle, HandleTable, handle_back}
use Rattle.fuse_spec.specs.Server.Server.{Server, HeldRequest, Kept, Copy, is_file_held, without_unheld_files}
use Rattle.fuse_spec.specs.Server.Performs.{PerformResult, performed, performing, served, replying, refusing, is_still_held, init_reply}
use Rattle.fuse_spec.specs.World.Worlds.{World, after_perform}
use Rattle.fuse_spec.specs.World.Worlds as worlds
use Rattle.fuse_spec.specs.World.Events as event
use Rattle.fuse_spec.specs.Reference.Plain.{Plain, Ask}
use Rattle.fuse_spec.specs.Reference.PlainSteps.{Takes, serving}
use Rattle.fuse_spec.specs.Claim.Alike.{RequestBodyAsked, StillDenotes, OpenStillDenotes, Alike}
use Rattle.fuse_theorem.specs.Conditions.{OneId, HoldsAll, HoldsOpens, CanRelease}
use Rattle.fuse_theorem.proofs.Refining.UnusedNodesDropped.{Narrows, fewer_nodes_refine}
use Rattle.fuse_theorem.proofs.Refining.Serving.{unheld_alike, replied_alike}
use Rattle.fuse_theorem.proofs.Refining.Settling.{handle_back_left, handle_back_files, narrows_fewer}
use Rattle.fuse_theorem.proofs.Trees.NamelessDiscarded.{discarded_unheld_alike}

-- the world in which a request is held no longer
abbrev pub unheld : World → ℕ → World
unheld w unique = record w { server = record w.server { held = remove w.server.held unique } }

module _ (w : World) (p : Plain) (same : Alike w p) (choice : ℕ → ℕ) (unique : ℕ) (t : HeldRequest)
    (unasked : get p.asks unique ≡ None) (h : HandleTable) (wire : WireReply)
    (did : performed choice (unheld w unique).server t
    ≡ record { server = record (unheld w unique).server { handles = h }; wire = wire })
    (narrows : Narrows (unheld w unique) p w.kernel.nodes w.server.nodes h)
    (fewer : (file : ℕ) → list_any (λ (x : FileHandle). nat_eq x.file file) (values h.handles) ≡ true
    → list_any (λ (x : FileHandle). nat_eq x.file file) (values w.server.handles.handles) ≡ true) where
  abbrev left : Server
  left = without_unheld_files (record (unheld w unique).server { handles = h })

  abbrev kept2 : Kept
  kept2 = record { wire = wire; first = w.server.next_copy }

  abbrev copies2 : Map Copy
  copies2 = put w.server.copies w.server.next_copy (record { unique = unique; wire = wire; first = w.server.next_copy })

  -- the world afterwards, by whether the mount is aborted
  abbrev After : Bool → World
  After aborted = worlds.copy_put (record w {
    server = record left {
      kept = cond aborted w.server.kept (put w.server.kept unique kept2);
      copies = cond aborted w.server.copies copies2;
      next_copy =
          cond aborted w.server.next_copy (w.server.next_copy + 1);
    };
  }) w.server.next_copy unique (cond aborted None (Some wire))

  is_served : after_perform w unique (served choice w.server unique t) ≡ After w.server.aborted
  is_served = ap (λ (d : PerformResult). after_perform w unique
      (record { server = replying (without_unheld_files d.server) unique d.wire; wire = d.wire })) did

  left_alike : Alike (record w { server = left }) p
  left_alike =
      let trees = discarded_unheld_alike (record (unheld w unique).server { handles = h }) p.tree
      (λ file. is_file_held w.server file) same.tree.names same.tree.next_inode same.tree.next_cookie same.tree.files
      (λ file held.
      either (list_any (λ (row : HeldNode). nat_eq row.file file) (values w.server.nodes.rows))
      (list_any (λ (x : FileHandle). nat_eq x.file file) (values h.handles))
      (list_any (λ (x : FileHandle). nat_eq x.file file) (values w.server.handles.handles)) held
      (fewer file)) in
      fewer_nodes_refine (unheld w unique) p
      (unheld_alike w p same unique) w.kernel.nodes w.server.nodes h left.tree p.tree narrows trees
    where
      either : (a b c : Bool) → (a || b) ≡ true → (b ≡ true → c ≡ true) → (a || c) ≡ true
      either true b c h f = refl
      either false b c h f = f h

  after_alike : (aborted : Bool) → Alike (After aborted) p
  after_alike true = left_alike
  after_alike false = replied_alike (record w { server = left }) p left_alike unique w.server.next_copy
      (w.server.next_copy + 1) wire kept2 copies2 refl (λ alive ask at. absurd (cc (unasked, at)))

  pub unasked_goes : Takes p (event.perform unique)
      (event.performed unique (errno_of (served choice w.server unique t).wire) w.server.aborted) p
      × Alike (after_perform w unique (served choice w.server unique t)) p
  unasked_goes = (
    (0, ap (λ (x : Option Ask). serving p unique x) unasked),
    subst (λ (v : World). Alike v p) (sym is_served) (after_alike w.server.aborted),
  )

module _ (w : World) (p : Plain) (same : Alike w p) (choice : ℕ → ℕ) (unique : ℕ) (t : HeldRequest) where
  -- what is held under the number
  asked_of : get w.server.held unique ≡ Some t → (body : RequestBody) → t.body ≡ body
      → RequestBodyAsked p.asks unique false t.marked (StillDenotes w.server.nodes t.generations)
      (OpenStillDenotes w.server.nodes w.server.handles t.generations) body
  asked_of there body is = subst (RequestBodyAsked p.asks unique false t.marked (StillDenotes w.server.nodes t.generations)
      (OpenStillDenotes w.server.nodes w.server.handles t.generations)) is (same.requests.held unique t there)

  did_body : (body : RequestBody) → t.body ≡ body → t.marked ≡ false
      → is_still_held w.server.nodes t.generations ≡ true
      → performed choice (unheld w unique).server t ≡ performing choice (unheld w unique).server body
  did_body body is unmarked still = λ i. cond (unmarked i) (refusing (unheld w unique).server 4)
      (cond (still i) (performing choice (unheld w unique).server (is i)) (refusing (unheld w unique).server 5))

  -- INIT is performed.
  pub init_goes : get w.server.held unique ≡ Some t → (flags : ℕ) → t.body ≡ init flags → t.marked ≡ false
      → is_still_held w.server.nodes t.generations ≡ true
      → Takes p (event.perform unique) (event.performed unique
      (errno_of (served choice w.server unique t).wire) w.server.aborted) p
      × Alike (after_perform w unique (served choice w.server unique t)) p
  init_goes there flags body_is unmarked still = unasked_goes w p same choice unique t
      (asked_of there (init flags) body_is) w.server.handles (init_reply w.server.minor flags)
      (did_body (init flags) body_is unmarked still)
      (record {
        back = λ id file m. m;
        root = λ file m. m;
        directories = λ id name there file m. m;
        targets = λ id name bound at target file is m. m;
        opens = λ open_call o at file m. m;
        calls = λ call state at. record { nodes_stay = λ id file among m. m; opens_stay = λ o file node among m. m };
        sent = λ i r lt. record { nodes_stay = λ id file among m. m; opens_stay = λ o file node among m. m };
        held_nodes = λ u x at id file among m. m;
        held_opens = λ u x at o file among m. m;
        kept = λ live u k ask at there reply_matches. reply_matches;
        copies = λ live i s lt ask there reply_matches. reply_matches;
      }) (λ file h. h)

  -- A RELEASE is performed, where the server still holds what is known, held and on its way.
  pub release_goes : OneId w.server.nodes → (o : Opened) → CanRelease w unique t o
      → HoldsAll (unheld w unique) w.server.nodes → HoldsOpens (unheld w unique) (handle_back w.server.handles o.fh)
      → Takes p (event.perform unique) (event.performed unique
      (errno_of (served choice w.server unique t).wire) w.server.aborted) p
      × Alike (after_perform w unique (served choice w.server unique t)) p
  release_goes one o can holds opens =
      let numbers = handle_back w.server.handles o.fh in
      let s1 = (unheld w unique).server in
      unasked_goes w p same choice unique t (asked_of can.there (release o) can.body_is) numbers done
      (did_body (release o) can.body_is can.unmarked can.still ∙ ap
      (λ (b : Bool). cond b (record { server = record s1 { handles = numbers }; wire = done })
      (refusing s1 9)) can.number)
      (narrows_fewer (unheld w unique) p (unheld_alike w p same unique) one w.server.nodes numbers
      (λ i generation file d. d) (handle_back_left w.server.handles o.fh) holds opens)
      (λ file h. handle_back_files file o.fh w.server.handles h)
