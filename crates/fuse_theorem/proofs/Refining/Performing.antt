-- The server performs the operation of a held request, and the plain world that of its ask.
use Rattle.std.proofs.Common.{◌≡◌, ℕ, ◌+◌, Bool, true, false, true≢false, not, ◌||◌, cond, List, [], ◌∷◌, ◌++◌, Option, Some, None, nat_eq, get_or, refl, ap, sym, subst, ◌∙◌, inl, inr}
use Rattle.std.specs.List.{list_any}
use Rattle.std.proofs.lemmas.Bool.{cases_eq}
use Rattle.fuse_spec.specs.declared.Opened.{Opened}
use Rattle.fuse_spec.specs.declared.Purpose.{Purpose}
use Rattle.fuse_spec.specs.declared.QueuedRequest.{QueuedRequest}
use Rattle.fuse_spec.specs.Values.Maps.{Map, get, put, remove, values}
use Rattle.fuse_spec.specs.Files.Operations.{Operation, lookup, getattr, mkdir, create, unlink, rmdir, rename, link, opening, readdir, readdirplus, read, write, Reply, found, missing, created, opened, attributes, listed, listed_plus, content, written, agreed, done, failed, files_in_reply, opens_in_reply, errno_of, OperationAlike}
use Rattle.fuse_spec.specs.Files.Trees.{Tree, Named}
use Rattle.fuse_spec.specs.Files.FileOperations.{FileOperation, reply_by, tree_after, refusal}
use Rattle.fuse_spec.specs.Kernel.Queues.{pending}
use Rattle.fuse_spec.specs.Kernel.Messages.{Request, WireReply}
use Rattle.fuse_spec.specs.Server.Nodes.{HeldNode, NodeTable, HandleTable, FileHandle, root_row, row_of, file_of, is_open, MayChoose, all_given, all_opened}
use Rattle.fuse_spec.specs.Server.Server.{Server, HeldRequest, Kept, Copy, is_file_held, without_unheld_files}
use Rattle.fuse_spec.specs.Server.Performs.{PerformResult, performed, performing, served, replying, doing, refusing, is_still_held, is_open_for, file_operation_of, wire_of, files_by, files_given}
use Rattle.fuse_spec.specs.World.Worlds.{World, Sent, after_perform}
use Rattle.fuse_spec.specs.World.Worlds as worlds
use Rattle.fuse_spec.specs.World.Events as event
use Rattle.fuse_spec.specs.Reference.Plain.{Plain, Ask, Stage, ask_performed}
use Rattle.fuse_spec.specs.Reference.Plain as plain
use Rattle.fuse_spec.specs.Reference.PlainSteps.{Takes, serving, serving_ask, where_so}
use Rattle.fuse_spec.specs.Claim.Denotes.{NodeDenotesIn, Denotes}
use Rattle.fuse_spec.specs.Claim.Alike.{TreeAlike, AskedBy, RequestBodyAsked, StillDenotes, OpenStillDenotes, IsStageReplied, Alike}
use Rattle.fuse_spec.proofs.Tables.{get_put_here, get_gone_here}
use Rattle.fuse_theorem.specs.Numbering.{IsOneToOne}
use Rattle.fuse_theorem.specs.Conditions.{TablesSound, KnownAreHeld, CanPerformCall}
use Rattle.fuse_theorem.proofs.Refining.TablesReplaced.{grown, replaced_tables_refine}
use Rattle.fuse_theorem.proofs.Refining.Changing.{with_ask, MayReplace, ask_changed}
use Rattle.fuse_theorem.proofs.Calls.Finding.{same_is, other_is, none_passes}
use Rattle.fuse_theorem.proofs.Refining.LookupsCounted.{all_given_denotes, one_grown, opened_open}
use Rattle.fuse_theorem.proofs.Trees.HeldOperations.{held_operation, denoted}
use Rattle.fuse_theorem.proofs.Trees.Names.{is_named}
use Rattle.fuse_theorem.proofs.Refining.Naming.{named_alike, given_held, opened_held}
use Rattle.fuse_theorem.proofs.Refining.Serving.{unheld_alike, replied_alike}
use Rattle.fuse_theorem.proofs.Trees.SameFilesAfter.{Stands, DeedStands, named_same, deed_same, makes_unless, files_after, named_after, given_stands}
use Rattle.fuse_theorem.proofs.Trees.NamelessDiscarded.{found_any, discarded_unheld_alike}
use Rattle.fuse_theorem.proofs.Trees.Trees.{with_files, AllSame, DeedSame, replied_same, numbers_same}

module _ (w : World) (p : Plain) (same : Alike w p) where
  abbrev Kept_if : ℕ → Bool
  Kept_if file = is_file_held w.server file

  -- what a node denotes stands in the tree
  denoted_stands : (id generation file : ℕ) → Denotes w.server.nodes id generation file
      → Stands p.tree w.server.tree.files Kept_if same.tree.files file
  denoted_stands id generation file d = elim (cases_eq id 1) [
    | inl e ↦
        let is_root : root_row ≡ d.row = cc (subst (λ (n : ℕ). row_of w.server.nodes n ≡ Some d.row) e d.there) in
        let zero_file : 0 ≡ file = ap (λ (r : HeldNode). r.file) is_root ∙ d.same_file in
        subst (Stands p.tree w.server.tree.files Kept_if same.tree.files) zero_file refl
    | inr ne ↦
        let there : get w.server.nodes.rows id ≡ Some d.row =
        ap (λ (b : Bool). cond b (Some root_row) (get w.server.nodes.rows id)) (sym (other_is id 1 ne)) ∙ d.there in
        let held : list_any (λ (row : HeldNode). nat_eq row.file file) (values w.server.nodes.rows) ≡ true =
        found_any (λ (row : HeldNode). nat_eq row.file file) w.server.nodes.rows id d.row there
        (ap (λ (n : ℕ). nat_eq n file) d.same_file ∙ same_is file) in
        right (is_named p.tree.names file) (list_any (λ (x : FileHandle). nat_eq x.file file)
        (values w.server.handles.handles)) held
  ]
    where
      right : {b : Bool} (a c : Bool) → b ≡ true → (a || (b || c)) ≡ true
      right true c e = refl
      right false c e = ap (λ (x : Bool). x || c) e

  module _ (generations : List (ℕ × ℕ)) where
    stands : (id file : ℕ) → StillDenotes w.server.nodes generations id file
        → Stands p.tree w.server.tree.files Kept_if same.tree.files file
    stands id file m = denoted_stands id m.generation file m.denotes

    opened_stands : (o : Opened) (file : ℕ) → OpenStillDenotes w.server.nodes w.server.handles generations o file
        → Stands p.tree w.server.tree.files Kept_if same.tree.files file
    opened_stands o file m = stands o.nodeid file m.node_meant

    handle_open : (o : Opened) (file : ℕ) → OpenStillDenotes w.server.nodes w.server.handles generations o file
        → is_open w.server.handles o.fh (file_of w.server.nodes o.nodeid) ≡ true
    handle_open o file m = ap (λ (f : ℕ). is_open w.server.handles o.fh f)
        (denoted w.server.nodes o.nodeid m.node_meant.generation file m.node_meant.denotes) ∙ m.is_handle

    operation_stands : (a : Operation ℕ Opened) (b : FileOperation)
        → OperationAlike (StillDenotes w.server.nodes generations) (OpenStillDenotes w.server.nodes w.server.handles generations) a b
        → DeedStands p.tree w.server.tree.files Kept_if same.tree.files b
    operation_stands (lookup d name) (lookup e other) h = stands d e h.0
    operation_stands (getattr x) (getattr y) h = stands x y h
    operation_stands (mkdir d name) (mkdir e other) h = stands d e h.0
    operation_stands (create d name) (create e other) h = stands d e h.0
    operation_stands (unlink d name) (unlink e other) h = stands d e h.0
    operation_stands (rmdir d name) (rmdir e other) h = stands d e h.0
    operation_stands (rename d old e new) (rename d' old' e' new') h = (stands d d' h.0, stands e e' h.2)
    operation_stands (link x d name) (link y e other) h = (stands x y h.0, stands d e h.1)
    operation_stands (opening x) (opening y) h = stands x y h
    operation_stands (readdir d after size) (readdir e after' size') h = stands d e h.0
    operation_stands (readdirplus d after size) (readdirplus e after' size') h = stands d e h.0
    operation_stands (read o offset size) (read file offset' size') h = opened_stands o file h.0
    operation_stands (write o offset bytes) (write file offset' bytes') h = opened_stands o file h.0
    operation_stands a b h = absurd h

    pub open_for : (a : Operation ℕ Opened) (b : FileOperation)
        → OperationAlike (StillDenotes w.server.nodes generations) (OpenStillDenotes w.server.nodes w.server.handles generations) a b
        → is_open_for w.server a ≡ true
    open_for (lookup d name) b h = refl
    open_for (getattr x) b h = refl
    open_for (mkdir d name) b h = refl
    open_for (create d name) b h = refl
    open_for (unlink d name) b h = refl
    open_for (rmdir d name) b h = refl
    open_for (rename d old e new) b h = refl
    open_for (link x d name) b h = refl
    open_for (opening x) b h = refl
    open_for (readdir d after size) b h = refl
    open_for (readdirplus d after size) b h = refl
    open_for (read o offset size) (read file offset' size') h = handle_open o file h.0
    open_for (write o offset bytes) (write file offset' bytes') h = handle_open o file h.0
    open_for (read o offset size) b h = absurd h
    open_for (write o offset bytes) b h = absurd h

module _ (w : World) (p : Plain) (same : Alike w p) (choice : ℕ → ℕ) (unique : ℕ) (t : HeldRequest)
    (operation : Operation ℕ Opened) (can : CanPerformCall w unique t operation) where
  pub asked : AskedBy p.asks unique false t.marked
      (OperationAlike (StillDenotes w.server.nodes t.generations)
      (OpenStillDenotes w.server.nodes w.server.handles t.generations) operation)
  asked = subst (RequestBodyAsked p.asks unique false t.marked (StillDenotes w.server.nodes t.generations)
      (OpenStillDenotes w.server.nodes w.server.handles t.generations)) can.body_is (same.requests.held unique t can.there)

  -- the operation of the ask, on the files
  abbrev deed : FileOperation
  deed = asked.ask.operation

  -- what the plain world's tree replies to it
  abbrev pub reply : Reply ℕ ℕ
  reply = reply_by p.validity p.tree deed

  abbrev s1 : Server
  s1 = record w.server { held = remove w.server.held unique }

  abbrev nodes2 : NodeTable
  nodes2 = all_given choice w.server.nodes (files_in_reply reply)

  abbrev handles2 : HandleTable
  handles2 = all_opened w.server.handles (opens_in_reply reply)

  abbrev tree2 : Tree
  tree2 = tree_after w.server.tree deed

  abbrev wire2 : WireReply
  wire2 = wire_of choice nodes2 tree2 w.server.handles.next_fh reply

  abbrev s2 : Server
  s2 = record s1 { tree = tree2; nodes = nodes2; handles = handles2 }

  -- ---- the server performs the very operation of the ask

  deed_there : DeedStands p.tree w.server.tree.files (λ file. is_file_held w.server file) same.tree.files deed
  deed_there = operation_stands w p same t.generations operation deed asked.same

  tree_is : w.server.tree ≡ with_files p.tree w.server.tree.files
  tree_is = λ i. record {
    files = w.server.tree.files;
    names = same.tree.names i;
    next_inode = same.tree.next_inode i;
    next_cookie = same.tree.next_cookie i;
  }

  all_named : AllSame p.tree w.server.tree.files p.tree.names
  all_named = named_same p.tree w.server.tree.files (λ file. is_file_held w.server file) same.tree.files

  same_files : DeedSame p.tree w.server.tree.files deed
  same_files = deed_same p.tree w.server.tree.files (λ file. is_file_held w.server file) same.tree.files deed deed_there

  same_reply : reply_by w.server.validity w.server.tree deed ≡ reply
  same_reply = (λ i. reply_by (same.validity i)
      (tree_is i) deed) ∙ replied_same p.tree w.server.tree.files all_named p.validity deed same_files

  -- what performing gives, by whether the mount is aborted
  abbrev Did : Reply ℕ ℕ → Bool → PerformResult
  Did r aborted = record {
    server = record s1 {
      tree = tree2;
      nodes = cond aborted w.server.nodes
          (all_given choice w.server.nodes (files_in_reply r));
      handles =
          cond aborted w.server.handles (all_opened w.server.handles (opens_in_reply r));
    };
    wire = cond aborted (failed (errno_of r)) (wire_of choice
        (all_given choice w.server.nodes (files_in_reply r)) tree2 w.server.handles.next_fh r);
  }

  performed_is : (aborted : Bool) → w.server.aborted ≡ aborted → performed choice s1 t ≡ Did reply aborted
  performed_is aborted is =
      ap (λ (b : Bool). cond b (refusing s1 4) (cond (is_still_held w.server.nodes t.generations)
      (performing choice s1 t.body) (refusing s1 5))) can.unmarked
      ∙ ap (λ (b : Bool). cond b (performing choice s1 t.body) (refusing s1 5)) can.still ∙ ap
      (performing choice s1) can.body_is
      ∙ ap (λ (b : Bool). cond b (doing choice s1 (file_operation_of w.server.nodes operation)) (refusing s1 9))
      (open_for w p same t.generations operation deed asked.same)
      ∙ ap (doing choice s1) (held_operation w.server.nodes w.server.handles t.generations operation deed asked.same) ∙ ap (λ (r : Reply ℕ ℕ). Did r w.server.aborted) same_reply ∙ ap (Did reply) is

  -- The files to which it gives nodes are those that the plain world's reply names.
  pub gives : w.server.aborted ≡ false → files_given w.server t ≡ files_in_reply reply
  gives live =
      (λ i. cond (live i || (can.unmarked i || not (can.still i))) [] (files_by w.server (can.body_is i)))
      ∙ ap (λ (b : Bool). cond b (files_in_reply (reply_by w.server.validity w.server.tree
      (file_operation_of w.server.nodes operation))) []) (open_for w p same t.generations operation deed asked.same)
      ∙ ap (λ (o : FileOperation). files_in_reply (reply_by w.server.validity w.server.tree o))
      (held_operation w.server.nodes w.server.handles t.generations operation deed asked.same) ∙ ap files_in_reply same_reply

  pub may_choose : w.server.aborted ≡ false → MayChoose choice w.server.nodes (files_given w.server t) → (ask : Ask)
      → get p.asks unique ≡ Some ask → MayChoose choice w.server.nodes
      (files_in_reply (reply_by p.validity p.tree ask.operation))
  may_choose live may ask at =
      let there = asked.there in
      let is_ask : asked.ask ≡ ask = cc (there, at) in
      subst (λ (a : Ask). MayChoose choice w.server.nodes
      (files_in_reply (reply_by p.validity p.tree a.operation))) is_ask
      (subst (MayChoose choice w.server.nodes) (gives live) may)

  -- ---- the two are alike

  abbrev new : Ask
  new = record asked.ask { stage = plain.performed reply }

  abbrev w1 : World
  w1 = record w { server = s1 }

  may_replace : MayReplace w1 p unique new
  may_replace =
      let waits = asked.is_waiting in
      let stage = waits.stage in
      record {
        old = asked.ask;
        there = asked.there;
        same_call = refl;
        same_operation = refl;
        pending = λ i e lt same_key. absurd (true≢false (sym
            (subst (λ (n : ℕ). nat_eq unique n ≡ true) (sym same_key) (same_is unique)) ∙ none_passes
            (λ (x : ℕ × QueuedRequest Purpose). nat_eq unique x.0) (pending w.kernel.queues) can.none_pending i e lt));
        sent = λ i r lt same_key. absurd (true≢false (sym
            (subst (λ (n : ℕ). nat_eq unique n ≡ true) (sym same_key) (same_is unique)) ∙ none_passes
            (λ (x : Request). nat_eq unique x.unique) w.requests can.none_sent i r lt));
        held = λ x at. absurd (cc (at, get_gone_here w.server.held unique));
        noted = λ r under bears noted. noted;
        kept = λ k at was. absurd (subst (λ (s : Stage). IsStageReplied w.server.nodes w.server.handles s k.wire) stage was);
        copies = λ i s lt same_key was. absurd (subst (λ (x : Stage). IsStageReplied w.server.nodes w.server.handles x
            (get_or w.replies i s).wire) stage was);
      }

  either : (S : Type 0) (a b : Bool) → (a || b) ≡ true → (a ≡ true → S) → (b ≡ true → S) → S
  either S true b q f g = f refl
  either S false b q f g = g q

  -- whether a file stands in the plain tree after it, named or held or just made
  abbrev stood : ℕ → Bool
  stood file = (is_named p.tree.names file || is_file_held w.server file)
      || makes_unless p.tree deed file (refusal p.tree deed)

  -- The trees are alike afterwards, where the server holds no other files.
  trees_alike : (nodes : NodeTable) (handles : HandleTable)
      → ((file : ℕ) → is_file_held (record s1 { tree = tree2; nodes = nodes; handles = handles }) file ≡ true
      → stood file ≡ true)
      → TreeAlike (without_unheld_files (record s1 { tree = tree2; nodes = nodes; handles = handles }))
      (tree_after p.tree deed)
  trees_alike nodes handles fewer =
      let numbers = numbers_same p.tree w.server.tree.files all_named deed same_files in
      discarded_unheld_alike (record s1 { tree = tree2; nodes = nodes; handles = handles }) (tree_after p.tree deed) stood
      (ap (λ (x : Tree). (tree_after x deed).names) tree_is ∙ ap (λ (n : List Named × ℕ × ℕ). n.0) numbers)
      (ap (λ (x : Tree). (tree_after x deed).next_inode) tree_is ∙ ap (λ (n : List Named × ℕ × ℕ). n.1) numbers)
      (ap (λ (x : Tree). (tree_after x deed).next_cookie) tree_is ∙ ap (λ (n : List Named × ℕ × ℕ). n.2) numbers)
      (λ file.
      ap (λ (x : Tree). get (tree_after x deed).files file) tree_is ∙ files_after p.tree w.server.tree.files
      (λ f. is_file_held w.server f) same.tree.files deed deed_there file
      ∙ ap (λ (b : Bool). cond b (get (tree_after p.tree deed).files file) None)
      (sym (absorbed (is_named (tree_after p.tree deed).names file) (stood file)
      (λ n. named_after p.tree w.server.tree.files
      (λ f. is_file_held w.server f) same.tree.files deed deed_there file n))))
      fewer
    where
      absorbed : (a b : Bool) → (a ≡ true → b ≡ true) → (a || b) ≡ b
      absorbed true b f = sym (f refl)
      absorbed false b f = refl

  -- a file that is held stands
  held_stood : (file : ℕ) (a b c : Bool) → b ≡ true → ((a || b) || c) ≡ true
  held_stood file true true c e = refl
  held_stood file false true c e = refl
  held_stood file a false c e = absurd (true≢false (sym e))

  -- The plain world takes its step.
  takes_it : Takes p (event.perform unique) (event.performed unique
      (errno_of (served choice w.server unique t).wire) w.server.aborted) (ask_performed p unique asked.ask)
  takes_it =
      let waits = asked.is_waiting in (
        0,
        ap (λ (o : Option Ask). serving p unique o) asked.there ∙ ap
            (λ (s : Stage). serving_ask p unique asked.ask s) waits.stage
            ∙ ap (λ (b : Bool). cond b (where_so asked.ask.noted (plain.ask_declined p unique asked.ask))
            (Some (ask_performed p unique asked.ask))) (waits.marked_too ∙ can.unmarked),
      )

  module _ (live : w.server.aborted ≡ false) (tables : TablesSound w.server) (one : IsOneToOne (NodeDenotesIn w))
      (known : KnownAreHeld w) (may : MayChoose choice w.server.nodes (files_in_reply reply)) where
    -- ---- in a mount that lives

    abbrev s3 : Server
    s3 = without_unheld_files s2

    abbrev kept2 : Kept
    kept2 = record { wire = wire2; first = w.server.next_copy }

    abbrev copies2 : Map Copy
    copies2 = put w.server.copies w.server.next_copy
        (record { unique = unique; wire = wire2; first = w.server.next_copy })

    abbrev sent2 : Sent
    sent2 = record { number = w.server.next_copy; unique = unique; wire = wire2 }

    abbrev after : World
    after = record w {
      server = record s3 {
        kept = put w.server.kept unique kept2;
        copies = copies2;
        next_copy = w.server.next_copy + 1;
      };
      replies = w.replies ++ sent2 ∷ [];
    }

    is_served : after_perform w unique (served choice w.server unique t) ≡ after
    is_served =
        ap (λ (d : PerformResult). after_perform w unique
        (record { server = replying (without_unheld_files d.server) unique d.wire; wire = d.wire }))
        (performed_is false live)
        ∙ (λ i. worlds.copy_put (record w {
          server = record s3 {
            kept = cond (live i) w.server.kept (put w.server.kept unique kept2);
            copies = cond (live i) w.server.copies copies2;
            next_copy = cond (live i) w.server.next_copy (w.server.next_copy + 1);
          };
        }) w.server.next_copy unique (cond (live i) None (Some wire2)))

    opens_still : (r : Reply ℕ ℕ) (fh file : ℕ) → is_open w.server.handles fh file ≡ true
        → is_open (all_opened w.server.handles (opens_in_reply r)) fh file ≡ true
    opens_still (created x v o) fh file h = opened_open w.server.handles o tables.new_handle fh file h
    opens_still (opened o) fh file h = opened_open w.server.handles o tables.new_handle fh file h
    opens_still (found x v) fh file h = h
    opens_still (missing v) fh file h = h
    opens_still (attributes a) fh file h = h
    opens_still (listed xs) fh file h = h
    opens_still (listed_plus xs) fh file h = h
    opens_still (content xs) fh file h = h
    opens_still (written n) fh file h = h
    opens_still (agreed a b flags) fh file h = h
    opens_still done fh file h = h
    opens_still (failed e) fh file h = h

    trees_live : TreeAlike s3 (tree_after p.tree deed)
    trees_live = trees_alike nodes2 handles2 fewer
      where
        left_held : (a b : Bool) → a ≡ true → (a || b) ≡ true
        left_held true b e = refl
        left_held false b e = absurd (true≢false (sym e))

        right_held : (a b : Bool) → b ≡ true → (a || b) ≡ true
        right_held true b e = refl
        right_held false b e = e

        fewer : (file : ℕ) → is_file_held s2 file ≡ true → stood file ≡ true
        fewer file h =
            let given = given_stands p.tree w.server.tree.files
            (λ f. is_file_held w.server f) same.tree.files p.validity deed deed_there in
            let rows = list_any (λ (row : HeldNode). nat_eq row.file file) (values w.server.nodes.rows) in
            let numbers = list_any (λ (x : FileHandle). nat_eq x.file file) (values w.server.handles.handles) in
            let makes = makes_unless p.tree deed file (refusal p.tree deed) in
            either (stood file ≡ true) (list_any (λ (row : HeldNode). nat_eq row.file file) (values nodes2.rows))
            (list_any (λ (x : FileHandle). nat_eq x.file file) (values handles2.handles)) h
            (λ q. given_held (λ f. stood f ≡ true) choice (files_in_reply reply) w.server.nodes file given.0 may
            (λ r. held_stood file (is_named p.tree.names file) (rows || numbers) makes
            (left_held rows numbers r)) q)
            (λ q. opened_held (λ f. stood f ≡ true) (opens_in_reply reply) w.server.handles file given.1
            (λ r. held_stood file (is_named p.tree.names file) (rows || numbers) makes
            (right_held rows numbers r)) q)

    performed_alike : Alike after (ask_performed p unique asked.ask)
    performed_alike =
        let asked_alike = ask_changed w1 p (unheld_alike w p same unique) unique new may_replace in
        let now = with_ask p unique new in
        let denotes = λ (id generation file : ℕ)
        (d : Denotes w.server.nodes id generation file). all_given_denotes choice
        (files_in_reply reply) w.server.nodes id generation file d in
        let carries = grown w1 now w.kernel.nodes nodes2 handles2 (λ id generation e. e) denotes (opens_still reply)
        (one_grown w.kernel.nodes w.server.nodes nodes2 known denotes one) in
        let carried = replaced_tables_refine w1 now asked_alike w.kernel.nodes nodes2 handles2 s3.tree
        (tree_after p.tree deed) carries trees_live in
        replied_alike (record w1 { server = s3 }) (ask_performed p unique asked.ask) carried unique w.server.next_copy
        (w.server.next_copy + 1) wire2 kept2 copies2 refl
        (λ alive x at.
        let is_new : new ≡ x = cc (get_put_here p.asks unique new, at) in
        subst (λ (y : Ask). IsStageReplied nodes2 handles2 y.stage wire2) is_new
        (named_alike choice w.server.nodes w.server.handles tree2 reply tables.no_root may))

    -- The server performs the request, and the plain world its ask: the two are alike again.
    pub perform_goes : (q : Plain) × Takes p (event.perform unique)
        (event.performed unique (errno_of (served choice w.server unique t).wire) w.server.aborted) q
        × Alike (after_perform w unique (served choice w.server unique t)) q
    perform_goes = (
      ask_performed p unique asked.ask,
      takes_it,
      subst (λ (v : World). Alike v (ask_performed p unique asked.ask)) (sym is_served) performed_alike,
    )

  -- ---- after an abort: nothing is given, and nothing is replied

  module _ (lost : w.server.aborted ≡ true) (one : IsOneToOne (NodeDenotesIn w)) where
    abbrev left : Server
    left = without_unheld_files (record s1 { tree = tree2 })

    lost_is : after_perform w unique (served choice w.server unique t) ≡ record w { server = left }
    lost_is =
        ap (λ (d : PerformResult). after_perform w unique
        (record { server = replying (without_unheld_files d.server) unique d.wire; wire = d.wire }))
        (performed_is true lost)
        ∙ (λ i. worlds.copy_put (record w {
          server = record left {
            kept = cond (lost i) w.server.kept (put w.server.kept unique
                (record { wire = failed (errno_of reply); first = w.server.next_copy }));
            copies = cond (lost i) w.server.copies (put w.server.copies w.server.next_copy
                (record { unique = unique; wire = failed (errno_of reply); first = w.server.next_copy }));
            next_copy = cond (lost i) w.server.next_copy (w.server.next_copy + 1);
          };
        }) w.server.next_copy unique (cond (lost i) None (Some (failed (errno_of reply)))))

    -- The server performs the request, and the plain world its ask: the two are alike again.
    pub lost_goes : (q : Plain) × Takes p (event.perform unique)
        (event.performed unique (errno_of (served choice w.server unique t).wire) w.server.aborted) q
        × Alike (after_perform w unique (served choice w.server unique t)) q
    lost_goes =
        let asked_alike = ask_changed w1 p (unheld_alike w p same unique) unique new may_replace in
        let trees = trees_alike w.server.nodes w.server.handles
        (λ file h. held_stood file (is_named p.tree.names file) (is_file_held w.server file)
        (makes_unless p.tree deed file (refusal p.tree deed)) h) in
        let carries = grown w1 (with_ask p unique new) w.kernel.nodes w.server.nodes w.server.handles
        (λ id generation e. e) (λ id generation file d. d) (λ fh file o. o) one in
        let carried = replaced_tables_refine w1
        (with_ask p unique new) asked_alike w.kernel.nodes w.server.nodes w.server.handles left.tree
        (tree_after p.tree deed) carries trees in (
          ask_performed p unique asked.ask,
          takes_it,
          subst (λ (v : World). Alike v (ask_performed p unique asked.ask))
              (sym lost_is) carried,
        )
