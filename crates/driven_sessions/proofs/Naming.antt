-- A request's frame names nodes that are there, where its header and its struct name such.
use Rattle.std.proofs.Common.{◌≡◌, ◌⊎◌, inl, inr, ℕ, ◌≤◌, ◌<◌, ◌^◌, ◌&&◌, ◌||◌, Bool, true, false, not, List, [], ◌∷◌, ◌++◌, codes, Option, Some, None, nat_eq, nat_le, refl, ap, sym, subst, ◌∙◌, arith, if◌then◌else◌, All}
use Rattle.std.specs.List.{list_all}
use Rattle.std.proofs.lemmas.Bool.Decides.{nat_tests}
use Rattle.std.proofs.lemmas.Bool.{and_parts, false≢true}
use Rattle.std.proofs.lemmas.List.Elements.{All-head, All-tail}
use Rattle.fk_fields.specs.Fields.{ReadsAs, free32, number_at}
use Rattle.fk_wire.specs.Opcodes.{code_of as codec_code, has_node}
use Rattle.fk_wire.specs.Requests.{RequestContent, nodeid_field, opcode_of, request_body}
use Rattle.fk_wire.specs.Requests as wire
use Rattle.fuse_spec.specs.declared.Opened.{Opened}
use Rattle.fuse_spec.specs.Kernel.Messages.{Request, RequestBody}
use Rattle.fuse_spec.specs.Server.Server.{nodes_of_body}
use Rattle.fuse_frames.specs.RequestTies.{SaysRequest, body_in}
use Rattle.fk_drive_frames.specs.OwnRequests.{IsOpendir, IsReleasedir}
use Rattle.fuse_protocol.specs.declared.opcode.Opcode.{Opcode}
use Rattle.fuse_protocol.specs.declared.opcode.Opcode.TheVariants as op
use Rattle.fuse_protocol.specs.declared.request.OpenHandle.{OpenHandle}
use Rattle.fuse_protocol.specs.declared.request.OpenHandle.TheVariants as handle
use Rattle.fuse_protocol.specs.Pairs.{pairs_of_row}
use Rattle.fuse_protocol.specs.Requests.{RequestMessage}
use Rattle.fuse_protocol.specs.Table.{code_of, row_at}
use Rattle.fuse_sessions.specs.declared.act.Act.{Act}
use Rattle.fuse_sessions.specs.declared.act.Act.TheVariants as act
use Rattle.fuse_sessions.specs.declared.act.Asked.{Asked}
use Rattle.fuse_sessions.specs.declared.act.OpenFile.{OpenFile}
use Rattle.fuse_sessions.specs.declared.fault.Fault.{Fault}
use Rattle.fuse_sessions.specs.declared.fault.Fault.TheVariants as fault
use Rattle.fuse_sessions.specs.declared.known.Known.{Known}
use Rattle.fuse_sessions.specs.Counts.{most_count}
use Rattle.fuse_sessions.specs.Faults.{Breaks}
use Rattle.fuse_sessions.specs.Frames.{AreRequestActs, IsRequestOf}
use Rattle.fuse_sessions.specs.RequestActs.{asked_of, asking, forgets_in, looks_up, naming, node_asked, node_named, or_none, releasing, request_acts, resent, using, writing}
use Rattle.fuse_sessions.specs.Sessions.{Session}
use Rattle.fuse_sessions.specs.Waiting.{names_node}
use Rattle.fuse_sessions.specs.UnreadRequests.{asking_unread, has_header, malformed, may_be_known, opcode_in, takes_no_reply, unique_in, unjudged}
use Rattle.driven_sessions.specs.Groups.{is_of_uncounted_nodes}
use Rattle.driven_sessions.proofs.Calm.{each_of, either, is_written, pass_on, takes_none}
use Rattle.driven_sessions.proofs.Doing.{behind}
use Rattle.driven_sessions.proofs.Frames.{opendir_node, opendir_starts, past_node, releasedir_node, releasedir_starts}
use Rattle.driven_sessions.proofs.Leading.{AreFree, free_append}
use Rattle.driven_sessions.proofs.Takes.{count_on, takes}

-- The node is the root, or counted in the session.
abbrev pub IsThere : Session → ℕ → Type 0
IsThere s node = (node ≡ 1) ⊎ (1 ≤ most_count s node)

-- It stays so where nothing of it is forgotten.
pub there_on : (s acts : Session) (node : ℕ) → takes node acts ≡ 0 → IsThere s node → IsThere (s ++ acts) node
there_on s acts node none (inl root) = inl root
there_on s acts node none (inr counted) = let on = count_on node s acts in inr (omega (arith, on, none, counted))

-- ---- acts that name nothing

abbrev pub is_unnamed : Act → Bool
is_unnamed (act.Faulty fault.NodeNotCounted) = false
is_unnamed (act.Names node) = false
is_unnamed a = true

abbrev pub AreUnnamed : List Act → Type 0
AreUnnamed acts = list_all is_unnamed acts ≡ true

unnamed_law : (s : Session) (a : Act) → is_unnamed a ≡ true → Breaks s a fault.NodeNotCounted → ⊥
unnamed_law s (act.Faulty fault.NodeNotCounted) un b = false≢true un
unnamed_law s (act.Faulty that) un b = false≢true (sym (ap is_of_uncounted_nodes b))
unnamed_law s (act.Begins op.Init) un b = b
unnamed_law s (act.Begins o) un b = b
unnamed_law s (act.Names node) un b = false≢true un
unnamed_law s (act.Takes u t body) un b = takes_none s u t body fault.NodeNotCounted refl b
unnamed_law s a un b = b

group_law : (s : Session) (a : Act) → (Breaks s a fault.NodeNotCounted → ⊥) → (f : Fault) → Breaks s a f
    → is_of_uncounted_nodes f ≡ true → ⊥
group_law s a never fault.NodeNotCounted b of = never b
group_law s a never f b of = false≢true of

pub unnamed_free : (s : Session) (acts : List Act) → AreUnnamed acts → AreFree is_of_uncounted_nodes s acts
unnamed_free s [] are = tt
unnamed_free s (a ∷ acts) are =
    let both = and_parts (is_unnamed a) (list_all is_unnamed acts) are in
    (group_law s a (unnamed_law s a both.0), unnamed_free (s ++ a ∷ []) acts both.1)

-- What a server writes names nothing.
is_unnamed_where_written : (a : Act) → is_written a ≡ true → is_unnamed a ≡ true
is_unnamed_where_written (act.Faulty fault.NodeNotCounted) is = cc
is_unnamed_where_written (act.Names node) is = cc
is_unnamed_where_written a is = refl

pub written_unnamed : (acts : List Act) → list_all is_written acts ≡ true → AreUnnamed acts
written_unnamed = pass_on is_written is_unnamed is_unnamed_where_written

-- ---- a frame that names nodes

-- Whether a request is about a node: all but FORGET, INTERRUPT and BATCH_FORGET.
abbrev pub is_about : ℕ → Bool
is_about code = not (nat_eq code 2 || (nat_eq code 36 || nat_eq code 42))

-- What a frame says of nodes: the one of its header, but of INIT, and that of RENAME's and LINK's struct. It is none of the
-- other requests with a further node.
pub record SaysNodes (IsSuch : ℕ → Type 0) (frame : List ℕ) : Type 0 where
  pub own : is_about (opcode_in frame) ≡ true → nat_eq (opcode_in frame) 26 ≡ false → IsSuch (number_at 16 8 frame)
  pub renamed : nat_eq (opcode_in frame) 12 ≡ true → IsSuch (number_at 40 8 frame)
  pub linked : nat_eq (opcode_in frame) 13 ≡ true → IsSuch (number_at 40 8 frame)
  pub no_rename2 : nat_eq (opcode_in frame) 45 ≡ false
  pub no_copy : nat_eq (opcode_in frame) 47 ≡ false
  pub no_long_copy : nat_eq (opcode_in frame) 53 ≡ false

module _ (IsSuch : ℕ → Type 0) (k : Known) (frame : List ℕ) (says : SaysNodes IsSuch frame) where
  -- The node of the header, where it counts as named.
  header_such : (o : Opcode) (m : RequestMessage) → IsRequestOf k.agreed frame (o, m) → is_about (code_of o) ≡ true
      → nat_eq (node_named o m.nodeid) 0 ≡ false → IsSuch (node_named o m.nodeid)
  header_such op.Init m is about some = absurd (false≢true (sym some))
  header_such op.Destroy m is about some = absurd (false≢true (sym some))
  header_such o m is about some = subst IsSuch is.nodeid
      (says.own (ap is_about is.opcode ∙ about) (ap (λ (n : ℕ). nat_eq n 26) is.opcode))

  pub asked_such : (o : Opcode) (m : RequestMessage) → IsRequestOf k.agreed frame (o, m) → is_about (code_of o) ≡ true
      → nat_eq (node_asked o m) 0 ≡ false → IsSuch (node_asked o m)
  asked_such o m is about some = by (looks_up (codes ".") o m) some
    where
      by : (b : Bool) → nat_eq (if b then 0 else node_named o m.nodeid) 0 ≡ false → IsSuch (if b then 0 else node_named o m.nodeid)
      by true none = absurd (false≢true (sym none))
      by false some = header_such o m is about some

  -- The further node.
  pub other_such : (o : Opcode) (m : RequestMessage) → IsRequestOf k.agreed frame (o, m) → nat_eq (or_none m.node) 0 ≡ false
      → IsSuch (or_none m.node)
  other_such op.Rename m is some =
      subst IsSuch (ap or_none is.node) (says.renamed (ap (λ (n : ℕ). nat_eq n 12) is.opcode))
  other_such op.Link m is some =
      subst IsSuch (ap or_none is.node) (says.linked (ap (λ (n : ℕ). nat_eq n 13) is.opcode))
  other_such op.Rename2 m is some =
      absurd (false≢true (sym says.no_rename2 ∙ ap (λ (n : ℕ). nat_eq n 45) is.opcode))
  other_such op.CopyFileRange m is some =
      absurd (false≢true (sym says.no_copy ∙ ap (λ (n : ℕ). nat_eq n 47) is.opcode))
  other_such op.CopyFileRange64 m is some =
      absurd (false≢true (sym says.no_long_copy ∙ ap (λ (n : ℕ). nat_eq n 53) is.opcode))
  other_such o m is some = absurd (false≢true (sym some ∙ ap (λ (x : Option ℕ). nat_eq (or_none x) 0) (sym is.node)))

  -- What waits for it names such nodes.
  pub names_such : (o : Opcode) (m : RequestMessage) → IsRequestOf k.agreed frame (o, m) → is_about (code_of o) ≡ true
      → (node : ℕ) → 1 ≤ node → names_node node (asked_of o m) ≡ true → IsSuch node
  names_such o m is about node some names = by (nat_eq (node_asked o m) node) refl names
    where
      equal : (n : ℕ) → nat_eq n node ≡ true → n ≡ node
      equal n e = grind (arith, nat_tests, e)

      some_node : (n : ℕ) → n ≡ node → nat_eq n 0 ≡ false
      some_node n same = grind (arith, nat_tests, same, some)

      by : (b : Bool) → nat_eq (node_asked o m) node ≡ b → (b || nat_eq (or_none m.node) node) ≡ true → IsSuch node
      by true e names =
          let same = equal (node_asked o m) e in
          subst IsSuch same (asked_such o m is about (some_node (node_asked o m) same))
      by false e names =
          let same = equal (or_none m.node) names in
          subst IsSuch same (other_such o m is (some_node (or_none m.node) same))

module _ (k : Known) (frame : List ℕ) (s : Session) (says : SaysNodes (IsThere s) frame) where
  -- ---- the acts

  naming_free : (t : Session) (node : ℕ) → (nat_eq node 0 ≡ false → IsThere t node) → AreFree is_of_uncounted_nodes t (naming node)
  naming_free t node there = by (nat_eq node 0) refl
    where
      counted : IsThere t node → Breaks t (act.Names node) fault.NodeNotCounted → ⊥
      counted (inl root) b = b.0 root
      counted (inr some) b = let zero = b.1 in omega (arith, some, zero)

      by : (b : Bool) → nat_eq node 0 ≡ b → AreFree is_of_uncounted_nodes t (if b then [] else act.Names node ∷ [])
      by true zero = tt
      by false some = (group_law t (act.Names node) (counted (there some)), tt)

  using_unnamed : (file : Option OpenFile) → AreUnnamed (using file)
  using_unnamed None = refl
  using_unnamed (Some file) = refl

  releasing_unnamed : (o : Opcode) (node : ℕ) (h : OpenHandle) → AreUnnamed (releasing o node h)
  releasing_unnamed op.Release node (handle.File fh) = refl
  releasing_unnamed op.Releasedir node (handle.Directory fh) = refl
  releasing_unnamed op.Release node h = refl
  releasing_unnamed op.Releasedir node h = refl
  releasing_unnamed o node h = refl

  writing_unnamed : (o : Opcode) (m : RequestMessage) → AreUnnamed (writing o m)
  writing_unnamed op.Write m = refl
  writing_unnamed o m = refl

  names_nothing : (node n : ℕ) → takes node (naming n) ≡ 0
  names_nothing node n = by (nat_eq n 0)
    where
      by : (b : Bool) → takes node (if b then [] else act.Names n ∷ []) ≡ 0
      by true = refl
      by false = refl

  abbrev front : Opcode → ℕ → List Act
  front o unique = act.Arrives ∷ act.Begins o ∷ act.Read (Some o) unique ∷ []

  asking_free : (o : Opcode) (m : RequestMessage) → IsRequestOf k.agreed frame (o, m) → is_about (code_of o) ≡ true
      → AreFree is_of_uncounted_nodes s (act.Arrives ∷ act.Begins o ∷ asking o m (asked_of o m))
  asking_free o m is about =
      let asked : Asked = asked_of o m in
      let t : Session = s ++ front o m.unique in
      let one : List Act = naming asked.nodeid in
      let two : List Act = one ++ naming asked.other in
      let three : List Act = two ++ using asked.uses in
      let four : List Act = three ++ using asked.copies_to in
      let five : List Act = four ++ releasing o m.nodeid m.handle in
      let six : List Act = five ++ writing o m in
      let first = naming_free t asked.nodeid (λ some. there_on s (front o m.unique) asked.nodeid refl (asked_such (IsThere s) k frame says o m is about some)) in
      let second = free_append is_of_uncounted_nodes t one (naming asked.other) first (naming_free (t ++ one) asked.other
      (λ some. there_on t one asked.other (names_nothing asked.other asked.nodeid)
      (there_on s (front o m.unique) asked.other refl (other_such (IsThere s) k frame says o m is some)))) in
      let third = free_append is_of_uncounted_nodes t two (using asked.uses) second
      (unnamed_free (t ++ two) (using asked.uses) (using_unnamed asked.uses)) in
      let fourth = free_append is_of_uncounted_nodes t three (using asked.copies_to) third
      (unnamed_free (t ++ three) (using asked.copies_to) (using_unnamed asked.copies_to)) in
      let fifth = free_append is_of_uncounted_nodes t four (releasing o m.nodeid m.handle) fourth
      (unnamed_free (t ++ four) (releasing o m.nodeid m.handle) (releasing_unnamed o m.nodeid m.handle)) in
      let sixth = free_append is_of_uncounted_nodes t five (writing o m) fifth
      (unnamed_free (t ++ five) (writing o m) (writing_unnamed o m)) in
      let last = free_append is_of_uncounted_nodes t six (act.Asks m.unique asked ∷ []) sixth
      (unnamed_free (t ++ six) (act.Asks m.unique asked ∷ []) refl) in
      free_append is_of_uncounted_nodes s (front o m.unique) (behind o m asked) (unnamed_free s (front o m.unique) refl) last

  forgets_unnamed : (pairs : List (ℕ × ℕ)) → AreUnnamed (forgets_in pairs)
  forgets_unnamed [] = refl
  forgets_unnamed (p ∷ pairs) = forgets_unnamed pairs

  doing_free : (o : Opcode) (m : RequestMessage) → IsRequestOf k.agreed frame (o, m) → is_about (code_of o) ≡ true → (again : Bool)
      → AreFree is_of_uncounted_nodes s (act.Arrives ∷ act.Begins o ∷ (if again then resent o m else asking o m (asked_of o m)))
  doing_free o m is about true = unnamed_free s (act.Arrives ∷ act.Begins o ∷ resent o m) refl
  doing_free o m is about false = asking_free o m is about

  row_free : (o : Opcode) (m : RequestMessage) → IsRequestOf k.agreed frame (o, m)
      → AreFree is_of_uncounted_nodes s (request_acts k.has_resent o m)
  row_free op.Interrupt m is = unnamed_free s (request_acts k.has_resent op.Interrupt m) refl
  row_free op.NotifyReply m is = unnamed_free s (request_acts k.has_resent op.NotifyReply m) refl
  row_free op.Forget m is = unnamed_free s (request_acts k.has_resent op.Forget m) refl
  row_free op.BatchForget m is = unnamed_free s (request_acts k.has_resent op.BatchForget m)
      (forgets_unnamed (pairs_of_row (row_at op.BatchForget).tail m.tail))
  row_free o m is = doing_free o m is refl (k.has_resent && nat_le (2 ^ 63) m.unique)

  unread_unnamed : AreUnnamed (malformed k.offered frame ++ asking_unread frame)
  unread_unnamed = each_of is_unnamed (malformed k.offered frame) (asking_unread frame)
      (either is_unnamed (may_be_known k.offered frame) [] (act.Faulty fault.MalformedRequest ∷ []) refl refl)
      (either is_unnamed (has_header frame && not (takes_no_reply (opcode_in frame)))
      (act.Read None (unique_in frame) ∷ act.Asks (unique_in frame) unjudged ∷ []) [] refl refl)

  -- The acts of the frame name no node that is not counted.
  pub request_named : (acts : List Act) → AreRequestActs k frame acts → AreFree is_of_uncounted_nodes s acts
  request_named acts (inl ((o, m), is, does)) = subst (AreFree is_of_uncounted_nodes s) (sym does) (row_free o m is)
  request_named acts (inr (none, does)) = subst (AreFree is_of_uncounted_nodes s) (sym does)
      (unnamed_free s (act.Arrives ∷ (malformed k.offered frame ++ asking_unread frame)) unread_unnamed)

-- ---- the frame of a request

abbrev nodes_in : Option RequestBody → List ℕ
nodes_in None = []
nodes_in (Some body) = nodes_of_body body

-- What a content that is about a node names: that node, and others.
pub record NamesFirst (nodeid : ℕ) (c : RequestContent) : Type 0 where
  pub others : List ℕ
  pub named : nodes_in (body_in nodeid c) ≡ nodeid ∷ others
  pub header : has_node (opcode_of c) ≡ true

names_first : (nodeid : ℕ) (c : RequestContent) → is_about (codec_code (opcode_of c)) ≡ true
    → nat_eq (codec_code (opcode_of c)) 26 ≡ false → NamesFirst nodeid c
names_first nodeid (wire.lookup name) about other = record { others = []; named = refl; header = refl }
names_first nodeid (wire.forget n) about other = absurd (false≢true about)
names_first nodeid wire.getattr about other = record { others = []; named = refl; header = refl }
names_first nodeid (wire.mkdir name) about other = record { others = []; named = refl; header = refl }
names_first nodeid (wire.unlink name) about other = record { others = []; named = refl; header = refl }
names_first nodeid (wire.rmdir name) about other = record { others = []; named = refl; header = refl }
names_first nodeid (wire.rename newdir old new) about other = record { others = newdir ∷ []; named = refl; header = refl }
names_first nodeid (wire.link oldnodeid name) about other = record { others = oldnodeid ∷ []; named = refl; header = refl }
names_first nodeid wire.opening about other = record { others = []; named = refl; header = refl }
names_first nodeid (wire.read fh offset size) about other = record { others = []; named = refl; header = refl }
names_first nodeid (wire.write fh offset bytes) about other = record { others = []; named = refl; header = refl }
names_first nodeid (wire.release fh) about other = record { others = []; named = refl; header = refl }
names_first nodeid (wire.init major minor flags) about other = absurd (false≢true (sym other))
names_first nodeid (wire.readdir offset size) about other = record { others = []; named = refl; header = refl }
names_first nodeid (wire.readdirplus offset size) about other = record { others = []; named = refl; header = refl }
names_first nodeid (wire.create name) about other = record { others = []; named = refl; header = refl }
names_first nodeid (wire.interrupt unique) about other = absurd (false≢true about)
names_first nodeid (wire.batch_forget forgets) about other = absurd (false≢true about)

module _ (IsSuch : ℕ → Type 0) (frame : List ℕ) (r : Request) (says : SaysRequest frame r)
    (such : All IsSuch (nodes_of_body r.body)) where
  abbrev content : RequestContent
  content = says.message.content

  code : opcode_in frame ≡ codec_code (opcode_of content)
  code = says.spells.3.1.0

  named : All IsSuch (nodes_in (body_in says.message.nodeid content))
  named = subst (All IsSuch) (sym (ap nodes_in says.says)) such

  own_node : is_about (opcode_in frame) ≡ true → nat_eq (opcode_in frame) 26 ≡ false → IsSuch (number_at 16 8 frame)
  own_node about other =
      let names = names_first says.message.nodeid content (ap is_about (sym code) ∙ about)
      (ap (λ (n : ℕ). nat_eq n 26) (sym code) ∙ other) in
      subst IsSuch (sym (read (has_node (opcode_of content)) names.header says.spells.3.1.1.1))
      (All-head IsSuch says.message.nodeid names.others (subst (All IsSuch) names.named named))
    where
      read : (b : Bool) → b ≡ true → ReadsAs 16 (nodeid_field b says.message.nodeid ∷ free32 0 ∷ free32 0 ∷ free32 0 ∷ free32 0
          ∷ request_body content) frame → number_at 16 8 frame ≡ says.message.nodeid
      read true is reads = reads.0
      read false is reads = absurd (false≢true is)

  behind_header : ReadsAs 40 (request_body content) frame
  behind_header = past_node (has_node (opcode_of content)) says.message.nodeid (request_body content) frame says.spells.3.1.1.1

  renamed_node : (c : RequestContent) → All IsSuch (nodes_in (body_in says.message.nodeid c)) → ReadsAs 40 (request_body c) frame
      → nat_eq (codec_code (opcode_of c)) 12 ≡ true → IsSuch (number_at 40 8 frame)
  renamed_node (wire.rename newdir old new) all reads is = subst IsSuch (sym reads.0)
      (All-head IsSuch newdir [] (All-tail IsSuch says.message.nodeid (newdir ∷ []) all))
  renamed_node c all reads is = absurd (false≢true is)

  linked_node : (c : RequestContent) → All IsSuch (nodes_in (body_in says.message.nodeid c)) → ReadsAs 40 (request_body c) frame
      → nat_eq (codec_code (opcode_of c)) 13 ≡ true → IsSuch (number_at 40 8 frame)
  linked_node (wire.link oldnodeid name) all reads is = subst IsSuch (sym reads.0)
      (All-head IsSuch oldnodeid [] (All-tail IsSuch says.message.nodeid (oldnodeid ∷ []) all))
  linked_node c all reads is = absurd (false≢true is)

  none_of : (c : RequestContent) → (nat_eq (codec_code (opcode_of c)) 45 ≡ false) × (nat_eq (codec_code (opcode_of c)) 47 ≡ false)
      × (nat_eq (codec_code (opcode_of c)) 53 ≡ false)
  none_of (wire.lookup name) = (refl, refl, refl)
  none_of c = (refl, refl, refl)

  -- The frame of a request whose nodes are such says such nodes.
  pub request_nodes : SaysNodes IsSuch frame
  request_nodes = record {
    own = own_node;
    renamed = λ e. renamed_node content named behind_header (ap (λ (n : ℕ). nat_eq n 12) (sym code) ∙ e);
    linked = λ e. linked_node content named behind_header (ap (λ (n : ℕ). nat_eq n 13) (sym code) ∙ e);
    no_rename2 = ap (λ (n : ℕ). nat_eq n 45) code ∙ (none_of content).0;
    no_copy = ap (λ (n : ℕ). nat_eq n 47) code ∙ (none_of content).1;
    no_long_copy = ap (λ (n : ℕ). nat_eq n 53) code ∙ (none_of content).2;
  }

-- ---- the frames of OPENDIR and RELEASEDIR

coded_nodes : (IsSuch : ℕ → Type 0) (frame : List ℕ) (code node : ℕ) → opcode_in frame ≡ code → nat_eq code 12 ≡ false
    → nat_eq code 13 ≡ false → nat_eq code 45 ≡ false → nat_eq code 47 ≡ false → nat_eq code 53 ≡ false
    → number_at 16 8 frame ≡ node → IsSuch node → SaysNodes IsSuch frame
coded_nodes IsSuch frame _ node is renames links rename2 copy long_copy at such = record {
  own = λ about other. subst IsSuch (sym at) such;
  renamed = λ e. absurd (false≢true (sym (ap (λ (n : ℕ). nat_eq n 12) is ∙ renames) ∙ e));
  linked = λ e. absurd (false≢true (sym (ap (λ (n : ℕ). nat_eq n 13) is ∙ links) ∙ e));
  no_rename2 = ap (λ (n : ℕ). nat_eq n 45) is ∙ rename2;
  no_copy = ap (λ (n : ℕ). nat_eq n 47) is ∙ copy;
  no_long_copy = ap (λ (n : ℕ). nat_eq n 53) is ∙ long_copy;
}

pub opendir_nodes : (IsSuch : ℕ → Type 0) (frame : List ℕ) (unique node : ℕ) → IsOpendir frame unique node → unique < 2 ^ 63
    → IsSuch node → SaysNodes IsSuch frame
opendir_nodes IsSuch frame unique node is low such = coded_nodes IsSuch frame 27 node (opendir_starts frame unique node is low).1
    refl refl refl refl refl (opendir_node frame unique node is low) such

pub releasedir_nodes : (IsSuch : ℕ → Type 0) (frame : List ℕ) (unique : ℕ) (opened : Opened) → IsReleasedir frame unique opened
    → unique < 2 ^ 63 → IsSuch opened.nodeid → SaysNodes IsSuch frame
releasedir_nodes IsSuch frame unique opened is low such = coded_nodes IsSuch frame 29 opened.nodeid
    (releasedir_starts frame unique opened is low).1 refl refl refl refl refl (releasedir_node frame unique opened is low) such
