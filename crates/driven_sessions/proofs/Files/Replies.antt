-- What a reply that is accepted opens, its session says that it opens.
use Rattle.std.proofs.Common.{◌≡◌, inl, inr, ℕ, ℤ, ◌≤◌, ◌==◌, ◌&&◌, ◌||◌, Bool, true, false, not, cond, List, [], ◌∷◌, ◌++◌, Some, length, nat_eq, nat_lt, if◌then◌else◌, append_assoc, refl, ap, sym, subst, ◌∙◌, arith}
use Rattle.std.specs.List.{list_all}
use Rattle.std.specs.Prelude.{negsuc, pos}
use Rattle.std.proofs.lemmas.Bool.{and_parts}
use Rattle.std.proofs.lemmas.Bool.Decides.{nat_tests}
use Rattle.std.proofs.lemmas.List.Sums.{sum_by-append, sum_by-cons}
use Rattle.fk_wire.specs.declared.opcode.Opcode.{Opcode as CodecOpcode}
use Rattle.fk_wire.specs.declared.opcode.Opcode.TheVariants as codec_op
use Rattle.fk_wire.specs.Entries.{EntryContent, found, missing}
use Rattle.fk_wire.specs.Opcodes.{latest_minor}
use Rattle.fk_wire.specs.Replies.{ReplyContent, create_reply, entry_reply, open_reply}
use Rattle.fuse_spec.specs.declared.Counted.{Counted}
use Rattle.fuse_spec.specs.declared.Entry.{Entry as KernelEntry}
use Rattle.fuse_spec.specs.declared.Opened.{Opened}
use Rattle.fuse_spec.specs.Files.Operations.{Operation, create, created, failed, opened, opening as opens}
use Rattle.fuse_spec.specs.Kernel.Messages.{WireReply, asks}
use Rattle.fuse_spec.specs.Kernel.Replies.{first_use, kernel_reply, unusable, usable, use_counted, use_of_reply}
use Rattle.fuse_spec.specs.Values.Maps.{Map, get}
use Rattle.fuse_theorem.proofs.Calls.Finding.{same_is}
use Rattle.fuse_theorem.proofs.Calls.OpenSteps.{gained_by}
use Rattle.fuse_frames.specs.ReplyTies.{wire_body, wire_said}
use Rattle.fuse_frames.specs.RequestTies.{asked_opcode}
use Rattle.fk_kernel.specs.AwaitedReplies.{Says}
use Rattle.fuse_protocol.specs.declared.opcode.Opcode.{Opcode}
use Rattle.fuse_protocol.specs.declared.opcode.Opcode.TheVariants as op
use Rattle.fuse_protocol.specs.Table.{row_at}
use Rattle.fuse_replies.specs.declared.entry.Entry.{Entry}
use Rattle.fuse_replies.specs.Replies.{AnswerContent, IsReply, ReplyMessage, answer_at}
use Rattle.fuse_replies.specs.Replies as answer
use Rattle.protocol_law.specs.Law.{Carries}
use Rattle.protocol_law.specs.ReplyLaw.{SayTheSame, attr_said, entry_said, table_opcode}
use Rattle.protocol_law.proofs.RepliedAlike.{replied_alike}
use Rattle.fuse_sessions.specs.declared.act.Act.{Act}
use Rattle.fuse_sessions.specs.declared.act.Act.TheVariants as act
use Rattle.fuse_sessions.specs.declared.act.Asked.{Asked}
use Rattle.fuse_sessions.specs.declared.act.OpenFile.{OpenFile}
use Rattle.fuse_sessions.specs.declared.act.OpenKind.{OpenKind}
use Rattle.fuse_sessions.specs.declared.act.OpenKind.TheVariants as kind
use Rattle.fuse_sessions.specs.declared.act.Taken.TheVariants as taken
use Rattle.fuse_sessions.specs.declared.fault.Fault.TheVariants as fault
use Rattle.fuse_sessions.specs.declared.known.Known.{Known}
use Rattle.fuse_sessions.specs.Fits.{fit_in}
use Rattle.fuse_sessions.specs.Frames.{IsReplyOf, init_acts, replied, said_acts}
use Rattle.fuse_sessions.specs.OpenFiles.{opens_this}
use Rattle.fuse_sessions.specs.Waiting.{same_kind}
use Rattle.fuse_sessions.specs.ReplyActs.{answer_acts, entry_acts, file_of, gift_acts, is_counted, is_opened, kind_acts, may_be_missing, opening, root_acts}
use Rattle.driven_sessions.proofs.Gives.{IsEntered, IsNaming, entered_names, same_answer, same_reply}
use Rattle.driven_sessions.specs.Files.{AreCertain, is_certain}
use Rattle.driven_sessions.proofs.Files.Opened.{as_file, kind_self, open_file, opens_in}

-- ---- what a reply opens

abbrev opened_fh : WireReply → ℕ
opened_fh (opened fh) = fh
opened_fh other = 0

abbrev created_fh : WireReply → ℕ
created_fh (created e valid fh) = fh
created_fh other = 0

abbrev created_node : WireReply → ℕ
created_node (created e valid fh) = e.nodeid
created_node other = 0

-- ---- the last acts

pub all_last : (test : Act → Bool) (xs ys : List Act) → list_all test (xs ++ ys) ≡ true → list_all test ys ≡ true
all_last test [] ys are = are
all_last test (a ∷ xs) ys are = all_last test xs ys (and_parts (test a) (list_all test (xs ++ ys)) are).1

pub all_first : (test : Act → Bool) (xs ys : List Act) → list_all test (xs ++ ys) ≡ true → list_all test xs ≡ true
all_first test [] ys are = refl
all_first test (a ∷ xs) ys are =
    let both = and_parts (test a) (list_all test (xs ++ ys)) are in
    ap (λ (b : Bool). b && list_all test xs) both.0 ∙ all_first test xs ys both.1

pub opens_last : (file : OpenFile) (xs ys : List Act) → opens_in file ys ≤ opens_in file (xs ++ ys)
opens_last file xs ys = let sum = sum_by-append (opens_this file) xs ys in omega (arith, sum)

-- An open file of these numbers is opened once.
pub one_opened : (which : OpenKind) (p : Opened) (node fh : ℕ) → node ≡ p.nodeid → fh ≡ p.fh
    → opens_in (as_file which p) (act.Opens (record { kind = which; nodeid = node; fh = fh }) ∷ []) ≡ 1
one_opened which p node fh same handle =
    let sum = sum_by-cons (opens_this (as_file which p)) (act.Opens (record { kind = which; nodeid = node; fh = fh })) [] in
    let one : cond {A = ℕ} (same_kind which which && (nat_eq node p.nodeid && nat_eq fh p.fh)) 1 0 ≡ 1 =
    ap (λ (b : Bool). cond {A = ℕ} (b && (nat_eq node p.nodeid && nat_eq fh p.fh)) 1 0) (kind_self which)
    ∙ ap (λ (n : ℕ). cond {A = ℕ} (nat_eq n p.nodeid && nat_eq fh p.fh) 1 0) same
    ∙ ap (λ (n : ℕ). cond {A = ℕ} (nat_eq p.nodeid p.nodeid && nat_eq n p.fh) 1 0) handle
    ∙ ap (λ (b : Bool). cond {A = ℕ} (b && nat_eq p.fh p.fh) 1 0) (same_is p.nodeid)
    ∙ ap (λ (b : Bool). cond {A = ℕ} b 1 0) (same_is p.fh) in
    omega (arith, sum, one)

-- What the reply says, the last acts are.
pub answer_last : (k : Known) (bytes : List ℕ) (a : Asked) (acts : List Act) (later : Known) (o : Opcode)
    → IsReplyOf k bytes taken.Accepted o a acts later → (r : ReplyMessage) (asked : ℕ) → IsReply k.agreed (row_at o).reply asked bytes r
    → IsEntered r.answer → (front : List Act) × (acts ≡ front ++ answer_acts o a r.answer)
answer_last k bytes a acts later o does r asked reads enters = by does
  where
    here : IsNaming (answer_at (row_at o).reply asked bytes)
    here = subst IsNaming (sym reads.answer) (entered_names r.answer enters)

    by : IsReplyOf k bytes taken.Accepted o a acts later → (front : List Act) × (acts ≡ front ++ answer_acts o a r.answer)
    by (inl (m, is, (same, told))) =
        let content : m.answer ≡ r.answer =
        sym is.answer ∙ same_answer (row_at o).reply asked a.asked bytes here ∙ reads.answer in
        let first : List Act = replied bytes taken.Accepted (fit_in (row_at o).reply a.asked bytes) in (
          first ++ init_acts k.offered r.answer,
          same ∙ ap (λ (c : AnswerContent). first ++ said_acts k o a taken.Accepted c) content
              ∙ sym (append_assoc first (init_acts k.offered r.answer) (answer_acts o a r.answer)),
        )
    by (inr (none, same)) = absurd (none r (same_reply k.agreed (row_at o).reply asked a.asked bytes r reads enters))

module _ (k : Known) (carries : Carries k.agreed) (bytes : List ℕ) (a : Asked) (acts : List Act) (later : Known)
    (certain : AreCertain acts) where
  module _ (o : Opcode) (does : IsReplyOf k bytes taken.Accepted o a acts later) where
    -- So it opens what they open.
    last_opens : (file : OpenFile) (r : ReplyMessage) (content : AnswerContent) → r.answer ≡ content → IsEntered content
        → IsReply k.agreed (row_at o).reply (length bytes) bytes r
        → (AreCertain (answer_acts o a content) → 1 ≤ opens_in file (answer_acts o a content)) → 1 ≤ opens_in file acts
    last_opens file r content is enters reads some =
        let last = answer_last k bytes a acts later o does r (length bytes) reads (subst IsEntered (sym is) enters) in
        let all : acts ≡ last.0 ++ answer_acts o a content =
        last.1 ∙ ap (λ (c : AnswerContent). last.0 ++ answer_acts o a c) is in
        let one = some (all_last is_certain last.0 (answer_acts o a content) (sym (ap (list_all is_certain) all) ∙ certain)) in
        let more = opens_last file last.0 (answer_acts o a content) in
        let same = ap (opens_in file) all in
        omega (arith, one, more, same)

  -- ---- OPEN

  opened_opens : IsReplyOf k bytes taken.Accepted op.Open a acts later → (p : Opened) → a.nodeid ≡ p.nodeid
      → Says codec_op.Open bytes (opened p.fh) → 1 ≤ opens_in (open_file p) acts
  opened_opens does p node says =
      let t = says.says.message in
      let read = replied_alike latest_minor k.agreed codec_op.Open (length bytes) bytes t carries (omega arith) says.says.spells in
      by t.error t.content read.0.answer says.says.says read.2.1 read.0 read.1 refl
    where
      by : (error : ℤ) (content : ReplyContent) (said : AnswerContent) → wire_said error content ≡ opened p.fh
          → SayTheSame error content said → (r : ReplyMessage) → IsReply k.agreed (row_at op.Open).reply (length bytes) bytes r
          → r.answer ≡ said → 1 ≤ opens_in (open_file p) acts
      by (pos n) (open_reply fh) (answer.opened file) wire same r reads is =
          last_opens op.Open does (open_file p) r (answer.opened file) is tt reads (λ sure.
          let one = one_opened kind.File p a.nodeid file.handle node (same ∙ ap opened_fh wire) in omega (arith, one))
      by (pos n) (open_reply fh) said wire same r reads is = absurd same
      by (pos n) (entry_reply (missing s ns)) said wire same r reads is = absurd (cc wire)
      by (pos n) (entry_reply (found id generation s ns at)) said wire same r reads is = absurd (cc wire)
      by (pos n) (create_reply (missing s ns) fh) said wire same r reads is = absurd (cc wire)
      by (pos n) (create_reply (found id generation s ns at) fh) said wire same r reads is = absurd (cc wire)
      by (pos n) content said wire same r reads is = absurd (cc wire)
      by (negsuc n) content said wire same r reads is = absurd (cc wire)

  -- ---- CREATE

  -- An entry that counts for certain is of a file that is opened.
  surely_opened : (e : Entry) → nat_eq e.nodeid 1 ≡ false → nat_eq e.nodeid 0 ≡ false
      → AreCertain (entry_acts true op.Create a e) → is_opened a e ≡ true
  surely_opened e root none sure =
      let same : entry_acts true op.Create a e ≡ gift_acts true a e =
      ap (λ (b : Bool). if b then root_acts a else (if nat_eq e.nodeid 0 then (if may_be_missing op.Create then [] else act.Faulty fault.EntryOfNoNode ∷ [])
      else gift_acts true a e)) root
      ∙ ap (λ (b : Bool). if b then (if may_be_missing op.Create then [] else act.Faulty fault.EntryOfNoNode ∷ []) else gift_acts true a e) none in
      let gift : list_all is_certain (gift_acts true a e) ≡ true = sym (ap (list_all is_certain) same) ∙ sure in
      let last = all_last is_certain (kind_acts a e) (act.Gives e.nodeid (file_of e) (true && is_counted a e) ∷ []) gift in
      let counts : is_counted a e ≡ true = (and_parts (is_counted a e) true last).0 in
      ap (λ (b : Bool). b && not (nat_eq e.nodeid 0 || nat_eq e.nodeid 1)) counts
      ∙ ap (λ (b : Bool). not (b || nat_eq e.nodeid 1)) none ∙ ap not root

  created_opens : IsReplyOf k bytes taken.Accepted op.Create a acts later → (g : KernelEntry) (valid fh : ℕ) → 2 ≤ g.nodeid
      → Says codec_op.Create bytes (created g valid fh)
      → 1 ≤ opens_in (open_file (record { nodeid = g.nodeid; fh = fh })) acts
  created_opens does g valid fh low says =
      let t = says.says.message in
      let read = replied_alike latest_minor k.agreed codec_op.Create (length bytes) bytes t carries (omega arith) says.says.spells in
      by t.error t.content read.0.answer says.says.says read.2.1 read.0 read.1 refl
    where
      -- the entry, by whether it names a node
      handle_same : (given : Entry) (n : ℕ) → created_fh (wire_body (create_reply (entry_said given) n)) ≡ n
      handle_same given n = named (given.nodeid == 0)
        where
          named : (b : Bool) → created_fh (wire_body (create_reply (if b then missing given.name_validity.seconds
              given.name_validity.nanoseconds else found given.nodeid given.generation given.name_validity.seconds
              given.name_validity.nanoseconds (attr_said given.attributes)) n)) ≡ n
          named true = refl
          named false = refl

      node_same : (given : Entry) (n : ℕ) → created_node (wire_body (create_reply (entry_said given) n)) ≡ g.nodeid
          → given.nodeid ≡ g.nodeid
      node_same given n is = named (given.nodeid == 0) is
        where
          named : (b : Bool) → created_node (wire_body (create_reply (if b then missing given.name_validity.seconds
              given.name_validity.nanoseconds else found given.nodeid given.generation given.name_validity.seconds
              given.name_validity.nanoseconds (attr_said given.attributes)) n)) ≡ g.nodeid → given.nodeid ≡ g.nodeid
          named true zero = absurd (omega (arith, zero, low))
          named false same = same

      by : (error : ℤ) (content : ReplyContent) (said : AnswerContent) → wire_said error content ≡ created g valid fh
          → SayTheSame error content said → (r : ReplyMessage) → IsReply k.agreed (row_at op.Create).reply (length bytes) bytes r
          → r.answer ≡ said → 1 ≤ opens_in (open_file (record { nodeid = g.nodeid; fh = fh })) acts
      by (pos n) (create_reply e f) (answer.created given file) wire same r reads is =
          let all : wire_body (create_reply (entry_said given) file.handle) ≡ created g valid fh =
          ap (λ (x : EntryContent). wire_body (create_reply x file.handle)) same.0
          ∙ ap (λ (x : ℕ). wire_body (create_reply e x)) same.1 ∙ wire in
          let handle : file.handle ≡ fh = sym (handle_same given file.handle) ∙ ap created_fh all in
          let node : given.nodeid ≡ g.nodeid = node_same given file.handle (ap created_node all) in
          last_opens op.Create does (open_file (record { nodeid = g.nodeid; fh = fh })) r (answer.created given file) is tt reads
          (λ sure. opens_given given file.handle node handle (all_first is_certain (entry_acts true op.Create a given)
          (if is_opened a given then opening op.Create given.nodeid file.handle else []) sure))
        where
          opens_given : (x : Entry) (n : ℕ) → x.nodeid ≡ g.nodeid → n ≡ fh → AreCertain (entry_acts true op.Create a x)
              → 1 ≤ opens_in (open_file (record { nodeid = g.nodeid; fh = fh }))
              (entry_acts true op.Create a x ++ (if is_opened a x then opening op.Create x.nodeid n else []))
          opens_given x n node handle sure =
              let root : nat_eq x.nodeid 1 ≡ false = grind (arith, nat_tests, node, low) in
              let none : nat_eq x.nodeid 0 ≡ false = grind (arith, nat_tests, node, low) in
              let is : (if is_opened a x then opening op.Create x.nodeid n else []) ≡ opening op.Create x.nodeid n =
              ap (λ (b : Bool). if b then opening op.Create x.nodeid n else []) (surely_opened x root none sure) in
              let one = one_opened kind.File (record { nodeid = g.nodeid; fh = fh }) x.nodeid n node handle in
              let more = opens_last (open_file (record { nodeid = g.nodeid; fh = fh })) (entry_acts true op.Create a x)
              (if is_opened a x then opening op.Create x.nodeid n else []) in
              let same = ap (opens_in (open_file (record { nodeid = g.nodeid; fh = fh }))) is in
              omega (arith, one, more, same)
      by (pos n) (create_reply e f) said wire same r reads is = absurd same
      by (pos n) (entry_reply (missing s ns)) said wire same r reads is = absurd (cc wire)
      by (pos n) (entry_reply (found id generation s ns at)) said wire same r reads is = absurd (cc wire)
      by (pos n) content said wire same r reads is = absurd (cc wire)
      by (negsuc n) content said wire same r reads is = absurd (cc wire)

-- ---- a reply by which a call opens a file

pub usable_node : (nodes : Map Counted) (g : KernelEntry) (valid fh : ℕ) → use_of_reply nodes (created g valid fh) ≡ usable → 2 ≤ g.nodeid
usable_node nodes g valid fh is = by (nat_lt g.nodeid 2) refl is
  where
    by : (b : Bool) → nat_lt g.nodeid 2 ≡ b
        → first_use (cond b unusable (use_counted g (get nodes g.nodeid))) usable ≡ usable → 2 ≤ g.nodeid
    by true e is = absurd (cc is)
    by false e is = grind (arith, nat_tests, e)

module _ (k : Known) (carries : Carries k.agreed) (bytes : List ℕ) (a : Asked) (acts : List Act) (later : Known)
    (certain : AreCertain acts) (o : CodecOpcode) (does : IsReplyOf k bytes taken.Accepted (table_opcode o) a acts later)
    (nodes : Map Counted) (p : Opened) where
  pub reply_opens : (operation : Operation ℕ Opened) (wire : WireReply) → asked_opcode (asks operation) ≡ o → Says o bytes wire
      → ((node : ℕ) → operation ≡ opens node → a.nodeid ≡ node) → gained_by operation (kernel_reply operation wire) ≡ Some p
      → use_of_reply nodes wire ≡ usable → 1 ≤ opens_in (open_file p) acts
  reply_opens (create d name) (created g valid fh) is says node gains used =
      let same : ◌≡◌ {A = Opened} (record { nodeid = g.nodeid; fh = fh }) p = cc gains in
      subst (λ (q : Opened). 1 ≤ opens_in (open_file q) acts) same
      (created_opens k carries bytes a acts later certain
      (subst (λ (x : CodecOpcode). IsReplyOf k bytes taken.Accepted (table_opcode x) a acts later) (sym is) does) g valid fh
      (usable_node nodes g valid fh used) (subst (λ (x : CodecOpcode). Says x bytes (created g valid fh)) (sym is) says))
  reply_opens (opens node) (opened fh) is says named gains used =
      let same : ◌≡◌ {A = Opened} (record { nodeid = node; fh = fh }) p = cc gains in
      subst (λ (q : Opened). 1 ≤ opens_in (open_file q) acts) same
      (opened_opens k carries bytes a acts later certain
      (subst (λ (x : CodecOpcode). IsReplyOf k bytes taken.Accepted (table_opcode x) a acts later) (sym is) does)
      (record { nodeid = node; fh = fh }) (named node refl) (subst (λ (x : CodecOpcode). Says x bytes (opened fh)) (sym is) says))
  reply_opens operation (failed errno) is says node gains used = absurd (cc gains)
  reply_opens operation wire is says node gains used = absurd (cc gains)
