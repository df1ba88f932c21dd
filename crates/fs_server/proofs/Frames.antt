-- Request frames as the server takes and refuses them.
use Rattle.std.proofs.Common.{◌≡◌, ℕ, Bool, true, false, true≢false, cond, ◌&&◌, ◌||◌, List, [], ◌∷◌, Option, Some, None, refl, sym, ap, ◌∙◌, arith}
use Rattle.std.specs.Prelude.{is_some, nat_lt}
use Rattle.fuse_spec.specs.Values.Maps.{get}
use Rattle.std.specs.List.{list_all}
use Rattle.fuse_spec.specs.Files.Operations.{files_in}
use Rattle.fuse_spec.specs.Files.Operations.{opened_nodes}
use Rattle.fuse_spec.specs.Kernel.Messages.{RequestBody, Request, init, asks, release, forget, batch_forget, interrupt}
use Rattle.fuse_spec.specs.Server.Server as server
use Rattle.fuse_spec.specs.Server.Server.{RequestFault, Server, unknown_opcode, unknown_node, too_many_forgets, repeated_unique, is_known, is_forgettable, count_in, forgotten, holding, forgetting}
use Rattle.fuse_spec.specs.Server.Taking.{TakeResult, taking}
use Rattle.fuse_spec.specs.declared.Taken.TheVariants.{Held, Forgot}
use Rattle.fk_wire.specs.Requests as wire
use Rattle.fk_wire.specs.Requests.{RequestContent, RequestMessage, Spells}
use Rattle.fuse_frames.specs.RequestTies.{SaysRequest, body_in}
use Rattle.fs_server.specs.declared.server.ServerFault.{ServerFault}
use Rattle.fs_server.specs.declared.server.ServerFault.TheVariants.{Wire, UnknownNode, TooManyForgets, RepeatedUnique}
use Rattle.fs_server.specs.declared.server.Taken.{Taken}
use Rattle.fuse_spec.specs.Server.Refusals.{is_server_past_end}
use Rattle.fs_server.specs.Effects.{TakesFrame, RefusesFrame, request_fault, as_fault, copy_of, fault_or, past_or_memory, refused_for}
use Rattle.fs_server.specs.Interrupts.{Interrupts}
use Rattle.fs_server.specs.Taking.{request_body_of, forgets_in, forgets_too_many, gives_too_many, is_forgetting, holds_request, is_spoken, knows_nodes, are_names_known, waits}
use Rattle.fs_server.proofs.Forgets.{forgotten_here}
use Rattle.std.proofs.lemmas.Option.{same_Some}

-- what the message that a frame spells has wrong
abbrev pub fault_in : Server → RequestMessage → Option ServerFault
fault_in s m = request_fault s m.unique (body_in m.nodeid m.content)

-- the frame spells this message and no other
module _ (s : Server) (bytes : List ℕ) (m : RequestMessage) (spells : Spells bytes m)
    (only : (n : RequestMessage) → Spells bytes n → m ≡ n) where
  -- it is refused for its fault
  pub refuses_as : (fault : ServerFault) → fault_in s m ≡ Some fault → RefusesFrame s bytes fault
  refuses_as fault e = record {
    of_request = λ request says.
        sym (ap (λ (o : Option ServerFault). fault_or o (past_or_memory
        (is_server_past_end (taking s request.unique request.body).server)))
        (sym (λ i. request_fault s (says.unique i) (says.says i)) ∙ sym
        (ap (fault_in s) (only says.message says.spells)) ∙ e));
    of_none = λ none. by none (body_in m.nodeid m.content) refl;
  }
    where
      by : ((request : Request) → SaysRequest bytes request → ⊥) → (o : Option RequestBody)
          → body_in m.nodeid m.content ≡ o → fault ≡ Wire
      by none None is = same_Some fault Wire (sym e ∙ ap (request_fault s m.unique) is)
      by none (Some body) is = absurd (none (record { unique = m.unique; body = body })
          (record { message = m; spells = spells; unique = refl; says = is }))

  -- It is refused as out of numbers or of memory, where it asks this and has no fault.
  pub refuses_for : (body : RequestBody) (fault : ServerFault) → body_in m.nodeid m.content ≡ Some body
      → fault_in s m ≡ None → fault ≡ past_or_memory (is_server_past_end (taking s m.unique body).server)
      → RefusesFrame s bytes fault
  refuses_for body fault is none e = record {
    of_request = λ request says. e ∙ same request says;
    of_none = λ not. absurd (not (record { unique = m.unique; body = body })
        (record { message = m; spells = spells; unique = refl; says = is }));
  }
    where
      same : (request : Request) → SaysRequest bytes request
          → past_or_memory (is_server_past_end (taking s m.unique body).server) ≡ refused_for s request
      same request says =
          let one = only says.message says.spells in
          let unique : m.unique ≡ request.unique = ap (λ (n : RequestMessage). n.unique) one ∙ says.unique in
          let asked : Some body ≡ Some request.body = sym is ∙ ap
          (λ (n : RequestMessage). body_in n.nodeid n.content) one ∙ says.says in
          let body_is : body ≡ request.body = same_Some body request.body asked in
          let no_fault : request_fault s request.unique (Some request.body) ≡ None =
          sym (λ i. request_fault s (unique i) (asked i)) ∙ ap (request_fault s m.unique) (sym is) ∙ none in
          (λ i. past_or_memory (is_server_past_end (taking s (unique i) (body_is i)).server)) ∙ sym
          (ap (λ (o : Option ServerFault). fault_or o (past_or_memory
          (is_server_past_end (taking s request.unique request.body).server))) no_fault)

-- ---- the fault of a request

-- every request asks something
pub asked_so : (nodeid : ℕ) (content : RequestContent) → body_in nodeid content ≡ Some (request_body_of nodeid content)
asked_so nodeid (wire.init major minor flags) = refl
asked_so nodeid (wire.lookup name) = refl
asked_so nodeid wire.getattr = refl
asked_so nodeid (wire.mkdir name) = refl
asked_so nodeid (wire.create name) = refl
asked_so nodeid (wire.unlink name) = refl
asked_so nodeid (wire.rmdir name) = refl
asked_so nodeid (wire.rename newdir old new) = refl
asked_so nodeid (wire.link oldnodeid name) = refl
asked_so nodeid wire.opening = refl
asked_so nodeid (wire.readdir offset size) = refl
asked_so nodeid (wire.read fh offset size) = refl
asked_so nodeid (wire.write fh offset bytes) = refl
asked_so nodeid (wire.release fh) = refl
asked_so nodeid (wire.forget n) = refl
asked_so nodeid (wire.batch_forget fs) = refl
asked_so nodeid (wire.interrupt original) = refl
asked_so nodeid (wire.readdirplus offset size) = refl

abbrev first_fault : (known few repeated : Bool) → Option ServerFault
first_fault known many repeated = cond known (cond many (Some TooManyForgets)
    (cond repeated (Some RepeatedUnique) None)) (Some UnknownNode)

judged : (a b c : Bool) → as_fault (cond a (cond b (Some too_many_forgets) (cond c (Some repeated_unique) None))
    (Some unknown_node)) ≡ first_fault a b c
judged true true c = refl
judged true false true = refl
judged true false false = refl
judged false b c = refl

-- a minor that doesn't know what is asked refuses it before all else
abbrev where_spoken : (for_minor : Bool) → Option ServerFault → Option ServerFault
where_spoken for_minor other = cond for_minor other (Some Wire)

spoken_so : (for_minor : Bool) (o : Option RequestFault) (other : Option ServerFault) → as_fault o ≡ other
    → as_fault (cond for_minor o (Some unknown_opcode)) ≡ where_spoken for_minor other
spoken_so true o other e = e
spoken_so false o other e = refl

and_true : (b : Bool) → (b && true) ≡ b
and_true true = refl
and_true false = refl

one_forgettable : (k : Bool) → (true && (k && true)) ≡ k
one_forgettable true = refl
one_forgettable false = refl

or_none : (b : Bool) → (b || false) ≡ b
or_none true = refl
or_none false = refl

module _ (s : Server) (unique : ℕ) where
  abbrev repeated : Bool
  repeated = is_some (get s.held unique) || is_some (get s.kept unique)

  -- its fault, where the minor knows what is asked, and its fault
  abbrev fault_by : ℕ → RequestContent → Option ServerFault
  fault_by nodeid content = first_fault (knows_nodes s.nodes nodeid content)
      (forgets_too_many s.nodes nodeid content) repeated

  abbrev whole_fault : ℕ → RequestContent → Option ServerFault
  whole_fault nodeid content = where_spoken (is_spoken s.minor nodeid content) (fault_by nodeid content)

  abbrev in_turn : (a b : Bool) → Option RequestFault
  in_turn a b = cond a (cond b (Some too_many_forgets) (cond repeated (Some repeated_unique) None)) (Some unknown_node)

  judged_at : (for_minor a b : Bool) (other : Option ServerFault) → first_fault a b repeated ≡ other
      → as_fault (cond for_minor (in_turn a b) (Some unknown_opcode)) ≡ where_spoken for_minor other
  judged_at for_minor a b other same = spoken_so for_minor (in_turn a b) other (judged a b repeated ∙ same)

  -- of one that gives no lookups back
  of_names : (for_minor k : Bool) → as_fault (cond for_minor (in_turn (k && true) false) (Some unknown_opcode))
      ≡ where_spoken for_minor (first_fault k false repeated)
  of_names for_minor k = judged_at for_minor (k && true) false (first_fault k false repeated)
      (ap (λ (b : Bool). first_fault b false repeated) (and_true k))

  of_body : (body : RequestBody) → request_fault s unique (Some body)
      ≡ where_spoken (server.knows s.minor body)
      (first_fault (are_names_known s.nodes body) (gives_too_many s.nodes body) repeated)
  of_body (init flags) = of_names (server.knows s.minor (init flags)) true
  of_body (asks o) = of_names (server.knows s.minor (asks o)) (list_all (is_known s.nodes) (files_in opened_nodes o))
  of_body (release o) = of_names (server.knows s.minor (release o)) (is_known s.nodes o.nodeid && true)
  of_body (interrupt original) = of_names (server.knows s.minor (interrupt original)) true
  of_body (forget f) =
      judged_at (server.knows s.minor (forget f)) (true && (is_forgettable s.nodes f && true))
      (nat_lt (count_in (get s.nodes.rows f.0)) (forgotten f.0 (f ∷ [])) || false)
      (first_fault (is_forgettable s.nodes f) (gives_too_many s.nodes (forget f)) repeated)
      (ap (λ (k : Bool). first_fault k (nat_lt (count_in (get s.nodes.rows f.0)) (forgotten f.0 (f ∷ [])) || false)
      repeated) (one_forgettable (is_forgettable s.nodes f))
      ∙ ap (λ (m : Bool). first_fault (is_forgettable s.nodes f) m repeated)
      (or_none (nat_lt (count_in (get s.nodes.rows f.0)) (forgotten f.0 (f ∷ []))))
      ∙ ap (λ (m : ℕ). first_fault (is_forgettable s.nodes f) (nat_lt (count_in (get s.nodes.rows f.0)) m) repeated)
      (forgotten_here f.0 f.1 [] ∙ omega arith))
  of_body (batch_forget fs) =
      judged_at (server.knows s.minor (batch_forget fs)) (are_names_known s.nodes (batch_forget fs))
      (gives_too_many s.nodes (batch_forget fs)) (first_fault (are_names_known s.nodes (batch_forget fs))
      (gives_too_many s.nodes (batch_forget fs)) repeated) refl

  pub fault_is : (nodeid : ℕ) (content : RequestContent) → request_fault s unique (body_in nodeid content)
      ≡ whole_fault nodeid content
  fault_is nodeid content = ap (request_fault s unique) (asked_so nodeid content) ∙ of_body (request_body_of nodeid content)

  module _ (nodeid : ℕ) (content : RequestContent) where
    pub unspoken : is_spoken s.minor nodeid content ≡ false
        → Some Wire ≡ request_fault s unique (body_in nodeid content)
    unspoken u = sym (fault_is nodeid content ∙ ap (λ (b : Bool). where_spoken b (fault_by nodeid content)) u)

    module _ (for_minor : is_spoken s.minor nodeid content ≡ true) where
      faulty : fault_by nodeid content ≡ request_fault s unique (body_in nodeid content)
      faulty = sym (fault_is nodeid content ∙ ap (λ (b : Bool). where_spoken b (fault_by nodeid content)) for_minor)

      pub unknown : knows_nodes s.nodes nodeid content ≡ false
          → Some UnknownNode ≡ request_fault s unique (body_in nodeid content)
      unknown k = sym (ap (λ (b : Bool). first_fault b (forgets_too_many s.nodes nodeid content) repeated) k) ∙ faulty

      pub too_many : knows_nodes s.nodes nodeid content ≡ true → forgets_too_many s.nodes nodeid content ≡ true
          → Some TooManyForgets ≡ request_fault s unique (body_in nodeid content)
      too_many k m = sym (ap (λ (b : Bool). first_fault b (forgets_too_many s.nodes nodeid content) repeated) k ∙ ap
          (λ (b : Bool). first_fault true b repeated) m) ∙ faulty

      pub judged_so : knows_nodes s.nodes nodeid content ≡ true → forgets_too_many s.nodes nodeid content ≡ false
          → (r : Bool) → repeated ≡ r → cond r (Some RepeatedUnique) None
          ≡ request_fault s unique (body_in nodeid content)
      judged_so k m r e =
          sym (ap (λ (b : Bool). first_fault b (forgets_too_many s.nodes nodeid content) repeated) k ∙ ap
          (λ (b : Bool). first_fault true b repeated) m ∙ ap (λ (b : Bool). first_fault true false b) e) ∙ faulty

-- ---- what a request without fault makes of the server

module _ (s : Server) (bytes : List ℕ) (unique nodeid : ℕ) where
  abbrev message : RequestContent → RequestMessage
  message content = record { unique = unique; nodeid = nodeid; content = content }

  -- the request that is taken, and what becomes of it
  so : {A : Type 0} (content : RequestContent) (body : RequestBody) (taken : Taken A) (new : Server)
      → body_in nodeid content ≡ Some body → unique ≡ taken.unique → (taking s unique body).word ≡ taken.word
      → new ≡ (taking s unique body).server → taken.sent ≡ copy_of s.next_copy unique (taking s unique body).reply
      → Spells bytes (message content) → fault_in s (message content) ≡ None → TakesFrame s bytes taken new
  so content body taken new is under word_is server copy spells e = record {
    request = record { unique = unique; body = body };
    says = record { message = message content; spells = spells; unique = refl; says = is };
    under = under;
    faultless = ap (request_fault s unique) (sym is) ∙ e;
    as_word = word_is;
    after = server;
    copy = copy;
  }

  taken_so : (body : RequestBody) → waits body ≡ true
      → taking s unique body ≡ record { word = Held; server = holding s unique body; reply = None }
  taken_so (init flags) is = refl
  taken_so (asks operation) is = refl
  taken_so (release o) is = refl
  taken_so (forget f) is = absurd (true≢false (sym is))
  taken_so (batch_forget fs) is = absurd (true≢false (sym is))
  taken_so (interrupt original) is = absurd (true≢false (sym is))

  -- an INTERRUPT
  pub interrupts : {A : Type 0} (original : ℕ) (taken : Taken A) (new : Server) → Interrupts s unique original taken new
      → Spells bytes (message (wire.interrupt original)) → fault_in s (message (wire.interrupt original)) ≡ None
      → TakesFrame s bytes taken new
  interrupts original taken new i = so (wire.interrupt original) (interrupt original) taken new refl (sym i.under)
      (sym i.word) i.after i.copy

  module _ {A : Type 0} (taken : Taken A) (new : Server) where
    -- what is held
    pub holds : (content : RequestContent) → holds_request nodeid content ≡ true
        → taken ≡ record { unique = unique; word = Held; sent = None }
        → new ≡ holding s unique (request_body_of nodeid content) → Spells bytes (message content)
        → fault_in s (message content) ≡ None → TakesFrame s bytes taken new
    holds content is e server =
        let held = taken_so (request_body_of nodeid content) is in
        so content (request_body_of nodeid content) taken new (asked_so nodeid content) (sym (ap (λ (t : Taken A). t.unique) e))
        (ap (λ (t : TakeResult). t.word) held ∙ sym (ap (λ (t : Taken A). t.word) e))
        (server ∙ sym (ap (λ (t : TakeResult). t.server) held))
        (ap (λ (t : Taken A). t.sent) e ∙ sym (ap (λ (t : TakeResult). copy_of s.next_copy unique t.reply) held))

    -- lookups that are given back
    pub forgets : (content : RequestContent) → is_forgetting content ≡ true
        → taken ≡ record { unique = unique; word = Forgot; sent = None }
        → new ≡ forgetting s (forgets_in nodeid content) → Spells bytes (message content)
        → fault_in s (message content) ≡ None → TakesFrame s bytes taken new
    forgets (wire.forget n) is e server = so (wire.forget n) (forget (nodeid, n)) taken new refl
        (sym (ap (λ (t : Taken A). t.unique) e)) (sym (ap (λ (t : Taken A). t.word) e)) server
        (ap (λ (t : Taken A). t.sent) e)
    forgets (wire.batch_forget fs) is e server = so (wire.batch_forget fs) (batch_forget fs) taken new refl
        (sym (ap (λ (t : Taken A). t.unique) e)) (sym (ap (λ (t : Taken A). t.word) e)) server
        (ap (λ (t : Taken A). t.sent) e)
    forgets content is e server = absurd (true≢false (sym is))
