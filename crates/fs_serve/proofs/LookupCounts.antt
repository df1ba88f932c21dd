-- The lookup counts of a server that was just mounted follow what goes over its device.
use Rattle.std.proofs.Common.{◌≡◌, ℕ, zero, suc, ◌≤◌, Bool, true, false, true≢false, List, [], ◌∷◌, ◌++◌, Option, Some, None, refl, ap, sym, subst, ◌∙◌, arith}
use Rattle.std.proofs.lemmas.List.Elements.{All-nil}
use Rattle.fuse_spec.specs.declared.Entry.{Entry}
use Rattle.fuse_spec.specs.declared.Minor.{Minor}
use Rattle.fuse_spec.specs.declared.Minor.TheVariants.{M15, M31}
use Rattle.fuse_spec.specs.declared.Opened.{Opened}
use Rattle.fuse_spec.specs.declared.Taken.{Taken}
use Rattle.fuse_spec.specs.declared.Taken.TheVariants.{Held, Forgot, Again}
use Rattle.fuse_spec.specs.declared.WriteResult.TheVariants.{Accepted}
use Rattle.fuse_spec.specs.Values.Maps.{Map, get, put, remove}
use Rattle.fuse_spec.specs.Files.Operations.{done, failed}
use Rattle.fuse_spec.specs.Kernel.Messages.{Forget, Request, RequestBody, init, asks, release, forget, batch_forget, interrupt, WireReply}
use Rattle.fuse_spec.specs.Server.Refusals.{is_server_past_end}
use Rattle.fuse_spec.specs.Server.Server.{Server, HeldRequest, Kept, Copy, RequestFault, unknown_opcode, unknown_node, too_many_forgets, repeated_unique, fault_of, forgets_of, forgetting, forgotten, holding, knows, nodes_of_body, sending}
use Rattle.fuse_spec.specs.Server.Copies.{kept_after}
use Rattle.fuse_spec.specs.Claim.Counts.{times_named}
use Rattle.fuse_spec.specs.Server.Taking.{TakeResult, interrupting, taking}
use Rattle.fuse_spec.specs.World.Worlds.{Sent}
use Rattle.fuse_theorem.specs.ServerTables.{ServerSound}
use Rattle.fuse_theorem.proofs.Lookups.RowCounts.{all_taken_count}
use Rattle.fuse_theorem.proofs.Nodes.ServerSound.{taking_sound}
use Rattle.fs_server.specs.Effects.{PerformsHeld, RefusesFrame, Settles, TakingNeedsMemory, as_fault, copy_of, fault_or, first_copy, past_or_memory, refused_for}
use Rattle.fs_server.specs.Releasing.{SettlesAnyhow, bare_reply, release_copy}
use Rattle.fuse_spec.specs.Server.Memory.{word_takes_memory}
use Rattle.fs_server.specs.declared.server.ServerFault.{ServerFault}
use Rattle.fs_server.specs.declared.server.ServerFault.TheVariants.{Memory, Wire}
use Rattle.fk_wire.specs.Replies.{WrittenReply, empty_reply}
use Rattle.fuse_frames.specs.ReplyTies.{error_of}
use Rattle.fuse_frames.specs.RequestTies.{SaysRequest}
use Rattle.fuse_device.specs.Transfers.{Transfer, stopped, ended_in}
use Rattle.fuse_device.specs.declared.device.DeviceEnd.{DeviceEnd}
use Rattle.fs_serve.specs.LongBatches.{first_pairs, part_of}
use Rattle.fs_serve.specs.LookupCounts.{Follows, FollowsFrame, FollowsPairs, FrameGivesBack, IsFresh, MayForget, GivesLookups, lookup_count, batch, end, error, forgets, frame, more_pairs, no_pairs, none, nothing, nothing_sent}
use Rattle.fs_serve.specs.Sending.{Delivers, RepliesToRelease, SendsFault, replied, unreplied}
use Rattle.fs_serve.specs.Serving.{Serves, ServesFrame, ServesHeld, ServesNext, ServesPairs, TakesRequest, done_at_once, replied_at_once, performed, released, unreleased, untaken, uninterrupted, name_too_long, refused, one, input_output, out_of_memory, too_long_name}
use Rattle.fs_serve.specs.Serving as serving
use Rattle.fs_serve.proofs.BetweenFrames.{IsBetween, fresh_between}
use Rattle.fs_serve.proofs.Delivered.{Delivered, SendsOne, alone_gone, delivered, some_same}
use Rattle.fs_serve.proofs.Forgetting.{faultless, may_forget, within_still}
use Rattle.fs_serve.proofs.HeldCounts.{HoldsOne, held_follows, release_follows}
use Rattle.fuse_spec.proofs.Tables.{get_put_here}
use Rattle.fs_serve.proofs.ReplyKinds.{GoesFor, IsRepliedTo, asked_replied, init_replied, interrupt_replied, release_replied}
use Rattle.fs_serve.proofs.Servings.{ended_append}

-- The counts follow what is sent after a frame, and the server is between frames again.
pub record Follow (minor : Minor) (old : ℕ → ℕ) (frame : List ℕ) (log : List Transfer) (new : Server) : Type 0 where
  pub counts : FollowsFrame minor old frame log (lookup_count new)
  pub between : ended_in log ≡ None → IsBetween minor new

no_fault : (f : Option RequestFault) → as_fault f ≡ None → f ≡ None
no_fault None is = refl
no_fault (Some unknown_opcode) is = let no : ◌≡◌ {A = Option ServerFault} (Some _) None = is in cc
no_fault (Some unknown_node) is = let no : ◌≡◌ {A = Option ServerFault} (Some _) None = is in cc
no_fault (Some too_many_forgets) is = let no : ◌≡◌ {A = Option ServerFault} (Some _) None = is in cc
no_fault (Some repeated_unique) is = let no : ◌≡◌ {A = Option ServerFault} (Some _) None = is in cc

gone_from : (k : ℕ) (m : Map HeldRequest) (h : HeldRequest) → m ≡ [] → remove (put m k h) k ≡ []
gone_from k m h empty = ap (λ (m : Map HeldRequest). remove (put m k h) k) empty ∙ alone_gone k h

forgot_is_not_held : Forgot ≡ Held → ⊥
forgot_is_not_held is = let no : ◌≡◌ {A = Taken} Forgot Held = is in cc

again_is_not_held : Again ≡ Held → ⊥
again_is_not_held is = let no : ◌≡◌ {A = Taken} Again Held = is in cc

-- ---- a RELEASE

known_release : (o : Opened) (minor : Minor) → knows minor (release o) ≡ true
known_release o M15 = refl
known_release o M31 = refl

abbrev bare_copy : (number unique errno : ℕ) → Sent
bare_copy number unique errno = record { number = number; unique = unique; wire = bare_reply errno }

bare_names : (errno id : ℕ) → times_named id (bare_reply errno) ≡ 0
bare_names zero id = refl
bare_names (suc n) id = refl

-- its reply has no body
bare_tells : (asked : List ℕ) (number unique errno : ℕ) (log : List Transfer)
    → RepliesToRelease (Some (bare_copy number unique errno)) log → GivesLookups asked log (λ id. 0)
bare_tells asked number unique zero log (bytes, framed, sends) =
    let written = (let f = framed.frame in f.written) in
    error unique (error_of done) bytes
    (subst (WrittenReply (record { unique = unique; error = error_of done; content = empty_reply })) (sym framed.filled)
    written) log sends
bare_tells asked number unique (suc n) log (bytes, framed, sends) =
    let written = (let f = framed.frame in f.written) in
    error unique (error_of (failed (suc n))) bytes
    (subst (WrittenReply (record { unique = unique; error = error_of (failed (suc n)); content = empty_reply }))
    (sym framed.filled) written) log sends

module _ (minor : Minor) (old : Server) (is : IsBetween minor old) (bytes : List ℕ) where
  abbrev counts : ℕ → ℕ
  counts = lookup_count old

  old_sound : ServerSound old
  old_sound = is.sound

  -- ---- a request is taken

  module _ (request : Request) (taken : Server) (takes : TakesRequest old bytes request taken) where
    abbrev unique : ℕ
    unique = request.unique

    abbrev gives : List Forget
    gives = forgets_of request.body

    may : (knows old.minor request.body ≡ true) × MayForget counts gives
    may = may_forget old old_sound.nodes unique request.body
        (no_fault (fault_of old (record { unique = unique; body = request.body })) takes.faultless)

    back : FrameGivesBack minor counts bytes (λ id. forgotten id gives)
    back = forgets request takes.says (subst (λ (m : Minor). knows m request.body ≡ true) is.for_minor may.0) may.1

    taken_sound : ServerSound taken
    taken_sound = subst ServerSound (sym takes.after) (taking_sound old old_sound unique request.body)

    -- an INTERRUPT finds no request held and no reply kept
    interrupted : (original : ℕ) → taking old unique (interrupt original) ≡ record {
      word = Again;
      server = sending old unique (failed 11) old.next_copy;
      reply = Some (failed 11);
    }
    interrupted original =
        ap (λ (m : Map HeldRequest). interrupting old unique original (get m original) (get old.kept original)) is.held
        ∙ ap (λ (m : Map Kept). interrupting old unique original None (get m original)) is.kept

    -- without forgets, the counts follow what is delivered
    of_delivered : gives ≡ [] → (log : List Transfer) (new : Server) → Delivered minor counts bytes log new
        → Follow minor counts bytes log new
    of_delivered quiet log new d = record {
      counts = record {
        back = λ id. forgotten id gives;
        gives_back = back;
        more = d.more;
        tells = d.tells;
        balance = λ id.
            let more = d.balance id in
            let nothing_back : forgotten id gives ≡ 0 = ap (forgotten id) quiet in
            omega (arith, more, nothing_back);
      };
      between = d.between;
    }

    -- forgets are done at once
    forgetting_follows : taken ≡ forgetting old gives → Follow minor counts bytes [] taken
    forgetting_follows after = record {
      counts = record {
        back = λ id. forgotten id gives;
        gives_back = back;
        more = λ id. 0;
        tells = nothing_sent;
        balance = λ id.
            let few = may.1.counted id in
            let less = all_taken_count gives old.nodes id few in
            let same : lookup_count taken id ≡ lookup_count (forgetting old gives) id =
            ap (λ (s : Server). lookup_count s id) after in
            omega (arith, same, less);
      };
      between = λ ended. record {
        sound = taken_sound;
        held = ap (λ (s : Server). s.held) after ∙ is.held;
        kept = ap (λ (s : Server). s.kept) after ∙ is.kept;
        copies = ap (λ (s : Server). s.copies) after ∙ is.copies;
        live = ap (λ (s : Server). s.aborted) after ∙ is.live;
        for_minor = ap (λ (s : Server). s.minor) after ∙ is.for_minor;
      };
    }

    after_body : (body : RequestBody) → request.body ≡ body → taken ≡ (taking old unique body).server
    after_body body same = takes.after ∙ ap (λ (b : RequestBody). (taking old unique b).server) same

    word_of : (body : RequestBody) → request.body ≡ body
        → (taking old unique request.body).word ≡ (taking old unique body).word
    word_of body same = ap (λ (b : RequestBody). (taking old unique b).word) same

    reply_of : (body : RequestBody) → request.body ≡ body
        → (taking old unique request.body).reply ≡ (taking old unique body).reply
    reply_of body same = ap (λ (b : RequestBody). (taking old unique b).reply) same

    at_once : (taking old unique request.body).reply ≡ None → ((taking old unique request.body).word ≡ Held → ⊥)
        → Follow minor counts bytes [] taken
    at_once silent not_held = by request.body refl
      where
        by : (body : RequestBody) → request.body ≡ body → Follow minor counts bytes [] taken
        by (init flags) same = absurd (not_held (word_of (init flags) same))
        by (asks operation) same = absurd (not_held (word_of (asks operation) same))
        by (release o) same = absurd (not_held (word_of (release o) same))
        by (forget f) same = forgetting_follows (after_body (forget f) same
            ∙ ap (λ (b : RequestBody). forgetting old (forgets_of b)) (sym same))
        by (batch_forget fs) same = forgetting_follows (after_body (batch_forget fs) same
            ∙ ap (λ (b : RequestBody). forgetting old (forgets_of b)) (sym same))
        by (interrupt original) same =
            let no : ◌≡◌ {A = Option WireReply} (Some (failed 11)) None =
            sym (reply_of (interrupt original) same ∙ ap (λ (t : TakeResult). t.reply) (interrupted original)) ∙ silent in
            cc

    -- what is answered at once is an INTERRUPT
    sends_eagain : (original : ℕ) → taken ≡ sending old unique (failed 11) old.next_copy
        → SendsOne minor counts (record { number = old.next_copy; unique = unique; wire = failed 11 }) taken
    sends_eagain original after = subst (SendsOne minor counts
        (record { number = old.next_copy; unique = unique; wire = failed 11 })) (sym after)
        (record {
          sound = subst ServerSound after taken_sound;
          held = is.held;
          first = old.next_copy;
          copies = ap (λ (m : Map Copy). put m old.next_copy
              (record { unique = unique; wire = failed 11; first = old.next_copy })) is.copies;
          kept = ap (λ (m : Map Kept). kept_after m
              (record { unique = unique; wire = failed 11; first = old.next_copy }) (get m unique)) is.kept;
          live = is.live;
          for_minor = is.for_minor;
          entries = All-nil (λ (g : Entry). (2 ≤ g.nodeid) × _);
          counted = λ id. omega arith;
        })

    answered : (copy : Sent) → Some copy ≡ copy_of old.next_copy unique (taking old unique request.body).reply
        → (log : List Transfer) (new : Server) → Delivers copy taken log new → Follow minor counts bytes log new
    answered copy sent log new delivers = by request.body refl
      where
        silent : (body : RequestBody) → request.body ≡ body → (taking old unique body).reply ≡ None → ⊥
        silent body same quiet =
            let no : ◌≡◌ {A = Option Sent} (Some copy) None =
            sent ∙ ap (copy_of old.next_copy unique) (reply_of body same ∙ quiet) in
            cc

        by : (body : RequestBody) → request.body ≡ body → Follow minor counts bytes log new
        by (init flags) same = absurd (silent (init flags) same refl)
        by (asks operation) same = absurd (silent (asks operation) same refl)
        by (release o) same = absurd (silent (release o) same refl)
        by (forget f) same = absurd (silent (forget f) same refl)
        by (batch_forget fs) same = absurd (silent (batch_forget fs) same refl)
        by (interrupt original) same =
            let took = interrupted original in
            let eagain : Sent = record { number = old.next_copy; unique = unique; wire = failed 11 } in
            let copy_is : copy ≡ eagain = some_same copy eagain (sent ∙ ap (copy_of old.next_copy unique)
            (reply_of (interrupt original) same ∙ ap (λ (t : TakeResult). t.reply) took)) in
            let after = after_body (interrupt original) same ∙ ap (λ (t : TakeResult). t.server) took in
            of_delivered (ap forgets_of same) log new (delivered minor counts bytes request takes.says copy taken
            (subst (λ (c : Sent). SendsOne minor counts c taken) (sym copy_is) (sends_eagain original after))
            (ap (λ (c : Sent). c.unique) copy_is)
            (subst (λ (c : Sent). GoesFor request.body c.wire) (sym copy_is)
            (subst (λ (b : RequestBody). GoesFor b (failed 11)) (sym same) (interrupt_replied original))) log new delivers)

    -- what is held is performed
    holds : (body : RequestBody) → request.body ≡ body → IsRepliedTo body → taken ≡ holding old unique body
        → HoldsOne minor counts request taken
    holds body same is_replied_to after = subst (HoldsOne minor counts request) (sym after) (record {
      sound = subst ServerSound after taken_sound;
      alone = gone_from unique old.held _ is.held;
      body = λ held there. ap (λ (h : HeldRequest). h.body)
          (some_same held _ (sym there ∙ get_put_here old.held unique _)) ∙ sym same;
      has_reply = subst IsRepliedTo (sym same) is_replied_to;
      kept = is.kept;
      copies = is.copies;
      live = is.live;
      for_minor = is.for_minor;
      counted = λ id. refl;
    })

    -- a RELEASE is done at once
    releases_it : (o : Opened) → request.body ≡ release o → (errno : ℕ) (did : Server)
        → PerformsHeld taken unique errno (Some (bare_copy old.next_copy unique errno)) did → (new : Server)
        → Settles did old.next_copy Accepted new → (log : List Transfer)
        → RepliesToRelease (Some (bare_copy old.next_copy unique errno)) log → Follow minor counts bytes log new
    releases_it o same errno did performs new settles log replies = of_delivered (ap forgets_of same) log new
        (release_follows minor counts bytes request takes.says taken
        (holds (release o) same (release_replied o) (after_body (release o) same)) errno
        (bare_copy old.next_copy unique errno) did performs (bare_names errno) new settles log
        (bare_tells bytes old.next_copy unique errno log replies))

    performs : (taking old unique request.body).word ≡ Held → (log : List Transfer) (new : Server)
        → ServesHeld taken unique log new → Follow minor counts bytes log new
    performs held log new serves = by request.body refl
      where
        follow : (body : RequestBody) → request.body ≡ body → IsRepliedTo body → forgets_of body ≡ []
            → (taking old unique body).server ≡ holding old unique body → Follow minor counts bytes log new
        follow body same is_replied_to quiet holding_it = of_delivered (ap forgets_of same ∙ quiet) log new
            (held_follows minor counts bytes request takes.says taken
            (holds body same is_replied_to (after_body body same ∙ holding_it)) log new serves)

        by : (body : RequestBody) → request.body ≡ body → Follow minor counts bytes log new
        by (init flags) same = follow (init flags) same (init_replied flags) refl refl
        by (asks operation) same = follow (asks operation) same (asked_replied operation) refl refl
        by (release o) same = follow (release o) same (release_replied o) refl refl
        by (forget f) same = absurd (forgot_is_not_held (sym (word_of (forget f) same) ∙ held))
        by (batch_forget fs) same = absurd (forgot_is_not_held (sym (word_of (batch_forget fs) same) ∙ held))
        by (interrupt original) same = absurd (again_is_not_held (sym (word_of (interrupt original) same
            ∙ ap (λ (t : TakeResult). t.word) (interrupted original)) ∙ held))

  -- ---- a request isn't taken

  unchanged : FrameGivesBack minor counts bytes (λ id. 0) → (log : List Transfer) → GivesLookups bytes log (λ id. 0)
      → Follow minor counts bytes log old
  unchanged back log tells = record {
    counts = record {
      back = λ id. 0;
      gives_back = back;
      more = λ id. 0;
      tells = tells;
      balance = λ id. omega arith;
    };
    between = λ ended. is;
  }

  -- forgets take no memory
  wanted : TakingNeedsMemory old bytes → FrameGivesBack minor counts bytes (λ id. 0)
  wanted wants = none (λ request says known may_be. by request.unique request.body (wants request says))
    where
      by : (u : ℕ) (body : RequestBody) → word_takes_memory (taking old u body).word ≡ true → forgets_of body ≡ []
      by u (init flags) takes = refl
      by u (asks operation) takes = refl
      by u (release o) takes = refl
      by u (forget f) takes = absurd (true≢false (sym takes))
      by u (batch_forget fs) takes = absurd (true≢false (sym takes))
      by u (interrupt original) takes = refl

  -- forgets that may be taken are refused for nothing
  faulty : (fault : ServerFault) → RefusesFrame old bytes fault → (fault ≡ Memory → ⊥) → is_server_past_end old ≡ false
      → FrameGivesBack minor counts bytes (λ id. 0)
  faulty fault refuses not_memory low = none (λ request says known may_be. by request says known may_be request.body refl)
    where
      taken_back : (request : Request) → SaysRequest bytes request → (body : RequestBody) → request.body ≡ body
          → nodes_of_body body ≡ [] → knows minor body ≡ true → MayForget counts (forgets_of body)
          → (taking old request.unique body).server ≡ forgetting old (forgets_of body) → ⊥
      taken_back request says body same no_nodes known may_be after =
          let faultless_here = faultless old old_sound.nodes request.unique body is.held is.kept no_nodes
          (subst (λ (m : Minor). knows m body ≡ true) (sym is.for_minor) known) may_be in
          let low_still = ap is_server_past_end after ∙ within_still old (forgets_of body) low in
          let memory : refused_for old (record { unique = request.unique; body = body }) ≡ Memory =
          ap (λ (f : Option RequestFault). fault_or (as_fault f)
          (past_or_memory (is_server_past_end (taking old request.unique body).server))) faultless_here ∙ ap past_or_memory low_still in
          not_memory (refuses.of_request request says
          ∙ ap (λ (b : RequestBody). refused_for old (record { unique = request.unique; body = b })) same ∙ memory)

      by : (request : Request) → SaysRequest bytes request → knows minor request.body ≡ true
          → MayForget counts (forgets_of request.body) → (body : RequestBody) → request.body ≡ body
          → forgets_of request.body ≡ []
      by request says known may_be (init flags) same = ap forgets_of same
      by request says known may_be (asks operation) same = ap forgets_of same
      by request says known may_be (release o) same = ap forgets_of same
      by request says known may_be (forget f) same = absurd (taken_back request says (forget f) same refl
          (subst (λ (b : RequestBody). knows minor b ≡ true) same known)
          (subst (λ (b : RequestBody). MayForget counts (forgets_of b)) same may_be) refl)
      by request says known may_be (batch_forget fs) same = absurd (taken_back request says (batch_forget fs) same refl
          (subst (λ (b : RequestBody). knows minor b ≡ true) same known)
          (subst (λ (b : RequestBody). MayForget counts (forgets_of b)) same may_be) refl)
      by request says known may_be (interrupt original) same = ap forgets_of same

  fault_tells : (fault : ServerFault) (log : List Transfer) → SendsFault old.minor bytes fault log
      → GivesLookups bytes log (λ id. 0)
  fault_tells fault log (replied reply written log' sends) = error _ written.error reply written.written log sends
  fault_tells fault log (unreplied quiet) = nothing_sent

  -- ---- any frame

  pub frame_follows : (log : List Transfer) (new : Server) → ServesFrame old bytes log new
      → Follow minor counts bytes log new
  frame_follows log new (done_at_once request new' takes silent not_held) =
      at_once request new takes silent not_held
  frame_follows log new (replied_at_once request taken takes copy sent log' new' delivers) =
      answered request taken takes copy sent log new delivers
  frame_follows log new (released unique opened says errno new' releases log' replies) =
      let request : Request = record { unique = unique; body = release opened } in
      let taken : Server = (taking old unique (release opened)).server in
      let took : TakesRequest old bytes request taken = record {
        says = says;
        faultless = releases.faultless;
        after = refl;
      } in
      let live : release_copy old unique errno ≡ Some (bare_copy old.next_copy unique errno) =
      ap (λ (a : Bool). first_copy a old.next_copy unique (bare_reply errno)) is.live in
      releases_it request taken took opened refl errno releases.did
      (subst (λ (o : Option Sent). PerformsHeld taken unique errno o releases.did) live releases.performs) new
      (subst (λ (o : Option Sent). SettlesAnyhow releases.did o new) live releases.settles Accepted) log
      (subst (λ (o : Option Sent). RepliesToRelease o log) live replies)
  frame_follows log new (unreleased unique opened says refuses log' sends) =
      unchanged (forgets (record { unique = unique; body = release opened }) says (known_release opened minor)
      (record { known = All-nil (λ (f : Forget). 1 ≤ counts f.0); counted = λ id. omega arith })) log
      (error unique input_output sends.bytes sends.written log sends.sends)
  frame_follows log new (performed request taken takes held other log' new' serves) =
      performs request taken takes held log new serves
  frame_follows log new (untaken can wants other not_interrupt log' sends) =
      unchanged (wanted wants) log (error can.request.unique out_of_memory sends.bytes sends.written log sends.sends)
  frame_follows log new (uninterrupted can wants is_interrupt) = unchanged (wanted wants) [] nothing_sent
  frame_follows log new (name_too_long refuses too_long low log' sends) =
      let not_memory = λ (same : ◌≡◌ {A = ServerFault} Wire Memory). absurd (cc same) in
      unchanged (faulty Wire refuses not_memory low) log (error _ too_long_name sends.bytes sends.written log sends.sends)
  frame_follows log new (refused fault refuses not_memory other low log' sends) =
      unchanged (faulty fault refuses not_memory low) log (fault_tells fault log sends)

-- ---- all frames

-- The counts follow all that went over the device, and the server is between frames unless the device came to its end.
record FollowsAll (minor : Minor) (old : ℕ → ℕ) (log : List Transfer) (new : Server) : Type 0 where
  counts : Follows minor old log (lookup_count new)
  between : ended_in log ≡ None → IsBetween minor new

-- The counts follow the pairs of a long BATCH_FORGET, and the server is between frames after each.
record FollowsSome (minor : Minor) (bytes : List ℕ) (old : ℕ → ℕ) (pairs : List ℕ) (log : List Transfer) (new : Server)
    : Type 0 where
  counts : FollowsPairs minor bytes old pairs log (lookup_count new)
  between : ended_in log ≡ None → IsBetween minor new

pairs_follow : (minor : Minor) (bytes : List ℕ) (old : Server) → IsBetween minor old → (pairs : List ℕ)
    → (log : List Transfer) (new : Server) → ServesPairs bytes old pairs log new
    → FollowsSome minor bytes (lookup_count old) pairs log new
pairs_follow minor bytes old is pairs log new serving.no_pairs = record { counts = no_pairs; between = λ ended. is }
pairs_follow minor bytes old is pairs log new (serving.more_pairs served before mid serves going left split log' new' more) =
    let so_far = pairs_follow minor bytes old is served before mid serves in
    let follow = frame_follows minor mid (so_far.between going) (part_of bytes (first_pairs left)) log' new more in
    record {
      counts = more_pairs served before (lookup_count mid) so_far.counts left split log' (lookup_count new) follow.counts;
      between = λ ended. follow.between (sym (ended_append before log' going) ∙ ended);
    }

next_follows : (minor : Minor) (old : ℕ → ℕ) (before : List Transfer) (mid : Server) → FollowsAll minor old before mid
    → ended_in before ≡ None → (log : List Transfer) (new : Server) → ServesNext mid log new
    → FollowsAll minor old (before ++ log) new
next_follows minor old before mid so_far going log new (one bytes read is_read log' new' serves) =
    let follow = frame_follows minor mid (so_far.between going) read log' new serves in
    record {
      counts = frame before (lookup_count mid) so_far.counts bytes read is_read log' (lookup_count new) follow.counts;
      between = λ ended. follow.between (sym (ended_append before log going) ∙ ended);
    }
next_follows minor old before mid so_far going log new (serving.batch bytes long log' new' serves) =
    let pairs = pairs_follow minor bytes mid (so_far.between going) serves.pairs log' new serves.serves in
    record {
      counts = batch before (lookup_count mid) so_far.counts bytes long serves.pairs log' (lookup_count new) pairs.counts
          serves.all;
      between = λ ended. pairs.between (sym (ended_append before log going) ∙ ended);
    }
next_follows minor old before mid so_far going log new (serving.none ends) = record {
  counts = end before (lookup_count mid) so_far.counts ends;
  between = λ ended.
      let no : ◌≡◌ {A = Option DeviceEnd} (Some ends) None = sym (ended_append before (stopped ends ∷ []) going) ∙ ended in
      cc;
}

all_follows : (old : Server) → IsFresh old → (log : List Transfer) (new : Server) → Serves old log new
    → FollowsAll old.minor (lookup_count old) log new
all_follows old mounted log new serving.nothing = record { counts = nothing; between = λ ended. fresh_between old mounted }
all_follows old mounted log new (serving.next before mid serves going log' new' more) =
    next_follows old.minor (lookup_count old) before mid (all_follows old mounted before mid serves) going log' new more

pub counts_follow : (old : Server) (log : List Transfer) (new : Server) → Serves old log new → IsFresh old
    → Follows old.minor (lookup_count old) log (lookup_count new)
counts_follow old log new serves mounted = let all = all_follows old mounted log new serves in all.counts
