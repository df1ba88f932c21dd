-- Without a live mount the links are empty, and INIT is answered with the server's minor, whatever happens.
use Rattle.fuse_spec.specs.Values.Numbers.{init_flags}
use Rattle.fuse_spec.specs.declared.Minor.TheVariants.{M15, M31}
use Rattle.fuse_spec.specs.declared.Minor.{Minor}
use Rattle.fuse_spec.specs.Calls.Calls.{for_minor}
use Rattle.std.proofs.Common.{◌≡◌, ℕ, ◌-◌, Bool, true, false, true≢false, cond, List, [], Option, Some, None, nat_eq, slice_get, refl, ap, sym, subst, ◌∙◌, arith, inl, inr, All, ◌++◌, ◌∷◌}
use Rattle.std.specs.Prelude.{◌%◌}
use Rattle.std.specs.List.{remove as without_at}
use Rattle.std.proofs.lemmas.List.Elements.{All-nil, All-push}
use Rattle.fuse_spec.specs.declared.Purpose.{Purpose}
use Rattle.fuse_spec.specs.declared.Purpose.TheVariants as purpose
use Rattle.fuse_spec.specs.declared.QueuedRequest.{QueuedRequest}
use Rattle.fuse_spec.specs.declared.ReplyResult.{ReplyResult}
use Rattle.fuse_spec.specs.declared.WriteResult.{WriteResult}
use Rattle.fuse_spec.specs.declared.WriteResult.TheVariants.{Accepted, NoEntry, Invalid}
use Rattle.fuse_spec.specs.Server.Copies.{kept_after, after_result}
use Rattle.fuse_spec.specs.Values.Maps.{Map, get, put, remove}
use Rattle.fuse_spec.specs.Kernel.Messages.{Request, RequestBody, init, asks, release, forget, batch_forget, interrupt, WireReply}
use Rattle.fuse_spec.specs.Files.Operations.{done, failed}
use Rattle.fuse_spec.specs.Kernel.Queues.{request_under}
use Rattle.fuse_spec.specs.Kernel.QueueCalls.{waiting, without}
use Rattle.fuse_spec.specs.Kernel.Kernel.{Kernel, is_live, kernel_aborted, body_of}
use Rattle.fuse_spec.specs.Kernel.Replies.{is_agreement, request_reply_written, interrupt_reply_written, interrupt_replied, reply_written, made_ready}
use Rattle.fuse_spec.specs.Server.Server.{Server, HeldRequest, Kept, Copy}
use Rattle.fuse_spec.specs.Server.Taking.{taking, interrupting}
use Rattle.fuse_spec.specs.Server.Performs.{performed, served, init_reply}
use Rattle.fuse_spec.specs.World.Worlds.{World, Sent, first_world, copy_put, after_take, after_perform, after_again, after_write, after_settle}
use Rattle.fuse_spec.specs.World.Events.{Event, Outcome}
use Rattle.fuse_spec.specs.World.Steps.{Happens}
use Rattle.fuse_theorem.specs.AskedRequests.{serves_call, BearsFirst, InitIsFirst, IsAsked, RequestsAsked, RequestsAskedWhileLive}
use Rattle.fuse_theorem.specs.Links.{InitAgreed, IsIdle, LinksSound}
use Rattle.fuse_theorem.specs.Unperformed.{BearsNumber}
use Rattle.fuse_theorem.specs.WorldSound.{WorldSound}
use Rattle.fuse_theorem.proofs.Answers.Answered.{waiting_is}
use Rattle.fuse_theorem.proofs.Calls.Finding.{All-found}
use Rattle.fuse_theorem.proofs.Calls.CallsContinue.{begun_goes_on, signalled_goes_on, replied_goes_on}
use Rattle.fuse_theorem.proofs.RefusalCases.Happened.{Happened, by_mount, by_call, by_read_interrupt, by_read_forgets, by_read_pending, by_take, by_perform, by_again, by_write, by_settle, by_signal, by_tick, by_drop, by_evict, by_abort, happened}
use Rattle.fuse_theorem.proofs.Nodes.NodesSound.{put_found, left_found}
use Rattle.fuse_theorem.proofs.Requests.PerformedRest.{performed_rest}
use Rattle.fuse_theorem.proofs.Refining.Queuing.{All-without, All-at}
use Rattle.fuse_theorem.proofs.Refining.Settling.{kept_was}
use Rattle.fuse_theorem.proofs.Requests.AskKept.{IsNumberedFor}

abbrev pub AgreesToInit : Minor → Sent → Type 0
AgreesToInit minor s = s.unique ≡ 2 → s.wire ≡ init_reply minor init_flags

-- nothing stands on an empty link
pub none_at : {X : Type 0} {Y : Type 0} (xs : List X) (k : ℕ) (x : X) → xs ≡ [] → slice_get xs k ≡ Some x → Y
none_at {X = X} xs k x empty at = let none : slice_get xs k ≡ None =
    ap (λ (ys : List X). slice_get ys k) empty in absurd (cc (none, at))

pub none_in : {X : Type 0} {Y : Type 0} (m : Map X) (k : ℕ) (x : X) → m ≡ [] → get m k ≡ Some x → Y
none_in {X = X} m k x empty at = let none : get m k ≡ None = ap (λ (n : Map X). get n k) empty in absurd (cc (none, at))

-- ---- INIT is answered with the server's minor

-- a request is INIT where it has the first number, and has it where it is INIT
first_is_init : (k : Kernel) → InitIsFirst k.queues → (r : QueuedRequest Purpose) → request_under k.queues 2 ≡ Some r
    → r.kept ≡ purpose.Init
first_is_init k first r under = by r.kept (All-found IsNumberedFor 2 k.queues.requests r first.entries under)
  where
    by : (kept : Purpose) → BearsFirst 2 kept → kept ≡ purpose.Init
    by purpose.Init e = refl
    by (purpose.Release o) ne = absurd (ne refl)
    by (purpose.Call call) ne = absurd (ne refl)

pub init_is_first : (k : Kernel) → InitIsFirst k.queues → (unique : ℕ) (r : QueuedRequest Purpose)
    → request_under k.queues unique ≡ Some r → r.kept ≡ purpose.Init → unique ≡ 2
init_is_first k first unique r under is = subst (BearsFirst unique) is
    (All-found IsNumberedFor unique k.queues.requests r first.entries under)

-- What is held under the first number is INIT, and performed so.
init_performed : (choice : ℕ → ℕ) (s : Server) (t : HeldRequest) → t.body ≡ init init_flags → t.marked ≡ false
    → t.generations ≡ [] → (performed choice s t).wire ≡ init_reply s.minor init_flags
init_performed choice s t body unmarked none = λ i.
    (performed choice s (record { body = body i; generations = none i; marked = unmarked i })).wire

module _ (choice : ℕ → ℕ) (w : World) (links : LinksSound w) (asked : RequestsAsked w) (t : HeldRequest)
    (there : get w.server.held 2 ≡ Some t) where
  request : IsAsked w.kernel 2 t.body
  request = (asked.held 2 t there).is_asked

  is_init : request.request.kept ≡ purpose.Init
  is_init = first_is_init w.kernel asked.first request.request request.under

  body_is : t.body ≡ init init_flags
  body_is = let says : Some t.body ≡ Some (init init_flags) =
      sym request.asks ∙ ap (body_of w.kernel) is_init in cc (says)

  unmarked : t.marked ≡ false
  unmarked = by t.marked refl
    where
      by : (b : Bool) → t.marked ≡ b → t.marked ≡ false
      by false e = e
      by true e =
          let interrupted = (asked.held 2 t there).interrupted e in
          absurd (true≢false (sym (interrupted.of_call request.request request.under) ∙ ap serves_call is_init))

  init_answered : (served choice w.server 2 t).wire ≡ init_reply w.server.minor init_flags
  init_answered = init_performed choice (record w.server { held = remove w.server.held 2 }) t body_is unmarked
      (links.held 2 t there init_flags body_is)

-- ---- a reply is written

is_agreed : (m : Minor) → is_agreement (init_reply m init_flags) ≡ true
is_agreed M15 = refl
is_agreed M31 = refl

-- A live mount stays live where its INIT is agreed on.
pub stays_live : (k : Kernel) → InitIsFirst k.queues → is_live k.phase ≡ true
    → (minor : Minor) (unique : ℕ) (wire : WireReply) → (unique ≡ 2 → wire ≡ init_reply minor init_flags)
    → is_live (reply_written k unique wire).1.phase ≡ true
stays_live k first live minor unique wire agrees = by (nat_eq (unique % 2) 1)
  where
    interrupts : (x : WireReply) → is_live (interrupt_replied k (unique - 1) x).1.phase ≡ true
    interrupts (failed errno) = live
    interrupts done = live
    interrupts x = live

    odd : (o : Option Purpose) → is_live (interrupt_reply_written k unique wire o).1.phase ≡ true
    odd None = live
    odd (Some kept) = interrupts wire

    even : (o : Option Purpose) → waiting k.queues unique ≡ o
        → is_live (request_reply_written k unique wire o).1.phase ≡ true
    even None waits = live
    even (Some purpose.Init) waits =
        let request = waiting_is k.queues unique purpose.Init waits in
        let says : wire ≡ init_reply minor init_flags = agrees
        (init_is_first k first unique request.request request.under request.serves) in
        subst (λ (b : Bool). is_live (cond b (made_ready (record k { queues = without k.queues unique }) wire)
        (kernel_aborted (record k { queues = without k.queues unique }))).phase ≡ true)
        (sym (ap is_agreement says ∙ is_agreed minor)) refl
    even (Some (purpose.Release o)) waits = live
    even (Some (purpose.Call call)) waits =
        let k1 = record k { queues = without k.queues unique } in
        let goes = replied_goes_on k1 call wire (get k.vfs.calls call) in
        ap is_live goes.phase ∙ live

    by : (b : Bool) → is_live (cond b (interrupt_reply_written k unique wire (waiting k.queues (unique - 1)))
        (request_reply_written k unique wire (waiting k.queues unique))).1.phase ≡ true
    by true = odd (waiting k.queues (unique - 1))
    by false = even (waiting k.queues unique) refl

-- ---- every event

module _ (choice : ℕ → ℕ) (w : World) (sound : WorldSound w) (asked : RequestsAskedWhileLive w)
    (links : LinksSound w) where
  -- The kernel goes on, and what it asks goes onto the link while it is live.
  goes_on : (l : Kernel) (requests : List Request) → is_live l.phase ≡ is_live w.kernel.phase
      → (is_live w.kernel.phase ≡ false → requests ≡ []) → LinksSound (record w { kernel = l; requests = requests })
  goes_on l requests same none = record {
    held = links.held;
    serving = λ live. links.serving (sym same ∙ live);
    agreed = λ live. let old = links.agreed (sym same ∙ live) in record { copies = old.copies; kept = old.kept };
    idle = λ dead. let old = links.idle (sym same ∙ dead) in
        record {
          requests = none (sym same ∙ dead);
          replies = old.replies;
          results = old.results;
          kept = old.kept;
          server = old.server;
        };
  }

  dead_requests : is_live w.kernel.phase ≡ false → w.requests ≡ []
  dead_requests dead = (links.idle dead).requests

  asks_live : is_live w.kernel.phase ≡ true → (requests : List Request) → is_live w.kernel.phase ≡ false → requests ≡ []
  asks_live live requests dead = absurd (true≢false (sym live ∙ dead))

  -- A live mount's server changes.
  serves : (v : World) → is_live w.kernel.phase ≡ true → v.kernel ≡ w.kernel
      → ((unique : ℕ) (t : HeldRequest) → get v.server.held unique ≡ Some t → (flags : ℕ) → t.body ≡ init flags
      → t.generations ≡ []) → v.server.aborted ≡ w.server.aborted → InitAgreed v → LinksSound v
  serves v live kernel held aborted says_so = record {
    held = held;
    serving = λ _. aborted ∙ links.serving live;
    agreed = λ _. says_so;
    idle = λ dead. absurd (true≢false (sym live ∙ ap (λ (k : Kernel). is_live k.phase) (sym kernel) ∙ dead));
  }

  -- ---- the server takes a request

  module _ (live : is_live w.kernel.phase ≡ true) (k : ℕ) (r : Request) (at_k : slice_get w.requests k ≡ Some r) where
    now_held : (new : HeldRequest) → ((flags : ℕ) → new.body ≡ init flags → new.generations ≡ [])
        → (unique : ℕ) (t : HeldRequest) → get (put w.server.held r.unique new) unique ≡ Some t → (flags : ℕ)
        → t.body ≡ init flags → t.generations ≡ []
    now_held new names unique t at = elim (put_found w.server.held r.unique new unique t at) [
      | inl h ↦ subst (λ (x : HeldRequest). (flags : ℕ) → x.body ≡ init flags → x.generations ≡ []) h.1 names
      | inr h ↦ links.held unique t h
    ]

    now_marked : (original : ℕ) (t : HeldRequest) → get w.server.held original ≡ Some t
        → (unique : ℕ) (x : HeldRequest) → get (put w.server.held original (record t { marked = true })) unique
        ≡ Some x → (flags : ℕ) → x.body ≡ init flags → x.generations ≡ []
    now_marked original t there unique x at = elim (put_found w.server.held original
        (record t { marked = true }) unique x at) [
          | inl h ↦ subst (λ (y : HeldRequest). (flags : ℕ) → y.body ≡ init flags → y.generations ≡ []) h.1
              (links.held original t there)
          | inr h ↦ links.held unique x h
        ]

    old : InitAgreed w
    old = links.agreed live

    interrupts : (original : ℕ) → BearsNumber r.unique (interrupt original) → (h : Option HeldRequest)
        → get w.server.held original ≡ h → (o : Option Kept)
        → LinksSound (after_take w k r.unique (interrupting w.server r.unique original h o))
    interrupts original bears (Some t) there o =
        serves (after_take w k r.unique (interrupting w.server r.unique original (Some t) o)) live refl
        (now_marked original t there) refl (record { copies = old.copies; kept = old.kept })
    interrupts original bears None there (Some x) =
        serves (after_take w k r.unique (interrupting w.server r.unique original None
        (Some x))) live refl links.held refl (record { copies = old.copies; kept = old.kept })
    interrupts original bears None there None =
        serves (after_take w k r.unique (interrupting w.server r.unique original None None)) live refl links.held refl
        (record {
          copies = All-push (AgreesToInit w.server.minor) w.replies
              (record { number = w.server.next_copy; unique = r.unique; wire = failed 11 }) old.copies
              (λ e. absurd (omega (arith, e, bears)));
          kept = old.kept;
        })

    taken_links : LinksSound (after_take w k r.unique (taking w.server r.unique r.body))
    taken_links = let requests = sound.requests in by r.body
        (All-at (λ (x : Request). BearsNumber x.unique x.body) w.requests k r requests.numbers at_k)
      where
        same : InitAgreed w
        same = old

        by : (body : RequestBody) → BearsNumber r.unique body
            → LinksSound (after_take w k r.unique (taking w.server r.unique body))
        by (init offered) bears = serves (after_take w k r.unique (taking w.server r.unique (init offered))) live refl
            (now_held _ (λ flags e. refl)) refl (record { copies = same.copies; kept = same.kept })
        by (asks operation) bears = serves (after_take w k r.unique
            (taking w.server r.unique (asks operation))) live refl (now_held _ (λ flags e. absurd (cc (e)))) refl
            (record { copies = same.copies; kept = same.kept })
        by (release o) bears = serves (after_take w k r.unique (taking w.server r.unique (release o))) live refl
            (now_held _ (λ flags e. absurd (cc (e)))) refl (record { copies = same.copies; kept = same.kept })
        by (forget f) bears = serves (after_take w k r.unique
            (taking w.server r.unique (forget f))) live refl links.held refl
            (record { copies = same.copies; kept = same.kept })
        by (batch_forget fs) bears = serves (after_take w k r.unique
            (taking w.server r.unique (batch_forget fs))) live refl links.held refl
            (record { copies = same.copies; kept = same.kept })
        by (interrupt original) bears = interrupts original bears (get w.server.held original) refl
            (get w.server.kept original)

  -- ---- the server performs

  module _ (unique : ℕ) (t : HeldRequest) (there : get w.server.held unique ≡ Some t) where
    abbrev wire : WireReply
    wire = (served choice w.server unique t).wire

    abbrev first_kept : Kept
    first_kept = record { wire = wire; first = w.server.next_copy }

    still_held : (u : ℕ) (x : HeldRequest) → get (served choice w.server unique t).server.held u ≡ Some x → (flags : ℕ)
        → x.body ≡ init flags → x.generations ≡ []
    still_held u x at =
        let rest = performed_rest choice (record w.server { held = remove w.server.held unique }) t in
        links.held u x (left_found w.server.held unique u x
        (ap (λ (m : Map HeldRequest). get m u) (sym rest.held) ∙ at))

    aborted_same : (served choice w.server unique t).server.aborted ≡ w.server.aborted
    aborted_same = (performed_rest choice (record w.server { held = remove w.server.held unique }) t).aborted

    kept_is : (served choice w.server unique t).server.kept
        ≡ cond w.server.aborted w.server.kept (put w.server.kept unique first_kept)
    kept_is =
        let rest = performed_rest choice (record w.server { held = remove w.server.held unique }) t in
        λ i. cond (rest.aborted i) (rest.kept i) (put (rest.kept i) unique
        (record { wire = wire; first = rest.next_copy i }))

    minor_same : (served choice w.server unique t).server.minor ≡ w.server.minor
    minor_same = (performed_rest choice (record w.server { held = remove w.server.held unique }) t).minor

    -- where it is INIT
    says : is_live w.kernel.phase ≡ true → unique ≡ 2 → wire ≡ init_reply w.server.minor init_flags
    says live e =
        subst (λ (n : ℕ). (served choice w.server n t).wire ≡ init_reply w.server.minor init_flags) (sym e)
        (init_answered choice w links (asked live) t (subst (λ (n : ℕ). get w.server.held n ≡ Some t) e there))

    live_performs : is_live w.kernel.phase ≡ true → (b : Bool)
        → (served choice w.server unique t).server.kept ≡ cond b w.server.kept (put w.server.kept unique first_kept)
        → LinksSound (copy_put (record w {
          server =
              (served choice w.server unique t).server;
        }) w.server.next_copy unique (cond b None (Some wire)))
    live_performs live true kept =
        let old = links.agreed live in
        serves (record w { server = (served choice w.server unique t).server }) live refl still_held aborted_same
        (record {
          copies = subst (λ (m : Minor). All (AgreesToInit m) w.replies) (sym minor_same) old.copies;
          kept = λ x at. old.kept x (ap (λ (m : Map Kept). get m 2) (sym kept) ∙ at) ∙ ap
              (λ (m : Minor). init_reply m init_flags) (sym minor_same);
        })
    live_performs live false kept =
        let old = links.agreed live in
        serves (copy_put (record w { server = (served choice w.server unique t).server }) w.server.next_copy unique
        (Some wire)) live refl still_held aborted_same (record {
          copies = subst (λ (m : Minor). All (AgreesToInit m)
              (w.replies ++ record { number = w.server.next_copy; unique = unique; wire = wire } ∷ [])) (sym minor_same)
              (All-push (AgreesToInit w.server.minor) w.replies
              (record { number = w.server.next_copy; unique = unique; wire = wire }) old.copies (says live));
          kept = λ x at. elim (put_found w.server.kept unique first_kept 2 x
              (ap (λ (m : Map Kept). get m 2) (sym kept) ∙ at)) [
                | inl h ↦ ap (λ (y : Kept). y.wire) (sym h.1) ∙ says live (sym h.0) ∙ ap
                    (λ (m : Minor). init_reply m init_flags) (sym minor_same)
                | inr h ↦ old.kept x h ∙ ap (λ (m : Minor). init_reply m init_flags) (sym minor_same)
              ];
        })

    -- after an abort no request is received
    dead_performs : is_live w.kernel.phase ≡ false → w.server.aborted ≡ true → (b : Bool) → w.server.aborted ≡ b
        → (served choice w.server unique t).server.kept ≡ cond b w.server.kept (put w.server.kept unique first_kept)
        → LinksSound (copy_put (record w {
          server =
              (served choice w.server unique t).server;
        }) w.server.next_copy unique (cond b None (Some wire)))
    dead_performs dead knows false is kept = absurd (true≢false (sym knows ∙ is))
    dead_performs dead knows true is kept =
        let old = links.idle dead in
        record {
          held = still_held;
          serving = λ live. absurd (true≢false (sym live ∙ dead));
          agreed = λ live. absurd (true≢false (sym live ∙ dead));
          idle = λ _. record {
            requests = old.requests;
            replies = old.replies;
            results = old.results;
            kept = kept ∙ old.kept;
            server = inr (aborted_same ∙ knows);
          };
        }

    performed_links : LinksSound (after_perform w unique (served choice w.server unique t))
    performed_links = by (is_live w.kernel.phase) refl
      where
        by : (b : Bool) → is_live w.kernel.phase ≡ b → LinksSound
            (after_perform w unique (served choice w.server unique t))
        by true live = live_performs live w.server.aborted kept_is
        by false dead = elim ((links.idle dead).server) [
          | inl empty ↦ none_in w.server.held unique t empty there
          | inr knows ↦ dead_performs dead knows w.server.aborted refl kept_is
        ]

  -- ---- the other events

  settled_links : is_live w.kernel.phase ≡ true → (k : ℕ) (result : ReplyResult) (o : Option Copy)
      → LinksSound (after_settle w k result o)
  settled_links live k result None = let old = links.agreed live in
      serves (after_settle w k result None) live refl links.held refl (record { copies = old.copies; kept = old.kept })
  settled_links live k result (Some copy) = by result.result
    where
      less : Server
      less = record w.server {
        copies = remove w.server.copies result.number;
        kept = kept_after w.server.kept copy (get w.server.kept copy.unique);
      }

      old : InitAgreed w
      old = links.agreed live

      fewer : (x : Kept) → get (kept_after w.server.kept copy (get w.server.kept copy.unique)) 2 ≡ Some x
          → x.wire ≡ init_reply w.server.minor init_flags
      fewer x at = old.kept x (kept_was w.server.kept copy (get w.server.kept copy.unique) 2 x at)

      by : (r : WriteResult) → LinksSound (record w {
        results = without_at w.results k;
        server = after_result (record w.server {
          copies = remove w.server.copies result.number;
          kept = kept_after w.server.kept copy (get w.server.kept copy.unique);
        }) copy.wire r;
      })
      by Accepted = serves _ live refl links.held refl (record { copies = old.copies; kept = fewer })
      by NoEntry = serves _ live refl links.held refl (record { copies = old.copies; kept = fewer })
      by Invalid = serves _ live refl links.held refl (record { copies = old.copies; kept = fewer })

  -- The mount lives on as a reply is written.
  pub written_live : is_live w.kernel.phase ≡ true → (k : ℕ) (sent : Sent) → slice_get w.replies k ≡ Some sent
      → is_live (reply_written w.kernel sent.unique sent.wire).1.phase ≡ true
  written_live live k sent at_k = let old = links.agreed live in
      stays_live w.kernel (asked live).first live w.server.minor sent.unique sent.wire
      (All-at (AgreesToInit w.server.minor) w.replies k sent old.copies at_k)

  written_links : is_live w.kernel.phase ≡ true → (k : ℕ) (sent : Sent) → slice_get w.replies k ≡ Some sent
      → LinksSound (after_write w k sent (reply_written w.kernel sent.unique sent.wire))
  written_links live k sent at_k =
      let old = links.agreed live in
      record {
        held = links.held;
        serving = λ _. links.serving live;
        agreed = λ _. record {
          copies = All-without (AgreesToInit w.server.minor) w.replies k old.copies;
          kept = old.kept;
        };
        idle = λ dead. absurd (true≢false (sym (written_live live k sent at_k) ∙ dead));
      }

  again_links : is_live w.kernel.phase ≡ true → (unique : ℕ) (kept : Kept) → get w.server.kept unique ≡ Some kept
      → LinksSound (after_again w unique kept)
  again_links live unique kept there =
      let old = links.agreed live in
      serves (after_again w unique kept) live refl links.held refl (record {
        copies = All-push (AgreesToInit w.server.minor) w.replies
            (record { number = w.server.next_copy; unique = unique; wire = kept.wire }) old.copies
            (λ e. old.kept kept (subst (λ (n : ℕ). get w.server.kept n ≡ Some kept) e there));
        kept = old.kept;
      })

  -- what is on its way was sent by a live mount
  while_live : {Y : Type 0} → ((is_live w.kernel.phase ≡ true) → Y) → (IsIdle w → Y) → Y
  while_live {Y = Y} alive idle = by (is_live w.kernel.phase) refl
    where
      by : (b : Bool) → is_live w.kernel.phase ≡ b → Y
      by true live = alive live
      by false dead = idle (links.idle dead)

  by_event : (e : Event) (o : Outcome) (after : World) → Happened choice w e o after → LinksSound after
  by_event e o after (by_mount f m v idle) = record {
    held = λ unique t at. absurd (cc);
    serving = λ live. refl;
    agreed = λ live. record { copies = All-nil (AgreesToInit v); kept = λ x at. absurd (cc) };
    idle = λ dead. absurd (true≢false dead);
  }
  by_event e o after (by_call call ready room within) = let goes =
      begun_goes_on w.kernel (for_minor w.kernel.lists_files call) in
      goes_on after.kernel w.requests (ap is_live goes.phase) dead_requests
  by_event e o after (by_read_interrupt original rest live there within) =
      goes_on after.kernel after.requests refl (asks_live live after.requests)
  by_event e o after (by_read_forgets n live free can within few) =
      goes_on after.kernel after.requests refl (asks_live live after.requests)
  by_event e o after (by_read_pending k unique kept body live free there says within) =
      goes_on after.kernel after.requests refl (asks_live live after.requests)
  by_event e o after (by_take k r there within) = while_live (λ live. taken_links live k r there)
      (λ idle. none_at w.requests k r idle.requests there)
  by_event e o after (by_perform unique t there within) = performed_links unique t there
  by_event e o after (by_again unique kept there current within) =
      while_live (λ live. again_links live unique kept there)
      (λ idle. none_in w.server.kept unique kept idle.kept there)
  by_event e o after (by_write k sent there within) =
      while_live (λ live. written_links live k sent there) (λ idle. none_at w.replies k sent idle.replies there)
  by_event e o after (by_settle k result there) = while_live
      (λ live. settled_links live k result (get w.server.copies result.number))
      (λ idle. none_at w.results k result idle.results there)
  by_event e o after (by_signal call fatal state live there within) = let goes =
      signalled_goes_on w.kernel call state fatal in goes_on after.kernel w.requests
      (ap is_live goes.phase) dead_requests
  by_event e o after (by_tick ms timely) = goes_on after.kernel w.requests refl dead_requests
  by_event e o after (by_drop directory name bound live there) = goes_on after.kernel w.requests refl dead_requests
  by_event e o after (by_evict node counted live there unused) = goes_on after.kernel w.requests refl dead_requests
  by_event e o after (by_abort live) = record {
    held = links.held;
    serving = λ alive. absurd (true≢false (sym alive));
    agreed = λ alive. absurd (true≢false (sym alive));
    idle = λ dead. record { requests = refl; replies = refl; results = refl; kept = refl; server = inr refl };
  }

-- The links stay sound, whatever the event.
pub links_stay : (w : World) → WorldSound w → RequestsAskedWhileLive w → LinksSound w
    → (e : Event) (o : Outcome) (after : World) → Happens w e o after → LinksSound after
links_stay w sound asked links e o after h = by_event h.0 w sound asked links e o after (happened h.0 w o after e h.2)

pub first_links : LinksSound first_world
first_links = record {
  held = λ unique t at. absurd (cc);
  serving = λ live. absurd (true≢false (sym live));
  agreed = λ live. absurd (true≢false (sym live));
  idle = λ dead. record { requests = refl; replies = refl; results = refl; kept = refl; server = inl refl };
}
