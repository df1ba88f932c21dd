-- While one call takes a step, all else stays alike; what the call then asks is queued by the kernel and put by the
-- plain world.
use Rattle.fuse_spec.specs.declared.Phase.TheVariants.{Ready}
use Rattle.fuse_spec.specs.Calls.Calls.{lists_files_at}
use Rattle.std.proofs.Common.{◌≡◌, ◌≢◌, ℕ, Bool, true, false, true≢false, [], ◌∷◌, ◌++◌, Option, Some, None, nat_eq, find, option_map, refl, ap, sym, subst, ◌∙◌, arith, inl, inr, All, get_or}
use Rattle.std.specs.Prelude.{MatchOption}
use Rattle.std.proofs.lemmas.Bool.{cases_eq}
use Rattle.std.proofs.lemmas.List.Elements.{All-push}
use Rattle.fuse_spec.specs.declared.Opened.{Opened}
use Rattle.fuse_spec.specs.declared.Purpose.{Purpose}
use Rattle.fuse_spec.specs.declared.Purpose.TheVariants as purpose
use Rattle.fuse_spec.specs.declared.Mark.TheVariants.{Unread}
use Rattle.fuse_spec.specs.declared.QueuedRequest.{QueuedRequest}
use Rattle.fuse_spec.specs.Values.Maps.{Map, get, put}
use Rattle.fuse_spec.specs.Files.Operations.{Operation, OptionAlike, OperationAlike}
use Rattle.fuse_spec.specs.Calls.Vfs.{CallState, asked, Advance}
use Rattle.fuse_spec.specs.Kernel.Queues.{QueueState, pending, request_under, is_unread, is_signalled, IsSound}
use Rattle.fuse_spec.specs.Kernel.QueueCalls.{after_enqueue}
use Rattle.fuse_spec.specs.Kernel.Messages.{RequestBody, init, asks, release, forget, batch_forget, interrupt}
use Rattle.fuse_spec.specs.Kernel.Kernel.{Kernel, is_live, is_aborted, body_of, asked_by, is_for, request_of, asking_for, advanced}
use Rattle.fuse_spec.specs.Server.Server.{Kept}
use Rattle.fuse_spec.specs.World.Worlds.{World, Sent}
use Rattle.fuse_spec.specs.Reference.Plain.{Plain, Ask, waiting, ask_put, going_on}
use Rattle.fuse_spec.specs.Claim.Denotes.{NodeDenotesIn, OpenDenotesIn}
use Rattle.fuse_spec.specs.Claim.Alike.{TreeAlike, RequestBodyAsked, PurposeAsked, RequestsAlike, IsPaired, IsStageReplied, Alike}
use Rattle.fuse_spec.proofs.Tables.{get_put_here, get_put_there}
use Rattle.fuse_spec.proofs.QueueSoundness.{lookup-next}
use Rattle.fuse_spec.proofs.QueueReadings.{pending-enqueue, request_under-enqueue, request_under-enqueue_other}
use Rattle.fuse_theorem.specs.Numbering.{IsOneToOne, IsNumbered, requests_for}
use Rattle.fuse_theorem.proofs.Calls.Finding.{same_is, other_is, no_key, none_passes, All-filter, find_first, find_last, found_key}
use Rattle.fuse_theorem.proofs.Calls.RepliesReach.{AdvanceAlike}
use Rattle.fuse_theorem.proofs.Calls.Advancing.{WaitsFor, StepsAlone}

-- In a live mount, what AsksAlike says, but for one call.
pub record AsksAlikeBut (w : World) (p : Plain) (call : ℕ) : Type 0 where
  pub of_calls : (q : ℕ) (state : CallState Opened) → q ≢ call → get w.kernel.vfs.calls q ≡ Some state
      → IsPaired w p q state
  pub no_other : (unique : ℕ) (ask : Ask) → get p.asks unique ≡ Some ask → request_of w.kernel ask.call ≡ Some unique
  pub signalled : (unique : ℕ) (request : QueuedRequest Purpose) (ask : Ask)
      → request_under w.kernel.queues unique ≡ Some request → get p.asks unique ≡ Some ask
      → is_signalled request.mark ≡ true → ask.noted ≡ true
  pub kept : (unique : ℕ) (kept : Kept) (ask : Ask) → get w.server.kept unique ≡ Some kept
      → get p.asks unique ≡ Some ask → IsStageReplied w.server.nodes w.server.handles ask.stage kept.wire
  pub copies : All (λ (sent : Sent). (ask : Ask) → get p.asks sent.unique ≡ Some ask
      → IsStageReplied w.server.nodes w.server.handles ask.stage sent.wire) w.replies

-- All is alike but for one call, for which no request is queued.
pub record AlikeExceptCall (w : World) (p : Plain) (call : ℕ) : Type 0 where
  pub none_for : requests_for call w.kernel.queues ≡ 0
  pub requests : RequestsAlike w p
  pub asks : is_live w.kernel.phase ≡ true → AsksAlikeBut w p call

pub match_more : {X : Type 0} {P Q : X → Type 0} (o : Option X) → ((x : X) → P x → Q x) → MatchOption o ⊥ P
    → MatchOption o ⊥ Q
match_more None f h = h
match_more (Some x) f h = f x h

-- no request has the coming number
pub next_is_new : (s : QueueState Purpose) → IsSound s → (u : ℕ) (f : ℕ × QueuedRequest Purpose → Bool)
    → option_map (λ e. e.0) (find f s.requests) ≡ Some u → u ≢ s.next
next_is_new s sound u f found same = found_key f s.requests u found
    (subst (λ (n : ℕ). request_under s n ≡ None) (sym same) (lookup-next s sound))

-- an ask under another label leaves what is asked under this one
pub asked_beside : (R : ℕ → ℕ → Type 0) (S : Opened → ℕ → Type 0) (all : Map Ask) (label : ℕ) (ask : Ask) (unique : ℕ)
    (signalled marked : Bool) (body : RequestBody) → unique ≢ label
    → RequestBodyAsked all unique signalled marked R S body
    → RequestBodyAsked (put all label ask) unique signalled marked R S body
asked_beside R S all label ask unique signalled marked (asks operation) ne old =
    record {
      ask = old.ask;
      there = get_put_there all label ask unique ne ∙ old.there;
      is_waiting = old.is_waiting;
      same = old.same;
    }
asked_beside R S all label ask unique signalled marked (init flags) ne old = get_put_there all label ask unique ne ∙ old
asked_beside R S all label ask unique signalled marked (release o) ne old = get_put_there all label ask unique ne ∙ old
asked_beside R S all label ask unique signalled marked (forget f) ne old = get_put_there all label ask unique ne ∙ old
asked_beside R S all label ask unique signalled marked (batch_forget fs) ne old =
    get_put_there all label ask unique ne ∙ old
asked_beside R S all label ask unique signalled marked (interrupt original) ne old =
    get_put_there all label ask unique ne ∙ old

-- what a request that serves another call asks stays
pub body_beside : (k l : Kernel) (call : ℕ) (kept : Purpose)
    → ((q : ℕ) → q ≢ call → get l.vfs.calls q ≡ get k.vfs.calls q) → is_for call kept ≡ false
    → body_of l kept ≡ body_of k kept
body_beside k l call purpose.Init others other = refl
body_beside k l call (purpose.Release o) others other = refl
body_beside k l call (purpose.Call q) others other =
    ap asked_by (others q (λ same. true≢false (sym (subst (λ (n : ℕ). nat_eq n call ≡ true) (sym same)
    (same_is call)) ∙ other)))

module _ (w : World) (p : Plain) (call : ℕ) (numbered : IsNumbered w) (paused : AlikeExceptCall w p call) where
  abbrev Mean : ℕ → ℕ → Type 0
  Mean = NodeDenotesIn w

  abbrev MeanOpen : Opened → ℕ → Type 0
  MeanOpen = OpenDenotesIn w

  others_pending : All (λ (e : ℕ × QueuedRequest Purpose). is_for call e.1.kept ≡ false) (pending w.kernel.queues)
  others_pending = All-filter (λ (e : ℕ × QueuedRequest Purpose). is_unread e.1.mark)
      (λ (e : ℕ × QueuedRequest Purpose). is_for call e.1.kept ≡ false) w.kernel.queues.requests
      (none_passes (λ (e : ℕ × QueuedRequest Purpose). is_for call e.1.kept) w.kernel.queues.requests paused.none_for)

  pending_apart : All (λ (e : ℕ × QueuedRequest Purpose). e.0 ≢ w.kernel.queues.next) (pending w.kernel.queues)
  pending_apart = All-filter (λ (e : ℕ × QueuedRequest Purpose). is_unread e.1.mark)
      (λ (e : ℕ × QueuedRequest Purpose). e.0 ≢ w.kernel.queues.next) w.kernel.queues.requests
      (no_key w.kernel.queues.next w.kernel.queues.requests (lookup-next w.kernel.queues numbered.queues))

  module _ (one : IsOneToOne (NodeDenotesIn w)) (tree : TreeAlike w.server p.tree)
      (validity : w.server.validity ≡ p.validity) (minor : w.server.minor ≡ p.minor)
      (agreed : w.kernel.phase ≡ Ready → (w.kernel.minor ≡ p.minor)
      × (w.kernel.lists_files ≡ lists_files_at p.minor)) where
    -- The step of a call that is answered.
    pub answered_goes : (coming : ℕ) (c : Advance Opened) (d : Advance ℕ) → AdvanceAlike Mean MeanOpen one c d
        → StepsAlone w.kernel.vfs.calls coming call c → c.operation ≡ None → d.operation ≡ None
        → is_aborted w.kernel.phase ≡ p.aborted → Alike (record w { kernel = record w.kernel { vfs = c.vfs } })
        (record p { vfs = d.vfs })
    answered_goes coming c d same alone none_c none_d aborted =
        let k = record w.kernel { vfs = c.vfs } in
        let gone : get c.vfs.calls call ≡ None = subst (λ
        (o : Option (Operation ℕ Opened)). WaitsFor c.vfs.calls call o) none_c alone.here in
        record {
          tree = tree;
          vfs = same.vfs;
          requests = record {
            pending = λ i e lt.
                let entry = get_or (pending w.kernel.queues) i e in
                subst (λ (o : Option RequestBody). MatchOption o ⊥
                (RequestBodyAsked p.asks entry.0 (is_signalled entry.1.mark) false Mean MeanOpen))
                (sym (body_beside w.kernel k call entry.1.kept alone.others (others_pending i e lt)))
                (paused.requests.pending i e lt);
            sent = paused.requests.sent;
            held = paused.requests.held;
          };
          asks = λ live.
              let old = paused.asks live in
              record {
                of_calls = λ q state at. elim (cases_eq q call) [
                  | inl e ↦ absurd (cc (subst (λ (n : ℕ). get c.vfs.calls n ≡ Some state) e at, gone))
                  | inr ne ↦
                      let pair = old.of_calls q state ne (sym (alone.others q ne) ∙ at) in
                      record {
                        unique = pair.unique;
                        ask = pair.ask;
                        request = pair.request;
                        there = pair.there;
                        by = pair.by;
                        same = pair.same;
                      }
                ];
                no_other = old.no_other;
                signalled = old.signalled;
                kept = old.kept;
                copies = old.copies;
              };
          validity = validity;
          minor = minor;
          agreed = agreed;
          aborted = aborted;
        }

    -- The step of a call that asks an operation. The kernel queues it, and the plain world puts it under the coming
    -- number.
    pub asking_goes : (coming : ℕ) (c : Advance Opened) (d : Advance ℕ) → AdvanceAlike Mean MeanOpen one c d
        → StepsAlone w.kernel.vfs.calls coming call c → (a : Operation ℕ Opened) (b : Operation ℕ ℕ)
        → c.operation ≡ Some a → d.operation ≡ Some b
        → is_live w.kernel.phase ≡ true → is_aborted w.kernel.phase ≡ p.aborted
        → Alike (record w {
          kernel = record w.kernel {
            vfs = c.vfs;
            queues = after_enqueue w.kernel.queues (purpose.Call call);
          };
        })
        (record p {
          vfs = d.vfs;
          asks = put p.asks w.kernel.queues.next
              (record { call = call; operation = b; stage = waiting; noted = false; marked = false });
        })
    asking_goes coming c d same alone a b some_c some_d live aborted =
        let q0 = w.kernel.queues in
        let k = record w.kernel { vfs = c.vfs; queues = after_enqueue q0 (purpose.Call call) } in
        let n = q0.next in
        let ask : Ask = record { call = call; operation = b; stage = waiting; noted = false; marked = false } in
        let asks' = put p.asks n ask in
        let old = paused.asks live in
        let waits : WaitsFor c.vfs.calls call (Some a) =
        subst (λ (o : Option (Operation ℕ Opened)). WaitsFor c.vfs.calls call o) some_c alone.here in
        let alike : OperationAlike Mean MeanOpen a b =
        subst (λ (o : Option (Operation ℕ ℕ)). OptionAlike (OperationAlike Mean MeanOpen) (Some a) o) some_d
        (subst (λ (o : Option (Operation ℕ Opened)). OptionAlike
        (OperationAlike Mean MeanOpen) o d.operation) some_c same.operation) in
        let new : QueuedRequest Purpose = record { mark = Unread; kept = purpose.Call call } in
        let there : get asks' n ≡ Some ask = get_put_here p.asks n ask in
        let found : find (λ (e : ℕ × QueuedRequest Purpose). is_for call e.1.kept) (q0.requests ++ (n, new) ∷ [])
        ≡ Some (n, new) =
        find_last (λ (e : ℕ × QueuedRequest Purpose). is_for call e.1.kept) q0.requests (n, new) paused.none_for
        (same_is call) in
        let stays : (q u : ℕ) → request_of w.kernel q ≡ Some u → request_of k q ≡ Some u =
        λ q u e. find_first (λ (x : ℕ × QueuedRequest Purpose). is_for q x.1.kept)
        (λ (x : ℕ × QueuedRequest Purpose). x.0) q0.requests ((n, new) ∷ []) u e in
        let apart : (q u : ℕ) → request_of w.kernel q ≡ Some u → u ≢ n =
        λ q u e. next_is_new q0 numbered.queues u (λ (x : ℕ × QueuedRequest Purpose). is_for q x.1.kept) e in
        record {
          tree = tree;
          vfs = same.vfs;
          requests = record {
            pending = subst (All (PurposeAsked (record w { kernel = k }) (record p { vfs = d.vfs; asks = asks' })))
                (sym (pending-enqueue q0 (purpose.Call call)))
                (All-push (PurposeAsked (record w { kernel = k }) (record p { vfs = d.vfs; asks = asks' }))
                (pending q0) (n, new)
                (λ i e lt.
                let entry = get_or (pending q0) i e in
                subst (λ (o : Option RequestBody). MatchOption o ⊥
                (RequestBodyAsked asks' entry.0 (is_signalled entry.1.mark) false Mean MeanOpen))
                (sym (body_beside w.kernel k call entry.1.kept alone.others (others_pending i e lt)))
                (match_more (body_of w.kernel entry.1.kept) (λ body h. asked_beside Mean MeanOpen p.asks n ask entry.0
                (is_signalled entry.1.mark) false body (pending_apart i e lt) h) (paused.requests.pending i e lt)))
                (subst (λ (o : Option RequestBody). MatchOption o ⊥
                (RequestBodyAsked asks' n false false Mean MeanOpen))
                (sym (ap asked_by waits.1 ∙ ap (λ (x : Operation ℕ Opened). Some (asks x)) waits.2))
                (record {
                  ask = ask;
                  there = there;
                  is_waiting =
                      record { stage = refl; noted = λ z. absurd (cc); marked_too = refl };
                  same = alike;
                })));
            sent = λ i r lt.
                let request = get_or w.requests i r in
                let low = numbered.sent_below i r lt in
                asked_beside Mean MeanOpen p.asks n ask request.unique false false request.body
                (λ e. absurd (omega (arith, low, e))) (paused.requests.sent i r lt);
            held = λ u t at.
                let low = numbered.held_below live u t at in
                asked_beside _ _ p.asks n ask u false t.marked t.body (λ e. absurd (omega (arith, low, e)))
                (paused.requests.held u t at);
          };
          asks = λ _.
              record {
                of_calls = λ q state at. elim (cases_eq q call) [
                  | inl e ↦
                      let here : get c.vfs.calls call ≡ Some state = subst
                      (λ (x : ℕ). get c.vfs.calls x ≡ Some state) e at in
                      let is_state : waits.0 ≡ state = cc in
                      record {
                        unique = n;
                        ask = ask;
                        request = subst (λ (x : ℕ). request_of k x ≡ Some n) (sym e)
                            (ap (λ (o : Option (ℕ × QueuedRequest Purpose)). option_map (λ z. z.0) o) found);
                        there = there;
                        by = sym e;
                        same = subst (λ (x : Operation ℕ Opened). OperationAlike Mean MeanOpen x b)
                            (sym waits.2 ∙ ap asked is_state) alike;
                      }
                  | inr ne ↦
                      let pair = old.of_calls q state ne (sym (alone.others q ne) ∙ at) in
                      record {
                        unique = pair.unique;
                        ask = pair.ask;
                        request = stays q pair.unique pair.request;
                        there = get_put_there p.asks n ask pair.unique (apart q pair.unique pair.request) ∙ pair.there;
                        by = pair.by;
                        same = pair.same;
                      }
                ];
                no_other = λ u x at. elim (cases_eq u n) [
                  | inl e ↦
                      let is_ask : ask ≡ x = cc (there, subst (λ (m : ℕ). get asks' m ≡ Some x) e at) in
                      subst (λ (m : ℕ). request_of k x.call ≡ Some m) (sym e)
                      (subst (λ (y : Ask). request_of k y.call ≡ Some n) is_ask
                      (ap (λ (o : Option (ℕ × QueuedRequest Purpose)). option_map (λ z. z.0) o) found))
                  | inr ne ↦ stays x.call u (old.no_other u x (sym (get_put_there p.asks n ask u ne) ∙ at))
                ];
                signalled = λ u request x under at bears. elim (cases_eq u n) [
                  | inl e ↦
                      let is_new : new ≡ request = cc (
                        request_under-enqueue q0 (purpose.Call call) numbered.queues,
                        subst (λ (m : ℕ). request_under k.queues m ≡ Some request) e under,
                      ) in
                      absurd (true≢false (sym bears ∙ ap (λ (y : QueuedRequest Purpose). is_signalled y.mark)
                      (sym is_new)))
                  | inr ne ↦
                      old.signalled u request x (sym (request_under-enqueue_other q0 (purpose.Call call) u
                      (other_is u n ne)) ∙ under) (sym (get_put_there p.asks n ask u ne) ∙ at) bears
                ];
                kept = λ u kept x there_kept at.
                    let low = numbered.kept_below live u kept there_kept in
                    old.kept u kept x there_kept (sym (get_put_there p.asks n ask u
                    (λ e. absurd (omega (arith, low, e)))) ∙ at);
                copies = λ i s lt x at.
                    let sent = get_or w.replies i s in
                    let low = numbered.replies_below i s lt in
                    old.copies i s lt x (sym (get_put_there p.asks n ask sent.unique
                    (λ e. absurd (omega (arith, low, e)))) ∙ at);
              };
          validity = validity;
          minor = minor;
          agreed = agreed;
          aborted = aborted;
        }

    -- The step of a call, whether it is answered or asks an operation. Only a live mount is asked.
    pub next_request_refines : (coming : ℕ) (c : Advance Opened) (d : Advance ℕ) → AdvanceAlike Mean MeanOpen one c d
        → StepsAlone w.kernel.vfs.calls coming call c
        → ((a : Operation ℕ Opened) → c.operation ≡ Some a → is_live w.kernel.phase ≡ true)
        → is_aborted w.kernel.phase ≡ p.aborted
        → Alike (record w { kernel = advanced w.kernel call c }) (going_on p w.kernel.queues.next call d)
    next_request_refines coming c d same alone asked_live aborted = by c.operation d.operation refl refl same.operation
      where
        by : (o : Option (Operation ℕ Opened)) (o' : Option (Operation ℕ ℕ)) → c.operation ≡ o → d.operation ≡ o'
            → OptionAlike (OperationAlike Mean MeanOpen) o o'
            → Alike (record w { kernel = asking_for (record w.kernel { vfs = c.vfs }) call o })
            (ask_put (record p { vfs = d.vfs }) w.kernel.queues.next call o')
        by None None e e' h = answered_goes coming c d same alone e e' aborted
        by (Some a) (Some b) e e' h = asking_goes coming c d same alone a b e e' (asked_live a e) aborted
        by None (Some b) e e' h = absurd h
        by (Some a) None e e' h = absurd h
