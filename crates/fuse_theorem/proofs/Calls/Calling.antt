-- A call begins in both worlds.
use Rattle.std.proofs.Common.{◌≡◌, ℕ, ◌+◌, ◌≤◌, Bool, true, false, true≢false, not, ◌&&◌, cond, Option, Some, None, nat_eq, is_some, refl, ap, sym, subst, ◌∙◌, arith, All}
use Rattle.fuse_spec.specs.declared.Opened.{Opened}
use Rattle.std.proofs.lemmas.List.Elements.{All-nil}
use Rattle.fuse_spec.specs.declared.Purpose.{Purpose}
use Rattle.fuse_spec.specs.declared.Phase.{Phase}
use Rattle.fuse_spec.specs.declared.Phase.TheVariants.{Down, Starting, Ready, Aborted}
use Rattle.fuse_spec.specs.Values.Maps.{get, put}
use Rattle.fuse_spec.specs.Files.Operations.{Operation}
use Rattle.fuse_spec.specs.Calls.Calls.{Call, for_minor, lists_files_at}
use Rattle.fuse_spec.specs.Calls.Calls as call
use Rattle.fuse_spec.specs.Calls.Vfs.{Vfs, Advance, begun, after_beginning, numbered}
use Rattle.fuse_spec.specs.Calls.Begins.{closing}
use Rattle.fuse_spec.specs.Kernel.Queues.{QueueState, IsSound, empty_queues, pending}
use Rattle.fuse_spec.specs.Kernel.Kernel.{Kernel, is_live, is_aborted, asking_for, advanced, closing_of, closed_by}
use Rattle.fuse_spec.specs.World.Worlds.{World, after_call}
use Rattle.fuse_spec.specs.Kernel.Refusals.{is_ready}
use Rattle.fuse_spec.specs.World.Events as event
use Rattle.fuse_spec.specs.Reference.Plain.{Plain, Ask, going_on, plain_call_put}
use Rattle.fuse_spec.specs.Reference.PlainSteps.{Takes, where_so}
use Rattle.fuse_spec.specs.Claim.Denotes.{NodeDenotesIn, OpenDenotesIn}
use Rattle.fuse_spec.specs.Claim.Alike.{PurposeAsked, Alike}
use Rattle.fuse_theorem.specs.Numbering.{IsOneToOne, IsNumbered, IsNumberedWhileLive, requests_for}
use Rattle.fuse_theorem.proofs.Calls.Finding.{same_is, absent}
use Rattle.fuse_theorem.proofs.Calls.Starting.{begin_refines}
use Rattle.fuse_theorem.proofs.Calls.Advancing.{begun_alone}
use Rattle.fuse_theorem.proofs.Refining.Asking.{AlikeExceptCall, next_request_refines}
use Rattle.fuse_theorem.proofs.Refining.Releasing.{next_unasked, closing_alike, released_alike}

-- a call that closes an open file asks nothing
closing_asks_nothing : (c : Vfs Opened) (call : Call) (f : ℕ × Opened) → closed_by c.opens call ≡ Some f
    → (begun false c call).operation ≡ None
closing_asks_nothing c (call.close open_call) f e = by (get c.opens open_call)
  where
    by : (o : Option Opened) → (after_beginning (numbered c) c.next_call (closing open_call o)).operation ≡ None
    by None = refl
    by (Some o) = refl
closing_asks_nothing c other f e = absurd (cc)

-- Alike as an open file is closed.
closed_alike : (w : World) (p : Plain) → IsSound w.kernel.queues → is_live w.kernel.phase ≡ true → Alike w p
    → (f : ℕ × Opened) → Alike (record w { kernel = closing_of w.kernel (Some f) }) p
closed_alike w p sound live same f =
    let k = record w.kernel { closing = put w.kernel.closing f.0 f.1 } in
    released_alike (record w { kernel = k }) p sound
    (closing_alike w p sound same live (put w.kernel.closing f.0 f.1)) live f.0

pub live_if_ready : (phase : Phase) → is_ready phase ≡ true → is_aborted phase ≡ false → is_live phase ≡ true
live_if_ready Down r a = cc
live_if_ready Starting r a = refl
live_if_ready Ready r a = refl
live_if_ready Aborted r a = absurd (cc)

abbrev vfs_of : {O : Type 0} → Advance O → Vfs O
vfs_of next = next.vfs

-- the plain world has the call's number too, and this label is free
may_begin : (w : World) (p : Plain) → Alike w p → (label : ℕ) → get p.asks label ≡ None
    → (nat_eq w.kernel.vfs.next_call p.vfs.next_call && not (is_some (get p.asks label))) ≡ true
may_begin w p same label fresh = ap (λ (n : ℕ). nat_eq w.kernel.vfs.next_call n && not (is_some (get p.asks label)))
    (sym same.vfs.next_call)
    ∙ ap (λ (b : Bool). b && not (is_some (get p.asks label))) (same_is w.kernel.vfs.next_call) ∙ ap
    (λ (o : Option Ask). not (is_some o)) fresh

-- a mount on which calls are accepted, and that is not aborted, is ready
ready_is : (phase : Phase) → is_ready phase ≡ true → is_aborted phase ≡ false → phase ≡ Ready
ready_is Down ready live = absurd (cc)
ready_is Starting ready live = absurd (cc)
ready_is Ready ready live = refl
ready_is Aborted ready live = absurd (cc)

module _ (w : World) (p : Plain) (numbering : IsNumbered w) (one : IsOneToOne (NodeDenotesIn w)) (same : Alike w p) where
  pub none_new : requests_for w.kernel.vfs.next_call w.kernel.queues ≡ 0
  none_new =
      let c = w.kernel.vfs.next_call in
      let few : requests_for c w.kernel.queues ≤ 0 = subst (λ (b : Bool). requests_for c w.kernel.queues ≤ cond b 1 0)
      (ap is_some (numbering.calls_below c (omega arith))) (numbering.one_request c) in
      omega (arith, few)

  paused_new : AlikeExceptCall w p w.kernel.vfs.next_call
  paused_new = record {
    none_for = none_new;
    requests = same.requests;
    asks = λ live.
        let old = same.asks live in
        record {
          of_calls = λ q state ne at. old.of_calls q state at;
          no_other = old.no_other;
          signalled = old.signalled;
          kept = old.kept;
          copies = old.copies;
        };
  }

  call_alike : (call : Call) (label : ℕ) (b : Bool) → is_ready w.kernel.phase ≡ true → is_aborted w.kernel.phase ≡ b
      → (b ≡ false → label ≡ w.kernel.queues.next)
      → Alike (record w {
        kernel = closing_of (advanced w.kernel w.kernel.vfs.next_call (begun b w.kernel.vfs call))
            (cond b None (closed_by w.kernel.vfs.opens call));
      })
      (going_on p label w.kernel.vfs.next_call (begun b p.vfs call))
  call_alike call label true ready is labelled =
      next_request_refines w p w.kernel.vfs.next_call numbering paused_new one same.tree same.validity same.minor same.agreed
      (w.kernel.vfs.next_call + 1) (begun true w.kernel.vfs call) (begun true p.vfs call)
      (begin_refines (NodeDenotesIn w) (OpenDenotesIn w) one w.kernel.vfs p.vfs same.vfs true call)
      (begun_alone true w.kernel.vfs call) (λ a e. absurd (cc)) same.aborted
  call_alike call label false ready is labelled =
      subst (λ (l : ℕ). Alike (record w { kernel = closing_of (advanced k c0 next) (closed_by k.vfs.opens call) })
      (going_on p l c0 (begun false p.vfs call))) (sym (labelled refl))
      (by (closed_by k.vfs.opens call) refl)
    where
      k : Kernel
      k = w.kernel

      c0 : ℕ
      c0 = k.vfs.next_call

      next : Advance Opened
      next = begun false k.vfs call

      q : Plain
      q = going_on p k.queues.next c0 (begun false p.vfs call)

      live : is_live k.phase ≡ true
      live = live_if_ready k.phase ready is

      went : Alike (record w { kernel = advanced k c0 next }) q
      went =
          next_request_refines w p c0 numbering paused_new one same.tree same.validity same.minor same.agreed (c0 + 1) next
          (begun false p.vfs call)
          (begin_refines (NodeDenotesIn w) (OpenDenotesIn w) one k.vfs p.vfs same.vfs false call) (begun_alone false k.vfs call)
          (λ a e. live) same.aborted

      by : (o : Option (ℕ × Opened)) → closed_by k.vfs.opens call ≡ o
          → Alike (record w { kernel = closing_of (advanced k c0 next) o }) q
      by None e = went
      by (Some f) e =
          let quiet : advanced k c0 next ≡ record k { vfs = next.vfs } =
          ap (λ (o : Option (Operation ℕ Opened)). asking_for (record k { vfs = next.vfs }) c0 o)
          (closing_asks_nothing k.vfs call f e) in
          subst (λ (l : Kernel). Alike (record w { kernel = closing_of l (Some f) }) q) (sym quiet)
          (closed_alike (record w { kernel = record k { vfs = next.vfs } }) q numbering.queues live
          (subst (λ (l : Kernel). Alike (record w { kernel = l }) q) quiet went) f)

  -- Both put the call alike, where it is put at all.
  put_alike : (call : Call) (b : Bool) → is_ready w.kernel.phase ≡ true → is_aborted w.kernel.phase ≡ b
      → begun b p.vfs (for_minor w.kernel.lists_files call) ≡ begun b p.vfs (for_minor (lists_files_at p.minor) call)
  put_alike call true ready is = refl
  put_alike call false ready is = ap (λ (lists : Bool). begun false p.vfs (for_minor lists call))
      (same.agreed (ready_is w.kernel.phase ready is)).1

  goes_under : (call : Call) (label : ℕ) → is_ready w.kernel.phase ≡ true → get p.asks label ≡ None
      → (is_aborted w.kernel.phase ≡ false → label ≡ w.kernel.queues.next)
      → (q : Plain) × Takes p (event.call call) (event.begun w.kernel.vfs.next_call) q × Alike (after_call w call) q
  goes_under call label ready fresh labelled =
      let put = for_minor (lists_files_at p.minor) call in (
        plain_call_put p label call,
        (label, ap (λ (b : Bool). where_so b (plain_call_put p label call)) (may_begin w p same label fresh)),
        subst (λ (b : Bool). Alike (after_call w call) (going_on p label p.vfs.next_call
            (begun b p.vfs put))) same.aborted
            (subst (λ (n : ℕ). Alike (after_call w call) (going_on p label n
            (begun (is_aborted w.kernel.phase) p.vfs put))) same.vfs.next_call
            (subst (λ (went : Advance ℕ). Alike (after_call w call) (going_on p label w.kernel.vfs.next_call went))
            (put_alike call (is_aborted w.kernel.phase) ready refl)
            (call_alike (for_minor w.kernel.lists_files call) label (is_aborted w.kernel.phase) ready refl labelled))),
      )

  -- A call begins: after that the two are alike again.
  pub call_goes : (call : Call) → is_ready w.kernel.phase ≡ true
      → (q : Plain) × Takes p (event.call call) (event.begun w.kernel.vfs.next_call) q × Alike (after_call w call) q
  call_goes call ready = by (is_aborted w.kernel.phase) refl
    where
      by : (b : Bool) → is_aborted w.kernel.phase ≡ b → (q : Plain)
          × Takes p (event.call call) (event.begun w.kernel.vfs.next_call) q × Alike (after_call w call) q
      by false e = goes_under call w.kernel.queues.next ready
          (next_unasked w p numbering.queues same (live_if_ready w.kernel.phase ready e)) (λ z. refl)
      by true e = let free = absent p.asks in goes_under call free.0 ready free.1 (λ z. absurd (true≢false (sym e ∙ z)))

-- ---- after an abort

not_live : (phase : Phase) → is_aborted phase ≡ true → is_live phase ≡ false
not_live Down aborted = refl
not_live Starting aborted = sym aborted
not_live Ready aborted = sym aborted
not_live Aborted aborted = refl

module _ (w : World) (p : Plain) (one : IsOneToOne (NodeDenotesIn w)) (same : Alike w p) (call : Call)
    (aborted : is_aborted w.kernel.phase ≡ true) (idle : w.kernel.queues ≡ empty_queues) where
  abbrev answered_kernel : Kernel
  answered_kernel = record w.kernel { vfs = vfs_of (begun true w.kernel.vfs call) }

  abbrev answered_plain : Plain
  answered_plain = record p { vfs = vfs_of (begun true p.vfs call) }

  -- The call is answered at once, in both worlds.
  answered_alike : Alike (record w { kernel = answered_kernel }) answered_plain
  answered_alike =
      let begins = begin_refines (NodeDenotesIn w) (OpenDenotesIn w) one w.kernel.vfs p.vfs same.vfs true call in
      record {
        tree = same.tree;
        vfs = begins.vfs;
        requests = record {
          pending = subst (λ (q : QueueState Purpose). All
              (PurposeAsked (record w { kernel = answered_kernel }) answered_plain) (pending q)) (sym idle)
              (All-nil (PurposeAsked (record w { kernel = answered_kernel }) answered_plain));
          sent = same.requests.sent;
          held = same.requests.held;
        };
        asks = λ live. absurd (true≢false (sym live ∙ not_live w.kernel.phase aborted));
        validity = same.validity;
        minor = same.minor;
        agreed = same.agreed;
        aborted = same.aborted;
      }

  answered_goes : (q : Plain) × Takes p (event.call call) (event.begun w.kernel.vfs.next_call) q
      × Alike (after_call w call) q
  answered_goes =
      let free = absent p.asks in
      let plain_aborted : p.aborted ≡ true = sym same.aborted ∙ aborted in (
        plain_call_put p free.0 call,
        (free.0, ap (λ (b : Bool). where_so b (plain_call_put p free.0 call)) (may_begin w p same free.0 free.1)),
        subst (λ (b : Bool). Alike (after_call w call) (going_on p free.0 p.vfs.next_call
            (begun b p.vfs (for_minor (lists_files_at p.minor) call)))) (sym plain_aborted)
            (subst (λ (b : Bool). Alike (record w {
              kernel =
                  closing_of (advanced w.kernel w.kernel.vfs.next_call
                  (begun b w.kernel.vfs (for_minor w.kernel.lists_files call)))
                  (cond b None (closed_by w.kernel.vfs.opens (for_minor w.kernel.lists_files call)));
            }) answered_plain)
            (sym aborted) answered_alike),
      )

-- A call begins, live or after an abort: after that the two are alike again.
pub call_goes_always : (w : World) (p : Plain) → IsNumberedWhileLive w → IsOneToOne (NodeDenotesIn w) → Alike w p
    → (call : Call) → is_ready w.kernel.phase ≡ true
    → (q : Plain) × Takes p (event.call call) (event.begun w.kernel.vfs.next_call) q × Alike (after_call w call) q
call_goes_always w p numbered one same call ready = by (is_aborted w.kernel.phase) refl
  where
    by : (b : Bool) → is_aborted w.kernel.phase ≡ b → (q : Plain)
        × Takes p (event.call call) (event.begun w.kernel.vfs.next_call) q × Alike (after_call w call) q
    by true e = answered_goes w p one same call e (numbered.idle (not_live w.kernel.phase e))
    by false e = call_goes w p (numbered.live (live_if_ready w.kernel.phase ready e)) one same call ready
