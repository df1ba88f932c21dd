-- How a world without a live mount came about: by an abort, or from such a world by an event that moves little.
use Rattle.std.proofs.Common.{◌≡◌, ℕ, Bool, true, false, true≢false, not, ◌||◌, cond, [], Option, Some, None, refl, ap, sym, subst, ◌∙◌, inl, inr}
use Rattle.std.specs.List.{remove as without_at}
use Rattle.fuse_spec.specs.declared.Opened.{Opened}
use Rattle.fuse_spec.specs.declared.Phase.{Phase}
use Rattle.fuse_spec.specs.declared.Phase.TheVariants.{Down, Starting, Ready, Aborted}
use Rattle.fuse_spec.specs.Calls.Calls.{Call, for_minor}
use Rattle.fuse_spec.specs.Values.Maps.{Map, get, remove}
use Rattle.fuse_spec.specs.Kernel.Messages.{WireReply}
use Rattle.fuse_spec.specs.Calls.Vfs.{CallState, begun}
use Rattle.fuse_spec.specs.Kernel.Kernel.{Kernel, is_live, is_aborted, call_begun, closing_of, closed_by, advanced}
use Rattle.fuse_spec.specs.Server.Nodes.{MayChoose}
use Rattle.fuse_spec.specs.Server.Server.{HeldRequest}
use Rattle.fuse_spec.specs.Server.Taking.{taking}
use Rattle.fuse_spec.specs.Server.Performs.{is_still_held, served, files_by, files_given}
use Rattle.fuse_spec.specs.World.Worlds.{World, copy_put, after_perform, after_abort}
use Rattle.fuse_spec.specs.World.Events.{Event, Outcome}
use Rattle.fuse_spec.specs.Kernel.Refusals.{is_ready}
use Rattle.fuse_theorem.specs.AskedRequests.{RequestsAskedWhileLive}
use Rattle.fuse_theorem.specs.Links.{LinksSound}
use Rattle.fuse_theorem.specs.WorldSound.{WorldSound}
use Rattle.fuse_theorem.proofs.Calls.CallsContinue.{begun_goes_on, signalled_goes_on}
use Rattle.fuse_theorem.proofs.RefusalCases.Happened.{Happened, by_mount, by_call, by_read_interrupt, by_read_forgets, by_read_pending, by_take, by_perform, by_again, by_write, by_settle, by_signal, by_tick, by_drop, by_evict, by_abort}
use Rattle.fuse_theorem.proofs.Requests.LinksSound.{none_at, none_in, written_live}
use Rattle.fuse_theorem.proofs.Requests.NumbersStay.{replying_kernel}
use Rattle.fuse_theorem.proofs.Lookups.PerformedCounts.{performed_counts}

-- The kernel has no unanswered call and no open file where it had none.
pub record KeptEmpty (k l : Kernel) : Type 0 where
  pub calls : k.vfs.calls ≡ [] → l.vfs.calls ≡ []
  pub opens : k.vfs.opens ≡ [] → l.vfs.opens ≡ []

pub data WithoutMount (choice : ℕ → ℕ) (w : World) : World → Type 0 where
  by_loss : is_live w.kernel.phase ≡ true → WithoutMount choice w (after_abort w)
  by_kernel : (v : World) → is_live w.kernel.phase ≡ false → v.server ≡ w.server → KeptEmpty w.kernel v.kernel
      → WithoutMount choice w v
  by_serving : (unique : ℕ) (t : HeldRequest) → is_live w.kernel.phase ≡ false → w.server.aborted ≡ true
      → get w.server.held unique ≡ Some t → WithoutMount choice w
      (after_perform w unique (served choice w.server unique t))

-- A call that begins after an abort is answered at once.
begun_empty : (k : Kernel) (call : Call) → is_ready k.phase ≡ true → is_live k.phase ≡ false
    → KeptEmpty k (call_begun k call)
begun_empty k call ready dead =
    let begins : Bool → Kernel = λ b. closing_of (advanced k k.vfs.next_call (begun b k.vfs call))
    (cond b None (closed_by k.vfs.opens call)) in
    let lost = aborted k.phase ready dead in
    record {
      calls = λ none. ap (λ (b : Bool). (begins b).vfs.calls) lost ∙ ap
          (λ (m : Map (CallState Opened)). remove m k.vfs.next_call) none;
      opens =
          λ none. ap (λ (b : Bool). (begins b).vfs.opens) lost ∙ none;
    }
  where
    aborted : (p : Phase) → is_ready p ≡ true → is_live p ≡ false → is_aborted p ≡ true
    aborted Down ready dead = absurd (true≢false (sym ready))
    aborted Starting ready dead = absurd (true≢false dead)
    aborted Ready ready dead = absurd (true≢false dead)
    aborted Aborted ready dead = refl

module _ (choice : ℕ → ℕ) (w : World) (sound : WorldSound w) (asked : RequestsAskedWhileLive w)
    (links : LinksSound w) where
  -- What was live is live after any event but an abort, and nothing is on its way without a live mount.
  from_dead : (v : World) → (is_live w.kernel.phase ≡ true → is_live v.kernel.phase ≡ is_live w.kernel.phase)
      → (is_live w.kernel.phase ≡ false → WithoutMount choice w v) → is_live v.kernel.phase ≡ false
      → WithoutMount choice w v
  from_dead v same comes dead = by (is_live w.kernel.phase) refl
    where
      by : (b : Bool) → is_live w.kernel.phase ≡ b → WithoutMount choice w v
      by true live = absurd (true≢false (sym (same live ∙ live) ∙ dead))
      by false was = comes was

  lives : (v : World) → is_live w.kernel.phase ≡ true → is_live v.kernel.phase ≡ is_live w.kernel.phase
      → is_live v.kernel.phase ≡ false → WithoutMount choice w v
  lives v live same dead = absurd (true≢false (sym (same ∙ live) ∙ dead))

  replied_live : (v : World) (number unique : ℕ) (o : Option WireReply) → v.kernel ≡ w.kernel
      → is_live (copy_put v number unique o).kernel.phase ≡ is_live w.kernel.phase
  replied_live v number unique o same = ap (λ (l : Kernel). is_live l.phase) (replying_kernel v number unique o ∙ same)

  serves : (unique : ℕ) (t : HeldRequest) → get w.server.held unique ≡ Some t → is_live w.kernel.phase ≡ false
      → WithoutMount choice w (after_perform w unique (served choice w.server unique t))
  serves unique t there dead = let idle = links.idle dead in
      elim idle.server [ inl empty ↦ none_in w.server.held unique t empty there | inr aborted ↦ by_serving unique t dead aborted there ]

  pub without_mount : (e : Event) (o : Outcome) (after : World) → Happened choice w e o after
      → is_live after.kernel.phase ≡ false → WithoutMount choice w after
  without_mount e o after (by_mount f m v idle) = λ dead. absurd (true≢false dead)
  without_mount e o after (by_call call ready room within) =
      from_dead after (λ live. let goes = begun_goes_on w.kernel (for_minor w.kernel.lists_files call) in
      ap is_live goes.phase) (λ dead. by_kernel after dead refl
      (begun_empty w.kernel (for_minor w.kernel.lists_files call) ready dead))
  without_mount e o after (by_read_interrupt original rest live there within) = lives after live refl
  without_mount e o after (by_read_forgets n live free can within few) = lives after live refl
  without_mount e o after (by_read_pending k unique kept body live free there says within) = lives after live refl
  without_mount e o after (by_take k r there within) =
      let took = taking w.server r.unique r.body in
      from_dead after (λ live. replied_live (record w {
        requests = without_at w.requests k;
        server = took.server;
      }) w.server.next_copy r.unique took.reply refl)
      (λ dead. none_at w.requests k r (links.idle dead).requests there)
  without_mount e o after (by_perform unique t there within) =
      let did = served choice w.server unique t in
      from_dead after (λ live. replied_live (record w { server = did.server }) w.server.next_copy unique
      (cond w.server.aborted None (Some did.wire)) refl) (serves unique t there)
  without_mount e o after (by_again unique kept there current within) =
      from_dead after (λ live. refl) (λ dead. none_in w.server.kept unique kept (links.idle dead).kept there)
  without_mount e o after (by_write k sent there within) =
      from_dead after (λ live. written_live choice w sound asked links live k sent there ∙ sym live)
      (λ dead. none_at w.replies k sent (links.idle dead).replies there)
  without_mount e o after (by_settle k result there) =
      from_dead after (λ live. refl) (λ dead. none_at w.results k result (links.idle dead).results there)
  without_mount e o after (by_signal call fatal state live there within) = let goes =
      signalled_goes_on w.kernel call state fatal in lives after live (ap is_live goes.phase)
  without_mount e o after (by_tick ms timely) = from_dead after (λ live. refl)
      (λ dead. by_kernel after dead refl (record { calls = λ none. none; opens = λ none. none }))
  without_mount e o after (by_drop directory name bound live there) = lives after live refl
  without_mount e o after (by_evict node counted live there unused) = lives after live refl
  without_mount e o after (by_abort live) = λ dead. by_loss live

-- ---- a request is performed after an abort

pub replying_server : (w : World) (number unique : ℕ) (o : Option WireReply)
    → (copy_put w number unique o).server ≡ w.server
replying_server w number unique None = refl
replying_server w number unique (Some wire) = refl

-- No node is given.
pub unreceived_nodes : (w : World) → WorldSound w → (choice : ℕ → ℕ) (unique : ℕ) (t : HeldRequest)
    → w.server.aborted ≡ true → (served choice w.server unique t).server.nodes ≡ w.server.nodes
unreceived_nodes w sound choice unique t aborted =
    let none : files_given w.server t ≡ [] = ap (λ (b : Bool). cond
    (b || (t.marked || not (is_still_held w.server.nodes t.generations))) [] (files_by w.server t.body)) aborted in
    let lookups = sound.lookups in
    let server = lookups.server in
    let counts = performed_counts choice (record w.server { held = remove w.server.held unique }) server.nodes t
    (subst (MayChoose choice w.server.nodes) (sym none) tt) in
    counts.same aborted
