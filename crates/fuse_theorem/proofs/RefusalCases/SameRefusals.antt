-- Whatever ids the server chooses, an event gets the same refusal or none: so it happens or is refused.
use Rattle.std.proofs.Common.{◌≡◌, ◌⊎◌, ℕ, Bool, true, false, ◌||◌, cond, Option, Some, None, Ok, Err, refl, sym, ◌∙◌, inl, inr}
use Rattle.std.specs.Prelude.{nat_lt}
use Rattle.fuse_spec.specs.declared.Refusal.{Refusal}
use Rattle.fuse_spec.specs.declared.Refusal.TheVariants as refusal
use Rattle.fuse_spec.specs.Values.Maps.{get}
use Rattle.fuse_spec.specs.Kernel.Messages.{WireReply}
use Rattle.fuse_spec.specs.Values.Numbers.{counter_end}
use Rattle.fuse_spec.specs.Server.Server.{Server, HeldRequest}
use Rattle.fuse_spec.specs.Server.Performs.{PerformResult, served, files_given}
use Rattle.fuse_spec.specs.World.Worlds.{World, after_perform}
use Rattle.fuse_spec.specs.World.Worlds as worlds
use Rattle.fuse_spec.specs.World.Events.{Event, Outcome}
use Rattle.fuse_spec.specs.World.Events as event
use Rattle.fuse_spec.specs.Server.Nodes.{count_overflows}
use Rattle.fuse_spec.specs.Kernel.Refusals as kernel
use Rattle.fuse_spec.specs.Kernel.Refusals.{unless}
use Rattle.fuse_spec.specs.Server.Refusals.{held_found}
use Rattle.fuse_spec.specs.World.Steps.{Stepped, is_past, going, performing_held, step, MayChooseFor, MayStep, IsRefused, Happens}
use Rattle.fuse_theorem.proofs.Refining.Choosing.{some_choice}
use Rattle.fuse_theorem.proofs.RefusalCases.SameCounters.{SameCounters, served_counters}

-- ---- which counters are past their end

past_after_reply : (w : World) (number unique : ℕ) (wire : Option WireReply)
    → is_past (worlds.copy_put w number unique wire) ≡ is_past w
past_after_reply w number unique None = refl
past_after_reply w number unique (Some wire) = refl

past_alike : (w : World) (s t : Server) → SameCounters s t
    → is_past (record w { server = s }) ≡ is_past (record w { server = t })
past_alike w s t same = λ i. kernel.is_kernel_past w.kernel || (nat_lt counter_end (same.inode i)
    || nat_lt counter_end (same.cookie i) || nat_lt counter_end (same.generation i)
    || nat_lt counter_end (same.number i) || nat_lt counter_end (same.copy i))

performed_past : (w : World) (unique : ℕ) (a b : PerformResult) → SameCounters a.server b.server
    → is_past (after_perform w unique a) ≡ is_past (after_perform w unique b)
performed_past w unique a b same =
    past_after_reply (record w { server = a.server }) w.server.next_copy unique
    (cond w.server.aborted None (Some a.wire)) ∙ past_alike w a.server b.server same
    ∙ sym (past_after_reply (record w { server = b.server }) w.server.next_copy unique
    (cond w.server.aborted None (Some b.wire)))

-- ---- the same refusal

also_past : (o p : Outcome) (v u : World) → is_past v ≡ is_past u → (r : Refusal) → going o v ≡ Err r
    → going p u ≡ Err r
also_past o p v u same r = by (is_past v) (is_past u) same
  where
    by : (a b : Bool) → a ≡ b → unless {A = Outcome × World} a refusal.Exhausted (Ok (o, v)) ≡ Err r
        → unless {A = Outcome × World} b refusal.Exhausted (Ok (p, u)) ≡ Err r
    by true true e refused = refused
    by false b e refused = absurd (cc)
    by true false e refused = absurd (cc)

also_unless : (b : Bool) (s t : Stepped) (r : Refusal) → (s ≡ Err r → t ≡ Err r) → unless b refusal.Exhausted s ≡ Err r
    → unless b refusal.Exhausted t ≡ Err r
also_unless true s t r also refused = refused
also_unless false s t r also refused = also refused

module _ (w : World) (c d : ℕ → ℕ) where
  performing_refused : (unique : ℕ) (held : Option HeldRequest) → MayChooseFor c w held → MayChooseFor d w held
      → (r : Refusal) → held_found w.server held (performing_held c w unique) ≡ Err r
      → held_found w.server held (performing_held d w unique) ≡ Err r
  performing_refused unique None m n r refused = refused
  performing_refused unique (Some t) m n r refused =
      let one = served c w.server unique t in
      let other = served d w.server unique t in
      also_unless (count_overflows w.server.nodes (files_given w.server t)) _ _ r
      (also_past _ _ (after_perform w unique one) (after_perform w unique other)
      (performed_past w unique one other (served_counters c d w.server unique t m n)) r) refused

  -- What one choice of ids is refused, any other is refused.
  pub same_refusal : (e : Event) → MayStep c w e → MayStep d w e → (r : Refusal) → step c w e ≡ Err r
      → step d w e ≡ Err r
  same_refusal (event.perform unique) m n r refused = performing_refused unique (get w.server.held unique) m n r refused
  same_refusal (event.mount f g v) m n r refused = refused
  same_refusal (event.call call) m n r refused = refused
  same_refusal event.read_interrupt m n r refused = refused
  same_refusal (event.read_forgets k) m n r refused = refused
  same_refusal (event.read_pending k) m n r refused = refused
  same_refusal (event.take k) m n r refused = refused
  same_refusal (event.again unique) m n r refused = refused
  same_refusal (event.write k) m n r refused = refused
  same_refusal (event.settle k) m n r refused = refused
  same_refusal (event.intr call fatal) m n r refused = refused
  same_refusal (event.tick ms) m n r refused = refused
  same_refusal (event.drop_name directory name) m n r refused = refused
  same_refusal (event.evict node) m n r refused = refused
  same_refusal event.abort m n r refused = refused

-- An event happens, or it is refused whatever the server chooses.
pub happens_or_refused : (w : World) (e : Event)
    → ((o : Outcome) × (after : World) × Happens w e o after) ⊎ ((r : Refusal) × IsRefused w e r)
happens_or_refused w e = let some = some_choice w e in by some.0 some.1 (step some.0 w e) refl
  where
    by : (c : ℕ → ℕ) → MayStep c w e → (stepped : Stepped) → step c w e ≡ stepped
        → ((o : Outcome) × (after : World) × Happens w e o after) ⊎ ((r : Refusal) × IsRefused w e r)
    by c may (Ok went) is = inl (went.0, went.1, (c, may, is))
    by c may (Err r) is = inr (r, λ d other. same_refusal w c d e may other r is)
