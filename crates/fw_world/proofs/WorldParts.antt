-- A world made of these parts.
use Rattle.std.proofs.Common.{◌++◌, [], ◌∷◌, ◌∙◌, ◌≡◌, ◌≤◌, ◌<◌, ℕ, ◌+◌, Result, Ok, Err, Bool, arith, true, false, true≢false, List, length, Option, Some, None, nat_lt, slice_get, refl, sym, subst}
use Rattle.std.specs.Prelude.{slice_index_or, OnOk, is_err, is_ok, IfNone, IfSome, IsTrue}
use Rattle.std.proofs.lemmas.Bool.{ltb-true, ltb-false}
use Rattle.std.proofs.lemmas.Option.{slice_get_read, slice_get_past}
use Rattle.fuse_spec.specs.declared.Refusal.{Refusal}
use Rattle.fuse_spec.specs.declared.ReplyResult.{ReplyResult}
use Rattle.fuse_spec.specs.declared.WriteResult.{WriteResult}
use Rattle.fuse_spec.specs.Values.Maps.{remove}
use Rattle.fuse_spec.specs.Kernel.Messages.{Request, WireReply}
use Rattle.fuse_spec.specs.Kernel.Kernel.{Kernel}
use Rattle.fuse_spec.specs.Server.Server.{Server}
use Rattle.fuse_spec.specs.World.Worlds.{World, Sent, copy_put}
use Rattle.fuse_spec.specs.World.Events.{Event, Outcome}
use Rattle.fuse_spec.specs.World.Steps.{Happens}
use Rattle.fuse_theorem.specs.SoundWorlds.{IsSoundWorld}
use Rattle.fuse_theorem.proofs.WholeLists.SoundWorlds.{handed_out_sound}
use Rattle.fs_server.specs.Effects.{copy_of}
use Rattle.fw_world.specs.Values.{with_copy}

-- the world of these parts
abbrev pub world_of : Kernel → Server → List Request → List Sent → List ReplyResult → World
world_of kernel server requests replies results =
    record { kernel = kernel; server = server; requests = requests; replies = replies; results = results }

pub is_made : (w : World) (kernel : Kernel) (server : Server) (requests : List Request) (replies : List Sent)
    (results : List ReplyResult) → kernel ≡ w.kernel → server ≡ w.server → requests ≡ w.requests → replies ≡ w.replies
    → results ≡ w.results → world_of kernel server requests replies results ≡ w
is_made w kernel server requests replies results k s a b c = λ i. world_of (k i) (s i) (a i) (b i) (c i)

pub happens_so : (w : World) (e : Event) (o : Outcome) (after made : World) → made ≡ after → Happens w e o after
    → Happens w e o made
happens_so w e o after made is happens = subst (Happens w e o) (sym is) happens

-- ---- what stands at a place of a link

module _ {T : Type 0} (xs read : List T) (place : ℕ) (same : read ≡ xs) where
  pub stands : (x : T) → true ≡ nat_lt place (length read) → x ≡ slice_index_or read place x
      → slice_get xs place ≡ Some x
  stands x within is = subst (λ (ys : List T). slice_get ys place ≡ Some x) same
      (slice_get_read read (length read) place x refl (ltb-true place (length read) (sym within)) is)

  pub none_stands : false ≡ nat_lt place (length read) → slice_get xs place ≡ None
  none_stands past = subst (λ (ys : List T). slice_get ys place ≡ None) same
      (slice_get_past read place (ltb-false place (length read) (sym past)))

-- Where a list made room for one more, it has room.
pub has_room : {T E : Type 0} (r : Result T E) (len capacity : ℕ) → OnOk r (len + 1 ≤ capacity) → is_err r ≡ false
    → len < capacity
has_room (Ok x) len capacity made e = omega (arith, made)
has_room (Err x) len capacity made e = absurd (cc e)

pub has_room_ok : {T E : Type 0} (r : Result T E) (len capacity : ℕ) → OnOk r (len + 1 ≤ capacity) → is_ok r ≡ true
    → len < capacity
has_room_ok (Ok x) len capacity made e = omega (arith, made)
has_room_ok (Err x) len capacity made e = absurd (cc e)

pub not_true : (b : Bool) → b ≡ false → IsTrue b → ⊥
not_true b e h = true≢false (sym h ∙ e)

-- Room that is wanted only where there is a copy.
pub no_copy_needs_memory : {X : Type 0} (P : Type 0) (copy : Option X) → copy ≡ None → IfSome copy (λ x. P)
no_copy_needs_memory P None e = tt
no_copy_needs_memory P (Some x) e = absurd (cc e)

pub some_copy_needs_memory : {X : Type 0} (P : Type 0) (copy : Option X) → P → IfSome copy (λ x. P)
some_copy_needs_memory P None room = tt
some_copy_needs_memory P (Some x) room = room

-- what was written, of what is said of the whole result
pub was_written : {a b : WriteResult} → ◌≡◌ {A = Result WriteResult Refusal} (Ok a) (Ok b) → a ≡ b
was_written e = cc e

-- The results with that of a copy.
pub after_result : (old made new : List ReplyResult) (number unique : ℕ) (result : WriteResult) (sent : Sent)
    → made ≡ old → new ≡ made ++ record { number = number; unique = unique; result = result } ∷ []
    → number ≡ sent.number → unique ≡ sent.unique
    → new ≡ old ++ record { number = sent.number; unique = sent.unique; result = result } ∷ []
after_result old made new number unique result sent same appended number_is unique_is =
    appended ∙ (λ i. same i ++ record { number = number_is i; unique = unique_is i; result = result } ∷ [])

-- Events led to a world still as the answer of a call is collected.
pub call_collected_is_sound : {X : Type 0} (w : World) (kernel : Kernel) (o : Option (ℕ × X)) → IfNone o (kernel ≡ w.kernel)
    → IfSome o (λ r. kernel ≡ record w.kernel {
      vfs =
          record w.kernel.vfs { answers = remove w.kernel.vfs.answers r.0 };
    })
    → IsSoundWorld w → IsSoundWorld (record w { kernel = kernel })
call_collected_is_sound w kernel None none some sound = subst (λ (k : Kernel). IsSoundWorld (record w { kernel = k })) (sym none) sound
call_collected_is_sound w kernel (Some r) none some sound =
    subst (λ (k : Kernel). IsSoundWorld (record w { kernel = k })) (sym some) (handed_out_sound w r.0 sound)

-- A copy that is sent goes onto its link, or none is sent.
pub replying_is : (w : World) (number unique : ℕ) (wire : Option WireReply)
    → copy_put w number unique wire ≡ record w { replies = with_copy w.replies (copy_of number unique wire) }
replying_is w number unique None = refl
replying_is w number unique (Some wire) = refl
