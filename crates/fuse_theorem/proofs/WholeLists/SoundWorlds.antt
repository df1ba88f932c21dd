-- A world that events led to stays one, with any event, and as answers are collected.
use Rattle.std.proofs.Common.{◌≡◌, ◌+◌, ◌≤◌, ℕ, Bool, false, length, subst, Option, Some, None, refl, sym, ◌∙◌, arith}
use Rattle.fuse_spec.specs.Calls.Answers.{Answer}
use Rattle.fuse_spec.specs.Values.Maps.{get, remove}
use Rattle.fuse_spec.specs.Reference.Plain.{first_plain}
use Rattle.fuse_spec.specs.World.Records.{collected}
use Rattle.fuse_spec.specs.Claim.Runs.{plain_collected}
use Rattle.fuse_spec.specs.World.Worlds.{World, first_world}
use Rattle.fuse_spec.specs.World.Events.{Event, Outcome}
use Rattle.fuse_spec.specs.World.Steps.{Happens}
use Rattle.fuse_theorem.specs.SoundWorlds.{IsSoundWorld}
use Rattle.fuse_theorem.proofs.WholeLists.AllCollected.{collected_all, handed_out_all}
use Rattle.fuse_theorem.proofs.WholeLists.AllStaySound.{first_all, all_move}
use Rattle.fuse_theorem.proofs.Answers.AnswersStay.{CallsMove, begins_call, calls_stay, collected_sound, first_sound}
use Rattle.fuse_theorem.proofs.Calls.FewCalls.{few_stay, none_more}
use Rattle.fuse_theorem.proofs.Refining.WithAnswers.{with_answers, plain_with_answers}
use Rattle.fuse_theorem.proofs.Refining.Settling.{left_was}

pub first_is_sound : IsSoundWorld first_world
first_is_sound = record { plain = first_plain; sound = first_all; answers = first_sound; few = omega arith }

pub sound_next : (w : World) → IsSoundWorld w → (e : Event) (o : Outcome) (after : World) → Happens w e o after
    → IsSoundWorld after
sound_next w here e o after happens =
    let went = all_move w here.plain here.sound e o after happens in
    let stay = calls_stay w here.answers e o after happens in
    record {
      plain = went.0;
      sound = went.2;
      answers = stay.sound;
      few = few_stay (begins_call e) w.kernel.vfs after.kernel.vfs here.sound.releases.files.calls_in_order went.2.releases.files.calls_in_order stay.moves here.few;
    }

pub collected_is_sound : (w : World) → IsSoundWorld w → IsSoundWorld (collected w)
collected_is_sound w here = record {
  plain = plain_collected here.plain;
  sound = collected_all w here.plain here.sound;
  answers = collected_sound w here.answers;
  few = here.few;
}

-- The answer of one call is collected.
pub handed_out_sound : (w : World) (call : ℕ) → IsSoundWorld w
    → IsSoundWorld (with_answers w (remove w.kernel.vfs.answers call))
handed_out_sound w call here =
    record {
      plain = plain_with_answers here.plain (remove w.kernel.vfs.answers call);
      sound = handed_out_all w call here.plain here.sound;
      answers = record {
        one = λ q a at. here.answers.one q a (left_was w.kernel.vfs.answers call q a at);
        calls_below = here.answers.calls_below;
        answers_below = λ q le. none_left q (here.answers.answers_below q le)
            (get (remove w.kernel.vfs.answers call) q) refl;
      };
      few = here.few;
    }
  where
    none_left : (q : ℕ) → get w.kernel.vfs.answers q ≡ None → (o : Option Answer)
        → get (remove w.kernel.vfs.answers call) q ≡ o → o ≡ None
    none_left q none None at = refl
    none_left q none (Some a) at =
        let no : ◌≡◌ {A = Option Answer} None (Some a) = sym none ∙ left_was w.kernel.vfs.answers call q a at in
        absurd (cc no)

-- An event that is no call leaves no more calls that are unanswered or have an answer that waits.
pub none_more_waits : (w : World) → IsSoundWorld w → (e : Event) (o : Outcome) (after : World) → begins_call e ≡ false
    → Happens w e o after
    → length after.kernel.vfs.answers + length after.kernel.vfs.calls ≤ length w.kernel.vfs.answers + length w.kernel.vfs.calls
none_more_waits w here e o after no_call happens =
    let went = all_move w here.plain here.sound e o after happens in
    let stay = calls_stay w here.answers e o after happens in
    none_more w.kernel.vfs after.kernel.vfs here.sound.releases.files.calls_in_order went.2.releases.files.calls_in_order here.sound.both.world.rooted.answers went.2.both.world.rooted.answers
    (subst (λ (b : Bool). CallsMove b w.kernel.vfs after.kernel.vfs) no_call stay.moves)
