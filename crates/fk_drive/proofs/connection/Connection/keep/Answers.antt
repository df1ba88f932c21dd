use Rattle.std.proofs.Common.{List, ℕ, [], ◌∷◌, refl, subst}
use Rattle.fk_drive_frames.specs.Asides.{IsOtherFrame, SaysOtherFrame}
use Rattle.fk_drive.specs.Driving.{sets_aside}
use Rattle.fk_drive.specs.declared.noted.Noted.TheVariants.{SetAside}
use Rattle.fk_drive.proofs.Changes.{step_waits}
use Rattle.fk_drive.proofs.connection.Connection.keep.Goals as goal

pub returns-in-Some-clause-keeps : goal.returns-in-Some-clause-keeps
returns-in-Some-clause-keeps g c kernel turn = (
  sets_aside c.args.frame.items
      (subst (λ (l : List ℕ). IsOtherFrame c.args.self.now.next l) c.as_slice.ensures.value c.in-Some.ensures.some),
  refl,
)

pub returns-in-Some-clause-noted : goal.returns-in-Some-clause-noted
returns-in-Some-clause-noted g c =
    let is = subst (λ (l : List ℕ). IsOtherFrame c.args.self.now.next l) c.as_slice.ensures.value c.in-Some.ensures.some in
    let says = subst (λ (l : List ℕ). SaysOtherFrame c.args.self.now.next l c.in-Some.other_frame) c.as_slice.ensures.value
    c.in-Some.ensures.says in record {
      aside = λ other. (c.in-Some.other_frame, says, c.note.ensures);
      waits = λ none. absurd (none is);
    }

pub returns-in-None-clause-keeps : goal.returns-in-None-clause-keeps
returns-in-None-clause-keeps g c kernel turn =
    step_waits kernel c.args.self.now c.have_wait.new.self c.args.frame c.have_wait.ensures.waits
    c.have_wait.ensures.same turn
    (subst (λ (l : List ℕ). IsOtherFrame c.args.self.now.next l → ⊥) c.as_slice.ensures.value c.in-None.ensures.none)

pub returns-in-None-clause-noted : goal.returns-in-None-clause-noted
returns-in-None-clause-noted g c =
    let none = subst (λ (l : List ℕ). IsOtherFrame c.args.self.now.next l → ⊥) c.as_slice.ensures.value c.in-None.ensures.none in record {
      aside = λ other. absurd (none other);
      waits = λ no. (refl {a = c.args.notes.now}, refl {a = c.args.out.now});
    }

pub returns-in-Some-clause-notes : goal.returns-in-Some-clause-notes
returns-in-Some-clause-notes g c = (SetAside c.in-Some.other_frame ∷ [], c.note.ensures)

pub returns-in-None-clause-notes : goal.returns-in-None-clause-notes
returns-in-None-clause-notes g c = ([], g.met.N.Notes.stays c.args.notes.now c.args.out.now)
