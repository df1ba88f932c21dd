use Rattle.std.proofs.Common.{rules, inl, refl}
use Rattle.fk_drive_frames.specs.Agreements.{IsHandedOn}
use Rattle.fk_drive.proofs.writing.hand_on.Goals as goal

pub returns-then-is_before_15-clause-ok : goal.returns-then-is_before_15-clause-ok
returns-then-is_before_15-clause-ok g c =
    let on : IsHandedOn c.args.frame.now c.raised_to_15.result = inl (c.if-not-is_older_agreement.ensures.0 refl, c.raised_to_15.ensures) in
    search rules

pub returns-then-is_before_15-clause-refused : goal.returns-then-is_before_15-clause-refused
returns-then-is_before_15-clause-refused g c =
    let on : IsHandedOn c.args.frame.now c.raised_to_15.result = inl (c.if-not-is_older_agreement.ensures.0 refl, c.raised_to_15.ensures) in
    search rules

pub returns-clause-ok : goal.returns-clause-ok
returns-clause-ok g c =
    let on : IsHandedOn c.args.frame.now c.raised_to_31.result = inl (c.if-not-is_older_agreement.ensures.0 refl, c.raised_to_31.ensures) in
    search rules

pub returns-clause-refused : goal.returns-clause-refused
returns-clause-refused g c =
    let on : IsHandedOn c.args.frame.now c.raised_to_31.result = inl (c.if-not-is_older_agreement.ensures.0 refl, c.raised_to_31.ensures) in
    search rules
