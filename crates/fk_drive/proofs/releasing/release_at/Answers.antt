use Rattle.std.proofs.Common.{◌<◌, ℕ, refl, subst}
use Rattle.std.proofs.lemmas.Option.{slice_get_read}
use Rattle.fk_drive.proofs.releasing.release_at.Goals as goal

pub returns-in-Ok-clause-sends : goal.returns-in-Ok-clause-sends
returns-in-Ok-clause-sends g c =
    let (log, over, ends, sends) = c.in-Ok.ensures in
    let first = c.args.connection.now.directories in
    let directory = c.remove-directory.result in
    let within = subst (λ (n : ℕ). c.args.place < n) first.ok.0 c.requires.place in (
      log,
      over,
      ends,
      (
        c.releasedir.result,
        directory,
        slice_get_read first.items _ c.args.place directory refl within c.remove-directory.ensures.value,
        c.releasedir.ensures,
        sends,
      ),
    )

pub returns-in-Err-clause-sends : goal.returns-in-Err-clause-sends
returns-in-Err-clause-sends g c =
    let (log, over, ends, sends) = c.in-Err.ensures in
    let first = c.args.connection.now.directories in
    let directory = c.remove-directory.result in
    let within = subst (λ (n : ℕ). c.args.place < n) first.ok.0 c.requires.place in (
      log,
      over,
      ends,
      (
        c.releasedir.result,
        directory,
        slice_get_read first.items _ c.args.place directory refl within c.remove-directory.ensures.value,
        c.releasedir.ensures,
        sends,
      ),
    )
