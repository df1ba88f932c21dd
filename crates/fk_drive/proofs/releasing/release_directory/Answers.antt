use Rattle.std.proofs.Common.{◌≡◌, ℕ, List, [], Some, None, refl, subst, sym, arith}
use Rattle.std.specs.Prelude.{◌==◌, position}
use Rattle.fk_drive.specs.Driven.{directories_in}
use Rattle.fk_drive.specs.Driving.{ReleasesBehind, releases_none, releasing}
use Rattle.fk_drive.specs.declared.connection.Directory.{Directory}
use Rattle.fk_drive.proofs.Changes.{keeps_waiting, released, releases_at, releases_nothing}
use Rattle.fk_drive.proofs.releasing.release_directory.Goals as goal

pub returns-then-connection-ge-OPENDIR_UNIQUES_END-clause-releases : goal.returns-then-connection-ge-OPENDIR_UNIQUES_END-clause-releases
returns-then-connection-ge-OPENDIR_UNIQUES_END-clause-releases g c frame head under =
    ([], g.met.D.Device.stays c.args.device.now, refl, releases_none (λ has low. absurd (omega (arith, low, c.if-connection-ge-OPENDIR_UNIQUES_END.true))))

pub returns-in-Ok-clause-releases : goal.returns-in-Ok-clause-releases
returns-in-Ok-clause-releases g c frame head under =
    let (log, over, ends, (bytes, directory, there, about, sends)) = c.in-Ok.ensures.sends in
    let old = c.args.connection.now in
    let new = c.release_at.new.connection in
    let place = c.in-Some.place in
    let at = subst (λ (ds : List Directory). position (λ (d : Directory). d.unique == c.args.unique) ds ≡ Some place)
    c.deref.ensures.value (sym c.in-Some.ensures) in
    let first = subst (λ (u : ℕ). position (λ (d : Directory). d.unique == u) old.directories.items ≡ Some place) (sym under) at in
    let behind = released old new frame place c.release_at.ensures.left c.release_at.ensures.same log (releasing old.next)
    (releases_at frame head old.next (omega (arith, c.if-connection-ge-OPENDIR_UNIQUES_END.false)) old.directories.items place
    directory first there bytes about log sends) in (
      log,
      over,
      ends,
      subst (λ (n : ℕ). ReleasesBehind frame old.next (directories_in old) log new.next (directories_in new) (releasing n))
          (sym c.in-Ok.ensures.number) behind,
    )

pub returns-in-Err-clause-releases : goal.returns-in-Err-clause-releases
returns-in-Err-clause-releases g c frame head under =
    let (log, over, ends, (bytes, directory, there, about, sends)) = c.in-Err.ensures.sends in
    let old = c.args.connection.now in
    let place = c.in-Some.place in
    let at = subst (λ (ds : List Directory). position (λ (d : Directory). d.unique == c.args.unique) ds ≡ Some place)
    c.deref.ensures.value (sym c.in-Some.ensures) in
    let first = subst (λ (u : ℕ). position (λ (d : Directory). d.unique == u) old.directories.items ≡ Some place) (sym under) at in (
      log,
      over,
      ends,
      released old c.release_at.new.connection frame place c.release_at.ensures.left c.release_at.ensures.same log
          (releasing old.next)
          (releases_at frame head old.next (omega (arith, c.if-connection-ge-OPENDIR_UNIQUES_END.false)) old.directories.items
          place directory first there bytes about log sends),
    )

pub returns-in-None-clause-releases : goal.returns-in-None-clause-releases
returns-in-None-clause-releases g c frame head under =
    let old = c.args.connection.now in
    let at = subst (λ (ds : List Directory). position (λ (d : Directory). d.unique == c.args.unique) ds ≡ None)
    c.deref.ensures.value (sym c.in-None.ensures) in
    let none = subst (λ (u : ℕ). position (λ (d : Directory). d.unique == u) old.directories.items ≡ None) (sym under) at in
    ([], g.met.D.Device.stays c.args.device.now, refl, releases_none (λ has low. releases_nothing frame old.directories.items none))

pub returns-in-Ok-clause-same : goal.returns-in-Ok-clause-same
returns-in-Ok-clause-same g c = keeps_waiting c.args.connection.now c.release_at.new.connection c.release_at.ensures.same

pub returns-in-Err-clause-same : goal.returns-in-Err-clause-same
returns-in-Err-clause-same g c = keeps_waiting c.args.connection.now c.release_at.new.connection c.release_at.ensures.same
