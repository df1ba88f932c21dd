use Rattle.std.proofs.Common.{◌≡◌, ◌<◌, ℕ, List, ap, drop, map, refl, subst, sym, ◌∙◌}
use Rattle.std.specs.Prelude.{◌↔◌, IsTrue}
use Rattle.fuse_spec.specs.Kernel.Kernel.{Kernel}
use Rattle.fk_kernel.specs.Refused.{WriteRefused}
use Rattle.fk_drive_frames.specs.Agreements.{IsHandedOn, IsOlderAgreement}
use Rattle.fk_drive.proofs.Changes.{bytes, first_of, first_same, first_waits}
use Rattle.fk_drive.proofs.writing.write_first.Goals as goal

pub returns-clause-ok : goal.returns-clause-ok
returns-clause-ok g c =
    let old = c.args.connection.now in
    let frame = c.remove-frame.result in
    let (handed, on, takes) = c.in-Ok.ensures.ok in
    let some = subst (λ (n : ℕ). 0 < n) old.waiting.ok.0 c.requires in
    let read = c.index-2.result.now in
    let asked = c.index.result.now in
    let is : read ≡ frame = first_same old.waiting.items read frame some c.index-2.ensures c.remove-frame.ensures.value in
    let is_asked : asked ≡ frame = first_same old.waiting.items asked frame some c.index.ensures c.remove-frame.ensures.value in
    record {
      first = ap (map bytes) (first_of old.waiting.items c.remove-frame.new.self.items frame some c.remove-frame.ensures.value
          c.remove-frame.ensures.by_index.2);
      same = refl;
      handed = handed;
      on = subst (λ (l : List ℕ). IsHandedOn l handed) (c.deref-2.ensures.value ∙ ap (λ f. f.items) is) on;
      raised = subst (λ (l : List ℕ). IsTrue c.is_older_agreement-is_raised.result ↔ IsOlderAgreement l)
          (c.deref.ensures.value ∙ ap (λ f. f.items) is_asked) c.is_older_agreement-is_raised.ensures;
      taken = takes;
    }

pub returns-in-Err-clause-refused : goal.returns-in-Err-clause-refused
returns-in-Err-clause-refused g c =
    let old = c.args.connection.now in
    let first = c.index-2.result.now in
    let some = subst (λ (n : ℕ). 0 < n) old.waiting.ok.0 c.requires in
    let (handed, on, refused) = c.in-Err.ensures.refused in (
      first.items,
      map bytes (drop 1 old.waiting.items),
      first_waits old first some c.index-2.ensures,
      (
        handed,
        subst (λ (l : List ℕ). IsHandedOn l handed) c.deref-2.ensures.value on,
        λ head. subst (λ (k : Kernel). WriteRefused k handed c.in-Err.refusal) (sym c.in-Err.ensures.err) (refused head),
      ),
    )
