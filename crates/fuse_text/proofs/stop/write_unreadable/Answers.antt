use Rattle.std.proofs.Common.{append_assoc, codes, ◌++◌}
use Rattle.std.proofs.KnownBytes.{Appends-trans}
use Rattle.fuse_text.proofs.Writes.{OnOk-map, refused_1, refused_2, refused_3}
use Rattle.fuse_text.proofs.stop.write_unreadable.Goals as goal

pub returns-in_err-write_text-clause-refused : goal.returns-in_err-write_text-clause-refused
returns-in_err-write_text-clause-refused g c =
    let name = c.args.name.now in
    refused_1 _ _ _ (codes "cannot read ") name (codes "\n") _ (append_assoc (codes "cannot read ") name (codes "\n"))
    c.in_err-write_text.ensures.refused

pub returns-in_err-write_text-2-clause-refused : goal.returns-in_err-write_text-2-clause-refused
returns-in_err-write_text-2-clause-refused g c =
    let name = c.args.name.now in
    refused_2 _ _ _ _ (codes "cannot read ") name (codes "\n") _ (append_assoc (codes "cannot read ") name (codes "\n"))
    c.in_ok-write_text.ensures.ok c.in_err-write_text-2.ensures.refused

pub returns-clause-refused : goal.returns-clause-refused
returns-clause-refused g c =
    let name = c.args.name.now in
    refused_3 c.write_text-3.result _ _ _ _ (codes "cannot read ") name (codes "\n") _
    (append_assoc (codes "cannot read ") name (codes "\n")) c.in_ok-write_text.ensures.ok
    c.in_ok-write_text-2.ensures.ok c.write_text-3.ensures.refused

pub returns-clause-ok : goal.returns-clause-ok
returns-clause-ok g c =
    let name = c.args.name.now in
    OnOk-map _ _ c.write_text-3.result
    (λ wrote. Appends-trans _ _ _ (codes "cannot read " ++ name) (codes "\n")
    (Appends-trans _ _ _ (codes "cannot read ") name c.in_ok-write_text.ensures.ok c.in_ok-write_text-2.ensures.ok) wrote)
    c.write_text-3.ensures.ok
