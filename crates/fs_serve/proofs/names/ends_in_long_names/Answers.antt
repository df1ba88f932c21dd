use Rattle.fs_serve.proofs.LongNames.{long_found}
use Rattle.fs_serve.proofs.names.ends_in_long_names.Goals as goal

pub returns-in-Some : goal.returns-in-Some
returns-in-Some c =
    let found = long_found c.args.bytes.now c.in-Some.old.now c.in-Some.new.now c.in-Some.ensures in
    (λ is. found.0 (c.are_long_names.ensures.0 is), λ ends. c.are_long_names.ensures.1 (found.1 ends))
