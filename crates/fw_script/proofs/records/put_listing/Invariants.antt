use Rattle.std.proofs.Common.{◌++◌}
use Rattle.std.specs.Prelude.{flat_map}
use Rattle.fk_syscalls.specs.Listings.{names_left_in}
use Rattle.fw_script.specs.Records.{listed_words}
use Rattle.fw_script.proofs.Chunked.{Pending}
use Rattle.fw_script.proofs.records.put_listing.Given as goal

abbrev pub invariant-loop-listed : goal.invariant-loop-listed
invariant-loop-listed g l =
    Pending listed_words (g.W.Write.contents l.initial.out) (g.W.Write.contents l.out) l.chunk
    (l.initial.chunk ++ flat_map listed_words l.names) (names_left_in l.listed-iterator)
