use Rattle.std.proofs.Common.{◌≡◌, ◌+◌, ◌*◌, ◌-◌, ◌∙◌, ℕ, List, drop, length, take, ap}
use Rattle.std.proofs.lemmas.List.{take_rest}
use Rattle.byteorder.specs.Endian.{little_number}
use Rattle.fk_wire.specs.Fields.{number_at}
use Rattle.fs_serve.proofs.batch.counted_len.Goals as goal

count_there : (frame : List ℕ) → little_number 4 (take (length frame - 40) (drop 40 frame)) ≡ number_at 40 4 frame
unfolding number_at
count_there frame = ap (little_number 4) (take_rest frame 40)

pub returns : goal.returns
returns c = ap (λ (n : ℕ). 48 + 16 * n) (c.from.ensures ∙ c.read_u32.ensures ∙ count_there c.args.frame.now)
