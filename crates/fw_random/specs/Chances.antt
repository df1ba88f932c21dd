-- The numbers that a seed chooses: the words of a generator of PCG's, Pcg32 (O'Neill, 2014).
use Rattle.std.specs.Prelude.{ℕ, ◌%◌, if◌then◌else◌, nat_eq}
use Rattle.rand_pcg.specs.Lcg.{Lcg, increment_of, started}
use Rattle.rand_pcg.specs.Pcg.{multiplier_64, pcg32}

-- the generator of a seed, on stream 731
abbrev pub of_seed : ℕ → Lcg
of_seed seed = started 64 multiplier_64 seed (increment_of 64 731)

-- the number below an end that a generator gives, 0 below 0
abbrev pub chosen_below : (end : ℕ) → Lcg → ℕ
chosen_below end g = if nat_eq end 0 then 0 else (pcg32 g).0 % end
