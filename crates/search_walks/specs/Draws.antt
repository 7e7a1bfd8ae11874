-- Draws of a walk, from the words of a generator.
use Rattle.std.specs.Prelude.{ℕ, ◌*◌, ◌/◌, ◌^◌}
use Rattle.rand_core.specs.Pcg32Seed.{pcg32_seed}
use Rattle.rand_pcg.specs.Lcg.{Lcg}
use Rattle.rand_pcg.specs.Pcg.{pcg32, pcg32_of_seed}

-- the generator of a walk's seed
abbrev pub seeded : ℕ → Lcg
seeded seed = pcg32_of_seed (pcg32_seed 16 seed)

-- a draw below n: the floor of the next word of 32 bits times n / 2^32
abbrev pub draw : ℕ → Lcg → ℕ
draw n g = ((pcg32 g).0 * n) / (2 ^ 32)

-- each draw takes a word
abbrev pub after_draw : Lcg → Lcg
after_draw g = (pcg32 g).1
