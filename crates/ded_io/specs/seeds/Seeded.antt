-- The generator that a seed stands for, its next word, and the generator behind it (O'Neill's PCG, XSH RR 64/32, with the seed's bytes by rand_core's rule).
use Rattle.std.specs.Prelude.{ℕ}
use Rattle.rand_core.specs.Pcg32Seed.{pcg32_seed}
use Rattle.rand_pcg.specs.Lcg.{Lcg}
use Rattle.rand_pcg.specs.Pcg.{pcg32, pcg32_of_seed}

-- the generator of a seed, before its first word
abbrev pub seeded : ℕ → Lcg
seeded seed = pcg32_of_seed (pcg32_seed 16 seed)

-- the next word of a generator
abbrev pub word_of : Lcg → ℕ
word_of generator = (pcg32 generator).0

-- the generator behind its next word
abbrev pub behind_word : Lcg → Lcg
behind_word generator = (pcg32 generator).1
