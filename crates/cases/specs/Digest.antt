-- The digest of a list of triples.
--   mixed       the number becomes itself times 31 plus a register, modulo 2^32
--   mixed_all   the same for x, y and z of a triple
--   digest_of   the same for each triple in order, from 0
use Rattle.std.specs.Prelude.{ℕ, ◌*◌, ◌^◌, List, ℤ, pos, ◌+ℤ◌, unsigned_abs}
use Rattle.std.specs.Int.{int_rem_euclid}
use Rattle.std.specs.List.{fold}
use Rattle.stage.specs.declared.registers.Triple.{Triple}

abbrev pub mixed : ℕ → ℤ → ℕ
mixed hash register = unsigned_abs (int_rem_euclid (pos (hash * 31) +ℤ register) (pos (2 ^ 32)))

abbrev pub mixed_all : ℕ → Triple → ℕ
mixed_all hash t = mixed (mixed (mixed hash t.x) t.y) t.z

abbrev pub digest_of : List Triple → ℕ
digest_of ts = fold mixed_all 0 ts
