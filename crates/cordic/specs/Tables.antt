-- The numerals of the coordinate systems: for each iteration its shift and its entry.
use Rattle.std.specs.Prelude.{ℕ, List, [], ◌∷◌}
use Rattle.stage.specs.declared.step.System.{System}
use Rattle.stage.specs.declared.step.System.TheVariants.{Linear, Circular, Hyperbolic}
use Rattle.cordic.specs.Order.{shift_of}
use Rattle.cordic.specs.declared.order.Iteration.{Iteration}

abbrev it : ℕ → ℕ → Iteration
it s e = record { shift = shift_of s; entry = e }

-- shifts 1 to 28, entry 2^(28 − s)
unfoldable pub linear : List Iteration
linear = it 1 134217728 ∷ it 2 67108864 ∷ it 3 33554432 ∷ it 4 16777216 ∷ it 5 8388608 ∷ it 6 4194304 ∷ it 7 2097152 ∷ it 8 1048576 ∷ it 9 524288 ∷ it 10 262144 ∷ it 11 131072 ∷ it 12 65536 ∷ it 13 32768 ∷ it 14 16384 ∷ it 15 8192 ∷ it 16 4096 ∷ it 17 2048 ∷ it 18 1024 ∷ it 19 512 ∷ it 20 256 ∷ it 21 128 ∷ it 22 64 ∷ it 23 32 ∷ it 24 16 ∷ it 25 8 ∷ it 26 4 ∷ it 27 2 ∷ it 28 1 ∷ []

-- shifts 0 to 28, entry nearest to 2^28 × atan (2^−s)
unfoldable pub circular : List Iteration
circular = it 0 210828714 ∷ it 1 124459457 ∷ it 2 65760959 ∷ it 3 33381290 ∷ it 4 16755422 ∷ it 5 8385879 ∷ it 6 4193963 ∷ it 7 2097109 ∷ it 8 1048571 ∷ it 9 524287 ∷ it 10 262144 ∷ it 11 131072 ∷ it 12 65536 ∷ it 13 32768 ∷ it 14 16384 ∷ it 15 8192 ∷ it 16 4096 ∷ it 17 2048 ∷ it 18 1024 ∷ it 19 512 ∷ it 20 256 ∷ it 21 128 ∷ it 22 64 ∷ it 23 32 ∷ it 24 16 ∷ it 25 8 ∷ it 26 4 ∷ it 27 2 ∷ it 28 1 ∷ []

-- shifts 1 to 28, with 4 and 13 each done twice in a row, entry nearest to 2^28 × atanh (2^−s)
unfoldable pub hyperbolic : List Iteration
hyperbolic = it 1 147453245 ∷ it 2 68561855 ∷ it 3 33730852 ∷ it 4 16799113 ∷ it 4 16799113 ∷ it 5 8391340 ∷ it 6 4194645 ∷ it 7 2097195 ∷ it 8 1048581 ∷ it 9 524289 ∷ it 10 262144 ∷ it 11 131072 ∷ it 12 65536 ∷ it 13 32768 ∷ it 13 32768 ∷ it 14 16384 ∷ it 15 8192 ∷ it 16 4096 ∷ it 17 2048 ∷ it 18 1024 ∷ it 19 512 ∷ it 20 256 ∷ it 21 128 ∷ it 22 64 ∷ it 23 32 ∷ it 24 16 ∷ it 25 8 ∷ it 26 4 ∷ it 27 2 ∷ it 28 1 ∷ []

abbrev pub order : System → List Iteration
order Linear = linear
order Circular = circular
order Hyperbolic = hyperbolic
