-- The one fact about falling entries and a slack: turned against its sign by each entry, a number ends within the slack.
use Rattle.std.proofs.Common.{ℕ, ◌+◌, ◌≤◌, List, [], ◌∷◌, ℤ, pos, negsuc, ◌-ℤ◌, nat_abs, arith}
use Rattle.std.proofs.lemmas.Int.{ints}
use Rattle.stage.specs.Step.{signed}
use Rattle.cordic.specs.Mode.{sign}

abbrev pub sum : List ℕ → ℕ
sum [] = 0
sum (e ∷ es) = e + sum es

-- each entry is at most the sum of the later ones and the slack
abbrev pub Slack : ℕ → List ℕ → Type 0
Slack k [] = Unit {0}
Slack k (e ∷ es) = (e ≤ sum es + k) × Slack k es

abbrev pub greedy : List ℕ → ℤ → ℤ
greedy [] z = z
greedy (e ∷ es) z = greedy es (z -ℤ signed (sign z) (pos e))

pub toward : (z : ℤ) (e s k : ℕ) → e ≤ s + k → nat_abs z ≤ (e + s) + k → nat_abs (z -ℤ signed (sign z) (pos e)) ≤ s + k
toward (pos n) e s k h l = omega (arith, ints)
toward (negsuc n) e s k h l = omega (arith, ints)

pub spent : (k : ℕ) (es : List ℕ) (z : ℤ) → Slack k es → nat_abs z ≤ sum es + k → nat_abs (greedy es z) ≤ k
spent k [] z c h = omega arith
spent k (e ∷ es) z c h = spent k es (z -ℤ signed (sign z) (pos e)) c.1 (toward z e (sum es) k c.0 h)
