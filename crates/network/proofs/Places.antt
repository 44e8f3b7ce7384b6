-- What a result, handed on with its place and the steps before it, comes to.
use Rattle.std.proofs.Common.{◌≡◌, ℕ, ◌+◌, Ok, Err, Result, refl, arith}
use Rattle.stage.specs.declared.stage.Stage.{Ghosts}
use Rattle.cordic.specs.Outcome.{counted, inside}
use Rattle.cordic.specs.Seen.{seen}
use Rattle.cordic.specs.declared.states.Answer.{Answer}
use Rattle.cordic.specs.declared.states.Refused.{Refused}
use Rattle.network.specs.Placing.{steps_made, later, placed, raised}
use Rattle.network.specs.declared.site.Within.{Within}

pub later_steps : {X V F : Type 0} (n : ℕ) (r : Result (Answer X V) (Refused X F)) → steps_made (later n r) ≡ n + steps_made r
later_steps n (Ok a) = refl
later_steps n (Err e) = refl

module _ {X P V F : Type 0} (p : P) (n : ℕ) where
  steps_by : (r : Result (Answer X V) (Refused X F)) (a : Answer X V) → Ok a ≡ placed p (later n r) → a.steps ≡ n + steps_made r
  steps_by (Ok b) a h = let s : a ≡ record { unit = b.unit; value = b.value; steps = n + b.steps } = cc in rw s
  steps_by (Err e) a h = let z : ◌≡◌ {A = ℕ} 0 1 = cc in absurd (omega arith)

  pub placed_steps : (r q : Result (Answer X V) (Refused X F)) (a : Answer X V) → q ≡ later n r → Ok a ≡ placed p q → a.steps ≡ n + steps_made r
  placed_steps r q a e h = steps_by r a (rw e at h)

  module _ {G : Type 0} (S : Ghosts X) (g : P → F → ℕ → G) where
    ok_by : (r : Result (Answer X V) (Refused X F)) (a : Answer X V) → Ok a ≡ placed p (later n r) → seen {F = G} S (Ok a) ≡ inside (g p) (counted n (seen S r))
    ok_by (Ok b) a h = let s : a ≡ record { unit = b.unit; value = b.value; steps = n + b.steps } = cc in rw s
    ok_by (Err e) a h = let z : ◌≡◌ {A = ℕ} 0 1 = cc in absurd (omega arith)

    err_by : (r : Result (Answer X V) (Refused X F)) (w : Within X P F) → Err w ≡ placed p (later n r) → seen {V = V} S (Err (raised g w)) ≡ inside (g p) (counted n (seen S r))
    err_by (Ok b) w h = let z : ◌≡◌ {A = ℕ} 0 1 = cc in absurd (omega arith)
    err_by (Err e) w h = let s : w ≡ record { place = p; refused = record { unit = e.unit; fault = e.fault; steps = n + e.steps } } = cc in rw s

    pub ok_seen : (r q : Result (Answer X V) (Refused X F)) (a : Answer X V) → q ≡ later n r → Ok a ≡ placed p q → seen {F = G} S (Ok a) ≡ inside (g p) (counted n (seen S r))
    ok_seen r q a e h = ok_by r a (rw e at h)

    pub err_seen : (r q : Result (Answer X V) (Refused X F)) (w : Within X P F) → q ≡ later n r → Err w ≡ placed p q → seen {V = V} S (Err (raised g w)) ≡ inside (g p) (counted n (seen S r))
    err_seen r q w e h = err_by r w (rw e at h)
