-- No part of a run makes more steps than its plan costs.
use Rattle.std.proofs.Common.{◌≡◌, ℕ, ◌+◌, ◌*◌, ◌≤◌, List, [], ◌∷◌, length, ℤ, pos, Some, Ok, Err, Result, sym, refl, arith}
use Rattle.stage.specs.Stage.{Rule}
use Rattle.stage.specs.declared.registers.Triple.{Triple}
use Rattle.stage.specs.declared.stage.Stage.{Ghosts}
use Rattle.stage.specs.declared.step.System.{System}
use Rattle.stage.specs.declared.step.System.TheVariants.{Linear, Hyperbolic}
use Rattle.cordic.specs.Outcome.{State, Out, went, stopped, mapped, inside, steps_in}
use Rattle.cordic.specs.Seen.{seen}
use Rattle.cordic.specs.Tables.{linear, hyperbolic}
use Rattle.cordic.specs.Unit.{passed}
use Rattle.cordic.specs.declared.mode.Mode.{Mode}
use Rattle.cordic.specs.declared.mode.Mode.TheVariants.{Rotation, Vectoring}
use Rattle.cordic.specs.declared.order.Iteration.{Iteration}
use Rattle.cordic.specs.declared.faults.UnitFault.{UnitFault}
use Rattle.cordic.specs.declared.states.Answer.{Answer}
use Rattle.cordic.specs.declared.states.Refused.{Refused}
use Rattle.cordic.proofs.Ends.{linear_length}
use Rattle.cordic.proofs.Holds.{Holds}
use Rattle.cordic.proofs.Outs.{onward_short}
use Rattle.cordic.proofs.Passes.{Passes, Fails, at_load, at_step, passes}
use Rattle.cordic.proofs.Places.{within}
use Rattle.network.specs.Neuron.{Neuron, Net, start, term, before, products, tanh, activated, fired}
use Rattle.network.specs.Placing.{steps_made}
use Rattle.network.specs.Plan.{LayerOf}
use Rattle.network.specs.Run.{located, layer}
use Rattle.network.specs.declared.activation.Activation.{Activation}
use Rattle.network.specs.declared.activation.Activation.TheVariants.{Identity, Tanh}
use Rattle.network.proofs.Systems.{hyperbolic_length}

pub made_steps : {X V F : Type 0} (S : Ghosts X) (r : Result (Answer X V) (Refused X F)) → steps_made r ≡ steps_in (seen S r)
made_steps S (Ok a) = refl
made_steps S (Err e) = refl

pub mapped_steps : {V W F : Type 0} (g : V → W) (o : Out V F) → steps_in (mapped g o) ≡ steps_in o
mapped_steps g (went v n s) = refl
mapped_steps g (stopped f n s) = refl

pub inside_steps : {V F G : Type 0} (g : F → ℕ → G) (o : Out V F) → steps_in (inside g o) ≡ steps_in o
inside_steps g (went v n s) = refl
inside_steps g (stopped f n s) = refl

by_ends : (m : System) (ks : List Iteration) (o : Mode) (t : Triple) (s : State) (r : Out Triple UnitFault) → Holds (Passes m ks o t) (Fails m ks o t s) r → steps_in r ≤ length ks
by_ends m ks o t s (went v n u) p = let e = p.steps in omega arith
by_ends m ks o t s (stopped f n u) (at_load why e c z same) = omega arith
by_ends m ks o t s (stopped f n u) (at_step g c x) = let h = within ks n x.next (sym x.follows) in omega arith

pub passed_short : (rule : Rule) (m : System) (ks : List Iteration) (o : Mode) (t : Triple) (s : State) → steps_in (passed rule m ks o t s) ≤ length ks
passed_short rule m ks o t s = by_ends m ks o t s (passed rule m ks o t s) (passes rule m ks o t s)

pub went_short : (rule : Rule) (m : System) (ks : List Iteration) (o : Mode) (t v : Triple) (s u : State) (n : ℕ) → went v n u ≡ passed rule m ks o t s → n ≤ length ks
went_short rule m ks o t v s u n e = let h = passed_short rule m ks o t s in rw (← e) at h

pub products_short : (rule : Rule) (i : ℕ) (xs ws : List ℤ) (y : ℤ) (s : State) → steps_in (products rule i xs ws y s) ≤ 28 * length xs
unfolding products
products_short rule i [] ws y s = omega arith
products_short rule i (x ∷ xs) [] y s = omega arith
products_short rule i (x ∷ xs) (w ∷ ws) y s =
    let p = passed rule Linear linear Rotation (start x y w) s in
    let a : steps_in (inside (λ f _. (i, f)) p) ≤ 28 = rw inside_steps (let b = passed_short rule Linear linear Rotation (start x y w) s in let l = linear_length in omega arith) in
    let h = onward_short 28 (28 * length xs) (λ t u. mapped (before (term x w t)) (products rule (i + 1) xs ws t.y u)) (inside (λ f _. (i, f)) p) a
    (λ t u. rw mapped_steps (products_short rule (i + 1) xs ws t.y u)) in
    omega arith

pub tanh_short : (rule : Rule) (u : ℤ) (s : State) → steps_in (tanh rule u s) ≤ 58
unfolding tanh
tanh_short rule u s =
    let p = passed rule Hyperbolic hyperbolic Rotation (start (pos 0x1000_0000) (pos 0) u) s in
    let a : steps_in p ≤ 30 = (let b = passed_short rule Hyperbolic hyperbolic Rotation (start (pos 0x1000_0000) (pos 0) u) s in let l = hyperbolic_length in omega arith) in
    onward_short 30 28 (λ r v. mapped (λ q. record { x = r.x; y = r.y; t = q.z }) (passed rule Linear linear Vectoring (start r.x r.y (pos 0)) v)) p a
    (λ r v. rw mapped_steps (let b = passed_short rule Linear linear Vectoring (start r.x r.y (pos 0)) v in let l = linear_length in omega arith))

activated_short : (rule : Rule) (h : Activation) (b : ℤ) (m : Net) (s : State) → steps_in (activated rule h b m s) ≤ 58
activated_short rule Identity b m s = omega arith
activated_short rule Tanh b m s = rw (mapped_steps, inside_steps) (tanh_short rule m.value s)

pub fired_short : (rule : Rule) (h : Activation) (xs : List ℤ) (n : Neuron) (s : State) → length xs ≤ 64 → steps_in (fired rule h xs n s) ≤ 1850
unfolding fired
fired_short rule h xs n s l =
    let o = products rule 0 xs n.weights n.bias s in
    let i = inside (λ p _. (Some p.0, p.1)) o in
    let a : steps_in i ≤ 1792 = rw inside_steps (let b = products_short rule 0 xs n.weights n.bias s in omega arith) in
    rw inside_steps (onward_short 1792 58 (activated rule h n.bias) i a (λ m u. activated_short rule h n.bias m u))

pub layer_short : (rule : Rule) (l : ℕ) (h : LayerOf) (xs : List ℤ) (j : ℕ) (ns : List Neuron) (s : State) → length xs ≤ 64 → steps_in (layer rule l h xs j ns s) ≤ 1850 * length ns
unfolding layer
layer_short rule l h xs j [] s k = omega arith
layer_short rule l h xs j (n ∷ ns) s k =
    let o = fired rule h.activation xs n s in
    let a : steps_in (inside (located l j) o) ≤ 1850 = rw inside_steps (fired_short rule h.activation xs n s k) in
    let q = onward_short 1850 (1850 * length ns) (λ w u. mapped (λ ws. w ∷ ws) (layer rule l h xs (j + 1) ns u)) (inside (located l j) o) a
    (λ w u. rw mapped_steps (layer_short rule l h xs (j + 1) ns u k)) in
    omega arith
