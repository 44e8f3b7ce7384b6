-- A neuron in code: the net, then the activation.
use Rattle.std.proofs.Common.{◌≡◌, ℕ, ◌≤◌, List, ℤ, Some, None, Option, Result, refl, add-zero, arith}
use Rattle.stage.specs.Stage.{Rule}
use Rattle.stage.specs.declared.stage.Stage.{Ghosts}
use Rattle.cordic.specs.Outcome.{State, Out, went, stopped, counted, onward, mapped, inside}
use Rattle.cordic.specs.Seen.{seen}
use Rattle.cordic.specs.declared.faults.UnitFault.{UnitFault}
use Rattle.cordic.specs.declared.states.Answer.{Answer}
use Rattle.cordic.specs.declared.states.Refused.{Refused}
use Rattle.network.specs.Neuron.{Neuron, Net, Quotient, products, tanh, squashed, activated, neuron_fault, fired}
use Rattle.network.specs.Placing.{in_neuron, steps_made}
use Rattle.network.specs.Plain.{net_value, netted, in_product}
use Rattle.network.specs.Run.{output}
use Rattle.network.specs.declared.activation.Activation.{Activation}
use Rattle.network.specs.declared.activation.Activation.TheVariants.{Identity, Tanh}
use Rattle.network.specs.declared.faults.NeuronFault.{NeuronFault}
use Rattle.network.proofs.Short.{made_steps, mapped_steps, tanh_short}

abbrev input_of : ℕ × UnitFault → ℕ → Option ℕ × UnitFault
input_of p n = (Some p.0, p.1)

-- a neuron, from what its net comes to
abbrev from : Rule → Activation → ℤ → Out Net (ℕ × UnitFault) → Out ℤ NeuronFault
from rule h b o = mapped output (inside neuron_fault (onward (activated rule h b) (inside input_of o)))

identity_by : (rule : Rule) (b : ℤ) (o : Out Net (ℕ × UnitFault)) → inside in_product (mapped net_value o) ≡ from rule Identity b o
identity_by rule b (went m n s) = rw (add-zero n)
identity_by rule b (stopped p n s) = refl

stopped_by : (rule : Rule) (h : Activation) (b : ℤ) (o : Out Net (ℕ × UnitFault)) (f : NeuronFault) (n : ℕ) (s : State) → stopped f n s ≡ inside in_product (mapped net_value o)
    → stopped f n s ≡ from rule h b o
stopped_by rule h b (went m k u) f n s e = let z : ◌≡◌ {A = ℕ} 0 1 = cc in absurd (omega arith)
stopped_by rule h b (stopped p k u) f n s e = e

squash_by : (b : ℤ) (m : Net) (n : ℕ) (o : Out Quotient UnitFault)
    → inside (in_neuron None) (counted n (mapped (λ q. q.t) o)) ≡ mapped output (inside neuron_fault (counted n (mapped (squashed b m) (inside (λ f _. (None, f)) o))))
squash_by b m n (went q k s) = refl
squash_by b m n (stopped f k s) = refl

tanh_by : (rule : Rule) (b : ℤ) (o : Out Net (ℕ × UnitFault)) (v : ℤ) (n : ℕ) (s : State) → went v n s ≡ inside in_product (mapped net_value o)
    → inside (in_neuron None) (counted n (mapped (λ (q : Quotient). q.t) (tanh rule v s))) ≡ from rule Tanh b o
tanh_by rule b (went m k u) v n s e =
    let a : v ≡ m.value = cc in
    let c : n ≡ k = cc in
    let d : s ≡ u = cc in
    rw (a, c, d) (squash_by b m k (tanh rule m.value u))
tanh_by rule b (stopped p k u) v n s e = let z : ◌≡◌ {A = ℕ} 0 1 = cc in absurd (omega arith)

module _ (rule : Rule) (xs : List ℤ) (n : Neuron) (s : State) where
  pub fire_identity : inside in_product (netted rule 0 xs n.weights n.bias s) ≡ mapped output (fired rule Identity xs n s)
  unfolding fired
  fire_identity = identity_by rule n.bias (products rule 0 xs n.weights n.bias s)

  pub fire_stopped : (h : Activation) {f : NeuronFault} {k : ℕ} {u : State} → stopped f k u ≡ inside in_product (netted rule 0 xs n.weights n.bias s)
      → stopped f k u ≡ mapped output (fired rule h xs n s)
  unfolding fired
  fire_stopped h e = stopped_by rule h n.bias (products rule 0 xs n.weights n.bias s) _ _ _ e

  pub fire_tanh : {v : ℤ} {k : ℕ} {u : State} → went v k u ≡ inside in_product (netted rule 0 xs n.weights n.bias s)
      → inside (in_neuron None) (counted k (mapped (λ (q : Quotient). q.t) (tanh rule v u))) ≡ mapped output (fired rule Tanh xs n s)
  unfolding fired
  fire_tanh e = tanh_by rule n.bias (products rule 0 xs n.weights n.bias s) _ _ _ e

pub tanh_made : {X : Type 0} (S : Ghosts X) (r : Result (Answer X ℤ) (Refused X UnitFault)) (rule : Rule) (v : ℤ) (s : State)
    → seen S r ≡ mapped (λ (q : Quotient). q.t) (tanh rule v s) → steps_made r ≤ 58
tanh_made S r rule v s e = rw (made_steps S r, e, mapped_steps (λ (q : Quotient). q.t) (tanh rule v s)) (tanh_short rule v s)
