-- The loop over a neuron's inputs.
use Rattle.std.proofs.Common.{◌≡◌, ℕ, ◌+◌, ◌≤◌, ◌⊎◌, inl, inr, List, [], ◌∷◌, ℤ, Some, None, Ok, Err, Option, Result, refl, ap, ◌∙◌, add-zero, arith}
use Rattle.std.proofs.iter.Yields.{fronts}
use Rattle.std.proofs.lemmas.Iterator.{zips}
use Rattle.std.proofs.lemmas.Slice.Zip.{Zip-more, either_empty_from_Zip}
use Rattle.std.specs.Iterator.Adapters.{enumerate_source, enumerate_count, enumerate_steps, zip_first, zip_second}
use Rattle.std.specs.Slice.Iter.{iter_rest}
use Rattle.std.specs.declared.iter.Enumerate.{Enumerate}
use Rattle.std.specs.declared.iter.Zip.{Zip}
use Rattle.std.specs.declared.slice.Iter.{Iter}
use denote.Ref.{Bor}
use Rattle.stage.specs.Stage.{Rule}
use Rattle.stage.specs.declared.registers.Triple.{Triple}
use Rattle.stage.specs.declared.stage.Stage.{Ghosts}
use Rattle.stage.specs.declared.step.System.TheVariants.{Linear}
use Rattle.cordic.specs.Outcome.{State, Out, went, stopped, counted, onward, mapped, inside}
use Rattle.cordic.specs.Seen.{seen, state_of}
use Rattle.cordic.specs.Tables.{linear}
use Rattle.cordic.specs.Unit.{passed}
use Rattle.cordic.specs.declared.mode.Mode.TheVariants.{Rotation}
use Rattle.cordic.specs.declared.faults.UnitFault.{UnitFault}
use Rattle.cordic.specs.declared.states.Answer.{Answer}
use Rattle.cordic.specs.declared.states.Refused.{Refused}
use Rattle.cordic.proofs.Ends.{linear_length}
use Rattle.cordic.proofs.Outs.{loop_on, loop_halt}
use Rattle.network.specs.Neuron.{Net, Term, start, term, before, products}
use Rattle.network.specs.Placing.{steps_made, later, placed, raised, in_neuron}
use Rattle.network.specs.Plain.{net_value, netted, in_product}
use Rattle.network.specs.declared.faults.NeuronFault.{NeuronFault}
use Rattle.network.specs.declared.site.Within.{Within}
use Rattle.network.proofs.Places.{ok_seen, err_seen}
use Rattle.network.proofs.Short.{made_steps, mapped_steps, passed_short}

netted_none : (rule : Rule) (i : ℕ) (ws : List ℤ) (y : ℤ) (s : State) → netted rule i [] ws y s ≡ went y 0 s
unfolding products
netted_none rule i ws y s = refl

netted_spent : (rule : Rule) (i : ℕ) (xs : List ℤ) (y : ℤ) (s : State) → netted rule i xs [] y s ≡ went y 0 s
unfolding products
netted_spent rule i [] y s = refl
netted_spent rule i (x ∷ xs) y s = refl

value_before : (n : ℕ) (k : Term) (o : Out Net (ℕ × UnitFault)) → mapped net_value (counted n (mapped (before k) o)) ≡ counted n (mapped net_value o)
value_before n k (went m j s) = refl
value_before n k (stopped f j s) = refl

by_pass : (rule : Rule) (i : ℕ) (x w : ℤ) (xs ws : List ℤ) (o : Out Triple UnitFault)
    → mapped net_value (onward (λ t u. mapped (before (term x w t)) (products rule (i + 1) xs ws t.y u)) (inside (λ f _. (i, f)) o))
    ≡ onward (netted rule (i + 1) xs ws) (inside (λ f _. (i, f)) (mapped (λ t. t.y) o))
by_pass rule i x w xs ws (went t n u) = value_before n (term x w t) (products rule (i + 1) xs ws t.y u)
by_pass rule i x w xs ws (stopped f n u) = refl

netted_more : (rule : Rule) (i : ℕ) (x w : ℤ) (xs ws : List ℤ) (y : ℤ) (s : State)
    → netted rule i (x ∷ xs) (w ∷ ws) y s ≡ onward (netted rule (i + 1) xs ws) (inside (λ f _. (i, f)) (mapped (λ t. t.y) (passed rule Linear linear Rotation (start x y w) s)))
unfolding products
netted_more rule i x w xs ws y s = by_pass rule i x w xs ws (passed rule Linear linear Rotation (start x y w) s)

pub product_short : {X : Type 0} (S : Ghosts X) (r : Result (Answer X ℤ) (Refused X UnitFault)) (rule : Rule) (t : Triple) (s : State)
    → seen S r ≡ mapped (λ (v : Triple). v.y) (passed rule Linear linear Rotation t s) → steps_made r ≤ 28
product_short S r rule t s e =
    rw (made_steps S r, e, mapped_steps (λ (v : Triple). v.y) (passed rule Linear linear Rotation t s)) (let h = passed_short rule Linear linear Rotation t s in let l = linear_length in omega arith)

abbrev pub at : ℕ → UnitFault → ℕ → ℕ × UnitFault
at i f n = (i, f)

-- what an outcome with its fault inside comes to, before that
went_back : {V : Type 0} (v : V) (n k i : ℕ) (s : State) (o : Out V UnitFault) → went v n s ≡ inside (in_neuron (Some i)) (counted k o) → went v n s ≡ counted k (inside (at i) o)
went_back v n k i s (went w j u) e = cc
went_back v n k i s (stopped f j u) e = let z : ◌≡◌ {A = ℕ} 0 1 = cc in absurd (omega arith)

stopped_back : {V : Type 0} (f : NeuronFault) (n k i : ℕ) (s : State) (o : Out V UnitFault) → stopped f n s ≡ inside (in_neuron (Some i)) (counted k o)
    → (g : UnitFault) × (stopped (i, g) n s ≡ counted k (inside (at i) o)) × (f ≡ in_product (i, g) n)
stopped_back f n k i s (went w j u) e = let z : ◌≡◌ {A = ℕ} 0 1 = cc in absurd (omega arith)
stopped_back f n k i s (stopped g j u) e =
    let a : n ≡ k + j = cc in
    let b : s ≡ u = cc in
    (g, rw (a, b), (let c : f ≡ in_neuron (Some i) g (k + j) = cc in rw (c, a)))

-- inputs and weights, one after the other, with their number
abbrev pub Pairs : Type 0
Pairs = Enumerate (Zip (Iter ℤ) (Iter ℤ))

abbrev pub inputs_left : Pairs → List ℤ
inputs_left ps = iter_rest (zip_first (enumerate_source ps))

abbrev pub weights_left : Pairs → List ℤ
weights_left ps = iter_rest (zip_second (enumerate_source ps))

-- what is left to do
abbrev pub left : Rule → Pairs → ℤ → State → Out ℤ (ℕ × UnitFault)
left rule ps y s = netted rule (enumerate_count ps) (inputs_left ps) (weights_left ps) y s

-- one turn of the loop takes the next input and the next weight
pub record Turn (ps more : Pairs) (i : ℕ) (x w : ℤ) : Type 0 where
  pub place : i ≡ enumerate_count ps
  pub next : enumerate_count more ≡ enumerate_count ps + 1
  pub input : inputs_left ps ≡ x ∷ inputs_left more
  pub weight : weights_left ps ≡ w ∷ weights_left more

pub turned : (ps more : Pairs) (r : Option (ℕ × (Bor ℤ × Bor ℤ))) (p : ℕ × (Bor ℤ × Bor ℤ)) → r ≡ Some p → enumerate_steps (zips fronts fronts) ps r more
    → Turn ps more p.0 p.1.0.now p.1.1.now
turned ps more r p e step =
    let h = rw e at step in
    let z = Zip-more (enumerate_source ps) (enumerate_source more) (Some p.1) p.1 refl h.0 in
    record { place = h.1; next = h.2; input = z.0; weight = z.1 }

-- n steps made, y the sum so far, s the state now
module _ {X : Type 0} (S : Ghosts X) (rule : Rule) (ps more : Pairs) (n : ℕ) (y : ℤ) (s : State) {whole : Out ℤ (ℕ × UnitFault)}
    (inv : counted n (left rule ps y s) ≡ whole) where
  module _ (i : ℕ) (x w : ℤ) (t : Turn ps more i x w) (r q : Result (Answer X ℤ) (Refused X UnitFault))
      (e : seen S r ≡ mapped (λ (v : Triple). v.y) (passed rule Linear linear Rotation (start x y w) s)) (l : q ≡ later n r) where
    first : Out ℤ (ℕ × UnitFault)
    first = inside (at i) (mapped (λ (v : Triple). v.y) (passed rule Linear linear Rotation (start x y w) s))

    here : left rule ps y s ≡ onward (left rule more) first
    unfolding first
    here = rw (t.input, t.weight, t.next, ← t.place) (netted_more rule i x w (inputs_left more) (weights_left more) y s)

    pub net_on : (a : Answer X ℤ) → Ok a ≡ placed (Some i) q → counted a.steps (left rule more a.value (state_of S a.unit.stage)) ≡ whole
    unfolding first
    net_on a g =
        let o = ok_seen (Some i) n S in_neuron r q a l g in
        loop_on n _ inv (left rule more) first here
        (went_back a.value a.steps n i (state_of S a.unit.stage) _ (o ∙ ap (λ x. inside (in_neuron (Some i)) (counted n x)) e))

    pub net_halt : (w : Within X (Option ℕ) UnitFault) → Err w ≡ placed (Some i) q → seen {V = ℤ} S (Err (raised in_neuron w)) ≡ inside in_product whole
    unfolding first
    net_halt w g =
        let o = err_seen (Some i) n S in_neuron r q w l g ∙ ap (λ x. inside (in_neuron (Some i)) (counted n x)) e in
        let b = stopped_back (raised in_neuron w).fault (raised in_neuron w).steps n i (state_of S (raised in_neuron w).unit.stage) _ o in
        ap (λ f. stopped f (raised in_neuron w).steps (state_of S (raised in_neuron w).unit.stage)) b.2
        ∙ ap (inside in_product) (loop_halt n _ inv (left rule more) first here b.1)

  pub net_done : {r : Option (ℕ × (Bor ℤ × Bor ℤ))} → r ≡ None → enumerate_steps (zips fronts fronts) ps r more → went y n s ≡ whole
  net_done e step = by (let h = rw e at step in either_empty_from_Zip (enumerate_source ps) (enumerate_source more) None refl h.0)
    where
      by : (inputs_left ps ≡ []) ⊎ (weights_left ps ≡ []) → went y n s ≡ whole
      by (inl e) = rw (e, netted_none rule (enumerate_count ps) (weights_left ps) y s, add-zero) at inv
      by (inr e) = rw (e, netted_spent rule (enumerate_count ps) (inputs_left ps) y s, add-zero) at inv
