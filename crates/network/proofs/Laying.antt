-- The loop over the neurons of a layer.
use Rattle.std.proofs.Common.{◌≡◌, ℕ, ◌+◌, ◌≤◌, List, [], ◌∷◌, ◌++◌, map, length, ℤ, Ok, Err, Result, sym, refl, ap, ◌∙◌, add-zero, w32, SFits, to_z, of_z}
use Rattle.std.proofs.lemmas.Int.{to_z-of_z}
use Rattle.std.proofs.lemmas.List.{append_assoc, append-nil}
use Rattle.stage.specs.Stage.{Rule}
use Rattle.stage.specs.declared.stage.Stage.{Ghosts}
use Rattle.cordic.specs.Outcome.{State, Out, went, stopped, counted, onward, mapped, inside}
use Rattle.cordic.specs.Seen.{seen, state_of}
use Rattle.cordic.specs.declared.states.Answer.{Answer}
use Rattle.cordic.specs.declared.states.Refused.{Refused}
use Rattle.cordic.proofs.Outs.{loop_on, loop_halt}
use Rattle.network.specs.Neuron.{Neuron, Working, fired}
use Rattle.network.specs.Placing.{steps_made, later, placed, raised, in_network}
use Rattle.network.specs.Plain.{layer_of, outs, laid}
use Rattle.network.specs.Run.{output, located, layer}
use Rattle.network.specs.declared.activation.Activation.{Activation}
use Rattle.network.specs.declared.faults.NeuronFault.{NeuronFault}
use Rattle.network.specs.declared.faults.NetworkFault.{NetworkFault}
use Rattle.network.specs.declared.site.Site.{Site}
use Rattle.network.specs.declared.site.Within.{Within}
use Rattle.network.proofs.Places.{ok_seen, err_seen}
use Rattle.network.proofs.Short.{made_steps, mapped_steps, fired_short}

laid_none : (rule : Rule) (l : ℕ) (a : Activation) (xs ys : List ℤ) (j : ℕ) (s : State) → laid rule l a xs ys j [] s ≡ went ys 0 s
unfolding layer
laid_none rule l a xs ys j s = ap (λ zs. went zs 0 s) (append-nil ys)

one_out : (n : ℕ) (ys : List ℤ) (w : Working) (o : Out (List Working) NetworkFault) → mapped (outs ys) (counted n (mapped (λ ws. w ∷ ws) o)) ≡ counted n (mapped (outs (ys ++ output w ∷ [])) o)
one_out n ys w (went ws k s) = ap (λ zs. went zs (n + k) s) (sym (append_assoc ys (output w ∷ []) (map output ws)))
one_out n ys w (stopped f k s) = refl

by_fired : (rule : Rule) (l : ℕ) (a : Activation) (xs ys : List ℤ) (j : ℕ) (ns : List Neuron) (o : Out Working NeuronFault)
    → mapped (outs ys) (onward (λ w u. mapped (λ ws. w ∷ ws) (layer rule l (layer_of a) xs (j + 1) ns u)) (inside (located l j) o))
    ≡ onward (λ y. laid rule l a xs (ys ++ y ∷ []) (j + 1) ns) (inside (located l j) (mapped output o))
by_fired rule l a xs ys j ns (went w n u) = one_out n ys w (layer rule l (layer_of a) xs (j + 1) ns u)
by_fired rule l a xs ys j ns (stopped f n u) = refl

laid_more : (rule : Rule) (l : ℕ) (a : Activation) (xs ys : List ℤ) (j : ℕ) (n : Neuron) (ns : List Neuron) (s : State)
    → laid rule l a xs ys j (n ∷ ns) s ≡ onward (λ y. laid rule l a xs (ys ++ y ∷ []) (j + 1) ns) (inside (located l j) (mapped output (fired rule a xs n s)))
unfolding layer
laid_more rule l a xs ys j n ns s = by_fired rule l a xs ys j ns (fired rule a xs n s)

abbrev pub site_at : ℕ → ℕ → Site
site_at l j = record { layer = l; neuron = j }

located_counted : {V : Type 0} (l j n : ℕ) (o : Out V NeuronFault) → inside (in_network (site_at l j)) (counted n o) ≡ counted n (inside (located l j) o)
located_counted l j n (went v k s) = refl
located_counted l j n (stopped f k s) = refl

pub fire_short : {X : Type 0} (S : Ghosts X) (r : Result (Answer X ℤ) (Refused X NeuronFault)) (rule : Rule) (a : Activation) (xs : List ℤ) (n : Neuron) (s : State)
    → length xs ≤ 64 → seen S r ≡ mapped output (fired rule a xs n s) → steps_made r ≤ 1850
fire_short S r rule a xs n s l e = rw (made_steps S r, e, mapped_steps output (fired rule a xs n s)) (fired_short rule a xs n s l)

-- n steps made, ys the outputs so far, s the state now, and the neuron v next
module _ {X : Type 0} (S : Ghosts X) (rule : Rule) (l : ℕ) (a : Activation) (xs ys : List ℤ) (j n : ℕ) (all ns : List Neuron) (v : Neuron) (s : State) {whole : Out (List ℤ) NetworkFault}
    (inv : counted n (laid rule l a xs ys j all s) ≡ whole) (are : all ≡ v ∷ ns) (r q : Result (Answer X ℤ) (Refused X NeuronFault))
    (e : seen S r ≡ mapped output (fired rule a xs v s)) (k : q ≡ later n r) where
  here : laid rule l a xs ys j all s ≡ onward (λ y. laid rule l a xs (ys ++ y ∷ []) (j + 1) ns) (inside (located l j) (mapped output (fired rule a xs v s)))
  here = rw are (laid_more rule l a xs ys j v ns s)

  pub layer_on : (b : Answer X ℤ) → Ok b ≡ placed (site_at l j) q → counted b.steps (laid rule l a xs (ys ++ b.value ∷ []) (j + 1) ns (state_of S b.unit.stage)) ≡ whole
  layer_on b g =
      let o = ok_seen (site_at l j) n S in_network r q b k g ∙ ap (λ x. inside (in_network (site_at l j)) (counted n x)) e ∙ located_counted l j n _ in
      loop_on n _ inv (λ y. laid rule l a xs (ys ++ y ∷ []) (j + 1) ns) _ here o

  -- the same, of outputs that end with the word as a vector holds it
  pub layer_kept : (b : Answer X ℤ) (zs : List ℤ) → Ok b ≡ placed (site_at l j) q → SFits w32 b.value → zs ≡ ys ++ to_z w32 (of_z w32 b.value) ∷ [] → counted b.steps (laid rule l a xs zs (j + 1) ns (state_of S b.unit.stage)) ≡ whole
  layer_kept b zs g f p = rw (p, to_z-of_z w32 b.value f) (layer_on b g)

  pub layer_halt : (w : Within X Site NeuronFault) → Err w ≡ placed (site_at l j) q → seen {V = List ℤ} S (Err (raised in_network w)) ≡ whole
  layer_halt w g =
      let o = err_seen (site_at l j) n S in_network r q w k g ∙ ap (λ x. inside (in_network (site_at l j)) (counted n x)) e ∙ located_counted l j n _ in
      loop_halt n _ inv (λ y. laid rule l a xs (ys ++ y ∷ []) (j + 1) ns) _ here o

pub layer_done : (rule : Rule) (l : ℕ) (a : Activation) (xs ys : List ℤ) (j n : ℕ) (ns : List Neuron) (s : State) {whole : Out (List ℤ) NetworkFault}
    → counted n (laid rule l a xs ys j ns s) ≡ whole → ns ≡ [] → went ys n s ≡ whole
layer_done rule l a xs ys j n ns s inv e = rw (e, laid_none rule l a xs ys j s, add-zero) at inv
