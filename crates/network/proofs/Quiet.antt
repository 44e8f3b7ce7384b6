-- Each part of a network run, with the notes left out, is that part on a stage that notes nothing.
use Rattle.std.proofs.Common.{◌≡◌, ℕ, ◌+◌, Bool, true, false, cond, eqb, ltb, List, [], ◌∷◌, map, length, ℤ, pos, Some, None, Ok, Err, Result, sym, refl, ap, ◌∙◌}
use Rattle.stage.specs.Stage.{Rule, silent}
use Rattle.cordic.specs.Outcome.{State, Out, mapped, inside, bare}
use Rattle.cordic.specs.Tables.{linear, hyperbolic}
use Rattle.cordic.specs.Unit.{passed}
use Rattle.network.specs.Neuron.{Neuron, Net, products, tanh, activated, fired, start, term, before, squashed, neuron_fault}
use Rattle.network.specs.Plan.{LayerOf, plan_of}
use Rattle.network.specs.Run.{Feed, output, located, layer, layers, words, sampled, checked, recurrence, exits, entrance}
use Rattle.network.specs.Claim.{otherwise}
use Rattle.stage.specs.declared.step.System.TheVariants.{Linear, Hyperbolic}
use Rattle.cordic.specs.declared.mode.Mode.TheVariants.{Rotation, Vectoring}
use Rattle.network.specs.declared.activation.Activation.{Activation}
use Rattle.network.specs.declared.activation.Activation.TheVariants.{Identity, Tanh}
use Rattle.network.specs.declared.faults.NetworkFault.{NetworkFault}
use Rattle.cordic.proofs.Bare.{blank, bare_mapped, bare_inside, bare_onward, bare_passed}

module _ (rule : Rule) where
  bare_products : (i : ℕ) (xs ws : List ℤ) (y : ℤ) (s : State) → bare (products rule i xs ws y s) ≡ products silent i xs ws y (blank s)
  unfolding products
  bare_products i [] ws y s = refl
  bare_products i (x ∷ xs) [] y s = refl
  bare_products i (x ∷ xs) (w ∷ ws) y s =
      bare_onward (λ t u. mapped (before (term x w t)) (products rule (i + 1) xs ws t.y u)) (λ t u. mapped (before (term x w t)) (products silent (i + 1) xs ws t.y u))
      (inside (λ f _. (i, f)) (passed rule Linear linear Rotation (start x y w) s)) (inside (λ f _. (i, f)) (passed silent Linear linear Rotation (start x y w) (blank s)))
      (bare_inside (λ f _. (i, f)) (passed rule Linear linear Rotation (start x y w) s) ∙ ap (inside (λ f _. (i, f))) (bare_passed rule Linear linear Rotation (start x y w) s))
      (λ t u. bare_mapped (before (term x w t)) (products rule (i + 1) xs ws t.y u) ∙ ap (mapped (before (term x w t))) (bare_products (i + 1) xs ws t.y u))

  bare_tanh : (n : ℤ) (s : State) → bare (tanh rule n s) ≡ tanh silent n (blank s)
  unfolding tanh
  bare_tanh n s =
      bare_onward
      (λ r v. mapped (λ q. record { x = r.x; y = r.y; t = q.z }) (passed rule Linear linear Vectoring (start r.x r.y (pos 0)) v))
      (λ r v. mapped (λ q. record { x = r.x; y = r.y; t = q.z }) (passed silent Linear linear Vectoring (start r.x r.y (pos 0)) v))
      (passed rule Hyperbolic hyperbolic Rotation (start (pos 0x1000_0000) (pos 0) n) s) (passed silent Hyperbolic hyperbolic Rotation (start (pos 0x1000_0000) (pos 0) n) (blank s))
      (bare_passed rule Hyperbolic hyperbolic Rotation (start (pos 0x1000_0000) (pos 0) n) s)
      (λ r v. bare_mapped _ (passed rule Linear linear Vectoring (start r.x r.y (pos 0)) v) ∙ ap (mapped _) (bare_passed rule Linear linear Vectoring (start r.x r.y (pos 0)) v))

  bare_activated : (h : Activation) (b : ℤ) (n : Net) (s : State) → bare (activated rule h b n s) ≡ activated silent h b n (blank s)
  bare_activated Identity b n s = refl
  bare_activated Tanh b n s =
      bare_mapped (squashed b n) (inside (λ f _. (None, f)) (tanh rule n.value s))
      ∙ ap (mapped (squashed b n)) (bare_inside (λ f _. (None, f)) (tanh rule n.value s) ∙ ap (inside (λ f _. (None, f))) (bare_tanh n.value s))

  bare_fired : (h : Activation) (xs : List ℤ) (n : Neuron) (s : State) → bare (fired rule h xs n s) ≡ fired silent h xs n (blank s)
  unfolding fired
  bare_fired h xs n s =
      bare_inside neuron_fault _
      ∙ ap (inside neuron_fault) (
      bare_onward (activated rule h n.bias) (activated silent h n.bias)
      (inside (λ p _. (Some p.0, p.1)) (products rule 0 xs n.weights n.bias s)) (inside (λ p _. (Some p.0, p.1)) (products silent 0 xs n.weights n.bias (blank s)))
      (bare_inside (λ p _. (Some p.0, p.1)) (products rule 0 xs n.weights n.bias s) ∙ ap (inside (λ p _. (Some p.0, p.1))) (bare_products 0 xs n.weights n.bias s))
      (λ v u. bare_activated h n.bias v u))

  bare_layer : (l : ℕ) (h : LayerOf) (xs : List ℤ) (j : ℕ) (ns : List Neuron) (s : State) → bare (layer rule l h xs j ns s) ≡ layer silent l h xs j ns (blank s)
  unfolding layer
  bare_layer l h xs j [] s = refl
  bare_layer l h xs j (n ∷ ns) s =
      bare_onward (λ w u. mapped (λ ws. w ∷ ws) (layer rule l h xs (j + 1) ns u)) (λ w u. mapped (λ ws. w ∷ ws) (layer silent l h xs (j + 1) ns u))
      (inside (located l j) (fired rule h.activation xs n s)) (inside (located l j) (fired silent h.activation xs n (blank s)))
      (bare_inside (located l j) (fired rule h.activation xs n s) ∙ ap (inside (located l j)) (bare_fired h.activation xs n s))
      (λ w u. bare_mapped (λ ws. w ∷ ws) (layer rule l h xs (j + 1) ns u) ∙ ap (mapped (λ ws. w ∷ ws)) (bare_layer l h xs (j + 1) ns u))

  bare_layers : (l : ℕ) (hs : List LayerOf) (xs : List ℤ) (s : State) → bare (layers rule l hs xs s) ≡ layers silent l hs xs (blank s)
  unfolding layers
  bare_layers l [] xs s = refl
  bare_layers l (h ∷ hs) xs s =
      bare_onward (λ ws u. mapped (λ rest. ws ∷ rest) (layers rule (l + 1) hs (map output ws) u)) (λ ws u. mapped (λ rest. ws ∷ rest) (layers silent (l + 1) hs (map output ws) u))
      (layer rule l h xs 0 h.neurons s) (layer silent l h xs 0 h.neurons (blank s)) (bare_layer l h xs 0 h.neurons s)
      (λ ws u. bare_mapped (λ rest. ws ∷ rest) (layers rule (l + 1) hs (map output ws) u) ∙ ap (mapped (λ rest. ws ∷ rest)) (bare_layers (l + 1) hs (map output ws) u))

bare_cond : {V F : Type 0} (b : Bool) (o p o' p' : Out V F) → bare o ≡ o' → bare p ≡ p' → bare (cond b o p) ≡ cond b o' p'
bare_cond true o p o' p' e f = e
bare_cond false o p o' p' e f = f

bare_sampled : (f : Feed) (hs : List LayerOf) (r : Result (List ℤ) ℕ) → bare (sampled f hs r) ≡ sampled (otherwise f silent []) hs r
bare_sampled f hs (Ok ws) = bare_layers f.rule 0 hs ws f.state
bare_sampled f hs (Err p) = refl

bare_checked : (f : Feed) (r : Result (List LayerOf) NetworkFault) → bare (checked f r) ≡ checked (otherwise f silent []) r
bare_checked f (Ok hs) =
    bare_cond (ltb (length f.places) (exits hs)) _ _ _ _ refl
    (bare_cond (eqb (length f.samples) (entrance hs)) _ _ _ _ (bare_sampled f hs (words 0 f.samples)) refl)
bare_checked f (Err why) = refl

pub bare_recurrence : (f : Feed) → bare (recurrence f) ≡ recurrence (otherwise f silent [])
unfolding recurrence
bare_recurrence f = bare_checked f (plan_of f.plan)

pub alike : (f : Feed) (rule : Rule) (notes : List ℤ) → bare (recurrence (otherwise f rule notes)) ≡ bare (recurrence f)
alike f rule notes = bare_recurrence (otherwise f rule notes) ∙ sym (bare_recurrence f)
