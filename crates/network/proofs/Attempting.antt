-- A run whose checks pass: the layers, then the places.
use Rattle.std.proofs.Common.{◌≡◌, ℕ, ◌≤◌, List, [], ◌∷◌, ◌++◌, map, length, take, drop, ℤ, sym, refl, ap, ◌∙◌, arith}
use Rattle.std.proofs.lemmas.List.{length-map, take_at}
use Rattle.arrayvec.specs.ArrayVec.{ArrayVec}
use Rattle.cordic.specs.Outcome.{State, Out, went, stopped, mapped}
use Rattle.network.specs.Admitted.{Admitted}
use Rattle.network.specs.Neuron.{Working}
use Rattle.network.specs.Plain.{lasts, flown}
use Rattle.network.specs.Plan.{LayerOf}
use Rattle.network.specs.Run.{Feed, output, layers, finals, recurrence, outputs, written}
use Rattle.network.specs.Walk.{layers_of}
use Rattle.network.specs.declared.faults.NetworkFault.{NetworkFault}
use Rattle.network.proofs.Layering.{layers_widths, finals_length}

lasts_outputs : (xs : List ℤ) (w : List (List Working)) → 1 ≤ length w → lasts xs w ≡ outputs w
lasts_outputs xs [] h = absurd (omega arith)
lasts_outputs xs (ws ∷ []) h = refl
lasts_outputs xs (ws ∷ v ∷ vs) h = lasts_outputs (map output ws) (v ∷ vs) (omega arith)

-- words that may go into the places
pub record Delivers (f : Feed) (ys : List ℤ) (n : ℕ) (s : State) : Type 0 where
  pub same : went ys n s ≡ mapped outputs (recurrence f)
  pub lent : ys ++ drop (length ys) f.places ≡ written (recurrence f) f.places
  pub room : length ys ≤ length f.places

module _ (f : Feed) (inputs : ArrayVec ℤ) (a : Admitted f inputs) where
  abbrev pub hs : List LayerOf
  hs = layers_of f.plan

  by_delivery : (o : Out (List (List Working)) NetworkFault) → layers f.rule 0 hs inputs.items f.state ≡ o → (ys : List ℤ) (n : ℕ) (s : State) → went ys n s ≡ mapped (lasts inputs.items) o → Delivers f ys n s
  by_delivery (went w k u) e ys n s h =
      let wide = layers_widths f.rule 0 hs inputs.items f.state w k u e in
      let long : length w ≡ length hs = sym (length-map w length) ∙ ap length wide ∙ length-map hs (λ l. length l.neurons) in
      let some : 1 ≤ length hs = a.plan.formed.0.some in
      let is : ys ≡ outputs w = let z : ys ≡ lasts inputs.items w = cc in z ∙ lasts_outputs inputs.items w (omega (arith, long, some)) in
      let steps : n ≡ k = cc in
      let state : s ≡ u = cc in
      let goes : recurrence f ≡ went w k u = a.goes ∙ e in
      let room : length (outputs w) ≤ length f.places = rw (length-map (finals w) output, finals_length hs w wide) a.room in
      rw (is, steps, state) (record { same = ap (mapped outputs) (sym goes); lent = ap (λ o. written o f.places) (sym goes); room = room })
  by_delivery (stopped why k u) e ys n s h = let z : ◌≡◌ {A = ℕ} 0 1 = cc in absurd (omega arith)

  pub delivery : (ys : List ℤ) (n : ℕ) (s : State) → went ys n s ≡ flown f.rule 0 hs inputs.items f.state → Delivers f ys n s
  delivery ys n s h = by_delivery (layers f.rule 0 hs inputs.items f.state) refl ys n s h

  by_halt : (o : Out (List (List Working)) NetworkFault) (why : NetworkFault) (n : ℕ) (s : State) → stopped why n s ≡ mapped (lasts inputs.items) o → o ≡ stopped why n s
  by_halt (went w k u) why n s h = let z : ◌≡◌ {A = ℕ} 0 1 = cc in absurd (omega arith)
  by_halt (stopped v k u) why n s h = cc

  pub halt : (why : NetworkFault) (n : ℕ) (s : State) → stopped why n s ≡ flown f.rule 0 hs inputs.items f.state → recurrence f ≡ stopped why n s
  halt why n s h = a.goes ∙ by_halt (layers f.rule 0 hs inputs.items f.state) why n s h

pub first_places : (ys zs : List ℤ) (k : ℕ) → k ≡ length ys → take k (ys ++ zs) ≡ ys
first_places ys zs k e = take_at ys zs k (sym e)
