-- The checks before the arithmetic, as the code makes them.
use Rattle.std.proofs.Common.{◌≡◌, ℕ, ◌<◌, ◌≤◌, List, [], ◌∷◌, length, ℤ, Some, Ok, Err, Option, Result, sym, ap, ◌∙◌, arith}
use Rattle.std.proofs.lemmas.List.{length-map}
use Rattle.std.specs.List.{AllByRecursion}
use Rattle.std.proofs.lemmas.Bool.{le-ltb, eq-eqb}
use Rattle.cordic.specs.Outcome.{stopped}
use Rattle.network.specs.Admitted.{Admits}
use Rattle.network.specs.Gathered.{gathered}
use Rattle.network.specs.Network.{Sized, Describes}
use Rattle.network.specs.Plan.{LayerOf, plan_of}
use Rattle.network.specs.Run.{Feed, layers, words, entrance, exits, sampled, checked, recurrence}
use Rattle.network.specs.Walk.{layers_of}
use Rattle.network.specs.declared.faults.NetworkFault.{NetworkFault}
use Rattle.network.specs.declared.faults.NetworkFault.TheVariants.{SampleCount, Places}
use Rattle.network.proofs.Checks.{ranked_stops}
use Rattle.network.proofs.Sampling.{words_are}

pub entrance_narrow : (hs : List LayerOf) → AllByRecursion Sized hs → entrance hs ≤ 64
entrance_narrow [] sized = omega arith
entrance_narrow (h ∷ hs) sized = sized.0.narrow

-- a run of these bytes, with as many places, on samples that yield ss
module _ (f : Feed) (bytes : List ℕ) (ss : List (Option ℤ)) (places : ℕ) (p : f.plan ≡ bytes) (q : f.samples ≡ ss) (r : length f.places ≡ places) where
  pub bad_plan : {why : NetworkFault} → plan_of bytes ≡ Err why → recurrence f ≡ stopped why 0 f.state
  unfolding recurrence
  bad_plan e = ap (checked f) (ap plan_of p ∙ e)

  module _ (e : plan_of bytes ≡ Ok (layers_of bytes)) where
    here : plan_of f.plan ≡ Ok (layers_of bytes)
    here = ap plan_of p ∙ e

    pub few_places : places < exits (layers_of bytes) → recurrence f ≡ stopped Places 0 f.state
    few_places h = ranked_stops f Places (layers_of bytes, here, rw r h)

    pub bad_count : exits (layers_of bytes) ≤ places → (length ss ≡ entrance (layers_of bytes) → ⊥) → recurrence f ≡ stopped SampleCount 0 f.state
    bad_count h n = ranked_stops f SampleCount (layers_of bytes, here, rw r h, λ l. n (sym (ap length q) ∙ l))

    module _ (h : exits (layers_of bytes) ≤ places) (n : length ss ≡ entrance (layers_of bytes)) where
      gathers : recurrence f ≡ sampled f (layers_of bytes) (words 0 ss)
      unfolding recurrence
      gathers =
          let a = le-ltb (length f.places) (exits (layers_of bytes)) (rw r h) in
          let b = eq-eqb (length f.samples) (entrance (layers_of bytes)) (ap length q ∙ n) in
          ap (checked f) here ∙ rw (a, b) (ap (λ ws. sampled f (layers_of bytes) (words 0 ws)) q)

      -- what the gathering of the samples gives back
      pub gathers_all : Describes (layers_of bytes) bytes → (r : Result (List ℤ) ℕ) → words 0 ss ≡ r → Admits f (gathered r)
      gathers_all d (Err i) w = gathers ∙ ap (sampled f (layers_of bytes)) w
      gathers_all d (Ok xs) w =
          let wide : length xs ≡ entrance (layers_of bytes) = sym (length-map xs (λ x. Some x)) ∙ ap length (words_are 0 ss xs w) ∙ n in
          record {
            plan = rw p d;
            wide = rw p wide;
            room = rw (p, r) h;
            goes = gathers ∙ ap (sampled f (layers_of bytes)) w ∙ ap (λ bs. layers f.rule 0 (layers_of bs) xs f.state) (sym p);
          }
