-- The places after a run.
use Rattle.std.proofs.Common.{◌≡◌, ℕ, ◌+◌, ◌-◌, ◌<◌, ◌≤◌, List, ◌++◌, map, length, get_or, drop, ℤ, Some, Ok, sym, refl, ap, ◌∙◌, subst, arith}
use Rattle.std.proofs.lemmas.List.{length-append, length-drop, length-map, get_or_append_left, get_or-append_right, get_or-drop}
use Rattle.cordic.specs.Outcome.{State, went, stopped}
use Rattle.network.specs.Neuron.{Working}
use Rattle.network.specs.Plan.{LayerOf, plan_of}
use Rattle.network.specs.Run.{Feed, output, exits, finals, layers, recurrence, outputs, written, words, entrance}
use Rattle.network.specs.declared.faults.NetworkFault.{NetworkFault}
use Rattle.network.proofs.Sampling.{words_are}
use Rattle.network.proofs.Layering.{layers_widths, finals_length}
use Rattle.network.proofs.Checks.{Entered, entering}

-- a run that is accepted
pub record Accepts (f : Feed) (w : List (List Working)) (n : ℕ) (s : State) (hs : List LayerOf) (xs : List ℤ) : Type 0 where
  pub plan : plan_of f.plan ≡ Ok hs
  pub samples : words 0 f.samples ≡ Ok xs
  pub count : length f.samples ≡ entrance hs
  pub room : exits hs ≤ length f.places
  pub layered : layers f.rule 0 hs xs f.state ≡ went w n s
  pub yields : map Some xs ≡ f.samples
  -- every layer puts out as many values as it has neurons, the last one those of the run
  pub widths : map length w ≡ map (λ h. length h.neurons) hs
  pub outs : length (outputs w) ≡ exits hs
  pub same : length (written (recurrence f) f.places) ≡ length f.places
  pub first : (i : ℕ) (d : ℤ) → i < exits hs → get_or (written (recurrence f) f.places) i d ≡ get_or (outputs w) i d
  pub later : (i : ℕ) (d : ℤ) → exits hs ≤ i → get_or (written (recurrence f) f.places) i d ≡ get_or f.places i d

pub over_length : {X : Type 0} (new old : List X) → length new ≤ length old → length (new ++ drop (length new) old) ≡ length old
over_length new old h = simp (length-append, length-drop) (omega arith)

pub over_first : {X : Type 0} (new old : List X) (i : ℕ) (d : X) → i < length new → get_or (new ++ drop (length new) old) i d ≡ get_or new i d
over_first new old i d h = get_or_append_left new (drop (length new) old) d i h

pub over_later : {X : Type 0} (new old : List X) (i : ℕ) (d : X) → length new ≤ i → get_or (new ++ drop (length new) old) i d ≡ get_or old i d
over_later new old i d h =
    let k : length new + (i - length new) ≡ i = omega arith in
    get_or-append_right new (drop (length new) old) (length new) i d refl h ∙ get_or-drop (length new) old (i - length new) d ∙ ap (λ j. get_or old j d) k

pub kept : (f : Feed) (why : NetworkFault) (n : ℕ) (s : State) → recurrence f ≡ stopped why n s → written (recurrence f) f.places ≡ f.places
kept f why n s e = ap (λ o. written o f.places) e

-- an accepted run has an output for each neuron of the last layer
pub outputs_wide : (f : Feed) (w : List (List Working)) (n : ℕ) (s : State) (hs : List LayerOf) (xs : List ℤ) → recurrence f ≡ went w n s → Entered f hs xs → length (outputs w) ≡ exits hs
outputs_wide f w n s hs xs e t = length-map (finals w) output ∙ finals_length hs w (layers_widths f.rule 0 hs xs f.state w n s (sym t.goes ∙ e))

accepts : (f : Feed) (w : List (List Working)) (n : ℕ) (s : State) (hs : List LayerOf) (xs : List ℤ) → recurrence f ≡ went w n s → Entered f hs xs → Accepts f w n s hs xs
accepts f w n s hs xs e t =
    let l = sym t.goes ∙ e in
    let k = layers_widths f.rule 0 hs xs f.state w n s l in
    let o = outputs_wide f w n s hs xs e t in
    let p : written (recurrence f) f.places ≡ outputs w ++ drop (length (outputs w)) f.places = ap (λ o. written o f.places) e in
    let r = t.room in
    record {
      plan = t.plan;
      samples = t.samples;
      count = t.count;
      room = r;
      layered = l;
      yields = words_are 0 f.samples xs t.samples;
      widths = k;
      outs = o;
      same = ap length p ∙ over_length (outputs w) f.places (subst (λ m. m ≤ length f.places) (sym o) r);
      first = λ i d h. ap (λ x. get_or x i d) p ∙ over_first (outputs w) f.places i d (subst (λ m. i < m) (sym o) h);
      later = λ i d h. ap (λ x. get_or x i d) p ∙ over_later (outputs w) f.places i d (subst (λ m. m ≤ i) (sym o) h);
    }

pub accepting : (f : Feed) (w : List (List Working)) (n : ℕ) (s : State) → recurrence f ≡ went w n s → (hs : List LayerOf) × (xs : List ℤ) × Accepts f w n s hs xs
accepting f w n s e = let q = entering f w n s e in (q.0, q.1, accepts f w n s q.0 q.1 e q.2)
