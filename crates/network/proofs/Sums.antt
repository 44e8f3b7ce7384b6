-- A net: what its products come to.
use Rattle.std.proofs.Common.{◌≡◌, ℕ, zero, suc, ◌+◌, ◌*◌, ◌^◌, ◌<◌, ◌≤◌, Bool, true, false, cond, not, T, List, [], ◌∷◌, map, length, ℤ, pos, ◌+ℤ◌, ◌-ℤ◌, ◌*ℤ◌, nat_abs, Some, None, sym, refl, ap, ◌∙◌, subst, arith, nltb→le}
use Rattle.std.proofs.lemmas.Int.{ints}
use Rattle.std.specs.List.{AllByRecursion}
use Rattle.stage.specs.Stage.{Rule}
use Rattle.cordic.specs.Outcome.{State, Out, went, stopped, mapped, inside}
use Rattle.cordic.specs.Order.{total, Reachable}
use Rattle.cordic.specs.Tables.{linear}
use Rattle.cordic.specs.Unit.{beyond, refusal, unit_fault, overflowed, passed, Escapes}
use Rattle.network.specs.Neuron.{Net, start, term, before, products}
use Rattle.network.specs.Laws.{exact, budget, Spent}
use Rattle.network.specs.Refusals.{place}
use Rattle.stage.specs.declared.registers.Triple.{Triple}
use Rattle.stage.specs.declared.step.System.{System}
use Rattle.stage.specs.declared.step.Overflow.{Overflow}
use Rattle.stage.specs.declared.step.System.TheVariants.{Linear}
use Rattle.cordic.specs.declared.mode.Mode.TheVariants.{Rotation}
use Rattle.cordic.specs.declared.faults.Cause.{Cause}
use Rattle.cordic.specs.declared.faults.Cause.TheVariants.{Unreachable}
use Rattle.cordic.specs.declared.faults.UnitFault.{UnitFault}
use Rattle.network.proofs.Ring.{ring}
use Rattle.cordic.proofs.Ends.{linear_length}
use Rattle.cordic.proofs.Reaching.{beyond_reach}
use Rattle.network.proofs.Systems.{linear_total}
use Rattle.network.proofs.Bounds.{product, product_spent}
use Rattle.cordic.proofs.Holds.{Said, Holds, Later, holds_onward, holds_mapped, holds_inside, holds_less}
use Rattle.cordic.proofs.Passes.{Passes, Fails, at_load, at_step, passes}

-- a rotation is refused for its angle alone
only_angle : (b : Bool) (why : Cause) → cond b (Some Unreachable) None ≡ Some why → (b ≡ true) × (Unreachable ≡ why)
only_angle true why e = (refl, cc)
only_angle false why e = absurd (let z : ◌≡◌ {A = ℕ} 0 1 = cc in omega arith)

none_false : (b : Bool) (why : Cause) → cond b (Some why) None ≡ None → T (not b)
none_false true why e = absurd (let z : ◌≡◌ {A = ℕ} 0 1 = cc in omega arith)
none_false false why e = tt

pub small_weight : (m : System) (t : Triple) → refusal m linear Rotation t ≡ None → nat_abs t.z ≤ 2 ^ 28
small_weight m t h =
    let l = nltb→le (total linear + 1) (nat_abs t.z) (none_false (beyond linear t.z) Unreachable h) in
    let e = linear_total in
    omega arith

-- the rounding of a net, with a unit to spare for each product
abbrev pub Near : ℤ → Net → Type 0
Near y net = nat_abs (pos (2 ^ 28) *ℤ (net.value -ℤ y) -ℤ exact net.terms) + length net.terms ≤ budget net.terms

nothing : (n y : ℤ) → nat_abs (n *ℤ (y -ℤ y) -ℤ pos 0) ≤ 0
nothing n y = simp ring (omega (arith, ints))

joined : (n u m y w r : ℤ) (a b l : ℕ) → nat_abs (n *ℤ (m -ℤ y) -ℤ w) < a → nat_abs (n *ℤ (u -ℤ m) -ℤ r) + l ≤ b → nat_abs (n *ℤ (u -ℤ y) -ℤ (w +ℤ r)) + suc l ≤ a + b
joined n u m y w r a b l h k = let h' = simp ring at h in let k' = simp ring at k in simp ring (omega (arith, ints))

-- an accepted net
pub record Sum (xs ws : List ℤ) (y : ℤ) (net : Net) (n : ℕ) (s : State) : Type 0 where
  pub inputs : map (λ k. k.input) net.terms ≡ xs
  pub weights : map (λ k. k.weight) net.terms ≡ ws
  pub spent : AllByRecursion Spent net.terms
  pub near : Near y net
  pub counts : length net.terms ≡ length xs
  pub cost : n ≡ 28 * length ws
  -- the stage holds the net as y
  pub holds : 1 ≤ length xs → s.held.y ≡ net.value

abbrev pub Ends : List ℤ → List ℤ → ℤ → Said Net
Ends xs ws y net n s = length xs ≡ length ws → Sum xs ws y net n s

-- a refused net of these weights, of which i went before
pub data Faulty (i : ℕ) (ws : List ℤ) (p : ℕ × UnitFault) (u : State) : Type 0 where
  weight : (k : ℕ) (w : ℤ) → p.0 ≡ i + k → place ws k ≡ Some w → p.1 ≡ unit_fault Linear Rotation Unreachable 0 → (Reachable linear w → ⊥) → Faulty i ws p u
  register : (n : ℕ) (f : Overflow) → p.1 ≡ overflowed Linear Rotation f n → Escapes Linear linear Rotation n f u.held → Faulty i ws p u

abbrev pub Faults : ℕ → List ℤ → Said (ℕ × UnitFault)
Faults i ws p n u = Faulty i ws p u

first_fails : (i : ℕ) (x y w : ℤ) (ws : List ℤ) (s : State) (f : UnitFault) (n : ℕ) (u : State) → Fails Linear linear Rotation (start x y w) s f n u → Faulty i (w ∷ ws) (i, f) u
first_fails i x y w ws s f n u (at_load why e c z same) =
    let a = only_angle (beyond linear w) why e in
    weight 0 w (omega arith) refl (c ∙ ap (λ (v : Cause). unit_fault Linear Rotation v 0) (sym a.1)) (beyond_reach linear w a.0)
first_fails i x y w ws s f n u (at_step g c stuck) = register n g c stuck

later_fails : (i : ℕ) (w : ℤ) (ws : List ℤ) (p : ℕ × UnitFault) (u : State) → Faulty (i + 1) ws p u → Faulty i (w ∷ ws) p u
later_fails i w ws p u (weight k v e l c r) = weight (suc k) v (let h = e in omega arith) l c r
later_fails i w ws p u (register n f c x) = register n f c x

more : (x w y : ℤ) (xs ws : List ℤ) (t : Triple) (net : Net) (n k : ℕ) (v u : State) → Passes Linear linear Rotation (start x y w) t k v → Sum xs ws t.y net n u
    → (length xs ≡ 0 → (net.value ≡ t.y) × (u ≡ v)) → Sum (x ∷ xs) (w ∷ ws) y (before (term x w t) net) (k + n) u
more x w y xs ws t net n k v u p h last =
    let small = small_weight Linear (start x y w) p.through in
    let e = p.ends in
    let left : nat_abs t.z ≤ 1 = subst (λ (r : Triple). nat_abs r.z ≤ 1) (sym e) (product_spent (start x y w) small) in
    let one : nat_abs (pos (2 ^ 28) *ℤ (t.y -ℤ y) -ℤ x *ℤ w) < 28 * 2 ^ 28 + nat_abs x =
    subst (λ (r : Triple). nat_abs (pos (2 ^ 28) *ℤ (r.y -ℤ y) -ℤ x *ℤ w) < 28 * 2 ^ 28 + nat_abs x) (sym e) (product (start x y w) small) in
    let len = p.steps ∙ linear_length in
    let was : n ≡ 28 * length ws = h.cost in
    record {
      inputs = ap (λ (v : List ℤ). x ∷ v) h.inputs;
      weights = ap (λ (v : List ℤ). w ∷ v) h.weights;
      spent = (left, h.spent);
      near = joined (pos (2 ^ 28)) net.value t.y y (x *ℤ w) (exact net.terms) (28 * 2 ^ 28 + nat_abs x) (budget net.terms) (length net.terms) one h.near;
      counts = ap suc h.counts;
      cost = omega arith;
      holds = λ _. held_at (length xs) net t v u p.held h.holds last;
    }
  where
    held_at : (l : ℕ) (net : Net) (t : Triple) (v u : State) → v.held ≡ t → (1 ≤ l → u.held.y ≡ net.value) → (l ≡ 0 → (net.value ≡ t.y) × (u ≡ v)) → u.held.y ≡ net.value
    held_at zero net t v u e h last = let a = last refl in ap (λ (s : State). s.held.y) a.1 ∙ ap (λ (r : Triple). r.y) e ∙ sym a.0
    held_at (suc l) net t v u e h last = h (omega arith)

-- with no input left, a net is what it was, and so is the stage
rests : (rule : Rule) (i : ℕ) (xs ws : List ℤ) (y : ℤ) (s : State) → Holds (λ net n u. length xs ≡ 0 → (net.value ≡ y) × (u ≡ s)) (λ _ _ _. Unit {0}) (products rule i xs ws y s)
unfolding products
rests rule i [] ws y s = λ e. (refl, refl)
rests rule i (x ∷ xs) [] y s = λ e. absurd (omega arith)
rests rule i (x ∷ xs) (w ∷ ws) y s = some_left (products rule i (x ∷ xs) (w ∷ ws) y s) (length xs)
  where
    some_left : (o : Out Net (ℕ × UnitFault)) (l : ℕ) → Holds (λ net n u. suc l ≡ 0 → (net.value ≡ y) × (u ≡ s)) (λ _ _ _. Unit {0}) o
    some_left (went v n u) l = λ e. absurd (omega arith)
    some_left (stopped f n u) l = tt

both : {V F : Type 0} (P R : Said V) (Q S : Said F) (o : Out V F) → Holds P Q o → Holds R S o → Holds (λ v n s. P v n s × R v n s) Q o
both P R Q S (went v n s) h k = (h, k)
both P R Q S (stopped f n s) h k = h

none : (y : ℤ) (s : State) → Sum [] [] y (record { value = y; terms = [] }) 0 s
none y s = record { inputs = refl; weights = refl; spent = tt; near = (let h = nothing (pos (2 ^ 28)) y in omega arith); counts = refl; cost = refl; holds = λ l. absurd (omega arith) }

pub sums_holds : (rule : Rule) (i : ℕ) (xs ws : List ℤ) (y : ℤ) (s : State) → Holds (Ends xs ws y) (Faults i ws) (products rule i xs ws y s)
unfolding products
sums_holds rule i [] [] y s = λ e. none y s
sums_holds rule i [] (w ∷ ws) y s = λ e. absurd (omega arith)
sums_holds rule i (x ∷ xs) [] y s = λ e. absurd (omega arith)
sums_holds rule i (x ∷ xs) (w ∷ ws) y s =
    let t0 : Triple = start x y w in
    let P = Passes Linear linear Rotation t0 in
    let E = Ends (x ∷ xs) (w ∷ ws) y in
    let F = Faults i (w ∷ ws) in
    let one = passed rule Linear linear Rotation t0 s in
    holds_onward P E F
    (λ t u. mapped (before (term x w t)) (products rule (i + 1) xs ws t.y u))
    (inside (λ f _. (i, f)) one)
    (holds_inside P F (λ f _. (i, f)) one
    (holds_less P P (Fails Linear linear Rotation t0 s) (λ f n u. F (i, f) n u) one (λ v n u h. h)
    (λ f n u q. first_fails i x y w ws s f n u q) (passes rule Linear linear Rotation t0 s)))
    (λ t k v p.
    let rest = products rule (i + 1) xs ws t.y v in
    let R : Said Net = λ net n u. length xs ≡ 0 → (net.value ≡ t.y) × (u ≡ v) in
    holds_mapped (Later k E) (Later k F) (before (term x w t)) rest
    (holds_less (λ net n u. Ends xs ws t.y net n u × R net n u) (λ net. Later k E (before (term x w t) net)) (Faults (i + 1) ws) (Later k F) rest
    (λ net n u h e. more x w y xs ws t net n k v u p (h.0 (let d : length xs ≡ length ws = omega arith in d)) h.1)
    (λ f n u q. later_fails i w ws f u q)
    (both (Ends xs ws t.y) R (Faults (i + 1) ws) (λ _ _ _. Unit {0}) rest (sums_holds rule (i + 1) xs ws t.y v) (rests rule (i + 1) xs ws t.y v))))

-- the rounding of an accepted net
pub rounded : (xs ws : List ℤ) (y : ℤ) (net : Net) (n : ℕ) (s : State) → Sum xs ws y net n s → 1 ≤ length xs
    → nat_abs ((pos (2 ^ 28) *ℤ (net.value -ℤ y)) -ℤ exact net.terms) < budget net.terms
rounded xs ws y net n s h l = let k = h.counts in let a = h.near in omega arith
