-- What holds of a part of a run, whichever way it ends; and of parts put together.
use Rattle.std.proofs.Common.{◌≡◌, ℕ, ◌+◌, subst}
use Rattle.stage.specs.declared.registers.Triple.{Triple}
use Rattle.cordic.specs.Outcome.{State, Out, went, stopped, counted, onward, mapped, inside, AtEnd}
use Rattle.cordic.specs.Unit.{read_out}

-- what is said of a value or of a fault, the steps and the state
abbrev pub Said : Type 0 → Type 1
Said V = V → ℕ → State → Type 0

-- P of the value, or Q of the fault
abbrev pub Holds : {V F : Type 0} → Said V → Said F → Out V F → Type 0
Holds P Q (went v n s) = P v n s
Holds P Q (stopped f n s) = Q f n s

-- with n steps made before
abbrev pub Later : {V : Type 0} → ℕ → Said V → Said V
Later n P v k s = P v (n + k) s

pub holds_counted : {V F : Type 0} (P : Said V) (Q : Said F) (n : ℕ) (o : Out V F) → Holds (Later n P) (Later n Q) o → Holds P Q (counted n o)
holds_counted P Q n (went v k s) h = h
holds_counted P Q n (stopped f k s) h = h

pub holds_onward : {V W F : Type 0} (P : Said V) (R : Said W) (Q : Said F) (next : V → State → Out W F) (o : Out V F)
    → Holds P Q o → ((v : V) (n : ℕ) (s : State) → P v n s → Holds (Later n R) (Later n Q) (next v s)) → Holds R Q (onward next o)
holds_onward P R Q next (went v n s) h f = holds_counted R Q n (next v s) (f v n s h)
holds_onward P R Q next (stopped f n s) h g = h

pub holds_mapped : {V W F : Type 0} (R : Said W) (Q : Said F) (g : V → W) (o : Out V F) → Holds (λ v. R (g v)) Q o → Holds R Q (mapped g o)
holds_mapped R Q g (went v n s) h = h
holds_mapped R Q g (stopped f n s) h = h

pub holds_inside : {V F G : Type 0} (P : Said V) (Q : Said G) (g : F → ℕ → G) (o : Out V F) → Holds P (λ f n s. Q (g f n) n s) o → Holds P Q (inside g o)
holds_inside P Q g (went v n s) h = h
holds_inside P Q g (stopped f n s) h = h

pub holds_read : {V F : Type 0} (R : Said Triple) (Q : Said F) (o : Out V F) → Holds (λ v n s. R s.held n s) Q o → Holds R Q (read_out o)
holds_read R Q (went v n s) h = h
holds_read R Q (stopped f n s) h = h

-- less of each
pub holds_less : {V F : Type 0} (P R : Said V) (Q S : Said F) (o : Out V F)
    → ((v : V) (n : ℕ) (s : State) → P v n s → R v n s) → ((f : F) (n : ℕ) (s : State) → Q f n s → S f n s) → Holds P Q o → Holds R S o
holds_less P R Q S (went v n s) a b h = a v n s h
holds_less P R Q S (stopped f n s) a b h = b f n s h

-- taken out again
pub holds_went : {V F : Type 0} (P : Said V) (Q : Said F) {o : Out V F} {v : V} {n : ℕ} {s : State} → Holds P Q o → o ≡ went v n s → P v n s
holds_went P Q h e = subst (Holds P Q) e h

pub holds_stopped : {V F : Type 0} (P : Said V) (Q : Said F) {o : Out V F} {f : F} {n : ℕ} {s : State} → Holds P Q o → o ≡ stopped f n s → Q f n s
holds_stopped P Q h e = subst (Holds P Q) e h

pub holds_end : {V F : Type 0} (P : V → Type 0) (R : Said V) (Q : Said F) (o : Out V F) → ((v : V) (n : ℕ) (s : State) → R v n s → P v) → Holds R Q o → AtEnd P o
holds_end P R Q (went v n s) f h = f v n s h
holds_end P R Q (stopped e n s) f h = tt

-- where no fault can be, there is a value
abbrev pub Never : {F : Type 0} → Said F
Never f n s = ⊥
