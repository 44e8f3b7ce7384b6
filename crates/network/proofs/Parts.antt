-- What the parts of an outcome were.
use Rattle.std.proofs.Common.{◌≡◌, ℕ, ◌+◌, ◌⊎◌, refl, inl, inr, arith}
use Rattle.cordic.specs.Outcome.{State, Out, went, stopped, counted, onward, mapped, inside}

pub no : {P : Type 0} → ◌≡◌ {A = ℕ} 0 1 → P
no z = absurd (omega arith)

counted_went : {V F : Type 0} (n : ℕ) (o : Out V F) (v : V) (k : ℕ) (s : State) → counted n o ≡ went v k s → (m : ℕ) × (o ≡ went v m s) × (k ≡ n + m)
counted_went n (went x m u) v k s e = (m, cc, cc)
counted_went n (stopped x m u) v k s e = no (cc)

counted_stopped : {V F : Type 0} (n : ℕ) (o : Out V F) (f : F) (k : ℕ) (s : State) → counted n o ≡ stopped f k s → (m : ℕ) × (o ≡ stopped f m s) × (k ≡ n + m)
counted_stopped n (went x m u) f k s e = no (cc)
counted_stopped n (stopped x m u) f k s e = (m, cc, cc)

pub mapped_went : {V W F : Type 0} (g : V → W) (o : Out V F) (w : W) (n : ℕ) (s : State) → mapped g o ≡ went w n s → (v : V) × (o ≡ went v n s) × (w ≡ g v)
mapped_went g (went v m u) w n s e = (v, cc, cc)
mapped_went g (stopped f m u) w n s e = no (cc)

pub mapped_stopped : {V W F : Type 0} (g : V → W) (o : Out V F) (f : F) (n : ℕ) (s : State) → mapped g o ≡ stopped f n s → o ≡ stopped f n s
mapped_stopped g (went v m u) f n s e = no (cc)
mapped_stopped g (stopped x m u) f n s e = cc

pub inside_went : {V W F : Type 0} (g : F → ℕ → W) (o : Out V F) (v : V) (n : ℕ) (s : State) → inside g o ≡ went v n s → o ≡ went v n s
inside_went g (went x m u) v n s e = cc
inside_went g (stopped f m u) v n s e = no (cc)

pub inside_stopped : {V W F : Type 0} (g : F → ℕ → W) (o : Out V F) (w : W) (n : ℕ) (s : State) → inside g o ≡ stopped w n s → (f : F) × (o ≡ stopped f n s) × (w ≡ g f n)
inside_stopped g (went x m u) w n s e = no (cc)
inside_stopped g (stopped f m u) w n s e = (f, cc, cc)

-- a part that went, and how the one after it ended
pub record Then {V W F : Type 0} (next : V → State → Out W F) (o : Out V F) (end : ℕ → Out W F) (n : ℕ) : Type 0 where
  pub value : V
  pub before : ℕ
  pub between : State
  pub after : ℕ
  pub first : o ≡ went value before between
  pub rest : next value between ≡ end after
  pub sum : n ≡ before + after

pub onward_went : {V W F : Type 0} (next : V → State → Out W F) (o : Out V F) (w : W) (n : ℕ) (s : State) → onward next o ≡ went w n s → Then next o (λ m. went w m s) n
onward_went next (went v k u) w n s e =
    let q = counted_went k (next v u) w n s e in
    record { value = v; before = k; between = u; after = q.0; first = refl; rest = q.1; sum = q.2 }
onward_went next (stopped f k u) w n s e = no (cc)

pub onward_stopped : {V W F : Type 0} (next : V → State → Out W F) (o : Out V F) (f : F) (n : ℕ) (s : State) → onward next o ≡ stopped f n s → (o ≡ stopped f n s) ⊎ Then next o (λ m. stopped f m s) n
onward_stopped next (went v k u) f n s e =
    let q = counted_stopped k (next v u) f n s e in
    inr (record { value = v; before = k; between = u; after = q.0; first = refl; rest = q.1; sum = q.2 })
onward_stopped next (stopped x k u) f n s e = inl (cc)
