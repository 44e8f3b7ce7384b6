-- What a part of a run comes to on a stage.
--   State      what a stage holds
--   Out        a value or a fault, the accepted steps of this part, and the stage's state after it
--   counted    with steps made before
--   onward     one part after another
--   mapped     a function of the value
--   inside     a fault inside another
--   steps_in   the accepted steps
--   AtEnd      a property of the value that an accepted part gives
--   bare       all but the notes
use Rattle.std.specs.Prelude.{ℕ, ◌+◌, List, [], ℤ}
use Rattle.stage.specs.declared.registers.Triple.{Triple}

pub record State : Type 0 where
  pub held : Triple
  pub notes : List ℤ

pub data Out (V F : Type 0) : Type 0 where
  went : V → ℕ → State → Out V F
  stopped : F → ℕ → State → Out V F

abbrev pub counted : {V F : Type 0} → ℕ → Out V F → Out V F
counted n (went v k s) = went v (n + k) s
counted n (stopped f k s) = stopped f (n + k) s

abbrev pub onward : {V W F : Type 0} → (V → State → Out W F) → Out V F → Out W F
onward next (went v n s) = counted n (next v s)
onward next (stopped f n s) = stopped f n s

abbrev pub mapped : {V W F : Type 0} → (V → W) → Out V F → Out W F
mapped g (went v n s) = went (g v) n s
mapped g (stopped f n s) = stopped f n s

-- the outer fault knows the steps made
abbrev pub inside : {V F G : Type 0} → (F → ℕ → G) → Out V F → Out V G
inside g (went v n s) = went v n s
inside g (stopped f n s) = stopped (g f n) n s

abbrev pub steps_in : {V F : Type 0} → Out V F → ℕ
steps_in (went v n s) = n
steps_in (stopped f n s) = n

abbrev pub AtEnd : {V F : Type 0} → (V → Type 0) → Out V F → Type 0
AtEnd P (went v n s) = P v
AtEnd P (stopped f n s) = Unit {0}

abbrev pub bare : {V F : Type 0} → Out V F → Out V F
bare (went v n s) = went v n (record { held = s.held; notes = [] })
bare (stopped f n s) = stopped f n (record { held = s.held; notes = [] })
