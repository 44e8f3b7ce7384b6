-- The names of systems, registers and kinds of hardware.
--   named       what a table has under a name
--   *_names     the tables
--   name_of_*   the name of each
use Rattle.std.specs.Prelude.{ℕ, cond, List, [], ◌∷◌, Some, None, codes, Option}
use Rattle.std.specs.Str.{bytes_eq}
use Rattle.stage.specs.declared.registers.Register.{Register}
use Rattle.stage.specs.declared.registers.Register.TheVariants.{X, Y, Z}
use Rattle.stage.specs.declared.step.System.{System}
use Rattle.stage.specs.declared.step.System.TheVariants.{Linear, Circular, Hyperbolic}
use Rattle.stage.specs.declared.kind.Kind.{Kind}
use Rattle.stage.specs.declared.kind.Kind.TheVariants.{Parallel, BitSerial}

abbrev pub named : {K : Type 0} → List (List ℕ × K) → List ℕ → Option K
named [] word = None
named (row ∷ rows) word = cond (bytes_eq word row.0) (Some row.1) (named rows word)

abbrev pub name_of_system : System → List ℕ
name_of_system Linear = codes "linear"
name_of_system Circular = codes "circular"
name_of_system Hyperbolic = codes "hyperbolic"

abbrev pub system_names : List (List ℕ × System)
system_names = (codes "linear", Linear) ∷ (codes "circular", Circular) ∷ (codes "hyperbolic", Hyperbolic) ∷ []

abbrev pub name_of_kind : Kind → List ℕ
name_of_kind Parallel = codes "parallel"
name_of_kind BitSerial = codes "bit-serial"

abbrev pub kind_names : List (List ℕ × Kind)
kind_names = (codes "parallel", Parallel) ∷ (codes "bit-serial", BitSerial) ∷ []

abbrev pub name_of_register : Register → List ℕ
name_of_register X = codes "x"
name_of_register Y = codes "y"
name_of_register Z = codes "z"
