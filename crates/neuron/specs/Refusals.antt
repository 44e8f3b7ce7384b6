-- The text of a refusal: the number, the fields layer, neuron and input, and a record.
use Rattle.std.specs.Prelude.{ℕ, List, ◌++◌, Some, None, codes, decimal, Option}
use Rattle.std.specs.Option.{option_map}
use Rattle.network.specs.Faults.{reported}
use Rattle.network.specs.declared.faults.NetworkFault.{NetworkFault}
use Rattle.fields.specs.Field.{field}
use Rattle.neuron.specs.declared.place.Place.{Place}
use Rattle.neuron.specs.declared.place.Place.TheVariants.{Plan, Input as InputPlace}
use Rattle.neuron.specs.declared.refusal.Refusal.{Refusal}
use Rattle.neuron.specs.declared.refusal.Refusal.TheVariants.{Run, Input}

-- a record of the plan as p and its position, one of standard input as s
abbrev pub place_text : Place → List ℕ
place_text (Plan p) = codes "p" ++ decimal p
place_text (InputPlace p) = codes "s" ++ decimal p

abbrev pub refused : ℕ → Option ℕ → Option ℕ → Option ℕ → Option Place → List ℕ
refused number layer neuron input place = codes "refused " ++ (decimal number ++ (codes " " ++ (field decimal layer ++ (codes " " ++ (field decimal neuron ++ (codes " " ++ (field decimal input ++ (codes " " ++ field place_text place))))))))

-- what is told of a fault of the run: a record is one of the plan
abbrev pub line_of : NetworkFault → List ℕ
line_of f = refused (reported f).number (reported f).layer (reported f).neuron (reported f).input (option_map Plan (reported f).«record»)

-- a broken record of standard input is 4
abbrev pub broken_input : ℕ → List ℕ
broken_input p = refused 4 None None None (Some (InputPlace p))

abbrev pub refusal_text : Refusal → List ℕ
refusal_text (Run f) = line_of f
refusal_text (Input b) = broken_input b.position
