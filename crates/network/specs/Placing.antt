-- A result handed on: with the steps made before it, and with the place where a refusal arose.
use Rattle.std.specs.Prelude.{ℕ, ◌+◌, Ok, Err, Option, Result}
use Rattle.cordic.specs.declared.faults.UnitFault.{UnitFault}
use Rattle.cordic.specs.declared.states.Answer.{Answer}
use Rattle.cordic.specs.declared.states.Refused.{Refused}
use Rattle.network.specs.declared.faults.NeuronFault.{NeuronFault}
use Rattle.network.specs.declared.faults.NetworkFault.{NetworkFault}
use Rattle.network.specs.declared.faults.NetworkFault.TheVariants.{Arithmetic}
use Rattle.network.specs.declared.site.Site.{Site}
use Rattle.network.specs.declared.site.Within.{Within}

abbrev pub steps_made : {X V F : Type 0} → Result (Answer X V) (Refused X F) → ℕ
steps_made (Ok a) = a.steps
steps_made (Err e) = e.steps

abbrev pub later : {X V F : Type 0} → ℕ → Result (Answer X V) (Refused X F) → Result (Answer X V) (Refused X F)
later n (Ok a) = Ok (record { unit = a.unit; value = a.value; steps = n + a.steps })
later n (Err e) = Err (record { unit = e.unit; fault = e.fault; steps = n + e.steps })

abbrev pub placed : {X P V F : Type 0} → P → Result (Answer X V) (Refused X F) → Result (Answer X V) (Within X P F)
placed p (Ok a) = Ok a
placed p (Err e) = Err (record { place = p; refused = e })

-- a placed refusal, its fault inside another, which knows the steps made
abbrev pub raised : {X P F G : Type 0} → (P → F → ℕ → G) → Within X P F → Refused X G
raised g w = record { unit = w.refused.unit; fault = g w.place w.refused.fault w.refused.steps; steps = w.refused.steps }

abbrev pub in_neuron : Option ℕ → UnitFault → ℕ → NeuronFault
in_neuron input f n = record { input = input; unit = f; steps = n }

abbrev pub in_network : Site → NeuronFault → ℕ → NetworkFault
in_network site f n = Arithmetic (record { layer = site.layer; neuron = site.neuron; inner = f })
