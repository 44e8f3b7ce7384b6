use Rattle.std.proofs.Common.{◌≡◌, ◌*◌, ◌≤◌, List, [], length}
use Rattle.cordic.specs.Outcome.{counted}
use Rattle.cordic.specs.Seen.{state_of}
use Rattle.network.specs.Neuron.{Neuron}
use Rattle.network.specs.Plain.{laid}
use Rattle.network.specs.Plan.{LayerOf, records}
use Rattle.network.specs.Reading.{Ahead}
use Rattle.network.proofs.layer.run_layer.Given as goal

-- whatever neurons the bytes describe, those left of them come, from here, to the whole
abbrev pub invariant-loop-number : goal.invariant-loop-number
invariant-loop-number g l =
    ((all : List Neuron) (ls : List LayerOf) → Ahead (records l.bytes) 0 l.head.neurons (length l.inputs) all ls
    → (ns : List Neuron) × Ahead (records l.rest) l.number l.head.neurons (length l.inputs) ns ls
    × (counted l.answer.steps (laid g.S.Stage.rule l.head.number l.head.activation l.inputs l.answer.value.items l.number ns (state_of g.S.Stage l.answer.unit.stage))
    ≡ laid g.S.Stage.rule l.head.number l.head.activation l.inputs [] 0 all (state_of g.S.Stage l.initial.answer.unit.stage)))
    × (length l.answer.value.items ≡ l.number) × (l.answer.steps ≤ 1850 * l.number)
