use Rattle.std.proofs.Common.{◌≡◌, ◌+◌, ◌*◌, ◌≤◌, List, length}
use Rattle.std.specs.List.{AllByRecursion}
use Rattle.cordic.specs.Outcome.{counted}
use Rattle.cordic.specs.Seen.{state_of}
use Rattle.network.specs.Network.{layer_records, Sized, Follows}
use Rattle.network.specs.Plain.{flown}
use Rattle.network.specs.Plan.{LayerOf, records}
use Rattle.network.specs.Walk.{layers_of}
use Rattle.network.proofs.layers.run_layers.Given as goal

-- the layers that are left come, from here, to the whole
abbrev pub invariant-loop-number : goal.invariant-loop-number
invariant-loop-number g l =
    (ls : List LayerOf) × (records l.rest ≡ layer_records ls) × AllByRecursion Sized ls × Follows (length l.answer.value.items) ls
    × (counted l.answer.steps (flown g.S.Stage.rule l.number ls l.answer.value.items (state_of g.S.Stage l.answer.unit.stage))
    ≡ flown g.S.Stage.rule 0 (layers_of l.plan) l.initial.answer.value.items (state_of g.S.Stage l.initial.answer.unit.stage))
    × (l.answer.steps ≤ 118400 * l.number) × (l.number + length ls ≤ 4)
