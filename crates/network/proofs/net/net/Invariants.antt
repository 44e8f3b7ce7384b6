use Rattle.std.proofs.Common.{◌≡◌, ◌+◌, ◌*◌, ◌≤◌, length}
use Rattle.std.specs.Iterator.Adapters.{enumerate_count}
use Rattle.cordic.specs.Outcome.{counted}
use Rattle.cordic.specs.Seen.{state_of}
use Rattle.network.specs.Plain.{netted}
use Rattle.network.proofs.Nets.{weights_left, left}
use Rattle.network.proofs.net.net.Given as goal

-- what is left to do, from here, comes to the whole
abbrev pub invariant-loop-i : goal.invariant-loop-i
invariant-loop-i g l = record {
  room : enumerate_count l.i-iterator + length (weights_left l.i-iterator) ≤ 64;
  short : l.answer.steps ≤ 28 * enumerate_count l.i-iterator;
  goes : counted l.answer.steps (left g.S.Stage.rule l.i-iterator l.answer.value (state_of g.S.Stage l.answer.unit.stage))
      ≡ netted g.S.Stage.rule 0 l.inputs l.neuron.weights l.neuron.bias (state_of g.S.Stage l.initial.answer.unit.stage);
}
