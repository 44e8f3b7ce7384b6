use Rattle.network.specs.Plan.{records}
use Rattle.network.specs.Reading.{NeuronRead}
use Rattle.network.proofs.neurons.Neuron.read.Given as goal

abbrev pub invariant-loop : goal.invariant-loop
invariant-loop l = NeuronRead l.counter (records l.bytes) (record { bias = l.bias; weights = l.weights.items }) (records l.rest)
