use Rattle.std.proofs.Common.{w32, SFits, rules}
use Rattle.std.proofs.lemmas.Int.{to_z-of_z}
use Rattle.network.proofs.ReadBack.{neuron_more}
use Rattle.network.proofs.neurons.Neuron.read.Goals as goal

pub loop-preserved : goal.loop-preserved
loop-preserved c =
    let w : SFits w32 c.in-Some-read.weight.value = search rules in
    rw (simp to_z-of_z at c.push.ensures.items) (neuron_more c.loop.counter _ _ c.loop.weights.items _ c.in-Some-read.weight _ c.loop.invariant c.in-Some-read.ensures.answer.parts)
