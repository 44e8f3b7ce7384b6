-- Places stay within the layer as a plan's records are walked over.
use Rattle.std.proofs.Common.{◌≡◌, Some, arith}
use Rattle.std.proofs.lemmas.Bool.Decides.{nat_tests}
use Rattle.std.proofs.lemmas.Int.{ints}
use Rattle.network.specs.declared.record.Record.{Record}
use Rattle.network.specs.declared.next.Next.{Next}
use Rattle.network.specs.declared.next.Next.TheVariants.{Layer, Bias, Weight}
use Rattle.network.specs.Plan.{accept}
use Rattle.network.specs.Walk.{Sound}

pub sound_more : (n m : Next) (r : Record) → Sound n → accept n r ≡ Some m → Sound m
sound_more (Layer prior left) m r s e = grind (arith, nat_tests, ints)
sound_more (Bias shape neuron) m r s e = grind (arith, nat_tests)
sound_more (Weight shape neuron input) m r s e = grind (arith, nat_tests)
