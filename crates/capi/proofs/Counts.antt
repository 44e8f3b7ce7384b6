-- The counts of a plan are small.
use Rattle.std.proofs.Common.{◌≡◌, ℕ, ◌≤◌, List, [], ◌∷◌, Ok, arith}
use Rattle.std.specs.List.{AllByRecursion}
use Rattle.network.specs.Network.{Sized}
use Rattle.network.specs.Plan.{LayerOf, plan_of}
use Rattle.network.specs.Run.{entrance, exits}
use Rattle.network.proofs.Planning.{plan_shaped}

few_inputs : (hs : List LayerOf) → AllByRecursion Sized hs → entrance hs ≤ 64
few_inputs [] s = omega arith
few_inputs (h ∷ hs) s = s.0.narrow

few_outputs : (hs : List LayerOf) → AllByRecursion Sized hs → exits hs ≤ 64
few_outputs [] s = omega arith
few_outputs (h ∷ []) s = s.0.few
few_outputs (h ∷ v ∷ vs) s = few_outputs (v ∷ vs) s.1

pub entrance_few : (bytes : List ℕ) {hs : List LayerOf} → plan_of bytes ≡ Ok hs → entrance hs ≤ 64
entrance_few bytes e = few_inputs _ (plan_shaped bytes _ e).0.sized

pub exits_few : (bytes : List ℕ) {hs : List LayerOf} → plan_of bytes ≡ Ok hs → exits hs ≤ 64
exits_few bytes e = few_outputs _ (plan_shaped bytes _ e).0.sized
