use Rattle.std.proofs.Common.{◌≡◌, ℕ, ◌≤◌, List, get_or, pos, nat_abs, Ok, refl, ap, ◌∙◌, w8, w32, Fits, rules}
use Rattle.std.proofs.lemmas.Result.{err_from_is_err_and}
use Rattle.std.proofs.lemmas.Int.{to_z-of_z}
use Rattle.network.specs.Network.{Describes}
use Rattle.network.specs.Plan.{LayerOf, plan_of}
use Rattle.network.specs.Walk.{layers_of}
use Rattle.network.specs.Run.{entrance}
use Rattle.network.proofs.ReadBack.{head_inputs}
use Rattle.network.proofs.Walks.{some_record}
use Rattle.network.proofs.Refusing.{plan_breaks}
use Rattle.network.proofs.Encoding.{all_bytes, plan_describes, described_plan, describes_records}
use Rattle.network.proofs.plan.Plan.decode.Goals as goal
use Rattle.network.proofs.plan.Plan.decode.Goals.{In_ok-outputs, In-Some}

-- what is accepted is what describes a network
law : (bs : List ℕ) → ((i : ℕ) → Fits w8 (get_or bs i 0)) → ((hs : List LayerOf) → plan_of bs ≡ Ok hs → Describes hs bs) × ((hs : List LayerOf) → Describes hs bs → plan_of bs ≡ Ok hs)
law bs f = (λ hs e. plan_describes bs hs (all_bytes bs f) e, λ hs d. described_plan bs hs d)

pub returns-in_err-outputs : goal.returns-in_err-outputs
returns-in_err-outputs c =
    let p = err_from_is_err_and c.from_residual.result c.from_residual.ensures.1 in
    record {
      answer = rw (p.1, p.2) c.in_err-outputs.ensures.answer;
      accepted = law c.args.bytes.now c.type_inv.bytes;
      refused = λ p e. plan_breaks c.args.bytes.now p e;
    }

-- the network that the judged bytes describe
described : (c : In_ok-outputs) → Describes (layers_of c.args.bytes.now) c.args.bytes.now
described c = (law c.args.bytes.now c.type_inv.bytes).0 _ c.in_ok-outputs.ensures.answer.0

pub unreachable-requires : goal.unreachable-requires
unreachable-requires c = some_record _ _ (described (goal.at.unreachable-requires c).In_ok-outputs) c.in_default.ensures.answer

-- the first record's value
first : (c : In-Some) → Describes (layers_of c.args.bytes.now) c.args.bytes.now → (c.in-Some.head.value ≡ pos (entrance (layers_of c.args.bytes.now))) × (entrance (layers_of c.args.bytes.now) ≤ 64)
first c d = head_inputs _ c.in-Some.head _ _ (describes_records _ _ d) d.formed.0.sized c.in-Some.ensures.answer.parts

pub overflow_cast-result : goal.overflow_cast-result
overflow_cast-result c =
    let f = first (goal.at.overflow_cast-result c).In-Some (described (goal.at.overflow_cast-result c).In_ok-outputs) in
    let z = to_z-of_z w32 c.in-Some.head.value (search rules) ∙ f.0 in
    let n = f.1 in
    simp z (tt, search rules)

pub returns : goal.returns
returns c =
    let f = first (goal.at.returns c).In-Some (described (goal.at.returns c).In_ok-outputs) in
    let z = to_z-of_z w32 c.in-Some.head.value (search rules) ∙ f.0 in
    record {
      answer = (refl, c.in_ok-outputs.ensures.answer.0, ap nat_abs z, c.from.ensures ∙ c.in_ok-outputs.ensures.answer.1);
      accepted = law c.args.bytes.now c.type_inv.bytes;
      refused = λ p e. plan_breaks c.args.bytes.now p e;
    }
