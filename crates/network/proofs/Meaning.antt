-- What every run means, accepted or refused: the checks, the plan, the arithmetic and the bounds put together.
use Rattle.std.proofs.Common.{◌≡◌, ℕ, ◌<◌, List, length, ℤ, Some, Ok, sym, refl, ap, ◌∙◌}
use Rattle.std.proofs.lemmas.List.{length-map}
use Rattle.cordic.specs.Outcome.{State, Out, went, stopped}
use Rattle.network.specs.Neuron.{Working}
use Rattle.network.specs.Plan.{LayerOf}
use Rattle.network.specs.Run.{Feed, words, entrance, recurrence}
use Rattle.network.specs.Refusals.{Explained}
use Rattle.network.specs.Claim.{Accepted, Explains}
use Rattle.network.specs.declared.faults.Located.{Located}
use Rattle.network.specs.declared.faults.NetworkFault.{NetworkFault}
use Rattle.network.specs.declared.faults.NetworkFault.TheVariants.{NoSample, SampleCount, PlanLength, PlanRecord, Arithmetic, Places}
use Rattle.network.proofs.Parts.{no}
use Rattle.network.proofs.Checks.{explained_by, barring, inner}
use Rattle.network.proofs.Encoding.{plan_describes}
use Rattle.network.proofs.Planning.{plan_shaped}
use Rattle.network.proofs.Placing.{Accepts, accepting}
use Rattle.network.proofs.Sampling.{words_are}
use Rattle.network.proofs.Firing.{runs, stops}
use Rattle.std.specs.List.{AllByRecursion}

-- what the samples yield is as many words as the first layer reads
wide : (f : Feed) (hs : List LayerOf) (xs : List ℤ) → words 0 f.samples ≡ Ok xs → length f.samples ≡ entrance hs → length xs ≡ entrance hs
wide f hs xs w c = sym (length-map xs (λ x. Some x)) ∙ ap length (words_are 0 f.samples xs w) ∙ c

in_layers : (f : Feed) (l : Located) (n : ℕ) (s : State) → recurrence f ≡ stopped (Arithmetic l) n s → Explained f (Arithmetic l) s
in_layers f l n s e =
    let i = inner f l n s e in
    let t = i.2 in
    (i.0, t.plan, stops f.rule i.0 i.1 f.state (plan_shaped f.plan i.0 t.plan).0 (wide f i.0 i.1 t.samples t.count) l n s i.3)

stop_means : (f : Feed) (why : NetworkFault) (n : ℕ) (s : State) → recurrence f ≡ stopped why n s → Explained f why s
stop_means f PlanLength n s e = explained_by f PlanLength s (barring f PlanLength n s e (λ l c. no (cc))).rank
stop_means f (PlanRecord p) n s e = explained_by f (PlanRecord p) s (barring f (PlanRecord p) n s e (λ l c. no (cc))).rank
stop_means f Places n s e = explained_by f Places s (barring f Places n s e (λ l c. no (cc))).rank
stop_means f SampleCount n s e = explained_by f SampleCount s (barring f SampleCount n s e (λ l c. no (cc))).rank
stop_means f (NoSample p) n s e = explained_by f (NoSample p) s (barring f (NoSample p) n s e (λ l c. no (cc))).rank
stop_means f (Arithmetic l) n s e = in_layers f l n s e

go_means : (f : Feed) (w : List (List Working)) (n : ℕ) (s : State) → AllByRecursion (λ b. b < 256) f.plan → recurrence f ≡ went w n s → Accepted f w n
go_means f w n s b e =
    let a = accepting f w n s e in
    let hs = a.0 in
    let xs = a.1 in
    let k : Accepts f w n s hs xs = a.2 in
    let c = runs f.rule hs xs f.state (plan_shaped f.plan hs k.plan).0 (wide f hs xs k.samples k.count) w n s k.layered in
    (hs, xs, plan_describes f.plan hs b k.plan, k.yields, c.0, c.1)

by_out : (f : Feed) (o : Out (List (List Working)) NetworkFault) → AllByRecursion (λ b. b < 256) f.plan → recurrence f ≡ o → Explains f o
by_out f (went w n s) b e = go_means f w n s b e
by_out f (stopped why n s) b e = stop_means f why n s e

pub meaning : (f : Feed) → AllByRecursion (λ b. b < 256) f.plan → Explains f (recurrence f)
meaning f b = by_out f (recurrence f) b refl
