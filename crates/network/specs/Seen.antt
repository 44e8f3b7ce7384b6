-- What the code of a run is fed and gives back, as the claim speaks of it.
use Rattle.std.specs.Prelude.{ℕ, List, map, take, ℤ, Ok, Err, Result}
use Rattle.stage.specs.declared.stage.Stage.{Ghosts as StageOf}
use Rattle.cordic.specs.Outcome.{State, Out, went, stopped}
use Rattle.cordic.specs.Seen.{state_of}
use Rattle.cordic.specs.declared.states.Answer.{Answer}
use Rattle.cordic.specs.declared.states.Refused.{Refused}
use Rattle.network.specs.Run.{Feed}
use Rattle.network.specs.declared.sample.Sample.{Ghosts as SampleOf}
use Rattle.network.specs.declared.faults.NetworkFault.{NetworkFault}
use Rattle.network.specs.declared.ran.Ran.{Ran}

-- the plan's bytes, what each sample yields, the places with what they hold, and the stage's triple, notes and rule
abbrev pub feed_of : {X Y : Type 0} → StageOf X → SampleOf Y → List ℕ → List Y → List ℤ → X → Feed
feed_of S P plan samples places s = record { plan = plan; samples = map P.yields samples; places = places; state = state_of S s; rule = S.rule }

abbrev pub outcome : List ℤ → ℕ → State → Result ℕ NetworkFault → Out (List ℤ) NetworkFault
outcome places n s (Ok k) = went (take k places) n s
outcome places n s (Err f) = stopped f n s

-- the outputs are the first places after the call
abbrev pub seen_by : {X : Type 0} → StageOf X → List ℤ → Ran X → Out (List ℤ) NetworkFault
seen_by S places r = outcome places r.steps (state_of S r.unit.stage) r.outcome

-- the same of a run before its ticks are counted
abbrev pub attempted : {X : Type 0} → StageOf X → List ℤ → Result (Answer X ℕ) (Refused X NetworkFault) → Out (List ℤ) NetworkFault
attempted S places (Ok a) = went (take a.value places) a.steps (state_of S a.unit.stage)
attempted S places (Err e) = stopped e.fault e.steps (state_of S e.unit.stage)
