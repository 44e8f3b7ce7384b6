-- What a run of the interface is fed: a stage that holds three zeros, and no notes.
use Rattle.std.specs.Prelude.{ℕ, List, [], map, ℤ, Option}
use Rattle.stage.specs.Stage.{zeros, silent}
use Rattle.cordic.specs.Outcome.{State}
use Rattle.network.specs.Run.{Feed}
use Rattle.network.specs.Sample.{converted, recorded}
use Rattle.network.specs.declared.sample.ConverterWord.{ConverterWord}
use Rattle.network.specs.declared.sample.SampleRecord.{SampleRecord}

abbrev pub fresh : State
fresh = record { held = zeros; notes = [] }

abbrev pub feed : List ℕ → List (Option ℤ) → List ℤ → Feed
feed plan yields places = record { plan = plan; samples = yields; places = places; state = fresh; rule = silent }

abbrev pub record_feed : List ℕ → List SampleRecord → List ℤ → Feed
record_feed plan samples places = feed plan (map (λ s. recorded s.status s.value) samples) places

abbrev pub converter_feed : List ℕ → List ConverterWord → List ℤ → Feed
converter_feed plan samples places = feed plan (map (λ s. converted s.raw) samples) places
