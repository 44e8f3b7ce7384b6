-- What a word of a request should be.
--   wanted_name      as it is said
--   wanted_choices   what it can be
use Rattle.std.specs.Prelude.{ℕ, List, codes}
use Rattle.trace.specs.declared.request.Wanted.{Wanted}
use Rattle.trace.specs.declared.request.Wanted.TheVariants.{System as ASystem, Mode as AMode, X as AnX, Y as AY, Z as AZ, Kind as AKind, Setting}

abbrev pub wanted_name : Wanted → List ℕ
wanted_name ASystem = codes "coordinate system"
wanted_name AMode = codes "mode"
wanted_name AnX = codes "number for x"
wanted_name AY = codes "number for y"
wanted_name AZ = codes "number for z"
wanted_name AKind = codes "stage"
wanted_name Setting = codes "option"

abbrev pub wanted_choices : Wanted → List ℕ
wanted_choices ASystem = codes "linear, circular, hyperbolic"
wanted_choices AMode = codes "rotation, vectoring"
wanted_choices AnX = codes "-2147483648 to 2147483647"
wanted_choices AY = codes "-2147483648 to 2147483647"
wanted_choices AZ = codes "-2147483648 to 2147483647"
wanted_choices AKind = codes "parallel, bit-serial"
wanted_choices Setting = codes "--stage, --probe, --help"
