-- A field of values that all claim a text claims one too.
use Rattle.std.proofs.Common.{◌≡◌, ℕ, List, Some, None, Option, refl}
use Rattle.fields.specs.Field.{field, field_output}

pub field_claims : {T : Type 0} (text : T → List ℕ) (o : Option T) → field_output (λ x. Some (text x)) o ≡ Some (field text o)
field_claims text (Some x) = refl
field_claims text None = refl
