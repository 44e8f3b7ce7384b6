use Rattle.std.proofs.Common.{◌≡◌, ℕ, Some, Option, codes, decimal, refl, sym, lit<, rules}
use Rattle.std.specs.Fmt.{◌++?◌}
use Rattle.std.specs.Option.{option_map}
use Rattle.std.proofs.lemmas.Fmt.{decimal_digit}
use Rattle.std.proofs.Output.{displays_on_ok_of_eq}
use Rattle.fields.specs.Field.{field_output}
use Rattle.neuron.specs.Refusals.{place_text, refused}
use Rattle.neuron.specs.declared.place.Place.{Place}
use Rattle.neuron.specs.declared.place.Place.TheVariants.{Plan}
use Rattle.neuron.proofs.Fields.{field_claims}
use Rattle.neuron.proofs.refusal.RefusalDisplay.fmt.Goals as goal

-- the parts as the format joins them
joined : (number : ℕ) (layer neuron input : Option ℕ) (place : Option Place)
    → (Some (codes "refused ") ++? Some (decimal number)
    ++? Some (codes " ") ++? field_output (λ x. Some (decimal x)) layer
    ++? Some (codes " ") ++? field_output (λ x. Some (decimal x)) neuron
    ++? Some (codes " ") ++? field_output (λ x. Some (decimal x)) input
    ++? Some (codes " ") ++? field_output (λ x. Some (place_text x)) place)
    ≡ Some (refused number layer neuron input place)
joined number layer neuron input place = rw (field_claims decimal layer, field_claims decimal neuron, field_claims decimal input, field_claims place_text place) refl

pub returns-in-Run-clause-writes : goal.returns-in-Run-clause-writes
returns-in-Run-clause-writes g c =
    let r = c.report-report.result in
    let e : c.map.result ≡ option_map Plan r.record = search rules in
    let w = displays_on_ok_of_eq _ _ _ _ _ _ (joined r.number r.layer r.neuron r.input c.map.result) c.write.ensures.writes in
    rw (c.in-Run.is, sym c.report-report.ensures.answer, sym e) w

pub returns-in-Input-clause-writes : goal.returns-in-Input-clause-writes
returns-in-Input-clause-writes g c = rw (c.in-Input.is, decimal_digit 4 (lit< tt)) c.write-in-Input.ensures.writes
