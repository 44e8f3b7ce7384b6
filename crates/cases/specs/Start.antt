-- The triple that a pile is loaded with before a request.
use Rattle.std.specs.Prelude.{pos, negsuc}
use Rattle.stage.specs.declared.registers.Triple.{Triple}

abbrev pub start : Triple
start = record { x = pos 11; y = negsuc 11; z = pos 13 }
