use Rattle.std.specs.Iterator.Adapters.{enumerate_source, enumerate_count}
use Rattle.network.specs.Reading.{records_left}
use Rattle.network.proofs.Walks.{Walked}
use Rattle.network.proofs.decode.judge.Given as goal

abbrev pub invariant-loop-position : goal.invariant-loop-position
invariant-loop-position l = Walked l.bytes l.next (enumerate_count l.position-iterator) (records_left (enumerate_source l.position-iterator))
