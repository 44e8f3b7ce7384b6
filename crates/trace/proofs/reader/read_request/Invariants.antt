use Rattle.std.proofs.Common.{◌≡◌, drop, Ok}
use Rattle.trace.specs.Reader.{blank, drafted}
use Rattle.trace.proofs.reader.read_request.Given as goal

abbrev pub invariant-loop-word : goal.invariant-loop-word
invariant-loop-word l = drafted (Ok blank) l.words ≡ drafted (Ok l.draft) (drop l.word-index l.words)
