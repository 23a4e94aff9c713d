use Rattle.jsonput.specs.Laws.Strings.{Escaping}
use Rattle.jsonput.proofs.put_escaped.Given as goal

abbrev pub invariant-loop-c : goal.invariant-loop-c
invariant-loop-c l = Escaping l.initial.out l.out l.at l.t l.c-index l.next
