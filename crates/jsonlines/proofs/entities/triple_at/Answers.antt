use Rattle.std.proofs.Common.{rules}
use Rattle.jsonread.proofs.Places.{passed, told-within}
use Rattle.jsonlines.proofs.Triples.{triple-type, triple-id, triple-room, triple-all}
use Rattle.jsonlines.proofs.entities.triple_at.Goals as goal

pub returns-in_err-id : goal.returns-in_err-id
returns-in_err-id c = rw (passed c.from_residual.ensures.1) (search (triple-type, c.in_err-id.was, rules))

pub named_at-requires-2 : goal.named_at-requires-2
named_at-requires-2 c = search (told-within, c.in_ok-id.was, rules)

pub attributes_at-requires : goal.attributes_at-requires
attributes_at-requires c = record { at_in_bounds = search (told-within, c.in_ok-attributes.was, rules); room = search (triple-room, c.in_ok-id.was, c.in_ok-attributes.was, rules) }

pub returns-in_err-attributes : goal.returns-in_err-attributes
returns-in_err-attributes c = rw (passed c.from_residual-in_err-attributes.ensures.1) (search (triple-id, c.in_ok-id.was, c.in_err-attributes.was, rules))

pub returns : goal.returns
returns c = search (triple-all, c.in_ok-id.was, c.in_ok-attributes.was, rules)
