use Rattle.std.proofs.Common.{rules}
use Rattle.jsonread.proofs.Places.{passed}
use Rattle.jsonlines.proofs.Triples.{fields_within, attributes-unread, attributes-closed}
use Rattle.jsonlines.proofs.entities.attributes_at.Goals as goal

pub skip_blanks-requires : goal.skip_blanks-requires
skip_blanks-requires c = search (fields_within, c.in_ok-e.was, rules)

pub returns-in_err-e : goal.returns-in_err-e
returns-in_err-e c = rw (passed c.from_residual.ensures.1) (search (attributes-unread, c.in_err-e.was, rules))

pub returns : goal.returns
returns c = search (attributes-closed, c.in_ok-e.was, rules)
