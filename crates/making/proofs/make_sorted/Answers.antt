use Rattle.std.proofs.Common.{rules}
use Rattle.making.proofs.Rules.{bodies_in, sized_of, texts_of_lem, makes-large, makes-short, makes-fits, makes-all}
use Rattle.making.proofs.make_sorted.Goals as goal

pub text_bytes-total-requires-clause-s_value : goal.text_bytes-total-requires-clause-s_value
text_bytes-total-requires-clause-s_value c = search (bodies_in, rules)

pub finished_size-size-requires-clause-s_value : goal.finished_size-size-requires-clause-s_value
finished_size-size-requires-clause-s_value c = search (bodies_in, rules)

pub finished_size-size-requires-clause-sized : goal.finished_size-size-requires-clause-sized
finished_size-size-requires-clause-sized c = search (sized_of, rules)

pub keeps_mosts-requires-clause-s_value : goal.keeps_mosts-requires-clause-s_value
keeps_mosts-requires-clause-s_value c = search (bodies_in, rules)

pub keeps_mosts-requires-clause-n_value : goal.keeps_mosts-requires-clause-n_value
keeps_mosts-requires-clause-n_value c = search (texts_of_lem, rules)

pub returns-then-not-keeps_mosts : goal.returns-then-not-keeps_mosts
returns-then-not-keeps_mosts c = search (makes-large, rules)

pub returns-then-room-size : goal.returns-then-room-size
returns-then-room-size c = search (makes-short, rules)

pub finish-requires-clause-s_value : goal.finish-requires-clause-s_value
finish-requires-clause-s_value c = search (bodies_in, rules)

pub finish-requires-clause-sized : goal.finish-requires-clause-sized
finish-requires-clause-sized c = search (sized_of, rules)

pub finish-requires-clause-fits : goal.finish-requires-clause-fits
finish-requires-clause-fits c = search (makes-fits, rules)

pub returns : goal.returns
returns c = search (makes-all, rules)
