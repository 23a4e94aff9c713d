use Rattle.std.proofs.Common.{rules}
use Rattle.making.proofs.Rules.{told, bodies-told, sorted_of, sorted-few, makes_none, makes-many}
use Rattle.making.proofs.make.Goals as goal

pub returns-then-not-has_tables : goal.returns-then-not-has_tables
returns-then-not-has_tables c = search (makes_none, rules)

pub join_strings-requires : goal.join_strings-requires
join_strings-requires c = search (bodies-told, rules)

pub make_sorted-requires-clause-s_value : goal.make_sorted-requires-clause-s_value
make_sorted-requires-clause-s_value c = search (told, rules)

pub make_sorted-requires-clause-sorted : goal.make_sorted-requires-clause-sorted
make_sorted-requires-clause-sorted c = search (sorted_of, rules)

pub make_sorted-requires-clause-n_bound : goal.make_sorted-requires-clause-n_bound
make_sorted-requires-clause-n_bound c = search (sorted-few, rules)

pub returns-in_default : goal.returns-in_default
returns-in_default c = search (makes-many, told, rules)
