-- How many variables there are
use Rattle.std.proofs.Common.{rules}
use Rattle.laws.specs.Bodies.{long}
use Rattle.stringcheck.proofs.var_count.Goals as goal

pub contents_word-requires : goal.contents_word-requires
contents_word-requires c = search (long, rules)
