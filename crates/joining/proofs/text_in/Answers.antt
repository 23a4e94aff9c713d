use Rattle.laws.specs.Bodies.{long}
use Rattle.joining.proofs.Texts.{least_of, cut-ends, cut-read}
use Rattle.std.proofs.Common.{rules}
use Rattle.joining.proofs.text_in.Goals as goal

pub size_of-requires : goal.size_of-requires
size_of-requires c = search (long, rules)

pub offset_of-requires : goal.offset_of-requires
offset_of-requires c = search (long, rules)

pub slice_bounds-result-end : goal.slice_bounds-result-end
slice_bounds-result-end c = search (cut-ends, rules)

pub returns : goal.returns
returns c = cut-read _ (least_of c.min-from.ensures) (least_of c.min-many.ensures) c.wide.ensures c.string_word.ensures c.wide-2.ensures c.string_word-2.ensures c.wide-size.ensures c.size_of.ensures c.wide-body.ensures c.offset_of.ensures (search rules) (search rules)
