use Rattle.std.proofs.Common.{rules}
use Rattle.jsoncount.proofs.Strings.{texts-signed, texts-begun, texts-good, texts-after, texts-less, texts-again, texts-told}
use Rattle.jsoncount.proofs.texts.count_texts.Goals as goal

pub first_part-part-requires : goal.first_part-part-requires
first_part-part-requires c = search (texts-signed, rules)

pub loop-part-init : goal.loop-part-init
loop-part-init c = search (texts-begun, rules)

pub add_string-end-requires : goal.add_string-end-requires
add_string-end-requires c = search (texts-good, rules)

pub part_after-part-requires : goal.part_after-part-requires
part_after-part-requires c = search (texts-after, rules)

pub loop-part-smaller : goal.loop-part-smaller
loop-part-smaller c = search (texts-less, rules)

pub loop-part-preserved : goal.loop-part-preserved
loop-part-preserved c = search (texts-again, rules)

pub returns : goal.returns
returns c = search (texts-told, rules)
