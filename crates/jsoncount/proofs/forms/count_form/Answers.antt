use Rattle.std.proofs.Common.{rules}
use Rattle.jsoncount.proofs.Formed.{first_good, second-good, decimal-told, entity-told}
use Rattle.jsoncount.proofs.forms.count_form.Goals.{then-not-extension, else-not-extension}
use Rattle.jsoncount.proofs.forms.count_form.Goals as goal

pub add_string-requires : goal.add_string-requires
add_string-requires c = search (first_good, rules)

pub add_string-requires-2 : goal.add_string-requires-2
add_string-requires-2 c = search (second-good, rules)

pub returns : goal.returns
returns c =
    elim c.if-not-extension.branch [ then-not-extension w ↦ search (entity-told, rules) | else-not-extension w ↦ search (decimal-told, rules) ]
