use Rattle.std.proofs.Common.{rules}
use Rattle.jsonread.proofs.Places.{told-within}
use Rattle.jsonread.proofs.Firsts.{form_bad, form-plain, form-named}
use Rattle.jsonread.proofs.forms.form_at.Goals as goal

pub only_form-requires : goal.only_form-requires
only_form-requires c = search (told-within, rules)

pub returns-in_default : goal.returns-in_default
returns-in_default c = search (form_bad, rules)

pub returns-in-Plain : goal.returns-in-Plain
returns-in-Plain c = search (form-plain, rules)

pub returns-in_default-form_named : goal.returns-in_default-form_named
returns-in_default-form_named c = search (form-named, rules)
