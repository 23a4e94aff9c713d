use Rattle.std.proofs.Common.{rules}
use Rattle.jsonruns.proofs.Forms.{form-name, form-colon, form-pair, form-past, form-told}
use Rattle.jsonruns.proofs.two_of.Goals as goal

pub string_end-requires : goal.string_end-requires
string_end-requires c = search (form-name, rules)

pub after_sign-brace-requires : goal.after_sign-brace-requires
after_sign-brace-requires c = search (form-colon, rules)

pub pair_of-two-requires : goal.pair_of-two-requires
pair_of-two-requires c = search (form-pair, rules)

pub sign_end-requires : goal.sign_end-requires
sign_end-requires c = search (form-past, rules)

pub returns : goal.returns
returns c = search (form-told, rules)
