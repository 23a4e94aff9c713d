use Rattle.std.proofs.Common.{rules}
use Rattle.jsoncount.proofs.Triples.{entity-past, type-good, type-signed, id-good, id-signed, attributes-good, entity-signed, entity-told}
use Rattle.jsoncount.proofs.entities.count_entity.Goals as goal

pub skip_blanks-requires : goal.skip_blanks-requires
skip_blanks-requires c = search (entity-past, rules)

pub add_string-kind_end-requires : goal.add_string-kind_end-requires
add_string-kind_end-requires c = search (type-good, rules)

pub after_sign-requires : goal.after_sign-requires
after_sign-requires c = search (type-signed, rules)

pub add_string-id_end-requires : goal.add_string-id_end-requires
add_string-id_end-requires c = search (id-good, rules)

pub after_sign-requires-2 : goal.after_sign-requires-2
after_sign-requires-2 c = search (id-signed, rules)

pub count_fields-end-requires : goal.count_fields-end-requires
count_fields-end-requires c = search (attributes-good, rules)

pub sign_end-requires : goal.sign_end-requires
sign_end-requires c = search (entity-signed, rules)

pub returns : goal.returns
returns c = search (entity-told, rules)
