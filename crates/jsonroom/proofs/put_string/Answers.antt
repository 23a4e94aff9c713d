use Rattle.std.proofs.Common.{rules}
use Rattle.jsonroom.proofs.Records.{pair-room, byte_word, size_word, bytes_fit, string-put}
use Rattle.jsonroom.proofs.put_string.Goals as goal

pub put_pair-requires : goal.put_pair-requires
put_pair-requires c = search (pair-room, byte_word, size_word, rules)

pub overflow_add-next-2 : goal.overflow_add-next-2
overflow_add-next-2 c = search (bytes_fit, rules)

pub returns : goal.returns
returns c = search (string-put, rules)
