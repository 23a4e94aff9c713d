use Rattle.std.proofs.Common.{rules}
use Rattle.jsonread.proofs.Places.{passed}
use Rattle.jsonpairs.proofs.Words.{item-unread, item-any, item-decimal, item_another}
use Rattle.jsonpairs.proofs.item_at.Goals as goal

pub returns-in_err-e : goal.returns-in_err-e
returns-in_err-e c = rw (passed c.from_residual.ensures.1) (search (item-unread, c.in_err-e.was, rules))

pub returns-then-not-decimal : goal.returns-then-not-decimal
returns-then-not-decimal c = search (item-any, c.in_ok-e.was, rules)

pub returns-then-not-is_word : goal.returns-then-not-is_word
returns-then-not-is_word c = rw c.new.ensures (search (item_another, c.in_ok-e.was, rules))

pub returns : goal.returns
returns c = search (item-decimal, c.in_ok-e.was, rules)
