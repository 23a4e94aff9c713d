use Rattle.jsonput.specs.Laws.Values.{Holding, leaf_room, leaf-put, open_room, holding-none, lead_room, held-checked, held-falls, held-room, item-put, item_room, holding-more, close-room, value-put}
use Rattle.std.proofs.Common.{◌≡◌, List, ℕ, ◌+◌, ◌*◌, ◌<◌, arith, rules}
use Rattle.meaning.specs.Case.{member_word}
use Rattle.jsonput.proofs.+put_item_put_value.Goals as goal

-- t is twice the number of the value whose items are put
below : {s d w : List ℕ} {t z k a b from i next : ℕ} (m : ℕ) → Holding s t k a b d w from i next → i < b → m ≡ member_word s (a + i) 1 → t ≡ z → 2 * m + 1 < z
below m g l e q = omega (arith, held-falls m g l e)

pub put_item-put_lead-from-requires-clause-i_in_bounds : goal.put_item-put_lead-from-requires-clause-i_in_bounds
put_item-put_lead-from-requires-clause-i_in_bounds t c = search (lead_room, rules)

pub put_item-put_value-requires : goal.put_item-put_value-requires
put_item-put_value-requires t c = (search rules, (search rules, search (held-room, rules)))

pub put_item-returns : goal.put_item-returns
put_item-returns t c = search (item-put, rules)

pub put_value-put_leaf-requires-clause-b_in_bounds : goal.put_value-put_leaf-requires-clause-b_in_bounds
put_value-put_leaf-requires-clause-b_in_bounds t c = search (leaf_room, rules)

pub put_value-returns-then-h-lt6 : goal.put_value-returns-then-h-lt6
put_value-returns-then-h-lt6 t c = search (leaf-put, rules)

pub put_value-put_open-next-requires : goal.put_value-put_open-next-requires
put_value-put_open-next-requires t c = search (open_room, rules)

pub put_value-loop-i-init : goal.put_value-loop-i-init
put_value-loop-i-init t c = search (holding-none, rules)

pub put_value-put_item-next-requires : goal.put_value-put_item-next-requires
put_value-put_item-next-requires t c = (search (below, rules), (search (held-checked, rules), (search rules, search (item_room, rules))))

pub put_value-loop-i-preserved : goal.put_value-loop-i-preserved
put_value-loop-i-preserved t c = search (holding-more, rules)

pub put_value-put_close-requires : goal.put_value-put_close-requires
put_value-put_close-requires t c = search (close-room, rules)

pub put_value-returns : goal.put_value-returns
put_value-returns t c = search (value-put, rules)
