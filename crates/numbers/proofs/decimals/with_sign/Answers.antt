use Rattle.std.proofs.Common.{◌∙◌, sym}
use Rattle.numbers.proofs.Scaling.{no_room, room, taken, added}
use Rattle.numbers.proofs.decimals.with_sign.Goals.{then-minus, else-minus}
use Rattle.numbers.proofs.decimals.with_sign.Goals as goal

pub returns-in_err-signed : goal.returns-in_err-signed
returns-in_err-signed c = rw c.from_residual.ensures (elim c.if-minus.branch [
  | then-minus w ↦ no_room _ _ _ _ (taken _ _ w.if-minus.true) w.checked_sub_unsigned-signed.ensures (sym w.signed-is ∙ c.in_err-signed.was)
  | else-minus w ↦ no_room _ _ _ _ (added _ _ w.if-minus.false) w.checked_add_unsigned-signed.ensures (sym w.signed-is ∙ c.in_err-signed.was)
])

pub returns : goal.returns
returns c = elim c.if-minus.branch [
  | then-minus w ↦ room _ _ _ _ _ _ (taken _ _ w.if-minus.true) w.checked_sub_unsigned-signed.ensures (sym w.signed-is ∙ c.in_ok-signed.was) c.cast_unsigned.ensures
  | else-minus w ↦ room _ _ _ _ _ _ (added _ _ w.if-minus.false) w.checked_add_unsigned-signed.ensures (sym w.signed-is ∙ c.in_ok-signed.was) c.cast_unsigned.ensures
]
