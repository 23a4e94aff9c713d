use Rattle.joining.proofs.Guessing.{kept-as}
use Rattle.std.proofs.lemmas.Bool.Decides.{Decides-eqb}
use Rattle.std.proofs.lemmas.Slice.Eq.{slice_eq-Decides}
use Rattle.joining.proofs.is_kept.Goals as goal

pub returns-then-j-m : goal.returns-then-j-m
returns-then-j-m c = kept-as c.if-j-m.true c.text_in.ensures c.text_in-then-j-m.ensures (slice_eq-Decides Decides-eqb _ _ _ c.eq.ensures).0
