use Rattle.std.proofs.Common.{List, ℕ, ◌∙◌, subst, arith}
use Rattle.laws.specs.Writing.{Writing}
use Rattle.encode.proofs.Out.{word-bytes}
use Rattle.encode.proofs.put_word.Goals as goal

pub returns : goal.returns
returns c = subst (λ (l : List ℕ). Writing c.args.out.now c.copy_at.new.out c.args.at l) (c.to_le_bytes.ensures ∙ word-bytes c.args.w (omega arith)) c.copy_at.ensures
