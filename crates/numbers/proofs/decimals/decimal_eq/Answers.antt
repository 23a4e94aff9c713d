-- Two decimals by their numbers, or by their texts
use Rattle.std.proofs.Common.{rules, ◌≡◌, ◌∙◌, sym}
use borrow.Author.Tests.{eqb-false}
use Rattle.laws.specs.Checked.{checked-bodies, checked-strings}
use Rattle.numbers.proofs.Scaling.{decimals_same, decimals_both, decimals_left, decimals_text}
use Rattle.numbers.proofs.decimals.decimal_eq.Goals as goal

pub returns-then-eq : goal.returns-then-eq
returns-then-eq c = search (decimals_same, rules)

pub text_of-requires : goal.text_of-requires
text_of-requires c = search (checked-bodies, checked-strings, rules)

pub text_of-requires-2 : goal.text_of-requires-2
text_of-requires-2 c = search (checked-bodies, checked-strings, rules)

pub returns-in_default : goal.returns-in_default
returns-in_default c = let h : c.args.a.0 ≡ c.args.b.0 → ⊥ = eqb-false _ _ (sym c.eq.ensures ∙ c.if-eq.false) in search (decimals_text, rules)

pub returns-in_default-cedar_decimal_value : goal.returns-in_default-cedar_decimal_value
returns-in_default-cedar_decimal_value c = search (decimals_left, rules)

pub returns : goal.returns
returns c = search (decimals_both, rules)
