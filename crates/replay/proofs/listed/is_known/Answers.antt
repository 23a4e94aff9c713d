use Rattle.std.proofs.Common.{◌≡◌, ℕ, true, false, arith, rules}
use Rattle.replay.specs.declared.listed.Listed.{Listed}
use Rattle.replay.specs.Known.{Known}
use Rattle.replay.proofs.Rules.{known_by}
use Rattle.replay.proofs.listed.is_known.Goals as goal

never : {c : Listed} → false ≡ true → Known c
never e = let z : ◌≡◌ {A = ℕ} 0 1 = cc in absurd (omega arith)

pub returns-then-c-gt2 : goal.returns-then-c-gt2
returns-then-c-gt2 c = never

pub returns-then-c-gt13 : goal.returns-then-c-gt13
returns-then-c-gt13 c = never

pub returns-then-c-gt64 : goal.returns-then-c-gt64
returns-then-c-gt64 c = never

pub returns-then-c-gt64-2 : goal.returns-then-c-gt64-2
returns-then-c-gt64-2 c = never

pub returns-then-c-gt1600 : goal.returns-then-c-gt1600
returns-then-c-gt1600 c = never

pub returns-then-c-gt1600-2 : goal.returns-then-c-gt1600-2
returns-then-c-gt1600-2 c = never

pub returns : goal.returns
returns c e = search (known_by, rules)
