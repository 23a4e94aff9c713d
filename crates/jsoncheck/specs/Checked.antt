-- What the check of a log tells, and what it leaves in the workspace
use Rattle.std.specs.Prelude.{◌≡◌, List, ℕ, ◌+◌, ◌/◌, length, Result, Ok, Err}
use Rattle.meaning.specs.Calls.{cleared}
use Rattle.jsontext.specs.declared.Bad.{Bad}
use Rattle.jsontext.specs.Events.{refused, log}
use Rattle.jsonlines.specs.Events.{LogIs}

pub record CheckTold (text workspace after : List ℕ) (r : Result ℕ Bad) : Type 0 where
  pub good : (e : ℕ) → r ≡ Ok e → LogIs text
  pub wrong : (b : Bad) → r ≡ Err b → log text ≡ refused b.fault b.at b.first
  pub long : length after ≡ length workspace
  pub cells : after ≡ cleared ((length text + 3) / 4) workspace
