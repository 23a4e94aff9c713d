-- What a first byte makes due: the range that it lies in
use Rattle.std.proofs.Common.{◌≡◌, ℕ, ◌≤◌, refl, arith}
use borrow.Author.Tests.{lt-ltb, le-ltb}
use Rattle.meaning.specs.Tests.{choose}
use Rattle.meaning.specs.Text.{first}
use Rattle.meaning.specs.declared.Due.TheVariants.{Nothing, One, Two, Three, AfterE0, AfterEd, AfterF0, AfterF4, Wrong}
use Rattle.stringcheck.proofs.first_due.Goals as goal

module _ (b : ℕ) where
  due-0-127 : b ≤ 127 → Nothing ≡ first b
  unfolding first choose
  due-0-127 h = rw (lt-ltb b 128 (omega arith)) refl

  due-128-193 : 128 ≤ b → b ≤ 193 → Wrong ≡ first b
  unfolding first choose
  due-128-193 l h = rw (le-ltb b 128 (omega arith), lt-ltb b 194 (omega arith)) refl

  due-194-223 : 194 ≤ b → b ≤ 223 → One ≡ first b
  unfolding first choose
  due-194-223 l h = rw (le-ltb b 128 (omega arith), le-ltb b 194 (omega arith), lt-ltb b 224 (omega arith)) refl

  due-224-224 : 224 ≤ b → b ≤ 224 → AfterE0 ≡ first b
  unfolding first choose
  due-224-224 l h = rw (le-ltb b 128 (omega arith), le-ltb b 194 (omega arith), le-ltb b 224 (omega arith), lt-ltb b 225 (omega arith)) refl

  due-225-236 : 225 ≤ b → b ≤ 236 → Two ≡ first b
  unfolding first choose
  due-225-236 l h = rw (le-ltb b 128 (omega arith), le-ltb b 194 (omega arith), le-ltb b 224 (omega arith), le-ltb b 225 (omega arith), lt-ltb b 237 (omega arith)) refl

  due-237-237 : 237 ≤ b → b ≤ 237 → AfterEd ≡ first b
  unfolding first choose
  due-237-237 l h = rw (le-ltb b 128 (omega arith), le-ltb b 194 (omega arith), le-ltb b 224 (omega arith), le-ltb b 225 (omega arith), le-ltb b 237 (omega arith), lt-ltb b 238 (omega arith)) refl

  due-238-239 : 238 ≤ b → b ≤ 239 → Two ≡ first b
  unfolding first choose
  due-238-239 l h = rw (le-ltb b 128 (omega arith), le-ltb b 194 (omega arith), le-ltb b 224 (omega arith), le-ltb b 225 (omega arith), le-ltb b 237 (omega arith), le-ltb b 238 (omega arith), lt-ltb b 240 (omega arith)) refl

  due-240-240 : 240 ≤ b → b ≤ 240 → AfterF0 ≡ first b
  unfolding first choose
  due-240-240 l h = rw (le-ltb b 128 (omega arith), le-ltb b 194 (omega arith), le-ltb b 224 (omega arith), le-ltb b 225 (omega arith), le-ltb b 237 (omega arith), le-ltb b 238 (omega arith), le-ltb b 240 (omega arith), lt-ltb b 241 (omega arith)) refl

  due-241-243 : 241 ≤ b → b ≤ 243 → Three ≡ first b
  unfolding first choose
  due-241-243 l h = rw (le-ltb b 128 (omega arith), le-ltb b 194 (omega arith), le-ltb b 224 (omega arith), le-ltb b 225 (omega arith), le-ltb b 237 (omega arith), le-ltb b 238 (omega arith), le-ltb b 240 (omega arith), le-ltb b 241 (omega arith), lt-ltb b 244 (omega arith)) refl

  due-244-244 : 244 ≤ b → b ≤ 244 → AfterF4 ≡ first b
  unfolding first choose
  due-244-244 l h = rw (le-ltb b 128 (omega arith), le-ltb b 194 (omega arith), le-ltb b 224 (omega arith), le-ltb b 225 (omega arith), le-ltb b 237 (omega arith), le-ltb b 238 (omega arith), le-ltb b 240 (omega arith), le-ltb b 241 (omega arith), le-ltb b 244 (omega arith), lt-ltb b 245 (omega arith)) refl

  due-245-255 : 245 ≤ b → Wrong ≡ first b
  unfolding first choose
  due-245-255 l = rw (le-ltb b 128 (omega arith), le-ltb b 194 (omega arith), le-ltb b 224 (omega arith), le-ltb b 225 (omega arith), le-ltb b 237 (omega arith), le-ltb b 238 (omega arith), le-ltb b 240 (omega arith), le-ltb b 241 (omega arith), le-ltb b 244 (omega arith), le-ltb b 245 (omega arith)) refl

pub returns-then-b-lt128 : goal.returns-then-b-lt128
returns-then-b-lt128 c = due-0-127 c.args.b (omega arith)

pub returns-then-b-lt194 : goal.returns-then-b-lt194
returns-then-b-lt194 c = due-128-193 c.args.b (omega arith) (omega arith)

pub returns-then-b-lt224 : goal.returns-then-b-lt224
returns-then-b-lt224 c = due-194-223 c.args.b (omega arith) (omega arith)

pub returns-then-b-lt225 : goal.returns-then-b-lt225
returns-then-b-lt225 c = due-224-224 c.args.b (omega arith) (omega arith)

pub returns-then-b-lt237 : goal.returns-then-b-lt237
returns-then-b-lt237 c = due-225-236 c.args.b (omega arith) (omega arith)

pub returns-then-b-lt238 : goal.returns-then-b-lt238
returns-then-b-lt238 c = due-237-237 c.args.b (omega arith) (omega arith)

pub returns-then-b-lt240 : goal.returns-then-b-lt240
returns-then-b-lt240 c = due-238-239 c.args.b (omega arith) (omega arith)

pub returns-then-b-lt241 : goal.returns-then-b-lt241
returns-then-b-lt241 c = due-240-240 c.args.b (omega arith) (omega arith)

pub returns-then-b-lt244 : goal.returns-then-b-lt244
returns-then-b-lt244 c = due-241-243 c.args.b (omega arith) (omega arith)

pub returns-then-b-lt245 : goal.returns-then-b-lt245
returns-then-b-lt245 c = due-244-244 c.args.b (omega arith) (omega arith)

pub returns-else-b-lt245 : goal.returns-else-b-lt245
returns-else-b-lt245 c = due-245-255 c.args.b (omega arith)
