-- The mosts, as numbers
use Rattle.std.specs.Prelude.{◌≡◌, true, List, ℕ, ◌≤◌, length}
use Rattle.std.proofs.Common.{arith, lit<}
use borrow.Author.Tests.{leb-true}
use Rattle.meaning.specs.Case.{strings, values, members, nodes, lists}
use Rattle.meaning.specs.Check.{bodies, mosts}
use Rattle.laws.specs.Tests.{both}
use Rattle.laws.specs.Bodies.{body-ends}

module _ (s : List ℕ) (h : mosts s ≡ true) where
  pub length_most : length s ≤ 4194304
  unfolding mosts
  length_most = leb-true _ _ (both _ _ h).0

  pub string-most : strings s ≤ 16384
  unfolding mosts
  string-most = leb-true _ _ (both _ _ (both _ _ h).1).0

  pub value-most : values s ≤ 16384
  unfolding mosts
  value-most = leb-true _ _ (both _ _ (both _ _ (both _ _ h).1).1).0

  pub node-most : nodes s ≤ 1024
  unfolding mosts
  node-most = leb-true _ _ (both _ _ (both _ _ (both _ _ (both _ _ (both _ _ h).1).1).1).1).0

  -- members and lists have no most of their own; the file has
  module _ (b : bodies s ≡ true) where
    pub member-most : members s ≤ 524288
    member-most = omega (arith, length_most, body-ends s b 2 (lit< tt))

    pub list-most : lists s ≤ 1048576
    list-most = omega (arith, length_most, body-ends s b 5 (lit< tt))
