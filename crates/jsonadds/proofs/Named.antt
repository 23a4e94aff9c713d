-- A value in order has as many names, and as many parts
use mathlib.Core.Path.{◌≡◌, refl}
use mathlib.Core.Bool.{Bool, true, false}
use mathlib.Core.List.{List, [], ◌∷◌}
use Prim.Native.Nat.{ℕ, suc, ◌+◌}
use native.Mathlib.Omega.{arith}
use lib.ListN.{length}
use Rattle.meaning.specs.Tests.{choose}
use Rattle.meaning.specs.Text.{before}
use Rattle.jsontext.specs.Values.{J, Null, Truth, Int, Text, EntityOf, Decimal, Array, Object, Parts, end, part, member_parts}
use Rattle.jsontrace.specs.Order.{insert_part, ordered, ordered_items, ordered_members}
use Rattle.jsontrace.specs.Trace.{many}
use Rattle.jsonadds.specs.Place.{named, inside}

inside_insert : (n : List ℕ) (o : J) (ps : Parts) → inside (insert_part n o ps) ≡ named o + inside ps
unfolding insert_part inside choose
inside_insert n o end = refl
inside_insert n o (part m k ps) =
    go (before m n) (inside_insert n o ps)
  where
    go : (x : Bool) → inside (insert_part n o ps) ≡ named o + inside ps → inside (choose x (part m k (insert_part n o ps)) (part n o (part m k ps))) ≡ named o + (named k + inside ps)
    go true r = omega (arith, r)
    go false r = refl

pub many_insert : (n : List ℕ) (o : J) (ps : Parts) → many (insert_part n o ps) ≡ suc (many ps)
unfolding insert_part many choose
many_insert n o end = refl
many_insert n o (part m k ps) =
    go (before m n) (many_insert n o ps)
  where
    go : (x : Bool) → many (insert_part n o ps) ≡ suc (many ps) → many (choose x (part m k (insert_part n o ps)) (part n o (part m k ps))) ≡ suc (suc (many ps))
    go true r = omega (arith, r)
    go false r = refl

pub many-ordered : (ps : Parts) → many (ordered_members ps) ≡ many ps
unfolding ordered_members many
many-ordered end = refl
many-ordered (part n j ps) = omega (arith, many_insert n (ordered j) (ordered_members ps), many-ordered ps)

pub many-members : (ms : List (List ℕ × J)) → many (member_parts ms) ≡ length ms
unfolding member_parts many
many-members [] = refl
many-members (m ∷ ms) = omega (arith, many-members ms)

mutual
  unfolding named ordered

  pub named-ordered : (j : J) → named (ordered j) ≡ named j
  named-ordered Null = refl
  named-ordered (Truth b) = refl
  named-ordered (Int z) = refl
  named-ordered (Text t) = refl
  named-ordered (EntityOf t i) = refl
  named-ordered (Decimal t) = refl
  named-ordered (Array ps) = inside-items ps
  named-ordered (Object ps) = omega (arith, many-ordered ps, inside-ordered ps)

  inside-items : (ps : Parts) → inside (ordered_items ps) ≡ inside ps
  inside-items end = refl
  inside-items (part n j ps) = omega (arith, named-ordered j, inside-items ps)

  pub inside-ordered : (ps : Parts) → inside (ordered_members ps) ≡ inside ps
  inside-ordered end = refl
  inside-ordered (part n j ps) = omega (arith, inside_insert n (ordered j) (ordered_members ps), named-ordered j, inside-ordered ps)
