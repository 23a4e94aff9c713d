-- What a caller may conclude: one outcome for each input, and what stands in the room after an answer
use Rattle.std.specs.Prelude.{◌≡◌, List, ℕ, length, Result, Ok}
use Rattle.std.proofs.Common.{sym, ◌∙◌, arith}
use Rattle.std.proofs.Math.Option.{Option, none, some}
use Rattle.meaning.specs.declared.Refusal.{Refusal}
use Rattle.encode.specs.Unsorted.{finished}
use Rattle.encode.specs.Write.{make_refusal, room_after, over}
use Rattle.making.specs.Made.{made_as, Makes}

-- any two outcomes are equal
pub one-made : {s marks room after after' : List ℕ} {r r' : Result ℕ Refusal} → Makes s marks room after r → Makes s marks room after' r' → (r ≡ r') × (after ≡ after')
one-made m m' = (m.is ∙ sym m'.is, m.holds ∙ sym m'.holds)

-- an answer says how long the finished case is, and the room begins with it
pub made-is : {s marks room after : List ℕ} {n : ℕ} → Makes s marks room after (Ok n) → (n ≡ length (finished s marks)) × (after ≡ over (finished s marks) room)
unfolding made_as room_after
made-is {s} {marks} {room} {after} {n} m = go (make_refusal s marks room) m.is m.holds
  where
    go : (o : Option Refusal) → Ok n ≡ made_as (length (finished s marks)) o → after ≡ room_after s marks room o → (n ≡ length (finished s marks)) × (after ≡ over (finished s marks) room)
    go none e h = (cc, h)
    go (some r) e h = let z : ◌≡◌ {A = ℕ} 0 1 = cc in absurd (omega arith)
