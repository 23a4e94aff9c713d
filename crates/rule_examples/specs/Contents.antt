-- Refusals 1 and 2: contents, bodies without gaps, whole records, mosts; and that the lowest refusal is given
use Rattle.std.specs.Prelude.{◌≡◌, refl, Bool, true, false, List, [], ◌∷◌, ◌++◌, ℕ, ◌+◌, replicate, take}
use Rattle.meaning.specs.Written.{packed, placed, file}
use Rattle.meaning.specs.Check.{mosts}
use Rattle.rule_examples.specs.Asked.{all, wanted, got, checked}

-- contents by their words
contents : List (ℕ × List ℕ)
contents =
    (0, (1 ∷ 0 ∷ 64 ∷ 0 ∷ 64 ∷ 0 ∷ 64 ∷ 0 ∷ 64 ∷ 0 ∷ 64 ∷ 0 ∷ 64 ∷ 0 ∷ 64 ∷ 0 ∷ [])) ∷  -- no records
    (1, (0 ∷ 0 ∷ 64 ∷ 0 ∷ 64 ∷ 0 ∷ 64 ∷ 0 ∷ 64 ∷ 0 ∷ 64 ∷ 0 ∷ 64 ∷ 0 ∷ 64 ∷ 0 ∷ [])) ∷  -- edition 0
    (1, (2 ∷ 0 ∷ 64 ∷ 0 ∷ 64 ∷ 0 ∷ 64 ∷ 0 ∷ 64 ∷ 0 ∷ 64 ∷ 0 ∷ 64 ∷ 0 ∷ 64 ∷ 0 ∷ [])) ∷  -- edition 2
    (1, (16777217 ∷ 0 ∷ 64 ∷ 0 ∷ 64 ∷ 0 ∷ 64 ∷ 0 ∷ 64 ∷ 0 ∷ 64 ∷ 0 ∷ 64 ∷ 0 ∷ 64 ∷ 0 ∷ [])) ∷  -- edition 1 in the lowest byte only
    (1, (257 ∷ 0 ∷ 64 ∷ 0 ∷ 64 ∷ 0 ∷ 64 ∷ 0 ∷ 64 ∷ 0 ∷ 64 ∷ 0 ∷ 64 ∷ 0 ∷ 64 ∷ 0 ∷ [])) ∷  -- likewise
    (1, (65537 ∷ 0 ∷ 64 ∷ 0 ∷ 64 ∷ 0 ∷ 64 ∷ 0 ∷ 64 ∷ 0 ∷ 64 ∷ 0 ∷ 64 ∷ 0 ∷ 64 ∷ 0 ∷ [])) ∷  -- likewise
    (1, (1 ∷ 0 ∷ 65 ∷ 0 ∷ 64 ∷ 0 ∷ 64 ∷ 0 ∷ 64 ∷ 0 ∷ 64 ∷ 0 ∷ 64 ∷ 0 ∷ 64 ∷ 0 ∷ [])) ∷  -- body 0 starts late
    (1, (1 ∷ 0 ∷ 64 ∷ 0 ∷ 65 ∷ 0 ∷ 64 ∷ 0 ∷ 64 ∷ 0 ∷ 64 ∷ 0 ∷ 64 ∷ 0 ∷ 64 ∷ 0 ∷ [])) ∷  -- body 1 starts late
    (1, (1 ∷ 0 ∷ 64 ∷ 0 ∷ 64 ∷ 0 ∷ 65 ∷ 0 ∷ 64 ∷ 0 ∷ 64 ∷ 0 ∷ 64 ∷ 0 ∷ 64 ∷ 0 ∷ [])) ∷  -- body 2 starts late
    (1, (1 ∷ 0 ∷ 64 ∷ 0 ∷ 64 ∷ 0 ∷ 64 ∷ 0 ∷ 65 ∷ 0 ∷ 64 ∷ 0 ∷ 64 ∷ 0 ∷ 64 ∷ 0 ∷ [])) ∷  -- body 3 starts late
    (1, (1 ∷ 0 ∷ 64 ∷ 0 ∷ 64 ∷ 0 ∷ 64 ∷ 0 ∷ 64 ∷ 0 ∷ 65 ∷ 0 ∷ 64 ∷ 0 ∷ 64 ∷ 0 ∷ [])) ∷  -- body 4 starts late
    (1, (1 ∷ 0 ∷ 64 ∷ 0 ∷ 64 ∷ 0 ∷ 64 ∷ 0 ∷ 64 ∷ 0 ∷ 64 ∷ 0 ∷ 65 ∷ 0 ∷ 64 ∷ 0 ∷ [])) ∷  -- body 5 starts late
    (1, (1 ∷ 0 ∷ 64 ∷ 0 ∷ 64 ∷ 0 ∷ 64 ∷ 0 ∷ 64 ∷ 0 ∷ 64 ∷ 0 ∷ 64 ∷ 0 ∷ 65 ∷ 0 ∷ [])) ∷  -- body 6 starts late
    (1, (1 ∷ 0 ∷ 63 ∷ 0 ∷ 64 ∷ 0 ∷ 64 ∷ 0 ∷ 64 ∷ 0 ∷ 64 ∷ 0 ∷ 64 ∷ 0 ∷ 64 ∷ 0 ∷ [])) ∷  -- body 0 starts early
    (1, (1 ∷ 0 ∷ 64 ∷ 0 ∷ 63 ∷ 0 ∷ 64 ∷ 0 ∷ 64 ∷ 0 ∷ 64 ∷ 0 ∷ 64 ∷ 0 ∷ 64 ∷ 0 ∷ [])) ∷  -- body 1 starts early
    (1, (1 ∷ 0 ∷ 64 ∷ 0 ∷ 64 ∷ 0 ∷ 63 ∷ 0 ∷ 64 ∷ 0 ∷ 64 ∷ 0 ∷ 64 ∷ 0 ∷ 64 ∷ 0 ∷ [])) ∷  -- body 2 starts early
    (1, (1 ∷ 0 ∷ 64 ∷ 0 ∷ 64 ∷ 0 ∷ 64 ∷ 0 ∷ 63 ∷ 0 ∷ 64 ∷ 0 ∷ 64 ∷ 0 ∷ 64 ∷ 0 ∷ [])) ∷  -- body 3 starts early
    (1, (1 ∷ 0 ∷ 64 ∷ 0 ∷ 64 ∷ 0 ∷ 64 ∷ 0 ∷ 64 ∷ 0 ∷ 63 ∷ 0 ∷ 64 ∷ 0 ∷ 64 ∷ 0 ∷ [])) ∷  -- body 4 starts early
    (1, (1 ∷ 0 ∷ 64 ∷ 0 ∷ 64 ∷ 0 ∷ 64 ∷ 0 ∷ 64 ∷ 0 ∷ 64 ∷ 0 ∷ 63 ∷ 0 ∷ 64 ∷ 0 ∷ [])) ∷  -- body 5 starts early
    (1, (1 ∷ 0 ∷ 64 ∷ 0 ∷ 64 ∷ 0 ∷ 64 ∷ 0 ∷ 64 ∷ 0 ∷ 64 ∷ 0 ∷ 64 ∷ 0 ∷ 63 ∷ 0 ∷ [])) ∷  -- body 6 starts early
    (1, (1 ∷ 0 ∷ 64 ∷ 0 ∷ 64 ∷ 0 ∷ 64 ∷ 0 ∷ 64 ∷ 0 ∷ 64 ∷ 0 ∷ 64 ∷ 0 ∷ 64 ∷ 1 ∷ [])) ∷  -- a text that is not there
    []

contents-are : got (λ ws. checked (packed ws)) contents ≡ wanted contents
unfolding all contents
contents-are = refl

-- bodies of so many zero bytes
sizes : List (ℕ × List ℕ)
sizes =
    (1, (4 ∷ 0 ∷ 0 ∷ 0 ∷ 0 ∷ 0 ∷ 0 ∷ [])) ∷  -- half a string
    (0, (8 ∷ 0 ∷ 0 ∷ 0 ∷ 0 ∷ 0 ∷ 0 ∷ [])) ∷  -- the empty string
    (1, (0 ∷ 8 ∷ 0 ∷ 0 ∷ 0 ∷ 0 ∷ 0 ∷ [])) ∷  -- half a value
    (0, (0 ∷ 16 ∷ 0 ∷ 0 ∷ 0 ∷ 0 ∷ 0 ∷ [])) ∷  -- Null
    (1, (0 ∷ 0 ∷ 4 ∷ 0 ∷ 0 ∷ 0 ∷ 0 ∷ [])) ∷  -- half a member
    (4, (0 ∷ 0 ∷ 8 ∷ 0 ∷ 0 ∷ 0 ∷ 0 ∷ [])) ∷  -- a member without a name
    (1, (0 ∷ 0 ∷ 0 ∷ 24 ∷ 0 ∷ 0 ∷ 0 ∷ [])) ∷  -- half a point
    (5, (0 ∷ 0 ∷ 0 ∷ 48 ∷ 0 ∷ 0 ∷ 0 ∷ [])) ∷  -- a point of no action
    (1, (0 ∷ 0 ∷ 0 ∷ 0 ∷ 16 ∷ 0 ∷ 0 ∷ [])) ∷  -- half a node
    (6, (0 ∷ 0 ∷ 0 ∷ 0 ∷ 32 ∷ 0 ∷ 0 ∷ [])) ∷  -- a node of no kind
    (1, (0 ∷ 0 ∷ 0 ∷ 0 ∷ 0 ∷ 2 ∷ 0 ∷ [])) ∷  -- half a list word
    (0, (0 ∷ 0 ∷ 0 ∷ 0 ∷ 0 ∷ 4 ∷ 0 ∷ [])) ∷  -- a list word
    (0, (0 ∷ 0 ∷ 0 ∷ 0 ∷ 0 ∷ 8 ∷ 0 ∷ [])) ∷  -- two list words
    (3, (0 ∷ 0 ∷ 0 ∷ 0 ∷ 0 ∷ 0 ∷ 1 ∷ [])) ∷  -- text without strings
    (0, (8 ∷ 32 ∷ 0 ∷ 0 ∷ 0 ∷ 12 ∷ 0 ∷ [])) ∷  -- several
    []

sum : List ℕ → ℕ
sum [] = 0
sum (n ∷ ns) = n + sum ns

zeros : List ℕ → List ℕ
unfolding sum
zeros sizes = packed (1 ∷ 0 ∷ placed 64 sizes) ++ replicate (sum sizes) 0

sizes-are : got (λ ns. checked (zeros ns)) sizes ≡ wanted sizes
unfolding all sizes sum zeros
sizes-are = refl

-- too short, too long, a body that starts where the one before does, a body that is longer than the file
misplaced :
    (checked [] ∷
    checked (take 63 (zeros (0 ∷ 0 ∷ 0 ∷ 0 ∷ 0 ∷ 0 ∷ 0 ∷ []))) ∷
    checked (zeros (0 ∷ 0 ∷ 0 ∷ 0 ∷ 0 ∷ 0 ∷ 0 ∷ []) ++ (0 ∷ [])) ∷
    checked (packed (1 ∷ 0 ∷ 64 ∷ 8 ∷ 64 ∷ 16 ∷ 80 ∷ 0 ∷ 80 ∷ 0 ∷ 80 ∷ 0 ∷ 80 ∷ 0 ∷ 80 ∷ 0 ∷ []) ++ replicate 16 0) ∷
    checked (packed (1 ∷ 0 ∷ placed 64 (0 ∷ 0 ∷ 0 ∷ 0 ∷ 0 ∷ 8 ∷ 0 ∷ [])) ++ replicate 4 0) ∷
    []) ≡ (1 ∷ 1 ∷ 1 ∷ 1 ∷ 1 ∷ [])
unfolding all sum zeros
misplaced = refl

-- the mosts, by contents that name so many bytes; members and lists have none
counts : List (Bool × (ℕ × List ℕ))
counts =
    (true, (0, (131072 ∷ 0 ∷ 0 ∷ 0 ∷ 0 ∷ 0 ∷ 0 ∷ []))) ∷  -- 16384 of body 0
    (false, (0, (131080 ∷ 0 ∷ 0 ∷ 0 ∷ 0 ∷ 0 ∷ 0 ∷ []))) ∷  -- one more
    (true, (0, (0 ∷ 262144 ∷ 0 ∷ 0 ∷ 0 ∷ 0 ∷ 0 ∷ []))) ∷  -- 16384 of body 1
    (false, (0, (0 ∷ 262160 ∷ 0 ∷ 0 ∷ 0 ∷ 0 ∷ 0 ∷ []))) ∷  -- one more
    (true, (0, (0 ∷ 0 ∷ 0 ∷ 786432 ∷ 0 ∷ 0 ∷ 0 ∷ []))) ∷  -- 16384 of body 3
    (false, (0, (0 ∷ 0 ∷ 0 ∷ 786480 ∷ 0 ∷ 0 ∷ 0 ∷ []))) ∷  -- one more
    (true, (0, (0 ∷ 0 ∷ 0 ∷ 0 ∷ 32768 ∷ 0 ∷ 0 ∷ []))) ∷  -- 1024 of body 4
    (false, (0, (0 ∷ 0 ∷ 0 ∷ 0 ∷ 32800 ∷ 0 ∷ 0 ∷ []))) ∷  -- one more
    (true, (0, (0 ∷ 0 ∷ 131080 ∷ 0 ∷ 0 ∷ 65540 ∷ 0 ∷ []))) ∷  -- any number of members and list words
    (true, (16, (0 ∷ 0 ∷ 0 ∷ 0 ∷ 0 ∷ 0 ∷ 0 ∷ []))) ∷  -- 16 variables
    (false, (17, (0 ∷ 0 ∷ 0 ∷ 0 ∷ 0 ∷ 0 ∷ 0 ∷ []))) ∷  -- 17 variables
    []

counts-are : got (λ e. mosts (packed (1 ∷ e.0 ∷ placed 64 e.1))) counts ≡ wanted counts
unfolding all counts
counts-are = refl

-- each rule broken together with a later one: V of 17, text without strings, a value of kind 8, a point of no action, a node of no kind
lowest :
    (checked (packed (2 ∷ 17 ∷ placed 64 (0 ∷ 0 ∷ 0 ∷ 0 ∷ 0 ∷ 0 ∷ 0 ∷ []))) ∷
    checked (file 17 ([] ∷ [] ∷ [] ∷ [] ∷ [] ∷ [] ∷ []) (97 ∷ [])) ∷
    checked (file 16 ([] ∷ (8 ∷ 0 ∷ 0 ∷ 0 ∷ []) ∷ [] ∷ [] ∷ [] ∷ [] ∷ []) (97 ∷ [])) ∷
    checked (file 16 ([] ∷ (8 ∷ 0 ∷ 0 ∷ 0 ∷ []) ∷ [] ∷ replicate 12 0 ∷ [] ∷ [] ∷ []) []) ∷
    checked (file 16 ([] ∷ [] ∷ [] ∷ replicate 12 0 ∷ replicate 8 0 ∷ [] ∷ []) []) ∷
    []) ≡ (1 ∷ 2 ∷ 3 ∷ 4 ∷ 5 ∷ [])
unfolding all
lowest = refl
