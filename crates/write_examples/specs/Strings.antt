-- The finished case of small unsorted ones: strings sorted and joined, words that name them renumbered, all else as it was
use Rattle.std.specs.Prelude.{◌≡◌, refl, List, [], ◌∷◌, map, ℕ}
use Rattle.encode.specs.Unsorted.{finished}
use Rattle.write_examples.specs.Asked.{all, unsorted}

-- strings only: start and length of each, and text
only : List ℕ × List ℕ → List ℕ
only e = unsorted 0 (e.0 ∷ [] ∷ [] ∷ [] ∷ [] ∷ [] ∷ []) e.1

sorted : List ((List ℕ × List ℕ) × (List ℕ × List ℕ))
sorted =
    (([], []), ([], [])) ∷  -- none
    (((0 ∷ 1 ∷ 1 ∷ 1 ∷ []), (97 ∷ 98 ∷ [])), ((0 ∷ 1 ∷ 1 ∷ 1 ∷ []), (97 ∷ 98 ∷ []))) ∷  -- in order already
    (((0 ∷ 1 ∷ 1 ∷ 1 ∷ []), (97 ∷ 98 ∷ [])), ((0 ∷ 1 ∷ 1 ∷ 1 ∷ []), (98 ∷ 97 ∷ []))) ∷  -- turned round
    (((0 ∷ 1 ∷ 1 ∷ 1 ∷ []), (97 ∷ 98 ∷ [])), ((0 ∷ 1 ∷ 1 ∷ 1 ∷ 0 ∷ 1 ∷ []), (98 ∷ 97 ∷ []))) ∷  -- b, a, b: equal ones joined
    (((0 ∷ 1 ∷ 1 ∷ 1 ∷ []), (97 ∷ 98 ∷ [])), ((2 ∷ 1 ∷ 1 ∷ 1 ∷ []), (120 ∷ 97 ∷ 98 ∷ []))) ∷  -- what no string covers is dropped
    (((0 ∷ 1 ∷ 1 ∷ 2 ∷ []), (97 ∷ 97 ∷ 98 ∷ [])), ((0 ∷ 2 ∷ 0 ∷ 1 ∷ []), (97 ∷ 98 ∷ []))) ∷  -- two that overlap; a prefix first
    (((0 ∷ 0 ∷ 0 ∷ 1 ∷ []), (97 ∷ [])), ((0 ∷ 1 ∷ 1 ∷ 0 ∷ []), (97 ∷ []))) ∷  -- the empty one first
    (((0 ∷ 1 ∷ []), (97 ∷ [])), ((0 ∷ 4 ∷ []), (97 ∷ []))) ∷  -- one that leaves text counts with what is there
    []

sorted_all : map (λ e. finished (only e.1) []) sorted ≡ map (λ e. only e.0) sorted
unfolding all sorted only
sorted_all = refl

-- b, a, b: a gets 0 and b gets 1. Decimal, String, Entity; an unknown kind is left; Array items bear none; names; a number that is no string's is kept
words_of_values : finished (unsorted 2 ((0 ∷ 1 ∷ 1 ∷ 1 ∷ 0 ∷ 1 ∷ []) ∷ (3 ∷ 0 ∷ 0 ∷ 0 ∷ 4 ∷ 1 ∷ 0 ∷ 0 ∷ 5 ∷ 0 ∷ 1 ∷ 0 ∷ 9 ∷ 0 ∷ 0 ∷ 0 ∷ 1 ∷ 1 ∷ 0 ∷ 0 ∷ []) ∷ (2 ∷ 0 ∷ 4294967295 ∷ 1 ∷ 3 ∷ 2 ∷ []) ∷ [] ∷ [] ∷ [] ∷ []) (98 ∷ 97 ∷ [])) [] ≡ unsorted 2 ((0 ∷ 1 ∷ 1 ∷ 1 ∷ []) ∷ (3 ∷ 1 ∷ 0 ∷ 0 ∷ 4 ∷ 0 ∷ 0 ∷ 0 ∷ 5 ∷ 1 ∷ 0 ∷ 0 ∷ 9 ∷ 0 ∷ 0 ∷ 0 ∷ 1 ∷ 1 ∷ 0 ∷ 0 ∷ []) ∷ (1 ∷ 0 ∷ 4294967295 ∷ 1 ∷ 3 ∷ 2 ∷ []) ∷ [] ∷ [] ∷ [] ∷ []) (97 ∷ 98 ∷ [])
unfolding all
words_of_values = refl

-- of a point action and kind
words_of_points : finished (unsorted 0 ((0 ∷ 1 ∷ 1 ∷ 1 ∷ 0 ∷ 1 ∷ []) ∷ [] ∷ [] ∷ (0 ∷ 0 ∷ 0 ∷ 0 ∷ 0 ∷ 1 ∷ 0 ∷ 0 ∷ 0 ∷ 0 ∷ 0 ∷ 0 ∷ []) ∷ [] ∷ [] ∷ []) (98 ∷ 97 ∷ [])) [] ≡ unsorted 0 ((0 ∷ 1 ∷ 1 ∷ 1 ∷ []) ∷ [] ∷ [] ∷ (0 ∷ 0 ∷ 0 ∷ 0 ∷ 1 ∷ 0 ∷ 0 ∷ 0 ∷ 0 ∷ 0 ∷ 0 ∷ 0 ∷ []) ∷ [] ∷ [] ∷ []) (97 ∷ 98 ∷ [])
unfolding all
words_of_points = refl

-- of a Predicate action and kind, of other nodes nothing
words_of_nodes : finished (unsorted 0 ((0 ∷ 1 ∷ 1 ∷ 1 ∷ 0 ∷ 1 ∷ []) ∷ [] ∷ [] ∷ [] ∷ (7 ∷ 0 ∷ 0 ∷ 0 ∷ 1 ∷ 0 ∷ 0 ∷ 0 ∷ 8 ∷ 0 ∷ 0 ∷ 0 ∷ 0 ∷ 0 ∷ 0 ∷ 0 ∷ []) ∷ [] ∷ []) (98 ∷ 97 ∷ [])) [] ≡ unsorted 0 ((0 ∷ 1 ∷ 1 ∷ 1 ∷ []) ∷ [] ∷ [] ∷ [] ∷ (7 ∷ 0 ∷ 0 ∷ 1 ∷ 0 ∷ 0 ∷ 0 ∷ 0 ∷ 8 ∷ 0 ∷ 0 ∷ 0 ∷ 0 ∷ 0 ∷ 0 ∷ 0 ∷ []) ∷ [] ∷ []) (97 ∷ 98 ∷ [])
unfolding all
words_of_nodes = refl

-- of the lists what is marked, by any mark but 0
words_of_lists : finished (unsorted 0 ((0 ∷ 1 ∷ 1 ∷ 1 ∷ 0 ∷ 1 ∷ []) ∷ [] ∷ [] ∷ [] ∷ [] ∷ (0 ∷ 0 ∷ 0 ∷ 2 ∷ 5 ∷ []) ∷ []) (98 ∷ 97 ∷ [])) (0 ∷ 1 ∷ 255 ∷ 1 ∷ 1 ∷ []) ≡ unsorted 0 ((0 ∷ 1 ∷ 1 ∷ 1 ∷ []) ∷ [] ∷ [] ∷ [] ∷ [] ∷ (0 ∷ 1 ∷ 1 ∷ 1 ∷ 5 ∷ []) ∷ []) (97 ∷ 98 ∷ [])
unfolding all
words_of_lists = refl
