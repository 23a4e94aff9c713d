-- Counts added one after another
use mathlib.Core.Path.{◌≡◌}
use Prim.Native.Nat.{ℕ, suc}
use native.Mathlib.Omega.{arith}
use Rattle.jsontrace.specs.Count.{Count, nothing, ◌⊞◌, list_words}
use Rattle.jsoncount.specs.declared.tallies.Tally.{Tally}
use Rattle.jsoncount.specs.Tally.{Adds}

made : (a b c d e f a' b' c' d' e' f' : ℕ) → a ≡ a' → b ≡ b' → c ≡ c' → d ≡ d' → e ≡ e' → f ≡ f' → ◌≡◌ {A = Count} (record { strings = a; bytes = b; values = c; members = d; points = e; lists = f }) (record { strings = a'; bytes = b'; values = c'; members = d'; points = e'; lists = f' })
made a b c d e f a' b' c' d' e' f' p q r s t u = rw (p, q, r, s, t, u)

pub sum_assoc : (a b c : Count) → (a ⊞ b) ⊞ c ≡ a ⊞ b ⊞ c
unfolding ◌⊞◌
sum_assoc a b c = made _ _ _ _ _ _ _ _ _ _ _ _ (omega arith) (omega arith) (omega arith) (omega arith) (omega arith) (omega arith)

pub sum_comm : (a b : Count) → a ⊞ b ≡ b ⊞ a
unfolding ◌⊞◌
sum_comm a b = made _ _ _ _ _ _ _ _ _ _ _ _ (omega arith) (omega arith) (omega arith) (omega arith) (omega arith) (omega arith)

pub sum-none : (a : Count) → a ⊞ nothing ≡ a
unfolding ◌⊞◌ nothing
sum-none a = made _ _ _ _ _ _ _ _ _ _ _ _ (omega arith) (omega arith) (omega arith) (omega arith) (omega arith) (omega arith)

pub adds_then : {t u v : Tally} {c d : Count} → Adds t c u → Adds u d v → Adds t (c ⊞ d) v
adds_then {c = c} {d = d} p q = record { shows = λ x h. rw (sum_assoc x c d) at (q.shows (x ⊞ c) (p.shows x h)) }

pub adds_none : (t : Tally) → Adds t nothing t
adds_none t = record { shows = λ c h. rw (sum-none c) h }

pub sum-swap : (a b c d : Count) → (a ⊞ b) ⊞ c ⊞ d ≡ (a ⊞ c) ⊞ b ⊞ d
unfolding ◌⊞◌
sum-swap a b c d = made _ _ _ _ _ _ _ _ _ _ _ _ (omega arith) (omega arith) (omega arith) (omega arith) (omega arith) (omega arith)

pub adds-as : {t u : Tally} {c d : Count} → c ≡ d → Adds t c u → Adds t d u
adds-as e p = rw e at p

pub words_more : (n : ℕ) → list_words 1 ⊞ list_words n ≡ list_words (suc n)
unfolding ◌⊞◌ list_words
words_more n = made _ _ _ _ _ _ _ _ _ _ _ _ (omega arith) (omega arith) (omega arith) (omega arith) (omega arith) (omega arith)
