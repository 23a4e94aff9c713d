-- Tables written one after another are their continuation written at once
use Rattle.std.specs.Prelude.{◌≡◌, refl, List, [], ◌∷◌, ◌++◌, map, ℕ, ◌+◌, ◌*◌, length}
use Rattle.std.proofs.Common.{sym, ap, ◌∙◌, append_assoc, arith, length-append}
use Rattle.std.proofs.lemmas.List.{length-map}
use Rattle.encode.specs.Words.{packed}
use Rattle.encode.specs.Encode.{flat, placed}
use Rattle.encode.proofs.Laws.Words.{packed-long, packed-append}
use Rattle.encode.proofs.Laws.Encode.{placed-long}
use Rattle.jsonroom.specs.declared.Next.{Next}
use Rattle.jsontrace.specs.Trace.{Tables, ◌⊕◌, past}
use Rattle.jsontrace.proofs.Laws.Trace.{Shaped, long-flat}
use Rattle.jsonview.specs.Cells.{write, write_then}
use Rattle.jsonview.specs.Room.{Room, filled, beyond, numbers, Fit}

-- ---- how long what is written is

pub strings-long : (at : ℕ) (ts : List (List ℕ)) → length (packed (placed at ts)) ≡ 8 * length ts
strings-long at ts = omega (arith, packed-long (placed at ts), placed-long at ts)

pub lists-long : (ws : List (ℕ × ℕ)) → length (packed (map (λ w. w.0) ws)) ≡ 4 * length ws
lists-long ws = omega (arith, packed-long (map (λ w. w.0) ws), length-map ws (λ (w : ℕ × ℕ). w.0))

module _ {t : Tables} (s : Shaped t) where
  pub values-long : length (packed (flat t.values)) ≡ 16 * length t.values
  values-long = omega (arith, packed-long (flat t.values), long-flat 4 t.values s.values)

  pub members-long : length (packed (flat t.members)) ≡ 8 * length t.members
  members-long = omega (arith, packed-long (flat t.members), long-flat 2 t.members s.members)

  pub points-long : length (packed (flat t.points)) ≡ 48 * length t.points
  points-long = omega (arith, packed-long (flat t.points), long-flat 12 t.points s.points)

-- ---- one after another

pub flat_append : (xs ys : List (List ℕ)) → flat (xs ++ ys) ≡ flat xs ++ flat ys
unfolding flat
flat_append [] ys = refl
flat_append (x ∷ xs) ys = ap (λ (l : List ℕ). x ++ l) (flat_append xs ys) ∙ sym (append_assoc x (flat xs) (flat ys))

placed-append : (at : ℕ) (xs ys : List (List ℕ)) → placed at (xs ++ ys) ≡ placed at xs ++ placed (at + length (flat xs)) ys
unfolding placed flat
placed-append at [] ys = let z : at ≡ at + 0 = omega arith in ap (λ (n : ℕ). placed n ys) z
placed-append at (x ∷ xs) ys =
    ap (λ (l : List ℕ). at ∷ length x ∷ l) (placed-append (at + length x) xs ys ∙ ap (λ (n : ℕ). placed (at + length x) xs ++ placed n ys) more)
  where
    more : at + length x + length (flat xs) ≡ at + length (x ++ flat xs)
    more = omega (arith, length-append x (flat xs))

pub map-append : {A B : Type 0} (f : A → B) (xs ys : List A) → map f (xs ++ ys) ≡ map f xs ++ map f ys
map-append f [] ys = refl
map-append f (x ∷ xs) ys = ap (λ (l : List _). f x ∷ l) (map-append f xs ys)

pub numbers-beyond : (n : Next) (t : Tables) → numbers (beyond n t) ≡ past (numbers n) t
unfolding numbers beyond past
numbers-beyond n t = refl

pub beyond-beyond : (n : Next) (t u : Tables) → beyond (beyond n t) u ≡ beyond n (t ⊕ u)
unfolding beyond ◌⊕◌
beyond-beyond n t u =
    same
    (omega (arith, length-append t.texts u.texts))
    (omega (arith, ap length (flat_append t.texts u.texts), length-append (flat t.texts) (flat u.texts)))
    (omega (arith, length-append t.values u.values))
    (omega (arith, length-append t.members u.members))
    (omega (arith, length-append t.lists u.lists))
    (omega (arith, length-append t.points u.points))
  where
    same : {a b c d e f a' b' c' d' e' f' : ℕ} → a ≡ a' → b ≡ b' → c ≡ c' → d ≡ d' → e ≡ e' → f ≡ f' → ◌≡◌ {A = Next} (record { string = a; byte = b; value = c; member = d; list = e; point = f }) (record { string = a'; byte = b'; value = c'; member = d'; list = e'; point = f' })
    same p q r s t u = cc

pub filled-then : (r : Room) (n : Next) (t u : Tables) → Shaped t → Shaped u → Fit r n (t ⊕ u) → filled (beyond n t) u (filled n t r) ≡ filled n (t ⊕ u) r
unfolding filled beyond ◌⊕◌
filled-then r n t u s v f =
    same
    (write_then r.strings (8 * n.string) _ (packed (placed n.byte t.texts)) (packed (placed (n.byte + length (flat t.texts)) u.texts))
    (omega (arith, f.strings, strings-long n.byte t.texts, strings-long (n.byte + length (flat t.texts)) u.texts, length-append t.texts u.texts))
    (omega (arith, strings-long n.byte t.texts))
    ∙ ap (λ (l : List ℕ). write r.strings (8 * n.string) l) (sym (ap packed (placed-append n.byte t.texts u.texts) ∙ packed-append (placed n.byte t.texts) (placed (n.byte + length (flat t.texts)) u.texts))))
    (write_then r.values (16 * n.value) _ (packed (flat t.values)) (packed (flat u.values))
    (omega (arith, f.values, values-long s, values-long v, length-append t.values u.values))
    (omega (arith, values-long s))
    ∙ ap (λ (l : List ℕ). write r.values (16 * n.value) l) (rows t.values u.values))
    (write_then r.members (8 * n.member) _ (packed (flat t.members)) (packed (flat u.members))
    (omega (arith, f.members, members-long s, members-long v, length-append t.members u.members))
    (omega (arith, members-long s))
    ∙ ap (λ (l : List ℕ). write r.members (8 * n.member) l) (rows t.members u.members))
    (write_then r.points (48 * n.point) _ (packed (flat t.points)) (packed (flat u.points))
    (omega (arith, f.points, points-long s, points-long v, length-append t.points u.points))
    (omega (arith, points-long s))
    ∙ ap (λ (l : List ℕ). write r.points (48 * n.point) l) (rows t.points u.points))
    (write_then r.lists (4 * n.list) _ (packed (map (λ w. w.0) t.lists)) (packed (map (λ w. w.0) u.lists))
    (omega (arith, f.lists, lists-long t.lists, lists-long u.lists, length-append t.lists u.lists))
    (omega (arith, lists-long t.lists))
    ∙ ap (λ (l : List ℕ). write r.lists (4 * n.list) l) (sym (ap packed (map-append (λ (w : ℕ × ℕ). w.0) t.lists u.lists) ∙ packed-append (map (λ w. w.0) t.lists) (map (λ w. w.0) u.lists))))
    (write_then r.text n.byte _ (flat t.texts) (flat u.texts)
    (omega (arith, f.text, ap length (flat_append t.texts u.texts), length-append (flat t.texts) (flat u.texts)))
    refl
    ∙ ap (λ (l : List ℕ). write r.text n.byte l) (sym (flat_append t.texts u.texts)))
  where
    same : {a b c d e f a' b' c' d' e' f' : List ℕ} → a ≡ a' → b ≡ b' → c ≡ c' → d ≡ d' → e ≡ e' → f ≡ f' → ◌≡◌ {A = Room} (record { strings = a; values = b; members = c; points = d; lists = e; text = f }) (record { strings = a'; values = b'; members = c'; points = d'; lists = e'; text = f' })
    same p q r s t u = cc

    rows : (xs ys : List (List ℕ)) → packed (flat xs) ++ packed (flat ys) ≡ packed (flat (xs ++ ys))
    rows xs ys = sym (ap packed (flat_append xs ys) ∙ packed-append (flat xs) (flat ys))
