-- A value adds no list words, and its tables do not go by how many stand before
use Rattle.std.specs.Prelude.{◌≡◌, refl, List, [], ◌∷◌, ◌++◌, ℕ, ◌+◌, ◌-◌, length}
use Rattle.std.proofs.Common.{ap, ap₂}
use Rattle.std.proofs.Math.Option.{Option, none, some}
use Rattle.jsontext.specs.Values.{J, Null, Truth, Int, Text, EntityOf, Decimal, Array, Object, Parts, end, part}
use Rattle.jsontrace.specs.Trace.{Tables, empty, ◌⊕◌, texts, value, members, Next, past, last_value, many, holding, after_run, value_adds, items_add, members_add, maybe_adds}

-- ---- no list words

pub no-lists-then : (t u : Tables) → t.lists ≡ [] → u.lists ≡ [] → (t ⊕ u).lists ≡ []
unfolding ◌⊕◌
no-lists-then t u p q = ap₂ (λ (x y : List (ℕ × ℕ)). x ++ y) p q

no-lists-holding : (kind : ℕ) (n : Next) (count : ℕ) (r : List (List ℕ) × Tables) → r.1.lists ≡ [] → (holding kind n count r).lists ≡ []
unfolding holding members value ◌⊕◌
no-lists-holding kind n count r e = ap (λ (x : List (ℕ × ℕ)). x ++ []) e

mutual
  unfolding value_adds value texts empty ◌⊕◌

  pub no-lists : (j : J) (n : Next) → (value_adds j n).lists ≡ []
  no-lists Null n = refl
  no-lists (Truth b) n = refl
  no-lists (Int z) n = refl
  no-lists (Decimal t) n = refl
  no-lists (Text t) n = refl
  no-lists (EntityOf t i) n = refl
  no-lists (Array ps) n = no-lists-holding 6 n (many ps) _ (no-lists-items ps (after_run n (many ps)))
  no-lists (Object ps) n = no-lists-holding 7 n (many ps) _ (no-lists-parts ps (after_run n (many ps)))

  no-lists-items : (ps : Parts) (n : Next) → (items_add ps n).1.lists ≡ []
  no-lists-items end n = refl
  no-lists-items (part m j ps) n = no-lists-then (value_adds j n) (items_add ps (past n (value_adds j n))).1 (no-lists j n) (no-lists-items ps (past n (value_adds j n)))

  no-lists-parts : (ps : Parts) (n : Next) → (members_add ps n).1.lists ≡ []
  no-lists-parts end n = refl
  no-lists-parts (part m j ps) n =
      let next = past n (texts (m ∷ [])) in
      no-lists-then (value_adds j next) (members_add ps (past next (value_adds j next))).1 (no-lists j next) (no-lists-parts ps (past next (value_adds j next)))

pub no-lists-maybe : (o : Option J) (n : Next) → (maybe_adds o n).lists ≡ []
unfolding maybe_adds empty
no-lists-maybe none n = refl
no-lists-maybe (some j) n = no-lists j n

-- ---- the number of list words before is not asked

-- the same numbers, but for list words
pub record ButLists (n m : Next) : Type 0 where
  pub string : n.string ≡ m.string
  pub value : n.value ≡ m.value
  pub member : n.member ≡ m.member

past_but : {n m : Next} {t u : Tables} → ButLists n m → t ≡ u → ButLists (past n t) (past m u)
unfolding past
past_but {n} {m} {t} {u} b e = record {
  string = ap₂ (λ (x : ℕ) (v : Tables). x + length v.texts) b.string e;
  value = ap₂ (λ (x : ℕ) (v : Tables). x + length v.values) b.value e;
  member = ap₂ (λ (x : ℕ) (v : Tables). x + length v.members) b.member e;
}

run_but : {n m : Next} (count : ℕ) → ButLists n m → ButLists (after_run n count) (after_run m count)
unfolding after_run
run_but count b = record { string = b.string; value = b.value; member = ap (λ (x : ℕ). x + count) b.member }

last_but : {n m : Next} {t u : Tables} → ButLists n m → t ≡ u → last_value n t ≡ last_value m u
unfolding last_value
last_but {n} {m} {t} {u} b e = ap₂ (λ (x : ℕ) (v : Tables). x + length v.values - 1) b.value e

holding_but : {n m : Next} (kind count : ℕ) {r q : List (List ℕ) × Tables} → ButLists n m → r ≡ q → holding kind n count r ≡ holding kind m count q
unfolding holding
holding_but kind count {r} {q} b e = ap₂ (λ (x : ℕ) (s : List (List ℕ) × Tables). members s.0 ⊕ s.1 ⊕ value kind x count) b.member e

one-row : {a a' c c' : ℕ} {rs rs' : List (List ℕ)} {t t' u u' : Tables} → a ≡ a' → c ≡ c' → rs ≡ rs' → t ≡ t' → u ≡ u' → ◌≡◌ {A = List (List ℕ) × Tables} ((a ∷ c ∷ []) ∷ rs, t ⊕ u) ((a' ∷ c' ∷ []) ∷ rs', t' ⊕ u')
one-row p q r s t = cc

mutual
  unfolding value_adds

  pub adds_but : (j : J) {n m : Next} → ButLists n m → value_adds j n ≡ value_adds j m
  adds_but Null b = refl
  adds_but (Truth x) b = refl
  adds_but (Int z) b = refl
  adds_but (Decimal t) b = ap (λ (x : ℕ). texts (t ∷ []) ⊕ value 3 x 0) b.string
  adds_but (Text t) b = ap (λ (x : ℕ). texts (t ∷ []) ⊕ value 4 x 0) b.string
  adds_but (EntityOf t i) b = ap (λ (x : ℕ). texts (t ∷ i ∷ []) ⊕ value 5 x (x + 1)) b.string
  adds_but (Array ps) b = holding_but 6 (many ps) b (items_but ps (run_but (many ps) b))
  adds_but (Object ps) b = holding_but 7 (many ps) b (parts_but ps (run_but (many ps) b))

  items_but : (ps : Parts) {n m : Next} → ButLists n m → items_add ps n ≡ items_add ps m
  items_but end b = refl
  items_but (part k j ps) b =
      let t = adds_but j b in
      let more = items_but ps (past_but b t) in
      one-row refl (last_but b t) (ap (λ r. r.0) more) t (ap (λ r. r.1) more)

  parts_but : (ps : Parts) {n m : Next} → ButLists n m → members_add ps n ≡ members_add ps m
  parts_but end b = refl
  parts_but (part k j ps) b =
      let c = past_but {t = texts (k ∷ [])} b refl in
      let t = adds_but j c in
      let more = parts_but ps (past_but c t) in
      one-row b.string (last_but b t) (ap (λ r. r.0) more) refl (ap₂ (λ (x y : Tables). x ⊕ y) t (ap (λ r. r.1) more))
