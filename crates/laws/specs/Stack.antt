-- Rows held form a stack: a verdict, term or number leaves as many as it found, a relation its own rows on top
use Rattle.std.specs.Prelude.{◌≡◌, ℤ}
use Rattle.std.proofs.Math.Path.{refl}
use Rattle.std.proofs.Common.{◌∙◌, ap, add-one}
use Rattle.std.proofs.Math.Bool.{Bool, true, false, not}
use mathlib.Core.List.{List, [], ◌∷◌, ◌++◌, map}
use Rattle.std.proofs.Math.Option.{Option, none, some}
use Prim.Native.Nat.{ℕ, zero, suc, ◌+◌, ◌-◌, ◌≤◌}
use native.Mathlib.Omega.{arith}
use Rattle.std.proofs.Math.Nat.{add-zero}
use Rattle.std.proofs.Math.ListN.{length, length-append, length-map}
use Rattle.meaning.specs.declared.Meter.{Meter}
use Rattle.meaning.specs.Walk.{Event, step, add, drop, W, give, visit, adding, dropping, ◌>>=◌, after}
use Rattle.meaning.specs.Walk.{measured}
use Rattle.meaning.specs.Case.{Case}
use Rattle.meaning.specs.declared.Node.{Node}
use Rattle.meaning.specs.declared.Node.TheVariants.{And, Or, Not, Formerly, Previous, Since, Predicate, Comparison, Exists, Tp, Literal, Context, Scope, Variable, Wildcard, Aggregate, Arithmetic, Sum, Count, Broken}
use Rattle.meaning.specs.declared.NodeNo.{NodeNo}
use Rattle.meaning.specs.declared.CmpOp.{CmpOp}
use Rattle.meaning.specs.declared.CmpOp.TheVariants.{Le, Lt, Ge, Gt, Eq, NotEq}
use Rattle.meaning.specs.declared.ArithOp.{ArithOp}
use Rattle.meaning.specs.Below.{made, upto}
use Rattle.meaning.specs.Tests.{◌and◌, choose}
use Rattle.meaning.specs.Equal.{Bound, integer}
use Rattle.meaning.specs.Rows.{Row, without, is_in, add_new, join_all, agreeing, over}
use Rattle.meaning.specs.Meaning.{Meaning, Past, Question, Shape, no_meaning, condition, term, aggregate, predicate, one_row, as_rows, under, unbinding, earlier, if_yes, unless_yes, lending, lent_to, and_verdict, joining, and_rows, or_verdict, or_rows, taking, not_verdict, exists_verdict, exists_rows, if_inside, downward, upward, rising, every, formerly_verdict, formerly_rows, since_verdict, since_rows, keeping, previously, tp_verdict, compare_verdict, bind_rows, eq_rows, compare_rows, if_int, arithmetic, aggregated, relation, meaning_of, meaning}

-- the rows held after a walk that began with h
unfoldable pub height : ℕ → List Event → ℕ
height h [] = h
height h (step ∷ es) = height h es
height h (add ∷ es) = height (suc h) es
height h (drop k ∷ es) = height (h - k) es

pub height-is : (m : Meter) (es : List Event) → (measured m es).held ≡ height m.held es
unfolding measured after height
height-is m [] = refl
height-is m (step ∷ es) = height-is (after m step) es
height-is m (add ∷ es) = height-is (after m add) es ∙ ap (λ (h : ℕ). height h es) (add-one m.held)
height-is m (drop k ∷ es) = height-is (after m (drop k)) es

height-append : (h : ℕ) (s t : List Event) → height h (s ++ t) ≡ height (height h s) t
unfolding height
height-append h [] t = refl
height-append h (step ∷ s) t = height-append h s t
height-append h (add ∷ s) t = height-append (suc h) s t
height-append h (drop k ∷ s) t = height-append (h - k) s t

-- `size` rows in place of `start`, whatever lies below
pub record Bal {A : Type 0} (size : A → ℕ) (start : ℕ) (w : W A) : Type 0 where
  pub keeps : (r : ℕ) → height (start + r) w.walk ≡ size w.answer + r

module _ {A : Type 0} (size : A → ℕ) where
  give_bal : (start : ℕ) (a : A) → size a ≡ start → Bal size start (give a)
  unfolding give height
  give_bal start a e = record { keeps = λ r. omega arith }

  visit_bal : (start : ℕ) (w : W A) → Bal size start w → Bal size start (visit w)
  unfolding visit height
  visit_bal start w b = record { keeps = b.keeps }

  adding_bal : (start : ℕ) (a : A) → size a ≡ suc start → Bal size start (adding a)
  unfolding adding height
  adding_bal start a e = record { keeps = λ r. omega arith }

  dropping_bal : (start k : ℕ) (a : A) → start ≡ k + size a → Bal size start (dropping k a)
  unfolding dropping height
  dropping_bal start k a e = record { keeps = λ r. omega arith }

  -- on top of rows that stay
  frame_bal : (more : ℕ) (w : W A) → Bal size 0 w → Bal (λ a. more + size a) more w
  frame_bal more w b = record { keeps = λ r. frame r }
    where
      frame : (r : ℕ) → height (more + r) w.walk ≡ more + size w.answer + r
      frame r =
          let e : more + r ≡ 0 + (more + r) = omega arith in
          rw e (b.keeps (more + r) ∙ omega arith)

bind_bal : {A B : Type 0} (sA : A → ℕ) (sB : B → ℕ) (start : ℕ) (m : W A) (f : A → W B) → Bal sA start m → ((a : A) → Bal sB (sA a) (f a)) → Bal sB start (m >>= f)
unfolding ◌>>=◌
bind_bal sA sB start m f bm bf = record { keeps = λ r. height-append (start + r) m.walk (f m.answer).walk ∙ rw (bm.keeps r) ((bf m.answer).keeps r) }

-- the same, where what follows goes by the answer that was given
bind_bal_at : {A B : Type 0} (sA : A → ℕ) (sB : B → ℕ) (start : ℕ) (m : W A) (f : A → W B) → Bal sA start m → Bal sB (sA m.answer) (f m.answer) → Bal sB start (m >>= f)
unfolding ◌>>=◌
bind_bal_at sA sB start m f bm bf = record { keeps = λ r. height-append (start + r) m.walk (f m.answer).walk ∙ rw (bm.keeps r) (bf.keeps r) }

abbrev none_of : {A : Type 0} → A → ℕ
none_of a = 0

-- ---- lengths

add_new-length : (c : Case) (out rs : List Row) → length (add_new c out rs) ≤ length out + length rs
unfolding add_new choose
add_new-length c out [] = omega arith
add_new-length c out (r ∷ rs) = go (is_in c r out) (λ now. add_new-length c now rs)
  where
    go : (b : Bool) → ((now : List Row) → length (add_new c now rs) ≤ length now + length rs) → length (add_new c (choose b out (out ++ (r ∷ []))) rs) ≤ length out + suc (length rs)
    go true k = omega (arith, k out)
    go false k = omega (arith, k (out ++ (r ∷ [])), length-append out (r ∷ []))

join_all-length : (c : Case) (l : Row) (rs : List Row) → length (join_all c l rs) ≤ length rs
unfolding join_all
join_all-length c l [] = omega arith
join_all-length c l (r ∷ rs) = go (agreeing c l r) (join_all-length c l rs)
  where
    go : (b : Bool) → length (join_all c l rs) ≤ length rs → length {A = Row} (elim b as (λ b. List Row) [ true ↦ over l r ∷ join_all c l rs | false ↦ join_all c l rs ]) ≤ suc (length rs)
    go true h = omega arith
    go false h = omega arith

-- ---- the constructs

-- every manner of a node leaves what was there, and its rows besides
pub record Steady (m : Meaning) : Type 0 where
  pub verdict : (q : Question) → Bal none_of 0 (m.verdict q)
  pub lend : (q : Question) → Bal none_of 0 (m.lend q)
  pub rows : (q : Question) → Bal length 0 (m.rows q)
  pub value : (q : Question) → Bal none_of 0 (m.value q)
  pub number : (q : Question) → Bal none_of 0 (m.number q)

nothing-given : {A : Type 0} (a : A) → Bal none_of 0 (give a)
nothing-given a = give_bal none_of 0 a refl

condition-steady : (v : Question → W Bool) (r : Question → W (List Row)) → ((q : Question) → Bal none_of 0 (v q)) → ((q : Question) → Bal length 0 (r q)) → Steady (condition v r)
unfolding condition
condition-steady v r bv br = record {
  verdict = λ q. visit_bal none_of 0 (v q) (bv q);
  lend = λ q. bind_bal none_of none_of 0 (visit (v q)) (lending q) (visit_bal none_of 0 (v q) (bv q)) (λ holds. unfold lending in nothing-given _);
  rows = λ q. visit_bal length 0 (r q) (br q);
  value = λ q. nothing-given _;
  number = λ q. visit_bal none_of 0 _ (nothing-given _);
}

term-steady : (s : Shape) (v : Question → W (Option Bound)) → ((q : Question) → Bal none_of 0 (v q)) → Steady (term s v)
unfolding term
term-steady s v bv = record {
  verdict = λ q. visit_bal none_of 0 _ (nothing-given _);
  lend = λ q. visit_bal none_of 0 _ (nothing-given _);
  rows = λ q. visit_bal length 0 _ (give_bal length 0 _ refl);
  value = bv;
  number = λ q. visit_bal none_of 0 _ (nothing-given _);
}

aggregate-steady : (n : Question → W ℤ) → ((q : Question) → Bal none_of 0 (n q)) → Steady (aggregate n)
unfolding aggregate
aggregate-steady n bn = record {
  verdict = λ q. visit_bal none_of 0 _ (nothing-given _);
  lend = λ q. visit_bal none_of 0 _ (nothing-given _);
  rows = λ q. visit_bal length 0 _ (give_bal length 0 _ refl);
  value = λ q. nothing-given _;
  number = λ q. visit_bal none_of 0 (n q) (bn q);
}

one_row_bal : (o : Option Row) → Bal length 0 (one_row o)
unfolding one_row
one_row_bal none = give_bal length 0 [] refl
one_row_bal (some row) = adding_bal length 0 (row ∷ []) refl

predicate-steady : (f : Question → Option Row) → Steady (predicate f)
unfolding predicate
predicate-steady f = record {
  verdict = λ q. visit_bal none_of 0 _ (nothing-given _);
  lend = λ q. visit_bal none_of 0 _ (nothing-given _);
  rows = λ q. visit_bal length 0 _ (one_row_bal (f q));
  value = λ q. nothing-given _;
  number = λ q. visit_bal none_of 0 _ (nothing-given _);
}

as_rows_bal : (v : Question → W Bool) → ((q : Question) → Bal none_of 0 (v q)) → (q : Question) → Bal length 0 (as_rows v q)
unfolding as_rows
as_rows_bal v b q = bind_bal none_of length 0 (visit (v q)) _ (visit_bal none_of 0 (v q) (b q)) (λ yes. one_row_bal _)

if_yes_bal : (w : W Bool) → Bal none_of 0 w → (b : Bool) → Bal none_of 0 (if_yes w b)
unfolding if_yes
if_yes_bal w h true = h
if_yes_bal w h false = nothing-given _

unless_yes_bal : (w : W Bool) → Bal none_of 0 w → (b : Bool) → Bal none_of 0 (unless_yes w b)
unfolding unless_yes
unless_yes_bal w h true = nothing-given _
unless_yes_bal w h false = h

if_inside_bal : {A : Type 0} (size : A → ℕ) (start : ℕ) (b : Bool) (a : A) (w : W A) → size a ≡ start → Bal size start w → Bal size start (if_inside b a w)
unfolding if_inside
if_inside_bal size start true a w e h = h
if_inside_bal size start false a w e h = give_bal size start a e

module _ (left right : Meaning) (sl : Steady left) (sr : Steady right) where
  and_verdict_bal : (q : Question) → Bal none_of 0 (and_verdict left right q)
  unfolding and_verdict lent_to
  and_verdict_bal q = bind_bal none_of none_of 0 (left.lend q) (lent_to right q) (sl.lend q) (elim [ none ↦ nothing-given _ | some row ↦ sr.verdict (under q row) ])

  or_verdict_bal : (q : Question) → Bal none_of 0 (or_verdict left right q)
  unfolding or_verdict
  or_verdict_bal q = bind_bal none_of none_of 0 (left.verdict q) _ (sl.verdict q) (unless_yes_bal _ (sr.verdict q))

  or_rows_bal : (c : Case) (q : Question) → Bal length 0 (or_rows c left right q)
  unfolding or_rows taking
  or_rows_bal c q =
      bind_bal length length 0 (left.rows q) _ (sl.rows q) λ ls.
      bind_bal (λ rs. length ls + length rs) length (length ls) (right.rows q) _
      (frame_bal length (length ls) (right.rows q) (sr.rows q)) λ rs.
      dropping_bal length _ _ (add_new c ls rs) (omega (arith, add_new-length c ls rs))

  joining_bal : (c : Case) (q : Question) (kept : ℕ) (ls out : List Row) → Bal (λ o. kept + length o) (kept + length out) (joining c (λ l. right.rows (under q l)) ls out)
  unfolding joining taking
  joining_bal c q kept [] out = give_bal (λ o. kept + length o) _ out refl
  joining_bal c q kept (l ∷ ls) out =
      bind_bal (λ rs. kept + length out + length rs) (λ o. kept + length o) _ (right.rows (under q l)) _
      (frame_bal length (kept + length out) _ (sr.rows (under q l))) λ rs.
      bind_bal (λ o. kept + length o) (λ o. kept + length o) _ _ _
      (dropping_bal (λ o. kept + length o) _ _ _ (omega (arith, join_all-length c l rs, length-append out (join_all c l rs)))) λ more.
      joining_bal c q kept ls more

  and_rows_bal : (c : Case) (q : Question) → Bal length 0 (and_rows c left right q)
  unfolding and_rows
  and_rows_bal c q =
      bind_bal length length 0 (left.rows q) _ (sl.rows q) λ ls.
      bind_bal (λ o. length ls + length o) length (length ls) _ _ (start ls) λ out.
      dropping_bal length _ _ out refl
    where
      start : (ls : List Row) → Bal (λ o. length ls + length o) (length ls) (joining c (λ l. right.rows (under q l)) ls [])
      start ls = rw add-zero at (joining_bal c q (length ls) ls [])

  compare_verdict_bal : (c : Case) (op : CmpOp) (q : Question) → Bal none_of 0 (compare_verdict c op left right q)
  unfolding compare_verdict
  compare_verdict_bal c op q =
      bind_bal none_of none_of 0 (left.value q) _ (sl.value q) λ a.
      bind_bal none_of none_of 0 (right.value q) _ (sr.value q) λ b. nothing-given _

  bind_rows_bal : (c : Case) (q : Question) (x : ℕ) (side : Meaning) → Steady side → Bal length 0 (bind_rows (as_rows (compare_verdict c Eq left right)) x side q)
  unfolding bind_rows
  bind_rows_bal c q x side ss =
      bind_bal none_of length 0 (side.value q) _ (ss.value q)
      (elim [ none ↦ as_rows_bal _ (compare_verdict_bal c Eq) q | some b ↦ one_row_bal _ ])

  eq_rows_bal : (c : Case) (q : Question) (x y : Option ℕ) → Bal length 0 (eq_rows (as_rows (compare_verdict c Eq left right)) left right q x y)
  unfolding eq_rows
  eq_rows_bal c q none none = as_rows_bal _ (compare_verdict_bal c Eq) q
  eq_rows_bal c q (some x) none = bind_rows_bal c q x right sr
  eq_rows_bal c q none (some y) = bind_rows_bal c q y left sl
  eq_rows_bal c q (some x) (some y) = as_rows_bal _ (compare_verdict_bal c Eq) q

  compare_rows_bal : (c : Case) (op : CmpOp) (q : Question) → Bal length 0 (compare_rows c op left right q)
  unfolding compare_rows
  compare_rows_bal c Eq q = eq_rows_bal c q _ _
  compare_rows_bal c Le q = as_rows_bal _ (compare_verdict_bal c Le) q
  compare_rows_bal c Lt q = as_rows_bal _ (compare_verdict_bal c Lt) q
  compare_rows_bal c Ge q = as_rows_bal _ (compare_verdict_bal c Ge) q
  compare_rows_bal c Gt q = as_rows_bal _ (compare_verdict_bal c Gt) q
  compare_rows_bal c NotEq q = as_rows_bal _ (compare_verdict_bal c NotEq) q

  if_int_bal : (v : Option Bound) (next : ℤ → W (Option Bound)) → ((z : ℤ) → Bal none_of 0 (next z)) → Bal none_of 0 (if_int v next)
  unfolding if_int
  if_int_bal none next b = nothing-given _
  if_int_bal (some v) next b = go (integer v)
    where
      go : (o : Option ℤ) → Bal {A = Option Bound} none_of 0 (elim o as (λ o. W (Option Bound)) [ none ↦ give none | some z ↦ next z ])
      go none = nothing-given _
      go (some z) = b z

  arithmetic_bal : (op : ArithOp) (q : Question) → Bal none_of 0 (arithmetic op left right q)
  unfolding arithmetic
  arithmetic_bal op q =
      bind_bal none_of none_of 0 (left.value q) _ (sl.value q) λ v. if_int_bal v _ λ a.
      bind_bal none_of none_of 0 (right.value q) _ (sr.value q) λ w. if_int_bal w _ λ b. nothing-given _

  every_bal : (ask : Past → W Bool) → ((p : Past) → Bal none_of 0 (ask p)) → (ps : List Past) → Bal none_of 0 (every ask ps)
  unfolding every
  every_bal ask b [] = nothing-given _
  every_bal ask b (p ∷ ps) = bind_bal none_of none_of 0 (ask p) (if_yes (every ask ps)) (b p) (if_yes_bal _ (every_bal ask b ps))

  downward_bal : (within : Past → Bool) (ask : Past → List Past → W Bool) → ((p : Past) (s : List Past) → Bal none_of 0 (ask p s)) → (since : List Past) (past : Past) → Bal none_of 0 (downward within ask since past)
  unfolding downward
  downward_bal within ask b since [] = nothing-given _
  downward_bal within ask b since (p ∷ ps) =
      bind_bal none_of none_of 0 (if_inside (within (p ∷ ps)) false (ask (p ∷ ps) since)) (unless_yes (downward within ask ((p ∷ ps) ∷ since) ps))
      (if_inside_bal none_of 0 _ _ _ refl (b (p ∷ ps) since)) (unless_yes_bal _ (downward_bal within ask b ((p ∷ ps) ∷ since) ps))

  upward_bal : (within : Past → Bool) (ask : Past → List Past → List Row → W (List Row)) → ((p : Past) (s : List Past) (out : List Row) → Bal length (length out) (ask p s out)) → (pasts : List Past) (out : List Row) → Bal length (length out) (upward within ask pasts out)
  unfolding upward
  upward_bal within ask b [] out = give_bal length _ out refl
  upward_bal within ask b (past ∷ since) out =
      bind_bal length length _ (if_inside (within past) out (ask past since out)) _
      (if_inside_bal length _ _ _ _ refl (b past since out)) λ more. upward_bal within ask b since more

  since_verdict_bal : (span : ℤ) (q : Question) → Bal none_of 0 (since_verdict span left right q)
  unfolding since_verdict
  since_verdict_bal span q =
      downward_bal _ _ (λ past since. bind_bal none_of none_of 0 (right.verdict (earlier q past)) _ (sr.verdict (earlier q past))
      (if_yes_bal _ (every_bal _ (λ later. sl.verdict (earlier q later)) since))) [] q.past

  keeping_bal : (c : Case) (holds : Row → W Bool) → ((r : Row) → Bal none_of 0 (holds r)) → (rs out : List Row) → Bal none_of 0 (keeping c holds rs out)
  unfolding keeping
  keeping_bal c holds b [] out = nothing-given _
  keeping_bal c holds b (r ∷ rs) out = bind_bal none_of none_of 0 (holds r) _ (b r) λ yes. keeping_bal c holds b rs _

  keeping-length : (c : Case) (holds : Row → W Bool) (rs out : List Row) → length (keeping c holds rs out).answer ≤ length out + length rs
  unfolding keeping ◌>>=◌ give choose
  keeping-length c holds [] out = omega arith
  keeping-length c holds (r ∷ rs) out = go ((holds r).answer and not (is_in c r out)) (λ now. keeping-length c holds rs now)
    where
      go : (b : Bool) → ((now : List Row) → length (keeping c holds rs now).answer ≤ length now + length rs) → length (keeping c holds rs (choose b (out ++ (r ∷ [])) out)).answer ≤ length out + suc (length rs)
      go true k = omega (arith, k (out ++ (r ∷ [])), length-append out (r ∷ []))
      go false k = omega (arith, k out)

  since_rows_bal : (c : Case) (span : ℤ) (q : Question) → Bal length 0 (since_rows c span left right q)
  unfolding since_rows taking
  since_rows_bal c span q =
      upward_bal _ _ (λ past since out.
      bind_bal (λ rs. length out + length rs) length (length out) (right.rows (earlier q past)) _
      (frame_bal length (length out) _ (sr.rows (earlier q past))) λ anchors. tested since out anchors) (rising q.past) []
    where
      holds : List Past → Row → W Bool
      holds since r = every (λ later. left.verdict (under (earlier q later) r)) since

      tested : (since : List Past) (out anchors : List Row) → Bal length (length out + length anchors) (keeping c (holds since) anchors out >>= λ kept. dropping (length out + length anchors - length kept) kept)
      tested since out anchors =
          bind_bal_at (λ kept. length out + length anchors) length _ _ _
          (rw add-zero at (frame_bal none_of (length out + length anchors) _ (keeping_bal c (holds since) (λ r. every_bal _ (λ later. sl.verdict _) since) anchors out)))
          (dropping_bal length _ _ _ (omega (arith, keeping-length c (holds since) anchors out)))

module _ (body : Meaning) (sb : Steady body) where
  not_verdict_bal : (q : Question) → Bal none_of 0 (not_verdict body q)
  unfolding not_verdict
  not_verdict_bal q = bind_bal none_of none_of 0 (body.verdict q) _ (sb.verdict q) λ yes. nothing-given _

  exists_verdict_bal : (x : ℕ) (q : Question) → Bal none_of 0 (exists_verdict x body q)
  unfolding exists_verdict
  exists_verdict_bal x q =
      bind_bal length none_of 0 (body.rows (unbinding q (x ∷ []))) _ (sb.rows _) λ rs. dropping_bal none_of _ _ _ (omega arith)

  exists_rows_bal : (c : Case) (x : ℕ) (q : Question) → Bal length 0 (exists_rows c x body q)
  unfolding exists_rows taking
  exists_rows_bal c x q =
      bind_bal length length 0 (body.rows (unbinding q (x ∷ []))) _ (sb.rows _) λ rs.
      dropping_bal length _ _ _ (omega (arith, add_new-length c [] (map (λ r. without r x) rs), length-map rs (λ r. without r x)))

  formerly_verdict_bal : (span : ℤ) (q : Question) → Bal none_of 0 (formerly_verdict span body q)
  unfolding formerly_verdict
  formerly_verdict_bal span q = downward_bal body body sb sb _ _ (λ past since. sb.verdict (earlier q past)) [] q.past

  formerly_rows_bal : (span : ℤ) (q : Question) → Bal length 0 (formerly_rows span body q)
  unfolding formerly_rows
  formerly_rows_bal span q =
      upward_bal body body sb sb _ _ (λ past since out.
      bind_bal (λ rs. length out + length rs) length (length out) (body.rows (earlier q past)) _
      (frame_bal length (length out) _ (sb.rows (earlier q past))) λ rs. give_bal length _ _ (length-append out rs)) (rising q.past) []

  relation_bal : (c : Case) (binders : List ℕ) (measure : List Row → ℤ) (q : Question) → Bal none_of 0 (relation c binders body measure q)
  unfolding relation
  relation_bal c binders measure q =
      bind_bal length none_of 0 (body.rows (unbinding q binders)) _ (sb.rows _) λ rs. dropping_bal none_of _ _ _ (omega arith)

  aggregated_bal : (q : Question) → Bal none_of 0 (aggregated body q)
  unfolding aggregated
  aggregated_bal q = bind_bal none_of none_of 0 (body.number q) _ (sb.number q) λ z. nothing-given _

previously_bal : {A : Type 0} (size : A → ℕ) (span : ℤ) (a : A) (ask : Question → W A) → size a ≡ 0 → ((q : Question) → Bal size 0 (ask q)) → (q : Question) → Bal size 0 (previously span a ask q)
unfolding previously
previously_bal size span a ask e b q = if_inside_bal size 0 _ a _ e (b _)

meaning_of-steady : (c : Case) (of : NodeNo → Meaning) → ((j : NodeNo) → Steady (of j)) → (n : Node) → Steady (meaning_of c of n)
unfolding meaning_of
meaning_of-steady c of s (And l r) = condition-steady _ _ (and_verdict_bal (of l) (of r) (s l) (s r)) (and_rows_bal (of l) (of r) (s l) (s r) c)
meaning_of-steady c of s (Or l r) = condition-steady _ _ (or_verdict_bal (of l) (of r) (s l) (s r)) (or_rows_bal (of l) (of r) (s l) (s r) c)
meaning_of-steady c of s (Not n) = condition-steady _ _ (not_verdict_bal (of n) (s n)) (as_rows_bal _ (not_verdict_bal (of n) (s n)))
meaning_of-steady c of s (Formerly within n) = condition-steady _ _ (formerly_verdict_bal (of n) (s n) _) (formerly_rows_bal (of n) (s n) _)
meaning_of-steady c of s (Previous within n) = condition-steady _ _ (previously_bal none_of _ false _ refl (s n).verdict) (previously_bal length _ [] _ refl (s n).rows)
meaning_of-steady c of s (Since l r within) = condition-steady _ _ (since_verdict_bal (of l) (of r) (s l) (s r) _) (since_rows_bal (of l) (of r) (s l) (s r) c _)
meaning_of-steady c of s (Predicate namespace action kind args) = predicate-steady _
meaning_of-steady c of s (Comparison op l r) = condition-steady _ _ (compare_verdict_bal (of l) (of r) (s l) (s r) c op) (compare_rows_bal (of l) (of r) (s l) (s r) c op)
meaning_of-steady c of s (Exists x n) = condition-steady _ _ (exists_verdict_bal (of n) (s n) x) (exists_rows_bal (of n) (s n) c x)
meaning_of-steady c of s (Tp x) = condition-steady _ _ (λ q. unfold tp_verdict in nothing-given _) (λ q. one_row_bal _)
meaning_of-steady c of s (Literal v) = term-steady _ _ (λ q. nothing-given _)
meaning_of-steady c of s (Context path) = term-steady _ _ (λ q. nothing-given _)
meaning_of-steady c of s (Scope root path) = term-steady _ _ (λ q. nothing-given _)
meaning_of-steady c of s (Variable x) = term-steady _ _ (λ q. nothing-given _)
meaning_of-steady c of s Wildcard = term-steady _ _ (λ q. nothing-given _)
meaning_of-steady c of s (Aggregate n) = term-steady _ _ (aggregated_bal (of n) (s n))
meaning_of-steady c of s (Arithmetic op l r) = term-steady _ _ (arithmetic_bal (of l) (of r) (s l) (s r) op)
meaning_of-steady c of s (Sum x binders n) = aggregate-steady _ (relation_bal (of n) (s n) c _ _)
meaning_of-steady c of s (Count binders n) = aggregate-steady _ (relation_bal (of n) (s n) c _ _)
meaning_of-steady c of s Broken = term-steady _ _ (λ q. nothing-given _)

-- of every node, in any case at all
pub steady : (c : Case) (k : ℕ) → Steady (meaning c k)
unfolding meaning made upto no_meaning
steady c k = go (suc k) k
  where
    go : (bound n : ℕ) → Steady (upto no_meaning (λ of k. meaning_of c (λ n. of n.0) (c.node k)) bound n)
    go zero n = term-steady _ _ (λ q. nothing-given _)
    go (suc bound) n = meaning_of-steady c _ (λ j. go bound j.0) (c.node n)
