-- What the writer finds in a trace: the text of each string, all of it in text; strings that pass its 3; and no node
use Rattle.std.specs.Prelude.{◌≡◌, leb, drop}
use Rattle.std.proofs.Math.Path.{refl, sym, ap, ap₂}
use Rattle.std.proofs.Common.{◌∙◌, add-one, take_all, le-leb, eq-eqb}
use Rattle.std.proofs.Math.Bool.{true}
use mathlib.Core.List.{List, [], ◌∷◌}
use Prim.Native.Nat.{ℕ, zero, suc, ◌+◌, ◌*◌, ◌<◌, ◌≤◌}
use native.Mathlib.Omega.{arith}
use Rattle.std.proofs.Math.ListN.{length, get_or, take}
use Rattle.meaning.specs.Tests.{◌and◌, all_below, rises}
use Rattle.meaning.specs.Text.{before}
use Rattle.meaning.specs.Case.{words, contents, size, body, body_word, string_word, text, strings, nodes}
use Rattle.meaning.specs.Check.{node_rules, end_before, place_rule, end_to_end, utf8_rule, order_rule, string_rules}
use Rattle.laws.specs.Tests.{pass}
use Rattle.laws.specs.Lists.{Every}
use Rattle.encode.specs.Words.{packed}
use Rattle.encode.specs.Encode.{flat, placed, encoded}
use Rattle.encode.specs.Join.{joined}
use Rattle.encode.specs.Unsorted.{in_text, texts, parts, tables, finished}
use Rattle.encode.specs.Write.{node_marks}
use Rattle.encode.proofs.Laws.Words.{words-packed, packed-long}
use Rattle.encode.proofs.Laws.Encode.{all_true, placed-long, placed-start, placed-size, flat-at, step-long, flat-most, encoded-size, encoded-body}
use Rattle.encode.proofs.Laws.Join.{Rising, every-at, insert_every, joined-rises}
use Rattle.encode.proofs.Laws.Unsorted.{kept, seven}
use Rattle.jsontext.specs.Events.{Event}
use Rattle.jsontrace.specs.Trace.{Tables, bodies_of, tables_of, trace, trace_marks}
use Rattle.jsontrace.specs.Writable.{well, writable_events}
use Rattle.jsontrace.proofs.Laws.Trace.{trace-bodies}
use Rattle.jsontrace.proofs.Laws.Wells.{trace_wells}

-- each rising text is before the next
next-after : (ts : List (List ℕ)) (k : ℕ) → Rising ts → suc k < length ts → before (get_or ts k []) (get_or ts (suc k) []) ≡ true
next-after [] k r h = absurd (omega arith)
next-after (t ∷ ts) zero r h = every-at (λ u. before t u ≡ true) ts 0 [] r.0 (omega arith)
next-after (t ∷ ts) (suc k) r h = next-after ts k r.1 (omega arith)

-- ---- a file whose strings stand end to end

module _ (v : ℕ) (bs : List (List ℕ)) (are : length bs ≡ 7) (ts : List (List ℕ)) (first : get_or bs 0 [] ≡ packed (placed 0 ts)) (last : get_or bs 6 [] ≡ flat ts) where
  strings-are : strings (encoded v bs) ≡ length ts
  strings-are = omega (arith, encoded-size v bs are 0 (omega arith), ap length first, packed-long (placed 0 ts), placed-long 0 ts)

  text-size : size (encoded v bs) 6 ≡ length (flat ts)
  text-size = encoded-size v bs are 6 (omega arith) ∙ ap length last

  string-word : (i : ℕ) → body_word (encoded v bs) 0 i ≡ get_or (placed 0 ts) i 0
  unfolding body_word
  string-word i =
      ap (λ (b : List ℕ). get_or (words b) i 0) (encoded-body v bs are 0 (omega arith) ∙ first)
      ∙ ap (λ (ws : List ℕ). get_or ws i 0) (words-packed (placed 0 ts))

  starts-at : (k : ℕ) → k < length ts → string_word (encoded v bs) k 0 ≡ length (flat (take k ts))
  unfolding string_word
  starts-at k h =
      let z : 2 * k + 0 ≡ 2 * k = omega arith in
      string-word (2 * k + 0) ∙ ap (λ (i : ℕ). get_or (placed 0 ts) i 0) z ∙ placed-start 0 ts k h ∙ omega arith

  long_as : (k : ℕ) → k < length ts → string_word (encoded v bs) k 1 ≡ length (get_or ts k [])
  unfolding string_word
  long_as k h = string-word (2 * k + 1) ∙ placed-size 0 ts k h

  -- string k is the k-th text
  text_of : (k : ℕ) → k < length ts → text (encoded v bs) k ≡ get_or ts k []
  unfolding text
  text_of k h =
      ap (λ (n : ℕ). take n (drop (string_word (encoded v bs) k 0) (body (encoded v bs) 6))) (long_as k h)
      ∙ ap₂ (λ (n : ℕ) (b : List ℕ). take (length (get_or ts k [])) (drop n b)) (starts-at k h) (encoded-body v bs are 6 (omega arith) ∙ last)
      ∙ flat-at ts k h

  ends_at : (k : ℕ) → k < length ts → string_word (encoded v bs) k 0 + string_word (encoded v bs) k 1 ≡ length (flat (take (k + 1) ts))
  ends_at k h = omega (arith, starts-at k h, long_as k h, step-long ts k h)

  ends_in : (k : ℕ) → k < length ts → leb (string_word (encoded v bs) k 0 + string_word (encoded v bs) k 1) (size (encoded v bs) 6) ≡ true
  ends_in k h = le-leb (string_word (encoded v bs) k 0 + string_word (encoded v bs) k 1) (size (encoded v bs) 6) (omega (arith, ends_at k h, text-size, flat-most ts (k + 1)))

  in_text_lem : all_below (strings (encoded v bs)) (in_text (encoded v bs)) ≡ true
  unfolding in_text
  in_text_lem = all_true (in_text (encoded v bs)) (strings (encoded v bs)) (λ k h. ends_in k (omega (arith, strings-are)))

  before-ends : (k : ℕ) → k ≤ length ts → end_before (encoded v bs) k ≡ length (flat (take k ts))
  unfolding end_before
  before-ends zero h = unfold flat in refl
  before-ends (suc k) h = ends_at k (omega arith) ∙ ap (λ (n : ℕ). length (flat (take n ts))) (add-one k)

  end_to_end_lem : end_to_end (encoded v bs) ≡ true
  unfolding end_to_end
  end_to_end_lem =
      pass (all_true (place_rule (encoded v bs)) (strings (encoded v bs)) (λ k h. place k (omega (arith, strings-are))))
      (eq-eqb (end_before (encoded v bs) (strings (encoded v bs))) (size (encoded v bs) 6) (ap (end_before (encoded v bs)) strings-are ∙ before-ends (length ts) (omega arith) ∙ ap (λ (l : List (List ℕ)). length (flat l)) (take_all (length ts) ts (omega arith)) ∙ sym text-size))
    where
      place : (k : ℕ) → k < length ts → place_rule (encoded v bs) k ≡ true
      place k h = unfold place_rule in pass (eq-eqb _ _ (starts-at k h ∙ sym (before-ends k (omega arith)))) (ends_in k h)

  -- texts of UTF-8 that rise pass rule 3
  string-rules : Every (λ t. well t ≡ true) ts → Rising ts → string_rules (encoded v bs) ≡ true
  unfolding string_rules
  string-rules w r =
      pass end_to_end_lem
      (pass (all_true (utf8_rule (encoded v bs)) (strings (encoded v bs)) (λ k h. utf8-at k (omega (arith, strings-are)))) (all_true (order_rule (encoded v bs)) (strings (encoded v bs)) (λ k h. order-at k (omega (arith, strings-are)))))
    where
      utf8-at : (k : ℕ) → k < length ts → utf8_rule (encoded v bs) k ≡ true
      utf8-at k h = unfold utf8_rule in ap (λ (t : List ℕ). well t) (text_of k h) ∙ every-at (λ t. well t ≡ true) ts k [] w h

      order-at : (k : ℕ) → k < length ts → order_rule (encoded v bs) k ≡ true
      order-at zero h = unfold order_rule rises in refl
      order-at (suc k) h = unfold order_rule rises in ap₂ before (text_of k (omega arith)) (text_of (suc k) h) ∙ next-after ts k r h

-- ---- the finished case

joined-well : (f : ℕ → List ℕ) (k : ℕ) → ((i : ℕ) → i < k → well (f i) ≡ true) → Every (λ t. well t ≡ true) (joined f k)
unfolding joined
joined-well f zero h = tt
joined-well f (suc k) h = insert_every (λ t. well t ≡ true) (f k) (joined f k) (h k (omega arith)) (joined-well f k (λ i l. h i (omega arith)))

finished-strings : (s marks : List ℕ) → ((k : ℕ) → k < strings s → well (text s k) ≡ true) → string_rules (finished s marks) ≡ true
unfolding finished
finished-strings s marks h = string-rules (contents s 1) (parts s marks) (seven s marks) (texts s) (unfold parts in refl) (unfold parts tables in refl) (unfold texts in joined-well (text s) (strings s) h) (unfold texts in joined-rises (text s) (strings s))

-- ---- the trace

bodies-seven : (t : Tables) → length (bodies_of t) ≡ 7
unfolding bodies_of
bodies-seven t = refl

-- the text of string k is the k-th of those that the events hold
pub trace-text : (es : List Event) (k : ℕ) → k < length (tables_of es).texts → text (trace es) k ≡ get_or (tables_of es).texts k []
unfolding trace bodies_of
trace-text es k h = text_of 0 (bodies_of (tables_of es)) (bodies-seven (tables_of es)) (tables_of es).texts refl refl k h

trace-strings : (es : List Event) → strings (trace es) ≡ length (tables_of es).texts
unfolding trace bodies_of
trace-strings es = strings-are 0 (bodies_of (tables_of es)) (bodies-seven (tables_of es)) (tables_of es).texts refl refl

-- every string lies in text
trace_in_text : (es : List Event) → all_below (strings (trace es)) (in_text (trace es)) ≡ true
unfolding trace bodies_of
trace_in_text es = in_text_lem 0 (bodies_of (tables_of es)) (bodies-seven (tables_of es)) (tables_of es).texts refl refl

-- 3 is not given
pub never_3 : (es : List Event) → writable_events es ≡ true → (all_below (strings (trace es)) (in_text (trace es)) and string_rules (finished (trace es) (trace_marks es))) ≡ true
never_3 es h = pass (trace_in_text es) (finished-strings (trace es) (trace_marks es) (λ k l. at k (omega (arith, trace-strings es))))
  where
    at : (k : ℕ) → k < length (tables_of es).texts → well (text (trace es) k) ≡ true
    at k l = ap (λ (t : List ℕ). well t) (trace-text es k l) ∙ every-at (λ t. well t ≡ true) (tables_of es).texts k [] (trace_wells es h) l

-- ---- 6: no nodes

pub no-nodes : (es : List Event) → nodes (finished (trace es) (trace_marks es)) ≡ 0
no-nodes es =
    let z : size (finished (trace es) (trace_marks es)) 4 ≡ 0 = kept (trace es) (trace_marks es) (trace-bodies es) 4 (omega arith) (λ e. absurd (omega (arith, e))) (λ e. absurd (omega (arith, e))) ∙ none es in
    omega arith
  where
    none : (es : List Event) → size (trace es) 4 ≡ 0
    none es = unfold trace bodies_of in encoded-size 0 (bodies_of (tables_of es)) (bodies-seven (tables_of es)) 4 (omega arith)

-- 6 is not given
pub never_6 : (es : List Event) → (node_rules (finished (trace es) (trace_marks es)) and all_below (nodes (finished (trace es) (trace_marks es))) (node_marks (finished (trace es) (trace_marks es)) (trace_marks es))) ≡ true
unfolding node_rules
never_6 es = rw (no-nodes es) (unfold all_below ◌and◌ in refl)
