-- Points added after the one asked about change nothing in what the asking calls say
use Rattle.std.specs.Prelude.{◌≡◌, Bool, length, take}
use Rattle.std.proofs.Math.Path.{refl, ap, fun_ext}
use Rattle.std.proofs.Common.{sym, ◌∙◌, arith, lit<, length-append, take-append-drop}
use mathlib.Core.List.{List, [], ◌∷◌, ◌++◌, append-nil}
use Prim.Native.Nat.{ℕ, zero, suc, ◌+◌, ◌*◌, ◌/◌, ◌≤◌, ◌<◌}
use Rattle.std.proofs.Math.ListN.{get_or, drop}
use Rattle.std.proofs.Math.Seq.{length-take-le}
use Rattle.std.proofs.lemmas.List.{take-append-le}
use borrow.Author.Tests.{lt-ltb}
use Rattle.meaning.specs.declared.Node.{Node}
use Rattle.meaning.specs.declared.Refusal.TheVariants.{BadOutput}
use Rattle.meaning.specs.Walk.{W}
use Rattle.meaning.specs.Case.{Case, words, size, vars, strings, values, points, nodes, body, body_word, string_word, value_word, member_word, point_word, node_word, list, text, value_from, node_from, part_at, value_at, entity_at, point_at, node_at, case_of}
use Rattle.meaning.specs.Check.{Checked}
use Rattle.meaning.specs.Rows.{Row}
use Rattle.meaning.specs.Meaning.{Meaning, Question}
use Rattle.meaning.specs.Calls.{number_of, Call, Said, gives, refuses, well_formed, start_row, start_or, is_condition, answerable, against, walk_of, unless_against, asking, workspace_after, result, ask_call, filled, projected, output_fits, rows_given, rows_call}
use Rattle.meaning.specs.Demands.{SameTables, bytes_up_to, SameUpTo, SameAnswers, of_file}
use Rattle.laws.specs.Words.{words-first}
use Rattle.laws.specs.Bodies.{body-length}
use Rattle.laws.specs.Checked.{checked-bodies}
use Rattle.laws.specs.Meaning.{later-points}
use Rattle.laws.specs.Carried.{shown-same}
use Rattle.meaning.specs.Carried.{look_of, looks_back, shown_at, Listed, listed, carried_call}

-- two files that a call about point i cannot tell apart
record Alike (s t : List ℕ) (i : ℕ) : Type 0 where
  vars : vars s ≡ vars t
  strings : strings s ≡ strings t
  values : values s ≡ values t
  nodes : nodes s ≡ nodes t
  case : case_of s ≡ case_of t
  point : (j : ℕ) → j ≤ i → point_at s j ≡ point_at t j
  here : i < points s
  there : i < points t

module _ (c : Call) (s t : List ℕ) (alike : Alike s t c.point) where
  value_same : (v : ℕ) → value_at s v ≡ value_at t v
  unfolding case_of
  value_same v = ap (λ (k : Case). k.value v) alike.case

  node-same : (n : ℕ) → node_at s n ≡ node_at t n
  unfolding case_of
  node-same n = ap (λ (k : Case). k.node n) alike.case

  formed-same : (tag n : ℕ) → well_formed s tag n ≡ well_formed t tag n
  unfolding well_formed
  formed-same tag n = cc (alike.values, alike.strings, value_same n)

  row_same : (v : ℕ) (cells : List ℕ) → start_row s v cells ≡ start_row t v cells
  unfolding start_row
  row_same zero [] = refl
  row_same zero (a ∷ rest) = refl
  row_same (suc v) [] = refl
  row_same (suc v) (a ∷ []) = refl
  row_same (suc v) (a ∷ b ∷ rest) = cc (row_same v rest, formed-same a b)

  start-same : start_row s (vars s) c.start ≡ start_row t (vars t) c.start
  start-same = row_same (vars s) c.start ∙ ap (λ (v : ℕ). start_row t v c.start) alike.vars

  against-same : (wanted : Node → Bool) → against wanted (of_file c s) ≡ against wanted (of_file c t)
  unfolding against of_file
  against-same wanted =
      cc (lt-ltb _ _ alike.here, lt-ltb _ _ alike.there, alike.nodes, node-same c.node, start-same, alike.vars)

  walk_same : {A : Type 0} (manner : Meaning → Question → W A) → walk_of manner s c.point c.node c.start ≡ walk_of manner t c.point c.node c.start
  unfolding walk_of
  walk_same manner =
      cc (alike.case, start-same, later-points (point_at s) (point_at t) c.point (start_or (start_row t (vars t) c.start)) alike.point)

  module _ (hs : Checked s) (ht : Checked t) where
    unless_same : {A : Type 0} (wanted : Node → Bool) {said said' : Said A} → said ≡ said' → unless_against wanted (of_file c s) said ≡ unless_against wanted (of_file c t) said'
    unfolding unless_against of_file
    unless_same wanted e = cc (hs.passes, ht.passes, against-same wanted, e)

    asking-same : {A : Type 0} (wanted : Node → Bool) (manner : Meaning → Question → W A) → asking wanted manner (of_file c s) ≡ asking wanted manner (of_file c t)
    unfolding asking of_file
    asking-same wanted manner = unless_same wanted (cc (walk_same manner))

    workspace-same : {A : Type 0} (said : Said A) → workspace_after (of_file c s) said ≡ workspace_after (of_file c t) said
    unfolding workspace_after of_file
    workspace-same (gives a steps most) = cc alike.vars
    workspace-same (refuses n steps most) = cc alike.vars

    result-same : {A : Type 0} (output : List ℕ) {said said' : Said A} → said ≡ said' → result (of_file c s) said output ≡ result (of_file c t) said' output
    unfolding result
    result-same output {said} e = cc (e, workspace-same said)

    ask_same : ask_call (of_file c s) ≡ ask_call (of_file c t)
    unfolding ask_call of_file
    ask_same = result-same [] (cc (node-same c.node, asking-same answerable (λ m q. m.number q), asking-same answerable (λ m q. m.verdict q)))

    given-same : (binders output : List ℕ) (said : Said (List Row)) → rows_given (of_file c s) binders output said ≡ rows_given (of_file c t) binders output said
    unfolding rows_given projected output_fits of_file
    given-same binders output (refuses n steps most) = result-same output refl
    given-same binders output (gives rows steps most) =
        let kept : projected s binders rows ≡ projected t binders rows = cc alike.case in
        cc (
          kept,
          alike.vars,
          result-same {A = ℕ} output (refl {a = refuses (number_of BadOutput) steps most}),
          result-same (filled binders (projected s binders rows) ++ drop (length (filled binders (projected s binders rows))) output) (refl {a = gives (length (projected s binders rows)) steps most}),
        )

    rows_same : (binders output : List ℕ) → rows_call binders output (of_file c s) ≡ rows_call binders output (of_file c t)
    unfolding rows_call
    rows_same binders output = ap (rows_given (of_file c s) binders output) (asking-same is_condition (λ m q. m.rows q)) ∙ given-same binders output _

    shows_same : shown_at (case_of s) (point_at s) c.point (start_or (start_row s (vars s) c.start)) c.limits (look_of (node_at s c.node)) ≡ shown_at (case_of t) (point_at t) c.point (start_or (start_row t (vars t) c.start)) c.limits (look_of (node_at t c.node))
    shows_same =
        cc (alike.case, start-same, node-same c.node, shown-same (case_of s) (point_at s) (point_at t) c.point (start_or (start_row s (vars s) c.start)) c.limits alike.point (look_of (node_at s c.node)))

    carried_same : (list : List ℕ) → carried_call list (of_file c s) ≡ carried_call list (of_file c t)
    unfolding carried_call of_file
    carried_same list =
        let e = unless_same looks_back shows_same in
        let a = ap (listed list) e in
        result-same _ (ap (λ (r : Listed). r.said) a) ∙ cc a

-- a case by its bodies
abbrev at : List ℕ → ℕ → ℕ
at b i = get_or (words b) i 0

case_from : List ℕ → List ℕ → List ℕ → List ℕ → List ℕ → List ℕ → Case
case_from strings values members nodes lists text = record {
  text = λ k. take (at strings (2 * k + 1)) (drop (at strings (2 * k + 0)) text);
  value = λ v. value_from (λ m. record { name = at members (2 * m + 0); value = at members (2 * m + 1) }) (at values (4 * v + 0)) (at values (4 * v + 1)) (at values (4 * v + 2));
  node = λ n. node_from (at nodes (8 * n + 0)) (at nodes (8 * n + 1)) (at nodes (8 * n + 2)) (at nodes (8 * n + 3)) (at nodes (8 * n + 4)) (at nodes (8 * n + 5)) (at nodes (8 * n + 6));
  list = λ i. at lists i;
}

case-is : (s : List ℕ) → case_of s ≡ case_from (body s 0) (body s 1) (body s 2) (body s 4) (body s 5) (body s 6)
unfolding case_of case_from text value_at part_at node_at list string_word value_word member_word node_word body_word
case-is s = refl

module _ (s t : List ℕ) (hs : Checked s) (ht : Checked t) (i : ℕ) (up : SameUpTo i s t) where
  case_same : case_of s ≡ case_of t
  case_same = cc (case-is s, case-is t, up.others.strings, up.others.values, up.others.members, up.others.nodes, up.others.lists, up.others.text)

  -- equal bodies have equal sizes
  size_same : (k : ℕ) → k < 7 → body s k ≡ body t k → size s k ≡ size t k
  size_same k hk e = sym (body-length s (checked-bodies hs) k hk) ∙ ap length e ∙ body-length t (checked-bodies ht) k hk

  -- a word of a point up to i is a word of the points up to i
  word_first : (u : List ℕ) → Checked u → i < points u → (p j : ℕ) → p ≤ i → j < 12 → point_word u p j ≡ get_or (words (take (bytes_up_to i) (body u 3))) (12 * p + j) 0
  unfolding point_word body_word
  word_first u hu hi p j hp hj =
      let all = body-length u (checked-bodies hu) 3 (lit< tt) in
      let long = length-take-le (bytes_up_to i) (body u 3) (omega (arith, all)) in
      ap (λ (b : List ℕ). get_or (words b) (12 * p + j) 0) (sym (take-append-drop (bytes_up_to i) (body u 3)))
      ∙ words-first (take (bytes_up_to i) (body u 3)) (drop (bytes_up_to i) (body u 3)) (12 * p + j) (omega (arith, long))

  word_same : (p j : ℕ) → p ≤ i → j < 12 → point_word s p j ≡ point_word t p j
  word_same p j hp hj =
      word_first s hs up.here p j hp hj
      ∙ ap (λ (b : List ℕ). get_or (words b) (12 * p + j) 0) up.points
      ∙ sym (word_first t ht up.there p j hp hj)

  list_same : list s ≡ list t
  unfolding case_of
  list_same = ap (λ (c : Case). c.list) case_same

  entity-same : entity_at s ≡ entity_at t
  unfolding entity_at
  entity-same = fun_ext (λ i. cc list_same)

  point-same : (p : ℕ) → p ≤ i → point_at s p ≡ point_at t p
  unfolding point_at
  point-same p hp =
      cc (
        word_same p 0 hp (lit< tt),
        word_same p 1 hp (lit< tt),
        word_same p 2 hp (lit< tt),
        word_same p 3 hp (lit< tt),
        word_same p 4 hp (lit< tt),
        word_same p 5 hp (lit< tt),
        word_same p 6 hp (lit< tt),
        word_same p 7 hp (lit< tt),
        word_same p 8 hp (lit< tt),
        word_same p 9 hp (lit< tt),
        word_same p 10 hp (lit< tt),
        word_same p 11 hp (lit< tt),
        list_same,
        entity-same,
      )

  alike-up-to : Alike s t i
  alike-up-to = record {
    vars = up.others.vars;
    strings = ap (λ (n : ℕ). n / 8) (size_same 0 (lit< tt) up.others.strings);
    values = ap (λ (n : ℕ). n / 16) (size_same 1 (lit< tt) up.others.values);
    nodes = ap (λ (n : ℕ). n / 32) (size_same 4 (lit< tt) up.others.nodes);
    case = case_same;
    point = point-same;
    here = up.here;
    there = up.there;
  }

-- so nothing that is asked about point i, or about an earlier one, changes
pub later-points_change_nothing : (s t : List ℕ) → Checked s → Checked t → (c : Call) → SameUpTo c.point s t → SameAnswers c s t
later-points_change_nothing s t hs ht c up =
    let a = alike-up-to s t hs ht c.point up in
    (ask_same c s t a hs ht, rows_same c s t a hs ht, carried_same c s t a hs ht)

-- ---- two ways to come by such files

module _ {s t : List ℕ} (hs : Checked s) (ht : Checked t) (others : SameTables s t) where
  same-up-to : (i : ℕ) (first more more' : List ℕ) → bytes_up_to i ≤ length first → body s 3 ≡ first ++ more → body t 3 ≡ first ++ more' → SameUpTo i s t
  same-up-to i first more more' long es et = record {
    others = others;
    here = omega (arith, ap length es, length-append first more, body-length s (checked-bodies hs) 3 (lit< tt));
    there = omega (arith, ap length et, length-append first more', body-length t (checked-bodies ht) 3 (lit< tt));
    points = part more (body s 3) es ∙ sym (part more' (body t 3) et);
  }
    where
      part : (rest b : List ℕ) → b ≡ first ++ rest → take (bytes_up_to i) b ≡ take (bytes_up_to i) first
      part rest b e = ap (take (bytes_up_to i)) e ∙ take-append-le (bytes_up_to i) first rest long

  -- points added at the log's end change nothing that is asked about a point of the shorter log
  pub added-points_change_nothing : (more : List ℕ) → body t 3 ≡ body s 3 ++ more → (c : Call) → c.point < points s → SameAnswers c s t
  added-points_change_nothing more e c inside =
      let long : bytes_up_to c.point ≤ length (body s 3) = omega (arith, body-length s (checked-bodies hs) 3 (lit< tt)) in
      later-points_change_nothing s t hs ht c (same-up-to c.point (body s 3) [] more long (sym (append-nil (body s 3))) e)

  -- nor does a point put between two: log [p0, p1] beside [p0, q, p1], asked at 0
  pub point-between_changes_nothing : (p0 q p1 : List ℕ) → length p0 ≡ 48 → body s 3 ≡ p0 ++ p1 → body t 3 ≡ p0 ++ (q ++ p1) → (c : Call) → c.point ≡ 0 → SameAnswers c s t
  point-between_changes_nothing p0 q p1 long es et c first =
      later-points_change_nothing s t hs ht c (same-up-to c.point p0 p1 (q ++ p1) (omega (arith, long, first)) es et)
