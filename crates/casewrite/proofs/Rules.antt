-- A rule for each way out of the writer
use mathlib.Core.Path.{◌≡◌, refl, sym, ◌∙◌, ap}
use mathlib.Core.Bool.{Bool, true, false, not}
use mathlib.Core.List.{List, [], ◌∷◌, ◌++◌}
use mathlib.Core.Option.{Option, none, some}
use Rattle.std.specs.Prelude.{Result, Ok, Err, ⊤}
use Prim.Native.Nat.{ℕ, ◌<◌, ◌≤◌}
use native.Mathlib.Omega.{arith}
use lib.Dec.{leb, eqb}
use lib.ListN.{length, take, drop, length-append}
use lib.Seq.{take_at, length-take-le}
use borrow.Author.Tests.{not-true, not-false, lt-leb, le-leb}
use Rattle.meaning.specs.declared.Refusal.{Refusal}
use Rattle.meaning.specs.declared.Refusal.TheVariants.{BadStrings, BadPoints, BadNodes, OutputTooShort}
use Rattle.meaning.specs.Tests.{◌and◌, choose, or_else, first_broken, all_below}
use Rattle.meaning.specs.Case.{strings, lists, points, nodes}
use Rattle.meaning.specs.Check.{bodies, mosts, string_rules, value_rules, point_rules, node_rules, check}
use Rattle.meaning.specs.Calls.{number_of}
use Rattle.laws.specs.Tests.{both, stop, after, yes, no, unbroken}
use Rattle.encode.specs.Unsorted.{in_text, finished}
use Rattle.encode.specs.Write.{point_marks, node_marks, make_refusal, room_after, later_refusal, write_refusal, output_after, over}
use Rattle.encode.proofs.Laws.Unsorted.{finished-bodies}
use Rattle.casecheck.specs.declared.Contents.{Contents}
use Rattle.casecheck.specs.Answer.{contents_of, answer, as_checking, passed}
use Rattle.writer.specs.Put.{Whole}
use Rattle.making.specs.Made.{made_as, Makes}
use Rattle.casewrite.specs.Laws.{four, some-none, later-some, later-none}
use Rattle.casewrite.specs.Written.{written_as, Writes, against_as, marks_refusal, case_refusal, WritesOut, WritesChecked}

-- ---- marks

module _ (marks f : List ℕ) (pass : Bool) {t : Bool} (is : t ≡ all_below (points f) (point_marks f marks)) where
  pub points-against : t ≡ false → Err BadPoints ≡ against_as (marks_refusal marks f pass)
  unfolding against_as marks_refusal
  points-against h = ap against_as (sym (no _ (sym is ∙ h) refl))

  module _ (h : t ≡ true) where
    held : all_below (points f) (point_marks f marks) ≡ true
    held = sym is ∙ h

    pub nodes-broken : pass ≡ false → Err BadNodes ≡ against_as (marks_refusal marks f pass)
    unfolding against_as marks_refusal
    nodes-broken g = ap against_as (sym (yes _ held ∙ no _ (stop _ g) refl))

    module _ {u : Bool} (g : pass ≡ true) (is' : u ≡ all_below (nodes f) (node_marks f marks)) where
      pub nodes-against : u ≡ false → Err BadNodes ≡ against_as (marks_refusal marks f pass)
      unfolding against_as marks_refusal
      nodes-against k = ap against_as (sym (yes _ held ∙ no _ (after g ∙ sym is' ∙ k) refl))

      pub none-against : u ≡ true → Ok tt ≡ against_as (marks_refusal marks f pass)
      unfolding against_as marks_refusal
      none-against k = ap against_as (sym (yes _ held ∙ yes _ (after g ∙ sym is' ∙ k)))

-- ---- the check and the marks

abbrev two : Bool → Bool → Option Refusal
two p n = first_broken ((p, BadPoints) ∷ (n, BadNodes) ∷ [])

numbers : {r r' : Refusal} → some r ≡ some r' → number_of r ≡ number_of r'
numbers e = cc

all_pass : (a b d e p n : Bool) → four a b d e ≡ none → two p (true and n) ≡ four a b (d and p) (e and n)
unfolding choose ◌and◌
all_pass true true true true p n h = refl
all_pass true true true false p n h = absurd (some-none h)
all_pass true true false e p n h = absurd (some-none h)
all_pass true false d e p n h = absurd (some-none h)
all_pass false b d e p n h = absurd (some-none h)

nodes_fail : (a b d e p n : Bool) (r : Refusal) → four a b d e ≡ some r → 6 ≤ number_of r → two p (false and n) ≡ four a b (d and p) (e and n)
unfolding choose ◌and◌ number_of
nodes_fail true true true true p n r h k = absurd (some-none (sym h))
nodes_fail true true true false p n r h k = refl
nodes_fail true true false e p n r h k = absurd (omega (arith, numbers h))
nodes_fail true false d e p n r h k = absurd (omega (arith, numbers h))
nodes_fail false b d e p n r h k = absurd (omega (arith, numbers h))

other-fails : (a b d e p n : Bool) (r : Refusal) → four a b d e ≡ some r → number_of r < 6 → some r ≡ four a b (d and p) (e and n)
unfolding choose ◌and◌ number_of
other-fails true true true true p n r h k = absurd (some-none (sym h))
other-fails true true true false p n r h k = absurd (omega (arith, numbers h))
other-fails true true false e p n r h k = sym h
other-fails true false d e p n r h k = sym h
other-fails false b d e p n r h k = sym h

refused-by : (f : List ℕ) {checking : Result Contents Refusal} {r : Refusal} → checking ≡ as_checking f → checking ≡ Err r → check f ≡ some r
unfolding as_checking answer
refused-by f {checking} {r} is refusing = go (check f) refl
  where
    go : (o : Option Refusal) → check f ≡ o → check f ≡ some r
    go none e = let z : ◌≡◌ {A = Result Contents Refusal} (Err r) (Ok (contents_of f)) = cc (is, refusing, e) in let y : ◌≡◌ {A = ℕ} 0 1 = cc in absurd (omega arith)
    go (some n) e = let z : ◌≡◌ {A = Result Contents Refusal} (Err r) (Err n) = cc (is, refusing, e) in let y : r ≡ n = cc in e ∙ ap some (sym y)

module _ (s marks f : List ℕ) {t : Bool} (is : t ≡ all_below (strings s) (in_text s)) where
  pub strings-against : not t ≡ true → Err BadStrings ≡ against_as (case_refusal s marks f)
  unfolding against_as case_refusal
  strings-against h = ap against_as (sym (no _ (stop _ (sym is ∙ not-true t h)) refl))

  module _ (h : not t ≡ false) (b : bodies f ≡ true) (m : mosts f ≡ true) where
    check-as : check f ≡ four (string_rules f) (value_rules f) (point_rules f) (node_rules f)
    unfolding check
    check-as = yes _ b ∙ yes _ m

    case-as : case_refusal s marks f ≡ four (string_rules f) (value_rules f) (point_rules f and all_below (points f) (point_marks f marks)) (node_rules f and all_below (nodes f) (node_marks f marks))
    unfolding case_refusal
    case-as = ap (λ (x : Bool). four x (value_rules f) (point_rules f and all_below (points f) (point_marks f marks)) (node_rules f and all_below (nodes f) (node_marks f marks))) (after (sym is ∙ not-false t h))

    module _ {checking : Result Contents Refusal} (says : checking ≡ as_checking f) where
      pub case-passes : {k : Contents} {r : Result ⊤ Refusal} → checking ≡ Ok k → r ≡ against_as (marks_refusal marks f true) → r ≡ against_as (case_refusal s marks f)
      unfolding marks_refusal
      case-passes {k} passing g =
          let checked = (passed f k (sym passing ∙ says)).0 in
          g ∙ ap against_as (all_pass _ _ _ _ _ _ (sym check-as ∙ checked.passes) ∙ sym case-as)

      module _ {r : Refusal} {n : ℕ} (refusing : checking ≡ Err r) (number : (n ≡ number_of r) × (n < 16)) where
        pub case-other : n < 6 → Err r ≡ against_as (case_refusal s marks f)
        unfolding against_as
        case-other low = ap against_as (other-fails _ _ _ _ _ _ r (sym check-as ∙ refused-by f says refusing) (omega (arith, number.0)) ∙ sym case-as)

        pub case-nodes : {x : Result ⊤ Refusal} → 6 ≤ n → x ≡ against_as (marks_refusal marks f false) → x ≡ against_as (case_refusal s marks f)
        unfolding marks_refusal
        case-nodes high g = g ∙ ap against_as (nodes_fail _ _ _ _ _ _ r (sym check-as ∙ refused-by f says refusing) (omega (arith, number.0)) ∙ sym case-as)

-- ---- the output

module _ (f output : List ℕ) where
  pub out-short : length output < length f → WritesOut f output output (Err OutputTooShort)
  out-short h =
      let short : leb (length f) (length output) ≡ false = lt-leb (length f) (length output) h in
      record { is = sym (no _ short refl); gives = sym (no _ short refl) }

  pub out-fits : bodies f ≡ true → length f ≤ length output → Whole output f
  out-fits b h = record { passes = b; held = h }

  pub out_written : {w : List ℕ} → length f ≤ length output → w ≡ over f output → WritesOut f output w (Ok (length f))
  out_written h e =
      let fits : leb (length f) (length output) ≡ true = le-leb (length f) (length output) h in
      record { is = sym (yes _ fits); gives = e ∙ sym (yes _ fits) }

-- ---- the finished case

against-some : (o : Option Refusal) {r : Refusal} → Err r ≡ against_as o → o ≡ some r
unfolding against_as
against-some none h = let z : ◌≡◌ {A = ℕ} 0 1 = cc in absurd (omega arith)
against-some (some k) h = cc

against-none : (o : Option Refusal) → Ok tt ≡ against_as o → o ≡ none
unfolding against_as
against-none none h = refl
against-none (some k) h = let z : ◌≡◌ {A = ℕ} 0 1 = cc in absurd (omega arith)

module _ (s marks f output : List ℕ) {found : Result ⊤ Refusal} (made : f ≡ finished s marks) (says : found ≡ against_as (case_refusal s marks f)) where
  case-is : {o : Result ⊤ Refusal} → found ≡ o → o ≡ against_as (case_refusal s marks (finished s marks))
  case-is e = sym e ∙ says ∙ ap (λ (g : List ℕ). against_as (case_refusal s marks g)) made

  pub checked_refused : {r : Refusal} → found ≡ Err r → WritesChecked s marks output output (Err r)
  unfolding written_as output_after
  checked_refused {r} e =
      let told : later_refusal s marks [] output ≡ some r = later-some s marks output (against-some (case_refusal s marks (finished s marks)) (case-is e)) in
      record { is = sym (ap (written_as (length (finished s marks))) told); gives = sym (ap (output_after s marks [] output) told) }

  pub checked-written : {r : Result ℕ Refusal} {w : List ℕ} → found ≡ Ok tt → WritesOut f output w r → WritesChecked s marks output w r
  checked-written {r} {w} e o =
      go (leb (length (finished s marks)) (length output)) refl
    where
      later : later_refusal s marks [] output ≡ choose (leb (length (finished s marks)) (length output)) none (some OutputTooShort)
      later = later-none s marks output (against-none (case_refusal s marks (finished s marks)) (case-is e))

      go : (b : Bool) → leb (length (finished s marks)) (length output) ≡ b → WritesChecked s marks output w r
      go true h = unfold written_as output_after in
          let told : later_refusal s marks [] output ≡ none = later ∙ yes _ h in
          let fits : leb (length f) (length output) ≡ true = ap (λ (g : List ℕ). leb (length g) (length output)) made ∙ h in
          record {
            is = o.is ∙ yes _ fits ∙ ap (λ (g : List ℕ). Ok (length g)) made ∙ sym (ap (written_as (length (finished s marks))) told);
            gives = o.gives ∙ yes _ fits ∙ ap (λ (g : List ℕ). over g output) made ∙ sym (ap (output_after s marks [] output) told);
          }
      go false h = unfold written_as output_after in
          let told : later_refusal s marks [] output ≡ some OutputTooShort = later ∙ no _ h refl in
          let short : leb (length f) (length output) ≡ false = ap (λ (g : List ℕ). leb (length g) (length output)) made ∙ h in
          record {
            is = o.is ∙ no _ short refl ∙ sym (ap (written_as (length (finished s marks))) told);
            gives = o.gives ∙ no _ short refl ∙ sym (ap (output_after s marks [] output) told);
          }

pub finished-tables : (s marks f : List ℕ) → f ≡ finished s marks → bodies s ≡ true → bodies f ≡ true
finished-tables s marks f made h = ap bodies made ∙ finished-bodies s marks h

-- ---- the call

made_some : (size : ℕ) (o : Option Refusal) {r : Refusal} → Err r ≡ made_as size o → o ≡ some r
unfolding made_as
made_some size none h = let z : ◌≡◌ {A = ℕ} 0 1 = cc in absurd (omega arith)
made_some size (some k) h = cc

made_none : (size : ℕ) (o : Option Refusal) {n : ℕ} → Ok n ≡ made_as size o → (o ≡ none) × (n ≡ size)
unfolding made_as
made_none size none h = (refl, cc)
made_none size (some k) h = let z : ◌≡◌ {A = ℕ} 0 1 = cc in absurd (omega arith)

module _ {s marks room after : List ℕ} {made : Result ℕ Refusal} (m : Makes s marks room after made) where
  pub write-refused : {output : List ℕ} {r : Refusal} → made ≡ Err r → Writes s marks room after output output (Err r)
  unfolding write_refusal or_else written_as output_after
  write-refused {output} {r} e =
      let told : make_refusal s marks room ≡ some r = made_some (length (finished s marks)) (make_refusal s marks room) (sym e ∙ m.is) in
      let all : write_refusal s marks room output ≡ some r = ap (λ (o : Option Refusal). or_else o (later_refusal s marks room output)) told in
      record { is = sym (ap (written_as (length (finished s marks))) all); holds = m.holds; gives = sym (ap (output_after s marks room output) all) }

  module _ {size : ℕ} (e : made ≡ Ok size) where
    nothing : make_refusal s marks room ≡ none
    nothing = (made_none (length (finished s marks)) (make_refusal s marks room) (sym e ∙ m.is)).0

    long : size ≡ length (finished s marks)
    long = (made_none (length (finished s marks)) (make_refusal s marks room) (sym e ∙ m.is)).1

    begins : after ≡ finished s marks ++ drop (length (finished s marks)) room
    unfolding room_after over
    begins = m.holds ∙ ap (room_after s marks room) nothing

    pub made-fits : size ≤ length after
    made-fits = omega (arith, long, ap length begins, length-append (finished s marks) (drop (length (finished s marks)) room))

    pub made-long : size ≡ length (take size after)
    made-long = sym (length-take-le size after made-fits)

    pub made-is : take size after ≡ finished s marks
    made-is = ap (take size) begins ∙ take_at (finished s marks) (drop (length (finished s marks)) room) size (sym long)

    first_two : (bodies s and eqb (length marks) (lists s) ≡ true) × (mosts (finished s marks) ≡ true)
    first_two = unfold make_refusal in
        let one = unbroken _ _ _ nothing in
        (one.0, (unbroken _ _ _ one.1).0)

    pub made-tables : bodies s ≡ true
    made-tables = (both _ _ first_two.0).0

    pub made_kept : mosts (take size after) ≡ true
    made_kept = ap mosts made-is ∙ first_two.1

    pub write-made : {output w : List ℕ} {r : Result ℕ Refusal} → WritesChecked s marks output w r → Writes s marks room after output w r
    unfolding write_refusal or_else later_refusal output_after
    write-made {output} {w} {r} o =
        let all : write_refusal s marks room output ≡ later_refusal s marks [] output = ap (λ (p : Option Refusal). or_else p (later_refusal s marks room output)) nothing in
        record { is = o.is ∙ sym (ap (written_as (length (finished s marks))) all); holds = m.holds; gives = o.gives ∙ sym (ap (output_after s marks [] output) all) }
