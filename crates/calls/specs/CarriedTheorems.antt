-- What the promise of the carried call comes to: one outcome; the definition's verdict and the points that single verdicts show, whatever the limits; an answer or 15 where the verdict call answers; later points change nothing
use Rattle.std.proofs.Math.Path.{◌≡◌, refl, ap, sym}
use Rattle.std.proofs.Common.{subst, ◌∙◌}
use Rattle.std.specs.Prelude.{Bool, ℕ, ◌≤◌, length, drop}
use mathlib.Core.List.{List, ◌++◌}
use Rattle.std.proofs.Math.Option.{some}
use Rattle.meaning.specs.declared.Refusal.TheVariants.{ListTooShort}
use Rattle.meaning.specs.Walk.{W, spent, most}
use Rattle.meaning.specs.Case.{vars, point_at, node_at, case_of}
use Rattle.meaning.specs.Check.{Checked}
use Rattle.meaning.specs.Rows.{Row}
use Rattle.meaning.specs.Calls.{number_of, Call, Said, gives, refuses, Result, start_row, start_or, walk_of, unless_refused, unless_against, result}
use Rattle.meaning.specs.Demands.{Askable, SameUpTo, of_file}
use Rattle.meaning.specs.Carried.{Look, look_of, looks_back, Shown, shown, shown_at, scan_of, Listed, listed, carried_call}
use Rattle.meaning.specs.Carried.{Carried as CarriedOf}
use Rattle.meaning.specs.Single.{Made}
use Rattle.laws.specs.Calls.{nothing-against, one-refusal}
use Rattle.laws.specs.Walk.{answers}
use Rattle.laws.specs.Carried.{look-answer, shown-made, Fills, listed-fills, made-verdict}
use Rattle.laws.specs.Later.{later-points_change_nothing}
use Rattle.carried.specs.When.{look-goes, answered-goes, shown-goes, listed-short}
use Rattle.std.specs.Prelude.{Ok, Err}
use Rattle.carried.specs.declared.Carried.{Carried as Listing}
use Rattle.calls.specs.declared.Spent.{Spent}
use Rattle.calls.specs.Promises.{SaidCarried, as_carried, Carrying}
use Rattle.calls.specs.Theorems.{never, same-spent, same-refused}

-- ---- any two outcomes that the promise allows are equal

same-carried : (r r' : SaidCarried) → as_carried r ≡ as_carried r' → r ≡ r'
unfolding as_carried
same-carried (Ok (r, s)) (Ok (r', s')) e =
    let z : ◌≡◌ {A = CarriedOf} (record { verdict = r.verdict; filled = r.filled }) (record { verdict = r'.verdict; filled = r'.filled }) = cc in
    let y : ◌≡◌ {A = Listing} (record { verdict = r.verdict; filled = r.filled }) (record { verdict = r'.verdict; filled = r'.filled }) = cc (ap (λ (r : CarriedOf). r.verdict) z, ap (λ (r : CarriedOf). r.filled) z) in
    let x : r ≡ r' = y in
    let w : s ≡ s' = same-spent s s' (cc) (cc) in
    cc
same-carried (Ok (r, s)) (Err n') e = absurd (never e)
same-carried (Err n) (Ok (r', s')) e = absurd (never (sym e))
same-carried (Err n) (Err n') e = ap Err (same-refused n n' e)

pub one-carried : {c : Call} {list after after' filled filled' : List ℕ} {r r' : SaidCarried} → Carrying c list after filled r → Carrying c list after' filled' r' → (r ≡ r') × (after ≡ after') × (filled ≡ filled')
one-carried {r = r} {r'} p q =
    let e = p.is ∙ sym q.is in (
      same-carried r r' (ap (λ (x : Result CarriedOf). x.said) e),
      ap (λ (x : Result CarriedOf). x.workspace) e,
      ap (λ (x : Result CarriedOf). x.output) e,
    )

-- ---- an answer is the definition's verdict, and its list is made of single verdicts, whatever the limits

module _ {c : Call} {list after filled : List ℕ} {r : SaidCarried} (ok : Askable looks_back c) (look : Look) (is : look_of (node_at c.file c.node) ≡ some look) (p : Carrying c list after filled r) where
  abbrev row : Row
  row = start_or (start_row c.file (vars c.file) c.start)

  abbrev says : Said Shown
  says = shown look c.point (scan_of (case_of c.file) (point_at c.file) c.point row c.limits look)

  listed-is : ◌≡◌ {A = Listed} (record { said = as_carried r; list = filled }) (listed list says)
  unfolding carried_call result unless_against unless_refused shown_at
  listed-is =
      let e = p.is in
      let z : carried_call list c ≡ result c (listed list says).said (listed list says).list = rw (ok.checked.passes, nothing-against ok, is) refl in
      ap (λ (x : Said CarriedOf). record { said = x; list = filled }) (ap (λ (x : Result CarriedOf). x.said) (e ∙ z))
      ∙ ap (λ (x : List ℕ). record { said = (listed list says).said; list = x }) (ap (λ (x : Result CarriedOf). x.output) (e ∙ z))

  module _ {b : Bool} {k steps most : ℕ} (gave : r ≡ Ok (record { verdict = b; filled = k }, record { steps = steps; most = most })) where
    shows : (sh : Shown) × (says ≡ gives sh steps most) × Fills list filled sh b k
    unfolding as_carried
    shows = listed-fills list filled says b k steps most (ap (λ (r : SaidCarried). record { said = as_carried r; list = filled }) (sym gave) ∙ listed-is)

    made : Made (case_of c.file) (point_at c.file) c.point row look shows.0.verdict shows.0.points
    made = shown-made (case_of c.file) (point_at c.file) c.point row c.limits look shows.0 steps most shows.1

    -- the points listed, and how the verdict and they are made
    pub carried-lists : (points : List ℕ) × Made (case_of c.file) (point_at c.file) c.point row look b points × (length points ≡ k) × (filled ≡ points ++ drop (length points) list)
    carried-lists = (shows.0.points, subst (λ (b : Bool). Made (case_of c.file) (point_at c.file) c.point row look b shows.0.points) shows.2.verdict made, shows.2.many, shows.2.is)

    pub carried_agrees : b ≡ (walk_of (λ m q. m.verdict q) c.file c.point c.node c.start).answer
    unfolding walk_of
    carried_agrees =
        sym shows.2.verdict
        ∙ sym (made-verdict (case_of c.file) (point_at c.file) c.point row look shows.0.verdict shows.0.points made)
        ∙ sym (look-answer ok.checked c.node c.point row look is)

-- ---- wherever the verdict's walk fits the limits, this call answers the same or is 15

module _ {c : Call} {list after filled : List ℕ} {r : SaidCarried} (ok : Askable looks_back c) (look : Look) (is : look_of (node_at c.file c.node) ≡ some look) (p : Carrying c list after filled r) where
  abbrev the_verdict : W Bool
  the_verdict = walk_of (λ m q. m.verdict q) c.file c.point c.node c.start

  abbrev pub AnswersOr15 : SaidCarried → Type 0
  AnswersOr15 (Ok (k, s)) = (k.verdict ≡ the_verdict.answer) × (s.steps ≡ 0) × (s.most ≡ 0)
  AnswersOr15 (Err e) = (e.refusal ≡ ListTooShort) × (e.spent.steps ≡ 0) × (e.spent.most ≡ 0)

  module _ (hs : spent the_verdict ≤ c.limits.steps) (hr : most the_verdict ≤ c.limits.room) where
    given : (sh : Shown) × (says ok look is p ≡ gives sh 0 0)
    unfolding walk_of
    given =
        shown-goes look c.point (scan_of (case_of c.file) (point_at c.file) c.point (row ok look is p) c.limits look)
        (look-goes ok.checked c.node c.point (row ok look is p) c.limits look is (answered-goes the_verdict.answer _ (answers c.limits the_verdict hs hr)))

    pub carried_when : AnswersOr15 r
    unfolding as_carried
    carried_when = go r refl
      where
        go : (v : SaidCarried) → r ≡ v → AnswersOr15 v
        go (Ok (k, sp)) e =
            let z : ◌≡◌ {A = Said Shown} (gives given.0 0 0) (gives (shows ok look is p e).0 sp.steps sp.most) = sym given.1 ∙ (shows ok look is p e).1 in
            (carried_agrees ok look is p e, cc, cc)
        go (Err e') e =
            let z : ◌≡◌ {A = Listed} (record { said = refuses (number_of e'.refusal) e'.spent.steps e'.spent.most; list = filled }) (listed list (gives given.0 0 0)) = ap (λ (r : SaidCarried). record { said = as_carried r; list = filled }) (sym e) ∙ listed-is ok look is p ∙ ap (listed list) given.1 in
            let y = listed-short list filled given.0 (number_of e'.refusal) e'.spent.steps e'.spent.most z in
            (one-refusal e'.refusal ListTooShort y.0, y.1, y.2)

-- ---- points after the one asked about change nothing

module _ (s t : List ℕ) (hs : Checked s) (ht : Checked t) (c : Call) (up : SameUpTo c.point s t) where
  pub carried_later : {list after after' filled filled' : List ℕ} {r r' : SaidCarried} → Carrying (of_file c s) list after filled r → Carrying (of_file c t) list after' filled' r' → (r ≡ r') × (after ≡ after') × (filled ≡ filled')
  carried_later {list} p q = one-carried p (record { is = q.is ∙ sym ((later-points_change_nothing s t hs ht c up).2 list) })
