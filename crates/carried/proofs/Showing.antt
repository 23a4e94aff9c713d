-- A rule for each way out of the answer
use Prim.Native.Nat.{ℕ, zero, suc, ◌≤◌, ◌<◌}
use mathlib.Core.Path.{◌≡◌, refl, ap, sym, ◌∙◌}
use mathlib.Core.Bool.{Bool, true, false}
use mathlib.Core.List.{List, [], ◌∷◌, ◌++◌}
use mathlib.Core.Option.{Option, none, some}
use native.Mathlib.Omega.{arith}
use lib.Dec.{leb}
use lib.ListN.{length, drop}
use borrow.Author.Tests.{le-leb, lt-leb}
use Rattle.meaning.specs.declared.Env.{Env}
use Rattle.meaning.specs.declared.Node.{Node}
use Rattle.meaning.specs.declared.Refusal.TheVariants.{ListTooShort}
use Rattle.meaning.specs.Tests.{choose}
use Rattle.meaning.specs.Case.{places, point_at, node_at, case_of}
use Rattle.meaning.specs.Rows.{row_of}
use Rattle.meaning.specs.Calls.{number_of, Said, gives, refuses}
use Rattle.meaning.specs.Carried.{formerly, previous, since, look_of, at, nowhere, stopped, ending, passes, carries, fails, halts, met, down, before, scan_of, carried_by, Shown, shown, shown_at, listed}
use Rattle.meaning.specs.Carried.{Look as LookBack, End as ScanEnd, Scan as ScanOf, Turn as TurnOf}
use Rattle.evaluator.specs.declared.Call.{Call}
use Rattle.carried.specs.declared.Look.{Look}
use Rattle.std.specs.Prelude.{Result, Ok, Err, Option as Answer, Some, None}
use Rattle.rows.specs.declared.Stopped.{Stopped}
use Rattle.meaning.specs.Walk.{started}
use Rattle.carried.specs.declared.Scan.{Scan}
use Rattle.carried.specs.declared.Carried.{Carried}
use Rattle.carried.specs.Shows.{as_look, looking, as_point, end_of, as_carried, too_short, scan_in, laid, Known, Backed, Points, Lists, Carries}
use Rattle.carried.proofs.Laid.{laid-fits}

-- ---- the point that carries is not above the one asked about

met-low : (n j : ℕ) (t : TurnOf) (rest : ScanOf) → ((k : ℕ) → rest.end ≡ at k → k < n) → j < n → (k : ℕ) → (met j t rest).end ≡ at k → k < n
unfolding met
met-low n j passes rest h lt k e = h k e
met-low n j carries rest h lt k e = let z : j ≡ k = cc in omega arith
met-low n j (fails i) rest h lt k e = h k e
met-low n j (halts r m) rest h lt k e = let z : ◌≡◌ {A = ℕ} 0 1 = cc in omega arith

point-low : (y : Bool) (j : ℕ) (t : TurnOf) (rest : ScanOf) → ((k : ℕ) → rest.end ≡ at k → k < suc j) → (k : ℕ) → (choose y (met j t rest) rest).end ≡ at k → k < suc j
unfolding choose
point-low true j t rest h k e = met-low (suc j) j t rest h (omega arith) k e
point-low false j t rest h k e = h k e

down-low : (within : ℕ → Bool) (turn : ℕ → TurnOf) (n k : ℕ) → (down within turn n).end ≡ at k → k < n
unfolding down
down-low within turn zero k e = let z : ◌≡◌ {A = ℕ} 0 1 = cc in omega arith
down-low within turn (suc j) k e =
    point-low (within j) j (turn j) (down within turn j) (λ i h. omega (arith, down-low within turn j i h)) k e

before-low : (within : ℕ → Bool) (turn : ℕ → TurnOf) (i k : ℕ) → (before within turn i).end ≡ at k → k ≤ i
unfolding before
before-low within turn zero k e = let z : ◌≡◌ {A = ℕ} 0 1 = cc in omega arith
before-low within turn (suc j) k e =
    omega (arith, point-low (within j) j (turn j) (ending nowhere) (λ i h. let z : ◌≡◌ {A = ℕ} 0 1 = cc in omega arith) k e)

scan_low : (s : List ℕ) (c : Call) (e : Env) (look : LookBack) (k : ℕ) → (scan_in s c e look).end ≡ at k → k ≤ c.asked
unfolding scan_in scan_of
scan_low s c e (formerly within n) k h = omega (arith, down-low _ _ _ k h)
scan_low s c e (previous within n) k h = before-low _ _ _ k h
scan_low s c e (since l r within) k h = omega (arith, down-low _ _ _ k h)

pub at_low : {s : List ℕ} {c : Call} {e : Env} {look : Look} {l a : List ℕ} {r : Result Scan Stopped} {k : Scan} {j : ℕ} → Known s c e look l a r → r ≡ Ok k → k.end ≡ Some j → j ≤ c.asked
unfolding end_of as_point
at_low {s} {c} {e} {look} {j = j} d q h = scan_low s c e (as_look look) j (sym d.settled.end ∙ ap end_of q ∙ ap as_point h)

-- ---- what is shown

shows : ℕ → LookBack → List ℕ → ScanEnd → Said Shown
shows i look failed (at j) = gives (record { verdict = true; points = carried_by look i j }) 0 0
shows i look failed nowhere = gives (record { verdict = false; points = failed }) 0 0
shows i look failed (stopped n m) = refuses (number_of n) m.steps m.most

shown-is : (s : List ℕ) (c : Call) (e : Env) (look : LookBack) → shown_at (case_of s) (point_at s) c.asked (row_of e) c.limits (some look) ≡ shows c.asked look (scan_in s c e look).failed (scan_in s c e look).end
unfolding shown_at shows scan_in shown
shown-is s c e look = go (scan_of (case_of s) (point_at s) c.asked (row_of e) c.limits look)
  where
    go : (k : ScanOf) → shown look c.asked k ≡ shows c.asked look k.failed k.end
    go k = by k.end refl
      where
        by : (x : ScanEnd) → k.end ≡ x → shown look c.asked k ≡ shows c.asked look k.failed k.end
        by (at j) h = rw h refl
        by nowhere h = rw h refl
        by (stopped n m) h = rw h refl

abbrev failed_in : List ℕ → Call → Env → Look → List ℕ
failed_in s c e look = (scan_in s c e (as_look look)).failed

module _ {s : List ℕ} {c : Call} {e : Env} (n : ℕ) {l a : List ℕ} (points : List ℕ) (is : shown_at (case_of s) (point_at s) c.asked (row_of e) c.limits (look_of (node_at s n)) ≡ gives (record { verdict = false; points = points }) 0 0) where
  -- a no, and these points
  no-filled : {k : ℕ} → k ≡ length points → length points ≤ length l → a ≡ points ++ drop (length points) l → Carries s c e n l a (Ok (record { verdict = false; filled = k }))
  unfolding as_carried listed choose
  no-filled {k} ek le ea =
      let z : leb (length points) (length l) ≡ true = le-leb (length points) (length l) le in
      record { is = rw (ek, ea) (sym (ap (listed l) is ∙ rw z refl)) }

no-more : (xs l : List ℕ) → length xs ≡ 0 → xs ++ drop (length xs) l ≡ l
no-more [] l e = refl
no-more (x ∷ xs) l e = absurd (omega arith)

looked-as : (s : List ℕ) (c : Call) (e : Env) (n : ℕ) {nd : Node} {u k : Answer Look} → nd ≡ node_at s n → looking u ≡ look_of nd → u ≡ k → shown_at (case_of s) (point_at s) c.asked (row_of e) c.limits (look_of (node_at s n)) ≡ shown_at (case_of s) (point_at s) c.asked (row_of e) c.limits (looking k)
looked-as s c e n en el q = ap (shown_at (case_of s) (point_at s) c.asked (row_of e) c.limits) (ap look_of (sym en) ∙ sym el ∙ ap looking q)

module _ {s : List ℕ} {c : Call} {e : Env} (n : ℕ) {nd : Node} {u : Answer Look} (l : List ℕ) (en : nd ≡ node_at s n) (el : looking u ≡ look_of nd) where
  -- what does not look back
  pub answer-none : u ≡ None → Carries s c e n l l (Ok (record { verdict = false; filled = 0 }))
  unfolding looking shown_at
  answer-none q = no-filled n [] (looked-as s c e n en el q) refl (omega arith) refl

  module _ {look : Look} {r : Result Scan Stopped} {l₁ : List ℕ} (eu : u ≡ Some look) (d : Known s c e look l l₁ r) where
    shown-as : {k : Result Scan Stopped} → r ≡ k → shown_at (case_of s) (point_at s) c.asked (row_of e) c.limits (look_of (node_at s n)) ≡ shows c.asked (as_look look) (failed_in s c e look) (end_of k)
    unfolding looking
    shown-as q =
        looked-as s c e n en el eu
        ∙ shown-is s c e (as_look look)
        ∙ ap (shows c.asked (as_look look) (failed_in s c e look)) (sym d.settled.end ∙ ap end_of q)

    pub answer-refused : {z : Stopped} → r ≡ Err z → Carries s c e n l l₁ (Err z)
    unfolding shows end_of as_carried listed
    answer-refused {z} q = record { is = ap (λ (l : List ℕ). record { said = refuses (number_of z.refusal) z.meter.steps z.meter.most; list = l }) d.same ∙ sym (ap (listed l) (shown-as q)) }

    module _ {found : Scan} (q : r ≡ Ok found) where
      pub answer-yes : {j k : ℕ} {a : List ℕ} {v : Result Carried Stopped} → found.end ≡ Some j → Points look c.asked j k → Lists j k l₁ a v → Carries s c e n l a v
      unfolding shows end_of as_point
      answer-yes {j} {k} {a} {v} h p y = record {
        is =
            y.is
            ∙ ap (λ (l : List ℕ). listed l (gives (record { verdict = true; points = places j 1 k }) 0 0)) d.same
            ∙ ap (λ (ps : List ℕ). listed l (gives (record { verdict = true; points = ps }) 0 0)) p.is
            ∙ sym (ap (listed l) (shown-as q ∙ ap (λ (x : Answer ℕ). shows c.asked (as_look look) (failed_in s c e look) (as_point x)) h));
      }

      module _ (h : found.end ≡ None) where
        no-as : shown_at (case_of s) (point_at s) c.asked (row_of e) c.limits (look_of (node_at s n)) ≡ gives (record { verdict = false; points = failed_in s c e look }) 0 0
        unfolding shows end_of as_point
        no-as = shown-as q ∙ ap (λ (x : Answer ℕ). shows c.asked (as_look look) (failed_in s c e look) (as_point x)) h

        pub answer-short : length l₁ < found.failed → Carries s c e n l l₁ (Err too_short)
        unfolding as_carried listed choose started
        answer-short lt =
            let z : leb (length (failed_in s c e look)) (length l) ≡ false = lt-leb (length (failed_in s c e look)) (length l) (omega (arith, d.settled.failed q, ap length d.same)) in
            record { is = ap (λ (l : List ℕ). record { said = refuses (number_of ListTooShort) 0 0; list = l }) d.same ∙ sym (ap (listed l) no-as ∙ rw z refl) }

        pub answer-nothing : found.failed ≡ 0 → Carries s c e n l l₁ (Ok (record { verdict = false; filled = 0 }))
        answer-nothing z =
            let none-failed : length (failed_in s c e look) ≡ 0 = omega (arith, d.settled.failed q) in
            no-filled n (failed_in s c e look) no-as (sym none-failed) (omega arith) (d.same ∙ sym (no-more (failed_in s c e look) l none-failed))

        -- the same scan once more: it ends as it did
        pub answer-again : {a : List ℕ} {r₂ : Result Scan Stopped} {z : Stopped} → Backed s c e look l₁ a r₂ → r₂ ≡ Err z → Carries s c e n l a (Err z)
        unfolding end_of as_point
        answer-again {z = z} d₂ q₂ =
            let w : stopped z.refusal z.meter ≡ nowhere = sym (ap end_of q₂) ∙ d₂.scanned.settled.end ∙ sym d.settled.end ∙ ap end_of q ∙ ap as_point h in
            absurd (let y : ◌≡◌ {A = ℕ} 0 1 = cc in omega arith)

        pub answer-failed : {a : List ℕ} {r₂ : Result Scan Stopped} → found.failed ≤ length l₁ → Backed s c e look l₁ a r₂ → Carries s c e n l a (Ok (record { verdict = false; filled = found.failed }))
        answer-failed {a} le d₂ =
            let fits : length (failed_in s c e look) ≤ length l = omega (arith, d.settled.failed q, ap length d.same) in
            no-filled n (failed_in s c e look) no-as (d.settled.failed q) fits (d₂.scanned.lies ∙ ap (laid (failed_in s c e look)) d.same ∙ laid-fits (failed_in s c e look) l fits)
