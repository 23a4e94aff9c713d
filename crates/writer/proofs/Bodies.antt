-- What the output is after so many bodies, and after the contents
use mathlib.Core.Path.{◌≡◌, refl, sym, ◌∙◌, ap, ap₂, subst}
use mathlib.Core.List.{List, ◌++◌, append_assoc}
use Prim.Native.Nat.{ℕ, zero, suc, ◌+◌, ◌-◌, ◌<◌, ◌≤◌}
use native.Mathlib.Omega.{arith}
use lib.ListN.{length, take, drop, length-append, length-drop, take-append-drop}
use lib.Seq.{length-take-le, take_all, take-add, drop-drop, drop-append-add}
use borrow.Author.Tests.{eqb-true}
use Rattle.meaning.specs.Case.{offset, size, body}
use Rattle.meaning.specs.Check.{bodies, start_of, body_rule}
use Rattle.laws.specs.Tests.{both, all-at}
use Rattle.laws.specs.Bodies.{long, body-ends}
use Rattle.laws.specs.Writing.{Writing, write-none, write-more}
use Rattle.encode.specs.Write.{over}
use Rattle.writer.specs.Put.{put, Fits, appended, Starts, Whole}
use Rattle.writer.specs.declared.Writer.{Writer}

-- cells once the first k bodies of f are put into them
unfoldable pub bodies_put : List ℕ → List ℕ → ℕ → List ℕ
bodies_put cells f zero = cells
bodies_put cells f (suc k) = put (bodies_put cells f k) (start_of f k) (body f k)

written-long : {d w new : List ℕ} {at : ℕ} → Writing d w at new → at + length new ≤ length d → length w ≡ length d
written-long {d} {w} {new} {at} t h =
    ap length t.is
    ∙ omega (arith, length-append (take at d ++ new) (drop (at + length new) d), length-append (take at d) new, length-take-le at d (omega arith), length-drop (at + length new) d)

module _ {cells f : List ℕ} (h : Whole cells f) where
  starts : (k : ℕ) → k < 7 → offset f k ≡ start_of f k
  unfolding bodies body_rule
  starts k hk = eqb-true _ _ (both _ _ (all-at (body_rule f) 7 k (both _ _ (both _ _ (both _ _ h.passes).1).1).0 hk)).0

  filled : start_of f 7 ≡ length f
  unfolding bodies
  filled = eqb-true _ _ (both _ _ (both _ _ (both _ _ h.passes).1).1).1

  past : (k : ℕ) → 64 ≤ start_of f k
  unfolding start_of
  past zero = omega arith
  past (suc k) = omega (arith, past k)

  -- the first k bodies are new from 64 on
  stage : (k : ℕ) → k ≤ 7 → Writing cells (bodies_put cells f k) 64 (take (start_of f k - 64) (drop 64 f))
  unfolding bodies_put start_of
  stage zero hk = write-none cells 64
  stage (suc k) hk = subst (λ (l : List ℕ). Writing cells (put (bodies_put cells f k) (start_of f k) (body f k)) 64 l) joined
      (write-more (body f k) (start_of f k) (stage k (omega arith)) (omega (arith, long f h.passes, h.held)) at-end (unfold put in refl))
    where
      ends : start_of f k + size f k ≤ length f
      ends = omega (arith, body-ends f h.passes k (omega arith), starts k (omega arith))

      many : length (take (start_of f k - 64) (drop 64 f)) ≡ start_of f k - 64
      many = length-take-le (start_of f k - 64) (drop 64 f) (omega (arith, length-drop 64 f, ends))

      at-end : start_of f k ≡ 64 + length (take (start_of f k - 64) (drop 64 f))
      at-end = omega (arith, many, past k)

      joined : take (start_of f k - 64) (drop 64 f) ++ body f k ≡ take (start_of f k + size f k - 64) (drop 64 f)
      joined = unfold body in
          let from : offset f k ≡ 64 + (start_of f k - 64) = omega (arith, starts k (omega arith), past k) in
          let n : start_of f k - 64 + size f k ≡ start_of f k + size f k - 64 = omega (arith, past k) in
          ap (λ (l : List ℕ). take (start_of f k - 64) (drop 64 f) ++ take (size f k) l) (ap (λ (i : ℕ). drop i f) from ∙ sym (drop-drop (start_of f k - 64) 64 f))
          ∙ sym (take-add (start_of f k - 64) (size f k) (drop 64 f))
          ∙ ap (λ (i : ℕ). take i (drop 64 f)) n

  ends_by : (k : ℕ) → k < 7 → start_of f k + size f k ≤ length f
  ends_by k hk = omega (arith, body-ends f h.passes k hk, starts k hk)

  stage-long : (k : ℕ) → k < 7 → length (bodies_put cells f k) ≡ length cells
  stage-long k hk = written-long (stage k (omega arith)) (omega (arith, length-take-le (start_of f k - 64) (drop 64 f) (omega (arith, length-drop 64 f, ends_by k hk)), past k, ends_by k hk, h.held))

  -- what each call asks and leaves
  pub body-fits : (k : ℕ) → k < 7 → Fits (bodies_put cells f k) (start_of f k) f k
  body-fits k hk = record { passes = h.passes; seven = hk; held = omega (arith, stage-long k hk, ends_by k hk, h.held) }

  all_of : take (start_of f 7 - 64) (drop 64 f) ≡ drop 64 f
  all_of = take_all (start_of f 7 - 64) (drop 64 f) (omega (arith, filled, length-drop 64 f))

  whole : Writing cells (bodies_put cells f 7) 64 (drop 64 f)
  whole = subst (λ (l : List ℕ). Writing cells (bodies_put cells f 7) 64 l) all_of (stage 7 (omega arith))

  rest-long : 64 + length (drop 64 f) ≡ length f
  rest-long = omega (arith, length-drop 64 f, long f h.passes)

  pub whole_long : length (bodies_put cells f 7) ≡ length cells
  whole_long = written-long whole (omega (arith, rest-long, h.held))

  pub contents-fit : Starts (bodies_put cells f 7) f
  contents-fit = record { long = long f h.passes; held = omega (arith, whole_long, long f h.passes, h.held) }

  -- and the contents: the case first, what stood behind it after it
  pub all-put : put (bodies_put cells f 7) 0 (take 64 f) ≡ over f cells
  unfolding put over
  all-put =
      let head : length (take 64 f) ≡ 64 = length-take-le 64 f (long f h.passes) in
      let front : length (take 64 cells) ≡ 64 = length-take-le 64 cells (omega (arith, long f h.passes, h.held)) in
      let n : 0 + length (take 64 f) ≡ length (take 64 cells) + 0 = omega (arith, head, front) in
      ap₂ (λ (i : ℕ) (l : List ℕ). take 64 f ++ drop i l) n (whole.is ∙ append_assoc (take 64 cells) (drop 64 f) (drop (64 + length (drop 64 f)) cells))
      ∙ ap (λ (l : List ℕ). take 64 f ++ l) (drop-append-add (take 64 cells) (drop 64 f ++ drop (64 + length (drop 64 f)) cells) 0)
      ∙ sym (append_assoc (take 64 f) (drop 64 f) (drop (64 + length (drop 64 f)) cells))
      ∙ ap₂ (λ (l : List ℕ) (i : ℕ). l ++ drop i cells) (take-append-drop 64 f) rest-long

-- ---- the writer after so many bodies

pub record Stage (cells f : List ℕ) (w : Writer) (k : ℕ) : Type 0 where
  pub is : w.out.now ≡ bodies_put cells f k
  pub next : w.at ≡ start_of f k

pub stage_none : {cells : List ℕ} (f : List ℕ) {w : Writer} → w.out.now ≡ cells → w.at ≡ 64 → Stage cells f w 0
unfolding bodies_put start_of
stage_none f e n = record { is = e; next = n }

pub stage_more : {cells f : List ℕ} {w v : Writer} {k : ℕ} → Stage cells f w k → v ≡ appended w f k → Stage cells f v (suc k)
unfolding bodies_put start_of
stage_more {cells} {f} {w} {v} {k} s e =
    record {
      is = ap (λ (u : Writer). u.out.now) e ∙ ap₂ (λ (l : List ℕ) (i : ℕ). put l i (body f k)) s.is s.next;
      next = ap (λ (u : Writer). u.at) e ∙ ap (λ (i : ℕ). i + size f k) s.next;
    }

pub stage_fits : {cells f : List ℕ} {w : Writer} {k : ℕ} → Whole cells f → k < 7 → Stage cells f w k → Fits w.out.now w.at f k
stage_fits {f = f} {k = k} h hk s = let b = body-fits h k hk in rw (s.is, s.next) b

pub stage_starts : {cells f : List ℕ} {w : Writer} → Whole cells f → Stage cells f w 7 → Starts w.out.now f
stage_starts h s = let b = contents-fit h in rw s.is b

pub stage_all : {cells f : List ℕ} {w : Writer} {l : List ℕ} → Whole cells f → Stage cells f w 7 → l ≡ put w.out.now 0 (take 64 f) → l ≡ over f cells
stage_all {f = f} h s e = e ∙ ap (λ (l : List ℕ). put l 0 (take 64 f)) s.is ∙ all-put h
