-- The calls are those of the reading that stands; and two readings of a file that agree about the point asked about give the same
use Rattle.std.specs.Prelude.{◌≡◌, Bool, true, false, List, ltb}
use Rattle.std.proofs.Math.Path.{refl, ap, ap₂, fun_ext}
use Rattle.std.proofs.Math.Option.{Option, none, some}
use Prim.Native.Nat.{ℕ, suc, ◌-◌, ◌<◌}
use Rattle.std.proofs.Common.{ltb-true}
use Rattle.meaning.specs.declared.Limits.{Limits}
use Rattle.meaning.specs.declared.Node.{Node}
use Rattle.meaning.specs.declared.Refusal.TheVariants.{NoSuchPoint}
use Rattle.meaning.specs.Tests.{choose}
use Rattle.meaning.specs.Walk.{started, Outcome, outcome}
use Rattle.meaning.specs.Case.{Case, Point, vars, points, point_at, node_at, case_of}
use Rattle.meaning.specs.Number.{seconds, in_window}
use Rattle.meaning.specs.Rows.{Row}
use Rattle.meaning.specs.Meaning.{Meaning, earlier, meaning, question, firsts}
use Rattle.meaning.specs.Calls.{Call, Said, start_row, start_or, is_condition, answerable, against, walk_of, told, unless_refused, unless_against, asking, check_call, ask_call, rows_given, rows_call}
use Rattle.meaning.specs.Carried.{Look, formerly, previous, since, look_of, looks_back, down, before, body_turn, left_from, anchor_turn, asked_at, seen_from, turn_at, scan_of, shown, shown_at, carried_call}
use Rattle.meaning.specs.Readings.{Reading, standing, check_by, asked_by, turn_by, scan_by, shown_by, unless_against_by, asking_by, ask_by, rows_by, carried_by}
use Rattle.laws.specs.Asked.{about, fixed}

-- ---- the calls by the reading that stands

pub check-stands : (s : List ℕ) → check_by standing s ≡ check_call s
unfolding check_by check_call standing
check-stands s = refl

pub ask_stands : (c : Call) → ask_by standing c ≡ ask_call c
unfolding ask_by ask_call asking_by asking unless_against_by unless_against walk_of standing
ask_stands c = refl

pub rows-stands : (binders output : List ℕ) (c : Call) → rows_by standing binders output c ≡ rows_call binders output c
unfolding rows_by rows_call asking_by asking unless_against_by unless_against walk_of standing
rows-stands binders output c = refl

shown-stands : (c : Case) (log : ℕ → Point) (i : ℕ) (row : Row) (l : Limits) (look : Option Look) → shown_by (meaning c) log i row l look ≡ shown_at c log i row l look
unfolding shown_by shown_at scan_by scan_of turn_by turn_at asked_by asked_at seen_from
shown-stands c log i row l none = refl
shown-stands c log i row l (some (formerly within n)) = refl
shown-stands c log i row l (some (previous within n)) = refl
shown-stands c log i row l (some (since left right within)) = refl

pub carried-stands : (list : List ℕ) (c : Call) → carried_by standing list c ≡ carried_call list c
unfolding carried_by carried_call unless_against_by unless_against standing
carried-stands list c = cc (shown-stands (case_of c.file) (point_at c.file) c.point (start_or (start_row c.file (vars c.file) c.start)) c.limits (look_of (node_at c.file c.node)))

-- ---- two readings

-- they agree on a call's file: on its check, and where it passes and the point is there, on every question about the point
pub record Agree (r r' : Reading) (c : Call) : Type 0 where
  pub check : r.check c.file ≡ r'.check c.file
  pub means : c.point < points c.file → (n : ℕ) → fixed (point_at c.file c.point) (r.means c.file n) ≡ fixed (point_at c.file c.point) (r'.means c.file n)

-- 7 comes before the walk
at-point : {A : Type 0} (wanted : Node → Bool) (c : Call) (x y : Said A) → (c.point < points c.file → x ≡ y) → unless_refused (against wanted c) x ≡ unless_refused (against wanted c) y
unfolding against choose
at-point wanted c x y e = go (ltb c.point (points c.file)) refl
  where
    go : (b : Bool) → ltb c.point (points c.file) ≡ b → unless_refused (against wanted c) x ≡ unless_refused (against wanted c) y
    go true q = ap (unless_refused (against wanted c)) (e (ltb-true _ _ q))
    go false q =
        let out : against wanted c ≡ some NoSuchPoint = rw q refl in
        rw out (unfold unless_refused in refl)

module _ (r r' : Reading) (c : Call) (same : Agree r r' c) where
  against-same : {A : Type 0} (wanted : Node → Bool) (x y : Said A) → (c.point < points c.file → x ≡ y) → unless_against_by r wanted c x ≡ unless_against_by r' wanted c y
  unfolding unless_against_by
  against-same wanted x y e = ap₂ unless_refused same.check (at-point wanted c x y e)

  verdict-same : (wanted : Node → Bool) → asking_by r wanted (λ m q. m.verdict q) c ≡ asking_by r' wanted (λ m q. m.verdict q) c
  unfolding asking_by question about fixed
  verdict-same wanted =
      against-same wanted _ _ (λ h. ap (λ (m : Meaning). told (outcome c.limits started (m.verdict (question (point_at c.file) c.point (start_or (start_row c.file (vars c.file) c.start)))))) (same.means h c.node))

  number_same : (wanted : Node → Bool) → asking_by r wanted (λ m q. m.number q) c ≡ asking_by r' wanted (λ m q. m.number q) c
  unfolding asking_by question about fixed
  number_same wanted =
      against-same wanted _ _ (λ h. ap (λ (m : Meaning). told (outcome c.limits started (m.number (question (point_at c.file) c.point (start_or (start_row c.file (vars c.file) c.start)))))) (same.means h c.node))

  rows_same : (wanted : Node → Bool) → asking_by r wanted (λ m q. m.rows q) c ≡ asking_by r' wanted (λ m q. m.rows q) c
  unfolding asking_by question about fixed
  rows_same wanted =
      against-same wanted _ _ (λ h. ap (λ (m : Meaning). told (outcome c.limits started (m.rows (question (point_at c.file) c.point (start_or (start_row c.file (vars c.file) c.start)))))) (same.means h c.node))

  -- so do the calls

  pub check_agrees : check_by r c.file ≡ check_by r' c.file
  unfolding check_by
  check_agrees = cc same.check

  pub ask_agrees : ask_by r c ≡ ask_by r' c
  unfolding ask_by
  ask_agrees = cc (number_same answerable, verdict-same answerable)

  pub rows_agree : (binders output : List ℕ) → rows_by r binders output c ≡ rows_by r' binders output c
  unfolding rows_by
  rows_agree binders output = ap (rows_given c binders output) (rows_same is_condition)

  asked-same : (row : Row) (l : Limits) → c.point < points c.file → asked_by (r.means c.file) (point_at c.file) c.point row l ≡ asked_by (r'.means c.file) (point_at c.file) c.point row l
  unfolding asked_by question earlier about fixed
  asked-same row l h =
      fun_ext (λ n. fun_ext (λ j. ap (λ (m : Meaning). outcome l started (m.verdict (earlier (question (point_at c.file) c.point row) (firsts (point_at c.file) (suc j))))) (same.means h n)))

  shown-same : (row : Row) (l : Limits) (look : Option Look) → c.point < points c.file → shown_by (r.means c.file) (point_at c.file) c.point row l look ≡ shown_by (r'.means c.file) (point_at c.file) c.point row l look
  unfolding shown_by scan_by turn_by
  shown-same row l none h = refl
  shown-same row l (some (formerly within n)) h =
      ap (λ (f : ℕ → ℕ → Outcome Bool). shown (formerly within n) c.point (down (λ j. in_window (seconds within) (point_at c.file c.point).time (point_at c.file j).time) (λ j. body_turn (f n j)) (suc c.point))) (asked-same row l h)
  shown-same row l (some (previous within n)) h =
      ap (λ (f : ℕ → ℕ → Outcome Bool). shown (previous within n) c.point (before (λ j. in_window (seconds within) (point_at c.file c.point).time (point_at c.file j).time) (λ j. body_turn (f n j)) c.point)) (asked-same row l h)
  shown-same row l (some (since left right within)) h =
      ap (λ (f : ℕ → ℕ → Outcome Bool). shown (since left right within) c.point (down (λ j. in_window (seconds within) (point_at c.file c.point).time (point_at c.file j).time) (λ j. anchor_turn (f right j) (left_from (f left) (suc j) (c.point - j))) (suc c.point))) (asked-same row l h)

  pub carried_agrees : (list : List ℕ) → carried_by r list c ≡ carried_by r' list c
  unfolding carried_by
  carried_agrees list =
      cc (against-same looks_back _ _ (shown-same (start_or (start_row c.file (vars c.file) c.start)) c.limits (look_of (node_at c.file c.node))))
