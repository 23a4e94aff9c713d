-- A rule for each way on and out of a scan
use Prim.Native.Nat.{ℕ, zero, suc, ◌+◌, ◌-◌, ◌*◌, ◌≤◌, ◌<◌}
use mathlib.Core.Path.{◌≡◌, refl, ap, sym, subst, ◌∙◌}
use mathlib.Core.Bool.{Bool, true, false}
use mathlib.Core.List.{List, [], ◌∷◌, ◌++◌, append_assoc, append-nil}
use mathlib.Core.Logic.{inl, inr}
use native.Mathlib.Omega.{arith}
use native.Mathlib.Numerals.{add-one}
use lib.ListN.{length, take, drop, set, length-set, length-append}
use lib.IntN.{ℤ}
use mir.Val.{to_z}
use mir.Syntax.{w64}
use Rattle.meaning.specs.declared.Env.{Env}
use Rattle.meaning.specs.declared.Meter.{Meter}
use Rattle.meaning.specs.declared.Interval.{Interval}
use Rattle.meaning.specs.declared.NodeNo.{NodeNo}
use Rattle.meaning.specs.declared.Window.{Window}
use Rattle.meaning.specs.declared.Window.TheVariants.{Inside, TooOld, Later}
use Rattle.meaning.specs.Tests.{choose}
use Rattle.meaning.specs.Walk.{started, Outcome}
use Rattle.meaning.specs.Number.{seconds, in_window, window}
use Rattle.laws.specs.Window.{is_inside, inside_is}
use Rattle.meaning.specs.Case.{point_at}
use Rattle.meaning.specs.Carried.{at, nowhere, stopped, ending, passes, met, down, before, body_turn, previous, seen_from, turn_at, scan_of}
use Rattle.meaning.specs.Carried.{End as ScanEnd, Scan as ScanOf, Turn as TurnOf}
use Rattle.std.specs.Prelude.{Result, Ok, Err, Option as Answer, Some, None}
use Rattle.std.proofs.Common.{◌⊎◌}
use Rattle.rows.specs.declared.Stopped.{Stopped}
use Rattle.matching.specs.Asking.{at_if, point_before}
use Rattle.evaluator.specs.declared.Call.{Call}
use Rattle.evaluator.specs.Asks.{Verdict, said_verdict, Ready}
use Rattle.carried.specs.declared.Look.{Look}
use Rattle.carried.specs.declared.Look.TheVariants as Loo
use Rattle.carried.specs.declared.Turn.{Turn}
use Rattle.carried.specs.declared.Turn.TheVariants as Tur
use Rattle.carried.specs.declared.Scan.{Scan}
use Rattle.carried.specs.Shows.{as_look, as_turn, as_point, as_end, end_of, window_in, asks_at, turn_in, down_in, scan_in, laid, PutTwo, Asks, Turns, Scanned, Downed, Backed, Known, Precedes}
use Rattle.carried.proofs.Laid.{laid-two}
use Rattle.carried.proofs.Asked.{ready-next}

-- ---- down: these anchors failed so far, and the rest is the scan from here

abbrev on : List ℕ → ScanOf → ScanOf
on so scan = record { end = scan.end; failed = so ++ scan.failed }

same-failed : {end : Answer ℕ} {failed : ℕ} (k : Scan) → ◌≡◌ {A = Result Scan Stopped} (Ok (record { end = end; failed = failed })) (Ok k) → k.failed ≡ failed
same-failed {end} {failed} k q = let e : ◌≡◌ {A = Scan} (record { end = end; failed = failed }) k = cc in sym (ap (λ (k : Scan). k.failed) e)

none-failed : {z : Stopped} {n : ℕ} (k : Scan) → ◌≡◌ {A = Result Scan Stopped} (Err z) (Ok k) → k.failed ≡ n
none-failed k q = cc

-- the window by its length in seconds
abbrev down_by : List ℕ → Call → Env → Look → ℕ → ℕ → ScanOf
down_by s c e look span n =
    down (λ j. in_window (to_z w64 span) (point_at s c.asked).time (point_at s j).time) (λ j. turn_in s c e (as_look look) j) n

down_is : (s : List ℕ) (c : Call) (e : Env) (look : Look) (within : Interval) (span : ℕ) → within ≡ window_in (as_look look) → to_z w64 span ≡ seconds within → down_in s c e (as_look look) ≡ down_by s c e look span (suc c.asked)
unfolding seen_from
down_is s c e look within span ew es =
    ap (λ (z : ℤ). down (λ j. in_window z (point_at s c.asked).time (point_at s j).time) (λ j. turn_in s c e (as_look look) j) (suc c.asked)) (ap seconds (sym ew) ∙ sym es)

pub record Downs (s : List ℕ) (c : Call) (e : Env) (look : Look) (span : ℕ) (b₀ l₀ : List ℕ) (n failed : ℕ) (b l : List ℕ) : Type 0 where
  pub le : n ≤ c.asked + 1
  pub room : failed + 2 * n ≤ 2 * c.asked + 2
  pub same : length b ≡ length b₀
  pub same-list : length l ≡ length l₀
  pub ready : Ready s c e started b
  pub so : List ℕ
  pub long : failed ≡ length so
  pub lies : l ≡ laid so l₀
  pub is : down_by s c e look span (suc c.asked) ≡ on so (down_by s c e look span n)

pub downs_start : {s : List ℕ} {c : Call} {e : Env} {look : Look} {span : ℕ} {b l : List ℕ} → Ready s c e started b → Downs s c e look span b l (c.asked + 1) 0 b l
unfolding laid
downs_start {s} {c} {e} {look} {span} ready = record {
  le = omega arith;
  room = omega arith;
  same = refl;
  same-list = refl;
  ready = ready;
  so = [];
  long = refl;
  lies = refl;
  is = ap (down_by s c e look span) (sym (add-one c.asked));
}

module _ {s : List ℕ} {c : Call} {e : Env} {look : Look} {span : ℕ} {b₀ l₀ : List ℕ} {n failed : ℕ} {b l : List ℕ} (g : Downs s c e look span b₀ l₀ n failed b l) where
  -- it ends here
  ended : (within : Interval) → within ≡ window_in (as_look look) → to_z w64 span ≡ seconds within → (x : ScanEnd) (r : Result Scan Stopped) → end_of r ≡ x → ((k : Scan) → r ≡ Ok k → k.failed ≡ failed) → down_by s c e look span n ≡ ending x → Downed s c e look l₀ l r
  ended within ew es x r ey ef e' =
      let w : down_in s c e (as_look look) ≡ on g.so (ending x) = down_is s c e look within span ew es ∙ g.is ∙ ap (on g.so) e' in
      let f : (down_in s c e (as_look look)).failed ≡ g.so = ap (λ (k : ScanOf). k.failed) w ∙ append-nil g.so in
      record {
        scanned = record {
          settled = record { end = ey ∙ sym (ap (λ (k : ScanOf). k.end) w); failed = λ q. ef _ q ∙ g.long ∙ sym (ap length f) };
          lies = g.lies ∙ sym (ap (λ (so : List ℕ). laid so l₀) f);
        };
      }

  pub downs_none : (within : Interval) → within ≡ window_in (as_look look) → to_z w64 span ≡ seconds within → n ≤ 0 → Downed s c e look l₀ l (Ok (record { end = None; failed = failed }))
  unfolding end_of as_point down
  downs_none within ew es z = let k : n ≡ 0 = omega arith in ended within ew es nowhere (Ok (record { end = None; failed = failed })) refl same-failed (ap (down_by s c e look span) k)

  pub downs_room : c.asked < 16384 → failed ≤ 65536
  downs_room lt = omega (arith, g.room)

  pub downs_below : 0 < n → n - 1 ≤ c.asked
  downs_below lt = omega (arith, g.le)

  module _ (some_left : 0 < n) (here then : ℕ) (eh : to_z w64 here ≡ (point_at s c.asked).time) (et : to_z w64 then ≡ (point_at s (n - 1)).time) {w : Window} (ew : w ≡ window (to_z w64 span) (to_z w64 here) (to_z w64 then)) where
    abbrev lower : ScanOf
    lower = down_by s c e look span (n - 1)

    seen-is : is_inside w ≡ in_window (to_z w64 span) (point_at s c.asked).time (point_at s (n - 1)).time
    seen-is =
        ap is_inside ew
        ∙ inside_is (to_z w64 span) (to_z w64 here) (to_z w64 then)
        ∙ ap (λ (a : ℤ). in_window (to_z w64 span) a (to_z w64 then)) eh
        ∙ ap (λ (a : ℤ). in_window (to_z w64 span) (point_at s c.asked).time a) et

    point-is : {y : Bool} → is_inside w ≡ y → down_by s c e look span n ≡ choose y (met (n - 1) (turn_in s c e (as_look look) (n - 1)) lower) lower
    unfolding down
    point-is {y} h =
        let k : n ≡ suc (n - 1) = omega arith in
        ap (down_by s c e look span) k
        ∙ ap (λ (y : Bool). choose y (met (n - 1) (turn_in s c e (as_look look) (n - 1)) lower) lower) (sym seen-is ∙ h)

    skipped : is_inside w ≡ false → Downs s c e look span b₀ l₀ (n - 1) failed b l
    unfolding choose
    skipped h = record {
      le = omega (arith, g.le);
      room = omega (arith, g.room);
      same = g.same;
      same-list = g.same-list;
      ready = g.ready;
      so = g.so;
      long = g.long;
      lies = g.lies;
      is = g.is ∙ ap (on g.so) (point-is h);
    }

    pub downs_outside : (w ≡ TooOld) ⊎ (w ≡ Later) → Downs s c e look span b₀ l₀ (n - 1) failed b l
    unfolding is_inside
    downs_outside (inl q) = skipped (ap is_inside q)
    downs_outside (inr q) = skipped (ap is_inside q)

    module _ (q : w ≡ Inside) {t : Result Turn Stopped} (d : Turns s c e look (n - 1) t) where
      met-is : {k : Result Turn Stopped} → t ≡ k → down_by s c e look span n ≡ met (n - 1) (as_turn k) lower
      unfolding is_inside choose
      met-is h = point-is (ap is_inside q) ∙ ap (λ (k : TurnOf). met (n - 1) k lower) (sym d.is ∙ ap as_turn h)

      pub downs_passes : {v : Turn} {a : List ℕ} → t ≡ Ok v → v ≡ Tur.Passes → length a ≡ length b → Downs s c e look span b₀ l₀ (n - 1) failed a l
      unfolding as_turn met
      downs_passes h i len = record {
        le = omega (arith, g.le);
        room = omega (arith, g.room);
        same = len ∙ g.same;
        same-list = g.same-list;
        ready = ready-next g.ready len;
        so = g.so;
        long = g.long;
        lies = g.lies;
        is = g.is ∙ ap (on g.so) (met-is (h ∙ ap Ok i));
      }

      pub downs_carries : {v : Turn} (within : Interval) → within ≡ window_in (as_look look) → to_z w64 span ≡ seconds within → t ≡ Ok v → v ≡ Tur.Carries → Downed s c e look l₀ l (Ok (record { end = Some (n - 1); failed = failed }))
      unfolding as_turn end_of as_point met
      downs_carries within ew' es h i = ended within ew' es (at (n - 1)) (Ok (record { end = Some (n - 1); failed = failed })) refl same-failed (met-is (h ∙ ap Ok i))

      pub downs_refused : {z : Stopped} (within : Interval) → within ≡ window_in (as_look look) → to_z w64 span ≡ seconds within → t ≡ Err z → Downed s c e look l₀ l (Err z)
      unfolding as_turn end_of met
      downs_refused {z} within ew' es h = ended within ew' es (stopped z.refusal z.meter) (Err z) refl none-failed (met-is h)

      pub downs_fails : {v : Turn} {k : ℕ} {a l₂ : List ℕ} → t ≡ Ok v → v ≡ Tur.Fails k → length a ≡ length b → PutTwo l failed (n - 1) k l₂ → Downs s c e look span b₀ l₀ (n - 1) (failed + 2) a l₂
      unfolding as_turn met
      downs_fails {k = k} {a} {l₂} h i len put = record {
        le = omega (arith, g.le);
        room = omega (arith, g.room);
        same = len ∙ g.same;
        same-list = ap length put.is ∙ length-set (set l failed (n - 1)) (failed + 1) k ∙ length-set l failed (n - 1) ∙ g.same-list;
        ready = ready-next g.ready len;
        so = g.so ++ ((n - 1) ∷ (k ∷ []));
        long = omega (arith, g.long, length-append g.so ((n - 1) ∷ (k ∷ [])));
        lies =
            put.is ∙ ap (λ (r : List ℕ). set (set r failed (n - 1)) (failed + 1) k) g.lies
            ∙ laid-two g.so l₀ failed (n - 1) k g.long;
        is =
            g.is ∙ ap (on g.so) (met-is (h ∙ ap Ok i))
            ∙ ap (λ (r : List ℕ). record { end = lower.end; failed = r }) (sym (append_assoc g.so ((n - 1) ∷ (k ∷ [])) lower.failed));
      }

-- ---- the point before

abbrev at_earlier : (ℕ → TurnOf) → Answer ℕ → ScanOf
at_earlier turn (Some j) = met j (turn j) (ending nowhere)
at_earlier turn None = ending nowhere

before-as : (s : List ℕ) (within : Interval) (turn : ℕ → TurnOf) (i : ℕ) → before (λ j. in_window (seconds within) (point_at s i).time (point_at s j).time) turn i ≡ at_earlier turn (point_before s within i)
unfolding before point_before choose at_if
before-as s within turn zero = refl
before-as s within turn (suc j) = go (in_window (seconds within) (point_at s (suc j)).time (point_at s j).time)
  where
    go : (y : Bool) → choose y (met j (turn j) (ending nowhere)) (ending nowhere) ≡ at_earlier turn (at_if y j)
    go true = refl
    go false = refl

module _ (s : List ℕ) (c : Call) (e : Env) (x : ℕ) (within : Interval) {p : Answer ℕ} (ep : p ≡ point_before s within c.asked) where
  earlier-is : {k : Answer ℕ} → p ≡ k → scan_in s c e (previous within x) ≡ at_earlier (λ j. body_turn (asks_at s c e x j)) k
  unfolding scan_in scan_of turn_at seen_from
  earlier-is q = before-as s within (λ j. body_turn (asks_at s c e x j)) c.asked ∙ ap (at_earlier (λ j. body_turn (asks_at s c e x j))) (sym ep ∙ q)

  pub precedes_none : p ≡ None → Precedes s c e x within (Ok None)
  unfolding as_end as_point
  precedes_none q = record { is = earlier-is q }

  module _ {j : ℕ} (q : p ≡ Some j) {v : Verdict} (g : Asks s c e x j v) where
    body_is : {k : Verdict} → v ≡ k → scan_in s c e (previous within x) ≡ met j (body_turn (said_verdict k)) (ending nowhere)
    body_is h = earlier-is q ∙ ap (λ (o : Outcome Bool). met j (body_turn o) (ending nowhere)) (sym g.is ∙ ap said_verdict h)

    pub precedes_yes : {y : Bool} {m : Meter} → v ≡ Ok (y, m) → y ≡ true → Precedes s c e x within (Ok (Some j))
    unfolding as_end as_point met body_turn choose
    precedes_yes {m = m} h t = record { is = body_is (h ∙ ap (λ (y : Bool). Ok (y, m)) t) }

    pub precedes_no : {y : Bool} {m : Meter} → v ≡ Ok (y, m) → y ≡ false → Precedes s c e x within (Ok None)
    unfolding as_end as_point met body_turn choose
    precedes_no {m = m} h t = record { is = body_is (h ∙ ap (λ (y : Bool). Ok (y, m)) t) }

    pub precedes_stop : {z : Stopped} → v ≡ Err z → Precedes s c e x within (Err z)
    unfolding as_end met body_turn
    precedes_stop h = record { is = body_is h }

-- the point before is lower
before-low : (s : List ℕ) (within : Interval) (i : ℕ) {j : ℕ} → point_before s within i ≡ Some j → j ≤ i
unfolding point_before at_if
before-low s within zero q = let z : ◌≡◌ {A = ℕ} 0 1 = cc in omega arith
before-low s within (suc k) {j} q = go (in_window (seconds within) (point_at s (suc k)).time (point_at s k).time) q
  where
    go : (y : Bool) → at_if y k ≡ Some j → j ≤ suc k
    go true q = let z : k ≡ j = cc in omega arith
    go false q = let z : ◌≡◌ {A = ℕ} 0 1 = cc in omega arith

pub earlier-low : (s : List ℕ) (within : Interval) (i : ℕ) {p : Answer ℕ} {j : ℕ} → p ≡ point_before s within i → p ≡ Some j → i < 16384 → j < 16384
earlier-low s within i h q lt = omega (arith, before-low s within i (sym h ∙ q))

-- ---- a scan, by the node that looks back

-- whatever is no Previous scans down
pub back-down : {s : List ℕ} {c : Call} {e : Env} (look : Look) {l a : List ℕ} {r : Result Scan Stopped} → ((within : Interval) (x : NodeNo) → look ≡ Loo.Previous within x → ⊥) → Downed s c e look l a r → Backed s c e look l a r
unfolding as_look window_in scan_in scan_of turn_in
back-down (Loo.Formerly within x) h d = record { scanned = d.scanned }
back-down (Loo.Previous within x) h d = absurd (h within x refl)
back-down (Loo.Since x y within) h d = record { scanned = d.scanned }

nothing-failed : (scan : ScanOf) (l : List ℕ) (x : ScanEnd) (r : Result Scan Stopped) → end_of r ≡ x → ((k : Scan) → r ≡ Ok k → k.failed ≡ 0) → scan ≡ ending x → Scanned scan l l r
unfolding laid
nothing-failed scan l x r e ef h = record {
  settled = record { end = e ∙ sym (ap (λ (k : ScanOf). k.end) h); failed = λ q. ef _ q ∙ sym (ap (λ (k : ScanOf). length k.failed) h) };
  lies = sym (ap (λ (k : ScanOf). laid k.failed l) h);
}

module _ {s : List ℕ} {c : Call} {e : Env} {look : Look} (l : List ℕ) {within : Interval} {x : NodeNo} {v : Result (Answer ℕ) Stopped} (q : look ≡ Loo.Previous within x) (p : Precedes s c e x.0 within v) where
  previous-as : {k : Result (Answer ℕ) Stopped} → v ≡ k → scan_in s c e (as_look look) ≡ ending (as_end k)
  unfolding as_look
  previous-as h = ap (λ (k : Look). scan_in s c e (as_look k)) q ∙ p.is ∙ ap (λ (k : Result (Answer ℕ) Stopped). ending (as_end k)) h

  pub back-previous : {y : Answer ℕ} → v ≡ Ok y → Backed s c e look l l (Ok (record { end = y; failed = 0 }))
  unfolding as_end end_of
  back-previous {y} h = record { scanned = nothing-failed (scan_in s c e (as_look look)) l (as_point y) (Ok (record { end = y; failed = 0 })) refl same-failed (previous-as h) }

  pub back_stop : {z : Stopped} → v ≡ Err z → Backed s c e look l l (Err z)
  unfolding as_end end_of
  back_stop {z} h = record { scanned = nothing-failed (scan_in s c e (as_look look)) l (stopped z.refusal z.meter) (Err z) refl none-failed (previous-as h) }

-- ---- over no cell at all

pub settle_is : {s : List ℕ} {c : Call} {e : Env} {look : Look} (l p : List ℕ) {r : Result Scan Stopped} → Backed s c e look (take 0 l) p r → length p ≡ length (take 0 l) → Known s c e look l (p ++ drop 0 l) r
settle_is l p d len = record { settled = d.scanned.settled; same = go p len }
  where
    go : (p : List ℕ) → length p ≡ 0 → p ++ l ≡ l
    go [] e = refl
    go (x ∷ p) e = absurd (omega arith)
