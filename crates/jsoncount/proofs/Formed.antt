-- What a form counts: its strings, and one value
use mathlib.Core.Path.{◌≡◌, sym, ap, ◌∙◌}
use mathlib.Core.Bool.{Bool, true, false}
use mathlib.Core.List.{List}
use Prim.Native.Nat.{ℕ}
use lib.ListN.{drop}
use Rattle.jsontext.specs.Strings.{string}
use Rattle.jsontrace.specs.Count.{◌⊞◌, a_string, a_value, counted}
use Rattle.jsonruns.specs.declared.Two.{Two}
use Rattle.jsonruns.specs.Good.{Good}
use Rattle.jsonruns.specs.Forms.{form_read, form_of, TwoTold}
use Rattle.jsoncount.specs.declared.tallies.Tally.{Tally}
use Rattle.jsoncount.specs.Tally.{Adds, CountedTo}
use Rattle.jsoncount.proofs.Sums.{adds_then, adds-as}

decimal-counts : {x : Bool} (a b : List ℕ) → x ≡ true → a_string b ⊞ a_value ≡ counted (form_of x a b)
unfolding form_of counted
decimal-counts a b e = rw e

entity-counts : {x : Bool} (a b : List ℕ) → x ≡ false → a_string a ⊞ a_string b ⊞ a_value ≡ counted (form_of x a b)
unfolding form_of counted
entity-counts a b e = rw e

module _ (x : Bool) {line : List ℕ} {at : ℕ} (g : Good line at (form_read x (drop at line))) {two : Two} (o : TwoTold line at x two (form_read x (drop at line))) where
  pub first_good : Good line two.first (string (drop two.first line))
  first_good = let y = (o.two g.what g.rest g.is).first in record { what = _; rest = y.rest; within = y.within; is = y.is }

  pub second-good : Good line two.second (string (drop two.second line))
  second-good = let y = (o.two g.what g.rest g.is).second in record { what = _; rest = y.rest; within = y.within; is = y.is }

  pub decimal-told : {t q u v : Tally} {k : ℕ} → x ≡ true → q ≡ t → CountedTo line two.second q u k (string (drop two.second line)) a_string → Adds u a_value v → CountedTo line at t v two.end (form_read x (drop at line)) counted
  decimal-told {t} h z p l = record {
    from = o.from;
    within = o.within;
    is = o.is;
    adds =
        λ j rest e.
        let y = o.two j rest e in
        adds-as (decimal-counts y.one y.other h ∙ ap counted (sym y.is)) (adds_then (rw z at (p.adds y.other y.second.rest y.second.is)) l);
  }

  pub entity-told : {t q q' u v : Tally} {j k : ℕ} → x ≡ false → CountedTo line two.first t q j (string (drop two.first line)) a_string → q' ≡ q → CountedTo line two.second q' u k (string (drop two.second line)) a_string → Adds u a_value v → CountedTo line at t v two.end (form_read x (drop at line)) counted
  entity-told h s z p l = record {
    from = o.from;
    within = o.within;
    is = o.is;
    adds =
        λ j rest e.
        let y = o.two j rest e in
        adds-as (entity-counts y.one y.other h ∙ ap counted (sym y.is)) (adds_then (s.adds y.one y.first.rest y.first.is) (adds_then (rw z at (p.adds y.other y.second.rest y.second.is)) l));
  }
