-- What is added to a tally
use mathlib.Core.Path.{◌≡◌, refl, ap, ◌∙◌}
use mathlib.Core.Bool.{Bool, true, false}
use mathlib.Core.List.{List}
use Prim.Native.Nat.{ℕ, ◌+◌, ◌-◌, ◌^◌, ◌<◌, ◌≤◌, min}
use native.Mathlib.Omega.{arith}
use lib.Dec.{leb}
use lib.ListN.{drop}
use borrow.Author.Tests.{leb-true, leb-false, le-leb, lt-leb}
use Rattle.meaning.specs.Tests.{choose}
use Rattle.jsontext.specs.Strings.{string}
use Rattle.jsontrace.specs.Count.{◌⊞◌, a_string, a_value, a_member, a_point, list_words}
use Rattle.jsonspelt.specs.declared.Spelt.{Spelt}
use Rattle.jsonspelt.specs.Spelt.{SpeltTold}
use Rattle.jsonruns.specs.Good.{Good}
use Rattle.jsoncount.specs.declared.tallies.Tally.{Tally}
use Rattle.jsoncount.specs.Tally.{capped, Raised, Adds, CountedTo}

-- ---- a capped number

capped-low : (n : ℕ) → n ≤ 4294967295 → capped n ≡ n
unfolding capped choose
capped-low n h = rw (le-leb n 4294967295 h)

capped-high : (n : ℕ) → 4294967295 < n → capped n ≡ 4294967296
unfolding capped choose
capped-high n h = rw (lt-leb n 4294967295 h)

capped-min : (n : ℕ) → capped n ≡ min n 4294967296
capped-min n = go (leb n 4294967295) refl
  where
    go : (x : Bool) → leb n 4294967295 ≡ x → capped n ≡ min n 4294967296
    go true q = omega (arith, leb-true n 4294967295 q, capped-low n (leb-true n 4294967295 q))
    go false q = omega (arith, leb-false n 4294967295 q, capped-high n (leb-false n 4294967295 q))

pub raised-is : {n by s : ℕ} → s ≡ min (n + by) (2 ^ 64 - 1) → Raised n by (min s 4294967296)
raised-is {n} {by} {s} h = record { is = λ m e. omega (arith, h, e, capped-min m, capped-min (m + by)) }

-- ---- a tally

still : (n : ℕ) {a : ℕ} → a ≡ capped n → a ≡ capped (n + 0)
still n e = e ∙ ap capped (omega arith)

module _ {t : Tally} {x : ℕ} where
  pub value-added : Raised t.values 1 x → Adds t a_value (record { strings = t.strings; bytes = t.bytes; values = x; members = t.members; points = t.points; lists = t.lists })
  unfolding a_value ◌⊞◌
  value-added r = record { shows = λ c h. record { strings = still c.strings h.strings; bytes = still c.bytes h.bytes; values = r.is c.values h.values; members = still c.members h.members; points = still c.points h.points; lists = still c.lists h.lists } }

  pub member-added : Raised t.members 1 x → Adds t a_member (record { strings = t.strings; bytes = t.bytes; values = t.values; members = x; points = t.points; lists = t.lists })
  unfolding a_member ◌⊞◌
  member-added r = record { shows = λ c h. record { strings = still c.strings h.strings; bytes = still c.bytes h.bytes; values = still c.values h.values; members = r.is c.members h.members; points = still c.points h.points; lists = still c.lists h.lists } }

  pub point-added : Raised t.points 1 x → Adds t a_point (record { strings = t.strings; bytes = t.bytes; values = t.values; members = t.members; points = x; lists = t.lists })
  unfolding a_point ◌⊞◌
  point-added r = record { shows = λ c h. record { strings = still c.strings h.strings; bytes = still c.bytes h.bytes; values = still c.values h.values; members = still c.members h.members; points = r.is c.points h.points; lists = still c.lists h.lists } }

  pub lists-added : {n : ℕ} → Raised t.lists n x → Adds t (list_words n) (record { strings = t.strings; bytes = t.bytes; values = t.values; members = t.members; points = t.points; lists = x })
  unfolding list_words ◌⊞◌
  lists-added r = record { shows = λ c h. record { strings = still c.strings h.strings; bytes = still c.bytes h.bytes; values = still c.values h.values; members = still c.members h.members; points = still c.points h.points; lists = r.is c.lists h.lists } }

  pub string-added : {y at : ℕ} {line : List ℕ} {s : Spelt} → Good line at (string (drop at line)) → SpeltTold line at s → Raised t.strings 1 x → Raised t.bytes s.bytes y → CountedTo line at t (record { strings = x; bytes = y; values = t.values; members = t.members; points = t.points; lists = t.lists }) s.end (string (drop at line)) a_string
  unfolding a_string ◌⊞◌
  string-added {s = s} g p r q =
      let k = p g.what g.rest g.is in
      record {
        from = omega (arith, k.from);
        within = k.within;
        is = λ what rest e. (p what rest e).is;
        adds = λ what rest e. record { shows = λ c h. record { strings = r.is c.strings h.strings; bytes = q.is c.bytes h.bytes ∙ ap (λ (n : ℕ). capped (c.bytes + n)) (p what rest e).many; values = still c.values h.values; members = still c.members h.members; points = still c.points h.points; lists = still c.lists h.lists } };
      }
