-- What a path gives, searched for: at each object the longest name that joins the next names and leads to the path's end
use Rattle.std.specs.Prelude.{◌≡◌, Bool, take}
use Rattle.std.proofs.Math.Path.{refl, sym, ap, ap₂}
use Rattle.std.proofs.Common.{◌∙◌, subst, arith, take-append-drop, length-drop, take-take}
use Rattle.std.proofs.Math.Bool.{true, false}
use mathlib.Core.List.{List, [], ◌∷◌, ◌++◌, append_assoc, append-nil}
use Rattle.std.proofs.Math.Option.{Option, none, some}
use Prim.Native.Nat.{ℕ, zero, suc, ◌-◌, ◌+◌, ◌<◌, ◌≤◌}
use Rattle.std.proofs.Math.Dec.{eqb}
use Rattle.std.proofs.Math.ListN.{length, length-append, get_or, drop}
use Rattle.std.proofs.Math.Seq.{take-length, length-take-le}
use borrow.Author.Tests.{eqb-true, eqb-false, not-true}
use Rattle.meaning.specs.Below.{upto, made}
use Rattle.meaning.specs.Tests.{only_if, or_else}
use Rattle.meaning.specs.Text.{before, free}
use Rattle.meaning.specs.Case.{Case, Part}
use Rattle.meaning.specs.Equal.{same_list}
use Rattle.meaning.specs.Look.{members, Entries, dotted, writes, written, last_under, lookup}
use Rattle.laws.specs.Tests.{both}
use Rattle.laws.specs.Lists.{Every, every_map}
use Rattle.laws.specs.Text.{same-list, not_same, not_equal, same-behind, not-before}

-- names joined by dots
unfoldable pub joined : Case → List ℕ → List ℕ
joined c [] = []
joined c (n ∷ ns) = c.text n ++ dotted c ns

-- the member whose name has these bytes
unfoldable pub called : Case → List ℕ → List Part → Option ℕ
called c bytes [] = none
called c bytes (p ∷ ps) = elim (same_list (c.text p.name) bytes) [ true ↦ some p.value | false ↦ called c bytes ps ]

-- the search goes on below a member that is there
unfoldable pub onward : (ℕ → List ℕ → Option ℕ) → Option ℕ → List ℕ → Option ℕ
onward below none rest = none
onward below (some u) rest = below u rest

-- a member named by the next k names joined, and where it leads nowhere by fewer
unfoldable pub longest : Case → (ℕ → List ℕ → Option ℕ) → List Part → List ℕ → ℕ → Option ℕ
longest c below ps path zero = none
longest c below ps path (suc k) =
    or_else (onward below (called c (joined c (take (suc k) path)) ps) (drop (suc k) path)) (longest c below ps path k)

-- from value v: a path that has ended is there
unfoldable pub search_by : Case → (ℕ → List ℕ → Option ℕ) → ℕ → List ℕ → Option ℕ
search_by c below v [] = some v
search_by c below v (n ∷ ns) = longest c below (members (c.value v)) (n ∷ ns) (length (n ∷ ns))

unfoldable pub search : Case → ℕ → List ℕ → Option ℕ
search c = made (λ path. none) (search_by c)

-- ---- the search finds what was written last

pub or_none : {A : Type 0} (a : Option A) → or_else a none ≡ a
unfolding or_else
or_none none = refl
or_none (some x) = refl

or_assoc : {A : Type 0} (a b d : Option A) → or_else (or_else a b) d ≡ or_else a (or_else b d)
unfolding or_else
or_assoc none b d = refl
or_assoc (some x) b d = refl

last-append : (key : List ℕ) (xs ys : Entries) → last_under key (xs ++ ys) ≡ or_else (last_under key ys) (last_under key xs)
unfolding last_under
last-append key [] ys = sym (or_none _)
last-append key (x ∷ xs) ys =
    ap (λ (o : Option ℕ). or_else o (only_if (same_list x.0 key) x.1)) (last-append key xs ys)
    ∙ or_assoc (last_under key ys) (last_under key xs) (only_if (same_list x.0 key) x.1)

last_none : (key : List ℕ) (es : Entries) → Every (λ e. e.0 ≡ key → ⊥) es → last_under key es ≡ none
unfolding last_under only_if or_else
last_none key [] h = refl
last_none key (e ∷ es) h = rw (last_none key es h.1, not_same e.0 key h.0) refl

-- keys under a key: itself, or with a dot behind it
data Behind (key k : List ℕ) : Type 0 where
  itself : k ≡ key → Behind key k
  below : (r : List ℕ) → k ≡ key ++ (46 ∷ r) → Behind key k

-- the first k + 1 names joined are this text
record Joins (c : Case) (path t : List ℕ) : Type 0 where
  k : ℕ
  inside : k < length path
  is : t ≡ joined c (take (suc k) path)

-- names of members rise by their bytes
abbrev pub Rising : Case → List Part → Type 0
Rising c [] = Unit {0}
Rising c (p ∷ ps) = Every (λ q. before (c.text p.name) (c.text q.name) ≡ true) ps × Rising c ps

-- names hold no dot
abbrev pub Plain : Case → List ℕ → Type 0
Plain c path = Every (λ n. free 46 (c.text n) ≡ true) path

plain-drop : (c : Case) (k : ℕ) (path : List ℕ) → Plain c path → Plain c (drop k path)
plain-drop c zero path h = h
plain-drop c (suc k) [] h = tt
plain-drop c (suc k) (n ∷ ns) h = plain-drop c k ns h.1

module _ (c : Case) where
  -- ---- keys of paths

  dotted-append : (xs ys : List ℕ) → dotted c (xs ++ ys) ≡ dotted c xs ++ dotted c ys
  unfolding dotted
  dotted-append [] ys = refl
  dotted-append (x ∷ xs) ys =
      ap (λ (l : List ℕ). 46 ∷ c.text x ++ l) (dotted-append xs ys) ∙ ap (λ (l : List ℕ). 46 ∷ l) (sym (append_assoc (c.text x) (dotted c xs) (dotted c ys)))

  -- the key in two parts
  dotted-cut : (k n : ℕ) (ns : List ℕ) → dotted c (n ∷ ns) ≡ (46 ∷ joined c (take (suc k) (n ∷ ns))) ++ dotted c (drop (suc k) (n ∷ ns))
  unfolding joined dotted
  dotted-cut k n ns = ap (dotted c) (sym (take-append-drop (suc k) (n ∷ ns))) ∙ dotted-append (take (suc k) (n ∷ ns)) (drop (suc k) (n ∷ ns))

  -- fewer names joined begin more names joined
  joined-cut : (k n : ℕ) (ns : List ℕ) → joined c (n ∷ ns) ≡ joined c (take (suc k) (n ∷ ns)) ++ dotted c (drop (suc k) (n ∷ ns))
  unfolding joined dotted
  joined-cut k n ns =
      ap (λ (l : List ℕ). c.text n ++ l) (ap (dotted c) (sym (take-append-drop k ns)) ∙ dotted-append (take k ns) (drop k ns))
      ∙ sym (append_assoc (c.text n) (dotted c (take k ns)) (dotted c (drop k ns)))

  -- a text without a dot that begins a key is the key's first name, or the key goes on behind it
  meet : (x d t r : List ℕ) → free 46 x ≡ true → x ++ d ≡ t ++ (46 ∷ r) → (w : List ℕ) × (t ≡ x ++ w) × (d ≡ w ++ (46 ∷ r))
  unfolding free
  meet [] d t r h e = (t, refl, e)
  meet (a ∷ x) d [] r h e =
      let z : a ≡ 46 = ap (λ (l : List ℕ). get_or l 0 0) e in
      absurd (eqb-false a 46 (not-true (eqb a 46) (both _ _ h).0) z)
  meet (a ∷ x) d (b ∷ t) r h e =
      let z : a ≡ b = ap (λ (l : List ℕ). get_or l 0 0) e in
      let m = meet x d t r (both _ _ h).1 (ap (λ (l : List ℕ). drop 1 l) e) in
      (m.0, ap₂ (λ (y : ℕ) (l : List ℕ). y ∷ l) (sym z) m.1, m.2)

  joins-all : (n : ℕ) (ns t : List ℕ) → dotted c (n ∷ ns) ≡ 46 ∷ t → Joins c (n ∷ ns) t
  unfolding dotted joined
  joins-all n ns t e = record {
    k = length ns;
    inside = omega arith;
    is = sym (ap (λ (l : List ℕ). drop 1 l) e) ∙ ap (λ (l : List ℕ). c.text n ++ dotted c l) (sym (take-length ns));
  }

  -- a key under which a path's key was written ends where one of the path's names ends
  joins : (n : ℕ) (ns t : List ℕ) → Plain c (n ∷ ns) → Behind (46 ∷ t) (dotted c (n ∷ ns)) → Joins c (n ∷ ns) t
  unfolding dotted joined
  joins n [] t h b =
      go b
    where
      go : Behind (46 ∷ t) (dotted c (n ∷ [])) → Joins c (n ∷ []) t
      go (itself e) = joins-all n [] t e
      go (below r e) =
          let m = meet (c.text n) [] t r h.0 (ap (λ (l : List ℕ). drop 1 l) e) in
          let z : 0 ≡ length m.0 + suc (length r) = ap length m.2 ∙ length-append m.0 (46 ∷ r) in
          absurd (omega (arith, z))
  joins n (o ∷ os) t h b =
      go b (λ w b. joins o os w h.1 b)
    where
      on : (r w : List ℕ) → t ≡ c.text n ++ w → dotted c (o ∷ os) ≡ w ++ (46 ∷ r) → ((w : List ℕ) → Behind (46 ∷ w) (dotted c (o ∷ os)) → Joins c (o ∷ os) w) → Joins c (n ∷ o ∷ os) t
      on r [] et ed more = record { k = 0; inside = omega arith; is = et }
      on r (y ∷ w) et ed more =
          let z : 46 ≡ y = ap (λ (l : List ℕ). get_or l 0 0) ed in
          let j = more w (below r (ed ∙ ap (λ (x : ℕ). x ∷ w ++ (46 ∷ r)) (sym z))) in
          record {
            k = suc j.k;
            inside = omega (arith, j.inside);
            is = et ∙ ap₂ (λ (x : ℕ) (l : List ℕ). c.text n ++ (x ∷ l)) (sym z) j.is;
          }

      go : Behind (46 ∷ t) (dotted c (n ∷ o ∷ os)) → ((w : List ℕ) → Behind (46 ∷ w) (dotted c (o ∷ os)) → Joins c (o ∷ os) w) → Joins c (n ∷ o ∷ os) t
      go (itself e) more = joins-all n (o ∷ os) t e
      go (below r e) more =
          let m = meet (c.text n) (dotted c (o ∷ os)) t r h.0 (ap (λ (l : List ℕ). drop 1 l) e) in
          on r m.0 m.1 m.2 more

  -- ---- what is written

  abbrev W : ℕ → ℕ → List ℕ → Entries
  W = upto (λ key. []) (λ write v key. writes c write key (members (c.value v)) ++ ((key, v) ∷ []))

  -- a key's first part goes from every key that is written
  writes-shift : (write : ℕ → List ℕ → Entries) (a k rest : List ℕ) (ps : List Part) → ((v : ℕ) (k : List ℕ) → last_under (a ++ rest) (write v (a ++ k)) ≡ last_under rest (write v k)) → last_under (a ++ rest) (writes c write (a ++ k) ps) ≡ last_under rest (writes c write k ps)
  unfolding writes last_under
  writes-shift write a k rest [] h = refl
  writes-shift write a k rest (p ∷ ps) h =
      last-append (a ++ rest) (write p.value ((a ++ k) ++ (46 ∷ c.text p.name))) (writes c write (a ++ k) ps)
      ∙ ap₂ or_else (writes-shift write a k rest ps h) (ap (λ (l : List ℕ). last_under (a ++ rest) (write p.value l)) (append_assoc a k (46 ∷ c.text p.name)) ∙ h p.value (k ++ (46 ∷ c.text p.name)))
      ∙ sym (last-append rest (write p.value (k ++ (46 ∷ c.text p.name))) (writes c write k ps))

  shift : (b v : ℕ) (a k rest : List ℕ) → last_under (a ++ rest) (W b v (a ++ k)) ≡ last_under rest (W b v k)
  unfolding upto last_under
  shift zero v a k rest = refl
  shift (suc b) v a k rest =
      last-append (a ++ rest) (writes c (W b) (a ++ k) (members (c.value v))) ((a ++ k, v) ∷ [])
      ∙ ap₂ or_else (ap (λ (t : Bool). or_else none (only_if t v)) (same-behind a k rest)) (writes-shift (W b) a k rest (members (c.value v)) (λ u l. shift b u a l rest))
      ∙ sym (last-append rest (writes c (W b) k (members (c.value v))) ((k, v) ∷ []))

  behind-deeper : (key t k : List ℕ) → Behind (key ++ (46 ∷ t)) k → Behind key k
  behind-deeper key t k (itself e) = below t e
  behind-deeper key t k (below r e) = below (t ++ (46 ∷ r)) (e ∙ append_assoc key (46 ∷ t) (46 ∷ r))

  every_append : (P : List ℕ × ℕ → Type 0) (xs ys : Entries) → Every P xs → Every P ys → Every P (xs ++ ys)
  every_append P [] ys hx hy = hy
  every_append P (x ∷ xs) ys hx hy = (hx.0, every_append P xs ys hx.1 hy)

  writes-behind : (write : ℕ → List ℕ → Entries) (key : List ℕ) (ps : List Part) → ((v : ℕ) (k : List ℕ) → Every (λ e. Behind k e.0) (write v k)) → Every (λ e. Behind key e.0) (writes c write key ps)
  unfolding writes
  writes-behind write key [] h = tt
  writes-behind write key (p ∷ ps) h =
      every_append (λ e. Behind key e.0) (write p.value (key ++ (46 ∷ c.text p.name))) (writes c write key ps)
      (every_map (write p.value (key ++ (46 ∷ c.text p.name))) (λ e b. behind-deeper key (c.text p.name) e.0 b) (h p.value (key ++ (46 ∷ c.text p.name))))
      (writes-behind write key ps h)

  written_behind : (b v : ℕ) (key : List ℕ) → Every (λ e. Behind key e.0) (W b v key)
  unfolding upto
  written_behind zero v key = tt
  written_behind (suc b) v key =
      every_append (λ e. Behind key e.0) (writes c (W b) key (members (c.value v))) ((key, v) ∷ []) (writes-behind (W b) key (members (c.value v)) (written_behind b)) (itself refl, tt)

  -- ---- one member

  module _ (of : ℕ → List ℕ → Option ℕ) (n : ℕ) (ns : List ℕ) where
    -- what one member gives, by the next k names or fewer
    unfoldable pub taken : Part → ℕ → Option ℕ
    taken p zero = none
    taken p (suc k) = elim (same_list (c.text p.name) (joined c (take (suc k) (n ∷ ns)))) [ true ↦ of p.value (drop (suc k) (n ∷ ns)) | false ↦ taken p k ]

    -- where its name is longer, fewer names do not name it
    pub taken_none : (p : Part) (k : ℕ) → ((i : ℕ) → i < k → c.text p.name ≡ joined c (take (suc i) (n ∷ ns)) → ⊥) → taken p k ≡ none
    unfolding taken
    taken_none p zero h = refl
    taken_none p (suc k) h = rw (not_same (c.text p.name) (joined c (take (suc k) (n ∷ ns))) (h k (omega arith)), taken) (taken_none p k (λ i hi. h i (omega arith)))

    called-none : (bytes : List ℕ) (ps : List Part) → Every (λ q. c.text q.name ≡ bytes → ⊥) ps → called c bytes ps ≡ none
    unfolding called
    called-none bytes [] h = refl
    called-none bytes (q ∷ ps) h = rw (not_same (c.text q.name) bytes h.0, called) (called-none bytes ps h.1)

    pub longest-none : (ps : List Part) (k : ℕ) → ((i : ℕ) → i < k → Every (λ q. c.text q.name ≡ joined c (take (suc i) (n ∷ ns)) → ⊥) ps) → longest c of ps (n ∷ ns) k ≡ none
    unfolding longest onward or_else
    longest-none ps zero h = refl
    longest-none ps (suc k) h = rw (called-none (joined c (take (suc k) (n ∷ ns))) ps (h k (omega arith))) (longest-none ps k (λ i hi. h i (omega arith)))

    -- the first i + 1 of k + 1 names joined begin all of them
    begins : (i k : ℕ) → i ≤ k → joined c (take (suc k) (n ∷ ns)) ≡ joined c (take (suc i) (n ∷ ns)) ++ dotted c (drop (suc i) (take (suc k) (n ∷ ns)))
    begins i k h = joined-cut i n (take k ns) ∙ ap (λ (l : List ℕ). joined c (n ∷ l) ++ dotted c (drop i (take k ns))) (take-take i k ns h)

    -- fewer names joined are another text
    shorter : (i k : ℕ) → i < k → k ≤ length ns → joined c (take (suc k) (n ∷ ns)) ≡ joined c (take (suc i) (n ∷ ns)) → ⊥
    unfolding dotted
    shorter i k h l e = go (drop i (take k ns)) (length-drop i (take k ns)) (begins i k (omega arith))
      where
        go : (rest : List ℕ) → length rest ≡ length (take k ns) - i → joined c (take (suc k) (n ∷ ns)) ≡ joined c (take (suc i) (n ∷ ns)) ++ dotted c rest → ⊥
        go [] el eb = omega (arith, el, length-take-le k ns l)
        go (m ∷ rest) el eb =
            let z : length (joined c (take (suc i) (n ∷ ns))) ≡ length (joined c (take (suc i) (n ∷ ns))) + suc (length (c.text m ++ dotted c rest)) = ap length (sym e ∙ eb) ∙ length-append (joined c (take (suc i) (n ∷ ns))) (46 ∷ c.text m ++ dotted c rest) in
            omega (arith, z)

    -- names that rise behind the first k + 1 names joined are none of fewer names joined
    later : (t : List ℕ) (i k : ℕ) (ps : List Part) → i ≤ k → t ≡ joined c (take (suc k) (n ∷ ns)) → Every (λ q. before t (c.text q.name) ≡ true) ps → Every (λ q. c.text q.name ≡ joined c (take (suc i) (n ∷ ns)) → ⊥) ps
    later t i k ps h et up =
        every_map ps (λ q b e. no (c.text q.name) b e) up
      where
        no : (x : List ℕ) → before t x ≡ true → x ≡ joined c (take (suc i) (n ∷ ns)) → ⊥
        no x b e =
            let w : before (joined c (take (suc i) (n ∷ ns)) ++ dotted c (drop (suc i) (take (suc k) (n ∷ ns)))) (joined c (take (suc i) (n ∷ ns))) ≡ true = rw (et, begins i k h, e) at b in
            let z : ◌≡◌ {A = ℕ} 0 1 = cc (w, not-before (joined c (take (suc i) (n ∷ ns))) (dotted c (drop (suc i) (take (suc k) (n ∷ ns))))) in
            omega arith

    -- one member more, before the others
    pub one_more : (p : Part) (ps : List Part) → Every (λ q. before (c.text p.name) (c.text q.name) ≡ true) ps → (k : ℕ) → k ≤ suc (length ns) → longest c of (p ∷ ps) (n ∷ ns) k ≡ or_else (longest c of ps (n ∷ ns) k) (taken p k)
    unfolding longest taken or_else onward called
    one_more p ps up zero h = refl
    one_more p ps up (suc k) h =
        go (same_list (c.text p.name) (joined c (take (suc k) (n ∷ ns)))) refl (one_more p ps up k (omega arith))
      where
        J : List ℕ
        J = joined c (take (suc k) (n ∷ ns))

        rest : List ℕ
        rest = drop (suc k) (n ∷ ns)

        go : (b : Bool) → same_list (c.text p.name) J ≡ b → longest c of (p ∷ ps) (n ∷ ns) k ≡ or_else (longest c of ps (n ∷ ns) k) (taken p k) → or_else (onward of (elim b as (λ b. Option ℕ) [ true ↦ some p.value | false ↦ called c J ps ]) rest) (longest c of (p ∷ ps) (n ∷ ns) k) ≡ or_else (or_else (onward of (called c J ps) rest) (longest c of ps (n ∷ ns) k)) (elim b as (λ b. Option ℕ) [ true ↦ of p.value rest | false ↦ taken p k ])
        go true e ih =
            let et = same-list (c.text p.name) J e in
            let o = longest-none ps k (λ i hi. later (c.text p.name) i k ps (omega arith) et up) in
            let t = taken_none p k (λ i hi q. shorter i k hi (omega arith) (sym et ∙ q)) in
            let d = called-none J ps (later (c.text p.name) k k ps (omega arith) et up) in
            rw (ih, o, t, d) (or_none (of p.value rest))
        go false e ih = rw ih (sym (or_assoc (onward of (called c J ps) rest) (longest c of ps (n ∷ ns) k) (taken p k)))

  -- ---- all of them

  -- the search below, by what was written
  abbrev found : ℕ → ℕ → List ℕ → Option ℕ
  found b u path = last_under (dotted c path) (W b u [])

  module _ (b n : ℕ) (ns : List ℕ) (h : Plain c (n ∷ ns)) where
    -- what was written of one member, where more names than k do not name it
    member-gives : (p : Part) (k : ℕ) → ((i : ℕ) → k ≤ i → i < suc (length ns) → c.text p.name ≡ joined c (take (suc i) (n ∷ ns)) → ⊥) → last_under (dotted c (n ∷ ns)) (W b p.value (46 ∷ c.text p.name)) ≡ taken (found b) n ns p k
    unfolding taken
    member-gives p zero unlike =
        last_none (dotted c (n ∷ ns)) (W b p.value (46 ∷ c.text p.name))
        (every_map (W b p.value (46 ∷ c.text p.name)) (λ e r q. out e.0 r q) (written_behind b p.value (46 ∷ c.text p.name)))
      where
        out : (k : List ℕ) → Behind (46 ∷ c.text p.name) k → k ≡ dotted c (n ∷ ns) → ⊥
        out k r q =
            let j = joins n ns (c.text p.name) h (subst (Behind (46 ∷ c.text p.name)) q r) in
            unlike j.k (omega arith) j.inside j.is
    member-gives p (suc k) unlike =
        go (same_list (c.text p.name) (joined c (take (suc k) (n ∷ ns)))) refl (member-gives p k)
      where
        go : (t : Bool) → same_list (c.text p.name) (joined c (take (suc k) (n ∷ ns))) ≡ t → (((i : ℕ) → k ≤ i → i < suc (length ns) → c.text p.name ≡ joined c (take (suc i) (n ∷ ns)) → ⊥) → last_under (dotted c (n ∷ ns)) (W b p.value (46 ∷ c.text p.name)) ≡ taken (found b) n ns p k) → last_under (dotted c (n ∷ ns)) (W b p.value (46 ∷ c.text p.name)) ≡ elim t as (λ t. Option ℕ) [ true ↦ found b p.value (drop (suc k) (n ∷ ns)) | false ↦ taken (found b) n ns p k ]
        go true e ih =
            let et = same-list (c.text p.name) (joined c (take (suc k) (n ∷ ns))) e in
            let key : dotted c (n ∷ ns) ≡ (46 ∷ c.text p.name) ++ dotted c (drop (suc k) (n ∷ ns)) = dotted-cut k n ns ∙ ap (λ (l : List ℕ). (46 ∷ l) ++ dotted c (drop (suc k) (n ∷ ns))) (sym et) in
            let under : W b p.value (46 ∷ c.text p.name) ≡ W b p.value ((46 ∷ c.text p.name) ++ []) = ap (W b p.value) (sym (append-nil (46 ∷ c.text p.name))) in
            ap₂ last_under key under ∙ shift b p.value (46 ∷ c.text p.name) [] (dotted c (drop (suc k) (n ∷ ns)))
        go false e ih = ih (λ i low high. except i low high (eqb i k) refl)
          where
            except : (i : ℕ) → k ≤ i → i < suc (length ns) → (t : Bool) → eqb i k ≡ t → c.text p.name ≡ joined c (take (suc i) (n ∷ ns)) → ⊥
            except i low high true ei = λ q. not_equal (c.text p.name) (joined c (take (suc k) (n ∷ ns))) e (q ∙ ap (λ (i : ℕ). joined c (take (suc i) (n ∷ ns))) (eqb-true i k ei))
            except i low high false ei = unlike i (omega (arith, eqb-false i k ei)) high

    members-give : (ps : List Part) → Rising c ps → last_under (dotted c (n ∷ ns)) (writes c (W b) [] ps) ≡ longest c (found b) ps (n ∷ ns) (length (n ∷ ns))
    unfolding writes last_under
    members-give [] up = sym (longest-none (found b) n ns [] (length (n ∷ ns)) (λ i hi. tt))
    members-give (p ∷ ps) up =
        last-append (dotted c (n ∷ ns)) (W b p.value (46 ∷ c.text p.name)) (writes c (W b) [] ps)
        ∙ ap₂ or_else (members-give ps up.1) (member-gives p (length (n ∷ ns)) (λ i low high q. omega arith))
        ∙ sym (one_more (found b) n ns p ps up.0 (length (n ∷ ns)) (omega arith))

  -- the search goes by what is found below, of names behind the first
  longest-same : (f g : ℕ → List ℕ → Option ℕ) (ps : List Part) (path : List ℕ) → ((u k : ℕ) → f u (drop (suc k) path) ≡ g u (drop (suc k) path)) → (k : ℕ) → longest c f ps path k ≡ longest c g ps path k
  unfolding longest
  longest-same f g ps path e zero = refl
  longest-same f g ps path e (suc k) =
      ap₂ or_else (go (called c (joined c (take (suc k) path)) ps)) (longest-same f g ps path e k)
    where
      go : (o : Option ℕ) → onward f o (drop (suc k) path) ≡ onward g o (drop (suc k) path)
      go none = unfold onward in refl
      go (some u) = unfold onward in e u k

  module _ (up : (v : ℕ) → Rising c (members (c.value v))) where
    found-is : (b v : ℕ) (path : List ℕ) → Plain c path → found b v path ≡ upto (λ path. none) (search_by c) b v path
    unfolding upto search_by last_under dotted same_list only_if or_else
    found-is zero v path h = refl
    found-is (suc b) v [] h = last-append [] (writes c (W b) [] (members (c.value v))) (([], v) ∷ [])
    found-is (suc b) v (n ∷ ns) h =
        last-append (dotted c (n ∷ ns)) (writes c (W b) [] (members (c.value v))) (([], v) ∷ [])
        ∙ members-give b n ns h (members (c.value v)) (up v)
        ∙ longest-same (found b) (upto (λ path. none) (search_by c) b) (members (c.value v)) (n ∷ ns) (λ u k. found-is b u (drop k ns) (plain-drop c k ns h.1)) (length (n ∷ ns))

    pub written-is-searched : (v : ℕ) (path : List ℕ) → Plain c path → lookup c v path ≡ search c v path
    unfolding lookup written search made
    written-is-searched v path h = found-is (suc v) v path h
