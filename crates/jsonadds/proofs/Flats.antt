-- Strings, names, forms, and values that hold no other
use mathlib.Core.Path.{◌≡◌, refl, sym, ap, subst, ◌∙◌}
use mathlib.Core.Bool.{Bool, true, false}
use mathlib.Core.List.{List, [], ◌∷◌}
use Prim.Native.Nat.{ℕ, ◌+◌, ◌*◌, ◌<◌, ◌≤◌}
use native.Mathlib.Omega.{arith}
use lib.ListN.{length, drop, get_or, length-append}
use mir.Val.{Fits}
use mir.Syntax.{w32}
use Rattle.encode.specs.Encode.{flat}
use Rattle.jsontext.specs.Reading.{got, mapped, blanks}
use Rattle.jsontext.specs.Strings.{string}
use Rattle.jsontext.specs.Values.{J, Text}
use Rattle.jsontrace.specs.Order.{ordered}
use Rattle.jsontrace.specs.Trace.{Tables, ◌⊕◌, texts, value as value·Trace, Next as Next-as_Trace, value_adds}
use Rattle.jsontrace.proofs.Laws.Trace.{shaped-texts, shaped-value}
use Rattle.jsonroom.specs.declared.Bodies.{Bodies}
use Rattle.jsonroom.specs.declared.Next.{Next}
use Rattle.jsonroom.specs.Put.{ValuePut, StringRoom, StringPut}
use Rattle.jsonparts.specs.Flat.{scalar}
use Rattle.jsonruns.specs.declared.Two.{Two}
use Rattle.jsonruns.specs.Good.{Good, Ends, Signed, Past}
use Rattle.jsonruns.specs.Forms.{form_read, form_of, TwoIs, TwoTold}
use Rattle.jsoncount.proofs.Flat.{flat-below, text-is}
use Rattle.jsonview.specs.Room.{Ready, Adds, numbers}
use Rattle.jsonview.specs.Showing.{grown-string}
use Rattle.jsonview.proofs.Adding.{ready-first, ready-second, adds_then}
use Rattle.jsonview.proofs.Rows.{ready-values, ready-strings, ready-text, string-words}
use Rattle.jsonadds.specs.declared.Flat.{Flat}
use Rattle.jsonadds.specs.Place.{Due, WroteTo, value_tables, name_tables, NameDue, NameWritten, TwoDue, TwoWritten, FlatDue, FlatTold}
use Rattle.jsonadds.proofs.Values.{due-from, wrote-from, due-at, wrote_at, value-adds}

-- ---- a string

module _ {line : List ℕ} {at : ℕ} {file : List ℕ} {b : Bodies} {n : Next} (d : Due line at (string (drop at line)) file b n name_tables) where
  pub text-room : StringRoom line at file b n
  unfolding texts flat
  text-room = record {
    fits = record { text = d.what; rest = d.rest; within = d.within; is = d.is; room = omega (arith, ready-text d.ready, length-append d.what []) };
    record_fits = omega (arith, ready-strings d.ready);
    words = d.ready.words;
  }

  pub text-wrote : {after : List ℕ} {r-next : Next} {r-end : ℕ} → StringPut line at file after b n r-next r-end → WroteTo line at (string (drop at line)) file after b n name_tables r-next r-end
  text-wrote p =
      let s = p d.what d.rest d.is in
      record {
        from = omega (arith, s.from);
        within = s.within;
        is = λ what rest f. (p what rest f).rest-is;
        adds = λ what rest f r w g. grown-string w g (p what rest f);
      }

-- ---- a name

module _ {line : List ℕ} {at : ℕ} {file : List ℕ} {b : Bodies} {n : Next} (d : NameDue line at file b n) where
  pub name-text : Due line at (string (drop at line)) file b n name_tables
  name-text = d.due

  module _ {after : List ℕ} {s-next : Next} {s-end : ℕ} (p : WroteTo line at (string (drop at line)) file after b n name_tables s-next s-end) where
    sign_of : (what rest : List ℕ) (sign : ℕ) (others : List ℕ) → string (drop at line) ≡ got what rest → blanks rest ≡ sign ∷ others → blanks (drop s-end line) ≡ sign ∷ others
    sign_of what rest sign others f e = ap blanks (sym (p.is what rest f)) ∙ e

    pub name-signed : Signed line s-end
    name-signed = record { within = p.within; sign = d.sign; rest = d.others; is = sign_of d.due.what d.due.rest d.sign d.others d.due.is d.colon }

    pub name-wrote : {v : ℕ} → Past line s-end v → NameWritten line at file after b n s-next v
    name-wrote q = record {
      within = q.within;
      is = λ name rest sign others f e. q.is sign others (sign_of name rest sign others f e);
      adds = λ name rest f. p.adds name rest f;
    }

-- ---- two strings

two-texts : (a b : List ℕ) → texts (a ∷ b ∷ []) ≡ texts (a ∷ []) ⊕ texts (b ∷ [])
unfolding texts ◌⊕◌
two-texts a b = refl

module _ {line : List ℕ} {one other : ℕ} {file : List ℕ} {b : Bodies} {n : Next} (d : TwoDue line one other file b n) where
  both-ready : Ready file b n (texts (d.first ∷ []) ⊕ texts (d.second ∷ []))
  both-ready = subst (λ (t : Tables). Ready file b n t) (two-texts d.first d.second) d.ready

  pub first-due : Due line one (string (drop one line)) file b n name_tables
  first-due = record { what = d.first; rest = d.first-is.rest; within = d.first-is.within; is = d.first-is.is; ready = ready-first (texts (d.first ∷ [])) (texts (d.second ∷ [])) both-ready }

  module _ {mid : List ℕ} {s-next : Next} {s-end : ℕ} (p : WroteTo line one (string (drop one line)) file mid b n name_tables s-next s-end) where
    first-added : Adds file mid b n (texts (d.first ∷ [])) s-next
    first-added = p.adds d.first d.first-is.rest d.first-is.is

    pub second-due : length mid ≡ length file → Due line other (string (drop other line)) mid b s-next name_tables
    second-due l = record { what = d.second; rest = d.second_is.rest; within = d.second_is.within; is = d.second_is.is; ready = ready-second (texts (d.first ∷ [])) (texts (d.second ∷ [])) (shaped-texts (d.first ∷ [])) both-ready first-added l }

    pub two-wrote : {after : List ℕ} {t-next : Next} {t-end : ℕ} → WroteTo line other (string (drop other line)) mid after b s-next name_tables t-next t-end → TwoWritten line one other file after b n t-next
    two-wrote {after} {t-next} {t-end} q = record {
      adds =
          λ x y u v.
          subst (λ (z : Tables). Adds file after b n z t-next) (sym (two-texts x y))
          (adds_then (texts (x ∷ [])) (texts (y ∷ [])) (shaped-texts (x ∷ [])) (shaped-texts (y ∷ [])) (p.adds x u.rest u.is) (q.adds y v.rest v.is));
    }

-- ---- a record behind strings

module _ {file : List ℕ} {b : Bodies} {n : Next} (ts : List (List ℕ)) (kind x y : ℕ) (g : Ready file b n (texts ts ⊕ value·Trace kind x y)) {after : List ℕ} {next : Next} (p : Adds file after b n (texts ts) next) where
  behind-room : length after ≡ length file → b.values + 16 * next.value + 16 ≤ length after
  unfolding value·Trace
  behind-room l = omega (arith, ready-values (ready-second (texts ts) (value·Trace kind x y) (shaped-texts ts) g p l))

behind-added : {file after last : List ℕ} {b : Bodies} {n next k : Next} {kind x y : ℕ} (ts : List (List ℕ)) → Adds file after b n (texts ts) next → ValuePut after last b next kind x y k → Adds file last b n (texts ts ⊕ value·Trace kind x y) k
behind-added {kind = kind} {x = x} {y = y} ts p v = adds_then (texts ts) (value·Trace kind x y) (shaped-texts ts) (shaped-value kind x y) p (value-adds kind x y v)

-- ---- a string as a value

text-tables : (t : List ℕ) (k : Next-as_Trace) → value_tables (Text t) k ≡ texts (t ∷ []) ⊕ value·Trace 4 k.string 0
unfolding ordered value_adds
text-tables t k = refl

module _ {line : List ℕ} {at : ℕ} {file : List ℕ} {b : Bodies} {n : Next} (d : Due line at (mapped Text (string (drop at line))) file b n value_tables) where
  plain-text : Due line at (string (drop at line)) file b n (λ t k. value_tables (Text t) k)
  plain-text = due-from Text refl value_tables d.within d

  string-ready : Ready file b n (texts (plain-text.what ∷ []) ⊕ value·Trace 4 n.string 0)
  unfolding numbers
  string-ready = subst (λ (t : Tables). Ready file b n t) (text-tables plain-text.what (numbers n)) plain-text.ready

  pub string-due : Due line at (string (drop at line)) file b n name_tables
  string-due = record { what = plain-text.what; rest = plain-text.rest; within = plain-text.within; is = plain-text.is; ready = ready-first (texts (plain-text.what ∷ [])) _ string-ready }

  pub string-word : n.string ≤ 4294967295
  string-word = omega (arith, string-words d.ready)

  module _ {after : List ℕ} {s-next : Next} {s-end : ℕ} (p : WroteTo line at (string (drop at line)) file after b n name_tables s-next s-end) where
    pub string-room : length after ≡ length file → b.values + 16 * s-next.value + 16 ≤ length after
    string-room l = behind-room (plain-text.what ∷ []) 4 n.string 0 string-ready (p.adds plain-text.what plain-text.rest plain-text.is) l

    pub string-wrote : {last : List ℕ} {x : ℕ} {k : Next} → ValuePut after last b s-next 4 x 0 k → x ≡ n.string → WroteTo line at (mapped Text (string (drop at line))) file last b n value_tables k s-end
    unfolding numbers
    string-wrote {last} {x} {k} v e =
        wrote-from Text refl value_tables (omega arith) (record {
          from = p.from;
          within = p.within;
          is = p.is;
          adds =
              λ what rest f.
              subst (λ (t : Tables). Adds file last b n t k) (sym (text-tables what (numbers n)))
              (subst (λ (z : ℕ). Adds file last b n (texts (what ∷ []) ⊕ value·Trace 4 z 0) k) e (behind-added (what ∷ []) (p.adds what rest f) v));
        })

-- ---- Cedar's forms

decimal-tables : (a t : List ℕ) (k : Next-as_Trace) → value_tables (form_of true a t) k ≡ texts (t ∷ []) ⊕ value·Trace 3 k.string 0
unfolding form_of ordered value_adds
decimal-tables a t k = refl

entity-tables : (t i : List ℕ) (k : Next-as_Trace) → value_tables (form_of false t i) k ≡ texts (t ∷ i ∷ []) ⊕ value·Trace 5 k.string (k.string + 1)
unfolding form_of ordered value_adds
entity-tables t i k = refl

module _ (x : Bool) {line : List ℕ} {at : ℕ} {file : List ℕ} {b : Bodies} {n : Next} (d : Due line at (form_read x (drop at line)) file b n value_tables) where
  pub form-good : Good line at (form_read x (drop at line))
  form-good = record { what = d.what; rest = d.rest; within = d.within; is = d.is }

  pub form-word : n.string ≤ 4294967295
  form-word = omega (arith, string-words d.ready)

  module _ {r : Two} (t : TwoTold line at x r (form_read x (drop at line))) where
    two : TwoIs line x r d.what
    two = t.two d.what d.rest d.is

    form-wrote : {last : List ℕ} {k : Next} → ((j : J) → TwoIs line x r j → Adds file last b n (value_tables j (numbers n)) k) → WroteTo line at (form_read x (drop at line)) file last b n value_tables k r.end
    form-wrote f = record { from = t.from; within = t.within; is = t.is; adds = λ what rest e. f what (t.two what rest e) }

    module _ (e : x ≡ true) where
      decimal_of_lem : (j : J) (w : TwoIs line x r j) → value_tables j (numbers n) ≡ texts (w.other ∷ []) ⊕ value·Trace 3 n.string 0
      unfolding numbers
      decimal_of_lem j w = ap (λ (i : J). value_tables i (numbers n)) (w.is ∙ ap (λ (y : Bool). form_of y w.one w.other) e) ∙ decimal-tables w.one w.other (numbers n)

      decimal-ready : Ready file b n (texts (two.other ∷ []) ⊕ value·Trace 3 n.string 0)
      decimal-ready = subst (λ (u : Tables). Ready file b n u) (decimal_of_lem d.what two) d.ready

      pub decimal-due : Due line r.second (string (drop r.second line)) file b n name_tables
      decimal-due = record { what = two.other; rest = two.second.rest; within = two.second.within; is = two.second.is; ready = ready-first (texts (two.other ∷ [])) _ decimal-ready }

      module _ {after : List ℕ} {s-next : Next} {s-end : ℕ} (p : WroteTo line r.second (string (drop r.second line)) file after b n name_tables s-next s-end) where
        pub decimal-room : length after ≡ length file → b.values + 16 * s-next.value + 16 ≤ length after
        decimal-room l = behind-room (two.other ∷ []) 3 n.string 0 decimal-ready (p.adds two.other two.second.rest two.second.is) l

        pub decimal-wrote : {last : List ℕ} {z : ℕ} {k : Next} → ValuePut after last b s-next 3 z 0 k → z ≡ n.string → WroteTo line at (form_read x (drop at line)) file last b n value_tables k r.end
        decimal-wrote {last} {z} {k} v q =
            form-wrote (λ j w.
            subst (λ (u : Tables). Adds file last b n u k) (sym (decimal_of_lem j w))
            (subst (λ (y : ℕ). Adds file last b n (texts (w.other ∷ []) ⊕ value·Trace 3 y 0) k) q (behind-added (w.other ∷ []) (p.adds w.other w.second.rest w.second.is) v)))

    module _ (e : x ≡ false) where
      entity_of_lem : (j : J) (w : TwoIs line x r j) → value_tables j (numbers n) ≡ texts (w.one ∷ w.other ∷ []) ⊕ value·Trace 5 n.string (n.string + 1)
      unfolding numbers
      entity_of_lem j w = ap (λ (i : J). value_tables i (numbers n)) (w.is ∙ ap (λ (y : Bool). form_of y w.one w.other) e) ∙ entity-tables w.one w.other (numbers n)

      entity-ready : Ready file b n (texts (two.one ∷ two.other ∷ []) ⊕ value·Trace 5 n.string (n.string + 1))
      entity-ready = subst (λ (u : Tables). Ready file b n u) (entity_of_lem d.what two) d.ready

      pub entity-two : TwoDue line r.first r.second file b n
      entity-two = record { first = two.one; second = two.other; first-is = two.first; second_is = two.second; ready = ready-first (texts (two.one ∷ two.other ∷ [])) _ entity-ready }

      entity-next : n.string + 1 ≤ 4294967295
      unfolding texts ◌⊕◌ value·Trace
      entity-next = omega (arith, string-words entity-ready)

      pub entity-fits : {z : ℕ} → z ≡ n.string → Fits w32 (z + 1)
      entity-fits e = record { fits = omega (arith, e, entity-next) }

      module _ {after : List ℕ} {next : Next} (p : TwoWritten line r.first r.second file after b n next) where
        pub entity-room : length after ≡ length file → b.values + 16 * next.value + 16 ≤ length after
        entity-room l = behind-room (two.one ∷ two.other ∷ []) 5 n.string (n.string + 1) entity-ready (p.adds two.one two.other two.first two.second) l

        pub entity-wrote : {last : List ℕ} {z : ℕ} {k : Next} → ValuePut after last b next 5 z (z + 1) k → z ≡ n.string → WroteTo line at (form_read x (drop at line)) file last b n value_tables k r.end
        entity-wrote {last} {z} {k} v q =
            form-wrote (λ j w.
            subst (λ (u : Tables). Adds file last b n u k) (sym (entity_of_lem j w))
            (subst (λ (i : ℕ). Adds file last b n (texts (w.one ∷ w.other ∷ []) ⊕ value·Trace 5 i (i + 1)) k) q (behind-added (w.one ∷ w.other ∷ []) (p.adds w.one w.other w.first w.second) v)))

-- ---- a value that holds no other

module _ {line : List ℕ} {at : ℕ} {file : List ℕ} {b : Bodies} {n : Next} (d : Due line at (scalar (drop at line)) file b n value_tables) where
  pub flat_good : Good line at (scalar (drop at line))
  flat_good = record { what = d.what; rest = d.rest; within = d.within; is = d.is }

  pub flat-here : at < length line
  flat-here = flat-below flat_good

  module _ (q : get_or line at 0 ≡ 34) where
    pub flat-text : Due line at (mapped Text (string (drop at line))) file b n value_tables
    flat-text = due-at (text-is flat_good q) value_tables d.within d

    pub flat-text-wrote : {after : List ℕ} {w-next : Next} {w-end : ℕ} → WroteTo line at (mapped Text (string (drop at line))) file after b n value_tables w-next w-end → WroteTo line at (scalar (drop at line)) file after b n value_tables w-next w-end
    flat-text-wrote p = wrote_at (text-is flat_good q) value_tables (omega arith) p

  pub flat-other : (get_or line at 0 ≡ 34 → ⊥) → FlatDue line at
  flat-other n = record { good = flat_good; other = n }

  module _ {f : Flat} (t : FlatTold line at f) where
    pub flat-room : b.values + 16 * n.value + 16 ≤ length file
    unfolding value·Trace
    flat-room = omega (arith, ready-values (subst (λ (u : Tables). Ready file b n u) (t.is d.what d.rest (numbers n) d.is) d.ready))

    pub flat-wrote : {e : ℕ} {last : List ℕ} {k : Next} → Ends line at e (scalar (drop at line)) → ValuePut file last b n f.kind f.x f.y k → WroteTo line at (scalar (drop at line)) file last b n value_tables k e
    flat-wrote {e} {last} {k} s v = record {
      from = s.from;
      within = s.within;
      is = s.is;
      adds = λ what rest g. subst (λ (u : Tables). Adds file last b n u k) (sym (t.is what rest (numbers n) g)) (value-adds f.kind f.x f.y v);
    }
