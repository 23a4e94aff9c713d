-- What a record put into its table leaves the file to show
use Rattle.std.specs.Prelude.{◌≡◌, refl, List, [], ◌∷◌, ◌++◌, ℕ, ◌+◌, ◌*◌, ◌≤◌, length}
use Rattle.std.proofs.Common.{sym, ap, subst, ◌∙◌, append_assoc, append-nil, arith, length-append}
use Rattle.laws.specs.Writing.{Writing}
use Rattle.encode.specs.Words.{packed}
use Rattle.encode.specs.Encode.{flat, placed}
use Rattle.encode.proofs.Laws.Words.{packed-long}
use Rattle.jsonroom.specs.declared.Bodies.{Bodies}
use Rattle.jsonroom.specs.declared.Next.{Next}
use Rattle.jsonroom.specs.Put.{with_value, ValuePut, with_string, StringIs}
use Rattle.jsontrace.specs.Trace.{empty, texts, value, members}
use Rattle.jsonview.specs.Cells.{write, writing, write-nothing, write-inside, write-long}
use Rattle.jsonview.specs.Room.{Room, Shows, filled, beyond, Fit, Grown, Adds}

-- ---- a write inside a body is the same file with that body written

module _ {file after : List ℕ} {b : Bodies} {r : Room} (s : Shows file b r) (i : ℕ) {new : List ℕ} where
  pub in_strings : Writing file after (b.strings + i) new → i + length new ≤ length r.strings → Shows after b (record { strings = write r.strings i new; values = r.values; members = r.members; points = r.points; lists = r.lists; text = r.text })
  in_strings w h = record {
    head = s.head;
    tail = s.tail;
    is = writing w ∙ write-inside s.head r.strings (r.values ++ (r.members ++ (r.points ++ (r.lists ++ (r.text ++ s.tail))))) i new s.is s.strings h;
    strings = s.strings;
    values = omega (arith, s.values, write-long r.strings i new h);
    members = s.members;
    points = s.points;
    lists = s.lists;
    text = s.text;
    end = s.end;
  }

  pub in_values : Writing file after (b.values + i) new → i + length new ≤ length r.values → Shows after b (record { strings = r.strings; values = write r.values i new; members = r.members; points = r.points; lists = r.lists; text = r.text })
  in_values w h = record {
    head = s.head;
    tail = s.tail;
    is =
        writing w
        ∙ write-inside (s.head ++ r.strings) r.values (r.members ++ (r.points ++ (r.lists ++ (r.text ++ s.tail)))) i new (s.is ∙ sym (group s.head r.strings (r.values ++ (r.members ++ (r.points ++ (r.lists ++ (r.text ++ s.tail))))))) place h
        ∙ group s.head r.strings (write r.values i new ++ (r.members ++ (r.points ++ (r.lists ++ (r.text ++ s.tail)))));
    strings = s.strings;
    values = s.values;
    members = omega (arith, s.members, write-long r.values i new h);
    points = s.points;
    lists = s.lists;
    text = s.text;
    end = s.end;
  }
    where
      group : (a b c : List ℕ) → (a ++ b) ++ c ≡ a ++ (b ++ c)
      group a b c = append_assoc a b c

      place : length (s.head ++ r.strings) ≡ b.values
      place = omega (arith, length-append s.head r.strings, s.strings, s.values)

  pub in_members : Writing file after (b.members + i) new → i + length new ≤ length r.members → Shows after b (record { strings = r.strings; values = r.values; members = write r.members i new; points = r.points; lists = r.lists; text = r.text })
  in_members w h = record {
    head = s.head;
    tail = s.tail;
    is =
        writing w
        ∙ write-inside (s.head ++ (r.strings ++ r.values)) r.members (r.points ++ (r.lists ++ (r.text ++ s.tail))) i new (s.is ∙ sym (group s.head r.strings r.values (r.members ++ (r.points ++ (r.lists ++ (r.text ++ s.tail)))))) place h
        ∙ group s.head r.strings r.values (write r.members i new ++ (r.points ++ (r.lists ++ (r.text ++ s.tail))));
    strings = s.strings;
    values = s.values;
    members = s.members;
    points = omega (arith, s.points, write-long r.members i new h);
    lists = s.lists;
    text = s.text;
    end = s.end;
  }
    where
      group : (a b c d : List ℕ) → (a ++ (b ++ c)) ++ d ≡ a ++ (b ++ (c ++ d))
      group a b c d = simp append_assoc

      place : length (s.head ++ (r.strings ++ r.values)) ≡ b.members
      place = omega (arith, length-append s.head (r.strings ++ r.values), length-append r.strings r.values, s.strings, s.values, s.members)

  pub in_points : Writing file after (b.points + i) new → i + length new ≤ length r.points → Shows after b (record { strings = r.strings; values = r.values; members = r.members; points = write r.points i new; lists = r.lists; text = r.text })
  in_points w h = record {
    head = s.head;
    tail = s.tail;
    is =
        writing w
        ∙ write-inside (s.head ++ (r.strings ++ (r.values ++ r.members))) r.points (r.lists ++ (r.text ++ s.tail)) i new (s.is ∙ sym (group s.head r.strings r.values r.members (r.points ++ (r.lists ++ (r.text ++ s.tail))))) place h
        ∙ group s.head r.strings r.values r.members (write r.points i new ++ (r.lists ++ (r.text ++ s.tail)));
    strings = s.strings;
    values = s.values;
    members = s.members;
    points = s.points;
    lists = omega (arith, s.lists, write-long r.points i new h);
    text = s.text;
    end = s.end;
  }
    where
      group : (a b c d e : List ℕ) → (a ++ (b ++ (c ++ d))) ++ e ≡ a ++ (b ++ (c ++ (d ++ e)))
      group a b c d e = simp append_assoc

      place : length (s.head ++ (r.strings ++ (r.values ++ r.members))) ≡ b.points
      place = omega (arith, length-append s.head (r.strings ++ (r.values ++ r.members)), length-append r.strings (r.values ++ r.members), length-append r.values r.members, s.strings, s.values, s.members, s.points)

  pub in_lists : Writing file after (b.lists + i) new → i + length new ≤ length r.lists → Shows after b (record { strings = r.strings; values = r.values; members = r.members; points = r.points; lists = write r.lists i new; text = r.text })
  in_lists w h = record {
    head = s.head;
    tail = s.tail;
    is =
        writing w
        ∙ write-inside (s.head ++ (r.strings ++ (r.values ++ (r.members ++ r.points)))) r.lists (r.text ++ s.tail) i new (s.is ∙ sym (group s.head r.strings r.values r.members r.points (r.lists ++ (r.text ++ s.tail)))) place h
        ∙ group s.head r.strings r.values r.members r.points (write r.lists i new ++ (r.text ++ s.tail));
    strings = s.strings;
    values = s.values;
    members = s.members;
    points = s.points;
    lists = s.lists;
    text = omega (arith, s.text, write-long r.lists i new h);
    end = s.end;
  }
    where
      group : (a b c d e f : List ℕ) → (a ++ (b ++ (c ++ (d ++ e)))) ++ f ≡ a ++ (b ++ (c ++ (d ++ (e ++ f))))
      group a b c d e f = simp append_assoc

      place : length (s.head ++ (r.strings ++ (r.values ++ (r.members ++ r.points)))) ≡ b.lists
      place = omega (arith, length-append s.head (r.strings ++ (r.values ++ (r.members ++ r.points))), length-append r.strings (r.values ++ (r.members ++ r.points)), length-append r.values (r.members ++ r.points), length-append r.members r.points, s.strings, s.values, s.members, s.points, s.lists)

  pub in_text_lem : Writing file after (b.text + i) new → i + length new ≤ length r.text → Shows after b (record { strings = r.strings; values = r.values; members = r.members; points = r.points; lists = r.lists; text = write r.text i new })
  in_text_lem w h = record {
    head = s.head;
    tail = s.tail;
    is =
        writing w
        ∙ write-inside (s.head ++ (r.strings ++ (r.values ++ (r.members ++ (r.points ++ r.lists))))) r.text s.tail i new (s.is ∙ sym (group s.head r.strings r.values r.members r.points r.lists (r.text ++ s.tail))) place h
        ∙ group s.head r.strings r.values r.members r.points r.lists (write r.text i new ++ s.tail);
    strings = s.strings;
    values = s.values;
    members = s.members;
    points = s.points;
    lists = s.lists;
    text = s.text;
    end = omega (arith, s.end, write-long r.text i new h);
  }
    where
      group : (a b c d e f g : List ℕ) → (a ++ (b ++ (c ++ (d ++ (e ++ f))))) ++ g ≡ a ++ (b ++ (c ++ (d ++ (e ++ (f ++ g)))))
      group a b c d e f g = simp append_assoc

      place : length (s.head ++ (r.strings ++ (r.values ++ (r.members ++ (r.points ++ r.lists))))) ≡ b.text
      place = omega (arith, length-append s.head (r.strings ++ (r.values ++ (r.members ++ (r.points ++ r.lists)))), length-append r.strings (r.values ++ (r.members ++ (r.points ++ r.lists))), length-append r.values (r.members ++ (r.points ++ r.lists)), length-append r.members (r.points ++ r.lists), length-append r.points r.lists, s.strings, s.values, s.members, s.points, s.lists, s.text)

-- ---- records

-- rooms whose lists are the same
pub same-room : {a b c d e f a' b' c' d' e' f' : List ℕ} → a ≡ a' → b ≡ b' → c ≡ c' → d ≡ d' → e ≡ e' → f ≡ f' → ◌≡◌ {A = Room} (record { strings = a; values = b; members = c; points = d; lists = e; text = f }) (record { strings = a'; values = b'; members = c'; points = d'; lists = e'; text = f' })
same-room p q r s t u = cc

pub same_next : {a b c d e f a' b' c' d' e' f' : ℕ} → a ≡ a' → b ≡ b' → c ≡ c' → d ≡ d' → e ≡ e' → f ≡ f' → ◌≡◌ {A = Next} (record { string = a; byte = b; value = c; member = d; list = e; point = f }) (record { string = a'; byte = b'; value = c'; member = d'; list = e'; point = f' })
same_next p q r s t u = cc

-- no byte more
pub with_none : (d : List ℕ) (at : ℕ) → d ≡ write d at (packed [])
unfolding packed
with_none d at = sym (write-nothing d at)

pub grown-value : {file after : List ℕ} {b : Bodies} {r : Room} {n m : Next} (kind x y : ℕ) → Shows file b r → Fit r n (value kind x y) → ValuePut file after b n kind x y m → Grown after b r n (value kind x y) m
unfolding filled beyond value with_value flat placed
grown-value {after = after} {b = b} {r = r} {n = n} kind x y s f p = record {
  shows =
      let z : 16 * n.value + length (packed (kind ∷ x ∷ y ∷ 0 ∷ [])) ≤ length r.values = omega (arith, f.values, packed-long (kind ∷ x ∷ y ∷ 0 ∷ [])) in
      subst (λ (q : Room). Shows after b q)
      (same-room (with_none r.strings (8 * n.string)) refl (with_none r.members (8 * n.member)) (with_none r.points (48 * n.point)) (with_none r.lists (4 * n.list)) (sym (write-nothing r.text n.byte)))
      (in_values s (16 * n.value) p.is z);
  next = p.next ∙ same_next (omega arith) (omega arith) refl (omega arith) (omega arith) (omega arith);
}

pub grown-string : {line file after : List ℕ} {at : ℕ} {b : Bodies} {r : Room} {n : Next} {m : Next} {e : ℕ} {text rest : List ℕ} → Shows file b r → Fit r n (texts (text ∷ [])) → StringIs line at file after b n m e text rest → Grown after b r n (texts (text ∷ [])) m
unfolding filled beyond texts with_string flat placed
grown-string {after = after} {b = b} {r = r} {n = n} {text = text} s f p = record {
  shows =
      let l : n.byte + length text ≤ length r.text = omega (arith, f.text, length-append text []) in
      let z : 8 * n.string + length (packed (n.byte ∷ length text ∷ [])) ≤ length r.strings = omega (arith, f.strings, packed-long (n.byte ∷ length text ∷ [])) in
      subst (λ (q : Room). Shows after b q)
      (same-room refl (with_none r.values (16 * n.value)) (with_none r.members (8 * n.member)) (with_none r.points (48 * n.point)) (with_none r.lists (4 * n.list)) (ap (λ (t : List ℕ). write r.text n.byte t) (sym (append-nil text))))
      (in_strings (in_text_lem s n.byte p.bytes l) (8 * n.string) p.record_is z);
  next = p.next ∙ same_next refl (omega (arith, length-append text [])) (omega arith) (omega arith) (omega arith) (omega arith);
}

-- ---- nothing written

pub filled-empty : (n : Next) (r : Room) → filled n empty r ≡ r
unfolding filled empty flat placed
filled-empty n r = same-room (sym (with_none r.strings (8 * n.string))) (sym (with_none r.values (16 * n.value))) (sym (with_none r.members (8 * n.member))) (sym (with_none r.points (48 * n.point))) (sym (with_none r.lists (4 * n.list))) (write-nothing r.text n.byte)

pub beyond-empty : (n : Next) → beyond n empty ≡ n
unfolding beyond empty flat
beyond-empty n = same_next (omega arith) (omega arith) (omega arith) (omega arith) (omega arith) (omega arith)

pub no-members : members [] ≡ empty
unfolding members empty
no-members = refl

pub adds_none : (file : List ℕ) (b : Bodies) (n : Next) → Adds file file b n empty n
adds_none file b n r s f = record { shows = subst (λ (q : Room). Shows file b q) (sym (filled-empty n r)) s; next = sym (beyond-empty n) }
