-- The lines that the code writes are the log of the definition
use Rattle.std.specs.Prelude.{◌≡◌, Bool}
use Rattle.std.proofs.Math.Path.{refl, sym, ap, ap₂}
use Rattle.std.proofs.Common.{◌∙◌}
use Rattle.std.proofs.Math.Bool.{true, false}
use mathlib.Core.List.{List, [], ◌∷◌, ◌++◌, map, append_assoc, append-nil}
use Rattle.std.proofs.Math.Option.{Option}
use Prim.Native.Nat.{ℕ, zero, suc, ◌+◌, ◌*◌, ◌<◌, ◌≤◌}
use native.Mathlib.Omega.{arith}
use Rattle.std.proofs.Math.Dec.{eqb}
use Rattle.meaning.specs.Tests.{◌or◌, choose}
use Rattle.meaning.specs.Case.{nothing, maybe, points, text, list, signed, run, run_of, point_word, entity_at, point_at, places}
use Rattle.meaning.specs.Check.{Checked, is_object}
use Rattle.laws.specs.Tests.{yes, no}
use Rattle.jsontext.specs.Events.{Event}
use Rattle.jsontrace.specs.Text.{escaped_byte, escaped, quoted, integer, after_first, commas, brackets, braces, pair, shown, shown_members, maybe_pair, entity_text as entity_text·T, field_texts, event_text, log_text, «time», «namespace», «action», «kind», «logged», «context», «principal», «resource», «entities»}
use Rattle.jsontrace.specs.Export.{members_of, tree_at, maybe_tree, item_of, event_of, point_events, exported}
use Rattle.jsonput.specs.Runs.{run_text, commas-run}
use Rattle.jsonput.specs.Values.{value_text}
use Rattle.jsonpoints.specs.Lines.{time_piece, space_piece, action_piece, kind_piece, logged_piece, context_piece, principal_piece, resource_piece, entities_piece, last_piece, word_text, type_text, id_text, object_text, entity_text, maybe_text, time_text, space_text, head_text, names_text, first_text, records_text, parties_text, entities_text, rest_text, second_text, fields_text, line_text, lines_text}
use Rattle.jsonclear.specs.Laws.Points.{is_none, is_some, object-is, fine, entity-rule, entity-object}

-- ---- shapes: the same bytes, grouped otherwise

-- the fields that are always there, then the rest
abbrev line_bytes : List ℕ → List ℕ → List ℕ → List ℕ → List ℕ → List ℕ → List ℕ → List ℕ
line_bytes I N A K L X rest = 123 ∷ ((pair «time» I ++ (44 ∷ (pair «namespace» (91 ∷ (N ++ (93 ∷ []))) ++ (44 ∷ (pair «action» A ++ (44 ∷ (pair «kind» K ++ (44 ∷ (pair «logged» L ++ (44 ∷ (pair «context» X ++ rest))))))))))) ++ (125 ∷ []))

-- principal and resource or nothing, then entities
abbrev tail_bytes : List ℕ → List ℕ → List ℕ → List ℕ
tail_bytes P R E = P ++ (R ++ (44 ∷ (pair «entities» (91 ∷ (E ++ (93 ∷ []))) ++ [])))

as_defined : (t I n N c a A k K l L x X P R e E b z : List ℕ) → ((t ++ (I ++ (n ++ ((N ++ c) ++ (a ++ (A ++ (k ++ (K ++ (l ++ (L ++ (x ++ (X ++ (P ++ (R ++ (e ++ ((E ++ c) ++ [])))))))))))))))) ++ b) ++ z ≡ t ++ (I ++ (n ++ (N ++ (c ++ (a ++ (A ++ (k ++ (K ++ (l ++ (L ++ (x ++ (X ++ (P ++ (R ++ (e ++ (E ++ (c ++ (b ++ z))))))))))))))))))
as_defined t I n N c a A k K l L x X P R e E b z = simp (append_assoc, append-nil)

as_written : (t I n N c a A k K l L x X P R e E b z : List ℕ) → ((((t ++ I) ++ (n ++ N)) ++ (((c ++ a) ++ A) ++ (k ++ K))) ++ (((l ++ L) ++ (x ++ X)) ++ ((P ++ R) ++ (e ++ E)))) ++ (c ++ (b ++ z)) ≡ t ++ (I ++ (n ++ (N ++ (c ++ (a ++ (A ++ (k ++ (K ++ (l ++ (L ++ (x ++ (X ++ (P ++ (R ++ (e ++ (E ++ (c ++ (b ++ z))))))))))))))))))
as_written t I n N c a A k K l L x X P R e E b z = simp append_assoc

line-shape : (I N A K L X P R E : List ℕ) → line_bytes I N A K L X (tail_bytes P R E) ++ (10 ∷ []) ≡ ((((time_piece ++ I) ++ (space_piece ++ N)) ++ ((action_piece ++ A) ++ (kind_piece ++ K))) ++ (((logged_piece ++ L) ++ (context_piece ++ X)) ++ ((P ++ R) ++ (entities_piece ++ E)))) ++ last_piece
unfolding pair quoted escaped escaped_byte choose ◌or◌
line-shape I N A K L X P R E =
    as_defined time_piece I space_piece N (93 ∷ []) (44 ∷ 34 ∷ 97 ∷ 99 ∷ 116 ∷ 105 ∷ 111 ∷ 110 ∷ 34 ∷ 58 ∷ []) A kind_piece K logged_piece L context_piece X P R entities_piece E (125 ∷ []) (10 ∷ [])
    ∙ sym (as_written time_piece I space_piece N (93 ∷ []) (44 ∷ 34 ∷ 97 ∷ 99 ∷ 116 ∷ 105 ∷ 111 ∷ 110 ∷ 34 ∷ 58 ∷ []) A kind_piece K logged_piece L context_piece X P R entities_piece E (125 ∷ []) (10 ∷ []))

entity-shape : (T I O : List ℕ) → 91 ∷ ((T ++ (44 ∷ (I ++ (44 ∷ (O ++ []))))) ++ (93 ∷ [])) ≡ ((91 ∷ []) ++ T) ++ (((44 ∷ []) ++ I) ++ (((44 ∷ []) ++ O) ++ (93 ∷ [])))
entity-shape T I O = simp (append_assoc, append-nil)

-- ---- the parts

module _ {s : List ℕ} (c : Checked s) where
  record_text : (v : ℕ) → is_object s v ≡ true → braces (shown_members (members_of (tree_at s v))) ≡ value_text s v
  unfolding value_text shown
  record_text v h = ap shown (object-is c v h)

  entity-is : (m : ℕ) → is_object s (list s (m + 2)) ≡ true → entity_text·T (item_of s (entity_at s m)) ≡ entity_text s m
  unfolding entity_text·T item_of entity_at brackets commas after_first entity_text type_text id_text object_text
  entity-is m h =
      ap (λ (o : List ℕ). 91 ∷ ((quoted (text s (list s m)) ++ (44 ∷ (quoted (text s (list s (m + 1))) ++ (44 ∷ (o ++ []))))) ++ (93 ∷ []))) (record_text (list s (m + 2)) h)
      ∙ entity-shape (quoted (text s (list s m))) (quoted (text s (list s (m + 1)))) (value_text s (list s (m + 2)))

  entities-map : (first n : ℕ) → ((i : ℕ) → i < n → is_object s (list s (first + 3 * i + 2)) ≡ true) → map entity_text·T (map (item_of s) (map (entity_at s) (places first 3 n))) ≡ map (entity_text s) (places first 3 n)
  unfolding places
  entities-map first zero o = refl
  entities-map first (suc n) o =
      let two : first + 3 * 0 + 2 ≡ first + 2 = omega arith in
      ap₂ (λ (a : List ℕ) (b : List (List ℕ)). a ∷ b) (entity-is first (ap (λ (m : ℕ). is_object s (list s m)) (sym two) ∙ o 0 (omega arith))) (entities-map (first + 3) n (λ i l. let q : first + 3 + 3 * i + 2 ≡ first + 3 * suc i + 2 = omega arith in ap (λ (m : ℕ). is_object s (list s m)) q ∙ o (suc i) (omega arith)))

module _ (s : List ℕ) where
  words-map : (xs : List ℕ) → map quoted (map (text s) (map (list s) xs)) ≡ map (word_text s) xs
  unfolding word_text
  words-map [] = refl
  words-map (x ∷ xs) = ap (λ (b : List (List ℕ)). quoted (text s (list s x)) ∷ b) (words-map xs)

  space-is : (first items : ℕ) → commas (map quoted (map (text s) (run_of (list s) (run first items)))) ≡ run_text (word_text s) first 1 items
  unfolding run_of
  space-is first items = ap commas (words-map (places first 1 items)) ∙ commas-run (word_text s) first 1 items

  -- none is left out
  after-maybe : (name piece : List ℕ) (v : ℕ) (rest : List (List ℕ)) → ((t : List ℕ) → 44 ∷ pair name t ≡ piece ++ t) → after_first (maybe_pair name (maybe_tree s (maybe v)) ++ rest) ≡ maybe_text s piece v ++ after_first rest
  unfolding after_first maybe_pair maybe_tree maybe_text value_text
  after-maybe name piece v rest e = go (eqb v nothing) refl
    where
      go : (b : Bool) → eqb v nothing ≡ b → after_first (maybe_pair name (maybe_tree s (maybe v)) ++ rest) ≡ choose (eqb v nothing) [] (piece ++ shown (tree_at s v)) ++ after_first rest
      go true q = ap (λ (o : Option ℕ). after_first (maybe_pair name (maybe_tree s o) ++ rest)) (is_none v q) ∙ sym (ap (λ (l : List ℕ). l ++ after_first rest) (yes _ q))
      go false q = ap (λ (o : Option ℕ). after_first (maybe_pair name (maybe_tree s o) ++ rest)) (is_some v q) ∙ ap (λ (l : List ℕ). l ++ after_first rest) (e (shown (tree_at s v)) ∙ sym (no _ q refl))

  principal-pair : (t : List ℕ) → 44 ∷ pair «principal» t ≡ principal_piece ++ t
  unfolding pair quoted escaped escaped_byte choose ◌or◌
  principal-pair t = refl

  resource-pair : (t : List ℕ) → 44 ∷ pair «resource» t ≡ resource_piece ++ t
  unfolding pair quoted escaped escaped_byte choose ◌or◌
  resource-pair t = refl

-- ---- a line

module _ {s : List ℕ} (c : Checked s) (p : ℕ) (l : p < points s) where
  objects_of : (i : ℕ) → i < point_word s p 11 → is_object s (list s (point_word s p 10 + 3 * i + 2)) ≡ true
  objects_of i h = entity-object s (point_word s p 10 + 3 * i) (entity-rule s (point_word s p 10) (point_word s p 11) i (fine c p l).entities h)

  entities-are : commas (map entity_text·T (map (item_of s) (map (entity_at s) (places (point_word s p 10) 3 (point_word s p 11))))) ≡ run_text (entity_text s) (point_word s p 10) 3 (point_word s p 11)
  entities-are = ap commas (entities-map c (point_word s p 10) (point_word s p 11) objects_of) ∙ commas-run (entity_text s) (point_word s p 10) 3 (point_word s p 11)

  entity_list : List (List ℕ)
  entity_list = map entity_text·T (map (item_of s) (map (entity_at s) (places (point_word s p 10) 3 (point_word s p 11))))

  tail_texts : List (List ℕ)
  tail_texts = maybe_pair «principal» (maybe_tree s (maybe (point_word s p 8))) ++ maybe_pair «resource» (maybe_tree s (maybe (point_word s p 9))) ++ (pair «entities» (brackets entity_list) ∷ [])

  tail-is : after_first tail_texts ≡ tail_bytes (maybe_text s principal_piece (point_word s p 8)) (maybe_text s resource_piece (point_word s p 9)) (run_text (entity_text s) (point_word s p 10) 3 (point_word s p 11))
  unfolding after_first brackets tail_texts entity_list
  tail-is =
      ap after_first (append_assoc (maybe_pair «principal» (maybe_tree s (maybe (point_word s p 8)))) (maybe_pair «resource» (maybe_tree s (maybe (point_word s p 9)))) (pair «entities» (brackets entity_list) ∷ []))
      ∙ after-maybe s «principal» principal_piece (point_word s p 8) (maybe_pair «resource» (maybe_tree s (maybe (point_word s p 9))) ++ (pair «entities» (brackets entity_list) ∷ [])) (principal-pair s)
      ∙ ap (λ (t : List ℕ). maybe_text s principal_piece (point_word s p 8) ++ t) (after-maybe s «resource» resource_piece (point_word s p 9) (pair «entities» (brackets entity_list) ∷ []) (resource-pair s))
      ∙ ap (λ (t : List ℕ). tail_bytes (maybe_text s principal_piece (point_word s p 8)) (maybe_text s resource_piece (point_word s p 9)) t) entities-are

  abbrev timed : List ℕ
  timed = integer (signed (point_word s p 0) (point_word s p 1))

  abbrev acted : List ℕ
  acted = quoted (text s (point_word s p 4))

  abbrev kinded : List ℕ
  kinded = quoted (text s (point_word s p 5))

  abbrev spaced : List ℕ
  spaced = run_text (word_text s) (point_word s p 2) 1 (point_word s p 3)

  abbrev logged_before : List ℕ
  logged_before = braces (shown_members (members_of (tree_at s (point_word s p 6))))

  abbrev context_before : List ℕ
  context_before = braces (shown_members (members_of (tree_at s (point_word s p 7))))

  event-bytes : event_text (event_of s (point_at s p)) ≡ line_bytes timed (commas (map quoted (map (text s) (run_of (list s) (run (point_word s p 2) (point_word s p 3)))))) acted kinded logged_before context_before (after_first tail_texts)
  unfolding event_text field_texts event_of point_at braces brackets commas after_first tail_texts entity_list
  event-bytes = refl

  pub line-is : event_text (event_of s (point_at s p)) ++ (10 ∷ []) ≡ line_text s p
  unfolding signed line_text fields_text first_text head_text time_text space_text names_text second_text records_text rest_text parties_text entities_text
  line-is =
      ap (λ (t : List ℕ). t ++ (10 ∷ [])) event-bytes
      ∙ ap (λ (n : List ℕ). line_bytes timed n acted kinded logged_before context_before (after_first tail_texts) ++ (10 ∷ [])) (space-is s (point_word s p 2) (point_word s p 3))
      ∙ ap (λ (n : List ℕ). line_bytes timed spaced acted kinded n context_before (after_first tail_texts) ++ (10 ∷ [])) (record_text c (point_word s p 6) (fine c p l).logged)
      ∙ ap (λ (n : List ℕ). line_bytes timed spaced acted kinded (value_text s (point_word s p 6)) n (after_first tail_texts) ++ (10 ∷ [])) (record_text c (point_word s p 7) (fine c p l).context)
      ∙ ap (λ (n : List ℕ). line_bytes timed spaced acted kinded (value_text s (point_word s p 6)) (value_text s (point_word s p 7)) n ++ (10 ∷ [])) tail-is
      ∙ line-shape timed spaced acted kinded (value_text s (point_word s p 6)) (value_text s (point_word s p 7)) (maybe_text s principal_piece (point_word s p 8)) (maybe_text s resource_piece (point_word s p 9)) (run_text (entity_text s) (point_word s p 10) 3 (point_word s p 11))

-- ---- all lines

log-more : (es : List Event) (e : Event) → log_text (es ++ (e ∷ [])) ≡ log_text es ++ (event_text e ++ (10 ∷ []))
unfolding log_text
log-more [] e = refl
log-more (f ∷ es) e = ap (λ (t : List ℕ). event_text f ++ 10 ∷ t) (log-more es e) ∙ sym (append_assoc (event_text f) (10 ∷ log_text es) (event_text e ++ (10 ∷ [])))

places-more : (first n : ℕ) → places first 1 (suc n) ≡ places first 1 n ++ ((first + n) ∷ [])
unfolding places
places-more first zero = let z : first ≡ first + 0 = omega arith in ap (λ (k : ℕ). k ∷ []) z
places-more first (suc n) =
    let z : first + 1 + n ≡ first + suc n = omega arith in
    ap (λ (t : List ℕ). first ∷ t) (places-more (first + 1) n ∙ ap (λ (k : ℕ). places (first + 1) 1 n ++ (k ∷ [])) z)

map_more : (f : ℕ → Event) (xs : List ℕ) (x : ℕ) → map f (xs ++ (x ∷ [])) ≡ map f xs ++ (f x ∷ [])
map_more f [] x = refl
map_more f (y ∷ xs) x = ap (λ (t : List Event). f y ∷ t) (map_more f xs x)

lines_are : {s : List ℕ} → Checked s → (n : ℕ) → n ≤ points s → log_text (map (λ p. event_of s (point_at s p)) (places 0 1 n)) ≡ lines_text s n
unfolding lines_text places log_text
lines_are {s} c zero h = refl
lines_are {s} c (suc n) h =
    let q : 0 + n ≡ n = omega arith in
    ap (λ (xs : List ℕ). log_text (map (λ p. event_of s (point_at s p)) xs)) (places-more 0 n ∙ ap (λ (k : ℕ). places 0 1 n ++ (k ∷ [])) q)
    ∙ ap log_text (map_more (λ p. event_of s (point_at s p)) (places 0 1 n) n)
    ∙ log-more (map (λ p. event_of s (point_at s p)) (places 0 1 n)) (event_of s (point_at s n))
    ∙ ap₂ (λ (a b : List ℕ). a ++ b) (lines_are c n (omega arith)) (line-is c n (omega arith))

pub exported-is : {s : List ℕ} → Checked s → exported s ≡ lines_text s (points s)
unfolding exported point_events
exported-is {s} c = lines_are c (points s) (omega arith)
