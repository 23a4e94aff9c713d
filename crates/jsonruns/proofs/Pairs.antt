-- The two members of a form, one after another: where their strings stand
use mathlib.Core.Path.{◌≡◌, refl, sym, ap, subst, ◌∙◌}
use mathlib.Core.Bool.{Bool, true, false, not}
use mathlib.Core.List.{List, [], ◌∷◌}
use mathlib.Core.Option.{Option, none, some}
use Prim.Native.Nat.{ℕ, ◌-◌, ◌<◌, ◌≤◌}
use native.Mathlib.Omega.{arith}
use lib.Dec.{eqb}
use lib.ListN.{length, drop}
use Rattle.std.proofs.Common.{IsSome, Option as Place, Some, None, unwrap_or}
use Rattle.std.specs.Prelude.{Result, Ok, Err}
use Rattle.meaning.specs.Tests.{◌and◌, ◌or◌, choose}
use Rattle.laws.specs.Tests.{yes, no as otherwise}
use Rattle.meaning.specs.Equal.{same_list}
use Rattle.laws.specs.Text.{same-list}
use Rattle.jsontext.specs.declared.Fault.TheVariants.{BadField}
use Rattle.jsontext.specs.Reading.{got, no, blanks}
use Rattle.jsontext.specs.Strings.{string}
use Rattle.jsontext.specs.Values.{J, text, object, member_of, «type», «fn», «decimal», both, argument}
use Rattle.jsonspelt.specs.declared.Spelt.{Spelt}
use Rattle.jsonspelt.specs.Spelt.{SpeltTold}
use Rattle.jsonread.specs.Told.{Blanks}
use Rattle.jsonread.specs.Spelling.{WordTold}
use Rattle.jsonread.proofs.Spelling.{never}
use Rattle.jsonruns.specs.Good.{Good, Ends, Signed, Past, PartTold}
use Rattle.jsonruns.specs.Run.{Run, Member}
use Rattle.jsonruns.specs.Forms.{first_name, second_name, one_of, under, form_of, pair_read, Says, TwoTold, FirstTold, kept_place, Kept}
use Rattle.jsonruns.proofs.Signs.{closed-behind}
use Rattle.jsonruns.proofs.Runs.{same-got, same_rest, then_of, text-string, object-listed, Turn, turn}

-- ---- small ones

pub string-ends : {line : List ℕ} {at : ℕ} {s : Spelt} → Good line at (string (drop at line)) → SpeltTold line at s → Ends line at s.end (string (drop at line))
string-ends g p = let k = p g.what g.rest g.is in record { from = omega (arith, k.from); within = k.within; is = λ t rest e. (p t rest e).is }

pub first_fn : (line : List ℕ) (at : ℕ) {x r : Bool} → x ≡ true → WordTold line at «fn» r → FirstTold line at x r
unfolding first_name
first_fn line at e t = record { is = λ n rest q. t n rest q ∙ rw e }

pub first-type : (line : List ℕ) (at : ℕ) {x r : Bool} → x ≡ false → WordTold line at «type» r → FirstTold line at x r
unfolding first_name
first-type line at e t = record { is = λ n rest q. t n rest q ∙ rw e }

module _ (old : Place ℕ) (new : ℕ) {b : Bool} where
  pub kept_new : {o : ℕ} → b ≡ true → o ≡ unwrap_or old new → Some o ≡ kept_place old new b
  unfolding kept_place choose
  kept_new {o} e q = elim old as (λ (x : Place ℕ). o ≡ unwrap_or x new → Some o ≡ kept_place x new b) [ None ↦ (λ f. rw e (ap Some f)) | Some p ↦ (λ f. ap Some f) ] q

  pub kept-other : b ≡ false → old ≡ kept_place old new b
  unfolding kept_place choose
  kept-other e = elim old as (λ (x : Place ℕ). x ≡ kept_place x new b) [ None ↦ (rw e refl) | Some p ↦ refl ]

never_none : {A : Type 0} {a : A} → Some a ≡ None → ⊥
never_none e = let x : ◌≡◌ {A = ℕ} 0 1 = cc in omega arith

is_there : (o : Place ℕ) → (o ≡ None → ⊥) → IsSome o
is_there None n = absurd (n refl)
is_there (Some a) n = refl

-- what stands under a name is a string
under-string : (x : Bool) (n s : List ℕ) {t rest : List ℕ} → under x n s ≡ got t rest → string s ≡ got t rest
unfolding under argument choose
under-string false n s e = text-string s e
under-string true n s {t} {rest} e =
    let a = then_of (text s) e in
    text-string s (a.is ∙ go a.what a.left (same_list n «fn» and not (same_list a.what «decimal»)) a.next)
  where
    go : (u r : List ℕ) (b : Bool) → choose b (no BadField s) (got u r) ≡ got t rest → got u r ≡ got t rest
    go u r true f = absurd (never f)
    go u r false f = f

-- ---- a name's place

module _ {line : List ℕ} {n : List ℕ} {all others : List (List ℕ × List ℕ)} {m : List ℕ × List ℕ} {w : ℕ} (says : Says line w m.1) where
  keep : (p : Place ℕ) (b : Bool) → b ≡ same_list m.0 n → Kept line p n all (m ∷ others) → Kept line (kept_place p w b) n all others
  unfolding member_of choose kept_place
  keep (Some p) b e k = record { missing = λ h. absurd (never_none h); found = k.found }
  keep None true e k = record {
    missing = λ h. absurd (never_none h);
    found = λ q h t f. let g : some m.1 ≡ some t = sym (yes _ (sym e)) ∙ sym (k.missing refl) ∙ f in let y : m.1 ≡ t = cc in let z : w ≡ q = cc in rw z at (subst (λ (u : List ℕ). Says line w u) y says);
  }
  keep None false e k = record { missing = λ h. k.missing refl ∙ otherwise _ (sym e) refl; found = λ q h t f. absurd (never_none (sym h)) }

-- a name is one of the two and not the other
others-name : (x : Bool) (n : List ℕ) → one_of x n ≡ true → not (same_list n (first_name x)) ≡ same_list n (second_name x)
unfolding one_of
others-name x n e =
    go x (same_list n (first_name x)) refl e
  where
    differ : (y : Bool) → false ≡ same_list (first_name y) (second_name y)
    differ false = unfold first_name second_name same_list ◌and◌ in refl
    differ true = unfold first_name second_name same_list ◌and◌ in refl

    go : (y b : Bool) → same_list n (first_name y) ≡ b → (b or same_list n (second_name y)) ≡ true → not b ≡ same_list n (second_name y)
    go y true q f = differ y ∙ ap (λ (k : List ℕ). same_list k (second_name y)) (sym (same-list n (first_name y) q))
    go y false q f = unfold ◌or◌ in sym f

-- ---- the members

pub record Pairing (line : List ℕ) (at : ℕ) (x : Bool) (first second : Place ℕ) (i : ℕ) : Type 0 where
  pub all : List (List ℕ × List ℕ)
  pub rest : List ℕ
  pub is : object (one_of x) (under x) (drop at line) ≡ got all rest
  pub from : at ≤ i
  pub within : i ≤ length line
  pub left : List (List ℕ × List ℕ)
  pub run : Run 125 (Member (one_of x) (under x)) (drop i line) left rest
  pub one : Kept line first (first_name x) all left
  pub two : Kept line second (second_name x) all left

-- both members are there
record Both (x : Bool) (a b : Option (List ℕ)) (left : List ℕ) (j : J) (rest : List ℕ) : Type 0 where
  one : List ℕ
  other : List ℕ
  first : a ≡ some one
  second : b ≡ some other
  made : j ≡ form_of x one other
  end : rest ≡ left

-- the members of an object that are both there
record Paired (x : Bool) (all : List (List ℕ × List ℕ)) (left : List ℕ) (j : J) (rest : List ℕ) : Type 0 where
  one : List ℕ
  other : List ℕ
  first : member_of (first_name x) all ≡ some one
  second : member_of (second_name x) all ≡ some other
  made : j ≡ form_of x one other
  end : rest ≡ left

both_of : (x : Bool) (a b : Option (List ℕ)) (left : List ℕ) {j : J} {rest : List ℕ} → both (form_of x) a b left ≡ got j rest → Both x a b left j rest
unfolding both
both_of x none b left e = absurd (never e)
both_of x (some a) none left e = absurd (never e)
both_of x (some a) (some b) left e = record { one = a; other = b; first = refl; second = refl; made = cc; end = cc }

-- none, where there is no member
no_member : (n : List ℕ) {a : List ℕ} → member_of n [] ≡ some a → ⊥
unfolding member_of
no_member n e = let x : ◌≡◌ {A = ℕ} 0 1 = cc in omega arith

kept-none : {line n : List ℕ} {all : List (List ℕ × List ℕ)} → Kept line None n all all
kept-none = record { missing = λ z. refl; found = λ q h. absurd (never_none (sym h)) }

pub pair-start : {line : List ℕ} {at i : ℕ} {x : Bool} → Good line at (pair_read x (drop at line)) → Blanks line at i → Pairing line at x None None i
unfolding pair_read
pair-start {line} {at} {i} {x} g b =
    let o = then_of (object (one_of x) (under x) (drop at line)) g.is in
    let l = object-listed (one_of x) (under x) (drop at line) o.is in
    let k = both_of x (member_of (first_name x) o.what) (member_of (second_name x) o.what) o.left o.next in
    record {
      all = o.what;
      rest = o.left;
      is = o.is;
      from = b.from;
      within = b.within;
      left = o.what;
      run = subst (λ (s : List ℕ). Run 125 (Member (one_of x) (under x)) s o.what o.left) (sym b.is) (l.run (go o.what (eqb l.first 125) refl l.none k.first));
      one = kept-none;
      two = kept-none;
    }
  where
    go : {a : List ℕ} {y : Bool} (all : List (List ℕ × List ℕ)) (z : Bool) → y ≡ z → (y ≡ true → all ≡ []) → member_of (first_name x) all ≡ some a → y ≡ false
    go all true q n f = absurd (no_member (first_name x) (sym (ap (member_of (first_name x)) (n q)) ∙ f))
    go all false q n f = q

module _ {line : List ℕ} {at i : ℕ} {first second : Place ℕ} {x : Bool} (g : Pairing line at x first second i) where
  now : Turn 125 (Member (one_of x) (under x)) (drop i line) g.left g.rest
  now = turn 125 (Member (one_of x) (under x)) g.run

  pub pair-within : i ≤ length line
  pair-within = g.within

  pub pair-name : Good line i (string (drop i line))
  pair-name = record { what = now.what.0; rest = now.part.after; within = g.within; is = now.part.name }

  module _ {e : ℕ} (p : Ends line i e (string (drop i line))) where
    colon : blanks (drop e line) ≡ 58 ∷ now.part.value
    colon = ap blanks (sym (p.is now.what.0 now.part.after now.part.name)) ∙ now.part.colon

    pub pair-colon : Signed line e
    pair-colon = record { within = p.within; sign = 58; rest = now.part.value; is = colon }

    module _ {w : ℕ} (v : Past line e w) where
      value : string (drop w line) ≡ got now.what.1 now.after
      value = ap string (v.is 58 now.part.value colon) ∙ under-string x now.what.0 (blanks now.part.value) now.part.is

      pub pair-value : Good line w (string (drop w line))
      pair-value = record { what = now.what.1; rest = now.after; within = v.within; is = value }

      says : Says line w now.what.1
      says = record { rest = now.after; within = v.within; is = value }

      module _ {f : ℕ} (o : Ends line w f (string (drop w line))) where
        sign-here : blanks (drop f line) ≡ now.sign ∷ now.others
        sign-here = ap blanks (sym (o.is now.what.1 now.after value)) ∙ now.byte

        pub pair-past : Signed line f
        pair-past = record { within = o.within; sign = now.sign; rest = now.others; is = sign-here }

        module _ {r : Result ℕ ℕ} (d : PartTold line f 125 r) where
          pub pair-less : {j : ℕ} → r ≡ Ok j → length line - j < length line - i
          pair-less {j} z = let c = d.next j z in omega (arith, p.from, v.from, o.from, c.from, c.within)

          module _ {b₁ b₂ : Bool} {first' second' : Place ℕ} (t : FirstTold line i x b₁) (n : b₂ ≡ not b₁) (q : first' ≡ kept_place first w b₁) (q' : second' ≡ kept_place second w b₂) where
            kept-first : {others : List (List ℕ × List ℕ)} → g.left ≡ now.what ∷ others → Kept line first' (first_name x) g.all others
            kept-first e' = rw q (keep says first b₁ (t.is now.what.0 now.part.after now.part.name) (rw e' at g.one))

            kept_second : {others : List (List ℕ × List ℕ)} → g.left ≡ now.what ∷ others → Kept line second' (second_name x) g.all others
            kept_second e' = rw q' (keep says second b₂ (n ∙ ap not (t.is now.what.0 now.part.after now.part.name) ∙ others-name x now.what.0 now.part.knows) (rw e' at g.two))

            pub pair-again : {j : ℕ} → r ≡ Ok j → Pairing line at x first' second' j
            pair-again {j} z =
                let c = d.next j z in
                let y = now.next (c.other now.sign now.others sign-here) in
                record {
                  all = g.all;
                  rest = g.rest;
                  is = g.is;
                  from = omega (arith, g.from, p.from, v.from, o.from, c.from);
                  within = c.within;
                  left = y.parts;
                  run = subst (λ (s : List ℕ). Run 125 (Member (one_of x) (under x)) s y.parts g.rest) (sym (c.is now.sign now.others sign-here)) y.run;
                  one = kept-first y.all-is;
                  two = kept_second y.all-is;
                }

            -- the bracket closes: both places are known
            module _ {k : ℕ} (good : Good line at (pair_read x (drop at line))) (z : r ≡ Err k) where
              last : now.sign ≡ 125
              last = let c = d.closed k z in let s = sym sign-here ∙ c.is in cc

              pair-both : {j : J} {rest : List ℕ} → pair_read x (drop at line) ≡ got j rest → Paired x g.all g.rest j rest
              unfolding pair_read
              pair-both h =
                  let m = then_of (object (one_of x) (under x) (drop at line)) h in
                  let y = both_of x (member_of (first_name x) m.what) (member_of (second_name x) m.what) m.left m.next in
                  record {
                    one = y.one;
                    other = y.other;
                    first = ap (member_of (first_name x)) (same-got g.is m.is) ∙ y.first;
                    second = ap (member_of (second_name x)) (same-got g.is m.is) ∙ y.second;
                    made = y.made;
                    end = y.end ∙ same_rest m.is g.is;
                  }

              pub pair-first : IsSome first'
              pair-first = is_there first' λ h. let y = pair-both good.is in no_member (first_name x) (sym ((kept-first (now.alone last)).missing h) ∙ y.first)

              pub pair-second : IsSome second'
              pair-second = is_there second' λ h. let y = pair-both good.is in no_member (second_name x) (sym ((kept_second (now.alone last)).missing h) ∙ y.second)

              pub pair-closed : {a b : ℕ} → first' ≡ Some a → second' ≡ Some b → TwoTold line at x (record { first = a; second = b; end = k }) (pair_read x (drop at line))
              pair-closed {a} {b} u u' =
                  let h = closed-behind (d.closed k z) in
                  record {
                    from = omega (arith, g.from, p.from, v.from, o.from, h.from);
                    within = h.within;
                    is = λ j rest e. (pair-both e).end ∙ now.left last ∙ h.is now.sign now.others sign-here;
                    two =
                        λ j rest e.
                        let y = pair-both e in
                        record { one = y.one; other = y.other; is = y.made; first = (kept-first (now.alone last)).found a u y.one y.first; second = (kept_second (now.alone last)).found b u' y.other y.second };
                  }
