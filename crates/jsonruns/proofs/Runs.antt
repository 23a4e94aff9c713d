-- Arrays and objects that read well are runs of parts
use mathlib.Core.Path.{◌≡◌, refl, sym, ◌∙◌}
use mathlib.Core.Bool.{Bool, true, false}
use mathlib.Core.List.{List, [], ◌∷◌}
use mathlib.Core.Option.{Option, none, some}
use Prim.Native.Nat.{ℕ, zero, suc}
use native.Mathlib.Omega.{arith}
use lib.Dec.{eqb}
use lib.ListN.{length}
use borrow.Author.Tests.{eqb-true, eq-eqb}
use Rattle.meaning.specs.Tests.{choose}
use Rattle.jsontext.specs.declared.Fault.{Fault}
use Rattle.jsontext.specs.declared.Fault.TheVariants.{NotJson, RepeatedName, BadField}
use Rattle.jsontext.specs.Reading.{Read, got, fault, then, no, mapped, blanks, want}
use Rattle.jsontext.specs.Strings.{string}
use Rattle.jsontext.specs.Values.{begins, due, text, Name, before, after_part, items, unless_empty, array, after_name, members, object}
use Rattle.jsonread.proofs.Spelling.{never, Came, came}
use Rattle.jsonruns.specs.Run.{Run, last, more, Listed, Item, Member}

-- ---- what was read, one thing after another

pub record Then {A B : Type 0} (m : Read A) (f : A → List ℕ → Read B) (b : B) (rest : List ℕ) : Type 0 where
  pub what : A
  pub left : List ℕ
  pub is : m ≡ got what left
  pub next : f what left ≡ got b rest

pub then_of : {A B : Type 0} (m : Read A) {f : A → List ℕ → Read B} {b : B} {rest : List ℕ} → then m f ≡ got b rest → Then m f b rest
unfolding then
then_of (got a s) e = record { what = a; left = s; is = refl; next = e }
then_of (fault w l k) e = absurd (never e)

pub same-got : {A : Type 0} {m : Read A} {a b : A} {s t : List ℕ} → m ≡ got a s → m ≡ got b t → a ≡ b
same-got p q = cc

pub same_rest : {A : Type 0} {m : Read A} {a b : A} {s t : List ℕ} → m ≡ got a s → m ≡ got b t → s ≡ t
same_rest p q = cc

-- what must begin so and was read, was read
pub due_of : {A : Type 0} (w : Fault) (right : ℕ → Bool) (read : List ℕ → Read A) (s : List ℕ) {a : A} {rest : List ℕ} → due w right read s ≡ got a rest → read s ≡ got a rest
unfolding due choose
due_of w right read [] e = absurd (never e)
due_of w right read (c ∷ s) {a} {rest} e =
    go (right c) (begins c) e
  where
    go : (x y : Bool) → choose x (read (c ∷ s)) (choose y (no w (c ∷ s)) (no NotJson (c ∷ s))) ≡ got a rest → read (c ∷ s) ≡ got a rest
    go true y f = f
    go false true f = absurd (never f)
    go false false f = absurd (never f)

pub text-string : (s : List ℕ) {t rest : List ℕ} → text s ≡ got t rest → string s ≡ got t rest
text-string s e = due_of BadField (λ c. eqb c 34) string s e

-- a byte that is due stands there
pub record Wanted (b : ℕ) (s rest : List ℕ) : Type 0 where
  pub is : s ≡ b ∷ rest

pub wanted : (b : ℕ) (s : List ℕ) {c : ℕ} {rest : List ℕ} → want b s ≡ got c rest → Wanted b s rest
unfolding want choose
wanted b [] e = absurd (never e)
wanted b (x ∷ s) {c} {rest} e =
    go (eqb x b) refl e
  where
    go : (y : Bool) → eqb x b ≡ y → choose y (got x s) (no NotJson (x ∷ s)) ≡ got c rest → Wanted b (x ∷ s) rest
    go true q f = let z : x ≡ b = eqb-true x b q in record { is = cc }
    go false q f = absurd (never f)

-- what follows a part
pub record After {A : Type 0} (close : ℕ) (a : A) (parts : List ℕ → Read (List A)) (s : List ℕ) (all : List A) (rest : List ℕ) : Type 0 where
  pub sign : ℕ
  pub others : List ℕ
  pub byte : s ≡ sign ∷ others
  pub alone : eqb sign close ≡ true → all ≡ a ∷ []
  pub left : eqb sign close ≡ true → rest ≡ others
  pub goes : eqb sign close ≡ false → Came (λ ps. a ∷ ps) (parts (blanks others)) all rest

pub after_of : {A : Type 0} (close : ℕ) (a : A) (parts : List ℕ → Read (List A)) (s : List ℕ) {all : List A} {rest : List ℕ} → after_part close a parts s ≡ got all rest → After close a parts s all rest
unfolding after_part choose
after_of close a parts [] e = absurd (never e)
after_of {A} close a parts (c ∷ s) {all} {rest} e =
    record { sign = c; others = s; byte = refl; alone = λ q. alone (eqb c close) (eqb c 44) q e; left = λ q. left (eqb c close) (eqb c 44) q e; goes = λ q. goes (eqb c close) (eqb c 44) q e }
  where
    alone : (y x : Bool) → y ≡ true → choose y (got (a ∷ []) s) (choose x (mapped (λ ps. a ∷ ps) (parts (blanks s))) (no NotJson (c ∷ s))) ≡ got all rest → all ≡ a ∷ []
    alone true x q f = cc
    alone false x q f = absurd (let n : ◌≡◌ {A = ℕ} 0 1 = cc in omega arith)

    left : (y x : Bool) → y ≡ true → choose y (got (a ∷ []) s) (choose x (mapped (λ ps. a ∷ ps) (parts (blanks s))) (no NotJson (c ∷ s))) ≡ got all rest → rest ≡ s
    left true x q f = cc
    left false x q f = absurd (let n : ◌≡◌ {A = ℕ} 0 1 = cc in omega arith)

    goes : (y x : Bool) → y ≡ false → choose y (got (a ∷ []) s) (choose x (mapped (λ ps. a ∷ ps) (parts (blanks s))) (no NotJson (c ∷ s))) ≡ got all rest → Came (λ ps. a ∷ ps) (parts (blanks s)) all rest
    goes true x q f = absurd (let n : ◌≡◌ {A = ℕ} 0 1 = cc in omega arith)
    goes false true q f = came (λ ps. a ∷ ps) (parts (blanks s)) f
    goes false false q f = absurd (never f)

-- ---- arrays

module _ {A : Type 0} {close : ℕ} (Part : List ℕ → A → List ℕ → Type 0) where
  -- a part and what follows it
  pub run_of : {s t rest : List ℕ} {a : A} {all : List A} (parts : List ℕ → Read (List A)) → Part s a t → After close a parts (blanks t) all rest → ((u : List ℕ) (others : List A) → parts u ≡ got others rest → Run close Part u others rest) → Run close Part s all rest
  run_of {s} {t} {rest} {a} {all} parts p f g =
      go (eqb f.sign close) refl
    where
      go : (x : Bool) → eqb f.sign close ≡ x → Run close Part s all rest
      go true q =
          let z : f.sign ≡ close = eqb-true _ _ q in
          let e : blanks t ≡ close ∷ rest = f.byte ∙ cc (z, f.left q) in
          rw (f.alone q) (last p e)
      go false q = let n = f.goes q in rw n.makes (more f.sign p f.byte q (g _ n.what n.is))

  pub listed_of : (parts : List ℕ → Read (List A)) (s : List ℕ) {all : List A} {rest : List ℕ} → unless_empty close parts (blanks s) ≡ got all rest → ((u : List ℕ) (others : List A) → parts u ≡ got others rest → Run close Part u others rest) → Listed close Part s all rest
  unfolding unless_empty choose
  listed_of parts s {all} {rest} e g =
      go (blanks s) refl e
    where
      go : (t : List ℕ) → blanks s ≡ t → unless_empty close parts t ≡ got all rest → Listed close Part s all rest
      go [] q f = absurd (never f)
      go (c ∷ t) q f =
          record { first = c; others = t; byte = q; none = λ y. nothing (eqb c close) y f; left = λ y. left (eqb c close) y f; run = λ y. rw q (some (eqb c close) y f) }
        where
          nothing : (x : Bool) → x ≡ true → choose x (got [] t) (parts (c ∷ t)) ≡ got all rest → all ≡ []
          nothing true y f = cc
          nothing false y f = absurd (let n : ◌≡◌ {A = ℕ} 0 1 = cc in omega arith)

          left : (x : Bool) → x ≡ true → choose x (got [] t) (parts (c ∷ t)) ≡ got all rest → rest ≡ t
          left true y f = cc
          left false y f = absurd (let n : ◌≡◌ {A = ℕ} 0 1 = cc in omega arith)

          some : (x : Bool) → x ≡ false → choose x (got [] t) (parts (c ∷ t)) ≡ got all rest → Run close Part (c ∷ t) all rest
          some true y f = absurd (let n : ◌≡◌ {A = ℕ} 0 1 = cc in omega arith)
          some false y f = g (c ∷ t) all f

module _ {A : Type 0} (item : List ℕ → Read A) where
  items-run : (turns : ℕ) (s : List ℕ) (all : List A) {rest : List ℕ} → items item turns s ≡ got all rest → Run 93 (Item item) s all rest
  unfolding items
  items-run zero s all e = absurd (never e)
  items-run (suc turns) s all e =
      let a = then_of (item s) e in
      run_of (Item item) (λ t. items item turns t) a.is (after_of 93 a.what (λ t. items item turns t) (blanks a.left) a.next) (λ u others f. items-run turns u others f)

  pub array-listed : (s : List ℕ) {all : List A} {rest : List ℕ} → array item s ≡ got all rest → Listed 93 (Item item) s all rest
  unfolding array
  array-listed s e = listed_of (Item item) (λ t. items item (suc (length t)) t) s e (λ u others f. items-run (suc (length u)) u others f)

-- ---- objects

-- a name that is known, and its colon
record Colon (known : List ℕ → Bool) (n s rest : List ℕ) : Type 0 where
  knows : known n ≡ true
  colon : s ≡ 58 ∷ rest

colon_of : (known : List ℕ → Bool) (seen : List Name) (n : Name) (s : List ℕ) {c : ℕ} {rest : List ℕ} → after_name known seen n s ≡ got c rest → Colon known n.name s rest
unfolding after_name choose
colon_of known seen n s {c} {rest} e =
    go (before n.name seen) e
  where
    chosen : (x : Bool) → known n.name ≡ x → choose x (want 58 s) (fault BadField n.left n.left) ≡ got c rest → Colon known n.name s rest
    chosen true q f = record { knows = q; colon = (wanted 58 s f).is }
    chosen false q f = absurd (never f)

    go : (o : Option ℕ) → elim o [ some first ↦ fault RepeatedName n.left first | none ↦ choose (known n.name) (want 58 s) (fault BadField n.left n.left) ] ≡ got c rest → Colon known n.name s rest
    go none f = chosen (known n.name) refl f
    go (some first) f = absurd (never f)

module _ {A : Type 0} (known : List ℕ → Bool) (item : List ℕ → List ℕ → Read A) where
  members_run : (turns : ℕ) (seen : List Name) (s : List ℕ) (all : List (List ℕ × A)) {rest : List ℕ} → members known item turns seen s ≡ got all rest → Run 125 (Member known item) s all rest
  unfolding members
  members_run zero seen s all e = absurd (never e)
  members_run (suc turns) seen s all e =
      let n = then_of (string s) e in
      let c = then_of (after_name known seen (record { name = n.what; left = length s }) (blanks n.left)) n.next in
      let k = colon_of known seen (record { name = n.what; left = length s }) (blanks n.left) c.is in
      let a = then_of (item n.what (blanks c.left)) c.next in
      let more : List ℕ → Read (List (List ℕ × A)) = λ t. members known item turns (record { name = n.what; left = length s } ∷ seen) t in
      run_of (Member known item) more
      (record { after = n.left; value = c.left; name = n.is; knows = k.knows; colon = k.colon; is = a.is })
      (after_of 125 (n.what, a.what) more (blanks a.left) a.next)
      (λ u others f. members_run turns (record { name = n.what; left = length s } ∷ seen) u others f)

  pub object-listed : (s : List ℕ) {all : List (List ℕ × A)} {rest : List ℕ} → object known item s ≡ got all rest → Listed 125 (Member known item) s all rest
  unfolding object
  object-listed s e = listed_of (Member known item) (λ t. members known item (suc (length t)) [] t) s e (λ u others f. members_run (suc (length u)) [] u others f)

-- ---- a run's first part

module _ {A : Type 0} (close : ℕ) (Part : List ℕ → A → List ℕ → Type 0) where
  pub record Onward (others : List ℕ) (a : A) (all : List A) (rest : List ℕ) : Type 0 where
    pub parts : List A
    pub all-is : all ≡ a ∷ parts
    pub run : Run close Part (blanks others) parts rest

  pub record Turn (s : List ℕ) (all : List A) (rest : List ℕ) : Type 0 where
    pub what : A
    pub after : List ℕ
    pub part : Part s what after
    pub sign : ℕ
    pub others : List ℕ
    pub byte : blanks after ≡ sign ∷ others
    pub alone : sign ≡ close → all ≡ what ∷ []
    pub left : sign ≡ close → rest ≡ others
    pub next : (sign ≡ close → ⊥) → Onward others what all rest

  pub turn : {s : List ℕ} {all : List A} {rest : List ℕ} → Run close Part s all rest → Turn s all rest
  turn (last p e) = record { what = _; after = _; part = p; sign = close; others = _; byte = e; alone = λ z. refl; left = λ z. refl; next = λ n. absurd (n refl) }
  turn (more c p e q r) =
      let never : c ≡ close → ⊥ = λ z. let y : ◌≡◌ {A = Bool} true false = sym (eq-eqb c close z) ∙ q in let x : ◌≡◌ {A = ℕ} 0 1 = cc in omega arith in
      record { what = _; after = _; part = p; sign = c; others = _; byte = e; alone = λ z. absurd (never z); left = λ z. absurd (never z); next = λ n. record { parts = _; all-is = refl; run = r } }
