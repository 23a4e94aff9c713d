-- What the parts of an event add to the tables, and contracts of the functions that write them
use Rattle.std.specs.Prelude.{◌≡◌, List, [], ◌∷◌, ◌++◌, ℕ, ◌+◌, ◌*◌, ◌-◌, ◌%◌, ◌/◌, ◌<◌, ◌≤◌, length, drop}
use Rattle.std.proofs.Math.Option.{Option}
use Rattle.laws.specs.Writing.{Writing}
use Rattle.encode.specs.Words.{packed}
use Rattle.jsontext.specs.Reading.{Read, got, blanks}
use Rattle.jsontext.specs.Strings.{string}
use Rattle.jsontext.specs.Values.{J, Object, Parts}
use Rattle.jsontext.specs.Events.{Event, line as line_of}
use Rattle.jsontrace.specs.Order.{ordered_members, ordered_maybe, ordered_entities}
use Rattle.jsontrace.specs.Trace.{Tables, ◌⊕◌, texts, lists, Next as Next-as_Trace, past, last_value, low, high, value_adds, maybe_adds, maybe_number, naming, entities_add}
use Rattle.jsonroom.specs.declared.Bodies.{Bodies}
use Rattle.jsonroom.specs.declared.Next.{Next}
use Rattle.jsonview.specs.Room.{Ready, Adds, numbers}
use Rattle.jsonentry.specs.declared.Fields.{Fields}
use Rattle.jsonpieces.specs.declared.EventValues.{EventValues}
use Rattle.jsonpieces.specs.declared.Body.{Body}
use Rattle.jsonentry.specs.Fields.{FieldsTold}
use Rattle.jsonentry.specs.Marks.{MarkReady, MarkAdds}

-- ---- strings of a namespace

-- each is named by a list word
unfoldable pub space_tables : List (List ℕ) → Next-as_Trace → Tables
space_tables ts k = texts ts ⊕ lists (naming k.string (length ts))

pub record SpacesWritten (m : Read (List (List ℕ))) (before after marks marks' : List ℕ) (b : Bodies) (n r : Next) : Type 0 where
  pub adds : (what : List (List ℕ)) (rest : List ℕ) → m ≡ got what rest → MarkAdds before after marks marks' b n (space_tables what (numbers n)) r

-- ---- namespace, action, kind

unfoldable pub names_add : Event → Next-as_Trace → Tables
names_add e k = texts (e.namespace ++ (e.action ∷ e.kind ∷ [])) ⊕ lists (naming k.string (length e.namespace))

pub record NamesDue (line : List ℕ) (f : Fields) (file marks : List ℕ) (b : Bodies) (n : Next) : Type 0 where
  pub what : Event
  pub rest : List ℕ
  pub is : line_of line ≡ got what rest
  pub fields : FieldsTold line f
  pub ready : MarkReady file marks b n (names_add what (numbers n))

pub record NamesSmall (n : Next) (spaces : ℕ) : Type 0 where
  pub list : n.list + spaces ≤ 4294967295
  pub string : n.string + spaces + 1 ≤ 4294967295

pub record NamesWritten (line before after marks marks' : List ℕ) (b : Bodies) (n r : Next) : Type 0 where
  pub from : n.list ≤ r.list
  pub small : NamesSmall n (r.list - n.list)
  pub numbers-are : (e : Event) (rest : List ℕ) → line_of line ≡ got e rest → numbers r ≡ past (numbers n) (names_add e (numbers n))
  pub spaces : (e : Event) (rest : List ℕ) → line_of line ≡ got e rest → r.list - n.list ≡ length e.namespace
  pub adds : (e : Event) (rest : List ℕ) → line_of line ≡ got e rest → MarkAdds before after marks marks' b n (names_add e (numbers n)) r

-- ---- a value that a word of the point names

-- an object that is no form, and a value that may be missing, in order: what they add, and the word
unfoldable pub fields_tables : Parts → Next-as_Trace → Tables
fields_tables ps k = value_adds (Object (ordered_members ps)) k

unfoldable pub fields_word : Parts → Next-as_Trace → ℕ
fields_word ps k = last_value k (fields_tables ps k)

unfoldable pub maybe_tables : Option J → Next-as_Trace → Tables
maybe_tables o k = maybe_adds (ordered_maybe o) k

unfoldable pub maybe_word : Option J → Next-as_Trace → ℕ
maybe_word o k = maybe_number (ordered_maybe o) k

-- it stands here and its tables fit, with cells for its names
pub record OneDue {A : Type 0} (S : A → Type 0) (tables : A → Next-as_Trace → Tables) (line names file : List ℕ) (b : Bodies) (n : Next) : Type 0 where
  pub what : A
  pub stands : S what
  pub ready : Ready file b n (tables what (numbers n))
  pub cells : length line ≤ 4 * length names

pub record OneWritten {A : Type 0} (S : A → Type 0) (tables : A → Next-as_Trace → Tables) (word : A → Next-as_Trace → ℕ) (names names' before after : List ℕ) (b : Bodies) (n next : Next) (number : ℕ) : Type 0 where
  pub long : length names' ≡ length names
  pub small : number ≤ 4294967295
  pub adds : (what : A) → S what → Adds before after b n (tables what (numbers n)) next
  pub is : (what : A) → S what → number ≡ word what (numbers n)

-- two of them
unfoldable pub both_tables : {A : Type 0} → (A → Next-as_Trace → Tables) → A → A → Next-as_Trace → Tables
both_tables t x y k = t x k ⊕ t y (past k (t x k))

pub record PairDue {A : Type 0} (S T : A → Type 0) (tables : A → Next-as_Trace → Tables) (line names file : List ℕ) (b : Bodies) (n : Next) : Type 0 where
  pub first : A
  pub second : A
  pub first-is : S first
  pub second_is : T second
  pub ready : Ready file b n (both_tables tables first second (numbers n))
  pub cells : length line ≤ 4 * length names

pub record PairWritten {A : Type 0} (S T : A → Type 0) (tables : A → Next-as_Trace → Tables) (word : A → Next-as_Trace → ℕ) (names names' before after : List ℕ) (b : Bodies) (n next : Next) (one other : ℕ) : Type 0 where
  pub long : length names' ≡ length names
  pub first_small : one ≤ 4294967295
  pub second-small : other ≤ 4294967295
  pub adds : (x y : A) → S x → T y → Adds before after b n (both_tables tables x y (numbers n)) next
  pub first-is : (x : A) → S x → one ≡ word x (numbers n)
  pub second_is : (x y : A) → S x → T y → other ≡ word y (past (numbers n) (tables x (numbers n)))

-- ---- logged and context, principal and resource

unfoldable pub records_add : Event → Next-as_Trace → Tables
records_add e k = both_tables fields_tables e.logged e.context k

unfoldable pub parties_add : Event → Next-as_Trace → Tables
parties_add e k = both_tables maybe_tables e.principal e.resource k

unfoldable pub values_add : Event → Next-as_Trace → Tables
values_add e k = records_add e k ⊕ parties_add e (past k (records_add e k))

pub record ValuesAre (e : Event) (k : Next-as_Trace) (r : EventValues) : Type 0 where
  pub logged : r.logged ≡ fields_word e.logged k
  pub context : r.context ≡ fields_word e.context (past k (fields_tables e.logged k))
  pub principal : r.principal ≡ maybe_word e.principal (past k (records_add e k))
  pub resource : r.resource ≡ maybe_word e.resource (past (past k (records_add e k)) (maybe_tables e.principal (past k (records_add e k))))

pub record AllSmall (r : EventValues) : Type 0 where
  pub logged : r.logged ≤ 4294967295
  pub context : r.context ≤ 4294967295
  pub principal : r.principal ≤ 4294967295
  pub resource : r.resource ≤ 4294967295

pub record ValuesDue (line : List ℕ) (f : Fields) (names file : List ℕ) (b : Bodies) (n : Next) : Type 0 where
  pub what : Event
  pub rest : List ℕ
  pub is : line_of line ≡ got what rest
  pub fields : FieldsTold line f
  pub ready : Ready file b n (values_add what (numbers n))
  pub cells : length line ≤ 4 * length names

pub record ValuesWritten (line names names' before after : List ℕ) (b : Bodies) (n next : Next) (r : EventValues) : Type 0 where
  pub long : length names' ≡ length names
  pub small : AllSmall r
  pub numbers-are : (e : Event) (rest : List ℕ) → line_of line ≡ got e rest → numbers next ≡ past (numbers n) (values_add e (numbers n))
  pub adds : (e : Event) (rest : List ℕ) → line_of line ≡ got e rest → Adds before after b n (values_add e (numbers n)) next
  pub is : (e : Event) (rest : List ℕ) → line_of line ≡ got e rest → ValuesAre e (numbers n) r

-- ---- numbers that are words

pub record QuadSmall (p q r s : ℕ) : Type 0 where
  pub one : p ≤ 4294967295
  pub two : q ≤ 4294967295
  pub three : r ≤ 4294967295
  pub four : s ≤ 4294967295

pub record ValuesSmall (r : EventValues) (lists count : ℕ) : Type 0 where
  pub four : AllSmall r
  pub list : lists ≤ 4294967295
  pub many : count ≤ 4294967295

-- ---- names and values, then entities

unfoldable pub front_add : Event → Next-as_Trace → Tables
front_add e k = names_add e k ⊕ values_add e (past k (names_add e k))

-- the entities
unfoldable pub last_add : Event → Next-as_Trace → Tables
last_add e k = entities_add (ordered_entities e.entities) k

unfoldable pub body_add : Event → Next-as_Trace → Tables
body_add e k = front_add e k ⊕ last_add e (past k (front_add e k))

-- parts of the event whose fields stand so, and their tables fit
pub record PieceDue (piece : Event → Next-as_Trace → Tables) (line : List ℕ) (f : Fields) (names file marks : List ℕ) (b : Bodies) (n : Next) : Type 0 where
  pub what : Event
  pub rest : List ℕ
  pub is : line_of line ≡ got what rest
  pub fields : FieldsTold line f
  pub ready : MarkReady file marks b n (piece what (numbers n))
  pub cells : length line ≤ 4 * length names

pub record FrontIs (e : Event) (k : Next-as_Trace) (spaces : ℕ) (r : EventValues) : Type 0 where
  pub many : spaces ≡ length e.namespace
  pub four : ValuesAre e (past k (names_add e k)) r

pub record FrontSmall (n : Next) (spaces : ℕ) (r : EventValues) : Type 0 where
  pub names : NamesSmall n spaces
  pub four : AllSmall r

pub record FrontWritten (line names names' before after marks marks' : List ℕ) (b : Bodies) (n next : Next) (spaces : ℕ) (r : EventValues) : Type 0 where
  pub long : length names' ≡ length names
  pub small : FrontSmall n spaces r
  pub numbers-are : (e : Event) (rest : List ℕ) → line_of line ≡ got e rest → numbers next ≡ past (numbers n) (front_add e (numbers n))
  pub adds : (e : Event) (rest : List ℕ) → line_of line ≡ got e rest → MarkAdds before after marks marks' b n (front_add e (numbers n)) next
  pub is : (e : Event) (rest : List ℕ) → line_of line ≡ got e rest → FrontIs e (numbers n) spaces r

pub record LastWritten (line names names' before after marks marks' : List ℕ) (b : Bodies) (n next : Next) (count : ℕ) : Type 0 where
  pub long : length names' ≡ length names
  pub list : n.list ≤ 4294967295
  pub small : count ≤ 4294967295
  pub adds : (e : Event) (rest : List ℕ) → line_of line ≡ got e rest → MarkAdds before after marks marks' b n (last_add e (numbers n)) next
  pub count-is : (e : Event) (rest : List ℕ) → line_of line ≡ got e rest → count ≡ length e.entities

pub record BodyIs (e : Event) (k : Next-as_Trace) (r : Body) : Type 0 where
  pub front : FrontIs e k r.spaces r.values
  pub list : r.list ≡ (past k (front_add e k)).list
  pub count : r.count ≡ length e.entities

pub record BodySmall (n : Next) (r : Body) : Type 0 where
  pub names : NamesSmall n r.spaces
  pub values : ValuesSmall r.values r.list r.count

pub record BodyWritten (line names names' before after marks marks' : List ℕ) (b : Bodies) (n next : Next) (r : Body) : Type 0 where
  pub long : length names' ≡ length names
  pub small : BodySmall n r
  pub adds : (e : Event) (rest : List ℕ) → line_of line ≡ got e rest → MarkAdds before after marks marks' b n (body_add e (numbers n)) next
  pub is : (e : Event) (rest : List ℕ) → line_of line ≡ got e rest → BodyIs e (numbers n) r

-- ---- the point's record

-- time, namespace, action, kind; the four values; entities
unfoldable pub name_words : ℕ → Next → ℕ → List ℕ
name_words time n spaces = time % 4294967296 ∷ time / 4294967296 ∷ n.list ∷ spaces ∷ (n.string + spaces) ∷ (n.string + spaces + 1) ∷ []

unfoldable pub value_words : EventValues → ℕ → ℕ → List ℕ
value_words r list count = r.logged ∷ r.context ∷ r.principal ∷ r.resource ∷ list ∷ count ∷ []

unfoldable pub point_words : ℕ → Next → Body → List ℕ
point_words time n r = name_words time n r.spaces ++ value_words r.values r.list r.count

-- one point more
unfoldable pub with_point : Next → Next
with_point n = record { string = n.string; byte = n.byte; value = n.value; member = n.member; list = n.list; point = n.point + 1 }

pub record PointRoom (out : List ℕ) (b : Bodies) (next n : Next) (r : Body) : Type 0 where
  pub fits : b.points + 48 * next.point + 48 ≤ length out
  pub small : BodySmall n r

pub record PointPut (before after : List ℕ) (b : Bodies) (next : Next) (time : ℕ) (n : Next) (r : Body) (last : Next) : Type 0 where
  pub is : Writing before after (b.points + 48 * next.point) (packed (point_words time n r))
  pub more : last ≡ with_point next

-- the words of an event's point
unfoldable pub words_of : Event → Next-as_Trace → List ℕ
words_of e k =
    let k1 = past k (names_add e k) in
    let k3 = past k1 (records_add e k1) in
    low e.time ∷ high e.time
    ∷ k.list ∷ length e.namespace
    ∷ (k.string + length e.namespace) ∷ (k.string + length e.namespace + 1)
    ∷ fields_word e.logged k1 ∷ fields_word e.context (past k1 (fields_tables e.logged k1))
    ∷ maybe_word e.principal k3 ∷ maybe_word e.resource (past k3 (maybe_tables e.principal k3))
    ∷ (past k (front_add e k)).list ∷ length e.entities ∷ []
