-- A record put into its table: the bytes that are new, and the numbers that are next
use Rattle.std.specs.Prelude.{◌≡◌, List, [], ◌∷◌, ◌++◌, ℕ, ◌+◌, ◌*◌, ◌-◌, ◌<◌, ◌≤◌, length, drop}
use Rattle.laws.specs.Writing.{Writing}
use Rattle.encode.specs.Words.{packed}
use Rattle.jsontext.specs.Reading.{got}
use Rattle.jsontext.specs.Strings.{string}
use Rattle.jsonspelt.specs.Spelt.{Fits}
use Rattle.jsonroom.specs.declared.Bodies.{Bodies}
use Rattle.jsonroom.specs.declared.Next.{Next}

-- one value more
unfoldable pub with_value : Next → Next
with_value n = record { string = n.string; byte = n.byte; value = n.value + 1; member = n.member; list = n.list; point = n.point }

pub record ValuePut (before after : List ℕ) (b : Bodies) (n : Next) (kind x y : ℕ) (r : Next) : Type 0 where
  pub is : Writing before after (b.values + 16 * n.value) (packed (kind ∷ x ∷ y ∷ 0 ∷ []))
  pub next : r ≡ with_value n

-- one string more, of so many bytes
unfoldable pub with_string : ℕ → Next → Next
with_string bytes n = record { string = n.string + 1; byte = n.byte + bytes; value = n.value; member = n.member; list = n.list; point = n.point }

-- a string stands here; its record fits, its bytes fit behind it, and both are words
pub record StringRoom (line : List ℕ) (at : ℕ) (out : List ℕ) (b : Bodies) (n : Next) : Type 0 where
  pub fits : Fits line at (b.text + n.byte) out
  pub record_fits : b.strings + 8 * n.string + 8 ≤ b.text
  pub words : length out ≤ 4294967295

pub record StringIs (line : List ℕ) (at : ℕ) (before after : List ℕ) (b : Bodies) (n m : Next) (e : ℕ) (text rest : List ℕ) : Type 0 where
  pub from : at < e
  pub within : e ≤ length line
  pub rest-is : rest ≡ drop e line
  pub middle : List ℕ
  pub bytes : Writing before middle (b.text + n.byte) text
  pub record_is : Writing middle after (b.strings + 8 * n.string) (packed (n.byte ∷ length text ∷ []))
  pub next : m ≡ with_string (length text) n

abbrev pub StringPut : List ℕ → ℕ → List ℕ → List ℕ → Bodies → Next → Next → ℕ → Type 0
StringPut line at before after b n next e = (text rest : List ℕ) → string (drop at line) ≡ got text rest → StringIs line at before after b n next e text rest

-- a list word fits, and its mark
pub record ListRoom (out marks : List ℕ) (b : Bodies) (n : Next) (word : ℕ) : Type 0 where
  pub fits : b.lists + 4 * n.list + 4 ≤ length out
  pub marked : n.list < length marks
  pub is_word : word ≤ 4294967295

-- one list word more
unfoldable pub with_list : Next → Next
with_list n = record { string = n.string; byte = n.byte; value = n.value; member = n.member; list = n.list + 1; point = n.point }

pub record ListPut (before after marks marked : List ℕ) (b : Bodies) (n : Next) (word mark : ℕ) (r : Next) : Type 0 where
  pub is : Writing before after (b.lists + 4 * n.list) (packed (word ∷ []))
  pub mark-is : Writing marks marked n.list (mark ∷ [])
  pub next : r ≡ with_list n

-- ---- the contents

-- bodies one after another, from past the contents to the end of what the file holds
pub record InOrder (b : Bodies) (out : List ℕ) : Type 0 where
  pub strings : 64 ≤ b.strings
  pub values : b.strings ≤ b.values
  pub members : b.values ≤ b.members
  pub points : b.members ≤ b.points
  pub lists : b.points ≤ b.lists
  pub text : b.lists ≤ b.text
  pub end : b.text ≤ b.end
  pub within : b.end ≤ length out
  pub words : b.end ≤ 4294967295

pub record Spanned (first second end : ℕ) : Type 0 where
  pub one : first ≤ second
  pub two : second ≤ end
  pub words : end ≤ 4294967295

-- two bodies, one after the other: where each begins and how long it is
unfoldable pub spans : ℕ → ℕ → ℕ → List ℕ
spans first second end = first ∷ (second - first) ∷ second ∷ (end - second) ∷ []

-- edition 1, no variables; strings and values, members and points
unfoldable pub front : Bodies → List ℕ
front b = (1 ∷ 0 ∷ []) ++ (spans b.strings b.values b.members ++ spans b.members b.points b.lists)

-- no nodes; lists and text
unfoldable pub contents : Bodies → List ℕ
contents b = front b ++ ((b.lists ∷ 0 ∷ []) ++ spans b.lists b.text b.end)
