-- Brackets and strings up to the bracket that closes those that are open
use Rattle.std.specs.Prelude.{◌≡◌, Bool, false, List, ◌∷◌, ℕ, suc, ◌-◌, ◌<◌, ◌≤◌, eqb, length, drop}
use Rattle.meaning.specs.Tests.{◌or◌, choose}
use Rattle.jsontext.specs.Reading.{got}
use Rattle.jsontext.specs.Strings.{string}

unfoldable pub opens : ℕ → Bool
opens c = eqb c 91 or eqb c 123

unfoldable pub closes : ℕ → Bool
closes c = eqb c 93 or eqb c 125

-- how many brackets are open after a byte outside strings
unfoldable pub stepped : ℕ → ℕ → ℕ
stepped c depth = choose (opens c) (suc depth) (choose (closes c) (depth - 1) depth)

-- so many brackets are open, and `rest` is left once all are closed
pub data Nest (rest : List ℕ) : ℕ → List ℕ → Type 0 where
  done : {depth : ℕ} {s : List ℕ} → depth ≡ 0 → s ≡ rest → Nest rest depth s
  quote : {depth : ℕ} {s t text : List ℕ} → 0 < depth → string s ≡ got text t → Nest rest depth t → Nest rest depth s
  byte : {depth c : ℕ} {s : List ℕ} → 0 < depth → eqb c 34 ≡ false → Nest rest (stepped c depth) s → Nest rest depth (c ∷ s)

-- a bracket was opened before this place, and one closes it
pub record Opened (line : List ℕ) (at : ℕ) : Type 0 where
  pub rest : List ℕ
  pub within : at ≤ length line
  pub nest : Nest rest 1 (drop at line)

-- what is left behind the bracket that closes it stands from e on
pub record Shut (line : List ℕ) (at e : ℕ) : Type 0 where
  pub from : at ≤ e
  pub within : e ≤ length line
  pub is : (rest : List ℕ) → Nest rest 1 (drop at line) → rest ≡ drop e line
