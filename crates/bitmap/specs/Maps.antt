-- True maps and true stores, as the theorems speak of them. Definitions only.
use Rattle.std.specs.Prelude.{ℕ, zero, suc, ◌<◌, ◌≡◌, ◌↔◌, ◌≢◌, Bool, true, List, length}
use Rattle.words.specs.Bits.{bit}
use Rattle.words.specs.Sizes.{words, cap, level_of}
use Rattle.words.specs.Tree.{Fits, own, child, free?, true?}

-- every summary bit is set exactly where the child's own word is not 0, at every level: what `true?` tests
unfoldable pub Truthful : ℕ → List ℕ → Type 0
Truthful zero s = Unit {0}
Truthful (suc k) s = (i : ℕ) → i < 16 → ((bit (own s) i ≡ true) ↔ (own (child k s i) ≢ 0)) × Truthful k (child k s i)

-- s is a true map of level k: it has its level's word count, each word is below 65,536, and the map is true
pub record TrueMap (k : ℕ) (s : List ℕ) : Type 0 where
  pub sized : length s ≡ words k
  pub fits : Fits s
  pub truth : true? k s ≡ true

-- the lent store s is a true map: its word count is one of the seven, each word is below 65,536, and the map is true
pub record TrueStore (s : List ℕ) : Type 0 where
  pub level : level_of (length s) < 7
  pub fits : Fits s
  pub truth : true? (level_of (length s)) s ≡ true

-- F of a lent store
abbrev pub free_in : List ℕ → ℕ → Bool
free_in s = free? (level_of (length s)) s

-- how many positions it has
abbrev pub positions : List ℕ → ℕ
positions s = cap (level_of (length s))
