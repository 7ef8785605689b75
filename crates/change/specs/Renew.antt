-- The shape of every change: some children of a map replaced, and then some bits of its own word recomputed. Definitions only.
use Rattle.std.specs.Prelude.{ℕ, Bool, cond, List}
use Rattle.words.specs.Bits.{bit, word_of, some}
use Rattle.words.specs.Tree.{own, child, node}

-- the children of s, with new i in the place of child i wherever `at i` holds
unfoldable pub replaced : ℕ → (ℕ → Bool) → (ℕ → List ℕ) → List ℕ → ℕ → List ℕ
replaced k at new s i = cond (at i) (new i) (child k s i)

-- the word w, with bit i recomputed from the own word of child i wherever `mark i` holds
unfoldable pub marked : (ℕ → Bool) → (ℕ → List ℕ) → ℕ → ℕ
marked mark f w = word_of (λ i. cond (mark i) (some (own (f i))) (bit w i))

-- some children replaced, and then some bits of the own word recomputed from them
unfoldable pub renew : ℕ → (ℕ → Bool) → (ℕ → Bool) → (ℕ → List ℕ) → List ℕ → List ℕ
renew k at mark new s = node (marked mark (replaced k at new s) (own s)) (replaced k at new s)
