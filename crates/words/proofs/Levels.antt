-- How many words and positions a map of each level has, and its level by its words. Assumes nothing.
use mathlib.Core.Path.{◌≡◌, refl, sym, ap, ◌∙◌}
use mathlib.Core.Logic.{⊎_elim}
use Prim.Native.Nat.{ℕ, zero, suc, ◌+◌, ◌*◌, ◌-◌, ◌/◌, ◌%◌, ◌^◌, ◌≤◌, ◌<◌}
use native.Mathlib.Nat.{mul-le-mul_right, mul_left_comm, eq-or-lt_of_le}
use native.Mathlib.Omega.{arith}
use lib.Pow.{pow-add, pow_mono}
use lib.Dec.{eqb}
use borrow.Author.Tests.{eqb-true, eq-eqb, ne_eqb}
use Rattle.words.specs.Search.{first_from}
use Rattle.words.specs.Below.{below}
use Rattle.words.specs.Sizes.{words, cap, level_of}
use Rattle.words.proofs.Search.{first-is, is-first}
use Rattle.words.proofs.Below.{below-some}
use Rattle.std.specs.Prelude.{Some, None}

-- ---- a map and its children

-- a map has its own word and those of its children
pub words-node : (k : ℕ) → words (suc k) ≡ 1 + 16 * words k
unfolding words
words-node k = refl

-- it has the positions of its children
pub cap-node : (k : ℕ) → cap (suc k) ≡ 16 * cap k
unfolding cap
cap-node k = refl

-- a child's words by those of the map
pub child-words : (k : ℕ) → words (suc k) / 16 ≡ words k
child-words k = omega (arith, words-node k)

-- a leaf word has 16 positions
pub leaf-cap : {k : ℕ} → k ≡ 0 → cap k ≡ 16
unfolding cap
leaf-cap e = rw e

-- ---- bounds

-- a map has one position more than 15 for each word
pub words-cap : (k : ℕ) → 15 * words k + 1 ≡ cap k
unfolding words cap
words-cap zero = refl
words-cap (suc k) = omega (arith, words-cap k)

-- no map is without words
pub words-pos : (k : ℕ) → 0 < words k
unfolding words
words-pos zero = omega arith
words-pos (suc k) = omega arith

-- nor without positions
pub cap-pos : (k : ℕ) → 0 < cap k
cap-pos k = omega (arith, words-cap k)

-- its positions are a power of 2, so that a division by them is a shift
pub cap-pow : (k : ℕ) → cap k ≡ 2 ^ (4 * k + 4)
unfolding cap
cap-pow zero = refl
cap-pow (suc k) =
    let up : 4 * suc k + 4 ≡ 4 + (4 * k + 4) = omega arith in
    rw (up, pow-add 2 4 (4 * k + 4), cap-pow k)

-- the largest map, of level 6, has 268435456 positions
pub cap-small : (k : ℕ) → k ≤ 6 → cap k ≤ 268435456
cap-small k h =
    let le : 4 * k + 4 ≤ 28 = omega arith in
    rw (cap-pow k) (pow_mono le)

-- and 17895697 words
pub words-small : (k : ℕ) → k ≤ 6 → words k ≤ 17895697
words-small k h = omega (arith, words-cap k, cap-small k h)

-- a smaller map's words are the largest one's, four bits less for each level between
pub words-shift : (k : ℕ) → k ≤ 6 → 17895697 / 2 ^ (24 - 4 * k) ≡ words k
unfolding words
words-shift zero h = refl
words-shift (suc zero) h = refl
words-shift (suc (suc zero)) h = refl
words-shift (suc (suc (suc zero))) h = refl
words-shift (suc (suc (suc (suc zero)))) h = refl
words-shift (suc (suc (suc (suc (suc zero))))) h = refl
words-shift (suc (suc (suc (suc (suc (suc zero)))))) h = refl
words-shift (suc (suc (suc (suc (suc (suc (suc k))))))) h = absurd (omega arith)

-- a child starts in the map
pub start-small : (j i : ℕ) → j ≤ 5 → i ≤ 16 → i * cap j ≤ 268435456
start-small j i h l = omega (arith, mul-le-mul_right (cap j) l, cap-node j, cap-small (suc j) (omega arith))

-- and with a leaf word
pub start-aligned : (j i : ℕ) → i * cap j % 16 ≡ 0
unfolding cap
start-aligned zero i = omega arith
start-aligned (suc j) i = rw (mul_left_comm i 16 (cap j)) (omega arith)

-- ---- the level of a store by its words

-- a map of more levels has more words
words-lt : (j i : ℕ) → i < j → words i < words j
unfolding words
words-lt zero i h = absurd (omega arith)
words-lt (suc j) i h =
    let le : i ≤ j = omega arith in
    ⊎_elim (λ e. rw e (omega arith)) (λ l. omega (arith, words-lt j i l)) (eq-or-lt_of_le le)

-- a map's words say its level
pub level-words : (k : ℕ) → k < 7 → level_of (words k) ≡ k
unfolding level_of
level-words k h =
    is-first (λ j. eqb (words k) (words j)) 0 7 7 k refl
    (record {
      from = omega arith;
      upto = omega arith;
      here = λ _. eq-eqb (words k) (words k) refl;
      before = λ q _ l. ne_eqb (words k) (words q) (λ e. omega (arith, words-lt k q l));
    })

-- the words that a level below 7 is of
pub words-level : (n : ℕ) → level_of n < 7 → words (level_of n) ≡ n
unfolding level_of
words-level n h = sym (eqb-true n (words (level_of n)) ((first-is (λ k. eqb n (words k)) 0 7 7 refl).here h))

-- the same, of words that are known
pub level-at : {n : ℕ} (k : ℕ) → n ≡ words k → k < 7 → k ≡ level_of n
level-at k e h = sym (ap level_of e ∙ level-words k h)

pub level-found : {n : ℕ} (k : ℕ) → n ≡ words k → k < 7 → Some k ≡ below 7 (level_of n)
level-found k e h = rw (sym (level-at k e h)) (below-some h)

-- a store of any other count has none
pub level-missing : (n : ℕ) → (n ≡ 1 → ⊥) → (n ≡ 17 → ⊥) → (n ≡ 273 → ⊥) → (n ≡ 4369 → ⊥) → (n ≡ 69905 → ⊥) → (n ≡ 1118481 → ⊥) → (n ≡ 17895697 → ⊥)
    → None ≡ below 7 (level_of n)
unfolding level_of first_from words
level-missing n a b c d e f g = simp (ne_eqb _ _ a, ne_eqb _ _ b, ne_eqb _ _ c, ne_eqb _ _ d, ne_eqb _ _ e, ne_eqb _ _ f, ne_eqb _ _ g)
