-- Where the section of each depth starts, and the level of an image by its length. Assumes nothing.
use mathlib.Core.Path.{◌≡◌, refl, sym, ap, ◌∙◌}
use mathlib.Core.Logic.{⊎_elim}
use Prim.Native.Nat.{ℕ, zero, suc, ◌+◌, ◌-◌, ◌*◌, ◌<◌, ◌≤◌}
use native.Mathlib.Nat.{eq-or-lt_of_le}
use native.Mathlib.Decide.{dec_lt}
use native.Mathlib.Omega.{arith}
use lib.Dec.{eqb}
use borrow.Author.Tests.{eqb-true, eq-eqb, ne_eqb}
use Rattle.std.specs.Prelude.{Option, Some, None}
use Rattle.std.specs.Option.{MatchOption}
use Rattle.words.specs.Below.{below}
use Rattle.words.specs.Sizes.{words}
use Rattle.words.proofs.Search.{first-is, is-first}
use Rattle.words.proofs.Below.{below-some, below-none}
use Rattle.words.proofs.Levels.{words-small}
use Rattle.words.proofs.Places.{words-count}
use Rattle.words.specs.Place.{count}
use Rattle.image.specs.Image.{start, image_length, image_level}

-- ---- where a section starts

pub start-more : (d : ℕ) → start (suc d) ≡ start d + (4 + 2 * count d)
unfolding start
start-more d = refl

-- the sections before it have a count each, and all their words
pub start-is : (d : ℕ) → start (suc d) ≡ start 0 + 4 * suc d + 2 * words d
unfolding start words count
start-is zero = refl
start-is (suc d) = omega (arith, start-is d, words-count d, start-more (suc d))

-- the same, as the code asks it
pub start-from : (d : ℕ) → (d ≡ 0 → ⊥) → start d ≡ start 0 + 4 * d + 2 * words (d - 1)
start-from d ne = let up : suc (d - 1) ≡ d = omega arith in ap start (sym up) ∙ start-is (d - 1) ∙ rw up

pub start-small : (d : ℕ) → d ≤ 7 → start d ≤ 35791422
unfolding start
start-small zero h = omega arith
start-small (suc d) h = omega (arith, start-is d, words-small d (omega arith))

start-lt : (e d : ℕ) → d < e → start d < start e
start-lt zero d h = absurd (omega arith)
start-lt (suc e) d h =
    let le : d ≤ e = omega arith in
    ⊎_elim (λ q. rw q (omega (arith, start-more e))) (λ l. omega (arith, start-more e, start-lt e d l)) (eq-or-lt_of_le le)

-- a section ends where the next starts, and before the image does
pub start-le : (d k : ℕ) → d ≤ k → start d ≤ start k
start-le d k h = ⊎_elim (λ e. rw e (omega arith)) (λ l. omega (arith, start-lt k d l)) (eq-or-lt_of_le h)

-- ---- the level of an image by its length

pub level-length : (k : ℕ) → k < 7 → image_level (image_length k) ≡ k
unfolding image_level
level-length k h =
    is-first (λ j. eqb (image_length k) (image_length j)) 0 7 7 k refl
    (record {
      from = omega arith;
      upto = omega arith;
      here = λ _. eq-eqb (image_length k) (image_length k) refl;
      before = λ q _ l. ne_eqb (image_length k) (image_length q) (λ e. omega (arith, start-lt (suc k) (suc q) (omega arith)));
    })

pub length-level : (n : ℕ) → image_level n < 7 → image_length (image_level n) ≡ n
unfolding image_level
length-level n h = sym (eqb-true n (image_length (image_level n)) ((first-is (λ k. eqb n (image_length k)) 0 7 7 refl).here h))

-- the search of the seven lengths finds it
pub level-found : (n : ℕ) (r : Option ℕ) → MatchOption r ((k : ℕ) → 0 ≤ k → k < 7 → n ≡ image_length k → ⊥) (λ k. (0 ≤ k) × (k < 7) × (n ≡ image_length k) × ((j : ℕ) → 0 ≤ j → j < k → n ≡ image_length j → ⊥)) → r ≡ below 7 (image_level n)
level-found n None h =
    let large : image_level n < 7 → ⊥ = λ l. h (image_level n) (omega arith) l (sym (length-level n l)) in
    below-none (omega arith)
level-found n (Some k) h = below-some h.1 ∙ ap (below 7) (sym (ap image_level h.2 ∙ level-length k h.1))

-- and what is found is that level
pub level-is : (n k : ℕ) → Some k ≡ below 7 (image_level n) → (k ≤ 6) × (n ≡ image_length k)
level-is n k e =
    elim (dec_lt (image_level n) 7) [
      | yes l ↦ let same : k ≡ image_level n = cc (below-some l) in (omega arith, sym (ap image_length same ∙ length-level n l))
      | no ge ↦ absurd (cc (below-none {bound = 7} {n = image_level n} (omega arith)))
    ]
