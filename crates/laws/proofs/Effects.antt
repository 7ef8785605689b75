-- What a renewal and a change of a map do to its leaf bits, its truth and its words. Assumes nothing.
use mathlib.Core.Path.{◌≡◌, refl, sym, ap, ◌∙◌}
use mathlib.Core.Bool.{Bool, true, false, cond}
use mathlib.Core.Logic.{⊎_elim}
use mathlib.Core.List.{List, [], ◌∷◌, ◌++◌}
use Prim.Native.Nat.{ℕ, zero, suc, ◌/◌, ◌%◌, ◌^◌, ◌<◌}
use native.Mathlib.Nat.{mod-lt}
use native.Mathlib.Omega.{arith}
use lib.ListN.{length}
use borrow.Author.Tests.{ltb-false}
use Rattle.words.specs.declared.kind.Change.{Change}
use Rattle.words.specs.Bits.{bit, within, some, frees}
use Rattle.words.specs.Sizes.{words, cap}
use Rattle.words.specs.Tree.{Fits, own, child, row, node, leaf?, free?, true?}
use Rattle.change.specs.Renew.{replaced, renew}
use Rattle.change.specs.Change.{low, high, visits, change}
use Rattle.std.proofs.lemmas.Bool.{cases_Bool}
use Rattle.words.proofs.Bits.{bit-pack, pack-lt}
use Rattle.words.proofs.Levels.{cap-pos}
use Rattle.words.proofs.Rows.{length-child}
use Rattle.words.proofs.Within.{within-no}
use Rattle.change.proofs.Spans.{within-child}
use Rattle.change.proofs.Renewed.{replaced-in, replaced-out, child-renew, bit-renew, marked-lt}
use Rattle.change.proofs.Changes.{length-change}
use Rattle.words.proofs.Path.{position-child}
use Rattle.words.proofs.Truth.{fits-child, true-is, is-true, free-leaf}

-- ---- a renewal

module _ (k : ℕ) (at mark : ℕ → Bool) (new : ℕ → List ℕ) (s : List ℕ) (len : length s ≡ words (suc k))
    (sized : (i : ℕ) → i < 16 → at i ≡ true → length (new i) ≡ words k) where
  -- a position has the leaf bit that it has in its child
  pub leaf-renew : (p : ℕ) → p < cap (suc k)
      → leaf? (suc k) (renew k at mark new s) p ≡ leaf? k (replaced k at new s (p / cap k)) (p % cap k)
  unfolding leaf?
  leaf-renew p l = ap (λ (x : List ℕ). leaf? k x (p % cap k)) (child-renew k at new s len sized mark (p / cap k) (position-child {j = k} p refl l))

  -- a true map stays true, if its new children are true, and the bit of each child that turned empty or not empty is recomputed
  pub true-renew : true? (suc k) s ≡ true → ((i : ℕ) → i < 16 → at i ≡ true → true? k (new i) ≡ true)
      → ((i : ℕ) → i < 16 → mark i ≡ false → some (own (replaced k at new s i)) ≡ some (own (child k s i)))
      → true? (suc k) (renew k at mark new s) ≡ true
  true-renew h new_true kept = is-true k (renew k at mark new s) (λ i l.
      let e = child-renew k at new s len sized mark i l in (
        bit-renew k at mark new s i l ∙ says i l ∙ ap (λ (x : List ℕ). some (own x)) (sym e),
        ap (true? k) e ∙ below i l,
      ))
    where
      says : (i : ℕ) → i < 16 → cond (mark i) (some (own (replaced k at new s i))) (bit (own s) i) ≡ some (own (replaced k at new s i))
      says i l =
          ⊎_elim
          (λ m. ap (λ (b : Bool). cond b (some (own (replaced k at new s i))) (bit (own s) i)) m)
          (λ m. ap (λ (b : Bool). cond b (some (own (replaced k at new s i))) (bit (own s) i)) m ∙ (true-is k s h i l).0 ∙ sym (kept i l m))
          (cases_Bool (mark i))

      below : (i : ℕ) → i < 16 → true? k (replaced k at new s i) ≡ true
      below i l =
          ⊎_elim
          (λ t. ap (true? k) (replaced-in k at new s i t) ∙ new_true i l t)
          (λ t. ap (true? k) (replaced-out k at new s i t) ∙ (true-is k s h i l).1)
          (cases_Bool (at i))

-- its words are of 16 bits, if those of the map and of the new children are
fits-one : {w : ℕ} → w < 2 ^ 16 → Fits (w ∷ [])
fits-one l zero = l
fits-one l (suc i) = omega arith

fits-append : (xs ys : List ℕ) → Fits xs → Fits ys → Fits (xs ++ ys)
fits-append [] ys f g i = g i
fits-append (x ∷ xs) ys f g zero = f 0
fits-append (x ∷ xs) ys f g (suc i) = fits-append xs ys (λ j. f (suc j)) g i

fits-row : (f : ℕ → List ℕ) (n : ℕ) → ((i : ℕ) → i < n → Fits (f i)) → Fits (row f n)
unfolding row
fits-row f zero h = λ i. omega arith
fits-row f (suc n) h = fits-append (row f n) (f n) (fits-row f n (λ i l. h i (omega arith))) (h n (omega arith))

fits-node : (w : ℕ) (f : ℕ → List ℕ) → w < 2 ^ 16 → ((i : ℕ) → i < 16 → Fits (f i)) → Fits (node w f)
unfolding node
fits-node w f l h zero = l
fits-node w f l h (suc i) = fits-row f 16 h i

pub fits-renew : (k : ℕ) (at mark : ℕ → Bool) (new : ℕ → List ℕ) (s : List ℕ) → Fits s
    → ((i : ℕ) → i < 16 → at i ≡ true → Fits (new i)) → Fits (renew k at mark new s)
unfolding renew
fits-renew k at mark new s f h = fits-node _ (replaced k at new s) (marked-lt mark (replaced k at new s) (own s)) (λ i l j.
    ⊎_elim
    (λ t. rw (replaced-in k at new s i t) (h i l t j))
    (λ t. rw (replaced-out k at new s i t) (fits-child k s i f j))
    (cases_Bool (at i)))

-- ---- a change

-- a position of a child that a range does not visit is not one of the range
pub unvisited : (c : ℕ) → 0 < c → (a b p : ℕ) → visits c a b (p / c) ≡ false → within a b p ≡ false
unvisited c pos a b p h =
    let l = ltb-false (low c a (p / c)) (high c b (p / c)) h in
    sym (within-child c pos a b p) ∙ within-no (low c a (p / c)) (high c b (p / c)) (p % c) (omega arith)

module _ (c : Change) where
  sized-change : (k : ℕ) (s : List ℕ) (a b : ℕ) → length s ≡ words (suc k) → (i : ℕ) → i < 16 → visits (cap k) a b i ≡ true
      → length (change c k (child k s i) (low (cap k) a i) (high (cap k) b i)) ≡ words k
  sized-change k s a b len i l _ = length-change c k (child k s i) _ _ (length-child k s len i l)

  -- it changes the leaf bits of its range, and no other
  pub leaf-change : (k : ℕ) (s : List ℕ) (a b p : ℕ) → length s ≡ words k → p < cap k
      → leaf? k (change c k s a b) p ≡ cond (within a b p) (frees c) (leaf? k s p)
  unfolding change leaf? cap
  leaf-change zero s a b p len l = bit-pack 16 (λ i. cond (within a b i) (frees c) (bit (own s) i)) p l
  leaf-change (suc k) s a b p len l =
      let i = p / cap k in
      let q = p % cap k in
      let lo = low (cap k) a i in
      let hi = high (cap k) b i in
      let at = visits (cap k) a b in
      let new : ℕ → List ℕ = λ j. change c k (child k s j) (low (cap k) a j) (high (cap k) b j) in
      leaf-renew k at at new s len (sized-change k s a b len) p l
      ∙ ⊎_elim
      (λ t. ap (λ (x : List ℕ). leaf? k x q) (replaced-in k at new s i t)
      ∙ leaf-change k (child k s i) lo hi q (length-child k s len i (position-child {j = k} p refl l)) (mod-lt p (cap-pos k))
      ∙ ap (λ (x : Bool). cond x (frees c) (leaf? k (child k s i) q)) (within-child (cap k) (cap-pos k) a b p))
      (λ t. ap (λ (x : List ℕ). leaf? k x q) (replaced-out k at new s i t)
      ∙ ap (λ (x : Bool). cond x (frees c) (leaf? k (child k s i) q)) (sym (unvisited (cap k) (cap-pos k) a b p t)))
      (cases_Bool (at i))

  -- a true map stays true
  pub true-change : (k : ℕ) (s : List ℕ) (a b : ℕ) → length s ≡ words k → true? k s ≡ true → true? k (change c k s a b) ≡ true
  unfolding change true?
  true-change zero s a b len h = refl
  true-change (suc k) s a b len h =
      true-renew k (visits (cap k) a b) (visits (cap k) a b) _ s len (sized-change k s a b len) h
      (λ i l _. true-change k (child k s i) (low (cap k) a i) (high (cap k) b i) (length-child k s len i l) (true-is k s h i l).1)
      (λ i l m. ap (λ (x : List ℕ). some (own x)) (replaced-out k (visits (cap k) a b) _ s i m))

  -- words of 16 bits stay words of 16 bits
  pub fits-change : (k : ℕ) (s : List ℕ) (a b : ℕ) → Fits s → Fits (change c k s a b)
  unfolding change
  fits-change zero s a b f = fits-one (pack-lt 16 (λ i. cond (within a b i) (frees c) (bit (own s) i)))
  fits-change (suc k) s a b f =
      fits-renew k (visits (cap k) a b) (visits (cap k) a b) _ s f
      (λ i l _. fits-change k (child k s i) (low (cap k) a i) (high (cap k) b i) (fits-child k s i f))

  -- it changes F in the same way
  pub free-change : (k : ℕ) (s : List ℕ) (a b p : ℕ) → length s ≡ words k → true? k s ≡ true → p < cap k
      → free? k (change c k s a b) p ≡ cond (within a b p) (frees c) (free? k s p)
  free-change k s a b p len h l =
      free-leaf k (change c k s a b) p (true-change k s a b len h) l
      ∙ leaf-change k s a b p len l
      ∙ ap (λ (x : Bool). cond (within a b p) (frees c) x) (sym (free-leaf k s p h l))

  -- ---- what is outside its range stays

  -- a child that is not visited
  pub stays-child : (k : ℕ) (s : List ℕ) (a b i : ℕ) → length s ≡ words (suc k) → i < 16 → visits (cap k) a b i ≡ false
      → child k (change c (suc k) s a b) i ≡ child k s i
  unfolding change
  stays-child k s a b i len l h =
      child-renew k (visits (cap k) a b) _ s len (sized-change k s a b len) (visits (cap k) a b) i l
      ∙ replaced-out k (visits (cap k) a b) _ s i h

  -- its bit in the own word
  pub stays-bit : (k : ℕ) (s : List ℕ) (a b i : ℕ) → i < 16 → visits (cap k) a b i ≡ false
      → bit (own (change c (suc k) s a b)) i ≡ bit (own s) i
  unfolding change
  stays-bit k s a b i l h = bit-renew k (visits (cap k) a b) (visits (cap k) a b) _ s i l ∙ rw h

  -- a leaf bit
  pub stays-leaf : (k : ℕ) (s : List ℕ) (a b p : ℕ) → length s ≡ words k → p < cap k → within a b p ≡ false
      → leaf? k (change c k s a b) p ≡ leaf? k s p
  stays-leaf k s a b p len l h = leaf-change k s a b p len l ∙ rw h
