-- The laws of the crate's run give-back: how it goes by a map's children, how a loop over them knows whether to go on, and that a run of
-- which none is free is freed whole; and those of the one that is all or nothing. Assumes nothing.
use mathlib.Core.Path.{◌≡◌, refl, sym, ap, ap₂, ◌∙◌}
use mathlib.Core.Bool.{Bool, true, false, cond, ◌&&◌, and-false}
use mathlib.Core.List.{List}
use Prim.Native.Nat.{ℕ, zero, suc, ◌+◌, ◌-◌, ◌*◌, min, ◌<◌, ◌≤◌}
use native.Mathlib.Nat.{suc-mul, div-mul-le_self, div-lt_iff_lt-mul}
use native.Mathlib.Numerals.{add-one}
use native.Mathlib.Decide.{dec_le, dec_lt}
use native.Mathlib.Omega.{arith}
use lib.ListN.{length}
use lib.Dec.{leb, ltb}
use borrow.Author.Tests.{lt-ltb, le-ltb, le-leb, lt-leb, leb-true, leb-false, ltb-true}
use Rattle.words.specs.declared.kind.Change.TheVariants.{Insert}
use Rattle.words.specs.Search.{none}
use Rattle.words.specs.Bits.{bit}
use Rattle.words.specs.Sizes.{words, cap}
use Rattle.words.specs.Tree.{own, child, leaf?}
use Rattle.change.specs.Renew.{replaced, renew}
use Rattle.change.specs.Change.{low, high, visits, change}
use Rattle.change.specs.GiveBack.{first_leaf, give_back}
use Rattle.words.proofs.Search.{First}
use Rattle.words.proofs.Tests.{and-both}
use Rattle.words.proofs.Levels.{cap-pos}
use Rattle.words.proofs.Rows.{length-child}
use Rattle.change.proofs.Spans.{visited-start}
use Rattle.change.proofs.Renewed.{replaced-in, replaced-out, renew-ext, renew-marked, sized-replaced, length-renew}
use Rattle.change.proofs.Changes.{length-change}
use Rattle.change.proofs.Walk.{Walk, walk-some, walk-before}
use Rattle.change.proofs.Leaves.{first-leaf, first-word, first-part, first-none}

-- ---- a leaf word, where r is whether none of its bits from a up to b is set

module _ {k : ℕ} (s : List ℕ) (a b : ℕ) (z : k ≡ 0) {r : Bool} (e : r ≡ none (bit (own s)) a b) where
  said : r ≡ leb b (first_leaf k s a b)
  said = e ∙ ap (leb b) (sym (first-word s a b z))

  -- it stays
  pub stay-word : r ≡ false → (false ≡ leb b (first_leaf k s a b)) × (s ≡ give_back k s a b)
  unfolding give_back
  stay-word n =
      let lt : first_leaf k s a b < b = leb-false b (first_leaf k s a b) (sym said ∙ n) in
      (sym n ∙ said, rw z (rw (lt-ltb (first_leaf 0 s a b) b (rw z at lt))))

  -- or is freed
  pub free-word : r ≡ true → (true ≡ leb b (first_leaf k s a b)) × (change Insert k s a b ≡ give_back k s a b)
  unfolding give_back
  free-word n =
      let le : b ≤ first_leaf k s a b = leb-true b (first_leaf k s a b) (sym said ∙ n) in
      (sym n ∙ said, rw z (rw (le-ltb (first_leaf 0 s a b) b (rw z at le))))

-- ---- its words keep their number

pub length-give_back : (k : ℕ) (s : List ℕ) (a b : ℕ) → length s ≡ words k → length (give_back k s a b) ≡ words k
unfolding give_back
length-give_back zero s a b len = go (ltb (first_leaf zero s a b) b)
  where
    go : (t : Bool) → length (cond t s (change Insert zero s a b)) ≡ words zero
    go true = len
    go false = length-change Insert zero s a b len
length-give_back (suc k) s a b len =
    length-renew k _ _ s len (λ i l t. length-give_back k (child k s i) (low (cap k) a i) (high (cap k) b i) (length-child k s len i l)) (visits (cap k) a b)

-- ---- the children

-- child i is gone into: it has some of the run, and no position of the run before it is free
abbrev pub gone : ℕ → List ℕ → ℕ → ℕ → ℕ → Bool
gone k s a b i = visits (cap k) a b i && leb (i * cap k) (first_leaf (suc k) s a b)

abbrev freed : ℕ → List ℕ → ℕ → ℕ → ℕ → List ℕ
freed k s a b i = give_back k (child k s i) (low (cap k) a i) (high (cap k) b i)

pub sized-gone : (k : ℕ) (s : List ℕ) (a b : ℕ) → length s ≡ words (suc k) → (i : ℕ) → i < 16 → gone k s a b i ≡ true
    → length (give_back k (child k s i) (low (cap k) a i) (high (cap k) b i)) ≡ words k
sized-gone k s a b len i l _ = length-give_back k (child k s i) _ _ (length-child k s len i l)

-- what stands at child i at the end
unfoldable pub given_kids : ℕ → List ℕ → ℕ → ℕ → ℕ → List ℕ
given_kids k s a b = replaced k (gone k s a b) (freed k s a b) s

pub sized-given : (k : ℕ) (s : List ℕ) (a b : ℕ) → length s ≡ words (suc k) → (i : ℕ) → i < 16 → length (given_kids k s a b i) ≡ words k
unfolding given_kids
sized-given k s a b len = sized-replaced k (gone k s a b) (freed k s a b) s len (sized-gone k s a b len)

-- one that is gone into, as it is made
pub given-kid : (k : ℕ) (s : List ℕ) (a b i : ℕ) {ys x : List ℕ} {l r : ℕ} → low (cap k) a i < high (cap k) b i → i * cap k ≤ first_leaf (suc k) s a b
    → ys ≡ give_back k x l r → x ≡ child k s i → l ≡ low (cap k) a i → r ≡ high (cap k) b i → ys ≡ given_kids k s a b i
unfolding given_kids
given-kid k s a b i v m e ex el er =
    rw (e, ex, el, er) (sym (replaced-in k (gone k s a b) (freed k s a b) s i (rw (lt-ltb _ _ v) (le-leb _ _ m))))

-- one that is passed over
pub passed-kid : (k : ℕ) (s : List ℕ) (a b i : ℕ) → first_leaf (suc k) s a b < i * cap k → given_kids k s a b i ≡ child k s i
unfolding given_kids
passed-kid k s a b i m = replaced-out k (gone k s a b) (freed k s a b) s i (rw (lt-leb (i * cap k) (first_leaf (suc k) s a b) m) (and-false (visits (cap k) a b i)))

-- they are what a give-back replaces the visited children by
pub give-kids : {n : ℕ} (k : ℕ) (s : List ℕ) (a b : ℕ) → suc k ≡ n
    → renew k (visits (cap k) a b) (visits (cap k) a b) (given_kids k s a b) s ≡ give_back n s a b
unfolding give_back given_kids
give-kids k s a b up = rw (← up) (renew-marked k (gone k s a b) (visits (cap k) a b) (freed k s a b) s (λ i l t. rw t))

-- ---- whether none of the run is free in the children before child i

unfoldable pub taken? : ℕ → List ℕ → ℕ → ℕ → ℕ → Bool
taken? k s a b i = leb (min b (i * cap k)) (first_leaf (suc k) s a b)

leb-iff : (a b c d : ℕ) → (a ≤ b → c ≤ d) → (c ≤ d → a ≤ b) → leb a b ≡ leb c d
leb-iff a b c d f g = elim (dec_le a b) [
  | yes l ↦ le-leb a b l ∙ sym (le-leb c d (f l))
  | no l ↦ let n : ¬ (c ≤ d) = λ m. l (g m) in
      lt-leb a b (omega arith) ∙ sym (lt-leb c d (omega arith))
]

module _ {k a b j end i₀ i : ℕ} (h : Walk k a b j end i₀ i) (s : List ℕ) where
  abbrev p : ℕ
  p = first_leaf (suc j) s a b

  t : First (leaf? (suc j) s) a b p
  t = first-leaf (suc j) s a b (omega arith)

  -- before the first
  pub taken-none : i ≡ i₀ → taken? j s a b i ≡ true
  unfolding taken?
  taken-none e =
      let le : i * cap j ≤ a = rw (e, h.first) (div-mul-le_self a (cap j)) in
      le-leb (min b (i * cap j)) p (omega (arith, t.from))

  -- after the last
  pub taken-all : end ≤ i → taken? j s a b i ≡ leb b (first_leaf k s a b)
  unfolding taken?
  taken-all l =
      let past : b - 1 < i * cap j = (div-lt_iff_lt-mul (cap-pos j)).0 (omega arith) in
      let all : min b (i * cap j) ≡ b = omega arith in
      ap₂ (λ (x n : ℕ). leb x (first_leaf n s a b)) all h.level

  module _ (l : i < end) where
    -- child i is gone into
    pub taken-true : taken? j s a b i ≡ true → i * cap j ≤ p
    unfolding taken?
    taken-true e = omega (arith, leb-true (min b (i * cap j)) p e, walk-before h l)

    -- or passed over
    pub taken-false : taken? j s a b i ≡ false → p < i * cap j
    unfolding taken?
    taken-false e = omega (arith, leb-false (min b (i * cap j)) p e, walk-before h l)

    next-start : (i + 1) * cap j ≡ i * cap j + cap j
    next-start = rw (add-one, suc-mul)

    -- and then the same goes for the next
    pub taken-more : {x : List ℕ} {lo hi : ℕ} → i * cap j ≤ p → x ≡ child j s i → lo ≡ low (cap j) a i → hi ≡ high (cap j) b i
        → leb hi (first_leaf j x lo hi) ≡ taken? j s a b (i + 1)
    unfolding taken? high
    taken-more m ex el eh =
        rw (ex, el, eh)
        (ap (leb (high (cap j) b i)) (first-part j s a b i (omega arith) (walk-some h l) m)
        ∙ leb-iff (high (cap j) b i) (min (high (cap j) b i) (p - i * cap j)) (min b ((i + 1) * cap j)) p
        (omega (arith, next-start)) (omega (arith, next-start, walk-before h l)))

    pub taken-less : p < i * cap j → taken? j s a b (i + 1) ≡ false
    unfolding taken?
    taken-less m = lt-leb (min b ((i + 1) * cap j)) p (omega (arith, next-start, walk-before h l))

-- ---- a run of which none is free is freed whole

pub give-all : (k : ℕ) (s : List ℕ) (a b : ℕ) → a ≤ b → first_leaf k s a b ≡ b → give_back k s a b ≡ change Insert k s a b
unfolding give_back change
give-all zero s a b l f = rw (le-ltb (first_leaf zero s a b) b (omega arith))
give-all (suc k) s a b l f =
    renew-ext k _ _ _ _ _ _ s at (λ i m. refl) (λ i m t.
    let v : low (cap k) a i < high (cap k) b i = ltb-true (low (cap k) a i) (high (cap k) b i) (and-both _ _ t).0 in
    give-all k (child k s i) (low (cap k) a i) (high (cap k) b i) (omega arith) (first-none k s a b i l v f))
  where
    at : (i : ℕ) → i < 16 → gone k s a b i ≡ visits (cap k) a b i
    at i m = elim (dec_lt (low (cap k) a i) (high (cap k) b i)) [
      | yes v ↦ rw (lt-ltb (low (cap k) a i) (high (cap k) b i) v) (le-leb (i * cap k) (first_leaf (suc k) s a b) (omega (arith, visited-start (cap k) (cap-pos k) a b i v)))
      | no v ↦ rw (le-ltb (low (cap k) a i) (high (cap k) b i) (omega arith))
    ]
