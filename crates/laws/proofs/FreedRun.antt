-- What the crate's run give-back does: it frees the run up to the leaf word in which the first free position stands. Assumes nothing.
use mathlib.Core.Path.{◌≡◌, refl, sym, ap, ap₂, ◌∙◌}
use mathlib.Core.Bool.{Bool, true, false, cond, ◌&&◌, true≢false}
use mathlib.Core.Logic.{⊎_elim}
use mathlib.Core.List.{List}
use Prim.Native.Nat.{ℕ, zero, suc, ◌+◌, ◌-◌, ◌*◌, ◌/◌, ◌%◌, min, max, ◌<◌, ◌≤◌}
use native.Mathlib.Nat.{mod-lt, div-add-mod', le_of_lt}
use native.Mathlib.Decide.{ℕ_discrete}
use native.Mathlib.Omega.{arith}
use lib.ListN.{length}
use lib.Dec.{eqb, leb, ltb}
use borrow.Author.Tests.{eq-eqb, ne_eqb, ltb-true, ltb-false, leb-true, leb-false}
use Rattle.words.specs.declared.kind.Change.TheVariants.{Insert}
use Rattle.words.specs.Search.{first_from}
use Rattle.words.specs.Bits.{within, some}
use Rattle.words.specs.Sizes.{words, cap}
use Rattle.words.specs.Tree.{Fits, own, child, leaf?, free?, true?}
use Rattle.change.specs.Change.{low, high, visits}
use Rattle.change.specs.GiveBack.{first_leaf, give_back}
use Rattle.std.proofs.lemmas.Bool.{cases_Bool}
use Rattle.words.proofs.Tests.{and-both}
use Rattle.words.proofs.Search.{first-ext}
use Rattle.words.proofs.Levels.{cap-pos, start-aligned}
use Rattle.words.proofs.Rows.{length-child}
use Rattle.words.proofs.Within.{within-yes, within-no, within-iff}
use Rattle.change.proofs.Spans.{high-le}
use Rattle.change.proofs.Renewed.{replaced-in, replaced-out}
use Rattle.words.proofs.Path.{position-child}
use Rattle.words.proofs.Truth.{fits-child, true-is, free-leaf}
use Rattle.laws.proofs.Effects.{leaf-renew, true-renew, fits-renew, unvisited, leaf-change, fits-change}
use Rattle.change.proofs.Leaves.{first-leaf, first-part}
use Rattle.change.proofs.GiveBacks.{gone, sized-gone}

-- where the part that is freed ends, p being the first free position of the run, or its end b where there is none
abbrev pub freed_to : ℕ → ℕ → ℕ → ℕ
freed_to a b p = cond (eqb p b) b (max a (p - p % 16))

-- it ends no later than p
freed-le : (a b p : ℕ) → a ≤ p → freed_to a b p ≤ p
freed-le a b p l = elim (ℕ_discrete p b) [
  | yes e ↦ rw (eq-eqb p b e) (omega arith)
  | no ne ↦ rw (ne_eqb p b ne) (omega arith)
]

-- the positions of a map are whole leaf words
cap-whole : (k : ℕ) → cap k % 16 ≡ 0
unfolding cap
cap-whole zero = refl
cap-whole (suc k) = omega arith

-- ---- the part of child i

-- the part of a child that starts at j and ends by p, and of one in which p stands at d
whole-part : (n j a p r : ℕ) → n % 16 ≡ 0 → j % 16 ≡ 0 → j + n ≤ p → r < n → within (a - j) n r ≡ within a (max a (p - p % 16)) (j + r)
whole-part n j a p r en ej l m = within-iff (a - j) n r a (max a (p - p % 16)) (j + r) (omega arith) (omega arith)

last-part : (j a d r : ℕ) → j % 16 ≡ 0 → within (a - j) (max (a - j) (d - d % 16)) r ≡ within a (max a (j + d - (j + d) % 16)) (j + r)
last-part j a d r ej =
    let back : j + d - (j + d) % 16 ≡ j + (d - d % 16) = omega arith in
    rw back (within-iff (a - j) (max (a - j) (d - d % 16)) r a (max a (j + (d - d % 16))) (j + r) (omega arith) (omega arith))

min-other : (x y : ℕ) → (min x y ≡ x → ⊥) → min x y ≡ y
min-other x y h = omega arith

-- what is freed of the part of child i is what is freed of the run
freed-part : (n a b p i r : ℕ) → n % 16 ≡ 0 → i * n % 16 ≡ 0 → p ≤ b → low n a i < high n b i → i * n ≤ p → r < n
    → within (low n a i) (freed_to (low n a i) (high n b i) (min (high n b i) (p - i * n))) r ≡ within a (freed_to a b p) (i * n + r)
unfolding low high
freed-part n a b p i r en ei upto v m l =
    let whole : i * n + (p - i * n) ≡ p = omega arith in
    elim (ℕ_discrete p b) [
      | yes e ↦
          let all : min (high n b i) (p - i * n) ≡ high n b i = omega arith in
          rw (eq-eqb p b e, all, eq-eqb (high n b i) (high n b i) refl)
          (within-iff (low n a i) (high n b i) r a b (i * n + r) (omega arith) (omega arith))
      | no ne ↦ elim (ℕ_discrete (min (high n b i) (p - i * n)) (high n b i)) [
        | yes e ↦
            let full : high n b i ≡ n = omega arith in
            rw (ne_eqb p b ne, eq-eqb (min (high n b i) (p - i * n)) (high n b i) e, full) (whole-part n (i * n) a p r en ei (omega arith) l)
        | no ne' ↦
            rw (ne_eqb p b ne, ne_eqb (min (high n b i) (p - i * n)) (high n b i) ne', min-other (high n b i) (p - i * n) ne') (rw whole at (last-part (i * n) a (p - i * n) r ei))
      ]
    ]

-- ---- the whole map

-- a position of another child is not freed
not-gone : (k : ℕ) (s : List ℕ) (a b q : ℕ) → a ≤ b → gone k s a b (q / cap k) ≡ false
    → within a (freed_to a b (first_leaf (suc k) s a b)) q ≡ false
not-gone k s a b q le h =
    let p = first_leaf (suc k) s a b in
    let t = first-leaf (suc k) s a b le in
    let ends = freed-le a b p t.from in
    ⊎_elim
    (λ v.
    let after = leb-false (q / cap k * cap k) p (ap (λ (x : Bool). x && leb (q / cap k * cap k) p) (sym v) ∙ h) in
    within-no a (freed_to a b p) q (omega (arith, div-add-mod' q (cap k))))
    (λ v. within-no a (freed_to a b p) q (λ w. true≢false (sym (within-yes a b q w.0 (omega (arith, t.upto, w.1))) ∙ unvisited (cap k) (cap-pos k) a b q v)))
    (cases_Bool (visits (cap k) a b (q / cap k)))

-- it frees the run up to there, and no other position
pub leaf-give_back : (k : ℕ) (s : List ℕ) (a b q : ℕ) → length s ≡ words k → a ≤ b → b ≤ cap k → q < cap k
    → leaf? k (give_back k s a b) q ≡ cond (within a (freed_to a b (first_leaf k s a b)) q) true (leaf? k s q)
unfolding give_back leaf? cap
leaf-give_back zero s a b q len le small l =
    let p = first_leaf zero s a b in
    let f = first-leaf zero s a b le in
    ⊎_elim
    (λ t.
    let m = ltb-true p b t in
    let first_word : p - p % 16 ≡ 0 = omega arith in
    rw (t, ne_eqb p b (omega arith), first_word, within-no a (max a 0) q (omega arith)))
    (λ t.
    let m = ltb-false p b t in
    rw (t, eq-eqb p b (omega (arith, f.upto))) (leaf-change Insert zero s a b q len l))
    (cases_Bool (ltb p b))
leaf-give_back (suc k) s a b q len le small l =
    let i = q / cap k in
    let r = q % cap k in
    let lo = low (cap k) a i in
    let hi = high (cap k) b i in
    let p = first_leaf (suc k) s a b in
    let c = child k s i in
    let new : ℕ → List ℕ = λ j. give_back k (child k s j) (low (cap k) a j) (high (cap k) b j) in
    leaf-renew k (gone k s a b) (visits (cap k) a b) new s len (sized-gone k s a b len) q l
    ∙ ⊎_elim
    (λ t.
    let both = and-both (visits (cap k) a b i) (leb (i * cap k) p) t in
    let v = ltb-true lo hi both.0 in
    let m = leb-true (i * cap k) p both.1 in
    ap (λ (x : List ℕ). leaf? k x r) (replaced-in k (gone k s a b) new s i t)
    ∙ leaf-give_back k c lo hi r (length-child k s len i (position-child {j = k} q refl l)) (le_of_lt v) (high-le (cap k) b i) (mod-lt q (cap-pos k))
    ∙ ap (λ (x : Bool). cond x true (leaf? k c r))
    (ap (λ (x : ℕ). within lo (freed_to lo hi x) r) (first-part k s a b i le v m)
    ∙ freed-part (cap k) a b p i r (cap-whole k) (start-aligned k i) (first-leaf (suc k) s a b le).upto v m (mod-lt q (cap-pos k))
    ∙ ap (within a (freed_to a b p)) (div-add-mod' q (cap k))))
    (λ t. ap (λ (x : List ℕ). leaf? k x r) (replaced-out k (gone k s a b) new s i t)
    ∙ ap (λ (x : Bool). cond x true (leaf? k c r)) (sym (not-gone k s a b q le t)))
    (cases_Bool (gone k s a b i))

-- a true map stays true
pub true-give_back : (k : ℕ) (s : List ℕ) (a b : ℕ) → length s ≡ words k → true? k s ≡ true → true? k (give_back k s a b) ≡ true
unfolding give_back true?
true-give_back zero s a b len h = refl
true-give_back (suc k) s a b len h =
    true-renew k (gone k s a b) (visits (cap k) a b) _ s len (sized-gone k s a b len) h
    (λ i l _. true-give_back k (child k s i) (low (cap k) a i) (high (cap k) b i) (length-child k s len i l) (true-is k s h i l).1)
    (λ i l m. ap (λ (x : List ℕ). some (own x))
    (replaced-out k (gone k s a b) _ s i (ap (λ (x : Bool). x && leb (i * cap k) (first_leaf (suc k) s a b)) m)))

-- words of 16 bits stay words of 16 bits
pub fits-give_back : (k : ℕ) (s : List ℕ) (a b : ℕ) → Fits s → Fits (give_back k s a b)
unfolding give_back
fits-give_back zero s a b f = λ i.
    ⊎_elim (λ t. rw t (f i)) (λ t. rw t (fits-change Insert zero s a b f i)) (cases_Bool (ltb (first_leaf zero s a b) b))
fits-give_back (suc k) s a b f =
    fits-renew k (gone k s a b) (visits (cap k) a b) _ s f
    (λ i l _. fits-give_back k (child k s i) (low (cap k) a i) (high (cap k) b i) (fits-child k s i f))

-- ---- the same of F, on a true map

module _ (k : ℕ) (s : List ℕ) (a b : ℕ) (h : true? k s ≡ true) (le : a ≤ b) (small : b ≤ cap k) where
  -- the first free position of the run
  pub first-free : first_leaf k s a b ≡ first_from (free? k s) a (b - a)
  first-free = first-ext (leaf? k s) (free? k s) a (b - a) (λ q l u. sym (free-leaf k s q h (omega arith)))

  -- what is freed
  pub free-give_back : length s ≡ words k → (q : ℕ) → q < cap k
      → free? k (give_back k s a b) q ≡ cond (within a (freed_to a b (first_from (free? k s) a (b - a))) q) true (free? k s q)
  free-give_back len q l =
      free-leaf k (give_back k s a b) q (true-give_back k s a b len h) l
      ∙ leaf-give_back k s a b q len le small l
      ∙ ap₂ (λ (e : ℕ) (x : Bool). cond (within a (freed_to a b e) q) true x) first-free (sym (free-leaf k s q h l))
