-- What a true map says: its words and its leaf bits tell of each other, so that F is the leaf bits. Assumes nothing.
use mathlib.Core.Path.{◌≡◌, refl, sym, ap, ◌∙◌}
use mathlib.Core.Bool.{Bool, true, false, not, ◌&&◌, and-false, true≢false}
use mathlib.Core.Logic.{⊎_elim}
use mathlib.Core.List.{List}
use Prim.Native.Nat.{ℕ, zero, suc, ◌+◌, ◌*◌, ◌/◌, ◌%◌, ◌^◌, ◌<◌}
use native.Mathlib.Nat.{mod-lt}
use native.Mathlib.Decide.{dec_lt, ℕ_discrete}
use native.Mathlib.Omega.{arith}
use lib.ListN.{take, drop, length-take, get_or-eq_default}
use lib.Seq.{get_or-take, get_or-drop}
use lib.Dec.{eqb}
use borrow.Author.Tests.{eq-eqb, eqb-true, not-false}
use Rattle.words.specs.Bits.{bit, some, lowest_bit}
use Rattle.words.specs.Sizes.{words, cap}
use Rattle.words.specs.Tree.{Fits, own, child, leaf?, free?, true?}
use Rattle.std.proofs.lemmas.Bool.{cases_Bool}
use Rattle.words.proofs.Tests.{and-both, same-is, same-self}
use Rattle.words.proofs.Search.{first-is, all-at, all-is}
use Rattle.words.proofs.Bits.{bit-of-zero, no-bits}
use Rattle.words.proofs.Levels.{cap-pos}
use Rattle.words.proofs.Path.{position-child, child-position, leaf-in}

-- ---- words of 16 bits

-- where each word of a map is one of 16 bits, so is each word of a child
pub fits-child : (k : ℕ) (s : List ℕ) (i : ℕ) → Fits s → Fits (child k s i)
unfolding child
fits-child k s i h j = elim (dec_lt j (words k)) [
  | yes l ↦ rw (get_or-take (words k) (drop (1 + i * words k) s) j 0 l, get_or-drop) (h (1 + i * words k + j))
  | no l ↦ let past = length-take (words k) (drop (1 + i * words k) s) in
      rw (get_or-eq_default (take (words k) (drop (1 + i * words k) s)) 0 {n = j} (omega arith)) (omega arith)
]

-- 0 is not some, and what is not some is 0
pub some-no : (w : ℕ) → w ≡ 0 → some w ≡ false
some-no w e = ap not (eq-eqb w 0 e)

no-some : (w : ℕ) → some w ≡ false → w ≡ 0
no-some w h = eqb-true w 0 (not-false (eqb w 0) h)

-- a word of 16 bits that is not 0 has a lowest set bit
pub lowest-set : (w : ℕ) → w < 2 ^ 16 → (w ≡ 0 → ⊥) → lowest_bit w < 16
lowest-set w h ne =
    let t = first-is (bit w) 0 16 16 refl in
    elim (dec_lt (lowest_bit w) 16) [
      | yes l ↦ l
      | no l ↦ absurd (ne (no-bits 16 w h (λ i m. t.before i (omega arith) (omega arith))))
    ]

-- ---- a map is true where each bit says whether its child's own word is not 0, and each child is true

pub true-is : (k : ℕ) (s : List ℕ) → true? (suc k) s ≡ true → (i : ℕ) → i < 16
    → (bit (own s) i ≡ some (own (child k s i))) × (true? k (child k s i) ≡ true)
unfolding true?
true-is k s h i l =
    let both = and-both _ _ (all-at _ 0 16 h i (omega arith) (omega arith)) in
    (same-is _ _ both.0, both.1)

pub is-true : (k : ℕ) (s : List ℕ)
    → ((i : ℕ) → i < 16 → (bit (own s) i ≡ some (own (child k s i))) × (true? k (child k s i) ≡ true)) → true? (suc k) s ≡ true
unfolding true?
is-true k s h = all-is _ 0 16 (λ i _ l. rw ((h i l).0, same-self, (h i l).1))

-- ---- a true map's own word and its leaf bits

-- where its own word is 0 no leaf bit is set
pub live : (k : ℕ) (s : List ℕ) (p : ℕ) → true? k s ≡ true → own s ≡ 0 → p < cap k → leaf? k s p ≡ false
unfolding leaf?
live zero s p h z l = ap (λ (w : ℕ). bit w p) z ∙ bit-of-zero p
live (suc k) s p h z l =
    let i = p / cap k in
    let r = true-is k s h i (position-child {j = k} p refl l) in
    live k (child k s i) (p % cap k) r.1
    (no-some (own (child k s i)) (sym r.0 ∙ ap (λ (w : ℕ). bit w i) z ∙ bit-of-zero i)) (mod-lt p (cap-pos k))

-- where it is not 0 some leaf bit is set
pub own-some : (k : ℕ) (s : List ℕ) → true? k s ≡ true → Fits s → (own s ≡ 0 → ⊥) → (p : ℕ) × (p < cap k) × (leaf? k s p ≡ true)
unfolding leaf? cap
own-some zero s h f ne =
    let l = lowest-set (own s) (f 0) ne in
    (lowest_bit (own s), l, (first-is (bit (own s)) 0 16 16 refl).here l)
own-some (suc k) s h f ne =
    let i = lowest_bit (own s) in
    let l = lowest-set (own s) (f 0) ne in
    let r = true-is k s h i l in
    let set : bit (own s) i ≡ true = (first-is (bit (own s)) 0 16 16 refl).here l in
    let below = own-some k (child k s i) r.1 (fits-child k s i f) (λ z. true≢false (sym set ∙ r.0 ∙ some-no (own (child k s i)) z)) in
    (i * cap k + below.0, child-position k i below.0 l below.1, leaf-in k s i below.0 below.1 ∙ below.2)

-- so it is 0 where no leaf bit is set
pub own-none : (k : ℕ) (s : List ℕ) → true? k s ≡ true → Fits s → ((p : ℕ) → p < cap k → leaf? k s p ≡ false) → own s ≡ 0
own-none k s h f none = elim (ℕ_discrete (own s) 0) [
  | yes e ↦ e
  | no ne ↦ let p = own-some k s h f ne in absurd (true≢false (sym p.2 ∙ none p.0 p.1))
]

-- ---- F is the leaf bits of a true map

pub free-leaf : (k : ℕ) (s : List ℕ) (p : ℕ) → true? k s ≡ true → p < cap k → free? k s p ≡ leaf? k s p
unfolding free? leaf?
free-leaf zero s p h l = refl
free-leaf (suc k) s p h l =
    let i = p / cap k in
    let q = p % cap k in
    let r = true-is k s h i (position-child {j = k} p refl l) in
    let m = mod-lt p (cap-pos k) in
    ap (λ (b : Bool). bit (own s) i && b) (free-leaf k (child k s i) q r.1 m)
    ∙ ⊎_elim
    (λ e. ap (λ (b : Bool). b && leaf? k (child k s i) q) e)
    (λ e.
    let none = live k (child k s i) q r.1 (no-some (own (child k s i)) (sym r.0 ∙ e)) m in
    ap (λ (b : Bool). bit (own s) i && b) none ∙ and-false (bit (own s) i) ∙ sym none)
    (cases_Bool (bit (own s) i))
