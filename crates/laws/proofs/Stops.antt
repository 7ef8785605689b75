-- A single take or give-back changes nothing above the first word, from the leaf up, that went neither way: on every map. Assumes nothing.
use mathlib.Core.Path.{◌≡◌, refl, sym, ap, ap₂, ◌∙◌}
use mathlib.Core.Bool.{false}
use mathlib.Core.Logic.{⊎_elim, ◌≢◌}
use mathlib.Core.List.{List}
use Prim.Native.Nat.{ℕ, zero, suc, ◌+◌, ◌*◌, ◌/◌, ◌%◌, ◌<◌, ◌≤◌}
use native.Mathlib.Nat.{mod-lt, div-add-mod', le-div_iff_mul-le, eq-or-lt_of_le}
use native.Mathlib.Decide.{dec_lt, ℕ_discrete}
use native.Mathlib.Omega.{arith}
use lib.ListN.{length, drop, get_or, get_or-eq_default}
use lib.Seq.{get_or-take, get_or-drop}
use Rattle.words.specs.declared.kind.Change.{Change}
use Rattle.words.specs.Turn.{turn, goes}
use Rattle.words.specs.Sizes.{words, cap}
use Rattle.words.specs.Tree.{Fits, own, child}
use Rattle.words.specs.Place.{on_way}
use Rattle.change.specs.Single.{turns, single}
use Rattle.words.proofs.Levels.{words-node, words-pos, cap-pos}
use Rattle.words.proofs.Rows.{upd, upd-same, upd-other, sized-upd, child-node, length-child}
use Rattle.words.proofs.Path.{position-child}
use Rattle.words.proofs.OnWay.{on-own, on-up, on-lt, on-child}
use Rattle.words.proofs.Truth.{fits-child}
use Rattle.words.proofs.Turns.{turn-same}
use Rattle.change.proofs.Singles.{length-single, old, new, single-node, own-single}
use Rattle.laws.specs.Above.{NeitherWay, SameAbove}

-- word r of child m
word-child : (k : ℕ) (s : List ℕ) (m r : ℕ) → r < words k → get_or s (1 + m * words k + r) 0 ≡ get_or (child k s m) r 0
unfolding child
word-child k s m r l = sym (get_or-take (words k) (drop (1 + m * words k) s) r 0 l ∙ get_or-drop (1 + m * words k) s r 0)

module _ (c : Change) (k : ℕ) (s : List ℕ) (p : ℕ) (len : length s ≡ words (suc k)) (fits : Fits s) (l : p < cap (suc k)) where
  abbrev at : ℕ
  at = p / cap k

  abbrev after : List ℕ
  after = single c (suc k) s p

  at-lt : at < 16
  at-lt = position-child {j = k} p refl l

  -- the children afterwards: the one that has p, and the others
  child-after : (m : ℕ) → m < 16 → child k after m ≡ upd (child k s) at (new c k s p) m
  child-after m h =
      ap (λ (x : List ℕ). child k x m) (sym (single-node c k s p (fits 0)))
      ∙ child-node k _ (upd (child k s) at (new c k s p)) (sized-upd (child k s) at _ (length-single c k _ (p % cap k) (length-child k s len at at-lt)) (length-child k s len)) m h

  child-at : child k after at ≡ new c k s p
  child-at = child-after at at-lt ∙ upd-same (child k s) at (new c k s p)

  -- the words on the way are the child's
  on-way : (j : ℕ) → j ≤ k → (t : List ℕ) → get_or t (on_way j (suc k) p) 0 ≡ get_or (child k t at) (on_way j k (p % cap k)) 0
  on-way j h t = ap (λ (i : ℕ). get_or t i 0) (on-child k p l j h) ∙ word-child k t at _ (on-lt j k (p % cap k) h (mod-lt p (cap-pos k)))

  in-map : (j r : ℕ) → j ≤ k → r ≡ on_way j k (p % cap k) → 1 + at * words k + r ≡ on_way j (suc k) p
  in-map j r h e = ap (λ (x : ℕ). 1 + at * words k + x) e ∙ sym (on-child k p l j h)

  neither-below : (j : ℕ) → j ≤ k → NeitherWay j (suc k) p s after → NeitherWay j k (p % cap k) (old c k s p) (new c k s p)
  neither-below j h e =
      let w = on_way j k (p % cap k) in
      ap₂ turn (sym (on-way j h s)) (sym (on-way j h after ∙ ap (λ (x : List ℕ). get_or x w 0) child-at)) ∙ e

  -- where it is so of the child
  module _ (below : (j : ℕ) → j ≤ k → (j < k → NeitherWay j k (p % cap k) (old c k s p) (new c k s p)) → SameAbove j k (p % cap k) (old c k s p) (new c k s p)) where
    -- its own word stays above the one that went neither way, and so it did not turn
    own-below : (j : ℕ) → j < k → NeitherWay j (suc k) p s after → own (new c k s p) ≡ own (old c k s p)
    own-below j lt e = below j (omega arith) (λ _. neither-below j (omega arith) e) 0 (λ m b z. omega (arith, on-up m k (p % cap k) (omega arith)))

    turned-not : (j : ℕ) → j ≤ k → NeitherWay j (suc k) p s after → turns (old c k s p) (new c k s p) ≡ false
    turned-not j h e = ⊎_elim
        (λ (top : j ≡ k). ap goes (rw (top, on-own) at (neither-below j h e)))
        (λ (lt : j < k). ap goes (ap (turn (own (old c k s p))) (own-below j lt e) ∙ turn-same _))
        (eq-or-lt_of_le h)

    own-after : (j : ℕ) → j ≤ k → NeitherWay j (suc k) p s after → own after ≡ own s
    own-after j h e = own-single c k s p (fits 0) ∙ rw (turned-not j h e)

    -- a word of the child that has p
    word-at : (j r : ℕ) → j ≤ suc k → (j < suc k → NeitherWay j (suc k) p s after)
        → ((m : ℕ) → m ≤ j → 1 + at * words k + r ≢ on_way m (suc k) p) → get_or (new c k s p) r 0 ≡ get_or (old c k s p) r 0
    word-at j r h e off = ⊎_elim
        (λ (top : j ≡ suc k). below k (omega arith) (λ lt. absurd (omega arith)) r (λ m b z. off m (omega arith) (in-map m r b z)))
        (λ (lt : j < suc k). below j (omega arith) (λ _. neither-below j (omega arith) (e lt)) r (λ m b z. off m b (in-map m r (omega arith) z)))
        (eq-or-lt_of_le h)

    -- a word of child m
    word-after : (j m r : ℕ) → j ≤ suc k → (j < suc k → NeitherWay j (suc k) p s after) → m < 16 → r < words k
        → ((n : ℕ) → n ≤ j → 1 + m * words k + r ≢ on_way n (suc k) p) → get_or after (1 + m * words k + r) 0 ≡ get_or s (1 + m * words k + r) 0
    word-after j m r h e b u off =
        word-child k after m r u
        ∙ elim (ℕ_discrete m at) [
          | yes q ↦ rw (q, child-at) (word-at j r h e (rw q at off))
          | no ne ↦ rw (child-after m b, upd-other (child k s) at (new c k s p) m ne)
        ]
        ∙ sym (word-child k s m r u)

    above : (j : ℕ) → j ≤ suc k → (j < suc k → NeitherWay j (suc k) p s after) → SameAbove j (suc k) p s after
    above j h e zero off = ⊎_elim
        (λ (top : j ≡ suc k). absurd (off (suc k) (omega arith) (sym (on-own (suc k) p))))
        (λ (lt : j < suc k). own-after j (omega arith) (e lt))
        (eq-or-lt_of_le h)
    above j h e (suc i) off =
        let m = i / words k in
        let r = i % words k in
        let is : 1 + m * words k + r ≡ suc i = omega (arith, div-add-mod' i (words k)) in
        elim (dec_lt m 16) [
          | yes b ↦ rw is at (word-after j m r h e b (mod-lt i (words-pos k)) (rw (sym is) at off))
          | no b ↦
              let past : 16 * words k ≤ i = (le-div_iff_mul-le (words-pos k)).0 (omega arith) in
              get_or-eq_default after 0 {n = suc i} (omega (arith, words-node k, length-single c (suc k) s p len))
              ∙ sym (get_or-eq_default s 0 {n = suc i} (omega (arith, words-node k)))
        ]

-- each word but those of the levels 0 to j on the way to p, where the word of level j went neither way or is the own word
pub single-above : (c : Change) (k : ℕ) (s : List ℕ) (p j : ℕ) → length s ≡ words k → Fits s → p < cap k → j ≤ k
    → (j < k → NeitherWay j k p s (single c k s p))
    → SameAbove j k p s (single c k s p)
unfolding words
single-above c zero s p j len fits l h e i off =
    let z : i ≢ 0 = λ z. off 0 (omega arith) (z ∙ sym (on-own 0 p)) in
    get_or-eq_default (single c zero s p) 0 {n = i} (omega (arith, length-single c zero s p len)) ∙ sym (get_or-eq_default s 0 {n = i} (omega arith))
single-above c (suc k) s p j len fits l h e i off =
    let x = p / cap k in
    above c k s p len fits l
    (λ m. single-above c k (child k s x) (p % cap k) m (length-child k s len x (position-child {j = k} p refl l)) (fits-child k s x fits) (mod-lt p (cap-pos k)))
    j h e i off
