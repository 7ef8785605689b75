-- A take of the position p that the lowest set bits lead to: the lowest bit of each word on the way is p's, so that it is cleared where
-- the child is 0 now, and where a word stays above 0 nothing above it changes. Assumes nothing.
use mathlib.Core.Path.{◌≡◌, refl, sym, ap, ◌∙◌}
use mathlib.Core.Bool.{true, false, cond, true≢false}
use mathlib.Core.Logic.{⊎_elim}
use mathlib.Core.List.{List}
use Prim.Native.Nat.{ℕ, suc, ◌+◌, ◌-◌, ◌*◌, ◌/◌, ◌%◌, ◌^◌, ◌<◌, ◌≤◌}
use native.Mathlib.Nat.{mod-lt, mod-eq_of_lt}
use native.Mathlib.Decide.{dec_lt}
use native.Mathlib.Omega.{arith}
use lib.Arith.{digits_div, digits_mod}
use lib.ListN.{length, set, get_or}
use lib.Seq.{set-get_or, get_or-set_same}
use lib.Dec.{eqb}
use borrow.Author.Tests.{lt-ltb, le-ltb, eqb-false, not-true}
use Rattle.words.specs.declared.kind.Change.TheVariants.{Remove}
use Rattle.words.specs.declared.turn.Turn.{Turn}
use Rattle.words.specs.declared.turn.Turn.TheVariants.{Stayed, BecameEmpty}
use Rattle.words.specs.declared.turn.Turned.{Turned}
use Rattle.words.specs.Bits.{bit, word_of, some, lowest_bit}
use Rattle.words.specs.Turn.{goes, turned}
use Rattle.words.specs.Sizes.{words, cap}
use Rattle.words.specs.Tree.{own, child}
use Rattle.change.specs.Change.{change}
use Rattle.words.specs.Take.{lowest}
use Rattle.std.proofs.lemmas.Bool.{cases_Bool}
use Rattle.words.proofs.Search.{first-is}
use Rattle.words.proofs.Bits.{some-bit, stored-same}
use Rattle.words.proofs.Turns.{turn-is, word-told, turn-told}
use Rattle.words.proofs.Levels.{words-small, cap-pos, cap-node}
use Rattle.words.specs.Place.{on_way}
use Rattle.words.proofs.OnWay.{descend, rest-rest, digit-child, digit-lt, below, on-word, below-own, below-child}
use Rattle.change.proofs.Climb.{Climbed, climb-now, climb-fits, climb-above, climb, Rising, rise, rise-digit}
use Rattle.change.proofs.Stages.{new_below, stage, stage-own, stage-now, stage-above, stage-up}

-- ---- the lowest bits on the way

-- the lowest set bit is set, and a word that has one is above 0
pub low-set : (w : ℕ) {i : ℕ} → lowest_bit w ≡ i → i < 16 → bit w i ≡ true
low-set w e l = rw (← e) ((first-is (bit w) 0 16 16 refl).here (omega arith))

pub low-pos : (w : ℕ) {i : ℕ} → lowest_bit w ≡ i → i < 16 → 0 < w
low-pos w {i} e l =
    let ne = eqb-false w 0 (not-true (eqb w 0) (some-bit w i (low-set w e l))) in
    omega arith

-- where the lowest bits lead to q, the lowest bit of the own word names q's child, and those of the child lead to q in it
pub lowest-node : (j : ℕ) (t : List ℕ) (q : ℕ) → lowest (suc j) t ≡ q → q < cap (suc j)
    → (lowest_bit (own t) ≡ q / cap j) × (lowest j (child j t (q / cap j)) ≡ q % cap j)
unfolding lowest
lowest-node j t q e l =
    let i = lowest_bit (own t) in
    let r = lowest j (child j t i) in
    elim (dec_lt i 16) [
      | yes a ↦ elim (dec_lt r (cap j)) [
        | yes b ↦
            let is : i * cap j + r ≡ q = rw (lt-ltb i 16 a, lt-ltb r (cap j) b) at e in
            let named : i ≡ q / cap j = sym (ap (λ (m : ℕ). m / cap j) (sym is) ∙ digits_div i b) in
            (named, ap (λ (m : ℕ). lowest j (child j t m)) (sym named) ∙ sym (ap (λ (m : ℕ). m % cap j) (sym is) ∙ digits_mod i b))
        | no b ↦ absurd (omega (arith, cap-node j, rw (lt-ltb i 16 a, le-ltb r (cap j) (omega arith)) at e))
      ]
      | no a ↦ absurd (omega (arith, rw (le-ltb i 16 (omega arith)) at e))
    ]

module _ (k : ℕ) (s : List ℕ) (p : ℕ) (len : length s ≡ words k) (l : p < cap k) (is : lowest k s ≡ p) where
  lowest-below : (j : ℕ) → j ≤ k → lowest j (below j k s p) ≡ p % cap j
  lowest-below = descend (λ (j : ℕ). lowest j (below j k s p) ≡ p % cap j) k
      (ap (lowest k) (below-own k s p len) ∙ is ∙ sym (mod-eq_of_lt l))
      (λ j h e.
      ap (lowest j) (below-child k s p len l j h ∙ ap (child j (below (suc j) k s p)) (sym (digit-child j p)))
      ∙ (lowest-node j (below (suc j) k s p) (p % cap (suc j)) e (mod-lt p (cap-pos (suc j)))).1
      ∙ rest-rest j (suc j) p (omega arith))

  -- the leaf word's, and that of a word above
  pub low-leaf : lowest_bit (own (below 0 k s p)) ≡ p % 16
  unfolding lowest cap
  low-leaf = lowest-below 0 (omega arith)

  low-above : (j : ℕ) → j < k → lowest_bit (own (below (suc j) k s p)) ≡ p / cap j % 16
  low-above j h =
      (lowest-node j (below (suc j) k s p) (p % cap (suc j)) (lowest-below (suc j) h) (mod-lt p (cap-pos (suc j)))).0 ∙ digit-child j p

  -- a stage whose word is above 0 is the last: each word above has the bit that is stored in it
  stage-whole : ((i : ℕ) → get_or s i 0 < 2 ^ 16) → (j : ℕ) → j ≤ k → some (own (new_below Remove j k s p)) ≡ true
      → stage Remove j k s p ≡ change Remove k s p (p + 1)
  stage-whole fits = descend (λ (j : ℕ). some (own (new_below Remove j k s p)) ≡ true → stage Remove j k s p ≡ change Remove k s p (p + 1)) k
      (λ _. stage-own Remove k s p len l)
      (λ j h rest on.
      let w = own (below (suc j) k s p) in
      let set-bit : bit w (p / cap j % 16) ≡ true = low-set w (low-above j h) (digit-lt j p) in
      let same : w ≡ word_of (λ m. cond (eqb m (p / cap j % 16)) (some (own (new_below Remove j k s p))) (bit w m)) =
      rw on (sym (stored-same w (p / cap j % 16) true (rw (on-word (suc j) k s p) at (fits (on_way (suc j) k p))) set-bit)) in
      let next : stage Remove j k s p ≡ stage Remove (suc j) k s p =
      sym (set-get_or (stage Remove j k s p) (on_way (suc j) k p) 0)
      ∙ ap (set (stage Remove j k s p) (on_way (suc j) k p)) (stage-above Remove k s p len l j h)
      ∙ stage-up Remove k s p len l j h w same in
      let kept : own (new_below Remove (suc j) k s p) ≡ w =
      sym (stage-now Remove k s p len l (suc j) h) ∙ ap (λ (x : List ℕ). get_or x (on_way (suc j) k p) 0) (sym next) ∙ stage-above Remove k s p len l j h in
      next ∙ rest (ap some kept ∙ some-bit w (p / cap j % 16) set-bit))

-- ---- the climb of a take

-- how a word turned that was not empty, by the word that is left
abbrev pub left : ℕ → Turn
left w = cond (some w) Stayed BecameEmpty

-- as it is told with that word
pub left-told : {r : Turned} {i : ℕ} (v w : ℕ) → r ≡ turned v w → lowest_bit v ≡ i → i < 16 → r.turn ≡ left r.word
left-told {r} v w e low l = turn-told v w e ∙ turn-is v r.word (some-bit v _ (low-set v low l)) refl

left-empty : {t : Turn} (w : ℕ) → t ≡ left w → t ≡ BecameEmpty → some w ≡ false
left-empty w e b = ⊎_elim
    (λ (s : some w ≡ true). let stayed : left w ≡ Stayed = rw s in absurd (true≢false (sym (ap goes (sym stayed ∙ sym e ∙ b)))))
    (λ s. s)
    (cases_Bool (some w))

left-some : {t : Turn} (w : ℕ) → t ≡ left w → (t ≡ BecameEmpty → ⊥) → some w ≡ true
left-some w e n = ⊎_elim
    (λ s. s)
    (λ (s : some w ≡ false). absurd (n (e ∙ rw s)))
    (cases_Bool (some w))

-- a take of p on its way up: the words s are those of stage j, and t is how the word at `at`, which was stored last, went
pub record Taking (k : ℕ) (s₀ : List ℕ) (p at j rest size : ℕ) (t : Turn) (s : List ℕ) : Type 0 where
  pub rising : Rising p j rest size
  pub turned : t ≡ left (get_or s at 0)
  pub climbed : Climbed Remove k s₀ p at j s

module _ {k : ℕ} {s₀ : List ℕ} {p at j rest size : ℕ} {t : Turn} {s : List ℕ} (i : Taking k s₀ p at j rest size t s) where
  -- it ends at the first word that did not become empty
  pub take-end : lowest k s₀ ≡ p → ((i : ℕ) → get_or s₀ i 0 < 2 ^ 16) → (t ≡ BecameEmpty → ⊥) → s ≡ change Remove k s₀ p (p + 1)
  take-end is fits ne =
      let h = i.climbed in
      h.words_are ∙ stage-whole k s₀ p h.len h.inside is fits j h.level (ap some (sym (climb-now h)) ∙ left-some (get_or s at 0) i.turned ne)

  -- from a word that is not the map's own it goes to the one above
  module _ (up : j < k) where
    -- no number wraps, and that word is one of the map's
    pub take-fits : (1 + rest % 16 * size ≤ at) × (at - 1 - rest % 16 * size < length s) × (at ≤ 17895697) × (size ≤ 17895697)
    take-fits =
        let f = climb-fits i.climbed up (rise-digit i.rising) i.rising.size_is in
        (f.0, f.1, f.2, rw i.rising.size_is (words-small j (omega (arith, i.climbed.small))))

    -- its lowest bit is the child's
    pub take-low : lowest k s₀ ≡ p → lowest_bit (get_or s (at - 1 - rest % 16 * size) 0) ≡ rest % 16
    take-low is =
        let h = i.climbed in
        let digit = rise-digit i.rising in
        ap lowest_bit (climb-above h up digit i.rising.size_is) ∙ low-above k s₀ p h.len h.inside is j up ∙ sym digit

    -- where the child became empty that bit is cleared
    pub take-turn : {r : Turned} → lowest k s₀ ≡ p → t ≡ BecameEmpty → let above = get_or s (at - 1 - rest % 16 * size) 0 in
        r ≡ turned above (word_of (λ m. cond (eqb m (lowest_bit above)) false (bit above m)))
        → Taking k s₀ p (at - 1 - rest % 16 * size) (j + 1) (rest / 2 ^ 4) (1 + 16 * size) r.turn (set s (at - 1 - rest % 16 * size) r.word)
    take-turn {r} is z e =
        let above = get_or s (at - 1 - rest % 16 * size) 0 in
        let low = take-low is in
        record {
          rising = rise i.rising;
          turned = left-told _ _ e low (omega arith) ∙ ap left (sym (get_or-set_same s (at - 1 - rest % 16 * size) r.word 0 take-fits.1));
          climbed = climb i.climbed up (rise-digit i.rising) i.rising.size_is false r.word
              (sym (ap some (sym (climb-now i.climbed)) ∙ left-empty (get_or s at 0) i.turned z))
              (rw low at (word-told _ _ e));
        }
