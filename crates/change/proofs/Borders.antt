-- A change of the positions from a up to b of a map without a loop: of one child; or of the child that a is in, of the whole children
-- after it at once, and of the child that the last position is in. Each is a turn of the loop of `Turn`, or many. Assumes nothing.
use mathlib.Core.Path.{◌≡◌, refl, sym, ap, ap₂, ◌∙◌}
use mathlib.Core.Bool.{Bool, cond}
use mathlib.Core.List.{List, [], ◌∷◌}
use Prim.Native.Nat.{ℕ, suc, ◌+◌, ◌-◌, ◌*◌, ◌/◌, ◌^◌, ◌<◌, ◌≤◌}
use native.Mathlib.Nat.{mod-lt, div-add-mod', add-mul, suc-mul}
use native.Mathlib.Numerals.{add-one}
use native.Mathlib.Decide.{dec_lt, ℕ_discrete}
use native.Mathlib.Omega.{arith}
use lib.Dec.{eqb}
use lib.ListN.{length, set, get_or, replicate}
use borrow.Author.Tests.{eq-eqb, ne_eqb}
use borrow.Rule.Slice.PartMut.{mid_of, put_mid, mid_len}
use Rattle.words.specs.declared.kind.Change.{Change}
use Rattle.words.specs.Bits.{bit, word_of, within, some, frees, change_word}
use Rattle.words.specs.Sizes.{words, cap}
use Rattle.words.specs.Tree.{own, child}
use Rattle.change.specs.Renew.{marked}
use Rattle.change.specs.Change.{low, high, visits, change}
use Rattle.words.proofs.Bits.{pack-ext}
use Rattle.words.proofs.Levels.{words-node, cap-node, cap-pos}
use Rattle.words.proofs.Rows.{row-ext, part-before, part-within}
use Rattle.change.proofs.Spans.{first-last, last-below, whole-part, visited}
use Rattle.words.proofs.Within.{within-yes, within-no}
use Rattle.change.proofs.Renewed.{renew-ext}
use Rattle.words.proofs.Parts.{lent, back, word-lent, store-word}
use Rattle.change.proofs.Turn.{Passed, kept, own-kept, own-passed, lent-now, start, turn, turn-run, passed, finish}
use Rattle.change.proofs.Changes.{changed_kids, sized-kids, changed-kid, change-kids}
use Rattle.change.proofs.Fills.{whole, some-whole, own-whole, row-replicate, change-whole}

-- the first position is in child `first`, and the last one in child `last`
pub record Borders (j a b first last : ℕ) : Type 0 where
  pub some : a < b
  pub first-is : first ≡ a / cap j
  pub last-is : last ≡ (b - 1) / cap j
  pub starts : first * cap j ≤ a
  pub inside : a < first * cap j + cap j
  pub reaches : last * cap j < b
  pub ends : b ≤ last * cap j + cap j
  pub order : first ≤ last
  pub below : last < 16

pub borders : {k j a b first last : ℕ} → suc j ≡ k → a < b → b ≤ cap k → first ≡ a / cap j → last ≡ (b - 1) / cap j → Borders j a b first last
borders {j = j} {a} {b} up l u f e = record {
  some = l;
  first-is = f;
  last-is = e;
  starts = rw f (omega (arith, div-add-mod' a (cap j)));
  inside = rw f (omega (arith, div-add-mod' a (cap j), mod-lt a (cap-pos j)));
  reaches = rw e (omega (arith, div-add-mod' (b - 1) (cap j)));
  ends = rw e (omega (arith, div-add-mod' (b - 1) (cap j), mod-lt (b - 1) (cap-pos j)));
  order = rw (f, e) (first-last (cap j) (cap-pos j) a b l);
  below = rw e (last-below (cap j) (cap-pos j) b (rw (← up, cap-node) at u) (omega arith));
}

-- what each child has of the positions
module _ {j a b first last : ℕ} (h : Borders j a b first last) where
  pub low-first : low (cap j) a first ≡ a - first * cap j
  unfolding low
  low-first = refl

  pub high-last : high (cap j) b last ≡ b - last * cap j
  unfolding high
  high-last = omega (arith, h.ends)

  module _ (e : first ≡ last) where
    pub ends-one : b ≤ first * cap j + cap j
    ends-one = omega (arith, h.ends, ap (λ (i : ℕ). i * cap j) e)

    pub high-one : high (cap j) b first ≡ b - first * cap j
    unfolding high
    high-one = omega (arith, ends-one)

  module _ (l : first < last) where
    pub high-first : high (cap j) b first ≡ cap j
    unfolding high
    high-first = omega (arith, h.reaches, part-before first last (cap j) l)

    pub low-last : low (cap j) a last ≡ 0
    unfolding low
    low-last = omega (arith, h.inside, part-before first last (cap j) l)

  -- all of its own, where it is between the two
  between : (i : ℕ) → first < i → i < last → (low (cap j) a i ≡ 0) × (high (cap j) b i ≡ cap j)
  between i l m = whole-part (cap j) a b i (omega (arith, h.inside, part-before first i (cap j) l)) (omega (arith, h.reaches, part-before i last (cap j) m))

-- ---- the change child after child, n words to a child: it has reached child i

abbrev pub Reached : Change → ℕ → ℕ → List ℕ → ℕ → ℕ → ℕ → ℕ → List ℕ → Type 0
Reached c j n s₀ a b first i s = Passed j n s₀ (changed_kids c j s₀ a b) first i s

module _ (c : Change) {j a b first last : ℕ} (h : Borders j a b first last) where
  -- before the first
  pub reach-first : {n : ℕ} {s : List ℕ} → n ≡ words j → length s ≡ words (suc j) → own s < 2 ^ 16 → Reached c j n s a b first first s
  reach-first {n} {s} e len fits = passed (start j n s (changed_kids c j s a b) first e len fits (sized-kids c j s a b len))

  -- a child's part has come back with what it has of the positions changed
  pub reach-child : {n i lo hi : ℕ} {s₀ s ys : List ℕ} → Reached c j n s₀ a b first i s → i < 16
      → ys ≡ change c j (lent n s i) lo hi → lo ≡ low (cap j) a i → hi ≡ high (cap j) b i → Reached c j n s₀ a b first (i + 1) (back n s i ys)
  reach-child {i = i} {s₀ = s₀} {ys = ys} u l e el eh = passed (turn u l ys _ (changed-kid c j s₀ a b i e (lent-now u l) el eh) refl)

  -- a child between the two is all ones or all zeros then
  kid-between : (s₀ : List ℕ) (i : ℕ) → first < i → i < last → changed_kids c j s₀ a b i ≡ replicate (words j) (whole c)
  unfolding changed_kids
  kid-between s₀ i f m = let e = between h i f m in rw (e.0, e.1) (change-whole c j (child j s₀ i))

  -- the words of all of them have come back filled
  pub reach-last : (x y : ℕ) {n v : ℕ} {s₀ s ys : List ℕ} → first < last → Reached c j n s₀ a b first (first + 1) s → x ≡ 1 + first * n + n → y ≡ 1 + last * n
      → v ≡ whole c → ys ≡ replicate (length (mid_of x (y - x) s)) v → Reached c j n s₀ a b first last (put_mid x (y - x) s ys)
  reach-last x y {n} {s₀ = s₀} {s} {ys} l u ex ey ev e =
      turn-run u last ys (omega arith) (omega (arith, h.below)) (ex ∙ sym next) ey
      (e ∙ ap₂ (λ (m w : ℕ). replicate m w) count ev ∙ sym (row-replicate (words j) (whole c) d)
      ∙ row-ext _ _ d (λ q m. sym (kid-between s₀ (first + 1 + q) (omega arith) (omega arith))))
    where
      d : ℕ
      d = last - (first + 1)

      next : 1 + (first + 1) * n ≡ 1 + first * n + n
      next = rw (add-one, suc-mul) (omega arith)

      count : length (mid_of x (y - x) s) ≡ d * words j
      count =
          let upto : first + 1 + d ≡ last = omega arith in
          mid_len x y s (omega (arith, kept u, words-node j, u.size, part-within last n h.below))
          ∙ omega (arith, add-mul (first + 1) d n, ap (λ (m : ℕ). m * n) upto, next) ∙ ap (λ (m : ℕ). d * m) u.size

-- a child that is a leaf word is stored
pub reach-word : (c : Change) {a b first last i lo hi v : ℕ} {s₀ s : List ℕ} → Borders 0 a b first last → Reached c 0 1 s₀ a b first i s → i < 16
    → v ≡ change_word c (get_or s (1 + i) 0) lo hi → lo ≡ low (cap 0) a i → hi ≡ high (cap 0) b i → Reached c 0 1 s₀ a b first (i + 1) (set s (1 + i) v)
unfolding change
reach-word c {i = i} {lo} {hi} {v} {s = s} h u l e el eh =
    let word = ap (λ (w : ℕ). w ∷ []) (e ∙ ap (λ (w : ℕ). change_word c w lo hi) (word-lent s i)) in
    rw (store-word s i v (omega (arith, kept u, words-node 0, l))) (reach-child c h u l word el eh)

-- ---- after the last child the map's own word is stored

module _ (c : Change) {j a b first last : ℕ} (h : Borders j a b first last) {k n : ℕ} {s₀ s : List ℕ} (up : suc j ≡ k)
    (u : Reached c j n s₀ a b first (last + 1) s) where
  -- v is bit i as the changed children make it
  abbrev Right : ℕ → Bool → Type 0
  Right i v = v ≡ cond (within first (last + 1) i) (some (own (changed_kids c j s₀ a b i))) (bit (own s) i)

  -- a word with these bits
  stored : {w : ℕ} (f : ℕ → Bool) → ((i : ℕ) → i < 16 → Right i (f i)) → w ≡ word_of f → set s 0 w ≡ change c k s₀ a b
  unfolding marked
  stored f e ew =
      ap (set s 0) (ew ∙ pack-ext 16 f _ (λ i m. e i m ∙ ap (λ (v : ℕ). cond (within first (last + 1) i) (some (own (kids i))) (bit v i)) (own-kept u)))
      ∙ finish u ∙ renew-ext j _ _ _ _ kids kids s₀ at at (λ i l t. refl) ∙ change-kids c j s₀ a b up
    where
      kids : ℕ → List ℕ
      kids = changed_kids c j s₀ a b

      at : (i : ℕ) → i < 16 → within first (last + 1) i ≡ visits (cap j) a b i
      at i l = ap₂ (λ (p q : ℕ). within p (q + 1) i) h.first-is h.last-is ∙ visited (cap j) (cap-pos j) a b h.some i

  -- the bit of a child p of these, of which y is the first word
  bit-in : {y : ℕ} (p i : ℕ) → i ≡ p → first ≤ p → p ≤ last → y ≡ 1 + p * n → Right i (some (get_or s y 0))
  bit-in p i e f l ey =
      rw (ey, e, within-yes first (last + 1) p f (omega arith)) (ap some (own-passed u p f (omega arith) (omega (arith, h.below))))

  -- the bit of another
  bit-out : (i : ℕ) → (first ≤ i → i ≤ last → ⊥) → Right i (bit (own s) i)
  bit-out i o = rw (within-no first (last + 1) i (λ z. o z.0 (omega arith)))

  -- the bit of a child between the two
  bit-between : (i : ℕ) → first < i → i < last → Right i (frees c)
  bit-between i f l = rw (within-yes first (last + 1) i (omega arith) (omega arith), kid-between c h s₀ i f l, own-whole c j) (sym (some-whole c))

  -- two border children
  pub store-both : {x y w : ℕ} → first < last → x ≡ 1 + first * n → y ≡ 1 + last * n
      → w ≡ word_of (λ i. cond (eqb i last) (some (get_or s y 0)) (cond (within (first + 1) last i) (frees c) (cond (eqb i first) (some (get_or s x 0)) (bit (own s) i))))
      → set s 0 w ≡ change c k s₀ a b
  store-both {x} {y} l ex ey = stored _ λ i m.
      elim (ℕ_discrete i last) [
        | yes e ↦ rw (eq-eqb i last e) (bit-in last i e (omega arith) (omega arith) ey)
        | no e ↦ rw (ne_eqb i last e) (elim (dec_lt first i) [
          | yes f ↦ elim (dec_lt i last) [
            | yes g ↦ rw (within-yes (first + 1) last i (omega arith) g) (bit-between i f g)
            | no g ↦ rw (within-no (first + 1) last i (omega arith), ne_eqb i first (omega arith)) (bit-out i (omega arith))
          ]
          | no f ↦ elim (ℕ_discrete i first) [
            | yes g ↦ rw (within-no (first + 1) last i (omega arith), eq-eqb i first g) (bit-in first i g (omega arith) (omega arith) ex)
            | no g ↦ rw (within-no (first + 1) last i (omega arith), ne_eqb i first g) (bit-out i (omega arith))
          ]
        ])
      ]

-- one child
pub store-one : (c : Change) {j a b first last k n x w : ℕ} {s₀ s : List ℕ} → Borders j a b first last → suc j ≡ k → Reached c j n s₀ a b first (first + 1) s
    → first ≡ last → x ≡ 1 + first * n → w ≡ word_of (λ i. cond (eqb i first) (some (get_or s x 0)) (bit (own s) i)) → set s 0 w ≡ change c k s₀ a b
store-one c {first = first} {x = x} {s = s} h up u e ex =
    let next = ap (λ (i : ℕ). i + 1) e in
    let u' = rw next at u in
    stored c h up u' (λ i. cond (eqb i first) (some (get_or s x 0)) (bit (own s) i)) λ i m.
    elim (ℕ_discrete i first) [
      | yes f ↦ rw (eq-eqb i first f) (bit-in c h up u' first i f (omega arith) (omega arith) ex)
      | no f ↦ rw (ne_eqb i first f) (bit-out c h up u' i (omega arith))
    ]
