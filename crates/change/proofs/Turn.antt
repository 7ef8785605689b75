-- A loop over the children of a map, as mathematics: the children from `first` up to i stand as `kids` says, and their bits are in the
-- word w that the loop gathers. A change of one child is a loop of one turn, and a fill of a run of children is many turns at once.
-- Assumes nothing.
use mathlib.Core.Path.{◌≡◌, refl, sym, ap, ap₂, ◌∙◌}
use mathlib.Core.Bool.{Bool, cond}
use mathlib.Core.List.{List}
use Prim.Native.Nat.{ℕ, suc, ◌+◌, ◌-◌, ◌*◌, ◌^◌, ◌<◌, ◌≤◌}
use native.Mathlib.Decide.{ℕ_discrete}
use native.Mathlib.Omega.{arith}
use lib.ListN.{length, set, get_or}
use lib.Dec.{eqb}
use Rattle.words.specs.Bits.{bit, word_of, within, some}
use borrow.Rule.Slice.PartMut.{put_mid}
use Rattle.words.specs.Sizes.{words}
use Rattle.words.specs.Tree.{own, child, row, node}
use Rattle.change.specs.Renew.{replaced, marked, renew}
use Rattle.words.proofs.Bits.{bit-pack, pack-ext, pack-bit}
use Rattle.words.proofs.Rows.{upd, upd-cond, row-ext, node-ext, own-node, set-node, length-node, child-node, split-node}
use Rattle.words.proofs.Within.{within-none, within-now, within-yes, within-iff, within-more, within-run}
use Rattle.change.proofs.Renewed.{replaced-in, replaced-out, replaced-ext, marked-ext, sized-replaced}
use Rattle.words.proofs.Parts.{lent, back, lent-child, back-node, run-node, own-child, own-back}

-- s₀ is the map at the start, s the words now, and n the words of a child
pub record Upto (k n : ℕ) (s₀ : List ℕ) (kids : ℕ → List ℕ) (first i : ℕ) (s : List ℕ) (w : ℕ) : Type 0 where
  pub size : n ≡ words k
  pub len : length s₀ ≡ words (suc k)
  pub sized : (j : ℕ) → j < 16 → length (kids j) ≡ words k
  pub after : first ≤ i
  pub words_are : s ≡ node (own s₀) (replaced k (within first i) kids s₀)
  pub word-is : w ≡ marked (within first i) kids (own s₀)

-- the words s after a turn at child i: once its bit is in the word, the loop has gone one child further
abbrev pub Turned : ℕ → ℕ → List ℕ → (ℕ → List ℕ) → ℕ → ℕ → List ℕ → ℕ → Type 0
Turned k n s₀ kids first i s w = (v : ℕ) → v ≡ word_of (λ j. cond (eqb j i) (some (get_or s (1 + i * n) 0)) (bit w j)) → Upto k n s₀ kids first (i + 1) s v

-- the same of the words alone: w is what the loop would have gathered
abbrev pub Passed : ℕ → ℕ → List ℕ → (ℕ → List ℕ) → ℕ → ℕ → List ℕ → Type 0
Passed k n s₀ kids first i s = Upto k n s₀ kids first i s (marked (within first i) kids (own s₀))

-- before the first turn
pub start : (k n : ℕ) (s : List ℕ) (kids : ℕ → List ℕ) (first : ℕ) → n ≡ words k → length s ≡ words (suc k) → own s < 2 ^ 16
    → ((j : ℕ) → j < 16 → length (kids j) ≡ words k) → Upto k n s kids first first s (own s)
unfolding marked
start k n s kids first e len fits sized = record {
  size = e;
  len = len;
  sized = sized;
  after = omega arith;
  words_are = split-node k s len ∙ node-ext refl (λ j l. sym (replaced-out k (within first first) kids s j (within-none first j)));
  word-is = sym (pack-ext 16 (λ j. cond (within first first j) (some (own (kids j))) (bit (own s) j)) (bit (own s)) (λ j l. ap (λ (b : Bool). cond b (some (own (kids j))) (bit (own s) j)) (within-none first j)) ∙ pack-bit 16 (own s) fits);
}

module _ {k n : ℕ} {s₀ : List ℕ} {kids : ℕ → List ℕ} {first i : ℕ} {s : List ℕ} {w : ℕ} (h : Upto k n s₀ kids first i s w) where
  kids-now : (j : ℕ) → j < 16 → length (replaced k (within first i) kids s₀ j) ≡ words k
  kids-now = sized-replaced k (within first i) kids s₀ h.len (λ j l t. h.sized j l)

  -- the words keep their number
  pub kept : length s ≡ words (suc k)
  kept = ap length h.words_are ∙ length-node k (own s₀) (replaced k (within first i) kids s₀) kids-now

  pub own-kept : own s ≡ own s₀
  own-kept = ap own h.words_are ∙ own-node (own s₀) (replaced k (within first i) kids s₀)

  -- child q as it stands
  child-is : (q : ℕ) → q < 16 → child k s q ≡ replaced k (within first i) kids s₀ q
  child-is q l = ap (λ (x : List ℕ). child k x q) h.words_are ∙ child-node k (own s₀) (replaced k (within first i) kids s₀) kids-now q l

  -- after the last turn the word is stored
  pub finish : set s 0 w ≡ renew k (within first i) (within first i) kids s₀
  unfolding renew
  finish =
      let at = within first i in
      ap₂ (λ (x : List ℕ) (v : ℕ). set x 0 v) h.words_are h.word-is
      ∙ set-node (own s₀) (marked at kids (own s₀)) (replaced k at kids s₀)
      ∙ node-ext (marked-ext at at kids (replaced k at kids s₀) (own s₀) (λ j l. refl) (λ j l t. sym (replaced-in k at kids s₀ j t))) (λ j l. refl)

  -- without the word
  pub passed : Passed k n s₀ kids first i s
  passed = rw h.word-is at h

  -- the first word of a child that was passed
  pub own-passed : (p : ℕ) → first ≤ p → p < i → p < 16 → get_or s (1 + p * n) 0 ≡ own (kids p)
  own-passed p f l m = own-child k s p n h.size ∙ ap own (child-is p m ∙ replaced-in k (within first i) kids s₀ p (within-yes first i p f l))

  -- turns at once: the words from child i up to child m are replaced by those of the children that `kids` says
  pub turn-run : (m : ℕ) (ys : List ℕ) {x y : ℕ} → i ≤ m → m ≤ 16 → x ≡ 1 + i * n → y ≡ 1 + m * n → ys ≡ row (λ q. kids (i + q)) (m - i)
      → Passed k n s₀ kids first m (put_mid x (y - x) s ys)
  turn-run m ys {x} {y} l u ex ey e = record {
    size = h.size;
    len = h.len;
    sized = h.sized;
    after = omega (arith, h.after);
    words_are =
        run-node k s i m n h.size kept l u (replaced k (within first m) kids s₀)
        (λ q b o. child-is q b ∙ replaced-ext k (within first i) (within first m) kids kids s₀ q (within-run first i m q l o) (λ _. refl))
        ex ey (e ∙ row-ext _ _ (m - i) (λ q b. sym (replaced-in k (within first m) kids s₀ (i + q) (within-yes first m (i + q) (omega (arith, h.after)) (omega arith)))))
        ∙ node-ext own-kept (λ q b. refl);
    word-is = refl;
  }

  module _ (l : i < 16) where
    -- the next child is as it was
    pub child-now : child k s i ≡ child k s₀ i
    child-now = child-is i l ∙ replaced-out k (within first i) kids s₀ i (within-now first i)

    pub lent-now : lent n s i ≡ child k s₀ i
    lent-now = lent-child k s i n h.size ∙ child-now

    -- its first word
    pub own-now : get_or s (1 + i * n) 0 ≡ own (child k s₀ i)
    own-now = own-child k s i n h.size ∙ ap own child-now

    -- with its bit in the word
    word-more : (x v : ℕ) → x ≡ own (kids i) → v ≡ word_of (λ j. cond (eqb j i) (some x) (bit w j)) → v ≡ marked (within first (i + 1)) kids (own s₀)
    unfolding marked
    word-more x v ex e =
        let on : ℕ → Bool = λ j. some (own (kids j)) in
        let old : ℕ → Bool = λ j. cond (within first i j) (on j) (bit (own s₀) j) in
        e ∙ pack-ext 16 (λ j. cond (eqb j i) (some x) (bit w j)) (λ j. cond (within first (i + 1) j) (on j) (bit (own s₀) j)) (λ j m.
        ap₂ (λ (y : ℕ) (b : Bool). cond (eqb j i) (some y) b) ex (ap (λ (y : ℕ). bit y j) h.word-is ∙ bit-pack 16 old j m)
        ∙ upd-cond (within first i) i on (bit (own s₀)) j
        ∙ ap (λ (b : Bool). cond b (on j) (bit (own s₀) j)) (within-more first i j h.after))

    -- a turn in which the child's part comes back as `kids` says
    pub turn : (ys : List ℕ) (v : ℕ) → ys ≡ kids i → v ≡ word_of (λ j. cond (eqb j i) (some (get_or (back n s i ys) (1 + i * n) 0)) (bit w j))
        → Upto k n s₀ kids first (i + 1) (back n s i ys) v
    unfolding replaced upd
    turn ys v e ev = record {
      size = h.size;
      len = h.len;
      sized = h.sized;
      after = omega (arith, h.after);
      words_are = is-node ∙ node-ext own-kept (λ j m. kid j m);
      word-is = word-more _ v (own-back k s i n h.size ys kept l (ap length e ∙ h.sized i l) ∙ ap own e) ev;
    }
      where
        is-node : back n s i ys ≡ node (own s) (upd (child k s) i ys)
        is-node = back-node k s i n h.size ys kept l

        kid : (j : ℕ) → j < 16 → upd (child k s) i ys j ≡ replaced k (within first (i + 1)) kids s₀ j
        kid j m =
            ap₂ (λ (x y : List ℕ). cond (eqb j i) x y) e (child-is j m)
            ∙ upd-cond (within first i) i kids (child k s₀) j
            ∙ ap (λ (b : Bool). cond b (kids j) (child k s₀ j)) (within-more first i j h.after)

    -- a turn in which the child stays as it was
    pub turn-kept : (v : ℕ) → kids i ≡ child k s₀ i → v ≡ word_of (λ j. cond (eqb j i) (some (get_or s (1 + i * n) 0)) (bit w j))
        → Upto k n s₀ kids first (i + 1) s v
    turn-kept v e ev = record {
      size = h.size;
      len = h.len;
      sized = h.sized;
      after = omega (arith, h.after);
      words_are = h.words_are ∙ node-ext refl kid;
      word-is = word-more _ v (own-now ∙ ap own (sym e)) ev;
    }
      where
        kid : (j : ℕ) → j < 16 → replaced k (within first i) kids s₀ j ≡ replaced k (within first (i + 1)) kids s₀ j
        kid j m = elim (ℕ_discrete j i) [
          | yes q ↦ rw q
              (replaced-out k (within first i) kids s₀ i (within-now first i)
              ∙ sym (replaced-in k (within first (i + 1)) kids s₀ i (within-yes first (i + 1) i h.after (omega arith)) ∙ e))
          | no q ↦ replaced-ext k (within first i) (within first (i + 1)) kids kids s₀ j (within-iff first i j first (i + 1) j (omega arith) (omega arith)) (λ _. refl)
        ]
