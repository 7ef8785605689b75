-- The laws of a single take or give-back: how it goes by the child that has the position. Assumes nothing.
use mathlib.Core.Path.{◌≡◌, refl, sym, ap, ◌∙◌}
use mathlib.Core.Bool.{Bool, true, false, cond, ◌&&◌, and-true, and-false}
use mathlib.Core.List.{List}
use Prim.Native.Nat.{ℕ, zero, suc, ◌/◌, ◌%◌, ◌^◌, ◌<◌}
use native.Mathlib.Decide.{ℕ_discrete}
use lib.ListN.{length, set}
use lib.Dec.{eqb}
use borrow.Author.Tests.{eq-eqb, ne_eqb}
use Rattle.words.specs.declared.kind.Change.{Change}
use Rattle.words.specs.Bits.{bit, word_of, some, frees}
use Rattle.words.specs.Sizes.{words, cap}
use Rattle.words.specs.Tree.{own, child, node}
use Rattle.change.specs.Renew.{replaced, marked, renew}
use Rattle.change.specs.Change.{change}
use Rattle.change.specs.Single.{turns, single}
use Rattle.words.proofs.Bits.{pack-ext, pack-bit}
use Rattle.words.proofs.Rows.{upd, node-ext, own-node, set-node, length-child}
use Rattle.words.proofs.Parts.{back, back-node}
use Rattle.change.proofs.Renewed.{length-renew}
use Rattle.change.proofs.One.{leaf-one}

-- it keeps the number of words
pub length-single : (c : Change) (k : ℕ) (s : List ℕ) (p : ℕ) → length s ≡ words k → length (single c k s p) ≡ words k
unfolding single words
length-single c zero s p len = refl
length-single c (suc k) s p len = length-renew k _ _ s len (λ i l t. length-single c k (child k s i) (p % cap k) (length-child k s len i l)) _

-- a leaf word with the position's bit stored
pub single-leaf : (c : Change) (s : List ℕ) (p v : ℕ) → length s ≡ 1 → v ≡ word_of (λ m. cond (eqb m p) (frees c) (bit (own s) m)) → set s 0 v ≡ single c 0 s p
unfolding single change
single-leaf c s p v len e = leaf-one c s p v len e

-- ---- a map s whose child i has the position p

module _ (c : Change) (k : ℕ) (s : List ℕ) (p : ℕ) where
  abbrev at : ℕ
  at = p / cap k

  -- the child before and after
  abbrev pub old : List ℕ
  old = child k s at

  abbrev pub new : List ℕ
  new = single c k old (p % cap k)

  -- the own word with the child's bit recomputed
  abbrev pub renewed : ℕ
  renewed = word_of (λ m. cond (eqb m at) (some (own new)) (bit (own s) m))

  -- the children afterwards, and the bits of the own word, as the definition has them
  abbrev kids : ℕ → List ℕ
  kids m = cond (eqb m at) (single c k (child k s m) (p % cap k)) (child k s m)

  abbrev bits : ℕ → Bool
  bits m = cond (eqb m at && turns (child k s m) (single c k (child k s m) (p % cap k))) (some (own (kids m))) (bit (own s) m)

  -- the map, by whether the child turned
  pub single-node : own s < 2 ^ 16 → node (cond (turns old new) renewed (own s)) (upd (child k s) at new) ≡ single c (suc k) s p
  unfolding single renew marked replaced upd
  single-node fits = node-ext (word (turns old new) refl) kid
    where
      kid : (m : ℕ) → m < 16 → cond (eqb m at) new (child k s m) ≡ kids m
      kid m _ = elim (ℕ_discrete m at) [
        | yes e ↦ rw e
        | no ne ↦ rw (ne_eqb m at ne)
      ]

      bits-are : (m : ℕ) → m < 16 → cond (eqb m at && turns old new) (some (own new)) (bit (own s) m) ≡ bits m
      bits-are m _ = elim (ℕ_discrete m at) [
        | yes e ↦ rw (e, eq-eqb at at refl)
        | no ne ↦ rw (ne_eqb m at ne)
      ]

      word : (b : Bool) → turns old new ≡ b → cond b renewed (own s) ≡ word_of bits
      word true e = pack-ext 16 (λ m. cond (eqb m at) (some (own new)) (bit (own s) m)) bits (λ m l. rw (e, and-true) at (bits-are m l))
      word false e = sym (pack-bit 16 (own s) fits) ∙ pack-ext 16 (bit (own s)) bits (λ m l. rw (e, and-false) at (bits-are m l))

  -- its own word
  pub own-single : own s < 2 ^ 16 → own (single c (suc k) s p) ≡ cond (turns old new) renewed (own s)
  own-single fits = ap own (sym (single-node fits)) ∙ own-node _ _

  -- the child's part has come back: with the child's bit stored, where the child turned
  module _ (len : length s ≡ words (suc k)) (l : at < 16) (fits : own s < 2 ^ 16) where
    pub single-turned : (v : ℕ) → v ≡ renewed → turns old new ≡ true → set (back (words k) s at new) 0 v ≡ single c (suc k) s p
    single-turned v e t =
        ap (λ (x : List ℕ). set x 0 v) (back-node k s at (words k) refl new len l)
        ∙ set-node (own s) v (upd (child k s) at new)
        ∙ node-ext (e ∙ sym (rw t)) (λ m _. refl)
        ∙ single-node fits

    -- and as it is, where it did not
    pub single-stayed : turns old new ≡ false → back (words k) s at new ≡ single c (suc k) s p
    single-stayed t = back-node k s at (words k) refl new len l ∙ node-ext (sym (rw t)) (λ m _. refl) ∙ single-node fits
