-- A change of one position: a bit of a leaf word is stored, or a child's part has come back and then the child's bit is stored.
-- Assumes nothing.
use mathlib.Core.Path.{◌≡◌, refl, sym, ap, ◌∙◌}
use mathlib.Core.Bool.{Bool, cond}
use mathlib.Core.List.{List}
use Prim.Native.Nat.{ℕ, suc, ◌+◌, ◌/◌, ◌%◌, ◌<◌}
use lib.ListN.{length, set}
use lib.Dec.{eqb}
use Rattle.words.specs.declared.kind.Change.{Change}
use Rattle.words.specs.Bits.{bit, word_of, within, some, frees, change_word}
use Rattle.words.specs.Sizes.{words, cap}
use Rattle.words.specs.Tree.{own, child}
use Rattle.change.specs.Renew.{replaced, marked, renew}
use Rattle.change.specs.Change.{change}
use Rattle.words.proofs.Bits.{pack-ext}
use Rattle.words.proofs.Rows.{upd, set-node, node-ext}
use Rattle.words.proofs.Tests.{cond-ext}
use Rattle.change.proofs.Renewed.{replaced-in}
use Rattle.words.proofs.Within.{within-one}
use Rattle.words.proofs.Parts.{back, back-node}
use Rattle.change.proofs.Changes.{change-leaf, change-one}

-- one bit of a word
word-one : (c : Change) (w p : ℕ) → word_of (λ m. cond (eqb m p) (frees c) (bit w m)) ≡ change_word c w p (p + 1)
word-one c w p =
    pack-ext 16 (λ m. cond (eqb m p) (frees c) (bit w m)) (λ m. cond (within p (p + 1) m) (frees c) (bit w m))
    (λ m l. ap (λ (b : Bool). cond b (frees c) (bit w m)) (sym (within-one p m)))

-- a leaf word with that bit stored
pub leaf-one : (c : Change) (s : List ℕ) (p v : ℕ) → length s ≡ 1 → v ≡ word_of (λ m. cond (eqb m p) (frees c) (bit (own s) m))
    → set s 0 v ≡ change c 0 s p (p + 1)
leaf-one c s p v len ev = change-leaf c s p (p + 1) v len (ev ∙ word-one c (own s) p)

-- a map whose child i has come back with position r changed, with that child's bit stored
pub node-one : (c : Change) (j : ℕ) (s : List ℕ) (p i r v : ℕ) → length s ≡ words (suc j) → i < 16 → i ≡ p / cap j → r ≡ p % cap j
    → v ≡ word_of (λ m. cond (eqb m i) (some (own (change c j (child j s i) r (r + 1)))) (bit (own s) m))
    → set (back (words j) s i (change c j (child j s i) r (r + 1))) 0 v ≡ change c (suc j) s p (p + 1)
unfolding renew marked replaced upd
node-one c j s p i r v len l ei er ev =
    let kid = change c j (child j s i) r (r + 1) in
    let at = within i (i + 1) in
    ap (λ (x : List ℕ). set x 0 v) (back-node j s i (words j) refl kid len l)
    ∙ set-node (own s) v (upd (child j s) i kid)
    ∙ node-ext
    (ev ∙ pack-ext 16 (λ m. cond (eqb m i) (some (own kid)) (bit (own s) m)) (λ m. cond (at m) (some (own (replaced j at (λ _. kid) s m))) (bit (own s) m))
    (λ m _. cond-ext (sym (within-one i m)) (λ t. ap (λ (x : List ℕ). some (own x)) (sym (replaced-in j at (λ _. kid) s m (within-one i m ∙ t)))) refl))
    (λ m _. ap (λ (b : Bool). cond b kid (child j s m)) (sym (within-one i m)))
    ∙ change-one c j s p i r ei er
