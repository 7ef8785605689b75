-- The laws of a change: how it goes by a map's children, and what a change of one position is. Assumes nothing.
use mathlib.Core.Path.{◌≡◌, refl, sym, ap, ap₂, ◌∙◌}
use mathlib.Core.Bool.{true}
use mathlib.Core.List.{List, [], ◌∷◌}
use Prim.Native.Nat.{ℕ, zero, suc, ◌+◌, ◌-◌, ◌*◌, ◌/◌, ◌%◌, ◌<◌}
use native.Mathlib.Nat.{mod-lt, div-add-mod'}
use native.Mathlib.Omega.{arith}
use lib.ListN.{length, set}
use Rattle.words.specs.declared.kind.Change.{Change}
use Rattle.words.specs.Bits.{within, change_word}
use Rattle.words.specs.Sizes.{words, cap}
use Rattle.words.specs.Tree.{own, child}
use Rattle.change.specs.Renew.{renew}
use Rattle.change.specs.Change.{low, high, visits, change}
use Rattle.words.proofs.Levels.{cap-pos}
use Rattle.words.proofs.Rows.{length-child}
use Rattle.change.proofs.Spans.{visited}
use Rattle.words.proofs.Within.{within-true}
use Rattle.change.proofs.Renewed.{renew-ext, length-renew}

-- a change keeps the number of words
pub length-change : (c : Change) (k : ℕ) (s : List ℕ) (a b : ℕ) → length s ≡ words k → length (change c k s a b) ≡ words k
unfolding change words
length-change c zero s a b len = refl
length-change c (suc k) s a b len =
    length-renew k _ _ s len (λ i l t. length-change c k (child k s i) (low (cap k) a i) (high (cap k) b i) (length-child k s len i l)) (visits (cap k) a b)

-- a leaf word
pub change-leaf : (c : Change) (s : List ℕ) (a b w : ℕ) → length s ≡ 1 → w ≡ change_word c (own s) a b → set s 0 w ≡ change c 0 s a b
unfolding change
change-leaf c [] a b w len e = absurd (omega arith)
change-leaf c (x ∷ []) a b w len e = ap (λ (y : ℕ). y ∷ []) e
change-leaf c (x ∷ y ∷ s) a b w len e = absurd (omega arith)

-- the same at a level that is known to be 0
pub change-word : {k : ℕ} (c : Change) (s : List ℕ) (a b w : ℕ) → k ≡ 0 → length s ≡ words k → w ≡ change_word c (own s) a b
    → set s 0 w ≡ change c k s a b
unfolding words
change-word c s a b w z len e = rw z (change-leaf c s a b w (rw z at len) e)

-- the children of a changed map
unfoldable pub changed_kids : Change → ℕ → List ℕ → ℕ → ℕ → ℕ → List ℕ
changed_kids c k s a b i = change c k (child k s i) (low (cap k) a i) (high (cap k) b i)

pub sized-kids : (c : Change) (k : ℕ) (s : List ℕ) (a b : ℕ) → length s ≡ words (suc k) → (i : ℕ) → i < 16 → length (changed_kids c k s a b i) ≡ words k
unfolding changed_kids
sized-kids c k s a b len i l = length-change c k (child k s i) _ _ (length-child k s len i l)

-- one of them, as it is made
pub changed-kid : (c : Change) (k : ℕ) (s : List ℕ) (a b i : ℕ) {ys x : List ℕ} {l r : ℕ} → ys ≡ change c k x l r → x ≡ child k s i
    → l ≡ low (cap k) a i → r ≡ high (cap k) b i → ys ≡ changed_kids c k s a b i
unfolding changed_kids
changed-kid c k s a b i e ex el er = rw (e, ex, el, er)

-- they are what a change replaces the visited children by
pub change-kids : {n : ℕ} (c : Change) (k : ℕ) (s : List ℕ) (a b : ℕ) → suc k ≡ n
    → renew k (visits (cap k) a b) (visits (cap k) a b) (changed_kids c k s a b) s ≡ change c n s a b
unfolding change changed_kids
change-kids c k s a b up = rw (← up)

-- a change goes over the children that its first and its last position are in, and those between them
change-node : (c : Change) (k : ℕ) (s : List ℕ) (a b : ℕ) → a < b
    → renew k (within (a / cap k) ((b - 1) / cap k + 1)) (within (a / cap k) ((b - 1) / cap k + 1)) (changed_kids c k s a b) s ≡ change c (suc k) s a b
unfolding change changed_kids
change-node c k s a b l =
    let v : (i : ℕ) → i < 16 → within (a / cap k) ((b - 1) / cap k + 1) i ≡ visits (cap k) a b i = λ i m. visited (cap k) (cap-pos k) a b l i in
    renew-ext k _ _ _ _ (changed_kids c k s a b) (changed_kids c k s a b) s v v (λ i m t. refl)

-- a change of one position goes into its child alone
pub change-one : (c : Change) (k : ℕ) (s : List ℕ) (p i r : ℕ) → i ≡ p / cap k → r ≡ p % cap k
    → renew k (within i (i + 1)) (within i (i + 1)) (λ _. change c k (child k s i) r (r + 1)) s ≡ change c (suc k) s p (p + 1)
unfolding low high changed_kids
change-one c k s p i r ei er =
    renew-ext k _ _ _ _ (λ _. change c k (child k s i) r (r + 1)) (changed_kids c k s p (p + 1)) s at at kid
    ∙ change-node c k s p (p + 1) (omega arith)
  where
    last : p + 1 - 1 ≡ p
    last = omega arith

    at : (j : ℕ) → j < 16 → within i (i + 1) j ≡ within (p / cap k) ((p + 1 - 1) / cap k + 1) j
    at j m = ap₂ (λ (x y : ℕ). within x (y + 1) j) ei (ei ∙ ap (λ (x : ℕ). x / cap k) (sym last))

    kid : (j : ℕ) → j < 16 → within i (i + 1) j ≡ true → change c k (child k s i) r (r + 1) ≡ changed_kids c k s p (p + 1) j
    kid j m t =
        let in_one = within-true i (i + 1) j t in
        let here : i ≡ j = omega arith in
        let whole : i * cap k + r ≡ p = ap₂ (λ (x y : ℕ). x * cap k + y) ei er ∙ div-add-mod' p (cap k) in
        let small : r < cap k = rw er (mod-lt p (cap-pos k)) in
        let lo : r ≡ low (cap k) p i = omega arith in
        let hi : r + 1 ≡ high (cap k) (p + 1) i = omega arith in
        ap₂ (λ (x y : ℕ). change c k (child k s i) x y) lo hi ∙ ap (changed_kids c k s p (p + 1)) here
