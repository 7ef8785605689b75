-- A set of positions has one true map: two true maps of one level with the same leaf bits are the same words. Assumes nothing.
use mathlib.Core.Path.{◌≡◌, sym, ap, ◌∙◌}
use mathlib.Core.Bool.{true}
use mathlib.Core.List.{List}
use Prim.Native.Nat.{ℕ, zero, suc, ◌+◌, ◌*◌, ◌<◌}
use native.Mathlib.Omega.{arith}
use lib.ListN.{length}
use lib.Seq.{ext_get_or}
use Rattle.words.specs.Sizes.{words, cap}
use Rattle.words.specs.Tree.{Fits, own, child, leaf?, free?, true?}
use Rattle.words.specs.Bits.{some}
use Rattle.words.proofs.Bits.{same-bits}
use Rattle.words.proofs.Rows.{length-child, ext-node}
use Rattle.words.proofs.Truth.{fits-child, true-is, free-leaf}
use Rattle.words.proofs.Path.{child-position, leaf-in}

-- by their leaf bits
pub one-map : (k : ℕ) (s t : List ℕ) → length s ≡ words k → length t ≡ words k → Fits s → Fits t → true? k s ≡ true → true? k t ≡ true
    → ((p : ℕ) → p < cap k → leaf? k s p ≡ leaf? k t p) → s ≡ t
unfolding words cap leaf?
one-map zero s t ls lt fs ft hs ht e = ext_get_or 0 s t (ls ∙ sym lt) (λ i l.
    let first : i ≡ 0 = omega arith in
    rw first (same-bits 16 (own s) (own t) (fs 0) (ft 0) e))
one-map (suc k) s t ls lt fs ft hs ht e =
    let kids : (i : ℕ) → i < 16 → child k s i ≡ child k t i = λ i l.
    one-map k (child k s i) (child k t i) (length-child k s ls i l) (length-child k t lt i l) (fits-child k s i fs) (fits-child k t i ft)
    (true-is k s hs i l).1 (true-is k t ht i l).1
    (λ q m. sym (leaf-in k s i q m) ∙ e (i * cap k + q) (child-position k i q l m) ∙ leaf-in k t i q m) in
    ext-node k s t ls lt
    (same-bits 16 (own s) (own t) (fs 0) (ft 0)
    (λ i l. (true-is k s hs i l).0 ∙ ap (λ (x : List ℕ). some (own x)) (kids i l) ∙ sym (true-is k t ht i l).0))
    kids

-- by F
pub one-free : (k : ℕ) (s t : List ℕ) → length s ≡ words k → length t ≡ words k → Fits s → Fits t → true? k s ≡ true → true? k t ≡ true
    → ((p : ℕ) → p < cap k → free? k s p ≡ free? k t p) → s ≡ t
one-free k s t ls lt fs ft hs ht e =
    one-map k s t ls lt fs ft hs ht (λ p l. sym (free-leaf k s p hs l) ∙ e p l ∙ free-leaf k t p ht l)
