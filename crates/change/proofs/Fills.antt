-- Words that are all the same: a row of them, and a change of a whole map, which makes every word of it all ones or all zeros.
-- Assumes nothing.
use mathlib.Core.Path.{◌≡◌, refl, sym, ap, ◌∙◌}
use mathlib.Core.Bool.{Bool, true, cond}
use mathlib.Core.List.{List, [], ◌∷◌}
use Prim.Native.Nat.{ℕ, zero, suc, ◌*◌, ◌<◌}
use native.Mathlib.Nat.{zero-mul, suc-mul}
use native.Mathlib.Numerals.{one-add}
use native.Mathlib.Omega.{arith}
use lib.ListN.{replicate, get_or-replicate, replicate-append-replicate}
use borrow.Author.Tests.{lt-ltb}
use Rattle.words.specs.declared.kind.Change.{Change}
use Rattle.words.specs.declared.kind.Change.TheVariants.{Insert, Remove}
use Rattle.words.specs.Bits.{bit, pack, word_of, within, some, frees, change_word}
use Rattle.words.specs.Sizes.{words, cap}
use Rattle.words.specs.Tree.{own, child, row, node}
use Rattle.change.specs.Renew.{replaced, marked, renew}
use Rattle.change.specs.Change.{low, high, change}
use Rattle.words.proofs.Bits.{pack-ext}
use Rattle.words.proofs.Levels.{cap-pos, words-pos}
use Rattle.words.proofs.Rows.{node-ext, part-within}
use Rattle.words.proofs.Within.{within-yes}
use Rattle.change.proofs.Spans.{whole-part}
use Rattle.change.proofs.Renewed.{replaced-in}

-- a row of n lists of w words v each
pub row-replicate : (w v n : ℕ) → row (λ _. replicate w v) n ≡ replicate (n * w) v
unfolding row
row-replicate w v zero = rw zero-mul
row-replicate w v (suc n) = rw (row-replicate w v n, replicate-append-replicate, suc-mul)

-- what a change makes of a whole word
abbrev pub whole : Change → ℕ
whole c = change_word c 0 0 16

whole-word : (c : Change) (w : ℕ) → change_word c w 0 16 ≡ whole c
whole-word c w =
    pack-ext 16 (λ i. cond (within 0 16 i) (frees c) (bit w i)) (λ i. cond (within 0 16 i) (frees c) (bit 0 i))
    (λ i l. rw (within-yes 0 16 i (omega arith) l))

-- it is not 0 where the change makes positions free
pub some-whole : (c : Change) → some (whole c) ≡ frees c
unfolding bit pack
some-whole Insert = refl
some-whole Remove = refl

whole-bits : (c : Change) → word_of (λ _. frees c) ≡ whole c
unfolding bit pack
whole-bits Insert = refl
whole-bits Remove = refl

pub own-whole : (c : Change) (k : ℕ) → own (replicate (words k) (whole c)) ≡ whole c
own-whole c k = get_or-replicate (words k) 0 (whole c) 0 (words-pos k)

-- a map in which every child is replaced by such words, and marked
whole-node : (c : Change) (k : ℕ) (at : ℕ → Bool) (new : ℕ → List ℕ) (s : List ℕ) → ((i : ℕ) → i < 16 → at i ≡ true)
    → ((i : ℕ) → i < 16 → new i ≡ replicate (words k) (whole c)) → renew k at at new s ≡ replicate (words (suc k)) (whole c)
unfolding renew node marked words
whole-node c k at new s every is =
    node-ext (pack-ext 16 _ (λ _. frees c) bits ∙ whole-bits c) kid
    ∙ ap (λ (x : List ℕ). whole c ∷ x) (row-replicate (words k) (whole c) 16)
    ∙ ap (λ (n : ℕ). replicate n (whole c)) (sym (one-add (16 * words k)))
  where
    kid : (i : ℕ) → i < 16 → replaced k at new s i ≡ replicate (words k) (whole c)
    kid i l = replaced-in k at new s i (every i l) ∙ is i l

    bits : (i : ℕ) → i < 16 → cond (at i) (some (own (replaced k at new s i))) (bit (own s) i) ≡ frees c
    bits i l = rw (every i l, kid i l, own-whole c k) (some-whole c)

-- of all the positions each child has all of its own
every-part : (n i : ℕ) → i < 16 → (low n 0 i ≡ 0) × (high n (16 * n) i ≡ n)
every-part n i l = whole-part n 0 (16 * n) i (omega arith) (part-within i n l)

-- a change of a whole map makes every word such a one
pub change-whole : (c : Change) (k : ℕ) (s : List ℕ) → change c k s 0 (cap k) ≡ replicate (words k) (whole c)
unfolding change cap words
change-whole c zero s = ap (λ (w : ℕ). w ∷ []) (whole-word c (own s))
change-whole c (suc k) s =
    whole-node c k _ _ s
    (λ i l. let e = every-part (cap k) i l in rw (e.0, e.1) (lt-ltb 0 (cap k) (cap-pos k)))
    (λ i l. let e = every-part (cap k) i l in rw (e.0, e.1) (change-whole c k (child k s i)))
