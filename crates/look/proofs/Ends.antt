-- Where the free positions end: in one leaf word, by the child that it is in, and from word to word. Assumes nothing.
use mathlib.Core.Path.{◌≡◌, refl, sym, ap, ◌∙◌}
use mathlib.Core.Bool.{Bool, true, false, not}
use mathlib.Core.List.{List}
use Prim.Native.Nat.{ℕ, suc, ◌+◌, ◌-◌, ◌*◌, ◌/◌, ◌%◌, ◌^◌, min, ◌≤◌, ◌<◌}
use native.Mathlib.Nat.{div-add-mod', mod-lt}
use native.Mathlib.Decide.{dec_le}
use native.Mathlib.Omega.{arith}
use lib.Bits.{bit_or, or_add_and, and_mask}
use Rattle.words.specs.declared.kind.Change.TheVariants.{Remove}
use Rattle.words.specs.Search.{first_from}
use Rattle.words.specs.Bits.{bit, change_word, lowest_bit}
use Rattle.words.specs.Sizes.{cap}
use Rattle.words.specs.Tree.{own, child, free?}
use Rattle.words.proofs.Search.{first-is, first-ext, first-min, first-rest, first-shift, first-at, first-end}
use Rattle.words.proofs.Bits.{not-bit}
use Rattle.words.proofs.Words.{lowest-from}
use Rattle.words.proofs.Levels.{cap-pos, cap-small, leaf-cap, start-aligned}
use Rattle.look.proofs.Nexts.{free-in}

-- position p is not free
abbrev pub held : ℕ → List ℕ → ℕ → Bool
held k s p = not (free? k s p)

-- the first position from key on in key's own leaf word that is not free; the word's end where there is none
abbrev pub end_in : ℕ → List ℕ → ℕ → ℕ
end_in k s key = first_from (held k s) key (16 - key % 16)

-- it is small
pub end-small : (k : ℕ) (s : List ℕ) (key : ℕ) → k ≤ 6 → key < cap k → end_in k s key ≤ 268435472
end-small k s key le l = omega (arith, (first-is (held k s) key (16 - key % 16) _ refl).upto, cap-small k le)

-- ---- a leaf word

pub end-leaf : {k : ℕ} (s : List ℕ) (key : ℕ) → k ≡ 0 → own s < 2 ^ 16 → key < cap k
    → lowest_bit (change_word Remove ((2 ^ 16 - 1) - own s) 0 key) ≡ end_in k s key
unfolding free?
end-leaf s key e fits l =
    let small : key < 16 = omega (arith, leaf-cap e) in
    let whole : 16 - key % 16 ≡ 16 - key = omega arith in
    rw (e, whole)
    (lowest-from ((2 ^ 16 - 1) - own s) key (omega arith)
    ∙ first-ext (bit ((2 ^ 16 - 1) - own s)) (held 0 s) key (16 - key) (λ q n u. not-bit 16 (own s) q fits (omega arith)))

-- ---- a map with children: the key is in child i

module _ {k j i : ℕ} (s : List ℕ) (key : ℕ) (up : suc j ≡ k) (at : i ≡ key / cap j) where
  -- whose summary bit is 0
  pub end-off : bit (own s) i ≡ false → end_in k s key ≡ key
  unfolding free?
  end-off off =
      let n : 16 - key % 16 ≡ key + (16 - key % 16) - key = omega arith in
      let here : held (suc j) s key ≡ true = rw (← at, off) in
      rw (← up, n) (first-at (held (suc j) s) key (key + (16 - key % 16)) (omega arith) here)

  -- or is 1: the word is one of the child's, r positions into which the key is
  pub end-in : {r q : ℕ} {x : List ℕ} → bit (own s) i ≡ true → r ≡ key % cap j → x ≡ child j s i → q ≡ end_in j x r → end_in k s key ≡ i * cap j + q
  end-in {r} on er ex eq =
      let whole : key ≡ i * cap j + r = rw (at, er) (sym (div-add-mod' key (cap j))) in
      let below : r < cap j = rw er (mod-lt key (cap-pos j)) in
      let same : key % 16 ≡ r % 16 = omega (arith, start-aligned j i) in
      let stays : r + (16 - r % 16) ≤ cap j = omega (arith, start-aligned j 1) in
      rw (← up, same, whole, eq, ex)
      (first-shift (held (suc j) s) (i * cap j) r (16 - r % 16)
      ∙ ap (λ (n : ℕ). i * cap j + n)
      (first-ext (λ q. held (suc j) s (i * cap j + q)) (held j (child j s i)) r (16 - r % 16) (λ q l u. rw (free-in j s i q (omega arith), on))))

-- ---- from word to word

-- `(x | 15) + 1` is the end of x's leaf word
pub word-end : (x : ℕ) → bit_or x 15 + 1 ≡ x + (16 - x % 16)
word-end x = omega (arith, or_add_and x 15, and_mask x 4)

-- the search from a up to b goes on at x, which may stand past b
abbrev pub Reached : (ℕ → Bool) → ℕ → ℕ → ℕ → Type 0
Reached f a b x = first_from f a (b - a) ≡ min b (first_from f x (b - x))

module _ (f : ℕ → Bool) (a b : ℕ) where
  -- at the start
  pub reached-start : a ≤ b → Reached f a b a
  reached-start l = first-min f a b b l (omega arith)

  -- past the end there is none
  pub reached-end : (x : ℕ) → Reached f a b x → b ≤ x → first_from f a (b - a) ≡ b
  reached-end x h l = omega (arith, first-end f x b l)

  -- one word further, up to its end e: the first in it is r
  module _ (x : ℕ) {e r : ℕ} (h : Reached f a b x) (m : x < b) (ee : e ≡ x + (16 - x % 16)) (er : r ≡ first_from f x (16 - x % 16)) where
    first-r : r ≡ first_from f x (e - x)
    first-r = let n : 16 - x % 16 ≡ e - x = omega arith in er ∙ ap (first_from f x) n

    -- it is found there
    pub reached-found : r < e → first_from f a (b - a) ≡ min b r
    reached-found l = elim (dec_le b e) [
      | yes u ↦ omega (arith, first-r, first-min f x b e (omega arith) u)
      | no u ↦ omega (arith, first-r, first-min f x e b (omega arith) (omega arith))
    ]

    -- or not, and the search goes on at e
    pub reached-next : e ≤ r → Reached f a b e
    reached-next l = elim (dec_le b e) [
      | yes u ↦ omega (arith, first-r, first-min f x b e (omega arith) u, first-end f e b u)
      | no u ↦ h ∙ ap (min b) (first-rest f x e b (omega arith) (omega arith) (rw (← first-r) l))
    ]
