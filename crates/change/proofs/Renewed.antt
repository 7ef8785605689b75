-- The laws of a renewed map: its own word, its bits and its children, and when two renewals are the same. Assumes nothing.
use mathlib.Core.Path.{◌≡◌, refl, sym, ap, ◌∙◌}
use mathlib.Core.Bool.{Bool, true, false, cond}
use mathlib.Core.Logic.{⊎_elim}
use mathlib.Core.List.{List}
use Prim.Native.Nat.{ℕ, suc, ◌^◌, ◌<◌}
use lib.ListN.{length}
use Rattle.words.specs.Bits.{bit, some}
use Rattle.words.specs.Sizes.{words}
use Rattle.words.specs.Tree.{own, child}
use Rattle.change.specs.Renew.{replaced, marked, renew}
use Rattle.std.proofs.lemmas.Bool.{cases_Bool}
use Rattle.words.proofs.Bits.{bit-pack, pack-ext, pack-lt}
use Rattle.words.proofs.Rows.{node-ext, own-node, length-node, child-node, length-child}

-- the bits of a marked word
bit-marked : (mark : ℕ → Bool) (f : ℕ → List ℕ) (w i : ℕ) → i < 16 → bit (marked mark f w) i ≡ cond (mark i) (some (own (f i))) (bit w i)
unfolding marked
bit-marked mark f w i l = bit-pack 16 (λ j. cond (mark j) (some (own (f j))) (bit w j)) i l

pub marked-lt : (mark : ℕ → Bool) (f : ℕ → List ℕ) (w : ℕ) → marked mark f w < 2 ^ 16
unfolding marked
marked-lt mark f w = pack-lt 16 (λ j. cond (mark j) (some (own (f j))) (bit w j))

-- a choice of two whose first is looked at only where the test holds
pub cond-ext : {A : Type 0} {b b' : Bool} {x x' y y' : A} → b ≡ b' → (b ≡ true → x ≡ x') → y ≡ y' → cond b x y ≡ cond b' x' y'
cond-ext {b = true} e h g = rw (← e) (h refl)
cond-ext {b = false} e h g = rw (← e) g

-- a marked word goes by the marked children alone
pub marked-ext : (mark mark' : ℕ → Bool) (f g : ℕ → List ℕ) (w : ℕ) → ((i : ℕ) → i < 16 → mark i ≡ mark' i)
    → ((i : ℕ) → i < 16 → mark i ≡ true → f i ≡ g i) → marked mark f w ≡ marked mark' g w
unfolding marked
marked-ext mark mark' f g w h e =
    pack-ext 16 (λ j. cond (mark j) (some (own (f j))) (bit w j)) (λ j. cond (mark' j) (some (own (g j))) (bit w j))
    (λ i l. cond-ext (h i l) (λ t. ap (λ (x : List ℕ). some (own x)) (e i l t)) refl)

pub replaced-ext : (k : ℕ) (at at' : ℕ → Bool) (new new' : ℕ → List ℕ) (s : List ℕ) (i : ℕ) → at i ≡ at' i → (at i ≡ true → new i ≡ new' i)
    → replaced k at new s i ≡ replaced k at' new' s i
unfolding replaced
replaced-ext k at at' new new' s i h e = cond-ext h e refl

pub replaced-in : (k : ℕ) (at : ℕ → Bool) (new : ℕ → List ℕ) (s : List ℕ) (i : ℕ) → at i ≡ true → replaced k at new s i ≡ new i
unfolding replaced
replaced-in k at new s i h = rw h

pub replaced-out : (k : ℕ) (at : ℕ → Bool) (new : ℕ → List ℕ) (s : List ℕ) (i : ℕ) → at i ≡ false → replaced k at new s i ≡ child k s i
unfolding replaced
replaced-out k at new s i h = rw h

-- two renewals that replace and mark the same children in the same way
pub renew-ext : (k : ℕ) (at at' mark mark' : ℕ → Bool) (new new' : ℕ → List ℕ) (s : List ℕ)
    → ((i : ℕ) → i < 16 → at i ≡ at' i) → ((i : ℕ) → i < 16 → mark i ≡ mark' i) → ((i : ℕ) → i < 16 → at i ≡ true → new i ≡ new' i)
    → renew k at mark new s ≡ renew k at' mark' new' s
unfolding renew
renew-ext k at at' mark mark' new new' s ha hm hn =
    let kids : (i : ℕ) → i < 16 → replaced k at new s i ≡ replaced k at' new' s i = λ i l. replaced-ext k at at' new new' s i (ha i l) (hn i l) in
    node-ext (marked-ext mark mark' (replaced k at new s) (replaced k at' new' s) (own s) hm (λ i l t. kids i l)) kids

-- a renewal whose replaced children are all marked, as one of the marked children
pub renew-marked : (k : ℕ) (at mark : ℕ → Bool) (new : ℕ → List ℕ) (s : List ℕ) → ((i : ℕ) → i < 16 → mark i ≡ false → at i ≡ false)
    → renew k mark mark (replaced k at new s) s ≡ renew k at mark new s
unfolding renew
renew-marked k at mark new s h = node-ext (marked-ext mark mark _ _ (own s) (λ i l. refl) (λ i l t. kid i l)) kid
  where
    kid : (i : ℕ) → i < 16 → replaced k mark (replaced k at new s) s i ≡ replaced k at new s i
    kid i l = ⊎_elim
        (λ (t : mark i ≡ true). replaced-in k mark (replaced k at new s) s i t)
        (λ (t : mark i ≡ false). replaced-out k mark (replaced k at new s) s i t ∙ sym (replaced-out k at new s i (h i l t)))
        (cases_Bool (mark i))

-- the bits of a renewed map
pub bit-renew : (k : ℕ) (at mark : ℕ → Bool) (new : ℕ → List ℕ) (s : List ℕ) (i : ℕ) → i < 16
    → bit (own (renew k at mark new s)) i ≡ cond (mark i) (some (own (replaced k at new s i))) (bit (own s) i)
unfolding renew
bit-renew k at mark new s i l = ap (λ (w : ℕ). bit w i) (own-node _ (replaced k at new s)) ∙ bit-marked mark (replaced k at new s) (own s) i l

module _ (k : ℕ) (at : ℕ → Bool) (new : ℕ → List ℕ) (s : List ℕ) (len : length s ≡ words (suc k))
    (sized : (i : ℕ) → i < 16 → at i ≡ true → length (new i) ≡ words k) where
  pub sized-replaced : (i : ℕ) → i < 16 → length (replaced k at new s i) ≡ words k
  unfolding replaced
  sized-replaced i l = go (at i) (sized i l)
    where
      go : (b : Bool) → (b ≡ true → length (new i) ≡ words k) → length (cond b (new i) (child k s i)) ≡ words k
      go true h = h refl
      go false h = length-child k s len i l

  -- its children, and its length
  module _ (mark : ℕ → Bool) where
    pub child-renew : (i : ℕ) → i < 16 → child k (renew k at mark new s) i ≡ replaced k at new s i
    unfolding renew
    child-renew i l = child-node k _ (replaced k at new s) sized-replaced i l

    pub length-renew : length (renew k at mark new s) ≡ words (suc k)
    unfolding renew
    length-renew = length-node k _ (replaced k at new s) sized-replaced
