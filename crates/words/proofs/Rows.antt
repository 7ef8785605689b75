-- The laws of a map's layout: a row of lists of one length, and a map as its own word and its children. Assumes nothing.
use mathlib.Core.Path.{◌≡◌, refl, sym, ap, ap₂, ◌∙◌}
use mathlib.Core.Bool.{Bool, true, cond}
use mathlib.Core.List.{List, [], ◌∷◌, ◌++◌, append_assoc, append-nil}
use Prim.Native.Nat.{ℕ, zero, suc, ◌+◌, ◌-◌, ◌*◌, ◌<◌, ◌≤◌}
use native.Mathlib.Nat.{add_assoc, add-zero, add-suc, zero-mul, suc-mul, mul-le-mul_right}
use native.Mathlib.Numerals.{one-add, add-one}
use native.Mathlib.Decide.{dec_lt, ℕ_discrete}
use native.Mathlib.Omega.{arith}
use lib.Arith.{digits_lt}
use lib.ListN.{length, take, drop, set, get_or, length-append, length-take, length-drop, get_or-append}
use lib.Seq.{take_at, drop_at, take-add, take_all, get_or-take, get_or-drop, get_or-append-add}
use lib.Dec.{eqb}
use borrow.Author.Tests.{eq-eqb, ne_eqb}
use Rattle.words.specs.Sizes.{words}
use Rattle.words.specs.Tree.{own, child, row, node}

-- f with v at i
unfoldable pub upd : {A : Type 0} → (ℕ → A) → ℕ → A → ℕ → A
upd f i v j = cond (eqb j i) v (f j)

pub upd-same : {A : Type 0} (f : ℕ → A) (i : ℕ) (v : A) → upd f i v i ≡ v
unfolding upd
upd-same f i v = rw (eq-eqb i i refl)

pub upd-other : {A : Type 0} (f : ℕ → A) (i : ℕ) (v : A) (j : ℕ) → (j ≡ i → ⊥) → upd f i v j ≡ f j
unfolding upd
upd-other f i v j h = rw (ne_eqb j i h)

-- what stood there before
pub upd-kept : {A : Type 0} (f : ℕ → A) (i j : ℕ) → upd f i (f i) j ≡ f j
upd-kept f i j = elim (ℕ_discrete j i) [
  | yes e ↦ rw e (upd-same f i (f i))
  | no ne ↦ upd-other f i (f i) j ne
]

-- a list more of one length
pub sized-upd : (f : ℕ → List ℕ) (i : ℕ) (ys : List ℕ) {w n : ℕ} → length ys ≡ w → ((j : ℕ) → j < n → length (f j) ≡ w)
    → (j : ℕ) → j < n → length (upd f i ys j) ≡ w
sized-upd f i ys e h j l = elim (ℕ_discrete j i) [
  | yes q ↦ rw (q, upd-same f i ys) e
  | no q ↦ rw (upd-other f i ys j q) (h j l)
]

-- one place more of those at which g stands for h
pub upd-cond : {A : Type 0} (at : ℕ → Bool) (i : ℕ) (g h : ℕ → A) (j : ℕ)
    → cond (eqb j i) (g i) (cond (at j) (g j) (h j)) ≡ cond (upd at i true j) (g j) (h j)
unfolding upd
upd-cond at i g h j = elim (ℕ_discrete j i) [
  | yes e ↦ rw (eq-eqb j i e) (ap g (sym e))
  | no ne ↦ rw (ne_eqb j i ne)
]

-- ---- a row

pub row-ext : (f g : ℕ → List ℕ) (n : ℕ) → ((i : ℕ) → i < n → f i ≡ g i) → row f n ≡ row g n
unfolding row
row-ext f g zero h = refl
row-ext f g (suc n) h = ap₂ ◌++◌ (row-ext f g n (λ i l. h i (omega arith))) (h n (omega arith))

module _ (w : ℕ) (f : ℕ → List ℕ) where
  pub row-length : (n : ℕ) → ((i : ℕ) → i < n → length (f i) ≡ w) → length (row f n) ≡ n * w
  unfolding row
  row-length zero h = sym (zero-mul w)
  row-length (suc n) h =
      length-append (row f n) (f n) ∙ ap₂ ◌+◌ (row-length n (λ i l. h i (omega arith))) (h n (omega arith)) ∙ sym (suc-mul n w)

  row-cell : (n : ℕ) → ((i : ℕ) → i < n → length (f i) ≡ w) → (rest : List ℕ) (i : ℕ) → i < n
      → take w (drop (i * w) (row f n ++ rest)) ≡ f i
  unfolding row
  row-cell zero h rest i l = absurd (omega arith)
  row-cell (suc n) h rest i l = elim (dec_lt i n) [
    | yes lt ↦ rw append_assoc (row-cell n (λ j m. h j (omega arith)) (f n ++ rest) i lt)
    | no ge ↦ let e : i ≡ n = omega arith in
        rw (e, append_assoc, drop_at (row f n) (f n ++ rest) (n * w) (row-length n (λ j m. h j (omega arith))))
        (take_at (f n) rest w (h n (omega arith)))
  ]

-- element r of list i
pub row-at : (w : ℕ) (f : ℕ → List ℕ) (n : ℕ) → ((i : ℕ) → i < n → length (f i) ≡ w) → (i r : ℕ) → i < n → r < w
    → get_or (row f n) (i * w + r) 0 ≡ get_or (f i) r 0
unfolding row
row-at w f zero h i r l m = absurd (omega arith)
row-at w f (suc n) h i r l m =
    let len = row-length w f n (λ j u. h j (omega arith)) in
    elim (dec_lt i n) [
      | yes lt ↦ get_or-append (row f n) (f n) 0 (i * w + r) (rw len (digits_lt lt m)) ∙ row-at w f n (λ j u. h j (omega arith)) i r lt m
      | no ge ↦ let last : i ≡ n = omega arith in
          rw (last, ← len) (get_or-append-add (row f n) (f n) r 0)
    ]

-- a row of m + n is one of m, and one of n after it
row-add : (f : ℕ → List ℕ) (m n : ℕ) → row f (m + n) ≡ row f m ++ row (λ i. f (m + i)) n
unfolding row
row-add f m zero = rw (add-zero, append-nil)
row-add f m (suc n) = rw (add-suc, row-add f m n, append_assoc)

module _ (w : ℕ) (f : ℕ → List ℕ) (m n : ℕ) (sized : (i : ℕ) → i < m → length (f i) ≡ w) where
  take-row : take (m * w) (row f (m + n)) ≡ row f m
  take-row = rw (row-add f m n) (take_at (row f m) (row (λ i. f (m + i)) n) (m * w) (row-length w f m sized))

  drop-row : drop (m * w) (row f (m + n)) ≡ row (λ i. f (m + i)) n
  drop-row = rw (row-add f m n) (drop_at (row f m) (row (λ i. f (m + i)) n) (m * w) (row-length w f m sized))

-- what stands in the row of a list's own parts is the list
row-parts : (w : ℕ) (l : List ℕ) (n : ℕ) → row (λ i. take w (drop (i * w) l)) n ≡ take (n * w) l
unfolding row
row-parts w l zero = rw zero-mul
row-parts w l (suc n) = rw (suc-mul, take-add) (ap (λ (x : List ℕ). x ++ take w (drop (n * w) l)) (row-parts w l n))

-- ---- a map

pub node-ext : {w v : ℕ} {f g : ℕ → List ℕ} → w ≡ v → ((i : ℕ) → i < 16 → f i ≡ g i) → node w f ≡ node v g
unfolding node
node-ext {f = f} {g = g} e h = ap₂ ◌∷◌ e (row-ext f g 16 h)

pub own-node : (w : ℕ) (f : ℕ → List ℕ) → own (node w f) ≡ w
unfolding node
own-node w f = refl

pub set-node : (w v : ℕ) (f : ℕ → List ℕ) → set (node w f) 0 v ≡ node v f
unfolding node
set-node w v f = refl

module _ (k w : ℕ) (f : ℕ → List ℕ) (sized : (i : ℕ) → i < 16 → length (f i) ≡ words k) where
  pub length-node : length (node w f) ≡ words (suc k)
  unfolding node words
  length-node = rw (row-length (words k) f 16 sized, one-add)

  pub child-node : (i : ℕ) → i < 16 → child k (node w f) i ≡ f i
  unfolding child node
  child-node i l = rw (one-add, ← append-nil (row f 16)) (row-cell (words k) f 16 sized [] i l)

  -- the parts of d children from i on replaced: the own word and the other children are as they were
  pub put-run : (g : ℕ → List ℕ) (i d : ℕ) → i + d ≤ 16 → ((q : ℕ) → q < 16 → (i ≤ q → i + d ≤ q) → f q ≡ g q)
      → take (1 + i * words k) (node w f) ++ (row (λ q. g (i + q)) d ++ drop (1 + (i + d) * words k) (node w f)) ≡ node w g
  unfolding node
  put-run g i d l same = rw (one-add, one-add ((i + d) * words k)) (ap (λ (x : List ℕ). w ∷ x) (go (16 - (i + d)) (omega arith)))
    where
      go : (e : ℕ) → i + d + e ≡ 16 → take (i * words k) (row f 16) ++ (row (λ q. g (i + q)) d ++ drop ((i + d) * words k) (row f 16)) ≡ row g 16
      go e q =
          rw (← q) (rw (drop-row (words k) f (i + d) e (λ j m. sized j (omega arith)), row-add g (i + d) e, row-add g i d, append_assoc)
          (rw (add_assoc, take-row (words k) f i (d + e) (λ j m. sized j (omega arith)))
          (ap₂ (λ (x y : List ℕ). x ++ (row (λ q. g (i + q)) d ++ y)) (row-ext f g i (λ j m. same j (omega arith) (omega arith)))
          (row-ext (λ j. f (i + d + j)) (λ j. g (i + d + j)) e (λ j m. same (i + d + j) (omega arith) (omega arith))))))

  -- one child's
  pub put-node : (ys : List ℕ) (i : ℕ) → i < 16
      → take (1 + i * words k) (node w f) ++ (ys ++ drop (1 + i * words k + words k) (node w f)) ≡ node w (upd f i ys)
  unfolding row
  put-node ys i l =
      let part : upd f i ys (i + 0) ≡ ys = rw (add-zero, upd-same f i ys) in
      let ends : 1 + (i + 1) * words k ≡ 1 + i * words k + words k = rw (add-one, suc-mul) (omega arith) in
      ap₂ (λ (x : List ℕ) (n : ℕ). take (1 + i * words k) (node w f) ++ (x ++ drop n (node w f))) (sym part) (sym ends)
      ∙ put-run (upd f i ys) i 1 (omega arith) (λ q m h. sym (upd-other f i ys q (λ e. omega (arith, h (omega arith)))))

-- a part ends before a later one starts
pub part-before : (i m w : ℕ) → i < m → i * w + w ≤ m * w
part-before i m w l = rw suc-mul at (mul-le-mul_right w l)

-- it ends within the row
pub part-within : (i w : ℕ) → i < 16 → i * w + w ≤ 16 * w
part-within i w l = part-before i 16 w l

module _ (k : ℕ) (s : List ℕ) (len : length s ≡ words (suc k)) where
  pub split-node : s ≡ node (own s) (child k s)
  unfolding node child words
  split-node = go s len
    where
      go : (l : List ℕ) → length l ≡ words (suc k) → l ≡ node (own l) (child k l)
      go [] e = absurd (omega arith)
      go (x ∷ l) e =
          ap (λ (y : List ℕ). x ∷ y)
          (sym
          (row-ext (child k (x ∷ l)) (λ i. take (words k) (drop (i * words k) l)) 16 (λ i m. rw one-add)
          ∙ row-parts (words k) l 16
          ∙ take_all (16 * words k) l (omega arith)))

  pub length-child : (i : ℕ) → i < 16 → length (child k s i) ≡ words k
  unfolding child words
  length-child i l = simp (length-take, length-drop) (omega (arith, part-within i (words k) l))

-- two maps with equal own words and equal children are equal
pub ext-node : (k : ℕ) (s t : List ℕ) → length s ≡ words (suc k) → length t ≡ words (suc k) → own s ≡ own t
    → ((i : ℕ) → i < 16 → child k s i ≡ child k t i) → s ≡ t
ext-node k s t ls lt e h = split-node k s ls ∙ node-ext e h ∙ sym (split-node k t lt)

-- a word of a child
pub child-at : (k : ℕ) (s : List ℕ) (i p : ℕ) → p < words k → get_or (child k s i) p 0 ≡ get_or s (1 + i * words k + p) 0
unfolding child
child-at k s i p l = get_or-take (words k) (drop (1 + i * words k) s) p 0 l ∙ get_or-drop (1 + i * words k) s p 0
