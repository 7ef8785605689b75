-- A child's part of a map's words, lent as `&mut s[1 + i * n..1 + i * n + n]`, and the words once it has come back, as the borrow
-- checker writes them (`mid_of`, `put_mid`). Assumes nothing.
use mathlib.Core.Path.{◌≡◌, refl, sym, ap, ap₂, ◌∙◌}
use mathlib.Core.List.{List, [], ◌∷◌, ◌++◌}
use Prim.Native.Nat.{ℕ, suc, ◌+◌, ◌-◌, ◌*◌, ◌<◌, ◌≤◌}
use native.Mathlib.Nat.{add-zero, mul-one, mul-le-mul_right}
use native.Mathlib.Omega.{arith}
use lib.ListN.{length, take, drop, get_or, set}
use lib.Seq.{get_or-take, get_or-drop, set_split}
use borrow.Rule.Slice.PartMut.{mid_of, put_mid, Post-is}
use Rattle.words.specs.Sizes.{words}
use Rattle.words.specs.Tree.{own, child, row, node}
use Rattle.words.proofs.Levels.{words-pos}
use Rattle.words.proofs.Rows.{upd, upd-same, sized-upd, split-node, length-child, child-node, put-run, put-node}

-- the part of child i, where each child has n words, and the words with ys in its place
abbrev pub lent : ℕ → List ℕ → ℕ → List ℕ
lent n s i = mid_of (1 + i * n) (1 + i * n + n - (1 + i * n)) s

abbrev pub back : ℕ → List ℕ → ℕ → List ℕ → List ℕ
back n s i ys = put_mid (1 + i * n) (1 + i * n + n - (1 + i * n)) s ys

module _ (k : ℕ) (s : List ℕ) (i : ℕ) where
  -- what is lent is the child
  pub lent-child : (n : ℕ) → n ≡ words k → lent n s i ≡ child k s i
  unfolding child
  lent-child n e =
      let whole : 1 + i * words k + words k - (1 + i * words k) ≡ words k = omega arith in
      ap (λ (m : ℕ). lent m s i) e ∙ ap (λ (m : ℕ). take m (drop (1 + i * words k) s)) whole

  -- what comes back is the map with that child new
  pub back-node : (n : ℕ) → n ≡ words k → (ys : List ℕ) → length s ≡ words (suc k) → i < 16
      → back n s i ys ≡ node (own s) (upd (child k s) i ys)
  back-node n e ys len l =
      ap (λ (m : ℕ). back m s i ys) e
      ∙ ap (λ (r : List ℕ). take (1 + i * words k) s ++ (ys ++ r)) (Post-is (1 + i * words k) (1 + i * words k + words k) s (omega arith))
      ∙ ap (λ (x : List ℕ). take (1 + i * words k) x ++ (ys ++ drop (1 + i * words k + words k) x)) (split-node k s len)
      ∙ put-node k (own s) (child k s) (length-child k s len) ys i l

-- the parts of the children from i up to m have come back together: the map with those children new
pub run-node : (k : ℕ) (s : List ℕ) (i m n : ℕ) → n ≡ words k → length s ≡ words (suc k) → i ≤ m → m ≤ 16
    → (g : ℕ → List ℕ) → ((q : ℕ) → q < 16 → (i ≤ q → m ≤ q) → child k s q ≡ g q)
    → {x y : ℕ} {ys : List ℕ} → x ≡ 1 + i * n → y ≡ 1 + m * n → ys ≡ row (λ q. g (i + q)) (m - i) → put_mid x (y - x) s ys ≡ node (own s) g
run-node k s i m n e len l u g same {x} {y} {ys} ex ey er =
    let upto : i + (m - i) ≡ m = omega arith in
    let from : x ≡ 1 + i * words k = ex ∙ ap (λ (w : ℕ). 1 + i * w) e in
    let to : y ≡ 1 + (i + (m - i)) * words k = ey ∙ ap₂ (λ (q w : ℕ). 1 + q * w) (sym upto) e in
    ap (λ (r : List ℕ). take x s ++ (ys ++ r)) (Post-is x y s (omega (arith, mul-le-mul_right n l)))
    ∙ rw (from, to, er)
    (ap (λ (z : List ℕ). take (1 + i * words k) z ++ (row (λ q. g (i + q)) (m - i) ++ drop (1 + (i + (m - i)) * words k) z)) (split-node k s len)
    ∙ put-run k (own s) (child k s) (length-child k s len) g i (m - i) (omega arith) (λ q b o. same q b (λ j. rw upto at (o j))))

-- the first word of a child's part
pub own-child : (k : ℕ) (s : List ℕ) (i n : ℕ) → n ≡ words k → get_or s (1 + i * n) 0 ≡ own (child k s i)
unfolding child
own-child k s i n e =
    ap (λ (m : ℕ). get_or s (1 + i * m) 0) e
    ∙ sym (get_or-take (words k) (drop (1 + i * words k) s) 0 0 (words-pos k) ∙ get_or-drop (1 + i * words k) s 0 0 ∙ ap (λ (m : ℕ). get_or s m 0) (add-zero (1 + i * words k)))

-- the first word of a part that has come back
pub own-back : (k : ℕ) (s : List ℕ) (i n : ℕ) → n ≡ words k → (ys : List ℕ) → length s ≡ words (suc k) → i < 16 → length ys ≡ words k
    → get_or (back n s i ys) (1 + i * n) 0 ≡ own ys
own-back k s i n e ys len l sized =
    own-child k (back n s i ys) i n e
    ∙ ap own
    (ap (λ (x : List ℕ). child k x i) (back-node k s i n e ys len l)
    ∙ child-node k (own s) (upd (child k s) i ys) (sized-upd (child k s) i ys sized (length-child k s len)) i l
    ∙ upd-same (child k s) i ys)

-- a child that is a leaf word: its part is that word, and a store of the word is the part come back
pub word-lent : (s : List ℕ) (i : ℕ) → get_or s (1 + i) 0 ≡ own (lent 1 s i)
unfolding words
word-lent s i = ap (λ (m : ℕ). get_or s (1 + m) 0) (sym (mul-one i)) ∙ own-child 0 s i 1 refl ∙ ap own (sym (lent-child 0 s i 1 refl))

pub store-word : (s : List ℕ) (i v : ℕ) → 1 + i < length s → set s (1 + i) v ≡ back 1 s i (v ∷ [])
store-word s i v l =
    let next : 1 + i + 1 ≡ suc (1 + i) = omega arith in
    set_split s (1 + i) v l
    ∙ ap (λ (r : List ℕ). take (1 + i) s ++ v ∷ r) (ap (λ (m : ℕ). drop m s) (sym next) ∙ sym (Post-is (1 + i) (1 + i + 1) s (omega arith)))
    ∙ ap (λ (m : ℕ). put_mid (1 + m) (1 + m + 1 - (1 + m)) s (v ∷ [])) (sym (mul-one i))
