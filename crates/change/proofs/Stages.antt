-- A change of one position, made word by word from the leaf word up: the words once the map of level j on the way is changed, and
-- nothing above it is yet. Assumes nothing.
use mathlib.Core.Path.{◌≡◌, refl, sym, ap, ap₂, ◌∙◌}
use mathlib.Core.Bool.{cond}
use mathlib.Core.List.{List, [], ◌∷◌, ◌++◌, append_assoc, append-nil}
use Prim.Native.Nat.{ℕ, suc, ◌+◌, ◌-◌, ◌*◌, ◌/◌, ◌%◌, ◌<◌, ◌≤◌}
use native.Mathlib.Nat.{mod-eq_of_lt}
use native.Mathlib.Omega.{arith}
use lib.ListN.{length, take, drop, set, get_or, length-drop, take-append-drop, drop_of_length-le}
use lib.Seq.{length-take-le, set_at, get_or_at, take-take, take-add, drop-drop, drop-append-le}
use lib.Dec.{eqb}
use borrow.Rule.Slice.PartMut.{mid_of, put_mid, put_same, same_len_mid}
use Rattle.words.specs.declared.kind.Change.{Change}
use Rattle.words.specs.Bits.{bit, word_of, some, frees}
use Rattle.words.specs.Sizes.{words, cap}
use Rattle.words.specs.Tree.{own, child, node}
use Rattle.change.specs.Change.{change}
use Rattle.words.proofs.Levels.{words-node, words-pos}
use Rattle.words.proofs.Rows.{upd, sized-upd, own-node, length-node, length-child, part-within}
use Rattle.words.proofs.Parts.{back, back-node}
use Rattle.change.proofs.Changes.{length-change}
use Rattle.words.specs.Place.{on_way}
use Rattle.words.proofs.OnWay.{rest-rest, digit-child, digit-lt, on-own, on-up, on-fits, below, on-word, below-own, below-length, below-child}
use Rattle.change.proofs.One.{leaf-one, node-one}

-- ---- a part of a list replaced

-- in a part of the part
put-put : (at n a m : ℕ) (s ys : List ℕ) → a + m ≤ n → at + n ≤ length s
    → put_mid at n s (put_mid a m (mid_of at n s) ys) ≡ put_mid (at + a) m s ys
put-put at n a m s ys h l =
    let rest = drop at s in
    let part = take n rest in
    let whole : n ≤ length rest = simp length-drop (omega arith) in
    let before : take a part ≡ take a rest = take-take a n rest (omega arith) in
    let after : drop m (drop a part) ++ drop n rest ≡ drop m (drop (at + a) s) =
    ap (λ (x : List ℕ). x ++ drop n rest) (drop-drop m a part)
    ∙ sym (drop-append-le (a + m) part (drop n rest) (rw (length-take-le n rest whole) h))
    ∙ ap (drop (a + m)) (take-append-drop n rest)
    ∙ sym (drop-drop m a rest)
    ∙ ap (drop m) (drop-drop a at s) in
    rw (before, take-add at a s) (simp append_assoc (ap (λ (x : List ℕ). take at s ++ (take a rest ++ (ys ++ x))) after))

-- its first element
module _ (at n : ℕ) (s ys : List ℕ) (l : at ≤ length s) (filled : 0 < length ys) where
  set-put : (v : ℕ) → set (put_mid at n s ys) at v ≡ put_mid at n s (set ys 0 v)
  set-put v = go ys filled
    where
      go : (ys : List ℕ) → 0 < length ys → set (put_mid at n s ys) at v ≡ put_mid at n s (set ys 0 v)
      go [] h = absurd (omega arith)
      go (y ∷ ys) h = set_at (take at s) y (ys ++ drop n (drop at s)) v at (length-take-le at s l)

  get_or-put : get_or (put_mid at n s ys) at 0 ≡ own ys
  get_or-put = go ys filled
    where
      go : (ys : List ℕ) → 0 < length ys → get_or (put_mid at n s ys) at 0 ≡ own ys
      go [] h = absurd (omega arith)
      go (y ∷ ys) h = get_or_at (take at s) y (ys ++ drop n (drop at s)) 0 at (length-take-le at s l)

-- ---- the map of level j on the way replaced

put : ℕ → ℕ → List ℕ → ℕ → List ℕ → List ℕ
put j k s p ys = put_mid (on_way j k p) (words j) s ys

module _ (k : ℕ) (s : List ℕ) (p : ℕ) (len : length s ≡ words k) where
  put-own : (ys : List ℕ) → put k k s p ys ≡ ys
  unfolding put
  put-own ys =
      ap (λ (m : ℕ). put_mid m (words k) s ys) (on-own k p)
      ∙ ap (λ (x : List ℕ). ys ++ x) (drop_of_length-le s {i = words k} (omega arith))
      ∙ append-nil ys

  module _ (l : p < cap k) where
    -- in the map above
    put-up : (j : ℕ) → j < k → (ys : List ℕ) → put j k s p ys ≡ put (suc j) k s p (back (words j) (below (suc j) k s p) (p / cap j % 16) ys)
    unfolding put below
    put-up j h ys =
        let i = p / cap j % 16 in
        let a = 1 + i * words j in
        let n : a + words j - a ≡ words j = omega arith in
        let ends = part-within i (words j) (digit-lt j p) in
        ap (λ (m : ℕ). put_mid m (words j) s ys) (on-up j k p h)
        ∙ sym
        (ap (λ (m : ℕ). put (suc j) k s p (put_mid a m (below (suc j) k s p) ys)) n
        ∙ put-put (on_way (suc j) k p) (words (suc j)) a (words j) s ys (omega (arith, words-node j)) (omega (arith, on-fits (suc j) k p (omega arith) l)))

    -- its own word
    module _ (j : ℕ) (h : j ≤ k) (ys : List ℕ) (sized : length ys ≡ words j) where
      set-own : (v : ℕ) → set (put j k s p ys) (on_way j k p) v ≡ put j k s p (set ys 0 v)
      unfolding put
      set-own = set-put (on_way j k p) (words j) s ys (omega (arith, on-fits j k p h l)) (omega (arith, words-pos j))

      get-own : get_or (put j k s p ys) (on_way j k p) 0 ≡ own ys
      unfolding put
      get-own = get_or-put (on_way j k p) (words j) s ys (omega (arith, on-fits j k p h l)) (omega (arith, words-pos j))

-- ---- the stages

-- the map of level j on the way, changed at the position
pub new_below : Change → ℕ → ℕ → List ℕ → ℕ → List ℕ
new_below c j k s p = change c j (below j k s p) (p % cap j) (p % cap j + 1)

-- the words with that map in its place
pub stage : Change → ℕ → ℕ → List ℕ → ℕ → List ℕ
stage c j k s p = put j k s p (new_below c j k s p)

module _ (c : Change) (k : ℕ) (s : List ℕ) (p : ℕ) (len : length s ≡ words k) (l : p < cap k) where
  -- the last stage is the whole change
  pub stage-own : stage c k k s p ≡ change c k s p (p + 1)
  unfolding stage new_below
  stage-own =
      put-own k s p len (new_below c k k s p)
      ∙ ap₂ (λ (x : List ℕ) (q : ℕ). change c k x q (q + 1)) (below-own k s p len) (mod-eq_of_lt l)

  length-new_below : (j : ℕ) → j ≤ k → length (new_below c j k s p) ≡ words j
  unfolding new_below
  length-new_below j h = length-change c j (below j k s p) (p % cap j) (p % cap j + 1) (below-length k s p len l j h)

  pub length-stage : (j : ℕ) → j ≤ k → length (stage c j k s p) ≡ words k
  unfolding stage put below
  length-stage j h =
      same_len_mid (on_way j k p) (words j) s (new_below c j k s p) (length-new_below j h ∙ sym (below-length k s p len l j h)) ∙ len

  -- the own word of the changed map
  pub stage-now : (j : ℕ) → j ≤ k → get_or (stage c j k s p) (on_way j k p) 0 ≡ own (new_below c j k s p)
  unfolding stage
  stage-now j h = get-own k s p len l j h (new_below c j k s p) (length-new_below j h)

  -- the leaf bit is stored
  pub stage-leaf : (v : ℕ) → v ≡ word_of (λ m. cond (eqb m (p % 16)) (frees c) (bit (get_or s (on_way 0 k p) 0) m)) → set s (on_way 0 k p) v ≡ stage c 0 k s p
  unfolding stage new_below put below cap words
  stage-leaf v e =
      let leaf = below 0 k s p in
      let sized = below-length k s p len l 0 (omega arith) in
      ap (λ (x : List ℕ). set x (on_way 0 k p) v) (sym (put_same (on_way 0 k p) (words 0) s))
      ∙ set-own k s p len l 0 (omega arith) leaf sized v
      ∙ ap (put 0 k s p) (leaf-one c leaf (p % 16) v sized (e ∙ ap (λ (w : ℕ). word_of (λ m. cond (eqb m (p % 16)) (frees c) (bit w m))) (on-word 0 k s p)))

  -- ---- from a level to the next
  module _ (j : ℕ) (h : j < k) where
    -- the child changed in the map above
    abbrev into : List ℕ
    into = back (words j) (below (suc j) k s p) (p / cap j % 16) (new_below c j k s p)

    into-node : into ≡ node (own (below (suc j) k s p)) (upd (child j (below (suc j) k s p)) (p / cap j % 16) (new_below c j k s p))
    into-node = back-node j (below (suc j) k s p) (p / cap j % 16) (words j) refl (new_below c j k s p) (below-length k s p len l (suc j) h) (digit-lt j p)

    length-into : length into ≡ words (suc j)
    length-into =
        let t = below (suc j) k s p in
        ap length into-node
        ∙ length-node j (own t) _ (sized-upd (child j t) (p / cap j % 16) _ (length-new_below j (omega arith)) (length-child j t (below-length k s p len l (suc j) h)))

    stage-in : stage c j k s p ≡ put (suc j) k s p into
    unfolding stage
    stage-in = put-up k s p len l j h (new_below c j k s p)

    -- the word above is as it was
    pub stage-above : get_or (stage c j k s p) (on_way (suc j) k p) 0 ≡ own (below (suc j) k s p)
    stage-above =
        ap (λ (x : List ℕ). get_or x (on_way (suc j) k p) 0) stage-in
        ∙ get-own k s p len l (suc j) h into length-into
        ∙ ap own into-node ∙ own-node _ _

    -- the child's bit is stored in it
    pub stage-up : (v : ℕ) → v ≡ word_of (λ m. cond (eqb m (p / cap j % 16)) (some (own (new_below c j k s p))) (bit (own (below (suc j) k s p)) m))
        → set (stage c j k s p) (on_way (suc j) k p) v ≡ stage c (suc j) k s p
    unfolding stage new_below
    stage-up v e =
        let i = p / cap j % 16 in
        let t = below (suc j) k s p in
        let kid : new_below c j k s p ≡ change c j (child j t i) (p % cap j) (p % cap j + 1) =
        ap (λ (x : List ℕ). change c j x (p % cap j) (p % cap j + 1)) (below-child k s p len l j h) in
        ap (λ (x : List ℕ). set x (on_way (suc j) k p) v) stage-in
        ∙ set-own k s p len l (suc j) h into length-into v
        ∙ ap (put (suc j) k s p)
        (ap (λ (x : List ℕ). set (back (words j) t i x) 0 v) kid
        ∙ node-one c j t (p % cap (suc j)) i (p % cap j) v (below-length k s p len l (suc j) h) (digit-lt j p)
        (sym (digit-child j p)) (sym (rest-rest j (suc j) p (omega arith)))
        (e ∙ ap (λ (x : List ℕ). word_of (λ m. cond (eqb m i) (some (own x)) (bit (own t) m))) kid))
