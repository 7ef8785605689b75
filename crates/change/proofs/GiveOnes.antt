-- What a single give-back finds: a position that is free already stays, and a word that turns becomes not empty. Assumes nothing.
use mathlib.Core.Path.{◌≡◌, refl, sym, ap, ap₂, ◌∙◌}
use mathlib.Core.Bool.{true, false, cond, true≢false}
use mathlib.Core.Logic.{⊎_elim}
use mathlib.Core.List.{List}
use Rattle.std.proofs.Common.{Option, Some, None}
use Prim.Native.Nat.{ℕ, zero, suc, ◌/◌, ◌%◌, ◌<◌}
use native.Mathlib.Nat.{mod-lt}
use native.Mathlib.Omega.{arith}
use lib.ListN.{length, set}
use lib.Seq.{set-get_or, get_or-set_same}
use lib.Dec.{eqb}
use borrow.Author.Tests.{eq-eqb}
use Rattle.words.specs.declared.kind.Change.TheVariants.{Insert}
use Rattle.words.specs.declared.turn.Turn.{Turn}
use Rattle.words.specs.declared.turn.Turn.TheVariants.{Stayed, BecameNotEmpty}
use Rattle.words.specs.Bits.{bit, word_of, some}
use Rattle.words.specs.Turn.{turn}
use Rattle.words.specs.Sizes.{words, cap}
use Rattle.words.specs.Tree.{Fits, own, child, node, leaf?}
use Rattle.change.specs.Single.{turns, single, gives}
use Rattle.std.proofs.lemmas.Bool.{cases_Bool}
use Rattle.words.proofs.Bits.{bit-pack, stored-same}
use Rattle.words.proofs.Levels.{cap-pos}
use Rattle.words.proofs.Rows.{upd, upd-kept, node-ext, own-node, split-node, length-child}
use Rattle.words.proofs.Parts.{lent, back, lent-child, back-node}
use Rattle.words.proofs.Path.{position-child, leaf-child}
use Rattle.words.proofs.Truth.{fits-child}
use Rattle.words.proofs.Turns.{some-stored, turn-same, turn-went, still}
use Rattle.change.proofs.Singles.{single-leaf, old, new, renewed, single-node, own-single, single-turned, single-stayed}

-- a map whose own word stays has not turned
same-turns : (x y : List ℕ) → own y ≡ own x → turns x y ≡ false
same-turns x y e = rw (e, turn-same (own x))

-- a position that is free stays so, and so does every word
pub single-free : (k : ℕ) (s : List ℕ) (p : ℕ) → length s ≡ words k → Fits s → p < cap k → leaf? k s p ≡ true → single Insert k s p ≡ s
unfolding leaf? words
single-free zero s p len fits l free = sym (single-leaf Insert s p (own s) len (sym (stored-same (own s) p true (fits 0) free))) ∙ set-get_or s 0 0
single-free (suc k) s p len fits l free =
    let i = p / cap k in
    let same = single-free k (child k s i) (p % cap k) (length-child k s len i (position-child {j = k} p refl l)) (fits-child k s i fits) (mod-lt p (cap-pos k)) free in
    sym (single-node Insert k s p (fits 0))
    ∙ node-ext {v = own s} {g = child k s} (rw (same-turns (child k s i) _ (ap own same))) (λ m _. ap (λ (x : List ℕ). upd (child k s) i x m) same ∙ upd-kept (child k s) i m)
    ∙ sym (split-node k s len)

-- a word that turns becomes not empty
pub given-some : (k : ℕ) (s : List ℕ) (p : ℕ) → length s ≡ words k → Fits s → p < cap k → turns s (single Insert k s p) ≡ true → some (own (single Insert k s p)) ≡ true
unfolding cap words
given-some zero s p len fits l t =
    ap (λ (x : List ℕ). some (own x)) (sym (single-leaf Insert s p _ len refl))
    ∙ ap some (get_or-set_same s 0 _ 0 (rw len (omega arith)))
    ∙ some-stored (own s) p l
given-some (suc k) s p len fits l t =
    let i = p / cap k in
    let m : i < 16 = position-child {j = k} p refl l in
    let is = own-single Insert k s p (fits 0) in
    ⊎_elim
    (λ e.
    let some-new = given-some k (child k s i) (p % cap k) (length-child k s len i m) (fits-child k s i fits) (mod-lt p (cap-pos k)) e in
    let word : own (single Insert (suc k) s p) ≡ word_of (λ j. cond (eqb j i) true (bit (own s) j)) = is ∙ rw (e, some-new) in
    ap some word ∙ some-stored (own s) i m)
    (λ e. absurd (true≢false (sym t ∙ same-turns s (single Insert (suc k) s p) (is ∙ rw e))))
    (cases_Bool (turns (old Insert k s p) (new Insert k s p)))

-- ---- what is found says whether the position was free

module _ (k : ℕ) (s : List ℕ) (p : ℕ) where
  pub gives-free : gives k s p ≡ None → leaf? k s p ≡ true
  unfolding gives
  gives-free e = ⊎_elim
      (λ free. free)
      (λ (taken : leaf? k s p ≡ false). let found : Some (turn (own s) (own (single Insert k s p))) ≡ None = rw taken at e in cc)
      (cases_Bool (leaf? k s p))

  pub gives-taken : (gives k s p ≡ None → ⊥) → leaf? k s p ≡ false
  unfolding gives
  gives-taken ne = ⊎_elim
      (λ (free : leaf? k s p ≡ true). absurd (ne (rw free)))
      (λ taken. taken)
      (cases_Bool (leaf? k s p))

-- ---- what is found, by what is found in the child that has the position

module _ (k : ℕ) (s : List ℕ) (p : ℕ) (len : length s ≡ words k) (fits : Fits s) (l : p < cap k) where
  -- the word did not turn, unless it became not empty
  pub gives-still : (gives k s p ≡ Some BecameNotEmpty → ⊥) → turns s (single Insert k s p) ≡ false
  unfolding gives
  gives-still n = ⊎_elim
      (λ free. same-turns s (single Insert k s p) (ap own (single-free k s p len fits l free)))
      (λ (taken : leaf? k s p ≡ false). ⊎_elim
      (λ (t : turns s (single Insert k s p) ≡ true). absurd (n (rw taken (became t))))
      (λ t. t)
      (cases_Bool (turns s (single Insert k s p))))
      (cases_Bool (leaf? k s p))
    where
      became : turns s (single Insert k s p) ≡ true → Some (turn (own s) (own (single Insert k s p))) ≡ Some BecameNotEmpty
      became t = ap Some (turn-went (own s) (own (single Insert k s p)) t (given-some k s p len fits l t))

  -- and where it did the position was not free
  pub gives-became : gives k s p ≡ Some BecameNotEmpty → (leaf? k s p ≡ false) × (turns s (single Insert k s p) ≡ true)
  unfolding gives
  gives-became e = ⊎_elim
      (λ (free : leaf? k s p ≡ true). let found : ◌≡◌ {A = Option Turn} None (Some BecameNotEmpty) = rw free at e in cc)
      (λ (taken : leaf? k s p ≡ false). ⊎_elim
      (λ t. (taken, t))
      (λ (t : turns s (single Insert k s p) ≡ false).
      let found : Some Stayed ≡ Some BecameNotEmpty = rw (taken, still (turn (own s) (own (single Insert k s p))) t) at e in cc)
      (cases_Bool (turns s (single Insert k s p))))
      (cases_Bool (leaf? k s p))

-- ---- a leaf word s, where v is the word with the position's bit set

module _ (s : List ℕ) (p : ℕ) {v : ℕ} (len : length s ≡ words 0) (fits : Fits s) (l : p < cap 0) (e : v ≡ word_of (λ m. cond (eqb m p) true (bit (own s) m))) where
  stored : set s 0 v ≡ single Insert 0 s p
  unfolding words
  stored = single-leaf Insert s p v len e

  own-stored : own (single Insert 0 s p) ≡ v
  unfolding words
  own-stored = ap own (sym stored) ∙ get_or-set_same s 0 v 0 (rw len (omega arith))

  -- the word would stay the same
  pub leaf-free : v ≡ own s → (None ≡ gives 0 s p) × (s ≡ single Insert 0 s p)
  unfolding gives leaf? cap
  leaf-free same =
      let set-bit : bit (own s) p ≡ true = ap (λ (w : ℕ). bit w p) (sym same ∙ e) ∙ bit-pack 16 (λ m. cond (eqb m p) true (bit (own s) m)) p l ∙ rw (eq-eqb p p refl) in
      (rw set-bit, sym (set-get_or s 0 0) ∙ ap (set s 0) (sym same) ∙ stored)

  -- or not
  pub leaf-taken : (v ≡ own s → ⊥) → (Some (turn (own s) v) ≡ gives 0 s p) × (set s 0 v ≡ single Insert 0 s p)
  unfolding gives leaf?
  leaf-taken ne = ⊎_elim
      (λ (b : bit (own s) p ≡ true). absurd (ne (e ∙ stored-same (own s) p true (fits 0) b)))
      (λ (b : bit (own s) p ≡ false). (rw (b, own-stored), stored))
      (cases_Bool (bit (own s) p))

-- ---- the child that has the position, lent and come back

-- child i of the map s has the position p, which is q in the child; the child has n words, which came back as ys with the answer r
pub record Returned (k : ℕ) (s : List ℕ) (p n i q : ℕ) (ys : List ℕ) (r : Option Turn) : Type 0 where
  pub len : length s ≡ words (suc k)
  pub fits : Fits s
  pub inside : p < cap (suc k)
  pub size : n ≡ words k
  pub at : i ≡ p / cap k
  pub rest : q ≡ p % cap k
  pub found : r ≡ gives k (lent n s i) q
  pub words_are : ys ≡ single Insert k (lent n s i) q

module _ {k : ℕ} {s : List ℕ} {p n i q : ℕ} {ys : List ℕ} {r : Option Turn} (h : Returned k s p n i q ys r) where
  below : i < 16
  below = rw h.at (position-child {j = k} p refl h.inside)

  -- the child's, as they are in the definition
  part : lent n s i ≡ old Insert k s p
  part = lent-child k s i n h.size ∙ ap (child k s) h.at

  back-is : back n s i ys ≡ back (words k) s (p / cap k) (new Insert k s p)
  back-is = rw (h.words_are, part, h.size, h.at, h.rest)

  sized : length (old Insert k s p) ≡ words k
  sized = length-child k s h.len (p / cap k) (position-child {j = k} p refl h.inside)

  free-below : leaf? (suc k) s p ≡ leaf? k (old Insert k s p) (p % cap k)
  free-below = leaf-child s p refl

  -- the map with the child's part back has an own word, which is as it was
  pub own-there : 0 < length (back n s i ys)
  unfolding node
  own-there = rw (back-node k s i n h.size ys h.len below) (omega arith)

  own-kept : own (back n s i ys) ≡ own s
  own-kept = ap own (back-node k s i n h.size ys h.len below) ∙ own-node _ _

  -- where the child did not turn, its answer is the map's
  pub node-stayed : (r ≡ Some BecameNotEmpty → ⊥) → (r ≡ gives (suc k) s p) × (back n s i ys ≡ single Insert (suc k) s p)
  unfolding gives
  node-stayed ne =
      let found : r ≡ gives k (old Insert k s p) (p % cap k) = h.found ∙ ap₂ (gives k) part h.rest in
      let t = gives-still k (old Insert k s p) (p % cap k) sized (fits-child k s _ h.fits) (mod-lt p (cap-pos k)) (λ e. ne (found ∙ e)) in
      let same : own (single Insert (suc k) s p) ≡ own s = own-single Insert k s p (h.fits 0) ∙ rw t in (
        found ∙ rw (free-below, same, turn-same (own s), still (turn (own (old Insert k s p)) (own (new Insert k s p))) t),
        back-is ∙ single-stayed Insert k s p h.len (rw (← h.at) below) (h.fits 0) t,
      )

  -- where it did, its bit is set in the own word
  pub node-turned : {zs : List ℕ} → r ≡ Some BecameNotEmpty → zs ≡ set (back n s i ys) 0 (word_of (λ m. cond (eqb m i) true (bit (own (back n s i ys)) m)))
      → (Some (turn (own (back n s i ys)) (own zs)) ≡ gives (suc k) s p) × (zs ≡ single Insert (suc k) s p)
  unfolding gives
  node-turned {zs} e ez =
      let m = mod-lt p (cap-pos k) in
      let child_fits = fits-child k s (p / cap k) h.fits in
      let g = gives-became k (old Insert k s p) (p % cap k) sized child_fits m (sym (h.found ∙ ap₂ (gives k) part h.rest) ∙ e) in
      let v = word_of (λ m. cond (eqb m i) true (bit (own (back n s i ys)) m)) in
      let word : v ≡ renewed Insert k s p =
      rw (own-kept, given-some k (old Insert k s p) (p % cap k) sized child_fits m g.1, h.at) in
      let is : zs ≡ single Insert (suc k) s p =
      ez ∙ ap (λ (x : List ℕ). set x 0 v) back-is ∙ single-turned Insert k s p h.len (rw (← h.at) below) (h.fits 0) v word g.1 in
      (rw (free-below, g.0, own-kept, is), is)
