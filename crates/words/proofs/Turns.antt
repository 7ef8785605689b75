-- How a word turns, by whether it was empty and is empty. Assumes nothing.
use mathlib.Core.Path.{◌≡◌, refl, sym, ap, ◌∙◌}
use mathlib.Core.Bool.{Bool, true, false, cond, true≢false}
use Prim.Native.Nat.{ℕ, ◌<◌}
use lib.Dec.{eqb}
use borrow.Author.Tests.{eq-eqb, ne_eqb}
use Rattle.words.specs.declared.turn.Turn.{Turn}
use Rattle.words.specs.declared.turn.Turn.TheVariants.{Stayed, BecameEmpty, BecameNotEmpty}
use Rattle.words.specs.declared.turn.Turned.{Turned}
use Rattle.words.specs.Bits.{bit, word_of, some}
use Rattle.words.specs.Turn.{turn, goes, turned}
use Rattle.words.proofs.Bits.{bit-pack, some-bit}

-- what is not 0 is some
pub some-yes : (w : ℕ) → (w ≡ 0 → ⊥) → some w ≡ true
some-yes w ne = rw (ne_eqb w 0 ne)

-- nor is a word with a bit that is stored set
pub some-stored : (w i : ℕ) → i < 16 → some (word_of (λ j. cond (eqb j i) true (bit w j))) ≡ true
some-stored w i l = some-bit _ i (bit-pack 16 (λ j. cond (eqb j i) true (bit w j)) i l ∙ rw (eq-eqb i i refl))

-- a turn, by the two tests
pub turn-is : {a b : Bool} (v w : ℕ) → some v ≡ a → some w ≡ b → turn v w ≡ cond a (cond b Stayed BecameEmpty) (cond b BecameNotEmpty Stayed)
unfolding turn
turn-is v w e f = rw (e, f)

-- what stays as it is has not turned
pub turn-same : (v : ℕ) → turn v v ≡ Stayed
turn-same v = go (some v) refl
  where
    go : (b : Bool) → some v ≡ b → turn v v ≡ Stayed
    go true e = turn-is v v e e
    go false e = turn-is v v e e

-- a turn that goes no way
pub still : (t : Turn) → goes t ≡ false → t ≡ Stayed
still Stayed h = refl
still BecameEmpty h = absurd (true≢false h)
still BecameNotEmpty h = absurd (true≢false h)

pub still-some : (v w : ℕ) → goes (turn v w) ≡ false → some v ≡ some w
still-some v w h = go (some v) (some w) refl refl
  where
    go : (a b : Bool) → some v ≡ a → some w ≡ b → some v ≡ some w
    go true true e f = e ∙ sym f
    go true false e f = absurd (true≢false (sym (ap goes (turn-is v w e f)) ∙ h))
    go false true e f = absurd (true≢false (sym (ap goes (turn-is v w e f)) ∙ h))
    go false false e f = e ∙ sym f

-- one that goes to not empty
pub turn-went : (v w : ℕ) → goes (turn v w) ≡ true → some w ≡ true → turn v w ≡ BecameNotEmpty
turn-went v w g e = go (some v) refl
  where
    go : (b : Bool) → some v ≡ b → turn v w ≡ BecameNotEmpty
    go true f = absurd (true≢false (sym g ∙ ap goes (turn-is v w f e)))
    go false f = turn-is v w f e

-- a new word with its turn
pub turned-is : {a b : Bool} {u : ℕ} (v w : ℕ) → u ≡ w → some v ≡ a → some w ≡ b
    → ◌≡◌ {A = Turned} (record { word = u; turn = cond a (cond b Stayed BecameEmpty) (cond b BecameNotEmpty Stayed) }) (turned v w)
turned-is v w e f g = rw (e, turn-is v w f g)

-- what is told of it: the word, and the turn to that word
pub word-told : {r : Turned} (v w : ℕ) → r ≡ turned v w → r.word ≡ w
word-told v w e = rw e

pub turn-told : {r : Turned} (v w : ℕ) → r ≡ turned v w → r.turn ≡ turn v r.word
turn-told v w e = rw e
