-- A give-back of one position: what it says and leaves, by what was found. Assumes nothing.
use mathlib.Core.Path.{◌≡◌, refl, sym, ◌∙◌}
use mathlib.Core.List.{List}
use Prim.Native.Nat.{ℕ, ◌<◌}
use lib.ListN.{length}
use borrow.Author.Tests.{lt-leb}
use Rattle.words.specs.declared.kind.Change.TheVariants.{Insert}
use Rattle.words.specs.Sizes.{words, cap}
use Rattle.words.specs.Tree.{Fits, leaf?}
use Rattle.std.proofs.Common.{Option, None}
use Rattle.words.specs.declared.turn.Turn.{Turn}
use Rattle.change.specs.Single.{single, gives}
use Rattle.bitmap.specs.Answer.{given, refused}
use Rattle.bitmap.specs.Calls.{give_says, give_after}
use Rattle.change.proofs.GiveOnes.{single-free, gives-free, gives-taken}
use Rattle.bitmap.proofs.Refusals.{refuses, passes, settle-no, settle-on}

module _ (key k : ℕ) (s : List ℕ) where
  -- what was found, and the words after it
  module _ (l : key < cap k) (len : length s ≡ words k) (fits : Fits s) {r : Option Turn} {t : List ℕ} (found : r ≡ gives k s key) (words_are : t ≡ single Insert k s key) where
    pub give-free : r ≡ None → (refused 6 ≡ give_says key k s) × (t ≡ give_after key k s)
    give-free e =
        let free = gives-free k s key (sym found ∙ e) in
        let says = passes 2 _ _ (lt-leb (cap k) key l) (refuses 6 _ (given 0) free) in
        (says, words_are ∙ single-free k s key len fits l free ∙ settle-no _ 6 s _ says)

    pub give-taken : (r ≡ None → ⊥) → (given 0 ≡ give_says key k s) × (t ≡ give_after key k s)
    give-taken ne =
        let says = passes 2 _ _ (lt-leb (cap k) key l) (passes 6 (leaf? k s key) (given 0) (gives-taken k s key (λ e. ne (found ∙ e))) refl) in
        (says, words_are ∙ settle-on _ 0 s (λ _. single Insert k s key) says)
