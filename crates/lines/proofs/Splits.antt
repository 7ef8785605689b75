-- The laws of splitting: the first piece, the pieces behind it, and the lines of a text. Assumes nothing.
use Rattle.std.proofs.Common.{◌≡◌, refl, sym, ap, ◌∙◌, ℕ, suc, ◌+◌, ◌-◌, ◌≤◌, ◌<◌, Bool, true, false, cond, List, [], ◌∷◌, Option, Some, None, eqb, ltb, length, take, drop, arith}
use Rattle.std.specs.List.{position, position_or_len}
use Rattle.std.specs.Option.{unwrap_or}
use Rattle.std.proofs.lemmas.List.{take_all}
use Rattle.std.proofs.lemmas.Option.{cond_some}
use Rattle.std.proofs.Math.Numerals.{one-add}
use mathlib.Core.Logic.{⊎_elim}
use borrow.Author.Tests.{ltb-true, ltb-false}
use Rattle.std.proofs.lemmas.Bool.{cases_Bool}
use Rattle.lines.specs.Split.{on_first, pieces, before, behind, last_line, trimmed, lines_of}

-- ---- a search for d: its place cuts the text, and where there is none the text is one piece

module _ (d : ℕ) where
  abbrev here : ℕ → Bool
  here b = eqb b d

  before-place : (s : List ℕ) → take (position_or_len here s) s ≡ before d s
  unfolding before
  before-place [] = refl
  before-place (b ∷ s) = ⊎_elim (λ e. rw e) (λ e. rw e (rw one-add (ap (λ (t : List ℕ). b ∷ t) (before-place s)))) (cases_Bool (eqb b d))

  behind-place : (s : List ℕ) → position_or_len here s < length s → Some (drop (position_or_len here s + 1) s) ≡ behind d s
  unfolding behind
  behind-place [] l = absurd (omega arith)
  behind-place (b ∷ s) l = ⊎_elim (λ e. rw e) (λ e. let n : 1 + position_or_len here s + 1 ≡ suc (position_or_len here s + 1) = omega arith in rw e (rw n (behind-place s (let m = rw e at l in omega arith)))) (cases_Bool (eqb b d))

  behind-none : (s : List ℕ) → length s ≤ position_or_len here s → None ≡ behind d s
  unfolding behind
  behind-none [] l = refl
  behind-none (b ∷ s) l = ⊎_elim (λ e. absurd (let m = rw e at l in omega arith)) (λ e. rw e (behind-none s (let m = rw e at l in omega arith))) (cases_Bool (eqb b d))

  module _ (s : List ℕ) {r : Option ℕ} (is : r ≡ position here s) where
    pub cut-some : (i : ℕ) → r ≡ Some i → (take i s ≡ before d s) × (Some (drop (i + 1) s) ≡ behind d s)
    cut-some i e =
        let w = cond_some (ltb (position_or_len here s) (length s)) _ _ (sym is ∙ e) in
        (rw (← w.1) (before-place s), rw (← w.1) (behind-place s (ltb-true _ _ w.0)))

    pub cut-none : r ≡ None → (s ≡ before d s) × (None ≡ behind d s)
    cut-none e = by (ltb (position_or_len here s) (length s)) refl (sym is ∙ e)
      where
        by : (b : Bool) → ltb (position_or_len here s) (length s) ≡ b → cond b (Some (position_or_len here s)) None ≡ None → (s ≡ before d s) × (None ≡ behind d s)
        by true t e = absurd (cc)
        by false t e = (sym (take_all _ s (ltb-false _ _ t)) ∙ before-place s, behind-none s (ltb-false _ _ t))

-- ---- the pieces by the first of them and what is behind it

-- the pieces of what is behind a first one, where there is something
abbrev pub pieces_of : ℕ → Option (List ℕ) → List (List ℕ)
pieces_of d None = []
pieces_of d (Some t) = pieces d t

pub pieces-cut : (d : ℕ) (s : List ℕ) → pieces d s ≡ before d s ∷ pieces_of d (behind d s)
unfolding pieces before behind
pieces-cut d [] = refl
pieces-cut d (b ∷ s) = ⊎_elim (λ e. rw e) (λ e. rw e (ap (on_first b) (pieces-cut d s))) (cases_Bool (eqb b d))

pub before-all : (d : ℕ) (s : List ℕ) → None ≡ behind d s → before d s ≡ s
unfolding before behind
before-all d [] e = refl
before-all d (b ∷ s) e =
    ⊎_elim
    (λ h. absurd (let n : None ≡ Some s = rw h at e in cc))
    (λ h. rw h (ap (λ (t : List ℕ). b ∷ t) (before-all d s (rw h at e))))
    (cases_Bool (eqb b d))

-- the first piece takes a byte more than it has, but for a last one
pub cut-length : (d : ℕ) (s : List ℕ) → 0 < length s → 1 + (length (before d s) - 1) + length (unwrap_or (behind d s) []) ≤ length s
unfolding before behind
cut-length d [] l = absurd (omega arith)
cut-length d (b ∷ []) l = ⊎_elim (λ e. rw e (omega arith)) (λ e. rw e (omega arith)) (cases_Bool (eqb b d))
cut-length d (b ∷ x ∷ s) l = ⊎_elim (λ e. rw e (omega arith)) (λ e. rw e (omega (arith, cut-length d (x ∷ s) (omega arith)))) (cases_Bool (eqb b d))

-- there is always a piece
pub pieces-some : (d : ℕ) (s : List ℕ) → 0 < length (pieces d s)
pieces-some d s = omega (arith, ap length (pieces-cut d s))

-- ---- lines

pub lines-nil : lines_of [] ≡ []
unfolding lines_of pieces trimmed
lines-nil = refl

pub trimmed-more : (p : List ℕ) (ps : List (List ℕ)) → 0 < length ps → trimmed (p ∷ ps) ≡ p ∷ trimmed ps
unfolding trimmed
trimmed-more p [] l = absurd (omega arith)
trimmed-more p (q ∷ ps) l = refl

last-some : (p : List ℕ) → 0 < length p → last_line p ≡ p ∷ []
last-some [] l = absurd (omega arith)
last-some (b ∷ p) l = refl

-- the first line and those behind it
pub lines-cut : (s : List ℕ) → 0 < length s → lines_of s ≡ before 10 s ∷ lines_of (unwrap_or (behind 10 s) [])
unfolding lines_of trimmed
lines-cut s h = ap trimmed (pieces-cut 10 s) ∙ by (behind 10 s) refl
  where
    by : (o : Option (List ℕ)) → o ≡ behind 10 s → trimmed (before 10 s ∷ pieces_of 10 o) ≡ before 10 s ∷ trimmed (pieces 10 (unwrap_or o []))
    by None e = last-some (before 10 s) (omega (arith, ap length (before-all 10 s e))) ∙ ap (λ (ls : List (List ℕ)). before 10 s ∷ ls) (sym lines-nil)
    by (Some t) e = trimmed-more (before 10 s) (pieces 10 t) (pieces-some 10 t)
