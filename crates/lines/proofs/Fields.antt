-- What a line says by its cuts: a whole text with no number, or a name and the numbers behind it. Assumes nothing.
use Rattle.std.proofs.Common.{◌≡◌, refl, sym, ap, ap₂, subst, ◌∙◌, ℕ, true, List, [], ◌∷◌, Option, Some, None, Bor, eqb, bytes_eq, option_map}
use Rattle.std.proofs.lemmas.Slice.Eq.{bytes_eq-Decides}
use mathlib.Core.Logic.{⊎_elim}
use borrow.Author.Tests.{eqb-false}
use Rattle.words.specs.Below.{below}
use Rattle.std.proofs.lemmas.Bool.{cases_Bool}
use Rattle.lines.specs.declared.read.Line.{Line}
use Rattle.lines.specs.Text.{take_text, empty_text}
use Rattle.lines.specs.Split.{pieces, before, behind}
use Rattle.lines.specs.Number.{none, number_of}
use Rattle.lines.specs.Line.{size_of, alone, code_of, other, command, command_of, line_of}
use Rattle.lines.proofs.Numbers.{number-read, number-unread}
use Rattle.lines.proofs.Splits.{pieces-cut, pieces_of, before-all}

-- ---- the pieces of a line by its first cut

module _ (s : List ℕ) {p : List ℕ} {r : Option (Bor (List ℕ))} (first : p ≡ before 32 s) (rest : option_map (λ t. t.now) r ≡ behind 32 s) where
  pub cut-more : (t : Bor (List ℕ)) → r ≡ Some t → pieces 32 s ≡ p ∷ pieces 32 t.now
  cut-more t e = pieces-cut 32 s ∙ ap₂ (λ (p : List ℕ) (o : Option (List ℕ)). p ∷ pieces_of 32 o) (sym first) (sym (rw e at rest))

  pub cut-last : r ≡ None → pieces 32 s ≡ p ∷ []
  cut-last e = pieces-cut 32 s ∙ ap₂ (λ (p : List ℕ) (o : Option (List ℕ)). p ∷ pieces_of 32 o) (sym first) (sym (rw e at rest))

pub cut-first : (s : List ℕ) {p : List ℕ} → p ≡ before 32 s → pieces 32 s ≡ p ∷ pieces_of 32 (behind 32 s)
cut-first s e = pieces-cut 32 s ∙ ap (λ (p : List ℕ). p ∷ pieces_of 32 (behind 32 s)) (sym e)

-- the pieces behind a first one
pub and-then : (s t : List ℕ) {p : List ℕ} {ps : List (List ℕ)} → pieces 32 s ≡ p ∷ pieces 32 t → pieces 32 t ≡ ps → pieces 32 s ≡ p ∷ ps
and-then s t {p} e h = e ∙ ap (λ (ps : List (List ℕ)). p ∷ ps) h

-- ---- a text with no number behind it

abbrev whole : ℕ → Line
whole k = record { code = k; a = 0; b = 0; c = 0 }

alone-text : (s t : List ℕ) → bytes_eq s t ≡ true → command_of (pieces 32 t) ≡ whole (alone t) → command_of (pieces 32 s) ≡ whole (alone s)
alone-text s t e h =
    let P : List ℕ → Type 0 = λ (x : List ℕ). command_of (pieces 32 x) ≡ whole (alone x) in
    subst P (sym ((bytes_eq-Decides s t).0 e)) h

alone-line : (s : List ℕ) → (alone s ≡ 0 → ⊥) → command_of (pieces 32 s) ≡ whole (alone s)
unfolding alone command_of command pieces
alone-line s n =
    ⊎_elim (λ e. alone-text s take_text e refl)
    (λ e. ⊎_elim (λ h. alone-text s empty_text h refl) (λ h. absurd (n (rw e (rw h refl)))) (cases_Bool (bytes_eq s empty_text)))
    (cases_Bool (bytes_eq s take_text))

module _ (s : List ℕ) where
  pub line-whole : {k : ℕ} → k ≡ code_of s 0 → (k ≡ 0 → ⊥) → whole k ≡ line_of s
  unfolding code_of line_of command
  line-whole {k} e n =
      ⊎_elim
      (λ z. let a : k ≡ alone s = rw z at e in
      rw z (ap whole a ∙ sym (alone-line s (λ h. n (a ∙ h)))))
      (λ z. let a : k ≡ size_of s = rw z at e in rw z (ap whole a))
      (cases_Bool (eqb (size_of s) 0))

  module _ (z : 0 ≡ code_of s 0) where
    line-fields : line_of s ≡ command_of (pieces 32 s)
    unfolding code_of line_of
    line-fields = ⊎_elim (λ e. rw e) (λ e. absurd (eqb-false (size_of s) 0 e (sym (rw e at z)))) (cases_Bool (eqb (size_of s) 0))

    not-alone : alone s ≡ 0
    unfolding code_of
    not-alone = ⊎_elim (λ e. sym (rw e at z)) (λ e. absurd (eqb-false (size_of s) 0 e (sym (rw e at z)))) (cases_Bool (eqb (size_of s) 0))

    -- a line by its pieces
    pub line-is : {l : Line} {ps : List (List ℕ)} → pieces 32 s ≡ ps → l ≡ command_of ps → l ≡ line_of s
    line-is e h = h ∙ sym (line-fields ∙ ap command_of e)

    -- one piece
    pub line-name : None ≡ behind 32 s → other ≡ line_of s
    unfolding command_of command
    line-name e = line-is (cut-last s {r = None} (sym (before-all 32 s e)) e refl) (rw not-alone refl)

-- ---- a name, and one, two or three numbers

module _ (name x : List ℕ) {a : ℕ} (p : Some a ≡ below none (number_of x)) where
  pub says-one : {k : ℕ} → k ≡ code_of name 1 → record { code = k; a = a; b = 0; c = 0 } ≡ command_of (name ∷ x ∷ [])
  unfolding code_of command_of command
  says-one e = let r = number-read x p in rw (e, r.0, r.1)

  module _ (y : List ℕ) {b : ℕ} (q : Some b ≡ below none (number_of y)) where
    pub says-two : {k : ℕ} → k ≡ code_of name 2 → record { code = k; a = a; b = b; c = 0 } ≡ command_of (name ∷ x ∷ y ∷ [])
    unfolding code_of command_of command
    says-two e = let r = number-read x p in let t = number-read y q in rw (e, r.0, r.1, t.0, t.1)

    pub says-three : (z : List ℕ) {k c : ℕ} → Some c ≡ below none (number_of z) → k ≡ code_of name 3
        → record { code = k; a = a; b = b; c = c } ≡ command_of (name ∷ x ∷ y ∷ z ∷ [])
    unfolding code_of command_of command
    says-three z h e =
        let r = number-read x p in
        let t = number-read y q in
        let u = number-read z h in
        rw (e, r.0, r.1, t.0, t.1, u.0, u.1)

    -- the third is none
    pub third-none : (z : List ℕ) (ps : List (List ℕ)) → None ≡ below none (number_of z) → other ≡ command_of (name ∷ x ∷ y ∷ z ∷ ps)
    unfolding command_of command
    third-none z [] h = let r = number-read x p in let t = number-read y q in rw (number-unread z h, r.0, r.1, t.0, t.1)
    third-none z (w ∷ ps) h = refl

  -- the second is none
  pub second-none : (y : List ℕ) (ps : List (List ℕ)) → None ≡ below none (number_of y) → other ≡ command_of (name ∷ x ∷ y ∷ ps)
  unfolding command_of command
  second-none y [] h = let r = number-read x p in rw (number-unread y h, r.0, r.1)
  second-none y (z ∷ []) h = let r = number-read x p in rw (number-unread y h, r.0, r.1)
  second-none y (z ∷ w ∷ ps) h = refl

-- the first is none
pub first-none : (name x : List ℕ) (ps : List (List ℕ)) → None ≡ below none (number_of x) → other ≡ command_of (name ∷ x ∷ ps)
unfolding command_of command
first-none name x [] h = rw (number-unread x h)
first-none name x (y ∷ []) h = rw (number-unread x h)
first-none name x (y ∷ z ∷ []) h = rw (number-unread x h)
first-none name x (y ∷ z ∷ w ∷ ps) h = refl

-- too many pieces
pub too-many : (name x y z t : List ℕ) → other ≡ command_of (name ∷ x ∷ y ∷ z ∷ pieces 32 t)
unfolding command_of
too-many name x y z t = ap (λ (ps : List (List ℕ)). command_of (name ∷ x ∷ y ∷ z ∷ ps)) (sym (pieces-cut 32 t))
