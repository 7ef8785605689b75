-- The laws of one reply: how long its text is, and what a map that it opens makes of the words. Assumes nothing.
use mathlib.Core.Bool.{and-false}
use mathlib.Core.Path.{◌≡◌, refl, sym, ap, ap₂, ◌∙◌, subst}
use mathlib.Core.Logic.{⊎_elim}
use mathlib.Core.List.{List, [], ◌∷◌, ◌++◌}
use Prim.Native.Nat.{ℕ, ◌+◌, ◌-◌, ◌*◌, ◌≤◌}
use native.Mathlib.Omega.{arith}
use borrow.Author.Tests.{leb-true, leb-false}
use lib.Dec.{eqb, leb}
use lib.ListN.{length, take, drop, get_or, replicate, length-replicate, take-append-drop}
use lib.Seq.{drop_at}
use Rattle.lines.specs.declared.read.Line.{Line}
use Rattle.lines.specs.Split.{pieces}
use Rattle.lines.specs.Number.{decimal, digits, number_of}
use Rattle.lines.specs.Line.{size_of, alone, with_one, command, command_of, line_of}
use Rattle.lines.specs.Reply.{Reply, Map, At, Done, Yes, Not, No, text, replies, afters, allowed, reply_to, opened, map_after}
use Rattle.lines.specs.Session.{most_words, renewed}
use Rattle.std.proofs.lemmas.Bool.{cases_Bool}
use Rattle.lines.proofs.Numbers.{digits-le}
use Rattle.lines.proofs.Puts.{named-length}

-- ---- its text

-- at most 10 bytes
text-le : (r : Reply) → length (text r) ≤ 10
unfolding text
text-le (Map n w) = omega (arith, named-length (109 ∷ 97 ∷ 112 ∷ 32 ∷ []) (decimal n) 10, digits-le 5 n)
text-le (At p) = omega (arith, named-length (97 ∷ 116 ∷ 32 ∷ []) (decimal p) 10, digits-le 5 p)
text-le Done = omega arith
text-le Yes = omega arith
text-le Not = omega arith
text-le (No n) = omega (arith, named-length (110 ∷ 111 ∷ 32 ∷ []) (decimal n) 10, digits-le 5 n)

-- a line of no byte or one is of another form
short-code : (l : List ℕ) → length l ≤ 1 → (line_of l).code ≡ 0
unfolding line_of size_of pieces command_of command alone with_one number_of
short-code [] h = refl
short-code (b ∷ []) h =
    rw (and-false (eqb b 115))
    (⊎_elim (λ e. rw e refl) (λ e. rw e (rw (and-false (eqb b 116), and-false (eqb b 101)) refl)) (cases_Bool (eqb b 32)))
short-code (b ∷ d ∷ l) h = absurd (omega arith)

allowed-none : (n : ℕ) → allowed n 0 ≡ 0
unfolding allowed
allowed-none n = ⊎_elim (λ e. rw e) (λ e. rw e) (cases_Bool (eqb n 0))

short-reply : (s l : List ℕ) → length l ≤ 1 → reply_to s (line_of l) ≡ No 10
unfolding reply_to replies
short-reply s l h =
    ap (λ (k : ℕ). get_or (replies (line_of l).a (line_of l).b (line_of l).c s) (allowed (length s) k) (No 10)) (short-code l h)
    ∙ ap (λ (k : ℕ). get_or (replies (line_of l).a (line_of l).b (line_of l).c s) k (No 10)) (allowed-none (length s))

refusal-length : length (text (No 10)) ≡ 6
unfolding text digits
refusal-length = refl

-- at most 6 bytes for each byte of the line, and 6 for an empty one
pub text-room : (s l : List ℕ) → length (text (reply_to s (line_of l))) ≤ 6 + 6 * (length l - 1)
text-room s l =
    ⊎_elim
    (λ h. omega (arith, ap (λ (r : Reply). length (text r)) (short-reply s l (leb-true (length l) 1 h)), refusal-length))
    (λ h. omega (arith, text-le (reply_to s (line_of l)), leb-false (length l) 1 h))
    (cases_Bool (leb (length l) 1))

-- ---- a map that it opens

-- a reply that opens a map comes where there is none, and leaves its words
abbrev pub Fine : Reply → List ℕ → List ℕ → Type 0
Fine (Map n w) t s = (t ≡ s) × (w ≤ most_words) × (length s ≡ 0)
Fine (At p) t s = Unit
Fine Done t s = Unit
Fine Yes t s = Unit
Fine Not t s = Unit
Fine (No n) t s = Unit

-- the words that it takes are there
pub opened-room : (r : Reply) (t s : List ℕ) (m : ℕ) → Fine r t s → most_words ≤ m → length t ≤ m → length (opened r t) ≤ m
opened-room (Map n w) t s m f h l = omega (arith, length-replicate {A = ℕ} w 0)
opened-room (At p) t s m f h l = l
opened-room Done t s m f h l = l
opened-room Yes t s m f h l = l
opened-room Not t s m f h l = l
opened-room (No n) t s m f h l = l

-- a map never gets smaller
pub opened-more : (r : Reply) (t s : List ℕ) → Fine r t s → length t ≡ length s → length s ≤ length (opened r t)
opened-more (Map n w) t s f l = omega arith
opened-more (At p) t s f l = omega arith
opened-more Done t s f l = omega arith
opened-more Yes t s f l = omega arith
opened-more Not t s f l = omega arith
opened-more (No n) t s f l = omega arith

-- the words after it, where t has come back in the place of the first n
module _ (t old : List ℕ) (n : ℕ) (l : length t ≡ n) where
  kept : renewed t (t ++ drop n old) ≡ renewed t old
  kept = ap (λ (x : List ℕ). t ++ x) (drop_at t (drop n old) (length t) refl ∙ ap (λ (k : ℕ). drop k old) (sym l))

  pub opened-renewed : (r : Reply) → Fine r t (take n old) → renewed (opened r t) (t ++ drop n old) ≡ renewed (opened r t) old
  opened-renewed (Map m w) f =
      ap (renewed (replicate w 0)) (ap (λ (x : List ℕ). x ++ drop n old) f.0 ∙ take-append-drop n old)
  opened-renewed (At p) f = kept
  opened-renewed Done f = kept
  opened-renewed Yes f = kept
  opened-renewed Not f = kept
  opened-renewed (No m) f = kept

-- ---- a line's reply and the map after it, from the table at the line's number
module _ (s : List ℕ) (l : Line) {n code : ℕ} (len : length s ≡ n) (is : code ≡ allowed n l.code) where
  number-is : code ≡ allowed (length s) l.code
  number-is = is ∙ ap (λ (k : ℕ). allowed k l.code) (sym len)

  pub reply-is : get_or (replies l.a l.b l.c s) code (No 10) ≡ reply_to s l
  unfolding reply_to
  reply-is = ap (λ (k : ℕ). get_or (replies l.a l.b l.c s) k (No 10)) number-is

  pub map-is : (r : Reply) (t : List ℕ) → r ≡ reply_to s l → t ≡ get_or (afters l.a l.b l.c s) code s → opened r t ≡ map_after s l
  unfolding map_after
  map-is r t e h = ap₂ opened e (h ∙ ap (λ (k : ℕ). get_or (afters l.a l.b l.c s) k s) number-is)

  pub fine-is : (r : Reply) (t : List ℕ) → r ≡ get_or (replies l.a l.b l.c s) code (No 10) → t ≡ get_or (afters l.a l.b l.c s) code s
      → Fine (get_or (replies l.a l.b l.c s) (allowed (length s) l.code) (No 10)) (get_or (afters l.a l.b l.c s) (allowed (length s) l.code) s) s
      → Fine r t s
  fine-is r t e h f =
      subst (λ (x : Reply). Fine x t s) (sym (e ∙ ap (λ (k : ℕ). get_or (replies l.a l.b l.c s) k (No 10)) number-is))
      (subst (λ (y : List ℕ). Fine (get_or (replies l.a l.b l.c s) (allowed (length s) l.code) (No 10)) y s)
      (sym (h ∙ ap (λ (k : ℕ). get_or (afters l.a l.b l.c s) k s) number-is))
      f)
