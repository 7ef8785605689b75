-- An input done in parts: the answers to a beginning of whole lines are a beginning of the answers, and the parts together print what
-- the whole does. Assumes nothing.
use mathlib.Core.Path.{◌≡◌, refl, sym, ap, ◌∙◌, subst}
use mathlib.Core.Bool.{Bool, true, false, cond}
use mathlib.Core.Logic.{⊎_elim}
use mathlib.Core.List.{List, [], ◌∷◌, ◌++◌, append-nil, append_assoc}
use Prim.Native.Nat.{ℕ, ◌<◌}
use native.Mathlib.Omega.{arith}
use lib.Dec.{eqb}
use lib.ListN.{length, take, drop}
use lib.Seq.{take_at}
use Rattle.std.proofs.lemmas.Bool.{cases_Bool}
use Rattle.lines.specs.Split.{on_first, pieces, trimmed, lines_of}
use Rattle.lines.specs.Line.{line_of}
use Rattle.lines.specs.Reply.{text, reply_to, map_after}
use Rattle.lines.specs.Session.{closed, shown, map_in, renewed, printed_on, map_on, joined, Parts, gone_on, cut, printed}
use Rattle.lines.proofs.Splits.{pieces-some, trimmed-more, lines-nil}

-- ---- the lines of two texts, the first of which ends with a line end

-- a byte in front of a text that has a line end goes to its first line
trimmed-first : (x : ℕ) (ps : List (List ℕ)) → 1 < length ps → trimmed (on_first x ps) ≡ on_first x (trimmed ps)
unfolding trimmed
trimmed-first x [] h = absurd (omega arith)
trimmed-first x (p ∷ []) h = absurd (omega arith)
trimmed-first x (p ∷ q ∷ ps) h = refl

on-first-length : (x : ℕ) (ps : List (List ℕ)) → 0 < length ps → length (on_first x ps) ≡ length ps
on-first-length x [] h = absurd (omega arith)
on-first-length x (p ∷ ps) h = refl

on-first-append : (x : ℕ) (ls ms : List (List ℕ)) → 0 < length ls → on_first x (ls ++ ms) ≡ on_first x ls ++ ms
on-first-append x [] ms h = absurd (omega arith)
on-first-append x (l ∷ ls) ms h = refl

-- a text with a line end has two pieces or more
two-pieces : (a b : List ℕ) → 1 < length (pieces 10 ((a ++ (10 ∷ [])) ++ b))
unfolding pieces
two-pieces [] b = omega (arith, pieces-some 10 b)
two-pieces (x ∷ a) b =
    let rest = (a ++ (10 ∷ [])) ++ b in
    ⊎_elim
    (λ e. rw e (omega (arith, two-pieces a b)))
    (λ e. rw e (omega (arith, two-pieces a b, on-first-length x (pieces 10 rest) (omega (arith, two-pieces a b)))))
    (cases_Bool (eqb x 10))

-- a line end in front of a text is an empty line, and another byte goes to the first line
line-end : (x : ℕ) (s : List ℕ) → eqb x 10 ≡ true → lines_of (x ∷ s) ≡ [] ∷ lines_of s
unfolding lines_of pieces
line-end x s e = rw e (trimmed-more [] (pieces 10 s) (pieces-some 10 s))

line-byte : (x : ℕ) (s : List ℕ) → eqb x 10 ≡ false → 1 < length (pieces 10 s) → lines_of (x ∷ s) ≡ on_first x (lines_of s)
unfolding lines_of pieces
line-byte x s e h = rw e (trimmed-first x (pieces 10 s) h)

-- whole lines: a text that ends with a line end
abbrev whole : List ℕ → List ℕ
whole a = a ++ (10 ∷ [])

two-whole : (a : List ℕ) → 1 < length (pieces 10 (whole a))
two-whole a = rw (append-nil (whole a)) at (two-pieces a [])

-- they have a line
some-line : (a : List ℕ) → 0 < length (lines_of (whole a))
some-line [] = omega (arith, ap length (line-end 10 [] refl))
some-line (x ∷ a) =
    ⊎_elim
    (λ e. omega (arith, ap length (line-end x (whole a) e)))
    (λ e. omega (arith, ap length (line-byte x (whole a) e (two-whole a)), on-first-length x (lines_of (whole a)) (some-line a), some-line a))
    (cases_Bool (eqb x 10))

-- and the lines of both texts are theirs and then those of the second
pub lines-append : (a b : List ℕ) → lines_of (whole a ++ b) ≡ lines_of (whole a) ++ lines_of b
lines-append [] b = line-end 10 b refl ∙ ap (λ (ls : List (List ℕ)). ls ++ lines_of b) (sym (line-end 10 [] refl ∙ ap (λ (ls : List (List ℕ)). [] ∷ ls) lines-nil))
lines-append (x ∷ a) b =
    ⊎_elim
    (λ e. line-end x (whole a ++ b) e
    ∙ ap (λ (ls : List (List ℕ)). [] ∷ ls) (lines-append a b)
    ∙ ap (λ (ls : List (List ℕ)). ls ++ lines_of b) (sym (line-end x (whole a) e)))
    (λ e. line-byte x (whole a ++ b) e (two-pieces a b)
    ∙ ap (on_first x) (lines-append a b)
    ∙ on-first-append x (lines_of (whole a)) (lines_of b) (some-line a)
    ∙ ap (λ (ls : List (List ℕ)). ls ++ lines_of b) (sym (line-byte x (whole a) e (two-whole a))))
    (cases_Bool (eqb x 10))

-- ---- what is printed for some lines and then for others

-- what comes behind lines that left the map m: nothing where a wrong first line ended it
abbrev behind : List ℕ → List (List ℕ) → List ℕ
behind m ms = cond (closed m) [] (shown m ms)

-- The answers to a beginning of the lines are a beginning of the answers.
pub shown-append : (s l : List ℕ) (ls ms : List (List ℕ)) → shown s ((l ∷ ls) ++ ms) ≡ shown s (l ∷ ls) ++ behind (map_in s (l ∷ ls)) ms
unfolding shown map_in
shown-append s l [] ms =
    let said = text (reply_to s (line_of l)) in
    let m = map_after s (line_of l) in
    by said m (closed m) refl
  where
    by : (said m : List ℕ) (b : Bool) → closed m ≡ b → said ++ cond b [] (shown m ms) ≡ (said ++ cond b [] []) ++ behind (cond b [] m) ms
    by said m true e = sym (append-nil (said ++ []))
    by said m false e = rw (e, append-nil said)
shown-append s l (l' ∷ ls) ms =
    let said = text (reply_to s (line_of l)) in
    let m = map_after s (line_of l) in
    by said m (closed m) (shown-append m l' ls ms)
  where
    by : (said m : List ℕ) (b : Bool) → shown m ((l' ∷ ls) ++ ms) ≡ shown m (l' ∷ ls) ++ behind (map_in m (l' ∷ ls)) ms
        → said ++ cond b [] (shown m ((l' ∷ ls) ++ ms)) ≡ (said ++ cond b [] (shown m (l' ∷ ls))) ++ behind (cond b [] (map_in m (l' ∷ ls))) ms
    by said m true h = sym (append-nil (said ++ []))
    by said m false h = ap (λ (x : List ℕ). said ++ x) h ∙ sym (append_assoc said (shown m (l' ∷ ls)) (behind (map_in m (l' ∷ ls)) ms))

-- the same of lines of which there is one
shown-more : (s : List ℕ) (ls ms : List (List ℕ)) → 0 < length ls → shown s (ls ++ ms) ≡ shown s ls ++ behind (map_in s ls) ms
shown-more s [] ms h = absurd (omega arith)
shown-more s (l ∷ ls) ms h = shown-append s l ls ms

shown-nil : (s : List ℕ) → shown s [] ≡ []
unfolding shown
shown-nil s = refl

no-more : (b : Bool) → cond {A = List ℕ} b [] [] ≡ []
no-more true = refl
no-more false = refl

-- a part of whole lines and what is behind it
part-more : (s p : List ℕ) → ((a : List ℕ) × (p ≡ whole a)) → (rest : List ℕ)
    → shown s (lines_of p) ++ behind (map_in s (lines_of p)) (lines_of rest) ≡ shown s (lines_of (p ++ rest))
part-more s p w rest =
    let a = w.0 in
    subst (λ (x : List ℕ). shown s (lines_of x) ++ behind (map_in s (lines_of x)) (lines_of rest) ≡ shown s (lines_of (x ++ rest))) (sym w.1)
    (sym (shown-more s (lines_of (whole a)) (lines_of rest) (some-line a)) ∙ ap (shown s) (sym (lines-append a rest)))

-- the map's words stand first among the words that a part leaves
left-map : (m store : List ℕ) → take (length m) (renewed m store) ≡ m
left-map m store = take_at m (drop (length m) store) (length m) refl

-- from the words and the map there are
parts-from : (store : List ℕ) (n : ℕ) (ps : List (List ℕ)) → Parts ps → gone_on store n ps ≡ shown (take n store) (lines_of (joined ps))
unfolding gone_on joined Parts
parts-from store n [] h = sym (ap (shown (take n store)) lines-nil ∙ shown-nil (take n store))
parts-from store n (p ∷ []) h =
    ap (λ (x : List ℕ). printed_on p store n ++ x) (no-more (closed (map_on p store n)))
    ∙ append-nil (printed_on p store n)
    ∙ ap (λ (x : List ℕ). shown (take n store) (lines_of x)) (sym (append-nil p))
parts-from store n (p ∷ q ∷ ps) h =
    let m = map_on p store n in
    ap (λ (x : List ℕ). printed_on p store n ++ cond (closed m) [] x)
    (parts-from (renewed m store) (length m) (q ∷ ps) h.1 ∙ ap (λ (x : List ℕ). shown x (lines_of (joined (q ∷ ps)))) (left-map m store))
    ∙ part-more (take n store) p h.0 (joined (q ∷ ps))

-- Calls of `go_on` over the parts of the bytes that `lines` reads print together what `lines` prints, wherever those are cut behind line
-- ends.
pub parts-together : (input store : List ℕ) (ps : List (List ℕ)) → Parts ps → joined ps ≡ cut input → gone_on store 0 ps ≡ printed input
parts-together input store ps h e = parts-from store 0 ps h ∙ ap (λ (x : List ℕ). shown [] (lines_of x)) e
