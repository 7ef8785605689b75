-- The laws of writing bytes one after the other. Assumes nothing.
use mathlib.Core.Path.{◌≡◌, refl, sym, ap, ap₂, ◌∙◌}
use mathlib.Core.List.{List, [], ◌∷◌, ◌++◌, append-nil, append_assoc}
use Prim.Native.Nat.{ℕ, suc, ◌+◌, ◌-◌, ◌≤◌, ◌<◌}
use native.Mathlib.Nat.{add-zero, zero-add}
use native.Mathlib.Omega.{arith}
use Rattle.std.proofs.lemmas.List.{set_at, take_all}
use borrow.Rule.Slice.PartMut.{put_mid}
use lib.ListN.{length, get_or, take, drop, set, length-append, length-drop, drop_of_length-le}
use lib.Seq.{drop-cons, drop-drop, sets, sets-eq, take_at, drop_at}
use Rattle.lines.specs.Session.{renewed}

-- one text and then another
put-append : (s t u : List ℕ) (at : ℕ) → sets s at (t ++ u) ≡ sets (sets s at t) (at + length t) u
put-append s [] u at = rw add-zero
put-append s (b ∷ t) u at =
    let n : suc at + length t ≡ at + suc (length t) = omega arith in
    put-append (set s at b) t u (suc at) ∙ ap (λ (k : ℕ). sets (sets (set s at b) (suc at) t) k u) n

-- u was written where t ended
pub put-then : (s t u : List ℕ) (at : ℕ) {l m : List ℕ} {r : ℕ} → l ≡ sets s at t → r ≡ at + length t → m ≡ sets l r u → m ≡ sets s at (t ++ u)
put-then s t u at e n h = h ∙ ap₂ (λ (x : List ℕ) (k : ℕ). sets x k u) e n ∙ sym (put-append s t u at)

pub named-length : (t u : List ℕ) (b : ℕ) → length (t ++ (u ++ (b ∷ []))) ≡ length t + length u + 1
named-length t u b =
    let e = length-append u (b ∷ []) in
    omega (arith, length-append t (u ++ (b ∷ [])))

-- a text from the start on
pub put-front : (s t : List ℕ) → length t ≤ length s → sets s 0 t ≡ renewed t s
put-front s t h = sets-eq t s 0 (omega arith) ∙ ap (λ (k : ℕ). t ++ drop k s) (zero-add (length t))

-- ---- from the front of what is left on

pub renewed-append : (s t u : List ℕ) → renewed (t ++ u) s ≡ t ++ renewed u (drop (length t) s)
renewed-append s t u =
    append_assoc t u (drop (length (t ++ u)) s)
    ∙ ap (λ (x : List ℕ). t ++ (u ++ x)) (ap (λ (k : ℕ). drop k s) (length-append t u) ∙ sym (drop-drop (length u) (length t) s))

-- a byte behind a text
pub renewed-byte : (s t : List ℕ) (b : ℕ) → length t < length s → set (renewed t s) (length t) b ≡ renewed (t ++ (b ∷ [])) s
renewed-byte s t b l =
    let n : length t + 1 ≡ suc (length t) = omega arith in
    ap (λ (x : List ℕ). set (t ++ x) (length t) b) (drop-cons s (length t) 0 l)
    ∙ set_at t (get_or s (length t) 0) (drop (suc (length t)) s) b (length t) refl
    ∙ ap (λ (x : List ℕ). t ++ b ∷ x) (sym (drop-drop 1 (length t) s ∙ ap (λ (k : ℕ). drop k s) n))
    ∙ sym (renewed-append s t (b ∷ []))

-- the same where the text and its length are what a call left and answered
pub written-byte : (s t : List ℕ) (b : ℕ) {w : List ℕ} {n : ℕ} → length t < length s → w ≡ renewed t s → n ≡ length t
    → set w n b ≡ renewed (t ++ (b ∷ [])) s
written-byte s t b l e h = ap₂ (λ (x : List ℕ) (k : ℕ). set x k b) e h ∙ renewed-byte s t b l

-- what is lent of s from `at` on
pub left : (s : List ℕ) (at : ℕ) → take (length s - at) (drop at s) ≡ drop at s
left s at = take_all (length s - at) (drop at s) (omega (arith, length-drop at s))

-- and what has come back there
pub back : (s t : List ℕ) (at : ℕ) → put_mid at (length s - at) s t ≡ take at s ++ t
back s t at =
    ap (λ (x : List ℕ). take at s ++ (t ++ x)) (drop_of_length-le (drop at s) {i = length s - at} (omega (arith, length-drop at s)))
    ∙ ap (λ (x : List ℕ). take at s ++ x) (append-nil t)

-- a text behind another that a call wrote, of the length that it answered
pub written-behind : (s t u : List ℕ) {w : List ℕ} {n : ℕ} → w ≡ renewed t s → n ≡ length t
    → {v : List ℕ} → v ≡ renewed u (take (length w - n) (drop n w)) → put_mid n (length w - n) w v ≡ renewed (t ++ u) s
written-behind s t u {w} {n} e h {v} k =
    back w v n
    ∙ ap (λ (x : List ℕ). take n w ++ x) (k ∙ ap (renewed u) (left w n))
    ∙ ap₂ (λ (x y : List ℕ). x ++ renewed u y)
    (ap (take n) e ∙ take_at t (drop (length t) s) n (sym h))
    (ap (drop n) e ∙ drop_at t (drop (length t) s) n (sym h))
    ∙ sym (renewed-append s t u)

-- a text from `at` on
pub written-at : (s t : List ℕ) (at : ℕ) → at + length t ≤ length s → {v : List ℕ} → v ≡ renewed t (take (length s - at) (drop at s))
    → put_mid at (length s - at) s v ≡ sets s at t
written-at s t at h {v} k =
    back s v at
    ∙ ap (λ (x : List ℕ). take at s ++ x) (k ∙ ap (renewed t) (left s at))
    ∙ sym (append_assoc (take at s) t (drop (length t) (drop at s)))
    ∙ ap (λ (x : List ℕ). take at s ++ t ++ x) (drop-drop (length t) at s)
    ∙ sym (sets-eq t s at h)
