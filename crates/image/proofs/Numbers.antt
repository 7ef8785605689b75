-- Numbers and their bytes, parts of a list, and lists written into another. Assumes nothing.
use mathlib.Core.Path.{◌≡◌, refl, sym, ap, ap₂, ◌∙◌}
use mathlib.Core.List.{List, [], ◌∷◌, ◌++◌, append_assoc, append-nil}
use Prim.Native.Nat.{ℕ, zero, suc, ◌+◌, ◌*◌, ◌/◌, ◌%◌, ◌^◌, ◌<◌, ◌≤◌}
use native.Mathlib.Nat.{add-zero, add_assoc}
use native.Mathlib.Numerals.{add-one}
use native.Mathlib.Decide.{dec_lt}
use native.Mathlib.Omega.{arith}
use lib.ListN.{length, take, drop, get_or, length-append, length-take, length-drop, take-append-drop, get_or-eq_default}
use lib.Seq.{drop-cons, get_or-take, get_or-drop, take-add, drop-drop, take-take, take_at, drop_at, take-suc, drop-append-le, take-append-le}
use borrow.Rule.Slice.PartMut.{put_mid}
use Rattle.std.specs.Int.{w16, w32, to_le_bytes}
use Rattle.image.specs.Bytes.{Bytes, bytes_of, number_of, word_bytes, part, written}

-- ---- parts

part-length : (a n : ℕ) (xs : List ℕ) → a + n ≤ length xs → length (part a n xs) ≡ n
part-length a n xs h = simp (length-take, length-drop) (omega arith)

-- a part of one element more
part-cons : (a n : ℕ) (xs : List ℕ) → a < length xs → part a (suc n) xs ≡ get_or xs a 0 ∷ part (suc a) n xs
part-cons a n xs h = ap (take (suc n)) (drop-cons xs a 0 h)

-- a part in two
pub part-add : (a n m : ℕ) (xs : List ℕ) → part a (n + m) xs ≡ part a n xs ++ part (a + n) m xs
part-add a n m xs = take-add n m (drop a xs) ∙ ap (λ (l : List ℕ). take n (drop a xs) ++ take m l) (drop-drop n a xs)

-- a part of a part
pub part-part : (a b n m : ℕ) (xs : List ℕ) → b + n ≤ m → part b n (part a m xs) ≡ part (a + b) n xs
part-part a b n m xs h =
    go b m (drop a xs) h ∙ ap (take n) (drop-drop b a xs)
  where
    go : (b m : ℕ) (l : List ℕ) → b + n ≤ m → take n (drop b (take m l)) ≡ take n (drop b l)
    go zero m l h = take-take n m l (omega arith)
    go (suc b) zero l h = absurd (omega arith)
    go (suc b) (suc m) [] h = refl
    go (suc b) (suc m) (x ∷ l) h = go b m l (omega arith)

-- a part of the first of two lists, and one of the second
pub part-before : (a n : ℕ) (xs ys : List ℕ) → a + n ≤ length xs → part a n (xs ++ ys) ≡ part a n xs
part-before a n xs ys h =
    ap (take n) (drop-append-le a xs ys (omega arith)) ∙ take-append-le n (drop a xs) ys (rw length-drop (omega arith))

pub part-after : (m a n : ℕ) (xs ys : List ℕ) → length xs ≡ m → part (m + a) n (xs ++ ys) ≡ part a n ys
part-after m a n xs ys e = ap (take n) (sym (drop-drop a m (xs ++ ys)) ∙ ap (drop a) (drop_at xs ys m e))

-- bytes stay bytes
bytes-part : (a n : ℕ) (bs : List ℕ) → Bytes bs → Bytes (part a n bs)
bytes-part a n bs f i = elim (dec_lt i n) [
  | yes l ↦ rw (get_or-take n (drop a bs) i 0 l, get_or-drop) (f (a + i))
  | no l ↦ let past = length-take n (drop a bs) in rw (get_or-eq_default (part a n bs) 0 {n = i} (omega arith)) (omega arith)
]

-- ---- a number and its bytes

pub length-bytes : (n v : ℕ) → length (bytes_of n v) ≡ n
unfolding bytes_of
length-bytes zero v = refl
length-bytes (suc n) v = ap suc (length-bytes n (v / 256))

-- the bytes of a number below 256 ^ n have that number
pub number-bytes : (n v : ℕ) → v < 256 ^ n → number_of (bytes_of n v) ≡ v
unfolding bytes_of number_of
number-bytes zero v h = omega arith
number-bytes (suc n) v h = omega (arith, number-bytes n (v / 256) (omega arith))

-- and the number of n bytes has those bytes
bytes-number : (bs : List ℕ) → Bytes bs → bytes_of (length bs) (number_of bs) ≡ bs
unfolding bytes_of number_of
bytes-number [] f = refl
bytes-number (b ∷ bs) f =
    let low : (b + 256 * number_of bs) % 256 ≡ b = omega (arith, f 0) in
    let high : (b + 256 * number_of bs) / 256 ≡ number_of bs = omega (arith, f 0) in
    rw (low, high, bytes-number bs (λ i. f (suc i)))

-- of n bytes within a list
pub bytes-read : (n a : ℕ) (bs : List ℕ) → Bytes bs → a + n ≤ length bs → bytes_of n (number_of (part a n bs)) ≡ part a n bs
bytes-read n a bs f h =
    ap (λ (m : ℕ). bytes_of m (number_of (part a n bs))) (sym (part-length a n bs h)) ∙ bytes-number (part a n bs) (bytes-part a n bs f)

-- 2 bytes, as the code reads them
pub number-two : (bs : List ℕ) (a : ℕ) → a + 2 ≤ length bs → number_of (part a 2 bs) ≡ get_or bs a 0 + 256 * get_or bs (a + 1) 0
unfolding number_of
number-two bs a h =
    rw (part-cons a 1 bs (omega arith), part-cons (suc a) 0 bs (omega arith), add-one)
    (omega arith)

-- and 4 bytes
pub number-four : (bs : List ℕ) (a : ℕ) → a + 4 ≤ length bs
    → number_of (part a 4 bs) ≡ get_or bs a 0 + 256 * get_or bs (a + 1) 0 + 65536 * get_or bs (a + 2) 0 + 16777216 * get_or bs (a + 3) 0
unfolding number_of
number-four bs a h =
    let second : suc a ≡ a + 1 = omega arith in
    let third : suc (suc a) ≡ a + 2 = omega arith in
    let fourth : suc (suc (suc a)) ≡ a + 3 = omega arith in
    rw (part-cons a 3 bs (omega arith), part-cons (suc a) 2 bs (omega arith), part-cons (suc (suc a)) 1 bs (omega arith), part-cons (suc (suc (suc a))) 0 bs (omega arith), fourth, third, second)
    (omega arith)

-- the bytes of a number's two halves are its own
pub bytes-four : (v : ℕ) → bytes_of 2 (v % 65536) ++ bytes_of 2 (v / 65536) ≡ bytes_of 4 v
unfolding bytes_of
bytes-four v =
    let first : v % 65536 % 256 ≡ v % 256 = omega arith in
    let second : v % 65536 / 256 % 256 ≡ v / 256 % 256 = omega arith in
    let third : v / 65536 ≡ v / 256 / 256 = omega arith in
    rw (first, second, third)

-- the bytes of a word and of a number of 4 bytes, as std has them; of the number by its halves
pub two-bytes : (w : ℕ) → to_le_bytes w16 w ≡ bytes_of 2 w
unfolding bytes_of
two-bytes w = refl

pub four-bytes : (n : ℕ) → to_le_bytes w32 n ≡ bytes_of 4 n
unfolding bytes_of
four-bytes n =
    let first : n % 65536 % 256 ≡ n % 256 = omega arith in
    let second : n % 65536 / 256 % 256 ≡ n / 256 % 256 = omega arith in
    let fourth : n / 16777216 ≡ n / 65536 / 256 = omega arith in
    let halves : to_le_bytes w32 n ≡ bytes_of 2 (n % 65536) ++ bytes_of 2 (n / 65536) = rw (first, second, fourth) in
    halves ∙ bytes-four n

-- ---- words as bytes

pub length-words : (ws : List ℕ) → length (word_bytes ws) ≡ 2 * length ws
unfolding word_bytes
length-words [] = refl
length-words (w ∷ ws) = length-append (bytes_of 2 w) (word_bytes ws) ∙ ap₂ ◌+◌ (length-bytes 2 w) (length-words ws) ∙ omega arith

words-append : (vs ws : List ℕ) → word_bytes (vs ++ ws) ≡ word_bytes vs ++ word_bytes ws
unfolding word_bytes
words-append [] ws = refl
words-append (v ∷ vs) ws = rw (words-append vs ws, append_assoc)

-- one word more
pub words-more : (ws : List ℕ) (j : ℕ) → j < length ws → word_bytes (take (suc j) ws) ≡ word_bytes (take j ws) ++ bytes_of 2 (get_or ws j 0)
unfolding word_bytes
words-more ws j l =
    ap word_bytes (take-suc ws j 0 l) ∙ words-append (take j ws) (get_or ws j 0 ∷ []) ∙ ap (λ (l : List ℕ). word_bytes (take j ws) ++ l) (append-nil (bytes_of 2 (get_or ws j 0)))

-- a word among them
pub words-part : (ws : List ℕ) (j : ℕ) → j < length ws → part (2 * j) 2 (word_bytes ws) ≡ bytes_of 2 (get_or ws j 0)
unfolding word_bytes
words-part [] j l = absurd (omega arith)
words-part (w ∷ ws) zero l = take_at (bytes_of 2 w) (word_bytes ws) 2 (length-bytes 2 w)
words-part (w ∷ ws) (suc j) l =
    let next : 2 * suc j ≡ 2 + 2 * j = omega arith in
    ap (λ (n : ℕ). part n 2 (bytes_of 2 w ++ word_bytes ws)) next
    ∙ part-after 2 (2 * j) 2 (bytes_of 2 w) (word_bytes ws) (length-bytes 2 w)
    ∙ words-part ws j (omega arith)

-- the bytes that the words were read from
pub words-read : (ws bs : List ℕ) (a : ℕ) → Bytes bs → a + 2 * length ws ≤ length bs
    → ((j : ℕ) → j < length ws → get_or ws j 0 ≡ number_of (part (a + 2 * j) 2 bs)) → word_bytes ws ≡ part a (2 * length ws) bs
unfolding word_bytes
words-read [] bs a f h e = refl
words-read (w ∷ ws) bs a f h e =
    let size : 2 * suc (length ws) ≡ 2 + 2 * length ws = omega arith in
    let first : a + 2 * 0 ≡ a = omega arith in
    ap₂ ◌++◌
    (ap (bytes_of 2) (e 0 (omega arith) ∙ ap (λ (n : ℕ). number_of (part n 2 bs)) first) ∙ bytes-read 2 a bs f (omega arith))
    (words-read ws bs (a + 2) f (omega arith) (λ j l.
    let next : a + 2 * suc j ≡ a + 2 + 2 * j = omega arith in
    e (suc j) (omega arith) ∙ ap (λ (n : ℕ). number_of (part n 2 bs)) next))
    ∙ sym (ap (λ (n : ℕ). part a n bs) size ∙ part-add a 2 (2 * length ws) bs)

-- ---- a list written into another

pub length-written : (a : ℕ) (xs t : List ℕ) → a + length xs ≤ length t → length (written a xs t) ≡ length t
unfolding written
length-written a xs t h = simp (length-append, length-take, length-drop) (omega arith)

-- nothing is written
pub written-none : (a : ℕ) (t : List ℕ) → written a [] t ≡ t
unfolding written
written-none a t = rw add-zero (take-append-drop a t)

-- one list of n elements, and one after it
pub written-more : (a n : ℕ) (xs ys t : List ℕ) → length xs ≡ n → a + n ≤ length t → written (a + n) ys (written a xs t) ≡ written a (xs ++ ys) t
unfolding written
written-more a n xs ys t e h =
    let p = take a t in
    let q = drop (a + n) t in
    let whole : length (p ++ xs) ≡ a + n = simp (length-append, length-take) (omega arith) in
    rw (e, length-append xs ys, e, ← add_assoc, ← append_assoc p xs q, take_at (p ++ xs) q (a + n) whole, append_assoc xs ys)
    (append_assoc p xs _ ∙ ap (λ (r : List ℕ). p ++ (xs ++ (ys ++ r)))
    (sym (drop-drop (length ys) (a + n) ((p ++ xs) ++ q)) ∙ ap (drop (length ys)) (drop_at (p ++ xs) q (a + n) whole) ∙ drop-drop (length ys) (a + n) t))

-- a part that was copied over, as the code writes its bytes
pub put-written : (a k : ℕ) (xs ys t : List ℕ) → ys ≡ xs → length ys ≡ k → put_mid a k t ys ≡ written a xs t
unfolding written
put-written a k xs ys t e h = rw (← h, e, drop-drop (length xs) a t)

-- what was written at the front is read there
pub take-written : (n : ℕ) (xs t : List ℕ) → length xs ≡ n → take n (written 0 xs t) ≡ xs
unfolding written
take-written n xs t e = take_at xs (drop (0 + length xs) t) n e
