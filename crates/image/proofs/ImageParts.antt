-- The sections of an image: where they stand, and what is read from them. Assumes nothing.
use mathlib.Core.Path.{◌≡◌, refl, sym, ap, ap₂, ◌∙◌}
use mathlib.Core.List.{List, ◌++◌, append_assoc}
use Prim.Native.Nat.{ℕ, zero, suc, ◌+◌, ◌*◌, ◌<◌, ◌≤◌}
use native.Mathlib.Numerals.{add-one}
use native.Mathlib.Omega.{arith}
use lib.ListN.{length, take, get_or, length-append}
use lib.Seq.{length-take-le, take-length}
use Rattle.words.specs.Tree.{row}
use Rattle.image.specs.Bytes.{bytes_of, number_of, word_bytes, part, written}
use Rattle.words.specs.Place.{count}
use Rattle.image.specs.Depths.{depth_words}
use Rattle.image.specs.Image.{section, opening, image, start, image_length}
use Rattle.image.specs.Reading.{count_in, word_in}
use Rattle.image.proofs.Numbers.{length-bytes, length-words, words-more, written-none, written-more}
use Rattle.image.proofs.InDepth.{length-depth}
use Rattle.image.proofs.Starts.{start-more, start-small, start-le}

-- ---- the sections in their order

pub length-section : (ws : List ℕ) → length (section ws) ≡ 4 + 2 * length ws
unfolding section
length-section ws = length-append (bytes_of 4 (length ws)) (word_bytes ws) ∙ ap₂ ◌+◌ (length-bytes 4 (length ws)) (length-words ws)

-- the image of a map s of level k up to the section of depth d
unfoldable pub begun : ℕ → List ℕ → ℕ → List ℕ
begun k s d = opening k ++ row (λ e. section (depth_words k e s)) d

module _ (k : ℕ) (s : List ℕ) where
  pub begun-more : (d : ℕ) → begun k s (suc d) ≡ begun k s d ++ section (depth_words k d s)
  unfolding begun row
  begun-more d = sym (append_assoc (opening k) (row (λ e. section (depth_words k e s)) d) (section (depth_words k d s)))

  pub length-begun : (d : ℕ) → d ≤ suc k → length (begun k s d) ≡ start d
  unfolding begun row start opening
  length-begun zero h = refl
  length-begun (suc d) h =
      ap length (begun-more d)
      ∙ length-append (begun k s d) (section (depth_words k d s))
      ∙ ap₂ ◌+◌ (length-begun d (omega arith)) (length-section (depth_words k d s) ∙ ap (λ (n : ℕ). 4 + 2 * n) (length-depth k d s (omega arith)))

  pub length-image : length (image k s) ≡ image_length k
  unfolding image begun
  length-image = length-begun (suc k) (omega arith)

-- ---- as the code writes them

-- the words of a section, one after the other, from the place a on: word j is written after those before it
pub word-written : (a j : ℕ) (ws t u : List ℕ) (w : ℕ) → j < length ws → a + 2 * length ws ≤ length t → u ≡ written a (word_bytes (take j ws)) t
    → w ≡ get_or ws j 0 → written (a + 2 * j) (bytes_of 2 w) u ≡ written a (word_bytes (take (j + 1) ws)) t
word-written a j ws t u w l h eu ew =
    ap (written (a + 2 * j) (bytes_of 2 w)) eu
    ∙ written-more a (2 * j) (word_bytes (take j ws)) (bytes_of 2 w) t
    (length-words (take j ws) ∙ ap (λ (n : ℕ). 2 * n) (length-take-le j ws (omega arith))) (omega arith)
    ∙ ap (λ (x : List ℕ). written a x t)
    (sym (ap (λ (n : ℕ). word_bytes (take n ws)) (add-one j) ∙ words-more ws j l ∙ ap (λ (x : ℕ). word_bytes (take j ws) ++ bytes_of 2 x) (sym ew)))

-- its count first, and then all its words
pub section-written : (a n j : ℕ) (ws t u : List ℕ) → j ≡ n → n ≡ length ws → u ≡ written a (bytes_of 4 n) t → a + 4 ≤ length t
    → written (a + 4) (word_bytes (take j ws)) u ≡ written a (section ws) t
unfolding section
section-written a n j ws t u ej en eu h =
    ap₂ (λ (m : ℕ) (l : List ℕ). written (a + 4) (word_bytes (take m ws)) l) ej eu
    ∙ written-more a 4 (bytes_of 4 n) (word_bytes (take n ws)) t (length-bytes 4 n) h
    ∙ ap₂ (λ (x : ℕ) (l : List ℕ). written a (bytes_of 4 x ++ word_bytes l) t) en (ap (λ (x : ℕ). take x ws) en ∙ take-length ws)

-- one section more
pub begun-written : (k : ℕ) (s t u : List ℕ) (d : ℕ) → d ≤ k → start d ≤ length t → u ≡ written 0 (begun k s d) t
    → written (start d) (section (depth_words k d s)) u ≡ written 0 (begun k s (d + 1)) t
begun-written k s t u d l h e =
    let from : 0 + start d ≡ start d = omega arith in
    ap₂ (λ (n : ℕ) (x : List ℕ). written n (section (depth_words k d s)) x) (sym from) e
    ∙ written-more 0 (start d) (begun k s d) (section (depth_words k d s)) t (length-begun k s d (omega arith)) (omega arith)
    ∙ ap (λ (x : List ℕ). written 0 x t) (sym (ap (begun k s) (add-one d) ∙ begun-more k s d))

-- all of them
pub image-written : (k : ℕ) (s t u : List ℕ) (d : ℕ) → d ≡ suc k → u ≡ written 0 (begun k s d) t → u ≡ written 0 (image k s) t
unfolding image begun
image-written k s t u d ed e = e ∙ ap (λ (n : ℕ). written 0 (begun k s n) t) ed

pub none-written : (k : ℕ) (s t : List ℕ) → written 0 (begun k s 0) t ≡ t
unfolding begun row opening
none-written k s t = written-none 0 t

-- ---- as the code reads them

-- 4 bytes at the start of the section of depth d
pub count-read : (bytes : List ℕ) (d : ℕ) {r a : ℕ} → r ≡ number_of (part a 4 bytes) → a ≡ start d → r ≡ count_in bytes d
unfolding count_in
count-read bytes d e h = e ∙ ap (λ (x : ℕ). number_of (part x 4 bytes)) h

-- 2 bytes at word j of the section of depth d
pub word-read : (bytes : List ℕ) (d j : ℕ) {r a : ℕ} → r ≡ number_of (part (a + 4 + 2 * j) 2 bytes) → a ≡ start d → r ≡ word_in bytes d j
unfolding word_in
word-read bytes d j e h = e ∙ ap (λ (x : ℕ). number_of (part (x + 4 + 2 * j) 2 bytes)) h

-- word j of the section of depth d ends within the image
pub word-inside : (k d j : ℕ) → k ≤ 6 → d ≤ k → j < count d → (start d + 4 + 2 * j + 2 ≤ image_length k) × (image_length k ≤ 35791422)
word-inside k d j h le l = (omega (arith, start-more d, start-le (suc d) (suc k) (omega arith)), start-small (suc k) (omega arith))
