-- An image and its map tell of each other: the map that an image holds is the one that it was made of, and the image of the map that
-- bytes hold is those bytes. Assumes nothing.
use mathlib.Core.Path.{◌≡◌, refl, sym, ap, ap₂, ◌∙◌}
use mathlib.Core.Bool.{true}
use mathlib.Core.List.{List, ◌++◌}
use Prim.Native.Nat.{ℕ, zero, suc, ◌+◌, ◌-◌, ◌*◌, ◌^◌, ◌<◌, ◌≤◌}
use native.Mathlib.Nat.{add_assoc, add-zero}
use native.Mathlib.Decide.{dec_lt}
use native.Mathlib.Omega.{arith}
use lib.ListN.{length, take, get_or, get_or-eq_default}
use lib.Seq.{take-add, take_all, take_at, ext_get_or}
use borrow.Author.Tests.{eq-eqb, eqb-true}
use Rattle.words.specs.Sizes.{words}
use Rattle.words.specs.Tree.{Fits, row}
use Rattle.words.proofs.Search.{all-at, all-is}
use Rattle.image.specs.Bytes.{Bytes, bytes_of, number_of, word_bytes, part}
use Rattle.words.specs.Place.{count, place}
use Rattle.image.specs.Depths.{depth_words}
use Rattle.image.specs.Image.{section, opening, image, start, image_length}
use Rattle.image.specs.Reading.{count_in, counted, word_in, map_of}
use Rattle.image.proofs.Numbers.{part-before, part-after, part-add, part-part, length-bytes, number-bytes, bytes-read, number-two, words-part, words-read}
use Rattle.words.proofs.Places.{count-small}
use Rattle.image.proofs.Starts.{start-more, start-le}
use Rattle.image.proofs.InDepth.{length-depth, depth-at, length-map, map-top, placed}
use Rattle.image.proofs.ImageParts.{length-section, begun, begun-more, length-begun}

-- ---- what an image holds

module _ (k : ℕ) (s : List ℕ) where
  -- a section stands at its place
  begun-part : (n d : ℕ) → d < n → n ≤ suc k → part (start d) (4 + 2 * count d) (begun k s n) ≡ section (depth_words k d s)
  begun-part zero d l h = absurd (omega arith)
  begun-part (suc n) d l h =
      let len = length-begun k s n (omega arith) in
      let size : length (section (depth_words k n s)) ≡ 4 + 2 * count n = length-section (depth_words k n s) ∙ ap (λ (m : ℕ). 4 + 2 * m) (length-depth k n s (omega arith)) in
      elim (dec_lt d n) [
        | yes lt ↦ ap (part (start d) (4 + 2 * count d)) (begun-more k s n)
            ∙ part-before (start d) (4 + 2 * count d) (begun k s n) (section (depth_words k n s)) (omega (arith, len, start-more d, start-le (suc d) n lt))
            ∙ begun-part n d lt (omega arith)
        | no ge ↦ let last : d ≡ n = omega arith in
            rw last (ap (part (start n) (4 + 2 * count n)) (begun-more k s n)
            ∙ ap (λ (m : ℕ). part m (4 + 2 * count n) (begun k s n ++ section (depth_words k n s))) (sym (add-zero (start n)))
            ∙ part-after (start n) 0 (4 + 2 * count n) (begun k s n) (section (depth_words k n s)) len
            ∙ take_all (4 + 2 * count n) (section (depth_words k n s)) (omega arith))
      ]

  module _ (d : ℕ) (le : d ≤ k) where
    section-part : part (start d) (4 + 2 * count d) (image k s) ≡ section (depth_words k d s)
    unfolding image begun
    section-part = begun-part (suc k) d (omega arith) (omega arith)

    -- a part of a section
    inner : (a n : ℕ) → a + n ≤ 4 + 2 * count d → part (start d + a) n (image k s) ≡ part a n (section (depth_words k d s))
    inner a n h = sym (part-part (start d) a n (4 + 2 * count d) (image k s) h) ∙ ap (part a n) section-part

    count-image : d ≤ 6 → count_in (image k s) d ≡ count d
    unfolding count_in section
    count-image small =
        ap (λ (n : ℕ). number_of (part n 4 (image k s))) (sym (add-zero (start d)))
        ∙ ap number_of (inner 0 4 (omega arith) ∙ take_at (bytes_of 4 (length (depth_words k d s))) (word_bytes (depth_words k d s)) 4 (length-bytes 4 (length (depth_words k d s))))
        ∙ number-bytes 4 (length (depth_words k d s)) (omega (arith, length-depth k d s le, count-small d small))
        ∙ length-depth k d s le

    word-image : Fits s → (j : ℕ) → j < count d → word_in (image k s) d j ≡ get_or (depth_words k d s) j 0
    unfolding word_in section
    word-image f j l =
        let ws = depth_words k d s in
        let small : get_or ws j 0 < 2 ^ 16 = rw (depth-at (k - d) d k j s (omega arith) l) (f (place (k - d) d j)) in
        ap (λ (n : ℕ). number_of (part n 2 (image k s))) (add_assoc (start d) 4 (2 * j))
        ∙ ap number_of (inner (4 + 2 * j) 2 (omega arith) ∙ part-after 4 (2 * j) 2 (bytes_of 4 (length ws)) (word_bytes ws) (length-bytes 4 (length ws))
        ∙ words-part ws j (omega (arith, length-depth k d s le)))
        ∙ number-bytes 2 (get_or ws j 0) (omega arith)

  -- it has its counts
  pub counted-image : k ≤ 6 → counted k (image k s) ≡ true
  unfolding counted
  counted-image small = all-is _ 0 (suc k) (λ d _ l. eq-eqb _ _ (count-image d (omega arith) (omega arith)))

  -- and it holds the map that it was made of
  pub map-image : length s ≡ words k → Fits s → map_of k (image k s) ≡ s
  unfolding map_of
  map-image len f = ext_get_or 0 (map_of k (image k s)) s (length-map (word_in (image k s)) k 0 ∙ sym len) (λ p l.
      let q = placed k p (omega (arith, length-map (word_in (image k s)) k 0)) in
      ap (λ (n : ℕ). get_or (map_of k (image k s)) n 0) (sym q.is)
      ∙ map-top (word_in (image k s)) q.below q.depth k q.index q.levels q.index-lt
      ∙ word-image q.depth (omega (arith, q.levels)) f q.index q.index-lt
      ∙ depth-at q.below q.depth k q.index s q.levels q.index-lt
      ∙ ap (λ (n : ℕ). get_or s n 0) q.is)

-- ---- the image of what bytes hold

module _ (k : ℕ) (bytes : List ℕ) (len : length bytes ≡ image_length k) (fits : Bytes bytes) where
  -- a map's words are those read from the sections
  level-of-map : (d : ℕ) → d ≤ k → (j : ℕ) → j < count d → get_or (depth_words k d (map_of k bytes)) j 0 ≡ word_in bytes d j
  unfolding map_of
  level-of-map d le j l =
      depth-at (k - d) d k j (map_of k bytes) (omega arith) l ∙ map-top (word_in bytes) (k - d) d k j (omega arith) l

  section-of-map : (d : ℕ) → d ≤ k → count_in bytes d ≡ count d → section (depth_words k d (map_of k bytes)) ≡ part (start d) (4 + 2 * count d) bytes
  unfolding section count_in word_in
  section-of-map d le e =
      let ws = depth_words k d (map_of k bytes) in
      let n = length-depth k d (map_of k bytes) le in
      let ends : start d + (4 + 2 * count d) ≤ length bytes = omega (arith, len, start-more d, start-le (suc d) (suc k) (omega arith)) in
      ap₂ ◌++◌
      (ap (bytes_of 4) (n ∙ sym e) ∙ bytes-read 4 (start d) bytes fits (omega arith))
      (words-read ws bytes (start d + 4) fits (omega arith) (λ j l. level-of-map d le j (omega arith)) ∙ ap (λ (m : ℕ). part (start d + 4) (2 * m) bytes) n)
      ∙ sym (part-add (start d) 4 (2 * count d) bytes)

  begun-of-map : counted k bytes ≡ true → (d : ℕ) → d ≤ suc k → begun k (map_of k bytes) d ≡ take (start d) bytes
  unfolding begun row start counted opening
  begun-of-map c zero h = refl
  begun-of-map c (suc d) h =
      begun-more k (map_of k bytes) d
      ∙ ap₂ ◌++◌ (begun-of-map c d (omega arith))
      (section-of-map d (omega arith) (eqb-true _ _ (all-at _ 0 (suc k) c d (omega arith) (omega arith))))
      ∙ sym (take-add (start d) (4 + 2 * count d) bytes)

  -- it is those bytes
  pub image-map : counted k bytes ≡ true → image k (map_of k bytes) ≡ bytes
  unfolding image begun
  image-map c = begun-of-map c (suc k) (omega arith) ∙ take_all (start (suc k)) bytes (omega arith)

  -- and the map has words of 16 bits
  pub fits-map : Fits (map_of k bytes)
  unfolding map_of word_in
  fits-map p = elim (dec_lt p (words k)) [
    | yes l ↦ let q = placed k p l in
        let a = start q.depth + 4 + 2 * q.index in
        let ends : a + 2 ≤ length bytes = omega (arith, len, start-more q.depth, start-le (suc q.depth) (suc k) (omega (arith, q.levels)), q.index-lt) in
        rw (sym (ap (λ (n : ℕ). get_or (map_of k bytes) n 0) q.is) ∙ map-top (word_in bytes) q.below q.depth k q.index q.levels q.index-lt ∙ number-two bytes a ends)
        (omega (arith, fits a, fits (a + 1)))
    | no l ↦ rw (get_or-eq_default (map_of k bytes) 0 {n = p} (omega (arith, length-map (word_in bytes) k 0))) (omega arith)
  ]
