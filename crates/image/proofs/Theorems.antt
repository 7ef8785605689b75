-- Writing and reading an image, by the definitions that the contracts cite: what is written is read back, what is read is written back,
-- every image of a true map is accepted, what is accepted is the image of one map, and a refusal leaves the target as lent.
-- Assumes nothing.
use mathlib.Core.Path.{◌≡◌, refl, sym, ap, ap₂, ◌∙◌}
use mathlib.Core.Bool.{true, not, ◌||◌}
use mathlib.Core.List.{List, [], ◌∷◌}
use Prim.Native.Nat.{ℕ, suc, ◌≤◌, ◌<◌}
use native.Mathlib.Omega.{arith}
use lib.Dec.{leb, ltb}
use lib.ListN.{length, take}
use borrow.Author.Tests.{leb-false, ltb-false, not-false}
use Rattle.words.specs.Sizes.{words, level_of}
use Rattle.words.specs.Tree.{Fits, true?}
use Rattle.bitmap.specs.Answer.{given, refused, among}
use Rattle.bitmap.specs.Calls.{answer}
use Rattle.bitmap.specs.Maps.{TrueMap}
use Rattle.words.proofs.Levels.{level-words, words-level}
use Rattle.words.proofs.Tests.{none-of}
use Rattle.bitmap.proofs.Refusals.{given-on, settle-no, settle-on, refused-among, given-among}
use Rattle.image.specs.Bytes.{Bytes, written}
use Rattle.words.specs.Place.{count}
use Rattle.image.specs.Image.{image, start, image_length, image_level}
use Rattle.image.specs.Reading.{word_in, counted, map_of, Accepted}
use Rattle.image.specs.Calls.{write_map, write_says, write_after, write_refusals, read_says, read_after, read_refusals}
use Rattle.image.proofs.Numbers.{take-written}
use Rattle.image.proofs.Starts.{level-length, length-level}
use Rattle.image.proofs.InDepth.{length-map}
use Rattle.image.proofs.ImageParts.{length-image}
use Rattle.image.proofs.RoundTrip.{counted-image, map-image, image-map, fits-map}
use Rattle.image.proofs.Calls.{read-done, write-done}

-- ---- the seven lengths

pub lengths : image_length 0 ∷ image_length 1 ∷ image_length 2 ∷ image_length 3 ∷ image_length 4 ∷ image_length 5 ∷ image_length 6 ∷ []
    ≡ 6 ∷ 42 ∷ 558 ∷ 8754 ∷ 139830 ∷ 2236986 ∷ 35791422 ∷ []
unfolding start count
lengths = refl

-- ---- a refusal leaves the target as lent

pub write-refused : (s t : List ℕ) (n : ℕ) → write_says s t ≡ refused n → write_after s t ≡ t
write-refused s t n e = sym (settle-no (write_says s t) n t (λ _. written 0 (image (level_of (length s)) s) t) (sym e))

pub read-refused : (bytes t : List ℕ) (n : ℕ) → read_says bytes t ≡ refused n → read_after bytes t ≡ t
read-refused bytes t n e = sym (settle-no (read_says bytes t) n t (λ _. written 0 (map_of (image_level (length bytes)) bytes) t) (sym e))

-- ---- and it is one of the call's refusals

pub write-refusals : (s t : List ℕ) (n : ℕ) → write_says s t ≡ refused n → among n write_refusals ≡ true
unfolding answer
write-refusals s t n =
    let k = level_of (length s) in
    let size = image_length k in
    refused-among n write_refusals 1 (leb 7 k) _ refl
    (refused-among n write_refusals 7 (not (true? k s)) _ refl
    (refused-among n write_refusals 9 (ltb (length t) size) (given size) refl (given-among n write_refusals size)))

pub read-refusals : (bytes t : List ℕ) (n : ℕ) → read_says bytes t ≡ refused n → among n read_refusals ≡ true
read-refusals bytes t n =
    let k = image_level (length bytes) in
    refused-among n read_refusals 8 (leb 7 k || not (counted k bytes)) _ refl
    (refused-among n read_refusals 9 (ltb (length t) (words k)) _ refl
    (refused-among n read_refusals 7 (not (true? k (map_of k bytes))) (given (suc k)) refl (given-among n read_refusals (suc k))))

-- ---- what an answer that is no refusal tells

given-one : {v w : ℕ} → given v ≡ given w → v ≡ w
given-one e = cc

-- bytes were read as an image of level k
record WasRead (bytes t : List ℕ) (n k : ℕ) : Type 0 where
  level : k < 7
  sized : length bytes ≡ image_length k
  counts : counted k bytes ≡ true
  room : words k ≤ length t
  truth : true? k (map_of k bytes) ≡ true
  after : read_after bytes t ≡ written 0 (map_of k bytes) t

was-read : (bytes t : List ℕ) (n : ℕ) → read_says bytes t ≡ given n → WasRead bytes t n (image_level (length bytes))
was-read bytes t n e =
    let k = image_level (length bytes) in
    let p = given-on n 8 (leb 7 k || not (counted k bytes)) _ (sym e) in
    let q = none-of (leb 7 k) (not (counted k bytes)) p.0 in
    let r = given-on n 9 (ltb (length t) (words k)) _ p.1 in
    let u = given-on n 7 (not (true? k (map_of k bytes))) _ r.1 in
    let level = leb-false 7 k q.0 in
    record {
      level = level;
      sized = sym (length-level (length bytes) level);
      counts = not-false _ q.1;
      room = ltb-false (length t) (words k) r.0;
      truth = not-false _ u.0;
      after = sym (settle-on (read_says bytes t) n t (λ _. written 0 (map_of k bytes) t) (sym e));
    }

-- a store was written as a map of level k
record WasWritten (s b : List ℕ) (n k : ℕ) : Type 0 where
  level : k < 7
  sized : length s ≡ words k
  truth : true? k s ≡ true
  ends : image_length k ≡ n
  after : write_after s b ≡ written 0 (image k s) b

was-written : (s b : List ℕ) (n : ℕ) → write_says s b ≡ given n → WasWritten s b n (level_of (length s))
unfolding answer
was-written s b n e =
    let k = level_of (length s) in
    let p = given-on n 1 (leb 7 k) (write_map b k s) (sym e) in
    let q = given-on n 7 (not (true? k s)) _ p.1 in
    let r = given-on n 9 (ltb (length b) (image_length k)) (given (image_length k)) q.1 in
    let level = leb-false 7 k p.0 in
    record {
      level = level;
      sized = sym (words-level (length s) level);
      truth = not-false _ q.0;
      ends = given-one (sym r.1);
      after = sym (settle-on (write_says s b) n b (λ _. written 0 (image k s) b) (sym e));
    }

-- ---- the image of a true map is accepted, and gives the map

pub image-read : (k : ℕ) (s t : List ℕ) → k < 7 → TrueMap k s → length s ≤ length t
    → (read_says (image k s) t ≡ given (suc k)) × (read_after (image k s) t ≡ written 0 s t)
image-read k s t lt m room =
    let back = map-image k s m.sized m.fits in
    let level = sym (ap image_level (length-image k s) ∙ level-length k lt) in
    let done = read-done (image k s) t k level lt (counted-image k s (omega arith)) (omega (arith, m.sized)) (ap (true? k) back ∙ m.truth) in
    (done.0, done.1 ∙ ap (λ (x : List ℕ). written 0 x t) back)

-- ---- what is accepted is the image of a true map, and of no other

pub accepted : (bytes t : List ℕ) (n : ℕ) → Bytes bytes → read_says bytes t ≡ given n
    → Accepted bytes (image_level (length bytes)) (map_of (image_level (length bytes)) bytes)
unfolding map_of
accepted bytes t n f e =
    let k = image_level (length bytes) in
    let w = was-read bytes t n e in
    record {
      level = w.level;
      map = record { sized = length-map (word_in bytes) k 0; fits = fits-map k bytes w.sized f; truth = w.truth };
      is = image-map k bytes w.sized f w.counts;
      only = λ k' s' lt m h.
          let same : k' ≡ k = sym (level-length k' lt) ∙ ap image_level (sym (length-image k' s') ∙ ap length h) in
          (same, sym (map-image k' s' m.sized m.fits) ∙ ap₂ map_of same h);
    }

-- ---- writing, and then reading what was written

pub write-read : (s b t : List ℕ) (n : ℕ) → Fits s → write_says s b ≡ given n → length s ≤ length t
    → (read_says (take n (write_after s b)) t ≡ given (suc (level_of (length s)))) × (read_after (take n (write_after s b)) t ≡ written 0 s t)
write-read s b t n f e room =
    let k = level_of (length s) in
    let w = was-written s b n e in
    let is : take n (write_after s b) ≡ image k s = ap (take n) w.after ∙ take-written n (image k s) b (length-image k s ∙ w.ends) in
    let done = image-read k s t w.level (record { sized = w.sized; fits = f; truth = w.truth }) room in
    (ap (λ (x : List ℕ). read_says x t) is ∙ done.0, ap (λ (x : List ℕ). read_after x t) is ∙ done.1)

-- ---- reading, and then writing what was read

pub read-write : (bytes t b : List ℕ) (n : ℕ) → Bytes bytes → read_says bytes t ≡ given n → length bytes ≤ length b
    → let s = take (words (image_level (length bytes))) (read_after bytes t) in
    (write_says s b ≡ given (length bytes)) × (write_after s b ≡ written 0 bytes b)
unfolding map_of
read-write bytes t b n f e room =
    let k = image_level (length bytes) in
    let m = map_of k bytes in
    let w = was-read bytes t n e in
    let size : length m ≡ words k = length-map (word_in bytes) k 0 in
    let is : take (words k) (read_after bytes t) ≡ m = ap (take (words k)) w.after ∙ take-written (words k) m t size in
    let level : k ≡ level_of (length m) = sym (ap level_of size ∙ level-words k w.level) in
    let done = write-done m b k level w.level w.truth (omega (arith, w.sized)) in (
      ap (λ (x : List ℕ). write_says x b) is ∙ done.0 ∙ ap given (sym w.sized),
      ap (λ (x : List ℕ). write_after x b) is ∙ done.1 ∙ ap (λ (x : List ℕ). written 0 x b) (image-map k bytes w.sized f w.counts),
    )
