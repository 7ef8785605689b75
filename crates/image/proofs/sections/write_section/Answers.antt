-- `image::sections::write_section` meets its contract. The loop's invariant: the first j words stand after the count. Its measure is what is
-- left of the words. Assumes nothing.
use mathlib.Core.Path.{◌≡◌, refl, sym, ap, ◌∙◌}
use Prim.Native.Nat.{ℕ, suc, ◌+◌, ◌-◌, ◌*◌, ◌<◌, ◌≤◌}
use lib.ListN.{length, get_or}
use Rattle.image.specs.Bytes.{word_bytes, written}
use Rattle.words.specs.Place.{count}
use Rattle.image.specs.Depths.{depth_words}
use Rattle.image.specs.Image.{section}
use Rattle.image.proofs.Numbers.{written-none}
use Rattle.image.proofs.Starts.{start-more, start-small}
use Rattle.image.proofs.InDepth.{length-depth, depth-at}
use Rattle.image.proofs.ImageParts.{word-written, section-written}
use native.Mathlib.Omega.{arith}
use Rattle.image.proofs.sections.write_section.Goals as goal

pub put_count-requires : goal.put_count-requires
put_count-requires c = (omega (arith, start-more c.args.d), omega arith)

pub loop-j-init : goal.loop-j-init
unfolding word_bytes
loop-j-init c = (omega arith, refl, sym (written-none _ _))

pub put_word-requires : goal.put_word-requires
put_word-requires c =
    let d = c.args.d in
    let a = c.start_of-from.result + 4 in
    let inside : c.loop-j.j < count d = omega arith in
    let ends : a + 2 * count d ≤ length c.loop-j.target = omega (arith, c.requires, start-more d, c.loop-j.invariant.1) in
    let small : a + 2 * count d ≤ 35791422 = omega (arith, start-more d, start-small (suc d) (omega (arith, c.requires))) in
    omega arith

-- a turn writes one of the words of the depth, and all of them fit
pub loop-j-preserved : goal.loop-j-preserved
loop-j-preserved c =
    let d = c.args.d in
    let a = c.start_of-from.result + 4 in
    let inside : c.loop-j.j < count d = omega arith in
    let ends : a + 2 * count d ≤ length c.loop-j.target = omega (arith, c.requires, start-more d, c.loop-j.invariant.1) in
    let small : a + 2 * count d ≤ 35791422 = omega (arith, start-more d, start-small (suc d) (omega (arith, c.requires))) in
    let s = c.args.s.now in
    let l = c.loop-j in
    let ws = depth_words c.args.k d s in
    let n = length-depth c.args.k d s c.requires.1 in
    let read : get_or s c.word_place.result 0 ≡ get_or ws l.j 0 =
    ap (λ (p : ℕ). get_or s p 0) c.word_place.ensures.0
    ∙ sym (depth-at (c.args.k - d) d c.args.k l.j s (omega (arith, c.requires)) inside) in (
      omega arith,
      c.put_word.auto.target ∙ l.invariant.1,
      c.put_word.ensures
          ∙ word-written a l.j ws c.put_count.new.target l.target _ (omega (arith, n)) (omega (arith, l.invariant.1)) l.invariant.2 read,
    )

pub returns : goal.returns
returns c =
    let n = c.count_of-n in
    let from = c.start_of-from in
    let ws = depth_words c.args.k c.args.d c.args.s.now in
    c.loop-j.invariant.2
    ∙ section-written from.result n.result c.loop-j.j ws c.args.target.now _ (omega arith)
    (n.ensures.0 ∙ sym (length-depth c.args.k c.args.d c.args.s.now c.requires.1))
    c.put_count.ensures (omega (arith, c.requires, from.ensures, start-more c.args.d))
    ∙ ap (λ (x : ℕ). written x (section ws) c.args.target.now) from.ensures.0
