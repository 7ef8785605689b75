-- `image::sections::write_all` meets its contract. The loop's invariant: the sections before d are written. Its measure is what is left of the
-- sections. Assumes nothing.
use mathlib.Core.Path.{refl, sym, ◌∙◌}
use Prim.Native.Nat.{suc}
use Rattle.image.proofs.Starts.{start-le}
use Rattle.image.proofs.ImageParts.{begun-written, image-written, none-written}
use native.Mathlib.Omega.{arith}
use Rattle.image.proofs.sections.write_all.Goals as goal

pub loop-d-init : goal.loop-d-init
loop-d-init c = (omega arith, refl, sym (none-written _ _ _))

pub write_section-requires : goal.write_section-requires
write_section-requires c =
    let l = c.loop-d in
    (c.requires.0, omega arith, c.requires.1, omega (arith, c.requires.2, l.invariant.1, start-le (suc l.d) (suc c.args.k) (omega arith)))

pub loop-d-preserved : goal.loop-d-preserved
loop-d-preserved c =
    let l = c.loop-d in (
      omega arith,
      c.write_section.auto.target ∙ l.invariant.1,
      c.write_section.ensures
          ∙ begun-written c.args.k c.args.s.now c.args.target.now l.target l.d (omega arith)
          (omega (arith, c.requires.2, start-le l.d (suc c.args.k) (omega arith))) l.invariant.2,
    )

pub returns : goal.returns
returns c = image-written _ _ _ _ _ (omega arith) c.loop-d.invariant.2
