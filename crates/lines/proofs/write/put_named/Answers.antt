-- `lines::write::put_named` meets its contract. Assumes nothing.
use Rattle.std.proofs.Common.{ap, ◌∙◌, ℕ, List, [], ◌∷◌, ◌++◌, append_assoc, length-append, arith}
use Rattle.lines.specs.Number.{decimal}
use Rattle.lines.specs.Session.{renewed}
use Rattle.lines.proofs.Puts.{written-byte, written-behind}
use Rattle.lines.proofs.write.put_named.Goals as goal

pub returns-clause-out_after : goal.returns-clause-out_after
returns-clause-out_after c =
    let a = c.args in
    let p = c.put_text-start in
    let d = c.put_digits-count in
    let both = written-behind a.out.now a.name.now (decimal a.n) p.ensures.out_after p.ensures.value d.ensures.out_after in
    written-byte a.out.now (a.name.now ++ decimal a.n) 10 (omega (arith, length-append a.name.now (decimal a.n), length-append a.name.now (decimal a.n ++ (10 ∷ [])), length-append (decimal a.n) (10 ∷ []), c.requires)) both (omega (arith, p.ensures.value, d.ensures.value, length-append a.name.now (decimal a.n)))
    ∙ ap (λ (x : List ℕ). renewed x a.out.now) (append_assoc a.name.now (decimal a.n) (10 ∷ []))
