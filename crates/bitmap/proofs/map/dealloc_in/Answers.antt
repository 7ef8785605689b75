-- `bitmap::map::dealloc_in` meets its contract: what the give-back found says whether it is refused. Assumes nothing.
use Rattle.std.proofs.Common.{refl, rules, arith}
use Rattle.words.specs.Tree.{Fits}
use Rattle.bitmap.proofs.GiveOne.{give-free, give-taken}
use Rattle.bitmap.proofs.map.dealloc_in.Goals as goal

pub returns-in-None : goal.returns-in-None
returns-in-None c =
    let fits : Fits c.args.s.now = λ i. search rules in
    let found = c.in-None.ensures in
    let both = give-free _ _ _ (omega arith) c.requires.1 fits found.value found.s_after refl in
    record { result_value = both.0; s_after = both.1 }

pub returns-in-Some : goal.returns-in-Some
returns-in-Some c =
    let fits : Fits c.args.s.now = λ i. search rules in
    let found = c.in-Some.ensures in
    let both = give-taken _ _ _ (omega arith) c.requires.1 fits found.value found.s_after (λ e. cc e) in
    record { result_value = both.0; s_after = both.1 }
