-- `image::write` meets its contract: each answer by the tests that lead to it. Assumes nothing.
use Rattle.std.proofs.Common.{ap, ◌∙◌, rules}
use Rattle.std.specs.Prelude.{ok_or}
use Rattle.bitmap.specs.declared.refusal.Refusal.TheVariants.{WordCount}
use Rattle.bitmap.proofs.Stores.{none-answer}
use Rattle.image.specs.Calls.{write_map}
use Rattle.image.proofs.Calls.{stored}
use Rattle.image.proofs.write.Goals as goal

pub returns-in_err-k : goal.returns-in_err-k
returns-in_err-k c =
    let no = none-answer _ _ (c.in_err-k.ensures.value ∙ ap (λ r. ok_or r WordCount) c.level_of.ensures) (write_map c.args.target.now) in
    record { result_value = search rules; target_after = search rules }

pub returns-in_err-check : goal.returns-in_err-check
returns-in_err-check c =
    let m = stored c.args.store.now c.args.target.now _ c.in_ok-k.ensures.value c.level_of.ensures in
    absurd (m.told-all c.in_err-check.ensures)

pub returns-then-not-branch : goal.returns-then-not-branch
returns-then-not-branch c =
    let m = stored c.args.store.now c.args.target.now _ c.in_ok-k.ensures.value c.level_of.ensures in
    let truth = m.checked _ c.in_ok-check.ensures in
    record { result_value = search rules; target_after = search rules }

pub returns-then-target-n : goal.returns-then-target-n
returns-then-target-n c =
    let m = stored c.args.store.now c.args.target.now _ c.in_ok-k.ensures.value c.level_of.ensures in
    let truth = m.checked _ c.in_ok-check.ensures in
    record { result_value = search rules; target_after = search rules }

pub write_all-requires : goal.write_all-requires
write_all-requires c =
    let m = stored c.args.store.now c.args.target.now _ c.in_ok-k.ensures.value c.level_of.ensures in
    search rules

pub returns : goal.returns
returns c =
    let m = stored c.args.store.now c.args.target.now _ c.in_ok-k.ensures.value c.level_of.ensures in
    let truth = m.checked _ c.in_ok-check.ensures in
    record { result_value = search rules; target_after = search rules }
