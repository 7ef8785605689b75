-- `numbers::number_behind`: the part that nth gives of those between the spaces. Assumes nothing.
use Rattle.std.proofs.Common.{◌≡◌, sym, ap, ◌∙◌, ◌==◌, rules, slice_get}
use Rattle.std.specs.List.{slice_split}
use Rattle.std.specs.Option.{option_map}
use Rattle.std.proofs.lemmas.Iterator.Consumers.{nth_from_yields_List}
use Rattle.std.proofs.lemmas.Iterator.Splits.{YieldsList-from_slice_split}
use Rattle.numbers.specs.Numbers.{number_of}
use Rattle.numbers.proofs.number_behind.Goals as goal

pub returns-in-Some : goal.returns-in-Some
returns-in-Some c =
    let found : option_map (λ x. x.now) c.nth.result ≡ slice_get (slice_split (λ b. b == 32) c.args.line.now) c.args.spaces =
    nth_from_yields_List _ _ _ c.nth.ensures.ran (YieldsList-from_slice_split _ _ _ c.split.ensures.rest c.split.ensures.done c.split.ensures.closure (λ x b q k. search rules)) in
    c.number.ensures ∙ ap number_of (ap (option_map (λ x. x.now)) (sym c.in-Some.is) ∙ found)

pub returns-in-None : goal.returns-in-None
returns-in-None c =
    let found : option_map (λ x. x.now) c.nth.result ≡ slice_get (slice_split (λ b. b == 32) c.args.line.now) c.args.spaces =
    nth_from_yields_List _ _ _ c.nth.ensures.ran (YieldsList-from_slice_split _ _ _ c.split.ensures.rest c.split.ensures.done c.split.ensures.closure (λ x b q k. search rules)) in
    ap number_of (ap (option_map (λ x. x.now)) (sym c.in-None.is) ∙ found)
